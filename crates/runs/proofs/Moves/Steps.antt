-- Every accepted step's own store is one of the moves, and every slot of a sweep or a crash one of the turns.
-- The idea: the checks that an accepted step has passed are what its move asks for; that a round's message never comes to home is a clause of the time rule.
-- Assumes nothing.
use Rattle.std.specs.Prelude.{ℕ, ◌+◌, ◌%◌, ◌<◌, ◌≤◌, ◌≡◌, ◌≢◌, Bool, false, not, ◌&&◌, ◌||◌, eqb, leb}
use Rattle.std.proofs.Common.{arith, sym, ap, ◌∙◌, subst, ⊎_elim, inl, inr, true≢false, leb-false, eqb-true}
use Rattle.std.proofs.Math.Path.{refl}
use Rattle.std.proofs.Math.Bool.{true}
use Rattle.std.proofs.lemmas.Bool.{false≢true}
use Rattle.rules.specs.declared.looking.MailAt.{MailAt}
use Rattle.rules.specs.declared.looking.Trip.{Trip}
use Rattle.rules.specs.Loops.{one_if}
use Rattle.rules.specs.LoopsLaws.{either, cond_keeps, and_left, and_right, or_left, or_right, not_false, not_true}
use Rattle.rules.specs.Tables.{site_at, passage_at, visit_at, message_at, no_message, slot_of}
use Rattle.rules.specs.Ranges.{in_range}
use Rattle.rules.specs.Answers.{is_accepted, settle_of}
use Rattle.rules.specs.AnswersLaws.{Fine, accepted_fine, settle_accepted}
use Rattle.rules.specs.Checks.{bad_handle, bad_times}
use Rattle.rules.specs.Parts.{is_free, is_active, is_running, is_aborted, is_phase_one, is_empty, largest_quiesce, told_of, asked_visit, asks_life, tells_life, plain_message, answer_message}
use Rattle.rules.specs.Stations.{tick_of, tick_done, sweep_of, sweep_done, is_swept, swept_slot, crash_of, crash_done, loses_home, crashed_slot, recover_of, recover_done}
use Rattle.rules.specs.Passages.{begin_of, begin_done, abort_of, abort_done, retire_of, retire_done}
use Rattle.rules.specs.Rounds.{open_checks, open_of, open_done, refresh_of, terminate_of, prepare_of, ask_of, ask_done, close_of, close_done, tell_checks, tell_of, tell_done, tell_body}
use Rattle.rules.specs.Calls.{call_site, call_of, invoke_checks, mail_clock, called_visit, call_checks, reply_to, call_done, reply_done, round_checks, at_home, phase_one_done, phase_two_done, answer_checks, answer_done, invoke_of, invoke_done, empty_of, deliver_call_of, deliver_phase_one_of, deliver_phase_two_of, deliver_answer_of, deliver_reply_of, deliver_body_of, drop_of, drop_done}
use Rattle.rules.specs.Machine.{looks_home, look_of, places_of, seen_of, decide_of, found_of, slot_places, trip_places, turn_seen, is_message_of}
use Rattle.runs.specs.Types.{Kind, Status, Call, Asked, Told, Body, Message, Tables, Step, Places, Seen, Decision}
use Rattle.runs.specs.Walk.Says.{is_prepare, tells_prepare, carries_commit}
use Rattle.runs.specs.Walk.Seen.{places_at, seen_at}
use Rattle.runs.specs.Times.View.{Ledger, mail_of, view_of}
use Rattle.runs.specs.Times.Clauses.{call_to, Holds}
use Rattle.runs.proofs.Fits.Shared.{phase_in_range}
use Rattle.runs.proofs.Fits.Life.{free_says}
use Rattle.runs.proofs.Fits.Close.{one_says}
use Rattle.runs.proofs.Fits.Mail.{two_says}
use Rattle.runs.proofs.Fits.Deliver.{deliver_at, letter_seen, letter_body, letter_here, letter_away, deliver_own, deliver_here, deliver_in}
use Rattle.runs.specs.Moves.Definitions.{is_answer, PlainMail, Uncalled, OpenedFrom, Move, Turn}

-- what a store at these places does to its own slot
abbrev pub MoveAt : Step → Tables → Places → Seen → Type 0
MoveAt step t at left =
    Move step
    (view_of t at.slot)
    at.site
    at.message
    left.passage
    left.visit
    left.site.clock
    (mail_of at.slot left.message)

-- an accepted decision leaves what it decided
move_settled :
    {step : Step} (t : Tables) (at : Places) (d : Decision) → is_accepted d.answer ≡ true → MoveAt step t at d.left
    → MoveAt step t at (settle_of d (seen_of t at)).left
move_settled {step} t at d e x = subst (MoveAt step t at) (sym (settle_accepted d (seen_of t at) e)) x

-- the same of a step that decides by what it sees
step_settled :
    (t : Tables) (step : Step) (done : Seen → Decision) → is_accepted (done (seen_at t step)).answer ≡ true
    → MoveAt step t (places_at t step) (done (seen_at t step)).left
    → MoveAt step t (places_at t step) (settle_of (done (seen_at t step)) (seen_at t step)).left
step_settled t step done = move_settled t (places_at t step) (done (seen_at t step))

-- ---- what the checks say

active_says : (s : Status) → is_active s ≡ true → s ≡ Status.Active
active_says Status.Free e = absurd (false≢true e)
active_says Status.Active e = refl
active_says Status.Committing e = absurd (false≢true e)
active_says Status.Aborted e = absurd (false≢true e)
active_says Status.Committed e = absurd (false≢true e)

aborted_says : (s : Status) → is_aborted s ≡ true → s ≡ Status.Aborted
aborted_says Status.Free e = absurd (false≢true e)
aborted_says Status.Active e = absurd (false≢true e)
aborted_says Status.Committing e = absurd (false≢true e)
aborted_says Status.Aborted e = refl
aborted_says Status.Committed e = absurd (false≢true e)

empty_plain : PlainMail no_message
empty_plain = record { commit = refl; answer = refl }

empty_uncalled : Uncalled no_message
empty_uncalled = record { plain = empty_plain; none = λ d. refl }

-- a slot sees a message as it is, or sees none
mail_has : (P : Message → Type 0) (p : ℕ) (m : Message) → P m → P no_message → P (mail_of p m)
mail_has P p m x y = cond_keeps P (is_message_of p m) m no_message x y

-- what is no call is none as its slot sees it
seen_uncalled : (p : ℕ) (m : Message) → Uncalled m → Uncalled (mail_of p m)
seen_uncalled p m x = mail_has Uncalled p m x empty_uncalled

-- ---- steps that are no delivery

module _ (t : Tables) (l : Ledger) where
  -- home is a site
  home_here : (p : ℕ) → Holds (view_of t p) l → (passage_at t p).home % 8 ≡ (passage_at t p).home
  home_here p h = let i : (passage_at t p).home < 8 = h.passage.home in omega arith

  -- only the site's clock moves
  site_move :
      (step : Step) (done : Seen → Decision) → is_accepted (done (seen_at t step)).answer ≡ true
      → (done (seen_at t step)).left.passage ≡ (seen_at t step).passage
      → (done (seen_at t step)).left.visit ≡ (seen_at t step).visit
      → (done (seen_at t step)).left.message ≡ (seen_at t step).message
      → (seen_at t step).site.clock ≤ (done (seen_at t step)).left.site.clock
      → MoveAt step t (places_at t step) (settle_of (done (seen_at t step)) (seen_at t step)).left
  site_move step done e p v m i =
      step_settled t step done e
      (Move.Rests p v i (inl (ap (mail_of (places_at t step).slot) m)))

  -- a question goes out, or a message is lost
  plain_move :
      (step : Step) (done : Seen → Decision) → is_accepted (done (seen_at t step)).answer ≡ true
      → (done (seen_at t step)).left.passage ≡ (seen_at t step).passage
      → (done (seen_at t step)).left.visit ≡ (seen_at t step).visit
      → (seen_at t step).site.clock ≤ (done (seen_at t step)).left.site.clock
      → Uncalled (done (seen_at t step)).left.message
      → MoveAt step t (places_at t step) (settle_of (done (seen_at t step)) (seen_at t step)).left
  plain_move step done e p v i m =
      step_settled t step done e
      (Move.Rests p v i (inr (seen_uncalled (places_at t step).slot (done (seen_at t step)).left.message m)))

  -- what a round of this kind tells is a commit where the kind is prepare
  told_prepare : (kind : Kind) (m : ℕ) → tells_prepare (told_of kind m) ≡ true → is_prepare kind ≡ true
  told_prepare Kind.None m e = e
  told_prepare (Kind.Refresh q r) m e = e
  told_prepare Kind.Terminate m e = e
  told_prepare Kind.Prepare m e = e

  open_move :
      {step : Step} (h : ℕ) (kind : Kind) (bad wrong : Bool) → Holds (view_of t (h % 16)) l
      → Fine (open_checks h bad wrong (seen_of t (places_of t (looks_home MailAt.Nowhere h))))
      → OpenedFrom kind (passage_at t (h % 16)).status
      → MoveAt step t (places_of t (looks_home MailAt.Nowhere h)) (open_done h kind bad wrong (seen_of t (places_of t (looks_home MailAt.Nowhere h)))).left
  unfolding places_of
  open_move h kind bad wrong k fine from =
      Move.Opens kind from (home_here (h % 16) k) (not_false _ fine.there) refl refl (omega arith) refl

  invoke_move :
      (h site write object value place : ℕ) → Fine (invoke_checks h site write object value (seen_at t (Step.Invoke h site write object value)))
      → MoveAt
      (Step.Invoke h site write object value)
      t
      (places_at t (Step.Invoke h site write object value))
      (invoke_done h site write object value place (seen_at t (Step.Invoke h site write object value))).left
  unfolding places_of
  invoke_move h site write object value place fine =
      Move.Sends
      (call_site object)
      (omega arith)
      refl
      (not_false _ fine.there)
      refl
      (omega arith)
      (mail_has PlainMail (h % 16) call (record { commit = refl; answer = refl }) empty_plain)
      (mail_has (λ (x : Message). (e : ℕ) → call_to e x ≤ one_if (eqb (call_site object) e)) (h % 16) call (λ e. omega arith) (λ e. omega arith))
    where
      call : Message
      call = plain_message (Body.Call (call_of write object value (visit_at t (site % 8) (h % 16)))) site (call_site object) h ((site_at t (site % 8)).clock + 1)

  tell_move :
      (h site place : ℕ) → Holds (view_of t (places_at t (Step.Tell h site)).slot) l → Fine (tell_checks h site (seen_at t (Step.Tell h site)))
      → MoveAt (Step.Tell h site) t (places_at t (Step.Tell h site)) (tell_done h site place (seen_at t (Step.Tell h site))).left
  unfolding places_of
  tell_move h site place k fine =
      Move.Tells
      refl
      refl
      (omega arith)
      (home_here (h % 16) k)
      (two_says _ (not_false _ (or_left _ _ (or_left _ _ fine.state))))
      (mail_has (λ (x : Message). is_answer x.body ≡ false) (h % 16) word refl refl)
      (mail_has
      (λ (x : Message). carries_commit x.body ≡ true → (is_prepare (passage_at t (h % 16)).round.kind ≡ true) × (x.stamp ≡ word.stamp))
      (h % 16)
      word
      (λ e. (told_prepare (passage_at t (h % 16)).round.kind (largest_quiesce (passage_at t (h % 16)).round) e, refl))
      (λ e. absurd (false≢true e)))
      (mail_has (λ (x : Message). (d : ℕ) → call_to d x ≡ 0) (h % 16) word (λ d. refl) (λ d. refl))
    where
      word : Message
      word = plain_message (tell_body (passage_at t (h % 16)).round) (passage_at t (h % 16)).home site h ((site_at t ((passage_at t (h % 16)).home % 8)).clock + 1)

-- ---- deliveries: the message's own slot and its destination

module _ (t : Tables) (at : Places) (m : ℕ) (l : Ledger) (own : slot_of (message_at t at.message).handle ≡ at.slot)
    (here : at.site ≡ (message_at t at.message).destination) (kin : at.message < 32) (h : Holds (view_of t at.slot) l) where
  abbrev seen : Seen
  seen = seen_of t at

  abbrev letter : Message
  letter = message_at t at.message

  -- the message as its slot sees it
  abbrev mine : (b : Body) → letter.body ≡ b → is_empty b ≡ false → ((view_of t at.slot).mail at.message).body ≡ b
  mine b = letter_body t at m own here kin b

  call_move : (c : Call) → letter.body ≡ Body.Call c → Fine (call_checks m c seen) → MoveAt (Step.Deliver m) t at (call_done m c seen).left
  call_move c body fine =
      Move.Receives
      c
      (mine (Body.Call c) body refl)
      (letter_here t at m own here kin (Body.Call c) body refl)
      refl
      refl
      (leb-false _ _ (or_left _ (called_visit c (visit_at t at.site at.slot)).dead fine.early))
      (omega arith)
      (seen_uncalled at.slot (reply_to c (mail_clock seen) seen) (record { plain = record { commit = refl; answer = refl }; none = λ d. refl }))

  -- a phase 1 or phase 2 message goes away from home
  not_home :
      (b : Body) (body : letter.body ≡ b) (full : is_empty b ≡ false)
      → ((view_of t at.slot).mail at.message).destination ≢ (passage_at t at.slot).home → at_home seen ≡ false
  not_home b body full = letter_away t at m own here kin b body full

  phase_one_move :
      (n : ℕ) (asked : Asked) → letter.body ≡ Body.PhaseOne n asked
      → Fine (round_checks m (asks_life asked) (leb n seen.visit.round) (mail_clock seen) seen)
      → MoveAt (Step.Deliver m) t at (phase_one_done m n asked seen).left
  phase_one_move n asked body fine =
      let away : at_home seen ≡ false =
      not_home (Body.PhaseOne n asked) body refl ((h.mail at.message).one n asked (mine (Body.PhaseOne n asked) body refl)).away in
      Move.Answers
      n
      asked
      (mine (Body.PhaseOne n asked) body refl)
      (rw away)
      (not_false _ fine.there)
      fine.early
      (leb-false _ _ fine.round)
      refl
      (omega arith)
      (rw away (mail_has (λ (x : Message). carries_commit x.body ≡ false) at.slot back refl refl))
      (rw away (mail_has
      (λ (x : Message).
      is_answer x.body ≡ true → (x.source ≡ at.site) × (x.destination ≡ (passage_at t at.slot).home) × (x.stamp ≡ mail_clock seen))
      at.slot
      back
      (λ e. (sym here, refl, refl))
      (λ e. absurd (false≢true e))))
      (rw away (mail_has (λ (x : Message). (d : ℕ) → call_to d x ≡ 0) at.slot back (λ d. refl) (λ d. refl)))
    where
      back : Message
      back =
          answer_message
          (asked_visit asked n (mail_clock seen) (visit_at t at.site at.slot))
          letter.destination
          (passage_at t at.slot).home
          letter.handle
          (mail_clock seen)

  phase_two_move :
      (n : ℕ) (told : Told) → letter.body ≡ Body.PhaseTwo n told
      → Fine (round_checks m (tells_life told) (not (eqb n seen.visit.round)) (mail_clock seen) seen)
      → MoveAt (Step.Deliver m) t at (phase_two_done m n told seen).left
  phase_two_move n told body fine =
      let away : at_home seen ≡ false =
      not_home (Body.PhaseTwo n told) body refl ((h.mail at.message).two n told (mine (Body.PhaseTwo n told) body refl)).0 in
      Move.Hears
      n
      told
      (mine (Body.PhaseTwo n told) body refl)
      (rw away)
      (not_false _ fine.there)
      refl
      (omega arith)
      refl

  answer_move :
      (n received q : ℕ) → letter.body ≡ Body.Answer n received q → Fine (answer_checks m n seen)
      → MoveAt (Step.Deliver m) t at (answer_done m n received q seen).left
  answer_move n received q body fine =
      let same : (view_of t at.slot).mail at.message ≡ letter = letter_seen t at m own here kin (Body.Answer n received q) body refl in
      Move.Keeps
      n
      received
      q
      (mine (Body.Answer n received q) body refl)
      (eqb-true _ _
      (not_false _
      (or_right (is_free (passage_at t at.slot).status || not (is_phase_one (passage_at t at.slot).round.phase)) _ fine.round)))
      (letter_here t at m own here kin (Body.Answer n received q) body refl)
      (rw same)
      refl
      (omega arith)
      (rw same (omega arith))
      refl

  reply_move : (value : ℕ) → MoveAt (Step.Deliver m) t at (reply_done m value seen).left
  reply_move value = Move.Rests refl refl (omega arith) (inr (seen_uncalled at.slot no_message empty_uncalled))

-- ---- every step

module _ (t : Tables) (range : in_range t ≡ true) (l : Ledger) where
  body_move :
      (m : ℕ) (b : Body) → (seen_of t (deliver_at t m)).message.body ≡ b → Holds (view_of t (deliver_at t m).slot) l
      → is_accepted (deliver_body_of b m (seen_of t (deliver_at t m))).answer ≡ true
      → MoveAt (Step.Deliver m) t (deliver_at t m) (deliver_body_of b m (seen_of t (deliver_at t m))).left
  unfolding deliver_body_of empty_of deliver_call_of deliver_phase_one_of deliver_phase_two_of deliver_answer_of deliver_reply_of
  body_move m Body.Empty e h y = absurd (true≢false (sym (ap is_empty e) ∙ (accepted_fine _ 0 y).found))
  body_move m (Body.Call c) e h y =
      move_settled t (deliver_at t m) (call_done m c (seen_of t (deliver_at t m))) y
      (call_move t (deliver_at t m) m l (deliver_own t m range) (deliver_here t m range) (deliver_in t m range) h c e (accepted_fine _ _ y))
  body_move m (Body.PhaseOne n asked) e h y =
      move_settled t (deliver_at t m) (phase_one_done m n asked (seen_of t (deliver_at t m))) y
      (phase_one_move t (deliver_at t m) m l (deliver_own t m range) (deliver_here t m range) (deliver_in t m range) h n asked e (accepted_fine _ _ y))
  body_move m (Body.PhaseTwo n told) e h y =
      move_settled t (deliver_at t m) (phase_two_done m n told (seen_of t (deliver_at t m))) y
      (phase_two_move t (deliver_at t m) m l (deliver_own t m range) (deliver_here t m range) (deliver_in t m range) h n told e (accepted_fine _ _ y))
  body_move m (Body.Answer n received q) e h y =
      move_settled t (deliver_at t m) (answer_done m n received q (seen_of t (deliver_at t m))) y
      (answer_move t (deliver_at t m) m l (deliver_own t m range) (deliver_here t m range) (deliver_in t m range) h n received q e (accepted_fine _ _ y))
  body_move m (Body.Reply value) e h y =
      move_settled t (deliver_at t m) (reply_done m value (seen_of t (deliver_at t m))) y
      (reply_move t (deliver_at t m) m l (deliver_own t m range) (deliver_here t m range) (deliver_in t m range) h value)

  pub move_of :
      (step : Step) → Holds (view_of t (places_at t step).slot) l
      → is_accepted (decide_of step (found_of t (places_at t step)) (seen_at t step)).answer ≡ true
      → MoveAt step t (places_at t step) (decide_of step (found_of t (places_at t step)) (seen_at t step)).left
  unfolding places_of decide_of tick_of sweep_of crash_of recover_of begin_of abort_of retire_of refresh_of terminate_of prepare_of open_of ask_of close_of tell_of invoke_of drop_of
  move_of (Step.Tick site n) h e = site_move t l (Step.Tick site n) (tick_done site n) e refl refl refl (omega arith)
  move_of (Step.Begin home slot q r) h e =
      step_settled t (Step.Begin home slot q r) (begin_done home slot q r) e
      (Move.Begins (free_says _ (not_false _ (accepted_fine _ _ e).state)) refl refl refl (omega arith) refl)
  move_of (Step.Invoke h site write object value) k e =
      step_settled t (Step.Invoke h site write object value) (invoke_done h site write object value _) e
      (invoke_move t l h site write object value (places_at t (Step.Invoke h site write object value)).message (accepted_fine _ _ e))
  move_of (Step.Refresh h q r) k e =
      step_settled t (Step.Refresh h q r) (λ seen. open_done h (Kind.Refresh q r) (bad_handle h || bad_times q r) (not (is_active seen.passage.status)) seen) e
      (open_move t l h (Kind.Refresh q r) _ _ k (accepted_fine _ _ e) (active_says _ (not_false _ (accepted_fine _ _ e).state)))
  move_of (Step.Terminate h) k e =
      step_settled t (Step.Terminate h) (λ seen. open_done h Kind.Terminate (bad_handle h) (not (is_aborted seen.passage.status)) seen) e
      (open_move t l h Kind.Terminate _ _ k (accepted_fine _ _ e) (aborted_says _ (not_false _ (accepted_fine _ _ e).state)))
  move_of (Step.Prepare h) k e =
      step_settled t (Step.Prepare h) (λ seen. open_done h Kind.Prepare (bad_handle h) (not (is_running seen.passage.status)) seen) e
      (open_move t l h Kind.Prepare _ _ k (accepted_fine _ _ e) (not_false _ (accepted_fine _ _ e).state))
  move_of (Step.Ask h site) k e =
      plain_move t l (Step.Ask h site) (ask_done h site _) e refl refl (omega arith)
      (record { plain = record { commit = refl; answer = refl }; none = λ d. refl })
  move_of (Step.Close h) k e =
      step_settled t (Step.Close h) (close_done h) e
      (Move.Closes
      (home_here t l (h % 16) k)
      (one_says _ (not_false _ (accepted_fine _ _ e).state))
      (not_false _ (accepted_fine _ _ e).closed)
      refl
      refl
      (omega arith)
      refl
      (phase_in_range t (look_of (Step.Close h)) range))
  move_of (Step.Tell h site) k e =
      step_settled t (Step.Tell h site) (tell_done h site _) e
      (tell_move t l h site (places_at t (Step.Tell h site)).message k (accepted_fine _ _ e))
  move_of (Step.Abort h) k e =
      step_settled t (Step.Abort h) (abort_done h) e
      (Move.Aborts (not_false _ (accepted_fine _ _ e).state) refl refl (omega arith) refl)
  move_of (Step.Deliver m) k e = body_move m (seen_of t (deliver_at t m)).message.body refl k e
  move_of (Step.Drop m) k e = plain_move t l (Step.Drop m) (drop_done m) e refl refl (omega arith) empty_uncalled
  move_of (Step.Sweep site) k e = site_move t l (Step.Sweep site) (sweep_done site) e refl refl refl (omega arith)
  move_of (Step.Crash site) k e = site_move t l (Step.Crash site) (crash_done site) e refl refl refl (omega arith)
  move_of (Step.Recover site) k e = site_move t l (Step.Recover site) (recover_done site) e refl refl refl (omega arith)
  move_of (Step.Retire h) k e = step_settled t (Step.Retire h) (retire_done h _) e (Move.Retires refl refl refl refl (omega arith))

-- ---- turns

abbrev pub TurnAt : Trip → Tables → Places → Seen → Type 0
TurnAt trip t at left = Turn (view_of t at.slot) at.site left.passage left.visit trip

pub turn_of_lem : (t : Tables) (trip : Trip) (slot : ℕ) → TurnAt trip t (trip_places trip slot) (turn_seen trip slot (seen_of t (trip_places trip slot)))
unfolding swept_slot crashed_slot
turn_of_lem t Trip.Nowhere slot = Turn.Stays _ refl refl
turn_of_lem t (Trip.Sweep site) slot =
    ⊎_elim
    (λ e.
    let both : ((visit_at t (site % 8) slot).there && not (visit_at t (site % 8) slot).prepared) ≡ true = and_left _ _ e in
    rw
    e
    (Turn.Sweeps
    site
    (is_active (passage_at t slot).status && eqb (passage_at t slot).home site)
    (λ b. and_left _ _ b)
    refl
    (and_left _ _ both)
    (not_true _ (and_right (visit_at t (site % 8) slot).there _ both))
    refl))
    (λ e. rw e (Turn.Stays _ refl refl))
    (either (is_swept (seen_of t (slot_places site slot))))
turn_of_lem t (Trip.Crash site) slot =
    Turn.Crashes
    site
    (loses_home site (passage_at t slot))
    (loses_home site (passage_at t slot) || not (visit_at t (site % 8) slot).prepared)
    (λ b. and_left _ _ b)
    refl
    (λ kept hits. not_true (visit_at t (site % 8) slot).prepared (rw kept at hits))
    refl
