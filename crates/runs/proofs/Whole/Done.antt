-- A commit did all that was sent: where a passage becomes committed, every call that it sent has been delivered, and did what its invoke said.
-- So the two halves of a pair are done, or the passage does not commit: a call that is dropped keeps every later commit round from closing.
-- The idea: a call waits as it was sent until it is delivered or dropped; a closed commit round has no call in flight, and none lost. Assumes nothing.
use Rattle.std.specs.Prelude.{ℕ, ◌+◌, ◌%◌, ◌≤◌, ◌<◌, ◌≡◌, ◌≢◌, true, false, List, [], ◌∷◌, ◌++◌}
use Rattle.std.proofs.Common.{arith, sym, ap, ◌∙◌, ⊎_elim, true≢false, append_assoc, ltb-false, eq-eqb}
use Rattle.std.proofs.Math.Path.{refl, subst}
use Rattle.rules.specs.Loops.{sum_up_to}
use Rattle.rules.specs.LoopsLaws.{either}
use Rattle.rules.specs.Tables.{passage_at, message_at, no_message, slot_of}
use Rattle.rules.specs.Answers.{is_accepted, answer_value}
use Rattle.rules.specs.AnswersLaws.{accepted_fine, settle_accepted}
use Rattle.rules.specs.Parts.{is_free, is_empty}
use Rattle.rules.specs.Calls.{drop_done, drop_of}
use Rattle.rules.specs.Machine.{look_of, places_of, decide_of, head_of, step_of}
use Rattle.rules.proofs.RangesLaws.{placed_places}
use Rattle.rules.specs.Runs.{Started, run_of, history_of}
use Rattle.runs.specs.Types.{Status, Call, Body, Message, Tables, Step, Places, Seen}
use Rattle.runs.specs.Walk.Says.{is_binding}
use Rattle.runs.specs.Walk.Put.{put}
use Rattle.runs.specs.Walk.Seen.{places_at, seen_at}
use Rattle.runs.proofs.Walk.Steps.{run_on}
use Rattle.runs.proofs.Walk.Sound.{Sound, sound_run, sound_step}
use Rattle.runs.specs.Times.View.{View, Ledger, view_of, ledger_noted}
use Rattle.runs.specs.Times.Clauses.{call_to, calls_to, Holds}
use Rattle.runs.proofs.Times.Store.{left_view, own_mail, own_body, noted_same}
use Rattle.runs.proofs.Times.Ledgers.{head_ledgers, ledgers_of}
use Rattle.runs.proofs.Fits.Life.{free_says}
use Rattle.runs.proofs.Kept.Touched.{sum_over_put}
use Rattle.runs.proofs.Kept.Closing.{call_places}
use Rattle.runs.proofs.Kept.Answered.{closing_no_call, closing_none_lost}
use Rattle.runs.specs.Orphans.Orphans.{is_retired}
use Rattle.runs.specs.Operations.Definitions.{SaysCall, TakenUp}
use Rattle.runs.proofs.Operations.Single.{decision_accepted, single_head}
use Rattle.runs.proofs.Operations.Invoked.{invoked_says}
use Rattle.runs.proofs.Operations.Mail.{delivered_as_sent}
use Rattle.runs.proofs.Operations.Waits.{mail_waits}
use Rattle.runs.proofs.Commits.Pledged.{Pledged, pledged_run, pledged_after_head}
use Rattle.runs.proofs.Commits.Since.{own_leads, Carried, not_retired, run_carried}
use Rattle.runs.proofs.Commits.Over.{NoWay, committed_by_closing}
use Rattle.runs.proofs.Whole.Lost.{Short, LostTo, lost_carries}
use Rattle.runs.specs.Whole.Definitions.{CallOf, DidAsSaid}

-- ---- a call is dropped

-- an accepted drop names one of the 32 message slots
drop_below : (t : Tables) (m : ℕ) → is_accepted (step_of t (Step.Drop m)).answer ≡ true → m ≤ 31
unfolding places_of decide_of drop_of
drop_below t m a = ltb-false 31 m (accepted_fine _ _ (decision_accepted t (Step.Drop m) a)).fields

module _ (t : Tables) (ls : ℕ → Ledger) (m : ℕ) (k : Pledged t ls) (call : Call) (body : (message_at t (m % 32)).body ≡ Body.Call call)
    (a : is_accepted (step_of t (Step.Drop m)).answer ≡ true) where
  abbrev At : Places
  At = places_at t (Step.Drop m)

  abbrev Saw : Seen
  Saw = seen_at t (Step.Drop m)

  abbrev Mine : View
  Mine = view_of t At.slot

  hold : Holds Mine (ls At.slot)
  hold = k.kept.slots At.slot (placed_places t (look_of (Step.Drop m))).slot

  -- the call is in flight
  flying : Mine.mail At.message ≡ message_at t (m % 32)
  unfolding places_of
  flying = own_mail At.slot (message_at t (m % 32)) (ap is_empty body) refl

  abbrev Dest : ℕ
  Dest = (message_at t (m % 32)).destination

  in_use : is_free Saw.passage.status ≡ false
  in_use =
      ⊎_elim
      (λ e.
      absurd
      (true≢false
      (ap is_empty (sym ((hold.free (free_says _ e)).mail At.message))
      ∙ ap (λ (x : Message). is_empty x.body) flying
      ∙ ap is_empty body)))
      (λ e. e)
      (either (is_free Saw.passage.status))

  -- without it, one is lost
  short_without : Short Dest (left_view Mine At.site At.message Saw.passage Saw.visit Saw.site.clock no_message) (ls At.slot)
  short_without =
      let b = hold.balance Dest in
      let one : call_to Dest (Mine.mail At.message) ≡ 1 = rw (flying, body, eq-eqb Dest Dest refl) in
      let s : sum_up_to (λ i. call_to Dest (put Mine.mail At.message no_message i)) 32 + call_to Dest (Mine.mail At.message)
      ≡ calls_to Mine Dest + call_to Dest no_message =
      sum_over_put (call_to Dest) Mine.mail At.message no_message 32 (placed_places t (look_of (Step.Drop m))).message in
      omega (arith, b)

  lost_left :
      LostTo
      Dest
      (left_view Mine At.site At.message Saw.passage Saw.visit Saw.site.clock no_message)
      (ledger_noted (ls At.slot) At.site (message_at t At.message).source Saw.visit)
  lost_left =
      record {
        used = in_use;
        short = rw (noted_same Mine (ls At.slot) At.site (message_at t At.message).source hold) short_without;
      }

  -- so after an accepted drop of a call one is lost
  lost_at_once : Carried (LostTo Dest) At.slot (step_of t (Step.Drop m)).tables
  unfolding head_of decide_of drop_of
  lost_at_once =
      let accepted = decision_accepted t (Step.Drop m) a in
      let is = settle_accepted (drop_done m Saw) Saw accepted in
      subst
      (Carried (LostTo Dest) At.slot)
      (sym (single_head t (Step.Drop m) refl a))
      (record {
        ledgers = head_ledgers t (Step.Drop m) ls;
        pledged = pledged_after_head t (Step.Drop m) ls k accepted;
        has =
            own_leads (LostTo Dest) t At _ k.kept.sound.sized (placed_places t (look_of (Step.Drop m))) ls (rw is in_use) (rw is lost_left);
      })

-- ---- and keeps its passage from committing

-- a passage of which a call was dropped does not become committed, until its slot is retired
pub no_commit_after_a_lost_call :
    {t₀ : Tables} → Started t₀ → (before : List Step) (m : ℕ) (between : List Step) (commit : Step) (p : ℕ) → CallOf (run_of t₀ before) p m
    → is_accepted (step_of (run_of t₀ before) (Step.Drop m)).answer ≡ true
    → is_retired p (history_of (run_of t₀ before) (Step.Drop m ∷ between)) ≡ false
    → (passage_at (run_of t₀ (before ++ Step.Drop m ∷ between)) p).status ≢ Status.Committed
    → (passage_at (step_of (run_of t₀ (before ++ Step.Drop m ∷ between)) commit).tables p).status ≢ Status.Committed
unfolding run_of places_of
no_commit_after_a_lost_call {t₀} fresh before m between commit p c dropped kept not_yet committed =
    let now = subst (Carried (LostTo dest) p) (sym (run_on t₀ before (Step.Drop m ∷ between)))
    (run_carried (LostTo dest) NoWay (lost_carries dest) p slot (step_of t (Step.Drop m)).tables between lost
    (not_retired p t (Step.Drop m) between kept).1) in
    let closes = committed_by_closing (run_of t₀ ss) now.ledgers commit p now.pledged slot not_yet committed in
    closing_none_lost (view_of (run_of t₀ ss) p) (now.ledgers p) (now.pledged.kept.slots p slot)
    closes.asks
    closes.closed
    (ap is_binding closes.kind)
    dest
    below
    now.has.short
  where
    t : Tables
    t = run_of t₀ before

    ss : List Step
    ss = before ++ Step.Drop m ∷ between

    slot : p < 16
    slot = subst (λ (q : ℕ). q < 16) c.own (omega arith)

    -- an accepted drop names one of the 32 slots
    mail_here : m % 32 ≡ m
    mail_here = let l : m ≤ 31 = drop_below t m dropped in omega arith

    dest : ℕ
    dest = (message_at t (m % 32)).destination

    body : (message_at t (m % 32)).body ≡ Body.Call c.call
    body = rw mail_here c.body

    own : slot_of (message_at t (m % 32)).handle ≡ p
    own = rw mail_here c.own

    below : dest < 8
    below =
        let k = pledged_run fresh before in
        let mine : (view_of t p).mail (m % 32) ≡ message_at t (m % 32) = own_mail p (message_at t (m % 32)) (ap is_empty body) own in
        rw mine at (call_places (view_of t p) (ledgers_of t₀ before p) (k.kept.slots p slot) (m % 32) c.call (ap (λ (x : Message). x.body) mine ∙ body)).1

    lost : Carried (LostTo dest) p (step_of t (Step.Drop m)).tables
    lost =
        subst (λ (q : ℕ). Carried (LostTo dest) q (step_of t (Step.Drop m)).tables) own
        (lost_at_once t (ledgers_of t₀ before) m (pledged_run fresh before) c.call body dropped)

-- ---- so what was sent was done

-- a slot that is not retired by a list of steps is not retired by its later part
retired_later :
    (p : ℕ) (t : Tables) (xs ys : List Step) → is_retired p (history_of t (xs ++ ys)) ≡ false → is_retired p (history_of (run_of t xs) ys) ≡ false
unfolding run_of
retired_later p t [] ys r = r
retired_later p t (s ∷ xs) ys r = retired_later p (step_of t s).tables xs ys (not_retired p t s (xs ++ ys) r).1

-- an accepted invoke of a passage that then, before its slot is retired, becomes committed:
-- before that its call was delivered, and what was done is what the invoke said
pub commit_did_what_was_sent :
    {t₀ : Tables} → Started t₀ → (before : List Step) (h site b k u : ℕ) (between : List Step) (commit : Step)
    → is_accepted (step_of (run_of t₀ before) (Step.Invoke h site b k u)).answer ≡ true
    → is_retired (slot_of h) (history_of (run_of t₀ before) (Step.Invoke h site b k u ∷ between)) ≡ false
    → (passage_at (run_of t₀ (before ++ Step.Invoke h site b k u ∷ between)) (slot_of h)).status ≢ Status.Committed
    → (passage_at (step_of (run_of t₀ (before ++ Step.Invoke h site b k u ∷ between)) commit).tables (slot_of h)).status ≡ Status.Committed
    → DidAsSaid
    (step_of (run_of t₀ before) (Step.Invoke h site b k u)).tables
    (answer_value (step_of (run_of t₀ before) (Step.Invoke h site b k u)).answer)
    h
    b
    k
    u
    between
unfolding run_of
commit_did_what_was_sent {t₀} fresh before h site b k u between commit a kept not_yet committed =
    ⊎_elim
    (λ waits. absurd (in_flight waits))
    (λ taken. ⊎_elim (λ e. delivered taken e) (λ e. absurd (dropped taken e)) taken.own)
    (mail_waits sent place between (sound_step t invoke z) full)
  where
    t : Tables
    t = run_of t₀ before

    invoke : Step
    invoke = Step.Invoke h site b k u

    sent : Tables
    sent = (step_of t invoke).tables

    place : ℕ
    place = answer_value (step_of t invoke).answer

    z : Sound t
    z = sound_run fresh before

    said : SaysCall t sent h site b k u place
    said = invoked_says t h site b k u z a

    full : is_empty (message_at sent place).body ≡ false
    full = ap is_empty said.body

    ss : List Step
    ss = before ++ invoke ∷ between

    -- a closed commit round has no call in flight
    in_flight : message_at (run_of sent between) place ≡ message_at sent place → ⊥
    in_flight waits =
        let pledged = pledged_run fresh ss in
        let slot : slot_of h < 16 = omega arith in
        let closes = committed_by_closing (run_of t₀ ss) (ledgers_of t₀ ss) commit (slot_of h) pledged slot not_yet committed in
        let same : message_at (run_of t₀ ss) place ≡ message_at sent place =
        ap (λ (x : Tables). message_at x place) (run_on t₀ before (invoke ∷ between)) ∙ waits in
        closing_no_call
        (view_of (run_of t₀ ss) (slot_of h))
        (ledgers_of t₀ ss (slot_of h))
        (pledged.kept.slots (slot_of h) slot)
        closes.asks
        closes.closed
        (ap is_binding closes.kind)
        place
        said.call
        (own_body (slot_of h) (message_at (run_of t₀ ss) place) (Body.Call said.call)
        (ap (λ (x : Message). x.body) same ∙ said.body)
        refl
        (ap (λ (x : Message). slot_of x.handle) same ∙ ap slot_of said.handle))

    delivered : (g : TakenUp sent place between) → g.step ≡ Step.Deliver place → DidAsSaid sent place h b k u between
    delivered g e =
        record {
          first = g.first;
          rest = g.rest;
          all = g.all ∙ ap (λ (x : Step). g.first ++ x ∷ g.rest) e;
          waits = g.waits;
          done =
              delivered_as_sent t h site b k u z a (run_of sent g.first) g.waits
              (subst (λ (x : Step). is_accepted (step_of (run_of sent g.first) x).answer ≡ true) e g.accepted);
        }

    -- and none is lost
    dropped : (g : TakenUp sent place between) → g.step ≡ Step.Drop place → ⊥
    dropped g e =
        let whole : between ≡ g.first ++ Step.Drop place ∷ g.rest = g.all ∙ ap (λ (x : Step). g.first ++ x ∷ g.rest) e in
        let list : ss ≡ (before ++ invoke ∷ g.first) ++ Step.Drop place ∷ g.rest =
        ap (λ (x : List Step). before ++ invoke ∷ x) whole ∙ sym (append_assoc before (invoke ∷ g.first) (Step.Drop place ∷ g.rest)) in
        let here : run_of t₀ (before ++ invoke ∷ g.first) ≡ run_of sent g.first = run_on t₀ before (invoke ∷ g.first) in
        no_commit_after_a_lost_call fresh (before ++ invoke ∷ g.first) place g.rest commit (slot_of h)
        (rw here (record {
          call = said.call;
          body = ap (λ (x : Message). x.body) g.waits ∙ said.body;
          own = ap (λ (x : Message). slot_of x.handle) g.waits ∙ ap slot_of said.handle;
        }))
        (rw here (subst (λ (x : Step). is_accepted (step_of (run_of sent g.first) x).answer ≡ true) e g.accepted))
        (rw here (retired_later (slot_of h) sent g.first (Step.Drop place ∷ g.rest)
        (subst (λ (x : List Step). is_retired (slot_of h) (history_of sent x) ≡ false) whole (not_retired (slot_of h) t invoke between kept).1)))
        (subst (λ (x : List Step). (passage_at (run_of t₀ x) (slot_of h)).status ≢ Status.Committed) list not_yet)
        (subst (λ (x : List Step). (passage_at (step_of (run_of t₀ x) commit).tables (slot_of h)).status ≡ Status.Committed) list committed)
