-- What a committed passage may still tell, in every run: every site where it has a visit has answered its commit round, and is not its home;
-- and a visit away from home that is prepared is not dead.
-- The idea: the close of a commit round finds an answer of every site that has seen the passage, and takes the home visit; afterwards no visit of it is made.
-- A prepare is refused at a dead visit, and away from home a crash strikes no visit that is prepared. Assumes nothing.
use Rattle.std.specs.Prelude.{ℕ, ◌<◌, ◌≡◌, refl, ◌≢◌, ◌⊎◌, Bool, true, false, cond, ◌&&◌, List}
use Rattle.std.proofs.Common.{sym, ap, ◌∙◌, subst, ⊎_elim, inl, inr, true≢false}
use Rattle.std.proofs.lemmas.Bool.{false≢true}
use Rattle.rules.specs.declared.looking.Trip.{Trip}
use Rattle.rules.specs.LoopsLaws.{either, cond_keeps}
use Rattle.rules.specs.Tables.{passage_at}
use Rattle.rules.specs.Answers.{is_accepted}
use Rattle.rules.specs.Parts.{is_free, is_running, is_active, is_aborted, is_empty, is_closed, has_answered, with_answer, aborted_passage, largest_quiesce, asked_of, asked_status, asked_visit, asks_life, told_of, told_status, told_visit, where_there, quieted, count_received}
use Rattle.rules.specs.Rounds.{round_told}
use Rattle.rules.specs.Calls.{called_visit}
use Rattle.rules.specs.Machine.{look_of, seen_of, decide_of, found_of, stored, head_of, trip_places, turn_seen, turn_of}
use Rattle.rules.specs.StoredLaws.{Sized, Placed, turn_stored_lem}
use Rattle.rules.proofs.StartLaws.{started_is_empty}
use Rattle.rules.proofs.RangesLaws.{placed_places, placed_trip}
use Rattle.rules.specs.Runs.{Started, run_of}
use Rattle.runs.specs.Types.{Figures, Kind, Phase, Status, Passage, Visit, Call, Asked, Told, Message, Tables, Step, Outcome, Places, Seen}
use Rattle.runs.proofs.Walk.Plain.{when_true}
use Rattle.runs.specs.Walk.Put.{put, put_all, same_or_other}
use Rattle.runs.specs.Walk.Seen.{places_at, seen_at}
use Rattle.runs.proofs.Walk.Steps.{good_after_run}
use Rattle.runs.specs.Times.View.{View, Ledger, view_of, no_ledger}
use Rattle.runs.specs.Times.Clauses.{sent_figures, Holds}
use Rattle.runs.proofs.Times.Store.{own_view, other_view}
use Rattle.runs.proofs.Times.Ledgers.{head_ledgers, turn_ledgers, ledgers_of, fitting_after_decided}
use Rattle.runs.proofs.Kept.Masks.{answered_here, answered_other}
use Rattle.runs.proofs.Kept.Answered.{closing_binding}
use Rattle.runs.specs.Moves.Definitions.{OpenedFrom, Move, Turn}
use Rattle.runs.proofs.Moves.Laws.{where_is, where_not, turned_unmade}
use Rattle.runs.proofs.Moves.Steps.{move_of, turn_of_lem}
use Rattle.runs.specs.Commits.Vow.{Vow}
use Rattle.runs.proofs.Commits.VowLaws.{one_not_two, committed_tells, aborted_not_committed}
use Rattle.runs.proofs.Commits.Pledged.{Pledged, pledged_after_head, pledged_after_turn, pledged_started}

-- ---- what is kept

-- where the passage is committed, every site where it has a visit has answered, and is not its home
abbrev pub HasAnswered : Passage → ℕ → Type 0
HasAnswered p s = (has_answered p.round s ≡ true) × (s ≢ p.home)

abbrev Answered : Passage → (ℕ → Visit) → Type 0
Answered p visit = p.status ≡ Status.Committed → (s : ℕ) → (visit s).there ≡ true → HasAnswered p s

-- a visit away from home that is prepared is not dead
abbrev Alive : Passage → (ℕ → Visit) → Type 0
Alive p visit = (s : ℕ) → s ≢ p.home → (visit s).there ≡ true → (visit s).prepared ≡ true → (visit s).dead ≡ false

-- what is kept of one passage slot
pub record Tells (w : View) : Type 0 where
  pub answered : Answered w.passage w.visit
  pub alive : Alive w.passage w.visit

-- ---- a committed passage has answers

-- a round opens from no committed passage
opened_not_committed : (kind : Kind) (s : Status) → OpenedFrom kind s → asked_status (asked_of kind) s ≡ Status.Committed → ⊥
opened_not_committed Kind.None s from e = from
opened_not_committed (Kind.Refresh q r) s from e = true≢false (ap is_active (sym from ∙ e))
opened_not_committed Kind.Terminate s from e = true≢false (ap is_aborted (sym from ∙ e))
opened_not_committed Kind.Prepare s from e = true≢false (ap is_running e)

-- a close commits only what was committed, or a commit round
told_committed : (kind : Kind) (m : ℕ) (s : Status) → told_status (told_of kind m) s ≡ Status.Committed → (s ≡ Status.Committed) ⊎ (kind ≡ Kind.Prepare)
told_committed Kind.None m s e = inl e
told_committed (Kind.Refresh q r) m s e = inl e
told_committed Kind.Terminate m s e = inl e
told_committed Kind.Prepare m s e = inr refl

module _ (w : View) (a k : ℕ) (p : Passage) (v : Visit) (l : Ledger) (h : Holds w l) (o : Vow w l) (y : Answered w.passage w.visit) where
  -- a move that leaves the passage and makes no visit
  answered_stays : p ≡ w.passage → (v.there ≡ true → (w.visit a).there ≡ true) → Answered p (put w.visit a v)
  answered_stays e back committed =
      put_all w.visit a v
      (λ s x. x.there ≡ true → HasAnswered p s)
      (λ there. rw e (y (rw e at committed) a (back there)))
      (λ s n there. rw e (y (rw e at committed) s there))

  -- a visit that is as it was
  as_it_was : v ≡ w.visit a → v.there ≡ true → (w.visit a).there ≡ true
  as_it_was e there = ap (λ (x : Visit). x.there) (sym e) ∙ there

  -- the close of a commit round takes the home visit
  home_goes :
      w.passage.round.kind ≡ Kind.Prepare → v ≡ where_there (w.visit a) (told_visit (round_told w.passage.round) (w.visit a))
      → v.there ≡ true → ⊥
  home_goes kind e there =
      ⊎_elim
      (λ q.
      let x : v ≡ told_visit (round_told w.passage.round) (w.visit a) = e ∙ where_is (w.visit a) _ q in
      false≢true
      (ap (λ (d : Kind). (told_visit (told_of d (largest_quiesce w.passage.round)) (w.visit a)).there) (sym kind)
      ∙ ap (λ (z : Visit). z.there) (sym x)
      ∙ there))
      (λ q. false≢true (sym q ∙ ap (λ (z : Visit). z.there) (sym (e ∙ where_not (w.visit a) _ q)) ∙ there))
      (either (w.visit a).there)

  -- and every other visit that is there is of a site that has answered
  answered_closed :
      a ≡ w.passage.home → w.passage.round.phase ≡ Phase.One → is_closed w.passage.round ≡ true → w.passage.round.kind ≡ Kind.Prepare
      → v ≡ where_there (w.visit a) (told_visit (round_told w.passage.round) (w.visit a))
      → (s : ℕ) → (put w.visit a v s).there ≡ true → HasAnswered w.passage s
  answered_closed home one closed kind e =
      put_all w.visit a v
      (λ s x. x.there ≡ true → HasAnswered w.passage s)
      (λ there. absurd (home_goes kind e there))
      (λ s n there. (closing_binding w l h one closed (rw kind) s (h.mirror s there).0, λ q. n (q ∙ sym home)))

  answered_moved : {step : Step} {c : ℕ} {m : Message} → Move step w a k p v c m → Answered p (put w.visit a v)
  answered_moved (Move.Rests e x i z) committed = answered_stays e (as_it_was x) committed
  answered_moved (Move.Sends d b e was x i z f) committed = answered_stays e (λ there. was) committed
  answered_moved (Move.Tells e x i home two silent word uncalled) committed = answered_stays e (as_it_was x) committed
  answered_moved (Move.Begins free status round unmarked i z) committed = absurd (true≢false (ap is_active (sym status ∙ committed)))
  answered_moved (Move.Retires g status round x i) committed = absurd (true≢false (ap is_free (sym status ∙ committed)))
  answered_moved (Move.Opens kind from home was e x i z) committed =
      absurd (opened_not_committed kind w.passage.status from (ap (λ (q : Passage). q.status) (sym e) ∙ committed))
  answered_moved (Move.Closes home one closed e x i z fits) committed =
      ⊎_elim
      (λ q. absurd (one_not_two (sym one ∙ (committed_tells w.passage o.round q).1)))
      (λ kind. rw e (answered_closed home one closed kind x))
      (told_committed w.passage.round.kind _ w.passage.status (ap (λ (q : Passage). q.status) (sym e) ∙ committed))
  answered_moved (Move.Aborts runs e x i z) committed = absurd (aborted_not_committed (ap (λ (q : Passage). q.status) (sym e) ∙ committed))
  answered_moved (Move.Receives call body at e x early i z) committed =
      let tells = committed_tells w.passage o.round (ap (λ (q : Passage). q.status) (sym e) ∙ committed) in
      absurd (((h.passage.closed_quiet tells.1 (rw tells.0)).mail k).call call body)
  answered_moved (Move.Answers n asked body e was live below x i silent back uncalled) committed = answered_stays e (λ there. was) committed
  answered_moved (Move.Hears n told body e was x i z) committed = answered_stays e (λ there. was) committed
  answered_moved (Move.Keeps n r q body number at e x i stamp z) committed =
      let from : (w.mail k).source < 8 = (h.posted k (ap is_empty body)).1 in
      let before : w.passage.status ≡ Status.Committed = ap (λ (u : Passage). u.status) (sym e) ∙ committed in
      put_all w.visit a v
      (λ s u. u.there ≡ true → HasAnswered p s)
      (λ there. rw e (more from (sent_figures (w.mail k) r q) a (h.sites a (h.mirror a (as_it_was x there)).0).place (y before a (as_it_was x there))))
      (λ s d there. rw e (more from (sent_figures (w.mail k) r q) s (h.sites s (h.mirror s there).0).place (y before s there)))
    where
      -- one answer more
      more :
          (w.mail k).source < 8 → (f : Figures) (s : ℕ) → s < 8 → HasAnswered w.passage s
          → (has_answered (with_answer w.passage.round (w.mail k).source f) s ≡ true) × (s ≢ w.passage.home)
      more from f s i b = (
        ⊎_elim
            (λ (u : s ≡ (w.mail k).source). rw u (answered_here w.passage.round (w.mail k).source f from))
            (λ d. answered_other w.passage.round (w.mail k).source f from s i d ∙ b.0)
            (same_or_other s (w.mail k).source),
        b.1,
      )

-- a turn that leaves a passage committed leaves it as it was
turned_same : {w : View} {a : ℕ} {p : Passage} {v : Visit} {trip : Trip} → p.status ≡ Status.Committed → Turn w a p v trip → p ≡ w.passage
turned_same committed (Turn.Stays trip e x) = e
turned_same committed (Turn.Sweeps site true active e was unprepared x) =
    absurd (aborted_not_committed (ap (λ (q : Passage). q.status) (sym e) ∙ committed))
turned_same committed (Turn.Sweeps site false active e was unprepared x) = e
turned_same committed (Turn.Crashes site true hits runs e unhit x) =
    absurd (aborted_not_committed (ap (λ (q : Passage). q.status) (sym e) ∙ committed))
turned_same committed (Turn.Crashes site false hits runs e unhit x) = e

answered_turned :
    {w : View} {a : ℕ} {p : Passage} {v : Visit} {trip : Trip} → Answered w.passage w.visit → Turn w a p v trip → Answered p (put w.visit a v)
answered_turned {w = w} {a = a} {p = p} {v = v} y turn committed =
    put_all w.visit a v
    (λ s x. x.there ≡ true → HasAnswered p s)
    (λ there.
    ⊎_elim
    (λ was. rw (turned_same committed turn) (y before a was))
    (λ gone. absurd (turned_unmade turn gone there))
    (either (w.visit a).there))
    (λ s n there. rw (turned_same committed turn) (y before s there))
  where
    before : w.passage.status ≡ Status.Committed
    before = ap (λ (q : Passage). q.status) (sym (turned_same committed turn)) ∙ committed

-- ---- a prepared visit lives

-- a question that asks for life comes to no dead visit, and a terminate's takes the mark
alive_asked :
    (asked : Asked) (n c : ℕ) (u : Visit) → (asks_life asked && u.dead) ≡ false → (asked_visit asked n c u).prepared ≡ true
    → (asked_visit asked n c u).dead ≡ false
alive_asked (Asked.Refresh r) n c u live m = live
alive_asked Asked.Terminate n c u live m = absurd (false≢true m)
alive_asked Asked.Prepare n c u live m = live

-- home's word leaves the marks of a visit that stays
pub marks_told : (told : Told) (u : Visit) → (told_visit told u).there ≡ true → ((told_visit told u).prepared ≡ u.prepared) × ((told_visit told u).dead ≡ u.dead)
marks_told (Told.Refresh q) u e = (refl, refl)
marks_told (Told.Terminate m) u e = (refl, refl)
marks_told Told.Prepare u e = absurd (false≢true e)

module _ (w : View) (a : ℕ) (p : Passage) (v : Visit) (y : Alive w.passage w.visit) (home : p.home ≡ w.passage.home) where
  -- a store that leaves home where it is
  alive_at :
      (a ≢ w.passage.home → v.there ≡ true → v.prepared ≡ true → v.dead ≡ false) → Alive p (put w.visit a v)
  alive_at here =
      put_all w.visit a v
      (λ s x. s ≢ p.home → x.there ≡ true → x.prepared ≡ true → x.dead ≡ false)
      (λ n. here (λ q. n (q ∙ sym home)))
      (λ s d n. y s (λ q. n (q ∙ sym home)))

  alive_alike :
      v.there ≡ (w.visit a).there → v.prepared ≡ (w.visit a).prepared → v.dead ≡ (w.visit a).dead → Alive p (put w.visit a v)
  alive_alike there prepared dead = alive_at (λ n t m. dead ∙ y a n (sym there ∙ t) (sym prepared ∙ m))

  alive_same : v ≡ w.visit a → Alive p (put w.visit a v)
  alive_same e = alive_alike (ap (λ (x : Visit). x.there) e) (ap (λ (x : Visit). x.prepared) e) (ap (λ (x : Visit). x.dead) e)

  -- a visit that loses its mark, if it is hit
  alive_struck :
      (hits : Bool) (clock : ℕ) (dead : Bool) → v ≡ where_there (w.visit a) (cond hits (quieted (w.visit a) clock false dead) (w.visit a))
      → Alive p (put w.visit a v)
  alive_struck true clock dead e =
      alive_at
      (λ n t m.
      ⊎_elim
      (λ was. absurd (false≢true (ap (λ (x : Visit). x.prepared) (sym (e ∙ where_is (w.visit a) _ was)) ∙ m)))
      (λ gone. absurd (false≢true (sym gone ∙ ap (λ (x : Visit). x.there) (sym (e ∙ where_not (w.visit a) _ gone)) ∙ t)))
      (either (w.visit a).there))
  alive_struck false clock dead e = alive_same (e ∙ cond_keeps (λ (x : Visit). x ≡ w.visit a) (w.visit a).there _ _ refl refl)

  -- a call finds a visit, or makes one without a mark
  alive_called : (call : Call) → v ≡ count_received (called_visit call (w.visit a)) → Alive p (put w.visit a v)
  alive_called call e =
      alive_at
      (λ n t m.
      ⊎_elim
      (λ was.
      let same : v ≡ count_received (w.visit a) = e ∙ ap count_received (when_true (λ (x : Visit). x ≡ w.visit a) (w.visit a).there _ _ was refl) in
      ap (λ (x : Visit). x.dead) same ∙ y a n was (ap (λ (x : Visit). x.prepared) (sym same) ∙ m))
      (λ (gone : (w.visit a).there ≡ false). ap (λ (x : Visit). x.dead) e ∙ (rw gone))
      (either (w.visit a).there))

alive_moved :
    {step : Step} {w : View} {a k c : ℕ} {p : Passage} {v : Visit} {m : Message} (l : Ledger) → Holds w l → Alive w.passage w.visit
    → (p.status ≡ Status.Free → (s : ℕ) → (put w.visit a v s).there ≡ false) → Move step w a k p v c m → Alive p (put w.visit a v)
alive_moved {w = w} {a = a} {p = p} {v = v} l h y none (Move.Rests e x i z) = alive_same w a p v y (ap (λ (q : Passage). q.home) e) x
alive_moved {w = w} {a = a} {p = p} {v = v} l h y none (Move.Sends d b e was x i z f) =
    alive_alike w a p v y (ap (λ (q : Passage). q.home) e)
    (ap (λ (u : Visit). u.there) x)
    (ap (λ (u : Visit). u.prepared) x)
    (ap (λ (u : Visit). u.dead) x)
alive_moved {w = w} {a = a} {p = p} {v = v} l h y none (Move.Tells e x i home two silent word uncalled) =
    alive_same w a p v y (ap (λ (q : Passage). q.home) e) x
alive_moved {w = w} {a = a} {p = p} {v = v} l h y none (Move.Begins free status round unmarked i z) =
    put_all w.visit a v
    (λ s x. s ≢ p.home → x.there ≡ true → x.prepared ≡ true → x.dead ≡ false)
    (λ n t m. absurd (false≢true (sym unmarked ∙ m)))
    (λ s d n t m. absurd (false≢true (sym ((h.free free).visits s) ∙ t)))
alive_moved l h y none (Move.Retires g status round x i) = λ s n t m. absurd (false≢true (sym (none status s) ∙ t))
alive_moved {w = w} {a = a} {p = p} {v = v} l h y none (Move.Opens kind from home was e x i z) =
    alive_at w a p v y (ap (λ (q : Passage). q.home) e) (λ n. absurd (n home))
alive_moved {w = w} {a = a} {p = p} {v = v} l h y none (Move.Closes home one closed e x i z fits) =
    alive_at w a p v y (ap (λ (q : Passage). q.home) e) (λ n. absurd (n home))
alive_moved {w = w} {a = a} {c = c} {p = p} {v = v} l h y none (Move.Aborts runs e x i z) =
    alive_struck w a p v y (ap (λ (q : Passage). q.home) e) true c (w.visit a).dead x
alive_moved {w = w} {a = a} {p = p} {v = v} l h y none (Move.Receives call body at e x early i z) =
    alive_called w a p v y (ap (λ (q : Passage). q.home) e) call x
alive_moved {w = w} {a = a} {c = c} {p = p} {v = v} l h y none (Move.Answers n asked body e was live below x i silent back uncalled) =
    alive_at w a p v y (ap (λ (q : Passage). q.home) e)
    (λ d t m. ap (λ (u : Visit). u.dead) x ∙ alive_asked asked n c (w.visit a) live (ap (λ (u : Visit). u.prepared) (sym x) ∙ m))
alive_moved {w = w} {a = a} {p = p} {v = v} l h y none (Move.Hears n told body e was x i z) =
    alive_at w a p v y (ap (λ (q : Passage). q.home) e)
    (λ d t m.
    let marks = marks_told told (w.visit a) (ap (λ (u : Visit). u.there) (sym x) ∙ t) in
    ap (λ (u : Visit). u.dead) x ∙ marks.1 ∙ y a d was (sym marks.0 ∙ ap (λ (u : Visit). u.prepared) (sym x) ∙ m))
alive_moved {w = w} {a = a} {p = p} {v = v} l h y none (Move.Keeps n r q body number at e x i stamp z) =
    alive_same w a p v y (ap (λ (q : Passage). q.home) e) x

home_after : (b : Bool) (p : Passage) → (cond b (aborted_passage p) p).home ≡ p.home
home_after b p = cond_keeps (λ (x : Passage). x.home ≡ p.home) b (aborted_passage p) p refl refl

alive_turned :
    {w : View} {a : ℕ} {p : Passage} {v : Visit} {trip : Trip} → Alive w.passage w.visit → Turn w a p v trip → Alive p (put w.visit a v)
alive_turned {w = w} {a = a} {p = p} {v = v} y (Turn.Stays trip e x) = alive_same w a p v y (ap (λ (q : Passage). q.home) e) x
alive_turned {w = w} {a = a} {p = p} {v = v} y (Turn.Sweeps site aborts active e was unprepared x) =
    alive_at w a p v y (ap (λ (q : Passage). q.home) e ∙ home_after aborts w.passage)
    (λ n t m. absurd (false≢true (ap (λ (u : Visit). u.there) (sym x) ∙ t)))
alive_turned {w = w} {a = a} {p = p} {v = v} y (Turn.Crashes site aborts hits runs e unhit x) =
    alive_struck w a p v y (ap (λ (q : Passage). q.home) e ∙ home_after aborts w.passage) hits (w.clock a) true x

-- ---- every slot in every run

pub record Telling (t : Tables) (ls : ℕ → Ledger) : Type 0 where
  pub pledged : Pledged t ls
  pub tells : (p : ℕ) → p < 16 → Tells (view_of t p)

-- a store: its own slot, and every other
tells_stored :
    (t : Tables) (at : Places) (left : Seen) → Sized t → Placed at → ((p : ℕ) → p < 16 → Tells (view_of t p))
    → Answered left.passage (put (view_of t at.slot).visit at.site left.visit)
    → Alive left.passage (put (view_of t at.slot).visit at.site left.visit)
    → (p : ℕ) → p < 16 → Tells (view_of (stored t at left) p)
tells_stored t at left z h y answered alive p slot =
    ⊎_elim
    (λ (e : p ≡ at.slot).
    subst
    (λ (q : ℕ). Tells (view_of (stored t at left) q))
    (sym e)
    (subst Tells (sym (own_view t at left z h)) (record { answered = answered; alive = alive })))
    (λ n. subst Tells (sym (other_view t at left z h p slot n)) (record { answered = (y p slot).answered; alive = (y p slot).alive }))
    (same_or_other p at.slot)

telling_after_head :
    (t : Tables) (step : Step) (ls : ℕ → Ledger) → Telling t ls → is_accepted (head_of t step).answer ≡ true
    → Telling (head_of t step).tables (head_ledgers t step ls)
unfolding head_of
telling_after_head t step ls k e =
    let at : Places = places_at t step in
    let left : Seen = (decide_of step (found_of t at) (seen_at t step)).left in
    let below : at.slot < 16 = (placed_places t (look_of step)).slot in
    let hold : Holds (view_of t at.slot) (ls at.slot) = k.pledged.kept.slots at.slot below in
    let move = move_of t k.pledged.kept.range (ls at.slot) step hold e in
    record {
      pledged = pledged_after_head t step ls k.pledged e;
      tells =
          tells_stored t at left k.pledged.kept.sound.sized (placed_places t (look_of step)) k.tells
          (answered_moved (view_of t at.slot) at.site at.message left.passage left.visit (ls at.slot)
          hold (k.pledged.vows at.slot below) (k.tells at.slot below).answered move)
          (alive_moved (ls at.slot) hold (k.tells at.slot below).alive
          (λ free s. (((fitting_after_decided t k.pledged.kept.range step e).own (ls at.slot) hold).free free).visits s)
          move);
    }

telling_after_turn :
    (trip : Trip) (slot : ℕ) (o : Outcome) (ls : ℕ → Ledger) → slot < 16 → Telling o.tables ls
    → Telling (turn_of trip slot o).tables (turn_ledgers trip slot o.tables ls)
telling_after_turn trip slot o ls i k =
    record {
      pledged = pledged_after_turn trip slot o ls i k.pledged;
      tells = rw (turn_stored_lem trip slot o) (
          tells_stored
          o.tables
          (trip_places trip slot)
          (turn_seen trip slot (seen_of o.tables (trip_places trip slot)))
          k.pledged.kept.sound.sized
          (placed_trip trip slot i)
          k.tells
          (answered_turned (k.tells slot i).answered (turn_of_lem o.tables trip slot))
          (alive_turned (k.tells slot i).alive (turn_of_lem o.tables trip slot)));
    }

pub telling_run : {t₀ : Tables} → Started t₀ → (ss : List Step) → Telling (run_of t₀ ss) (ledgers_of t₀ ss)
unfolding ledgers_of
telling_run {t₀} fresh ss = good_after_run head_ledgers turn_ledgers Telling telling_after_head telling_after_turn t₀ ss (λ q. no_ledger) begun
  where
    begun : Telling t₀ (λ q. no_ledger)
    begun =
        record {
          pledged = pledged_started fresh;
          tells = λ q b.
              let free : (passage_at t₀ q).status ≡ Status.Free = (started_is_empty fresh).free q in
              record {
                answered = λ c. absurd (true≢false (ap is_free (sym free ∙ c)));
                alive = λ s n there. absurd (false≢true (sym ((((pledged_started fresh).kept.slots q b).free free).visits s) ∙ there));
              };
        }
