-- What is over stays over: a passage that is committed stays committed, and one that is aborted stays aborted, until an accepted retire of its slot.
-- And a passage becomes committed by the close of its commit round alone. Assumes nothing.
use Rattle.std.specs.Prelude.{ℕ, ◌<◌, ◌≡◌, refl, ◌≢◌, true, false, ◌&&◌, List, ◌++◌, ltb}
use Rattle.std.proofs.Common.{sym, ap, ◌∙◌, ⊎_elim, true≢false, ltb-true, ltb-false}
use Rattle.std.proofs.Math.Path.{subst}
use Rattle.std.proofs.lemmas.Bool.{false≢true}
use Rattle.rules.specs.declared.looking.Trip.{Trip}
use Rattle.rules.specs.LoopsLaws.{either}
use Rattle.rules.specs.Tables.{past_passage, passage_at}
use Rattle.rules.specs.Answers.{is_accepted}
use Rattle.rules.specs.Parts.{is_free, is_running, is_over, is_closed, largest_quiesce, asked_of, asked_status, told_of, told_status}
use Rattle.rules.specs.Rounds.{round_told}
use Rattle.rules.specs.Machine.{look_of, seen_of, decide_of, found_of, head_of, trip_places, turn_seen, turn_of, step_of}
use Rattle.rules.specs.StoredLaws.{turn_stored_lem}
use Rattle.rules.proofs.RangesLaws.{placed_places, placed_trip}
use Rattle.rules.specs.Runs.{Started, run_of, history_of}
use Rattle.runs.specs.Types.{Kind, Phase, Status, Passage, Visit, Asked, Message, Tables, Step, Outcome, Seen}
use Rattle.runs.specs.Walk.Says.{is_prepare}
use Rattle.runs.specs.Walk.Seen.{places_at, seen_at}
use Rattle.runs.proofs.Walk.Steps.{run_on}
use Rattle.runs.proofs.Walk.Plain.{past_reads}
use Rattle.runs.proofs.Walk.Sound.{Sound, sound_run, sound_step_has}
use Rattle.runs.specs.Times.View.{View, Ledger}
use Rattle.runs.proofs.Times.Ledgers.{ledgers_of}
use Rattle.runs.specs.Orphans.Orphans.{retires, is_retired}
use Rattle.runs.proofs.Promises.Standing.{passage_has}
use Rattle.runs.specs.Moves.Definitions.{OpenedFrom, Move, Turn}
use Rattle.runs.proofs.Moves.Steps.{move_of, turn_of_lem}
use Rattle.runs.specs.Commits.Vow.{RoundFor, RoundFits}
use Rattle.runs.proofs.Commits.VowLaws.{none_not_one, one_not_two, aborted_not_committed, active_runs}
use Rattle.runs.proofs.Commits.Pledged.{Pledged, pledged_run}
use Rattle.runs.proofs.Commits.Since.{Carries, run_carried, step_carried}
use Rattle.runs.specs.Operations.Definitions.{IsOver}

-- ---- over is over

abbrev pub StatusIs : Status → View → Ledger → Type 0
StatusIs s w l = w.passage.status ≡ s

-- nothing is asked on the way of a sweep or a crash
abbrev pub NoWay : Trip → View → Type 0
NoWay trip w = Unit {0}

module _ (s : Status) (over : is_over s ≡ true) where
  not_running : is_running s ≡ true → ⊥
  not_running = go s over
    where
      go : (x : Status) → is_over x ≡ true → is_running x ≡ true → ⊥
      go Status.Free o r = false≢true o
      go Status.Active o r = false≢true o
      go Status.Committing o r = false≢true o
      go Status.Aborted o r = false≢true r
      go Status.Committed o r = false≢true r

  not_free : is_free s ≡ false
  not_free = go s over
    where
      go : (x : Status) → is_over x ≡ true → is_free x ≡ false
      go Status.Free o = absurd (false≢true o)
      go Status.Active o = refl
      go Status.Committing o = refl
      go Status.Aborted o = refl
      go Status.Committed o = refl

  -- a round of a passage that is over is no commit round that asks
  closing_over : (p : Passage) (m : ℕ) → RoundFits p → p.status ≡ s → p.round.phase ≡ Phase.One → told_status (told_of p.round.kind m) s ≡ s
  closing_over p m fits e one = go p.round.kind refl
    where
      none : (x : Status) → is_over x ≡ true → p.status ≡ x → p.round.kind ≡ Kind.Prepare → ⊥
      none Status.Free o y k = false≢true o
      none Status.Active o y k = false≢true o
      none Status.Committing o y k = false≢true o
      none Status.Aborted o y k =
          ⊎_elim
          (λ g. none_not_one (sym g ∙ one))
          (λ g. false≢true (ap is_prepare (sym g ∙ k)))
          (subst (λ (z : Status). RoundFor z p.round.kind p.round.phase) y fits)
      none Status.Committed o y k = one_not_two (sym one ∙ (subst (λ (z : Status). RoundFor z p.round.kind p.round.phase) y fits).1)

      go : (k : Kind) → p.round.kind ≡ k → told_status (told_of k m) s ≡ s
      go Kind.None y = refl
      go (Kind.Refresh q r) y = refl
      go Kind.Terminate y = refl
      go Kind.Prepare y = absurd (none s over e y)

  over_opened : (kind : Kind) (x : Status) → OpenedFrom kind x → x ≡ s → asked_status (asked_of kind) x ≡ s
  over_opened Kind.None x from e = absurd from
  over_opened (Kind.Refresh q r) x from e = e
  over_opened Kind.Terminate x from e = e
  over_opened Kind.Prepare x from e = absurd (not_running (ap is_running (sym e) ∙ from))

  over_moved :
      {step : Step} {w : View} {a k c : ℕ} {p : Passage} {v : Visit} {m : Message} → RoundFits w.passage → w.passage.status ≡ s
      → Move step w a k p v c m → is_free p.status ≡ false → p.status ≡ s
  over_moved o x (Move.Rests e y i z) u = ap (λ (q : Passage). q.status) e ∙ x
  over_moved o x (Move.Sends d b e was y i z f) u = ap (λ (q : Passage). q.status) e ∙ x
  over_moved o x (Move.Tells e y i home two silent word uncalled) u = ap (λ (q : Passage). q.status) e ∙ x
  over_moved o x (Move.Begins free status round unmarked i z) u = absurd (true≢false (sym (ap is_free (sym x ∙ free)) ∙ not_free))
  over_moved o x (Move.Retires g status round y i) u = absurd (true≢false (sym (ap is_free status) ∙ u))
  over_moved {w = w} o x (Move.Opens kind from home was e y i z) u = ap (λ (q : Passage). q.status) e ∙ over_opened kind w.passage.status from x
  over_moved {w = w} o x (Move.Closes home one closed e y i z fits) u =
      ap (λ (q : Passage). q.status) e
      ∙ ap (told_status (round_told w.passage.round)) x
      ∙ closing_over w.passage (largest_quiesce w.passage.round) o x one
  over_moved o x (Move.Aborts runs e y i z) u = absurd (not_running (ap is_running (sym x) ∙ runs))
  over_moved o x (Move.Receives call body at e y early i z) u = ap (λ (q : Passage). q.status) e ∙ x
  over_moved o x (Move.Answers n asked body e was live below y i silent back uncalled) u = ap (λ (q : Passage). q.status) e ∙ x
  over_moved o x (Move.Hears n told body e was y i z) u = ap (λ (q : Passage). q.status) e ∙ x
  over_moved o x (Move.Keeps n r q body number at e y i stamp z) u = ap (λ (q : Passage). q.status) e ∙ x

  over_turned : {w : View} {a : ℕ} {p : Passage} {v : Visit} {trip : Trip} → w.passage.status ≡ s → Turn w a p v trip → p.status ≡ s
  over_turned x (Turn.Stays trip e y) = ap (λ (q : Passage). q.status) e ∙ x
  over_turned {w = w} x (Turn.Sweeps site true active e was unprepared y) =
      absurd (not_running (ap is_running (sym x) ∙ active_runs w.passage.status (active refl)))
  over_turned x (Turn.Sweeps site false active e was unprepared y) = ap (λ (q : Passage). q.status) e ∙ x
  over_turned x (Turn.Crashes site true hits runs e unhit y) = absurd (not_running (ap is_running (sym x) ∙ runs refl))
  over_turned x (Turn.Crashes site false hits runs e unhit y) = ap (λ (q : Passage). q.status) e ∙ x

  pub over_carries : Carries (StatusIs s) NoWay
  over_carries =
      record {
        moved = λ l source h o x move u. over_moved o.round x move u;
        turned = λ trip l source k at h o x way turn. over_turned x turn;
        used = λ h x. ap is_free x ∙ not_free;
        sets_out = λ t step p l z a x. tt;
        goes_on = λ trip w u later way. tt;
      }

-- a passage that is over stands in one of sixteen slots
over_below : (t : Tables) (p : ℕ) → Sound t → is_over (passage_at t p).status ≡ true → p < 16
over_below t p z over =
    ⊎_elim
    (λ b. ltb-true p 16 b)
    (λ b.
    absurd
    (false≢true
    (ap (λ (x : Passage). is_over x.status) (sym (past_reads t.passages p past_passage (rw z.sized.passages (ltb-false p 16 b))))
    ∙ over)))
    (either (ltb p 16))

-- in every run: a passage that is committed or aborted is so after any further steps, until an accepted retire of its slot
pub over_is_final :
    {t₀ : Tables} → Started t₀ → (before after : List Step) (p : ℕ) → IsOver (passage_at (run_of t₀ before) p).status
    → is_retired p (history_of (run_of t₀ before) after) ≡ false
    → (passage_at (run_of t₀ (before ++ after)) p).status ≡ (passage_at (run_of t₀ before) p).status
over_is_final {t₀} fresh before after p ended kept =
    let over : is_over (passage_at (run_of t₀ before) p).status ≡ true = ⊎_elim (ap is_over) (ap is_over) ended in
    let slot : p < 16 = over_below (run_of t₀ before) p (sound_run fresh before) over in
    rw
    (run_on t₀ before after)
    (run_carried (StatusIs (passage_at (run_of t₀ before) p).status) NoWay (over_carries _ over) p slot (run_of t₀ before) after
    (record { ledgers = ledgers_of t₀ before; pledged = pledged_run fresh before; has = refl })
    kept
    ).has

-- one step
pub over_after_step :
    (t : Tables) (ls : ℕ → Ledger) (step : Step) (p : ℕ) → Pledged t ls → p < 16 → is_over (passage_at t p).status ≡ true
    → (is_accepted (step_of t step).answer && retires p step) ≡ false
    → (passage_at (step_of t step).tables p).status ≡ (passage_at t p).status
over_after_step t ls step p k slot over kept =
    (step_carried (StatusIs (passage_at t p).status) NoWay (over_carries _ over) p slot t step (record { ledgers = ls; pledged = k; has = refl }) kept).has

-- ---- a passage becomes committed by the close of its commit round

-- the round asks, it is a commit round, and it is closed
pub record ClosesCommit (p : Passage) : Type 0 where
  pub kind : p.round.kind ≡ Kind.Prepare
  pub asks : p.round.phase ≡ Phase.One
  pub closed : is_closed p.round ≡ true

told_committed : (kind : Kind) (m : ℕ) (s : Status) → told_status (told_of kind m) s ≡ Status.Committed → s ≢ Status.Committed → kind ≡ Kind.Prepare
told_committed Kind.None m s e n = absurd (n e)
told_committed (Kind.Refresh q r) m s e n = absurd (n e)
told_committed Kind.Terminate m s e n = absurd (n e)
told_committed Kind.Prepare m s e n = refl

asked_committed : (asked : Asked) (s : Status) → asked_status asked s ≡ Status.Committed → s ≡ Status.Committed
asked_committed (Asked.Refresh r) s e = e
asked_committed Asked.Terminate s e = e
asked_committed Asked.Prepare s e = absurd (true≢false (ap is_running e))

committed_moved :
    {step : Step} {w : View} {a k c : ℕ} {p : Passage} {v : Visit} {m : Message} → w.passage.status ≢ Status.Committed
    → Move step w a k p v c m → p.status ≡ Status.Committed → ClosesCommit w.passage
committed_moved n (Move.Rests e y i z) x = absurd (n (ap (λ (q : Passage). q.status) (sym e) ∙ x))
committed_moved n (Move.Sends d b e was y i z f) x = absurd (n (ap (λ (q : Passage). q.status) (sym e) ∙ x))
committed_moved n (Move.Tells e y i home two silent word uncalled) x = absurd (n (ap (λ (q : Passage). q.status) (sym e) ∙ x))
committed_moved n (Move.Begins free status round unmarked i z) x = absurd (true≢false (ap is_running (sym status ∙ x)))
committed_moved n (Move.Retires g status round y i) x = absurd (true≢false (ap is_free (sym status ∙ x)))
committed_moved {w = w} n (Move.Opens kind from home was e y i z) x =
    absurd (n (asked_committed (asked_of kind) w.passage.status (ap (λ (q : Passage). q.status) (sym e) ∙ x)))
committed_moved {w = w} n (Move.Closes home one closed e y i z fits) x =
    record {
      kind = told_committed w.passage.round.kind (largest_quiesce w.passage.round) w.passage.status (ap (λ (q : Passage). q.status) (sym e) ∙ x) n;
      asks = one;
      closed = closed;
    }
committed_moved n (Move.Aborts runs e y i z) x = absurd (aborted_not_committed (ap (λ (q : Passage). q.status) (sym e) ∙ x))
committed_moved n (Move.Receives call body at e y early i z) x = absurd (n (ap (λ (q : Passage). q.status) (sym e) ∙ x))
committed_moved n (Move.Answers b asked body e was live below y i silent back uncalled) x = absurd (n (ap (λ (q : Passage). q.status) (sym e) ∙ x))
committed_moved n (Move.Hears b told body e was y i z) x = absurd (n (ap (λ (q : Passage). q.status) (sym e) ∙ x))
committed_moved n (Move.Keeps b r q body number at e y i stamp z) x = absurd (n (ap (λ (q : Passage). q.status) (sym e) ∙ x))

committed_turned :
    {w : View} {a : ℕ} {p : Passage} {v : Visit} {trip : Trip} → Turn w a p v trip → p.status ≡ Status.Committed
    → w.passage.status ≡ Status.Committed
committed_turned (Turn.Stays trip e y) x = ap (λ (q : Passage). q.status) (sym e) ∙ x
committed_turned (Turn.Sweeps site true active e was unprepared y) x = absurd (aborted_not_committed (ap (λ (q : Passage). q.status) (sym e) ∙ x))
committed_turned (Turn.Sweeps site false active e was unprepared y) x = ap (λ (q : Passage). q.status) (sym e) ∙ x
committed_turned (Turn.Crashes site true hits runs e unhit y) x = absurd (aborted_not_committed (ap (λ (q : Passage). q.status) (sym e) ∙ x))
committed_turned (Turn.Crashes site false hits runs e unhit y) x = ap (λ (q : Passage). q.status) (sym e) ∙ x

module _ (t : Tables) (ls : ℕ → Ledger) (step : Step) (p : ℕ) (k : Pledged t ls) (slot : p < 16) (n : (passage_at t p).status ≢ Status.Committed) where
  -- by its own store
  head_commits :
      is_accepted (head_of t step).answer ≡ true → (passage_at (head_of t step).tables p).status ≡ Status.Committed
      → ClosesCommit (passage_at t p)
  unfolding head_of
  head_commits e =
      passage_has
      (λ x. x.status ≡ Status.Committed → ClosesCommit (passage_at t p))
      t
      (places_at t step)
      _
      k.kept.sound.sized
      (placed_places t (look_of step))
      p
      (λ own.
      subst
      (λ (q : ℕ). (decide_of step (found_of t (places_at t step)) (seen_at t step)).left.passage.status ≡ Status.Committed → ClosesCommit (passage_at t q))
      (sym own)
      (committed_moved
      (subst (λ (q : ℕ). (passage_at t q).status ≢ Status.Committed) own n)
      (move_of t k.kept.range (ls (places_at t step).slot) step (k.kept.slots (places_at t step).slot (placed_places t (look_of step)).slot) e)))
      (λ x. absurd (n x))

  -- no turn commits
  turn_commits :
      (trip : Trip) (i : ℕ) (o : Outcome) → i < 16 → Sound o.tables → (passage_at (turn_of trip i o).tables p).status ≡ Status.Committed
      → (passage_at o.tables p).status ≡ Status.Committed
  turn_commits trip i o l z =
      let left : Seen = turn_seen trip i (seen_of o.tables (trip_places trip i)) in
      rw
      (turn_stored_lem trip i o)
      (passage_has
      (λ x. x.status ≡ Status.Committed → (passage_at o.tables p).status ≡ Status.Committed)
      o.tables
      (trip_places trip i)
      _
      z.sized
      (placed_trip trip i l)
      p
      (λ own.
      subst
      (λ (q : ℕ). left.passage.status ≡ Status.Committed → (passage_at o.tables q).status ≡ Status.Committed)
      (sym own)
      (committed_turned (turn_of_lem o.tables trip i)))
      (λ x. x))

  pub committed_by_closing : (passage_at (step_of t step).tables p).status ≡ Status.Committed → ClosesCommit (passage_at t p)
  committed_by_closing =
      sound_step_has
      t
      step
      k.kept.sound
      (λ i u. (passage_at u p).status ≡ Status.Committed → ClosesCommit (passage_at t p))
      (λ i o l z f x. f (turn_commits (look_of step).trip i o l z x))
      head_commits
      (λ u. (passage_at u p).status ≡ Status.Committed → ClosesCommit (passage_at t p))
      (λ x. absurd (n x))
      (λ u f. f)
