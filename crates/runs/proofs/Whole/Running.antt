-- While a passage runs its release times do not come down: from a moment at which it has a visit at a station with release time R,
-- a visit of it there has R or a later one, as long as the passage is active or committing.
-- So `holds_until_release` keeps the holds of a running passage at least until the time that was once given.
-- The idea: only a terminate brings R down, and that is for a passage that is over; no visit is made twice. Assumes nothing.
use Rattle.std.specs.Prelude.{ℕ, ◌≤◌, ◌<◌, ◌≡◌, refl, true, false, cond, List, ◌++◌}
use Rattle.std.proofs.Common.{arith, sym, ap, ◌∙◌, subst, ⊎_elim, true≢false}
use Rattle.std.proofs.lemmas.Bool.{false≢true}
use Rattle.rules.specs.declared.looking.Trip.{Trip}
use Rattle.rules.specs.LoopsLaws.{cond_keeps}
use Rattle.rules.specs.Tables.{passage_at, visit_at}
use Rattle.rules.specs.Ranges.{phase_fits}
use Rattle.rules.specs.Parts.{is_free, is_running, is_over, is_phase_one, tells_life, asked_visit, asked_of, asked_status, told_visit, told_of, told_status, quieted}
use Rattle.rules.specs.Rounds.{round_told}
use Rattle.rules.specs.Runs.{Started, run_of, history_of}
use Rattle.runs.specs.Types.{Kind, Phase, Status, Passage, Visit, Asked, Told, Body, Message, Tables, Step}
use Rattle.runs.proofs.Walk.Plain.{when_true}
use Rattle.runs.proofs.Walk.Steps.{run_on}
use Rattle.runs.specs.Times.View.{View, Ledger}
use Rattle.runs.specs.Times.Clauses.{Holds}
use Rattle.runs.proofs.Times.Ledgers.{ledgers_of}
use Rattle.runs.specs.Orphans.Orphans.{is_retired}
use Rattle.runs.specs.Moves.Definitions.{OpenedFrom, Move, Turn}
use Rattle.runs.proofs.Moves.Laws.{seen_visit_after, where_is, made_at_unseen, turned_unmade}
use Rattle.runs.proofs.Commits.VowLaws.{active_runs}
use Rattle.runs.proofs.Commits.Pledged.{pledged_run}
use Rattle.runs.proofs.Commits.Since.{Carries, run_carried}
use Rattle.runs.proofs.Commits.Over.{NoWay}
use Rattle.runs.proofs.Order.Gone.{seen_used}
use Rattle.runs.specs.Operations.Definitions.{IsRunning}

-- ---- a passage that runs has run

running_asked : (kind : Kind) (s : Status) → OpenedFrom kind s → is_running (asked_status (asked_of kind) s) ≡ true → is_running s ≡ true
running_asked Kind.None s from y = absurd from
running_asked (Kind.Refresh q r) s from y = y
running_asked Kind.Terminate s from y = y
running_asked Kind.Prepare s from y = from

running_told : (kind : Kind) (m : ℕ) (s : Status) → is_running (told_status (told_of kind m) s) ≡ true → is_running s ≡ true
running_told Kind.None m s y = y
running_told (Kind.Refresh q r) m s y = y
running_told Kind.Terminate m s y = y
running_told Kind.Prepare m s y = absurd (false≢true y)

running_moved :
    {step : Step} {w : View} {a k c : ℕ} {p : Passage} {v : Visit} {m : Message} → Move step w a k p v c m
    → is_free w.passage.status ≡ false → is_running p.status ≡ true → is_running w.passage.status ≡ true
running_moved (Move.Rests e x i z) u y = ap (λ (q : Passage). is_running q.status) (sym e) ∙ y
running_moved (Move.Sends d b e was x i z f) u y = ap (λ (q : Passage). is_running q.status) (sym e) ∙ y
running_moved (Move.Tells e x i home two silent word uncalled) u y = ap (λ (q : Passage). is_running q.status) (sym e) ∙ y
running_moved (Move.Begins free status round unmarked i z) u y = absurd (true≢false (sym (ap is_free free) ∙ u))
running_moved (Move.Retires g status round x i) u y = absurd (false≢true (ap is_running (sym status) ∙ y))
running_moved {w = w} (Move.Opens kind from home was e x i z) u y =
    running_asked kind w.passage.status from (ap (λ (q : Passage). is_running q.status) (sym e) ∙ y)
running_moved {w = w} (Move.Closes home one closed e x i z fits) u y =
    running_told w.passage.round.kind _ w.passage.status (ap (λ (q : Passage). is_running q.status) (sym e) ∙ y)
running_moved (Move.Aborts runs e x i z) u y = runs
running_moved (Move.Receives call body at e x early i z) u y = ap (λ (q : Passage). is_running q.status) (sym e) ∙ y
running_moved (Move.Answers n asked body e was live below x i silent back uncalled) u y = ap (λ (q : Passage). is_running q.status) (sym e) ∙ y
running_moved (Move.Hears n told body e was x i z) u y = ap (λ (q : Passage). is_running q.status) (sym e) ∙ y
running_moved (Move.Keeps n r q body number at e x i stamp z) u y = ap (λ (u : Passage). is_running u.status) (sym e) ∙ y

-- ---- its release times stay or rise

asked_release_lem : (asked : Asked) (n c : ℕ) (u : Visit) → u.release ≤ (asked_visit asked n c u).release
asked_release_lem (Asked.Refresh r) n c u = omega arith
asked_release_lem Asked.Terminate n c u = omega arith
asked_release_lem Asked.Prepare n c u = omega arith

-- a word of a running passage's round is no terminate's
told_release :
    (told : Told) (u : Visit) → ((m : ℕ) → told ≡ Told.Terminate m → ⊥) → (told_visit told u).there ≡ true → u.release ≤ (told_visit told u).release
told_release (Told.Refresh q) u never there = omega arith
told_release (Told.Terminate m) u never there = absurd (never m refl)
told_release Told.Prepare u never there = absurd (false≢true there)

-- a round in phase 1 that would tell a terminate is a terminate
tells_terminate : (kind : Kind) (x m : ℕ) → phase_fits kind Phase.One ≡ true → told_of kind x ≡ Told.Terminate m → kind ≡ Kind.Terminate
tells_terminate Kind.None x m fits e = absurd (false≢true fits)
tells_terminate (Kind.Refresh q r) x m fits e = absurd (true≢false (ap tells_life e))
tells_terminate Kind.Terminate x m fits e = refl
tells_terminate Kind.Prepare x m fits e = absurd (true≢false (ap tells_life e))

-- a passage that runs is not over
running_not_over : (s : Status) → is_running s ≡ true → is_over s ≡ true → ⊥
running_not_over Status.Free y z = false≢true y
running_not_over Status.Active y z = false≢true z
running_not_over Status.Committing y z = false≢true z
running_not_over Status.Aborted y z = false≢true y
running_not_over Status.Committed y z = false≢true y

release_moved :
    {step : Step} {w : View} {a k c : ℕ} {p : Passage} {v : Visit} {m : Message} (l : Ledger) → Holds w l → is_running w.passage.status ≡ true
    → Move step w a k p v c m → (w.visit a).there ≡ true → v.there ≡ true → (w.visit a).release ≤ v.release
release_moved l h runs (Move.Rests e x i z) was now = rw x (omega arith)
release_moved l h runs (Move.Sends d b e there x i z f) was now = rw x (omega arith)
release_moved l h runs (Move.Tells e x i home two silent word uncalled) was now = rw x (omega arith)
release_moved {a = a} l h runs (Move.Begins free status round unmarked i z) was now = absurd (false≢true (sym ((h.free free).visits a) ∙ was))
release_moved l h runs (Move.Retires g status round x i) was now = rw x (omega arith)
release_moved {w = w} {a = a} {c = c} l h runs (Move.Opens kind from home there e x i z) was now = rw x (asked_release_lem (asked_of kind) _ c (w.visit a))
release_moved {w = w} {a = a} {v = v} l h runs (Move.Closes home one closed e x i z fits) was now =
    let is : v ≡ told_visit (round_told w.passage.round) (w.visit a) = x ∙ where_is (w.visit a) _ was in
    rw is
    (told_release (round_told w.passage.round) (w.visit a)
    (λ m told.
    let ends : w.passage.round.kind ≡ Kind.Terminate =
    tells_terminate w.passage.round.kind _ m (subst (λ (q : Phase). phase_fits w.passage.round.kind q ≡ true) one fits) told in
    running_not_over w.passage.status runs
    (ap is_over (h.passage.terminate_aborted ends (λ none. false≢true (ap is_phase_one (sym none ∙ one))))))
    (ap (λ (u : Visit). u.there) (sym is) ∙ now))
release_moved {w = w} {a = a} l h runs (Move.Aborts run e x i z) was now = rw (x, where_is (w.visit a) _ was) (omega arith)
release_moved {w = w} {a = a} l h runs (Move.Receives call body at e x early i z) was now =
    rw x (when_true (λ (u : Visit). (w.visit a).release ≤ u.release) (w.visit a).there (w.visit a) _ was (omega arith))
release_moved {w = w} {a = a} {c = c} l h runs (Move.Answers n asked body e there live below x i silent back uncalled) was now =
    rw x (asked_release_lem asked n c (w.visit a))
release_moved {w = w} {a = a} {k = k} l h runs (Move.Hears n told body e there x i z) was now =
    rw x
    (told_release told (w.visit a)
    (λ m is.
    running_not_over w.passage.status runs
    ((h.mail k).two n (Told.Terminate m) (body ∙ ap (Body.PhaseTwo n) is)).1.0.over)
    (ap (λ (u : Visit). u.there) (sym x) ∙ now))
release_moved l h runs (Move.Keeps n r q body number at e x i stamp z) was now = rw x (omega arith)

release_turned :
    {w : View} {a : ℕ} {p : Passage} {v : Visit} {trip : Trip} → Turn w a p v trip → (w.visit a).there ≡ true → v.there ≡ true
    → (w.visit a).release ≤ v.release
release_turned (Turn.Stays trip e x) was now = rw x (omega arith)
release_turned (Turn.Sweeps site aborts active e there unprepared x) was now = absurd (false≢true (ap (λ (u : Visit). u.there) (sym x) ∙ now))
release_turned {w = w} {a = a} (Turn.Crashes site aborts hits runs e unhit x) was now =
    rw
    (x, where_is (w.visit a) (cond hits (quieted (w.visit a) (w.clock a) false true) (w.visit a)) was)
    (cond_keeps
    (λ (u : Visit). (w.visit a).release ≤ u.release)
    hits
    (quieted (w.visit a) (w.clock a) false true)
    (w.visit a)
    (omega arith)
    (omega arith))

running_turned :
    {w : View} {a : ℕ} {p : Passage} {v : Visit} {trip : Trip} → Turn w a p v trip → is_running p.status ≡ true
    → is_running w.passage.status ≡ true
running_turned (Turn.Stays trip e x) y = ap (λ (q : Passage). is_running q.status) (sym e) ∙ y
running_turned {w = w} (Turn.Sweeps site true active e there unprepared x) y = active_runs w.passage.status (active refl)
running_turned (Turn.Sweeps site false active e there unprepared x) y = ap (λ (q : Passage). is_running q.status) (sym e) ∙ y
running_turned (Turn.Crashes site true hits runs e unhit x) y = runs refl
running_turned (Turn.Crashes site false hits runs e unhit x) y = ap (λ (q : Passage). is_running q.status) (sym e) ∙ y

-- ---- what is carried

-- site s has seen the passage; while it runs, a visit of it there has release time r or a later one
record ReleasedLate (r s : ℕ) (w : View) (l : Ledger) : Type 0 where
  seen : (l s).seen ≡ true
  late : (w.visit s).there ≡ true → is_running w.passage.status ≡ true → r ≤ (w.visit s).release

module _ (r s : ℕ) where
  -- while the passage runs, r or later
  abbrev Late : Passage → Visit → Type 0
  Late p u = is_running p.status ≡ true → r ≤ u.release

  later : {x y : ℕ} → r ≤ x → x ≤ y → r ≤ y
  later i j = omega arith

  late_carries : Carries (ReleasedLate r s) NoWay
  late_carries =
      record {
        moved =
            λ {step} {w} {a} {k} {c} {p} {v} {m} l source h o g move u.
            let ran = running_moved move (seen_used s h g.seen) in
            let x =
            seen_visit_after w l a source v (Late w.passage) (Late p) s g.seen g.late
            (λ missing there seen. true≢false (sym seen ∙ made_at_unseen l h move missing there))
            (λ was there late runs. later (late (ran runs)) (release_moved l h (ran runs) move was there))
            (λ u late runs. late (ran runs)) in
            record { seen = x.0; late = x.1 };
        turned =
            λ {w} {a} {p} {v} trip l source k at h o g way turn.
            let x =
            seen_visit_after w l a source v (Late w.passage) (Late p) s g.seen g.late
            (λ missing there seen. turned_unmade turn missing there)
            (λ was there late runs. later (late (running_turned turn runs)) (release_turned turn was there))
            (λ u late runs. late (running_turned turn runs)) in
            record { seen = x.0; late = x.1 };
        used = λ h g. seen_used s h g.seen;
        sets_out = λ t step p l z a g. tt;
        goes_on = λ trip w u later way. tt;
      }

-- ---- the theorem

-- in every run: a visit of a passage at a station, and any further steps without a retire of its slot.
-- Where the passage is active or committing after them, and has a visit there, its release time is not earlier than it was
pub release_while_running :
    {t₀ : Tables} → Started t₀ → (before after : List Step) (p s : ℕ) → p < 16 → (visit_at (run_of t₀ before) s p).there ≡ true
    → is_retired p (history_of (run_of t₀ before) after) ≡ false
    → IsRunning (passage_at (run_of t₀ (before ++ after)) p).status → (visit_at (run_of t₀ (before ++ after)) s p).there ≡ true
    → (visit_at (run_of t₀ before) s p).release ≤ (visit_at (run_of t₀ (before ++ after)) s p).release
release_while_running {t₀} fresh before after p s slot there kept runs now =
    let k = pledged_run fresh before in
    let carried =
    run_carried (ReleasedLate (visit_at (run_of t₀ before) s p).release s) NoWay (late_carries _ s) p slot (run_of t₀ before) after
    (record {
      ledgers = ledgers_of t₀ before;
      pledged = k;
      has = record { seen = ((k.kept.slots p slot).mirror s there).0; late = λ was running. omega arith };
    })
    kept in
    rw (run_on t₀ before after)
    (carried.has.late
    (rw (run_on t₀ before after) at now)
    (rw (run_on t₀ before after) at (⊎_elim (ap is_running) (ap is_running) runs)))
