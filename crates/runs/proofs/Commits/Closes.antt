-- What an accepted prepare and an accepted close say: after a prepare its passage is committing, and in a run the close of a committing passage commits it.
-- So whoever sees the answers and not the tables may take an accepted close for the word, if the passage was prepared and is not aborted.
-- The idea: a passage that has begun to commit is committing, committed or aborted until its slot is retired. Assumes nothing.
use Rattle.std.specs.Prelude.{ℕ, ◌<◌, ◌≡◌, refl, ◌≢◌, Bool, true, false, cond, List, ◌∷◌, ◌++◌}
use Rattle.std.proofs.Common.{arith, sym, ap, ◌∙◌, true≢false}
use Rattle.std.proofs.lemmas.Bool.{false≢true}
use Rattle.rules.specs.declared.looking.Trip.{Trip}
use Rattle.rules.specs.LoopsLaws.{cond_keeps}
use Rattle.rules.specs.Tables.{passage_at, slot_of}
use Rattle.rules.specs.Answers.{is_accepted}
use Rattle.rules.specs.Parts.{is_free, is_over, aborted_passage, asked_of, asked_status, told_of, told_status}
use Rattle.rules.specs.Rounds.{open_of, prepare_of, close_of}
use Rattle.rules.specs.Machine.{look_of, places_of, decide_of, step_of}
use Rattle.rules.proofs.RangesLaws.{placed_places}
use Rattle.rules.specs.StoredLaws.{passage_after_stored}
use Rattle.rules.proofs.Views.{settled_accepted}
use Rattle.rules.specs.Runs.{Started, run_of, history_of}
use Rattle.runs.specs.Types.{Kind, Status, Passage, Visit, Message, Tables, Step, Seen}
use Rattle.runs.specs.Walk.Seen.{places_at, seen_at}
use Rattle.runs.proofs.Walk.Steps.{run_on}
use Rattle.runs.proofs.Walk.Sound.{Sound}
use Rattle.runs.proofs.Operations.Single.{decision_accepted, single_stored}
use Rattle.runs.specs.Times.View.{View, Ledger}
use Rattle.runs.proofs.Times.Ledgers.{ledgers_of}
use Rattle.runs.specs.Orphans.Orphans.{is_retired}
use Rattle.runs.proofs.Events.HoldSteps.{and_false}
use Rattle.runs.specs.Moves.Definitions.{OpenedFrom, Move, Turn}
use Rattle.runs.proofs.Commits.VowLaws.{committing_asks}
use Rattle.runs.proofs.Commits.Pledged.{pledged_run, pledged_after_step}
use Rattle.runs.proofs.Commits.Since.{Carries, not_retired, run_carried}
use Rattle.runs.proofs.Commits.Over.{NoWay, over_after_step}

-- of any sound tables: after an accepted prepare its passage is committing
pub prepare_begins_commit :
    (t : Tables) (h : ℕ) → Sound t → is_accepted (step_of t (Step.Prepare h)).answer ≡ true
    → (passage_at (step_of t (Step.Prepare h)).tables (slot_of h)).status ≡ Status.Committing
unfolding decide_of prepare_of open_of places_of
prepare_begins_commit t h z a =
    ap (λ (u : Tables). (passage_at u (slot_of h)).status) (single_stored t (Step.Prepare h) refl a)
    ∙ ap (λ (p : Passage). p.status) (passage_after_stored t (places_at t (Step.Prepare h)) _ z.sized (placed_places t (look_of (Step.Prepare h))))
    ∙ settled_accepted
    (λ (x : Seen). x.passage.status ≡ Status.Committing)
    _
    _
    (seen_at t (Step.Prepare h))
    _
    (λ f. refl)
    (decision_accepted t (Step.Prepare h) a)

-- in a run: an accepted close of a committing passage commits it
pub close_commits :
    {t₀ : Tables} → Started t₀ → (ss : List Step) (h : ℕ) → (passage_at (run_of t₀ ss) (slot_of h)).status ≡ Status.Committing
    → is_accepted (step_of (run_of t₀ ss) (Step.Close h)).answer ≡ true
    → (passage_at (step_of (run_of t₀ ss) (Step.Close h)).tables (slot_of h)).status ≡ Status.Committed
unfolding decide_of close_of places_of
close_commits {t₀} fresh ss h committing a =
    let t : Tables = run_of t₀ ss in
    let slot : slot_of h < 16 = omega arith in
    let k = pledged_run fresh ss in
    let asks = committing_asks (passage_at t (slot_of h)) (k.vows (slot_of h) slot).round committing in
    ap (λ (u : Tables). (passage_at u (slot_of h)).status) (single_stored t (Step.Close h) refl a)
    ∙ ap (λ (p : Passage). p.status) (passage_after_stored t (places_at t (Step.Close h)) _ k.kept.sound.sized (placed_places t (look_of (Step.Close h))))
    ∙ settled_accepted
    (λ (x : Seen). x.passage.status ≡ Status.Committed)
    _
    _
    (seen_at t (Step.Close h))
    _
    (λ f. rw asks.0)
    (decision_accepted t (Step.Close h) a)

-- ---- from a prepare to its close

-- a passage that has begun to commit: committing, or over
abbrev has_begun : Status → Bool
has_begun Status.Free = false
has_begun Status.Active = false
has_begun Status.Committing = true
has_begun Status.Aborted = true
has_begun Status.Committed = true

abbrev Begun : View → Ledger → Type 0
Begun w l = has_begun w.passage.status ≡ true

begun_opened : (kind : Kind) (s : Status) → OpenedFrom kind s → has_begun s ≡ true → has_begun (asked_status (asked_of kind) s) ≡ true
begun_opened Kind.None s from y = absurd from
begun_opened (Kind.Refresh q r) s from y = y
begun_opened Kind.Terminate s from y = y
begun_opened Kind.Prepare s from y = refl

begun_closed : (kind : Kind) (m : ℕ) (s : Status) → has_begun s ≡ true → has_begun (told_status (told_of kind m) s) ≡ true
begun_closed Kind.None m s y = y
begun_closed (Kind.Refresh q r) m s y = y
begun_closed Kind.Terminate m s y = y
begun_closed Kind.Prepare m s y = refl

begun_moved :
    {step : Step} {w : View} {a k c : ℕ} {p : Passage} {v : Visit} {m : Message} → Move step w a k p v c m
    → is_free p.status ≡ false → has_begun w.passage.status ≡ true → has_begun p.status ≡ true
begun_moved (Move.Rests e x i z) u y = rw e y
begun_moved (Move.Sends d b e was x i z f) u y = rw e y
begun_moved (Move.Tells e x i home two silent word uncalled) u y = rw e y
begun_moved (Move.Begins free status round unmarked i z) u y = absurd (false≢true (ap has_begun (sym free) ∙ y))
begun_moved (Move.Retires g status round x i) u y = absurd (true≢false (ap is_free (sym status) ∙ u))
begun_moved {w = w} (Move.Opens kind from home was e x i z) u y = rw e (begun_opened kind w.passage.status from y)
begun_moved {w = w} (Move.Closes home one closed e x i z fits) u y = rw e (begun_closed w.passage.round.kind _ w.passage.status y)
begun_moved (Move.Aborts runs e x i z) u y = rw e
begun_moved (Move.Receives call body at e x early i z) u y = rw e y
begun_moved (Move.Answers n asked body e was live below x i silent back uncalled) u y = rw e y
begun_moved (Move.Hears n told body e was x i z) u y = rw e y
begun_moved (Move.Keeps n r q body number at e x i stamp z) u y = rw e y

begun_aborted : (b : Bool) (p : Passage) → has_begun p.status ≡ true → has_begun (cond b (aborted_passage p) p).status ≡ true
begun_aborted b p y = cond_keeps (λ (x : Passage). has_begun x.status ≡ true) b (aborted_passage p) p refl y

begun_turned :
    {w : View} {a : ℕ} {p : Passage} {v : Visit} {trip : Trip} → Turn w a p v trip → has_begun w.passage.status ≡ true → has_begun p.status ≡ true
begun_turned (Turn.Stays trip e x) y = rw e y
begun_turned {w = w} (Turn.Sweeps site aborts active e was unprepared x) y = rw e (begun_aborted aborts w.passage y)
begun_turned {w = w} (Turn.Crashes site aborts hits runs e unhit x) y = rw e (begun_aborted aborts w.passage y)

begun_used : (s : Status) → has_begun s ≡ true → is_free s ≡ false
begun_used Status.Free y = absurd (false≢true y)
begun_used Status.Active y = refl
begun_used Status.Committing y = refl
begun_used Status.Aborted y = refl
begun_used Status.Committed y = refl

begun_carries : Carries Begun NoWay
begun_carries =
    record {
      moved = λ l source h o y move u. begun_moved move u y;
      turned = λ trip l source k at h o y way turn. begun_turned turn y;
      used = λ {w} {l} h y. begun_used w.passage.status y;
      sets_out = λ t step p l z a y. tt;
      goes_on = λ trip w u later way. tt;
    }

-- an accepted prepare, any steps without a retire of its slot, and an accepted close: if the passage is not aborted right before it, it is committed after it
pub close_is_the_word :
    {t₀ : Tables} → Started t₀ → (before : List Step) (h : ℕ) (between : List Step)
    → is_accepted (step_of (run_of t₀ before) (Step.Prepare h)).answer ≡ true
    → is_retired (slot_of h) (history_of (run_of t₀ before) (Step.Prepare h ∷ between)) ≡ false
    → (passage_at (run_of t₀ (before ++ Step.Prepare h ∷ between)) (slot_of h)).status ≢ Status.Aborted
    → is_accepted (step_of (run_of t₀ (before ++ Step.Prepare h ∷ between)) (Step.Close h)).answer ≡ true
    → (passage_at (step_of (run_of t₀ (before ++ Step.Prepare h ∷ between)) (Step.Close h)).tables (slot_of h)).status ≡ Status.Committed
unfolding run_of
close_is_the_word {t₀} fresh before h between a kept alive closes = go (passage_at (run_of t₀ ss) (slot_of h)).status refl begun
  where
    ss : List Step
    ss = before ++ Step.Prepare h ∷ between

    slot : slot_of h < 16
    slot = omega arith

    begun : has_begun (passage_at (run_of t₀ ss) (slot_of h)).status ≡ true
    begun =
        ap (λ (u : Tables). has_begun (passage_at u (slot_of h)).status) (run_on t₀ before (Step.Prepare h ∷ between))
        ∙ (run_carried Begun NoWay begun_carries (slot_of h) slot (step_of (run_of t₀ before) (Step.Prepare h)).tables between
        (record {
          ledgers = _;
          pledged = pledged_after_step (run_of t₀ before) (Step.Prepare h) (ledgers_of t₀ before) (pledged_run fresh before);
          has = ap has_begun (prepare_begins_commit (run_of t₀ before) h (pledged_run fresh before).kept.sound a);
        })
        (not_retired (slot_of h) (run_of t₀ before) (Step.Prepare h) between kept).1
        ).has

    -- a committed passage tells, and the close of a round wants one that asks
    go :
        (s : Status) → (passage_at (run_of t₀ ss) (slot_of h)).status ≡ s → has_begun (passage_at (run_of t₀ ss) (slot_of h)).status ≡ true
        → (passage_at (step_of (run_of t₀ ss) (Step.Close h)).tables (slot_of h)).status ≡ Status.Committed
    go Status.Free e y = absurd (false≢true (ap has_begun (sym e) ∙ y))
    go Status.Active e y = absurd (false≢true (ap has_begun (sym e) ∙ y))
    go Status.Committing e y = close_commits fresh ss h e closes
    go Status.Aborted e y = absurd (alive e)
    go Status.Committed e y =
        over_after_step (run_of t₀ ss) (ledgers_of t₀ ss) (Step.Close h) (slot_of h) (pledged_run fresh ss) slot
        (ap is_over e)
        (and_false (is_accepted (step_of (run_of t₀ ss) (Step.Close h)).answer))
        ∙ e
