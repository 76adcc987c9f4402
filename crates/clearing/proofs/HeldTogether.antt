-- What "fits" rests on: values that were all held together at the check's prepare, and a commit.
-- What "no reading" leaves: an aborted passage, and every message as it was.
-- Of any tables that a program can hold, reached by a run or not. Assumes nothing.
use Rattle.std.specs.Prelude.{ℕ, zero, suc, ◌+◌, ◌≤◌, ◌<◌, ◌≡◌, refl, Bool, true, false, cond, List, eqb, length, get_or, Ok, Err}
use Rattle.std.proofs.Common.{arith, sym, ap, ◌∙◌, subst, ⊎_elim, true≢false, length-set, get_or-set_same, get_or-set_other, leb-true, ltb-false}
use Rattle.std.proofs.lemmas.Bool.{false≢true}
use Rattle.rules.specs.declared.tables.Status.{Status}
use Rattle.rules.specs.declared.tables.Passage.{Passage}
use Rattle.rules.specs.declared.tables.Tables.{Tables}
use Rattle.rules.specs.declared.steps.Step.{Step}
use Rattle.rules.specs.declared.outcomes.Refusal.{Refusal}
use Rattle.rules.specs.Limits.{clock_most, time_most}
use Rattle.rules.specs.LoopsLaws.{either, or_right, below_or_last, every_at}
use Rattle.rules.specs.Tables.{site_at, passage_at, slot_of}
use Rattle.rules.specs.Answers.{is_accepted}
use Rattle.rules.specs.Machine.{step_of}
use Rattle.rules.specs.Record.{flat_of, is_step}
use Rattle.rules.specs.StoredLaws.{Storable, sized_after_step}
use Rattle.rules.proofs.EffectsLaws.{accepted_answer}
use Rattle.rules.proofs.EffectsPlaces.{in_range_after_accepted}
use Rattle.rules.proofs.EffectsLife.{Aborted, abort_effects, abort_accepted}
use Rattle.rules.proofs.EffectsCalls.{Dropped, drop_effects, drop_accepted}
use Rattle.clearing.specs.declared.way.Way.{Way}
use Rattle.clearing.specs.declared.Verdict.{Verdict}
use Rattle.clearing.specs.declared.Cleared.{Cleared}
use Rattle.clearing.specs.Question.{is_to_ask, is_fitting}
use Rattle.clearing.specs.Clearing.{made, then_made, handle_in, mail_in, width_in, there_and_back, reads_up_to, widths_up_to, read_all, prepare_made, ask_one, asks_up_to, given_up, is_begun, handle_of, begun_of, cleared_of}
use Rattle.clearing.specs.Underway.{Course, Runs, HoldsRead, Between, Kept, CanGiveUp, Going, kept_on, emptied_on}
use Rattle.clearing.proofs.ReadsLaws.{reads_go}
use Rattle.clearing.proofs.Asks.{prepare_goes, close_goes}
use Rattle.clearing.specs.Begun.{course_of, Begins, begins}
use Rattle.clearing.specs.Ends.{before_prepare, closing, widths_read, Ends}
use Rattle.clearing.specs.HeldTogether.{HeldTogether, FitsOn, Leaves}
use Rattle.clearing.proofs.Ends.{ends}

-- ---- what an accepted step of a check says of the steps before it

then_accepted : (w : Way) (s : Step) → is_accepted (then_made w s).answer ≡ true → is_accepted w.answer ≡ true
then_accepted w s e = ⊎_elim (λ y. y) (λ y. absurd (true≢false (sym (rw y at e) ∙ y))) (either (is_accepted w.answer))

then_made_lem : (w : Way) (s : Step) → is_accepted w.answer ≡ true → then_made w s ≡ made w.tables s
then_made_lem w s e = rw e

ask_accepted : (h : ℕ) (w : Way) (s : ℕ) → is_accepted (ask_one h w s).answer ≡ true → is_accepted w.answer ≡ true
unfolding ask_one there_and_back
ask_accepted h w s e =
    let asked : Way = then_made w (Step.Ask h s) in
    let arrived : Way = then_made asked (Step.Deliver (mail_in asked)) in
    then_accepted w (Step.Ask h s) (then_accepted asked (Step.Deliver (mail_in asked)) (then_accepted arrived (Step.Deliver (mail_in asked)) e))

asks_accepted :
    (h home : ℕ) (objects : List ℕ) (w : Way) (n : ℕ) → is_accepted (asks_up_to h home objects w n).answer ≡ true → is_accepted w.answer ≡ true
unfolding asks_up_to
asks_accepted h home objects w zero e = e
asks_accepted h home objects w (suc n) e =
    ⊎_elim
    (λ y. asks_accepted h home objects w n (ask_accepted h (asks_up_to h home objects w n) n (rw y at e)))
    (λ y. asks_accepted h home objects w n (rw y at e))
    (either (is_to_ask home objects n))

-- ---- the widths, place by place

widths_length : (h home : ℕ) (objects : List ℕ) (w : Way) (n : ℕ) → length (widths_up_to h home objects w n) ≡ 8
unfolding widths_up_to
widths_length h home objects w zero = refl
widths_length h home objects w (suc n) = length-set (widths_up_to h home objects w n) n _ ∙ widths_length h home objects w n

widths_at :
    (h home : ℕ) (objects : List ℕ) (w : Way) (n i : ℕ) → n ≤ 8 → i < n
    → get_or (widths_up_to h home objects w n) i 0 ≡ width_in (reads_up_to h home objects w (suc i))
unfolding widths_up_to
widths_at h home objects w zero i l k = absurd (omega arith)
widths_at h home objects w (suc n) i l k =
    ⊎_elim
    (λ y.
    get_or-set_other (widths_up_to h home objects w n) n i _ 0 (λ z. absurd (let q : i ≡ n = z in omega arith))
    ∙ widths_at h home objects w n i (omega arith) y)
    (λ y.
    let q : length (widths_up_to h home objects w n) ≡ 8 = widths_length h home objects w n in
    rw y (get_or-set_same (widths_up_to h home objects w n) n _ 0 (omega arith)))
    (below_or_last i n k)

-- ---- the theorems

-- a check that can be given up leaves so much
module _ (course : Course) (slot : ℕ) (w : Way) (is : slot_of course.handle ≡ slot) (g : CanGiveUp course w) where
  abbrev h : ℕ
  h = course.handle

  abbrev after_abort : Tables
  after_abort = (step_of w.tables (Step.Abort h)).tables

  abort_goes : (step_of w.tables (Step.Abort h)).answer ≡ Ok 0
  abort_goes =
      let r : Runs course w.tables g.bound = g.running in
      let clock : (site_at w.tables course.home).clock ≤ g.bound = r.clock in
      let room : g.bound < clock_most = g.room in
      abort_accepted w.tables h r.ranged r.names r.runs (rw r.lives r.up) (rw r.lives (omega arith))

  abort_leaves : Aborted w.tables after_abort h (slot_of h) (passage_at w.tables (slot_of h)) 0
  abort_leaves = abort_effects w.tables h 0 g.running.sized abort_goes

  abort_status : (passage_at after_abort slot).status ≡ Status.Aborted
  abort_status =
      subst (λ (p : ℕ). (passage_at after_abort p).status ≡ Status.Aborted) is (ap (λ (p : Passage). p.status) abort_leaves.passage.here)

  -- the message of a refused delivery, and its drop
  abbrev lost_mail : ℕ
  lost_mail = (flat_of w.step).c

  drop_goes : is_step 11 w.step ≡ true → (step_of after_abort (Step.Drop lost_mail)).answer ≡ Ok 0
  drop_goes y =
      drop_accepted after_abort lost_mail (in_range_after_accepted w.tables (Step.Abort h) (ap is_accepted abort_goes)) (g.one y).below
      (rw abort_leaves.messages (g.one y).full)

  drop_leaves : is_step 11 w.step ≡ true → Dropped after_abort (step_of after_abort (Step.Drop lost_mail)).tables lost_mail 0
  drop_leaves y = drop_effects after_abort lost_mail 0 (sized_after_step w.tables (Step.Abort h) g.running.sized) (drop_goes y)

  left_mail : (m : ℕ) → Kept course (given_up h w) m
  left_mail m =
      ⊎_elim
      (λ y.
      subst (λ (u : Tables). Kept course u m) (sym (with_drop y))
      (emptied_on course after_abort (step_of after_abort (Step.Drop lost_mail)).tables (drop_leaves y).message (g.one y).was
      (λ k n. kept_after_abort k ((g.one y).mail k n))
      m))
      (λ y. subst (λ (u : Tables). Kept course u m) (sym (without_drop y)) (kept_after_abort m (g.none y m)))
      (either (is_step 11 w.step))
    where
      with_drop : is_step 11 w.step ≡ true → given_up h w ≡ (step_of after_abort (Step.Drop lost_mail)).tables
      with_drop y = rw y

      without_drop : is_step 11 w.step ≡ false → given_up h w ≡ after_abort
      without_drop y = rw y

      kept_after_abort : (m : ℕ) → Kept course w.tables m → Kept course after_abort m
      kept_after_abort m = kept_on course w.tables after_abort m (rw abort_leaves.messages)

  left_aborted : (passage_at (given_up h w) slot).status ≡ Status.Aborted
  left_aborted =
      ⊎_elim
      (λ y. rw y (rw (drop_leaves y).passages abort_status))
      (λ y. rw y abort_status)
      (either (is_step 11 w.step))

  gives_up : (c : Cleared) → handle_of c ≡ h → c.tables ≡ given_up h w → Leaves course.handed slot w c
  gives_up c hd tb =
      record {
        aborts = rw hd (ap is_accepted abort_goes);
        drops = λ y. rw hd (ap is_accepted (drop_goes y));
        left = rw hd tb;
        aborted = rw tb left_aborted;
        emptied = λ m e. rw tb ((left_mail m).empty e);
        others = λ m e. rw tb ((left_mail m).full e);
      }

-- which words a verdict is
abbrev is_fits : Verdict → Bool
is_fits (Verdict.Refused own) = false
is_fits (Verdict.NoReading step r) = false
is_fits Verdict.Narrow = false
is_fits Verdict.Fits = true

abbrev is_no_reading : Verdict → Bool
is_no_reading (Verdict.Refused own) = false
is_no_reading (Verdict.NoReading step r) = true
is_no_reading Verdict.Narrow = false
is_no_reading Verdict.Fits = false

fits_or_narrow : (b : Bool) → is_no_reading (cond b Verdict.Fits Verdict.Narrow) ≡ false
fits_or_narrow true = refl
fits_or_narrow false = refl

said_fits : (b : Bool) → is_fits (cond b Verdict.Fits Verdict.Narrow) ≡ true → b ≡ true
said_fits true e = refl
said_fits false e = absurd (false≢true e)

module _ (t : Tables) (beam margin : ℕ) (objects : List ℕ) (home slot quiesce release : ℕ) (storable : Storable t) where
  -- the check after an accepted begin
  going :
      (v : ℕ) → (begun_of t home slot quiesce release).answer ≡ Ok v
      → let w : Way = begun_of t home slot quiesce release in
      Going (course_of t home objects w (handle_in w)) (λ (u : Tables) (x : ℕ). Between (course_of t home objects w (handle_in w)) u 0 time_most) w
  going v e =
      record {
        goes = λ _ _. (begins t home slot quiesce release v objects storable e).between;
        stops = λ r y. absurd (true≢false (ap is_accepted (sym e ∙ y)));
      }

  pub fits_held_together :
      (cleared_of t beam margin objects home slot quiesce release).verdict ≡ Verdict.Fits
      → FitsOn (before_prepare t objects home slot quiesce release) (closing t objects home slot quiesce release) slot beam margin objects
      (cleared_of t beam margin objects home slot quiesce release)
  fits_held_together fits = by (ends t beam margin objects home slot quiesce release) (ap is_fits fits)
    where
      w : Way
      w = begun_of t home slot quiesce release

      by :
          {c : Cleared} → Ends t beam margin objects home slot quiesce release c → is_fits c.verdict ≡ true
          → FitsOn (before_prepare t objects home slot quiesce release) (closing t objects home slot quiesce release) slot beam margin objects c
      by (Ends.Refused own e) f = absurd (false≢true (rw e at f))
      by (Ends.Unbegun r a e) f = absurd (false≢true (rw e at f))
      by (Ends.GivenUp v r a b e) f = absurd (false≢true (rw e at f))
      by (Ends.Committed v u fair a b e) f =
          let h : ℕ = handle_in w in
          let course : Course = course_of t home objects w h in
          let start : Begins t home slot objects w h = begins t home slot quiesce release v objects storable a in
          let p : is_accepted (prepare_made h home objects w).answer ≡ true =
          asks_accepted h home objects (prepare_made h home objects w) 8
          (then_accepted (asks_up_to h home objects (prepare_made h home objects w) 8) (Step.Close h) (ap is_accepted b)) in
          let r : is_accepted (read_all h home objects w).answer ≡ true = then_accepted (read_all h home objects w) (Step.Prepare h) p in
          let before : Between course (read_all h home objects w).tables (length objects) time_most =
          (reads_go course start.home_below (going v a) (length objects)).goes _ (accepted_answer _ r) in
          let after : Between course (prepare_made h home objects w).tables (length objects) (time_most + 1) =
          (prepare_goes course start.home_below (going v a)).goes _ (accepted_answer _ p) in
          let made-it : prepare_made h home objects w ≡ made (read_all h home objects w).tables (Step.Prepare h) =
          then_made_lem (read_all h home objects w) (Step.Prepare h) r in
          let eight : length objects ≤ 8 = ltb-false _ _ (or_right (eqb (length objects) 0) _ fair.list_fair) in
          let fitting : is_fitting beam margin (widths_up_to h home objects w (length objects)) (length objects) ≡ true = said_fits _ (rw e at f) in
          rw e
          (record {
            count = refl;
            prepared = ap is_accepted (ap (λ (x : Way). x.answer) (sym made-it)) ∙ p;
            held_before = together (read_all h home objects w).tables start.slot_is eight fitting before.read;
            held_after =
                together (step_of (read_all h home objects w).tables (Step.Prepare h)).tables start.slot_is eight fitting
                (subst (λ (x : Way). HoldsRead course x.tables (length objects)) made-it after.read);
            closed = ap is_accepted b;
            closes =
                ap (λ (x : Way). x.step)
                (then_made_lem (asks_up_to h home objects (prepare_made h home objects w) 8) (Step.Close h)
                (then_accepted (asks_up_to h home objects (prepare_made h home objects w) 8) (Step.Close h) (ap is_accepted b)));
            committed =
                subst (λ (p : ℕ). (passage_at (closing t objects home slot quiesce release).tables p).status ≡ Status.Committed) start.slot_is
                ((close_goes course start.home_below (going v a)).goes u b);
          })
        where
          together :
              (u : Tables) → slot_of (handle_in w) ≡ slot → length objects ≤ 8
              → is_fitting beam margin (widths_up_to (handle_in w) home objects w (length objects)) (length objects) ≡ true
              → HoldsRead (course_of t home objects w (handle_in w)) u (length objects)
              → HeldTogether u slot beam margin objects (widths_up_to (handle_in w) home objects w (length objects))
          together u is eight fitting read =
              record {
                holds = λ i l. rw (← is) (read.holds i l);
                shown = λ i l. read.value i l ∙ sym (widths_at (handle_in w) home objects w (length objects) i eight l);
                fits = λ i l. leb-true _ _ (every_at _ (length objects) fitting i l);
              }

  -- a check that says "no reading" after an accepted begin was refused at this step: the last that it made before its abort
  pub no_reading_leaves :
      (step : Step) (r : Refusal) → (cleared_of t beam margin objects home slot quiesce release).verdict ≡ Verdict.NoReading step r
      → is_begun (cleared_of t beam margin objects home slot quiesce release) ≡ true
      → let w : Way = closing t objects home slot quiesce release in
      (w.answer ≡ Err r) × (w.step ≡ step) × Leaves t slot w (cleared_of t beam margin objects home slot quiesce release)
  no_reading_leaves step r said begun = by (ends t beam margin objects home slot quiesce release) said begun
    where
      step_in : Verdict → Step
      step_in (Verdict.Refused own) = step
      step_in (Verdict.NoReading s x) = s
      step_in Verdict.Narrow = step
      step_in Verdict.Fits = step

      refusal_in : Verdict → Refusal
      refusal_in (Verdict.Refused own) = r
      refusal_in (Verdict.NoReading s x) = x
      refusal_in Verdict.Narrow = r
      refusal_in Verdict.Fits = r

      by :
          {c : Cleared} → Ends t beam margin objects home slot quiesce release c → c.verdict ≡ Verdict.NoReading step r → is_begun c ≡ true
          → let w : Way = closing t objects home slot quiesce release in
          (w.answer ≡ Err r) × (w.step ≡ step) × Leaves t slot w c
      by (Ends.Refused own e) f b = absurd (false≢true (rw e at b))
      by (Ends.Unbegun x a e) f b = absurd (false≢true (rw e at b))
      by (Ends.Committed v u fair a y e) f b =
          let fitting : Bool = is_fitting beam margin (widths_read t objects home slot quiesce release) (length objects) in
          let said : cond fitting Verdict.Fits Verdict.Narrow ≡ Verdict.NoReading step r = rw e at f in
          absurd (false≢true (sym (fits_or_narrow fitting) ∙ ap is_no_reading said))
      by {c} (Ends.GivenUp v x a y e) f b =
          let w : Way = begun_of t home slot quiesce release in
          let start : Begins t home slot objects w (handle_in w) = begins t home slot quiesce release v objects storable a in
          let g : CanGiveUp (course_of t home objects w (handle_in w)) (closing t objects home slot quiesce release) =
          (close_goes (course_of t home objects w (handle_in w)) start.home_below (going v a)).stops x y in
          let said : Verdict.NoReading (closing t objects home slot quiesce release).step x ≡ Verdict.NoReading step r = rw e at f in (
            y ∙ ap Err (ap refusal_in said),
            ap step_in said,
            gives_up (course_of t home objects w (handle_in w)) slot (closing t objects home slot quiesce release) start.slot_is g c
                (ap handle_of e)
                (ap (λ (c : Cleared). c.tables) e),
          )
