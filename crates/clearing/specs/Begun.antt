-- What an accepted begin leaves of any tables that a program can hold. Assumes nothing.
use Rattle.std.specs.Prelude.{ℕ, ◌*◌, ◌+◌, ◌≤◌, ◌<◌, ◌≡◌, refl, List, Ok}
use Rattle.std.proofs.Common.{arith, sym, ap, subst}
use Rattle.std.proofs.lemmas.Bool.{false≢true}
use Rattle.rules.specs.declared.tables.Tables.{Tables}
use Rattle.rules.specs.declared.steps.Step.{Step}
use Rattle.rules.specs.Limits.{time_most}
use Rattle.rules.specs.Tables.{site_at, passage_at, slot_of}
use Rattle.rules.specs.Parts.{next_clock, is_phase_one}
use Rattle.rules.specs.Answers.{is_accepted}
use Rattle.rules.specs.Machine.{step_of}
use Rattle.rules.specs.StoredLaws.{Storable, sized_after_step}
use Rattle.rules.proofs.EffectsPlaces.{in_range_after_accepted}
use Rattle.rules.proofs.EffectsLife.{Begun, begin_effects}
use Rattle.clearing.specs.declared.way.Way.{Way}
use Rattle.clearing.specs.Clearing.{handle_in, begun_of}
use Rattle.clearing.specs.Underway.{Course, Between}

-- ---- an accepted begin

-- the check that a begin on these tables starts
abbrev pub course_of : Tables → ℕ → List ℕ → Way → ℕ → Course
course_of t home objects w h = record { handed = t; handle = h; home = home; objects = objects; begun = w }

pub record Begins (t : Tables) (home slot : ℕ) (objects : List ℕ) (w : Way) (h : ℕ) : Type 0 where
  pub home_below : home < 8
  pub slot_is : slot_of h ≡ slot
  pub between : Between (course_of t home objects w h) w.tables 0 time_most

pub begins :
    (t : Tables) (home slot q r v : ℕ) (objects : List ℕ) → Storable t → (step_of t (Step.Begin home slot q r)).answer ≡ Ok v
    → Begins t home slot objects (begun_of t home slot q r) (handle_in (begun_of t home slot q r))
begins t home slot q r v objects z e =
    let t' : Tables = (step_of t (Step.Begin home slot q r)).tables in
    let b : Begun t t' home slot q r v = begin_effects t home slot q r v z.sized e in
    let below : slot < 16 = b.below in
    let g : (passage_at t slot).generation ≤ 255 = z.generations slot in
    let value : v ≡ slot + 16 * (passage_at t slot).generation = b.value in
    let early : next_clock (site_at t home) < q = b.early in
    let ordered : q ≤ r = b.ordered in
    let fits : r ≤ time_most = b.fits in
    let handle : handle_in (begun_of t home slot q r) ≡ v = rw e (omega arith) in
    subst (Begins t home slot objects (begun_of t home slot q r)) (sym handle)
    (record {
      home_below = b.clock.below;
      slot_is = b.names;
      between =
          (record {
            running =
                record {
                  sized = sized_after_step t (Step.Begin home slot q r) z.sized;
                  ranged = in_range_after_accepted t (Step.Begin home slot q r) (ap is_accepted e);
                  names = rw (b.names, b.passage.here) (record { handle = omega arith; used = refl; generation = sym b.generation });
                  runs = rw (b.names, b.passage.here);
                  lives = rw (b.names, b.passage.here);
                  asks = rw (b.names, b.passage.here) (λ y. absurd (false≢true (ap is_phase_one y)));
                  up = rw b.clock.site.here b.clock.up;
                  clock = rw b.clock.site.here (omega arith);
                };
            read = record { holds = λ i l. absurd (omega arith); value = λ i l. absurd (omega arith) };
            near = λ i l. absurd (omega arith);
            mail = λ m. record { empty = λ y. rw b.messages y; full = λ y. rw b.messages };
          });
    })
