-- Laws of a trip through a site's slots: what is seen of tables in range is sane, a turn counts at most one, and a trip counts from 0. Assumes nothing.
use Rattle.std.specs.Prelude.{ℕ, ◌+◌, ◌≤◌, ◌≡◌, refl, Bool, true, false, List, [], ◌∷◌, Ok, Err}
use Rattle.std.proofs.Common.{arith, le_refl, ⊎_elim}
use Rattle.rules.specs.declared.tables.Tables.{Tables}
use Rattle.rules.specs.declared.steps.Step.{Step}
use Rattle.rules.specs.Types.{Answer}
use Rattle.rules.specs.Types.{Check}
use Rattle.rules.specs.declared.outcomes.Outcome.{Outcome}
use Rattle.rules.specs.declared.looking.Places.{Places}
use Rattle.rules.specs.declared.looking.Trip.{Trip}
use Rattle.rules.specs.Ranges.{in_range}
use Rattle.rules.proofs.RangesLaws.{seen_in_range}
use Rattle.rules.proofs.RangesFits.{sane_seen}
pub use Rattle.rules.proofs.RangesKept.{turn_count_most}
use Rattle.rules.specs.Sane.{Sane}
use Rattle.rules.specs.Loops.{one_if}
use Rattle.rules.specs.LoopsLaws.{either}
use Rattle.rules.specs.Answers.{answer_value, first_refusal}
use Rattle.rules.specs.Stations.{sweep_of, sweep_checks}
use Rattle.rules.specs.StoredLaws.{Placed}
use Rattle.rules.specs.Machine.{look_of, places_of, seen_of, decide_of, head_of, count_one, turn_of}
use Rattle.decisions.specs.Turns.{trip_value}

-- what is seen of tables in range, at places that exist, is sane
pub sane_at : (t : Tables) (at : Places) → in_range t ≡ true → Placed at → Sane (seen_of t at)
sane_at t at r h = sane_seen (seen_of t at) (seen_in_range t at r h)

-- a turn counts at most one
one_if_most : (b : Bool) → one_if b ≤ 1
one_if_most true = le_refl 1
one_if_most false = omega arith

counted_most : (a : Answer) (b : Bool) (n : ℕ) → answer_value a ≤ n → answer_value (count_one a b) ≤ n + 1
counted_most (Ok v) b n h = let k : one_if b ≤ 1 = one_if_most b in omega arith
counted_most (Err r) b n h = omega arith

pub turn_counts : (trip : Trip) (slot : ℕ) (o : Outcome) → trip_value trip o.answer ≤ slot → trip_value trip (turn_of trip slot o).answer ≤ slot + 1
unfolding turn_of
turn_counts Trip.Nowhere slot o h = omega arith
turn_counts (Trip.Sweep site) slot o h = counted_most o.answer _ slot h
turn_counts (Trip.Crash site) slot o h = omega arith

-- a trip starts at 0: an accepted sweep's head has value 0
first_value : (cs : List Check) → answer_value (first_refusal cs 0) ≡ 0
unfolding first_refusal
first_value [] = refl
first_value (c ∷ cs) = ⊎_elim (λ e. rw e) (λ e. rw e (first_value cs)) (either c.holds)

pub trip_starts : (t : Tables) (step : Step) → trip_value (look_of step).trip (head_of t step).answer ≡ 0
unfolding head_of decide_of sweep_of
trip_starts t (Step.Tick site n) = refl
trip_starts t (Step.Begin home slot q r) = refl
trip_starts t (Step.Invoke h site write object value) = refl
trip_starts t (Step.Refresh h q r) = refl
trip_starts t (Step.Terminate h) = refl
trip_starts t (Step.Prepare h) = refl
trip_starts t (Step.Ask h site) = refl
trip_starts t (Step.Close h) = refl
trip_starts t (Step.Tell h site) = refl
trip_starts t (Step.Abort h) = refl
trip_starts t (Step.Deliver m) = refl
trip_starts t (Step.Drop m) = refl
trip_starts t (Step.Sweep site) = first_value (sweep_checks site (seen_of t (places_of t (look_of (Step.Sweep site)))))
trip_starts t (Step.Crash site) = refl
trip_starts t (Step.Recover site) = refl
trip_starts t (Step.Retire h) = refl
