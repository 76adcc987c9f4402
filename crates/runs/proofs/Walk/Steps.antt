-- How a law of a step is shown, and an invariant over runs: by every accepted step's own store, and by each slot of a sweep or a crash.
-- A ghost may be carried along the run; it is no part of the machine. Assumes nothing.
use Prim.Native.Nat.{ℕ, zero, suc, ◌<◌, ◌≤◌}
use Rattle.std.proofs.Common.{arith, sym, ap, ◌∙◌, Some, None}
use Rattle.std.specs.Prelude.{◌≡◌, refl, Bool, true, false, cond}
use Rattle.std.proofs.Math.Logic.{⊎_elim}
use Rattle.std.proofs.lemmas.Bool.{false≢true}
use mathlib.Core.List.{List, [], ◌∷◌, ◌++◌}
use Rattle.rules.specs.LoopsLaws.{either}
use Rattle.rules.specs.Answers.{is_accepted}
use Rattle.rules.specs.Ranges.{in_range}
use Rattle.rules.specs.Machine.{look_of, head_of, turn_of, turns_up_to, turn_count, step_in_range_of, refused_all, step_of}
use Rattle.rules.proofs.RangesKept.{turn_count_most}
use Rattle.rules.proofs.RefusedLaws.{refused_leaves, turns_keep, record_is_step}
use Rattle.rules.specs.Record.{step_of_record, reading_of, record_in_range_of, step_record_of}
use Rattle.rules.specs.Runs.{run_of, run_records_of}
use Rattle.runs.specs.Types.{Tables, Step, Outcome}
use Rattle.rules.specs.declared.looking.Trip.{Trip}
use Rattle.rules.specs.Types.{Reading}

-- ---- a ghost along a run: what an accepted step's own store does to it, and what each slot's turn does

module _ {G : Type 0} (head : Tables → Step → G → G) (turn : Trip → ℕ → Tables → G → G) where
  unfoldable pub ghost_turns : Trip → Outcome → ℕ → G → G
  ghost_turns trip o zero g = g
  ghost_turns trip o (suc n) g = turn trip n (turns_up_to trip o n).tables (ghost_turns trip o n g)

  -- a refused step does nothing to it
  unfoldable pub ghost_step : Tables → Step → G → G
  ghost_step t step g =
      cond
      (is_accepted (step_of t step).answer)
      (ghost_turns (look_of step).trip (head_of t step) (turn_count (look_of step).trip (head_of t step).answer) (head t step g))
      g

  pub ghost_refused : (t : Tables) (step : Step) (g : G) → is_accepted (step_of t step).answer ≡ false → ghost_step t step g ≡ g
  unfolding ghost_step
  ghost_refused t step g e = rw e

  pub ghost_accepted :
      (t : Tables) (step : Step) (g : G) → is_accepted (step_of t step).answer ≡ true
      → ghost_step t step g
      ≡ ghost_turns (look_of step).trip (head_of t step) (turn_count (look_of step).trip (head_of t step).answer) (head t step g)
  unfolding ghost_step
  ghost_accepted t step g e = rw e

  unfoldable pub ghost_run : Tables → List Step → G → G
  ghost_run t [] g = g
  ghost_run t (s ∷ ss) g = ghost_run (step_of t s).tables ss (ghost_step t s g)

-- ---- a step is its own store and then its turns; or it is refused, and nothing

-- what a step has come to after its own store and n turns
abbrev pub turned_of : Tables → Step → ℕ → Outcome
turned_of t step n = turns_up_to (look_of step).trip (head_of t step) n

-- how many turns it makes
abbrev pub turns_of : Tables → Step → ℕ
turns_of t step = turn_count (look_of step).trip (head_of t step).answer

pub accepted_turned : (t : Tables) (step : Step) → is_accepted (step_of t step).answer ≡ true → step_of t step ≡ turned_of t step (turns_of t step)
unfolding step_of step_in_range_of
accepted_turned t step e =
    ⊎_elim (λ q. rw q) (λ q. absurd (false≢true (rw q at e))) (either (in_range t))

-- an accepted step's own store was accepted
pub head_accepted :
    (t : Tables) (step : Step) → is_accepted (step_of t step).answer ≡ true → is_accepted (head_of t step).answer ≡ true
head_accepted t step e =
    sym (turns_keep (look_of step).trip (head_of t step) (turns_of t step)) ∙ (rw (accepted_turned t step e) at e)

-- what holds once the step's own store is made, and through each turn, holds after the step
module _ (t : Tables) (step : Step) (Q : ℕ → Tables → Type 0)
    (turn :
    (n : ℕ) → n < 16 → Q n (turned_of t step n).tables
    → Q (suc n) (turn_of (look_of step).trip n (turned_of t step n)).tables)
    (own : is_accepted (head_of t step).answer ≡ true → Q 0 (head_of t step).tables) where
  turned_has : (n : ℕ) → n ≤ 16 → is_accepted (head_of t step).answer ≡ true → Q n (turned_of t step n).tables
  unfolding turns_up_to
  turned_has zero l e = own e
  turned_has (suc n) l e = turn n l (turned_has n (omega arith) e)

  pub accepted_has : is_accepted (step_of t step).answer ≡ true → Q (turns_of t step) (step_of t step).tables
  accepted_has e =
      rw
      (accepted_turned t step e)
      (turned_has (turns_of t step) (turn_count_most (look_of step).trip (head_of t step).answer) (head_accepted t step e))

  -- whatever the step, accepted or not: what held before it holds after it
  pub step_has : (P : Tables → Type 0) → P t → ((u : Tables) → Q (turns_of t step) u → P u) → P (step_of t step).tables
  step_has P before after =
      ⊎_elim
      (λ e. after (step_of t step).tables (accepted_has e))
      (λ e. rw (refused_leaves t step e) before)
      (either (is_accepted (step_of t step).answer))

-- ---- an invariant that every accepted store keeps is kept by every step and in every run

module _ {G : Type 0} (head : Tables → Step → G → G) (turn : Trip → ℕ → Tables → G → G) (Good : Tables → G → Type 0)
    (head-keeps :
    (t : Tables) (step : Step) (g : G) → Good t g → is_accepted (head_of t step).answer ≡ true
    → Good (head_of t step).tables (head t step g))
    (turn_keeps :
    (trip : Trip) (slot : ℕ) (o : Outcome) (g : G) → slot < 16 → Good o.tables g
    → Good (turn_of trip slot o).tables (turn trip slot o.tables g)) where
  pub good_after_step : (t : Tables) (step : Step) (g : G) → Good t g → Good (step_of t step).tables (ghost_step head turn t step g)
  unfolding ghost_turns
  good_after_step t step g k =
      ⊎_elim
      (λ e.
      rw
      (ghost_accepted head turn t step g e)
      (accepted_has
      t
      step
      (λ n u. Good u (ghost_turns head turn (look_of step).trip (head_of t step) n (head t step g)))
      (λ n l x. turn_keeps (look_of step).trip n (turned_of t step n) _ l x)
      (head-keeps t step g k)
      e))
      (λ e. rw (ghost_refused head turn t step g e, refused_leaves t step e) k)
      (either (is_accepted (step_of t step).answer))

  pub good_after_run : (t : Tables) (ss : List Step) (g : G) → Good t g → Good (run_of t ss) (ghost_run head turn t ss g)
  unfolding run_of ghost_run
  good_after_run t [] g k = k
  good_after_run t (s ∷ ss) g k =
      good_after_run (step_of t s).tables ss (ghost_step head turn t s g) (good_after_step t s g k)

-- ---- a run is its first part and then the rest

pub run_on : (t : Tables) (before after : List Step) → run_of t (before ++ after) ≡ run_of (run_of t before) after
unfolding run_of
run_on t [] after = refl
run_on t (s ∷ ss) after = run_on (step_of t s).tables ss after

-- ---- a run of records is a run of the steps that they stand for

abbrev pub known_step : Reading → List Step → List Step
known_step None ss = ss
known_step (Some s) ss = s ∷ ss

unfoldable pub steps_read : List (List ℕ) → List Step
steps_read [] = []
steps_read (r ∷ rs) = known_step (step_of_record r) (steps_read rs)

no_step : (t : Tables) (r : List ℕ) → step_of_record r ≡ None → (step_record_of t r).tables ≡ t
unfolding step_record_of record_in_range_of
no_step t r e = rw e (both (in_range t))
  where
    both : (b : Bool) → (cond b (reading_of t None) (refused_all t)).tables ≡ t
    both true = refl
    both false = refl

one_record :
    (t : Tables) (r : List ℕ) (rs : List (List ℕ)) → ((u : Tables) → run_records_of u rs ≡ run_of u (steps_read rs))
    → (x : Reading) → step_of_record r ≡ x
    → run_records_of (step_record_of t r).tables rs ≡ run_of t (known_step x (steps_read rs))
unfolding run_of
one_record t r rs rest None e = ap (λ (u : Tables). run_records_of u rs) (no_step t r e) ∙ rest t
one_record t r rs rest (Some s) e =
    ap (λ (o : Outcome). run_records_of o.tables rs) (record_is_step t r s e) ∙ rest (step_of t s).tables

pub records_are_steps : (t : Tables) (rs : List (List ℕ)) → run_records_of t rs ≡ run_of t (steps_read rs)
unfolding run_records_of run_of steps_read
records_are_steps t [] = refl
records_are_steps t (r ∷ rs) = one_record t r rs (λ u. records_are_steps u rs) (step_of_record r) refl
