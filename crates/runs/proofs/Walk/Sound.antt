-- What every store keeps is kept by every step and in every run; first of all what all tables of a run have.
-- What else is shown of a step by its own store and its turns is shown of tables that have it.
-- Assumes nothing.
use Rattle.std.specs.Prelude.{ℕ, suc, ◌<◌, ◌≡◌, refl, true, List}
use Rattle.rules.specs.declared.looking.Trip.{Trip}
use Rattle.rules.specs.Tables.{start}
use Rattle.rules.specs.Answers.{is_accepted}
use Rattle.rules.specs.Machine.{look_of, head_of, turn_of, step_of}
use Rattle.rules.specs.StoredLaws.{Sized, sized_after_stored, sized_after_turn}
use Rattle.rules.specs.Runs.{Started, run_of}
use Rattle.runs.specs.Types.{Tables, Step, Outcome}
use Rattle.runs.proofs.Walk.Steps.{turned_of, turns_of, accepted_has, step_has, good_after_step, good_after_run}

-- ---- an invariant of the tables alone, without a ghost

module _ (Good : Tables → Type 0)
    (head-keeps :
    (t : Tables) (step : Step) → Good t → is_accepted (head_of t step).answer ≡ true
    → Good (head_of t step).tables)
    (turn_keeps : (trip : Trip) (slot : ℕ) (o : Outcome) → slot < 16 → Good o.tables → Good (turn_of trip slot o).tables) where
  pub step_holds : (t : Tables) (step : Step) → Good t → Good (step_of t step).tables
  step_holds t step k =
      good_after_step
      {G = Unit {0}}
      (λ u s g. g)
      (λ trip slot u g. g)
      (λ u g. Good u)
      (λ u s g h e. head-keeps u s h e)
      (λ trip slot o g l h. turn_keeps trip slot o l h)
      t
      step
      tt
      k

  pub run_holds : (t : Tables) (ss : List Step) → Good t → Good (run_of t ss)
  run_holds t ss k =
      good_after_run
      {G = Unit {0}}
      (λ u s g. g)
      (λ trip slot u g. g)
      (λ u g. Good u)
      (λ u s g h e. head-keeps u s h e)
      (λ trip slot o g l h. turn_keeps trip slot o l h)
      t
      ss
      tt
      k

-- ---- sound tables

-- what all tables of a run have: it holds at the start, and a step's own store and each turn keep it
pub record Sound (t : Tables) : Type 0 where
  -- the lengths, 8, 32, 16, 128 and 32
  pub sized : Sized t

sound_start : Sound start
unfolding start
sound_start = record { sized = record { sites = refl; objects = refl; passages = refl; visits = refl; messages = refl } }

pub sound_head : (t : Tables) (step : Step) → Sound t → Sound (head_of t step).tables
unfolding head_of
sound_head t step z = record { sized = sized_after_stored t _ _ z.sized }

pub sound_turn : (trip : Trip) (slot : ℕ) (o : Outcome) → slot < 16 → Sound o.tables → Sound (turn_of trip slot o).tables
sound_turn trip slot o l z = record { sized = sized_after_turn trip slot o z.sized }

pub sound_step : (t : Tables) (step : Step) → Sound t → Sound (step_of t step).tables
sound_step = step_holds Sound (λ u s k e. sound_head u s k) sound_turn

pub sound_from : (t : Tables) (ss : List Step) → Sound t → Sound (run_of t ss)
sound_from = run_holds Sound (λ u s k e. sound_head u s k) sound_turn

pub sound_started : {t₀ : Tables} → Started t₀ → Sound t₀
sound_started fresh = rw fresh.empty sound_start

pub sound_run : {t₀ : Tables} → Started t₀ → (ss : List Step) → Sound (run_of t₀ ss)
sound_run {t₀} fresh ss = sound_from t₀ ss (sound_started fresh)

-- ---- of sound tables: what holds once a step's own store is made, and through each turn, holds after the step

module _ (t : Tables) (step : Step) (z : Sound t) (Q : ℕ → Tables → Type 0)
    (turn :
    (n : ℕ) (o : Outcome) → n < 16 → Sound o.tables → Q n o.tables
    → Q (suc n) (turn_of (look_of step).trip n o).tables)
    (own : is_accepted (head_of t step).answer ≡ true → Q 0 (head_of t step).tables) where
  abbrev Both : ℕ → Tables → Type 0
  Both n u = Sound u × Q n u

  both_turn :
      (n : ℕ) → n < 16 → Both n (turned_of t step n).tables
      → Both (suc n) (turn_of (look_of step).trip n (turned_of t step n)).tables
  both_turn n l (y, k) = (
    sound_turn (look_of step).trip n (turned_of t step n) l y,
    turn n (turned_of t step n) l y k,
  )

  pub sound_accepted_has : is_accepted (step_of t step).answer ≡ true → Q (turns_of t step) (step_of t step).tables
  sound_accepted_has e = (accepted_has t step Both both_turn (λ a. (sound_head t step z, own a)) e).1

  pub sound_step_has : (P : Tables → Type 0) → P t → ((u : Tables) → Q (turns_of t step) u → P u) → P (step_of t step).tables
  sound_step_has P before after =
      step_has t step Both both_turn (λ a. (sound_head t step z, own a)) P before (λ u k. after u k.1)
