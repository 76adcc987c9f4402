-- What the theorems about handles and promises speak of. Assumes nothing.
use Rattle.std.specs.Prelude.{ℕ, ◌+◌, ◌%◌, ◌≡◌, Bool, true, false, cond, ◌&&◌, ◌||◌, List, [], ◌∷◌, eqb}
use Rattle.rules.specs.Loops.{one_if}
use Rattle.rules.specs.Tables.{passage_at, visit_at, message_at, slot_of, object_site}
use Rattle.rules.specs.Answers.{is_accepted}
use Rattle.rules.specs.Stations.{loses_home}
use Rattle.rules.specs.Machine.{step_of}
use Rattle.rules.specs.Record.{row_of, is_named, flat_of, is_step}
use Rattle.rules.specs.Runs.{Entry}
use Rattle.rules.specs.Events.{is_holding}
use Rattle.runs.specs.Types.{Message, Tables, Step}
use Rattle.runs.specs.Walk.Says.{is_prepare, carries_commit, asks_terminate}
use Rattle.runs.specs.Orphans.Orphans.{retires}

-- ---- handles

-- the accepted retires of a slot in a list of accepted steps
unfoldable pub retires_in : ℕ → List Entry → ℕ
retires_in p [] = 0
retires_in p (e ∷ es) = one_if (retires p e.step) + retires_in p es

-- the generation of a slot
abbrev pub generation_at : Tables → ℕ → ℕ
generation_at t p = (passage_at t p).generation

-- does the step name this handle?
abbrev pub names : ℕ → Step → Bool
names h step = is_named (row_of (flat_of step).code) 8 && eqb (flat_of step).h h

-- ---- a station's promise, and home's word

-- a visit that is there and prepared: its station has promised
pub record Promised (t : Tables) (site slot : ℕ) : Type 0 where
  pub there : (visit_at t site slot).there ≡ true
  pub prepared : (visit_at t site slot).prepared ≡ true

-- is the step home's word to the visit of this slot at this site?
-- At home it is the close (code 8) of a commit round, else the delivery (code 11) there of a commit's phase 2 for the slot; refusal 9 sees to the round. (Sites are 0..7 and messages 0..31, so the remainders change nothing.)
abbrev pub is_word : Tables → ℕ → ℕ → Step → Bool
is_word t site slot step =
    let m : Message = message_at t ((flat_of step).c % 32) in
    cond
    (is_step 8 step)
    (eqb (slot_of (flat_of step).h) slot && eqb ((passage_at t slot).home % 8) site && is_prepare (passage_at t slot).round.kind)
    (is_step 11 step && (eqb (slot_of m.handle) slot && eqb (m.destination % 8) site && carries_commit m.body))

-- the visit of this slot is there after each of the steps
unfoldable pub ThereThrough : Tables → ℕ → ℕ → List Step → Type 0
ThereThrough t site slot [] = Unit {0}
ThereThrough t site slot (x ∷ xs) = ((visit_at (step_of t x).tables site slot).there ≡ true) × ThereThrough (step_of t x).tables site slot xs

-- ---- until home lets the station off

-- does the step let the station off its promise to this slot? By the commit's last word (a close, code 8, or a delivery, code 11); by a terminate's first (code 5, or a delivery);
-- and at home by an abort (code 10), or by a crash (code 14) while the passage runs
abbrev pub lets_off : Tables → ℕ → ℕ → Step → Bool
lets_off t site slot step =
    let m : Message = message_at t ((flat_of step).c % 32) in
    cond
    (is_step 5 step || is_step 10 step)
    (eqb (slot_of (flat_of step).h) slot && eqb ((passage_at t slot).home % 8) site)
    (cond
    (is_step 8 step)
    (is_word t site slot step)
    (cond
    (is_step 11 step)
    (eqb (slot_of m.handle) slot && eqb (m.destination % 8) site && (carries_commit m.body || asks_terminate m.body))
    (is_step 14 step && (eqb ((flat_of step).a % 8) site && loses_home (flat_of step).a (passage_at t slot)))))

-- whether an accepted step of the list does
unfoldable pub let_off_in : Tables → ℕ → ℕ → List Step → Bool
let_off_in t site slot [] = false
let_off_in t site slot (x ∷ xs) =
    (is_accepted (step_of t x).answer && lets_off t site slot x) || let_off_in (step_of t x).tables site slot xs

-- what stands of a promise from one moment to another: the visit with its mark, and every object that the passage holds at the site
pub record StandsFrom (t u : Tables) (site slot : ℕ) : Type 0 where
  pub promised : Promised u site slot
  pub objects : (k : ℕ) → object_site k ≡ site → is_holding t slot k ≡ true → is_holding u slot k ≡ true

-- slot p has a visit at the station, and has promised nothing there
pub record Unpromised (t : Tables) (s p : ℕ) : Type 0 where
  pub there : (visit_at t s p).there ≡ true
  pub prepared : (visit_at t s p).prepared ≡ false
