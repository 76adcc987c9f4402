-- Demand 3 in definitions: what it says of a moment in a run, from the list of accepted steps and from the tables. Assumes nothing.
use Rattle.std.specs.Prelude.{ℕ, ◌+◌, ◌-◌, ◌<◌, ◌≤◌, max, ◌≡◌, Bool, true, false, cond, ◌&&◌, ◌||◌, List, [], ◌∷◌, eqb}
use Rattle.rules.specs.Loops.{one_if, most_up_to}
use Rattle.rules.specs.Tables.{site_at, visit_at, message_at, slot_of, object_site}
use Rattle.rules.specs.Answers.{is_accepted}
use Rattle.rules.specs.Record.{flat_of, is_step}
use Rattle.rules.specs.Runs.{Entry, run_of, history_of}
use Rattle.rules.specs.Machine.{is_message_of, step_of}
use Rattle.rules.specs.Events.{is_holding}
use Rattle.runs.specs.Types.{Visit, Body, Message, Tables, Step}
use Rattle.runs.specs.Walk.Says.{body_latest, body_all}

-- ---- the past, from the list of accepted steps

-- whether a commit round (an accepted prepare, code 6) has begun since the passage's begin (code 2), where before said so until now
abbrev pub commit_after : ℕ → Bool → Step → Bool
commit_after p before step =
    cond
    (is_step 2 step && eqb (slot_of (flat_of step).b) p)
    false
    (cond (is_step 6 step && eqb (slot_of (flat_of step).h) p) true before)

-- "never began a commit round (an accepted prepare)": this is false of the list so far
unfoldable pub began_commit : ℕ → Bool → List Entry → Bool
began_commit p before [] = before
began_commit p before (e ∷ es) = began_commit p (commit_after p before e.step) es

-- a retire of this slot (code 16)
abbrev pub retires : ℕ → Step → Bool
retires p step = is_step 16 step && eqb (slot_of (flat_of step).h) p

-- "while it is not retired": no accepted retire of the slot in the list
unfoldable pub is_retired : ℕ → List Entry → Bool
is_retired p [] = false
is_retired p (e ∷ es) = retires p e.step || is_retired p es

-- "accepted steps at that station"
unfoldable pub steps_at : ℕ → List Entry → ℕ
steps_at s [] = 0
steps_at s (e ∷ es) = one_if (e.acted && eqb e.places.site s) + steps_at s es

-- ---- T: "the latest quiesce or release time in that passage's visits and messages then, or 0 if there are none"

-- of a visit that is there, the later of its two times
abbrev pub visit_latest : Visit → ℕ
visit_latest v = cond v.there (max v.quiesce v.release) 0

-- of a message of this slot, its latest time by either reading
abbrev pub mail_latest : (Body → ℕ) → ℕ → Message → ℕ
mail_latest of p m = cond (is_message_of p m) (of m.body) 0

abbrev pub latest_by : (Body → ℕ) → Tables → ℕ → ℕ
latest_by of t p =
    max (most_up_to (λ s. visit_latest (visit_at t s p)) 8) (most_up_to (λ m. mail_latest of p (message_at t m)) 32)

-- the smaller reading of T, for which the demand says more
unfoldable pub latest : Tables → ℕ → ℕ
latest t p = latest_by body_latest t p

-- the larger reading
unfoldable pub latest_of_all : Tables → ℕ → ℕ
latest_of_all t p = latest_by body_all t p

-- ---- what the demand says

-- "no visit and no held object" of the slot at the station
pub record NothingLeft (t : Tables) (slot site : ℕ) : Type 0 where
  pub visit : (visit_at t site slot).there ≡ false
  pub object : (k : ℕ) → k < 32 → object_site k ≡ site → is_holding t slot k ≡ false

-- what the demand says of a passage slot and a station, from the moment at which the tables are t, for this T
pub record Released (t : Tables) (slot site T : ℕ) : Type 0 where
  -- "After any further steps .. while it is not retired: once that station's clock has reached T, an accepted sweep there leaves it no visit and no held object".
  -- The clock is the one that the sweep itself has moved, so this says a little more than the demand
  pub swept :
      (after : List Step) → is_retired slot (history_of t after) ≡ false
      → is_accepted (step_of (run_of t after) (Step.Sweep site)).answer ≡ true
      → (reached : T ≤ (site_at (step_of (run_of t after) (Step.Sweep site)).tables site).clock)
      → NothingLeft (step_of (run_of t after) (Step.Sweep site)).tables slot site
  -- "and it gains none there again": at every later moment
  pub never_again :
      (after later : List Step) → is_retired slot (history_of t after) ≡ false
      → is_accepted (step_of (run_of t after) (Step.Sweep site)).answer ≡ true
      → T ≤ (site_at (step_of (run_of t after) (Step.Sweep site)).tables site).clock
      → (kept : is_retired slot (history_of (step_of (run_of t after) (Step.Sweep site)).tables later) ≡ false)
      → NothingLeft (run_of (step_of (run_of t after) (Step.Sweep site)).tables later) slot site
  -- "Where the clock is behind T, at most T minus the clock accepted steps at that station bring it to T": at any later moment too
  pub in_time :
      (after later : List Step)
      → T - (site_at (run_of t after) site).clock ≤ steps_at site (history_of (run_of t after) later)
      → T ≤ (site_at (run_of (run_of t after) later) site).clock
