-- What happened along a run, as a list: each event with the use of its slot; and who holds an object by that list. Assumes nothing.
use Rattle.std.specs.Prelude.{ℕ, ◌+◌, ◌<◌, ◌≡◌, Bool, true, false, cond, ◌&&◌, ◌||◌, List, [], ◌∷◌, ◌++◌, eqb}
use Rattle.rules.specs.Loops.{one_if}
use Rattle.rules.specs.Tables.{site_at, object_site}
use Rattle.rules.specs.Answers.{is_accepted}
use Rattle.rules.specs.Machine.{step_of}
use Rattle.rules.specs.Events.{EventKind, Event, events_of}
use Rattle.runs.specs.Types.{Tables, Step}
use Rattle.runs.specs.Orphans.Orphans.{retires}

-- ---- an event of a step in its place: a slot and an object that there are, the site where the object stands, and that site's clock after the step

pub record InPlace (t : Tables) (step : Step) (e : Event) : Type 0 where
  pub slot : e.slot < 16
  pub object : e.object < 32
  pub site : e.site ≡ object_site e.object
  pub stamp : e.stamp ≡ (site_at (step_of t step).tables e.site).clock

-- every one of a list
abbrev pub All : {A : Type 0} → (A → Type 0) → List A → Type 0
All P [] = Unit {0}
All P (x ∷ xs) = P x × All P xs

abbrev pub AllInPlace : Tables → Step → List Event → Type 0
AllInPlace t step = All (InPlace t step)

-- ---- the use of a slot: how many accepted retires of it came before, a number without end

abbrev pub uses_after : Tables → Step → (ℕ → ℕ) → ℕ → ℕ
uses_after t s uses p = uses p + one_if (is_accepted (step_of t s).answer && retires p s)

unfoldable pub uses_from : Tables → (ℕ → ℕ) → List Step → ℕ → ℕ
uses_from t uses [] p = uses p
uses_from t uses (s ∷ ss) p = uses_from (step_of t s).tables (uses_after t s uses) ss p

-- where a run begins no slot has been retired
unfoldable pub use_of : Tables → List Step → ℕ → ℕ
use_of t₀ ss p = uses_from t₀ (λ q. 0) ss p

-- ---- the events of a run. A passage is a slot and a use

pub record PassageEvent : Type 0 where
  pub event : Event
  pub used : ℕ

unfoldable pub with_uses : (ℕ → ℕ) → List Event → List PassageEvent
with_uses uses [] = []
with_uses uses (e ∷ es) = record { event = e; used = uses e.slot } ∷ with_uses uses es

unfoldable pub events_from : Tables → (ℕ → ℕ) → List Step → List PassageEvent
events_from t uses [] = []
events_from t uses (s ∷ ss) = with_uses uses (events_of t s) ++ events_from (step_of t s).tables (uses_after t s uses) ss

unfoldable pub events_up_to : Tables → List Step → List PassageEvent
events_up_to t₀ ss = events_from t₀ (λ q. 0) ss

-- ---- who holds an object by the list

-- an event of this slot, in this use, with this object
abbrev pub is_of : ℕ → ℕ → ℕ → PassageEvent → Bool
is_of p u k e = eqb e.event.slot p && eqb e.used u && eqb e.event.object k

-- is the object held once this has happened to it, if it was held before?
abbrev pub hold_after : EventKind → Bool → Bool
hold_after EventKind.Took held = true
hold_after (EventKind.Operated write found written) held = held
hold_after EventKind.Freed held = false

unfoldable pub held_since : List PassageEvent → ℕ → ℕ → ℕ → Bool → Bool
held_since [] p u k held = held
held_since (e ∷ es) p u k held = held_since es p u k (cond (is_of p u k e) (hold_after e.event.kind held) held)

-- use u of slot p has taken object k and not freed it since
abbrev pub held_in : List PassageEvent → ℕ → ℕ → ℕ → Bool
held_in es p u k = held_since es p u k false

-- the same in other words: there is an event that takes it, and none after that frees it

abbrev pub frees : EventKind → Bool
frees EventKind.Took = false
frees (EventKind.Operated write found written) = false
frees EventKind.Freed = true

unfoldable pub is_freed_in : List PassageEvent → ℕ → ℕ → ℕ → Bool
is_freed_in [] p u k = false
is_freed_in (e ∷ es) p u k = (is_of p u k e && frees e.event.kind) || is_freed_in es p u k

pub record TakenAndNotFreed (es : List PassageEvent) (p u k : ℕ) : Type 0 where
  pub before : List PassageEvent
  pub taking : PassageEvent
  pub since : List PassageEvent
  pub all : es ≡ before ++ taking ∷ since
  pub of : is_of p u k taking ≡ true
  pub took : taking.event.kind ≡ EventKind.Took
  pub not_freed : is_freed_in since p u k ≡ false
