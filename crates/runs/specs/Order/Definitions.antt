-- What the theorems about the order of operations and lettings go speak of: events of a run's list, and which of two comes first in it. Assumes nothing.
use Rattle.std.specs.Prelude.{ℕ, ◌≡◌, ◌⊎◌, Bool, true, false, ◌&&◌, List, [], ◌∷◌}
use Rattle.rules.specs.Events.{EventKind}
use Rattle.runs.specs.Events.Uses.{PassageEvent, is_of, frees}

-- it is in the list
abbrev pub Among : {A : Type 0} → A → List A → Type 0
Among e [] = ⊥
Among e (x ∷ xs) = (x ≡ e) ⊎ Among e xs

-- the one is in the list, and the other after it
abbrev pub InOrder : {A : Type 0} → A → A → List A → Type 0
InOrder e f [] = ⊥
InOrder e f (x ∷ xs) = ((x ≡ e) × Among f xs) ⊎ InOrder e f xs

-- a read or a write, accepted
abbrev pub is_operated : EventKind → Bool
is_operated EventKind.Took = false
is_operated (EventKind.Operated write found written) = true
is_operated EventKind.Freed = false

-- use u of slot p operated object k
abbrev pub is_operation : ℕ → ℕ → ℕ → PassageEvent → Bool
is_operation p u k e = is_of p u k e && is_operated e.event.kind

-- use u of slot p let object k go, whoever's step it was
abbrev pub is_letting_go : ℕ → ℕ → ℕ → PassageEvent → Bool
is_letting_go p u k e = is_of p u k e && frees e.event.kind
