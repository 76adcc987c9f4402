-- The width that stands of an object, and what a change of one object does to it.
-- The idea: the tables know it too, as the value while nobody holds the object and as the value before while someone does. Assumes nothing.
use Rattle.std.specs.Prelude.{ℕ, ◌≡◌, refl, ◌⊎◌, Bool, true, false, cond}
use Rattle.std.proofs.Common.{sym, ap, ◌∙◌, inl, inr, ⊎_elim}
use Rattle.rules.specs.declared.tables.Object.{Object}
use Rattle.rules.specs.LoopsLaws.{either}
use Rattle.rules.specs.Parts.{is_unheld, is_held_by, taken, operated, unheld, freed, restored}
use Rattle.rules.proofs.PartsLaws.{unheld_not_held, held_not_unheld, let_go_unheld, before_of_called, called_not_unheld, freed_held, freed_other, restored_other}
use Rattle.runs.specs.Types.{Call}

-- ---- the width that stands, read off one object

abbrev pub standing : Object → ℕ
standing o = cond (is_unheld o) o.value o.before

pub standing_unheld : (o : Object) → is_unheld o ≡ true → standing o ≡ o.value
standing_unheld o e = rw e

standing_held : (o : Object) → is_unheld o ≡ false → standing o ≡ o.before
standing_held o e = rw e

-- what one store does to an object: the width that stands stays, or a commit frees the object with the value that it has
abbrev pub Stands : Bool → Object → Object → Type 0
Stands commit o left = (standing left ≡ standing o) ⊎ ((commit ≡ true) × (left ≡ unheld o.value))

-- what a turn of a sweep or a crash does: the width that stands stays, and an object that nobody holds stays as it is
abbrev pub TurnStands : Object → Object → Type 0
TurnStands o left = (standing left ≡ standing o) × (is_unheld o ≡ true → left ≡ o)

-- a turn after the store
pub standing_after_turned : (commit : Bool) (o left last : Object) → Stands commit o left → TurnStands left last → Stands commit o last
standing_after_turned commit o left last (inl e) w = inl (w.0 ∙ e)
standing_after_turned commit o left last (inr (c, e)) w = inr (c, w.1 (ap is_unheld e ∙ let_go_unheld o.value) ∙ e)

-- ---- what each change of an object does

-- "The object is taken if unheld, then read or written": the value before is saved once
pub standing_after_call : (p : ℕ) (c : Call) (o : Object) → standing (operated c (taken p o)) ≡ standing o
standing_after_call p c o = standing_held (operated c (taken p o)) (called_not_unheld p o c) ∙ before_of_called p o c

-- "its objects are freed and keep their values": a commit lets the new width stand
pub stands_after_freed : (p : ℕ) (o : Object) → Stands true o (freed p o)
stands_after_freed p o =
    ⊎_elim
    (λ e. inr (refl, freed_held p o e))
    (λ e. inl (ap standing (freed_other p o e)))
    (either (is_held_by p o))

-- "restores and frees its objects": what was written is undone
pub standing_after_restored : (p : ℕ) (o : Object) → standing (restored p o) ≡ standing o
standing_after_restored p o =
    ⊎_elim
    (λ e.
    let back : restored p o ≡ unheld o.before = rw e in
    ap standing back ∙ standing_unheld (unheld o.before) (let_go_unheld o.before) ∙ sym (standing_held o (held_not_unheld p o e)))
    (λ e. ap standing (restored_other p o e))
    (either (is_held_by p o))

-- an object that nobody holds has nothing to restore
pub unheld_after_restored : (p : ℕ) (o : Object) → is_unheld o ≡ true → restored p o ≡ o
unheld_after_restored p o u = restored_other p o (unheld_not_held p o u)
