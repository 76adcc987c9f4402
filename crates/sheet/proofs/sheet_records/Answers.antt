-- That the part lies within the bytes follows from the sheet being taken. Assumes nothing.
use Rattle.std.proofs.Common.{◌≡◌, sym, refl, List, ℕ, [], Ok, Err}
use Rattle.rules.specs.Types.{SheetAnswer}
use Rattle.rules.proofs.SheetLaws.{taken_whole, taken_records}
use Rattle.rules.specs.Sheet.{record_part, sheet_records}
use Rattle.sheet.proofs.sheet_records.Goals as goal

-- a sheet that is not taken has no records
none : (a : SheetAnswer) (b : List ℕ) → (a ≡ Ok tt → ⊥) → record_part a b ≡ []
none (Ok u) b h = absurd (h refl)
none (Err r) b h = refl

pub returns-in_default : goal.returns-in_default
unfolding sheet_records
returns-in_default c = rw (← c.sheet_answer.ensures) (sym (none c.sheet_answer.result c.args.b.now (c.in_default.not-Ok tt)))

pub overflow_sub-to : goal.overflow_sub-to
overflow_sub-to c = (taken_whole c.args.b.now (sym c.in-Ok.ensures)).least

pub distance-requires : goal.distance-requires
distance-requires c = (taken_whole c.args.b.now (sym c.in-Ok.ensures)).least

pub overflow_sub-from : goal.overflow_sub-from
overflow_sub-from c = rw c.distance.ensures (taken_whole c.args.b.now (sym c.in-Ok.ensures)).within

pub returns : goal.returns
returns c = rw c.distance.ensures (taken_records c.args.b.now (sym c.in-Ok.ensures))
