-- Plain facts that several families of laws share: a choice whose test is known, a list that repeats one record, and a place past a list's end.
-- Assumes nothing.
use Rattle.std.specs.Prelude.{ℕ, zero, suc, ◌≤◌, ◌≡◌, refl, Bool, true, false, cond, List, [], ◌∷◌, length, get_or}
use Rattle.std.proofs.Common.{arith, not-suc-le-zero, true≢false}
use Rattle.std.proofs.lemmas.Bool.{false≢true}
pub use Rattle.rules.proofs.StartLaws.{repeat_has}

-- a choice whose test is known
pub when_true : {A : Type 0} (P : A → Type 0) (b : Bool) (x y : A) → b ≡ true → P x → P (cond b x y)
when_true P true x y e z = z
when_true P false x y e z = absurd (false≢true e)

pub when_false : {A : Type 0} (P : A → Type 0) (b : Bool) (x y : A) → b ≡ false → P y → P (cond b x y)
when_false P true x y e z = absurd (true≢false e)
when_false P false x y e z = z

-- a place past the end of a list holds what stands there
pub past_reads : {A : Type 0} (l : List A) (i : ℕ) (d : A) → length l ≤ i → get_or l i d ≡ d
past_reads [] i d h = refl
past_reads (x ∷ xs) zero d h = absurd (not-suc-le-zero h)
past_reads (x ∷ xs) (suc i) d h = past_reads xs i d (omega arith)
