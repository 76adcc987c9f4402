-- A number as it is spelt, one case of put_spelt at a time: none left, the last sign, one more. Assumes nothing.
use Rattle.std.proofs.Common.{ℕ, zero, suc, ◌+◌, ◌-◌, ◌/◌, ◌%◌, ◌≤◌, ◌<◌, ◌≡◌, refl, [], ◌∷◌, ◌++◌, sub-one}
use borrow.Author.Tests.{lt-ltb, le-ltb}
use Rattle.rules.specs.Listing.{spelt}

-- with none left nothing is shown
pub spelt_none : (base first k n : ℕ) → k ≡ 0 → spelt base first k n ≡ []
unfolding spelt
spelt_none base first k n h = rw h

-- a number below the base is one sign
pub spelt_one : (base first k n : ℕ) → (k ≡ 0 → ⊥) → n < base → spelt base first k n ≡ (first + n) ∷ []
unfolding spelt
spelt_one base first zero n h l = absurd (h refl)
spelt_one base first (suc k) n h l = rw (lt-ltb n base l)

-- any other is what all but the last show, and then its last sign
pub spelt_more : (base first k n : ℕ) → (k ≡ 0 → ⊥) → base ≤ n → spelt base first k n ≡ spelt base first (k - 1) (n / base) ++ ((first + n % base) ∷ [])
unfolding spelt
spelt_more base first zero n h l = absurd (h refl)
spelt_more base first (suc k) n h l = rw (le-ltb n base l, sub-one (suc k))
