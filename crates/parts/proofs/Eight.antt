-- Laws of eight places and eight bits: what stands at each place, a bit within a byte, the ones of a byte. Assumes nothing.
use Prim.Native.Nat.{ℕ, zero, suc, ◌+◌, ◌*◌, ◌/◌, ◌%◌, ◌^◌, ◌≤◌, ◌<◌, zero-le}
use native.Mathlib.Omega.{arith}
use mathlib.Core.Path.{◌≡◌, refl, ap, ◌∙◌}
use mathlib.Core.Bool.{Bool, true}
use mathlib.Core.List.{List, [], ◌∷◌}
use lib.Count.{ones, ones_in}
use lib.Dec.{eqb}
use lib.ListN.{length, get_or}
use Rattle.std.proofs.lemmas.List.{get_or_past}
use Rattle.std.specs.List.{list_all, range_with_len}
use borrow.Author.Tests.{eqb-true}
use Rattle.rules.specs.declared.tables.Round.{Round}
use Rattle.rules.specs.Loops.{one_if, every_up_to, sum_up_to}
use Rattle.rules.specs.LoopsLaws.{every_at, every_same}
use Rattle.rules.specs.LoopsLists.{every_range}
use Rattle.rules.specs.Parts.{sent_to, received_at, is_closed}
use Rattle.parts.specs.Balances.{balance_of, balances_up_to}

-- a list of eight made by f has f d at d
pub at_eight : (f : ℕ → ℕ) (d : ℕ) → d < 8 → get_or (f 0 ∷ f 1 ∷ f 2 ∷ f 3 ∷ f 4 ∷ f 5 ∷ f 6 ∷ f 7 ∷ []) d 0 ≡ f d
at_eight f zero h = refl
at_eight f (suc zero) h = refl
at_eight f (suc (suc zero)) h = refl
at_eight f (suc (suc (suc zero))) h = refl
at_eight f (suc (suc (suc (suc zero)))) h = refl
at_eight f (suc (suc (suc (suc (suc zero))))) h = refl
at_eight f (suc (suc (suc (suc (suc (suc zero)))))) h = refl
at_eight f (suc (suc (suc (suc (suc (suc (suc zero))))))) h = refl
at_eight f (suc (suc (suc (suc (suc (suc (suc (suc d)))))))) h = absurd (omega arith)

-- eight numbers that are at most m, read at any index
pub most_of_eight :
    (xs : List ℕ) (m : ℕ) → length xs ≡ 8
    → get_or xs 0 0 ≤ m → get_or xs 1 0 ≤ m → get_or xs 2 0 ≤ m → get_or xs 3 0 ≤ m
    → get_or xs 4 0 ≤ m → get_or xs 5 0 ≤ m → get_or xs 6 0 ≤ m → get_or xs 7 0 ≤ m
    → (d : ℕ) → get_or xs d 0 ≤ m
most_of_eight xs m l x₀ x₁ x₂ x₃ x₄ x₅ x₆ x₇ zero = x₀
most_of_eight xs m l x₀ x₁ x₂ x₃ x₄ x₅ x₆ x₇ (suc zero) = x₁
most_of_eight xs m l x₀ x₁ x₂ x₃ x₄ x₅ x₆ x₇ (suc (suc zero)) = x₂
most_of_eight xs m l x₀ x₁ x₂ x₃ x₄ x₅ x₆ x₇ (suc (suc (suc zero))) = x₃
most_of_eight xs m l x₀ x₁ x₂ x₃ x₄ x₅ x₆ x₇ (suc (suc (suc (suc zero)))) = x₄
most_of_eight xs m l x₀ x₁ x₂ x₃ x₄ x₅ x₆ x₇ (suc (suc (suc (suc (suc zero))))) = x₅
most_of_eight xs m l x₀ x₁ x₂ x₃ x₄ x₅ x₆ x₇ (suc (suc (suc (suc (suc (suc zero)))))) = x₆
most_of_eight xs m l x₀ x₁ x₂ x₃ x₄ x₅ x₆ x₇ (suc (suc (suc (suc (suc (suc (suc zero))))))) = x₇
most_of_eight xs m l x₀ x₁ x₂ x₃ x₄ x₅ x₆ x₇ (suc (suc (suc (suc (suc (suc (suc (suc d)))))))) =
    rw (get_or_past xs (suc (suc (suc (suc (suc (suc (suc (suc d)))))))) 0 (omega arith)) zero-le

-- a bit of a byte stays in it
pub bit_fits : (s : ℕ) → s < 8 → 1 * 2 ^ s % 256 ≡ 2 ^ s
unfolding every_up_to
bit_fits s h = eqb-true (1 * 2 ^ s % 256) (2 ^ s) (every_at (λ k. eqb (1 * 2 ^ k % 256) (2 ^ k)) 8 refl s h)

-- the ones of a byte are its set bits, by one test over all 256
abbrev ones_right : ℕ → Bool
ones_right m = eqb (ones m) (sum_up_to (λ s. one_if (eqb (m / 2 ^ s % 2) 1)) 8)

ones_tested : every_up_to ones_right 256 ≡ true
unfolding every_up_to sum_up_to ones ones_in
ones_tested = refl

pub ones_of_byte : (m : ℕ) → m < 256 → ones m ≡ sum_up_to (λ s. one_if (eqb (m / 2 ^ s % 2) 1)) 8
ones_of_byte m h = eqb-true (ones m) (sum_up_to (λ s. one_if (eqb (m / 2 ^ s % 2) 1)) 8) (every_at ones_right 256 ones_tested m h)

-- a balance is the sum of what the answers so far say was sent there
pub balance_sum : (r : Round) (n d : ℕ) → d < 8 → get_or (balances_up_to r n) d 0 ≡ sum_up_to (λ s. balance_of r s d) n
unfolding balances_up_to sum_up_to
balance_sum r zero d h = at_eight (λ k. 0) d h
balance_sum r (suc n) d h =
    at_eight (λ k. get_or (balances_up_to r n) k 0 + balance_of r n k) d h
    ∙ ap (λ (x : ℕ). x + balance_of r n d) (balance_sum r n d h)

-- the balances are met exactly if the round is closed
pub met_closed : (r : Round) → list_all (λ d. eqb (get_or (balances_up_to r 8) d 0) (received_at r d)) (range_with_len 0 8) ≡ is_closed r
unfolding is_closed sent_to
met_closed r =
    every_range (λ d. eqb (get_or (balances_up_to r 8) d 0) (received_at r d)) 8
    ∙ every_same
    (λ d. eqb (get_or (balances_up_to r 8) d 0) (received_at r d))
    (λ d. eqb (sum_up_to (λ s. balance_of r s d) 8) (received_at r d))
    8
    (λ d h. ap (λ (x : ℕ). eqb x (received_at r d)) (balance_sum r 8 d h))
