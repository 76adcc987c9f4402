-- Loops up to n, over what stands at each index: all, any, the sum, the largest, the first; and lists joined to one. Assumes nothing.
use Rattle.std.specs.Prelude.{ℕ, zero, suc, ◌+◌, max, Bool, true, false, cond, ◌&&◌, ◌||◌, List, [], ◌∷◌, ◌++◌, eqb}

-- lists, one after the other
abbrev pub joined : List (List ℕ) → List ℕ
joined [] = []
joined (x ∷ xs) = x ++ joined xs

-- 1 for true, 0 for false
abbrev pub one_if : Bool → ℕ
one_if b = cond b 1 0

unfoldable pub every_up_to : (ℕ → Bool) → ℕ → Bool
every_up_to p zero = true
every_up_to p (suc n) = every_up_to p n && p n

unfoldable pub some_up_to : (ℕ → Bool) → ℕ → Bool
some_up_to p zero = false
some_up_to p (suc n) = some_up_to p n || p n

unfoldable pub sum_up_to : (ℕ → ℕ) → ℕ → ℕ
sum_up_to f zero = 0
sum_up_to f (suc n) = sum_up_to f n + f n

unfoldable pub most_up_to : (ℕ → ℕ) → ℕ → ℕ
most_up_to f zero = 0
most_up_to f (suc n) = max (most_up_to f n) (f n)

-- one turn of the search below: the index found so far, the index now, whether p holds here
abbrev pub first_next : ℕ → ℕ → Bool → ℕ
first_next found n here = cond (eqb found n) (cond here n (n + 1)) found

-- the lowest index below n at which p holds, or n
unfoldable pub first_up_to : (ℕ → Bool) → ℕ → ℕ
first_up_to p zero = 0
first_up_to p (suc n) = first_next (first_up_to p n) n (p n)
