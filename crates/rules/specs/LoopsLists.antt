-- Laws of the loops up to n over the elements of a list, or over the numbers below n: what the library's list functions say of them. Assumes nothing.
use Rattle.std.specs.Prelude.{◌≡◌, ℕ, zero, suc, ◌+◌, ◌≤◌, ◌<◌, Bool, true, false, cond, ◌&&◌, ◌||◌, List, [], ◌∷◌, ◌++◌, length, get_or, take, eqb, ltb, Some, None, unwrap_or, refl}
use Rattle.std.specs.List.{fold, list_all, list_any, position_or_len, range_with_len}
use Rattle.std.proofs.Common.{arith, sym, ◌∙◌, ap, ap₂, add-one, add-zero, zero-add, ⊎_elim}
use borrow.Author.Tests.{ltb-false}
use Rattle.std.proofs.lemmas.List.{take_all, take_more, length-take-le}
use Rattle.std.proofs.lemmas.List.Folds.{list_all_more, list_any_more, position_or_len_push}
use Rattle.std.proofs.lemmas.List.Sums.{fold_more}
use Rattle.std.proofs.lemmas.List.FromFn.{length-range_with_len, get_or-range_with_len}
use Rattle.rules.specs.Loops.{every_up_to, some_up_to, first_up_to}
use Rattle.rules.specs.LoopsLaws.{either, every_same, first_le}

step : (here : Bool) (n : ℕ) → cond here n (n + 1) ≡ n + cond here 0 1
step true n = sym (add-zero n)
step false n = refl

found : (x n : ℕ) → x ≤ n → unwrap_or (cond (ltb x n) (Some x) None) n ≡ x
found x n h =
    ⊎_elim
    (λ e. rw e refl)
    (λ e. let l : n ≤ x = ltb-false x n e in rw e (omega arith))
    (either (ltb x n))

module _ {X : Type 0} (p : X → Bool) (xs : List X) (d : X) where
  every_first : (n : ℕ) → n ≤ length xs → every_up_to (λ k. p (get_or xs k d)) n ≡ list_all p (take n xs)
  unfolding every_up_to
  every_first zero h = refl
  every_first (suc n) h =
      rw (every_first n (omega arith)) (sym (rw add-one at (list_all_more p xs n d (omega arith))))

  folded_first : (n : ℕ) → n ≤ length xs → every_up_to (λ k. p (get_or xs k d)) n ≡ fold (λ ok x. ok && p x) true (take n xs)
  unfolding every_up_to
  folded_first zero h = refl
  folded_first (suc n) h =
      rw (folded_first n (omega arith)) (sym (rw add-one at (fold_more (λ ok x. ok && p x) true xs n d (omega arith))))

  some_first : (n : ℕ) → n ≤ length xs → some_up_to (λ k. p (get_or xs k d)) n ≡ list_any p (take n xs)
  unfolding some_up_to
  some_first zero h = refl
  some_first (suc n) h =
      rw (some_first n (omega arith)) (sym (rw add-one at (list_any_more p xs n d (omega arith))))

  lowest_first : (n : ℕ) → n ≤ length xs → first_up_to (λ k. p (get_or xs k d)) n ≡ position_or_len p (take n xs)
  unfolding first_up_to
  lowest_first zero h = refl
  lowest_first (suc n) h =
      let t : take (suc n) xs ≡ take n xs ++ get_or xs n d ∷ [] = rw add-one at (take_more xs n d (omega arith)) in
      let l : length (take n xs) ≡ n = length-take-le n xs (omega arith) in
      let q : position_or_len p (take n xs ++ get_or xs n d ∷ []) ≡ cond (eqb (position_or_len p (take n xs)) n) (n + cond (p (get_or xs n d)) 0 1) (position_or_len p (take n xs)) =
      rw l at (position_or_len_push p (take n xs) (get_or xs n d)) in
      rw (lowest_first n (omega arith), t, q, step (p (get_or xs n d)) n) refl

  pub every_list : (n : ℕ) → length xs ≡ n → every_up_to (λ k. p (get_or xs k d)) n ≡ list_all p xs
  every_list n e = every_first n (omega arith) ∙ ap (list_all p) (take_all n xs (omega arith))

  -- with no early end
  pub every_folded : (n : ℕ) → length xs ≡ n → every_up_to (λ k. p (get_or xs k d)) n ≡ fold (λ ok x. ok && p x) true xs
  every_folded n e = folded_first n (omega arith) ∙ ap (fold (λ ok x. ok && p x) true) (take_all n xs (omega arith))

  pub some_list : (n : ℕ) → length xs ≡ n → some_up_to (λ k. p (get_or xs k d)) n ≡ list_any p xs
  some_list n e = some_first n (omega arith) ∙ ap (list_any p) (take_all n xs (omega arith))

  first_list : (n : ℕ) → length xs ≡ n → first_up_to (λ k. p (get_or xs k d)) n ≡ position_or_len p xs
  first_list n e = lowest_first n (omega arith) ∙ ap (position_or_len p) (take_all n xs (omega arith))

  -- what the library finds, or n
  pub first_found :
      (n : ℕ) → length xs ≡ n
      → unwrap_or (cond (ltb (position_or_len p xs) (length xs)) (Some (position_or_len p xs)) None) n
      ≡ first_up_to (λ k. p (get_or xs k d)) n
  first_found n e =
      let q : first_up_to (λ k. p (get_or xs k d)) n ≡ position_or_len p xs = first_list n e in
      let l : first_up_to (λ k. p (get_or xs k d)) n ≤ n = first_le (λ k. p (get_or xs k d)) n in
      rw (e, q) (found (position_or_len p xs) n (omega arith))

some_same : (p q : ℕ → Bool) (n : ℕ) → ((i : ℕ) → i < n → p i ≡ q i) → some_up_to p n ≡ some_up_to q n
unfolding some_up_to
some_same p q zero h = refl
some_same p q (suc n) h =
    ap₂ ◌||◌ (some_same p q n (λ i l. h i (omega arith))) (h n (omega arith))

pub every_range : (p : ℕ → Bool) (n : ℕ) → list_all p (range_with_len 0 n) ≡ every_up_to p n
every_range p n =
    sym (every_list p (range_with_len 0 n) 0 n (length-range_with_len 0 n))
    ∙ every_same
    (λ k. p (get_or (range_with_len 0 n) k 0))
    p
    n
    (λ k h. ap p (get_or-range_with_len 0 n k 0 h ∙ zero-add k))

pub some_range : (p : ℕ → Bool) (n : ℕ) → list_any p (range_with_len 0 n) ≡ some_up_to p n
some_range p n =
    sym (some_list p (range_with_len 0 n) 0 n (length-range_with_len 0 n))
    ∙ some_same
    (λ k. p (get_or (range_with_len 0 n) k 0))
    p
    n
    (λ k h. ap p (get_or-range_with_len 0 n k 0 h ∙ zero-add k))
