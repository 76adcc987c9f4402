-- Laws of the loops up to n: what a loop says of each index, and when two loops agree. Assumes nothing.
use Prim.Native.Nat.{ℕ, zero, suc, ◌+◌, ◌*◌, ◌≤◌, ◌<◌}
use native.Mathlib.Omega.{arith}
use Rattle.std.proofs.Common.{not-suc-le-zero, sym, ap₂, inl, inr, true≢false}
use Rattle.std.proofs.Math.Nat.{suc-mul}
use Rattle.std.specs.Prelude.{◌≡◌, ◌⊎◌, Bool, false, cond, not, ◌&&◌, ◌||◌, eqb, ltb}
use Rattle.std.proofs.Math.Path.{refl, subst}
use Rattle.std.proofs.Math.Logic.{⊎_elim}
use Rattle.std.proofs.Math.Bool.{true}
use Rattle.std.proofs.lemmas.Bool.{false≢true}
use borrow.Author.Tests.{ltb-true, ltb-false, eqb-false, ne_eqb}
use Rattle.rules.specs.Loops.{every_up_to, some_up_to, sum_up_to, most_up_to, first_next, first_up_to}

-- ---- truth of tests

pub and_left : (a b : Bool) → (a && b) ≡ true → a ≡ true
and_left true b e = refl
and_left false b e = e

pub and_right : (a b : Bool) → (a && b) ≡ true → b ≡ true
and_right true b e = e
and_right false b e = absurd (false≢true e)

pub and_both : (a b : Bool) → a ≡ true → b ≡ true → (a && b) ≡ true
and_both a b p q = rw (p, q)

pub or_left : (a b : Bool) → (a || b) ≡ false → a ≡ false
or_left true b e = e
or_left false b e = refl

pub or_right : (a b : Bool) → (a || b) ≡ false → b ≡ false
or_right true b e = absurd (true≢false e)
or_right false b e = e

pub not_false : (a : Bool) → not a ≡ false → a ≡ true
not_false true e = refl
not_false false e = absurd (true≢false e)

pub not_true : (a : Bool) → not a ≡ true → a ≡ false
not_true true e = absurd (false≢true e)
not_true false e = refl

-- a test is true or false, with the equation
pub either : (a : Bool) → (a ≡ true) ⊎ (a ≡ false)
either true = inl refl
either false = inr refl

-- what holds of both sides of a choice holds of the choice
pub cond_keeps : {A : Type 0} (P : A → Type 0) (b : Bool) (x y : A) → P x → P y → P (cond b x y)
cond_keeps P true x y p q = p
cond_keeps P false x y p q = q

-- an index below n + 1 is below n, or is n
pub below_or_last : (k n : ℕ) → k < suc n → (k < n) ⊎ (k ≡ n)
below_or_last k n h =
    ⊎_elim
    (λ e. inl (ltb-true k n e))
    (λ e. let l : n ≤ k = ltb-false k n e in inr (omega arith))
    (either (ltb k n))

-- ---- every

module _ (p : ℕ → Bool) where
  pub every_at : (n : ℕ) → every_up_to p n ≡ true → (i : ℕ) → i < n → p i ≡ true
  unfolding every_up_to
  every_at zero e i h = absurd (not-suc-le-zero h)
  every_at (suc n) e i h =
      ⊎_elim
      (λ l. every_at n (and_left (every_up_to p n) (p n) e) i l)
      (λ q. subst (λ (k : ℕ). p k ≡ true) (sym q) (and_right (every_up_to p n) (p n) e))
      (below_or_last i n h)

  pub every_all : (n : ℕ) → ((i : ℕ) → i < n → p i ≡ true) → every_up_to p n ≡ true
  unfolding every_up_to
  every_all zero h = refl
  every_all (suc n) h =
      and_both
      (every_up_to p n)
      (p n)
      (every_all n (λ i l. h i (omega arith)))
      (h n (omega arith))

  -- ---- some

  pub some_none : (n : ℕ) → some_up_to p n ≡ false → (i : ℕ) → i < n → p i ≡ false
  unfolding some_up_to
  some_none zero e i h = absurd (not-suc-le-zero h)
  some_none (suc n) e i h =
      ⊎_elim
      (λ l. some_none n (or_left (some_up_to p n) (p n) e) i l)
      (λ q. subst (λ (k : ℕ). p k ≡ false) (sym q) (or_right (some_up_to p n) (p n) e))
      (below_or_last i n h)

  pub none_some : (n : ℕ) → ((i : ℕ) → i < n → p i ≡ false) → some_up_to p n ≡ false
  unfolding some_up_to
  none_some zero h = refl
  none_some (suc n) h = rw (none_some n (λ i l. h i (omega arith))) (h n (omega arith))

  -- ---- first

  pub first_le : (n : ℕ) → first_up_to p n ≤ n
  unfolding first_up_to
  first_le zero = omega arith
  first_le (suc n) =
      ⊎_elim
      (λ e. rw e (⊎_elim (λ q. rw q (omega arith)) (λ q. rw q (omega arith)) (either (p n))))
      (λ e. rw e (let l : first_up_to p n ≤ n = first_le n in omega arith))
      (either (eqb (first_up_to p n) n))

  -- the index found is one at which p holds
  pub first_at : (n : ℕ) → first_up_to p n < n → p (first_up_to p n) ≡ true
  unfolding first_up_to
  first_at zero h = absurd (not-suc-le-zero h)
  first_at (suc n) h = found (first_at n) (either (eqb (first_up_to p n) n)) (either (p n))
    where
      found :
          (first_up_to p n < n → p (first_up_to p n) ≡ true)
          → (eqb (first_up_to p n) n ≡ true) ⊎ (eqb (first_up_to p n) n ≡ false)
          → (p n ≡ true) ⊎ (p n ≡ false)
          → p (first_next (first_up_to p n) n (p n)) ≡ true
      found before (inl e) (inl q) = rw (e, q) q
      found before (inl e) (inr q) =
          let z : n + 1 < suc n = rw (e, q) at h in absurd (omega arith)
      found before (inr e) w =
          let l : first_up_to p n ≤ n = first_le n in
          let d : first_up_to p n ≡ n → ⊥ = eqb-false (first_up_to p n) n e in
          rw e (before (omega (arith, d)))

  -- one is found below n where there is one
  pub first_below : (n i : ℕ) → i < n → p i ≡ true → first_up_to p n < n
  unfolding first_up_to
  first_below zero i h e = absurd (not-suc-le-zero h)
  first_below (suc n) i h e =
      ⊎_elim
      (λ l.
      let b : first_up_to p n < n = first_below n i l e in
      rw (ne_eqb (first_up_to p n) n (λ q. omega arith)) (omega arith))
      (λ q.
      let here : p n ≡ true = subst (λ (k : ℕ). p k ≡ true) q e in
      let l : first_up_to p n ≤ n = first_le n in
      rw here (cond_keeps (λ (k : ℕ). k < suc n) (eqb (first_up_to p n) n) n (first_up_to p n) (omega arith) (omega arith)))
      (below_or_last i n h)

-- ---- sum and largest

module _ (f : ℕ → ℕ) where
  pub sum_at : (n i : ℕ) → i < n → f i ≤ sum_up_to f n
  unfolding sum_up_to
  sum_at zero i h = absurd (not-suc-le-zero h)
  sum_at (suc n) i h =
      ⊎_elim
      (λ l. let m : f i ≤ sum_up_to f n = sum_at n i l in omega arith)
      (λ q. rw q (omega arith))
      (below_or_last i n h)

  pub sum_most : (b : ℕ) → ((i : ℕ) → f i ≤ b) → (n : ℕ) → sum_up_to f n ≤ n * b
  unfolding sum_up_to
  sum_most b h zero = omega arith
  sum_most b h (suc n) =
      let m : sum_up_to f n ≤ n * b = sum_most b h n in
      let k : f n ≤ b = h n in
      rw suc-mul (omega arith)

  pub most_at : (n i : ℕ) → i < n → f i ≤ most_up_to f n
  unfolding most_up_to
  most_at zero i h = absurd (not-suc-le-zero h)
  most_at (suc n) i h =
      ⊎_elim
      (λ l. let m : f i ≤ most_up_to f n = most_at n i l in omega arith)
      (λ q. rw q (omega arith))
      (below_or_last i n h)

  -- a bound of every place is a bound of the largest
  pub most_below : (b n : ℕ) → ((i : ℕ) → i < n → f i ≤ b) → most_up_to f n ≤ b
  unfolding most_up_to
  most_below b zero h = omega arith
  most_below b (suc n) h =
      let m : most_up_to f n ≤ b = most_below b n (λ i l. h i (omega arith)) in
      let k : f n ≤ b = h n (omega arith) in
      omega arith

-- ---- loops that agree at every index agree

pub every_same : (p q : ℕ → Bool) (n : ℕ) → ((i : ℕ) → i < n → p i ≡ q i) → every_up_to p n ≡ every_up_to q n
unfolding every_up_to
every_same p q zero h = refl
every_same p q (suc n) h =
    ap₂ ◌&&◌ (every_same p q n (λ i l. h i (omega arith))) (h n (omega arith))

pub sum_same : (f g : ℕ → ℕ) (n : ℕ) → ((i : ℕ) → i < n → f i ≡ g i) → sum_up_to f n ≡ sum_up_to g n
unfolding sum_up_to
sum_same f g zero h = refl
sum_same f g (suc n) h =
    ap₂ ◌+◌ (sum_same f g n (λ i l. h i (omega arith))) (h n (omega arith))
