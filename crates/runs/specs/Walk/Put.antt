-- A function over places with one place changed. Assumes nothing.
use Rattle.std.specs.Prelude.{ℕ, ◌+◌, ◌<◌, zero, suc, ◌≡◌, refl, ◌≢◌, ◌⊎◌, cond, List, [], ◌∷◌, eqb, get_or, set}
use Rattle.std.proofs.Common.{arith, not-suc-le-zero, ne_of_lt, sym, ◌∙◌, inl, inr}
use Rattle.std.proofs.Math.Logic.{⊎_elim}
use borrow.Author.Tests.{eqb-true, eqb-false, eq-eqb, ne_eqb}
use Rattle.rules.specs.Loops.{sum_up_to}
use Rattle.rules.specs.LoopsLaws.{either, below_or_last, sum_same}

-- f, but x at place a
unfoldable pub put : {A : Type 0} → (ℕ → A) → ℕ → A → ℕ → A
put f a x s = cond (eqb s a) x (f s)

module _ {A : Type 0} (f : ℕ → A) (a : ℕ) (x : A) where
  pub put_same : put f a x a ≡ x
  unfolding put
  put_same = rw (eq-eqb a a refl)

  pub put_other : (s : ℕ) → s ≢ a → put f a x s ≡ f s
  unfolding put
  put_other s n = rw (ne_eqb s a n)

  -- what holds of the new record at its place, and of every other place, holds of all
  pub put_all : (P : ℕ → A → Type 0) → P a x → ((s : ℕ) → s ≢ a → P s (f s)) → (s : ℕ) → P s (put f a x s)
  unfolding put
  put_all P here other s =
      ⊎_elim
      (λ e. let q : s ≡ a = eqb-true s a e in rw (e, q) here)
      (λ e. rw e (other s (eqb-false s a e)))
      (either (eqb s a))

-- functions that agree everywhere are one
pub everywhere : {A : Type 0} {f g : ℕ → A} → ((s : ℕ) → f s ≡ g s) → f ≡ g
everywhere h = λ i s. h s i

-- to put back what is there changes nothing
pub put_back : {A : Type 0} (f : ℕ → A) (a : ℕ) (x : A) → x ≡ f a → put f a x ≡ f
put_back f a x e = everywhere (put_all f a x (λ s y. y ≡ f s) e (λ s n. refl))

-- what is put twice at one place is there as it was put last
pub put_again : {A : Type 0} (f : ℕ → A) (a : ℕ) (x y : A) → put (put f a x) a y ≡ put f a y
put_again f a x y =
    everywhere
    (put_all (put f a x) a y (λ s z. z ≡ put f a y s) (sym (put_same f a y)) (λ s n. put_other f a x s n ∙ sym (put_other f a y s n)))

-- a place is a, or another
pub same_or_other : (s a : ℕ) → (s ≡ a) ⊎ (s ≢ a)
same_or_other s a =
    ⊎_elim
    (λ e. inl (eqb-true s a e))
    (λ e. inr (eqb-false s a e))
    (either (eqb s a))

-- a sum with one place changed
pub sum_put : (f : ℕ → ℕ) (a x n : ℕ) → a < n → sum_up_to (put f a x) n + f a ≡ sum_up_to f n + x
unfolding sum_up_to
sum_put f a x zero h = absurd (not-suc-le-zero h)
sum_put f a x (suc n) h =
    ⊎_elim
    (λ l.
    let m : sum_up_to (put f a x) n + f a ≡ sum_up_to f n + x = sum_put f a x n l in
    let o : put f a x n ≡ f n = put_other f a x n (λ e. ne_of_lt l (sym e)) in
    rw o (omega arith))
    (λ q.
    let o : sum_up_to (put f a x) n ≡ sum_up_to f n =
    sum_same (put f a x) f n (λ i l. put_other f a x i (ne_of_lt (rw q l))) in
    rw (o, ← q, put_same f a x) (omega arith))
    (below_or_last a n h)

-- one element of a list is replaced: what holds of it at its place, and of each other at its own, holds after it
pub set_at : {A : Type 0} (P : ℕ → A → Type 0) (l : List A) (i j : ℕ) (a d : A) → P j (get_or l j d) → P i a → P j (get_or (set l i a) j d)
set_at P [] i j a d h k = h
set_at P (x ∷ xs) zero zero a d h k = k
set_at P (x ∷ xs) zero (suc j) a d h k = h
set_at P (x ∷ xs) (suc i) zero a d h k = h
set_at P (x ∷ xs) (suc i) (suc j) a d h k = set_at (λ n. P (suc n)) xs i j a d h k
