-- Laws of storing for objects: the four of a bank hold what was left there, every other is as it was. Assumes nothing.
use Rattle.std.specs.Prelude.{ℕ, zero, suc, ◌+◌, ◌*◌, ◌/◌, ◌%◌, ◌≤◌, ◌<◌, ◌≡◌, refl, ◌≢◌, ◌⊎◌, List, ltb, length, set}
use native.Mathlib.Omega.{arith}
use Rattle.std.proofs.Common.{add-zero, ne_of_lt, ap, ◌∙◌, ⊎_elim, length-set, get_or-set_same, get_or-set_other}
use Rattle.std.proofs.Math.Path.{subst}
use Rattle.std.proofs.Math.Logic.{inl, inr}
use Rattle.std.proofs.Math.ListN.{get_or}
use borrow.Author.Tests.{ltb-true, ltb-false}
use Rattle.rules.specs.Types.{Object, Tables, Places, Seen}
use Rattle.rules.specs.LoopsLaws.{either}
use Rattle.rules.specs.Tables.{past_object, object_at, bank_at, object_site}
use Rattle.rules.specs.Parts.{each_of}
use Rattle.rules.specs.Machine.{stored}
use Rattle.rules.specs.StoredLaws.{Sized, Placed}

-- four stores, one after the other, at b, b + 1, b + 2 and b + 3
module _ (l xs : List Object) (b : ℕ) where
  abbrev set₁ : List Object
  set₁ = set l b (get_or xs 0 past_object)

  abbrev set₂ : List Object
  set₂ = set set₁ (b + 1) (get_or xs 1 past_object)

  abbrev set₃ : List Object
  set₃ = set set₂ (b + 2) (get_or xs 2 past_object)

  abbrev set₄ : List Object
  set₄ = set set₃ (b + 3) (get_or xs 3 past_object)

  away : (k j : ℕ) → b ≤ j → j ≤ b + 3 → (k < b) ⊎ (b + 3 < k) → k ≢ j
  away k j g h (inl q) e = let y : k ≡ j = e in omega arith
  away k j g h (inr q) e = let y : k ≡ j = e in omega arith

  four_other : (k : ℕ) → (k < b) ⊎ (b + 3 < k) → get_or set₄ k past_object ≡ get_or l k past_object
  four_other k o =
      get_or-set_other set₃ (b + 3) k _ past_object (away k (b + 3) (omega arith) (omega arith) o)
      ∙ get_or-set_other set₂ (b + 2) k _ past_object (away k (b + 2) (omega arith) (omega arith) o)
      ∙ get_or-set_other set₁ (b + 1) k _ past_object (away k (b + 1) (omega arith) (omega arith) o)
      ∙ get_or-set_other l b k _ past_object (away k b (omega arith) (omega arith) o)

  four_same : (i : ℕ) → i < 4 → b + 3 < length l → get_or set₄ (b + i) past_object ≡ get_or xs i past_object
  four_same zero h s =
      rw
      (add-zero b)
      (get_or-set_other set₃ (b + 3) b _ past_object (ne_of_lt (omega arith))
      ∙ get_or-set_other set₂ (b + 2) b _ past_object (ne_of_lt (omega arith))
      ∙ get_or-set_other set₁ (b + 1) b _ past_object (ne_of_lt (omega arith))
      ∙ get_or-set_same l b _ past_object (omega arith))
  four_same (suc zero) h s =
      get_or-set_other set₃ (b + 3) (b + 1) _ past_object (ne_of_lt (omega arith))
      ∙ get_or-set_other set₂ (b + 2) (b + 1) _ past_object (ne_of_lt (omega arith))
      ∙ get_or-set_same set₁ (b + 1) _ past_object (rw length-set (omega arith))
  four_same (suc (suc zero)) h s =
      get_or-set_other set₃ (b + 3) (b + 2) _ past_object (ne_of_lt (omega arith))
      ∙ get_or-set_same set₂ (b + 2) _ past_object (rw (length-set, length-set) (omega arith))
  four_same (suc (suc (suc zero))) h s =
      get_or-set_same set₃ (b + 3) _ past_object (rw (length-set, length-set, length-set) s)
  four_same (suc (suc (suc (suc i)))) h s = absurd (omega arith)

-- the i-th of the four objects seen
pub seen_object_at : (t : Tables) (b i : ℕ) → i < 4 → get_or (bank_at t b) i past_object ≡ object_at t (4 * b + i)
seen_object_at t b zero h = rw (add-zero (4 * b))
seen_object_at t b (suc zero) h = refl
seen_object_at t b (suc (suc zero)) h = refl
seen_object_at t b (suc (suc (suc zero))) h = refl
seen_object_at t b (suc (suc (suc (suc i)))) h = absurd (omega arith)

-- an object as its bank shows it
pub seen_object : (t : Tables) (k b : ℕ) → object_site k ≡ b → get_or (bank_at t b) (k % 4) past_object ≡ object_at t k
seen_object t k b e =
    let q : k / 4 ≡ b = e in
    let y : 4 * b + k % 4 ≡ k = omega arith in
    seen_object_at t b (k % 4) (omega arith) ∙ ap (object_at t) y

-- a change of each of the four objects, object by object
pub each_at :
    (f : Object → Object) (os : List Object) (i : ℕ) → i < 4 → get_or (each_of f os) i past_object ≡ f (get_or os i past_object)
each_at f os zero h = refl
each_at f os (suc zero) h = refl
each_at f os (suc (suc zero)) h = refl
each_at f os (suc (suc (suc zero))) h = refl
each_at f os (suc (suc (suc (suc i)))) h = absurd (omega arith)

module _ (t : Tables) (at : Places) (left : Seen) where
  -- in the bank: what was left there
  pub object_after_stored :
      Sized t → Placed at → (k : ℕ) → object_site k ≡ at.bank → object_at (stored t at left) k ≡ get_or left.objects (k % 4) past_object
  unfolding stored
  object_after_stored z h k e =
      let q : k / 4 ≡ at.bank = e in
      let b : at.bank < 8 = h.bank in
      let y : 4 * at.bank + k % 4 ≡ k = omega arith in
      subst
      (λ (j : ℕ). get_or (set₄ t.objects left.objects (4 * at.bank)) j past_object ≡ get_or left.objects (k % 4) past_object)
      y
      (four_same t.objects left.objects (4 * at.bank) (k % 4) (omega arith) (rw z.objects (omega arith)))

  -- outside it: as before
  pub object_after_stored_other :
      (k : ℕ) → object_site k ≢ at.bank → object_at (stored t at left) k ≡ object_at t k
  unfolding stored
  object_after_stored_other k n =
      let d : k / 4 ≡ at.bank → ⊥ = n in
      four_other
      t.objects
      left.objects
      (4 * at.bank)
      k
      (⊎_elim
      (λ e. inl (ltb-true k (4 * at.bank) e))
      (λ e. let y : 4 * at.bank ≤ k = ltb-false k (4 * at.bank) e in inr (omega (arith, d)))
      (either (ltb k (4 * at.bank))))
