-- The answered mask: which bit an answer sets, and which it leaves. Assumes nothing.
use Rattle.std.specs.Prelude.{ℕ, ◌+◌, ◌*◌, ◌/◌, ◌%◌, ◌^◌, ◌<◌, max, ◌≡◌, refl, ◌≢◌, true, false, eqb}
use Rattle.std.proofs.Common.{arith, sym, ap, ◌∙◌, eqb-true, eq-eqb, ne_eqb}
use Rattle.std.proofs.Math.Nat.{zero-div}
use Rattle.std.specs.Int.Bits.{bit_or, or_step}
use Rattle.std.proofs.lemmas.Nat.{or_shr, or_lt}
use Rattle.rules.specs.Loops.{one_if, every_up_to}
use Rattle.rules.specs.LoopsLaws.{every_at}
use Rattle.rules.specs.Parts.{has_answered, with_answer}
use Rattle.runs.specs.Types.{Figures, Round}

-- bit v of 2 to the s
powers : every_up_to (λ s. every_up_to (λ v. eqb (2 ^ s / 2 ^ v % 2) (one_if (eqb s v))) 8) 8 ≡ true
unfolding every_up_to
powers = refl

power_bit : (s v : ℕ) → s < 8 → v < 8 → 2 ^ s / 2 ^ v % 2 ≡ one_if (eqb s v)
power_bit s v i j =
    eqb-true
    (2 ^ s / 2 ^ v % 2)
    (one_if (eqb s v))
    (every_at
    (λ y. eqb (2 ^ s / 2 ^ y % 2) (one_if (eqb s y)))
    8
    (every_at (λ x. every_up_to (λ y. eqb (2 ^ x / 2 ^ y % 2) (one_if (eqb x y))) 8) 8 powers s i)
    v
    j)

-- small powers, by one test
below_256 : every_up_to (λ s. eqb (2 ^ s / 256) 0) 8 ≡ true
unfolding every_up_to
below_256 = refl

power_lt : (s : ℕ) → s < 8 → 2 ^ s < 256
power_lt s i =
    let e : 2 ^ s / 256 ≡ 0 = eqb-true _ _ (every_at (λ x. eqb (2 ^ x / 256) 0) 8 below_256 s i) in
    omega arith

-- the last bit of a or b is the larger of the two
or_last : (a b : ℕ) → bit_or a b % 2 ≡ max (a % 2) (b % 2)
or_last a b =
    let e : bit_or a b ≡ bit_or (a / 2) (b / 2) * 2 + max (a % 2) (b % 2) = or_step a b in
    rw e (omega arith)

module _ (r : Round) (s : ℕ) (f : Figures) (i : s < 8) where
  mask_bit : (v : ℕ) → v < 8 → (with_answer r s f).answered / 2 ^ v % 2 ≡ max (r.answered / 2 ^ v % 2) (one_if (eqb s v))
  mask_bit v j =
      rw
      (or_shr r.answered (2 ^ s) v, or_last (r.answered / 2 ^ v) (2 ^ s / 2 ^ v), power_bit s v i j)
      refl

  -- the source has answered
  pub answered_here : has_answered (with_answer r s f) s ≡ true
  answered_here =
      let e : (with_answer r s f).answered / 2 ^ s % 2 ≡ max (r.answered / 2 ^ s % 2) (one_if (eqb s s)) = mask_bit s i in
      let o : one_if (eqb s s) ≡ 1 = rw (eq-eqb s s refl) in
      eq-eqb _ _ (e ∙ (rw o (omega arith)))

  -- every other site as before
  pub answered_other : (v : ℕ) → v < 8 → v ≢ s → has_answered (with_answer r s f) v ≡ has_answered r v
  answered_other v j n =
      let e : (with_answer r s f).answered / 2 ^ v % 2 ≡ max (r.answered / 2 ^ v % 2) (one_if (eqb s v)) = mask_bit v j in
      let o : one_if (eqb s v) ≡ 0 = rw (ne_eqb s v (λ q. n (sym q))) in
      let z : max (r.answered / 2 ^ v % 2) (one_if (eqb s v)) ≡ r.answered / 2 ^ v % 2 = rw o (omega arith) in
      ap (λ (x : ℕ). eqb x 1) (e ∙ z)

  pub mask_lt : r.answered < 256 → (with_answer r s f).answered < 256
  mask_lt m = or_lt 8 r.answered (2 ^ s) m (power_lt s i)

-- nobody has answered where the mask is 0
pub nobody_answers : (r : Round) (v : ℕ) → r.answered ≡ 0 → v < 8 → has_answered r v ≡ false
nobody_answers r v e i = let z : 0 / 2 ^ v ≡ 0 = zero-div (2 ^ v) in rw (e, z)
