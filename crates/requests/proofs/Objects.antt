-- The objects of a list, stored one by one. Assumes nothing.
use Rattle.std.proofs.Common.{ℕ, ◌+◌, ◌≤◌, ◌<◌, min, ◌≡◌, refl, sym, ap, ◌∙◌, true, false, cond, List, [], ◌∷◌, map, length, set, replicate, arith, Option, Some, None}
use Rattle.std.proofs.Math.Seq.{set_out}
use Rattle.requests.specs.Requests.{is_number, all_numbers, byte_of, first_nine}
use Rattle.requests.specs.Walk.{listed}

stored : List ℕ → ℕ → List ℕ → List ℕ
stored objects count [] = objects
stored objects count (b ∷ more) = stored (set objects count b) (min 9 (count + 1)) more

counted : ℕ → List (List ℕ) → ℕ
counted count [] = count
counted count (word ∷ words) = counted (min 9 (count + 1)) words

-- where so many are stored, and these words are left
pub stored_all : List ℕ → ℕ → List (List ℕ) → Option (List ℕ × ℕ)
stored_all objects count words = cond (all_numbers words) (Some (stored objects count (map byte_of words), counted count words)) None

-- ---- from none on, it is the list

stored_full : (objects more : List ℕ) → length objects ≤ 9 → stored objects 9 more ≡ objects
unfolding stored
stored_full objects [] h = refl
stored_full objects (b ∷ more) h = rw (set_out objects 9 b h) (stored_full objects more h)

stored_nine : (objects : List ℕ) → stored (replicate 9 0) 0 objects ≡ first_nine objects
unfolding stored
stored_nine [] = refl
stored_nine (a ∷ []) = refl
stored_nine (a ∷ b ∷ []) = refl
stored_nine (a ∷ b ∷ c ∷ []) = refl
stored_nine (a ∷ b ∷ c ∷ d ∷ []) = refl
stored_nine (a ∷ b ∷ c ∷ d ∷ e ∷ []) = refl
stored_nine (a ∷ b ∷ c ∷ d ∷ e ∷ f ∷ []) = refl
stored_nine (a ∷ b ∷ c ∷ d ∷ e ∷ f ∷ g ∷ []) = refl
stored_nine (a ∷ b ∷ c ∷ d ∷ e ∷ f ∷ g ∷ h ∷ []) = refl
stored_nine (a ∷ b ∷ c ∷ d ∷ e ∷ f ∷ g ∷ h ∷ i ∷ more) = stored_full (a ∷ b ∷ c ∷ d ∷ e ∷ f ∷ g ∷ h ∷ i ∷ []) more (omega arith)

counted_nine : (count : ℕ) (words : List (List ℕ)) → count ≤ 9 → counted count words ≡ min 9 (count + length words)
unfolding counted
counted_nine count [] h = omega arith
counted_nine count (word ∷ words) h = omega (arith, counted_nine (min 9 (count + 1)) words (omega arith))

pub stored_none : (words : List (List ℕ)) → stored_all (replicate 9 0) 0 words ≡ listed words
unfolding stored_all listed
stored_none words =
    let all : 0 + length words ≡ length words = omega arith in
    rw (stored_nine (map byte_of words), counted_nine 0 words (omega arith), all)

-- ---- one word more

module _ (objects : List ℕ) (count : ℕ) where
  pub stored_end : (words : List (List ℕ)) → words ≡ [] → stored_all objects count words ≡ Some (objects, count)
  unfolding stored_all stored counted all_numbers
  stored_end words e = rw e refl

  module _ (left words : List (List ℕ)) (word : List ℕ) (next : left ≡ word ∷ words) where
    pub stored_not : is_number word ≡ false → stored_all objects count left ≡ None
    unfolding stored_all all_numbers
    stored_not e = rw (next, e) refl

    stored_next : is_number word ≡ true → stored_all (set objects count (byte_of word)) (min 9 (count + 1)) words ≡ stored_all objects count left
    unfolding stored_all stored counted all_numbers
    stored_next e = rw (next, e)

    pub stored_more : is_number word ≡ true → count < 9 → stored_all (set objects count (byte_of word)) (count + 1) words ≡ stored_all objects count left
    stored_more e h =
        let few : count + 1 ≡ min 9 (count + 1) = omega arith in
        ap (λ (n : ℕ). stored_all (set objects count (byte_of word)) n words) few ∙ stored_next e

    pub stored_enough : is_number word ≡ true → 9 ≤ count → count ≤ 9 → length objects ≡ 9 → stored_all objects count words ≡ stored_all objects count left
    stored_enough e h few n =
        let full : count ≡ min 9 (count + 1) = omega arith in
        ap (λ (o : List ℕ). stored_all o count words) (sym (set_out objects count (byte_of word) (omega arith)))
        ∙ ap (λ (k : ℕ). stored_all (set objects count (byte_of word)) k words) full
        ∙ stored_next e
