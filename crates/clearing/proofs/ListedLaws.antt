-- A test at each place of a list is a test of each of its elements. Assumes nothing.
use Rattle.std.specs.Prelude.{ℕ, zero, suc, ◌+◌, ◌≤◌, ◌<◌, ◌≡◌, refl, Bool, ◌&&◌, ◌||◌, true, false, cond, List, [], ◌∷◌, ◌++◌, eqb, ltb, leb, length, get_or, take}
use Rattle.std.specs.List.{fold, filter, list_any, list_all, range_with_len}
use Rattle.std.proofs.Common.{arith, add-one, sym, ap, ◌∙◌}
use Rattle.std.proofs.Math.Bool.{or-false}
use Rattle.std.proofs.Math.Seq.{take-length}
use Rattle.std.proofs.lemmas.List.Elements.{filter-append}
use Rattle.std.proofs.lemmas.List.Sums.{fold-append}
use Rattle.std.proofs.lemmas.List.Folds.{list_any_more, list_all_more, list_any-append}
use Rattle.rules.specs.declared.tables.Tables.{Tables}
use Rattle.rules.specs.Limits.{object_most}
use Rattle.rules.specs.Loops.{some_up_to, every_up_to}
use Rattle.rules.specs.Tables.{object_site}
use Rattle.clearing.specs.Question.{listed, bad_object, is_named_before, has_object_at, is_to_ask, is_fitting}
use Rattle.clearing.specs.declared.way.Way.{Way}
use Rattle.clearing.specs.Clearing.{ask_one, asks_up_to, tell_one, tells_up_to}

module _ {X : Type 0} (p : X → Bool) (xs : List X) (d : X) where
  pub some_taken : (n : ℕ) → n ≤ length xs → some_up_to (λ i. p (get_or xs i d)) n ≡ list_any p (take n xs)
  unfolding some_up_to
  some_taken zero l = refl
  some_taken (suc n) l =
      ap (λ (b : Bool). b || p (get_or xs n d)) (some_taken n (omega arith)) ∙ sym (rw add-one at (list_any_more p xs n d (omega arith)))

  pub every_taken : (n : ℕ) → n ≤ length xs → every_up_to (λ i. p (get_or xs i d)) n ≡ list_all p (take n xs)
  unfolding every_up_to
  every_taken zero l = refl
  every_taken (suc n) l =
      ap (λ (b : Bool). b && p (get_or xs n d)) (every_taken n (omega arith)) ∙ sym (rw add-one at (list_all_more p xs n d (omega arith)))

  pub some_listed : some_up_to (λ i. p (get_or xs i d)) (length xs) ≡ list_any p xs
  some_listed = some_taken (length xs) (omega arith) ∙ ap (list_any p) (take-length xs)

range_more : (a n : ℕ) → range_with_len a (suc n) ≡ range_with_len a n ++ ((a + n) ∷ [])
range_more a zero = ap (λ (k : ℕ). k ∷ []) (omega arith)
range_more a (suc n) =
    ap (λ (ks : List ℕ). a ∷ ks)
    (range_more (a + 1) n ∙ ap (λ (k : ℕ). range_with_len (a + 1) n ++ (k ∷ [])) (omega arith))

range_zero : (n : ℕ) → range_with_len 0 (suc n) ≡ range_with_len 0 n ++ (n ∷ [])
range_zero n = range_more 0 n ∙ ap (λ (k : ℕ). range_with_len 0 n ++ (k ∷ [])) (omega arith)

-- so is one at each number below n
pub some_ranged : (p : ℕ → Bool) (n : ℕ) → some_up_to p n ≡ list_any p (range_with_len 0 n)
unfolding some_up_to
some_ranged p zero = refl
some_ranged p (suc n) =
    ap (λ (b : Bool). b || p n) (some_ranged p n) ∙ sym one_more
  where
    one_more : list_any p (range_with_len 0 (suc n)) ≡ (list_any p (range_with_len 0 n) || p n)
    one_more =
        ap (list_any p) (range_zero n) ∙ list_any-append p (range_with_len 0 n) (n ∷ [])
        ∙ ap (λ (b : Bool). list_any p (range_with_len 0 n) || b) (or-false (p n))

-- what is done at each number below n that passes the test, from the first on
pub fold_ranged :
    {A : Type 0} (p : ℕ → Bool) (f : A → ℕ → A) (a : A) (n : ℕ)
    → fold f a (filter p (range_with_len 0 (suc n)))
    ≡ cond (p n) (f (fold f a (filter p (range_with_len 0 n))) n) (fold f a (filter p (range_with_len 0 n)))
fold_ranged p f a n =
    ap (λ (ks : List ℕ). fold f a (filter p ks)) (range_zero n)
    ∙ ap (fold f a) (filter-append p (range_with_len 0 n) (n ∷ []))
    ∙ fold-append f a (filter p (range_with_len 0 n)) (filter p (n ∷ []))
    ∙ at_last (p n)
  where
    at_last :
        (b : Bool)
        → fold f (fold f a (filter p (range_with_len 0 n))) (cond b (n ∷ []) [])
        ≡ cond b (f (fold f a (filter p (range_with_len 0 n))) n) (fold f a (filter p (range_with_len 0 n)))
    at_last true = refl
    at_last false = refl

pub asks_fold :
    (h home : ℕ) (objects : List ℕ) (w : Way) (n : ℕ)
    → asks_up_to h home objects w n ≡ fold (ask_one h) w (filter (is_to_ask home objects) (range_with_len 0 n))
unfolding asks_up_to
asks_fold h home objects w zero = refl
asks_fold h home objects w (suc n) =
    rw (asks_fold h home objects w n) (sym (fold_ranged (is_to_ask home objects) (ask_one h) w n))

pub tells_fold :
    (h home : ℕ) (objects : List ℕ) (t : Tables) (n : ℕ)
    → tells_up_to h home objects t n ≡ fold (tell_one h) t (filter (is_to_ask home objects) (range_with_len 0 n))
unfolding tells_up_to
tells_fold h home objects t zero = refl
tells_fold h home objects t (suc n) =
    rw (tells_fold h home objects t n) (sym (fold_ranged (is_to_ask home objects) (tell_one h) t n))

pub bad_object_any : (objects : List ℕ) → bad_object objects ≡ list_any (λ o. ltb object_most o) objects
bad_object_any objects = some_listed (λ o. ltb object_most o) objects 0

pub named_before_any : (objects : List ℕ) (i : ℕ) → i < length objects → is_named_before objects i ≡ list_any (λ o. eqb o (listed objects i)) (take i objects)
named_before_any objects i l = some_taken (λ o. eqb o (listed objects i)) objects 0 i (omega arith)

pub object_at_any : (objects : List ℕ) (site : ℕ) → has_object_at objects site ≡ list_any (λ o. eqb (object_site o) site) objects
object_at_any objects site = some_listed (λ o. eqb (object_site o) site) objects 0

pub fitting_all :
    (beam margin : ℕ) (widths : List ℕ) (count : ℕ) → count ≤ length widths
    → is_fitting beam margin widths count ≡ list_all (λ w. leb (beam + margin) w) (take count widths)
fitting_all beam margin widths count l = every_taken (λ w. leb (beam + margin) w) widths 0 count l
