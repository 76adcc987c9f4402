-- Laws of the parts of an object: who holds one that is taken, read or written, freed or restored, and what its values are then.
-- Other laws ask who holds an object by is_unheld, is_held_by and is_held_by_other alone; only those of this file know what a holder is. Assumes nothing.
use Rattle.std.specs.Prelude.{ℕ, ◌≡◌, refl, ◌≢◌, ◌⊎◌, Bool, true, false, cond, not, ◌&&◌, ◌||◌, eqb, Some, None}
use Rattle.std.proofs.Common.{sym, ap, ◌∙◌, ⊎_elim, inl, inr, true≢false, eqb-true, eq-eqb, ne_eqb}
use Rattle.std.proofs.lemmas.Bool.{false≢true, eqb-false}
use Rattle.rules.specs.Types.{Holder, Object, Call}
use Rattle.rules.specs.LoopsLaws.{not_false, not_true, either, and_left, and_right}
use Rattle.rules.specs.Tables.{no_object, past_object}
use Rattle.rules.specs.Parts.{is_unheld, is_held_by, is_held_by_other, taken, operated, unheld, freed, restored}

-- ---- what the names mean

-- a passage slot holds an object exactly if the object's holder is that slot
pub held_means :
    (p : ℕ) (o : Object)
    → (is_held_by p o ≡ true → o.holder ≡ Some p) × (o.holder ≡ Some p → is_held_by p o ≡ true)
held_means p o = (says o.holder refl, λ e. rw (e, eq-eqb p p refl))
  where
    says : (x : Holder) → o.holder ≡ x → is_held_by p o ≡ true → o.holder ≡ Some p
    says None y e = absurd (false≢true (rw y at e))
    says (Some k) y e = y ∙ ap Some (eqb-true k p (rw y at e))

-- an object is unheld exactly if its holder is nobody
pub unheld_means :
    (o : Object) → (is_unheld o ≡ true → o.holder ≡ None) × (o.holder ≡ None → is_unheld o ≡ true)
unheld_means o = (says o.holder refl, λ e. rw e)
  where
    says : (x : Holder) → o.holder ≡ x → is_unheld o ≡ true → o.holder ≡ None
    says None y e = y
    says (Some k) y e = absurd (false≢true (rw y at e))

-- ---- who holds it

-- nobody holds an unheld object
pub unheld_not_held : (p : ℕ) (o : Object) → is_unheld o ≡ true → is_held_by p o ≡ false
unheld_not_held p o e = rw ((unheld_means o).0 e)

pub held_not_unheld : (p : ℕ) (o : Object) → is_held_by p o ≡ true → is_unheld o ≡ false
held_not_unheld p o e = rw ((held_means p o).0 e)

-- somebody holds an object that is not unheld
pub someone_holds : (o : Object) → is_unheld o ≡ false → (p : ℕ) × (is_held_by p o ≡ true)
someone_holds o = says o.holder refl
  where
    says : (x : Holder) → o.holder ≡ x → is_unheld o ≡ false → (p : ℕ) × (is_held_by p o ≡ true)
    says None y e = absurd (true≢false (sym ((unheld_means o).1 y) ∙ e))
    says (Some k) y e = (k, (held_means k o).1 y)

-- the object of an empty place is unheld, and so is the one past the end
pub none_unheld : (is_unheld no_object ≡ true) × (is_unheld past_object ≡ true)
none_unheld = (refl, refl)

-- and so is one that was let go
pub let_go_unheld : (value : ℕ) → is_unheld (unheld value) ≡ true
let_go_unheld value = refl

-- ---- two who hold one object are one

-- let_go_one below uses it, and in runs listed_by_one, value_while_held, operation_before_letting_go, never_on_both_sides and abort_is_whole
pub one_holder : (p q : ℕ) (o : Object) → is_held_by p o ≡ true → is_held_by q o ≡ true → p ≡ q
one_holder p q o e f = let y : o.holder ≡ Some p = (held_means p o).0 e in eqb-true p q (rw y at f)

-- ---- taken, then read or written

-- who holds it stays as it is while it is read or written
operated_held : (q : ℕ) (c : Call) (o : Object) → is_held_by q (operated c o) ≡ is_held_by q o
operated_held q c o = ⊎_elim (λ e. rw e) (λ e. rw e) (either c.write)

module _ (p : ℕ) (o : Object) where
  value_of_taken : (taken p o).value ≡ o.value
  value_of_taken = ⊎_elim (λ e. rw e) (λ e. rw e) (either (is_unheld o))

  -- a read leaves the value
  pub value_of_read : (c : Call) → c.write ≡ false → (operated c (taken p o)).value ≡ o.value
  value_of_read c e = rw e value_of_taken

  pub value_of_written : (c : Call) → c.write ≡ true → (operated c (taken p o)).value ≡ c.value
  value_of_written c e = rw e

  -- the value before is saved where nobody held the object, and stays where someone did
  pub before_of_called : (c : Call) → (operated c (taken p o)).before ≡ cond (is_unheld o) o.value o.before
  before_of_called c = ⊎_elim (λ e. rw e taken_before) (λ e. rw e taken_before) (either c.write)
    where
      taken_before : (taken p o).before ≡ cond (is_unheld o) o.value o.before
      taken_before = ⊎_elim (λ e. rw e) (λ e. rw e) (either (is_unheld o))

  -- someone holds it then
  pub called_not_unheld : (c : Call) → is_unheld (operated c (taken p o)) ≡ false
  called_not_unheld c = ⊎_elim (λ e. rw e is_taken) (λ e. rw e is_taken) (either c.write)
    where
      is_taken : is_unheld (taken p o) ≡ false
      is_taken = ⊎_elim (λ e. rw e) (λ e. rw e e) (either (is_unheld o))

  -- taken where no other holds it: p holds it then, and who held it
  pub take_one :
      (q : ℕ) (c : Call) → is_held_by_other p o ≡ false → is_held_by q (operated c (taken p o)) ≡ (eqb p q || is_held_by q o)
  take_one q c free = operated_held q c (taken p o) ∙ takes o.holder refl
    where
      or_none : (b : Bool) → b ≡ (b || false)
      or_none true = refl
      or_none false = refl

      or_same : (b : Bool) → b ≡ (b || b)
      or_same true = refl
      or_same false = refl

      takes : (x : Holder) → o.holder ≡ x → is_held_by q (taken p o) ≡ (eqb p q || is_held_by q o)
      takes None y = rw y (or_none (eqb p q))
      takes (Some k) y =
          let e : k ≡ p = eqb-true k p (not_false _ (rw y at free)) in rw (y, e) (or_same (eqb p q))

  -- so p holds it then
  pub holder_of_called : (c : Call) → is_held_by_other p o ≡ false → is_held_by p (operated c (taken p o)) ≡ true
  holder_of_called c free = take_one p c free ∙ (rw (eq-eqb p p refl))

  -- and who else holds it held it
  pub taken_holder :
      (q : ℕ) (c : Call) → is_held_by_other p o ≡ false → is_held_by q (operated c (taken p o)) ≡ true
      → (q ≡ p) ⊎ (is_held_by q o ≡ true)
  taken_holder q c free e =
      ⊎_elim
      (λ y. inl (sym (eqb-true p q y)))
      (λ y. inr (rw y at (sym (take_one q c free) ∙ e)))
      (either (eqb p q))

  -- who holds an object holds it after any call for it
  pub taken_held : (q : ℕ) (c : Call) → is_held_by q o ≡ true → is_held_by q (operated c (taken p o)) ≡ true
  taken_held q c e = operated_held q c (taken p o) ∙ (rw (held_not_unheld q o e) e)

-- ---- freed or restored

-- a change of an object by which slot p lets go of it: p does not hold it then, any other as before
abbrev pub LetsGoOf : ℕ → (Object → Object) → Type 0
LetsGoOf p f = (q : ℕ) (o : Object) → is_held_by q (f o) ≡ (is_held_by q o && not (eqb q p))

-- whatever value it is let go with
let_go_one :
    (p value q : ℕ) (o : Object) → is_held_by q (cond (is_held_by p o) (unheld value) o) ≡ (is_held_by q o && not (eqb q p))
let_go_one p value q o = by_slots (either (is_held_by p o)) (either (is_held_by q o))
  where
    by_slots :
        (is_held_by p o ≡ true) ⊎ (is_held_by p o ≡ false) → (is_held_by q o ≡ true) ⊎ (is_held_by q o ≡ false)
        → is_held_by q (cond (is_held_by p o) (unheld value) o) ≡ (is_held_by q o && not (eqb q p))
    by_slots (inl e) (inl f) = rw (e, f, eq-eqb q p (one_holder q p o f e))
    by_slots (inl e) (inr f) = rw (e, f)
    by_slots (inr e) (inl f) = rw (e, f, ne_eqb q p (λ y. true≢false (sym f ∙ ap (λ (x : ℕ). is_held_by x o) y ∙ e)))
    by_slots (inr e) (inr f) = rw (e, f)

pub freed_lets_go : (p : ℕ) → LetsGoOf p (freed p)
freed_lets_go p q o = let_go_one p _ q o

pub restored_lets_go : (p : ℕ) → LetsGoOf p (restored p)
restored_lets_go p q o = let_go_one p _ q o

module _ (p q : ℕ) (f : Object → Object) (law : LetsGoOf p f) (o : Object) where
  -- who still holds it held it, and is not p
  pub let_go_holder : is_held_by q (f o) ≡ true → (is_held_by q o ≡ true) × (q ≢ p)
  let_go_holder e =
      let b : (is_held_by q o && not (eqb q p)) ≡ true = sym (law q o) ∙ e in
      (and_left _ _ b, eqb-false q p (not_true _ (and_right (is_held_by q o) _ b)))

  -- any other who held it still holds it
  pub let_go_other : is_held_by q o ≡ true → q ≢ p → is_held_by q (f o) ≡ true
  let_go_other e n = law q o ∙ (rw (e, ne_eqb q p n))

-- what the slot held and is freed keeps its value; what it did not hold is as it was
module _ (p : ℕ) (o : Object) where
  pub freed_held : is_held_by p o ≡ true → freed p o ≡ unheld o.value
  freed_held e = rw e

  pub freed_other : is_held_by p o ≡ false → freed p o ≡ o
  freed_other e = rw e

  pub restored_other : is_held_by p o ≡ false → restored p o ≡ o
  restored_other e = rw e
