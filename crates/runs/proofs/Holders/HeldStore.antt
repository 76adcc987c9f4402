-- Who holds an object has a visit at its site, and a call goes to its object's site: what a store must leave so that this stays. Assumes nothing.
use Rattle.std.specs.Prelude.{ℕ, ◌+◌, ◌*◌, ◌/◌, ◌%◌, ◌<◌, ◌≡◌, ◌≢◌, ◌⊎◌, true, false, get_or}
use Rattle.std.proofs.Common.{arith, sym, ap, ◌∙◌, subst, ⊎_elim, inl, inr, true≢false}
use Rattle.rules.specs.LoopsLaws.{either}
use Rattle.rules.specs.Tables.{past_object, visit_at, message_at, bank_at, object_site}
use Rattle.rules.specs.Parts.{is_held_by}
use Rattle.rules.specs.Machine.{stored}
use Rattle.rules.specs.Events.{is_holding}
use Rattle.rules.proofs.StoredObjects.{seen_object_at, object_after_stored, object_after_stored_other}
use Rattle.rules.specs.StoredLaws.{Placed, visit_place_same, visit_after_stored, visit_after_stored_other, message_after_stored, message_after_stored_other}
use Rattle.runs.specs.Types.{Call, Body, Message, Tables, Places, Seen}
use Rattle.runs.specs.Walk.Put.{same_or_other}
use Rattle.runs.proofs.Walk.Sound.{Sound}

-- ---- the invariant

-- a call that goes to its object's site, one of the 32 objects
abbrev pub GoesHome : Message → Call → Type 0
GoesHome m c = (m.destination ≡ object_site c.object) × (c.object < 32)

pub record Held (t : Tables) : Type 0 where
  pub sound : Sound t
  -- who holds an object is a slot with a visit at the object's site
  pub visits :
      (k p : ℕ) → k < 32 → is_holding t p k ≡ true
      → (p < 16) × ((visit_at t (object_site k) p).there ≡ true)
  -- a call in a message slot goes to its object's site
  pub calls : (m : ℕ) (c : Call) → (message_at t m).body ≡ Body.Call c → GoesHome (message_at t m) c

-- ---- what a store must keep to

pub record KeepsHeld (t : Tables) (at : Places) (left : Seen) : Type 0 where
  -- who holds an object held it before, or is the step's own slot, with a visit at that site
  pub objects :
      (i p : ℕ) → i < 4 → is_held_by p (get_or left.objects i past_object) ≡ true
      → (is_held_by p (get_or (bank_at t at.bank) i past_object) ≡ true)
      ⊎ ((p ≡ at.slot) × ((left.visit.there ≡ true) × (at.bank ≡ at.site)))
  -- a visit that is not there was not there, or has let go of all at its site
  pub visit :
      left.visit.there ≡ false
      → ((visit_at t at.site at.slot).there ≡ false)
      ⊎ ((at.bank ≡ at.site) × ((i : ℕ) → i < 4 → is_held_by at.slot (get_or left.objects i past_object) ≡ false))
  pub calls : (c : Call) → left.message.body ≡ Body.Call c → GoesHome left.message c

module _ (t : Tables) (at : Places) (left : Seen) (k : Held t) (h : Placed at) (x : KeepsHeld t at left) where
  -- a visit that was there is there, unless it is the step's own and has let go
  visit_after_store :
      (s p : ℕ) → p < 16 → (visit_at t s p).there ≡ true
      → ((at.bank ≡ s) → p ≡ at.slot → ((i : ℕ) → i < 4 → is_held_by p (get_or left.objects i past_object) ≡ false) → ⊥)
      → (visit_at (stored t at left) s p).there ≡ true
  visit_after_store s p l e never = place (same_or_other s at.site) (same_or_other p at.slot)
    where
      own : s ≡ at.site → p ≡ at.slot → (left.visit.there ≡ true) ⊎ (left.visit.there ≡ false) → left.visit.there ≡ true
      own a b (inl y) = y
      own a b (inr y) =
          ⊎_elim
          (λ gone. absurd (true≢false (sym e ∙ (rw (a, b) gone))))
          (λ free. absurd (never (free.0 ∙ sym a) b (λ i l. rw b (free.1 i l))))
          (x.visit y)

      place : (s ≡ at.site) ⊎ (s ≢ at.site) → (p ≡ at.slot) ⊎ (p ≢ at.slot) → (visit_at (stored t at left) s p).there ≡ true
      place (inl a) (inl b) =
          rw (a, b, visit_after_stored t at left k.sound.sized h) (own a b (either left.visit.there))
      place (inr a) b =
          rw (visit_after_stored_other t at left s p (λ y. a (visit_place_same s p at.site at.slot l h.slot y).0)) e
      place (inl a) (inr b) =
          rw (visit_after_stored_other t at left s p (λ y. b (visit_place_same s p at.site at.slot l h.slot y).1)) e

  -- who holds an object of the bank has a visit there
  held_inside :
      (j p : ℕ) → object_site j ≡ at.bank → j < 32 → is_held_by p (get_or left.objects (j % 4) past_object) ≡ true
      → (is_held_by p (get_or (bank_at t at.bank) (j % 4) past_object) ≡ true)
      ⊎ ((p ≡ at.slot) × ((left.visit.there ≡ true) × (at.bank ≡ at.site)))
      → (p < 16) × ((visit_at (stored t at left) (object_site j) p).there ≡ true)
  held_inside j p b l e (inl old) =
      let q : j / 4 ≡ at.bank = b in
      let y : 4 * at.bank + j % 4 ≡ j = omega arith in
      let was : is_holding t p j ≡ true =
      subst (λ (i : ℕ). is_holding t p i ≡ true) y (rw (seen_object_at t at.bank (j % 4) (omega arith)) at old) in
      let v : (p < 16) × ((visit_at t (object_site j) p).there ≡ true) = k.visits j p l was in
      (v.0, visit_after_store (object_site j) p v.0 v.1 (λ y z free. true≢false (sym e ∙ free (j % 4) (omega arith))))
  held_inside j p b l e (inr (s, (there, own))) =
      let y : object_site j ≡ at.site = b ∙ own in
      rw (s, y, visit_after_stored t at left k.sound.sized h) (h.slot, there)

  -- and so has who holds another
  held_outside :
      (j p : ℕ) → object_site j ≢ at.bank → j < 32 → is_holding t p j ≡ true
      → (p < 16) × ((visit_at (stored t at left) (object_site j) p).there ≡ true)
  held_outside j p n l e =
      let v : (p < 16) × ((visit_at t (object_site j) p).there ≡ true) = k.visits j p l e in
      (v.0, visit_after_store (object_site j) p v.0 v.1 (λ y z free. n (sym y)))

  held_visits :
      (j p : ℕ) → j < 32 → is_holding (stored t at left) p j ≡ true
      → (p < 16) × ((visit_at (stored t at left) (object_site j) p).there ≡ true)
  held_visits j p l e =
      ⊎_elim
      (λ b.
      let q : is_held_by p (get_or left.objects (j % 4) past_object) ≡ true =
      sym (ap (is_held_by p) (object_after_stored t at left k.sound.sized h j b)) ∙ e in
      held_inside j p b l q (x.objects (j % 4) p (omega arith) q))
      (λ n.
      held_outside j p n l (sym (ap (is_held_by p) (object_after_stored_other t at left j n)) ∙ e))
      (same_or_other (object_site j) at.bank)

  held_calls : (m : ℕ) (c : Call) → (message_at (stored t at left) m).body ≡ Body.Call c → GoesHome (message_at (stored t at left) m) c
  held_calls m c =
      ⊎_elim
      (λ (e : m ≡ at.message). rw (e, message_after_stored t at left k.sound.sized h) (x.calls c))
      (λ n. rw (message_after_stored_other t at left m n) (k.calls m c))
      (same_or_other m at.message)

  pub held_stored : Sound (stored t at left) → Held (stored t at left)
  held_stored z =
      record {
        sound = z;
        visits = held_visits;
        calls = held_calls;
      }
