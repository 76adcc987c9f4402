-- Laws of the ranges: what a table in range says of each record that a step sees, and that storing records in range keeps it so.
-- It serves RangesFits and RangesKept. Assumes nothing.
use Rattle.std.specs.Prelude.{ℕ, zero, suc, ◌+◌, ◌*◌, ◌<◌, ◌≡◌, refl, Bool, true, false, ◌&&◌, ◌||◌, List, [], ◌∷◌, get_or, set}
use Rattle.std.proofs.Common.{arith}
use Rattle.rules.specs.Types.{Site, Object, Passage, Visit, Body, Message, Tables, MailAt, SlotAt, SiteAt, Trip, Look, Places, Seen}
use Rattle.rules.specs.LoopsLaws.{and_left, and_right, or_left, or_right, every_at, every_all}
use Rattle.rules.specs.Tables.{past_object, past_visit, site_at, object_at, passage_at, visit_place, message_at, put_bank}
use Rattle.rules.specs.Ranges.{site_in_range, object_in_range, passage_in_range, visit_in_range, message_in_range, in_range}
use Rattle.rules.specs.Machine.{lowest_empty, mail_place, slot_place, site_place, body_bank, bank_place, places_for, places_of, seen_of, stored, trip_places}
use Rattle.rules.specs.StoredLaws.{Placed}

-- ---- lists

-- what holds of the element at j and of the new one holds at j after a store, wherever that was
pub set_keeps_at :
    {A : Type 0} (P : A → Type 0) (l : List A) (i j : ℕ) (a d : A)
    → P (get_or l j d)
    → P a
    → P (get_or (set l i a) j d)
set_keeps_at P [] i j a d h k = h
set_keeps_at P (x ∷ xs) zero zero a d h k = k
set_keeps_at P (x ∷ xs) zero (suc j) a d h k = h
set_keeps_at P (x ∷ xs) (suc i) zero a d h k = h
set_keeps_at P (x ∷ xs) (suc i) (suc j) a d h k = set_keeps_at P xs i j a d h k

-- what holds of four elements and of the default holds at every index of their list
pub four_at :
    {A : Type 0} (P : A → Type 0) {a b c e : A} (d : A) → P a → P b → P c → P e → P d
    → (i : ℕ)
    → P (get_or (a ∷ b ∷ c ∷ e ∷ []) i d)
four_at P d pa pb pc pe pd zero = pa
four_at P d pa pb pc pe pd (suc zero) = pb
four_at P d pa pb pc pe pd (suc (suc zero)) = pc
four_at P d pa pb pc pe pd (suc (suc (suc zero))) = pe
four_at P d pa pb pc pe pd (suc (suc (suc (suc i)))) = pd

-- ---- tests

-- a test of two, read by what follows from both
pub both : {a b : Bool} {R : Type 0} → (a && b) ≡ true → (a ≡ true → b ≡ true → R) → R
both {a} {b} e f = f (and_left a b e) (and_right a b e)

-- a test of either, read by what follows where neither holds
pub neither : {a b : Bool} {R : Type 0} → (a || b) ≡ false → (a ≡ false → b ≡ false → R) → R
neither {a} {b} e f = f (or_left a b e) (or_right a b e)

-- ---- the tables, place by place

pub record TablesInRange (t : Tables) : Type 0 where
  pub sites : (i : ℕ) → i < 8 → site_in_range (site_at t i) ≡ true
  pub objects : (i : ℕ) → i < 32 → object_in_range (object_at t i) ≡ true
  pub passages : (i : ℕ) → i < 16 → passage_in_range (passage_at t i) ≡ true
  pub visits : (i : ℕ) → i < 128 → visit_in_range (get_or t.visits i past_visit) ≡ true
  pub messages : (i : ℕ) → i < 32 → message_in_range (message_at t i) ≡ true

pub in_range_places : (t : Tables) → in_range t ≡ true → TablesInRange t
unfolding in_range
in_range_places t e =
    both e λ r m.
    both r λ r v.
    both r λ r p.
    both r λ s o.
    record {
      sites = every_at _ 8 s;
      objects = every_at _ 32 o;
      passages = every_at _ 16 p;
      visits = every_at _ 128 v;
      messages = every_at _ 32 m;
    }

pub places_in_range : (t : Tables) → TablesInRange t → in_range t ≡ true
unfolding in_range
places_in_range t r =
    rw
    (every_all _ 8 r.sites, every_all _ 32 r.objects, every_all _ 16 r.passages, every_all _ 128 r.visits)
    (every_all _ 32 r.messages)

-- ---- what is seen

pub record SeenInRange (seen : Seen) : Type 0 where
  pub site : site_in_range seen.site ≡ true
  pub passage : passage_in_range seen.passage ≡ true
  pub visit : visit_in_range seen.visit ≡ true
  pub message : message_in_range seen.message ≡ true
  pub objects : (i : ℕ) → object_in_range (get_or seen.objects i past_object) ≡ true

pub seen_in_range : (t : Tables) (at : Places) → in_range t ≡ true → Placed at → SeenInRange (seen_of t at)
seen_in_range t at e h =
    let r : TablesInRange t = in_range_places t e in
    let s : at.site < 8 = h.site in
    let p : at.slot < 16 = h.slot in
    let b : at.bank < 8 = h.bank in
    record {
      site = r.sites at.site s;
      passage = r.passages at.slot p;
      visit = r.visits (visit_place at.site at.slot) (omega arith);
      message = r.messages at.message h.message;
      objects =
          four_at
          (λ (o : Object). object_in_range o ≡ true)
          past_object
          (r.objects (4 * at.bank) (omega arith))
          (r.objects (4 * at.bank + 1) (omega arith))
          (r.objects (4 * at.bank + 2) (omega arith))
          (r.objects (4 * at.bank + 3) (omega arith))
          refl;
    }

-- what set_keeps_at says, of the four stores of a bank
bank_keeps_at :
    (P : Object → Type 0) (t : Tables) (b : ℕ) (xs : List Object) (i : ℕ) → P (object_at t i)
    → ((k : ℕ) → P (get_or xs k past_object))
    → P (object_at (put_bank t b xs) i)
bank_keeps_at P t b xs i h k =
    let l₁ : List Object = set t.objects (4 * b) (get_or xs 0 past_object) in
    let l₂ : List Object = set l₁ (4 * b + 1) (get_or xs 1 past_object) in
    let l₃ : List Object = set l₂ (4 * b + 2) (get_or xs 2 past_object) in
    set_keeps_at P l₃ (4 * b + 3) i _ _
    (set_keeps_at P l₂ (4 * b + 2) i _ _
    (set_keeps_at P l₁ (4 * b + 1) i _ _
    (set_keeps_at P t.objects (4 * b) i _ _ h (k 0))
    (k 1))
    (k 2))
    (k 3)

pub stored_in_range : (t : Tables) (at : Places) (left : Seen) → in_range t ≡ true → SeenInRange left → in_range (stored t at left) ≡ true
unfolding stored
stored_in_range t at left e h =
    let r : TablesInRange t = in_range_places t e in
    places_in_range
    _
    (record {
      sites = λ i l. set_keeps_at (λ (x : Site). site_in_range x ≡ true) t.sites at.site i _ _ (r.sites i l) h.site;
      objects = λ i l. bank_keeps_at (λ (x : Object). object_in_range x ≡ true) t at.bank left.objects i (r.objects i l) h.objects;
      passages = λ i l. set_keeps_at (λ (x : Passage). passage_in_range x ≡ true) t.passages at.slot i _ _ (r.passages i l) h.passage;
      visits = λ i l. set_keeps_at (λ (x : Visit). visit_in_range x ≡ true) t.visits (visit_place at.site at.slot) i _ _ (r.visits i l) h.visit;
      messages = λ i l. set_keeps_at (λ (x : Message). message_in_range x ≡ true) t.messages at.message i _ _ (r.messages i l) h.message;
    })

-- ---- the places that a step looks at exist

module _ (m : Message) where
  site_place_below : (site : SiteAt) (p : Passage) → site_place site m p < 8
  site_place_below (SiteAt.Given s) p = omega arith
  site_place_below SiteAt.Home p = omega arith
  site_place_below SiteAt.Mail p = omega arith

  slot_place_below : (slot : SlotAt) → slot_place slot m < 16
  slot_place_below (SlotAt.Given h) = omega arith
  slot_place_below SlotAt.Mail = omega arith

body_bank_below : (b : Body) (s : ℕ) → s < 8 → body_bank b s < 8
body_bank_below Body.Empty s h = h
body_bank_below (Body.Call c) s h = omega arith
body_bank_below (Body.PhaseOne n a) s h = h
body_bank_below (Body.PhaseTwo n d) s h = h
body_bank_below (Body.Answer n r q) s h = h
body_bank_below (Body.Reply value) s h = h

bank_place_below : (site : SiteAt) (m : Message) (s : ℕ) → s < 8 → bank_place site m s < 8
bank_place_below (SiteAt.Given a) m s h = h
bank_place_below SiteAt.Home m s h = h
bank_place_below SiteAt.Mail m s h = body_bank_below m.body s h

mail_place_below : (mail : MailAt) (e : ℕ) → mail_place mail e < 32
mail_place_below MailAt.Nowhere e = omega arith
mail_place_below (MailAt.Given m) e = omega arith
mail_place_below MailAt.Empty e = omega arith

placed_for : (look : Look) (place : ℕ) (m : Message) (p : Passage) → place < 32 → Placed (places_for look place m p)
placed_for look place m p h =
    let s : site_place look.site m p < 8 = site_place_below m look.site p in
    record {
      site = s;
      slot = slot_place_below m look.slot;
      bank = bank_place_below look.site m _ s;
      message = h;
    }

pub placed_places : (t : Tables) (look : Look) → Placed (places_of t look)
unfolding places_of
placed_places t look = placed_for look _ _ _ (mail_place_below look.mail (lowest_empty t))

pub placed_trip : (trip : Trip) (slot : ℕ) → slot < 16 → Placed (trip_places trip slot)
placed_trip trip slot h =
    record { site = omega arith; slot = h; bank = omega arith; message = omega arith }
