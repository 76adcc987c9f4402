-- Where an accepted step acts, without remainders: tables in range hold homes and destinations that exist.
-- With it what steps share: a handle that names a passage, a message that goes into the lowest empty slot. Assumes nothing.
use Rattle.std.specs.Prelude.{ℕ, zero, suc, ◌%◌, ◌≤◌, ◌<◌, min, ◌≡◌, ◌⊎◌, Bool, true, false, not, ◌||◌, List, ltb, eqb}
use Rattle.std.proofs.Common.{arith, not-suc-le-zero, sym, ◌∙◌, ⊎_elim, inl, inr, ltb-true, ltb-false, eqb-true}
use Rattle.std.proofs.lemmas.Bool.{false≢true}
use Rattle.rules.specs.Types.{Passage, Message, Tables, Step, Check, Trip, MailAt, SlotAt, SiteAt, Places, Seen}
use Rattle.rules.specs.Limits.{handle_most, message_most}
use Rattle.rules.specs.Loops.{first_up_to}
use Rattle.rules.specs.LoopsLaws.{or_left, or_right, not_false, either, below_or_last, first_le}
use Rattle.rules.specs.Tables.{passage_at, message_at, slot_of, generation_of}
use Rattle.rules.specs.Ranges.{in_range}
use Rattle.rules.specs.Answers.{is_accepted}
use Rattle.rules.specs.Parts.{is_free, is_empty}
use Rattle.rules.specs.Checks.{bad_handle}
use Rattle.rules.specs.Machine.{looks, looks_home, lowest_empty, mail_place, body_bank, places_of, seen_of, step_of}
use Rattle.rules.proofs.RangesLaws.{seen_in_range}
use Rattle.rules.proofs.RangesFits.{PassageFits, MessageFits, seen_says}
use Rattle.rules.proofs.RangesKept.{in_range_after_step}
use Rattle.rules.proofs.EffectsLaws.{OnlyMessage, accepted_in_range, Done, only_message}

-- ---- an accepted step keeps the ranges of the tables

pub in_range_after_accepted : (t : Tables) (step : Step) → is_accepted (step_of t step).answer ≡ true → in_range (step_of t step).tables ≡ true
unfolding step_of
in_range_after_accepted t step a =
    let e : in_range t ≡ true = accepted_in_range t step a in rw e (in_range_after_step t step e)

-- ---- places

-- what tables in range say of a passage and of a message
pub passage_fits : (t : Tables) (p : ℕ) → in_range t ≡ true → p < 16 → PassageFits (passage_at t p)
passage_fits t p e l =
    let at : Places = record { site = 0; slot = p; bank = 0; message = 0 } in
    (seen_says (seen_of t at) (seen_in_range t at e (search arith))).passage

pub message_fits : (t : Tables) (m : ℕ) → in_range t ≡ true → m < 32 → MessageFits (message_at t m)
message_fits t m e l =
    let at : Places = record { site = 0; slot = 0; bank = 0; message = m } in
    (seen_says (seen_of t at) (seen_in_range t at e (search arith))).message

-- a step for a handle acts at its passage's home
pub home_places :
    (t : Tables) (mail : MailAt) (h : ℕ) → in_range t ≡ true
    → places_of t (looks_home mail h)
    ≡ record { site = (passage_at t (slot_of h)).home; slot = slot_of h; bank = (passage_at t (slot_of h)).home; message = mail_place mail (lowest_empty t) }
unfolding places_of
home_places t mail h e =
    let f : PassageFits (passage_at t (slot_of h)) = passage_fits t (slot_of h) e (omega arith) in
    let i : (passage_at t (slot_of h)).home % 8 ≡ (passage_at t (slot_of h)).home = omega arith in
    rw i

-- one that names its site acts there
pub given_places :
    (t : Tables) (mail : MailAt) (h site : ℕ) → site < 8
    → places_of t (looks mail (SlotAt.Given h) (SiteAt.Given site) Trip.Nowhere)
    ≡ record { site = site; slot = slot_of h; bank = site; message = mail_place mail (lowest_empty t) }
unfolding places_of
given_places t mail h site l = let i : site % 8 ≡ site = omega arith in rw i

-- a delivery acts at its message's destination
pub mail_places :
    (t : Tables) (m : ℕ) → in_range t ≡ true → m < 32
    → places_of t (looks (MailAt.Given m) SlotAt.Mail SiteAt.Mail Trip.Nowhere)
    ≡ record {
      site = (message_at t m).destination;
      slot = slot_of (message_at t m).handle;
      bank = body_bank (message_at t m).body (message_at t m).destination;
      message = m;
    }
unfolding places_of
mail_places t m e l =
    let i : m % 32 ≡ m = omega arith in
    let f : MessageFits (message_at t m) = message_fits t m e l in
    let j : (message_at t m).destination % 8 ≡ (message_at t m).destination = omega arith in
    rw (i, j)

-- ---- a handle that names a passage

pub record InUse (h : ℕ) (p : Passage) : Type 0 where
  pub handle : h ≤ handle_most
  pub used : is_free p.status ≡ false
  pub generation : p.generation ≡ generation_of h

pub in_use :
    (h : ℕ) (p : Passage) → bad_handle h ≡ false → (is_free p.status || not (eqb p.generation (generation_of h))) ≡ false
    → InUse h p
in_use h p b n =
    record {
      handle = ltb-false _ _ b;
      used = or_left (is_free p.status) _ n;
      generation = eqb-true _ _ (not_false _ (or_right (is_free p.status) _ n));
    }

-- ---- a message that goes into the lowest empty slot

pub record NewMessage (t t' : Tables) (v : ℕ) (x : Message) : Type 0 where
  pub below : v < 32
  pub lowest : v ≡ lowest_empty t
  pub empty : is_empty (message_at t v).body ≡ true
  pub message : OnlyMessage t t' v x

-- p holds at no index below the lowest
first_before : (p : ℕ → Bool) (n i : ℕ) → i < n → i < first_up_to p n → p i ≡ false
unfolding first_up_to
first_before p zero i h l = absurd (not-suc-le-zero h)
first_before p (suc n) i h l = found (first_before p n i) (either (eqb (first_up_to p n) n)) (either (p n)) (below_or_last i n h)
  where
    found :
        (i < n → i < first_up_to p n → p i ≡ false) → (eqb (first_up_to p n) n ≡ true) ⊎ (eqb (first_up_to p n) n ≡ false)
        → (p n ≡ true) ⊎ (p n ≡ false)
        → (i < n) ⊎ (i ≡ n)
        → p i ≡ false
    found before (inl e) w (inl k) = before k (let q : first_up_to p n ≡ n = eqb-true _ _ e in omega arith)
    found before (inl e) (inl y) (inr k) = let z : i < n = rw (e, y) at l in absurd (omega arith)
    found before (inl e) (inr y) (inr k) = rw k y
    found before (inr e) w k =
        let z : i < first_up_to p n = rw e at l in
        let m : first_up_to p n ≤ n = first_le p n in
        before (omega arith) z

-- where the last slot or one before it is empty, the lowest empty one is a slot
lowest_is_slot : (t : Tables) → is_empty (message_at t (min (lowest_empty t) message_most)).body ≡ true → lowest_empty t < 32
unfolding lowest_empty
lowest_is_slot t e =
    let p : ℕ → Bool = λ (m : ℕ). is_empty (message_at t m).body in
    ⊎_elim
    (λ (l : ltb (first_up_to p 32) 32 ≡ true). ltb-true _ _ l)
    (λ (l : ltb (first_up_to p 32) 32 ≡ false).
    let g : 32 ≤ first_up_to p 32 = ltb-false _ _ l in
    let q : min (first_up_to p 32) message_most ≡ 31 = omega arith in
    absurd (false≢true (sym (first_before p 32 31 (omega arith) (omega arith)) ∙ (rw q at e))))
    (either (ltb (first_up_to p 32) 32))

pub new_message_lem :
    {t t' : Tables} {v : ℕ} {at : Places} {cs : List Check} {result : ℕ} {left : Seen} → Done t t' v at cs result left
    → at.message ≡ min (lowest_empty t) message_most
    → v ≡ at.message
    → not (is_empty (message_at t at.message).body) ≡ false
    → NewMessage t t' v left.message
new_message_lem {t} {at = at} d e w f =
    let b : is_empty (message_at t at.message).body ≡ true = not_false _ f in
    let l : lowest_empty t < 32 = lowest_is_slot t (rw e at b) in
    record { below = omega arith; lowest = omega arith; empty = rw w b; message = rw w (only_message d) }
