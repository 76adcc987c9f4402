-- The first row of a table at which a test holds, found from the back and from the front; where a field may lie. Assumes nothing.
use Rattle.std.specs.Prelude.{ℕ, zero, suc, ◌+◌, ◌≤◌, ◌<◌, ◌≡◌, Bool, true, false, cond, not, ◌&&◌, List, [], ◌∷◌, eqb, ltb, length, get_or, Option, Some, None, IfSome, map}
use Rattle.std.specs.Option.{option_flatten, unwrap_or}
use Rattle.std.specs.List.{position, position_or_len}
use Rattle.std.proofs.Common.{refl, rules, arith, ⊎_elim, inl, inr, ◌⊎◌, ltb-true, ltb-false}
use Rattle.std.proofs.Math.Dec.{eqb-zero-suc, eqb-suc-suc}
use Rattle.std.proofs.lemmas.List.{get_or_default}
use Rattle.std.proofs.Math.ListN.{get_or-eq_default, get_or-map}
use Rattle.rules.specs.Loops.{first_next, first_up_to}
use Rattle.rules.specs.LoopsLaws.{either}
use Rattle.rules.proofs.RecordLaws.{each_row_at}
use Rattle.words.specs.declared.rows.Said.{Said}
use Rattle.words.specs.declared.rows.Edge.{Edge}
use Rattle.words.specs.declared.rows.Slot.{Slot}
use Rattle.words.specs.Grammar.{edges, edge, edge_of, edge_at, slots, slot_at, none}

-- at the last index
last : (b : Bool) (n : ℕ) → cond b (suc n) (suc n + 1) ≡ suc (cond b n (n + 1))
last true n = refl
last false n = omega arith

-- from the first index on
first_front : (p : ℕ → Bool) (n : ℕ) → first_up_to p (suc n) ≡ cond (p 0) 0 (suc (first_up_to (λ i. p (suc i)) n))
unfolding first_up_to
first_front p zero = refl
first_front p (suc n) = rw (first_front p n) (shifted (either (p 0)) (either (eqb (first_up_to (λ i. p (suc i)) n) n)))
  where
    shifted :
        (p 0 ≡ true) ⊎ (p 0 ≡ false)
        → (eqb (first_up_to (λ i. p (suc i)) n) n ≡ true) ⊎ (eqb (first_up_to (λ i. p (suc i)) n) n ≡ false)
        → first_next (cond (p 0) 0 (suc (first_up_to (λ i. p (suc i)) n))) (suc n) (p (suc n))
        ≡ cond (p 0) 0 (suc (first_next (first_up_to (λ i. p (suc i)) n) n (p (suc n))))
    shifted (inl e) w = rw (e, eqb-zero-suc n)
    shifted (inr e) (inl w) = rw (e, eqb-suc-suc (first_up_to (λ i. p (suc i)) n) n, w) (last (p (suc n)) n)
    shifted (inr e) (inr w) = rw (e, eqb-suc-suc (first_up_to (λ i. p (suc i)) n) n, w)

pub first_position : {A : Type 0} (p : A → Bool) (xs : List A) (d : A) → first_up_to (λ i. p (get_or xs i d)) (length xs) ≡ position_or_len p xs
unfolding first_up_to
first_position p [] d = refl
first_position p (x ∷ xs) d = rw (first_front (λ i. p (get_or (x ∷ xs) i d)) (length xs), first_position p xs d) (turn (p x))
  where
    turn : (b : Bool) → cond b 0 (suc (position_or_len p xs)) ≡ cond (not b) (1 + position_or_len p xs) 0
    turn true = refl
    turn false = omega arith

-- the row of a word is the first that leads from its place by it
pub edge_found :
    (node word : ℕ) → position (λ e. eqb e.from node && eqb e.word word) edges ≡ cond (ltb (edge_at node word) 31) (Some (edge_at node word)) None
unfolding edge_at
edge_found node word =
    rw (first_position (λ (e : Edge). eqb e.from node && eqb e.word word) edges (edge 0 0 0 0 0))

-- a slot, or none where a number takes no bytes
abbrev pub slot_if : Slot → Option Slot
slot_if s = cond (eqb s.width 0) None (Some s)

pub slot_row : (k : ℕ) → get_or (map slot_if slots) k None ≡ slot_if (slot_at k)
slot_row k = get_or-map slot_if slots k none

-- four bytes from any field on are within the record
slot_within : (k : ℕ) → (slot_at k).field ≤ 12
slot_within k =
    ⊎_elim
    (λ (e : ltb k 31 ≡ true). each_row_at (λ i. (slot_at i).field ≤ 12) 31 (omega arith) k (ltb-true k 31 e))
    (λ (e : ltb k 31 ≡ false). rw (get_or-eq_default slots none (ltb-false k 31 e)) (omega arith))
    (either (ltb k 31))

if_within : (s : Slot) (b : Bool) → s.field ≤ 12 → IfSome (cond b None (Some s)) (λ (x : Slot). x.field ≤ 12)
if_within s true h = tt
if_within s false h = h

pub slot_if_within : (k : ℕ) → IfSome (slot_if (slot_at k)) (λ (s : Slot). s.field ≤ 12)
slot_if_within k = if_within (slot_at k) (eqb (slot_at k).width 0) (slot_within k)

pub flat : {A : Type 0} (o : Option (Option A)) → option_flatten o ≡ unwrap_or o None
flat None = refl
flat (Some x) = refl

-- a byte that a word says is within the record
pub said_within : (k : ℕ) → k < 31 → IfSome (edge_of k).says (λ (s : Said). s.field < 16)
said_within k h = each_row_at (λ i. IfSome (edge_of i).says (λ (s : Said). s.field < 16)) 31 (search rules) k h

-- within the table it is the same whatever stands past its end
pub row_at : (k : ℕ) (d : Edge) → k < 31 → get_or edges k d ≡ edge_of k
row_at k d h = get_or_default edges k d (edge 0 0 0 0 0) h
