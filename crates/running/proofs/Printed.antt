-- A run under way: its tables are in range, so that a record on them is tried without number 20, and each record adds its answer. Assumes nothing.
use Prim.Native.Nat.{ℕ, zero, suc, ◌+◌, ◌≤◌, ◌<◌}
use Rattle.std.proofs.Common.{arith, add-one, append_assoc, ap, sym, ◌∙◌, length-append, length-drop}
use Rattle.std.specs.Prelude.{◌≡◌, refl, true, List, [], ◌∷◌, ◌++◌, length, take, drop, set}
use Rattle.std.proofs.lemmas.List.{set_split}
use Rattle.std.proofs.Math.Seq.{take_at, drop_at, drop-drop}
use Rattle.rules.specs.declared.tables.Tables.{Tables}
use Rattle.rules.specs.Types.{Answer}
use Rattle.rules.specs.declared.outcomes.Outcome.{Outcome}
use Rattle.rules.specs.Ranges.{in_range}
use Rattle.rules.proofs.RangesKept.{start_in_range, in_range_after_record}
use Rattle.rules.specs.Record.{record_in_range_of, step_record_of}
use Rattle.rules.specs.Sheet.{record_at}
use Rattle.rules.specs.Listing.{printed_up_to}
use Rattle.running.specs.Answered.{answer_at, answered_up_to, answered_length, room_for, PutsAnswers}

-- on tables in range number 20 is not met
pub record_no_twenty : (t : Tables) (b : List ℕ) → in_range t ≡ true → step_record_of t b ≡ record_in_range_of t b
unfolding step_record_of
record_no_twenty t b e = rw e

pub printed_in_range : (part : List ℕ) (n : ℕ) → in_range (printed_up_to part n).tables ≡ true
unfolding printed_up_to
printed_in_range part zero = start_in_range
printed_in_range part (suc n) =
    rw (record_no_twenty (printed_up_to part n).tables (record_at part n) (printed_in_range part n))
    (in_range_after_record (printed_up_to part n).tables (record_at part n) (printed_in_range part n))

-- one record more: the tables that it leaves, and its answer
tables_next :
    (part : List ℕ) (n : ℕ)
    → (record_in_range_of (printed_up_to part n).tables (record_at part n)).tables ≡ (printed_up_to part (n + 1)).tables
unfolding printed_up_to
tables_next part n =
    rw (add-one, record_no_twenty (printed_up_to part n).tables (record_at part n) (printed_in_range part n))

answer_next :
    (part : List ℕ) (n : ℕ)
    → (record_in_range_of (printed_up_to part n).tables (record_at part n)).answer ≡ answer_at part n
answer_next part n =
    rw (← record_no_twenty (printed_up_to part n).tables (record_at part n) (printed_in_range part n))

-- a record's outcome, on the tables so far, leaves the next tables, and its answer is the next answer
pub outcome_next :
    (part : List ℕ) (n : ℕ) (t : Tables) (b : List ℕ) (o : Outcome) → t ≡ (printed_up_to part n).tables
    → b ≡ record_at part n
    → o ≡ record_in_range_of t b
    → (o.tables ≡ (printed_up_to part (n + 1)).tables) × (o.answer ≡ answer_at part n)
outcome_next part n t b o e f h = (rw (h, f, e) (tables_next part n), rw (h, f, e) (answer_next part n))

-- before the first record no answer is put
pub answered_none : (part : List ℕ) (buf : List Answer) → PutsAnswers part 0 buf buf
unfolding answered_up_to
answered_none part buf =
    let e : room_for buf 0 ≡ 0 = omega arith in
    rw e refl

-- a list of which the first n elements were put, and then the next
put_next :
    (xs buf mid : List Answer) (n : ℕ) (a : Answer) → n < length buf → length xs ≡ n → mid ≡ xs ++ drop n buf
    → set mid n a ≡ (xs ++ (a ∷ [])) ++ drop (n + 1) buf
put_next xs buf mid n a room e q =
    let l : length mid ≡ length buf = rw q (simp (length-append, length-drop) (omega arith)) in
    let t : take n mid ≡ xs = rw q (take_at xs (drop n buf) n e) in
    let d : drop n mid ≡ drop n buf = rw q (drop_at xs (drop n buf) n e) in
    let z : drop (n + 1) mid ≡ drop (n + 1) buf =
    sym (drop-drop 1 n mid) ∙ ap (λ (k : List Answer). drop 1 k) d ∙ drop-drop 1 n buf in
    rw (append_assoc, ← z, ← t, add-one) (set_split mid n a (omega (arith, l)))

-- an answer more, put behind those of the records before
pub answered_next :
    (part : List ℕ) (buf mid : List Answer) (n : ℕ) (answer : Answer) → n < length buf → PutsAnswers part n buf mid
    → answer ≡ answer_at part n
    → PutsAnswers part (n + 1) buf (set mid n answer)
unfolding answered_up_to
answered_next part buf mid n answer room p e =
    let f : room_for buf n ≡ n = omega arith in
    let g : room_for buf (n + 1) ≡ n + 1 = omega arith in
    let q : mid ≡ answered_up_to part n ++ drop n buf = rw f at p in
    rw (g, e) (put_next (answered_up_to part n) buf mid n (answer_at part n) room (answered_length part n) q ∙ rw (add-one n))

-- an answer more, for which there is no room
pub answered_full :
    (part : List ℕ) (buf mid : List Answer) (n : ℕ) → length buf ≤ n → PutsAnswers part n buf mid → PutsAnswers part (n + 1) buf mid
answered_full part buf mid n full p =
    let e : room_for buf (n + 1) ≡ room_for buf n = omega arith in
    rw e p
