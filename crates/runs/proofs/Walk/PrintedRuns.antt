-- What passrun runs is a run: the tables behind its listing are those of the records so far, so every theorem over runs speaks of them.
-- And what it prints is that run's answers: a line for each record, in order, and nothing else. Assumes nothing.
use Rattle.std.specs.Prelude.{ℕ, zero, suc, ◌+◌, ◌/◌, ◌≡◌, refl, List, [], ◌∷◌, ◌++◌, length, Ok}
use Rattle.std.proofs.Common.{arith, sym, ap, ap₂, ◌∙◌, append-nil, append_assoc, length-append}
use Rattle.rules.specs.Loops.{joined}
use Rattle.rules.specs.Tables.{start}
use Rattle.rules.specs.Record.{step_record_of}
use Rattle.rules.specs.Runs.{start_started, run_records_of, record_answers_of}
use Rattle.rules.specs.Sheet.{sheet_answer, sheet_records, record_at, records_up_to}
use Rattle.rules.specs.Listing.{line_of, printed_up_to, listing_of}
use Rattle.rules.proofs.ListingLaws.{printed_is_run}
use Rattle.runs.specs.Types.{Tables, Answer}
use Rattle.runs.specs.Times.Rule.{TimeRule}
use Rattle.runs.proofs.Times.TimeRule.{time_rule_records}

-- the tables behind a listing are those of a run (`printed_is_run`), so the time rule holds at every line of it
pub time_rule_listing : (part : List ℕ) (n : ℕ) → TimeRule (printed_up_to part n).tables
time_rule_listing part n = rw (printed_is_run part n) (time_rule_records start_started (records_up_to part n))

-- ---- a listing is its lines

-- the lines of these answers, the first of them at this place
unfoldable pub lines_from : ℕ → List Answer → List (List ℕ)
lines_from place [] = []
lines_from place (a ∷ rest) = line_of place a ∷ lines_from (place + 1) rest

-- one more answer is one more line, at the place after the last
lines_one_more :
    (place : ℕ) (answers : List Answer) (a : Answer)
    → joined (lines_from place (answers ++ (a ∷ []))) ≡ joined (lines_from place answers) ++ line_of (place + length answers) a
unfolding lines_from
lines_one_more place [] a = append-nil (line_of place a) ∙ ap (λ (n : ℕ). line_of n a) (omega arith)
lines_one_more place (x ∷ rest) a =
    ap (λ (l : List ℕ). line_of place x ++ l) (lines_one_more (place + 1) rest a)
    ∙ sym (append_assoc (line_of place x) (joined (lines_from (place + 1) rest)) _)
    ∙ ap (λ (n : ℕ). line_of place x ++ joined (lines_from (place + 1) rest) ++ line_of n a) (omega arith)

-- one more record gives one more answer: its own, on the tables that the records before it leave
answers_one_more :
    (t : Tables) (rs : List (List ℕ)) (r : List ℕ)
    → record_answers_of t (rs ++ (r ∷ [])) ≡ record_answers_of t rs ++ ((step_record_of (run_records_of t rs) r).answer ∷ [])
unfolding record_answers_of run_records_of
answers_one_more t [] r = refl
answers_one_more t (x ∷ rs) r = ap (λ (l : List Answer). (step_record_of t x).answer ∷ l) (answers_one_more (step_record_of t x).tables rs r)

-- the answers of the first n records of a part, from the start
abbrev pub answers_up_to : List ℕ → ℕ → List Answer
answers_up_to part n = record_answers_of start (records_up_to part n)

answers_up_to_next :
    (part : List ℕ) (n : ℕ)
    → answers_up_to part (suc n) ≡ answers_up_to part n ++ ((step_record_of (printed_up_to part n).tables (record_at part n)).answer ∷ [])
unfolding records_up_to
answers_up_to_next part n = rw (printed_is_run part n) (answers_one_more start (records_up_to part n) (record_at part n))

-- there are as many answers as records
pub answers_up_to_length : (part : List ℕ) (n : ℕ) → length (answers_up_to part n) ≡ n
unfolding records_up_to record_answers_of
answers_up_to_length part zero = refl
answers_up_to_length part (suc n) =
    ap length (answers_up_to_next part n) ∙ length-append (answers_up_to part n) _ ∙ (rw (answers_up_to_length part n) (omega arith))

-- the text after n records is their lines, the first at place 1
pub printed_is_lines : (part : List ℕ) (n : ℕ) → (printed_up_to part n).text ≡ joined (lines_from 1 (answers_up_to part n))
unfolding printed_up_to records_up_to record_answers_of lines_from
printed_is_lines part zero = refl
printed_is_lines part (suc n) =
    let a : Answer = (step_record_of (printed_up_to part n).tables (record_at part n)).answer in
    ap₂ ◌++◌ (printed_is_lines part n) (ap (λ (m : ℕ). line_of m a) (let l : length (answers_up_to part n) ≡ n = answers_up_to_length part n in omega arith))
    ∙ sym (lines_one_more 1 (answers_up_to part n) a)
    ∙ ap (λ (l : List Answer). joined (lines_from 1 l)) (sym (answers_up_to_next part n))

-- the listing of a sheet that is taken is a line for each of its records, in order from place 1, and each line is the record's own answer
pub listing_is_lines :
    (sheet : List ℕ) → sheet_answer sheet ≡ Ok tt
    → listing_of sheet ≡ joined (lines_from 1 (record_answers_of start (records_up_to (sheet_records sheet) (length (sheet_records sheet) / 16))))
unfolding listing_of
listing_is_lines sheet e = rw e (printed_is_lines (sheet_records sheet) (length (sheet_records sheet) / 16))
