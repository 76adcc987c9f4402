-- Laws of the listing: at most how long a number is as it is spelt, and that the tables behind it are those of a run. Assumes nothing.
use Rattle.std.specs.Prelude.{ℕ, zero, suc, ◌+◌, ◌/◌, ◌%◌, ◌≤◌, ◌≡◌, refl, List, [], ◌∷◌, ◌++◌, ltb, length}
use Rattle.std.proofs.Common.{arith, sym, ap, ◌∙◌, length-append}
use Rattle.rules.specs.Types.{Tables}
use Rattle.rules.specs.LoopsLaws.{cond_keeps}
use Rattle.rules.specs.Tables.{start}
use Rattle.rules.specs.Record.{step_record_of}
use Rattle.rules.specs.Runs.{run_records_of}
use Rattle.rules.specs.Sheet.{record_at, records_up_to}
use Rattle.rules.specs.Listing.{spelt, digits_of, printed_up_to}

-- at most k signs
pub spelt_length : (base first k n : ℕ) → length (spelt base first k n) ≤ k
unfolding spelt
spelt_length base first zero n = omega arith
spelt_length base first (suc k) n =
    let r : length (spelt base first k (n / base)) ≤ k = spelt_length base first k (n / base) in
    cond_keeps (λ x. length x ≤ suc k) (ltb n base) ((first + n) ∷ []) (spelt base first k (n / base) ++ ((first + n % base) ∷ []))
    (omega arith)
    (rw (length-append (spelt base first k (n / base))) (omega arith))

-- at most k digits
pub digits_length : (k n : ℕ) → length (digits_of k n) ≤ k
digits_length = spelt_length 10 48

-- one more record at the end of a run
run_one_more :
    (t : Tables) (rs : List (List ℕ)) (r : List ℕ) → run_records_of t (rs ++ (r ∷ [])) ≡ (step_record_of (run_records_of t rs) r).tables
unfolding run_records_of
run_one_more t [] r = refl
run_one_more t (x ∷ rs) r = run_one_more (step_record_of t x).tables rs r

-- the tables behind a listing are those of the records so far
pub printed_is_run : (part : List ℕ) (n : ℕ) → (printed_up_to part n).tables ≡ run_records_of start (records_up_to part n)
unfolding printed_up_to records_up_to run_records_of
printed_is_run part zero = refl
printed_is_run part (suc n) =
    ap (λ (t : Tables). (step_record_of t (record_at part n)).tables) (printed_is_run part n)
    ∙ sym (run_one_more start (records_up_to part n) (record_at part n))
