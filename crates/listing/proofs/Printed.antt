-- The lines of a part's answers are its listing. Assumes nothing.
use Rattle.std.specs.Prelude.{◌≡◌, refl, ℕ, zero, suc, ◌+◌, ◌<◌, List, ◌++◌, get_or, Ok}
use Rattle.std.proofs.Common.{add-one, ap, sym, arith}
use Rattle.rules.specs.Types.{Answer}
use Rattle.rules.specs.Listing.{line_of, printed_up_to}
use Rattle.running.specs.Answered.{answer_at, answered_up_to, answered_each}
use Rattle.listing.specs.Lines.{lines_of}

lines_printed :
    (part : List ℕ) (answers : List Answer) (n : ℕ) → ((i : ℕ) → i < n → get_or answers i (Ok 0) ≡ answer_at part i)
    → lines_of answers n ≡ (printed_up_to part n).text
unfolding lines_of printed_up_to
lines_printed part answers zero h = refl
lines_printed part answers (suc n) h = rw (lines_printed part answers n (λ i l. h i (omega arith)), h n (omega arith))

pub answers_printed : (part : List ℕ) (n : ℕ) → lines_of (answered_up_to part n) n ≡ (printed_up_to part n).text
answers_printed part n = lines_printed part (answered_up_to part n) n (λ i l. answered_each part n i l (Ok 0))

-- one line more
pub lines_more : (answers : List Answer) (n : ℕ) → lines_of answers n ++ line_of (n + 1) (get_or answers n (Ok 0)) ≡ lines_of answers (n + 1)
unfolding lines_of
lines_more answers n = ap {B = List ℕ} (λ (k : ℕ). lines_of answers k) (sym (add-one n))
