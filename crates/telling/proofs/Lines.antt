-- One record's line more. Assumes nothing.
use Rattle.std.specs.Prelude.{ℕ, ◌+◌, ◌≡◌, List, [], ◌∷◌, ◌++◌}
use Rattle.std.proofs.Common.{add-one, ap, sym}
use Rattle.rules.specs.Sheet.{record_at}
use Rattle.words.specs.Say.{record_text}
use Rattle.words.specs.Tell.{told_line, told_up_to, plain_up_to}
use Rattle.running.specs.Answered.{answer_at}

pub told_more :
    (part : List ℕ) (i : ℕ)
    → told_up_to part i ++ told_line (i + 1) (record_at part i) (answer_at part i) ≡ told_up_to part (i + 1)
unfolding told_up_to
told_more part i = ap (λ (k : ℕ). told_up_to part k) (sym (add-one i))

pub plain_more : (part : List ℕ) (i : ℕ) → plain_up_to part i ++ (record_text (record_at part i) ++ (10 ∷ [])) ≡ plain_up_to part (i + 1)
unfolding plain_up_to
plain_more part i = rw (add-one i)
