-- The lines of a list of answers, their places counted from 1. Assumes nothing.
use Rattle.std.specs.Prelude.{ℕ, zero, suc, ◌+◌, List, [], ◌++◌, get_or, Ok}
use Rattle.rules.specs.Types.{Answer}
use Rattle.rules.specs.Listing.{line_of}

-- of the first n answers
unfoldable pub lines_of : List Answer → ℕ → List ℕ
lines_of answers zero = []
lines_of answers (suc n) = lines_of answers n ++ line_of (n + 1) (get_or answers n (Ok 0))
