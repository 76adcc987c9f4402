-- What the functions promise that go through a text word by word. Assumes nothing.
use Rattle.std.specs.Prelude.{ℕ, min, cond, List, [], map, length, Option, Some, None}
use Rattle.std.proofs.Common.{Bor}
use Rattle.requests.specs.Requests.{words_of, all_numbers, byte_of, first_nine}

-- the words of a text that are left; none where it has ended, as it does after the last word
unfoldable pub words_left : Option (Bor (List ℕ)) → List (List ℕ)
words_left None = []
words_left (Some text) = words_of text.now

-- where all of these words are numbers, the first nine count as objects
unfoldable pub listed : List (List ℕ) → Option (List ℕ × ℕ)
listed words = cond (all_numbers words) (Some (first_nine (map byte_of words), min 9 (length words))) None
