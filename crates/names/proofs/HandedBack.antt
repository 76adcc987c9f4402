-- What looking up an object hands back. Assumes nothing.
use Rattle.std.proofs.Common.{ℕ, ◌<◌, ◌≡◌, refl, sym, ap, ◌∙◌, ◌⊎◌, inl, inr, Bool, true, false, List, [], ◌∷◌, ◌++◌, length, arith}
use Rattle.names.specs.Names.{lines_of, matches, first_match, line_for}
use Rattle.names.specs.NamesLaws.{NamesObject, match_some, match_names}

-- of two empty lists the empty line
pub line_of_none : (object : ℕ) → line_for [] [] object ≡ []
unfolding line_for lines_of first_match
line_of_none object = refl

-- a line, or where it is empty the next
abbrev or_next : List ℕ → List ℕ → List ℕ
or_next [] next = next
or_next (b ∷ line) next = b ∷ line

line_stands : (line next : List ℕ) → 0 < length line → or_next line next ≡ line
line_stands [] next h = absurd (omega arith)
line_stands (b ∷ line) next h = refl

module _ (object : ℕ) (others : List (List ℕ)) where
  before_by :
      (hit : Bool) (line : List ℕ) (lines : List (List ℕ)) → matches object line ≡ hit
      → first_match object (lines ++ others) ≡ or_next (first_match object lines) (first_match object others)
      → first_match object ((line ∷ lines) ++ others) ≡ or_next (first_match object (line ∷ lines)) (first_match object others)
  unfolding first_match
  before_by true line lines e more = rw e (sym (line_stands line (first_match object others) (match_some object line e)))
  before_by false line lines e more = rw e more

  -- lines that stand before others
  match_before : (lines : List (List ℕ)) → first_match object (lines ++ others) ≡ or_next (first_match object lines) (first_match object others)
  unfolding first_match
  match_before [] = refl
  match_before (line ∷ lines) = before_by (matches object line) line lines refl (match_before lines)

module _ (station company : List ℕ) (object : ℕ) where
  -- a hit in the station's list, whatever the company's says
  pub station_first : 0 < length (first_match object (lines_of station)) → line_for station company object ≡ first_match object (lines_of station)
  unfolding line_for
  station_first h =
      match_before object (lines_of company) (lines_of station)
      ∙ line_stands (first_match object (lines_of station)) (first_match object (lines_of company)) h

  -- else the company's
  pub company_next : first_match object (lines_of station) ≡ [] → line_for station company object ≡ first_match object (lines_of company)
  unfolding line_for
  company_next none =
      match_before object (lines_of company) (lines_of station)
      ∙ ap (λ (l : List ℕ). or_next l (first_match object (lines_of company))) none

found_by :
    (hit : Bool) (object : ℕ) (line : List ℕ) (lines : List (List ℕ)) → matches object line ≡ hit
    → (first_match object lines ≡ []) ⊎ NamesObject object (first_match object lines)
    → (first_match object (line ∷ lines) ≡ []) ⊎ NamesObject object (first_match object (line ∷ lines))
unfolding first_match
found_by true object line lines e more = inr (rw e (match_names object line e))
found_by false object line lines e more = rw e more

match_found : (object : ℕ) (lines : List (List ℕ)) → (first_match object lines ≡ []) ⊎ NamesObject object (first_match object lines)
unfolding first_match
match_found object [] = inl refl
match_found object (line ∷ lines) = found_by (matches object line) object line lines refl (match_found object lines)

-- the empty line, or one that begins with the object's number and byte 32
pub line_names :
    (station company : List ℕ) (object : ℕ)
    → (line_for station company object ≡ []) ⊎ NamesObject object (line_for station company object)
unfolding line_for
line_names station company object = match_found object (lines_of station ++ lines_of company)
