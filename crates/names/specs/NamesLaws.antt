-- Which lines match an object. Assumes nothing.
use Rattle.std.specs.Prelude.{ℕ, suc, ◌≤◌, ◌<◌, ◌≡◌, Bool, ◌&&◌, ltb, eqb, length, get_or, drop}
use Rattle.std.proofs.Common.{arith, sym, ◌∙◌, true≢false, ltb-true, lt-ltb, eqb-true, ne_eqb}
use Rattle.std.proofs.Math.Path.{refl, ap}
use Rattle.std.proofs.Math.Bool.{true, false, and-false}
use mathlib.Core.List.{List, [], ◌∷◌, ◌++◌}
use Rattle.names.specs.Names.{is_digit, digits_in, behind_digits, number_on, number_of, matches}

-- ---- which lines match

-- leading zeros change nothing
pub zero_ahead : (object : ℕ) (line : List ℕ) → 0 < length (digits_in line) → matches object (48 ∷ line) ≡ matches object line
unfolding matches digits_in behind_digits number_on
zero_ahead object line h =
    let more : 0 < suc (length (digits_in line)) = omega arith in
    rw (lt-ltb 0 (length (digits_in line)) h, lt-ltb 0 (suc (length (digits_in line))) more)

-- a number of 256 or more matches no object's
pub large_matches_none : (object : ℕ) (line : List ℕ) → object < 256 → 256 ≤ number_of (digits_in line) → matches object line ≡ false
unfolding matches
large_matches_none object line few large =
    let other = ne_eqb (number_of (digits_in line)) object (λ (e : number_of (digits_in line) ≡ object). omega arith) in
    rw (other, and-false (ltb 0 (length (digits_in line))))

-- a line that is not empty
pub match_some : (object : ℕ) (line : List ℕ) → matches object line ≡ true → 0 < length line
unfolding matches digits_in
match_some object [] e = absurd (true≢false (sym e))
match_some object (b ∷ line) e = omega arith

-- digits whose number is the object's, byte 32, and any text behind them
pub record NamesObject (object : ℕ) (line : List ℕ) : Type 0 where
  pub some : 0 < length (digits_in line)
  pub number : number_of (digits_in line) ≡ object
  pub space : line ≡ digits_in line ++ (32 ∷ drop 1 (behind_digits line))

both_true : (a b : Bool) → (a && b) ≡ true → (a ≡ true) × (b ≡ true)
both_true true b e = (refl, e)
both_true false b e = absurd (true≢false (sym e))

split_by :
    (digit : Bool) (b : ℕ) (line : List ℕ) → is_digit b ≡ digit → line ≡ digits_in line ++ behind_digits line
    → b ∷ line ≡ digits_in (b ∷ line) ++ behind_digits (b ∷ line)
unfolding digits_in behind_digits
split_by true b line e s = rw e (ap (λ (l : List ℕ). b ∷ l) s)
split_by false b line e s = rw e

line_split : (line : List ℕ) → line ≡ digits_in line ++ behind_digits line
unfolding digits_in behind_digits
line_split [] = refl
line_split (b ∷ line) = split_by (is_digit b) b line refl (line_split line)

first_byte : (bytes : List ℕ) → get_or bytes 0 0 ≡ 32 → bytes ≡ 32 ∷ drop 1 bytes
first_byte [] e = absurd (omega arith)
first_byte (b ∷ bytes) e = ap (λ (x : ℕ). x ∷ bytes) e

pub match_names : (object : ℕ) (line : List ℕ) → matches object line ≡ true → NamesObject object line
unfolding matches
match_names object line e =
    let digits = digits_in line in
    let behind = behind_digits line in
    let all = both_true (ltb 0 (length digits) && eqb (number_of digits) object) (eqb (get_or behind 0 0) 32) e in
    let front = both_true (ltb 0 (length digits)) (eqb (number_of digits) object) all.0 in
    record {
      some = ltb-true 0 (length digits) front.0;
      number = eqb-true (number_of digits) object front.1;
      space = line_split line ∙ ap (λ (l : List ℕ). digits ++ l) (first_byte behind (eqb-true (get_or behind 0 0) 32 all.1));
    }
