-- Laws of the reader on what the writer puts: numbers, words, and one after the other. Assumes nothing.
use Prim.Native.Nat.{ℕ, zero, suc, ◌+◌, ◌*◌, ◌/◌, ◌%◌, ◌^◌, ◌≤◌, ◌<◌}
use native.Mathlib.Omega.{arith}
use Rattle.std.specs.Prelude.{◌≡◌, refl, Bool, true, cond, List, [], ◌∷◌, ◌++◌, eqb}
use Rattle.std.proofs.Common.{ap, ◌∙◌}
use Rattle.std.proofs.Math.Logic.{⊎_elim}
use Rattle.std.proofs.Math.Bool.{false}
use borrow.Author.Tests.{ltb-true, ltb-false, lt-ltb, le-ltb}
use Rattle.std.proofs.Math.Dec.{ltb}
use Rattle.rules.specs.LoopsLaws.{either}
use Rattle.rules.proofs.RecordLaws.{Each, each_row_at}
use Rattle.rules.specs.Listing.{spelt, digits_of}
use Rattle.words.specs.Types.{Mode, Scan}
use Rattle.words.specs.Grammar.{edge_count, edge_of, edge_at, slot_at, most_in, raw_node, said, slot_stored}
use Rattle.words.specs.Scan.{at, word_taken, number_taken, end_of, scan_next, scan_all}
use Rattle.words.specs.Say.{Token, word_text, number_text, token_text, rest_text}
use Rattle.words.proofs.Spelling.{space_ends}

-- one part after another
pub scan_append : (s : Scan) (xs ys : List ℕ) → scan_all s (xs ++ ys) ≡ scan_all (scan_all s xs) ys
unfolding scan_all
scan_append s [] ys = refl
scan_append s (x ∷ xs) ys = scan_append (scan_next s x) xs ys

-- ---- numbers

module _ (node digits : ℕ) (bytes : List ℕ) (plain : eqb node raw_node ≡ false) where
  -- a first digit
  First : ℕ → Type 0
  First d = scan_next (at Mode.Gap 0 node digits bytes) (48 + d) ≡ at Mode.Number d node digits bytes

  firsts : Each First 10
  unfolding First scan_next
  firsts =
      ((((((((((tt, rw plain), rw plain), rw plain), rw plain), rw plain), rw plain), rw plain), rw plain), rw plain), rw plain)

  pub digit_first : (d : ℕ) → d < 10 → scan_next (at Mode.Gap 0 node digits bytes) (48 + d) ≡ at Mode.Number d node digits bytes
  unfolding First
  digit_first d h = each_row_at First 10 firsts d h

  -- a digit more
  module _ (t : ℕ) (room : ltb 429496729 t ≡ false) where
    More : ℕ → Type 0
    More d = scan_next (at Mode.Number t node digits bytes) (48 + d) ≡ at Mode.Number (t * 10 + d) node digits bytes

    mores : Each More 10
    unfolding More scan_next
    mores =
        ((((((((((tt, rw room), rw room), rw room), rw room), rw room), rw room), rw room), rw room), rw room), rw room)

    pub digit_more : (d : ℕ) → d < 10 → scan_next (at Mode.Number t node digits bytes) (48 + d) ≡ at Mode.Number (t * 10 + d) node digits bytes
    unfolding More
    digit_more d h = each_row_at More 10 mores d h

  -- the digits of a number give the number
  digits_read :
      (k n : ℕ) → n < 10 ^ suc k → n ≤ 4294967295
      → scan_all (at Mode.Gap 0 node digits bytes) (digits_of (suc k) n) ≡ at Mode.Number n node digits bytes
  unfolding spelt scan_all
  digits_read zero n l m = rw (lt-ltb n 10 (omega arith)) (digit_first n (omega arith))
  digits_read (suc k) n l m =
      ⊎_elim
      (λ h. rw h (digit_first n (ltb-true n 10 h)))
      (λ h.
      let big : 10 ≤ n = ltb-false n 10 h in
      let room : ltb 429496729 (n / 10) ≡ false = le-ltb 429496729 (n / 10) (omega arith) in
      let whole : n / 10 * 10 + n % 10 ≡ n = omega arith in
      rw (h, scan_append (at Mode.Gap 0 node digits bytes) (digits_of (suc k) (n / 10)) ((48 + n % 10) ∷ []), digits_read k (n / 10) (omega arith) (omega arith), digit_more (n / 10) room (n % 10) (omega arith), whole))
      (either (ltb n 10))

  pub number_read : (n : ℕ) → n ≤ 4294967295 → scan_all (at Mode.Gap 0 node digits bytes) (number_text n) ≡ at Mode.Number n node digits bytes
  number_read n m = digits_read 9 n (omega arith) m

-- ---- words and numbers along a path of the grammar

-- a word that is read, and known at its place
pub record WordReads (node w : ℕ) : Type 0 where
  pub text :
      (digits : ℕ) (bytes : List ℕ)
      → scan_all (at Mode.Gap 0 node digits bytes) (word_text w) ≡ at Mode.Word w node digits bytes
  pub known : ltb (edge_at node w) edge_count ≡ true

-- a number that stands at its place and fits it
pub record NumberFits (node n : ℕ) : Type 0 where
  pub plain : eqb node raw_node ≡ false
  pub taken : eqb (slot_at node).width 0 ≡ false
  pub fits : n ≤ most_in (slot_at node).width

-- the place after a word or a number, and the record after it
abbrev pub place_after : ℕ → Token → ℕ
place_after node (Token.Word w) = (edge_of (edge_at node w)).to
place_after node (Token.Number n) = (slot_at node).to

abbrev pub bytes_after : ℕ → Token → List ℕ → List ℕ
bytes_after node (Token.Word w) bytes = said (edge_of (edge_at node w)).says bytes
bytes_after node (Token.Number n) bytes = slot_stored (slot_at node) n bytes

abbrev pub Fits : ℕ → Token → Type 0
Fits node (Token.Word w) = WordReads node w
Fits node (Token.Number n) = NumberFits node n

-- a path: each word and number fits where it stands
abbrev pub Path : ℕ → List Token → Type 0
Path node [] = Unit {0}
Path node (t ∷ ts) = Fits node t × Path (place_after node t) ts

abbrev pub path_place : ℕ → List Token → ℕ
path_place node [] = node
path_place node (t ∷ ts) = path_place (place_after node t) ts

abbrev pub path_bytes : ℕ → List Token → List ℕ → List ℕ
path_bytes node [] bytes = bytes
path_bytes node (t ∷ ts) bytes = path_bytes (place_after node t) ts (bytes_after node t bytes)

-- a word or a number that has been read, and not ended
abbrev pending : Token → ℕ → List ℕ → Scan
pending (Token.Word w) node bytes = at Mode.Word w node 0 bytes
pending (Token.Number n) node bytes = at Mode.Number n node 0 bytes

most_of : (p q : Bool) (n one two four : ℕ) → one ≤ four → two ≤ four → n ≤ cond p one (cond q two four) → n ≤ four
most_of true q n one two four h k m = omega arith
most_of false true n one two four h k m = omega arith
most_of false false n one two four h k m = m

-- no field holds more than four bytes do
pub most_in_lem : (width n : ℕ) → n ≤ most_in width → n ≤ 4294967295
most_in_lem width n h = most_of (eqb width 1) (eqb width 2) n (most_in 1) (most_in 2) (most_in 4) (omega arith) (omega arith) h

token_read : (t : Token) (node : ℕ) (bytes : List ℕ) → Fits node t → scan_all (at Mode.Gap 0 node 0 bytes) (token_text t) ≡ pending t node bytes
token_read (Token.Word w) node bytes f = f.text 0 bytes
token_read (Token.Number n) node bytes f =
    number_read node 0 bytes f.plain n (most_in_lem (slot_at node).width n f.fits)

token_ends :
    (t : Token) (node : ℕ) (bytes : List ℕ) → Fits node t
    → end_of (pending t node bytes) ≡ at Mode.Gap 0 (place_after node t) 0 (bytes_after node t bytes)
unfolding word_taken number_taken
token_ends (Token.Word w) node bytes f = rw f.known
token_ends (Token.Number n) node bytes f =
    rw (f.taken, le-ltb (most_in (slot_at node).width) n f.fits)

-- the text of a path takes the reader along the path
pub path_read :
    (ts : List Token) (t : Token) (node : ℕ) (bytes : List ℕ) → Path node (t ∷ ts)
    → end_of (scan_all (at Mode.Gap 0 node 0 bytes) (token_text t ++ rest_text ts))
    ≡ at Mode.Gap 0 (path_place node (t ∷ ts)) 0 (path_bytes node (t ∷ ts) bytes)
unfolding scan_all
path_read [] t node bytes p =
    ap end_of (scan_append (at Mode.Gap 0 node 0 bytes) (token_text t) [] ∙ token_read t node bytes p.0)
    ∙ token_ends t node bytes p.0
path_read (u ∷ us) t node bytes p =
    ap end_of (
    scan_append (at Mode.Gap 0 node 0 bytes) (token_text t) (rest_text (u ∷ us))
    ∙ ap (λ (s : Scan). scan_all s (rest_text (u ∷ us))) (token_read t node bytes p.0)
    ∙ ap (λ (s : Scan). scan_all s (token_text u ++ rest_text us)) (space_ends (pending t node bytes) 32 refl ∙ token_ends t node bytes p.0)
    )
    ∙ path_read us u (place_after node t) (bytes_after node t bytes) p.1
