-- What the words of a text are, and what is read of some texts. Assumes nothing.
use Rattle.std.specs.Prelude.{ℕ, ◌<◌, ◌≡◌, refl, Bool, true, false, cond, not, ◌&&◌, List, [], ◌∷◌, ◌++◌, map, eqb, length, replicate, Option, Some, None, is_some}
use Prim.Native.String.{String}
use Rattle.std.proofs.Common.{arith, sym, ap, ◌∙◌, true≢false, eqb-true}
use Rattle.std.proofs.lemmas.Bool.{not-true}
use Rattle.requests.specs.Requests.{ahead, words_of, text_bytes, same, all_digits, number_on, is_number, all_numbers, asks, in_order, asked, request_of}
use Rattle.requests.specs.declared.Request.{Request}

pub both_true : (a b : Bool) → (a && b) ≡ true → (a ≡ true) × (b ≡ true)
both_true true b e = (refl, e)
both_true false b e = absurd (true≢false (sym e))

-- ---- a request that is not read

nothing_by : (r : Option Request) → is_some r ≡ false → r ≡ None
nothing_by None e = refl
nothing_by (Some r) e = absurd (true≢false e)

-- it has no number
pub not_read_asks_nothing : (text : List ℕ) → is_some (request_of text) ≡ false → request_of text ≡ None
not_read_asks_nothing text e = nothing_by (request_of text) e

-- ---- words and text turn into each other without loss

-- one space stands between two words
abbrev pub joined : List (List ℕ) → List ℕ
joined [] = []
joined (word ∷ []) = word
joined (word ∷ next ∷ words) = word ++ (32 ∷ joined (next ∷ words))

some_by : (space : Bool) (b : ℕ) (words : List (List ℕ)) → 0 < length (cond space ([] ∷ words) (ahead (b ∷ []) words))
some_by true b words = omega arith
some_by false b [] = omega arith
some_by false b (word ∷ words) = omega arith

-- a text has a word
some_word : (text : List ℕ) → 0 < length (words_of text)
unfolding words_of
some_word [] = omega arith
some_word (b ∷ text) = some_by (eqb b 32) b (words_of text)

joined_by :
    (space : Bool) (b : ℕ) (words : List (List ℕ)) → eqb b 32 ≡ space → 0 < length words
    → joined (cond space ([] ∷ words) (ahead (b ∷ []) words)) ≡ b ∷ joined words
joined_by space b [] e h = absurd (omega arith)
joined_by true b (word ∷ words) e h = ap (λ (n : ℕ). n ∷ joined (word ∷ words)) (sym (eqb-true b 32 e))
joined_by false b (word ∷ []) e h = refl
joined_by false b (word ∷ next ∷ words) e h = refl

pub words_joined : (text : List ℕ) → joined (words_of text) ≡ text
unfolding words_of
words_joined [] = refl
words_joined (b ∷ text) = joined_by (eqb b 32) b (words_of text) refl (some_word text) ∙ ap (λ (l : List ℕ). b ∷ l) (words_joined text)

abbrev pub spaceless : List ℕ → Bool
spaceless [] = true
spaceless (b ∷ word) = not (eqb b 32) && spaceless word

abbrev pub all_spaceless : List (List ℕ) → Bool
all_spaceless [] = true
all_spaceless (word ∷ words) = spaceless word && all_spaceless words

word_alone : (word : List ℕ) → spaceless word ≡ true → words_of word ≡ word ∷ []
unfolding words_of
word_alone [] e = refl
word_alone (b ∷ word) e =
    let both = both_true (not (eqb b 32)) (spaceless word) e in
    rw (not-true (eqb b 32) both.0, word_alone word both.1)

word_first : (word text : List ℕ) → spaceless word ≡ true → words_of (word ++ (32 ∷ text)) ≡ word ∷ words_of text
unfolding words_of
word_first [] text e = refl
word_first (b ∷ word) text e =
    let both = both_true (not (eqb b 32)) (spaceless word) e in
    rw (not-true (eqb b 32) both.0, word_first word text both.1)

-- of words without spaces
pub joined_words : (word : List ℕ) (words : List (List ℕ)) → all_spaceless (word ∷ words) ≡ true → words_of (joined (word ∷ words)) ≡ word ∷ words
joined_words word [] e = word_alone word (both_true (spaceless word) true e).0
joined_words word (next ∷ words) e =
    let both = both_true (spaceless word) (all_spaceless (next ∷ words)) e in
    word_first word (joined (next ∷ words)) both.0 ∙ ap (λ (l : List (List ℕ)). word ∷ l) (joined_words next words both.1)

-- ---- some texts

pub sample_read :
    request_of (text_bytes "beam 11500 margin 400 home 0 slot 2 quiesce 500 release 600 objects 4 8 0")
    ≡ Some (record {
      beam = 11500;
      margin = 400;
      home = 0;
      slot = 2;
      quiesce = 500;
      release = 600;
      objects = 4 ∷ 8 ∷ 0 ∷ 0 ∷ 0 ∷ 0 ∷ 0 ∷ 0 ∷ 0 ∷ [];
      count = 3;
    })
unfolding request_of asked in_order asks same is_number all_numbers all_digits number_on words_of
sample_read = refl

abbrev read_all : List String → List Bool
read_all texts = map (λ (text : String). is_some (request_of (text_bytes text))) texts

-- no object, and one above 255
pub some_read :
    read_all
    ("beam 0 margin 0 home 0 slot 0 quiesce 0 release 0 objects"
    ∷ "beam 0 margin 0 home 0 slot 0 quiesce 0 release 0 objects 4294967295"
    ∷ [])
    ≡ replicate 2 true
unfolding request_of asked in_order asks same is_number all_numbers all_digits number_on words_of
some_read = refl

-- anything else
pub some_not_read :
    read_all
    (""
    -- a number too large, also behind the ninth object
    ∷ "beam 4294967296 margin 0 home 0 slot 0 quiesce 0 release 0 objects"
    ∷ "beam 0 margin 0 home 0 slot 0 quiesce 0 release 0 objects 1 2 3 4 5 6 7 8 9 4294967296"
    -- no number
    ∷ "beam margin 0 home 0 slot 0 quiesce 0 release 0 objects"
    ∷ "beam +1 margin 0 home 0 slot 0 quiesce 0 release 0 objects"
    ∷ "beam 0 margin 0 home 0 slot 0 quiesce 0 release 0 objects 1 2 3 4 5 6 7 8 9 x"
    -- two spaces, one at the end, one at the start
    ∷ "beam 0  margin 0 home 0 slot 0 quiesce 0 release 0 objects"
    ∷ "beam 0 margin 0 home 0 slot 0 quiesce 0 release 0 objects "
    ∷ " beam 0 margin 0 home 0 slot 0 quiesce 0 release 0 objects"
    -- a name twice, none, or in another place
    ∷ "beam 0 beam 0 margin 0 home 0 slot 0 quiesce 0 release 0 objects"
    ∷ "beam 0 margin 0 home 0 slot 0 quiesce 0 release 0 objects 4 objects 8"
    ∷ "beam 0 margin 0 home 0 slot 0 quiesce 0 release 0"
    ∷ "margin 0 beam 0 home 0 slot 0 quiesce 0 release 0 objects"
    ∷ [])
    ≡ replicate 13 false
unfolding request_of asked in_order asks same is_number all_numbers all_digits number_on words_of
some_not_read = refl
