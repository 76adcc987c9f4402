-- One piece of a line more, and one byte in hex more. Assumes nothing.
use Rattle.std.specs.Prelude.{ℕ, ◌+◌, ◌≤◌, ◌<◌, ◌≡◌, List, [], ◌∷◌, ◌++◌, length, get_or, take}
use Rattle.std.proofs.Common.{◌∙◌, add-one, append-nil, arith}
use Rattle.std.proofs.Math.Seq.{take-suc}
use Rattle.std.proofs.lemmas.List.{drop_all}
use Rattle.std.specs.Borrow.{MutBor}
use Rattle.buffer.specs.declared.Page.{Page}
use Rattle.buffer.specs.Page.{IsEmpty, Writes}
use Rattle.buffer.specs.Text.{written}
use Rattle.words.specs.Say.{token_text, rest_text, hex_text}
use Rattle.words.specs.declared.tokens.Token.{Token}
use Rattle.words.proofs.TextLaws.{rest_more, hex_more}

-- tokens that have been put, and one more
pub tokens_more :
    (ts : List Token) (i : ℕ) (d : Token) → i < length ts
    → rest_text (take i ts) ++ (32 ∷ token_text (get_or ts i d)) ≡ rest_text (take (i + 1) ts)
tokens_more ts i d h = rw (add-one i, take-suc ts i d h, rest_more (take i ts) (get_or ts i d))

pub bytes_more :
    (bs : List ℕ) (i : ℕ) → i < length bs
    → hex_text (take i bs) ++ hex_text (get_or bs i 0 ∷ []) ≡ hex_text (take (i + 1) bs)
unfolding hex_text
bytes_more bs i h = rw (add-one i, take-suc bs i 0 h, hex_more (take i bs) (get_or bs i 0))

whole_text : (buf x : List ℕ) → length buf ≤ length x → written buf 0 x ≡ x
whole_text buf x h = rw (drop_all (0 + length x) buf (omega arith)) (append-nil x)

-- a page of which a text fills the whole buffer
pub page_filled : {lent : MutBor (List ℕ)} {a b : Page} {x : List ℕ} → IsEmpty a lent → Writes a b x → length lent.now ≤ length x → b.out.now ≡ x
page_filled {lent} {a} {b} {x} e w h = w.buffer ∙ rw (e.place, e.buffer) (whole_text lent.now x h)
