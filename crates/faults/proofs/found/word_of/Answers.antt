-- The word ends where the first byte stands that ends it. Assumes nothing.
use Rattle.std.proofs.Common.{◌≡◌, ◌∙◌, ap, ℕ, ◌||◌, Option, unwrap_or, length, take, rules, tests}
use Rattle.std.specs.List.{position}
use Rattle.std.proofs.lemmas.Iterator.{YieldsList-from_slice}
use Rattle.std.proofs.lemmas.Iterator.Search.{position_from_yields_List}
use Rattle.words.specs.Scan.{is_space, is_hash}
use Rattle.faults.proofs.Finding.{front_end}
use Rattle.faults.proofs.found.word_of.Goals as goal

pub returns : goal.returns
returns c =
    let bytes = c.args.bytes.now in
    let ends = λ (b : ℕ). is_space b || is_hash b in
    let e : c.position-end.result ≡ position ends bytes = position_from_yields_List ends _ _ c.position-end.result c.position-end.ensures.ran (YieldsList-from_slice _ c.iter.ensures.rest) (λ x b q k. search (rules, tests)) in
    ap (λ (n : ℕ). take n bytes) (c.unwrap_or.ensures ∙ ap (λ (o : Option ℕ). unwrap_or o (length bytes)) e ∙ front_end ends bytes)
