-- Each turn of the loop stores one word's number, and a word that is no number ends it. Assumes nothing.
use Rattle.std.proofs.Common.{rules, arith, refl, sym, ◌∙◌, ◌≡◌}
use Rattle.requests.specs.Walk.{words_left}
use Rattle.requests.proofs.Walk.{not_then}
use Rattle.requests.proofs.Objects.{stored_none, stored_end, stored_not, stored_more, stored_enough}
use Rattle.requests.specs.Requests.{is_number, byte_of}
use Rattle.requests.proofs.Words.numbers.Goals as goal

pub loop-word-init : goal.loop-word-init
loop-word-init c = (stored_none (words_left c.args.self.now.rest), omega arith, refl)

pub returns-in_err-number : goal.returns-in_err-number
returns-in_err-number c =
    let loop = c.loop-word in
    let not = not_then (is_number c.in-Some.word.now) c.in_err-number.ensures in
    c.from_residual.ensures ∙ sym (stored_not loop.objects loop.count _ _ c.in-Some.word.now c.in-Some.ensures not) ∙ loop.invariant.0

pub loop-word-preserved-then-count-lt9 : goal.loop-word-preserved-then-count-lt9
loop-word-preserved-then-count-lt9 c =
    let loop = c.loop-word in
    let byte : c.byte_of.result ≡ byte_of c.in-Some.word.now = search rules in
    (rw byte (stored_more loop.objects loop.count _ _ c.in-Some.word.now c.in-Some.ensures c.in_ok-number.ensures.0 c.if-count-lt9.true ∙ loop.invariant.0), omega arith, search rules)

pub loop-word-preserved : goal.loop-word-preserved
loop-word-preserved c =
    let loop = c.loop-word in
    (stored_enough loop.objects loop.count _ _ c.in-Some.word.now c.in-Some.ensures c.in_ok-number.ensures.0 c.if-count-lt9.false loop.invariant.1 loop.invariant.2 ∙ loop.invariant.0, loop.invariant.1, loop.invariant.2)

pub returns : goal.returns
returns c =
    let loop = c.loop-word in
    sym (stored_end loop.objects loop.count _ c.in_default.ensures) ∙ loop.invariant.0
