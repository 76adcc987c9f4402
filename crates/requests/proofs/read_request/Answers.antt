-- The words behind the first k are those that are left, and a word that is not in order leaves no request. Assumes nothing.
use Rattle.std.proofs.Common.{refl, sym, ap, ◌∙◌, List, ℕ, drop, drop-drop, true≢false}
use Rattle.requests.specs.Requests.{words_of, text_bytes, same}
use Rattle.requests.specs.Walk.{words_left, listed}
use Rattle.requests.proofs.Together.{word_there, asks_there, asked_there, too_long, unread, listed_none, whole_read}
use Rattle.requests.proofs.read_request.Goals as goal

pub returns-then-text-gt-TEXT_MOST : goal.returns-then-text-gt-TEXT_MOST
returns-then-text-gt-TEXT_MOST c = too_long c.args.text.now c.if-text-gt-TEXT_MOST.true

pub returns-in_err-beam : goal.returns-in_err-beam
unfolding words_left
returns-in_err-beam c =
    let words = words_of c.args.text.now in
    c.from_residual.ensures ∙ unread c.args.text.now (λ o. true≢false (sym o.beam ∙ sym (asks_there words _ 0 refl (text_bytes "beam")) ∙ c.in_err-beam.ensures))

pub returns-in_err-margin : goal.returns-in_err-margin
unfolding words_left
returns-in_err-margin c =
    let words = words_of c.args.text.now in
    let beam = asked_there words _ 0 refl (text_bytes "beam") _ _ c.in_ok-beam.ensures in
    c.from_residual-in_err-margin.ensures ∙ unread c.args.text.now (λ o. true≢false (sym o.margin ∙ sym (asks_there words _ 2 beam.1 (text_bytes "margin")) ∙ c.in_err-margin.ensures))

pub returns-in_err-home : goal.returns-in_err-home
unfolding words_left
returns-in_err-home c =
    let words = words_of c.args.text.now in
    let beam = asked_there words _ 0 refl (text_bytes "beam") _ _ c.in_ok-beam.ensures in
    let margin = asked_there words _ 2 beam.1 (text_bytes "margin") _ _ c.in_ok-margin.ensures in
    c.from_residual-in_err-home.ensures ∙ unread c.args.text.now (λ o. true≢false (sym o.home ∙ sym (asks_there words _ 4 margin.1 (text_bytes "home")) ∙ c.in_err-home.ensures))

pub returns-in_err-slot : goal.returns-in_err-slot
unfolding words_left
returns-in_err-slot c =
    let words = words_of c.args.text.now in
    let beam = asked_there words _ 0 refl (text_bytes "beam") _ _ c.in_ok-beam.ensures in
    let margin = asked_there words _ 2 beam.1 (text_bytes "margin") _ _ c.in_ok-margin.ensures in
    let home = asked_there words _ 4 margin.1 (text_bytes "home") _ _ c.in_ok-home.ensures in
    c.from_residual-in_err-slot.ensures ∙ unread c.args.text.now (λ o. true≢false (sym o.slot ∙ sym (asks_there words _ 6 home.1 (text_bytes "slot")) ∙ c.in_err-slot.ensures))

pub returns-in_err-quiesce : goal.returns-in_err-quiesce
unfolding words_left
returns-in_err-quiesce c =
    let words = words_of c.args.text.now in
    let beam = asked_there words _ 0 refl (text_bytes "beam") _ _ c.in_ok-beam.ensures in
    let margin = asked_there words _ 2 beam.1 (text_bytes "margin") _ _ c.in_ok-margin.ensures in
    let home = asked_there words _ 4 margin.1 (text_bytes "home") _ _ c.in_ok-home.ensures in
    let slot = asked_there words _ 6 home.1 (text_bytes "slot") _ _ c.in_ok-slot.ensures in
    c.from_residual-in_err-quiesce.ensures ∙ unread c.args.text.now (λ o. true≢false (sym o.quiesce ∙ sym (asks_there words _ 8 slot.1 (text_bytes "quiesce")) ∙ c.in_err-quiesce.ensures))

pub returns-in_err-release : goal.returns-in_err-release
unfolding words_left
returns-in_err-release c =
    let words = words_of c.args.text.now in
    let beam = asked_there words _ 0 refl (text_bytes "beam") _ _ c.in_ok-beam.ensures in
    let margin = asked_there words _ 2 beam.1 (text_bytes "margin") _ _ c.in_ok-margin.ensures in
    let home = asked_there words _ 4 margin.1 (text_bytes "home") _ _ c.in_ok-home.ensures in
    let slot = asked_there words _ 6 home.1 (text_bytes "slot") _ _ c.in_ok-slot.ensures in
    let quiesce = asked_there words _ 8 slot.1 (text_bytes "quiesce") _ _ c.in_ok-quiesce.ensures in
    c.from_residual-in_err-release.ensures ∙ unread c.args.text.now (λ o. true≢false (sym o.release ∙ sym (asks_there words _ 10 quiesce.1 (text_bytes "release")) ∙ c.in_err-release.ensures))

pub returns-in_err-name : goal.returns-in_err-name
unfolding words_left
returns-in_err-name c =
    let words = words_of c.args.text.now in
    let beam = asked_there words _ 0 refl (text_bytes "beam") _ _ c.in_ok-beam.ensures in
    let margin = asked_there words _ 2 beam.1 (text_bytes "margin") _ _ c.in_ok-margin.ensures in
    let home = asked_there words _ 4 margin.1 (text_bytes "home") _ _ c.in_ok-home.ensures in
    let slot = asked_there words _ 6 home.1 (text_bytes "slot") _ _ c.in_ok-slot.ensures in
    let quiesce = asked_there words _ 8 slot.1 (text_bytes "quiesce") _ _ c.in_ok-quiesce.ensures in
    let release = asked_there words _ 10 quiesce.1 (text_bytes "release") _ _ c.in_ok-release.ensures in
    c.from_residual-in_err-name.ensures ∙ unread c.args.text.now (λ o. true≢false (sym o.name ∙ ap (λ w. same w (text_bytes "objects")) (sym (word_there words _ 12 release.1 0)) ∙ c.in_err-name.ensures))

pub returns-in_err-objects : goal.returns-in_err-objects
unfolding words_left
returns-in_err-objects c =
    let words = words_of c.args.text.now in
    let beam = asked_there words _ 0 refl (text_bytes "beam") _ _ c.in_ok-beam.ensures in
    let margin = asked_there words _ 2 beam.1 (text_bytes "margin") _ _ c.in_ok-margin.ensures in
    let home = asked_there words _ 4 margin.1 (text_bytes "home") _ _ c.in_ok-home.ensures in
    let slot = asked_there words _ 6 home.1 (text_bytes "slot") _ _ c.in_ok-slot.ensures in
    let quiesce = asked_there words _ 8 slot.1 (text_bytes "quiesce") _ _ c.in_ok-quiesce.ensures in
    let release = asked_there words _ 10 quiesce.1 (text_bytes "release") _ _ c.in_ok-release.ensures in
    let behind = c.in_ok-name.ensures.1 ∙ ap (λ (l : List (List ℕ)). drop 1 l) release.1 ∙ drop-drop 1 12 words in
    let none = sym c.in_err-objects.was ∙ c.numbers.ensures ∙ ap listed behind in
    c.from_residual-in_err-objects.ensures ∙ unread c.args.text.now (λ o. listed_none (drop 13 words) none o.numbers)

pub returns : goal.returns
unfolding words_left
returns c =
    let words = words_of c.args.text.now in
    let beam = asked_there words _ 0 refl (text_bytes "beam") _ _ c.in_ok-beam.ensures in
    let margin = asked_there words _ 2 beam.1 (text_bytes "margin") _ _ c.in_ok-margin.ensures in
    let home = asked_there words _ 4 margin.1 (text_bytes "home") _ _ c.in_ok-home.ensures in
    let slot = asked_there words _ 6 home.1 (text_bytes "slot") _ _ c.in_ok-slot.ensures in
    let quiesce = asked_there words _ 8 slot.1 (text_bytes "quiesce") _ _ c.in_ok-quiesce.ensures in
    let release = asked_there words _ 10 quiesce.1 (text_bytes "release") _ _ c.in_ok-release.ensures in
    let name = ap (λ w. same w (text_bytes "objects")) (sym (word_there words _ 12 release.1 0)) ∙ c.in_ok-name.ensures.0 in
    let behind = c.in_ok-name.ensures.1 ∙ ap (λ (l : List (List ℕ)). drop 1 l) release.1 ∙ drop-drop 1 12 words in
    let list = sym c.in_ok-objects.was ∙ c.numbers.ensures ∙ ap listed behind in
    rw (c.byte_of.ensures, c.byte_of-2.ensures)
    (whole_read c.args.text.now _ _ _ _ _ _ _ _ c.if-text-gt-TEXT_MOST.false beam.0 margin.0 home.0 slot.0 quiesce.0 release.0 name list)
