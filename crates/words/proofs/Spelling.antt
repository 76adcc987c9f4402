-- The words' numbers spell the words, one space more changes nothing, and a comment says nothing. Assumes nothing.
use Rattle.std.specs.Prelude.{ℕ, ◌≡◌, refl, Bool, true, cond, List, [], ◌∷◌, ltb, eqb}
use Rattle.std.proofs.Common.{sym, ap, ◌∙◌}
use Rattle.rules.specs.LoopsLaws.{cond_keeps}
use Rattle.rules.specs.Listing.{spelt}
use Rattle.words.specs.Types.{Fault, Mode, Scan}
use Rattle.words.specs.Grammar.{tick_word, begin_word, invoke_word, refresh_word, terminate_word, prepare_word, ask_word, close_word, tell_word, abort_word, deliver_word, drop_word, sweep_word, crash_word, recover_word, retire_word, raw_word, by_word, home_word, slot_word, quiesce_word, release_word, at_word, read_word, write_word, operation_word, object_word, value_word, edge_count, edge_of, edge_at, slot_at, most_in}
use Rattle.words.specs.Scan.{is_space, followed, misplaced, word_taken, filled, number_taken, end_by, end_of, noted_by, noted, next_by, scan_next, scan_all, verdict_by, verdict_of}
use Rattle.words.specs.Say.{word_text}

-- ---- the spelling of each word

pub words_spelled :
    ◌≡◌ {A = List (List ℕ)}
    (word_text tick_word ∷ word_text begin_word ∷ word_text invoke_word ∷ word_text refresh_word ∷ word_text terminate_word ∷ word_text prepare_word ∷ word_text ask_word ∷ word_text close_word ∷ word_text tell_word ∷ word_text abort_word ∷ word_text deliver_word ∷ word_text drop_word ∷ word_text sweep_word ∷ word_text crash_word ∷ word_text recover_word ∷ word_text retire_word ∷ word_text raw_word ∷ word_text by_word ∷ word_text home_word ∷ word_text slot_word ∷ word_text quiesce_word ∷ word_text release_word ∷ word_text at_word ∷ word_text read_word ∷ word_text write_word ∷ word_text operation_word ∷ word_text object_word ∷ word_text value_word ∷ [])
    -- in ASCII: tick, begin, invoke, refresh, terminate, prepare, ask, close, tell, abort, deliver, drop, sweep, crash, recover, retire, raw, by, home, slot, quiesce, release, at, read, write, operation, object, value
    ((116 ∷ 105 ∷ 99 ∷ 107 ∷ []) ∷ (98 ∷ 101 ∷ 103 ∷ 105 ∷ 110 ∷ []) ∷ (105 ∷ 110 ∷ 118 ∷ 111 ∷ 107 ∷ 101 ∷ []) ∷ (114 ∷ 101 ∷ 102 ∷ 114 ∷ 101 ∷ 115 ∷ 104 ∷ []) ∷ (116 ∷ 101 ∷ 114 ∷ 109 ∷ 105 ∷ 110 ∷ 97 ∷ 116 ∷ 101 ∷ []) ∷ (112 ∷ 114 ∷ 101 ∷ 112 ∷ 97 ∷ 114 ∷ 101 ∷ []) ∷ (97 ∷ 115 ∷ 107 ∷ []) ∷ (99 ∷ 108 ∷ 111 ∷ 115 ∷ 101 ∷ []) ∷ (116 ∷ 101 ∷ 108 ∷ 108 ∷ []) ∷ (97 ∷ 98 ∷ 111 ∷ 114 ∷ 116 ∷ []) ∷ (100 ∷ 101 ∷ 108 ∷ 105 ∷ 118 ∷ 101 ∷ 114 ∷ []) ∷ (100 ∷ 114 ∷ 111 ∷ 112 ∷ []) ∷ (115 ∷ 119 ∷ 101 ∷ 101 ∷ 112 ∷ []) ∷ (99 ∷ 114 ∷ 97 ∷ 115 ∷ 104 ∷ []) ∷ (114 ∷ 101 ∷ 99 ∷ 111 ∷ 118 ∷ 101 ∷ 114 ∷ []) ∷ (114 ∷ 101 ∷ 116 ∷ 105 ∷ 114 ∷ 101 ∷ []) ∷ (114 ∷ 97 ∷ 119 ∷ []) ∷ (98 ∷ 121 ∷ []) ∷ (104 ∷ 111 ∷ 109 ∷ 101 ∷ []) ∷ (115 ∷ 108 ∷ 111 ∷ 116 ∷ []) ∷ (113 ∷ 117 ∷ 105 ∷ 101 ∷ 115 ∷ 99 ∷ 101 ∷ []) ∷ (114 ∷ 101 ∷ 108 ∷ 101 ∷ 97 ∷ 115 ∷ 101 ∷ []) ∷ (97 ∷ 116 ∷ []) ∷ (114 ∷ 101 ∷ 97 ∷ 100 ∷ []) ∷ (119 ∷ 114 ∷ 105 ∷ 116 ∷ 101 ∷ []) ∷ (111 ∷ 112 ∷ 101 ∷ 114 ∷ 97 ∷ 116 ∷ 105 ∷ 111 ∷ 110 ∷ []) ∷ (111 ∷ 98 ∷ 106 ∷ 101 ∷ 99 ∷ 116 ∷ []) ∷ (118 ∷ 97 ∷ 108 ∷ 117 ∷ 101 ∷ []) ∷ [])
unfolding spelt
words_spelled = refl

-- ---- any spacing

end_cond : (t : Bool) (x y : Scan) → end_of x ≡ x → end_of y ≡ y → end_of (cond t x y) ≡ cond t x y
end_cond = cond_keeps (λ (s : Scan). end_of s ≡ s)

end_by_again : (m : Mode) (s : Scan) → s.mode ≡ m → end_of (end_by m s) ≡ end_by m s
unfolding word_taken number_taken
end_by_again Mode.Gap s e = ap (λ (m : Mode). end_by m s) e
end_by_again Mode.Word s e =
    end_cond (ltb (edge_at s.node s.token) edge_count) (followed s (edge_of (edge_at s.node s.token))) (misplaced s) refl refl
end_by_again Mode.Number s e =
    end_cond (eqb (slot_at s.node).width 0) (misplaced s) (filled s (slot_at s.node)) refl
    (end_cond (ltb (most_in (slot_at s.node).width) s.token) _ _ refl refl)
end_by_again Mode.Comment s e = ap (λ (m : Mode). end_by m s) e
end_by_again (Mode.Wrong f) s e = ap (λ (m : Mode). end_by m s) e

-- what has ended is over
pub end_again : (s : Scan) → end_of (end_of s) ≡ end_of s
end_again s = end_by_again s.mode s refl

space_by : (m : Mode) (s : Scan) (b : ℕ) → s.mode ≡ m → is_space b ≡ true → next_by m s b ≡ end_by m s
space_by Mode.Gap s b e h = rw h (ap (λ (m : Mode). end_by m s) e)
space_by Mode.Word s b e h = rw h (ap (λ (m : Mode). end_by m s) e)
space_by Mode.Number s b e h = rw h (ap (λ (m : Mode). end_by m s) e)
space_by Mode.Comment s b e h = refl
space_by (Mode.Wrong f) s b e h = refl

-- a space ends a word or a number, and does nothing else
pub space_ends : (s : Scan) (b : ℕ) → is_space b ≡ true → scan_next s b ≡ end_of s
unfolding scan_next
space_ends s b h = space_by s.mode s b refl h

-- a tab is a space, and so is a carriage return
pub tab_again : (s : Scan) → scan_next s 9 ≡ scan_next s 32
tab_again s = space_ends s 9 refl ∙ sym (space_ends s 32 refl)

pub return_again : (s : Scan) → scan_next s 13 ≡ scan_next s 32
return_again s = space_ends s 13 refl ∙ sym (space_ends s 32 refl)

-- one more of them changes nothing
pub space_again : (s : Scan) → scan_next (scan_next s 32) 32 ≡ scan_next s 32
space_again s =
    space_ends (scan_next s 32) 32 refl ∙ ap end_of (space_ends s 32 refl) ∙ end_again s ∙ sym (space_ends s 32 refl)

abbrev pub Spaces : List ℕ → Type 0
Spaces [] = Unit {0}
Spaces (b ∷ bs) = (is_space b ≡ true) × Spaces bs

-- at the end of a line any number of them changes nothing
pub spaces_last : (bs : List ℕ) (s : Scan) → Spaces bs → end_of (scan_all s bs) ≡ end_of s
unfolding scan_all
spaces_last [] s h = refl
spaces_last (b ∷ bs) s h =
    spaces_last bs (scan_next s b) h.1 ∙ ap end_of (space_ends s b h.0) ∙ end_again s

-- ---- comments, and what stands after something wrong

pub comment_stays : (xs : List ℕ) (s : Scan) → s.mode ≡ Mode.Comment → scan_all s xs ≡ s
unfolding scan_all scan_next
comment_stays [] s e = refl
comment_stays (x ∷ xs) s e =
    let same : scan_next s x ≡ s = ap (λ (m : Mode). next_by m s x) e in
    ap (λ (y : Scan). scan_all y xs) same ∙ comment_stays xs s e

pub wrong_stays : (xs : List ℕ) (s : Scan) (f : Fault) → s.mode ≡ Mode.Wrong f → scan_all s xs ≡ s
unfolding scan_all scan_next
wrong_stays [] s f e = refl
wrong_stays (x ∷ xs) s f e =
    let same : scan_next s x ≡ s = ap (λ (m : Mode). next_by m s x) e in
    ap (λ (y : Scan). scan_all y xs) same ∙ wrong_stays xs s f e

-- where a word or a number has ended, none is under way
abbrev Settled : Mode → Type 0
Settled Mode.Gap = Unit {0}
Settled Mode.Word = ⊥
Settled Mode.Number = ⊥
Settled Mode.Comment = Unit {0}
Settled (Mode.Wrong f) = Unit {0}

settled_cond : (t : Bool) (x y : Scan) → Settled x.mode → Settled y.mode → Settled (cond t x y).mode
settled_cond = cond_keeps (λ (s : Scan). Settled s.mode)

settled_by_lem : (m : Mode) (s : Scan) → s.mode ≡ m → Settled (end_by m s).mode
unfolding word_taken number_taken
settled_by_lem Mode.Gap s e = rw e tt
settled_by_lem Mode.Word s e =
    settled_cond (ltb (edge_at s.node s.token) edge_count) (followed s (edge_of (edge_at s.node s.token))) (misplaced s) tt tt
settled_by_lem Mode.Number s e =
    settled_cond (eqb (slot_at s.node).width 0) (misplaced s) (filled s (slot_at s.node)) tt
    (settled_cond (ltb (most_in (slot_at s.node).width) s.token) _ _ tt tt)
settled_by_lem Mode.Comment s e = rw e tt
settled_by_lem (Mode.Wrong f) s e = rw e tt

end_settled : (s : Scan) → Settled (end_of s).mode
end_settled s = settled_by_lem s.mode s refl

hash_by : (m : Mode) (s : Scan) → s.mode ≡ m → next_by m s 35 ≡ noted (end_by m s)
hash_by Mode.Gap s e = ap (λ (m : Mode). noted (end_by m s)) e
hash_by Mode.Word s e = ap (λ (m : Mode). noted (end_by m s)) e
hash_by Mode.Number s e = ap (λ (m : Mode). noted (end_by m s)) e
hash_by Mode.Comment s e = sym (ap (λ (m : Mode). noted_by m s) e)
hash_by (Mode.Wrong f) s e = sym (ap (λ (m : Mode). noted_by m s) e)

-- `#` ends a word or a number too
pub hash_ends : (s : Scan) → scan_next s 35 ≡ noted (end_of s)
unfolding scan_next
hash_ends s = hash_by s.mode s refl

-- what follows says nothing
noted_stays : (m : Mode) (s : Scan) (xs : List ℕ) → s.mode ≡ m → Settled m → scan_all (noted_by m s) xs ≡ noted_by m s
noted_stays Mode.Gap s xs e h = comment_stays xs (noted_by Mode.Gap s) refl
noted_stays Mode.Word s xs e h = absurd h
noted_stays Mode.Number s xs e h = absurd h
noted_stays Mode.Comment s xs e h = comment_stays xs s e
noted_stays (Mode.Wrong f) s xs e h = wrong_stays xs s f e

pub comment_all : (s : Scan) (xs : List ℕ) → scan_all s (35 ∷ xs) ≡ noted (end_of s)
unfolding scan_all
comment_all s xs =
    ap (λ (x : Scan). scan_all x xs) (hash_ends s) ∙ noted_stays (end_of s).mode (end_of s) xs refl (end_settled s)

noted_verdict : (m : Mode) (s : Scan) → s.mode ≡ m → Settled m → verdict_of (end_of (noted_by m s)) ≡ verdict_of s
noted_verdict Mode.Gap s e h = sym (ap (λ (m : Mode). verdict_by m s) e)
noted_verdict Mode.Word s e h = absurd h
noted_verdict Mode.Number s e h = absurd h
noted_verdict Mode.Comment s e h = ap (λ (m : Mode). verdict_of (end_by m s)) e
noted_verdict (Mode.Wrong f) s e h = ap (λ (m : Mode). verdict_of (end_by m s)) e

noted_bytes : (m : Mode) (s : Scan) → s.mode ≡ m → Settled m → (end_of (noted_by m s)).bytes ≡ s.bytes
noted_bytes Mode.Gap s e h = refl
noted_bytes Mode.Word s e h = absurd h
noted_bytes Mode.Number s e h = absurd h
noted_bytes Mode.Comment s e h = ap (λ (m : Mode). (end_by m s).bytes) e
noted_bytes (Mode.Wrong f) s e h = ap (λ (m : Mode). (end_by m s).bytes) e

-- a line with a comment says what it says without it, and gives the same record
pub comment_verdict : (s : Scan) (xs : List ℕ) → verdict_of (end_of (scan_all s (35 ∷ xs))) ≡ verdict_of (end_of s)
comment_verdict s xs =
    ap (λ (x : Scan). verdict_of (end_of x)) (comment_all s xs) ∙ noted_verdict (end_of s).mode (end_of s) refl (end_settled s)

pub comment_bytes : (s : Scan) (xs : List ℕ) → (end_of (scan_all s (35 ∷ xs))).bytes ≡ (end_of s).bytes
comment_bytes s xs =
    ap (λ (x : Scan). (end_of x).bytes) (comment_all s xs) ∙ noted_bytes (end_of s).mode (end_of s) refl (end_settled s)
