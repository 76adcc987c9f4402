-- The words that lead on from a place: how long they are, and where they are what is expected. Assumes nothing.
use Rattle.std.specs.Prelude.{Option, Some, None, is_some, cond, not, ℕ, zero, suc, ◌+◌, ◌≤◌, ◌≡◌, refl, Bool, true, false, List, [], ◌∷◌, ◌++◌, eqb, length, get_or, take, count_by}
use Rattle.std.proofs.Common.{arith, sym, ap, ◌∙◌, zero-add, length-append}
use Rattle.std.proofs.lemmas.List.Sums.{sum_by-append}
use Rattle.std.proofs.Math.Seq.{take-suc}
use Rattle.rules.specs.Loops.{one_if, sum_up_to}
use Rattle.words.specs.declared.rows.Edge.{Edge}
use Rattle.words.specs.Grammar.{edge, edges, edge_of, slot_at}
use Rattle.words.specs.Say.{text_bytes, word_text}
use Rattle.words.specs.Faults.{choices_up_to, choice_count, separator, choice_text, choices_text, nothing_text, expected_at}
use Rattle.words.proofs.TextLaws.{cond_length, letters_length}

-- so many of the first rows of a table pass the test as of the indices below n
counted : {A : Type 0} (p : A → Bool) (xs : List A) (d : A) (n : ℕ) → n ≤ length xs → sum_up_to (λ i. one_if (p (get_or xs i d))) n ≡ count_by p (take n xs)
unfolding sum_up_to
counted p xs d zero h = refl
counted p xs d (suc n) h =
    let q = sum_by-append (λ x. one_if (p x)) (take n xs) (get_or xs n d ∷ []) in
    rw (take-suc xs n d h, counted p xs d n (omega arith)) (sym (q ∙ ap (λ (m : ℕ). count_by p (take n xs) + m) (zero-add (one_if (p (get_or xs n d))))))

pub choices_counted : (node n : ℕ) → n ≤ 31 → count_by (λ (e : Edge). eqb e.from node) (take n edges) ≡ choices_up_to node n
unfolding choices_up_to
choices_counted node n h = sym (counted (λ (e : Edge). eqb e.from node) edges (edge 0 0 0 0 0) n h)

pub separator_length : (before count : ℕ) → length (separator before count) ≤ 4
separator_length before count =
    cond_length (eqb before 0) [] _ 4 (omega arith)
    (cond_length (eqb (before + 1) count) (text_bytes " or ") (text_bytes ", ") 4 (omega arith) (omega arith))

pub choice_length : (node k : ℕ) → length (choice_text node k) ≤ 13
choice_length node k =
    let before = separator (choices_up_to node k) (choice_count node) in
    cond_length (eqb (edge_of k).from node) (before ++ word_text (edge_of k).word) [] 13
    (rw (length-append before (word_text (edge_of k).word)) (omega (arith, separator_length (choices_up_to node k) (choice_count node), letters_length 9 (edge_of k).word)))
    (omega arith)

-- whether a number stands
pub number_stands : {A : Type 0} (none : Bool) (x : A) (o : Option A) (r : Bool) → o ≡ cond none None (Some x) → r ≡ is_some o → none ≡ not r
number_stands true x o r e f = sym (ap not (f ∙ ap is_some e))
number_stands false x o r e f = sym (ap not (f ∙ ap is_some e))

-- where no number stands, the words that lead on
pub choices_expected :
    (node : ℕ) → eqb node 0 ≡ false → eqb node 30 ≡ false → eqb (slot_at node).width 0 ≡ true
    → expected_at node ≡ choices_text node 31 ++ nothing_text node
unfolding expected_at
choices_expected node first raw width = rw (first, raw, width)
