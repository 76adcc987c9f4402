-- The answers of a part's records, what a run of them leaves, and what a list that holds them has where. Assumes nothing.
use Prim.Native.Nat.{ℕ, zero, suc, ◌≤◌, ◌<◌, min}
use Rattle.std.proofs.Common.{arith, ◌∙◌, length-append}
use Rattle.std.specs.Prelude.{◌≡◌, refl, List, [], ◌∷◌, ◌++◌, length, get_or, take, drop}
use Rattle.std.proofs.Math.Logic.{⊎_elim}
use Rattle.std.proofs.Math.ListN.{get_or-append}
use Rattle.std.proofs.Math.Seq.{get_or-append_seam, take_at}
use Rattle.rules.specs.LoopsLaws.{below_or_last}
use Rattle.rules.specs.declared.tables.Tables.{Tables}
use Rattle.rules.specs.Types.{Answer}
use Rattle.rules.specs.Tables.{start}
use Rattle.rules.specs.Record.{step_record_of}
use Rattle.rules.specs.Runs.{run_records_of}
use Rattle.rules.specs.Sheet.{record_at, records_up_to}
use Rattle.rules.specs.Listing.{printed_up_to}

-- the answer of record i, from 0, on the tables that the records before it leave
abbrev pub answer_at : List ℕ → ℕ → Answer
answer_at part i = (step_record_of (printed_up_to part i).tables (record_at part i)).answer

-- the answers of the first n records
unfoldable pub answered_up_to : List ℕ → ℕ → List Answer
answered_up_to part zero = []
answered_up_to part (suc n) = answered_up_to part n ++ (answer_at part n ∷ [])

-- of n answers, as many as a list has room for
abbrev pub room_for : List Answer → ℕ → ℕ
room_for list n = min n (length list)

-- of the answers of the first n records, as many are put at the front of a list as it has room for
abbrev pub PutsAnswers : List ℕ → ℕ → List Answer → List Answer → Type 0
PutsAnswers part n before after =
    after ≡ answered_up_to part (room_for before n) ++ drop (room_for before n) before

-- what a run of the first n records leaves: their tables, and in a list their answers
pub record Ran (part : List ℕ) (n : ℕ) (before after : List Answer) (left : Tables) : Type 0 where
  pub tables : left ≡ run_records_of start (records_up_to part n)
  pub answers : PutsAnswers part n before after

pub answered_length : (part : List ℕ) (n : ℕ) → length (answered_up_to part n) ≡ n
unfolding answered_up_to
answered_length part zero = refl
answered_length part (suc n) =
    length-append (answered_up_to part n) (answer_at part n ∷ []) ∙ rw (answered_length part n) (omega arith)

-- the answers of the first n records stand in a list, each in its place
pub record HoldsAnswers (part : List ℕ) (n : ℕ) (list : List Answer) : Type 0 where
  pub each : (i : ℕ) → i < n → (d : Answer) → get_or list i d ≡ answer_at part i

-- of a list that ends in one, the one
last_one : (xs : List Answer) (n : ℕ) (a d : Answer) → length xs ≡ n → get_or (xs ++ (a ∷ [])) n d ≡ a
last_one xs n a d e = rw (← e) (get_or-append_seam xs a [] d)

module _ (part : List ℕ) where
  pub answered_each : (n i : ℕ) → i < n → (d : Answer) → get_or (answered_up_to part n) i d ≡ answer_at part i
  unfolding answered_up_to
  answered_each zero i h d = absurd (omega arith)
  answered_each (suc n) i h d =
      ⊎_elim
      (λ b. get_or-append (answered_up_to part n) _ d i (rw (answered_length part n) b) ∙ answered_each n i b d)
      (λ e. rw e (last_one (answered_up_to part n) n (answer_at part n) d (answered_length part n)))
      (below_or_last i n h)

  -- a list that has room for all the answers begins with them after the run
  pub answers_first :
      (n : ℕ) (before after : List Answer) {left : Tables} → n ≤ length before → Ran part n before after left → take n after ≡ answered_up_to part n
  answers_first n before after room ran =
      let e : room_for before n ≡ n = omega arith in
      rw (ran.answers, e) (take_at (answered_up_to part n) (drop n before) n (answered_length part n))

  -- and holds them
  pub answers_held :
      (n : ℕ) (before after : List Answer) {left : Tables} → n ≤ length before → Ran part n before after left → HoldsAnswers part n after
  answers_held n before after room ran =
      let e : room_for before n ≡ n = omega arith in
      let p : after ≡ answered_up_to part n ++ drop n before = rw e at ran.answers in
      record {
        each = λ i h d. rw p (get_or-append (answered_up_to part n) _ d i (rw (answered_length part n) h) ∙ answered_each n i h d);
      }

  -- and so does its part that begins with them and ends there
  pub taken_held :
      (n : ℕ) (before after : List Answer) {left : Tables} → n ≤ length before → Ran part n before after left → HoldsAnswers part n (take n after)
  taken_held n before after room ran =
      let e = answers_first n before after room ran in
      record {
        each = λ i h d. rw e (answered_each n i h d);
      }
