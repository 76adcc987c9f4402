-- Laws of the list: what `held_in` says, event by event; the use of a slot, which counts its accepted retires without end. Assumes nothing.
use Rattle.std.specs.Prelude.{ℕ, ◌+◌, ◌%◌, ◌<◌, ◌≡◌, ◌⊎◌, Bool, ◌&&◌, ◌||◌, eqb}
use Rattle.std.proofs.Common.{arith, add-zero, zero-add, sym, ◌∙◌, true≢false, eqb-true}
use Rattle.std.proofs.Math.Path.{refl, ap}
use Rattle.std.proofs.Math.Logic.{⊎_elim, inl, inr}
use Rattle.std.proofs.Math.Bool.{true, false, cond}
use Rattle.std.proofs.lemmas.Bool.{false≢true}
use mathlib.Core.List.{List, [], ◌∷◌, ◌++◌}
use Rattle.rules.specs.Loops.{one_if}
use Rattle.rules.specs.LoopsLaws.{either, and_left, and_right, or_left, or_right}
use Rattle.rules.specs.Tables.{start, free_slot, past_passage}
use Rattle.rules.specs.Answers.{is_accepted}
use Rattle.rules.specs.Machine.{step_of}
use Rattle.rules.specs.Runs.{Started, run_of, history_of}
use Rattle.rules.specs.Events.{EventKind, is_holding}
use Rattle.runs.specs.Types.{Passage, Tables, Step}
use Rattle.runs.proofs.Walk.Plain.{repeat_has}
use Rattle.runs.proofs.Walk.Steps.{run_on}
use Rattle.runs.proofs.Holders.Holders.{held_run}
use Rattle.runs.specs.Orphans.Orphans.{retires}
use Rattle.runs.proofs.Promises.Handles.{generation_counts_retires}
use Rattle.runs.specs.Events.Uses.{uses_after, uses_from, use_of, PassageEvent, events_up_to, is_of, hold_after, held_since, held_in, frees, is_freed_in, TakenAndNotFreed}
use Rattle.runs.proofs.Events.HeldByList.{since_joined, retired_holds_nothing, held_is_listed, held_by_list}
use Rattle.runs.specs.Promises.Definitions.{retires_in, generation_at}

-- ---- held by a list: taken and not freed since

module _ (p u k : ℕ) where
  -- what is held and not freed is held
  unfreed_held : (es : List PassageEvent) → is_freed_in es p u k ≡ false → held_since es p u k true ≡ true
  unfolding held_since is_freed_in
  unfreed_held [] e = refl
  unfreed_held (x ∷ xs) e =
      rw
      (stays (is_of p u k x) x.event.kind (or_left _ _ e))
      (unfreed_held xs (or_right (is_of p u k x && frees x.event.kind) _ e))
    where
      stays : (b : Bool) (kind : EventKind) → (b && frees kind) ≡ false → cond b (hold_after kind true) true ≡ true
      stays true EventKind.Took f = refl
      stays true (EventKind.Operated write found written) f = refl
      stays true EventKind.Freed f = absurd (true≢false f)
      stays false kind f = refl

  -- who holds it after a list held it before and has not freed it, or has taken it in the list and not freed it since
  held_taken :
      (es : List PassageEvent) (held : Bool) → held_since es p u k held ≡ true
      → ((held ≡ true) × (is_freed_in es p u k ≡ false)) ⊎ TakenAndNotFreed es p u k
  unfolding held_since is_freed_in
  held_taken [] held e = inl (e, refl)
  held_taken (x ∷ xs) held e =
      ⊎_elim
      (λ h. by_event (is_of p u k x) refl x.event.kind refl h.0 h.1)
      (λ h.
      inr
      (record {
        before = x ∷ h.before;
        taking = h.taking;
        since = h.since;
        all = ap (λ (l : List PassageEvent). x ∷ l) h.all;
        of = h.of;
        took = h.took;
        not_freed = h.not_freed;
      }))
      (held_taken xs _ e)
    where
      by_event :
          (b : Bool) → is_of p u k x ≡ b → (kind : EventKind) → x.event.kind ≡ kind → cond b (hold_after kind held) held ≡ true
          → is_freed_in xs p u k ≡ false
          → ((held ≡ true) × (((is_of p u k x && frees x.event.kind) || is_freed_in xs p u k) ≡ false)) ⊎ TakenAndNotFreed (x ∷ xs) p u k
      by_event true b EventKind.Took kind h f =
          inr (record { before = []; taking = x; since = xs; all = refl; of = b; took = kind; not_freed = f })
      by_event true b (EventKind.Operated write found written) kind h f = inl (h, rw (b, kind) f)
      by_event true b EventKind.Freed kind h f = absurd (false≢true h)
      by_event false b kind q h f = inl (h, rw b f)

  pub listed_is_taken : (es : List PassageEvent) → held_in es p u k ≡ true → TakenAndNotFreed es p u k
  listed_is_taken es e = ⊎_elim (λ h. absurd (false≢true h.0)) (λ h. h) (held_taken es false e)

  pub taken_is_listed : (es : List PassageEvent) → TakenAndNotFreed es p u k → held_in es p u k ≡ true
  unfolding held_since
  taken_is_listed es x =
      ap (λ (l : List PassageEvent). held_in l p u k) x.all
      ∙ since_joined x.before (x.taking ∷ x.since) p u k false
      ∙ (rw (x.of, x.took) (unfreed_held x.since x.not_freed))

-- ---- every run, in these words

-- an object that a passage holds has been taken, in the present use of its slot, and not freed since
pub held_was_taken :
    {t₀ : Tables} → Started t₀ → (ss : List Step) (p k : ℕ) → p < 16 → k < 32 → is_holding (run_of t₀ ss) p k ≡ true
    → TakenAndNotFreed (events_up_to t₀ ss) p (use_of t₀ ss p) k
held_was_taken {t₀} fresh ss p k slot l e =
    listed_is_taken p (use_of t₀ ss p) k (events_up_to t₀ ss) (sym (held_is_listed fresh ss p k slot l) ∙ e)

-- and what has been taken and not freed since is held, and its use is the present one
pub taken_is_held :
    {t₀ : Tables} → Started t₀ → (ss : List Step) (p u k : ℕ) → p < 16 → k < 32 → TakenAndNotFreed (events_up_to t₀ ss) p u k
    → (is_holding (run_of t₀ ss) p k ≡ true) × (use_of t₀ ss p ≡ u)
taken_is_held {t₀} fresh ss p u k slot l x =
    let e : (is_holding (run_of t₀ ss) p k && eqb (use_of t₀ ss p) u) ≡ true =
    sym (held_by_list fresh ss p u k slot l) ∙ taken_is_listed p u k (events_up_to t₀ ss) x in
    (and_left _ (eqb (use_of t₀ ss p) u) e, eqb-true (use_of t₀ ss p) u (and_right (is_holding (run_of t₀ ss) p k) _ e))

-- ---- the use of a slot

uses_on :
    (t : Tables) (uses : ℕ → ℕ) (before : List Step) (s : Step) (p : ℕ)
    → uses_from t uses (before ++ s ∷ []) p ≡ uses_from t uses before p + one_if (is_accepted (step_of (run_of t before) s).answer && retires p s)
unfolding uses_from run_of
uses_on t uses [] s p = refl
uses_on t uses (x ∷ xs) s p = uses_on (step_of t x).tables (uses_after t x uses) xs s p

-- after an accepted retire of a slot its use is one higher, and it holds nothing
pub use_after_retire :
    {t₀ : Tables} → Started t₀ → (ss : List Step) (step : Step) (p : ℕ) → p < 16 → (is_accepted (step_of (run_of t₀ ss) step).answer && retires p step) ≡ true
    → (use_of t₀ (ss ++ step ∷ []) p ≡ use_of t₀ ss p + 1)
    × ((k : ℕ) → k < 32 → is_holding (run_of t₀ (ss ++ step ∷ [])) p k ≡ false)
unfolding use_of run_of
use_after_retire {t₀} fresh ss step p slot r = (
  uses_on t₀ (λ q. 0) ss step p ∙ (rw r),
  λ k l. rw (run_on t₀ ss (step ∷ [])) (retired_holds_nothing (run_of t₀ ss) step p k (held_run fresh ss) slot l r).1,
)

-- no other step moves it
pub use_after_other :
    {t₀ : Tables} → Started t₀ → (ss : List Step) (step : Step) (p : ℕ) → (is_accepted (step_of (run_of t₀ ss) step).answer && retires p step) ≡ false
    → use_of t₀ (ss ++ step ∷ []) p ≡ use_of t₀ ss p
unfolding use_of
use_after_other {t₀} fresh ss step p r = uses_on t₀ (λ q. 0) ss step p ∙ (rw r (add-zero _))

uses_count :
    (t : Tables) (uses : ℕ → ℕ) (ss : List Step) (p : ℕ) → uses_from t uses ss p ≡ uses p + retires_in p (history_of t ss)
unfolding uses_from history_of retires_in
uses_count t uses [] p = sym (add-zero (uses p))
uses_count t uses (s ∷ ss) p =
    uses_count (step_of t s).tables (uses_after t s uses) ss p ∙ one (either (is_accepted (step_of t s).answer))
  where
    one :
        (is_accepted (step_of t s).answer ≡ true) ⊎ (is_accepted (step_of t s).answer ≡ false)
        → uses_after t s uses p + retires_in p (history_of (step_of t s).tables ss) ≡ uses p + retires_in p (history_of t (s ∷ ss))
    one (inl a) = rw a (omega arith)
    one (inr a) = rw a (omega arith)

-- the use is the number of accepted retires of the slot in the list of accepted steps
pub use_counts_retires : (t₀ : Tables) (ss : List Step) (p : ℕ) → use_of t₀ ss p ≡ retires_in p (history_of t₀ ss)
unfolding use_of
use_counts_retires t₀ ss p = uses_count t₀ (λ q. 0) ss p ∙ zero-add _

generation_zero : (p : ℕ) → generation_at start p ≡ 0
unfolding start
generation_zero = repeat_has (λ (x : Passage). x.generation ≡ 0) 16 (free_slot 0) past_passage refl refl

generation_started : {t₀ : Tables} → Started t₀ → (p : ℕ) → generation_at t₀ p ≡ 0
generation_started fresh p = rw fresh.empty (generation_zero p)

-- the generation byte is what it leaves over 256: the same again after 256 retires, and the use is not
pub generation_is_use : {t₀ : Tables} → Started t₀ → (ss : List Step) (p : ℕ) → generation_at (run_of t₀ ss) p ≡ use_of t₀ ss p % 256
unfolding run_of
generation_is_use {t₀} fresh ss p =
    generation_counts_retires fresh [] ss p
    ∙ (rw (generation_started fresh p, use_counts_retires t₀ ss p) (omega arith))
