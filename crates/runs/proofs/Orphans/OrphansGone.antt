-- What is known along a run is what the list of accepted steps says; at the moment no time of the passage is above T. Assumes nothing.
use Prim.Native.Nat.{ℕ, zero, suc, ◌<◌, ◌≤◌, max, zero-le}
use native.Mathlib.Omega.{arith}
use Rattle.std.specs.Prelude.{◌≡◌, Bool, cond, not, ◌||◌}
use Rattle.std.proofs.Math.Path.{refl, ap}
use Rattle.std.proofs.Common.{sym, ◌∙◌}
use Rattle.std.proofs.Math.Logic.{⊎_elim}
use Rattle.std.proofs.Math.Bool.{true, false}
use mathlib.Core.List.{List, [], ◌∷◌}
use Rattle.rules.specs.Loops.{most_up_to}
use Rattle.rules.specs.LoopsLaws.{either, most_at, or_left, or_right, and_left, not_true}
use Rattle.rules.specs.Tables.{passage_at, visit_at, message_at, no_message}
use Rattle.rules.specs.Parts.{is_empty}
use Rattle.rules.specs.Answers.{is_accepted}
use Rattle.rules.specs.Machine.{is_message_of, step_of}
use Rattle.rules.specs.Runs.{Started, run_of, history_of}
use Rattle.rules.specs.declared.looking.Trip.{Trip}
use Rattle.runs.specs.Types.{Status, Visit, Tables, Step, Outcome}
use Rattle.runs.specs.Walk.Says.{body_latest}
use Rattle.runs.specs.Times.View.{view_of}
use Rattle.runs.specs.Times.Clauses.{Holds}
use Rattle.runs.proofs.Walk.Steps.{ghost_turns, ghost_step, ghost_run, ghost_accepted, ghost_refused}
use Rattle.runs.proofs.Walk.Counted.{history_accepted, history_refused}
use Rattle.runs.proofs.Times.Ledgers.{ledgers_of}
use Rattle.runs.proofs.Times.RunLaws.{holds_run}
use Rattle.runs.specs.Orphans.Orphans.{began_commit, retires, is_retired, visit_latest, mail_latest, latest}
use Rattle.runs.specs.Orphans.Watch.{Known, Bounded, BoundedVisit, BoundedBody}
use Rattle.runs.proofs.Orphans.WatchStore.{known_head, known_turn}

-- ---- what is known along a run is what the list of accepted steps says

module _ (p : ℕ) where
  -- the slots' turns tell nothing new
  turns_known : (trip : Trip) (o : Outcome) (n : ℕ) (g : Known) → ghost_turns (known_head p) known_turn trip o n g ≡ g
  unfolding ghost_turns
  turns_known trip o zero g = refl
  turns_known trip o (suc n) g = turns_known trip o n g

  -- after an accepted step
  step_known :
      (t : Tables) (step : Step) (g : Known) → is_accepted (step_of t step).answer ≡ true
      → ghost_step (known_head p) known_turn t step g ≡ known_head p t step g
  step_known t step g e = ghost_accepted (known_head p) known_turn t step g e ∙ turns_known _ _ _ _

  -- the rest of a run, after what its first step made known
  rest_accepted :
      (t : Tables) (s : Step) (ss : List Step) (g : Known) → is_accepted (step_of t s).answer ≡ true
      → ghost_run (known_head p) known_turn t (s ∷ ss) g
      ≡ ghost_run (known_head p) known_turn (step_of t s).tables ss (known_head p t s g)
  unfolding ghost_run
  rest_accepted t s ss g e = ap (ghost_run (known_head p) known_turn (step_of t s).tables ss) (step_known t s g e)

  rest_refused :
      (t : Tables) (s : Step) (ss : List Step) (g : Known) → is_accepted (step_of t s).answer ≡ false
      → ghost_run (known_head p) known_turn t (s ∷ ss) g ≡ ghost_run (known_head p) known_turn (step_of t s).tables ss g
  unfolding ghost_run
  rest_refused t s ss g e = ap (ghost_run (known_head p) known_turn (step_of t s).tables ss) (ghost_refused (known_head p) known_turn t s g e)

  pub known_commit :
      (t : Tables) (ss : List Step) (g : Known)
      → (ghost_run (known_head p) known_turn t ss g).commit ≡ began_commit p g.commit (history_of t ss)
  unfolding ghost_run began_commit history_of
  known_commit t [] g = refl
  known_commit t (s ∷ ss) g =
      ⊎_elim
      (λ e.
      ap (λ (h : Known). h.commit) (rest_accepted t s ss g e)
      ∙ known_commit (step_of t s).tables ss (known_head p t s g)
      ∙ ap (began_commit p g.commit) (sym (history_accepted t s ss e)))
      (λ e.
      ap (λ (h : Known). h.commit) (rest_refused t s ss g e)
      ∙ known_commit (step_of t s).tables ss g
      ∙ ap (began_commit p g.commit) (sym (history_refused t s ss e)))
      (either (is_accepted (step_of t s).answer))

  pub known_watched :
      (t : Tables) (ss : List Step) (g : Known) → g.watched ≡ true → is_retired p (history_of t ss) ≡ false
      → (ghost_run (known_head p) known_turn t ss g).watched ≡ true
  unfolding ghost_run is_retired
  known_watched t [] g w n = w
  known_watched t (s ∷ ss) g w n =
      ⊎_elim
      (λ e.
      let both : (retires p s || is_retired p (history_of (step_of t s).tables ss)) ≡ false =
      ap (is_retired p) (sym (history_accepted t s ss e)) ∙ n in
      ap (λ (h : Known). h.watched) (rest_accepted t s ss g e)
      ∙ known_watched
      (step_of t s).tables
      ss
      (known_head p t s g)
      (rw (w, or_left (retires p s) _ both) refl)
      (or_right (retires p s) _ both))
      (λ e.
      ap (λ (h : Known). h.watched) (rest_refused t s ss g e)
      ∙ known_watched (step_of t s).tables ss g w (ap (is_retired p) (sym (history_refused t s ss e)) ∙ n))
      (either (is_accepted (step_of t s).answer))

  pub known_cleared :
      (t : Tables) (ss : List Step) (g : Known) → (ghost_run (known_head p) known_turn t ss g).cleared ≡ g.cleared
  unfolding ghost_run
  known_cleared t [] g = refl
  known_cleared t (s ∷ ss) g =
      ⊎_elim
      (λ e. ap (λ (h : Known). h.cleared) (rest_accepted t s ss g e) ∙ known_cleared (step_of t s).tables ss (known_head p t s g))
      (λ e. ap (λ (h : Known). h.cleared) (rest_refused t s ss g e) ∙ known_cleared (step_of t s).tables ss g)
      (either (is_accepted (step_of t s).answer))

-- ---- at the moment: no time of the passage's visits and messages is above T

visit_bounded : (v : Visit) (m : ℕ) → visit_latest v ≤ m → BoundedVisit m v
visit_bounded v m i e =
    let j : max v.quiesce v.release ≤ m = rw e at i in (omega arith, omega arith)

module _ {t₀ : Tables} (fresh : Started t₀) (before : List Step) (slot : ℕ) (place : slot < 16) where
  visits_bounded : (s : ℕ) → BoundedVisit (latest (run_of t₀ before) slot) (visit_at (run_of t₀ before) s slot)
  unfolding latest
  visits_bounded s e =
      let h : Holds (view_of (run_of t₀ before) slot) (ledgers_of t₀ before slot) = holds_run fresh before slot place in
      let i : s < 8 = (h.sites s (h.mirror s e).0).place in
      let j : visit_latest (visit_at (run_of t₀ before) s slot) ≤ most_up_to (λ x. visit_latest (visit_at (run_of t₀ before) x slot)) 8 =
      most_at (λ x. visit_latest (visit_at (run_of t₀ before) x slot)) 8 s i in
      visit_bounded (visit_at (run_of t₀ before) s slot) (latest (run_of t₀ before) slot) (omega arith) e

  mail_bounded :
      (k : ℕ) (b : Bool) → is_message_of slot (message_at (run_of t₀ before) k) ≡ b
      → BoundedBody (latest (run_of t₀ before) slot) (cond b (message_at (run_of t₀ before) k) no_message).body
  unfolding latest
  mail_bounded k false e = zero-le
  mail_bounded k true e =
      let h : Holds (view_of (run_of t₀ before) slot) (ledgers_of t₀ before slot) = holds_run fresh before slot place in
      let used : is_empty ((view_of (run_of t₀ before) slot).mail k).body ≡ false = rw e (mine e) in
      let i : k < 32 = (h.posted k used).0 in
      let j : mail_latest body_latest slot (message_at (run_of t₀ before) k)
      ≤ most_up_to (λ m. mail_latest body_latest slot (message_at (run_of t₀ before) m)) 32 =
      most_at (λ m. mail_latest body_latest slot (message_at (run_of t₀ before) m)) 32 k i in
      let l : body_latest (message_at (run_of t₀ before) k).body
      ≤ most_up_to (λ m. mail_latest body_latest slot (message_at (run_of t₀ before) m)) 32 = rw e at j in
      omega arith
    where
      mine : is_message_of slot (message_at (run_of t₀ before) k) ≡ true → is_empty (message_at (run_of t₀ before) k).body ≡ false
      mine y = not_true _ (and_left (not (is_empty (message_at (run_of t₀ before) k).body)) _ y)

  pub bounded_now :
      (passage_at (run_of t₀ before) slot).status ≡ Status.Aborted
      → Bounded (latest (run_of t₀ before) slot) (view_of (run_of t₀ before) slot)
  bounded_now e =
      record {
        aborted = e;
        visits = visits_bounded;
        mail = λ k. mail_bounded k (is_message_of slot (message_at (run_of t₀ before) k)) refl;
      }
