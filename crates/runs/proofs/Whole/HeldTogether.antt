-- What a check that commits has read was so together: at any one moment before its commit, that of its prepare for one,
-- every object that it had read by then, and had not written since, was held by it with the value that the read found.
-- The idea: from the read on the passage holds the object with that value, for while it holds it nobody else writes it; or it has let it go,
-- and a passage that has let something go is committed already, or has a station that will not answer, and so does not become committed.
-- Assumes nothing.
use Rattle.std.specs.Prelude.{ℕ, ◌<◌, ◌≡◌, ◌≢◌, ◌⊎◌, true}
use Rattle.std.proofs.Common.{sym, ap, ◌∙◌, subst, true≢false}
use Rattle.std.proofs.Math.Logic.{⊎_elim, inl, inr}
use Rattle.std.proofs.Math.Bool.{false}
use Rattle.std.proofs.lemmas.Bool.{false≢true}
use mathlib.Core.List.{List, [], ◌∷◌, ◌++◌}
use Rattle.rules.specs.declared.tables.Object.{Object}
use Rattle.rules.specs.LoopsLaws.{either, or_left, or_right}
use Rattle.rules.specs.Tables.{object_at, passage_at, object_site}
use Rattle.rules.specs.Answers.{is_accepted}
use Rattle.rules.specs.Parts.{is_held_by}
use Rattle.rules.specs.Machine.{step_of}
use Rattle.rules.specs.Record.{is_step}
use Rattle.rules.specs.Runs.{Started, run_of, history_of}
use Rattle.rules.specs.Events.{is_holding}
use Rattle.runs.specs.Types.{Status, Tables, Step}
use Rattle.runs.proofs.Walk.Steps.{run_on}
use Rattle.runs.proofs.Walk.Sound.{Sound}
use Rattle.runs.specs.Times.View.{Ledger}
use Rattle.runs.proofs.Times.Ledgers.{ledgers_of}
use Rattle.runs.proofs.Holders.Holders.{held_run, held_step, held_below}
use Rattle.runs.specs.Orphans.Orphans.{is_retired}
use Rattle.runs.proofs.Events.HoldSteps.{and_false}
use Rattle.runs.specs.Operations.Definitions.{mail_named, operates, is_write, Finds}
use Rattle.runs.proofs.Operations.Operated.{operated_is_held, found_before, operated_read_leaves}
use Rattle.runs.proofs.Operations.HeldObject.{HeldAfter, held_object_after_step, value_while_held}
use Rattle.runs.proofs.Commits.Pledged.{Pledged, pledged_after_step, pledged_run}
use Rattle.runs.proofs.Commits.Since.{not_retired}
use Rattle.runs.proofs.Commits.Over.{committed_by_closing}
use Rattle.runs.proofs.Order.Before.{let_go_at_once}
use Rattle.runs.specs.Whole.Definitions.{HeldWith, writes, written_in, HasRead}
use Rattle.runs.proofs.Whole.RestsOn.{HasLetGo, let_go_carried, bound_at_commit}

-- ---- from the read on

-- after a read its passage holds the object with the value that was found
held_after_read :
    (t : Tables) (p k v : ℕ) (s : Step) → Sound t → operates t p k s ≡ true → is_write (mail_named t s).body ≡ false
    → Finds t s v
    → HeldWith (step_of t s).tables p k v
held_after_read t p k v s z e reads found =
    record {
      holds = operated_is_held t p k s z e;
      value = operated_read_leaves t p k s z e reads ∙ found_before t p k s z e v found;
    }

module _ (p k : ℕ) (slot : p < 16) where
  -- while it holds the object, a step that is no write of its own leaves the value
  value_unwritten :
      (t : Tables) (step : Step) → Sound t → is_holding t p k ≡ true → is_holding (step_of t step).tables p k ≡ true → writes t p k step ≡ false
      → (object_at (step_of t step).tables k).value ≡ (object_at t k).value
  value_unwritten t step z held still none =
      ⊎_elim (λ e. e) (λ e. operated_read_leaves t p k step z e (rw e at none)) (value_while_held t step p k slot z held still)

  -- what it has let go it has let go until its slot is retired
  let_go_kept : (t : Tables) (ss : List Step) → HasLetGo p k t → is_retired p (history_of t ss) ≡ false → HasLetGo p k (run_of t ss)
  unfolding run_of
  let_go_kept t [] g r = g
  let_go_kept t (s ∷ ss) g r =
      let each = not_retired p t s ss r in
      let_go_kept (step_of t s).tables ss
      (record { stamp = g.stamp; since = let_go_carried g.stamp (object_site k) p t s slot g.since each.0 })
      each.1

  -- no step of the list is a write of its own or retires its slot: it holds the object with its value, or has let it go
  held_or_let_go :
      (v : ℕ) (t : Tables) (ls : ℕ → Ledger) (ss : List Step) → Pledged t ls → HeldWith t p k v → written_in t p k ss ≡ false
      → is_retired p (history_of t ss) ≡ false
      → HeldWith (run_of t ss) p k v ⊎ HasLetGo p k (run_of t ss)
  unfolding run_of written_in
  held_or_let_go v t ls [] pledged h none r = inl h
  held_or_let_go v t ls (s ∷ ss) pledged h none r =
      let next : Tables = (step_of t s).tables in
      let later : is_retired p (history_of next ss) ≡ false = (not_retired p t s ss r).1 in
      ⊎_elim
      (λ still.
      let same = value_unwritten t s pledged.kept.sound h.holds still (or_left _ _ none) in
      held_or_let_go v next _ ss (pledged_after_step t s ls pledged)
      (record { holds = still; value = same ∙ h.value })
      (or_right (writes t p k s) _ none)
      later)
      (λ gone. inr (let_go_kept next ss (record { stamp = _; since = let_go_at_once p k t ls s slot pledged h.holds gone }) later))
      (either (is_holding next p k))

  -- a passage that has let an object go does not become committed
  no_commit_after_let_go :
      (t : Tables) (commit : Step) → HasLetGo p k t → (passage_at t p).status ≢ Status.Committed
      → (passage_at (step_of t commit).tables p).status ≢ Status.Committed
  no_commit_after_let_go t commit g not_yet committed =
      ⊎_elim
      (λ c. not_yet c.has)
      (λ c.
      let closes = committed_by_closing t c.ledgers commit p c.pledged slot not_yet committed in
      false≢true (sym c.has.gone ∙ (bound_at_commit t c.ledgers p (object_site k) slot c.pledged closes c.has.seen).0))
      g.since

  -- a prepare, whoever's, leaves an object that is held
  held_after_prepare : (t : Tables) (h : ℕ) → Sound t → is_holding t p k ≡ true → object_at (step_of t (Step.Prepare h)).tables k ≡ object_at t k
  held_after_prepare t h z held = by (held_object_after_step t (Step.Prepare h) p k slot z held)
    where
      by : HeldAfter t (Step.Prepare h) p k → object_at (step_of t (Step.Prepare h)).tables k ≡ object_at t k
      by (HeldAfter.Same e) = e
      by (HeldAfter.Operated e) = absurd (true≢false (sym e ∙ and_false (is_accepted (step_of t (Step.Prepare h)).answer)))
      by (HeldAfter.Freed e a w) = absurd (false≢true w)
      by (HeldAfter.Restored e w) = absurd (false≢true (ap (is_step 13) w.sweeps))

-- ---- the theorems

-- who has read an object is one of sixteen slots
reader_below : {t₀ : Tables} → Started t₀ → (steps : List Step) (p k v : ℕ) → HasRead t₀ steps p k v → p < 16
reader_below {t₀} fresh steps p k v x =
    let t : Tables = run_of t₀ x.before in
    let held = held_run fresh x.before in
    (held_below (step_of t x.read).tables p k (held_step t x.read held) (operated_is_held t p k x.read held.sound x.operated)).0

-- what it has read it still holds, with the value that was found, or it has let it go
since_read :
    {t₀ : Tables} → Started t₀ → (steps : List Step) (p k v : ℕ) → HasRead t₀ steps p k v
    → HeldWith (run_of t₀ steps) p k v ⊎ HasLetGo p k (run_of t₀ steps)
unfolding run_of
since_read {t₀} fresh steps p k v x =
    let t : Tables = run_of t₀ x.before in
    let pledged = pledged_run fresh x.before in
    let z = pledged.kept.sound in
    subst
    (λ (u : Tables). HeldWith u p k v ⊎ HasLetGo p k u)
    (sym (ap (run_of t₀) x.all ∙ run_on t₀ x.before (x.read ∷ x.since)))
    (held_or_let_go p k (reader_below fresh steps p k v x) v (step_of t x.read).tables _ x.since
    (pledged_after_step t x.read (ledgers_of t₀ x.before) pledged)
    (held_after_read t p k v x.read z x.operated x.reads x.found)
    x.unwritten
    (not_retired p t x.read x.since x.same_use).1)

-- at any moment of a run, after the steps first: if p becomes committed by a later step and its slot is not retired until then,
-- every object that it had read and not written since is held by it there, with the value that the read found
pub held_until_commit :
    {t₀ : Tables} → Started t₀ → (first rest : List Step) (commit : Step) (p : ℕ)
    → is_retired p (history_of (run_of t₀ first) rest) ≡ false
    → (passage_at (run_of t₀ (first ++ rest)) p).status ≢ Status.Committed
    → (passage_at (step_of (run_of t₀ (first ++ rest)) commit).tables p).status ≡ Status.Committed
    → (k v : ℕ) → HasRead t₀ first p k v → HeldWith (run_of t₀ first) p k v
held_until_commit {t₀} fresh first rest commit p kept not_yet committed k v x =
    ⊎_elim
    (λ h. h)
    (λ (g : HasLetGo p k (run_of t₀ first)).
    let slot : p < 16 = reader_below fresh first p k v x in
    absurd
    (no_commit_after_let_go p k slot (run_of t₀ (first ++ rest)) commit
    (rw (run_on t₀ first rest) (let_go_kept p k slot (run_of t₀ first) rest g kept))
    not_yet
    committed))
    (since_read fresh first p k v x)

-- so of a prepare, and a later step by which p becomes committed, its slot not retired until then: in the tables before that prepare
-- p holds every object that it had read and not written since, with the value that the read found; and so in the tables after it.
-- (Nothing is asked of the prepare: neither whose it is, nor that it is accepted, nor that no other follows it. So p's own accepted one is a case of it.)
pub committed_held_together :
    {t₀ : Tables} → Started t₀ → (first : List Step) (h : ℕ) (rest : List Step) (commit : Step) (p : ℕ)
    → is_retired p (history_of (run_of t₀ first) (Step.Prepare h ∷ rest)) ≡ false
    → (passage_at (run_of t₀ (first ++ Step.Prepare h ∷ rest)) p).status ≢ Status.Committed
    → (passage_at (step_of (run_of t₀ (first ++ Step.Prepare h ∷ rest)) commit).tables p).status ≡ Status.Committed
    → (k v : ℕ) → HasRead t₀ first p k v
    → HeldWith (run_of t₀ first) p k v × HeldWith (step_of (run_of t₀ first) (Step.Prepare h)).tables p k v
committed_held_together {t₀} fresh first h rest commit p kept not_yet committed k v x =
    let before : HeldWith (run_of t₀ first) p k v = held_until_commit fresh first (Step.Prepare h ∷ rest) commit p kept not_yet committed k v x in
    let same = held_after_prepare p k (reader_below fresh first p k v x) (run_of t₀ first) h (pledged_run fresh first).kept.sound before.holds in
    (before, record { holds = ap (is_held_by p) same ∙ before.holds; value = ap (λ (o : Object). o.value) same ∙ before.value })
