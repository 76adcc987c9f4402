-- The theorem that an operation is before a letting go: in every run from the start and in one use of a slot,
-- every operation of its passage at any station has a smaller stamp than every letting go of an object of it at any station, in whichever order the steps came.
-- That the list has every letting go is `held_by_list` (Events/HeldByList), and what lets go is `let_go_by` (Operations/LetGo).
-- The idea: go along the list; what an operation or a letting go has shown is carried from its step on, and a retire ends the use. Assumes nothing.
use Rattle.std.specs.Prelude.{ℕ, ◌≤◌, ◌<◌, ◌≡◌, refl, Bool, true, false, ◌&&◌, eqb}
use Rattle.std.proofs.Common.{arith, ap, ◌∙◌, true≢false, eqb-true}
use Rattle.std.proofs.Math.Path.{sym, subst}
use Rattle.std.proofs.Math.Logic.{⊎_elim, inl, inr}
use Rattle.std.proofs.lemmas.Bool.{false≢true}
use mathlib.Core.List.{List, [], ◌∷◌}
use Rattle.rules.specs.Loops.{one_if}
use Rattle.rules.specs.LoopsLaws.{either, and_left, and_right}
use Rattle.rules.specs.Tables.{site_at, object_at, object_site}
use Rattle.rules.specs.Answers.{is_accepted}
use Rattle.rules.specs.Parts.{is_held_by}
use Rattle.rules.proofs.PartsLaws.{unheld_not_held, one_holder}
use Rattle.rules.specs.Machine.{step_of}
use Rattle.rules.specs.Runs.{Started}
use Rattle.rules.specs.Events.{EventKind, is_holding, events_of}
use Rattle.runs.specs.Types.{Status, Tables, Step}
use Rattle.runs.specs.Walk.Put.{same_or_other}
use Rattle.runs.specs.Times.View.{Ledger}
use Rattle.runs.proofs.Holders.HeldStore.{Held}
use Rattle.runs.proofs.Holders.Holders.{held_started, held_step}
use Rattle.runs.specs.Orphans.Orphans.{retires}
use Rattle.runs.specs.Events.Uses.{InPlace, uses_after, PassageEvent, with_uses, events_from, events_up_to, is_of, frees}
use Rattle.runs.proofs.Events.EventsInPlace.{events_in_place_from}
use Rattle.runs.specs.Operations.Definitions.{operates, StillOpen}
use Rattle.runs.proofs.Operations.Operated.{operated_was_free_or_own, operated_is_held, others_after_operated, nothing_after_quiesce_there}
use Rattle.runs.proofs.Commits.Pledged.{Pledged, pledged_after_step, pledged_started}
use Rattle.runs.proofs.Commits.Since.{Carried, step_carried}
use Rattle.runs.proofs.Commits.Over.{StatusIs, NoWay, over_carries}
use Rattle.runs.specs.Order.Definitions.{Among, InOrder, is_operated, is_operation, is_letting_go}
use Rattle.runs.proofs.Order.Gone.{gone_carries}
use Rattle.runs.proofs.Order.Marked.{Marked, marked_carries}
use Rattle.runs.proofs.Order.Listed.{all_among, among_joined, among_ordered, ordered_joined, ordered_first, ordered_second, Means, events_mean, with_uses_means}
use Rattle.runs.proofs.Order.Before.{marked_at_once, marked_before_letting_go, SinceLetGo, let_go_at_once, operation_before_let_go}

-- ---- what an event of a step with its use says

pub record Happens (t : Tables) (uses : ℕ → ℕ) (step : Step) (e : PassageEvent) : Type 0 where
  pub means : Means t step e.event
  pub place : InPlace t step e.event
  pub used : e.used ≡ uses e.event.slot

pub happens :
    (t : Tables) (uses : ℕ → ℕ) (step : Step) (e : PassageEvent) → Held t → Among e (with_uses uses (events_of t step))
    → Happens t uses step e
happens t uses step e held a =
    let y = with_uses_means uses (events_of t step) e a in
    record {
      means = all_among (Means t step) (events_of t step) (events_mean t step held) e.event y.0;
      place = all_among (InPlace t step) (events_of t step) (events_in_place_from t step held) e.event y.0;
      used = y.1;
    }

-- the stamp is the clock of the object's station after the step
pub stamp_of_lem :
    (t : Tables) (uses : ℕ → ℕ) (step : Step) (e : PassageEvent) → Happens t uses step e
    → e.event.stamp ≡ (site_at (step_of t step).tables (object_site e.event.object)).clock
stamp_of_lem t uses step e h = h.place.stamp ∙ ap (λ (s : ℕ). (site_at (step_of t step).tables s).clock) h.place.site

-- an event of use u of slot p with object k
pub record IsEventOf (p u k : ℕ) (e : PassageEvent) : Type 0 where
  pub slot : e.event.slot ≡ p
  pub used : e.used ≡ u
  pub object : e.event.object ≡ k

pub named : (p u k : ℕ) (e : PassageEvent) (b : Bool) → (is_of p u k e && b) ≡ true → IsEventOf p u k e
named p u k e b y =
    let of : is_of p u k e ≡ true = and_left _ _ y in
    let both : (eqb e.event.slot p && eqb e.used u) ≡ true = and_left _ _ of in
    record {
      slot = eqb-true _ _ (and_left _ _ both);
      used = eqb-true _ _ (and_right (eqb e.event.slot p) _ both);
      object = eqb-true _ _ (and_right (eqb e.event.slot p && eqb e.used u) _ of);
    }

-- ---- uses only grow

pub uses_grow : (t : Tables) (uses : ℕ → ℕ) (ss : List Step) (e : PassageEvent) → Among e (events_from t uses ss) → uses e.event.slot ≤ e.used
unfolding events_from
uses_grow t uses [] e a = absurd a
uses_grow t uses (s ∷ ss) e a =
    ⊎_elim
    (λ b. let y : e.used ≡ uses e.event.slot = (with_uses_means uses (events_of t s) e b).1 in omega arith)
    (λ b. let y : uses_after t s uses e.event.slot ≤ e.used = uses_grow (step_of t s).tables (uses_after t s uses) ss e b in omega arith)
    (among_joined (with_uses uses (events_of t s)) _ e a)

-- an event of a slot's use that comes later says that the step has not retired the slot
pub use_goes_on :
    (t : Tables) (uses : ℕ → ℕ) (s : Step) (ss : List Step) (e : PassageEvent) (p : ℕ) → Among e (events_from (step_of t s).tables (uses_after t s uses) ss)
    → e.event.slot ≡ p → e.used ≡ uses p
    → ((is_accepted (step_of t s).answer && retires p s) ≡ false) × (uses_after t s uses p ≡ uses p)
use_goes_on t uses s ss e p a slot used =
    ⊎_elim
    (λ r.
    let y : uses_after t s uses e.event.slot ≤ e.used = uses_grow (step_of t s).tables (uses_after t s uses) ss e a in
    let z : uses_after t s uses p ≤ uses p = subst (λ (q : ℕ). uses_after t s uses q ≤ uses p) slot (rw (← used) y) in
    let one : one_if (is_accepted (step_of t s).answer && retires p s) ≡ 1 = rw r in
    absurd (omega arith))
    (λ r. (r, let none : one_if (is_accepted (step_of t s).answer && retires p s) ≡ 0 = rw r in omega arith))
    (either (is_accepted (step_of t s).answer && retires p s))

-- ---- what an operation does not do

-- it lets nothing go
operation_lets_nothing_go :
    (t : Tables) (p k q j : ℕ) (step : Step) → Held t → operates t p k step ≡ true → is_holding t q j ≡ true → is_holding (step_of t step).tables q j ≡ true
operation_lets_nothing_go t p k q j step held e y =
    ⊎_elim
    (λ (same : j ≡ k).
    let there : is_holding t q k ≡ true = subst (λ (x : ℕ). is_holding t q x ≡ true) same y in
    ⊎_elim
    (λ free. absurd (true≢false (sym there ∙ unheld_not_held q (object_at t k) free)))
    (λ own.
    subst (λ (x : ℕ). is_holding (step_of t step).tables q x ≡ true) (sym same)
    (subst (λ (x : ℕ). is_holding (step_of t step).tables x k ≡ true) (one_holder p q (object_at t k) own there) (operated_is_held t p k step held.sound e)))
    (operated_was_free_or_own t p k step held.sound e))
    (λ other. ap (is_held_by q) (others_after_operated t p k step held.sound e j other) ∙ y)
    (same_or_other j k)

-- ---- along the list

module _ (p u k : ℕ) where
  -- after an operation with stamp x at site s every letting go in the same use has a larger one
  marked_later :
      (x s : ℕ) (t : Tables) (uses : ℕ → ℕ) (ss : List Step) (f : PassageEvent) → p < 16 → Held t → Carried (Marked x s) p t → uses p ≡ u
      → Among f (events_from t uses ss) → is_letting_go p u k f ≡ true → x < f.event.stamp
  unfolding events_from
  marked_later x s t uses [] f slot held c used a y = absurd a
  marked_later x s t uses (step ∷ ss) f slot held c used a y =
      let of = named p u k f _ y in
      ⊎_elim
      (λ b.
      let h = happens t uses step f held b in
      let frees = and_right (is_of p u k f) _ y in
      rw
      (stamp_of_lem t uses step f h)
      (marked_before_letting_go x s p f.event.object t step slot c
      (subst (λ (q : ℕ). is_holding t q f.event.object ≡ true) of.slot (h.means.held frees))
      (subst (λ (q : ℕ). is_holding (step_of t step).tables q f.event.object ≡ false) of.slot (h.means.freed frees))))
      (λ b.
      let on = use_goes_on t uses step ss f p b of.slot (of.used ∙ sym used) in
      marked_later x s (step_of t step).tables (uses_after t step uses) ss f slot (held_step t step held)
      (step_carried _ _ (marked_carries x s) p slot t step c on.0)
      (on.1 ∙ used)
      b
      y)
      (among_joined (with_uses uses (events_of t step)) _ f a)

  -- after a letting go with stamp x at site s every operation in the same use has a smaller one
  let_go_later :
      (x s : ℕ) (t : Tables) (uses : ℕ → ℕ) (ss : List Step) (e : PassageEvent) → p < 16 → Held t → SinceLetGo x s p t → uses p ≡ u
      → Among e (events_from t uses ss) → is_operation p u k e ≡ true → e.event.stamp < x
  unfolding events_from
  let_go_later x s t uses [] e slot held c used a y = absurd a
  let_go_later x s t uses (step ∷ ss) e slot held c used a y =
      let of = named p u k e _ y in
      ⊎_elim
      (λ b.
      let h = happens t uses step e held b in
      let operates = subst (λ (q : ℕ). operates t q e.event.object step ≡ true) of.slot (h.means.operation (and_right (is_of p u k e) _ y)) in
      rw (stamp_of_lem t uses step e h) (operation_before_let_go x s p e.event.object t step slot held c operates))
      (λ b.
      let on = use_goes_on t uses step ss e p b of.slot (of.used ∙ sym used) in
      let_go_later x s (step_of t step).tables (uses_after t step uses) ss e slot (held_step t step held)
      (⊎_elim
      (λ d. inl (step_carried (StatusIs Status.Committed) NoWay (over_carries Status.Committed refl) p slot t step d on.0))
      (λ d. inr (step_carried _ NoWay (gone_carries x s) p slot t step d on.0))
      c)
      (on.1 ∙ used)
      b
      y)
      (among_joined (with_uses uses (events_of t step)) _ e a)

-- two events that one step never does: what holds where a step does the first and the steps after it the second holds where they are in order
module _ (x y : PassageEvent) (Goal : Type 0)
    (apart :
    (t : Tables) (uses : ℕ → ℕ) (step : Step) → Held t → Among x (with_uses uses (events_of t step)) → Among y (with_uses uses (events_of t step)) → ⊥)
    (later :
    (t : Tables) (ls : ℕ → Ledger) (uses : ℕ → ℕ) (step : Step) (ss : List Step) → Held t → Pledged t ls
    → Among x (with_uses uses (events_of t step)) → Among y (events_from (step_of t step).tables (uses_after t step uses) ss) → Goal) where
  one_then_other :
      (t : Tables) (ls : ℕ → Ledger) (uses : ℕ → ℕ) (ss : List Step) → Held t → Pledged t ls → InOrder x y (events_from t uses ss) → Goal
  unfolding events_from
  one_then_other t ls uses [] held pledged o = absurd o
  one_then_other t ls uses (step ∷ ss) held pledged o =
      let events : List PassageEvent = with_uses uses (events_of t step) in
      ⊎_elim
      (λ both. absurd (apart t uses step held (ordered_first events x y both) (ordered_second events x y both)))
      (⊎_elim
      (λ b. later t ls uses step ss held pledged b.0 b.1)
      (λ b. one_then_other (step_of t step).tables _ (uses_after t step uses) ss (held_step t step held) (pledged_after_step t step ls pledged) b))
      (ordered_joined events _ x y o)

module _ (p u k j : ℕ) (e f : PassageEvent) (operation : is_operation p u k e ≡ true) (letting : is_letting_go p u j f ≡ true) where
  -- no step does both
  not_in_one_step :
      (t : Tables) (uses : ℕ → ℕ) (step : Step) → Held t → Among e (with_uses uses (events_of t step))
      → Among f (with_uses uses (events_of t step)) → ⊥
  not_in_one_step t uses step held a b =
      let g = happens t uses step e held a in
      let h = happens t uses step f held b in
      let frees = and_right (is_of p u j f) _ letting in
      true≢false
      (sym
      (operation_lets_nothing_go t e.event.slot e.event.object f.event.slot f.event.object step held
      (g.means.operation (and_right (is_of p u k e) _ operation))
      (h.means.held frees))
      ∙ h.means.freed frees)

  -- an operation of the passage, and a letting go after it
  operation_first :
      (t : Tables) (ls : ℕ → Ledger) (uses : ℕ → ℕ) (step : Step) (ss : List Step) → Held t → Pledged t ls
      → Among e (with_uses uses (events_of t step)) → Among f (events_from (step_of t step).tables (uses_after t step uses) ss)
      → e.event.stamp < f.event.stamp
  operation_first t ls uses step ss held pledged a b =
      let one = named p u k e _ operation in
      let other = named p u j f _ letting in
      let next = pledged_after_step t step ls pledged in
      let h = happens t uses step e held a in
      let slot : p < 16 = subst (λ (q : ℕ). q < 16) one.slot h.place.slot in
      let used : uses p ≡ u = ap uses (sym one.slot) ∙ sym h.used ∙ one.used in
      let on = use_goes_on t uses step ss f p b other.slot (other.used ∙ sym used) in
      let does = h.means.operation (and_right (is_of p u k e) _ operation) in
      let early = subst (λ (q : ℕ). StillOpen (step_of t step).tables (object_site e.event.object) q) one.slot
      (nothing_after_quiesce_there t e.event.slot e.event.object step held.sound does held) in
      rw
      (stamp_of_lem t uses step e h)
      (marked_later p u j _ (object_site e.event.object) (step_of t step).tables (uses_after t step uses) ss f slot (held_step t step held)
      (record { ledgers = _; pledged = next; has = marked_at_once (step_of t step).tables _ next (object_site e.event.object) p slot early })
      (on.1 ∙ used)
      b
      letting)

  -- a letting go, and an operation of the passage after it
  letting_first :
      (t : Tables) (ls : ℕ → Ledger) (uses : ℕ → ℕ) (step : Step) (ss : List Step) → Held t → Pledged t ls
      → Among f (with_uses uses (events_of t step)) → Among e (events_from (step_of t step).tables (uses_after t step uses) ss)
      → e.event.stamp < f.event.stamp
  letting_first t ls uses step ss held pledged a b =
      let one = named p u k e _ operation in
      let other = named p u j f _ letting in
      let frees = and_right (is_of p u j f) _ letting in
      let h = happens t uses step f held a in
      let slot : p < 16 = subst (λ (q : ℕ). q < 16) other.slot h.place.slot in
      let used : uses p ≡ u = ap uses (sym other.slot) ∙ sym h.used ∙ other.used in
      let on = use_goes_on t uses step ss e p b one.slot (one.used ∙ sym used) in
      rw
      (stamp_of_lem t uses step f h)
      (let_go_later p u k _ (object_site f.event.object) (step_of t step).tables (uses_after t step uses) ss e slot (held_step t step held)
      (let_go_at_once p f.event.object t ls step slot pledged
      (subst (λ (q : ℕ). is_holding t q f.event.object ≡ true) other.slot (h.means.held frees))
      (subst (λ (q : ℕ). is_holding (step_of t step).tables q f.event.object ≡ false) other.slot (h.means.freed frees)))
      (on.1 ∙ used)
      b
      operation)

-- ---- the theorem

-- no event is both
operation_or_letting : (p u k j : ℕ) (e : PassageEvent) → is_operation p u k e ≡ true → is_letting_go p u j e ≡ true → ⊥
operation_or_letting p u k j e y z = go e.event.kind (and_right (is_of p u k e) _ y) (and_right (is_of p u j e) _ z)
  where
    go : (kind : EventKind) → is_operated kind ≡ true → frees kind ≡ true → ⊥
    go EventKind.Took o f = false≢true o
    go (EventKind.Operated write found written) o f = false≢true f
    go EventKind.Freed o f = false≢true o

-- in every run from the start, in one use u of a slot p: every operation, of any object k, has a smaller stamp than every letting go, of any object j
pub operation_before_letting_go :
    {t₀ : Tables} → Started t₀ → (ss : List Step) (p u k j : ℕ) (e f : PassageEvent) → Among e (events_up_to t₀ ss) → Among f (events_up_to t₀ ss)
    → is_operation p u k e ≡ true → is_letting_go p u j f ≡ true → e.event.stamp < f.event.stamp
unfolding events_up_to
operation_before_letting_go {t₀} fresh ss p u k j e f a b y z =
    ⊎_elim
    (λ same. absurd (operation_or_letting p u k j e y (subst (λ (x : PassageEvent). is_letting_go p u j x ≡ true) (sym same) z)))
    (⊎_elim
    (λ o.
    one_then_other e f (e.event.stamp < f.event.stamp) (not_in_one_step p u k j e f y z) (operation_first p u k j e f y z)
    t₀ _ (λ q. 0) ss (held_started fresh) (pledged_started fresh) o)
    (λ o.
    one_then_other f e (e.event.stamp < f.event.stamp) (λ t uses step held c d. not_in_one_step p u k j e f y z t uses step held d c)
    (letting_first p u k j e f y z)
    t₀ _ (λ q. 0) ss (held_started fresh) (pledged_started fresh) o))
    (among_ordered (events_from t₀ (λ q. 0) ss) e f a b)
