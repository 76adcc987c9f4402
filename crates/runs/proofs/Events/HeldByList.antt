-- An object is held in the tables exactly if by the list it has been taken and not freed since; a retired slot holds nothing. Assumes nothing.
use Rattle.std.specs.Prelude.{ℕ, ◌<◌, ◌≡◌, refl, ◌⊎◌, Bool, true, false, cond, not, ◌&&◌, List, [], ◌∷◌, ◌++◌, eqb}
use Rattle.std.proofs.Common.{arith, add-zero, sym, ap, ◌∙◌, subst, ⊎_elim, inl, inr, true≢false, eqb-true, eq-eqb}
use Rattle.std.proofs.lemmas.Bool.{false≢true}
use Rattle.rules.specs.Loops.{some_up_to}
use Rattle.rules.specs.LoopsLaws.{either, and_left, and_right, or_left, or_right, some_none}
use Rattle.rules.specs.Tables.{object_at, passage_at, visit_at, object_site, slot_of}
use Rattle.rules.specs.Answers.{is_accepted}
use Rattle.rules.specs.AnswersLaws.{accepted_fine}
use Rattle.rules.specs.Parts.{is_over}
use Rattle.rules.proofs.PartsLaws.{unheld_not_held, one_holder}
use Rattle.rules.specs.Passages.{retire_of}
use Rattle.rules.specs.Machine.{places_of, remains, decide_of, head_of, step_of}
use Rattle.rules.specs.Runs.{Started, acts_at_site, run_of}
use Rattle.rules.proofs.Views.{Generation, deed_of}
use Rattle.rules.specs.Events.{Event, is_holding, events_of}
use Rattle.runs.specs.Types.{Tables, Step}
use Rattle.runs.proofs.Walk.Steps.{head_accepted}
use Rattle.runs.proofs.Holders.HeldStore.{Held}
use Rattle.runs.proofs.Holders.Holders.{started_unheld, held_started, held_step}
use Rattle.runs.specs.Orphans.Orphans.{retires}
use Rattle.runs.specs.Events.Uses.{uses_after, uses_from, use_of, PassageEvent, with_uses, events_from, events_up_to, is_of, hold_after, held_since, held_in}
use Rattle.runs.proofs.Events.HoldSteps.{and_true, and_false}
use Rattle.runs.proofs.Events.EventsLaws.{idle_no_event, held_over, events_tell}

-- ---- a retired slot holds nothing

-- a retire acts at no site, and nothing of its slot remains
retired_leaves :
    (t : Tables) (step : Step) (p : ℕ) → Generation step → retires p step ≡ true → is_accepted (head_of t step).answer ≡ true
    → (acts_at_site step ≡ false) × (remains t p ≡ false)
unfolding head_of places_of decide_of retire_of
retired_leaves t _ p (Generation.Retires h) e a =
    let q : slot_of h ≡ p = eqb-true (slot_of h) p e in (
      refl,
      subst (λ (x : ℕ). remains t x ≡ false) q (or_right (not (is_over (passage_at t (slot_of h)).status)) _ (accepted_fine _ _ a).state),
    )
retired_leaves t _ p (Generation.Stays step never stays) e a = absurd (false≢true (rw never at e))

retire_leaves :
    (t : Tables) (step : Step) (p : ℕ) → retires p step ≡ true → is_accepted (head_of t step).answer ≡ true
    → (acts_at_site step ≡ false) × (remains t p ≡ false)
retire_leaves t step p = retired_leaves t step p (deed_of step).generation

-- who holds an object has a visit at its site
remains_holding : (t : Tables) (p k : ℕ) → Held t → k < 32 → remains t p ≡ false → is_holding t p k ≡ false
unfolding remains
remains_holding t p k held l r =
    ⊎_elim
    (λ e.
    absurd
    (true≢false
    (sym (held.visits k p l e).1
    ∙ some_none (λ s. (visit_at t s p).there) 8 (or_left (some_up_to (λ s. (visit_at t s p).there) 8) _ r) (object_site k) (omega arith))))
    (λ e. e)
    (either (is_holding t p k))

-- neither before an accepted retire of it, nor after
pub retired_holds_nothing :
    (t : Tables) (step : Step) (p k : ℕ) → Held t → p < 16 → k < 32 → (is_accepted (step_of t step).answer && retires p step) ≡ true
    → (is_holding t p k ≡ false) × (is_holding (step_of t step).tables p k ≡ false)
unfolding held_over
retired_holds_nothing t step p k held slot l e =
    let r = retire_leaves t step p (and_right (is_accepted (step_of t step).answer) _ e) (head_accepted t step (and_left _ _ e)) in
    let b : is_holding t p k ≡ false = remains_holding t p k held l r.1 in
    (b, sym (events_tell t step held p k slot) ∙ (rw (idle_no_event t step r.0) b))

-- ---- one step of the list

pub since_joined :
    (xs ys : List PassageEvent) (p u k : ℕ) (held : Bool)
    → held_since (xs ++ ys) p u k held ≡ held_since ys p u k (held_since xs p u k held)
unfolding held_since
since_joined [] ys p u k held = refl
since_joined (x ∷ xs) ys p u k held = since_joined xs ys p u k _

-- with their uses, events are of the slot's present use
with_uses_lem :
    (uses : ℕ → ℕ) (es : List Event) (p u k : ℕ) (held : Bool)
    → held_since (with_uses uses es) p u k held ≡ cond (eqb (uses p) u) (held_over es p k held) held
unfolding held_since with_uses held_over
with_uses_lem uses [] p u k held = both (eqb (uses p) u)
  where
    both : (b : Bool) → held ≡ cond b held held
    both true = refl
    both false = refl
with_uses_lem uses (e ∷ es) p u k held =
    with_uses_lem uses es p u k _ ∙ by_slot (either (eqb e.slot p)) (either (eqb (uses p) u))
  where
    by_slot :
        (eqb e.slot p ≡ true) ⊎ (eqb e.slot p ≡ false) → (eqb (uses p) u ≡ true) ⊎ (eqb (uses p) u ≡ false)
        → cond
        (eqb (uses p) u)
        (held_over es p k (cond (is_of p u k (record { event = e; used = uses e.slot })) (hold_after e.kind held) held))
        (cond (is_of p u k (record { event = e; used = uses e.slot })) (hold_after e.kind held) held)
        ≡ cond (eqb (uses p) u) (held_over es p k (cond (eqb e.slot p && eqb e.object k) (hold_after e.kind held) held)) held
    by_slot (inl s) (inl b) = let q : e.slot ≡ p = eqb-true e.slot p s in rw (s, q, b)
    by_slot (inl s) (inr b) = let q : e.slot ≡ p = eqb-true e.slot p s in rw (s, q, b)
    by_slot (inr s) b = rw s

-- after a step: held by the slot, and in its use now
step_told :
    (t : Tables) (uses : ℕ → ℕ) (s : Step) (p u k : ℕ) → Held t → p < 16 → k < 32
    → held_since (with_uses uses (events_of t s)) p u k (is_holding t p k && eqb (uses p) u)
    ≡ (is_holding (step_of t s).tables p k && eqb (uses_after t s uses p) u)
step_told t uses s p u k held slot l =
    with_uses_lem uses (events_of t s) p u k _
    ∙ ⊎_elim
    (λ r.
    let n = retired_holds_nothing t s p k held slot l r in
    rw (n.0, n.1) (nothing (eqb (uses p) u) (rw (n.0, n.1) at (events_tell t s held p k slot))))
    (λ r. rw (unmoved r) (present (eqb (uses p) u)))
    (either (is_accepted (step_of t s).answer && retires p s))
  where
    unmoved : (is_accepted (step_of t s).answer && retires p s) ≡ false → uses_after t s uses p ≡ uses p
    unmoved r = rw r (add-zero (uses p))

    -- a retired slot
    nothing : (b : Bool) → held_over (events_of t s) p k false ≡ false → cond b (held_over (events_of t s) p k false) false ≡ false
    nothing true e = e
    nothing false e = refl

    present :
        (b : Bool)
        → cond b (held_over (events_of t s) p k (is_holding t p k && b)) (is_holding t p k && b) ≡ (is_holding (step_of t s).tables p k && b)
    present true = rw (and_true (is_holding t p k), and_true (is_holding (step_of t s).tables p k)) (events_tell t s held p k slot)
    present false = and_false (is_holding t p k) ∙ sym (and_false (is_holding (step_of t s).tables p k))

-- ---- every run

-- from any tables in which who holds an object has a visit at its site
pub held_by_list_from :
    (t : Tables) (uses : ℕ → ℕ) (ss : List Step) (p u k : ℕ) → Held t → p < 16 → k < 32
    → held_since (events_from t uses ss) p u k (is_holding t p k && eqb (uses p) u)
    ≡ (is_holding (run_of t ss) p k && eqb (uses_from t uses ss p) u)
unfolding run_of events_from uses_from held_since
held_by_list_from t uses [] p u k held slot l = refl
held_by_list_from t uses (s ∷ ss) p u k held slot l =
    since_joined (with_uses uses (events_of t s)) _ p u k _
    ∙ ap (held_since (events_from (step_of t s).tables (uses_after t s uses) ss) p u k) (step_told t uses s p u k held slot l)
    ∙ held_by_list_from (step_of t s).tables (uses_after t s uses) ss p u k (held_step t s held) slot l

-- at the start nobody holds anything
started_holding : {t₀ : Tables} → Started t₀ → (p k : ℕ) → is_holding t₀ p k ≡ false
started_holding {t₀} fresh p k = unheld_not_held p (object_at t₀ k) (started_unheld fresh k)

-- by the list, use u of slot p holds object k exactly if in the tables the slot holds it and u is its present use
pub held_by_list :
    {t₀ : Tables} → Started t₀ → (ss : List Step) (p u k : ℕ) → p < 16 → k < 32
    → held_in (events_up_to t₀ ss) p u k ≡ (is_holding (run_of t₀ ss) p k && eqb (use_of t₀ ss p) u)
unfolding events_up_to use_of
held_by_list {t₀} fresh ss p u k slot l =
    rw (started_holding fresh p k) at (held_by_list_from t₀ (λ q. 0) ss p u k (held_started fresh) slot l)

-- the law: an object is held by a passage in the tables exactly if by the list that passage has taken it and not freed it since
pub held_is_listed :
    {t₀ : Tables} → Started t₀ → (ss : List Step) (p k : ℕ) → p < 16 → k < 32
    → is_holding (run_of t₀ ss) p k ≡ held_in (events_up_to t₀ ss) p (use_of t₀ ss p) k
held_is_listed {t₀} fresh ss p k slot l =
    sym (held_by_list fresh ss p (use_of t₀ ss p) k slot l ∙ (rw (eq-eqb (use_of t₀ ss p) (use_of t₀ ss p) refl, and_true)))

-- by the list only the present use of a slot holds anything
pub listed_in_present_use :
    {t₀ : Tables} → Started t₀ → (ss : List Step) (p u k : ℕ) → p < 16 → k < 32 → held_in (events_up_to t₀ ss) p u k ≡ true → u ≡ use_of t₀ ss p
listed_in_present_use {t₀} fresh ss p u k slot l e =
    sym (eqb-true (use_of t₀ ss p) u (and_right (is_holding (run_of t₀ ss) p k) _ (sym (held_by_list fresh ss p u k slot l) ∙ e)))

-- by the list at most one passage holds an object
pub listed_by_one :
    {t₀ : Tables} → Started t₀ → (ss : List Step) (p u q v k : ℕ) → p < 16 → q < 16 → k < 32 → held_in (events_up_to t₀ ss) p u k ≡ true → held_in (events_up_to t₀ ss) q v k ≡ true
    → (p ≡ q) × (u ≡ v)
listed_by_one {t₀} fresh ss p u q v k lp lq l e f =
    let same : p ≡ q = one_holder p q (object_at (run_of t₀ ss) k) (slot_holds p u lp e) (slot_holds q v lq f) in
    (same, listed_in_present_use fresh ss p u k lp l e ∙ ap (use_of t₀ ss) same ∙ sym (listed_in_present_use fresh ss q v k lq l f))
  where
    slot_holds : (a w : ℕ) → a < 16 → held_in (events_up_to t₀ ss) a w k ≡ true → is_holding (run_of t₀ ss) a k ≡ true
    slot_holds a w i g = and_left _ (eqb (use_of t₀ ss a) w) (sym (held_by_list fresh ss a w k i l) ∙ g)
