-- A step's events tell what it did to who holds an object; the idea: of its list only those of this slot and this object count. Assumes nothing.
use Prim.Native.Nat.{ℕ, zero, suc, ◌+◌, ◌*◌, ◌/◌, ◌%◌, ◌<◌}
use native.Mathlib.Omega.{arith}
use Rattle.std.proofs.Common.{not-suc-le-zero, ◌∙◌, inl, inr}
use Rattle.std.specs.Prelude.{◌≡◌, ◌≢◌, ◌⊎◌, Bool, not, ◌&&◌, ◌||◌}
use Rattle.std.proofs.Math.Path.{refl, sym, ap}
use Rattle.std.proofs.Math.Logic.{⊎_elim}
use Rattle.std.proofs.Math.Bool.{true, false, cond}
use mathlib.Core.List.{List, [], ◌∷◌, ◌++◌}
use Rattle.std.proofs.Math.Dec.{eqb}
use borrow.Author.Tests.{eqb-true, eq-eqb, ne_eqb}
use Rattle.rules.specs.LoopsLaws.{either, and_left, and_right, below_or_last}
use Rattle.rules.specs.Tables.{object_site}
use Rattle.rules.specs.Answers.{is_accepted}
use Rattle.rules.proofs.RefusedLaws.{refused_leaves}
use Rattle.rules.specs.Machine.{look_of, places_of, head_of, step_of}
use Rattle.rules.specs.Runs.{acts_at_site}
use Rattle.rules.specs.Events.{EventKind, Event, event_in, is_holding, operated_of, body_events, delivered_of, is_freed, freed_at, join_up_to, freed_by, freed_of, events_of}
use Rattle.runs.specs.Types.{Call, Body, Tables, Step}
use Rattle.runs.specs.Walk.Put.{same_or_other}
use Rattle.runs.proofs.Walk.Steps.{head_accepted}
use Rattle.runs.proofs.Holders.HeldStore.{Held}
use Rattle.runs.specs.Events.Uses.{hold_after}
use Rattle.runs.proofs.Events.HoldSteps.{and_false, Did, took, let_go, idle, decided_did}
use Rattle.runs.proofs.Events.HoldStores.{LetsGoAt, left_by, step_takes, step_lets_go, holding_after_idle}

-- ---- a refused step has no event, and neither has one that acts at no site

pub refused_no_event : (t : Tables) (step : Step) → is_accepted (step_of t step).answer ≡ false → events_of t step ≡ []
unfolding events_of
refused_no_event t step e = rw e

pub acting_events :
    (t : Tables) (step : Step) → is_accepted (step_of t step).answer ≡ true → acts_at_site step ≡ true
    → events_of t step ≡ delivered_of t step ++ freed_of t step
unfolding events_of
acting_events t step a b = rw (a, b)

pub idle_no_event : (t : Tables) (step : Step) → acts_at_site step ≡ false → events_of t step ≡ []
unfolding events_of
idle_no_event t step e = rw (e, and_false)

-- ---- held by a list of events, of this slot and this object

unfoldable pub held_over : List Event → ℕ → ℕ → Bool → Bool
held_over [] p k held = held
held_over (e ∷ es) p k held = held_over es p k (cond (eqb e.slot p && eqb e.object k) (hold_after e.kind held) held)

module _ (p k : ℕ) where
  over_joined : (xs ys : List Event) (held : Bool) → held_over (xs ++ ys) p k held ≡ held_over ys p k (held_over xs p k held)
  unfolding held_over
  over_joined [] ys held = refl
  over_joined (x ∷ xs) ys held = over_joined xs ys _

  -- lists that change nothing, one after the other
  over_none :
      (f : ℕ → List Event) (n : ℕ) → ((i : ℕ) (held : Bool) → i < n → held_over (f i) p k held ≡ held) → (held : Bool)
      → held_over (join_up_to f n) p k held ≡ held
  unfolding held_over join_up_to
  over_none f zero h held = refl
  over_none f (suc n) h held =
      over_joined (join_up_to f n) (f n) held
      ∙ h n _ (omega arith)
      ∙ over_none f n (λ i x l. h i x (omega arith)) held

  -- only the list at j changes anything
  over_one :
      (f : ℕ → List Event) (n j : ℕ) → j < n → ((i : ℕ) (held : Bool) → i ≢ j → held_over (f i) p k held ≡ held) → (held : Bool)
      → held_over (join_up_to f n) p k held ≡ held_over (f j) p k held
  unfolding join_up_to
  over_one f zero j l h held = absurd (not-suc-le-zero l)
  over_one f (suc n) j l h held =
      over_joined (join_up_to f n) (f n) held
      ∙ ⊎_elim
      (λ (b : j < n). h n _ (λ (e : n ≡ j). omega arith) ∙ over_one f n j b h held)
      (λ (e : j ≡ n). rw (e, over_none f n (λ i x b. h i x (λ (y : i ≡ j). omega arith)) held))
      (below_or_last j n l)

-- ---- freed

module _ (t : Tables) (step : Step) (p k : ℕ) where
  -- another slot, or another object
  freed_elsewhere :
      (slot object : ℕ) (held : Bool) → (eqb slot p && eqb object k) ≡ false → held_over (freed_at t step slot object) p k held ≡ held
  unfolding held_over
  freed_elsewhere slot object held e = both (is_freed t step slot object)
    where
      both : (b : Bool) → held_over (cond b (event_in t step EventKind.Freed slot object ∷ []) []) p k held ≡ held
      both true = rw e
      both false = refl

  freed_own : (held : Bool) → held_over (freed_at t step p k) p k held ≡ cond (is_freed t step p k) false held
  unfolding held_over
  freed_own held = both (is_freed t step p k)
    where
      both : (b : Bool) → held_over (cond b (event_in t step EventKind.Freed p k ∷ []) []) p k held ≡ cond b false held
      both true = rw (eq-eqb p p refl, eq-eqb k k refl)
      both false = refl

  -- the slot's own objects at the acting site
  freed_here :
      p < 16 → object_site k ≡ (places_of t (look_of step)).site → (held : Bool)
      → held_over (freed_of t step) p k held ≡ cond (is_freed t step p k) false held
  unfolding freed_of
  freed_here l e held =
      let x : k / 4 ≡ (places_of t (look_of step)).site = e in
      let y : 4 * (places_of t (look_of step)).site + k % 4 ≡ k = omega arith in
      over_one
      p
      k
      (freed_by t step)
      16
      p
      l
      (λ slot h n. over_none p k _ 4 (λ i g b. freed_elsewhere slot _ g (rw (ne_eqb slot p n))) h)
      held
      ∙ over_one
      p
      k
      (λ i. freed_at t step p (4 * (places_of t (look_of step)).site + i))
      4
      (k % 4)
      (omega arith)
      (λ i h n.
      freed_elsewhere
      p
      _
      h
      (rw (ne_eqb (4 * (places_of t (look_of step)).site + i) k (λ (q : 4 * (places_of t (look_of step)).site + i ≡ k). n (omega arith)), and_false)))
      held
      ∙ (rw y (freed_own held))

  freed_away :
      object_site k ≢ (places_of t (look_of step)).site → (held : Bool) → held_over (freed_of t step) p k held ≡ held
  unfolding freed_of
  freed_away n =
      let d : k / 4 ≡ (places_of t (look_of step)).site → ⊥ = n in
      over_none
      p
      k
      (freed_by t step)
      16
      (λ slot h l.
      over_none
      p
      k
      _
      4
      (λ i g b.
      freed_elsewhere
      slot
      _
      g
      (rw (ne_eqb (4 * (places_of t (look_of step)).site + i) k (λ (q : 4 * (places_of t (look_of step)).site + i ≡ k). d (omega arith)), and_false)))
      h)

-- ---- took

-- after the events of a call its slot has its object, and all else is as before
call_held :
    (t : Tables) (step : Step) (slot p k : ℕ) (c : Call)
    → held_over (body_events t step slot (Body.Call c)) p k (is_holding t p k)
    ≡ ((eqb slot p && eqb c.object k) || is_holding t p k)
unfolding held_over
call_held t step slot p k c = listed (is_holding t slot c.object) (is_holding t p k) ∙ both (either (eqb slot p && eqb c.object k))
  where
    listed :
        (own held : Bool)
        → held_over (cond own [] (event_in t step EventKind.Took slot c.object ∷ []) ++ operated_of t step slot c ∷ []) p k held
        ≡ cond (eqb slot p && eqb c.object k) (cond own held true) held
    listed true held = refl
    listed false held = ⊎_elim (λ m. rw m) (λ m. rw m) (either (eqb slot p && eqb c.object k))

    same : (held : Bool) → cond held held true ≡ true
    same true = refl
    same false = refl

    both :
        ((eqb slot p && eqb c.object k) ≡ true) ⊎ ((eqb slot p && eqb c.object k) ≡ false)
        → cond (eqb slot p && eqb c.object k) (cond (is_holding t slot c.object) (is_holding t p k) true) (is_holding t p k)
        ≡ ((eqb slot p && eqb c.object k) || is_holding t p k)
    both (inl m) =
        let x : slot ≡ p = eqb-true slot p (and_left (eqb slot p) _ m) in
        let y : c.object ≡ k = eqb-true c.object k (and_right (eqb slot p) _ m) in
        rw (m, x, y) (same (is_holding t p k))
    both (inr m) = rw m

-- ---- the step

-- what was let go is freed
let_go_told : (before after : Bool) → (after ≡ true → before ≡ true) → cond (before && not after) false before ≡ after
let_go_told true true f = refl
let_go_told true false f = refl
let_go_told false true f = f refl
let_go_told false false f = refl

-- what is held before and after is not freed
taken_told : (before mine : Bool) → cond (before && not (mine || before)) false (mine || before) ≡ (mine || before)
taken_told true true = refl
taken_told true false = refl
taken_told false true = refl
taken_told false false = refl

module _ (t : Tables) (step : Step) (held : Held t) (p k : ℕ) (slot : p < 16) where
  -- by what the step did
  accepted_told_lem :
      is_accepted (step_of t step).answer ≡ true → Did t step (left_by t step)
      → held_over (events_of t step) p k (is_holding t p k) ≡ is_holding (step_of t step).tables p k
  unfolding held_over
  accepted_told_lem a (took c f) =
      rw
      (acting_events t step a f.acts)
      (over_joined p k (delivered_of t step) (freed_of t step) _
      ∙ ap (held_over (freed_of t step) p k) (ap (λ (es : List Event). held_over es p k (is_holding t p k)) f.delivers ∙ call_held t step _ p k c)
      ∙ ⊎_elim
      (λ e.
      freed_here t step p k slot e _
      ∙ (rw
      (step_takes t step held.sound a c f p k)
      (taken_told (is_holding t p k) (eqb (places_of t (look_of step)).slot p && eqb c.object k))))
      (λ n. freed_away t step p k n _ ∙ sym (step_takes t step held.sound a c f p k))
      (same_or_other (object_site k) (places_of t (look_of step)).site))
  accepted_told_lem a (let_go f) =
      let g : LetsGoAt (places_of t (look_of step)).site t (step_of t step).tables = step_lets_go t step held.sound a f in
      rw
      (acting_events t step a f.acts, f.delivers)
      (⊎_elim
      (λ e. freed_here t step p k slot e _ ∙ let_go_told (is_holding t p k) _ (g.gained p k))
      (λ n. freed_away t step p k n _ ∙ sym (g.away p k n))
      (same_or_other (object_site k) (places_of t (look_of step)).site))
  accepted_told_lem a (idle f) =
      rw (idle_no_event t step f.acts) (sym (holding_after_idle t step held.sound a f p k))

  -- whatever the step, accepted or not
  pub events_tell : held_over (events_of t step) p k (is_holding t p k) ≡ is_holding (step_of t step).tables p k
  unfolding head_of held_over
  events_tell =
      ⊎_elim
      (λ a. accepted_told_lem a (decided_did t step _ held (head_accepted t step a)))
      (λ a. rw (refused_no_event t step a, refused_leaves t step a))
      (either (is_accepted (step_of t step).answer))
