-- Nobody operates on both sides of another: of two different uses of slots, no run has the first operating an object x before the second does,
-- and the second operating an object y before the first does.
-- The idea: between the two operations of the one object the first has let it go, at a smaller stamp than the second's operation;
-- so every operation of the first is before it, and the other way round. Assumes nothing.
use Rattle.std.specs.Prelude.{ℕ, ◌≤◌, ◌<◌, ◌≡◌, Bool, cond, ◌&&◌, eqb}
use Rattle.std.proofs.Common.{arith, ◌∙◌, inl, inr, true≢false}
use Rattle.std.proofs.Math.Path.{refl, sym, ap, subst, subst₂}
use Rattle.std.proofs.Math.Logic.{⊎_elim}
use Rattle.std.proofs.Math.Bool.{true, false}
use Rattle.std.proofs.lemmas.Bool.{false≢true}
use mathlib.Core.List.{List, [], ◌∷◌, ◌++◌}
use borrow.Author.Tests.{eqb-true, eq-eqb}
use Rattle.rules.specs.Loops.{one_if}
use Rattle.rules.specs.LoopsLaws.{either, and_left, and_right}
use Rattle.rules.specs.Tables.{site_at, object_at, slot_of, object_site}
use Rattle.rules.specs.Answers.{is_accepted}
use Rattle.rules.proofs.PartsLaws.{unheld_not_held, one_holder}
use Rattle.rules.specs.Machine.{step_of}
use Rattle.rules.specs.Record.{is_step}
use Rattle.rules.specs.Runs.{Started}
use Rattle.rules.specs.Events.{EventKind, Event, is_holding, events_of}
use Rattle.rules.proofs.Views.{Objects, deed_of}
use Rattle.runs.specs.Types.{Tables, Step}
use Rattle.runs.proofs.Walk.Clocks.{clock_not_back}
use Rattle.runs.proofs.Holders.HeldStore.{Held}
use Rattle.runs.proofs.Holders.Holders.{held_started, held_step}
use Rattle.runs.specs.Orphans.Orphans.{retires}
use Rattle.runs.specs.Events.Uses.{uses_after, PassageEvent, with_uses, events_from, events_up_to, is_of, hold_after, frees}
use Rattle.runs.proofs.Events.EventsLaws.{held_over, events_tell}
use Rattle.runs.proofs.Events.HeldByList.{retired_holds_nothing}
use Rattle.runs.specs.Operations.Definitions.{mail_named, calls_for, operates, operated_at}
use Rattle.runs.proofs.Operations.Delivered.{delivered_after_sent}
use Rattle.runs.proofs.Operations.Operated.{operated_was_free_or_own, operated_is_held, station_of_operated}
use Rattle.runs.specs.Order.Definitions.{Among, InOrder, is_operation, is_letting_go}
use Rattle.runs.proofs.Order.Listed.{among_joined, among_left, among_right, ordered_joined, ordered_first, ordered_second, among_with_uses}
use Rattle.runs.proofs.Order.Stamps.{happens, stamp_of_lem, named, operation_before_letting_go}

-- ---- an operation moves the clock of the object's station

delivery_moves :
    (t : Tables) (q x : ℕ) (step : Step) → Objects step → Held t → operates t q x step ≡ true
    → (site_at t (operated_at t step)).clock < (site_at (step_of t step).tables (operated_at t step)).clock
delivery_moves t q x _ (Objects.Closes h) held e = absurd (false≢true (and_right (is_accepted (step_of t (Step.Close h)).answer) false e))
delivery_moves t q x _ (Objects.Delivers m) held e = (delivered_after_sent t m held.sound (and_left _ _ e)).moved
delivery_moves t q x _ (Objects.Stay step c d stay) held e =
    absurd (false≢true (sym d ∙ and_left (is_step 11 step) _ (and_right (is_accepted (step_of t step).answer) _ e)))

operation_moves :
    (t : Tables) (q x : ℕ) (step : Step) → Held t → operates t q x step ≡ true
    → (site_at t (object_site x)).clock < (site_at (step_of t step).tables (object_site x)).clock
operation_moves t q x step held e =
    subst
    (λ (s : ℕ). (site_at t s).clock < (site_at (step_of t step).tables s).clock)
    (station_of_operated t q x step held.sound e held)
    (delivery_moves t q x step (deed_of step).objects held e)

-- so an operation that comes later has a larger stamp than its station's clock now
stamp_later :
    (q v x : ℕ) (t : Tables) (uses : ℕ → ℕ) (ss : List Step) (f : PassageEvent) → Held t → Among f (events_from t uses ss) → is_operation q v x f ≡ true
    → (site_at t (object_site x)).clock < f.event.stamp
unfolding events_from
stamp_later q v x t uses [] f held a y = absurd a
stamp_later q v x t uses (step ∷ ss) f held a y =
    let of = named q v x f _ y in
    ⊎_elim
    (λ b.
    let h = happens t uses step f held b in
    let moved = operation_moves t f.event.slot f.event.object step held (h.means.operation (and_right (is_of q v x f) _ y)) in
    rw
    (stamp_of_lem t uses step f h)
    (subst
    (λ (k : ℕ). (site_at t (object_site k)).clock < (site_at (step_of t step).tables (object_site f.event.object)).clock)
    of.object
    moved))
    (λ b.
    let later : (site_at (step_of t step).tables (object_site x)).clock < f.event.stamp =
    stamp_later q v x (step_of t step).tables (uses_after t step uses) ss f (held_step t step held) b y in
    let back : (site_at t (object_site x)).clock ≤ (site_at (step_of t step).tables (object_site x)).clock =
    clock_not_back t step held.sound (object_site x) in
    omega arith)
    (among_joined (with_uses uses (events_of t step)) _ f a)

-- ---- what is held and then not held was let go

record Freeing (p k : ℕ) (es : List Event) : Type 0 where
  event : Event
  among : Among event es
  slot : event.slot ≡ p
  object : event.object ≡ k
  letting : frees event.kind ≡ true

freeing_listed : (p k : ℕ) (es : List Event) → held_over es p k true ≡ false → Freeing p k es
unfolding held_over
freeing_listed p k [] e = absurd (true≢false e)
freeing_listed p k (x ∷ xs) e = go (λ f. further (freeing_listed p k xs f)) (eqb x.slot p && eqb x.object k) refl x.kind refl e
  where
    further : Freeing p k xs → Freeing p k (x ∷ xs)
    further f = record { event = f.event; among = inr f.among; slot = f.slot; object = f.object; letting = f.letting }

    go :
        (held_over xs p k true ≡ false → Freeing p k (x ∷ xs)) → (b : Bool) → (eqb x.slot p && eqb x.object k) ≡ b → (kind : EventKind) → x.kind ≡ kind
        → held_over xs p k (cond b (hold_after kind true) true) ≡ false → Freeing p k (x ∷ xs)
    go rest false y kind z f = rest f
    go rest true y EventKind.Took z f = rest f
    go rest true y (EventKind.Operated write found written) z f = rest f
    go rest true y EventKind.Freed z f =
        record {
          event = x;
          among = inl refl;
          slot = eqb-true _ _ (and_left _ _ y);
          object = eqb-true _ _ (and_right (eqb x.slot p) _ y);
          letting = ap frees z;
        }

-- a letting go in the list, before this stamp
pub record LetGoBefore (p u x : ℕ) (es : List PassageEvent) (stamp : ℕ) : Type 0 where
  pub event : PassageEvent
  pub among : Among event es
  pub letting : is_letting_go p u x event ≡ true
  pub before : event.event.stamp < stamp

let_go_further : (p u x : ℕ) (xs ys : List PassageEvent) (stamp : ℕ) → LetGoBefore p u x ys stamp → LetGoBefore p u x (xs ++ ys) stamp
let_go_further p u x xs ys stamp g = record { event = g.event; among = among_right xs ys g.event g.among; letting = g.letting; before = g.before }

module _ (p u q v x : ℕ) (slot : p < 16) (f : PassageEvent) (y : is_operation q v x f ≡ true) (other : p ≡ q → u ≡ v → ⊥) where
  -- who holds the object has let it go before another operates it
  let_go_until :
      (t : Tables) (uses : ℕ → ℕ) (ss : List Step) → Held t → x < 32 → is_holding t p x ≡ true → uses p ≡ u → Among f (events_from t uses ss)
      → LetGoBefore p u x (events_from t uses ss) f.event.stamp
  unfolding events_from
  let_go_until t uses [] held k holds used a = absurd a
  let_go_until t uses (step ∷ ss) held k holds used a =
      let of = named q v x f _ y in
      ⊎_elim
      (λ b.
      let h = happens t uses step f held b in
      let does = subst (λ (z : ℕ). operates t f.event.slot z step ≡ true) of.object (h.means.operation (and_right (is_of q v x f) _ y)) in
      ⊎_elim
      (λ free. absurd (true≢false (sym holds ∙ unheld_not_held p (object_at t x) free)))
      (λ own.
      let same : p ≡ q = one_holder p f.event.slot (object_at t x) holds own ∙ of.slot in
      absurd (other same (sym used ∙ ap uses (same ∙ sym of.slot) ∙ sym h.used ∙ of.used)))
      (operated_was_free_or_own t f.event.slot x step held.sound does))
      (λ b.
      ⊎_elim
      (λ still.
      let_go_further p u x (with_uses uses (events_of t step)) _ _
      (let_go_until (step_of t step).tables (uses_after t step uses) ss (held_step t step held) k still (goes_on ∙ used) b))
      (λ free.
      let freed : held_over (events_of t step) p x true ≡ false =
      subst (λ (z : Bool). held_over (events_of t step) p x z ≡ false) holds (events_tell t step held p x slot ∙ free) in
      let g = freeing_listed p x (events_of t step) freed in
      let e : PassageEvent = record { event = g.event; used = uses g.event.slot } in
      let among : Among e (with_uses uses (events_of t step)) = among_with_uses uses (events_of t step) g.event g.among in
      let stamp = stamp_of_lem t uses step e (happens t uses step e held among) in
      record {
        event = e;
        among = among_left (with_uses uses (events_of t step)) _ e among;
        letting = rw (g.slot, g.object, eq-eqb p p refl, used, eq-eqb u u refl, eq-eqb x x refl) g.letting;
        before = rw (stamp, g.object) (stamp_later q v x (step_of t step).tables (uses_after t step uses) ss f (held_step t step held) b y);
      })
      (either (is_holding (step_of t step).tables p x)))
      (among_joined (with_uses uses (events_of t step)) _ f a)
    where
      goes_on : uses_after t step uses p ≡ uses p
      goes_on =
          ⊎_elim
          (λ r. absurd (true≢false (sym holds ∙ (retired_holds_nothing t step p x held slot k r).0)))
          (λ r. let none : one_if (is_accepted (step_of t step).answer && retires p step) ≡ 0 = rw r in omega arith)
          (either (is_accepted (step_of t step).answer && retires p step))

  -- so of two operations of one object, by different passages, the first passage has let the object go before the stamp of the second
  let_go_between :
      (e : PassageEvent) → is_operation p u x e ≡ true → (t : Tables) (uses : ℕ → ℕ) (ss : List Step) → Held t → InOrder e f (events_from t uses ss)
      → LetGoBefore p u x (events_from t uses ss) f.event.stamp
  unfolding events_from
  let_go_between e z t uses [] held o = absurd o
  let_go_between e z t uses (step ∷ ss) held o =
      let one = named p u x e _ z in
      let two = named q v x f _ y in
      let here : List PassageEvent = with_uses uses (events_of t step) in
      ⊎_elim
      (λ both.
      let g = happens t uses step e held (ordered_first here e f both) in
      let h = happens t uses step f held (ordered_second here e f both) in
      let same : e.event.slot ≡ f.event.slot =
      slot_of_lem t e.event.slot e.event.object step (g.means.operation (and_right (is_of p u x e) _ z))
      ∙ sym (slot_of_lem t f.event.slot f.event.object step (h.means.operation (and_right (is_of q v x f) _ y))) in
      absurd (other (sym one.slot ∙ same ∙ two.slot) (sym one.used ∙ g.used ∙ ap uses same ∙ sym h.used ∙ two.used)))
      (⊎_elim
      (λ b.
      let g = happens t uses step e held b.0 in
      let place : x < 32 = subst (λ (k : ℕ). k < 32) one.object g.place.object in
      let does = subst₂ (λ (a k : ℕ). operates t a k step ≡ true) one.slot one.object (g.means.operation (and_right (is_of p u x e) _ z)) in
      let holds = operated_is_held t p x step held.sound does in
      let used : uses p ≡ u = ap uses (sym one.slot) ∙ sym g.used ∙ one.used in
      let on : uses_after t step uses p ≡ uses p =
      ⊎_elim
      (λ r. absurd (true≢false (sym holds ∙ (retired_holds_nothing t step p x held slot place r).1)))
      (λ r. let none : one_if (is_accepted (step_of t step).answer && retires p step) ≡ 0 = rw r in omega arith)
      (either (is_accepted (step_of t step).answer && retires p step)) in
      let_go_further p u x here _ _ (let_go_until (step_of t step).tables (uses_after t step uses) ss (held_step t step held) place holds (on ∙ used) b.1))
      (λ b. let_go_further p u x here _ _ (let_go_between e z (step_of t step).tables (uses_after t step uses) ss (held_step t step held) b)))
      (ordered_joined here _ e f o)
    where
      -- an operation's slot is that of its message
      slot_of_lem : (t : Tables) (a k : ℕ) (step : Step) → operates t a k step ≡ true → a ≡ slot_of (mail_named t step).handle
      slot_of_lem t a k step w =
          sym
          (eqb-true _ _
          (and_left _
          (calls_for k (mail_named t step).body)
          (and_right (is_step 11 step) _ (and_right (is_accepted (step_of t step).answer) _ w))))

-- ---- the theorem

-- a slot of the list is one of sixteen
slot_below : (t : Tables) (uses : ℕ → ℕ) (ss : List Step) (e : PassageEvent) → Held t → Among e (events_from t uses ss) → e.event.slot < 16
unfolding events_from
slot_below t uses [] e held a = absurd a
slot_below t uses (step ∷ ss) e held a =
    ⊎_elim
    (λ b. (happens t uses step e held b).place.slot)
    (λ b. slot_below (step_of t step).tables (uses_after t step uses) ss e (held_step t step held) b)
    (among_joined (with_uses uses (events_of t step)) _ e a)

-- two passages, use u of slot p and use v of slot q, not one and the same;
-- in no run from the start does the first operate x before the second does, and the second y before the first does.
-- In the lockmaster's story the first is the check, alive or dead, and the second the crew
pub never_on_both_sides :
    {t₀ : Tables} → Started t₀ → (ss : List Step) (p u q v x y : ℕ) (e f g h : PassageEvent) → (p ≡ q → u ≡ v → ⊥)
    → is_operation p u x e ≡ true → is_operation q v x f ≡ true → InOrder e f (events_up_to t₀ ss)
    → is_operation q v y g ≡ true → is_operation p u y h ≡ true → InOrder g h (events_up_to t₀ ss) → ⊥
unfolding events_up_to
never_on_both_sides {t₀} fresh ss p u q v x y e f g h other a b first c d second =
    let es : List PassageEvent = events_from t₀ (λ i. 0) ss in
    let held = held_started fresh in
    let slot-p = subst (λ (i : ℕ). i < 16) (named p u x e _ a).slot (slot_below t₀ (λ i. 0) ss e held (ordered_first es e f first)) in
    let slot-q = subst (λ (i : ℕ). i < 16) (named q v y g _ c).slot (slot_below t₀ (λ i. 0) ss g held (ordered_first es g h second)) in
    let one = let_go_between p u q v x slot-p f b other e a t₀ (λ i. 0) ss held first in
    let two = let_go_between q v p u y slot-q h d (λ i j. other (sym i) (sym j)) g c t₀ (λ i. 0) ss held second in
    let here : h.event.stamp < one.event.event.stamp =
    operation_before_letting_go fresh ss p u y x h one.event (ordered_second es g h second) one.among d one.letting in
    let there : f.event.stamp < two.event.event.stamp =
    operation_before_letting_go fresh ss q v x y f two.event (ordered_second es e f first) two.among b two.letting in
    let before : one.event.event.stamp < f.event.stamp = one.before in
    let after : two.event.event.stamp < h.event.stamp = two.before in
    omega arith
