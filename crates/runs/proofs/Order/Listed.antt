-- What an event of a step's list means: an operation is an accepted delivery of a call, and what is freed was held before and not after. Assumes nothing.
use Rattle.std.specs.Prelude.{ℕ, ◌+◌, ◌*◌, ◌%◌, ◌≡◌, refl, ◌⊎◌, true, false, cond, List, [], ◌∷◌, ◌++◌}
use Rattle.std.proofs.Common.{sym, ap, ◌∙◌, subst, ⊎_elim, inl, inr, eq-eqb}
use Rattle.std.proofs.lemmas.Bool.{false≢true}
use Rattle.rules.specs.LoopsLaws.{either, cond_keeps, and_left, and_right, not_true}
use Rattle.rules.specs.Tables.{message_at, slot_of}
use Rattle.rules.specs.Answers.{is_accepted}
use Rattle.rules.specs.Machine.{look_of, places_of, head_of, step_of}
use Rattle.rules.specs.Record.{flat_of}
use Rattle.rules.specs.Events.{EventKind, Event, event_in, is_holding, took_of, body_events, is_freed, freed_by, freed_of, events_of}
use Rattle.runs.specs.Types.{Call, Body, Tables, Step}
use Rattle.runs.proofs.Walk.Steps.{head_accepted}
use Rattle.runs.proofs.Holders.HeldStore.{Held}
use Rattle.runs.specs.Events.Uses.{All, PassageEvent, with_uses, frees}
use Rattle.runs.proofs.Events.HoldSteps.{Did, Takes, took, let_go, idle, decided_did}
use Rattle.runs.proofs.Events.HoldStores.{left_by}
use Rattle.runs.proofs.Events.EventsLaws.{refused_no_event, acting_events, idle_no_event}
use Rattle.runs.proofs.Events.EventsInPlace.{all_joined, all_up_to}
use Rattle.runs.specs.Operations.Definitions.{operates}
use Rattle.runs.specs.Order.Definitions.{Among, InOrder, is_operated}

-- ---- lists

pub all_among : {A : Type 0} (P : A → Type 0) (xs : List A) → All P xs → (e : A) → Among e xs → P e
all_among P [] f e a = absurd a
all_among P (x ∷ xs) f e (inl a) = subst P a f.0
all_among P (x ∷ xs) f e (inr a) = all_among P xs f.1 e a

pub among_joined : {A : Type 0} (xs ys : List A) (e : A) → Among e (xs ++ ys) → Among e xs ⊎ Among e ys
among_joined [] ys e a = inr a
among_joined (x ∷ xs) ys e (inl a) = inl (inl a)
among_joined (x ∷ xs) ys e (inr a) = ⊎_elim (λ b. inl (inr b)) (λ b. inr b) (among_joined xs ys e a)

pub among_left : {A : Type 0} (xs ys : List A) (e : A) → Among e xs → Among e (xs ++ ys)
among_left [] ys e a = absurd a
among_left (x ∷ xs) ys e (inl a) = inl a
among_left (x ∷ xs) ys e (inr a) = inr (among_left xs ys e a)

pub among_right : {A : Type 0} (xs ys : List A) (e : A) → Among e ys → Among e (xs ++ ys)
among_right [] ys e a = a
among_right (x ∷ xs) ys e a = inr (among_right xs ys e a)

-- of two in a list one comes first, or they are one
pub among_ordered : {A : Type 0} (xs : List A) (e f : A) → Among e xs → Among f xs → (e ≡ f) ⊎ (InOrder e f xs ⊎ InOrder f e xs)
among_ordered [] e f a b = absurd a
among_ordered (x ∷ xs) e f (inl a) (inl b) = inl (sym a ∙ b)
among_ordered (x ∷ xs) e f (inl a) (inr b) = inr (inl (inl (a, b)))
among_ordered (x ∷ xs) e f (inr a) (inl b) = inr (inr (inl (b, a)))
among_ordered (x ∷ xs) e f (inr a) (inr b) =
    ⊎_elim (λ y. inl y) (λ y. inr (⊎_elim (λ z. inl (inr z)) (λ z. inr (inr z)) y)) (among_ordered xs e f a b)

-- two in order in a joined list: both in the first, both in the second, or one in each
pub ordered_joined :
    {A : Type 0} (xs ys : List A) (e f : A) → InOrder e f (xs ++ ys)
    → InOrder e f xs ⊎ ((Among e xs × Among f ys) ⊎ InOrder e f ys)
ordered_joined [] ys e f o = inr (inr o)
ordered_joined (x ∷ xs) ys e f (inl o) =
    ⊎_elim (λ b. inl (inl (o.0, b))) (λ b. inr (inl (inl o.0, b))) (among_joined xs ys f o.1)
ordered_joined (x ∷ xs) ys e f (inr o) =
    ⊎_elim (λ b. inl (inr b)) (λ b. inr (⊎_elim (λ c. inl (inr c.0, c.1)) (λ c. inr c) b)) (ordered_joined xs ys e f o)

pub ordered_first : {A : Type 0} (xs : List A) (e f : A) → InOrder e f xs → Among e xs
ordered_first [] e f o = absurd o
ordered_first (x ∷ xs) e f (inl o) = inl o.0
ordered_first (x ∷ xs) e f (inr o) = inr (ordered_first xs e f o)

pub ordered_second : {A : Type 0} (xs : List A) (e f : A) → InOrder e f xs → Among f xs
ordered_second [] e f o = absurd o
ordered_second (x ∷ xs) e f (inl o) = inr o.1
ordered_second (x ∷ xs) e f (inr o) = inr (ordered_second xs e f o)

-- ---- what each event means

pub record Means (t : Tables) (step : Step) (e : Event) : Type 0 where
  pub accepted : is_accepted (step_of t step).answer ≡ true
  pub operation : is_operated e.kind ≡ true → operates t e.slot e.object step ≡ true
  pub held : frees e.kind ≡ true → is_holding t e.slot e.object ≡ true
  pub freed : frees e.kind ≡ true → is_holding (step_of t step).tables e.slot e.object ≡ false

module _ (t : Tables) (step : Step) (a : is_accepted (step_of t step).answer ≡ true) where
  freed_mean : All (Means t step) (freed_of t step)
  unfolding freed_of
  freed_mean =
      all_up_to (Means t step) (freed_by t step) 16 λ slot p.
      all_up_to (Means t step) _ 4 λ i l.
      one slot (4 * (places_of t (look_of step)).site + i) (either (is_freed t step slot (4 * (places_of t (look_of step)).site + i)))
    where
      one :
          (slot object : ℕ) → (is_freed t step slot object ≡ true) ⊎ (is_freed t step slot object ≡ false)
          → All (Means t step) (cond (is_freed t step slot object) (event_in t step EventKind.Freed slot object ∷ []) [])
      one slot object (inl e) =
          rw e (
            record {
              accepted = a;
              operation = λ y. absurd (false≢true y);
              held = λ y. and_left _ _ e;
              freed = λ y. not_true _ (and_right (is_holding t slot object) _ e);
            },
            tt,
          )
      one slot object (inr e) = rw e tt

  call_means : (c : Call) → Takes t step c (left_by t step) → All (Means t step) (body_events t step (places_of t (look_of step)).slot (Body.Call c))
  call_means c f =
      all_joined (Means t step) (took_of t step (places_of t (look_of step)).slot c.object) _
      (cond_keeps (All (Means t step)) (is_holding t (places_of t (look_of step)).slot c.object) [] _ tt
      (record { accepted = a; operation = λ y. absurd (false≢true y); held = λ y. absurd (false≢true y); freed = λ y. absurd (false≢true y) }, tt)) (
        record {
          accepted = a;
          operation =
              λ y.
              rw
              (a, f.code, eq-eqb (slot_of (message_at t ((flat_of step).c % 32)).handle) (places_of t (look_of step)).slot f.slot, f.body)
              (eq-eqb c.object c.object refl);
          held = λ y. absurd (false≢true y);
          freed = λ y. absurd (false≢true y);
        },
        tt,
      )

  accepted_means : Did t step (left_by t step) → All (Means t step) (events_of t step)
  accepted_means (took c f) =
      rw
      (acting_events t step a f.acts, f.delivers)
      (all_joined (Means t step) (body_events t step (places_of t (look_of step)).slot (Body.Call c)) (freed_of t step) (call_means c f) freed_mean)
  accepted_means (let_go f) = rw (acting_events t step a f.acts, f.delivers) freed_mean
  accepted_means (idle f) = rw (idle_no_event t step f.acts) tt

pub events_mean : (t : Tables) (step : Step) → Held t → All (Means t step) (events_of t step)
unfolding head_of
events_mean t step held =
    ⊎_elim
    (λ a. accepted_means t step a (decided_did t step _ held (head_accepted t step a)))
    (λ a. rw (refused_no_event t step a) tt)
    (either (is_accepted (step_of t step).answer))

-- ---- with its use

-- an event with its use is an event of the list, and its use is its slot's
pub with_uses_means :
    (uses : ℕ → ℕ) (es : List Event) (e : PassageEvent) → Among e (with_uses uses es) → Among e.event es × (e.used ≡ uses e.event.slot)
unfolding with_uses
with_uses_means uses [] e a = absurd a
with_uses_means uses (x ∷ xs) e (inl a) = (inl (ap (λ (y : PassageEvent). y.event) a), subst (λ (y : PassageEvent). y.used ≡ uses y.event.slot) a refl)
with_uses_means uses (x ∷ xs) e (inr a) = let y = with_uses_means uses xs e a in (inr y.0, y.1)

pub among_with_uses :
    (uses : ℕ → ℕ) (es : List Event) (e : Event) → Among e es → Among (record { event = e; used = uses e.slot }) (with_uses uses es)
unfolding with_uses
among_with_uses uses [] e a = absurd a
among_with_uses uses (x ∷ xs) e (inl a) = inl (ap (λ (y : Event). record { event = y; used = uses y.slot }) a)
among_with_uses uses (x ∷ xs) e (inr a) = inr (among_with_uses uses xs e a)
