-- What a step does to an object that a passage holds:
-- it stays, its own passage operates it, a commit's word frees it with its value, or a sweep that is due undoes it.
-- Assumes nothing.
use Rattle.std.specs.Prelude.{ℕ, ◌%◌, ◌<◌, ◌≡◌, ◌⊎◌, true, false}
use Rattle.std.proofs.Math.Path.{refl}
use Rattle.std.proofs.Common.{sym, ap, ◌∙◌, subst, ⊎_elim, inl, inr, true≢false, eq-eqb}
use Rattle.rules.specs.declared.tables.Object.{Object}
use Rattle.rules.specs.declared.looking.Trip.{Trip}
use Rattle.rules.specs.LoopsLaws.{either}
use Rattle.rules.specs.Tables.{object_at, bank_at, message_at, object_site, slot_of}
use Rattle.rules.specs.Answers.{is_accepted}
use Rattle.rules.specs.Parts.{is_held_by, unheld}
use Rattle.rules.proofs.PartsLaws.{held_not_unheld, unheld_not_held, let_go_unheld, one_holder}
use Rattle.rules.specs.Calls.{deliver_body_of}
use Rattle.rules.specs.Machine.{look_of, places_of, decide_of, head_of, step_of}
use Rattle.rules.proofs.RangesLaws.{placed_places}
use Rattle.rules.proofs.RefusedLaws.{refused_leaves}
use Rattle.rules.specs.Record.{is_step}
use Rattle.rules.specs.Events.{is_holding}
use Rattle.rules.proofs.Views.{Leaves, Objects, Mail, mail_deed, Goes, deed_of}
use Rattle.runs.specs.Types.{Call, Body, Tables, Step}
use Rattle.runs.specs.Walk.Put.{same_or_other}
use Rattle.runs.specs.Walk.Seen.{places_at, seen_at}
use Rattle.runs.proofs.Walk.Sound.{Sound, sound_accepted_has}
use Rattle.runs.specs.Promises.Definitions.{is_word}
use Rattle.runs.specs.Operations.Definitions.{operates, SweptAt}
use Rattle.runs.proofs.Operations.Single.{decision_at, single_head, single_stored}
use Rattle.runs.proofs.Operations.Operated.{operated_was_free_or_own, operated_is_held, others_after_operated}
use Rattle.runs.proofs.Operations.LetGo.{let_go_by}
use Rattle.runs.proofs.Operations.Freed.{SameOrFreed, SameOrRestored, FourFreed, freed_after_close, freed_after_word, freed_after_question, freed_after_stored, same_after_stored, restored_after_turn, same_after_crash_turn}

-- ---- what a step does to an object that p holds

-- as the tables after the step have it: one of four
pub data HeldAfter (t : Tables) (step : Step) (p k : ℕ) : Type 0 where
  -- it is as it was
  Same : object_at (step_of t step).tables k ≡ object_at t k → HeldAfter t step p k
  -- its own passage operated it
  Operated : operates t p k step ≡ true → HeldAfter t step p k
  -- a commit's word frees it, and it keeps its value
  Freed :
      object_at (step_of t step).tables k ≡ unheld (object_at t k).value → is_accepted (step_of t step).answer ≡ true
      → is_word t (object_site k) p step ≡ true
      → HeldAfter t step p k
  -- a sweep undoes it
  Restored : object_at (step_of t step).tables k ≡ unheld (object_at t k).before → SweptAt t step (object_site k) p → HeldAfter t step p k

-- no step is both a sweep and home's word
no_word_swept : (t : Tables) (step : Step) (site p : ℕ) → is_word t site p step ≡ true → step ≡ Step.Sweep site → ⊥
no_word_swept t step site p w e = true≢false (sym w ∙ ap (is_word t site p) e)

-- an object that is free after the step is not held by p then
free_let_go :
    (t : Tables) (p k : ℕ) (step : Step) (v : ℕ) → object_at (step_of t step).tables k ≡ unheld v → is_holding (step_of t step).tables p k ≡ false
free_let_go t p k step v e = ap (is_held_by p) e ∙ unheld_not_held p (unheld v) (let_go_unheld v)

module _ (t : Tables) (p k : ℕ) (slot : p < 16) (z : Sound t) (held : is_holding t p k ≡ true) where
  -- a step that sweeps nothing
  by_freed :
      (step : Step) → is_step 13 step ≡ false → SameOrFreed (object_at t k) (object_at (step_of t step).tables k) → HeldAfter t step p k
  by_freed step s (inl e) = HeldAfter.Same e
  by_freed step s (inr e) =
      ⊎_elim
      (λ w. HeldAfter.Freed e w.0 w.1)
      (λ w. absurd (true≢false (sym (ap (is_step 13) w.sweeps) ∙ s)))
      (let_go_by t step k p slot z held (free_let_go t p k step _ e))

  -- a sweep
  by_restored : (site : ℕ) → SameOrRestored (object_at t k) (object_at (step_of t (Step.Sweep site)).tables k) → HeldAfter t (Step.Sweep site) p k
  by_restored site (inl e) = HeldAfter.Same e
  by_restored site (inr e) =
      ⊎_elim
      (λ w. absurd (true≢false (sym w.1)))
      (λ w. HeldAfter.Restored e w)
      (let_go_by t (Step.Sweep site) k p slot z held (free_let_go t p k (Step.Sweep site) _ e))

  -- a delivered call is for another object, or is its holder's own
  by_call :
      (m : ℕ) (c : Call) → (message_at t (m % 32)).body ≡ Body.Call c → is_accepted (step_of t (Step.Deliver m)).answer ≡ true
      → HeldAfter t (Step.Deliver m) p k
  by_call m c b a =
      ⊎_elim
      (λ (e : k ≡ c.object).
      ⊎_elim
      (λ u. absurd (true≢false (sym u ∙ held_not_unheld p (object_at t c.object) (rw e at held))))
      (λ own.
      let same : q ≡ p = one_holder q p (object_at t c.object) own (rw e at held) in
      HeldAfter.Operated (rw (← same, e) operating))
      (operated_was_free_or_own t q c.object (Step.Deliver m) z operating))
      (λ n. HeldAfter.Same (others_after_operated t q c.object (Step.Deliver m) z operating k n))
      (same_or_other k c.object)
    where
      q : ℕ
      q = slot_of (message_at t (m % 32)).handle

      operating : operates t q c.object (Step.Deliver m) ≡ true
      operating = rw (a, b, eq-eqb q q refl, eq-eqb c.object c.object refl)

  -- a step of one store, of which the four objects are known
  by_four :
      (step : Step) → is_step 13 step ≡ false → (look_of step).trip ≡ Trip.Nowhere → is_accepted (step_of t step).answer ≡ true
      → FourFreed (bank_at t (places_at t step).bank) (decision_at t step).left.objects
      → HeldAfter t step p k
  by_four step s n a four =
      by_freed
      step
      s
      (rw (single_stored t step n a) (freed_after_stored k t (places_at t step) _ z.sized (placed_places t (look_of step)) four))

  -- a message that brings no call
  by_body :
      (m : ℕ) (body : Body) → (message_at t (m % 32)).body ≡ body → is_accepted (step_of t (Step.Deliver m)).answer ≡ true
      → FourFreed (seen_at t (Step.Deliver m)).objects (deliver_body_of body m (seen_at t (Step.Deliver m))).left.objects
      → HeldAfter t (Step.Deliver m) p k
  unfolding places_of decide_of
  by_body m body b a four =
      by_four
      (Step.Deliver m)
      refl
      refl
      a
      (subst
      (λ (x : Body). FourFreed (seen_at t (Step.Deliver m)).objects (deliver_body_of x m (seen_at t (Step.Deliver m))).left.objects)
      (sym b)
      four)

  -- every message
  by_mail :
      (m : ℕ) (body : Body) → (message_at t (m % 32)).body ≡ body → Mail body → is_accepted (step_of t (Step.Deliver m)).answer ≡ true
      → HeldAfter t (Step.Deliver m) p k
  by_mail m _ b (Mail.Calls c) a = by_call m c b a
  by_mail m _ b (Mail.Asks n asked) a = by_body m _ b a (freed_after_question n asked m (seen_at t (Step.Deliver m)))
  by_mail m _ b (Mail.Tells n told) a = by_body m _ b a (freed_after_word n told m (seen_at t (Step.Deliver m)))
  by_mail m _ b (Mail.Quiet body objects visit) a = by_body m body b a (rw (objects m (seen_at t (Step.Deliver m))) (λ i l. inl refl))

  -- a step whose own store leaves the objects
  same_after_head : (step : Step) → Leaves (λ s. s.objects) step → object_at (head_of t step).tables k ≡ object_at t k
  unfolding head_of
  same_after_head step stay =
      same_after_stored k t (places_at t step) _ z.sized (placed_places t (look_of step)) (stay _ (seen_at t step))

  -- then its turns, if it goes through the slots of a site
  by_going :
      (step : Step) → Goes step → Leaves (λ s. s.objects) step → is_accepted (step_of t step).answer ≡ true → HeldAfter t step p k
  by_going _ (Goes.Sweeps site) stay a =
      by_restored
      site
      (sound_accepted_has
      t
      (Step.Sweep site)
      z
      (λ n u. SameOrRestored (object_at t k) (object_at u k))
      (restored_after_turn k t site)
      (λ e. inl (same_after_head (Step.Sweep site) stay))
      a)
  by_going _ (Goes.Crashes site) stay a =
      HeldAfter.Same
      (sound_accepted_has
      t
      (Step.Crash site)
      z
      (λ n u. object_at u k ≡ object_at t k)
      (λ n o l y e. same_after_crash_turn k site n o l y ∙ e)
      (λ e. same_after_head (Step.Crash site) stay)
      a)
  by_going _ (Goes.Nowhere step n) stay a = HeldAfter.Same (rw (single_head t step n a) (same_after_head step stay))

  -- every accepted step
  by_objects : (step : Step) → Objects step → is_accepted (step_of t step).answer ≡ true → HeldAfter t step p k
  unfolding places_of decide_of
  by_objects _ (Objects.Closes h) a = by_four (Step.Close h) refl refl a (freed_after_close h (seen_at t (Step.Close h)))
  by_objects _ (Objects.Delivers m) a = by_mail m (message_at t (m % 32)).body refl (mail_deed (message_at t (m % 32)).body) a
  by_objects _ (Objects.Stay step c d stay) a = by_going step (deed_of step).goes stay a

-- ---- the laws

-- after every step an object that a passage holds is as it was, or its passage operated it, or home's word freed it with its value, or a sweep undid it
pub held_object_after_step : (t : Tables) (step : Step) (p k : ℕ) → p < 16 → Sound t → is_holding t p k ≡ true → HeldAfter t step p k
held_object_after_step t step p k slot z held =
    ⊎_elim
    (by_objects t p k slot z held step (deed_of step).objects)
    (λ e. HeldAfter.Same (ap (λ (u : Tables). object_at u k) (refused_leaves t step e)))
    (either (is_accepted (step_of t step).answer))

-- while a passage holds an object, the value changes only by its own operations
pub value_while_held :
    (t : Tables) (step : Step) (p k : ℕ) → p < 16 → Sound t → is_holding t p k ≡ true → is_holding (step_of t step).tables p k ≡ true
    → ((object_at (step_of t step).tables k).value ≡ (object_at t k).value) ⊎ (operates t p k step ≡ true)
value_while_held t step p k slot z held still = by (held_object_after_step t step p k slot z held)
  where
    by : HeldAfter t step p k → ((object_at (step_of t step).tables k).value ≡ (object_at t k).value) ⊎ (operates t p k step ≡ true)
    by (HeldAfter.Same e) = inl (ap (λ (o : Object). o.value) e)
    by (HeldAfter.Operated e) = inr e
    by (HeldAfter.Freed e a w) = absurd (true≢false (sym still ∙ free_let_go t p k step _ e))
    by (HeldAfter.Restored e w) = absurd (true≢false (sym still ∙ free_let_go t p k step _ e))

-- an object that a commit's word frees keeps its value
pub value_after_word :
    (t : Tables) (step : Step) (p k : ℕ) → p < 16 → Sound t → is_holding t p k ≡ true → is_holding (step_of t step).tables p k ≡ false
    → is_accepted (step_of t step).answer ≡ true
    → is_word t (object_site k) p step ≡ true
    → object_at (step_of t step).tables k ≡ unheld (object_at t k).value
value_after_word t step p k slot z held gone a word = by (held_object_after_step t step p k slot z held)
  where
    by : HeldAfter t step p k → object_at (step_of t step).tables k ≡ unheld (object_at t k).value
    by (HeldAfter.Same e) = absurd (true≢false (sym held ∙ ap (is_held_by p) (sym e) ∙ gone))
    by (HeldAfter.Operated e) = absurd (true≢false (sym (operated_is_held t p k step z e) ∙ gone))
    by (HeldAfter.Freed e b w) = e
    by (HeldAfter.Restored e w) = absurd (no_word_swept t step (object_site k) p word w.sweeps)

-- an object that a sweep lets go has the value from before its passage took it
pub value_after_sweep :
    (t : Tables) (step : Step) (p k : ℕ) → p < 16 → Sound t → is_holding t p k ≡ true → is_holding (step_of t step).tables p k ≡ false
    → SweptAt t step (object_site k) p
    → object_at (step_of t step).tables k ≡ unheld (object_at t k).before
value_after_sweep t step p k slot z held gone swept = by (held_object_after_step t step p k slot z held)
  where
    by : HeldAfter t step p k → object_at (step_of t step).tables k ≡ unheld (object_at t k).before
    by (HeldAfter.Same e) = absurd (true≢false (sym held ∙ ap (is_held_by p) (sym e) ∙ gone))
    by (HeldAfter.Operated e) = absurd (true≢false (sym (operated_is_held t p k step z e) ∙ gone))
    by (HeldAfter.Freed e a w) = absurd (no_word_swept t step (object_site k) p w swept.sweeps)
    by (HeldAfter.Restored e w) = e
