-- What an accepted step without turns leaves: its places hold the records that it decided, and every other place is as it was.
-- Every step but sweep and crash is such a step. The files Effects.. say it of each step in its own words.
-- Whoever knows what stood at a place rewrites such a record by it: rw e at (begin_effects ..). Assumes nothing.
use Rattle.std.specs.Prelude.{ℕ, ◌/◌, ◌%◌, ◌≤◌, ◌<◌, ◌≡◌, refl, ◌≢◌, true, false, not, List, ltb, eqb, get_or, set, Ok, Err}
use Rattle.std.proofs.Common.{arith, sym, ap, ◌∙◌, subst, ⊎_elim, get_or-set_same, get_or-set_other, ltb-false, eqb-true}
use Rattle.std.proofs.lemmas.Bool.{false≢true, eqb-false}
use Rattle.std.proofs.lemmas.List.{set-get_or}
use Rattle.rules.specs.Types.{Site, Object, Passage, Visit, Message, Tables, Step, Answer, Check, Trip, Places, Seen, Decision, Outcome}
use Rattle.rules.specs.Limits.{clock_most}
use Rattle.rules.specs.Tables.{past_site, past_object, past_passage, past_message, site_at, object_at, passage_at, visit_at, message_at, bank_at, object_site}
use Rattle.rules.specs.Ranges.{in_range}
use Rattle.rules.specs.Answers.{is_accepted, answer_value, first_refusal, settle_of}
use Rattle.rules.specs.AnswersLaws.{Fine, accepted_fine, accepted_value, settle_accepted}
use Rattle.rules.specs.LoopsLaws.{not_false, either}
use Rattle.rules.specs.Parts.{clock_to}
use Rattle.rules.specs.Machine.{look_of, places_of, seen_of, decide_of, stored, head_of, turns_up_to, step_in_range_of, step_of, found_of}
use Rattle.rules.specs.StoredLaws.{Sized, Placed, visit_place_same, site_after_stored, passage_after_stored, visit_after_stored, message_after_stored, site_after_stored_other, passage_after_stored_other, visit_after_stored_other, message_after_stored_other}
use Rattle.rules.proofs.StoredObjects.{seen_object, object_after_stored, object_after_stored_other}
use Rattle.rules.proofs.RangesLaws.{placed_places}

-- ---- what a change of one place says

-- only place i of a table changed: it holds x
pub record Only {A : Type 0} (past : A) (before after : List A) (i : ℕ) (x : A) : Type 0 where
  pub here : get_or after i past ≡ x
  pub others : (j : ℕ) → j ≢ i → get_or after j past ≡ get_or before j past

abbrev pub OnlySite : Tables → Tables → ℕ → Site → Type 0
OnlySite t t' s x = Only past_site t.sites t'.sites s x

abbrev pub OnlyPassage : Tables → Tables → ℕ → Passage → Type 0
OnlyPassage t t' p x = Only past_passage t.passages t'.passages p x

abbrev pub OnlyMessage : Tables → Tables → ℕ → Message → Type 0
OnlyMessage t t' m x = Only past_message t.messages t'.messages m x

abbrev pub OnlyObject : Tables → Tables → ℕ → Object → Type 0
OnlyObject t t' k x = Only past_object t.objects t'.objects k x

-- the same of the visit table, whose places go by site and slot
pub record OnlyVisit (t t' : Tables) (s p : ℕ) (x : Visit) : Type 0 where
  pub here : visit_at t' s p ≡ x
  pub others : (i j : ℕ) → j < 16 → (i ≡ s → j ≢ p) → visit_at t' i j ≡ visit_at t i j

-- only the objects of site s changed, each in this way
pub record OnlyObjects (t t' : Tables) (s : ℕ) (change : Object → Object) : Type 0 where
  pub here : (k : ℕ) → object_site k ≡ s → object_at t' k ≡ change (object_at t k)
  pub others : (k : ℕ) → object_site k ≢ s → object_at t' k ≡ object_at t k

-- the site s was up, its clock moves to c, which it may, and no other site changed
pub record ClockMoves (t t' : Tables) (s c : ℕ) : Type 0 where
  pub below : s < 8
  pub up : (site_at t s).up ≡ true
  pub fits : c ≤ clock_most
  pub site : OnlySite t t' s (clock_to (site_at t s) c)

-- every place but these is as it was
pub record OthersStay (t t' : Tables) (at : Places) : Type 0 where
  pub sites : (s : ℕ) → s ≢ at.site → site_at t' s ≡ site_at t s
  pub passages : (p : ℕ) → p ≢ at.slot → passage_at t' p ≡ passage_at t p
  pub visits : (s p : ℕ) → p < 16 → (s ≡ at.site → p ≢ at.slot) → visit_at t' s p ≡ visit_at t s p
  pub messages : (m : ℕ) → m ≢ at.message → message_at t' m ≡ message_at t m
  pub objects : (k : ℕ) → object_site k ≢ at.bank → object_at t' k ≡ object_at t k

-- ---- storing, in these words

module _ (t : Tables) (at : Places) (left : Seen) (b : Placed at) where
  stored_others : OthersStay t (stored t at left) at
  stored_others =
      record {
        sites = site_after_stored_other t at left;
        passages = passage_after_stored_other t at left;
        visits = λ s p l n.
            visit_after_stored_other t at left s p λ e.
            let w = visit_place_same s p _ _ l b.slot e in n w.0 w.1;
        messages = message_after_stored_other t at left;
        objects = object_after_stored_other t at left;
      }

-- ---- the bridge from an accepted step to what it stores

pub accepted_answer : (a : Answer) → is_accepted a ≡ true → a ≡ Ok (answer_value a)
accepted_answer (Ok v) e = refl
accepted_answer (Err r) e = absurd (false≢true e)

-- a step is accepted only on tables that are in range: number 20 is tried first
pub accepted_in_range : (t : Tables) (step : Step) → is_accepted (step_of t step).answer ≡ true → in_range t ≡ true
unfolding step_of
accepted_in_range t step a = ⊎_elim (λ q. q) (λ q. absurd (false≢true (rw q at a))) (either (in_range t))

flat_head : (t : Tables) (step : Step) → (look_of step).trip ≡ Trip.Nowhere → in_range t ≡ true → step_of t step ≡ head_of t step
unfolding step_of step_in_range_of turns_up_to
flat_head t step f e = rw (e, f)

out_of_range_stays : (t : Tables) (step : Step) → in_range t ≡ false → (step_of t step).tables ≡ t
unfolding step_of
out_of_range_stays t step e = rw e

-- looking at these places, deciding and storing
abbrev head_at : Tables → Step → Places → Outcome
head_at t step at =
    let d : Decision = decide_of step (found_of t at) (seen_of t at) in
    record { answer = d.answer; tables = stored t at d.left }

head_at_places : (t : Tables) (step : Step) → head_of t step ≡ head_at t step (places_of t (look_of step))
unfolding head_of
head_at_places t step = refl

accepted_head :
    (t : Tables) (step : Step) → (look_of step).trip ≡ Trip.Nowhere → is_accepted (step_of t step).answer ≡ true
    → step_of t step ≡ head_at t step (places_of t (look_of step))
accepted_head t step f a = flat_head t step f (accepted_in_range t step a) ∙ head_at_places t step

-- its decision was accepted with the same value
pub accepted_decided :
    (t : Tables) (step : Step) (v : ℕ) → (look_of step).trip ≡ Trip.Nowhere → (step_of t step).answer ≡ Ok v
    → let at : Places = places_of t (look_of step) in
    (decide_of step (found_of t at) (seen_of t at)).answer ≡ Ok v
accepted_decided t step v f a = sym (ap (λ (o : Outcome). o.answer) (accepted_head t step f (ap is_accepted a))) ∙ a

-- the other way round: on tables in range a step answers what its decision at its places answers
pub answered_at_lem :
    (t : Tables) (step : Step) (at : Places) → (look_of step).trip ≡ Trip.Nowhere → in_range t ≡ true → places_of t (look_of step) ≡ at
    → (step_of t step).answer ≡ (decide_of step (found_of t at) (seen_of t at)).answer
answered_at_lem t step at f e p = ap (λ (o : Outcome). o.answer) (flat_head t step f e ∙ head_at_places t step ∙ ap (head_at t step) p)

-- every place but the step's own is as it was, whether it was accepted or refused
pub others_stay : (t : Tables) (step : Step) → (look_of step).trip ≡ Trip.Nowhere → OthersStay t (step_of t step).tables (places_of t (look_of step))
others_stay t step f =
    ⊎_elim
    (λ e.
    subst
    (λ (o : Outcome). OthersStay t o.tables (places_of t (look_of step)))
    (sym (flat_head t step f e ∙ head_at_places t step))
    (stored_others t _ _ (placed_places t (look_of step))))
    (λ e. subst (λ (u : Tables). OthersStay t u (places_of t (look_of step))) (sym (out_of_range_stays t step e)) record {
      sites = λ s n. refl;
      passages = λ p n. refl;
      visits = λ s p l n. refl;
      messages = λ m n. refl;
      objects = λ k n. refl;
    })
    (either (in_range t))

-- an accepted step without turns: it passed these checks, answers this value, and left these records at these places
pub record Done (t t' : Tables) (v : ℕ) (at : Places) (cs : List Check) (result : ℕ) (left : Seen) : Type 0 where
  pub fine : Fine cs
  pub value : v ≡ result
  pub tables : t' ≡ stored t at left
  pub sized : Sized t
  pub placed : Placed at

-- by the checks that it tries, the value that it gives and the records that it leaves, each read off what it saw
pub done_at :
    (t : Tables) (step : Step) (v : ℕ) (at : Places) (checks : Seen → List Check) (result : Seen → ℕ) (left : Seen → Seen)
    → (look_of step).trip ≡ Trip.Nowhere
    → Sized t
    → (step_of t step).answer ≡ Ok v
    → places_of t (look_of step) ≡ at
    → let seen : Seen = seen_of t at in
    decide_of step (found_of t at) seen
    ≡ settle_of (record { answer = first_refusal (checks seen) (result seen); left = left seen }) seen
    → Done t (step_of t step).tables v at (checks (seen_of t at)) (result (seen_of t at)) (left (seen_of t at))
done_at t step v at checks result left f z a p decides =
    let seen : Seen = seen_of t at in
    let d : Decision = record { answer = first_refusal (checks seen) (result seen); left = left seen } in
    let h : step_of t step ≡ head_at t step at = accepted_head t step f (ap is_accepted a) ∙ ap (head_at t step) p in
    let e : d.answer ≡ Ok v =
    sym (ap (λ (x : Decision). x.answer) decides) ∙ sym (ap (λ (o : Outcome). o.answer) h) ∙ a in
    let b : is_accepted d.answer ≡ true = ap is_accepted e in
    record {
      fine = accepted_fine (checks seen) (result seen) b;
      value = ap answer_value (sym e ∙ accepted_value (checks seen) (result seen) b);
      tables =
          ap (λ (o : Outcome). o.tables) h
          ∙ ap (stored t at) (ap (λ (x : Decision). x.left) decides ∙ settle_accepted d seen b);
      sized = z;
      placed = subst Placed p (placed_places t (look_of step));
    }

-- ---- what it left, table by table

same_object : (j k : ℕ) {b : ℕ} → j / 4 ≡ b → k / 4 ≡ b → j % 4 ≡ k % 4 → j ≡ k
same_object j k r q y = omega arith

module _ {t t' : Tables} {v : ℕ} {at : Places} {cs : List Check} {result : ℕ} {left : Seen} (d : Done t t' v at cs result left) where
  pub only_site : OnlySite t t' at.site left.site
  only_site =
      rw d.tables (record { here = site_after_stored t at left d.sized d.placed; others = site_after_stored_other t at left })

  pub only_passage : OnlyPassage t t' at.slot left.passage
  only_passage =
      rw d.tables (record { here = passage_after_stored t at left d.sized d.placed; others = passage_after_stored_other t at left })

  pub only_visit : OnlyVisit t t' at.site at.slot left.visit
  only_visit =
      rw d.tables (record { here = visit_after_stored t at left d.sized d.placed; others = (stored_others t at left d.placed).visits })

  pub only_message : OnlyMessage t t' at.message left.message
  only_message =
      rw d.tables (record { here = message_after_stored t at left d.sized d.placed; others = message_after_stored_other t at left })

  -- each object of the bank changed in one way
  pub only_objects :
      (change : Object → Object)
      → ((i : ℕ) → i < 4 → get_or left.objects i past_object ≡ change (get_or (bank_at t at.bank) i past_object))
      → OnlyObjects t t' at.bank change
  only_objects change f =
      rw
      d.tables
      (record {
        here = λ k e.
            object_after_stored t at left d.sized d.placed k e ∙ f (k % 4) (omega arith)
            ∙ ap change (seen_object t k at.bank e);
        others = object_after_stored_other t at left;
      })

  -- one object of the bank changed
  pub only_object :
      (k : ℕ) (x : Object) → object_site k ≡ at.bank → left.objects ≡ set (bank_at t at.bank) (k % 4) x → OnlyObject t t' k x
  only_object k x s e =
      let q : k / 4 ≡ at.bank = s in
      rw
      d.tables
      (record {
        here =
            object_after_stored t at left d.sized d.placed k s
            ∙ (rw e (get_or-set_same (bank_at t at.bank) (k % 4) x past_object (omega arith)));
        others = λ j n.
            ⊎_elim
            (λ b.
            let r : j / 4 ≡ at.bank = eqb-true _ _ b in
            object_after_stored t at left d.sized d.placed j r
            ∙ (rw e (get_or-set_other (bank_at t at.bank) (k % 4) (j % 4) x past_object (λ y. n (same_object j k r q y))))
            ∙ seen_object t j at.bank r)
            (λ b. object_after_stored_other t at left j (eqb-false _ _ b))
            (either (eqb (object_site j) at.bank));
      })

  -- ---- a table stays whose record was left as it was seen

  pub sites_stay : left.site ≡ site_at t at.site → t'.sites ≡ t.sites
  unfolding stored
  sites_stay s = rw (d.tables, s) (simp set-get_or)

  pub passages_stay : left.passage ≡ passage_at t at.slot → t'.passages ≡ t.passages
  unfolding stored
  passages_stay s = rw (d.tables, s) (simp set-get_or)

  pub visits_stay : left.visit ≡ visit_at t at.site at.slot → t'.visits ≡ t.visits
  unfolding stored
  visits_stay s = rw (d.tables, s) (simp set-get_or)

  pub messages_stay : left.message ≡ message_at t at.message → t'.messages ≡ t.messages
  unfolding stored
  messages_stay s = rw (d.tables, s) (simp set-get_or)

  pub objects_stay : left.objects ≡ bank_at t at.bank → t'.objects ≡ t.objects
  unfolding stored
  objects_stay s = rw (d.tables, s) (simp set-get_or)

  -- the site was up, and its clock moves to c
  pub clock_moves :
      (c : ℕ) → left.site ≡ clock_to (site_at t at.site) c → not (site_at t at.site).up ≡ false → ltb clock_most c ≡ false
      → ClockMoves t t' at.site c
  clock_moves c s u f =
      record { below = d.placed.site; up = not_false _ u; fits = ltb-false _ _ f; site = rw (← s) only_site }
