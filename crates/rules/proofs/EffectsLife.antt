-- What an accepted begin, abort and retire needed and left. Assumes nothing.
use Rattle.std.specs.Prelude.{ℕ, ◌%◌, ◌≤◌, ◌<◌, ◌≡◌, true, false, ◌||◌, ltb, Ok}
use Rattle.std.proofs.Common.{arith, ap, ◌∙◌, ltb-false, leb-false, le-ltb, eq-eqb}
use Rattle.std.proofs.Math.Path.{refl}
use Rattle.rules.specs.Types.{Passage, Tables, Step, MailAt, Places}
use Rattle.rules.specs.Limits.{clock_most, time_most}
use Rattle.rules.specs.Loops.{some_up_to}
use Rattle.rules.specs.LoopsLaws.{not_false, some_none}
use Rattle.rules.specs.Tables.{site_at, passage_at, visit_at, message_at, handle_of, slot_of, generation_of, free_slot}
use Rattle.rules.specs.Ranges.{in_range}
use Rattle.rules.specs.Answers.{is_accepted, first_refusal}
use Rattle.rules.specs.Parts.{next_clock, is_free, is_running, is_over, aborted_passage, where_there, quieted, new_visit}
use Rattle.rules.specs.Checks.{bad_site, bad_times}
use Rattle.rules.specs.Passages.{begin_checks, begun_passage, begun, begin_of, abort_checks, aborted, abort_of, retire_checks, next_generation, retired, retire_of}
use Rattle.rules.specs.Machine.{look_of, places_of, seen_of, is_message_of, remains, decide_of, step_of}
use Rattle.rules.specs.StoredLaws.{Sized}
use Rattle.rules.proofs.RangesLaws.{neither}
use Rattle.rules.proofs.EffectsLaws.{OnlyPassage, OnlyVisit, ClockMoves, accepted_in_range, answered_at_lem, Done, done_at, only_passage, only_visit, sites_stay, visits_stay, messages_stay, objects_stay, clock_moves}
use Rattle.rules.proofs.EffectsPlaces.{home_places, given_places, InUse, in_use}

-- ---- 2. begin

pub record Begun (t t' : Tables) (home slot q r v : ℕ) : Type 0 where
  pub below : slot < 16
  pub ordered : q ≤ r
  pub fits : r ≤ time_most
  pub free : is_free (passage_at t slot).status ≡ true
  pub early : next_clock (site_at t home) < q
  pub value : v ≡ handle_of slot (passage_at t slot).generation
  -- the handle names the slot and its generation
  pub names : slot_of v ≡ slot
  pub generation : generation_of v ≡ (passage_at t slot).generation
  pub clock : ClockMoves t t' home (next_clock (site_at t home))
  pub passage : OnlyPassage t t' slot (begun_passage home (passage_at t slot))
  pub visit : OnlyVisit t t' home slot (new_visit q r 0)
  pub messages : t'.messages ≡ t.messages
  pub objects : t'.objects ≡ t.objects

module _ (t : Tables) (home slot q r v : ℕ) (z : Sized t) (a : (step_of t (Step.Begin home slot q r)).answer ≡ Ok v) where
  begin_done_lem :
      (at : Places) → places_of t (look_of (Step.Begin home slot q r)) ≡ at
      → Done t (step_of t (Step.Begin home slot q r)).tables v at (begin_checks home slot q r (seen_of t at))
      (handle_of slot (passage_at t at.slot).generation)
      (begun home q r (next_clock (site_at t at.site)) (seen_of t at))
  unfolding decide_of begin_of
  begin_done_lem at p =
      done_at t (Step.Begin home slot q r) v at (begin_checks home slot q r) (λ seen. handle_of slot seen.passage.generation)
      (λ seen. begun home q r (next_clock seen.site) seen) refl z a p refl

  begin_places :
      home < 8 → slot < 16
      → places_of t (look_of (Step.Begin home slot q r)) ≡ record { site = home; slot = slot; bank = home; message = 0 }
  begin_places h s =
      let i : slot % 16 ≡ slot = omega arith in given_places t MailAt.Nowhere slot home h ∙ (rw i)

  pub begin_effects : Begun t (step_of t (Step.Begin home slot q r)).tables home slot q r v
  begin_effects =
      neither {a = bad_site home || ltb 15 slot} {b = bad_times q r} (begin_done_lem _ refl).fine.fields λ e w.
      neither {a = bad_site home} {b = ltb 15 slot} e λ h s.
      neither {a = ltb time_most q || ltb time_most r} {b = ltb r q} w λ w o.
      neither {a = ltb time_most q} {b = ltb time_most r} w λ _ g.
      let below : slot < 16 = omega (arith, ltb-false) in
      let d = begin_done_lem _ (begin_places (omega (arith, ltb-false)) below) in
      let value : v ≡ handle_of slot (passage_at t slot).generation = d.value in
      record {
        below = below;
        ordered = ltb-false _ _ o;
        fits = ltb-false _ _ g;
        free = not_false _ d.fine.state;
        early = leb-false _ _ d.fine.early;
        value = value;
        names = omega arith;
        generation = omega arith;
        clock = clock_moves d _ refl d.fine.up d.fine.clock;
        passage = only_passage d;
        visit = only_visit d;
        messages = messages_stay d refl;
        objects = objects_stay d refl;
      }

-- ---- 10. abort: the passage that the handle's slot holds, in use, is p

pub record Aborted (t t' : Tables) (h slot : ℕ) (p : Passage) (v : ℕ) : Type 0 where
  pub names : InUse h p
  pub running : is_running p.status ≡ true
  pub value : v ≡ 0
  pub clock : ClockMoves t t' p.home (next_clock (site_at t p.home))
  pub passage : OnlyPassage t t' slot (aborted_passage p)
  pub visit :
      OnlyVisit t t' p.home slot
      (where_there (visit_at t p.home slot)
      (quieted (visit_at t p.home slot) (next_clock (site_at t p.home)) false (visit_at t p.home slot).dead))
  pub messages : t'.messages ≡ t.messages
  pub objects : t'.objects ≡ t.objects

pub abort_effects :
    (t : Tables) (h v : ℕ) → Sized t → (step_of t (Step.Abort h)).answer ≡ Ok v
    → Aborted t (step_of t (Step.Abort h)).tables h (slot_of h) (passage_at t (slot_of h)) v
unfolding decide_of abort_of
abort_effects t h v z a =
    let p = home_places t MailAt.Nowhere h (accepted_in_range t (Step.Abort h) (ap is_accepted a)) in
    let d =
    done_at t (Step.Abort h) v _ (abort_checks h) (λ seen. 0) (λ seen. aborted (next_clock seen.site) seen) refl z a p refl in
    record {
      names = in_use h _ d.fine.fields d.fine.found;
      running = not_false _ d.fine.state;
      value = d.value;
      clock = clock_moves d _ refl d.fine.up d.fine.clock;
      passage = only_passage d;
      visit = only_visit d;
      messages = messages_stay d refl;
      objects = objects_stay d refl;
    }

-- a running passage can be aborted wherever its home is up and has a clock that may move
pub abort_accepted :
    (t : Tables) (h : ℕ) → in_range t ≡ true → InUse h (passage_at t (slot_of h)) → is_running (passage_at t (slot_of h)).status ≡ true
    → (site_at t (passage_at t (slot_of h)).home).up ≡ true
    → next_clock (site_at t (passage_at t (slot_of h)).home) ≤ clock_most
    → (step_of t (Step.Abort h)).answer ≡ Ok 0
unfolding decide_of abort_of first_refusal
abort_accepted t h e n runs up fits =
    answered_at_lem t (Step.Abort h) _ refl e (home_places t MailAt.Nowhere h e)
    ∙ (rw (le-ltb _ _ n.handle, n.used, eq-eqb _ _ n.generation, up, runs, le-ltb _ _ fits))

-- ---- 16. retire

pub record Retired (t t' : Tables) (h slot : ℕ) (p : Passage) (v : ℕ) : Type 0 where
  pub names : InUse h p
  pub over : is_over p.status ≡ true
  -- no visit and no message of it remained
  pub no_visit_lem : (s : ℕ) → s < 8 → (visit_at t s slot).there ≡ false
  pub no_message_lem : (m : ℕ) → m < 32 → is_message_of slot (message_at t m) ≡ false
  pub value : v ≡ 0
  pub sites : t'.sites ≡ t.sites
  pub passage : OnlyPassage t t' slot (free_slot (next_generation p.generation))
  pub visits : t'.visits ≡ t.visits
  pub messages : t'.messages ≡ t.messages
  pub objects : t'.objects ≡ t.objects

pub retire_effects :
    (t : Tables) (h v : ℕ) → Sized t → (step_of t (Step.Retire h)).answer ≡ Ok v
    → Retired t (step_of t (Step.Retire h)).tables h (slot_of h) (passage_at t (slot_of h)) v
unfolding decide_of retire_of remains
retire_effects t h v z a =
    let p = home_places t MailAt.Nowhere h (accepted_in_range t (Step.Retire h) (ap is_accepted a)) in
    let d = done_at t (Step.Retire h) v _ (retire_checks h (remains t (slot_of h))) (λ seen. 0) retired refl z a p refl in
    neither d.fine.state λ o r.
    neither {a = some_up_to (λ s. (visit_at t s (slot_of h)).there) 8} r λ s m.
    record {
      names = in_use h _ d.fine.fields d.fine.found;
      over = not_false _ o;
      no_visit_lem = some_none _ 8 s;
      no_message_lem = some_none _ 32 m;
      value = d.value;
      sites = sites_stay d refl;
      passage = only_passage d;
      visits = visits_stay d refl;
      messages = messages_stay d refl;
      objects = objects_stay d refl;
    }
