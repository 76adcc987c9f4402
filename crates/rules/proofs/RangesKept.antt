-- Every step keeps the tables in range, so in a run from the start number 20 is never met.
-- A law fits-after-STEP shows the records that an accepted step leaves in range, from the checks that it passed. Assumes nothing.
use Rattle.std.specs.Prelude.{ℕ, zero, suc, ◌+◌, ◌%◌, ◌≤◌, ◌<◌, ◌≡◌, Bool, cond, ◌||◌, List, [], ◌∷◌, Some, None}
use native.Mathlib.Omega.{arith}
use Rattle.std.proofs.Math.Path.{refl}
use Rattle.std.proofs.Common.{sym, ◌∙◌, ⊎_elim}
use Rattle.std.proofs.Math.Bool.{true, false}
use Rattle.std.proofs.Math.Dec.{leb, ltb}
use Rattle.std.proofs.Math.ListN.{get_or}
use borrow.Author.Tests.{leb-true, le-leb, ltb-false}
use Rattle.rules.specs.Types.{Site, Kind, Phase, Call, Asked, Told, Body, Tables, Step, Reading, Refusal, Answer, Check, Trip, Places, Seen, Outcome, Found}
use Rattle.rules.specs.Limits.{clock_most, time_most, count_most}
use Rattle.rules.specs.Loops.{every_up_to}
use Rattle.rules.specs.LoopsLaws.{or_right, not_false, either, cond_keeps}
use Rattle.rules.specs.Tables.{past_object, start}
use Rattle.rules.specs.Ranges.{counts_in_range, kind_in_range, phase_fits, round_in_range, asked_in_range, told_in_range, body_in_range, in_range}
use Rattle.rules.specs.Answers.{is_accepted, first_refusal, settle_of}
use Rattle.rules.specs.AnswersLaws.{Fine, holds_of, accepted_fine}
use Rattle.rules.specs.Parts.{clock_to, next_clock, count_sent, restored, each_of, opened_round, asked_of, asked_visit, with_up}
use Rattle.rules.specs.Seen.{left_site}
use Rattle.rules.specs.Checks.{bad_site, bad_handle, bad_times}
use Rattle.rules.specs.Stations.{tick_of, sweep_of, swept_slot, crash_of, crashed_slot, recover_of}
use Rattle.rules.specs.Passages.{begin_of, abort_of, retire_of}
use Rattle.rules.specs.Rounds.{opened_visit, open_of, refresh_of, terminate_of, prepare_of, sent_out, ask_of, close_of, tell_of}
use Rattle.rules.specs.Calls.{call_site, call_of, invoke_of, mail_clock, mail_slot, empty_of, called_visit, called_object, call_done, deliver_call_of, deliver_phase_one_of, deliver_phase_two_of, deliver_answer_of, deliver_reply_of, deliver_body_of, drop_of}
use Rattle.rules.proofs.FineLaws.{CallFields, call_fields, invoke_count, call_count, open_count}
use Rattle.rules.specs.Machine.{look_of, places_of, seen_of, remains, decide_of, stored, head_of, turn_seen, turn_of, turns_up_to, turn_count, step_in_range_of, step_of, found_of}
use Rattle.rules.specs.StoredLaws.{Placed, turn_stored_lem}
use Rattle.rules.specs.Record.{step_of_record, reading_of, record_in_range_of, step_record_of}
use Rattle.rules.specs.Runs.{Started, run_of, run_records_of}
use Rattle.rules.proofs.RangesLaws.{set_keeps_at, both, neither, SeenInRange, seen_in_range, stored_in_range, placed_places, placed_trip}
use Rattle.rules.proofs.RangesFits.{Counts, RoundFits, PassageFits, VisitFits, CallFits, call_range_says, call_makes, MessageFits, ObjectFits, ObjectsFit, SeenFits, seen_says, seen_makes, times_fit, no_counts_fit, eight_figures_fit, no_round_fits, new_visit_fits, no_visit_fits, no_message_fits, answer_message_fits, let_go_fits, taken_fits, operated_fits, each_fits, told_objects_fit, quieted_fits, asked_visit_fits, told_visit_fits, asked_in_range_lem, round_told_in_range, phase_two_fits, with_answer_fits, aborted_fits}

-- ---- the steps

module _ (seen : Seen) (b : SeenFits seen) where
  -- what is settled fits if what is left where no check holds does
  settled_fits :
      (cs : List Check) (v : ℕ) (left : Seen) → (Fine cs → SeenFits left)
      → SeenFits (settle_of (record { answer = first_refusal cs v; left = left }) seen).left
  settled_fits cs v left f =
      ⊎_elim
      (λ e. rw e (f (accepted_fine cs v e)))
      (λ e. rw e b)
      (either (is_accepted (first_refusal cs v)))

  -- the steps of a station move its clock, and try that it fits
  fits_after_clock :
      (cs : List Check) (v : ℕ) (s : Site) → holds_of Refusal.ClockFull cs ≡ ltb clock_most s.clock
      → SeenFits (settle_of (record { answer = first_refusal cs v; left = left_site seen s }) seen).left
  fits_after_clock cs v s e =
      settled_fits cs v _ λ f.
      let g : ltb clock_most s.clock ≡ false = sym e ∙ f.clock in search (arith, ltb-false)

  fits_after_begin : (home slot q r : ℕ) → SeenFits (begin_of home slot q r seen).left
  unfolding begin_of
  fits_after_begin home slot q r =
      settled_fits _ _ _ λ f.
      neither {a = bad_site home || ltb 15 slot} {b = bad_times q r} f.fields λ e t.
      neither {a = bad_site home} {b = ltb 15 slot} e λ h _.
      let w : (q ≤ time_most) × (r ≤ time_most) = times_fit q r t in
      search (arith, ltb-false, no_round_fits, new_visit_fits)

  fits_after_abort : (h : ℕ) → SeenFits (abort_of h seen).left
  unfolding abort_of
  fits_after_abort h =
      settled_fits _ _ _ (λ f. search (arith, ltb-false, aborted_fits, quieted_fits, cond_keeps VisitFits))

  fits_after_retire : (h : ℕ) (remains : Bool) → SeenFits (retire_of h remains seen).left
  unfolding retire_of
  fits_after_retire h remains = settled_fits _ _ _ (λ f. search (arith, no_round_fits))

  -- what refresh, terminate and prepare share: the round is opened, home's part done and its figures kept
  fits_after_open :
      (h : ℕ) (k : Kind) (bad wrong : Bool) → phase_fits k Phase.One ≡ true
      → (bad ≡ false → kind_in_range k ≡ true)
      → SeenFits (open_of h k bad wrong seen).left
  unfolding open_of
  fits_after_open h k bad wrong p kind =
      settled_fits _ _ _ λ f.
      let n : seen.passage.round.number < count_most = open_count h bad wrong seen f in
      let g : kind_in_range k ≡ true = kind f.fields in
      let v : VisitFits (opened_visit k (next_clock seen.site) seen) =
      asked_visit_fits (asked_of k) _ _ seen.visit (asked_in_range_lem k g) (omega arith) b.visit in
      let r : RoundFits (opened_round seen.passage.round k) = search (arith, eight_figures_fit) in
      search (arith, ltb-false, with_answer_fits)

  fits_after_refresh : (h q r : ℕ) → SeenFits (refresh_of h q r seen).left
  unfolding refresh_of
  fits_after_refresh h q r =
      fits_after_open h (Kind.Refresh q r) (bad_handle h || bad_times q r) _ refl λ e.
      let t : (q ≤ time_most) × (r ≤ time_most) = times_fit q r (or_right (bad_handle h) _ e) in
      rw (le-leb q time_most t.0, le-leb r time_most t.1)

  -- what ask and tell share
  sent_out_fits :
      (body : Body) (h site : ℕ) → (bad_handle h || bad_site site) ≡ false
      → ltb clock_most (next_clock seen.site) ≡ false
      → body_in_range body ≡ true
      → SeenFits (sent_out body h site (next_clock seen.site) seen)
  sent_out_fits body h site e c r =
      neither {a = bad_handle h} {b = bad_site site} e λ f g. search (arith, ltb-false, no_counts_fit)

  fits_after_ask : (h site place : ℕ) → SeenFits (ask_of h site place seen).left
  unfolding ask_of
  fits_after_ask h site place =
      settled_fits _ _ _ λ f.
      sent_out_fits _ h site f.fields f.clock
      (rw (le-leb _ _ b.passage.round.number) (asked_in_range_lem seen.passage.round.kind b.passage.round.kind))

  fits_after_tell : (h site place : ℕ) → SeenFits (tell_of h site place seen).left
  unfolding tell_of
  fits_after_tell h site place =
      settled_fits _ _ _ λ f.
      sent_out_fits _ h site f.fields f.clock
      (rw (le-leb _ _ b.passage.round.number) (round_told_in_range seen.passage.round b.passage.round))

  fits_after_close : (h : ℕ) → SeenFits (close_of h seen).left
  unfolding close_of
  fits_after_close h =
      settled_fits _ _ _ λ f.
      let p : phase_fits seen.passage.round.kind Phase.Two ≡ true =
      phase_two_fits seen.passage.round.kind seen.passage.round.phase b.passage.round.phase (not_false _ f.state) in
      search (arith, ltb-false, told_visit_fits, told_objects_fit, round_told_in_range, cond_keeps VisitFits, cond_keeps ObjectsFit)

  fits_after_invoke : (h site write object value place : ℕ) → SeenFits (invoke_of h site write object value place seen).left
  unfolding invoke_of
  fits_after_invoke h site write object value place =
      settled_fits _ _ _ λ f.
      let n : ltb clock_most (next_clock seen.site) ≡ false = f.clock in
      let k : get_or seen.visit.sent (call_site object) 0 < count_most = invoke_count h site write object value seen f in
      let g : CallFields h site write object value = call_fields h site write object value f.fields in
      let y : bad_handle h ≡ false = g.named in
      let c : Counts (count_sent seen.visit (call_site object)).sent =
      λ d l. set_keeps_at (λ (x : ℕ). x ≤ count_most) seen.visit.sent (call_site object) d _ 0 (b.visit.sent d l) (omega arith) in
      let call : body_in_range (Body.Call (call_of write object value seen.visit)) ≡ true =
      call_makes (call_of write object value seen.visit) (search (arith, ltb-false)) in
      search (arith, ltb-false, no_counts_fit)

  fits_after_drop : (m : ℕ) → SeenFits (drop_of m seen).left
  unfolding drop_of
  fits_after_drop m = settled_fits _ _ _ (λ f. search (arith, no_message_fits))

  fits_after_call : (m : ℕ) (c : Call) → CallFits c → SeenFits (deliver_call_of m c seen).left
  unfolding deliver_call_of
  fits_after_call m c call =
      let visit : VisitFits (called_visit c seen.visit) =
      search (arith, new_visit_fits, cond_keeps VisitFits) in
      settled_fits _ _ _ λ f.
      let k : (called_visit c seen.visit).received < count_most = call_count m c seen f in
      let o : ObjectsFit (call_done m c seen).left.objects =
      λ i.
      set_keeps_at ObjectFits seen.objects (c.object % 4) i _ past_object (b.objects i)
      (operated_fits c _ call.value (taken_fits (mail_slot seen) (called_object c seen) (omega arith) (b.objects (c.object % 4)))) in
      let reply : body_in_range (Body.Reply (called_object c seen).value) ≡ true = le-leb _ _ (b.objects (c.object % 4)).value in
      search (arith, ltb-false, no_counts_fit)

  fits_after_phase_one :
      (m n : ℕ) (asked : Asked) → n ≤ count_most → asked_in_range asked ≡ true
      → SeenFits (deliver_phase_one_of m n asked seen).left
  unfolding deliver_phase_one_of
  fits_after_phase_one m n asked h e =
      let v : VisitFits (asked_visit asked n (mail_clock seen) seen.visit) =
      asked_visit_fits asked n (mail_clock seen) seen.visit e h b.visit in
      settled_fits _ _ _ (λ f. search (cond_keeps PassageFits, arith, ltb-false, no_message_fits, answer_message_fits, cond_keeps MessageFits))

  fits_after_phase_two :
      (m n : ℕ) (told : Told) → told_in_range told ≡ true → SeenFits (deliver_phase_two_of m n told seen).left
  unfolding deliver_phase_two_of
  fits_after_phase_two m n told e =
      settled_fits _ _ _ (λ f. search (cond_keeps PassageFits, arith, ltb-false, told_visit_fits, no_message_fits, told_objects_fit))

  fits_after_answer :
      (m n received q : ℕ) → received ≤ count_most → q ≤ time_most → SeenFits (deliver_answer_of m n received q seen).left
  unfolding deliver_answer_of
  fits_after_answer m n received q h k =
      settled_fits _ _ _ (λ f. search (arith, ltb-false, with_answer_fits, no_message_fits))

  fits_after_deliver : (body : Body) (m : ℕ) → body_in_range body ≡ true → SeenFits (deliver_body_of body m seen).left
  unfolding deliver_body_of empty_of deliver_reply_of
  fits_after_deliver Body.Empty m e = settled_fits _ _ _ (λ f. b)
  fits_after_deliver (Body.Call c) m e = fits_after_call m c (call_range_says c e)
  fits_after_deliver (Body.PhaseOne n asked) m e = both e λ h a. fits_after_phase_one m n asked (leb-true _ _ h) a
  fits_after_deliver (Body.PhaseTwo n told) m e = both {a = leb n count_most} e λ _ d. fits_after_phase_two m n told d
  fits_after_deliver (Body.Answer n received q) m e =
      both e λ e k.
      both {a = leb n count_most} e λ _ r.
      fits_after_answer m n received q (leb-true _ _ r) (leb-true _ _ k)
  fits_after_deliver (Body.Reply value) m e = settled_fits _ _ _ (λ f. search (arith, ltb-false, no_message_fits))

  fits_after_decided : (step : Step) (found : Found) → SeenFits (decide_of step found seen).left
  unfolding decide_of tick_of sweep_of crash_of recover_of terminate_of prepare_of
  fits_after_decided (Step.Tick site n) found = fits_after_clock _ _ (clock_to seen.site (seen.site.clock + n)) refl
  fits_after_decided (Step.Begin home slot q r) found = fits_after_begin home slot q r
  fits_after_decided (Step.Invoke h site write object value) found = fits_after_invoke h site write object value found.place
  fits_after_decided (Step.Refresh h q r) found = fits_after_refresh h q r
  fits_after_decided (Step.Terminate h) found = fits_after_open h Kind.Terminate _ _ refl (λ e. refl)
  fits_after_decided (Step.Prepare h) found = fits_after_open h Kind.Prepare _ _ refl (λ e. refl)
  fits_after_decided (Step.Ask h site) found = fits_after_ask h site found.place
  fits_after_decided (Step.Close h) found = fits_after_close h
  fits_after_decided (Step.Tell h site) found = fits_after_tell h site found.place
  fits_after_decided (Step.Abort h) found = fits_after_abort h
  fits_after_decided (Step.Deliver m) found = fits_after_deliver seen.message.body m b.message.body
  fits_after_decided (Step.Drop m) found = fits_after_drop m
  fits_after_decided (Step.Sweep site) found = fits_after_clock _ _ (clock_to seen.site (next_clock seen.site)) refl
  fits_after_decided (Step.Crash site) found = fits_after_clock _ _ (with_up (clock_to seen.site (next_clock seen.site)) false) refl
  fits_after_decided (Step.Recover site) found = fits_after_clock _ _ (with_up (clock_to seen.site (next_clock seen.site)) true) refl
  fits_after_decided (Step.Retire h) found = fits_after_retire h found.remains

  fits_after_swept : (site slot : ℕ) → SeenFits (swept_slot site slot seen)
  unfolding swept_slot
  fits_after_swept site slot =
      let o : ObjectsFit (each_of (restored slot) seen.objects) =
      each_fits (restored slot) (λ o f. let_go_fits slot o.before o f.before f) seen.objects b.objects in
      search (arith, aborted_fits, no_visit_fits, cond_keeps PassageFits, cond_keeps SeenFits)

  fits_after_crashed : (site slot : ℕ) → SeenFits (crashed_slot site slot seen)
  unfolding crashed_slot
  fits_after_crashed site slot =
      search (arith, aborted_fits, quieted_fits, cond_keeps PassageFits, cond_keeps VisitFits)

-- ---- what is seen stays in range

pub decided_in_range :
    (step : Step) (found : Found) (seen : Seen) → SeenInRange seen
    → SeenInRange (decide_of step found seen).left
decided_in_range step found seen r =
    seen_makes _ (fits_after_decided seen (seen_says seen r) step found)

pub turned_in_range : (trip : Trip) (slot : ℕ) (seen : Seen) → SeenInRange seen → SeenInRange (turn_seen trip slot seen)
turned_in_range Trip.Nowhere slot seen r = r
turned_in_range (Trip.Sweep site) slot seen r = seen_makes _ (fits_after_swept seen (seen_says seen r) site slot)
turned_in_range (Trip.Crash site) slot seen r = seen_makes _ (fits_after_crashed seen (seen_says seen r) site slot)

-- ---- the tables stay in range: a step's head, then the turns of a sweep or a crash

-- a change of what is seen that keeps its range keeps the tables in range
in_range_after_change :
    (t : Tables) (at : Places) (f : Seen → Seen) → ((seen : Seen) → SeenInRange seen → SeenInRange (f seen))
    → Placed at
    → in_range t ≡ true
    → in_range (stored t at (f (seen_of t at))) ≡ true
in_range_after_change t at f k h e = stored_in_range t at _ e (k (seen_of t at) (seen_in_range t at e h))

in_range_after_head : (t : Tables) (step : Step) → in_range t ≡ true → in_range (head_of t step).tables ≡ true
unfolding head_of
in_range_after_head t step e =
    let at : Places = places_of t (look_of step) in
    in_range_after_change
    t
    at
    (λ seen. (decide_of step (found_of t at) seen).left)
    (decided_in_range step (found_of t at))
    (placed_places t (look_of step))
    e

in_range_after_turn :
    (trip : Trip) (slot : ℕ) (o : Outcome) → slot < 16 → in_range o.tables ≡ true
    → in_range (turn_of trip slot o).tables ≡ true
in_range_after_turn trip slot o h e =
    rw
    (turn_stored_lem trip slot o)
    (in_range_after_change _ _ (turn_seen trip slot) (turned_in_range trip slot) (placed_trip trip slot h) e)

in_range_after_turns :
    (trip : Trip) (o : Outcome) (n : ℕ) → n ≤ 16 → in_range o.tables ≡ true
    → in_range (turns_up_to trip o n).tables ≡ true
unfolding turns_up_to
in_range_after_turns trip o zero h e = e
in_range_after_turns trip o (suc n) h e =
    in_range_after_turn trip n (turns_up_to trip o n) h (in_range_after_turns trip o n (omega arith) e)

sixteen_or_none : (b : Bool) → cond b 16 0 ≤ 16
sixteen_or_none true = omega arith
sixteen_or_none false = omega arith

-- a trip has at most sixteen turns
pub turn_count_most : (trip : Trip) (a : Answer) → turn_count trip a ≤ 16
turn_count_most Trip.Nowhere a = omega arith
turn_count_most (Trip.Sweep site) a = sixteen_or_none (is_accepted a)
turn_count_most (Trip.Crash site) a = sixteen_or_none (is_accepted a)

pub in_range_after_step : (t : Tables) (step : Step) → in_range t ≡ true → in_range (step_in_range_of t step).tables ≡ true
unfolding step_in_range_of
in_range_after_step t step e =
    in_range_after_turns
    (look_of step).trip
    (head_of t step)
    _
    (turn_count_most (look_of step).trip _)
    (in_range_after_head t step e)

in_range_after_reading : (t : Tables) (r : Reading) → in_range t ≡ true → in_range (reading_of t r).tables ≡ true
in_range_after_reading t None e = e
in_range_after_reading t (Some step) e = in_range_after_step t step e

pub in_range_after_record : (t : Tables) (b : List ℕ) → in_range t ≡ true → in_range (record_in_range_of t b).tables ≡ true
unfolding record_in_range_of
in_range_after_record t b e = in_range_after_reading t (step_of_record b) e

-- ---- and so in every run

pub start_in_range : in_range start ≡ true
unfolding start every_up_to counts_in_range round_in_range in_range
start_in_range = refl

pub in_range_after_steps : (t : Tables) (ss : List Step) → in_range t ≡ true → in_range (run_of t ss) ≡ true
unfolding run_of step_of
in_range_after_steps t [] e = e
in_range_after_steps t (s ∷ ss) e =
    in_range_after_steps (step_of t s).tables ss (rw e (in_range_after_step t s e))

pub in_range_after_records : (t : Tables) (rs : List (List ℕ)) → in_range t ≡ true → in_range (run_records_of t rs) ≡ true
unfolding run_records_of step_record_of
in_range_after_records t [] e = e
in_range_after_records t (r ∷ rs) e =
    in_range_after_records (step_record_of t r).tables rs (rw e (in_range_after_record t r e))

pub in_range_started : {t : Tables} → Started t → in_range t ≡ true
in_range_started fresh = rw fresh.empty start_in_range

-- number 20 is never met in a run from the start
pub in_range_run : {t : Tables} → Started t → (ss : List Step) → in_range (run_of t ss) ≡ true
in_range_run {t} fresh ss = in_range_after_steps t ss (in_range_started fresh)

pub in_range_run_records : {t : Tables} → Started t → (rs : List (List ℕ)) → in_range (run_records_of t rs) ≡ true
in_range_run_records {t} fresh rs = in_range_after_records t rs (in_range_started fresh)
