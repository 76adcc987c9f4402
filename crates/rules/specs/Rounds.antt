-- Steps of a round: 4 refresh, 5 terminate, 6 prepare, 7 ask, 8 close, 9 tell. Assumes nothing.
-- x_checks: the refusals in their order. x_done: the answer and the records. x_of: the same, where a refusal keeps what was seen.
use Rattle.std.specs.Prelude.{ℕ, ◌+◌, ◌%◌, Bool, cond, not, ◌||◌, List, [], ◌∷◌, leb, eqb}
use Rattle.rules.specs.Types.{Object, Kind, Phase, Round, Passage, Visit, Told, Body, Refusal, Check, Seen, Decision}
use Rattle.rules.specs.Limits.{count_most}
use Rattle.rules.specs.Tables.{slot_of}
use Rattle.rules.specs.Answers.{refuse, first_refusal, settle_of}
use Rattle.rules.specs.Parts.{next_clock, is_active, is_running, is_aborted, is_phase_one, is_phase_two, with_phase, where_there, figures_of, has_answered, with_answer, opened_round, is_closed, largest_quiesce, answer_count, asked_of, told_of, asked_visit, asked_status, told_visit, told_objects, told_status, plain_message, with_status, with_round}
use Rattle.rules.specs.Seen.{left_passage, left_visit, left_message, left_objects, at_clock}
use Rattle.rules.specs.Checks.{bad_site, bad_handle, bad_times, no_passage, site_down, visit_missing, clock_full, is_full}

-- ---- 4. refresh h, u=Q, v=R. 5. terminate h. 6. prepare h.
-- "Each opens a round, number one higher, phase 1, and does its phase 1 part at home. Value: round."

-- what the three share: which field is bad and which status is wrong is the step's own. 14: "round number at 1,000"
abbrev pub open_checks : ℕ → Bool → Bool → Seen → List Check
open_checks h bad wrong seen =
    refuse Refusal.BadField bad ∷ no_passage h seen ∷ site_down seen ∷ refuse Refusal.WrongState wrong
    ∷ visit_missing seen
    ∷ clock_full (next_clock seen.site)
    ∷ refuse Refusal.NoRoundLeft (leb count_most seen.passage.round.number)
    ∷ []

-- the home visit after home's own phase 1 part
abbrev pub opened_visit : Kind → ℕ → Seen → Visit
opened_visit k clock seen = asked_visit (asked_of k) (seen.passage.round.number + 1) clock seen.visit

-- the passage with its round open, home's figures kept as its phase 1 part left them, and home answering
abbrev pub opened_passage : Kind → Passage → Visit → Passage
opened_passage k p v =
    with_round
    (with_status p (asked_status (asked_of k) p.status))
    (with_answer (opened_round p.round k) p.home (figures_of v))

-- what opening a round leaves at this clock
abbrev pub opened : Kind → ℕ → Seen → Seen
opened k clock seen =
    left_visit
    (left_passage (at_clock seen clock) (opened_passage k seen.passage (opened_visit k clock seen)))
    (opened_visit k clock seen)

abbrev pub open_done : ℕ → Kind → Bool → Bool → Seen → Decision
open_done h k bad wrong seen =
    record {
      answer = first_refusal (open_checks h bad wrong seen) (seen.passage.round.number + 1);
      left = opened k (next_clock seen.site) seen;
    }

unfoldable pub open_of : ℕ → Kind → Bool → Bool → Seen → Decision
open_of h k bad wrong seen = settle_of (open_done h k bad wrong seen) seen

-- 5: "refresh: not active"
unfoldable pub refresh_of : ℕ → ℕ → ℕ → Seen → Decision
refresh_of h q r seen =
    open_of
    h
    (Kind.Refresh q r)
    (bad_handle h || bad_times q r)
    (not (is_active seen.passage.status))
    seen

-- 5: "terminate: not aborted"
unfoldable pub terminate_of : ℕ → Seen → Decision
terminate_of h seen =
    open_of h Kind.Terminate (bad_handle h) (not (is_aborted seen.passage.status)) seen

-- 5: "prepare ..: neither active nor committing"
unfoldable pub prepare_of : ℕ → Seen → Decision
prepare_of h seen =
    open_of h Kind.Prepare (bad_handle h) (not (is_running seen.passage.status)) seen

-- ---- 7. ask h, a=site not home: a phase 1 message. Value: message slot.

abbrev pub ask_checks : ℕ → ℕ → Seen → List Check
ask_checks h site seen =
    refuse Refusal.BadField (bad_handle h || bad_site site) ∷ no_passage h seen ∷ site_down seen
    ∷ refuse
    Refusal.WrongState
    (not (is_phase_one seen.passage.round.phase) || eqb site seen.passage.home)
    ∷ clock_full (next_clock seen.site)
    ∷ refuse Refusal.Full (is_full seen)
    ∷ []

-- what ask and tell share: a message from home goes into the empty slot, and the clock moves
abbrev pub sent_out : Body → ℕ → ℕ → ℕ → Seen → Seen
sent_out body h site clock seen =
    left_message (at_clock seen clock) (plain_message body seen.passage.home site h clock)

-- "Phase 1 carries number, kind and a refresh's new R"
abbrev pub ask_body : Round → Body
ask_body r = Body.PhaseOne r.number (asked_of r.kind)

abbrev pub ask_done : ℕ → ℕ → ℕ → Seen → Decision
ask_done h site place seen =
    record {
      answer = first_refusal (ask_checks h site seen) place;
      left = sent_out (ask_body seen.passage.round) h site (next_clock seen.site) seen;
    }

unfoldable pub ask_of : ℕ → ℕ → ℕ → Seen → Decision
ask_of h site place seen = settle_of (ask_done h site place seen) seen

-- ---- 8. close h: "if closed, phase 2 begins and its home part is done. Value: sites that have answered, home included."

abbrev pub close_checks : ℕ → Seen → List Check
close_checks h seen =
    refuse Refusal.BadField (bad_handle h) ∷ no_passage h seen ∷ site_down seen
    ∷ refuse Refusal.WrongState (not (is_phase_one seen.passage.round.phase))
    ∷ clock_full (next_clock seen.site)
    ∷ refuse Refusal.NotClosed (not (is_closed seen.passage.round))
    ∷ []

-- what a round tells in its phase 2
abbrev pub round_told : Round → Told
round_told r = told_of r.kind (largest_quiesce r)

abbrev pub closed_passage : Told → Passage → Passage
closed_passage told p = with_round (with_status p (told_status told p.status)) (with_phase p.round Phase.Two)

abbrev pub objects_where_there : Visit → List Object → List Object → List Object
objects_where_there v changed os = cond v.there changed os

-- what a close leaves at this clock, where the round tells this.
-- "a close after the home visit was swept, say": the visit's part, its objects with it, does nothing, and the rest is done
abbrev pub closed : Told → ℕ → ℕ → Seen → Seen
closed told slot clock seen =
    left_objects
    (left_visit
    (left_passage (at_clock seen clock) (closed_passage told seen.passage))
    (where_there seen.visit (told_visit told seen.visit)))
    (objects_where_there seen.visit (told_objects told slot seen.objects) seen.objects)

abbrev pub close_done : ℕ → Seen → Decision
close_done h seen =
    record {
      answer = first_refusal (close_checks h seen) (answer_count seen.passage.round);
      left = closed (round_told seen.passage.round) (slot_of h) (next_clock seen.site) seen;
    }

unfoldable pub close_of : ℕ → Seen → Decision
close_of h seen = settle_of (close_done h seen) seen

-- ---- 9. tell h, a=site not home that answered this round: a phase 2 message. Value: message slot.

-- 5: "tell: phase not 2 or site hasn't answered; ask, tell: the site is home". (A site past 7 is refused by 2 before its bit matters.)
abbrev pub tell_checks : ℕ → ℕ → Seen → List Check
tell_checks h site seen =
    refuse Refusal.BadField (bad_handle h || bad_site site) ∷ no_passage h seen ∷ site_down seen
    ∷ refuse
    Refusal.WrongState
    (not (is_phase_two seen.passage.round.phase) || not (has_answered seen.passage.round (site % 8))
    || eqb site seen.passage.home)
    ∷ clock_full (next_clock seen.site)
    ∷ refuse Refusal.Full (is_full seen)
    ∷ []

-- "phase 2 number, kind and new Q or M"
abbrev pub tell_body : Round → Body
tell_body r = Body.PhaseTwo r.number (round_told r)

abbrev pub tell_done : ℕ → ℕ → ℕ → Seen → Decision
tell_done h site place seen =
    record {
      answer = first_refusal (tell_checks h site seen) place;
      left = sent_out (tell_body seen.passage.round) h site (next_clock seen.site) seen;
    }

unfoldable pub tell_of : ℕ → ℕ → ℕ → Seen → Decision
tell_of h site place seen = settle_of (tell_done h site place seen) seen
