-- Steps of messages: 3 invoke, 11 deliver, 12 drop. Assumes nothing.
-- x_checks: the refusals in their order. x_done: the answer and the records. x_of: the same, where a refusal keeps what was seen.
use Rattle.std.specs.Prelude.{ℕ, ◌%◌, Bool, cond, not, ◌&&◌, ◌||◌, List, [], ◌∷◌, leb, ltb, eqb, get_or, set}
use Rattle.rules.specs.Types.{Object, Figures, Status, Passage, Visit, Call, Asked, Told, Body, Message, Refusal, Answer, Check, Seen, Decision}
use Rattle.rules.specs.Limits.{width_most, count_most, object_most}
use Rattle.rules.specs.Tables.{object_site, slot_of, past_object, no_message}
use Rattle.rules.specs.Answers.{refuse, first_refusal, settle_of}
use Rattle.rules.specs.Parts.{next_clock, delivery_clock, is_free, is_phase_one, with_status, with_round, new_visit, count_sent, count_received, is_held_by_other, taken, operated, with_answer, asked_visit, asked_status, told_visit, told_objects, told_status, asks_life, tells_life, plain_message, answer_message}
use Rattle.rules.specs.Seen.{left_passage, left_visit, left_message, left_objects, at_clock}
use Rattle.rules.specs.Checks.{bad_site, bad_handle, bad_message, no_passage, no_mail, site_down, visit_missing, clock_full, is_full}

-- ---- 3. invoke h, a=site, b=0 read or 1 write, c=object, u=value (0 for read). Value: message slot.

-- "the object's site". (An object past 31 is refused by 2 before its site matters.)
abbrev pub call_site : ℕ → ℕ
call_site object = object_site object % 8

-- 2: "a field .. out of range, read with u not 0"
abbrev pub bad_call : ℕ → ℕ → ℕ → ℕ → ℕ → Bool
bad_call h site write object value =
    bad_handle h || bad_site site || ltb 1 write || ltb object_most object || ltb width_most value
    || (eqb write 0 && not (eqb value 0))

-- 13: "call count at 1,000", of the calls sent to the object's site by the visit at the acting site
abbrev pub is_sent_out : ℕ → Visit → Bool
is_sent_out object v = leb count_most (get_or v.sent (call_site object) 0)

-- 8: "invoke ..: clock ≥ Q ..; invoke ..: visit dead". 11: "no empty message slot"; 13 stands "after 11, so a full table is named first"
abbrev pub invoke_checks : ℕ → ℕ → ℕ → ℕ → ℕ → Seen → List Check
invoke_checks h site write object value seen =
    refuse Refusal.BadField (bad_call h site write object value) ∷ no_passage h seen ∷ site_down seen
    ∷ visit_missing seen
    ∷ clock_full (next_clock seen.site)
    ∷ refuse
    Refusal.Quiesced
    (leb seen.visit.quiesce (next_clock seen.site) || seen.visit.dead)
    ∷ refuse Refusal.Full (is_full seen)
    ∷ refuse Refusal.NoCallLeft (is_sent_out object seen.visit)
    ∷ []

-- "a call goes out with the visit's Q, R and round"
abbrev pub call_of : ℕ → ℕ → ℕ → Visit → Call
call_of write object value v =
    record {
      quiesce = v.quiesce;
      release = v.release;
      round = v.round;
      object = object;
      write = eqb write 1;
      value = value;
    }

-- what an invoke leaves at this clock, for this call
abbrev pub invoked : ℕ → ℕ → Call → ℕ → Seen → Seen
invoked h site call clock seen =
    left_message
    (left_visit (at_clock seen clock) (count_sent seen.visit (call_site call.object)))
    (plain_message (Body.Call call) site (call_site call.object) h clock)

abbrev pub invoke_done : ℕ → ℕ → ℕ → ℕ → ℕ → ℕ → Seen → Decision
invoke_done h site write object value place seen =
    record {
      answer = first_refusal (invoke_checks h site write object value seen) place;
      left =
          invoked h site (call_of write object value seen.visit) (next_clock seen.site) seen;
    }

unfoldable pub invoke_of : ℕ → ℕ → ℕ → ℕ → ℕ → ℕ → Seen → Decision
invoke_of h site write object value place seen =
    settle_of (invoke_done h site write object value place seen) seen

-- ---- 11. deliver c=message. "After 20, 1 and 2, deliver tries 3, 4, 6, 7, 8, 9, 10, 11." Since request a its last is 13.
-- The clock moves to 1 + max(clock, stamp); "handle (only its slot is looked at)".

abbrev pub mail_clock : Seen → ℕ
mail_clock seen = delivery_clock seen.site seen.message

abbrev pub mail_slot : Seen → ℕ
mail_slot seen = slot_of seen.message.handle

-- is the message delivered at its passage's own home? (In a run only answers, calls and replies are.)
abbrev pub at_home : Seen → Bool
at_home seen = eqb seen.message.destination seen.passage.home

-- an empty slot: 2, then 3
abbrev pub empty_done : ℕ → Seen → Decision
empty_done m seen =
    record {
      answer = first_refusal (refuse Refusal.BadField (bad_message m) ∷ no_mail seen ∷ []) 0;
      left = seen;
    }

unfoldable pub empty_of : ℕ → Seen → Decision
empty_of m seen = settle_of (empty_done m seen) seen

-- "Delivered call. With a visit: its own Q, R and round stay. Without: one is made from the message's Q, R and round, no calls sent, no marks."
abbrev pub called_visit : Call → Visit → Visit
called_visit c v = cond v.there v (new_visit c.quiesce c.release c.round)

-- the object that the call is for, among the four of its site
abbrev pub called_object : Call → Seen → Object
called_object c seen = get_or seen.objects (c.object % 4) past_object

-- 8: "delivered call: clock ≥ Q (.. the visit's, else the message's) ..: visit dead". 10: "object held by another passage". 13: "call count at 1,000", of the calls received
abbrev pub call_checks : ℕ → Call → Seen → List Check
call_checks m c seen =
    refuse Refusal.BadField (bad_message m) ∷ site_down seen ∷ clock_full (mail_clock seen)
    ∷ refuse
    Refusal.Quiesced
    (leb (called_visit c seen.visit).quiesce (mail_clock seen)
    || (called_visit c seen.visit).dead)
    ∷ refuse Refusal.Held (is_held_by_other (mail_slot seen) (called_object c seen))
    ∷ refuse Refusal.NoCallLeft (leb count_most (called_visit c seen.visit).received)
    ∷ []

-- Request c: "A delivered call leaves a reply in its slot, addressed to the calling site": with "the object's value before the operation".
-- "Replies carry no quiesce or release time": of the call its handle stays, and its two sites change places.
abbrev pub reply_to : Call → ℕ → Seen → Message
reply_to c clock seen =
    plain_message
    (Body.Reply (called_object c seen).value)
    seen.message.destination
    seen.message.source
    seen.message.handle
    clock

-- "Received grows by 1. The object is taken if unheld, then read or written."
abbrev pub called : Call → ℕ → Seen → Seen
called c clock seen =
    left_objects
    (left_message
    (left_visit (at_clock seen clock) (count_received (called_visit c seen.visit)))
    (reply_to c clock seen))
    (set seen.objects (c.object % 4) (operated c (taken (mail_slot seen) (called_object c seen))))

-- Request c: "The operation delivery's value becomes 0."
abbrev pub call_done : ℕ → Call → Seen → Decision
call_done m c seen =
    record {
      answer = first_refusal (call_checks m c seen) 0;
      left = called c (mail_clock seen) seen;
    }

unfoldable pub deliver_call_of : ℕ → Call → Seen → Decision
deliver_call_of m c seen = settle_of (call_done m c seen) seen

-- Request c: "Refusals: none new; a reply to a down site is 4." No visit is needed, and no time is looked at.
abbrev pub reply_checks : ℕ → Seen → List Check
reply_checks m seen =
    refuse Refusal.BadField (bad_message m) ∷ site_down seen ∷ clock_full (mail_clock seen) ∷ []

-- a reply is collected: it moves the clock of the calling site, and its slot is emptied
abbrev pub collected : ℕ → Seen → Seen
collected clock seen = left_message (at_clock seen clock) no_message

-- Request c: "delivering that gives the value and moves the clock"
abbrev pub reply_done : ℕ → ℕ → Seen → Decision
reply_done m value seen =
    record {
      answer = first_refusal (reply_checks m seen) value;
      left = collected (mail_clock seen) seen;
    }

unfoldable pub deliver_reply_of : ℕ → ℕ → Seen → Decision
deliver_reply_of m value seen = settle_of (reply_done m value seen) seen

-- what a delivered phase 1 or phase 2 message tries. 8: "delivered refresh or prepare message of either phase: visit dead"
abbrev pub round_checks : ℕ → Bool → Bool → ℕ → Seen → List Check
round_checks m life wrong clock seen =
    refuse Refusal.BadField (bad_message m) ∷ site_down seen ∷ visit_missing seen
    ∷ clock_full clock
    ∷ refuse Refusal.Quiesced (life && seen.visit.dead)
    ∷ refuse Refusal.WrongRound wrong
    ∷ []

-- the answer that these checks give at this clock
abbrev pub round_answer : ℕ → Bool → Bool → ℕ → Seen → Answer
round_answer m life wrong clock seen = first_refusal (round_checks m life wrong clock seen) 0

-- the passage after a phase 1 or phase 2 message: at home it takes the status that the message's part gives
abbrev pub status_at_home : Status → Seen → Passage
status_at_home s seen = cond (at_home seen) (with_status seen.passage s) seen.passage

-- "Away from home the message's slot then holds the answer, sent back to home"
abbrev pub answer_back : Visit → ℕ → Seen → Message
answer_back v clock seen =
    cond
    (at_home seen)
    no_message
    (answer_message
    v
    seen.message.destination
    seen.passage.home
    seen.message.handle
    clock)

abbrev pub asked_at : ℕ → Asked → ℕ → Seen → Seen
asked_at n asked clock seen =
    left_message
    (left_visit
    (left_passage (at_clock seen clock) (status_at_home (asked_status asked seen.passage.status) seen))
    (asked_visit asked n clock seen.visit))
    (answer_back (asked_visit asked n clock seen.visit) clock seen)

-- 9: "delivered phase 1: number ≤ the visit's"
abbrev pub phase_one_done : ℕ → ℕ → Asked → Seen → Decision
phase_one_done m n asked seen =
    record {
      answer = round_answer m (asks_life asked) (leb n seen.visit.round) (mail_clock seen) seen;
      left = asked_at n asked (mail_clock seen) seen;
    }

unfoldable pub deliver_phase_one_of : ℕ → ℕ → Asked → Seen → Decision
deliver_phase_one_of m n asked seen = settle_of (phase_one_done m n asked seen) seen

abbrev pub told_at : Told → ℕ → Seen → Seen
told_at told clock seen =
    left_objects
    (left_message
    (left_visit
    (left_passage (at_clock seen clock) (status_at_home (told_status told seen.passage.status) seen))
    (told_visit told seen.visit))
    no_message)
    (told_objects told (mail_slot seen) seen.objects)

-- 9: "phase 2: not equal"
abbrev pub phase_two_done : ℕ → ℕ → Told → Seen → Decision
phase_two_done m n told seen =
    record {
      answer = round_answer m (tells_life told) (not (eqb n seen.visit.round)) (mail_clock seen) seen;
      left = told_at told (mail_clock seen) seen;
    }

unfoldable pub deliver_phase_two_of : ℕ → ℕ → Told → Seen → Decision
deliver_phase_two_of m n told seen = settle_of (phase_two_done m n told seen) seen

-- 9: "answer: not the open round in phase 1"; a free slot has none. "each answer under its source over any there"
abbrev pub answer_checks : ℕ → ℕ → Seen → List Check
answer_checks m n seen =
    refuse Refusal.BadField (bad_message m) ∷ site_down seen ∷ clock_full (mail_clock seen)
    ∷ refuse
    Refusal.WrongRound
    (is_free seen.passage.status || not (is_phase_one seen.passage.round.phase)
    || not (eqb n seen.passage.round.number))
    ∷ []

abbrev pub answered_at : Figures → ℕ → Seen → Seen
answered_at f clock seen =
    left_message
    (left_passage
    (at_clock seen clock)
    (with_round seen.passage (with_answer seen.passage.round seen.message.source f)))
    no_message

abbrev pub answer_done : ℕ → ℕ → ℕ → ℕ → Seen → Decision
answer_done m n received q seen =
    record {
      answer = first_refusal (answer_checks m n seen) 0;
      left =
          answered_at
          (record { sent = seen.message.sent; received = received; quiesce = q })
          (mail_clock seen)
          seen;
    }

unfoldable pub deliver_answer_of : ℕ → ℕ → ℕ → ℕ → Seen → Decision
deliver_answer_of m n received q seen = settle_of (answer_done m n received q seen) seen

-- by what the message slot holds
unfoldable pub deliver_body_of : Body → ℕ → Seen → Decision
deliver_body_of Body.Empty m seen = empty_of m seen
deliver_body_of (Body.Call c) m seen = deliver_call_of m c seen
deliver_body_of (Body.PhaseOne n asked) m seen = deliver_phase_one_of m n asked seen
deliver_body_of (Body.PhaseTwo n told) m seen = deliver_phase_two_of m n told seen
deliver_body_of (Body.Answer n received q) m seen = deliver_answer_of m n received q seen
deliver_body_of (Body.Reply value) m seen = deliver_reply_of m value seen

abbrev pub deliver_of : ℕ → Seen → Decision
deliver_of m seen = deliver_body_of seen.message.body m seen

-- ---- 12. drop c=message: it is lost. Acts at no site.

abbrev pub drop_checks : ℕ → Seen → List Check
drop_checks m seen = refuse Refusal.BadField (bad_message m) ∷ no_mail seen ∷ []

abbrev pub lost : Seen → Seen
lost seen = left_message seen no_message

abbrev pub drop_done : ℕ → Seen → Decision
drop_done m seen = record { answer = first_refusal (drop_checks m seen) 0; left = lost seen }

unfoldable pub drop_of : ℕ → Seen → Decision
drop_of m seen = settle_of (drop_done m seen) seen
