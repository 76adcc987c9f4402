-- Deliver keeps the invariant: an accepted one is a fitting store, whatever the message. Assumes nothing.
use Rattle.std.specs.Prelude.{ℕ, ◌<◌, ◌≤◌, ◌≡◌, ◌≢◌, true, false, not, ◌||◌, eqb, leb}
use native.Mathlib.Omega.{arith}
use Rattle.std.proofs.Math.Path.{refl}
use Rattle.std.proofs.Common.{sym, ap, ◌∙◌, subst, inl, inr, true≢false, leb-false, eqb-true, ne_eqb}
use Rattle.rules.specs.LoopsLaws.{or_left, or_right, not_false}
use Rattle.rules.specs.Tables.{site_at, passage_at, visit_at, message_at, no_message, slot_of}
use Rattle.rules.specs.Parts.{is_free, is_phase_one, is_empty, clock_to, count_received, with_status, with_round, with_answer, asked_visit, told_visit, plain_message, answer_message, asks_life, tells_life, asked_status, told_status}
use Rattle.rules.specs.Ranges.{in_range}
use Rattle.rules.specs.Answers.{is_accepted}
use Rattle.rules.specs.Calls.{mail_clock, called_visit, called_object, call_checks, reply_to, call_done, reply_done, round_checks, at_home, answer_back, phase_one_done, phase_two_done, answer_checks, answer_done, empty_of, deliver_call_of, deliver_phase_one_of, deliver_phase_two_of, deliver_answer_of, deliver_reply_of, deliver_body_of, deliver_of}
use Rattle.rules.specs.Machine.{look_of, places_of, seen_of}
use Rattle.rules.specs.AnswersLaws.{Fine, accepted_fine}
use Rattle.rules.proofs.RangesLaws.{seen_in_range, placed_places}
use Rattle.rules.proofs.RangesFits.{seen_says}
use Rattle.runs.specs.Types.{Passage, Visit, Call, Asked, Told, Body, Message, Tables, Step, Places, Seen}
use Rattle.runs.proofs.Walk.Plain.{when_false}
use Rattle.runs.specs.Times.View.{View, Ledger, mail_of, view_of}
use Rattle.runs.specs.Times.Clauses.{sent_figures}
use Rattle.runs.proofs.Times.Store.{Fitting, fitting_after_settled, own_mail, own_body, back_own}
use Rattle.runs.proofs.Fits.Shared.{not_free}
use Rattle.runs.proofs.Fits.Stations.{fitting_after_emptied}
use Rattle.runs.proofs.Kept.Deliver.{LandedAt, call_lands, one_lands, one_away, two_lands, two_away, answer_lands}

-- ---- a delivery at these places: the message's own slot and its destination

module _ (t : Tables) (at : Places) (m : ℕ) (own : slot_of (message_at t at.message).handle ≡ at.slot)
    (here : at.site ≡ (message_at t at.message).destination) (kin : at.message < 32) where
  abbrev seen : Seen
  seen = seen_of t at

  abbrev view : View
  view = view_of t at.slot

  abbrev letter : Message
  letter = message_at t at.message

  abbrev clock : ℕ
  clock = mail_clock seen

  -- what is left of the slot's view
  abbrev Left : Ledger → Passage → Visit → Message → ℕ → Type 0
  Left l = LandedAt view l at.site at.message clock

  clock_on : (site_at t at.site).clock ≤ clock
  clock_on = omega arith

  module _ (b : Body) (body : letter.body ≡ b) (full : is_empty b ≡ false) where
    -- the slot sees the message itself
    pub letter_seen : view.mail at.message ≡ letter
    letter_seen = own_mail at.slot letter (ap is_empty body ∙ full) own

    pub letter_body : (view.mail at.message).body ≡ b
    letter_body = own_body at.slot letter b body full own

    pub letter_here : at.site ≡ (view.mail at.message).destination
    letter_here = here ∙ sym (ap (λ (x : Message). x.destination) letter_seen)

    pub letter_away : (view.mail at.message).destination ≢ (passage_at t at.slot).home → at_home seen ≡ false
    letter_away n =
        ne_eqb
        letter.destination
        (passage_at t at.slot).home
        (λ e. n (ap (λ (x : Message). x.destination) letter_seen ∙ e))

  pub call_fits_at : (c : Call) → letter.body ≡ Body.Call c → Fine (call_checks m c seen) → Fitting t at (call_done m c seen).left
  call_fits_at c body fine =
      record {
        clock = clock_on;
        mail = inr (inr own, inr own);
        own =
            λ l h.
            subst
            (λ (x : Message). Left l (passage_at t at.slot) (count_received (called_visit c (visit_at t at.site at.slot))) x letter.source)
            (sym (own_mail at.slot (reply_to c clock seen) refl own))
            (subst
            (λ (x : Message).
            Left l (passage_at t at.slot)
            (count_received (called_visit c (visit_at t at.site at.slot)))
            (plain_message (Body.Reply (called_object c seen).value) x.destination x.source x.handle clock)
            x.source)
            (letter_seen (Body.Call c) body refl)
            (call_lands
            view
            l
            at.site
            at.message
            clock
            h
            clock_on
            c
            (letter_body (Body.Call c) body refl)
            (letter_here (Body.Call c) body refl)
            (called_object c seen).value
            (leb-false _ _ (or_left _ (called_visit c (visit_at t at.site at.slot)).dead fine.early))));
      }

  -- a reply is gone, and the clock has moved
  pub reply_fits_at : (value : ℕ) → Fitting t at (reply_done m value seen).left
  reply_fits_at value = fitting_after_emptied t at (clock_to (site_at t at.site) clock) own clock_on

  pub phase_one_fits_at :
      (n : ℕ) (asked : Asked) → letter.body ≡ Body.PhaseOne n asked
      → Fine (round_checks m (asks_life asked) (leb n seen.visit.round) clock seen)
      → Fitting t at (phase_one_done m n asked seen).left
  phase_one_fits_at n asked body fine =
      record {
        clock = clock_on;
        mail = inr (inr own, back_own at.slot clock asks' seen own);
        own =
            λ l h.
            let away : at_home seen ≡ false =
            letter_away
            (Body.PhaseOne n asked)
            body
            refl
            (one_away view l at.site at.message clock h clock_on n asked (letter_body (Body.PhaseOne n asked) body refl) there below kin) in
            when_false
            (λ (p : Passage). Left l p asks' (mail_of at.slot (answer_back asks' clock seen)) letter.source)
            (at_home seen)
            (with_status (passage_at t at.slot) (asked_status asked (passage_at t at.slot).status))
            (passage_at t at.slot)
            away
            (when_false
            (λ (x : Message). Left l (passage_at t at.slot) asks' (mail_of at.slot x) letter.source)
            (at_home seen)
            no_message
            (back letter.destination)
            away
            (subst
            (λ (x : Message). Left l (passage_at t at.slot) asks' x letter.source)
            (ap back here ∙ sym (own_mail at.slot (back letter.destination) refl own))
            (one_lands view l at.site at.message clock h clock_on n asked (letter_body (Body.PhaseOne n asked) body refl) there below kin letter.handle letter.source)));
      }
    where
      asks' : Visit
      asks' = asked_visit asked n clock (visit_at t at.site at.slot)

      back : ℕ → Message
      back source = answer_message asks' source (passage_at t at.slot).home letter.handle clock

      there : (visit_at t at.site at.slot).there ≡ true
      there = not_false _ fine.there

      below : (visit_at t at.site at.slot).round < n
      below = leb-false _ _ fine.round

  pub phase_two_fits_at :
      (n : ℕ) (told : Told) → letter.body ≡ Body.PhaseTwo n told
      → Fine (round_checks m (tells_life told) (not (eqb n seen.visit.round)) clock seen)
      → Fitting t at (phase_two_done m n told seen).left
  phase_two_fits_at n told body fine =
      record {
        clock = clock_on;
        mail = inr (inr own, inl refl);
        own =
            λ l h.
            when_false
            (λ (p : Passage). Left l p (told_visit told (visit_at t at.site at.slot)) no_message letter.source)
            (at_home seen)
            (with_status (passage_at t at.slot) (told_status told (passage_at t at.slot).status))
            (passage_at t at.slot)
            (letter_away
            (Body.PhaseTwo n told)
            body
            refl
            (two_away view l at.site at.message clock h clock_on n at_here there round told seen_body))
            (two_lands view l at.site at.message clock h clock_on n at_here there round told letter.source seen_body);
      }
    where
      there : (visit_at t at.site at.slot).there ≡ true
      there = not_false _ fine.there

      round : n ≡ (visit_at t at.site at.slot).round
      round = eqb-true _ _ (not_false _ fine.round)

      at_here : at.site ≡ (view.mail at.message).destination
      at_here = letter_here (Body.PhaseTwo n told) body refl

      seen_body : (view.mail at.message).body ≡ Body.PhaseTwo n told
      seen_body = letter_body (Body.PhaseTwo n told) body refl

  pub answer_fits_at :
      (n received q : ℕ) → letter.body ≡ Body.Answer n received q → Fine (answer_checks m n seen)
      → Fitting t at (answer_done m n received q seen).left
  answer_fits_at n received q body fine =
      record {
        clock = clock_on;
        mail = inr (inr own, inl refl);
        own =
            λ l h.
            subst
            (λ (x : Message).
            Left l (with_round (passage_at t at.slot) (with_answer (passage_at t at.slot).round x.source (sent_figures x received q)))
            (visit_at t at.site at.slot)
            no_message
            x.source)
            (letter_seen (Body.Answer n received q) body refl)
            (answer_lands
            view
            l
            at.site
            at.message
            clock
            h
            clock_on
            n
            received
            q
            (letter_body (Body.Answer n received q) body refl)
            number
            one
            (not_free (passage_at t at.slot).status free));
      }
    where
      free : is_free (passage_at t at.slot).status ≡ false
      free = or_left _ _ (or_left _ _ fine.round)

      one : is_phase_one (passage_at t at.slot).round.phase ≡ true
      one = not_false _ (or_right (is_free (passage_at t at.slot).status) _ (or_left _ _ fine.round))

      number : n ≡ (passage_at t at.slot).round.number
      number =
          eqb-true
          _
          _
          (not_false
          _
          (or_right
          (is_free (passage_at t at.slot).status || not (is_phase_one (passage_at t at.slot).round.phase))
          _
          fine.round))

-- ---- 11. deliver

-- where a delivery of message m looks
abbrev pub deliver_at : Tables → ℕ → Places
deliver_at t m = places_of t (look_of (Step.Deliver m))

module _ (t : Tables) (m : ℕ) (range : in_range t ≡ true) where
  pub deliver_own : slot_of (message_at t (deliver_at t m).message).handle ≡ (deliver_at t m).slot
  unfolding places_of
  deliver_own = refl

  pub deliver_here : (deliver_at t m).site ≡ (message_at t (deliver_at t m).message).destination
  unfolding places_of
  deliver_here =
      let i : (message_at t (deliver_at t m).message).destination ≤ 7 =
      (seen_says
      (seen_of t (deliver_at t m))
      (seen_in_range t (deliver_at t m) range (placed_places t (look_of (Step.Deliver m))))
      ).message.destination in
      omega arith

  pub deliver_in : (deliver_at t m).message < 32
  deliver_in = (placed_places t (look_of (Step.Deliver m))).message

  pub fitting_after_deliver_call :
      (c : Call) → (seen_of t (deliver_at t m)).message.body ≡ Body.Call c
      → Fine (call_checks m c (seen_of t (deliver_at t m)))
      → Fitting t (deliver_at t m) (call_done m c (seen_of t (deliver_at t m))).left
  fitting_after_deliver_call = call_fits_at t (deliver_at t m) m deliver_own deliver_here deliver_in

  pub fitting_after_deliver_phase_one :
      (n : ℕ) (asked : Asked) → (seen_of t (deliver_at t m)).message.body ≡ Body.PhaseOne n asked
      → Fine
      (round_checks
      m
      (asks_life asked)
      (leb n (seen_of t (deliver_at t m)).visit.round)
      (mail_clock (seen_of t (deliver_at t m)))
      (seen_of t (deliver_at t m)))
      → Fitting t (deliver_at t m) (phase_one_done m n asked (seen_of t (deliver_at t m))).left
  fitting_after_deliver_phase_one = phase_one_fits_at t (deliver_at t m) m deliver_own deliver_here deliver_in

  pub fitting_after_deliver_phase_two :
      (n : ℕ) (told : Told) → (seen_of t (deliver_at t m)).message.body ≡ Body.PhaseTwo n told
      → Fine
      (round_checks
      m
      (tells_life told)
      (not (eqb n (seen_of t (deliver_at t m)).visit.round))
      (mail_clock (seen_of t (deliver_at t m)))
      (seen_of t (deliver_at t m)))
      → Fitting t (deliver_at t m) (phase_two_done m n told (seen_of t (deliver_at t m))).left
  fitting_after_deliver_phase_two = phase_two_fits_at t (deliver_at t m) m deliver_own deliver_here deliver_in

  pub fitting_after_deliver_answer :
      (n received q : ℕ) → (seen_of t (deliver_at t m)).message.body ≡ Body.Answer n received q
      → Fine (answer_checks m n (seen_of t (deliver_at t m)))
      → Fitting t (deliver_at t m) (answer_done m n received q (seen_of t (deliver_at t m))).left
  fitting_after_deliver_answer = answer_fits_at t (deliver_at t m) m deliver_own deliver_here deliver_in

  fitting_after_body :
      (b : Body) → (seen_of t (deliver_at t m)).message.body ≡ b
      → is_accepted (deliver_body_of b m (seen_of t (deliver_at t m))).answer ≡ true
      → Fitting t (deliver_at t m) (deliver_body_of b m (seen_of t (deliver_at t m))).left
  unfolding deliver_body_of empty_of deliver_call_of deliver_phase_one_of deliver_phase_two_of deliver_answer_of deliver_reply_of
  fitting_after_body Body.Empty e y = absurd (true≢false (sym (ap is_empty e) ∙ (accepted_fine _ 0 y).found))
  fitting_after_body (Body.Call c) e y =
      fitting_after_settled t (deliver_at t m) (call_done m c (seen_of t (deliver_at t m))) y (fitting_after_deliver_call c e (accepted_fine _ _ y))
  fitting_after_body (Body.PhaseOne n asked) e y =
      fitting_after_settled t (deliver_at t m) (phase_one_done m n asked (seen_of t (deliver_at t m))) y (fitting_after_deliver_phase_one n asked e (accepted_fine _ _ y))
  fitting_after_body (Body.PhaseTwo n told) e y =
      fitting_after_settled t (deliver_at t m) (phase_two_done m n told (seen_of t (deliver_at t m))) y (fitting_after_deliver_phase_two n told e (accepted_fine _ _ y))
  fitting_after_body (Body.Answer n received q) e y =
      fitting_after_settled t (deliver_at t m) (answer_done m n received q (seen_of t (deliver_at t m))) y (fitting_after_deliver_answer n received q e (accepted_fine _ _ y))
  fitting_after_body (Body.Reply value) e y =
      fitting_after_settled t (deliver_at t m) (reply_done m value (seen_of t (deliver_at t m))) y
      (reply_fits_at t (deliver_at t m) m deliver_own deliver_here deliver_in value)

  pub fitting_after_deliver :
      is_accepted (deliver_of m (seen_of t (deliver_at t m))).answer ≡ true
      → Fitting t (deliver_at t m) (deliver_of m (seen_of t (deliver_at t m))).left
  fitting_after_deliver = fitting_after_body (seen_of t (deliver_at t m)).message.body refl
