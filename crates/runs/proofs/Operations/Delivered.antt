-- A delivery finds the destination up, and comes after its message was sent: it moves the destination's clock past the message's stamp. Assumes nothing.
use Rattle.std.specs.Prelude.{ℕ, ◌+◌, ◌%◌, max, ◌≡◌, true}
use Rattle.std.proofs.Common.{arith, sym, ◌∙◌, true≢false}
use Rattle.std.proofs.Math.Path.{refl, ap}
use Rattle.rules.specs.LoopsLaws.{not_false}
use Rattle.rules.specs.Tables.{site_at, message_at}
use Rattle.rules.specs.Answers.{is_accepted}
use Rattle.rules.specs.AnswersLaws.{accepted_fine}
use Rattle.rules.specs.Parts.{is_empty}
use Rattle.rules.specs.Calls.{empty_of, deliver_call_of, deliver_phase_one_of, deliver_phase_two_of, deliver_answer_of, deliver_reply_of, deliver_body_of}
use Rattle.rules.specs.Machine.{look_of, places_of, decide_of, step_of}
use Rattle.rules.specs.StoredLaws.{site_after_stored}
use Rattle.rules.proofs.RangesLaws.{placed_places}
use Rattle.rules.proofs.Views.{delivered_clock}
use Rattle.runs.specs.Types.{Site, Body, Tables, Step, Seen}
use Rattle.runs.specs.Walk.Seen.{places_at, seen_at}
use Rattle.runs.proofs.Walk.Sound.{Sound}
use Rattle.runs.specs.Operations.Definitions.{AfterSent}
use Rattle.runs.proofs.Operations.Single.{decision_accepted, single_stored}

-- by what the message slot holds: no kind of message is taken at a station that is down
delivered_up :
    (body : Body) (m : ℕ) (seen : Seen) → seen.message.body ≡ body → is_accepted (deliver_body_of body m seen).answer ≡ true
    → seen.site.up ≡ true
unfolding deliver_body_of empty_of deliver_call_of deliver_phase_one_of deliver_phase_two_of deliver_answer_of deliver_reply_of
delivered_up Body.Empty m seen b e = absurd (true≢false (sym (ap is_empty b) ∙ (accepted_fine _ 0 e).found))
delivered_up (Body.Call c) m seen b e = not_false _ (accepted_fine _ _ e).up
delivered_up (Body.PhaseOne n asked) m seen b e = not_false _ (accepted_fine _ _ e).up
delivered_up (Body.PhaseTwo n told) m seen b e = not_false _ (accepted_fine _ _ e).up
delivered_up (Body.Answer n received q) m seen b e = not_false _ (accepted_fine _ _ e).up
delivered_up (Body.Reply v) m seen b e = not_false _ (accepted_fine _ _ e).up

module _ (t : Tables) (m : ℕ) (z : Sound t) (e : is_accepted (step_of t (Step.Deliver m)).answer ≡ true) where
  -- an accepted delivery, of any message, found its destination up
  pub delivered_while_up : (site_at t ((message_at t (m % 32)).destination % 8)).up ≡ true
  unfolding places_of decide_of
  delivered_while_up = delivered_up (message_at t (m % 32)).body m (seen_at t (Step.Deliver m)) refl (decision_accepted t (Step.Deliver m) e)

  -- after an accepted delivery the clock of the message's destination is 1 + max(clock, stamp)
  pub clock_after_delivered :
      (site_at (step_of t (Step.Deliver m)).tables ((message_at t (m % 32)).destination % 8)).clock
      ≡ max (site_at t ((message_at t (m % 32)).destination % 8)).clock (message_at t (m % 32)).stamp + 1
  unfolding places_of decide_of
  clock_after_delivered =
      ap (λ (u : Tables). (site_at u ((message_at t (m % 32)).destination % 8)).clock) (single_stored t (Step.Deliver m) refl e)
      ∙ ap (λ (s : Site). s.clock) (site_after_stored t (places_at t (Step.Deliver m)) _ z.sized (placed_places t (look_of (Step.Deliver m))))
      ∙ delivered_clock (message_at t (m % 32)).body m (seen_at t (Step.Deliver m)) refl (decision_accepted t (Step.Deliver m) e)

  -- so it is above the message's stamp, and above what it was
  pub delivered_after_sent : AfterSent t (step_of t (Step.Deliver m)).tables (message_at t (m % 32))
  delivered_after_sent = record { sent = rw clock_after_delivered (omega arith); moved = rw clock_after_delivered (omega arith) }
