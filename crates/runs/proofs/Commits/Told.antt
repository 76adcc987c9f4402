-- A commit can be told: a committed passage goes on telling, a tell to a station where it has a visit is accepted, and so is the delivery of that word,
-- after which nothing of the passage is left there.
-- The idea: the tell leaves all but home's clock and one message slot; the visit that its word finds is prepared, so it is alive and of the round.
-- Assumes nothing.
use Rattle.std.specs.Prelude.{ℕ, ◌+◌, ◌%◌, ◌<◌, ◌≤◌, min, max, ◌≡◌, ◌≢◌, true, false, List}
use native.Mathlib.Omega.{arith}
use Rattle.std.proofs.Math.Path.{refl, ap, subst}
use Rattle.std.proofs.Common.{sym, ◌∙◌, ⊎_elim}
use Rattle.std.proofs.lemmas.Bool.{false≢true}
use borrow.Author.Tests.{eq-eqb, ne_eqb, le-ltb}
use Rattle.rules.specs.LoopsLaws.{either}
use Rattle.rules.specs.Limits.{clock_most, handle_most, message_most}
use Rattle.rules.specs.Tables.{site_at, passage_at, visit_at, message_at, slot_of, generation_of, handle_of}
use Rattle.rules.specs.Ranges.{in_range}
use Rattle.rules.specs.Answers.{is_accepted, answer_value, first_refusal}
use Rattle.rules.specs.AnswersLaws.{settle_accepted}
use Rattle.rules.specs.Parts.{is_free, is_empty, has_answered, next_clock}
use Rattle.rules.specs.Rounds.{sent_out, tell_body, tell_of}
use Rattle.rules.specs.Calls.{mail_clock, told_at, phase_two_done, deliver_phase_two_of, deliver_body_of}
use Rattle.rules.specs.Machine.{look_of, lowest_empty, places_of, decide_of, stored, head_of, turns_up_to, step_in_range_of, step_of}
use Rattle.rules.specs.StoredLaws.{visit_place_same, site_after_stored, site_after_stored_other, visit_after_stored, visit_after_stored_other}
use Rattle.rules.proofs.RangesLaws.{placed_places}
use Rattle.rules.proofs.SaidLaws.{takes_empty}
use Rattle.rules.specs.Events.{is_holding}
use Rattle.rules.specs.Runs.{Started, run_of}
use Rattle.runs.specs.Types.{Site, Phase, Status, Visit, Told, Body, Tables, Step, Places, Seen, Decision}
use Rattle.runs.specs.Walk.Seen.{places_at, seen_at}
use Rattle.runs.proofs.Walk.Sound.{Sound, sound_step}
use Rattle.runs.proofs.Walk.Taken.{in_range_step}
use Rattle.runs.specs.Times.View.{view_of}
use Rattle.runs.specs.Times.Clauses.{Holds}
use Rattle.runs.proofs.Times.Ledgers.{ledgers_of}
use Rattle.runs.proofs.Holders.HeldStore.{Held}
use Rattle.runs.proofs.Holders.Holders.{held_run, held_step}
use Rattle.runs.proofs.Promises.Handles.{generation_below}
use Rattle.runs.proofs.Operations.Single.{decision_at, decision_accepted, single_stored}
use Rattle.runs.proofs.Operations.Stamped.{sent_left, stamped_when_told}
use Rattle.runs.proofs.Commits.VowLaws.{committed_tells}
use Rattle.runs.proofs.Commits.Telling.{Telling, telling_run}
use Rattle.runs.specs.Operations.Definitions.{Stamped}
use Rattle.runs.specs.Commits.Definitions.{CanBeTold, StillTells, tell_to}

-- ---- a committed passage goes on telling

-- in every run: a committed passage is in phase 2 of its commit round, and every site where it has a visit has answered and is not home
pub committed_goes_on_telling :
    {t₀ : Tables} → Started t₀ → (ss : List Step) (p : ℕ) → p < 16 → (passage_at (run_of t₀ ss) p).status ≡ Status.Committed
    → StillTells (run_of t₀ ss) p
committed_goes_on_telling {t₀} fresh ss p slot committed =
    let k = telling_run fresh ss in
    let tells = committed_tells (passage_at (run_of t₀ ss) p) (k.pledged.vows p slot).round committed in
    record {
      kind = tells.0;
      phase = tells.1;
      answered = λ s there. ((k.tells p slot).answered committed s there).0;
      away = λ s there. ((k.tells p slot).answered committed s there).1;
    }

-- ---- so home may tell it

module _ (t : Tables) (h p s : ℕ) (range : in_range t ≡ true) (slot : slot_of h ≡ p) (named : (passage_at t p).generation ≡ generation_of h)
    (small : h ≤ handle_most) (home : (passage_at t p).home < 8) (used : is_free (passage_at t p).status ≡ false) where
  -- a tell to a site that has answered in a round in phase 2 is accepted where home is up, its clock has room and a message slot is empty
  tell_accepted :
      (passage_at t p).round.phase ≡ Phase.Two → has_answered (passage_at t p).round s ≡ true → s < 8 → s ≢ (passage_at t p).home
      → (site_at t (passage_at t p).home).up ≡ true → (site_at t (passage_at t p).home).clock + 1 ≤ clock_most
      → is_empty (message_at t (min (lowest_empty t) message_most)).body ≡ true
      → is_accepted (step_of t (Step.Tell h s)).answer ≡ true
  unfolding step_of step_in_range_of turns_up_to head_of decide_of tell_of places_of first_refusal
  tell_accepted two answered below away up room empty =
      let here : s % 8 ≡ s = omega arith in
      let at : (passage_at t p).home % 8 ≡ (passage_at t p).home = omega arith in
      rw (
        range,
        le-ltb handle_most h small,
        le-ltb 7 s (omega arith),
        slot,
        at,
        here,
        used,
        eq-eqb _ _ named,
        up,
        two,
        answered,
        ne_eqb _ _ away,
        le-ltb clock_most ((site_at t (passage_at t p).home).clock + 1) room,
        empty,
      )
      refl

-- in every run: home may tell every site where its committed passage has a visit.
-- The tell is accepted where home is up, its clock is below its most, and some message slot is empty
pub committed_may_tell :
    {t₀ : Tables} → Started t₀ → (ss : List Step) (p s m : ℕ) → p < 16 → (passage_at (run_of t₀ ss) p).status ≡ Status.Committed
    → (visit_at (run_of t₀ ss) s p).there ≡ true
    → (site_at (run_of t₀ ss) (passage_at (run_of t₀ ss) p).home).up ≡ true
    → (site_at (run_of t₀ ss) (passage_at (run_of t₀ ss) p).home).clock < clock_most
    → m < 32 → is_empty (message_at (run_of t₀ ss) m).body ≡ true
    → is_accepted (step_of (run_of t₀ ss) (tell_to (run_of t₀ ss) p s)).answer ≡ true
committed_may_tell {t₀} fresh ss p s m slot committed there up room below empty =
    let k = telling_run fresh ss in
    let t : Tables = run_of t₀ ss in
    let hold : Holds (view_of t p) (ledgers_of t₀ ss p) = k.pledged.kept.slots p slot in
    let still : StillTells t p = committed_goes_on_telling fresh ss p slot committed in
    let g : (passage_at t p).generation < 256 = generation_below fresh ss p in
    tell_accepted t (handle_of p (passage_at t p).generation) p s k.pledged.kept.range (omega arith) (omega arith) (omega arith)
    hold.passage.home
    (ap is_free committed)
    still.phase
    (still.answered s there)
    (hold.sites s (hold.mirror s there).0).place
    (still.away s there)
    up
    (omega arith)
    (takes_empty t m below empty)

-- ---- and the station takes its word

-- a commit's word in a message slot, to a station, for a slot
module _ (t : Tables) (m n p s : ℕ) (below : m < 32) (body : (message_at t m).body ≡ Body.PhaseTwo n Told.Prepare)
    (goes : (message_at t m).destination ≡ s) (station : s < 8) (own : slot_of (message_at t m).handle ≡ p) where
  -- it is accepted where the station is up, its clock has room, and the visit is there, alive and of the round
  word_accepted :
      in_range t ≡ true → (site_at t s).up ≡ true → (visit_at t s p).there ≡ true → (visit_at t s p).dead ≡ false → (visit_at t s p).round ≡ n
      → max (site_at t s).clock (message_at t m).stamp + 1 ≤ clock_most
      → is_accepted (step_of t (Step.Deliver m)).answer ≡ true
  unfolding step_of step_in_range_of turns_up_to head_of decide_of deliver_body_of deliver_phase_two_of places_of first_refusal
  word_accepted range up there alive round room =
      let mail : m % 32 ≡ m = omega arith in
      let here : s % 8 ≡ s = omega arith in
      rw (
        range,
        mail,
        body,
        le-ltb 31 m (omega arith),
        goes,
        here,
        own,
        up,
        there,
        alive,
        le-ltb clock_most (max (site_at t s).clock (message_at t m).stamp + 1) room,
        eq-eqb n (visit_at t s p).round (sym round),
      )
      refl

  -- and takes the visit
  word_takes : Sound t → is_accepted (step_of t (Step.Deliver m)).answer ≡ true → (visit_at (step_of t (Step.Deliver m)).tables s p).there ≡ false
  unfolding places_of decide_of deliver_body_of deliver_phase_two_of
  word_takes z a =
      let mail : m % 32 ≡ m = omega arith in
      let here : s % 8 ≡ s = omega arith in
      let at : Places = places_at t (Step.Deliver m) in
      let saw : Seen = seen_at t (Step.Deliver m) in
      let decided : decision_at t (Step.Deliver m) ≡ deliver_phase_two_of m n Told.Prepare saw = rw (mail, body) in
      let left : (step_of t (Step.Deliver m)).tables ≡ stored t at (told_at Told.Prepare (mail_clock saw) saw) =
      single_stored t (Step.Deliver m) refl a
      ∙ ap (λ (d : Decision). stored t at d.left) decided
      ∙ ap (stored t at) (settle_accepted (phase_two_done m n Told.Prepare saw) saw (rw decided at (decision_accepted t (Step.Deliver m) a))) in
      let site : at.site ≡ s = rw (mail, goes, here) in
      let slot : at.slot ≡ p = rw (mail, own) in
      ap (λ (u : Tables). (visit_at u s p).there) left
      ∙ subst
      (λ (x : ℕ). (visit_at (stored t at (told_at Told.Prepare (mail_clock saw) saw)) x p).there ≡ false)
      site
      (subst
      (λ (x : ℕ). (visit_at (stored t at (told_at Told.Prepare (mail_clock saw) saw)) at.site x).there ≡ false)
      slot
      (ap
      (λ (v : Visit). v.there)
      (visit_after_stored t at (told_at Told.Prepare (mail_clock saw) saw) z.sized (placed_places t (look_of (Step.Deliver m))))))

-- ---- the theorem

-- in every run: what a committed passage still has at a station can be let go. Home and the station are up, their clocks have room for the two steps,
-- and some message slot is empty; then home's tell is accepted, and so is the delivery of its word, after which nothing of the passage is left there
pub commit_can_be_told :
    {t₀ : Tables} → Started t₀ → (ss : List Step) (p s m : ℕ) → p < 16 → (passage_at (run_of t₀ ss) p).status ≡ Status.Committed
    → (visit_at (run_of t₀ ss) s p).there ≡ true
    → (site_at (run_of t₀ ss) (passage_at (run_of t₀ ss) p).home).up ≡ true
    → (site_at (run_of t₀ ss) (passage_at (run_of t₀ ss) p).home).clock + 1 < clock_most
    → (site_at (run_of t₀ ss) s).up ≡ true → (site_at (run_of t₀ ss) s).clock < clock_most
    → m < 32 → is_empty (message_at (run_of t₀ ss) m).body ≡ true
    → CanBeTold (run_of t₀ ss) p s
unfolding decide_of tell_of places_of
commit_can_be_told {t₀} fresh ss p s m slot committed there up room station-up station-room below empty =
    record {
      told = told;
      taken = taken;
      nothing =
          record {
            visit = gone;
            object = λ i l at.
                ⊎_elim
                (λ holds. absurd (false≢true (sym gone ∙ subst (λ (x : ℕ). (visit_at last x p).there ≡ true) at (held.visits i p l holds).1)))
                (λ free. free)
                (either (is_holding last p i));
          };
    }
  where
    t : Tables
    t = run_of t₀ ss

    h : ℕ
    h = handle_of p (passage_at t p).generation

    next : Tables
    next = (step_of t (tell_to t p s)).tables

    place : ℕ
    place = answer_value (step_of t (tell_to t p s)).answer

    last : Tables
    last = (step_of next (Step.Deliver place)).tables

    told : is_accepted (step_of t (tell_to t p s)).answer ≡ true
    told = committed_may_tell fresh ss p s m slot committed there up (omega arith) below empty

    k : Telling t (ledgers_of t₀ ss)
    k = telling_run fresh ss

    hold : Holds (view_of t p) (ledgers_of t₀ ss p)
    hold = k.pledged.kept.slots p slot

    still : StillTells t p
    still = committed_goes_on_telling fresh ss p slot committed

    mine : slot_of h ≡ p
    mine = omega arith

    home : (passage_at t (slot_of h)).home % 8 ≡ (passage_at t p).home
    home = let l : (passage_at t p).home < 8 = hold.passage.home in rw mine (omega arith)

    -- the tell leaves a word for the station, and neither the station nor the visit there is touched
    sent : Stamped next place (tell_body (passage_at t p).round) (passage_at t p).home s h
    sent = rw mine at (stamped_when_told t h s k.pledged.kept.sound told)

    word : (message_at next place).body ≡ Body.PhaseTwo (passage_at t p).round.number Told.Prepare
    word = sent.body ∙ (rw still.kind)

    at : Places
    at = places_at t (tell_to t p s)

    saw : Seen
    saw = seen_at t (tell_to t p s)

    left : next ≡ stored t at (sent_out (tell_body saw.passage.round) h s (next_clock saw.site) saw)
    left = sent_left t (tell_to t p s) h s _ _ refl refl told

    visit_same : visit_at next s p ≡ visit_at t s p
    visit_same =
        ap (λ (u : Tables). visit_at u s p) left
        ∙ visit_after_stored_other t at _ s p
        (λ e. still.away s there ((visit_place_same s p at.site at.slot slot (placed_places t (look_of (tell_to t p s))).slot e).0 ∙ home))

    site_same : site_at next s ≡ site_at t s
    site_same = ap (λ (u : Tables). site_at u s) left ∙ site_after_stored_other t at _ s (λ e. still.away s there (e ∙ home))

    clock : (site_at next (passage_at t p).home).clock ≡ (site_at t (passage_at t p).home).clock + 1
    clock =
        subst (λ (x : ℕ). (site_at next x).clock ≡ (site_at t x).clock + 1) home
        (ap (λ (u : Tables). (site_at u at.site).clock) left
        ∙ ap (λ (x : Site). x.clock) (site_after_stored t at _ k.pledged.kept.sound.sized (placed_places t (look_of (tell_to t p s)))))

    bound : ((visit_at t s p).prepared ≡ true) × ((visit_at t s p).round ≡ (passage_at t p).round.number)
    bound = (k.pledged.vows p slot).told still.kind still.phase s there

    station : s < 8
    station = (hold.sites s (hold.mirror s there).0).place

    taken : is_accepted (step_of next (Step.Deliver place)).answer ≡ true
    taken =
        word_accepted next place (passage_at t p).round.number p s sent.place_below word sent.destination station (ap slot_of sent.handle ∙ mine)
        (in_range_step t (tell_to t p s) k.pledged.kept.range)
        (rw site_same station-up)
        (rw visit_same there)
        (rw visit_same ((k.tells p slot).alive s (still.away s there) there bound.0))
        (rw visit_same bound.1)
        (rw (site_same, sent.stamp, clock) (omega arith))

    gone : (visit_at last s p).there ≡ false
    gone =
        word_takes next place (passage_at t p).round.number p s sent.place_below word sent.destination station (ap slot_of sent.handle ∙ mine)
        (sound_step t (tell_to t p s) k.pledged.kept.sound)
        taken

    held : Held last
    held = held_step next (Step.Deliver place) (held_step t (tell_to t p s) (held_run fresh ss))
