-- Home's word is that of a committed passage: after the close of its commit round, and after every delivery of its word, the passage is committed.
-- Assumes nothing.
use Rattle.std.specs.Prelude.{ℕ, ◌%◌, ◌<◌, ◌≡◌, true, false, ◌&&◌, eqb}
use Rattle.std.proofs.Math.Path.{refl, ap, subst}
use Rattle.std.proofs.Common.{sym, ◌∙◌, eqb-true}
use Rattle.std.proofs.lemmas.Bool.{false≢true}
use Rattle.rules.specs.LoopsLaws.{and_left, and_right, not_false}
use Rattle.rules.specs.Tables.{passage_at, message_at, slot_of}
use Rattle.rules.specs.Answers.{is_accepted}
use Rattle.rules.specs.AnswersLaws.{accepted_fine, settle_accepted}
use Rattle.rules.specs.Parts.{is_empty, is_over, is_closed, largest_quiesce, told_status, told_of}
use Rattle.rules.specs.Rounds.{close_of, close_done}
use Rattle.rules.specs.Machine.{look_of, places_of, decide_of, head_of, step_of}
use Rattle.rules.proofs.RangesLaws.{placed_places}
use Rattle.rules.specs.StoredLaws.{passage_after_stored}
use Rattle.rules.proofs.Views.{Objects, deed_of}
use Rattle.runs.specs.Types.{Kind, Phase, Status, Passage, Body, Message, Tables, Step, Seen}
use Rattle.runs.specs.Walk.Says.{carries_commit}
use Rattle.runs.specs.Walk.Seen.{places_at, seen_at}
use Rattle.runs.proofs.Walk.Steps.{head_accepted}
use Rattle.runs.proofs.Events.HoldSteps.{and_false}
use Rattle.runs.proofs.Operations.Single.{decision_at, decision_accepted, single_stored}
use Rattle.runs.specs.Times.View.{Ledger, view_of}
use Rattle.runs.proofs.Times.Store.{own_mail}
use Rattle.runs.proofs.Fits.Close.{one_says}
use Rattle.runs.specs.Promises.Definitions.{is_word}
use Rattle.runs.proofs.Commits.VowLaws.{prepare_says}
use Rattle.runs.proofs.Commits.Pledged.{Pledged}
use Rattle.runs.proofs.Commits.Over.{ClosesCommit, over_after_step}

-- ---- which step gives home's word

-- the close of slot p's commit round at its home, which is this site
pub record WordByClose (t : Tables) (site p h : ℕ) : Type 0 where
  pub slot : slot_of h ≡ p
  pub home : (passage_at t p).home % 8 ≡ site
  pub closes : ClosesCommit (passage_at t p)

-- the delivery at this site of message m, a commit's word for slot p
pub record WordByMail (t : Tables) (site p m : ℕ) : Type 0 where
  pub slot : slot_of (message_at t (m % 32)).handle ≡ p
  pub here : (message_at t (m % 32)).destination % 8 ≡ site
  pub word : carries_commit (message_at t (m % 32)).body ≡ true

pub data WordOf (t : Tables) (site p : ℕ) : Step → Type 0 where
  Closes : (h : ℕ) → WordByClose t site p h → WordOf t site p (Step.Close h)
  Mails : (m : ℕ) → WordByMail t site p m → WordOf t site p (Step.Deliver m)

word_says :
    (t : Tables) (step : Step) (site p : ℕ) → Objects step → is_accepted (head_of t step).answer ≡ true → is_word t site p step ≡ true
    → WordOf t site p step
unfolding head_of places_of decide_of close_of
word_says t _ site p (Objects.Closes h) a w =
    let place : (eqb (slot_of h) p && eqb ((passage_at t p).home % 8) site) ≡ true = and_left _ _ w in
    let slot : slot_of h ≡ p = eqb-true _ _ (and_left _ _ place) in
    let fine = accepted_fine _ _ a in
    WordOf.Closes h
    (record {
      slot = slot;
      home = eqb-true _ _ (and_right (eqb (slot_of h) p) _ place);
      closes =
          record {
            kind = prepare_says _ (and_right (eqb (slot_of h) p && eqb ((passage_at t p).home % 8) site) _ w);
            asks = subst (λ (q : ℕ). (passage_at t q).round.phase ≡ Phase.One) slot (one_says _ (not_false _ fine.state));
            closed = subst (λ (q : ℕ). is_closed (passage_at t q).round ≡ true) slot (not_false _ fine.closed);
          };
    })
word_says t _ site p (Objects.Delivers m) a w =
    let place : (eqb (slot_of (message_at t (m % 32)).handle) p && eqb ((message_at t (m % 32)).destination % 8) site) ≡ true = and_left _ _ w in
    WordOf.Mails m
    (record {
      slot = eqb-true _ _ (and_left _ _ place);
      here = eqb-true _ _ (and_right (eqb (slot_of (message_at t (m % 32)).handle) p) _ place);
      word = and_right (eqb (slot_of (message_at t (m % 32)).handle) p && eqb ((message_at t (m % 32)).destination % 8) site) _ w;
    })
word_says t _ site p (Objects.Stay step c d stay) a w = absurd (false≢true (rw (c, d) at w))

pub word_of : (t : Tables) (step : Step) (site p : ℕ) → is_accepted (step_of t step).answer ≡ true → is_word t site p step ≡ true → WordOf t site p step
word_of t step site p a = word_says t step site p (deed_of step).objects (head_accepted t step a)

-- ---- after it the passage is committed

module _ (t : Tables) (ls : ℕ → Ledger) (k : Pledged t ls) (p : ℕ) (slot : p < 16) where
  -- a commit's word for the slot is seen by it
  pub word_seen : (m : ℕ) → slot_of (message_at t m).handle ≡ p → carries_commit (message_at t m).body ≡ true → (view_of t p).mail m ≡ message_at t m
  word_seen m own word = own_mail p (message_at t m) (full (message_at t m).body word) own
    where
      full : (b : Body) → carries_commit b ≡ true → is_empty b ≡ false
      full Body.Empty e = absurd (false≢true e)
      full (Body.Call c) e = refl
      full (Body.PhaseOne n a) e = refl
      full (Body.PhaseTwo n d) e = refl
      full (Body.Answer n r q) e = refl
      full (Body.Reply v) e = refl

  closed_commits :
      (h : ℕ) → slot_of h ≡ p → ClosesCommit (passage_at t p) → is_accepted (step_of t (Step.Close h)).answer ≡ true
      → (passage_at (step_of t (Step.Close h)).tables p).status ≡ Status.Committed
  unfolding places_of decide_of close_of
  closed_commits h own closes a =
      let step : Step = Step.Close h in
      let passage : Passage = passage_at t (slot_of h) in
      let kind : passage.round.kind ≡ Kind.Prepare = subst (λ (q : ℕ). (passage_at t q).round.kind ≡ Kind.Prepare) (sym own) closes.kind in
      rw (
        single_stored t step refl a,
        ← own,
        passage_after_stored t (places_at t step) (decision_at t step).left k.kept.sound.sized (placed_places t (look_of step)),
      )
      (ap (λ (x : Seen). x.passage.status) (settle_accepted (close_done h (seen_at t step)) (seen_at t step) (decision_accepted t step a))
      ∙ ap (λ (x : Kind). told_status (told_of x (largest_quiesce passage.round)) passage.status) kind)

  word_commits :
      (step : Step) (site : ℕ) → WordOf t site p step → is_accepted (step_of t step).answer ≡ true
      → (passage_at (step_of t step).tables p).status ≡ Status.Committed
  word_commits _ site (WordOf.Closes h w) a = closed_commits h w.slot w.closes a
  word_commits _ site (WordOf.Mails m w) a =
      let committed : (passage_at t p).status ≡ Status.Committed =
      (k.vows p slot).word (m % 32) (ap (λ (x : Message). carries_commit x.body) (word_seen (m % 32) w.slot w.word) ∙ w.word) in
      over_after_step t ls (Step.Deliver m) p k slot (ap is_over committed) (and_false (is_accepted (step_of t (Step.Deliver m)).answer)) ∙ committed

  -- after an accepted step that is home's word to slot p at this site, the passage is committed
  pub committed_after_word :
      (step : Step) (site : ℕ) → is_accepted (step_of t step).answer ≡ true → is_word t site p step ≡ true
      → (passage_at (step_of t step).tables p).status ≡ Status.Committed
  committed_after_word step site a w = word_commits step site (word_of t step site p a w) a
