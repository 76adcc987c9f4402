-- Messages that a step may leave in the view of an orphan's slot: those that stay, and a round's own. Assumes nothing.
use Rattle.std.specs.Prelude.{ℕ, ◌≡◌, refl, ◌≢◌, true}
use Rattle.std.proofs.Common.{zero-le, sym, ap, ◌∙◌, subst, ⊎_elim, true≢false}
use Rattle.rules.specs.LoopsLaws.{cond_keeps}
use Rattle.rules.specs.Tables.{no_message}
use Rattle.rules.specs.Parts.{is_active, largest_quiesce, asked_of, told_of}
use Rattle.rules.specs.Rounds.{ask_body, tell_body}
use Rattle.rules.specs.Machine.{is_message_of}
use Rattle.runs.specs.Types.{Kind, Phase, Status, Asked, Body, Message}
use Rattle.runs.specs.Walk.Says.{is_refresh}
use Rattle.runs.specs.Times.View.{View, mail_of}
use Rattle.runs.specs.Orphans.Watch.{PlainKind, Plain, Bounded}
use Rattle.runs.proofs.Orphans.WatchKept.{Ending, BodyKeeps, aborted_active}

module _ (latest : ℕ) (w : View) where
  pub mail_after_same : (k : ℕ) → BodyKeeps latest w (w.mail k).body
  mail_after_same k = record { plain = λ h. h.mail k; bounded = λ h b. b.mail k }

  pub mail_after_empty : BodyKeeps latest w Body.Empty
  mail_after_empty = record { plain = λ h. refl; bounded = λ h b. zero-le }

  -- a message that is seen, or seen as empty
  pub mail_after_seen : (p : ℕ) (m : Message) → BodyKeeps latest w m.body → BodyKeeps latest w (mail_of p m).body
  mail_after_seen p m h = cond_keeps (λ (x : Message). BodyKeeps latest w x.body) (is_message_of p m) m no_message h mail_after_empty

-- ---- a round's own messages

module _ (latest : ℕ) (w : View) (e : Ending w.passage) where
  -- an open round of an aborted passage is a terminate
  open_terminate : w.passage.round.phase ≢ Phase.None → w.passage.status ≡ Status.Aborted → w.passage.round.kind ≡ Kind.Terminate
  open_terminate n y = ⊎_elim (λ f. absurd (n f)) (λ f. f) (e y)

  not_refresh :
      (q r : ℕ) → w.passage.round.phase ≢ Phase.None → Bounded latest w → w.passage.round.kind ≡ Kind.Refresh q r → ⊥
  not_refresh q r n b f =
      true≢false (ap is_refresh (sym f ∙ open_terminate n b.aborted))

  no_prepare : Plain w → w.passage.round.kind ≡ Kind.Prepare → ⊥
  no_prepare h f = subst PlainKind f h.kind

  pub mail_after_ask : w.passage.round.phase ≢ Phase.None → BodyKeeps latest w (ask_body w.passage.round)
  mail_after_ask n = go w.passage.round.kind refl
    where
      go :
          (x : Kind) → w.passage.round.kind ≡ x
          → BodyKeeps latest w (Body.PhaseOne w.passage.round.number (asked_of x))
      go Kind.None f = record { plain = λ h. refl; bounded = λ h b. zero-le }
      go (Kind.Refresh q r) f = record { plain = λ h. refl; bounded = λ h b. absurd (not_refresh q r n b f) }
      go Kind.Terminate f = record { plain = λ h. refl; bounded = λ h b. zero-le }
      go Kind.Prepare f = record { plain = λ h. absurd (no_prepare h f); bounded = λ h b. zero-le }

  pub mail_after_tell : w.passage.round.phase ≢ Phase.None → BodyKeeps latest w (tell_body w.passage.round)
  mail_after_tell n = go w.passage.round.kind refl
    where
      go :
          (x : Kind) → w.passage.round.kind ≡ x
          → BodyKeeps latest w (Body.PhaseTwo w.passage.round.number (told_of x (largest_quiesce w.passage.round)))
      go Kind.None f = record { plain = λ h. refl; bounded = λ h b. zero-le }
      go (Kind.Refresh q r) f = record { plain = λ h. refl; bounded = λ h b. absurd (not_refresh q r n b f) }
      go Kind.Terminate f = record { plain = λ h. refl; bounded = λ h b. zero-le }
      go Kind.Prepare f = record { plain = λ h. absurd (no_prepare h f); bounded = λ h b. zero-le }

-- what an opened round asks of its home visit: a refresh only of a passage that is not aborted
pub refresh_asks :
    (latest : ℕ) (w : View) (n r : ℕ) → is_active w.passage.status ≡ true
    → BodyKeeps latest w (Body.PhaseOne n (Asked.Refresh r))
refresh_asks latest w n r active =
    record { plain = λ h. refl; bounded = λ h b. absurd (aborted_active w.passage.status b.aborted active) }

pub terminate_asks : (latest : ℕ) (w : View) (n : ℕ) → BodyKeeps latest w (Body.PhaseOne n Asked.Terminate)
terminate_asks latest w n = record { plain = λ h. refl; bounded = λ h b. zero-le }
