-- What the vow says of a passage's status and of its round. Assumes nothing.
use Rattle.std.specs.Prelude.{◌≡◌, refl, ◌≢◌, true}
use Rattle.std.proofs.Common.{sym, ap, ◌∙◌, subst, inl, inr, true≢false}
use Rattle.std.proofs.lemmas.Bool.{false≢true}
use Rattle.rules.specs.Parts.{is_active, is_running, is_aborted, is_phase_one, is_phase_two}
use Rattle.runs.specs.Types.{Kind, Phase, Status, Passage}
use Rattle.runs.specs.Walk.Says.{is_binding, is_prepare}
use Rattle.runs.specs.Commits.Vow.{RoundFor, RoundFits}

pub one_not_two : Phase.One ≡ Phase.Two → ⊥
one_not_two e = true≢false (ap is_phase_one e)

pub none_not_one : Phase.None ≡ Phase.One → ⊥
none_not_one e = false≢true (ap is_phase_one e)

pub none_not_two : Phase.None ≡ Phase.Two → ⊥
none_not_two e = false≢true (ap is_phase_two e)

pub prepare_says : (kind : Kind) → is_prepare kind ≡ true → kind ≡ Kind.Prepare
prepare_says Kind.None y = absurd (false≢true y)
prepare_says (Kind.Refresh q r) y = absurd (false≢true y)
prepare_says Kind.Terminate y = absurd (false≢true y)
prepare_says Kind.Prepare y = refl

-- a committed passage is telling
pub committed_tells : (p : Passage) → RoundFits p → p.status ≡ Status.Committed → (p.round.kind ≡ Kind.Prepare) × (p.round.phase ≡ Phase.Two)
committed_tells p f e = subst (λ (s : Status). RoundFor s p.round.kind p.round.phase) e f

-- a committing one is asking
pub committing_asks : (p : Passage) → RoundFits p → p.status ≡ Status.Committing → (p.round.kind ≡ Kind.Prepare) × (p.round.phase ≡ Phase.One)
committing_asks p f e = subst (λ (s : Status). RoundFor s p.round.kind p.round.phase) e f

-- a running one is not committed
pub running_not_committed : (s : Status) → is_running s ≡ true → s ≡ Status.Committed → ⊥
running_not_committed s r e = false≢true (sym (ap is_running e) ∙ r)

-- nor is an aborted one
pub aborted_not_committed : Status.Aborted ≡ Status.Committed → ⊥
aborted_not_committed e = true≢false (ap is_aborted e)

pub active_runs : (s : Status) → is_active s ≡ true → is_running s ≡ true
active_runs Status.Free y = absurd (false≢true y)
active_runs Status.Active y = refl
active_runs Status.Committing y = refl
active_runs Status.Aborted y = absurd (false≢true y)
active_runs Status.Committed y = absurd (false≢true y)

-- a passage that tells a commit is committed
pub telling_commits :
    (p : Passage) → RoundFits p → p.status ≢ Status.Free → p.round.kind ≡ Kind.Prepare → p.round.phase ≡ Phase.Two
    → p.status ≡ Status.Committed
telling_commits p f used k two = go p.status refl f
  where
    go : (s : Status) → p.status ≡ s → RoundFor s p.round.kind p.round.phase → p.status ≡ Status.Committed
    go Status.Free e g = absurd (used e)
    go Status.Active e g = absurd (true≢false (ap is_binding (sym k) ∙ g))
    go Status.Committing e g = absurd (one_not_two (sym g.1 ∙ two))
    go Status.Aborted e (inl g) = absurd (none_not_two (sym g ∙ two))
    go Status.Aborted e (inr g) = absurd (false≢true (ap is_prepare (sym g ∙ k)))
    go Status.Committed e g = e

-- a passage of which the status, the home and the round's number, kind and phase have stayed
pub record SamePassage (x p : Passage) : Type 0 where
  pub status : p.status ≡ x.status
  pub home : p.home ≡ x.home
  pub number : p.round.number ≡ x.round.number
  pub kind : p.round.kind ≡ x.round.kind
  pub phase : p.round.phase ≡ x.round.phase

pub same_passage : (p : Passage) → SamePassage p p
same_passage p = record { status = refl; home = refl; number = refl; kind = refl; phase = refl }
