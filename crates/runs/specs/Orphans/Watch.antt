-- The invariant behind demand 3, for one passage slot: what an orphan can and can't have any more. Assumes nothing.
use Rattle.std.specs.Prelude.{ℕ, ◌≤◌, ◌≡◌, ◌⊎◌, Bool, true, false}
use Rattle.runs.specs.Types.{Kind, Phase, Status, Visit, Body}
use Rattle.runs.specs.Walk.Says.{body_latest, of_commit}
use Rattle.runs.specs.Times.View.{View}

-- what is known of the run so far: whether a commit round has begun since the begin, whether the passage is being watched
-- (from the moment that the demand speaks of, until it is retired), whether a sweep has cleared the station since
pub record Known : Type 0 where
  pub commit : Bool
  pub watched : Bool
  pub cleared : Bool

-- ---- no trace of a commit round

abbrev pub PlainStatus : Status → Type 0
PlainStatus Status.Free = Unit {0}
PlainStatus Status.Active = Unit {0}
PlainStatus Status.Committing = ⊥
PlainStatus Status.Aborted = Unit {0}
PlainStatus Status.Committed = ⊥

abbrev pub PlainKind : Kind → Type 0
PlainKind Kind.None = Unit {0}
PlainKind (Kind.Refresh q r) = Unit {0}
PlainKind Kind.Terminate = Unit {0}
PlainKind Kind.Prepare = ⊥

abbrev pub PlainVisit : Visit → Type 0
PlainVisit v = v.there ≡ true → v.prepared ≡ false

abbrev pub PlainBody : Body → Type 0
PlainBody b = of_commit b ≡ false

pub record Plain (w : View) : Type 0 where
  pub status : PlainStatus w.passage.status
  pub kind : PlainKind w.passage.round.kind
  pub visits : (s : ℕ) → PlainVisit (w.visit s)
  pub mail : (k : ℕ) → PlainBody (w.mail k).body

-- ---- aborted, and no time above the latest

abbrev pub BoundedVisit : ℕ → Visit → Type 0
BoundedVisit latest v = v.there ≡ true → (v.quiesce ≤ latest) × (v.release ≤ latest)

abbrev pub BoundedBody : ℕ → Body → Type 0
BoundedBody latest b = body_latest b ≤ latest

pub record Bounded (latest : ℕ) (w : View) : Type 0 where
  pub aborted : w.passage.status ≡ Status.Aborted
  pub visits : (s : ℕ) → BoundedVisit latest (w.visit s)
  pub mail : (k : ℕ) → BoundedBody latest (w.mail k).body

-- ---- all of it, for one station

pub record Watch (latest site : ℕ) (g : Known) (w : View) : Type 0 where
  -- a round of an aborted passage that is open is a terminate
  pub ending :
      w.passage.status ≡ Status.Aborted
      → (w.passage.round.phase ≡ Phase.None) ⊎ (w.passage.round.kind ≡ Kind.Terminate)
  -- without a commit round there is no trace of one, and a free slot has none
  pub plain : (g.commit ≡ false) ⊎ (w.passage.status ≡ Status.Free) → Plain w
  pub watched : g.watched ≡ true → Plain w × Bounded latest w
  -- once cleared, no visit there, and the clock keeps any call out
  pub cleared : g.cleared ≡ true → g.watched ≡ true → ((w.visit site).there ≡ false) × (latest ≤ w.clock site)
