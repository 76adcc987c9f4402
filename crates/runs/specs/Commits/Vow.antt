-- What a commit round binds, for one passage slot: clauses beside those of the time rule. Assumes nothing.
use Rattle.std.specs.Prelude.{ℕ, ◌≡◌, ◌⊎◌, true, false}
use Rattle.runs.specs.Types.{Kind, Phase, Status, Passage}
use Rattle.runs.specs.Walk.Says.{is_binding, carries_commit}
use Rattle.runs.specs.Times.View.{View, Ledger}
use Rattle.runs.specs.Moves.Definitions.{is_answer}

-- which round a passage of each status has: an active one has bound nothing, a committing one is asking and a committed one telling,
-- and an aborted one has no round open but a terminate
abbrev pub RoundFor : Status → Kind → Phase → Type 0
RoundFor Status.Free kind phase = Unit {0}
RoundFor Status.Active kind phase = is_binding kind ≡ false
RoundFor Status.Committing kind phase = (kind ≡ Kind.Prepare) × (phase ≡ Phase.One)
RoundFor Status.Aborted kind phase = (phase ≡ Phase.None) ⊎ (kind ≡ Kind.Terminate)
RoundFor Status.Committed kind phase = (kind ≡ Kind.Prepare) × (phase ≡ Phase.Two)

abbrev pub RoundFits : Passage → Type 0
RoundFits p = RoundFor p.status p.round.kind p.round.phase

pub record Vow (w : View) (l : Ledger) : Type 0 where
  pub round : RoundFits w.passage
  -- while a commit round asks, a site that has its number has its visit there, and prepared
  pub asked :
      w.passage.round.kind ≡ Kind.Prepare → w.passage.round.phase ≡ Phase.One
      → (s : ℕ) → (l s).seen ≡ true → (l s).last.round ≡ w.passage.round.number
      → ((w.visit s).there ≡ true) × ((w.visit s).prepared ≡ true)
  -- once it tells, every visit that is there is prepared, and has its number
  pub told :
      w.passage.round.kind ≡ Kind.Prepare → w.passage.round.phase ≡ Phase.Two
      → (s : ℕ) → (w.visit s).there ≡ true
      → ((w.visit s).prepared ≡ true) × ((w.visit s).round ≡ w.passage.round.number)
  -- a commit's word in flight is that of a committed passage
  pub word : (k : ℕ) → carries_commit (w.mail k).body ≡ true → w.passage.status ≡ Status.Committed
  -- an answer in flight goes to home
  pub answers : (k : ℕ) → is_answer (w.mail k).body ≡ true → (w.mail k).destination ≡ w.passage.home
