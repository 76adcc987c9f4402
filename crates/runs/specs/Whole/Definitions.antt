-- What the theorems that end the story speak of: what a commit rests on, what it lets stand, and what was sent and done. Assumes nothing.
use Rattle.std.specs.Prelude.{ℕ, ◌%◌, ◌≡◌, ◌⊎◌, Bool, true, false, ◌&&◌, ◌||◌, List, [], ◌∷◌, ◌++◌}
use Rattle.rules.specs.Tables.{object_at, passage_at, message_at, object_site, slot_of}
use Rattle.rules.specs.Machine.{step_of}
use Rattle.rules.specs.Record.{flat_of}
use Rattle.rules.specs.Runs.{run_of, history_of}
use Rattle.rules.specs.Events.{is_holding}
use Rattle.runs.specs.Types.{Status, Call, Body, Tables, Step}
use Rattle.runs.specs.Orphans.Orphans.{is_retired}
use Rattle.runs.specs.Orphans.Widths.{rest_of}
use Rattle.runs.specs.Promises.Definitions.{Promised}
use Rattle.runs.specs.Operations.Definitions.{mail_named, operates, is_write, Finds, InvokedInto, RepliedInto, DoneAsSaid}

-- ---- what a commit rests on, and what it lets stand

-- what a commit of slot p rests on at object k, in tables after the steps ss, where the object was operated after the steps before
pub record RestsOn (t₀ : Tables) (before ss : List Step) (p k : ℕ) : Type 0 where
  pub promised : Promised (run_of t₀ ss) (object_site k) p
  pub holds : is_holding (run_of t₀ ss) p k ≡ true
  pub stands : rest_of t₀ ss k ≡ rest_of t₀ before k

pub record ChangedBy (t : Tables) (step : Step) (k : ℕ) : Type 0 where
  pub holder : ℕ
  pub held : is_holding t holder k ≡ true
  pub committed : (passage_at (step_of t step).tables holder).status ≡ Status.Committed

-- among these steps, run after the steps before, is one by which p let object k go, and right after it this was the width that stands.
-- (Where the slot is used again later, the letting go may be of the later use; but the theorem speaks of every list of steps, the shortest too)
pub record LetStand (t₀ : Tables) (before steps : List Step) (p k width : ℕ) : Type 0 where
  pub first : List Step
  pub step : Step
  pub rest : List Step
  pub all : steps ≡ first ++ step ∷ rest
  pub held : is_holding (run_of t₀ (before ++ first)) p k ≡ true
  pub let_go : is_holding (step_of (run_of t₀ (before ++ first)) step).tables p k ≡ false
  pub stands : rest_of t₀ ((before ++ first) ++ step ∷ []) k ≡ width

-- after these steps the passage holds the object with this value, or has let it go so
abbrev pub HeldOrLetStand : Tables → List Step → List Step → ℕ → ℕ → ℕ → Type 0
HeldOrLetStand t₀ before steps p k width =
    ((is_holding (run_of t₀ (before ++ steps)) p k ≡ true) × ((object_at (run_of t₀ (before ++ steps)) k).value ≡ width))
    ⊎ LetStand t₀ before steps p k width

-- ---- what was sent and done

-- message slot m holds a call of slot p
pub record CallOf (t : Tables) (p m : ℕ) : Type 0 where
  pub call : Call
  pub body : (message_at t m).body ≡ Body.Call call
  pub own : slot_of (message_at t m).handle ≡ p

-- among these steps is the delivery of message slot m, where the message has waited as it was, and it does what the invoke said
pub record DidAsSaid (t : Tables) (m h b k u : ℕ) (steps : List Step) : Type 0 where
  pub first : List Step
  pub rest : List Step
  pub all : steps ≡ first ++ Step.Deliver m ∷ rest
  pub waits : message_at (run_of t first) m ≡ message_at t m
  pub done : DoneAsSaid (run_of t first) h b k u (Step.Deliver m)

-- after the steps ss from t₀: among them is a step of this kind, and what stands in message slot m is what it left
pub record CameBefore (Into : Tables → Step → Type 0) (t₀ : Tables) (ss : List Step) (m : ℕ) : Type 0 where
  pub first : List Step
  pub step : Step
  pub rest : List Step
  pub all : ss ≡ first ++ step ∷ rest
  pub by : Into (run_of t₀ first) step
  pub waits : message_at (run_of t₀ ss) m ≡ message_at (step_of (run_of t₀ first) step).tables m

-- an accepted invoke among them answered the slot, and its call has waited there since
abbrev pub SentBefore : Tables → List Step → ℕ → Type 0
SentBefore t₀ ss m = CameBefore (λ t step. InvokedInto t step m) t₀ ss m

-- an accepted delivery among them, of a call in the slot, found v: the object had v before it. Its reply has waited there since
pub record RepliedBefore (t₀ : Tables) (ss : List Step) (m v : ℕ) : Type 0 where
  pub came : CameBefore (λ t step. RepliedInto t step m) t₀ ss m
  pub found : (object_at (run_of t₀ came.first) came.by.call.object).value ≡ v

-- an operation after the steps ss does what an invoke among them said, for the same slot
pub record WasInvoked (t₀ : Tables) (ss : List Step) (p k : ℕ) (s : Step) : Type 0 where
  pub sent : SentBefore t₀ ss ((flat_of s).c % 32)
  pub slot : slot_of sent.by.handle ≡ p
  pub object : sent.by.object ≡ k
  pub done : DoneAsSaid (run_of t₀ ss) sent.by.handle sent.by.operation sent.by.object sent.by.value s

-- ---- what was read

-- slot p holds object k, and this is its value
pub record HeldWith (t : Tables) (p k v : ℕ) : Type 0 where
  pub holds : is_holding t p k ≡ true
  pub value : (object_at t k).value ≡ v

-- is the step an accepted delivery of a write of slot p to object k?
abbrev pub writes : Tables → ℕ → ℕ → Step → Bool
writes t p k s = operates t p k s && is_write (mail_named t s).body

-- whether one of the steps is
unfoldable pub written_in : Tables → ℕ → ℕ → List Step → Bool
written_in t p k [] = false
written_in t p k (s ∷ ss) = writes t p k s || written_in (step_of t s).tables p k ss

-- among these steps from t₀ slot p read object k, by an accepted delivery that found v; since then it has not written k, and its slot is not retired.
-- (What it did to k before that read does not matter: the read found what it had left there.)
pub record HasRead (t₀ : Tables) (steps : List Step) (p k v : ℕ) : Type 0 where
  pub before : List Step
  pub read : Step
  pub since : List Step
  pub all : steps ≡ before ++ read ∷ since
  pub operated : operates (run_of t₀ before) p k read ≡ true
  pub reads : is_write (mail_named (run_of t₀ before) read).body ≡ false
  pub found : Finds (run_of t₀ before) read v
  pub unwritten : written_in (step_of (run_of t₀ before) read).tables p k since ≡ false
  pub same_use : is_retired p (history_of (run_of t₀ before) (read ∷ since)) ≡ false
