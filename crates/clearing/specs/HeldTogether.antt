-- What "fits" rests on: values that were all held together at the check's prepare, and a commit.
-- What "no reading" leaves: an aborted passage, and every message as it was.
-- Of any tables that a program can hold, reached by a run or not. Assumes nothing.
use Rattle.std.specs.Prelude.{ℕ, ◌+◌, ◌≤◌, ◌<◌, ◌≡◌, true, false, List, length, get_or}
use Rattle.rules.specs.declared.tables.Status.{Status}
use Rattle.rules.specs.declared.tables.Tables.{Tables}
use Rattle.rules.specs.declared.steps.Step.{Step}
use Rattle.rules.specs.Tables.{object_at, passage_at, message_at}
use Rattle.rules.specs.Answers.{is_accepted}
use Rattle.rules.specs.Parts.{is_empty, is_held_by}
use Rattle.rules.specs.Machine.{step_of}
use Rattle.rules.specs.Record.{flat_of, is_step}
use Rattle.clearing.specs.declared.way.Way.{Way}
use Rattle.clearing.specs.declared.Cleared.{Cleared}
use Rattle.clearing.specs.Question.{listed}
use Rattle.clearing.specs.Clearing.{given_up, handle_of}

-- in these tables the slot holds each object of the list, the width shown is its value, and beam plus margin is at most it
pub record HeldTogether (t : Tables) (slot beam margin : ℕ) (objects widths : List ℕ) : Type 0 where
  pub holds : (i : ℕ) → i < length objects → is_held_by slot (object_at t (listed objects i)) ≡ true
  pub shown : (i : ℕ) → i < length objects → (object_at t (listed objects i)).value ≡ get_or widths i 0
  pub fits : (i : ℕ) → i < length objects → beam + margin ≤ get_or widths i 0

-- what "fits" rests on, of the tables before the check's prepare and of the check at its close:
-- the prepare was accepted, before it and after it all was held together, and the close was accepted and committed the passage
pub record FitsOn (before : Tables) (last : Way) (slot beam margin : ℕ) (objects : List ℕ) (c : Cleared) : Type 0 where
  pub count : c.count ≡ length objects
  pub prepared : is_accepted (step_of before (Step.Prepare (handle_of c))).answer ≡ true
  pub held_before : HeldTogether before slot beam margin objects c.widths
  pub held_after : HeldTogether (step_of before (Step.Prepare (handle_of c))).tables slot beam margin objects c.widths
  pub closed : is_accepted last.answer ≡ true
  pub closes : last.step ≡ Step.Close (handle_of c)
  pub committed : (passage_at last.tables slot).status ≡ Status.Committed

-- what a check leaves that was refused at its step w: its abort was accepted, and its drop after a refused delivery, and these are its last steps;
-- its passage is aborted, every message slot that was empty is empty again, and every other is as it was
pub record Leaves (t : Tables) (slot : ℕ) (w : Way) (c : Cleared) : Type 0 where
  pub left : c.tables ≡ given_up (handle_of c) w
  pub aborts : is_accepted (step_of w.tables (Step.Abort (handle_of c))).answer ≡ true
  pub drops :
      is_step 11 w.step ≡ true
      → is_accepted (step_of (step_of w.tables (Step.Abort (handle_of c))).tables (Step.Drop (flat_of w.step).c)).answer ≡ true
  pub aborted : (passage_at c.tables slot).status ≡ Status.Aborted
  pub emptied : (m : ℕ) → is_empty (message_at t m).body ≡ true → is_empty (message_at c.tables m).body ≡ true
  pub others : (m : ℕ) → is_empty (message_at t m).body ≡ false → message_at c.tables m ≡ message_at t m
