-- A check ends in one of four ways: refused by itself, never begun, given up, committed. Assumes nothing.
use Rattle.std.specs.Prelude.{ℕ, ◌≡◌, false, List, length, Some, None, Ok, Err}
use Rattle.rules.specs.declared.tables.Tables.{Tables}
use Rattle.rules.specs.declared.steps.Step.{Step}
use Rattle.rules.specs.declared.outcomes.Refusal.{Refusal}
use Rattle.clearing.specs.declared.way.Way.{Way}
use Rattle.clearing.specs.declared.OwnRefusal.{OwnRefusal}
use Rattle.clearing.specs.declared.Cleared.{Cleared}
use Rattle.clearing.specs.Question.{bad_beam, bad_margin, bad_list, bad_object, names_twice}
use Rattle.clearing.specs.Clearing.{handle_in, widths_up_to, read_count, read_all, close_made, tells_up_to, given_up, refused_by, no_reading, committed, begun_of}

-- ---- a check that was begun, part by part

module _ (t : Tables) (objects : List ℕ) (home slot quiesce release : ℕ) where
  -- after its begin, and the handle that begin answered
  abbrev pub beginning : Way
  beginning = begun_of t home slot quiesce release

  abbrev pub handle : ℕ
  handle = handle_in beginning

  -- the tables before its prepare: all is read
  abbrev pub before_prepare : Tables
  before_prepare = (read_all handle home objects beginning).tables

  abbrev pub widths_read : List ℕ
  widths_read = widths_up_to handle home objects beginning (length objects)

  -- at its close, or at the step that was refused before it
  abbrev pub closing : Way
  closing = close_made handle home objects beginning

-- ---- how it ends

module _ (t : Tables) (beam margin : ℕ) (objects : List ℕ) (home slot quiesce release : ℕ) where
  abbrev begun : Way
  begun = beginning t objects home slot quiesce release

  abbrev h : ℕ
  h = handle t objects home slot quiesce release

  abbrev last : Way
  last = closing t objects home slot quiesce release

  -- what its own refusals let pass
  pub record Fair : Type 0 where
    pub beam_fair : bad_beam beam ≡ false
    pub margin_fair : bad_margin margin ≡ false
    pub list_fair : bad_list objects ≡ false
    pub objects_fair : bad_object objects ≡ false
    pub once : names_twice objects ≡ false

  pub data Ends (c : Cleared) : Type 0 where
    Refused : (own : OwnRefusal) → c ≡ refused_by own t → Ends c
    Unbegun :
        (r : Refusal) → begun.answer ≡ Err r
        → c ≡ no_reading None 0 (Step.Begin home slot quiesce release) r begun.tables → Ends c
    GivenUp :
        (v : ℕ) (r : Refusal) → begun.answer ≡ Ok v → last.answer ≡ Err r
        → c ≡ no_reading (Some h) (read_count h home objects begun (length objects)) last.step r (given_up h last) → Ends c
    Committed :
        (v u : ℕ) → Fair → begun.answer ≡ Ok v → last.answer ≡ Ok u
        → c ≡ committed beam margin (widths_read t objects home slot quiesce release) (length objects) h (tells_up_to h home objects last.tables 8) → Ends c
