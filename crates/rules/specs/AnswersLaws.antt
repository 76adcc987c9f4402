-- Laws of the answers: that the numbers tell the refusals apart, what an accepted answer says of every check, and what a refused decision leaves.
-- Assumes nothing.
use Rattle.std.specs.Prelude.{ℕ, ◌-◌, ◌≤◌, ◌≡◌, refl, ◌≢◌, Bool, true, false, cond, List, [], ◌∷◌, eqb, get_or, Ok, Err}
use Rattle.std.proofs.Common.{arith, sym, ap, ◌∙◌, ⊎_elim}
use Rattle.std.proofs.lemmas.Bool.{false≢true}
use Rattle.rules.specs.Types.{Refusal, Answer, Check, Seen, Decision}
use Rattle.rules.specs.Answers.{refusal_number, answer_number, is_accepted, first_refusal, settle_of}
use Rattle.rules.specs.LoopsLaws.{either, cond_keeps}

-- ---- the numbers

-- the refusals by number from 1; 20 stands past the end
abbrev by_number : List Refusal
by_number =
    Refusal.NoStep ∷ Refusal.BadField ∷ Refusal.NotThere ∷ Refusal.SiteDown ∷ Refusal.WrongState
    ∷ Refusal.NoVisit ∷ Refusal.ClockFull ∷ Refusal.Quiesced ∷ Refusal.WrongRound ∷ Refusal.Held
    ∷ Refusal.Full ∷ Refusal.NotClosed ∷ Refusal.NoCallLeft ∷ Refusal.NoRoundLeft ∷ []

-- a number is a refusal's own
record Numbered (r : Refusal) : Type 0 where
  back : get_or by_number (refusal_number r - 1) Refusal.OutOfRange ≡ r
  above : 1 ≤ refusal_number r

numbered : (r : Refusal) → Numbered r
numbered Refusal.OutOfRange = record { back = refl; above = omega arith }
numbered Refusal.NoStep = record { back = refl; above = omega arith }
numbered Refusal.BadField = record { back = refl; above = omega arith }
numbered Refusal.NotThere = record { back = refl; above = omega arith }
numbered Refusal.SiteDown = record { back = refl; above = omega arith }
numbered Refusal.WrongState = record { back = refl; above = omega arith }
numbered Refusal.NoVisit = record { back = refl; above = omega arith }
numbered Refusal.ClockFull = record { back = refl; above = omega arith }
numbered Refusal.Quiesced = record { back = refl; above = omega arith }
numbered Refusal.WrongRound = record { back = refl; above = omega arith }
numbered Refusal.Held = record { back = refl; above = omega arith }
numbered Refusal.Full = record { back = refl; above = omega arith }
numbered Refusal.NotClosed = record { back = refl; above = omega arith }
numbered Refusal.NoCallLeft = record { back = refl; above = omega arith }
numbered Refusal.NoRoundLeft = record { back = refl; above = omega arith }

-- no refusal has number 0, which is that of an accepted step
pub refusal_not_zero : (r : Refusal) → refusal_number r ≢ 0
refusal_not_zero r e = omega (arith, e, (numbered r).above)

-- no two refusals have one number
pub refusals_differ : (r s : Refusal) → refusal_number r ≡ refusal_number s → r ≡ s
refusals_differ r s e =
    sym (numbered r).back ∙ ap (λ (n : ℕ). get_or by_number (n - 1) Refusal.OutOfRange) e ∙ (numbered s).back

-- so an answer has number 0 exactly if it is accepted
pub accepted_is_zero : (a : Answer) → (is_accepted a ≡ true → answer_number a ≡ 0) × (answer_number a ≡ 0 → is_accepted a ≡ true)
accepted_is_zero (Ok v) = (λ e. refl, λ e. refl)
accepted_is_zero (Err r) = (λ e. absurd (false≢true e), λ e. absurd (refusal_not_zero r e))

-- ---- checks and decisions

-- no check of the list holds, check by check
abbrev pub Clear : List Check → Type 0
Clear [] = Unit {0}
Clear (c ∷ cs) = (c.holds ≡ false) × Clear cs

-- what the first check asks that gives this refusal; false where none does
abbrev pub holds_of : Refusal → List Check → Bool
holds_of r [] = false
holds_of r (c ∷ cs) = cond (eqb (refusal_number c.gives) (refusal_number r)) c.holds (holds_of r cs)

-- What an accepted step has passed: every check of its list, and by name the first that gives each refusal.
-- A check of another refusal, put between two others, leaves every name as it is.
-- A field says that its check did not hold, and not what the check asks: that stays with the definition.
pub record Fine (cs : List Check) : Type 0 where
  pub all : Clear cs
  -- 2
  pub fields : holds_of Refusal.BadField cs ≡ false
  -- 3
  pub found : holds_of Refusal.NotThere cs ≡ false
  -- 4
  pub up : holds_of Refusal.SiteDown cs ≡ false
  -- 5
  pub state : holds_of Refusal.WrongState cs ≡ false
  -- 6
  pub there : holds_of Refusal.NoVisit cs ≡ false
  -- 7
  pub clock : holds_of Refusal.ClockFull cs ≡ false
  -- 8
  pub early : holds_of Refusal.Quiesced cs ≡ false
  -- 9
  pub round : holds_of Refusal.WrongRound cs ≡ false
  -- 10
  pub unheld : holds_of Refusal.Held cs ≡ false
  -- 11
  pub room : holds_of Refusal.Full cs ≡ false
  -- 12
  pub closed : holds_of Refusal.NotClosed cs ≡ false
  -- 13
  pub calls_left : holds_of Refusal.NoCallLeft cs ≡ false
  -- 14
  pub rounds_left : holds_of Refusal.NoRoundLeft cs ≡ false

none_gives : (r : Refusal) (cs : List Check) → Clear cs → holds_of r cs ≡ false
none_gives r [] f = refl
none_gives r (c ∷ cs) f =
    cond_keeps (λ (x : Bool). x ≡ false) (eqb (refusal_number c.gives) (refusal_number r)) c.holds _ f.0 (none_gives r cs f.1)

clear_fine : (cs : List Check) → Clear cs → Fine cs
clear_fine cs f =
    record {
      all = f;
      fields = none_gives Refusal.BadField cs f;
      found = none_gives Refusal.NotThere cs f;
      up = none_gives Refusal.SiteDown cs f;
      state = none_gives Refusal.WrongState cs f;
      there = none_gives Refusal.NoVisit cs f;
      clock = none_gives Refusal.ClockFull cs f;
      early = none_gives Refusal.Quiesced cs f;
      round = none_gives Refusal.WrongRound cs f;
      unheld = none_gives Refusal.Held cs f;
      room = none_gives Refusal.Full cs f;
      closed = none_gives Refusal.NotClosed cs f;
      calls_left = none_gives Refusal.NoCallLeft cs f;
      rounds_left = none_gives Refusal.NoRoundLeft cs f;
    }

accepted_clear : (cs : List Check) (v : ℕ) → is_accepted (first_refusal cs v) ≡ true → Clear cs
unfolding first_refusal
accepted_clear [] v e = tt
accepted_clear (c ∷ cs) v e =
    ⊎_elim
    (λ h. absurd (false≢true (rw h at e)))
    (λ h. (h, accepted_clear cs v (rw h at e)))
    (either c.holds)

-- an accepted answer says that no check holds
pub accepted_fine : (cs : List Check) (v : ℕ) → is_accepted (first_refusal cs v) ≡ true → Fine cs
accepted_fine cs v e = clear_fine cs (accepted_clear cs v e)

-- and where none holds, the step is accepted with its value
clear_accepted : (cs : List Check) (v : ℕ) → Clear cs → first_refusal cs v ≡ Ok v
unfolding first_refusal
clear_accepted [] v f = refl
clear_accepted (c ∷ cs) v f = rw f.0 (clear_accepted cs v f.1)

pub accepted_value : (cs : List Check) (v : ℕ) → is_accepted (first_refusal cs v) ≡ true → first_refusal cs v ≡ Ok v
accepted_value cs v e = clear_accepted cs v (accepted_clear cs v e)

-- a refused decision leaves what was seen, an accepted one what was decided
pub settle_refused : (d : Decision) (seen : Seen) → is_accepted d.answer ≡ false → (settle_of d seen).left ≡ seen
settle_refused d seen e = rw e

pub settle_accepted : (d : Decision) (seen : Seen) → is_accepted d.answer ≡ true → (settle_of d seen).left ≡ d.left
settle_accepted d seen e = rw e
