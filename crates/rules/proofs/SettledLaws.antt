-- Every decision is settled by its checks, of which none gives 20 and whose numbers rise: one row to a step and one to a message's body.
-- That a refusal leaves what was seen, that no step gives 20, and that a refusal is the lowest that applies, is read from these rows. Assumes nothing.
use Rattle.std.specs.Prelude.{ℕ, ◌<◌, ◌≤◌, ◌≡◌, refl, Bool, true, false, not, ◌&&◌, ◌||◌, List, [], ◌∷◌, eqb, leb, ltb, Err}
use Rattle.std.proofs.Common.{arith, sym, subst, ◌∙◌, ⊎_elim, eq-eqb, ne_eqb, eqb-true, ltb-true}
use Rattle.std.proofs.lemmas.Bool.{false≢true}
use Rattle.rules.specs.Types.{Body, Step, Refusal, Answer, Check, Seen, Found, Decision}
use Rattle.rules.specs.Answers.{refuse, refusal_number, answer_number, is_accepted, first_refusal, settle_of}
use Rattle.rules.specs.AnswersLaws.{refusal_not_zero, Clear, holds_of, settle_refused, accepted_fine}
use Rattle.rules.specs.LoopsLaws.{and_left, and_right, not_true, either}
use Rattle.rules.specs.Checks.{bad_handle, bad_times, bad_message, no_mail}
use Rattle.rules.specs.Parts.{is_active, is_running, is_aborted, asks_life, tells_life}
use Rattle.rules.specs.Stations.{tick_checks, tick_of, sweep_checks, sweep_of, crash_checks, crash_of, recover_checks, recover_of}
use Rattle.rules.specs.Passages.{begin_checks, begin_of, abort_checks, abort_of, retire_checks, retire_of}
use Rattle.rules.specs.Rounds.{open_checks, open_of, refresh_of, terminate_of, prepare_of, ask_checks, ask_of, close_checks, close_of, tell_checks, tell_of}
use Rattle.rules.specs.Calls.{mail_clock, invoke_checks, invoke_of, empty_of, call_checks, deliver_call_of, reply_checks, deliver_reply_of, round_checks, deliver_phase_one_of, deliver_phase_two_of, answer_checks, deliver_answer_of, deliver_body_of, drop_of}
use Rattle.rules.specs.Machine.{decide_of}

-- ---- number 20 and a list of checks

abbrev pub is_twenty : Answer → Bool
is_twenty a = eqb (answer_number a) 20

-- none of these checks gives 20
abbrev no_twenty : List Check → Bool
no_twenty [] = true
no_twenty (c ∷ cs) = not (eqb (refusal_number c.gives) 20) && no_twenty cs

first_not_twenty : (cs : List Check) (v : ℕ) → no_twenty cs ≡ true → is_twenty (first_refusal cs v) ≡ false
unfolding first_refusal
first_not_twenty [] v e = refl
first_not_twenty (c ∷ cs) v e =
    ⊎_elim
    (λ h. rw h (not_true _ (and_left _ (no_twenty cs) e)))
    (λ h. rw h (first_not_twenty cs v (and_right (not (eqb (refusal_number c.gives) 20)) (no_twenty cs) e)))
    (either c.holds)

-- ---- rising numbers

-- the numbers of these checks rise, from above n
abbrev pub is_rising : ℕ → List Check → Bool
is_rising n [] = true
is_rising n (c ∷ cs) = ltb n (refusal_number c.gives) && is_rising (refusal_number c.gives) cs

-- every check of the list that holds has a number of n or more
abbrev pub NoneBelow : ℕ → List Check → Type 0
NoneBelow n [] = Unit {0}
NoneBelow n (c ∷ cs) = (c.holds ≡ true → n ≤ refusal_number c.gives) × NoneBelow n cs

rising_above : (cs : List Check) (n k : ℕ) → n ≤ k → is_rising k cs ≡ true → NoneBelow n cs
rising_above [] n k l e = tt
rising_above (c ∷ cs) n k l e =
    let i : k < refusal_number c.gives = ltb-true _ _ (and_left _ (is_rising (refusal_number c.gives) cs) e) in
    (λ h. omega arith, rising_above cs n (refusal_number c.gives) (omega arith) (and_right (ltb k (refusal_number c.gives)) _ e))

first_given : (c : Check) (cs : List Check) (v : ℕ) → c.holds ≡ true → first_refusal (c ∷ cs) v ≡ Err c.gives
unfolding first_refusal
first_given c cs v h = rw h

first_passed : (c : Check) (cs : List Check) (v : ℕ) → c.holds ≡ false → first_refusal (c ∷ cs) v ≡ first_refusal cs v
unfolding first_refusal
first_passed c cs v h = rw h

-- so the first that holds is the lowest that holds
first_lowest : (cs : List Check) (v k : ℕ) → is_rising k cs ≡ true → NoneBelow (answer_number (first_refusal cs v)) cs
first_lowest [] v k e = tt
first_lowest (c ∷ cs) v k e =
    let rest : is_rising (refusal_number c.gives) cs ≡ true = and_right (ltb k (refusal_number c.gives)) _ e in
    ⊎_elim
    (λ h. subst
    (λ (a : Answer). NoneBelow (answer_number a) (c ∷ cs))
    (sym (first_given c cs v h))
    (λ y. omega arith, rising_above cs (refusal_number c.gives) (refusal_number c.gives) (omega arith) rest))
    (λ h. subst
    (λ (a : Answer). NoneBelow (answer_number a) (c ∷ cs))
    (sym (first_passed c cs v h))
    (λ y. absurd (false≢true (sym h ∙ y)), first_lowest cs v (refusal_number c.gives) rest))
    (either c.holds)

-- a refusal whose check holds has a number above those of the checks before
rising_holds : (cs : List Check) (k : ℕ) (r : Refusal) → is_rising k cs ≡ true → holds_of r cs ≡ true → k < refusal_number r
rising_holds [] k r e h = absurd (false≢true h)
rising_holds (c ∷ cs) k r e h =
    let i : k < refusal_number c.gives = ltb-true _ _ (and_left _ (is_rising (refusal_number c.gives) cs) e) in
    ⊎_elim
    (λ q. let w : refusal_number c.gives ≡ refusal_number r = eqb-true _ _ q in omega arith)
    (λ q.
    let j : refusal_number c.gives < refusal_number r =
    rising_holds cs (refusal_number c.gives) r (and_right (ltb k (refusal_number c.gives)) _ e) (rw q at h) in
    omega arith)
    (either (eqb (refusal_number c.gives) (refusal_number r)))

-- so where a refusal is given, its own check holds
first_holds :
    (cs : List Check) (v k : ℕ) (r : Refusal) → is_rising k cs ≡ true → answer_number (first_refusal cs v) ≡ refusal_number r
    → holds_of r cs ≡ true
unfolding first_refusal
first_holds [] v k r e n = absurd (refusal_not_zero r (sym n))
first_holds (c ∷ cs) v k r e n =
    let rest : is_rising (refusal_number c.gives) cs ≡ true = and_right (ltb k (refusal_number c.gives)) _ e in
    ⊎_elim
    (λ h. let w : refusal_number c.gives ≡ refusal_number r = rw h at n in rw (eq-eqb _ _ w) h)
    (λ h.
    let held : holds_of r cs ≡ true = first_holds cs v (refusal_number c.gives) r rest (rw h at n) in
    let above : refusal_number c.gives < refusal_number r = rising_holds cs (refusal_number c.gives) r rest held in
    rw (ne_eqb _ _ (λ (w : refusal_number c.gives ≡ refusal_number r). omega arith)) held)
    (either c.holds)

-- where a check holds, its refusal is given or one of a lower number
first_named :
    (cs : List Check) (v k : ℕ) (r : Refusal) → is_rising k cs ≡ true → holds_of r cs ≡ true
    → (1 ≤ answer_number (first_refusal cs v)) × (answer_number (first_refusal cs v) ≤ refusal_number r)
unfolding first_refusal
first_named [] v k r e h = absurd (false≢true h)
first_named (c ∷ cs) v k r e h =
    let i : k < refusal_number c.gives = ltb-true _ _ (and_left _ (is_rising (refusal_number c.gives) cs) e) in
    let rest : is_rising (refusal_number c.gives) cs ≡ true = and_right (ltb k (refusal_number c.gives)) _ e in
    ⊎_elim
    (λ q.
    let w : refusal_number c.gives ≡ refusal_number r = eqb-true _ _ q in
    let y : c.holds ≡ true = rw q at h in
    rw y (omega arith, omega arith))
    (λ (q : eqb (refusal_number c.gives) (refusal_number r) ≡ false).
    let held : holds_of r cs ≡ true = rw q at h in
    let above : refusal_number c.gives < refusal_number r = rising_holds cs (refusal_number c.gives) r rest held in
    ⊎_elim (λ y. rw y (omega arith, omega arith)) (λ y. rw y (first_named cs v (refusal_number c.gives) r rest held)) (either c.holds))
    (either (eqb (refusal_number c.gives) (refusal_number r)))

-- where no check below n holds, that of a refusal below n does not
lower_holds_not : (cs : List Check) (n : ℕ) (s : Refusal) → NoneBelow n cs → refusal_number s < n → holds_of s cs ≡ false
lower_holds_not [] n s b l = refl
lower_holds_not (c ∷ cs) n s b l =
    ⊎_elim
    (λ q.
    let w : refusal_number c.gives ≡ refusal_number s = eqb-true _ _ q in
    rw q (⊎_elim (λ h. let i = b.0 h in absurd (omega arith)) (λ h. h) (either c.holds)))
    (λ q. rw q (lower_holds_not cs n s b.1 l))
    (either (eqb (refusal_number c.gives) (refusal_number s)))

-- ---- the checks of every step, in the order in which they are tried

-- of a delivery, by what the message slot holds
abbrev pub delivery_checks : Body → ℕ → Seen → List Check
delivery_checks Body.Empty m seen = refuse Refusal.BadField (bad_message m) ∷ no_mail seen ∷ []
delivery_checks (Body.Call c) m seen = call_checks m c seen
delivery_checks (Body.PhaseOne n a) m seen = round_checks m (asks_life a) (leb n seen.visit.round) (mail_clock seen) seen
delivery_checks (Body.PhaseTwo n d) m seen = round_checks m (tells_life d) (not (eqb n seen.visit.round)) (mail_clock seen) seen
delivery_checks (Body.Answer n r q) m seen = answer_checks m n seen
delivery_checks (Body.Reply value) m seen = reply_checks m seen

-- by the step
abbrev pub checks_of : Step → Found → Seen → List Check
checks_of (Step.Tick site n) found seen = tick_checks site n seen
checks_of (Step.Begin home slot q r) found seen = begin_checks home slot q r seen
checks_of (Step.Invoke h site write object value) found seen = invoke_checks h site write object value seen
checks_of (Step.Refresh h q r) found seen = open_checks h (bad_handle h || bad_times q r) (not (is_active seen.passage.status)) seen
checks_of (Step.Terminate h) found seen = open_checks h (bad_handle h) (not (is_aborted seen.passage.status)) seen
checks_of (Step.Prepare h) found seen = open_checks h (bad_handle h) (not (is_running seen.passage.status)) seen
checks_of (Step.Ask h site) found seen = ask_checks h site seen
checks_of (Step.Close h) found seen = close_checks h seen
checks_of (Step.Tell h site) found seen = tell_checks h site seen
checks_of (Step.Abort h) found seen = abort_checks h seen
checks_of (Step.Deliver m) found seen = delivery_checks seen.message.body m seen
checks_of (Step.Drop m) found seen = refuse Refusal.BadField (bad_message m) ∷ no_mail seen ∷ []
checks_of (Step.Sweep site) found seen = sweep_checks site seen
checks_of (Step.Crash site) found seen = crash_checks site seen
checks_of (Step.Recover site) found seen = recover_checks site seen
checks_of (Step.Retire h) found seen = retire_checks h found.remains seen

-- ---- what it is to be settled

-- this decision is settled by these checks: the first of them that holds is the answer, and a refusal leaves what was seen
record Checked (cs : List Check) (d : Decision) (seen : Seen) : Type 0 where
  value : ℕ
  left : Seen
  decided : d ≡ settle_of (record { answer = first_refusal cs value; left = left }) seen
  twentyless : no_twenty cs ≡ true
  rising : is_rising 0 cs ≡ true

settles :
    (cs : List Check) (v : ℕ) (left seen : Seen) → no_twenty cs ≡ true → is_rising 0 cs ≡ true
    → Checked cs (settle_of (record { answer = first_refusal cs v; left = left }) seen) seen
settles cs v left seen e r = record { value = v; left = left; decided = refl; twentyless = e; rising = r }

module _ (cs : List Check) (d : Decision) (seen : Seen) (s : Checked cs d seen) where
  checked_refused : is_accepted d.answer ≡ false → d.left ≡ seen
  checked_refused e =
      rw s.decided (settle_refused (record { answer = first_refusal cs s.value; left = s.left }) seen (rw s.decided at e))

  checked_not_twenty : is_twenty d.answer ≡ false
  checked_not_twenty = rw s.decided (first_not_twenty cs s.value s.twentyless)

  checked_answer : d.answer ≡ first_refusal cs s.value
  checked_answer = rw s.decided

-- by what the message slot holds
delivered_checked : (b : Body) (m : ℕ) (seen : Seen) → Checked (delivery_checks b m seen) (deliver_body_of b m seen) seen
unfolding deliver_body_of empty_of deliver_call_of deliver_phase_one_of deliver_phase_two_of deliver_answer_of deliver_reply_of
delivered_checked Body.Empty m seen = settles _ _ _ seen refl refl
delivered_checked (Body.Call c) m seen = settles _ _ _ seen refl refl
delivered_checked (Body.PhaseOne n a) m seen = settles _ _ _ seen refl refl
delivered_checked (Body.PhaseTwo n d) m seen = settles _ _ _ seen refl refl
delivered_checked (Body.Answer n r q) m seen = settles _ _ _ seen refl refl
delivered_checked (Body.Reply value) m seen = settles _ _ _ seen refl refl

-- the first check of every delivery asks for the message slot
first_asks : (b : Body) (m : ℕ) (seen : Seen) → Clear (delivery_checks b m seen) → bad_message m ≡ false
first_asks Body.Empty m seen f = f.0
first_asks (Body.Call c) m seen f = f.0
first_asks (Body.PhaseOne n a) m seen f = f.0
first_asks (Body.PhaseTwo n d) m seen f = f.0
first_asks (Body.Answer n r q) m seen f = f.0
first_asks (Body.Reply value) m seen f = f.0

-- an accepted delivery names a message slot that there is
pub delivered_named : (b : Body) (m : ℕ) (seen : Seen) → is_accepted (deliver_body_of b m seen).answer ≡ true → bad_message m ≡ false
delivered_named b m seen e =
    let s = delivered_checked b m seen in
    first_asks b m seen (accepted_fine (delivery_checks b m seen) s.value (rw s.decided at e)).all

-- ---- by the step

step_checked : (step : Step) (found : Found) (seen : Seen) → Checked (checks_of step found seen) (decide_of step found seen) seen
unfolding decide_of tick_of sweep_of crash_of recover_of begin_of abort_of retire_of refresh_of terminate_of prepare_of open_of ask_of close_of tell_of invoke_of drop_of
step_checked (Step.Tick site n) found seen = settles _ _ _ seen refl refl
step_checked (Step.Begin home slot q r) found seen = settles _ _ _ seen refl refl
step_checked (Step.Invoke h site write object value) found seen = settles _ _ _ seen refl refl
step_checked (Step.Refresh h q r) found seen = settles _ _ _ seen refl refl
step_checked (Step.Terminate h) found seen = settles _ _ _ seen refl refl
step_checked (Step.Prepare h) found seen = settles _ _ _ seen refl refl
step_checked (Step.Ask h site) found seen = settles _ _ _ seen refl refl
step_checked (Step.Close h) found seen = settles _ _ _ seen refl refl
step_checked (Step.Tell h site) found seen = settles _ _ _ seen refl refl
step_checked (Step.Abort h) found seen = settles _ _ _ seen refl refl
step_checked (Step.Deliver m) found seen = delivered_checked seen.message.body m seen
step_checked (Step.Drop m) found seen = settles _ _ _ seen refl refl
step_checked (Step.Sweep site) found seen = settles _ _ _ seen refl refl
step_checked (Step.Crash site) found seen = settles _ _ _ seen refl refl
step_checked (Step.Recover site) found seen = settles _ _ _ seen refl refl
step_checked (Step.Retire h) found seen = settles _ _ _ seen refl refl

-- the first of its checks that holds is the answer of every decision, and where none does it is accepted
pub decided_by_checks : (step : Step) (found : Found) (seen : Seen) → (v : ℕ) × ((decide_of step found seen).answer ≡ first_refusal (checks_of step found seen) v)
decided_by_checks step found seen =
    ((step_checked step found seen).value, checked_answer _ (decide_of step found seen) seen (step_checked step found seen))

-- the refusal numbers of the checks of every step rise
pub checks_rise : (step : Step) (found : Found) (seen : Seen) → is_rising 0 (checks_of step found seen) ≡ true
checks_rise step found seen = (step_checked step found seen).rising

-- so a refusal has the lowest number of all that apply: no check that holds has a lower one
pub lowest_refuses : (step : Step) (found : Found) (seen : Seen) → NoneBelow (answer_number (decide_of step found seen).answer) (checks_of step found seen)
lowest_refuses step found seen =
    rw
    (decided_by_checks step found seen).1
    (first_lowest (checks_of step found seen) (decided_by_checks step found seen).0 0 (checks_rise step found seen))

-- what it says that a decision gives this refusal: its own check holds, and none of a lower number
pub record RefusedBy (r : Refusal) (cs : List Check) : Type 0 where
  pub holds : holds_of r cs ≡ true
  pub lower : (s : Refusal) → refusal_number s < refusal_number r → holds_of s cs ≡ false

pub decided_refused_by :
    (step : Step) (found : Found) (seen : Seen) (r : Refusal) → answer_number (decide_of step found seen).answer ≡ refusal_number r
    → RefusedBy r (checks_of step found seen)
decided_refused_by step found seen r n =
    record {
      holds =
          first_holds (checks_of step found seen) (decided_by_checks step found seen).0 0 r (checks_rise step found seen)
          (rw (decided_by_checks step found seen).1 at n);
      lower = λ s. lower_holds_not (checks_of step found seen) (refusal_number r) s (rw n at (lowest_refuses step found seen));
    }

-- and where a check holds, its refusal is given or one of a lower number
pub decided_named :
    (step : Step) (found : Found) (seen : Seen) (r : Refusal) → holds_of r (checks_of step found seen) ≡ true
    → (1 ≤ answer_number (decide_of step found seen).answer) × (answer_number (decide_of step found seen).answer ≤ refusal_number r)
decided_named step found seen r h =
    rw (decided_by_checks step found seen).1
    (first_named (checks_of step found seen) (decided_by_checks step found seen).0 0 r (checks_rise step found seen) h)

-- a refused decision leaves what was seen
pub decided_refused :
    (step : Step) (found : Found) (seen : Seen) → is_accepted (decide_of step found seen).answer ≡ false
    → (decide_of step found seen).left ≡ seen
decided_refused step found seen = checked_refused _ (decide_of step found seen) seen (step_checked step found seen)

pub decided_not_twenty : (step : Step) (found : Found) (seen : Seen) → is_twenty (decide_of step found seen).answer ≡ false
decided_not_twenty step found seen = checked_not_twenty _ (decide_of step found seen) seen (step_checked step found seen)
