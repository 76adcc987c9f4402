-- Beside demand 3: at such a moment any station can be cleared of the passage, by a few steps of that station alone, all of them accepted.
-- A station whose clock stands at 2,000,000,000 accepts no step any more, so that no sweep is accepted there and demand 3 is empty;
-- it is the same with one that is down at 1,999,999,999, since a recover uses up the last. So this law leaves those two out.
-- It is of stations whose time passes by ticks, which is the only manner today: a station without ticks is not meant.
-- What the law says, in lists of steps and tables, stands in specs/Orphans/Clears; here are the law and its proof. Assumes nothing.
use Rattle.std.specs.Prelude.{ℕ, zero, suc, ◌+◌, ◌*◌, ◌-◌, ◌<◌, ◌≤◌, min, ◌≡◌, ◌⊎◌, false, leb, eqb}
use native.Mathlib.Omega.{arith}
use Rattle.std.proofs.Math.Path.{refl}
use Rattle.std.proofs.Common.{ap, ◌∙◌, inl, inr, leb-true, eqb-true}
use Rattle.std.proofs.Math.Logic.{⊎_elim}
use Rattle.std.proofs.Math.Bool.{true}
use mathlib.Core.List.{List, [], ◌∷◌, ◌++◌}
use Rattle.std.proofs.Math.ListN.{length}
use Rattle.std.proofs.lemmas.Bool.{eqb-false}
use Rattle.rules.specs.Limits.{clock_most, time_most, count_most, tick_most}
use Rattle.rules.specs.Loops.{most_up_to}
use Rattle.rules.specs.LoopsLaws.{either, most_below, cond_keeps}
use Rattle.rules.specs.Tables.{site_at, passage_at, visit_at, message_at}
use Rattle.rules.specs.Ranges.{asked_in_range, told_in_range, body_in_range, in_range}
use Rattle.rules.proofs.RangesLaws.{both, seen_in_range}
use Rattle.rules.proofs.RangesFits.{VisitFits, CallFits, call_range_says, SeenFits, seen_says}
use Rattle.rules.proofs.RangesKept.{in_range_after_steps, in_range_run}
use Rattle.rules.specs.Answers.{is_accepted}
use Rattle.rules.specs.Machine.{seen_of, is_message_of, step_of}
use Rattle.rules.specs.Runs.{Started, run_of, history_of}
use Rattle.runs.specs.Types.{Site, Status, Asked, Told, Body, Tables, Step}
use Rattle.runs.specs.Walk.Says.{asked_release, told_quiesce, body_latest}
use Rattle.runs.proofs.Walk.Steps.{run_on}
use Rattle.runs.proofs.Walk.Sound.{Sound, sound_run, sound_from, sound_step}
use Rattle.runs.proofs.Walk.Clocks.{clock_not_back}
use Rattle.runs.proofs.Walk.Taken.{in_range_step, tick_accepted, tick_leaves, recover_accepted, recover_leaves, sweep_accepted}
use Rattle.runs.proofs.Walk.Counted.{history_accepted, history_refused}
use Rattle.runs.specs.Orphans.Orphans.{NothingLeft, began_commit, is_retired, retires, visit_latest, mail_latest, latest}
use Rattle.runs.specs.Orphans.Clears.{AllAccepted, ticks_at, Clears}
use Rattle.runs.proofs.Orphans.DemandThree.{demand_three}

-- ---- T is at most 1,000,000,000

-- the time that a phase 1 message asks for is in range
asked_time : (a : Asked) → asked_in_range a ≡ true → asked_release a ≤ time_most
asked_time (Asked.Refresh r) e = leb-true _ _ e
asked_time Asked.Terminate e = omega arith
asked_time Asked.Prepare e = omega arith

-- so is the one that a phase 2 message tells
told_time_lem : (d : Told) → told_in_range d ≡ true → told_quiesce d ≤ time_most
told_time_lem (Told.Refresh q) e = leb-true _ _ e
told_time_lem (Told.Terminate m) e = omega arith
told_time_lem Told.Prepare e = omega arith

-- and the latest time of any message
body_time : (b : Body) → body_in_range b ≡ true → body_latest b ≤ time_most
body_time Body.Empty e = omega arith
body_time (Body.Call c) e = let f : CallFits c = call_range_says c e in omega arith
body_time (Body.PhaseOne n a) e = both {a = leb n count_most} e λ _ h. asked_time a h
body_time (Body.PhaseTwo n d) e = both {a = leb n count_most} e λ _ h. told_time_lem d h
body_time (Body.Answer n received q) e = omega arith
body_time (Body.Reply value) e = omega arith

module _ (t : Tables) (slot : ℕ) (place : slot < 16) (r : in_range t ≡ true) where
  -- what stands at a station and in a message slot is in range
  fits_at : (s m : ℕ) → s < 8 → m < 32 → SeenFits (seen_of t (record { site = s; slot = slot; bank = s; message = m }))
  fits_at s m i j = seen_says _ (seen_in_range t _ r (record { site = i; slot = place; bank = i; message = j }))

  -- and so are the times of a visit
  visit_time : (s : ℕ) → s < 8 → visit_latest (visit_at t s slot) ≤ time_most
  visit_time s i =
      let f : VisitFits (visit_at t s slot) = (fits_at s 0 i (omega arith)).visit in
      cond_keeps (λ (x : ℕ). x ≤ time_most) (visit_at t s slot).there _ 0 (omega arith) (omega arith)

  -- and of a message
  mail_time : (m : ℕ) → m < 32 → mail_latest body_latest slot (message_at t m) ≤ time_most
  mail_time m j =
      cond_keeps
      (λ (x : ℕ). x ≤ time_most)
      (is_message_of slot (message_at t m))
      _
      0
      (body_time (message_at t m).body (fits_at 0 m (omega arith) j).message.body)
      (omega arith)

  -- so T is in range
  latest_time : latest t slot ≤ time_most
  unfolding latest
  latest_time =
      let i : most_up_to (λ s. visit_latest (visit_at t s slot)) 8 ≤ time_most = most_below _ time_most 8 visit_time in
      let j : most_up_to (λ m. mail_latest body_latest slot (message_at t m)) 32 ≤ time_most = most_below _ time_most 32 mail_time in
      omega arith

-- ---- lists of accepted steps

-- what is accepted one after the other is accepted as one list
all_accepted_on :
    (t : Tables) (ss rest : List Step) → AllAccepted t ss → AllAccepted (run_of t ss) rest → AllAccepted t (ss ++ rest)
unfolding AllAccepted run_of
all_accepted_on t [] rest a b = b
all_accepted_on t (s ∷ ss) rest (e, a) b = (e, all_accepted_on (step_of t s).tables ss rest a b)

-- ---- no recover and no tick retires a passage

module _ (slot : ℕ) where
  -- a step that is no retire of the slot, before a list that has none, makes a list that has none
  retire_none_on :
      (t : Tables) (s : Step) (ss : List Step) → retires slot s ≡ false → is_retired slot (history_of (step_of t s).tables ss) ≡ false
      → is_retired slot (history_of t (s ∷ ss)) ≡ false
  unfolding is_retired
  retire_none_on t s ss none rest =
      ⊎_elim
      (λ e. rw (history_accepted t s ss e, none) rest)
      (λ e. rw (history_refused t s ss e) rest)
      (either (is_accepted (step_of t s).answer))

  -- ticks retire none
  ticks_retire_none : (t : Tables) (site : ℕ) (ns : List ℕ) → is_retired slot (history_of t (ticks_at site ns)) ≡ false
  unfolding is_retired history_of ticks_at
  ticks_retire_none t site [] = refl
  ticks_retire_none t site (n ∷ ns) =
      retire_none_on t (Step.Tick site n) (ticks_at site ns) refl (ticks_retire_none (step_of t (Step.Tick site n)).tables site ns)

  -- nor do ticks with a recover before them, or with none
  recover_retires_none :
      (t : Tables) (site : ℕ) (rs : List Step) (ns : List ℕ) → (rs ≡ []) ⊎ (rs ≡ Step.Recover site ∷ [])
      → is_retired slot (history_of t (rs ++ ticks_at site ns)) ≡ false
  recover_retires_none t site rs ns (inl e) = rw e (ticks_retire_none t site ns)
  recover_retires_none t site rs ns (inr e) =
      rw e
      (retire_none_on t (Step.Recover site) (ticks_at site ns) refl (ticks_retire_none (step_of t (Step.Recover site)).tables site ns))

-- ---- ticks that bring a station's clock to a time

module _ (site : ℕ) (place : site < 8) where
  -- at most so many ticks, all accepted, by which the clock moves so far; the station stays up
  record Ticked (t : Tables) (most gap : ℕ) : Type 0 where
    ticks : List ℕ
    few : length ticks ≤ most
    accepted : AllAccepted t (ticks_at site ticks)
    clock : (site_at (run_of t (ticks_at site ticks)) site).clock ≡ (site_at t site).clock + gap
    up : (site_at (run_of t (ticks_at site ticks)) site).up ≡ true

  -- no tick, where the clock is not to move
  no_ticks : (most gap : ℕ) (t : Tables) → (site_at t site).up ≡ true → gap ≡ 0 → Ticked t most gap
  unfolding AllAccepted ticks_at run_of
  no_ticks most gap t up e = record { ticks = []; few = omega arith; accepted = tt; clock = omega arith; up = up }

  -- one accepted tick before others makes one tick more
  one_more :
      (most gap n : ℕ) (t : Tables) → n ≤ gap → is_accepted (step_of t (Step.Tick site n)).answer ≡ true
      → (site_at (step_of t (Step.Tick site n)).tables site).clock ≡ (site_at t site).clock + n
      → Ticked (step_of t (Step.Tick site n)).tables most (gap - n)
      → Ticked t (suc most) gap
  unfolding AllAccepted ticks_at run_of
  one_more most gap n t i a moved rest =
      record {
        ticks = n ∷ rest.ticks;
        few = let f : length rest.ticks ≤ most = rest.few in omega arith;
        accepted = (a, rest.accepted);
        clock = rest.clock ∙ omega arith;
        up = rest.up;
      }

  -- a station that is up can be moved as far as its clock has room, a million at a time
  ticked :
      (most gap : ℕ) (t : Tables) → Sound t → in_range t ≡ true → (site_at t site).up ≡ true → gap ≤ most * tick_most
      → (site_at t site).clock + gap ≤ clock_most
      → Ticked t most gap
  ticked zero gap t z r up far room = no_ticks zero gap t up (omega arith)
  ticked (suc most) gap t z r up far room =
      ⊎_elim
      (λ e. no_ticks (suc most) gap t up (eqb-true gap 0 e))
      (λ e.
      let d : gap ≡ 0 → ⊥ = eqb-false gap 0 e in
      let n : ℕ = min gap tick_most in
      let a : is_accepted (step_of t (Step.Tick site n)).answer ≡ true =
      tick_accepted site place t z r n (omega (arith, d)) (omega arith) up (omega arith) in
      let left = tick_leaves site place t z r n a in
      one_more most gap n t (omega arith) a (ap (λ (s : Site). s.clock) left)
      (ticked
      most
      (gap - n)
      (step_of t (Step.Tick site n)).tables
      (sound_step t (Step.Tick site n) z)
      (in_range_step t (Step.Tick site n) r)
      (rw left up)
      (omega arith)
      (rw left (omega arith))))
      (either (eqb gap 0))

-- ---- the moment, as in demand 3

module _ {t₀ : Tables} (fresh : Started t₀) (before : List Step) (slot site : ℕ) (slots : slot < 16) (sites : site < 8)
    (aborted : (passage_at (run_of t₀ before) slot).status ≡ Status.Aborted)
    (never : began_commit slot false (history_of t₀ before) ≡ false) where
  -- the tables at the moment
  abbrev Now : Tables
  Now = run_of t₀ before

  -- T is a time then
  latest_now : latest Now slot ≤ time_most
  latest_now = latest_time Now slot slots (in_range_run fresh before)

  -- ---- the station is up, after one recover or none, and ticks have brought its clock to T

  module _ (recovers : List Step) (one : (recovers ≡ []) ⊎ (recovers ≡ Step.Recover site ∷ []))
      (taken : AllAccepted (run_of t₀ before) recovers)
      (room : (site_at (run_of (run_of t₀ before) recovers) site).clock ≤ 1999999999)
      (k :
      Ticked
      site
      sites
      (run_of (run_of t₀ before) recovers)
      1000
      (latest (run_of t₀ before) slot - (site_at (run_of (run_of t₀ before) recovers) site).clock)) where
    -- the tables before the sweep, and those after it
    abbrev Ready : Tables
    Ready = run_of (run_of (run_of t₀ before) recovers) (ticks_at site k.ticks)

    abbrev Swept : Tables
    Swept = (step_of (run_of (run_of (run_of t₀ before) recovers) (ticks_at site k.ticks)) (Step.Sweep site)).tables

    -- they have what all tables of a run have
    sound_ready : Sound Ready
    sound_ready = sound_from _ (ticks_at site k.ticks) (sound_from Now recovers (sound_run fresh before))

    in_range_ready : in_range Ready ≡ true
    in_range_ready = in_range_after_steps _ (ticks_at site k.ticks) (in_range_after_steps Now recovers (in_range_run fresh before))

    -- a sweep is accepted then
    sweep_taken : is_accepted (step_of Ready (Step.Sweep site)).answer ≡ true
    sweep_taken =
        let i : latest Now slot ≤ time_most = latest_now in
        sweep_accepted site sites Ready sound_ready in_range_ready k.up (rw k.clock (omega arith))

    -- its clock has reached T
    reached : latest Now slot ≤ (site_at Swept site).clock
    reached =
        let i : (site_at Ready site).clock ≤ (site_at Swept site).clock = clock_not_back Ready (Step.Sweep site) sound_ready site in
        let j = k.clock in
        omega arith

    -- so nothing of the passage is left there
    nothing_swept : NothingLeft Swept slot site
    nothing_swept =
        let e : run_of Now (recovers ++ ticks_at site k.ticks) ≡ Ready = run_on Now recovers (ticks_at site k.ticks) in
        rw e at
        ((demand_three fresh before slot site slots sites aborted never).swept
        (recovers ++ ticks_at site k.ticks)
        (recover_retires_none slot Now site recovers k.ticks one)
        (rw e sweep_taken)
        (rw e reached))

    -- and all of it together
    clears_swept : Clears Now site slot
    unfolding AllAccepted run_of
    clears_swept =
        record {
          recovers = recovers;
          one_recover = one;
          ticks = k.ticks;
          few_ticks = k.few;
          accepted = all_accepted_on Now recovers _ taken (all_accepted_on _ (ticks_at site k.ticks) _ k.accepted (sweep_taken, tt));
          cleared =
              rw
              (run_on Now recovers _, run_on (run_of Now recovers) (ticks_at site k.ticks) _)
              nothing_swept;
        }

  -- a station that is up has such ticks, at most 1,000 of them
  clears_up :
      (recovers : List Step) → (recovers ≡ []) ⊎ (recovers ≡ Step.Recover site ∷ []) → AllAccepted Now recovers
      → (site_at (run_of Now recovers) site).up ≡ true
      → (site_at (run_of Now recovers) site).clock ≤ 1999999999
      → Clears Now site slot
  clears_up recovers one taken up room =
      let i : latest Now slot ≤ time_most = latest_now in
      clears_swept recovers one taken room
      (ticked
      site
      sites
      1000
      (latest Now slot - (site_at (run_of Now recovers) site).clock)
      (run_of Now recovers)
      (sound_from Now recovers (sound_run fresh before))
      (in_range_after_steps Now recovers (in_range_run fresh before))
      up
      (omega arith)
      (omega arith))

  -- ---- the law

  -- every station can be cleared whose clock has room for a sweep, and for a recover before it where the station is down
  pub can_be_cleared :
      ((site_at (run_of t₀ before) site).up ≡ true → (site_at (run_of t₀ before) site).clock ≤ 1999999999)
      → ((site_at (run_of t₀ before) site).up ≡ false → (site_at (run_of t₀ before) site).clock ≤ 1999999998)
      → Clears (run_of t₀ before) site slot
  unfolding AllAccepted run_of
  can_be_cleared if-up if-down =
      ⊎_elim
      (λ e. clears_up [] (inl refl) tt e (if-up e))
      (λ e.
      let z : Sound Now = sound_run fresh before in
      let r : in_range Now ≡ true = in_range_run fresh before in
      let i : (site_at Now site).clock ≤ 1999999998 = if-down e in
      let a : is_accepted (step_of Now (Step.Recover site)).answer ≡ true = recover_accepted site sites Now z r e (omega arith) in
      let left = recover_leaves site sites Now z r a in
      clears_up (Step.Recover site ∷ []) (inr refl) (a, tt) (rw left) (rw left (omega arith)))
      (either (site_at (run_of t₀ before) site).up)
