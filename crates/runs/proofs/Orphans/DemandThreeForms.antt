-- Demand 3 in two other forms: for the larger T, which is never earlier, and for runs of records. Assumes nothing.
use Rattle.std.specs.Prelude.{ℕ, zero, suc, ◌<◌, ◌≤◌, ◌≡◌, Bool, true, false, cond, List}
use Rattle.std.proofs.Common.{arith}
use Rattle.rules.specs.Loops.{most_up_to}
use Rattle.rules.specs.Tables.{site_at, passage_at, message_at}
use Rattle.rules.specs.Machine.{is_message_of, step_of}
use Rattle.rules.specs.Runs.{Started, run_of, run_records_of, history_of}
use Rattle.runs.specs.Types.{Status, Told, Body, Message, Tables, Step}
use Rattle.runs.specs.Walk.Says.{told_quiesce, told_time, body_latest, body_all}
use Rattle.runs.proofs.Walk.Steps.{steps_read, records_are_steps}
use Rattle.runs.specs.Orphans.Orphans.{Released, began_commit, mail_latest, latest, latest_of_all}
use Rattle.runs.proofs.Orphans.Moment.{drive}
use Rattle.runs.proofs.Orphans.DemandThree.{demand_three}

-- ---- the smaller T is not above the larger

most_less : (f g : ℕ → ℕ) (n : ℕ) → ((i : ℕ) → f i ≤ g i) → most_up_to f n ≤ most_up_to g n
unfolding most_up_to
most_less f g zero h = omega arith
most_less f g (suc n) h =
    let a : most_up_to f n ≤ most_up_to g n = most_less f g n h in let b : f n ≤ g n = h n in omega arith

told_less : (told : Told) → told_quiesce told ≤ told_time told
told_less (Told.Refresh q) = omega arith
told_less (Told.Terminate m) = omega arith
told_less Told.Prepare = omega arith

body_less : (b : Body) → body_latest b ≤ body_all b
body_less Body.Empty = omega arith
body_less (Body.Call c) = omega arith
body_less (Body.PhaseOne n asked) = omega arith
body_less (Body.PhaseTwo n told) = told_less told
body_less (Body.Answer n received q) = omega arith
body_less (Body.Reply value) = omega arith

mail_less : (m : Message) (b : Bool) → cond b (body_latest m.body) 0 ≤ cond b (body_all m.body) 0
mail_less m true = body_less m.body
mail_less m false = omega arith

latest_less : (t : Tables) (p : ℕ) → latest t p ≤ latest_of_all t p
unfolding latest latest_of_all
latest_less t p =
    let i : most_up_to (λ m. mail_latest body_latest p (message_at t m)) 32 ≤ most_up_to (λ m. mail_latest body_all p (message_at t m)) 32 =
    most_less _ _ 32 (λ m. mail_less (message_at t m) (is_message_of p (message_at t m))) in
    omega arith

-- ---- demand 3, for the larger T

module _ {t₀ : Tables} (fresh : Started t₀) (before : List Step) (slot site : ℕ) (slots : slot < 16) (sites : site < 8)
    (aborted : (passage_at (run_of t₀ before) slot).status ≡ Status.Aborted)
    (never : began_commit slot false (history_of t₀ before) ≡ false) where
  pub demand_three_of_all : Released (run_of t₀ before) slot site (latest_of_all (run_of t₀ before) slot)
  demand_three_of_all =
      let i : latest (run_of t₀ before) slot ≤ latest_of_all (run_of t₀ before) slot = latest_less (run_of t₀ before) slot in
      record {
        swept =
            λ after s a (r : latest_of_all (run_of t₀ before) slot ≤ (site_at (step_of (run_of (run_of t₀ before) after) (Step.Sweep site)).tables site).clock).
            (demand_three fresh before slot site slots sites aborted never).swept after s a (omega arith);
        never_again =
            λ after later s a (r : latest_of_all (run_of t₀ before) slot ≤ (site_at (step_of (run_of (run_of t₀ before) after) (Step.Sweep site)).tables site).clock) n.
            (demand_three fresh before slot site slots sites aborted never).never_again after later s a (omega arith) n;
        in_time = drive fresh before slot site slots sites aborted never (latest_of_all (run_of t₀ before) slot);
      }

-- ---- and for runs of records: they are runs of the steps that they stand for

pub demand_three_records :
    {t₀ : Tables} → Started t₀ → (records : List (List ℕ)) (slot site : ℕ) → slot < 16 → site < 8
    → (passage_at (run_records_of t₀ records) slot).status ≡ Status.Aborted
    → began_commit slot false (history_of t₀ (steps_read records)) ≡ false
    → Released (run_records_of t₀ records) slot site (latest (run_records_of t₀ records) slot)
demand_three_records {t₀} fresh records slot site slots sites aborted never =
    let e : run_records_of t₀ records ≡ run_of t₀ (steps_read records) = records_are_steps t₀ records in
    rw e (demand_three fresh (steps_read records) slot site slots sites (rw e at aborted) never)
