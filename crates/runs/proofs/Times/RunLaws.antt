-- What holds of a passage in every run, by name, for theorems to come: its times, what is gone, what a closed round means. Assumes nothing.
use Rattle.std.specs.Prelude.{ℕ, ◌<◌, ◌≤◌, ◌≡◌, refl, ◌≢◌, ◌⊎◌, true, false, List}
use Rattle.std.proofs.Common.{sym, ap, ◌∙◌, true≢false}
use Rattle.rules.specs.Tables.{site_at, passage_at, visit_at, message_at, slot_of}
use Rattle.rules.specs.Parts.{is_empty, has_answered, is_closed}
use Rattle.rules.specs.Runs.{Started, run_of}
use Rattle.runs.specs.Types.{Phase, Status, Call, Body, Message, Tables, Step}
use Rattle.runs.specs.Walk.Says.{is_refresh, is_binding}
use Rattle.runs.specs.Times.View.{Ledger, view_of}
use Rattle.runs.specs.Times.Clauses.{Below, Quiet, Holds}
use Rattle.runs.proofs.Times.ClausesLaws.{call_says}
use Rattle.runs.proofs.Times.Store.{own_mail, own_body}
use Rattle.runs.proofs.Kept.Answered.{closing_refresh, closing_binding}
use Rattle.runs.proofs.Kept.Calls.{never_twice}
use Rattle.runs.proofs.Times.Ledgers.{ledgers_of, kept_run}

module _ {t₀ : Tables} (fresh : Started t₀) (ss : List Step) (p : ℕ) (slot : p < 16) where
  -- the tables that the run left, and what they and the ledger say of the slot
  abbrev Ran : Tables
  Ran = run_of t₀ ss

  abbrev Book : Ledger
  Book = ledgers_of t₀ ss p

  pub holds_run : Holds (view_of Ran p) Book
  holds_run = (kept_run fresh ss).slots p slot

  -- a message of the slot is seen by it as it is
  mine : (m : ℕ) (c : Call) → (message_at Ran m).body ≡ Body.Call c → slot_of (message_at Ran m).handle ≡ p → (view_of Ran p).mail m ≡ message_at Ran m
  mine m c e h = own_mail p (message_at Ran m) (ap is_empty e) h

  mine_body : (m : ℕ) (c : Call) → (message_at Ran m).body ≡ Body.Call c → slot_of (message_at Ran m).handle ≡ p → ((view_of Ran p).mail m).body ≡ Body.Call c
  mine_body m c e h = own_body p (message_at Ran m) (Body.Call c) e refl h

  -- ---- times: every quiesce time of the passage, in a visit that was ever there or in a call in flight,
  -- is at most every release time, in a visit that was ever there or in a call to a site that has seen none

  pub times_visit : (s : ℕ) → (Book s).seen ≡ true → Below (view_of Ran p) Book (Book s).last.quiesce
  times_visit s e = (holds_run.sites s e).times

  pub times_call :
      (m : ℕ) (c : Call) → (message_at Ran m).body ≡ Body.Call c → slot_of (message_at Ran m).handle ≡ p
      → Below (view_of Ran p) Book c.quiesce
  times_call m c e h = (call_says (view_of Ran p) Book holds_run m c (mine_body m c e h)).times

  -- a visit's quiesce time is at most the release time of a call to a site that has seen no visit
  pub visit_before_making :
      (m s : ℕ) (c : Call) → (message_at Ran m).body ≡ Body.Call c → slot_of (message_at Ran m).handle ≡ p
      → (unseen : (Book (message_at Ran m).destination).seen ≡ false)
      → (visit_at Ran s p).there ≡ true → (visit_at Ran s p).quiesce ≤ c.release
  visit_before_making m s c e h unseen there =
      rw
      (← (holds_run.mirror s there).1)
      ((times_visit s (holds_run.mirror s there).0).calls m c (mine_body m c e h) (rw (mine m c e h) unseen))

  -- in the tables alone: a call in flight quiesces no later than any visit of its passage releases
  pub call_before_release :
      (m s : ℕ) (c : Call) → (message_at Ran m).body ≡ Body.Call c → slot_of (message_at Ran m).handle ≡ p
      → (visit_at Ran s p).there ≡ true → c.quiesce ≤ (visit_at Ran s p).release
  call_before_release m s c e h there =
      rw (← (holds_run.mirror s there).1) ((times_call m c e h).visits s (holds_run.mirror s there).0)

  -- ---- a visit that is gone went at a clock at or past its release time, or its passage is quiet

  pub gone_run :
      (s : ℕ) → (Book s).seen ≡ true → (visit_at Ran s p).there ≡ false
      → ((Book s).last.release ≤ (site_at Ran s).clock) ⊎ Quiet (view_of Ran p) Book
  gone_run s e missing = (holds_run.sites s e).gone missing

  -- ---- no visit of a passage is made twice at a station: a call that is let in where there is no visit comes to a site that has seen none

  pub made_once :
      (m : ℕ) (c : Call) → (message_at Ran m).body ≡ Body.Call c → slot_of (message_at Ran m).handle ≡ p
      → (visit_at Ran (message_at Ran m).destination p).there ≡ false
      → (site_at Ran (message_at Ran m).destination).clock < c.quiesce
      → (Book (message_at Ran m).destination).seen ≡ false
  made_once m c e h missing early =
      never_twice
      (view_of Ran p)
      Book
      holds_run
      m
      (message_at Ran m).destination
      c
      (mine_body m c e h)
      (ap (λ (x : Message). x.destination) (sym (mine m c e h)))
      missing
      early

  -- ---- the closing law: phase 1 is closed

  module _ (one : (passage_at Ran p).round.phase ≡ Phase.One) (closed : is_closed (passage_at Ran p).round ≡ true) where
    -- under a refresh, every site whose visit was made before the round has answered
    pub closed_refresh_answered :
        is_refresh (passage_at Ran p).round.kind ≡ true → (s : ℕ) → (Book s).seen ≡ true
        → (Book s).born < (passage_at Ran p).round.number → has_answered (passage_at Ran p).round s ≡ true
    closed_refresh_answered = closing_refresh (view_of Ran p) Book holds_run one closed

    -- under a terminate or a prepare, every site that has seen the passage has answered
    pub closed_binding_answered :
        is_binding (passage_at Ran p).round.kind ≡ true → (s : ℕ) → (Book s).seen ≡ true
        → has_answered (passage_at Ran p).round s ≡ true
    closed_binding_answered = closing_binding (view_of Ran p) Book holds_run one closed

  -- ---- in phase 2 of a terminate or a prepare no call of the passage is in flight

  pub no_call_after :
      (passage_at Ran p).round.phase ≡ Phase.Two → is_binding (passage_at Ran p).round.kind ≡ true
      → (m : ℕ) (c : Call) → (message_at Ran m).body ≡ Body.Call c → slot_of (message_at Ran m).handle ≢ p
  no_call_after two binding m c e h =
      ((holds_run.passage.closed_quiet two binding).mail m).call c (mine_body m c e h)

  -- ---- a free slot has no visit and no message

  pub free_no_visit : (passage_at Ran p).status ≡ Status.Free → (s : ℕ) → (visit_at Ran s p).there ≡ false
  free_no_visit e = (holds_run.free e).visits

  pub free_no_message :
      (passage_at Ran p).status ≡ Status.Free → (m : ℕ) → is_empty (message_at Ran m).body ≡ false
      → slot_of (message_at Ran m).handle ≢ p
  free_no_message e m used h =
      true≢false
      (sym (ap is_empty ((holds_run.free e).mail m))
      ∙ ap (λ (x : Message). is_empty x.body) (own_mail p (message_at Ran m) used h)
      ∙ used)
