-- The vow of every slot in every run, beside the clauses of the time rule and with the same ledgers. Assumes nothing.
use Rattle.std.specs.Prelude.{ℕ, ◌<◌, ◌≡◌, refl, ◌≢◌, true, List}
use Rattle.std.proofs.Common.{sym, ap, ◌∙◌}
use Rattle.std.proofs.lemmas.Bool.{false≢true}
use Rattle.rules.specs.declared.looking.Trip.{Trip}
use Rattle.rules.specs.Tables.{start, passage_at, message_at, past_passage, free_slot}
use Rattle.rules.specs.Answers.{is_accepted}
use Rattle.rules.specs.Parts.{is_free}
use Rattle.rules.specs.Machine.{look_of, seen_of, decide_of, found_of, stored, head_of, trip_places, turn_seen, turn_of, step_of}
use Rattle.rules.specs.StoredLaws.{Sized, Placed, turn_stored_lem}
use Rattle.rules.proofs.RangesLaws.{placed_places, placed_trip}
use Rattle.rules.specs.Runs.{Started, run_of}
use Rattle.runs.specs.Types.{Status, Passage, Tables, Step, Outcome, Places, Seen}
use Rattle.runs.specs.Walk.Says.{carries_commit, is_prepare}
use Rattle.runs.proofs.Walk.Plain.{repeat_has}
use Rattle.runs.specs.Walk.Put.{put_all}
use Rattle.runs.specs.Walk.Seen.{places_at, seen_at}
use Rattle.runs.proofs.Walk.Steps.{ghost_step, good_after_step, good_after_run}
use Rattle.runs.proofs.Walk.Clocks.{turned_message}
use Rattle.runs.specs.Times.View.{Ledger, mail_of, view_of, no_ledger}
use Rattle.runs.specs.Times.Clauses.{Holds}
use Rattle.runs.proofs.Times.Store.{left_view, next_ledger, next_ledgers, Fitting, mail_after_other, own_view, other_view}
use Rattle.runs.proofs.Times.Ledgers.{head_ledgers, turn_ledgers, ledgers_of, Kept, fitting_after_decided, fitting_after_turned, kept_after_head, kept_after_turn, kept_at_start}
use Rattle.runs.specs.Moves.Definitions.{is_answer}
use Rattle.runs.proofs.Moves.Steps.{move_of, turn_of_lem}
use Rattle.runs.specs.Commits.Vow.{Vow}
use Rattle.runs.proofs.Commits.VowKept.{vow_ledger, vow_moved, vow_turned}

pub record Pledged (t : Tables) (ls : ℕ → Ledger) : Type 0 where
  pub kept : Kept t ls
  pub vows : (p : ℕ) → p < 16 → Vow (view_of t p) (ls p)

-- ---- a store

-- what a step's own slot sees after it
abbrev OwnVow : Tables → Places → Seen → Ledger → Type 0
OwnVow t at left l =
    Vow
    (left_view (view_of t at.slot) at.site at.message left.passage left.visit left.site.clock (mail_of at.slot left.message))
    (next_ledger l at.site (seen_of t at) left)

module _ (t : Tables) (at : Places) (left : Seen) (z : Sized t) (h : Placed at) (x : Fitting t at left) where
  -- another slot sees its passage, its visits and its messages as they were
  vow_after_other : (p : ℕ) (l : Ledger) → p < 16 → p ≢ at.slot → Vow (view_of t p) l → Vow (view_of (stored t at left) p) l
  vow_after_other p l b n o =
      let same : mail_of p left.message ≡ mail_of p (message_at t at.message) =
      mail_after_other at.slot p (message_at t at.message) left.message x.mail n in
      rw
      (other_view t at left z h p b n)
      (record {
        round = o.round;
        asked = o.asked;
        told = o.told;
        word =
            put_all (view_of t p).mail at.message (mail_of p left.message)
            (λ i m. carries_commit m.body ≡ true → (passage_at t p).status ≡ Status.Committed)
            (rw same (o.word at.message))
            (λ i y. o.word i);
        answers =
            put_all (view_of t p).mail at.message (mail_of p left.message)
            (λ i m. is_answer m.body ≡ true → m.destination ≡ (passage_at t p).home)
            (rw same (o.answers at.message))
            (λ i y. o.answers i);
      })

  vows_after_store :
      (ls : ℕ → Ledger) → ((p : ℕ) → p < 16 → Vow (view_of t p) (ls p)) → OwnVow t at left (ls at.slot) → (p : ℕ) → p < 16
      → Vow (view_of (stored t at left) p) (next_ledgers ls at (seen_of t at) left p)
  vows_after_store ls o own p b =
      put_all ls at.slot (next_ledger (ls at.slot) at.site (seen_of t at) left)
      (λ q l. q < 16 → Vow (view_of (stored t at left) q) l)
      (λ c. rw (own_view t at left z h) own)
      (λ q n c. vow_after_other q (ls q) c n (o q c))
      p
      b

-- ---- steps

pub pledged_after_head :
    (t : Tables) (step : Step) (ls : ℕ → Ledger) → Pledged t ls → is_accepted (head_of t step).answer ≡ true
    → Pledged (head_of t step).tables (head_ledgers t step ls)
unfolding head_of
pledged_after_head t step ls k e =
    let at : Places = places_at t step in
    let left : Seen = (decide_of step (found_of t at) (seen_at t step)).left in
    let h : Holds (view_of t at.slot) (ls at.slot) = k.kept.slots at.slot (placed_places t (look_of step)).slot in
    let x : Fitting t at left = fitting_after_decided t k.kept.range step e in
    record {
      kept = kept_after_head t step ls k.kept e;
      vows =
          vows_after_store t at left k.kept.sound.sized (placed_places t (look_of step)) x ls k.vows
          (vow_ledger _ _ (is_free left.passage.status)
          (vow_moved
          (view_of t at.slot)
          (ls at.slot)
          at.site
          at.message
          left.site.clock
          (message_at t at.message).source
          left.visit
          (mail_of at.slot left.message)
          h
          (k.vows at.slot (placed_places t (look_of step)).slot)
          left.passage
          (λ free i. ((x.own (ls at.slot) h).free free).mail i)
          (move_of t k.kept.range (ls at.slot) step h e)));
    }

pub pledged_after_turn :
    (trip : Trip) (slot : ℕ) (o : Outcome) (ls : ℕ → Ledger) → slot < 16 → Pledged o.tables ls
    → Pledged (turn_of trip slot o).tables (turn_ledgers trip slot o.tables ls)
pledged_after_turn trip slot o ls i k =
    let t : Tables = o.tables in
    let at : Places = trip_places trip slot in
    let left : Seen = turn_seen trip slot (seen_of t at) in
    record {
      kept = kept_after_turn trip slot o ls i k.kept;
      vows = rw (turn_stored_lem trip slot o) (
          vows_after_store t at left k.kept.sound.sized (placed_trip trip slot i) (fitting_after_turned t trip slot) ls k.vows
          (vow_ledger _ _ (is_free left.passage.status)
          (vow_turned
          (view_of t slot)
          (ls slot)
          at.site
          0
          left.site.clock
          (message_at t 0).source
          left.visit
          (mail_of slot left.message)
          (k.kept.slots slot i)
          (k.vows slot i)
          left.passage
          (ap (mail_of slot) (turned_message trip slot (seen_of t at)))
          (turn_of_lem t trip slot))));
    }

pub pledged_after_step :
    (t : Tables) (step : Step) (ls : ℕ → Ledger) → Pledged t ls
    → Pledged (step_of t step).tables (ghost_step head_ledgers turn_ledgers t step ls)
pledged_after_step = good_after_step head_ledgers turn_ledgers Pledged pledged_after_head pledged_after_turn

-- ---- every run

start_free : (p : ℕ) → (passage_at start p).status ≡ Status.Free
unfolding start
start_free = repeat_has (λ (x : Passage). x.status ≡ Status.Free) 16 (free_slot 0) past_passage refl refl

pledged_at_start : Pledged start (λ p. no_ledger)
pledged_at_start =
    record {
      kept = kept_at_start;
      vows =
          λ p b.
          let free : (passage_at start p).status ≡ Status.Free = start_free p in
          record {
            round = rw free tt;
            asked = λ kind one s y. absurd (false≢true y);
            told = λ kind two. absurd (false≢true (ap is_prepare (ap (λ r. r.kind) (sym ((kept_at_start.slots p b).free free).round) ∙ kind)));
            word = λ i y. absurd (false≢true (ap carries_commit (sym (((kept_at_start.slots p b).free free).mail i)) ∙ y));
            answers = λ i y. absurd (false≢true (ap is_answer (sym (((kept_at_start.slots p b).free free).mail i)) ∙ y));
          };
    }

-- where a run begins
pub pledged_started : {t₀ : Tables} → Started t₀ → Pledged t₀ (λ p. no_ledger)
pledged_started fresh = rw fresh.empty pledged_at_start

pub pledged_run : {t₀ : Tables} → Started t₀ → (ss : List Step) → Pledged (run_of t₀ ss) (ledgers_of t₀ ss)
unfolding ledgers_of
pledged_run {t₀} fresh ss =
    good_after_run head_ledgers turn_ledgers Pledged pledged_after_head pledged_after_turn t₀ ss (λ p. no_ledger) (pledged_started fresh)
