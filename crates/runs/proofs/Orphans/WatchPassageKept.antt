-- Passages that a step may leave in the view of an orphan's slot: as it was, aborted, with an answer, with another status or round. Assumes nothing.
use Rattle.std.specs.Prelude.{ℕ, ◌≡◌, refl, ◌≢◌, Bool, true, false, cond}
use Rattle.std.proofs.Common.{ap, ⊎_elim, inl, inr, true≢false}
use Rattle.rules.specs.LoopsLaws.{cond_keeps}
use Rattle.rules.specs.Parts.{is_running, is_active, aborted_passage, with_status, with_round, with_answer, asked_status, told_status}
use Rattle.rules.specs.Rounds.{opened_passage, closed_passage}
use Rattle.runs.specs.Types.{Figures, Kind, Phase, Status, Visit, Asked, Told, Body}
use Rattle.runs.specs.Times.View.{View}
use Rattle.runs.proofs.Orphans.WatchKept.{Ending, BodyKeeps, PassageKeeps, aborted_free, aborted_running, aborted_active}

module _ (latest : ℕ) (w : View) where
  pub passage_after_same : Ending w.passage → PassageKeeps latest w w.passage
  passage_after_same e = record { ending = e; free = λ f. f; plain = λ h. (h.status, h.kind); aborted = λ h b. b.aborted }

  -- it is aborted, or stays
  pub passage_after_aborted : (b : Bool) → Ending w.passage → PassageKeeps latest w (cond b (aborted_passage w.passage) w.passage)
  passage_after_aborted b e = cond_keeps (PassageKeeps latest w) b _ _ aborts (passage_after_same e)
    where
      aborts : PassageKeeps latest w (aborted_passage w.passage)
      aborts =
          record {
            ending = λ y. inl refl;
            free = λ y. absurd (aborted_free Status.Aborted refl y);
            plain = λ h. (tt, h.kind);
            aborted = λ h y. refl;
          }

  -- an answer's figures are kept
  pub passage_after_answered :
      (s : ℕ) (f : Figures) → Ending w.passage
      → PassageKeeps latest w (with_round w.passage (with_answer w.passage.round s f))
  passage_after_answered s f e =
      record { ending = e; free = λ y. y; plain = λ h. (h.status, h.kind); aborted = λ h b. b.aborted }

  -- a status that a phase 1 message gives
  asked_status_lem :
      (n : ℕ) (asked : Asked) → BodyKeeps latest w (Body.PhaseOne n asked) → Ending w.passage
      → PassageKeeps latest w (with_status w.passage (asked_status asked w.passage.status))
  asked_status_lem n (Asked.Refresh r) b e = passage_after_same e
  asked_status_lem n Asked.Terminate b e = passage_after_same e
  asked_status_lem n Asked.Prepare b e =
      record {
        ending = λ y. absurd (aborted_running Status.Committing y refl);
        free = λ y. absurd (true≢false (ap is_running y));
        plain = λ h. absurd (true≢false (b.plain h));
        aborted = λ h y. absurd (true≢false (b.plain h));
      }

  -- a status that a phase 2 message gives
  told_status_lem :
      (n : ℕ) (told : Told) → BodyKeeps latest w (Body.PhaseTwo n told) → Ending w.passage
      → PassageKeeps latest w (with_status w.passage (told_status told w.passage.status))
  told_status_lem n (Told.Refresh q) b e = passage_after_same e
  told_status_lem n (Told.Terminate m) b e = passage_after_same e
  told_status_lem n Told.Prepare b e =
      record {
        ending = λ y. absurd (committed_aborted y);
        free = λ y. absurd (committed_free y);
        plain = λ h. absurd (true≢false (b.plain h));
        aborted = λ h y. absurd (true≢false (b.plain h));
      }
    where
      is_committed : Status → Bool
      is_committed Status.Free = false
      is_committed Status.Active = false
      is_committed Status.Committing = false
      is_committed Status.Aborted = false
      is_committed Status.Committed = true

      committed_aborted : Status.Committed ≡ Status.Aborted → ⊥
      committed_aborted y = true≢false (ap is_committed y)

      committed_free : Status.Committed ≡ Status.Free → ⊥
      committed_free y = true≢false (ap is_committed y)

  pub asked_home :
      (b : Bool) (n : ℕ) (asked : Asked) → BodyKeeps latest w (Body.PhaseOne n asked) → Ending w.passage
      → PassageKeeps latest w (cond b (with_status w.passage (asked_status asked w.passage.status)) w.passage)
  asked_home b n asked h e = cond_keeps (PassageKeeps latest w) b _ _ (asked_status_lem n asked h e) (passage_after_same e)

  pub told_home :
      (b : Bool) (n : ℕ) (told : Told) → BodyKeeps latest w (Body.PhaseTwo n told) → Ending w.passage
      → PassageKeeps latest w (cond b (with_status w.passage (told_status told w.passage.status)) w.passage)
  told_home b n told h e = cond_keeps (PassageKeeps latest w) b _ _ (told_status_lem n told h e) (passage_after_same e)

-- ---- the passage that opens or closes a round

module _ (latest : ℕ) (w : View) (e : Ending w.passage) where
  pub passage_after_closed :
      (n : ℕ) (told : Told) → w.passage.round.phase ≢ Phase.None → BodyKeeps latest w (Body.PhaseTwo n told)
      → PassageKeeps latest w (closed_passage told w.passage)
  passage_after_closed n told o b =
      record {
        ending = λ y. inr (⊎_elim (λ f. absurd (o f)) (λ f. f) (x.ending y));
        free = x.free;
        plain = x.plain;
        aborted = x.aborted;
      }
    where
      x : PassageKeeps latest w (with_status w.passage (told_status told w.passage.status))
      x = told_home latest w true n told b e

  pub passage_after_terminating : (v : Visit) → PassageKeeps latest w (opened_passage Kind.Terminate w.passage v)
  passage_after_terminating v =
      record { ending = λ y. inr refl; free = λ y. y; plain = λ h. (h.status, tt); aborted = λ h b. b.aborted }

  pub passage_after_refreshing :
      (q r : ℕ) (v : Visit) → is_active w.passage.status ≡ true
      → PassageKeeps latest w (opened_passage (Kind.Refresh q r) w.passage v)
  passage_after_refreshing q r v active =
      record {
        ending = λ y. absurd (aborted_active w.passage.status y active);
        free = λ y. y;
        plain = λ h. (h.status, tt);
        aborted = λ h b. b.aborted;
      }
