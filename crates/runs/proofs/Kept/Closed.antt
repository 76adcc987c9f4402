-- A close: the round goes to phase 2, a prepare is committed, and the invariant is kept. Assumes nothing.
use Rattle.std.specs.Prelude.{ℕ, ◌<◌, ◌≤◌, ◌≡◌, ◌≢◌, ltb}
use native.Mathlib.Omega.{arith}
use Rattle.std.proofs.Math.Path.{refl}
use Rattle.std.proofs.Common.{sym, ap, ◌∙◌, ⊎_elim, true≢false, ltb-true, ltb-false}
use Rattle.std.proofs.Math.Bool.{true}
use Rattle.std.proofs.lemmas.Bool.{false≢true}
use Rattle.rules.specs.LoopsLaws.{either, most_at}
use Rattle.rules.specs.Parts.{is_free, is_over, is_phase_one, with_phase, figures_at, has_answered, if_answered, is_closed, largest_quiesce, told_of, told_status}
use Rattle.rules.specs.Rounds.{round_told, closed_passage}
use Rattle.runs.specs.Types.{Kind, Phase, Status, Call, Told, Body}
use Rattle.runs.specs.Walk.Says.{is_refresh, is_binding}
use Rattle.runs.specs.Times.View.{View, Ledger}
use Rattle.runs.specs.Times.Clauses.{Below, QuietMail, Quiet, Holds}
use Rattle.runs.proofs.Times.ClausesLaws.{binding_no_refresh, call_says, late_says}
use Rattle.runs.proofs.Kept.Round.{holds_after_restated}
use Rattle.runs.proofs.Kept.Answered.{closing_refresh, closing_making, closing_binding, closing_no_call}

-- ---- statuses

-- a passage that is over stays so
over_told : (d : Told) (s : Status) → is_over s ≡ true → is_over (told_status d s) ≡ true
over_told (Told.Refresh q) s e = e
over_told (Told.Terminate m) s e = e
over_told Told.Prepare s e = refl

-- a slot is free only if it was
free_told : (d : Told) (s : Status) → told_status d s ≡ Status.Free → s ≡ Status.Free
free_told (Told.Refresh q) s e = e
free_told (Told.Terminate m) s e = e
free_told Told.Prepare s e = absurd (false≢true (ap is_free e))

-- ---- the close

-- the view after a close, but for what it does to the home visit
abbrev pub closed_view : View → View
closed_view w =
    record {
      passage = closed_passage (round_told w.passage.round) w.passage;
      visit = w.visit;
      clock = w.clock;
      mail = w.mail;
    }

module _ (w : View) (l : Ledger) (h : Holds w l)
    (one : w.passage.round.phase ≡ Phase.One)
    (closed : is_closed w.passage.round ≡ true) where
  -- a round is open
  not_none : w.passage.round.phase ≢ Phase.None
  not_none e = true≢false (ap is_phase_one (sym one ∙ e))

  -- a slot with a round open is not free
  closed_not_free : w.passage.status ≢ Status.Free
  closed_not_free e = not_none (ap (λ r. r.phase) (h.free e).round)

  -- when the round binds, a closed passage is over
  closed_over :
      (k : Kind) (m : ℕ) → w.passage.round.kind ≡ k → is_binding k ≡ true
      → is_over (told_status (told_of k m) w.passage.status) ≡ true
  closed_over Kind.None m e b = absurd (false≢true b)
  closed_over (Kind.Refresh q r) m e b = absurd (false≢true b)
  closed_over Kind.Terminate m e b = rw (h.passage.terminate_aborted e not_none)
  closed_over Kind.Prepare m e b = refl

  -- when the round binds, no call is in flight after the close
  pub closed_no_call :
      is_binding w.passage.round.kind ≡ true → (k : ℕ) (c : Call)
      → ((closed_view w).mail k).body ≡ Body.Call c → ⊥
  closed_no_call = closing_no_call w l h one closed

  -- when the round binds, each site that has seen the passage has the round's number
  closed_round :
      is_binding w.passage.round.kind ≡ true → (s : ℕ) → (l s).seen ≡ true
      → (l s).last.round ≡ w.passage.round.number
  closed_round b s e =
      (h.passage.kept s (h.sites s e).place (closing_binding w l h one closed b s e)).answered

  -- when the round binds, no message can do harm
  quiet_body : is_binding w.passage.round.kind ≡ true → (k : ℕ) → QuietMail l (w.mail k).destination (w.mail k).body
  quiet_body y k =
      record {
        call = λ c e. closed_no_call y k c e;
        late =
            λ n q e.
            let f = late_says w l h k n q e in
            let r : (l (w.mail k).destination).last.round ≡ w.passage.round.number = closed_round y (w.mail k).destination f.seen in
            let x : n ≢ w.passage.round.number = λ z. binding_no_refresh w.passage.round.kind y (f.kind z) in
            (f.seen, omega (arith, f.number));
      }

  -- when the round binds, the passage is quiet after the close
  pub closed_is_quiet : is_binding w.passage.round.kind ≡ true → Quiet (closed_view w) l
  closed_is_quiet b =
      record {
        binding = b;
        over = closed_over w.passage.round.kind (largest_quiesce w.passage.round) refl b;
        mail = λ k. quiet_body b k;
        quiesced = λ s e. (h.sites s e).bound b (closed_round b s e);
      }

  -- when the round binds, no site's quiesce time is above the largest that was answered
  pub closed_largest :
      is_binding w.passage.round.kind ≡ true → (s : ℕ) → (l s).seen ≡ true
      → (l s).last.quiesce ≤ largest_quiesce w.passage.round
  unfolding largest_quiesce
  closed_largest b s e =
      let i : s < 8 = (h.sites s e).place in
      let a : has_answered w.passage.round s ≡ true = closing_binding w l h one closed b s e in
      let q : (l s).last.quiesce ≤ (figures_at w.passage.round s).quiesce =
      ((h.passage.kept s i a).bound b).2 in
      let m : (figures_at w.passage.round s).quiesce ≤ largest_quiesce w.passage.round =
      rw a at (most_at (λ t. if_answered w.passage.round t (figures_at w.passage.round t).quiesce) 8 s i) in
      omega arith

  -- the largest does not look at the phase
  largest_phase : (p : Phase) → largest_quiesce (with_phase w.passage.round p) ≡ largest_quiesce w.passage.round
  unfolding largest_quiesce
  largest_phase p = refl

  -- under a refresh, each site that has seen the passage has the round's number
  refreshed_round :
      is_refresh w.passage.round.kind ≡ true → (s : ℕ) → (l s).seen ≡ true
      → (l s).last.round ≡ w.passage.round.number
  refreshed_round y s e =
      let x = h.sites s e in
      ⊎_elim
      (λ n.
      (h.passage.kept s x.place (closing_refresh w l h one closed y s e (ltb-true _ _ n))).answered)
      (λ n.
      let o : w.passage.round.number ≤ (l s).born = ltb-false _ _ n in
      omega (arith, x.born, x.number))
      (either (ltb (l s).born w.passage.round.number))

  -- under a refresh, no release is below the new quiesce time
  pub closed_below : (q r : ℕ) → w.passage.round.kind ≡ Kind.Refresh q r → Below w l q
  closed_below q r e =
      let y : is_refresh w.passage.round.kind ≡ true = rw e in
      let i : q ≤ r = h.passage.refresh_one q r e in
      record {
        visits =
            λ t s.
            let x : r ≤ (l t).last.release = (h.sites t s).refresh_one q r e (refreshed_round y t s) in
            omega arith;
        calls =
            λ k c b s.
            let x : r ≤ c.release =
            (call_says w l h k c b).refresh_one q r e s (closing_making w l h one closed y k c b s) in
            omega arith;
      }

  -- the invariant is kept by a close
  pub holds_after_closed : Holds (closed_view w) l
  holds_after_closed =
      holds_after_restated
      w
      l
      (told_status (round_told w.passage.round) w.passage.status)
      Phase.Two
      h
      (λ e. closed_not_free (free_told (round_told w.passage.round) w.passage.status e))
      (over_told (round_told w.passage.round) w.passage.status)
      (λ e. h.passage.home_answers not_none)
      (λ q r e k. closed_below q r k)
      (λ e b. closed_is_quiet b)
      (λ s e z k. rw (largest_phase Phase.Two) (closed_largest (rw k) s e))
      aborted
    where
      aborted :
          w.passage.round.kind ≡ Kind.Terminate → Phase.Two ≢ Phase.None
          → told_status (round_told w.passage.round) w.passage.status ≡ Status.Aborted
      aborted k n = rw (k, h.passage.terminate_aborted k not_none)
