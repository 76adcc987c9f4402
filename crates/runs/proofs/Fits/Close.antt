-- The step close keeps the invariant: the passage part, then the home visit's phase 2 part. Assumes nothing.
use Rattle.std.specs.Prelude.{ℕ, ◌%◌, ◌≤◌, ◌≡◌, refl, ◌≢◌, ◌⊎◌, true, false, cond}
use Rattle.std.proofs.Common.{arith, sym, ap, ◌∙◌, inl, inr}
use Rattle.std.proofs.lemmas.Bool.{false≢true}
use Rattle.rules.specs.LoopsLaws.{either, not_false}
use Rattle.rules.specs.Tables.{site_at, passage_at, message_at, no_visit}
use Rattle.rules.specs.AnswersLaws.{Fine}
use Rattle.rules.specs.Parts.{is_phase_one, is_closed, next_clock, largest_quiesce, told_of, told_visit, where_there}
use Rattle.rules.specs.Rounds.{close_checks, round_told, closed_passage, close_done}
use Rattle.rules.specs.Machine.{look_of, places_of, seen_of}
use Rattle.rules.specs.Ranges.{in_range, phase_fits}
use Rattle.runs.specs.Types.{Kind, Phase, Visit, Tables, Step}
use Rattle.runs.specs.Walk.Says.{is_binding}
use Rattle.runs.proofs.Walk.Plain.{when_true, when_false}
use Rattle.runs.specs.Times.View.{View, Ledger, view_of, ledger_noted}
use Rattle.runs.specs.Times.Clauses.{Holds}
use Rattle.runs.proofs.Kept.Visit.{with_visit, with_last}
use Rattle.runs.proofs.Kept.Times.{holds_after_told_refresh, holds_after_told_terminate}
use Rattle.runs.proofs.Kept.Closed.{closed_view, holds_after_closed, closed_is_quiet, closed_largest}
use Rattle.runs.proofs.Times.Store.{left_view, Fitting, noted_there, noted_gone}
use Rattle.runs.proofs.Fits.Shared.{moved, holds_after_moved, holds_after_news, mail_back, holds_after_stay, holds_after_went, phase_in_range}

-- ---- phase 2 at the home visit of a passage that has closed

module _ (w : View) (l : Ledger) (a source : ℕ) (h : Holds w l)
    (one : w.passage.round.phase ≡ Phase.One) (closed : is_closed w.passage.round ≡ true) where
  abbrev Left : Visit → Type 0
  Left v = Holds (with_visit (closed_view w) a v) (ledger_noted l a source v)

  -- with a visit there, whose new record is there too
  after_told : (v : Visit) → (w.visit a).there ≡ true → v.there ≡ true → Holds (with_visit (closed_view w) a v) (with_last l a v) → Left v
  after_told v was there k = rw (noted_there l a source v there (h.mirror a was).0) k

  told_at_home :
      (kind : Kind) → w.passage.round.kind ≡ kind → kind ≢ Kind.None → (w.visit a).there ≡ true
      → Left (told_visit (told_of kind (largest_quiesce w.passage.round)) (w.visit a))
  told_at_home Kind.None e n was = absurd (n refl)
  told_at_home (Kind.Refresh q r) e n was =
      after_told
      _
      was
      was
      (holds_after_told_refresh
      (closed_view w)
      l
      a
      q
      (holds_after_closed w l h one closed)
      was
      ((holds_after_closed w l h one closed).passage.refresh_two q r refl e)
      (λ y. false≢true (sym (ap is_binding e) ∙ y.binding))
      (λ y. absurd (false≢true (sym (ap is_binding e) ∙ y))))
  told_at_home Kind.Terminate e n was =
      after_told
      _
      was
      was
      (holds_after_told_terminate
      (closed_view w)
      l
      a
      (largest_quiesce w.passage.round)
      (holds_after_closed w l h one closed)
      was
      (closed_is_quiet w l h one closed (ap is_binding e))
      (closed_largest w l h one closed (ap is_binding e)))
  told_at_home Kind.Prepare e n was =
      rw
      (noted_gone l a source no_visit refl)
      (holds_after_went
      (closed_view w)
      l
      a
      no_visit
      (holds_after_closed w l h one closed)
      refl
      (λ y. inr (inr (closed_is_quiet w l h one closed (ap is_binding e)))))

  -- "Where a rule changes a visit that isn't there .., that part does nothing"
  stay_home : Left (w.visit a)
  stay_home = holds_after_stay (closed_view w) l a source (holds_after_closed w l h one closed)

  pub told_or_stay :
      w.passage.round.kind ≢ Kind.None
      → Holds
      (with_visit (closed_view w) a (where_there (w.visit a) (told_visit (round_told w.passage.round) (w.visit a))))
      (ledger_noted l a source (where_there (w.visit a) (told_visit (round_told w.passage.round) (w.visit a))))
  told_or_stay n = go (either (w.visit a).there)
    where
      go :
          ((w.visit a).there ≡ true) ⊎ ((w.visit a).there ≡ false)
          → Left (cond (w.visit a).there (told_visit (round_told w.passage.round) (w.visit a)) (w.visit a))
      go (inl e) = when_true Left (w.visit a).there _ _ e (told_at_home w.passage.round.kind refl n e)
      go (inr e) = when_false Left (w.visit a).there _ _ e stay_home

-- ---- the step

pub one_says : (p : Phase) → is_phase_one p ≡ true → p ≡ Phase.One
one_says Phase.None e = absurd (false≢true e)
one_says Phase.One e = refl
one_says Phase.Two e = absurd (false≢true e)

one_kind : (k : Kind) (p : Phase) → phase_fits k p ≡ true → p ≡ Phase.One → k ≢ Kind.None
one_kind k p f e n = false≢true (rw (n, e) at f)

close_left :
    (w : View) (l : Ledger) (a k c source : ℕ) → Holds w l → w.clock a ≤ c → w.passage.round.phase ≡ Phase.One
    → is_closed w.passage.round ≡ true → w.passage.round.kind ≢ Kind.None
    → Holds
    (left_view
    w
    a
    k
    (closed_passage (round_told w.passage.round) w.passage)
    (where_there (w.visit a) (told_visit (round_told w.passage.round) (w.visit a)))
    c
    (w.mail k))
    (ledger_noted l a source (where_there (w.visit a) (told_visit (round_told w.passage.round) (w.visit a))))
close_left w l a k c source h i one closed kind =
    mail_back
    w
    a
    k
    c
    _
    _
    (w.mail k)
    _
    refl
    (told_or_stay (moved w a c) l a source (holds_after_moved w l a c h i) one closed kind)

pub fitting_after_close :
    (t : Tables) (h : ℕ) → in_range t ≡ true → Fine (close_checks h (seen_of t (places_of t (look_of (Step.Close h)))))
    → Fitting t (places_of t (look_of (Step.Close h))) (close_done h (seen_of t (places_of t (look_of (Step.Close h))))).left
unfolding places_of
fitting_after_close t h range fine =
    record {
      clock = omega arith;
      mail = inl refl;
      own =
          λ l y.
          holds_after_news
          _
          _
          _
          refl
          (close_left
          (view_of t (h % 16))
          l
          ((passage_at t (h % 16)).home % 8)
          0
          (next_clock (site_at t ((passage_at t (h % 16)).home % 8)))
          (message_at t 0).source
          y
          (omega arith)
          one
          (not_false _ fine.closed)
          (one_kind _ _ (phase_in_range t (look_of (Step.Close h)) range) one));
    }
  where
    one : (passage_at t (h % 16)).round.phase ≡ Phase.One
    one = one_says _ (not_false _ fine.state)
