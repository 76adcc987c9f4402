-- Steps of a passage's life keep the invariant: begin, abort, retire. Assumes nothing.
use Rattle.std.specs.Prelude.{ℕ, ◌%◌, ◌<◌, ◌≤◌, ◌≡◌, refl, true, false, not, ◌||◌, ltb}
use Rattle.std.proofs.Common.{arith, sym, ap, ◌∙◌, subst, ⊎_elim, inl, true≢false, ltb-false}
use Rattle.std.proofs.lemmas.Bool.{false≢true}
use Rattle.rules.specs.Loops.{some_up_to}
use Rattle.rules.specs.LoopsLaws.{either, or_left, or_right, not_false, some_none}
use Rattle.rules.specs.Limits.{time_most}
use Rattle.rules.specs.Tables.{site_at, passage_at, visit_at, message_at, free_slot}
use Rattle.rules.specs.AnswersLaws.{Fine}
use Rattle.rules.specs.Checks.{bad_site, bad_times}
use Rattle.rules.specs.Parts.{is_free, is_empty, is_over, next_clock, new_visit}
use Rattle.rules.specs.Passages.{begin_checks, begun_passage, begin_done, abort_done, retire_checks, retire_done, next_generation}
use Rattle.rules.specs.Machine.{look_of, places_of, seen_of, is_message_of, remains}
use Rattle.rules.proofs.Views.{empty_says}
use Rattle.runs.specs.Types.{Status, Body, Tables, Step}
use Rattle.runs.specs.Walk.Put.{put, put_all}
use Rattle.runs.specs.Times.View.{View, Ledger, mail_of, view_of, no_ledger, ledger_noted, noted_past, first_seen}
use Rattle.runs.specs.Times.Clauses.{Holds}
use Rattle.runs.proofs.Kept.Life.{holds_of_free, holds_after_begun}
use Rattle.runs.proofs.Times.Store.{left_view, Fitting}
use Rattle.runs.proofs.Fits.Shared.{moved, holds_after_moved, mail_back}
use Rattle.runs.proofs.Fits.Stations.{holds_after_struck}

-- ---- what the checks say

pub free_says : (s : Status) → is_free s ≡ true → s ≡ Status.Free
free_says Status.Free e = refl
free_says Status.Active e = absurd (false≢true e)
free_says Status.Committing e = absurd (false≢true e)
free_says Status.Aborted e = absurd (false≢true e)
free_says Status.Committed e = absurd (false≢true e)

pub site_says : (s : ℕ) → bad_site s ≡ false → s < 8
site_says s e = let i : s ≤ 7 = ltb-false 7 s e in omega arith

pub times_say : (q r : ℕ) → bad_times q r ≡ false → q ≤ r
times_say q r e = ltb-false r q (or_right (ltb time_most q || ltb time_most r) (ltb r q) e)

-- ---- begin

begin_left :
    (w : View) (l : Ledger) (a k c home q r source : ℕ) → Holds w l → w.clock a ≤ c → a ≡ home → a < 8
    → w.passage.status ≡ Status.Free → q ≤ r
    → Holds
    (left_view w a k (begun_passage home w.passage) (new_visit q r 0) c (w.mail k))
    (ledger_noted l a source (new_visit q r 0))
begin_left w l a k c home q r source h i e place free times =
    subst
    (λ (x : ℕ).
    Holds (left_view w a k (begun_passage x w.passage) (new_visit q r 0) c (w.mail k)) (ledger_noted l a source (new_visit q r 0)))
    e
    (mail_back
    w
    a
    k
    c
    (begun_passage a w.passage)
    (new_visit q r 0)
    (w.mail k)
    _
    refl
    (subst
    (λ (m : Ledger).
    Holds
    (record { passage = begun_passage a w.passage; visit = put w.visit a (new_visit q r 0); clock = put w.clock a c; mail = w.mail })
    m)
    (sym (ap (put l a) news))
    (holds_after_begun (moved w a c) l a q r source (holds_after_moved w l a c h i) free place times)))
  where
    news : noted_past l (l a) source (new_visit q r 0) ≡ first_seen l source (new_visit q r 0)
    news = rw ((h.free free).ledger a)

pub fitting_after_begin :
    (t : Tables) (home slot q r : ℕ)
    → Fine (begin_checks home slot q r (seen_of t (places_of t (look_of (Step.Begin home slot q r)))))
    → Fitting
    t
    (places_of t (look_of (Step.Begin home slot q r)))
    (begin_done home slot q r (seen_of t (places_of t (look_of (Step.Begin home slot q r))))).left
unfolding places_of
fitting_after_begin t home slot q r fine =
    let place : home < 8 = site_says home (or_left (bad_site home) _ (or_left (bad_site home || ltb 15 slot) _ fine.fields)) in
    let times : q ≤ r = times_say q r (or_right (bad_site home || ltb 15 slot) (bad_times q r) fine.fields) in
    record {
      clock = omega arith;
      mail = inl refl;
      own =
          λ l h.
          begin_left
          (view_of t (slot % 16))
          l
          (home % 8)
          0
          (next_clock (site_at t (home % 8)))
          home
          q
          r
          (message_at t 0).source
          h
          (omega arith)
          (omega arith)
          (omega arith)
          (free_says _ (not_false _ fine.state))
          times;
    }

-- ---- abort

pub fitting_after_abort :
    (t : Tables) (h : ℕ)
    → Fitting t (places_of t (look_of (Step.Abort h))) (abort_done h (seen_of t (places_of t (look_of (Step.Abort h))))).left
unfolding places_of
fitting_after_abort t h =
    record {
      clock = omega arith;
      mail = inl refl;
      own =
          λ l y.
          holds_after_struck
          (view_of t (h % 16))
          l
          ((passage_at t (h % 16)).home % 8)
          0
          (next_clock (site_at t ((passage_at t (h % 16)).home % 8)))
          (message_at t 0).source
          true
          false
          (visit_at t ((passage_at t (h % 16)).home % 8) (h % 16)).dead
          true
          y
          (omega arith);
    }

-- ---- retire: nothing of the passage remains

retire_left :
    (t : Tables) (p a k c generation : ℕ) (l : Ledger) → Holds (view_of t p) l → remains t p ≡ false
    → Holds
    (left_view (view_of t p) a k (free_slot generation) (visit_at t a p) c (mail_of p (message_at t k)))
    no_ledger
unfolding remains
retire_left t p a k c generation l h none =
    holds_of_free
    (left_view (view_of t p) a k (free_slot generation) (visit_at t a p) c (mail_of p (message_at t k)))
    (omega arith)
    refl
    (put_all (view_of t p).visit a (visit_at t a p) (λ s v. v.there ≡ false) (no_visit_lem a) (λ s n. no_visit_lem s))
    (put_all
    (view_of t p).mail
    k
    (mail_of p (message_at t k))
    (λ i m. m.body ≡ Body.Empty)
    (no_mail_lem k)
    (λ i n. no_mail_lem i))
  where
    no_visit_lem : (s : ℕ) → (visit_at t s p).there ≡ false
    no_visit_lem s =
        ⊎_elim
        (λ e.
        absurd
        (true≢false
        (sym e
        ∙ some_none
        (λ x. (visit_at t x p).there)
        8
        (or_left (some_up_to (λ x. (visit_at t x p).there) 8) _ none)
        s
        (h.sites s (h.mirror s e).0).place)))
        (λ e. e)
        (either (visit_at t s p).there)

    no_mail_lem : (i : ℕ) → (mail_of p (message_at t i)).body ≡ Body.Empty
    no_mail_lem i =
        ⊎_elim
        (λ e. empty_says _ e)
        (λ e.
        let j : i < 32 = (h.posted i e).0 in
        let n : is_message_of p (message_at t i) ≡ false =
        some_none
        (λ m. is_message_of p (message_at t m))
        32
        (or_right (some_up_to (λ x. (visit_at t x p).there) 8) _ none)
        i
        j in
        rw n)
        (either (is_empty (mail_of p (message_at t i)).body))

pub fitting_after_retire :
    (t : Tables) (h : ℕ)
    → Fine (retire_checks h (remains t (places_of t (look_of (Step.Retire h))).slot) (seen_of t (places_of t (look_of (Step.Retire h)))))
    → Fitting
    t
    (places_of t (look_of (Step.Retire h)))
    (retire_done h (remains t (places_of t (look_of (Step.Retire h))).slot) (seen_of t (places_of t (look_of (Step.Retire h))))).left
unfolding places_of
fitting_after_retire t h fine =
    record {
      clock = omega arith;
      mail = inl refl;
      own =
          λ l y.
          retire_left
          t
          (h % 16)
          ((passage_at t (h % 16)).home % 8)
          0
          (site_at t ((passage_at t (h % 16)).home % 8)).clock
          (next_generation (passage_at t (h % 16)).generation)
          l
          y
          (or_right (not (is_over (passage_at t (h % 16)).status)) _ fine.state);
    }
