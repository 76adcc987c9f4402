-- Steps of a passage's life keep the invariant behind demand 3: begin, abort, retire. Assumes nothing.
use Rattle.std.specs.Prelude.{ℕ, ◌≤◌, ◌≡◌, refl, true, not, eqb, ltb}
use Rattle.std.proofs.Common.{arith, sym, ◌∙◌, inl, inr}
use Rattle.std.proofs.Math.Path.{ap}
use Rattle.std.proofs.Math.Logic.{⊎_elim}
use Rattle.std.proofs.Math.Bool.{false}
use Rattle.std.proofs.lemmas.Bool.{false≢true}
use Rattle.std.proofs.Math.ListN.{length, get_or-eq_default}
use borrow.Author.Tests.{eq-eqb, ne_eqb, ltb-true, ltb-false}
use Rattle.rules.specs.Loops.{some_up_to}
use Rattle.rules.specs.LoopsLaws.{either, and_left, and_right, or_left, or_right, not_false, some_none}
use Rattle.rules.specs.Tables.{site_at, passage_at, visit_at, message_at, visit_place, past_visit, past_message, slot_of}
use Rattle.rules.specs.AnswersLaws.{Fine}
use Rattle.rules.specs.Parts.{is_over, next_clock, new_visit}
use Rattle.rules.specs.Passages.{begun_passage, begin_done, begin_checks, abort_done, retire_done, retire_checks}
use Rattle.rules.specs.Machine.{seen_of, is_message_of, remains}
use Rattle.rules.specs.StoredLaws.{Sized}
use Rattle.runs.specs.Types.{Status, Visit, Body, Message, Tables, Step, Places}
use Rattle.runs.specs.Walk.Put.{put_all}
use Rattle.runs.specs.Times.View.{mail_of, view_of}
use Rattle.runs.specs.Orphans.Watch.{Known}
use Rattle.runs.proofs.Fits.Life.{free_says}
use Rattle.runs.proofs.Orphans.WatchKept.{plain_left, watch_unwatched, plain_free, aborted_free, aborted_active}
use Rattle.runs.proofs.Orphans.WatchMailKept.{mail_after_same}
use Rattle.runs.proofs.Orphans.WatchPassageKept.{passage_after_aborted}
use Rattle.runs.proofs.Orphans.WatchVisitKept.{where_there_lem, visit_after_quieted}
use Rattle.runs.proofs.Orphans.WatchStore.{known_head, KeepsWatch, Guards}

-- ---- begin: something else is known after it

-- the slot was free: it was not watched, and had no trace of a commit round
pub watch_after_begin :
    (latest site : ℕ) (t : Tables) (at : Places) (g : Known) (home slot q r : ℕ) → slot_of slot ≡ at.slot
    → Fine (begin_checks home slot q r (seen_of t at))
    → Guards latest site t at g (λ p. known_head p t (Step.Begin home slot q r) g) (begin_done home slot q r (seen_of t at)).left
watch_after_begin latest site t at g home slot q r own fine =
    record {
      clock = omega arith;
      mail = inl refl;
      own =
          λ h.
          watch_unwatched
          latest
          site
          _
          _
          (λ y. aborted_free (passage_at t at.slot).status (h.watched (and_left g.watched true y)).1.aborted free)
          (λ y. absurd (aborted_active Status.Active y refl))
          (λ y.
          plain_left
          (view_of t at.slot)
          at.site
          at.message
          (next_clock (site_at t at.site))
          (begun_passage home (passage_at t at.slot))
          (new_visit q r 0)
          (mail_of at.slot (message_at t at.message))
          (h.plain (inr free))
          (tt, tt)
          (λ z. refl)
          ((h.plain (inr free)).mail at.message));
      other =
          λ p n.
          record {
            commit = λ y. rw (ne_eqb (slot_of slot) p (λ e. n (sym e ∙ own))) at y;
            watched = λ y. and_left g.watched true y;
            cleared = λ y. y;
          };
    }
  where
    free : (passage_at t at.slot).status ≡ Status.Free
    free = free_says _ (not_false _ fine.state)

-- ---- abort: the passage, and the home visit where it is there

pub watch_after_abort : (latest : ℕ) (t : Tables) (at : Places) (h : ℕ) → KeepsWatch latest t at (abort_done h (seen_of t at)).left
watch_after_abort latest t at h =
    record {
      clock = omega arith;
      mail = inl refl;
      own =
          λ e.
          record {
            passage = passage_after_aborted latest (view_of t at.slot) true e;
            visit =
                where_there_lem
                latest
                (view_of t at.slot)
                at.site
                _
                (visit_after_quieted
                latest
                (view_of t at.slot)
                at.site
                (next_clock (site_at t at.site))
                (visit_at t at.site at.slot).dead);
            mail = mail_after_same latest (view_of t at.slot) at.message;
          };
    }

-- ---- retire: it ends the watch

-- nothing of the passage remains; past the last site and the last message slot nothing ever stands
module _ (t : Tables) (p : ℕ) (z : Sized t) (none : remains t p ≡ false) where
  no_visit_lem : (s : ℕ) → (visit_at t s p).there ≡ false
  unfolding remains
  no_visit_lem s =
      ⊎_elim
      (λ e. some_none (λ x. (visit_at t x p).there) 8 (or_left (some_up_to (λ x. (visit_at t x p).there) 8) _ none) s (ltb-true s 8 e))
      (λ e.
      let i : 8 ≤ s = ltb-false s 8 e in
      let n : length t.visits ≡ 128 = z.visits in
      ap (λ (v : Visit). v.there) (get_or-eq_default t.visits past_visit {n = visit_place s p} (omega arith)))
      (either (ltb s 8))

  no_mail_lem : (k : ℕ) → (mail_of p (message_at t k)).body ≡ Body.Empty
  unfolding remains
  no_mail_lem k =
      ⊎_elim
      (λ e.
      let n : is_message_of p (message_at t k) ≡ false =
      some_none
      (λ m. is_message_of p (message_at t m))
      32
      (or_right (some_up_to (λ x. (visit_at t x p).there) 8) _ none)
      k
      (ltb-true k 32 e) in
      rw n)
      (λ e.
      let i : 32 ≤ k = ltb-false k 32 e in
      let n : length t.messages ≡ 32 = z.messages in
      ap (λ (m : Message). (mail_of p m).body) (get_or-eq_default t.messages past_message {n = k} (omega arith)))
      (either (ltb k 32))

pub watch_after_retire :
    (latest site : ℕ) (t : Tables) (at : Places) (g : Known) (h : ℕ) → Sized t → slot_of h ≡ at.slot
    → Fine (retire_checks h (remains t at.slot) (seen_of t at))
    → Guards latest site t at g (λ p. known_head p t (Step.Retire h) g) (retire_done h (remains t at.slot) (seen_of t at)).left
watch_after_retire latest site t at g h z own fine =
    record {
      clock = omega arith;
      mail = inl refl;
      own =
          λ k.
          watch_unwatched
          latest
          site
          _
          _
          (λ y. false≢true (rw (eq-eqb (slot_of h) at.slot own) at (and_right g.watched (not (eqb (slot_of h) at.slot)) y)))
          (λ y. absurd (aborted_free Status.Free y refl))
          (λ y.
          plain_free
          _
          refl
          refl
          (put_all
          (view_of t at.slot).visit
          at.site
          (visit_at t at.site at.slot)
          (λ s v. v.there ≡ false)
          (no_visit_lem t at.slot z none at.site)
          (λ s n. no_visit_lem t at.slot z none s))
          (put_all
          (view_of t at.slot).mail
          at.message
          (mail_of at.slot (message_at t at.message))
          (λ i m. m.body ≡ Body.Empty)
          (no_mail_lem t at.slot z none at.message)
          (λ i n. no_mail_lem t at.slot z none i)));
      other = λ p n. record { commit = λ y. y; watched = λ y. and_left g.watched (not (eqb (slot_of h) p)) y; cleared = λ y. y };
    }
  where
    none : remains t at.slot ≡ false
    none = or_right (not (is_over (passage_at t at.slot).status)) _ fine.state
