-- Steps of a station keep the invariant: tick, recover, the clock of a sweep and of a crash, and each slot of them. Assumes nothing.
use Rattle.std.specs.Prelude.{ℕ, ◌%◌, ◌≤◌, ◌≡◌, refl, ◌⊎◌, Bool, true, false, cond, not, ◌&&◌, ◌||◌, eqb}
use Rattle.std.proofs.Common.{arith, sym, subst, ⊎_elim, inl, inr, leb-true}
use Rattle.rules.specs.LoopsLaws.{either, and_left, and_right}
use Rattle.rules.specs.Tables.{site_at, passage_at, visit_at, message_at, no_visit, no_message, slot_of}
use Rattle.rules.specs.Parts.{is_free, is_active, aborted_passage, quieted, where_there}
use Rattle.rules.specs.Seen.{left_site, left_message}
use Rattle.rules.specs.Stations.{is_swept, swept_slot, loses_home, crashed_slot}
use Rattle.rules.specs.Calls.{lost}
use Rattle.rules.specs.Machine.{seen_of, slot_places}
use Rattle.runs.specs.Types.{Site, Visit, Tables, Places}
use Rattle.runs.proofs.Walk.Plain.{when_true, when_false}
use Rattle.runs.specs.Walk.Put.{put, put_same}
use Rattle.runs.specs.Times.View.{View, Ledger, mail_of, view_of, no_ledger, ledger_noted}
use Rattle.runs.specs.Times.Clauses.{Holds}
use Rattle.runs.proofs.Kept.Shrunk.{around}
use Rattle.runs.proofs.Kept.Visit.{with_visit}
use Rattle.runs.proofs.Kept.Times.{holds_after_quieted}
use Rattle.runs.proofs.Kept.Round.{holds_after_aborted}
use Rattle.runs.proofs.Times.Store.{left_view, Fitting, holds_after_idle, noted_there, noted_gone}
use Rattle.runs.proofs.Fits.Shared.{moved, holds_after_moved, holds_after_news, mail_back, holds_after_stay, holds_after_went}

-- only the site changes, and its clock does not go back
pub fitting_after_site :
    (t : Tables) (at : Places) (site : Site) → (site_at t at.site).clock ≤ site.clock
    → Fitting t at (left_site (seen_of t at) site)
fitting_after_site t at site i =
    record {
      clock = i;
      mail = inl refl;
      own =
          λ l h.
          holds_after_idle
          (view_of t at.slot)
          l
          at.site
          at.message
          site.clock
          (message_at t at.message).source
          (mail_of at.slot (message_at t at.message))
          h
          i
          (inl refl);
    }

-- what was seen is stored back
pub fitting_after_same : (t : Tables) (at : Places) → Fitting t at (seen_of t at)
fitting_after_same t at = fitting_after_site t at (site_at t at.site) (omega arith)

-- the message is gone, and the site's clock does not go back
pub fitting_after_emptied :
    (t : Tables) (at : Places) (site : Site) → slot_of (message_at t at.message).handle ≡ at.slot → (site_at t at.site).clock ≤ site.clock
    → Fitting t at (left_message (left_site (seen_of t at) site) no_message)
fitting_after_emptied t at site e i =
    record {
      clock = i;
      mail = inr (inr e, inl refl);
      own =
          λ l h.
          holds_after_idle
          (view_of t at.slot)
          l
          at.site
          at.message
          site.clock
          (message_at t at.message).source
          (mail_of at.slot no_message)
          h
          i
          (inr refl);
    }

-- 12. drop: the message is lost
pub fitting_after_lost :
    (t : Tables) (at : Places) → slot_of (message_at t at.message).handle ≡ at.slot → Fitting t at (lost (seen_of t at))
fitting_after_lost t at e = fitting_after_emptied t at (site_at t at.site) e (omega arith)

-- ---- a passage that is aborted or stays

pub abort_or_stay :
    (w : View) (l : Ledger) (b : Bool) → Holds w l
    → Holds
    (record { passage = cond b (aborted_passage w.passage) w.passage; visit = w.visit; clock = w.clock; mail = w.mail })
    l
abort_or_stay w l true h = holds_after_aborted w l h
abort_or_stay w l false h = h

-- ---- one slot of a sweep: the visit goes at its time, and an active passage at home is aborted

holds_after_swept :
    (w : View) (l : Ledger) (a k source : ℕ) (b : Bool) → Holds w l → (w.visit a).there ≡ true
    → (w.visit a).release ≤ w.clock a
    → Holds
    (left_view w a k (cond b (aborted_passage w.passage) w.passage) no_visit (w.clock a) (w.mail k))
    (cond (is_free (cond b (aborted_passage w.passage) w.passage).status) no_ledger (ledger_noted l a source no_visit))
holds_after_swept w l a k source b h there late =
    mail_back
    w
    a
    k
    (w.clock a)
    (cond b (aborted_passage w.passage) w.passage)
    no_visit
    (w.mail k)
    _
    refl
    (holds_after_news
    (record {
      passage = cond b (aborted_passage w.passage) w.passage;
      visit = put w.visit a no_visit;
      clock = put w.clock a (w.clock a);
      mail = w.mail;
    })
    (ledger_noted l a source no_visit)
    l
    (noted_gone l a source no_visit refl)
    (abort_or_stay
    (around w (put w.visit a no_visit) (put w.clock a (w.clock a)) w.mail)
    l
    b
    (holds_after_went
    (moved w a (w.clock a))
    l
    a
    no_visit
    (holds_after_moved w l a (w.clock a) h (omega arith))
    refl
    (λ y. inr (inl (rw ((h.mirror a there).1, put_same w.clock a (w.clock a)) late))))))

pub fitting_after_swept :
    (t : Tables) (site slot : ℕ) → Fitting t (slot_places site slot) (swept_slot site slot (seen_of t (slot_places site slot)))
unfolding swept_slot
fitting_after_swept t site slot =
    ⊎_elim
    (λ e.
    rw
    e
    (record {
      clock = omega arith;
      mail = inl refl;
      own =
          λ l h.
          holds_after_swept
          (view_of t slot)
          l
          (site % 8)
          0
          (message_at t 0).source
          (is_active (passage_at t slot).status && eqb (passage_at t slot).home site)
          h
          (and_left (visit_at t (site % 8) slot).there _ (and_left ((visit_at t (site % 8) slot).there && not (visit_at t (site % 8) slot).prepared) _ e))
          (leb-true _ _ (and_right ((visit_at t (site % 8) slot).there && not (visit_at t (site % 8) slot).prepared) _ e));
    }))
    (λ e. rw e (fitting_after_same t (slot_places site slot)))
    (either (is_swept (seen_of t (slot_places site slot))))

-- ---- a visit that is there is quieted, or stays

pub quieted_or_stay :
    (w : View) (l : Ledger) (a source : ℕ) (b prepared dead : Bool) → Holds w l
    → Holds
    (with_visit w a (where_there (w.visit a) (cond b (quieted (w.visit a) (w.clock a) prepared dead) (w.visit a))))
    (ledger_noted l a source (where_there (w.visit a) (cond b (quieted (w.visit a) (w.clock a) prepared dead) (w.visit a))))
quieted_or_stay w l a source b prepared dead h = go b (either (w.visit a).there)
  where
    Left : Visit → Type 0
    Left v = Holds (with_visit w a v) (ledger_noted l a source v)

    stay : Left (w.visit a)
    stay = holds_after_stay w l a source h

    go :
        (c : Bool) → ((w.visit a).there ≡ true) ⊎ ((w.visit a).there ≡ false)
        → Left (cond (w.visit a).there (cond c (quieted (w.visit a) (w.clock a) prepared dead) (w.visit a)) (w.visit a))
    go true (inl e) =
        when_true
        Left
        (w.visit a).there
        (quieted (w.visit a) (w.clock a) prepared dead)
        (w.visit a)
        e
        (subst
        (λ (m : Ledger). Holds (with_visit w a (quieted (w.visit a) (w.clock a) prepared dead)) m)
        (sym (noted_there l a source (quieted (w.visit a) (w.clock a) prepared dead) e (h.mirror a e).0))
        (holds_after_quieted w l a prepared dead h e))
    go false (inl e) = when_true Left (w.visit a).there (w.visit a) (w.visit a) e stay
    go c (inr e) = when_false Left (w.visit a).there (cond c (quieted (w.visit a) (w.clock a) prepared dead) (w.visit a)) (w.visit a) e stay

-- the same once the clock has moved, with a passage that is aborted or stays
pub holds_after_struck :
    (w : View) (l : Ledger) (a k c source : ℕ) (b prepared dead aborts : Bool) → Holds w l → w.clock a ≤ c
    → Holds
    (left_view w a k (cond aborts (aborted_passage w.passage) w.passage) (where_there (w.visit a) (cond b (quieted (w.visit a) c prepared dead) (w.visit a))) c (w.mail k))
    (ledger_noted l a source (where_there (w.visit a) (cond b (quieted (w.visit a) c prepared dead) (w.visit a))))
holds_after_struck w l a k c source b prepared dead aborts h i =
    mail_back
    w
    a
    k
    c
    (cond aborts (aborted_passage w.passage) w.passage)
    (where_there (w.visit a) (cond b (quieted (w.visit a) c prepared dead) (w.visit a)))
    (w.mail k)
    _
    refl
    (subst
    (λ (d : ℕ).
    Holds
    (record {
      passage = cond aborts (aborted_passage w.passage) w.passage;
      visit = put w.visit a (where_there (w.visit a) (cond b (quieted (w.visit a) d prepared dead) (w.visit a)));
      clock = put w.clock a c;
      mail = w.mail;
    })
    (ledger_noted l a source (where_there (w.visit a) (cond b (quieted (w.visit a) d prepared dead) (w.visit a)))))
    (put_same w.clock a c)
    (abort_or_stay
    (with_visit (moved w a c) a (where_there (w.visit a) (cond b (quieted (w.visit a) (put w.clock a c a) prepared dead) (w.visit a))))
    _
    aborts
    (quieted_or_stay (moved w a c) l a source b prepared dead (holds_after_moved w l a c h i))))

-- ---- one slot of a crash

pub fitting_after_crashed :
    (t : Tables) (site slot : ℕ) → Fitting t (slot_places site slot) (crashed_slot site slot (seen_of t (slot_places site slot)))
unfolding crashed_slot
fitting_after_crashed t site slot =
    record {
      clock = omega arith;
      mail = inl refl;
      own =
          λ l h.
          holds_after_news
          _
          _
          _
          refl
          (holds_after_struck
          (view_of t slot)
          l
          (site % 8)
          0
          (site_at t (site % 8)).clock
          (message_at t 0).source
          (loses_home site (passage_at t slot) || not (visit_at t (site % 8) slot).prepared)
          false
          true
          (loses_home site (passage_at t slot))
          h
          (omega arith));
    }
