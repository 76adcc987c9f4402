-- A round's messages go from home into an empty slot, and the invariant is kept: ask, tell. Assumes nothing.
use Rattle.std.specs.Prelude.{ℕ, ◌%◌, ◌<◌, ◌≤◌, ◌≡◌, refl, ◌≢◌, true, false, not, ◌||◌}
use Rattle.std.proofs.Common.{arith, subst, inl, inr}
use Rattle.std.proofs.lemmas.Bool.{false≢true, eqb-false}
use Rattle.rules.specs.LoopsLaws.{or_left, or_right, not_false}
use Rattle.rules.specs.Tables.{site_at, passage_at, visit_at, message_at}
use Rattle.rules.specs.AnswersLaws.{Fine}
use Rattle.rules.specs.Checks.{bad_handle}
use Rattle.rules.specs.Parts.{is_free, is_empty, is_phase_one, is_phase_two, has_answered, plain_message}
use Rattle.rules.specs.Rounds.{ask_checks, sent_out, ask_done, tell_checks, tell_done}
use Rattle.rules.specs.Machine.{look_of, places_of, seen_of}
use Rattle.rules.proofs.RangesLaws.{placed_places}
use Rattle.rules.specs.Ranges.{in_range, phase_fits}
use Rattle.runs.specs.Types.{Kind, Phase, Body, Tables, Step, Places}
use Rattle.runs.specs.Times.View.{Ledger, view_of}
use Rattle.runs.specs.Times.Clauses.{Holds}
use Rattle.runs.proofs.Kept.Mail.{with_mail, holds_after_ask, holds_after_tell}
use Rattle.runs.proofs.Times.Store.{own_mail, Fitting, noted_same}
use Rattle.runs.proofs.Fits.Shared.{moved, holds_after_moved, holds_after_news, visit_back, not_free, phase_in_range}
use Rattle.runs.proofs.Fits.Life.{site_says}

-- the slot was empty, and the message is of the passage
pub fitting_after_sent :
    (t : Tables) (at : Places) (body : Body) (h site clock : ℕ) → (site_at t at.site).clock ≤ clock
    → is_empty (message_at t at.message).body ≡ true → is_empty body ≡ false → h % 16 ≡ at.slot
    → ((l : Ledger) → Holds (view_of t at.slot) l → Holds (moved (view_of t at.slot) at.site clock) l
    → Holds (with_mail (moved (view_of t at.slot) at.site clock) at.message (plain_message body (passage_at t at.slot).home site h clock)) l)
    → Fitting t at (sent_out body h site clock (seen_of t at))
fitting_after_sent t at body h site clock i empty full slot law =
    record {
      clock = i;
      mail = inr (inl empty, inr slot);
      own =
          λ l y.
          holds_after_news
          _
          _
          _
          (noted_same (view_of t at.slot) l at.site (message_at t at.message).source y)
          (visit_back
          (view_of t at.slot)
          at.site
          at.message
          clock
          (passage_at t at.slot)
          (visit_at t at.site at.slot)
          _
          l
          refl
          (rw
          (own_mail at.slot (plain_message body (passage_at t at.slot).home site h clock) full slot)
          (law l y (holds_after_moved (view_of t at.slot) l at.site clock y i))));
    }

pub fitting_after_ask :
    (t : Tables) (h site place : ℕ) → Fine (ask_checks h site (seen_of t (places_of t (look_of (Step.Ask h site)))))
    → Fitting
    t
    (places_of t (look_of (Step.Ask h site)))
    (ask_done h site place (seen_of t (places_of t (look_of (Step.Ask h site))))).left
unfolding places_of
fitting_after_ask t h site place fine =
    fitting_after_sent
    t
    (places_of t (look_of (Step.Ask h site)))
    _
    h
    site
    _
    (omega arith)
    (not_false _ fine.room)
    refl
    refl
    (λ l y z.
    holds_after_ask
    _
    l
    _
    site
    h
    _
    z
    (not_free _ (or_left (is_free (passage_at t (h % 16)).status) _ fine.found))
    (placed_places t (look_of (Step.Ask h site))).message
    (site_says site (or_right (bad_handle h) _ fine.fields))
    (eqb-false _ _ (or_right (not (is_phase_one (passage_at t (h % 16)).round.phase)) _ fine.state)))

-- a round in phase 2 has a kind
two_kind : (k : Kind) (p : Phase) → phase_fits k p ≡ true → p ≡ Phase.Two → k ≢ Kind.None
two_kind k p f e n = false≢true (rw (n, e) at f)

pub two_says : (p : Phase) → is_phase_two p ≡ true → p ≡ Phase.Two
two_says Phase.None e = absurd (false≢true e)
two_says Phase.One e = absurd (false≢true e)
two_says Phase.Two e = refl

pub fitting_after_tell :
    (t : Tables) (h site place : ℕ) → in_range t ≡ true
    → Fine (tell_checks h site (seen_of t (places_of t (look_of (Step.Tell h site)))))
    → Fitting
    t
    (places_of t (look_of (Step.Tell h site)))
    (tell_done h site place (seen_of t (places_of t (look_of (Step.Tell h site))))).left
unfolding places_of
fitting_after_tell t h site place range fine =
    fitting_after_sent
    t
    (places_of t (look_of (Step.Tell h site)))
    _
    h
    site
    _
    (omega arith)
    (not_false _ fine.room)
    refl
    refl
    (λ l y z.
    holds_after_tell
    _
    l
    _
    site
    h
    _
    z
    (not_free _ (or_left (is_free (passage_at t (h % 16)).status) _ fine.found))
    (placed_places t (look_of (Step.Tell h site))).message
    s<8
    (eqb-false _ _ (or_right (not (is_phase_two (passage_at t (h % 16)).round.phase) || not (has_answered (passage_at t (h % 16)).round (site % 8))) _ fine.state))
    two
    (subst (λ (x : ℕ). has_answered (passage_at t (h % 16)).round x ≡ true) s%8 answered)
    (two_kind _ _ (phase_in_range t (look_of (Step.Tell h site)) range) two))
  where
    s<8 : site < 8
    s<8 = site_says site (or_right (bad_handle h) _ fine.fields)

    s%8 : site % 8 ≡ site
    s%8 = let i : site < 8 = s<8 in omega arith

    two : (passage_at t (h % 16)).round.phase ≡ Phase.Two
    two =
        two_says
        _
        (not_false
        _
        (or_left
        (not (is_phase_two (passage_at t (h % 16)).round.phase))
        _
        (or_left (not (is_phase_two (passage_at t (h % 16)).round.phase) || not (has_answered (passage_at t (h % 16)).round (site % 8))) _ fine.state)))

    answered : has_answered (passage_at t (h % 16)).round (site % 8) ≡ true
    answered =
        not_false
        _
        (or_right
        (not (is_phase_two (passage_at t (h % 16)).round.phase))
        _
        (or_left (not (is_phase_two (passage_at t (h % 16)).round.phase) || not (has_answered (passage_at t (h % 16)).round (site % 8))) _ fine.state))
