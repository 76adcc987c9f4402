-- Invoke keeps the invariant: an accepted one is a fitting store. Assumes nothing.
use Rattle.std.specs.Prelude.{ℕ, ◌+◌, ◌<◌, ◌≤◌, ◌≡◌, refl, true, cond}
use Rattle.std.proofs.Common.{arith, sym, ap, ◌∙◌, subst, inl, inr, leb-false, ltb-false}
use Rattle.rules.specs.LoopsLaws.{or_left, or_right, not_false}
use Rattle.rules.specs.Tables.{site_at, passage_at, visit_at, message_at, slot_of}
use Rattle.rules.specs.Parts.{is_free, count_sent, plain_message}
use Rattle.rules.specs.Ranges.{in_range}
use Rattle.rules.specs.Checks.{bad_handle, bad_site}
use Rattle.rules.specs.Calls.{call_site, call_of, invoke_checks, invoke_done}
use Rattle.rules.specs.Machine.{look_of, places_of, seen_of}
use Rattle.rules.specs.AnswersLaws.{Fine}
use Rattle.rules.proofs.FineLaws.{invoke_empty}
use Rattle.rules.proofs.RangesLaws.{placed_places}
use Rattle.runs.specs.Types.{Call, Body, Message, Tables, Step, Places}
use Rattle.runs.specs.Walk.Put.{put, put_same}
use Rattle.runs.specs.Times.View.{View, Ledger, view_of, no_ledger, ledger_noted, relast}
use Rattle.runs.specs.Times.Clauses.{Holds}
use Rattle.runs.proofs.Kept.Calls.{holds_after_invoked}
use Rattle.runs.proofs.Times.Store.{next_ledger, left_view, Fitting, own_mail, empty_mail, noted_there}
use Rattle.runs.proofs.Fits.Shared.{moved, holds_after_moved, holds_after_news}

-- ---- one slot's view: a visit before its Q sends a call

holds_after_invoke :
    (w : View) (l : Ledger) (a k d handle c source : ℕ) (call : Call) → Holds w l → w.clock a ≤ c
    → (w.visit a).there ≡ true → c < (w.visit a).quiesce → (w.mail k).body ≡ Body.Empty → k < 32 → d < 8
    → call.quiesce ≡ (w.visit a).quiesce → call.release ≡ (w.visit a).release → call.round ≡ (w.visit a).round
    → Holds
    (left_view w a k w.passage (count_sent (w.visit a) d) c (plain_message (Body.Call call) a d handle c))
    (cond (is_free w.passage.status) no_ledger (ledger_noted l a source (count_sent (w.visit a) d)))
holds_after_invoke w l a k d handle c source call h i there early empty kin din quiesce release round =
    holds_after_news
    (left_view w a k w.passage (count_sent (w.visit a) d) c (plain_message (Body.Call call) a d handle c))
    (ledger_noted l a source (count_sent (w.visit a) d))
    (put l a (relast (l a) (count_sent (w.visit a) d)))
    (noted_there l a source (count_sent (w.visit a) d) there (h.mirror a there).0)
    (holds_after_invoked
    (moved w a c)
    l
    (holds_after_moved w l a c h i)
    a
    k
    d
    handle
    c
    call
    there
    (rw (put_same w.clock a c) early)
    empty
    kin
    din
    quiesce
    release
    round)

-- ---- an invoke at these places

module _ (t : Tables) (at : Places) (h site write object value place : ℕ) (here : at.site ≡ site) (own : slot_of h ≡ at.slot)
    (kin : at.message < 32) (fine : Fine (invoke_checks h site write object value (seen_of t at))) where
  invoke_there : (visit_at t at.site at.slot).there ≡ true
  invoke_there = not_false _ fine.there

  invoke_early : (site_at t at.site).clock + 1 < (visit_at t at.site at.slot).quiesce
  invoke_early = leb-false _ _ (or_left _ (visit_at t at.site at.slot).dead fine.early)

  abbrev new_message : ℕ → Message
  new_message source =
      plain_message
      (Body.Call (call_of write object value (visit_at t at.site at.slot)))
      source
      (call_site object)
      h
      ((site_at t at.site).clock + 1)

  pub invoke_fits_at : Fitting t at (invoke_done h site write object value place (seen_of t at)).left
  invoke_fits_at =
      record {
        clock = omega arith;
        mail = inr (inl (invoke_empty h site write object value (seen_of t at) fine), inr own);
        own =
            λ l g.
            subst
            (λ (m : Message).
            Holds
            (left_view
            (view_of t at.slot)
            at.site
            at.message
            (passage_at t at.slot)
            (count_sent (visit_at t at.site at.slot) (call_site object))
            ((site_at t at.site).clock + 1)
            m)
            (next_ledger l at.site (seen_of t at) (invoke_done h site write object value place (seen_of t at)).left))
            (ap new_message here ∙ sym (own_mail at.slot (new_message site) refl own))
            (holds_after_invoke
            (view_of t at.slot)
            l
            at.site
            at.message
            (call_site object)
            h
            ((site_at t at.site).clock + 1)
            (message_at t at.message).source
            (call_of write object value (visit_at t at.site at.slot))
            g
            (omega arith)
            invoke_there
            invoke_early
            (ap (λ (m : Message). m.body) (empty_mail at.slot (message_at t at.message) (invoke_empty h site write object value (seen_of t at) fine)))
            kin
            (omega arith)
            refl
            refl
            refl);
      }

-- 3. invoke
pub fitting_after_invoke :
    (t : Tables) (h site write object value place : ℕ) → in_range t ≡ true
    → Fine (invoke_checks h site write object value (seen_of t (places_of t (look_of (Step.Invoke h site write object value)))))
    → Fitting
    t
    (places_of t (look_of (Step.Invoke h site write object value)))
    (invoke_done h site write object value place (seen_of t (places_of t (look_of (Step.Invoke h site write object value))))).left
unfolding places_of
fitting_after_invoke t h site write object value place range fine =
    invoke_fits_at
    t
    (places_of t (look_of (Step.Invoke h site write object value)))
    h
    site
    write
    object
    value
    place
    (let i : site ≤ 7 = ltb-false 7 site (or_right (bad_handle h) (bad_site site) (or_left _ _ (or_left _ _ (or_left _ _ (or_left _ _ fine.fields))))) in omega arith)
    refl
    (placed_places t (look_of (Step.Invoke h site write object value))).message
    fine
