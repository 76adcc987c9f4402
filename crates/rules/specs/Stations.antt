-- Steps of a station: 1 tick, 13 sweep, 14 crash, 15 recover. Assumes nothing.
-- x_checks: the refusals in their order. x_done: the answer and the records. x_of: the same, where a refusal keeps what was seen.
use Rattle.std.specs.Prelude.{ℕ, ◌+◌, Bool, true, false, cond, not, ◌&&◌, ◌||◌, List, [], ◌∷◌, leb, ltb, eqb}
use Rattle.rules.specs.Types.{Passage, Visit, Refusal, Check, Seen, Decision}
use Rattle.rules.specs.Limits.{tick_most}
use Rattle.rules.specs.Tables.{no_visit}
use Rattle.rules.specs.Answers.{refuse, first_refusal, settle_of}
use Rattle.rules.specs.Parts.{clock_to, next_clock, is_active, is_running, aborted_passage, where_there, quieted, restored, each_of, with_up}
use Rattle.rules.specs.Seen.{left_site, left_passage, left_visit, left_objects, at_clock}
use Rattle.rules.specs.Checks.{bad_site, site_down, clock_full}

-- ---- 1. tick a=site, u=n, 1..1,000,000. Value: the clock.

abbrev pub tick_checks : ℕ → ℕ → Seen → List Check
tick_checks site n seen =
    refuse Refusal.BadField (bad_site site || eqb n 0 || ltb tick_most n) ∷ site_down seen
    ∷ clock_full (seen.site.clock + n)
    ∷ []

abbrev pub tick_done : ℕ → ℕ → Seen → Decision
tick_done site n seen =
    record {
      answer = first_refusal (tick_checks site n seen) (seen.site.clock + n);
      left = at_clock seen (seen.site.clock + n);
    }

unfoldable pub tick_of : ℕ → ℕ → Seen → Decision
tick_of site n seen = settle_of (tick_done site n seen) seen

-- ---- 13. sweep a=site. First the clock; then, slot by slot, every visit there. Value: visits removed.

abbrev pub sweep_checks : ℕ → Seen → List Check
sweep_checks site seen =
    refuse Refusal.BadField (bad_site site) ∷ site_down seen ∷ clock_full (next_clock seen.site) ∷ []

abbrev pub sweep_done : ℕ → Seen → Decision
sweep_done site seen =
    record {
      answer = first_refusal (sweep_checks site seen) 0;
      left = at_clock seen (next_clock seen.site);
    }

unfoldable pub sweep_of : ℕ → Seen → Decision
sweep_of site seen = settle_of (sweep_done site seen) seen

-- a visit that a sweep may take: "unprepared"
abbrev pub is_sweepable : Visit → Bool
is_sweepable v = not v.prepared

-- "for every unprepared visit there with R ≤ clock"
abbrev pub is_swept : Seen → Bool
is_swept seen =
    seen.visit.there && is_sweepable seen.visit && leb seen.visit.release seen.site.clock

-- "If the passage is active and this is its home: aborted, phase none."
abbrev pub swept_passage : ℕ → Passage → Passage
swept_passage site p = cond (is_active p.status && eqb p.home site) (aborted_passage p) p

-- one slot of a sweep: "restores and frees its objects at that site, and removes it"
unfoldable pub swept_slot : ℕ → ℕ → Seen → Seen
swept_slot site slot seen =
    cond
    (is_swept seen)
    (left_objects
    (left_visit (left_passage seen (swept_passage site seen.passage)) no_visit)
    (each_of (restored slot) seen.objects))
    seen

-- ---- 14. crash a. First the clock, and the site is down; then, slot by slot, every visit there. "Clock and tables survive."

abbrev pub crash_checks : ℕ → Seen → List Check
crash_checks site seen =
    refuse Refusal.BadField (bad_site site) ∷ site_down seen ∷ clock_full (next_clock seen.site) ∷ []

abbrev pub crash_done : ℕ → Seen → Decision
crash_done site seen =
    record {
      answer = first_refusal (crash_checks site seen) 0;
      left = left_site seen (with_up (clock_to seen.site (next_clock seen.site)) false);
    }

unfoldable pub crash_of : ℕ → Seen → Decision
crash_of site seen = settle_of (crash_done site seen) seen

-- "A passage whose home this is, if active or committing"
abbrev pub loses_home : ℕ → Passage → Bool
loses_home site p = is_running p.status && eqb p.home site

-- "every unprepared visit there gets Q := min(Q, clock) and dead"; such a passage's home visit "loses prepared and gets the same Q and mark"
abbrev pub crashed_visit : Bool → ℕ → Visit → Visit
crashed_visit homeless clock v = cond (homeless || not v.prepared) (quieted v clock false true) v

-- such a passage "becomes aborted, phase none"
abbrev pub crashed_passage : Bool → Passage → Passage
crashed_passage homeless p = cond homeless (aborted_passage p) p

-- one slot of a crash
unfoldable pub crashed_slot : ℕ → ℕ → Seen → Seen
crashed_slot site slot seen =
    left_visit
    (left_passage seen (crashed_passage (loses_home site seen.passage) seen.passage))
    (where_there seen.visit (crashed_visit (loses_home site seen.passage) seen.site.clock seen.visit))

-- ---- 15. recover a: up. "4: acting site down (not for recover)"; "5: recover: site up"

abbrev pub recover_checks : ℕ → Seen → List Check
recover_checks site seen =
    refuse Refusal.BadField (bad_site site) ∷ refuse Refusal.WrongState seen.site.up
    ∷ clock_full (next_clock seen.site)
    ∷ []

abbrev pub recover_done : ℕ → Seen → Decision
recover_done site seen =
    record {
      answer = first_refusal (recover_checks site seen) 0;
      left = left_site seen (with_up (clock_to seen.site (next_clock seen.site)) true);
    }

unfoldable pub recover_of : ℕ → Seen → Decision
recover_of site seen = settle_of (recover_done site seen) seen
