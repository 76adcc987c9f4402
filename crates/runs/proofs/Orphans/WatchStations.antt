-- Steps of a station keep the invariant behind demand 3: tick, recover, the clock of a sweep and of a crash, and each slot of them. Assumes nothing.
use Rattle.std.specs.Prelude.{ℕ, ◌%◌, ◌≤◌, refl, true, not, ◌&&◌, ◌||◌, eqb}
use Rattle.std.proofs.Common.{arith, inl}
use Rattle.rules.specs.declared.looking.Trip.{Trip}
use Rattle.rules.specs.LoopsLaws.{cond_keeps}
use Rattle.rules.specs.Tables.{site_at, passage_at, visit_at}
use Rattle.rules.specs.Parts.{is_active}
use Rattle.rules.specs.Seen.{left_site}
use Rattle.rules.specs.Stations.{is_swept, loses_home, swept_slot, crashed_slot}
use Rattle.rules.specs.Machine.{seen_of, slot_places, trip_places, turn_seen}
use Rattle.runs.specs.Types.{Site, Tables, Places}
use Rattle.runs.specs.Times.View.{view_of}
use Rattle.runs.proofs.Orphans.WatchKept.{VisitKeeps}
use Rattle.runs.proofs.Orphans.WatchMailKept.{mail_after_same}
use Rattle.runs.proofs.Orphans.WatchPassageKept.{passage_after_same, passage_after_aborted}
use Rattle.runs.proofs.Orphans.WatchVisitKept.{visit_after_same, where_there_lem, visit_goes, visit_after_quieted}
use Rattle.runs.proofs.Orphans.WatchStore.{KeepsWatch}

-- only the site changes, and its clock does not go back
pub watch_after_site :
    (latest : ℕ) (t : Tables) (at : Places) (site : Site) → (site_at t at.site).clock ≤ site.clock
    → KeepsWatch latest t at (left_site (seen_of t at) site)
watch_after_site latest t at site i =
    record {
      clock = i;
      mail = inl refl;
      own =
          λ e.
          record {
            passage = passage_after_same latest (view_of t at.slot) e;
            visit = visit_after_same latest (view_of t at.slot) at.site;
            mail = mail_after_same latest (view_of t at.slot) at.message;
          };
    }

-- one slot of a sweep: the visit goes, and an active passage at home is aborted; or all stays
watch_after_swept :
    (latest : ℕ) (t : Tables) (site slot : ℕ)
    → KeepsWatch latest t (slot_places site slot) (swept_slot site slot (seen_of t (slot_places site slot)))
unfolding swept_slot
watch_after_swept latest t site slot =
    cond_keeps
    (KeepsWatch latest t (slot_places site slot))
    (is_swept (seen_of t (slot_places site slot)))
    _
    _
    (record {
      clock = omega arith;
      mail = inl refl;
      own =
          λ e.
          record {
            passage =
                passage_after_aborted
                latest
                (view_of t slot)
                (is_active (passage_at t slot).status && eqb (passage_at t slot).home site)
                e;
            visit = visit_goes latest (view_of t slot) (site % 8);
            mail = mail_after_same latest (view_of t slot) 0;
          };
    })
    (watch_after_site latest t (slot_places site slot) (site_at t (site % 8)) (omega arith))

-- one slot of a crash
watch_after_crashed :
    (latest : ℕ) (t : Tables) (site slot : ℕ)
    → KeepsWatch latest t (slot_places site slot) (crashed_slot site slot (seen_of t (slot_places site slot)))
unfolding crashed_slot
watch_after_crashed latest t site slot =
    record {
      clock = omega arith;
      mail = inl refl;
      own =
          λ e.
          record {
            passage = passage_after_aborted latest (view_of t slot) (loses_home site (passage_at t slot)) e;
            visit =
                where_there_lem
                latest
                (view_of t slot)
                (site % 8)
                _
                (cond_keeps
                (VisitKeeps latest (view_of t slot) (site % 8))
                (loses_home site (passage_at t slot) || not (visit_at t (site % 8) slot).prepared)
                _
                _
                (visit_after_quieted latest (view_of t slot) (site % 8) (site_at t (site % 8)).clock true)
                (visit_after_same latest (view_of t slot) (site % 8)));
            mail = mail_after_same latest (view_of t slot) 0;
          };
    }

pub watch_after_turned :
    (latest : ℕ) (t : Tables) (trip : Trip) (slot : ℕ)
    → KeepsWatch latest t (trip_places trip slot) (turn_seen trip slot (seen_of t (trip_places trip slot)))
watch_after_turned latest t Trip.Nowhere slot = watch_after_site latest t (trip_places Trip.Nowhere slot) (site_at t 0) (omega arith)
watch_after_turned latest t (Trip.Sweep site) slot = watch_after_swept latest t site slot
watch_after_turned latest t (Trip.Crash site) slot = watch_after_crashed latest t site slot
