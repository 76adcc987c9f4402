-- From the moment of demand 3 on: what is watched of the passage, what a sweep at T leaves, and what drives a clock to T. Assumes nothing.
use Rattle.std.specs.Prelude.{ℕ, ◌+◌, ◌-◌, ◌<◌, ◌≤◌, ◌≡◌, refl, true, false, List, [], ◌∷◌}
use Rattle.std.proofs.Common.{arith, sym, ap, ◌∙◌, ⊎_elim, inl, true≢false}
use Rattle.std.proofs.lemmas.Bool.{false≢true}
use Rattle.rules.specs.LoopsLaws.{either}
use Rattle.rules.specs.Tables.{site_at, passage_at, visit_at}
use Rattle.rules.specs.Answers.{is_accepted}
use Rattle.rules.specs.Machine.{head_of, step_of}
use Rattle.rules.specs.Runs.{Started, run_of, history_of}
use Rattle.rules.specs.Events.{is_holding}
use Rattle.runs.specs.Types.{Status, Tables, Step}
use Rattle.runs.specs.Times.View.{view_of}
use Rattle.runs.proofs.Walk.Steps.{ghost_run, head_accepted}
use Rattle.runs.proofs.Walk.Sound.{Sound, sound_started, sound_run, sound_from, sound_step}
use Rattle.runs.proofs.Holders.HeldStore.{Held}
use Rattle.runs.proofs.Holders.Holders.{held_run, held_step, held_from}
use Rattle.runs.proofs.Walk.Counted.{steps_drive}
use Rattle.runs.proofs.Orphans.Swept.{Ripe, swept_away_lem, swept_clock}
use Rattle.runs.specs.Orphans.Orphans.{NothingLeft, began_commit, is_retired, steps_at, latest}
use Rattle.runs.specs.Orphans.Watch.{Known, Plain, Bounded, Watch}
use Rattle.runs.proofs.Orphans.WatchStore.{known_head, known_turn}
use Rattle.runs.proofs.Orphans.WatchSteps.{known_nothing, watch_head, watch_run, watch_started}
use Rattle.runs.proofs.Orphans.OrphansGone.{known_commit, known_watched, known_cleared, bounded_now}

-- ---- no visit, no hold

nothing_left : (t : Tables) (slot site : ℕ) → Held t → (visit_at t site slot).there ≡ false → NothingLeft t slot site
nothing_left t slot site h e =
    record {
      visit = e;
      object =
          λ k i s.
          ⊎_elim
          (λ held. absurd (true≢false (sym (h.visits k slot i held).1 ∙ ap (λ (x : ℕ). (visit_at t x slot).there) s ∙ e)))
          (λ free. free)
          (either (is_holding t slot k));
    }

-- ---- the moment

module _ {t₀ : Tables} (fresh : Started t₀) (before : List Step) (slot site : ℕ) (slots : slot < 16) (sites : site < 8)
    (aborted : (passage_at (run_of t₀ before) slot).status ≡ Status.Aborted)
    (never : began_commit slot false (history_of t₀ before) ≡ false) where
  -- the tables at the moment, and T
  abbrev Now : Tables
  Now = run_of t₀ before

  abbrev Latest : ℕ
  Latest = latest (run_of t₀ before) slot

  -- from now on the passage is watched
  abbrev Watched : Known
  Watched = record { commit = false; watched = true; cleared = false }

  watch_before :
      Watch Latest site (ghost_run (known_head slot) known_turn t₀ before known_nothing) (view_of Now slot)
  watch_before = (watch_run Latest site slot slots t₀ before known_nothing (sound_started fresh) (watch_started fresh Latest site slot)).1

  plain_now : Plain (view_of Now slot)
  plain_now = watch_before.plain (inl (known_commit slot t₀ before known_nothing ∙ never))

  watch_now : Watch Latest site Watched (view_of Now slot)
  watch_now =
      record {
        ending = watch_before.ending;
        plain = λ e. plain_now;
        watched = λ e. (plain_now, bounded_now fresh before slot slots aborted);
        cleared = λ e. absurd (false≢true e);
      }

  -- ---- and then any steps, but for a retire

  module _ (after : List Step) (still : is_retired slot (history_of Now after) ≡ false)
      (accepted : is_accepted (step_of (run_of Now after) (Step.Sweep site)).answer ≡ true)
      (reached : Latest ≤ (site_at (step_of (run_of Now after) (Step.Sweep site)).tables site).clock) where
    abbrev Then : Tables
    Then = run_of (run_of t₀ before) after

    abbrev Swept : Tables
    Swept = (step_of (run_of (run_of t₀ before) after) (Step.Sweep site)).tables

    abbrev ThenKnown : Known
    ThenKnown = ghost_run (known_head slot) known_turn (run_of t₀ before) after Watched

    sound_then : Sound Then
    sound_then = sound_from Now after (sound_run fresh before)

    watch_then : Watch Latest site ThenKnown (view_of Then slot)
    watch_then = (watch_run Latest site slot slots Now after Watched (sound_run fresh before) watch_now).1

    watched_then : ThenKnown.watched ≡ true
    watched_then = known_watched slot Now after Watched refl still

    -- once the sweep's clock has moved, the visit is ripe
    ripe :
        Ripe
        (site_at (head_of Then (Step.Sweep site)).tables site).clock
        (visit_at (head_of Then (Step.Sweep site)).tables site slot)
    ripe =
        let k : Plain (view_of (head_of Then (Step.Sweep site)).tables slot) × Bounded Latest (view_of (head_of Then (Step.Sweep site)).tables slot) =
        (watch_head Latest site slot slots Then (Step.Sweep site) ThenKnown sound_then watch_then (head_accepted Then (Step.Sweep site) accepted)).watched
        (rw watched_then refl) in
        record {
          prepared = λ e. k.0.visits site e;
          release =
              λ e.
              let i : (visit_at (head_of Then (Step.Sweep site)).tables site slot).release ≤ Latest = (k.1.visits site e).1 in
              let j : (site_at Swept site).clock ≡ (site_at (head_of Then (Step.Sweep site)).tables site).clock =
              swept_clock site slot sites slots Then sound_then accepted in
              omega arith;
        }

    gone_swept : (visit_at Swept site slot).there ≡ false
    gone_swept = swept_away_lem site slot sites slots Then sound_then accepted ripe

    held_swept : Held Swept
    held_swept = held_step Then (Step.Sweep site) (held_from Now after (held_run fresh before))

    pub swept_nothing : NothingLeft Swept slot site
    swept_nothing = nothing_left Swept slot site held_swept gone_swept

    -- ---- it is watched on, and the station is cleared of it

    abbrev Cleared : Known
    Cleared = record { commit = (ghost_run (known_head slot) known_turn Then (Step.Sweep site ∷ []) ThenKnown).commit; watched = true; cleared = true }

    still_swept : is_retired slot (history_of Then (Step.Sweep site ∷ [])) ≡ false
    unfolding is_retired history_of
    still_swept = rw accepted

    watch_one : Watch Latest site (ghost_run (known_head slot) known_turn Then (Step.Sweep site ∷ []) ThenKnown) (view_of Swept slot)
    unfolding run_of
    watch_one = (watch_run Latest site slot slots Then (Step.Sweep site ∷ []) ThenKnown sound_then watch_then).1

    watch_cleared : Watch Latest site Cleared (view_of Swept slot)
    watch_cleared =
        record {
          ending = watch_one.ending;
          plain = watch_one.plain;
          watched = λ e. watch_one.watched (known_watched slot Then (Step.Sweep site ∷ []) ThenKnown watched_then still_swept);
          cleared = λ e f. (gone_swept, reached);
        }

    pub later_nothing :
        (later : List Step) → is_retired slot (history_of Swept later) ≡ false → NothingLeft (run_of Swept later) slot site
    later_nothing later n =
        nothing_left
        (run_of Swept later)
        slot
        site
        (held_from Swept later held_swept)
        ((watch_run Latest site slot slots Swept later Cleared (sound_step Then (Step.Sweep site) sound_then) watch_cleared).1.cleared
        (known_cleared slot Swept later Cleared)
        (known_watched slot Swept later Cleared refl n)
        ).0

  -- accepted steps at the station drive its clock, from any moment after this one
  pub drive :
      (T : ℕ) (after later : List Step)
      → T - (site_at (run_of (run_of t₀ before) after) site).clock ≤ steps_at site (history_of (run_of (run_of t₀ before) after) later)
      → T ≤ (site_at (run_of (run_of (run_of t₀ before) after) later) site).clock
  drive T after later i =
      let d : (site_at (run_of Now after) site).clock + steps_at site (history_of (run_of Now after) later) ≤ (site_at (run_of (run_of Now after) later) site).clock =
      steps_drive (run_of Now after) later site (sound_from Now after (sound_run fresh before)) in
      omega arith
