-- No step puts a clock back, and an accepted step that acts at a site adds at least 1 to that site's clock. Assumes nothing.
use Rattle.std.specs.Prelude.{ℕ, ◌+◌, ◌≤◌, ◌<◌, ◌≡◌, refl, true, false, ◌||◌, List, [], ◌∷◌, eqb, ltb}
use Rattle.std.proofs.Common.{arith, sym, ◌∙◌, ⊎_elim, true≢false}
use Rattle.std.proofs.lemmas.Bool.{eqb-false}
use Rattle.rules.specs.declared.looking.Trip.{Trip}
use Rattle.rules.specs.Limits.{tick_most}
use Rattle.rules.specs.LoopsLaws.{either, or_left, or_right}
use Rattle.rules.specs.Tables.{site_at}
use Rattle.rules.specs.Answers.{is_accepted}
use Rattle.rules.specs.Checks.{bad_site}
use Rattle.rules.specs.Stations.{tick_of, is_swept, swept_slot, crashed_slot}
use Rattle.rules.specs.Machine.{look_of, places_of, seen_of, decide_of, stored, head_of, turn_of, step_of, trip_places, turn_seen}
use Rattle.rules.specs.StoredLaws.{Sized, Placed, site_after_stored, site_after_stored_other, turn_stored_lem}
use Rattle.rules.proofs.RangesLaws.{placed_places, placed_trip}
use Rattle.rules.proofs.SettledLaws.{decided_refused}
use Rattle.rules.specs.Runs.{run_of, acts_at_site}
use Rattle.rules.proofs.Views.{settled_accepted, Clock, deed_of}
use Rattle.runs.specs.Types.{Tables, Step, Places, Seen, Outcome, Found}
use Rattle.runs.specs.Walk.Put.{same_or_other}
use Rattle.runs.proofs.Walk.Sound.{Sound, sound_step, sound_accepted_has, sound_step_has}

-- ---- what a decision leaves

-- the clock has grown
abbrev Grown : Seen → Seen → Type 0
Grown seen left = seen.site.clock + 1 ≤ left.site.clock

-- a tick's n is not 0
tick_adds : (site n : ℕ) (seen : Seen) → is_accepted (tick_of site n seen).answer ≡ true → Grown seen (tick_of site n seen).left
unfolding tick_of
tick_adds site n seen =
    settled_accepted (Grown seen) _ _ seen _ λ f.
    let d : n ≡ 0 → ⊥ = eqb-false n 0 (or_right (bad_site site) _ (or_left (bad_site site || eqb n 0) (ltb tick_most n) f.fields)) in
    omega (arith, d)

-- an accepted step that acts at its site moves its clock
acted_adds :
    (step : Step) (found : Found) (seen : Seen) → Clock step → acts_at_site step ≡ true
    → is_accepted (decide_of step found seen).answer ≡ true
    → Grown seen (decide_of step found seen).left
unfolding decide_of
acted_adds _ found seen (Clock.Ticks site n) a e = tick_adds site n seen e
acted_adds _ found seen (Clock.Delivers m moves) a e = omega (arith, moves found seen e)
acted_adds _ found seen (Clock.Moves step b untick undelivered moves) a e = omega (arith, moves found seen e)
acted_adds _ found seen (Clock.Rests step b stays) a e = absurd (true≢false (sym a ∙ b))

decided_adds :
    (step : Step) (found : Found) (seen : Seen) → acts_at_site step ≡ true
    → is_accepted (decide_of step found seen).answer ≡ true
    → Grown seen (decide_of step found seen).left
decided_adds step found seen = acted_adds step found seen (deed_of step).clock

-- drop and retire leave the site
idle_site : (step : Step) (found : Found) (seen : Seen) → Clock step → acts_at_site step ≡ false → (decide_of step found seen).left.site ≡ seen.site
idle_site _ found seen (Clock.Ticks site n) a = absurd (true≢false a)
idle_site _ found seen (Clock.Delivers m moves) a = absurd (true≢false a)
idle_site _ found seen (Clock.Moves step b untick undelivered moves) a = absurd (true≢false (sym b ∙ a))
idle_site _ found seen (Clock.Rests step b stays) a = stays found seen

idle_decided :
    (step : Step) (found : Found) (seen : Seen) → acts_at_site step ≡ false
    → (decide_of step found seen).left.site ≡ seen.site
idle_decided step found seen = idle_site step found seen (deed_of step).clock

decided_not_back :
    (step : Step) (found : Found) (seen : Seen)
    → seen.site.clock ≤ (decide_of step found seen).left.site.clock
decided_not_back step found seen =
    ⊎_elim
    (λ e.
    ⊎_elim
    (λ a. let i : Grown seen (decide_of step found seen).left = decided_adds step found seen a e in omega arith)
    (λ a. rw (idle_decided step found seen a) (omega arith))
    (either (acts_at_site step)))
    (λ e. rw (decided_refused step found seen e) (omega arith))
    (either (is_accepted (decide_of step found seen).answer))

-- ---- what a store does to the clocks

stored_not_back :
    (t : Tables) (at : Places) (left : Seen) → Sized t → Placed at
    → (site_at t at.site).clock ≤ left.site.clock
    → (s : ℕ)
    → (site_at t s).clock ≤ (site_at (stored t at left) s).clock
stored_not_back t at left z h i s =
    ⊎_elim
    (λ (e : s ≡ at.site). rw (e, site_after_stored t at left z h) i)
    (λ n. rw (site_after_stored_other t at left s n) (omega arith))
    (same_or_other s at.site)

pub head_not_back :
    (t : Tables) (step : Step) → Sound t → (s : ℕ) → (site_at t s).clock ≤ (site_at (head_of t step).tables s).clock
unfolding head_of
head_not_back t step z =
    stored_not_back
    t
    (places_of t (look_of step))
    _
    z.sized
    (placed_places t (look_of step))
    (decided_not_back step _ (seen_of t (places_of t (look_of step))))

-- each slot of a sweep or a crash stores the site back
pub turned_site : (trip : Trip) (slot : ℕ) (seen : Seen) → (turn_seen trip slot seen).site ≡ seen.site
unfolding swept_slot crashed_slot
turned_site Trip.Nowhere slot seen = refl
turned_site (Trip.Sweep site) slot seen = ⊎_elim (λ e. rw e) (λ e. rw e) (either (is_swept seen))
turned_site (Trip.Crash site) slot seen = refl

-- and leaves the message
pub turned_message : (trip : Trip) (slot : ℕ) (seen : Seen) → (turn_seen trip slot seen).message ≡ seen.message
unfolding swept_slot crashed_slot
turned_message Trip.Nowhere slot seen = refl
turned_message (Trip.Sweep site) slot seen = ⊎_elim (λ e. rw e) (λ e. rw e) (either (is_swept seen))
turned_message (Trip.Crash site) slot seen = refl

pub turn_not_back :
    (trip : Trip) (slot : ℕ) (o : Outcome) → slot < 16 → Sound o.tables → (s : ℕ)
    → (site_at o.tables s).clock ≤ (site_at (turn_of trip slot o).tables s).clock
turn_not_back trip slot o l z s =
    rw
    (turn_stored_lem trip slot o)
    (stored_not_back
    o.tables
    (trip_places trip slot)
    _
    z.sized
    (placed_trip trip slot l)
    (rw (turned_site trip slot (seen_of o.tables (trip_places trip slot))) (omega arith))
    s)

-- ---- steps and runs

-- a clock that has come to m is not put back below it
turn_ahead :
    (trip : Trip) (m s n : ℕ) (o : Outcome) → n < 16 → Sound o.tables → m ≤ (site_at o.tables s).clock
    → m ≤ (site_at (turn_of trip n o).tables s).clock
turn_ahead trip m s n o l z k =
    let j : (site_at o.tables s).clock ≤ (site_at (turn_of trip n o).tables s).clock = turn_not_back trip n o l z s in
    omega arith

-- whatever the step, accepted or not
pub clock_not_back :
    (t : Tables) (step : Step) → Sound t → (s : ℕ) → (site_at t s).clock ≤ (site_at (step_of t step).tables s).clock
clock_not_back t step z s =
    sound_step_has
    t
    step
    z
    (λ n u. (site_at t s).clock ≤ (site_at u s).clock)
    (turn_ahead (look_of step).trip (site_at t s).clock s)
    (λ e. head_not_back t step z s)
    (λ u. (site_at t s).clock ≤ (site_at u s).clock)
    (omega arith)
    (λ u k. k)

pub clock_run :
    (t : Tables) (ss : List Step) → Sound t → (s : ℕ) → (site_at t s).clock ≤ (site_at (run_of t ss) s).clock
unfolding run_of
clock_run t [] z s = omega arith
clock_run t (x ∷ xs) z s =
    let i : (site_at t s).clock ≤ (site_at (step_of t x).tables s).clock = clock_not_back t x z s in
    let j : (site_at (step_of t x).tables s).clock ≤ (site_at (run_of (step_of t x).tables xs) s).clock =
    clock_run (step_of t x).tables xs (sound_step t x z) s in
    omega arith

-- ---- an accepted step that acts at a site adds at least 1 there

pub head_adds :
    (t : Tables) (step : Step) → Sound t → is_accepted (head_of t step).answer ≡ true → acts_at_site step ≡ true
    → (site_at t (places_of t (look_of step)).site).clock + 1 ≤ (site_at (head_of t step).tables (places_of t (look_of step)).site).clock
unfolding head_of
head_adds t step z e a =
    rw
    (site_after_stored t (places_of t (look_of step)) _ z.sized (placed_places t (look_of step)))
    (decided_adds step _ (seen_of t (places_of t (look_of step))) a e)

pub clock_adds :
    (t : Tables) (step : Step) → Sound t → is_accepted (step_of t step).answer ≡ true → acts_at_site step ≡ true
    → (site_at t (places_of t (look_of step)).site).clock + 1 ≤ (site_at (step_of t step).tables (places_of t (look_of step)).site).clock
clock_adds t step z e a =
    let s : ℕ = (places_of t (look_of step)).site in
    sound_accepted_has
    t
    step
    z
    (λ n u. (site_at t s).clock + 1 ≤ (site_at u s).clock)
    (turn_ahead (look_of step).trip ((site_at t s).clock + 1) s)
    (λ h. head_adds t step z h a)
    e
