-- What holds of the tables between two steps of a check, and that each step keeps it or is refused on tables on which the check can be given up.
-- The idea: a read is accepted only before a quiesce time, so the clocks of the list's stations are far from their end;
-- and the check has at most one message in flight. Assumes nothing.
use Rattle.std.specs.Prelude.{ℕ, suc, ◌%◌, ◌≤◌, ◌<◌, ◌≡◌, refl, ◌≢◌, true, false, List, eqb, get_or, Ok, Err}
use Rattle.std.proofs.Common.{arith, sym, ap, ◌∙◌, subst, ⊎_elim, true≢false, eqb-true}
use Rattle.std.proofs.lemmas.Bool.{false≢true, eqb-false}
use Rattle.rules.specs.declared.tables.Site.{Site}
use Rattle.rules.specs.declared.tables.Kind.{Kind}
use Rattle.rules.specs.declared.tables.Phase.{Phase}
use Rattle.rules.specs.declared.tables.Status.{Status}
use Rattle.rules.specs.declared.tables.Passage.{Passage}
use Rattle.rules.specs.declared.tables.Message.{Message}
use Rattle.rules.specs.declared.tables.Tables.{Tables}
use Rattle.rules.specs.declared.steps.Step.{Step}
use Rattle.rules.specs.Types.{Answer}
use Rattle.rules.specs.declared.outcomes.Refusal.{Refusal}
use Rattle.rules.specs.declared.looking.Places.{Places}
use Rattle.rules.specs.Limits.{clock_most, time_most, width_most}
use Rattle.rules.specs.LoopsLaws.{either}
use Rattle.rules.specs.Tables.{site_at, object_at, passage_at, visit_at, message_at, bank_at, object_site, slot_of, past_object, no_message}
use Rattle.rules.specs.Ranges.{in_range}
use Rattle.rules.specs.Answers.{is_accepted}
use Rattle.rules.specs.Parts.{is_free, is_running, is_empty, is_held_by}
use Rattle.rules.specs.Machine.{seen_of, step_of}
use Rattle.rules.specs.Record.{flat_of, is_step}
use Rattle.rules.specs.StoredLaws.{Sized, Placed, sized_after_step}
use Rattle.rules.proofs.StoredObjects.{seen_object}
use Rattle.rules.proofs.RangesLaws.{seen_in_range}
use Rattle.rules.proofs.RangesFits.{ObjectFits, seen_says}
use Rattle.rules.proofs.RefusedLaws.{refused_leaves}
use Rattle.rules.proofs.EffectsLaws.{OnlyMessage, ClockMoves}
use Rattle.rules.proofs.EffectsPlaces.{in_range_after_accepted, InUse}
use Rattle.clearing.specs.declared.way.Way.{Way}
use Rattle.clearing.specs.Question.{listed}
use Rattle.clearing.specs.Clearing.{made, then_made, mail_in, width_in, there_and_back, reads_up_to}

-- ---- clocks

module _ {t t' : Tables} {s c : ℕ} (e : ClockMoves t t' s c) where
  pub clock_here : (site_at t' s).clock ≡ c
  clock_here = ap (λ (x : Site). x.clock) e.site.here

  -- what holds of the clock that moves holds of every clock of which it held before
  pub clock_has : (P : ℕ → Type 0) (k : ℕ) → P c → P (site_at t k).clock → P (site_at t' k).clock
  clock_has P k new old =
      ⊎_elim
      (λ y. let q : k ≡ s = eqb-true k s y in rw (q, clock_here) new)
      (λ y. rw (e.site.others k (eqb-false k s y)) old)
      (either (eqb k s))

  up_stays : (k : ℕ) → (site_at t k).up ≡ true → (site_at t' k).up ≡ true
  up_stays k u =
      ⊎_elim
      (λ y. let q : k ≡ s = eqb-true k s y in rw q (ap (λ (x : Site). x.up) e.site.here ∙ e.up))
      (λ y. rw (e.site.others k (eqb-false k s y)) u)
      (either (eqb k s))

-- tables in range have no quiesce time over 1,000,000,000
pub quiesce_most : (t : Tables) (s p : ℕ) → in_range t ≡ true → s < 8 → p < 16 → (visit_at t s p).quiesce ≤ time_most
quiesce_most t s p e l k =
    let at : Places = record { site = s; slot = p; bank = 0; message = 0 } in
    let placed : Placed at = record { site = l; slot = k; bank = omega arith; message = omega arith } in
    (seen_says (seen_of t at) (seen_in_range t at e placed)).visit.quiesce

-- nor a width over 1,000,000
pub width_most_lem : (t : Tables) (k : ℕ) → in_range t ≡ true → k < 32 → (object_at t k).value ≤ width_most
width_most_lem t k e l =
    let at : Places = record { site = 0; slot = 0; bank = object_site k; message = 0 } in
    let placed : Placed at = record { site = omega arith; slot = omega arith; bank = omega arith; message = omega arith } in
    let f : ObjectFits (get_or (bank_at t (object_site k)) (k % 4) past_object) =
    (seen_says (seen_of t at) (seen_in_range t at e placed)).objects (k % 4) in
    rw (seen_object t k (object_site k) refl) at f.value

running_used : (s : Status) → is_running s ≡ true → is_free s ≡ false
running_used Status.Free e = absurd (false≢true e)
running_used Status.Active e = refl
running_used Status.Committing e = refl
running_used Status.Aborted e = refl
running_used Status.Committed e = refl

-- ---- a check: the tables that it was handed, the handle of its passage, its home, its list, and the check after its begin

pub record Course : Type 0 where
  pub handed : Tables
  pub handle : ℕ
  pub home : ℕ
  pub objects : List ℕ
  pub begun : Way

module _ (course : Course) where
  abbrev t₀ : Tables
  t₀ = course.handed

  abbrev h : ℕ
  h = course.handle

  abbrev home : ℕ
  home = course.home

  abbrev objects : List ℕ
  objects = course.objects

  -- the width that read i answered
  abbrev pub width_read : ℕ → ℕ
  width_read i = width_in (reads_up_to h home objects course.begun (suc i))

  -- the passage runs, and its home is up and has a clock of at most c
  pub record Runs (t : Tables) (c : ℕ) : Type 0 where
    pub sized : Sized t
    pub ranged : in_range t ≡ true
    pub names : InUse h (passage_at t (slot_of h))
    pub runs : is_running (passage_at t (slot_of h)).status ≡ true
    pub lives : (passage_at t (slot_of h)).home ≡ home
    -- a round that asks is a commit round
    pub asks : (passage_at t (slot_of h)).round.phase ≡ Phase.One → (passage_at t (slot_of h)).round.kind ≡ Kind.Prepare
    pub up : (site_at t home).up ≡ true
    pub clock : (site_at t home).clock ≤ c

  -- the first n objects of the list are held, each with the width that was read
  pub record HoldsRead (t : Tables) (n : ℕ) : Type 0 where
    pub holds : (i : ℕ) → i < n → is_held_by (slot_of h) (object_at t (listed objects i)) ≡ true
    pub value : (i : ℕ) → i < n → (object_at t (listed objects i)).value ≡ width_read i

  -- the stations of the first n objects have clocks of at most c
  abbrev pub Near : Tables → ℕ → ℕ → Type 0
  Near t n c = (i : ℕ) → i < n → (site_at t (object_site (listed objects i))).clock ≤ c

  -- a message slot that was empty is empty, and any other is as it was
  pub record Kept (t : Tables) (m : ℕ) : Type 0 where
    pub empty : is_empty (message_at t₀ m).body ≡ true → is_empty (message_at t m).body ≡ true
    pub full : is_empty (message_at t₀ m).body ≡ false → message_at t m ≡ message_at t₀ m

  -- between two steps, with no message in flight
  pub record Between (t : Tables) (n c : ℕ) : Type 0 where
    pub running : Runs t c
    pub read : HoldsRead t n
    pub near : Near t n c
    pub mail : (m : ℕ) → Kept t m

  -- with a message in slot m, of which this holds
  pub record InFlight (t : Tables) (m n c : ℕ) (Says : Message → Type 0) : Type 0 where
    pub running : Runs t c
    pub read : HoldsRead t n
    pub near : Near t n c
    pub below : m < 32
    pub full : is_empty (message_at t m).body ≡ false
    pub says : Says (message_at t m)
    pub was : is_empty (message_at t₀ m).body ≡ true
    pub mail : (k : ℕ) → k ≢ m → Kept t k

  -- slot m, which was empty, has a message, and every other slot is kept
  pub record OneLeft (t : Tables) (m : ℕ) : Type 0 where
    pub below : m < 32
    pub full : is_empty (message_at t m).body ≡ false
    pub was : is_empty (message_at t₀ m).body ≡ true
    pub mail : (k : ℕ) → k ≢ m → Kept t k

  -- what a check that was refused needs to be given up
  pub record CanGiveUp (w : Way) : Type 0 where
    pub bound : ℕ
    pub room : bound < clock_most
    pub running : Runs w.tables bound
    pub none : is_step 11 w.step ≡ false → (m : ℕ) → Kept w.tables m
    pub one : is_step 11 w.step ≡ true → OneLeft w.tables (flat_of w.step).c

  -- a check under way: it goes on with what P says of its tables and its last value, or it can be given up
  pub record Going (P : Tables → ℕ → Type 0) (w : Way) : Type 0 where
    pub goes : (v : ℕ) → w.answer ≡ Ok v → P w.tables v
    pub stops : (r : Refusal) → w.answer ≡ Err r → CanGiveUp w

  -- ---- one step after the other

  -- the slot that a step answered is the one that the next ones name
  mail_is : (w : Way) (v : ℕ) → w.answer ≡ Ok v → v < 32 → mail_in w ≡ v
  mail_is w v e l = rw e (omega arith)

  pub going_on :
      {P Q : Tables → ℕ → Type 0} (w : Way) (s : Step) → Going P w
      → ((v : ℕ) → w.answer ≡ Ok v → P w.tables v → Going Q (made w.tables s))
      → Going Q (then_made w s)
  going_on {P} {Q} w s g next = by w.answer refl
    where
      by : (a : Answer) → w.answer ≡ a → Going Q (then_made w s)
      by (Ok v) e = rw e (next v e (g.goes v e))
      by (Err r) e =
          subst (Going Q) (stays e) (record { goes = λ v y. absurd (false≢true (ap is_accepted (sym e ∙ y))); stops = g.stops })
        where
          stays : w.answer ≡ Err r → w ≡ then_made w s
          stays e = rw e

  pub going_as :
      {P Q : Tables → ℕ → Type 0} (w : Way) → Going P w
      → ((v : ℕ) → w.answer ≡ Ok v → P w.tables v → Q w.tables v)
      → Going Q w
  going_as w g f = record { goes = λ v e. f v e (g.goes v e); stops = g.stops }

  -- a message goes out into slot m, arrives there, and what then stands in it comes back
  pub goes_there_and_back :
      {P Back : Tables → ℕ → Type 0} {Sent There : ℕ → Tables → Type 0} (w : Way) (s : Step) → Going P w
      → ((v : ℕ) → P w.tables v → Going (λ (t : Tables) (m : ℕ). (m < 32) × Sent m t) (made w.tables s))
      → ((t : Tables) (m : ℕ) → Sent m t → Going (λ (u : Tables) (v : ℕ). There m u) (made t (Step.Deliver m)))
      → ((t : Tables) (m : ℕ) → There m t → Going Back (made t (Step.Deliver m)))
      → Going Back (there_and_back w s)
  unfolding there_and_back
  goes_there_and_back {Sent = Sent} w s g sends arrives returns =
      let sent : Way = then_made w s in
      let there : Way = then_made sent (Step.Deliver (mail_in sent)) in
      going_on there (Step.Deliver (mail_in sent))
      (going_on sent (Step.Deliver (mail_in sent)) (going_on w s g (λ v e. sends v))
      (λ v e f. arrives sent.tables (mail_in sent) (subst (λ (m : ℕ). Sent m sent.tables) (sym (mail_is sent v e f.0)) f.1)))
      (λ v e. returns there.tables (mail_in sent))

  -- a step that was refused has left the tables
  left_as_was : (t : Tables) (s : Step) (r : Refusal) → (step_of t s).answer ≡ Err r → t ≡ (step_of t s).tables
  left_as_was t s r e = sym (refused_leaves t s (ap is_accepted e))

  pub stops_between :
      (t : Tables) (n c : ℕ) (s : Step) (r : Refusal) → Between t n c → c < clock_most → is_step 11 s ≡ false
      → (step_of t s).answer ≡ Err r
      → CanGiveUp (made t s)
  stops_between t n c s r b l k e =
      let q : t ≡ (step_of t s).tables = left_as_was t s r e in
      record {
        bound = c;
        room = l;
        running = subst (λ (u : Tables). Runs u c) q b.running;
        none = λ _. subst (λ (u : Tables). (m : ℕ) → Kept u m) q b.mail;
        one = λ y. absurd (true≢false (sym y ∙ k));
      }

  pub stops_in_flight :
      {Says : Message → Type 0} (t : Tables) (m n c : ℕ) (r : Refusal) → InFlight t m n c Says → c < clock_most
      → (step_of t (Step.Deliver m)).answer ≡ Err r
      → CanGiveUp (made t (Step.Deliver m))
  stops_in_flight t m n c r f l e =
      let q : t ≡ (step_of t (Step.Deliver m)).tables = left_as_was t (Step.Deliver m) r e in
      record {
        bound = c;
        room = l;
        running = subst (λ (u : Tables). Runs u c) q f.running;
        none = λ y. absurd (true≢false y);
        one = λ _.
            subst (λ (u : Tables). OneLeft u m) q
            (record { below = f.below; full = f.full; was = f.was; mail = f.mail });
      }

  -- ---- what a step leaves of the passage and of what was read

  -- the passage runs on, whatever its round, and home's clock moved or another's
  pub runs_on :
      (t : Tables) (s : Step) (c b k d : ℕ) (p : Passage) → Runs t c → is_accepted (step_of t s).answer ≡ true
      → ClockMoves t (step_of t s).tables k d
      → d ≤ b
      → c ≤ b
      → passage_at (step_of t s).tables (slot_of h) ≡ p
      → is_running p.status ≡ true
      → p.home ≡ (passage_at t (slot_of h)).home
      → p.generation ≡ (passage_at t (slot_of h)).generation
      → (p.round.phase ≡ Phase.One → p.round.kind ≡ Kind.Prepare)
      → Runs (step_of t s).tables b
  runs_on t s c b k d p r a moves l l' e runs same_home same_use asks =
      record {
        sized = sized_after_step t s r.sized;
        ranged = in_range_after_accepted t s a;
        names =
            rw e
            (record { handle = r.names.handle; used = running_used p.status runs; generation = same_use ∙ r.names.generation });
        runs = rw e runs;
        lives = rw e (same_home ∙ r.lives);
        asks = rw e asks;
        up = up_stays moves home r.up;
        clock = clock_has moves (λ (x : ℕ). x ≤ b) home l (let y : (site_at t home).clock ≤ c = r.clock in omega arith);
      }

  pub near_on : {t t' : Tables} (n c b k d : ℕ) → Near t n c → ClockMoves t t' k d → d ≤ b → c ≤ b → Near t' n b
  near_on {t} n c b k d near moves l l' i y =
      clock_has moves (λ (x : ℕ). x ≤ b) _ l (let z : (site_at t (object_site (listed objects i))).clock ≤ c = near i y in omega arith)

  pub read_on : {t t' : Tables} {n : ℕ} → t'.objects ≡ t.objects → HoldsRead t n → HoldsRead t' n
  read_on e r = record { holds = λ i l. rw e (r.holds i l); value = λ i l. rw e (r.value i l) }

  -- a slot whose message is as it was keeps what was kept of it
  pub kept_on : (t t' : Tables) (m : ℕ) → message_at t' m ≡ message_at t m → Kept t m → Kept t' m
  kept_on t t' m e k = record { empty = λ y. rw e (k.empty y); full = λ y. e ∙ k.full y }

  -- slot m changed alone, and the others are as they were
  pub others_on :
      (t t' : Tables) {m : ℕ} {x : Message} → OnlyMessage t t' m x
      → ((k : ℕ) → k ≢ m → Kept t k) → (k : ℕ) → k ≢ m → Kept t' k
  others_on t t' only mail k n = kept_on t t' k (only.others k n) (mail k n)

  -- slot m, which was empty, is empty again
  pub emptied_on :
      (t t' : Tables) {m : ℕ} → OnlyMessage t t' m no_message → is_empty (message_at t₀ m).body ≡ true
      → ((k : ℕ) → k ≢ m → Kept t k) → (k : ℕ) → Kept t' k
  emptied_on t t' {m} only was mail k =
      ⊎_elim
      (λ y.
      let q : k ≡ m = eqb-true k m y in
      record { empty = λ _. rw (q, only.here); full = λ full. absurd (true≢false (sym was ∙ (rw q at full))) })
      (λ y. others_on t t' only mail k (eqb-false k m y))
      (either (eqb k m))

  -- a slot that is empty was empty: what was full is as it was
  pub was_empty : (t : Tables) (m : ℕ) → Kept t m → is_empty (message_at t m).body ≡ true → is_empty (message_at t₀ m).body ≡ true
  was_empty t m k e =
      ⊎_elim (λ y. y) (λ y. absurd (true≢false (sym e ∙ ap (λ (x : Message). is_empty x.body) (k.full y) ∙ y))) (either (is_empty (message_at t₀ m).body))
