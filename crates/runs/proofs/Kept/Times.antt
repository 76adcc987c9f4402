-- The parts of a round at a visit that is there: phase 1 and phase 2 at home or away; and a quiesce time that goes down. Assumes nothing.
use Rattle.std.specs.Prelude.{ℕ, ◌<◌, ◌≤◌, min, max, ◌≡◌, refl, ◌≢◌, Bool, true}
use Rattle.std.proofs.Common.{arith, sym, ap, ◌∙◌}
use Rattle.std.proofs.lemmas.Bool.{false≢true}
use Rattle.rules.specs.Parts.{quieted, with_times, asked_visit, asked_of, largest_quiesce}
use Rattle.runs.specs.Types.{Kind, Visit, Asked, Told, Body}
use Rattle.runs.specs.Walk.Says.{is_binding}
use Rattle.runs.specs.Times.View.{View, Ledger}
use Rattle.runs.specs.Times.Clauses.{Below, Quiet, SiteFine, Holds}
use Rattle.runs.proofs.Times.ClausesLaws.{call_says, late_says, terminate_says}
use Rattle.runs.proofs.Kept.Visit.{with_visit, with_last, holds_after_revised}

-- what is below every release stays so when it is smaller
pub below_le : (w : View) (l : Ledger) (p q : ℕ) → p ≤ q → Below w l q → Below w l p
below_le w l p q i h =
    record {
      visits = λ t e. let j : q ≤ (l t).last.release = h.visits t e in omega arith;
      calls = λ k c e n. let j : q ≤ c.release = h.calls k c e n in omega arith;
    }

-- ---- the quiesce time goes down, the release time up, and the round does not go back

module _ (w : View) (l : Ledger) (a : ℕ) (v : Visit) (h : Holds w l) (was : (w.visit a).there ≡ true) where
  seen_here : (l a).seen ≡ true
  seen_here = (h.mirror a was).0

  fine_here : SiteFine w l a
  fine_here = h.sites a seen_here

  last_here : (l a).last ≡ w.visit a
  last_here = (h.mirror a was).1

  pub holds_after_lowered :
      v.there ≡ true → v.sent ≡ (w.visit a).sent → v.received ≡ (w.visit a).received
      → (w.visit a).round ≤ v.round → v.round ≤ w.passage.round.number
      → v.quiesce ≤ (w.visit a).quiesce → (w.visit a).release ≤ v.release
      → ((q r : ℕ) → w.passage.round.kind ≡ Kind.Refresh q r → v.round ≡ w.passage.round.number → r ≤ v.release)
      → (is_binding w.passage.round.kind ≡ true → v.round ≡ w.passage.round.number → v.quiesce ≤ w.clock a)
      → Holds (with_visit w a v) (with_last l a v)
  holds_after_lowered there sent received rises number down up one bound =
      holds_after_revised
      w
      l
      a
      v
      (Below w l)
      h
      (record {
        was = was;
        there = there;
        sent = sent;
        received = received;
        rises = rises;
        number = number;
        release =
            λ q b.
            let i : q ≤ (w.visit a).release = rw last_here at (b.visits a seen_here) in omega arith;
        needed = λ q b. b;
        here = below_le w l v.quiesce (w.visit a).quiesce down (rw last_here at fine_here.times);
        others = λ s e. (h.sites s e).times;
        calls = λ k c e. (call_says w l h k c e).times;
        two = h.passage.refresh_two;
        late = λ k n q e i. (late_says w l h k n q e).late i;
        refresh_one = one;
        bound = bound;
        figure = λ b e. down;
        quiet =
            λ q.
            let i : (w.visit a).quiesce ≤ w.clock a = rw last_here at (q.quiesced a seen_here) in
            omega arith;
        largest =
            λ p k.
            let i : (w.visit a).quiesce ≤ largest_quiesce w.passage.round =
            rw last_here at (fine_here.largest p k) in
            omega arith;
        told =
            λ k n x e.
            let i : (w.visit a).quiesce ≤ x =
            rw last_here at ((terminate_says w l h k n x e).1 a seen_here) in
            omega arith;
      })

  -- what the invariant says of the visit's own round
  pub one_here :
      (q r : ℕ) → w.passage.round.kind ≡ Kind.Refresh q r → (w.visit a).round ≡ w.passage.round.number
      → r ≤ (w.visit a).release
  one_here q r k e = rw last_here at (fine_here.refresh_one q r k (rw last_here e))

  pub bound_here :
      is_binding w.passage.round.kind ≡ true → (w.visit a).round ≡ w.passage.round.number
      → (w.visit a).quiesce ≤ w.clock a
  bound_here b e = rw last_here at (fine_here.bound b (rw last_here e))

  pub number_here : (w.visit a).round ≤ w.passage.round.number
  number_here = rw last_here at fine_here.number

-- ---- "Q := min(Q, clock)", with any marks

pub holds_after_quieted :
    (w : View) (l : Ledger) (a : ℕ) (prepared dead : Bool) → Holds w l → (w.visit a).there ≡ true
    → Holds (with_visit w a (quieted (w.visit a) (w.clock a) prepared dead)) (with_last l a (quieted (w.visit a) (w.clock a) prepared dead))
holds_after_quieted w l a prepared dead h was =
    holds_after_lowered
    w
    l
    a
    (quieted (w.visit a) (w.clock a) prepared dead)
    h
    was
    was
    refl
    refl
    (omega arith)
    (number_here w l a (w.visit a) h was)
    (omega arith)
    (omega arith)
    (one_here w l a (w.visit a) h was)
    (λ b e. let i : (w.visit a).quiesce ≤ w.clock a = bound_here w l a (w.visit a) h was b e in omega arith)

-- ---- phase 1 at a visit whose round is lower

asked_one :
    (a : Asked) (n clock : ℕ) (v : Visit) (k : Kind) (q r : ℕ) → k ≡ Kind.Refresh q r → a ≡ asked_of k
    → r ≤ (asked_visit a n clock v).release
asked_one a n clock v k q r e f = rw (f, e) (omega arith)

asked_bound_lem :
    (a : Asked) (n clock : ℕ) (v : Visit) (k : Kind) → is_binding k ≡ true → a ≡ asked_of k
    → (asked_visit a n clock v).quiesce ≤ clock
asked_bound_lem a n clock v Kind.None b f = absurd (false≢true b)
asked_bound_lem a n clock v (Kind.Refresh q r) b f = absurd (false≢true b)
asked_bound_lem a n clock v Kind.Terminate b f = rw f (omega arith)
asked_bound_lem a n clock v Kind.Prepare b f = rw f (omega arith)

-- phase 1 keeps the calls, lowers Q or raises R, and gives its number
pub record AskedSays (a : Asked) (n clock : ℕ) (v : Visit) : Type 0 where
  pub there : (asked_visit a n clock v).there ≡ v.there
  pub sent : (asked_visit a n clock v).sent ≡ v.sent
  pub received : (asked_visit a n clock v).received ≡ v.received
  pub round : (asked_visit a n clock v).round ≡ n
  pub quiesce : (asked_visit a n clock v).quiesce ≤ v.quiesce
  pub release : v.release ≤ (asked_visit a n clock v).release

pub asked_says : (a : Asked) (n clock : ℕ) (v : Visit) → AskedSays a n clock v
asked_says (Asked.Refresh r) n clock v =
    record { there = refl; sent = refl; received = refl; round = refl; quiesce = omega arith; release = omega arith }
asked_says Asked.Terminate n clock v =
    record { there = refl; sent = refl; received = refl; round = refl; quiesce = omega arith; release = omega arith }
asked_says Asked.Prepare n clock v =
    record { there = refl; sent = refl; received = refl; round = refl; quiesce = omega arith; release = omega arith }

pub holds_after_asked :
    (w : View) (l : Ledger) (a : ℕ) (asked : Asked) (n : ℕ) → Holds w l → (w.visit a).there ≡ true
    → (w.visit a).round < n → n ≤ w.passage.round.number
    → (n ≡ w.passage.round.number → asked ≡ asked_of w.passage.round.kind)
    → Holds (with_visit w a (asked_visit asked n (w.clock a) (w.visit a))) (with_last l a (asked_visit asked n (w.clock a) (w.visit a)))
holds_after_asked w l a asked n h was below most kind =
    let y : AskedSays asked n (w.clock a) (w.visit a) = asked_says asked n (w.clock a) (w.visit a) in
    holds_after_lowered
    w
    l
    a
    (asked_visit asked n (w.clock a) (w.visit a))
    h
    was
    (y.there ∙ was)
    y.sent
    y.received
    (rw y.round (omega arith))
    (rw y.round most)
    y.quiesce
    y.release
    (λ q r k e.
    asked_one asked n (w.clock a) (w.visit a) w.passage.round.kind q r k (kind (sym y.round ∙ e)))
    (λ b e.
    asked_bound_lem asked n (w.clock a) (w.visit a) w.passage.round.kind b (kind (sym y.round ∙ e)))

-- ---- phase 2 of a refresh: "Q := max(Q, new Q)", where the new Q is below every release, the passage is not quiet,
-- and a binding round has not come to this visit

pub holds_after_told_refresh :
    (w : View) (l : Ledger) (a q : ℕ) → Holds w l → (w.visit a).there ≡ true → Below w l q → (Quiet w l → ⊥)
    → (is_binding w.passage.round.kind ≡ true → (w.visit a).round ≢ w.passage.round.number)
    → Holds
    (with_visit w a (with_times (w.visit a) (max (w.visit a).quiesce q) (w.visit a).release))
    (with_last l a (with_times (w.visit a) (max (w.visit a).quiesce q) (w.visit a).release))
holds_after_told_refresh w l a q h was b restless loose =
    holds_after_revised
    w
    l
    a
    (with_times (w.visit a) (max (w.visit a).quiesce q) (w.visit a).release)
    (Below w l)
    h
    (record {
      was = was;
      there = was;
      sent = refl;
      received = refl;
      rises = omega arith;
      number = number_here w l a (w.visit a) h was;
      release = λ p y. rw last at (y.visits a seen);
      needed = λ p y. y;
      here = larger (rw last at (h.sites a seen).times);
      others = λ s e. (h.sites s e).times;
      calls = λ k c e. (call_says w l h k c e).times;
      two = h.passage.refresh_two;
      late = λ k n p e i. (late_says w l h k n p e).late i;
      refresh_one = one_here w l a (w.visit a) h was;
      bound = λ y e. absurd (loose y e);
      figure = λ y e. absurd (loose y e);
      quiet = λ y. absurd (restless y);
      largest = λ p k. absurd (restless (h.passage.closed_quiet p (ap is_binding k)));
      told = λ k n x e. absurd (restless (terminate_says w l h k n x e).0);
    })
  where
    seen : (l a).seen ≡ true
    seen = (h.mirror a was).0

    last : (l a).last ≡ w.visit a
    last = (h.mirror a was).1

    larger : Below w l (w.visit a).quiesce → Below w l (max (w.visit a).quiesce q)
    larger y =
        record {
          visits =
              λ t e.
              let i : (w.visit a).quiesce ≤ (l t).last.release = y.visits t e in
              let j : q ≤ (l t).last.release = b.visits t e in
              omega arith;
          calls =
              λ k c e n.
              let i : (w.visit a).quiesce ≤ c.release = y.calls k c e n in
              let j : q ≤ c.release = b.calls k c e n in
              omega arith;
        }

-- ---- phase 2 of a terminate: "R := min(R, M)", where the passage is quiet and every quiesce time is at most M

pub holds_after_told_terminate :
    (w : View) (l : Ledger) (a m : ℕ) → Holds w l → (w.visit a).there ≡ true → Quiet w l
    → ((s : ℕ) → (l s).seen ≡ true → (l s).last.quiesce ≤ m)
    → Holds
    (with_visit w a (with_times (w.visit a) (w.visit a).quiesce (min (w.visit a).release m)))
    (with_last l a (with_times (w.visit a) (w.visit a).quiesce (min (w.visit a).release m)))
holds_after_told_terminate w l a m h was y most =
    holds_after_revised
    w
    l
    a
    (with_times (w.visit a) (w.visit a).quiesce (min (w.visit a).release m))
    (λ q. Below w l q × (q ≤ m))
    h
    (record {
      was = was;
      there = was;
      sent = refl;
      received = refl;
      rises = omega arith;
      number = number_here w l a (w.visit a) h was;
      release =
          λ q n.
          let i : q ≤ (w.visit a).release = rw last at (n.0.visits a seen) in
          let j : q ≤ m = n.1 in
          omega arith;
      needed = λ q n. n.0;
      here = (rw last at (h.sites a seen).times, rw last at (most a seen));
      others = λ s e. ((h.sites s e).times, most s e);
      calls = λ k c e. absurd ((y.mail k).call c e);
      two = λ q r p k. absurd (no_refresh q r k);
      late = λ k n q e i. absurd (too_late k n q e i);
      refresh_one = λ q r k e. absurd (no_refresh q r k);
      bound = bound_here w l a (w.visit a) h was;
      figure = λ b e. omega arith;
      quiet = λ z. rw last at (z.quiesced a seen);
      largest = λ p k. rw last at ((h.sites a seen).largest p k);
      told = λ k n x e. rw last at ((terminate_says w l h k n x e).1 a seen);
    })
  where
    seen : (l a).seen ≡ true
    seen = (h.mirror a was).0

    last : (l a).last ≡ w.visit a
    last = (h.mirror a was).1

    no_refresh : (q r : ℕ) → w.passage.round.kind ≡ Kind.Refresh q r → ⊥
    no_refresh q r k = false≢true (sym (ap is_binding k) ∙ y.binding)

    too_late :
        (k n q : ℕ) → (w.mail k).body ≡ Body.PhaseTwo n (Told.Refresh q)
        → n ≡ (l (w.mail k).destination).last.round → ⊥
    too_late k n q e i =
        let j : n < (l (w.mail k).destination).last.round = ((y.mail k).late n q e).1 in
        let g : n ≡ (l (w.mail k).destination).last.round = i in
        omega arith
