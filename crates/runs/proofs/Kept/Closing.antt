-- The closing law: when a round in phase 1 is closed, every site that matters has answered. Assumes nothing.
use Rattle.std.specs.Prelude.{ℕ, zero, suc, ◌<◌, ◌≤◌, ◌≡◌}
use Rattle.std.proofs.Common.{arith, not-suc-le-zero, sym, ap, ◌∙◌}
use Rattle.std.proofs.Math.Logic.{⊎_elim}
use Rattle.std.proofs.Math.Bool.{true}
use Rattle.std.proofs.lemmas.Bool.{false≢true}
use Rattle.std.proofs.Math.ListN.{get_or}
use borrow.Author.Tests.{eqb-true}
use Rattle.rules.specs.LoopsLaws.{either, every_at, sum_at}
use Rattle.rules.specs.Parts.{is_empty, is_phase_one, figures_at, has_answered, if_answered, sent_to, received_at, is_closed}
use Rattle.runs.specs.Types.{Phase, Round, Call, Body}
use Rattle.runs.specs.Times.View.{View, Ledger}
use Rattle.runs.specs.Walk.Put.{same_or_other}
use Rattle.runs.specs.Times.Clauses.{EdgeFine, Holds}

-- ---- what closed says of one site

module _ (r : Round) (closed : is_closed r ≡ true) where
  -- the calls sent to a site are those that it received
  pub closed_at : (d : ℕ) → d < 8 → sent_to r d ≡ received_at r d
  unfolding is_closed
  closed_at d i = eqb-true (sent_to r d) (received_at r d) (every_at _ 8 closed d i)

  -- a site to which an answering site has sent a call has answered
  pub sent_answers :
      (v d : ℕ) → v < 8 → d < 8 → has_answered r v ≡ true
      → 1 ≤ get_or (figures_at r v).sent d 0 → has_answered r d ≡ true
  unfolding sent_to
  sent_answers v d i j a s =
      ⊎_elim
      (λ e. e)
      (λ e.
      let m : get_or (figures_at r v).sent d 0 ≤ sent_to r d = rw a at (sum_at (λ s. if_answered r s (get_or (figures_at r s).sent d 0)) 8 v i) in
      let z : sent_to r d ≡ 0 = rw e at (closed_at d j) in
      absurd (omega arith))
      (either (has_answered r d))

-- ---- calls in flight

module _ (w : View) (l : Ledger) (h : Holds w l) where
  -- a call's message slot is one of 32, and its destination one of 8
  pub call_places : (k : ℕ) (c : Call) → (w.mail k).body ≡ Body.Call c → (k < 32) × ((w.mail k).destination < 8)
  call_places k c e = let p = h.posted k (ap is_empty e) in (p.0, p.2)

-- ---- the law

module _ (w : View) (l : Ledger) (h : Holds w l)
    (one : w.passage.round.phase ≡ Phase.One)
    (closed : is_closed w.passage.round ≡ true) where
  -- by induction on a bound b of the depth: sites born below k have answered, if an answer always shows the calls that made visits
  pub all_answer :
      (k : ℕ)
      → ((u : ℕ) → (l u).born < k → EdgeFine w l (l u).caller u (l u).born → (l u).caller < 8
      → has_answered w.passage.round (l u).caller ≡ true
      → 1 ≤ get_or (figures_at w.passage.round (l u).caller).sent u 0)
      → (b u : ℕ) → (l u).depth < b → (l u).seen ≡ true → (l u).born < k
      → has_answered w.passage.round u ≡ true
  all_answer k shows zero u d s j = absurd (not-suc-le-zero d)
  all_answer k shows (suc b) u d s j =
      ⊎_elim
      (λ e. rw e (h.passage.home_answers (λ none. false≢true (ap is_phase_one (sym none ∙ one)))))
      (λ n.
      let x = h.sites u s in
      let y = x.edge n in
      let t : (l (l u).caller).depth < (l u).depth = x.tree n in
      let o : (l (l u).caller).born ≤ (l u).born = y.born in
      let i : (l u).caller < 8 = (h.sites (l u).caller y.seen).place in
      let a : has_answered w.passage.round (l u).caller ≡ true =
      all_answer k shows b (l u).caller (omega arith) y.seen (omega arith) in
      sent_answers w.passage.round closed (l u).caller u i x.place a (shows u j y i a))
      (same_or_other u w.passage.home)
