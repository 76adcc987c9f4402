-- What the closing law says of a round that is closed in phase 1: who has answered, and that no call is in flight or lost. Assumes nothing.
use Rattle.std.specs.Prelude.{ℕ, suc, ◌+◌, ◌<◌, ◌≤◌, ◌≡◌, refl, ◌⊎◌, false}
use Rattle.std.proofs.Common.{arith, sym, ◌∙◌, inl, inr, true≢false}
use Rattle.std.proofs.Math.Logic.{⊎_elim}
use Rattle.std.proofs.Math.Bool.{true}
use Rattle.std.proofs.Math.ListN.{get_or}
use borrow.Author.Tests.{eq-eqb}
use Rattle.rules.specs.Loops.{one_if, sum_up_to}
use Rattle.rules.specs.LoopsLaws.{either, sum_at, below_or_last}
use Rattle.rules.specs.Parts.{figures_at, has_answered, if_answered, sent_to, received_at, is_closed}
use Rattle.runs.specs.Types.{Phase, Call, Body}
use Rattle.runs.specs.Walk.Says.{is_refresh, is_binding}
use Rattle.runs.specs.Times.View.{View, Ledger}
use Rattle.runs.specs.Times.Clauses.{is_call_to, calls_to, received_by, sent_by, Holds}
use Rattle.runs.proofs.Times.ClausesLaws.{call_says}
use Rattle.runs.proofs.Kept.Shrunk.{sum_le}
use Rattle.runs.proofs.Kept.Closing.{closed_at, sent_answers, call_places, all_answer}

module _ (w : View) (l : Ledger) (h : Holds w l)
    (one : w.passage.round.phase ≡ Phase.One)
    (closed : is_closed w.passage.round ≡ true) where
  -- under a refresh, every site whose visit was made before the round has answered
  pub closing_refresh :
      is_refresh w.passage.round.kind ≡ true → (u : ℕ) → (l u).seen ≡ true
      → (l u).born < w.passage.round.number → has_answered w.passage.round u ≡ true
  closing_refresh e u s j =
      all_answer w l h one closed
      w.passage.round.number
      (λ t n y i a. y.figures e n _ (inl (i, a, refl)))
      (suc (l u).depth)
      u
      (omega arith)
      s
      j

  -- when the round binds, every site that has seen the passage has answered
  pub closing_binding :
      is_binding w.passage.round.kind ≡ true → (u : ℕ) → (l u).seen ≡ true
      → has_answered w.passage.round u ≡ true
  closing_binding e u s =
      let x = h.sites u s in
      all_answer w l h one closed
      (suc w.passage.round.number)
      (λ t n y i a. rw ((h.passage.kept (l t).caller i a).bound e).0 y.sent)
      (suc (l u).depth)
      u
      (omega arith)
      s
      (omega (arith, x.born, x.number))

  -- under a refresh, an older call in flight goes to a site that has answered
  pub closing_calls :
      is_refresh w.passage.round.kind ≡ true → (k : ℕ) (c : Call) → (w.mail k).body ≡ Body.Call c
      → c.round < w.passage.round.number
      → has_answered w.passage.round (w.mail k).destination ≡ true
  closing_calls e k c b n =
      let y = (call_says w l h k c b).edge in
      let i : (w.mail k).source < 8 = (h.sites (w.mail k).source y.seen).place in
      let a : has_answered w.passage.round (w.mail k).source ≡ true =
      closing_refresh e (w.mail k).source y.seen (omega (arith, y.born)) in
      sent_answers
      w.passage.round
      closed
      (w.mail k).source
      (w.mail k).destination
      i
      (call_places w l h k c b).1
      a
      (y.figures e n _ (inl (i, a, refl)))

  -- so that site has seen the passage
  pub closing_seen :
      is_refresh w.passage.round.kind ≡ true → (k : ℕ) (c : Call) → (w.mail k).body ≡ Body.Call c
      → c.round < w.passage.round.number → (l (w.mail k).destination).seen ≡ true
  closing_seen e k c b n = (h.passage.kept _ (call_places w l h k c b).1 (closing_calls e k c b n)).seen

  -- and a making call has the round's number
  pub closing_making :
      is_refresh w.passage.round.kind ≡ true → (k : ℕ) (c : Call) → (w.mail k).body ≡ Body.Call c
      → (l (w.mail k).destination).seen ≡ false → c.round ≡ w.passage.round.number
  closing_making e k c b s =
      ⊎_elim
      (λ n. absurd (true≢false (sym (closing_seen e k c b n) ∙ s)))
      (λ n. n)
      (below_or_last c.round w.passage.round.number (omega (arith, (call_says w l h k c b).number)))

  -- when the round binds, all calls that were ever sent to d are counted
  sent_counted :
      is_binding w.passage.round.kind ≡ true → (d : ℕ)
      → sum_up_to (λ v. sent_by d (l v)) 8 ≤ sent_to w.passage.round d
  unfolding sent_to
  sent_counted e d = sum_le _ _ 8 (λ v. one_counted v (either (l v).seen))
    where
      one_counted :
          (v : ℕ) → ((l v).seen ≡ true) ⊎ ((l v).seen ≡ false)
          → sent_by d (l v) ≤ if_answered w.passage.round v (get_or (figures_at w.passage.round v).sent d 0)
      one_counted v (inl s) =
          let a : has_answered w.passage.round v ≡ true = closing_binding e v s in
          let f : (figures_at w.passage.round v).sent ≡ (l v).last.sent =
          ((h.passage.kept v (h.sites v s).place a).bound e).0 in
          rw (s, a, f) (omega arith)
      one_counted v (inr s) = rw s (omega arith)

  -- when the round binds, the calls that d says it received are those that it received
  received_counted :
      is_binding w.passage.round.kind ≡ true → (d : ℕ) → d < 8
      → received_at w.passage.round d ≤ received_by (l d)
  received_counted e d i =
      ⊎_elim
      (λ a.
      let f = h.passage.kept d i a in
      rw (a, (f.bound e).1, f.seen) (omega arith))
      (λ a. rw a (omega arith))
      (either (has_answered w.passage.round d))

  -- when the round binds, no call is in flight
  pub closing_no_call :
      is_binding w.passage.round.kind ≡ true → (k : ℕ) (c : Call) → (w.mail k).body ≡ Body.Call c → ⊥
  closing_no_call e k c b =
      let p = call_places w l h k c b in
      let d : ℕ = (w.mail k).destination in
      let z : sent_to w.passage.round d ≡ received_at w.passage.round d =
      closed_at w.passage.round closed d p.1 in
      let m : 1 ≤ calls_to w d = rw (b, eq-eqb d d refl) at (sum_at (λ j. one_if (is_call_to d (w.mail j).destination (w.mail j).body)) 32 k p.0) in
      omega (arith, h.balance d, sent_counted e d, received_counted e d p.1)

  -- and none is lost: no site was sent a call that it has not received and that is not in flight
  pub closing_none_lost :
      is_binding w.passage.round.kind ≡ true → (d : ℕ) → d < 8
      → received_by (l d) + calls_to w d + 1 ≤ sum_up_to (λ v. sent_by d (l v)) 8 → ⊥
  closing_none_lost e d i short =
      let z : sent_to w.passage.round d ≡ received_at w.passage.round d = closed_at w.passage.round closed d i in
      omega (arith, short, sent_counted e d, received_counted e d i)
