-- Laws of the clauses: a kind that binds is no refresh, and what the invariant says of a message, once its body is known. Assumes nothing.
use Rattle.std.specs.Prelude.{ℕ, ◌≤◌, ◌≡◌, ◌≢◌, Bool, true, false}
use Rattle.std.proofs.Common.{arith, sym, ap, ◌∙◌, subst, subst₂}
use Rattle.std.proofs.lemmas.Bool.{false≢true}
use Rattle.runs.specs.Types.{Kind, Call, Asked, Told, Body, Message}
use Rattle.runs.specs.Walk.Says.{is_refresh, is_binding, body_kind}
use Rattle.runs.specs.Times.View.{View, Ledger}
use Rattle.runs.specs.Times.Clauses.{QuietMail, Quiet, CallFine, PhaseOneFine, LateFine, ToldFine, FigureFine, sent_figures, BodyFine, Holds}

-- a round that binds is no refresh
pub binding_no_refresh : (k : Kind) → is_binding k ≡ true → is_refresh k ≡ true → ⊥
binding_no_refresh Kind.None b r = false≢true b
binding_no_refresh (Kind.Refresh q x) b r = false≢true b
binding_no_refresh Kind.Terminate b r = false≢true r
binding_no_refresh Kind.Prepare b r = false≢true r

abbrev tells_refresh : Told → Bool
tells_refresh (Told.Refresh q) = true
tells_refresh (Told.Terminate m) = false
tells_refresh Told.Prepare = false

-- ---- what can do no harm to a quiet passage: anything but a call and a refresh's word

uncalled_quiet : {l : Ledger} {d : ℕ} (b : Body) → body_kind b ≢ 1 → body_kind b ≢ 3 → QuietMail l d b
uncalled_quiet b call word = record { call = λ c e. call (ap body_kind e); late = λ n q e. absurd (word (ap body_kind e)) }

pub empty_quiet : {l : Ledger} {d : ℕ} → QuietMail l d Body.Empty
empty_quiet = uncalled_quiet Body.Empty (λ e. omega arith) (λ e. omega arith)

pub one_quiet : {l : Ledger} {d n : ℕ} {a : Asked} → QuietMail l d (Body.PhaseOne n a)
one_quiet {n = n} {a} = uncalled_quiet (Body.PhaseOne n a) (λ e. omega arith) (λ e. omega arith)

pub two_quiet : {l : Ledger} {d n : ℕ} {told : Told} → tells_refresh told ≡ false → QuietMail l d (Body.PhaseTwo n told)
two_quiet {told = told} other =
    record {
      call = λ c e. absurd (omega (arith, ap body_kind e));
      late = λ n q e. absurd (false≢true (sym other ∙ ap tells_refresh (let same : told ≡ Told.Refresh q = cc in same)));
    }

pub answer_quiet : {l : Ledger} {d n r q : ℕ} → QuietMail l d (Body.Answer n r q)
answer_quiet {n = n} {r} {q} = uncalled_quiet (Body.Answer n r q) (λ e. omega arith) (λ e. omega arith)

pub reply_quiet : {l : Ledger} {d v : ℕ} → QuietMail l d (Body.Reply v)
reply_quiet {v = v} = uncalled_quiet (Body.Reply v) (λ e. omega arith) (λ e. omega arith)

-- ---- a clause of a message of one kind

module _ {w : View} {l : Ledger} {m : Message} where
  -- of an empty slot and of a reply nothing is said
  unsaid_clause : (b : Body) → ((n : ℕ) → 1 ≤ n → n ≤ 4 → body_kind b ≢ n) → BodyFine w l m b
  unsaid_clause b other =
      record {
        call = λ c e. absurd (other 1 (omega arith) (omega arith) (ap body_kind e));
        one = λ n a e. absurd (other 2 (omega arith) (omega arith) (ap body_kind e));
        two = λ n d e. absurd (other 3 (omega arith) (omega arith) (ap body_kind e));
        answer = λ n r q e. absurd (other 4 (omega arith) (omega arith) (ap body_kind e));
      }

  pub empty_clause : BodyFine w l m Body.Empty
  empty_clause = unsaid_clause Body.Empty (λ n i j e. omega arith)

  pub reply_clause : {v : ℕ} → BodyFine w l m (Body.Reply v)
  reply_clause {v} = unsaid_clause (Body.Reply v) (λ n i j e. omega arith)

  pub call_clause : {c : Call} → CallFine w l m c → BodyFine w l m (Body.Call c)
  call_clause {c} f =
      record {
        call = λ d e. subst (CallFine w l m) (let same : c ≡ d = cc in same) f;
        one = λ n a e. absurd (omega (arith, ap body_kind e));
        two = λ n d e. absurd (omega (arith, ap body_kind e));
        answer = λ n r q e. absurd (omega (arith, ap body_kind e));
      }

  pub one_clause : {n : ℕ} {a : Asked} → PhaseOneFine w m n a → BodyFine w l m (Body.PhaseOne n a)
  one_clause {n} {a} f =
      record {
        call = λ c e. absurd (omega (arith, ap body_kind e));
        one = λ j b e. subst₂ (PhaseOneFine w m) (let same : n ≡ j = cc in same) (let same : a ≡ b = cc in same) f;
        two = λ n d e. absurd (omega (arith, ap body_kind e));
        answer = λ n r q e. absurd (omega (arith, ap body_kind e));
      }

  pub two_clause : {n : ℕ} {told : Told} → m.destination ≢ w.passage.home → ToldFine w l m n told → BodyFine w l m (Body.PhaseTwo n told)
  two_clause {n} {told} away f =
      record {
        call = λ c e. absurd (omega (arith, ap body_kind e));
        one = λ n a e. absurd (omega (arith, ap body_kind e));
        two = λ j d e. (away, subst₂ (ToldFine w l m) (let same : n ≡ j = cc in same) (let same : told ≡ d = cc in same) f);
        answer = λ n r q e. absurd (omega (arith, ap body_kind e));
      }

  pub answer_clause :
      {n r q : ℕ} → n ≤ w.passage.round.number → (n ≡ w.passage.round.number → FigureFine w l m.source (sent_figures m r q))
      → BodyFine w l m (Body.Answer n r q)
  answer_clause {n} {r} {q} i f =
      record {
        call = λ c e. absurd (omega (arith, ap body_kind e));
        one = λ n a e. absurd (omega (arith, ap body_kind e));
        two = λ n d e. absurd (omega (arith, ap body_kind e));
        answer =
            λ j x y e.
            let number : n ≡ j = cc in
            let received : r ≡ x = cc in
            let quiesce : q ≡ y = cc in
            rw (← number, ← received, ← quiesce) (i, f);
      }

module _ (w : View) (l : Ledger) (h : Holds w l) where
  pub call_says : (k : ℕ) (c : Call) → (w.mail k).body ≡ Body.Call c → CallFine w l (w.mail k) c
  call_says k c e = (h.mail k).call c e

  pub late_says :
      (k n q : ℕ) → (w.mail k).body ≡ Body.PhaseTwo n (Told.Refresh q) → LateFine w l (w.mail k) n q
  late_says k n q e = ((h.mail k).two n (Told.Refresh q) e).1

  pub terminate_says :
      (k n m : ℕ) → (w.mail k).body ≡ Body.PhaseTwo n (Told.Terminate m)
      → Quiet w l × ((s : ℕ) → (l s).seen ≡ true → (l s).last.quiesce ≤ m)
  terminate_says k n m e = ((h.mail k).two n (Told.Terminate m) e).1

  pub prepare_says : (k n : ℕ) → (w.mail k).body ≡ Body.PhaseTwo n Told.Prepare → Quiet w l
  prepare_says k n e = ((h.mail k).two n Told.Prepare e).1
