-- The frame law: clocks only rise, messages are lost, visits go at their time; passage and ledger stay. Assumes nothing.
use Rattle.std.specs.Prelude.{ℕ, zero, suc, ◌≤◌, ◌≡◌, ◌⊎◌, true, false}
use Rattle.std.proofs.Common.{arith, sym, ap, ◌∙◌, ⊎_elim, inl, inr, true≢false}
use Rattle.rules.specs.Loops.{one_if, sum_up_to}
use Rattle.rules.specs.LoopsLaws.{either}
use Rattle.rules.specs.Parts.{is_empty}
use Rattle.runs.specs.Types.{Figures, Visit, Body, Message}
use Rattle.runs.specs.Walk.Says.{body_kind}
use Rattle.runs.specs.Times.View.{View, Ledger}
use Rattle.runs.proofs.Kept.Same.{body_after_alike, site_after_alike}
use Rattle.runs.proofs.Times.ClausesLaws.{empty_clause, empty_quiet}
use Rattle.runs.specs.Times.Clauses.{Below, Quiet, Figure, FigureFine, EdgeFine, SiteFine, BodyFine, PassageFine, FreeFine, is_call_to, calls_to, Balanced, Holds}

-- a sum of smaller numbers is smaller
pub sum_le : (f g : ℕ → ℕ) (n : ℕ) → ((i : ℕ) → f i ≤ g i) → sum_up_to f n ≤ sum_up_to g n
unfolding sum_up_to
sum_le f g zero h = omega arith
sum_le f g (suc n) h =
    let a : sum_up_to f n ≤ sum_up_to g n = sum_le f g n h in let b : f n ≤ g n = h n in omega arith

-- the same passage, with other visits, clocks and messages
abbrev pub around : View → (ℕ → Visit) → (ℕ → ℕ) → (ℕ → Message) → View
around w visit clock mail = record { passage = w.passage; visit = visit; clock = clock; mail = mail }

-- ---- what is kept where passage and ledger stay, and releases, quiet and edges pass on

module _ (w : View) (visit : ℕ → Visit) (clock : ℕ → ℕ) (mail : ℕ → Message) (l : Ledger)
    (below : (q : ℕ) → Below w l q → Below (around w visit clock mail) l q)
    (quiet : Quiet w l → Quiet (around w visit clock mail) l)
    (edges : (v d k : ℕ) → EdgeFine w l v d k → EdgeFine (around w visit clock mail) l v d k) where
  pub body_around : (m : Message) (b : Body) → BodyFine w l m b → BodyFine (around w visit clock mail) l m b
  body_around m b h =
      body_after_alike
      w
      w.passage.status
      w.passage.round.phase
      w.passage.round.answered
      w.passage.round.figures
      visit
      clock
      mail
      l
      below
      quiet
      edges
      m
      b
      h

  pub site_around :
      (s : ℕ) → w.clock s ≤ clock s
      → ((visit s).there ≡ false → ((w.visit s).there ≡ false) ⊎ (((l s).last.release ≤ clock s) ⊎ Quiet w l))
      → SiteFine w l s → SiteFine (around w visit clock mail) l s
  site_around s c went h =
      site_after_alike
      w
      w.passage.status
      w.passage.round.phase
      w.passage.round.answered
      w.passage.round.figures
      visit
      clock
      mail
      l
      below
      quiet
      edges
      s
      c
      went
      h.largest
      h

  figure_around : (v : ℕ) (f : Figures) → FigureFine w l v f → FigureFine (around w visit clock mail) l v f
  figure_around v f h = record { seen = h.seen; answered = h.answered; bound = h.bound }

  pub passage_around : PassageFine w l → PassageFine (around w visit clock mail) l
  passage_around h =
      record {
        home = h.home;
        mask = h.mask;
        figures = h.figures;
        kept = λ v i e. figure_around v _ (h.kept v i e);
        home_answers = h.home_answers;
        refresh_one = h.refresh_one;
        refresh_two = λ q r e k. below q (h.refresh_two q r e k);
        closed_quiet = λ e b. quiet (h.closed_quiet e b);
        terminate_aborted = h.terminate_aborted;
      }

-- ---- the law

module _ (w : View) (visit : ℕ → Visit) (clock : ℕ → ℕ) (mail : ℕ → Message) (l : Ledger)
    (clocks : (s : ℕ) → w.clock s ≤ clock s)
    (mails : (k : ℕ) → (mail k ≡ w.mail k) ⊎ ((mail k).body ≡ Body.Empty)) where
  -- a message that is not empty was there before
  was_mail : (k : ℕ) → is_empty (mail k).body ≡ false → mail k ≡ w.mail k
  was_mail k e =
      ⊎_elim (λ q. q) (λ q. absurd (true≢false (rw q at e))) (mails k)

  shrunk_below : (q : ℕ) → Below w l q → Below (around w visit clock mail) l q
  shrunk_below q h =
      record {
        visits = h.visits;
        calls =
            λ k c e n.
            let m : mail k ≡ w.mail k = was_mail k (ap is_empty e) in
            h.calls k c (rw m at e) (rw m at n);
      }

  shrunk_quiet : Quiet w l → Quiet (around w visit clock mail) l
  shrunk_quiet h =
      record {
        binding = h.binding;
        over = h.over;
        mail = λ k. ⊎_elim (λ m. rw m (h.mail k)) (λ m. rw m empty_quiet) (mails k);
        quiesced =
            λ s e.
            let a : (l s).last.quiesce ≤ w.clock s = h.quiesced s e in
            let b : w.clock s ≤ clock s = clocks s in
            omega arith;
      }

  shrunk_figure : (v : ℕ) (f : Figures) → Figure (around w visit clock mail) v f → Figure w v f
  shrunk_figure v f (inl k) = inl k
  shrunk_figure v f (inr (k, x)) =
      ⊎_elim
      (λ m. inr (k, rw m at x))
      (λ m. absurd (omega (arith, ap body_kind (sym m ∙ x.body))))
      (mails k)

  shrunk_edge : (v d k : ℕ) → EdgeFine w l v d k → EdgeFine (around w visit clock mail) l v d k
  shrunk_edge v d k h =
      record {
        seen = h.seen;
        born = h.born;
        sent = h.sent;
        figures = λ e j f x. h.figures e j f (shrunk_figure v f x);
      }

  pub shrunk :
      ((s : ℕ) → (visit s).there ≡ true → visit s ≡ w.visit s)
      → ((s : ℕ) → (l s).seen ≡ true → (visit s).there ≡ false → ((w.visit s).there ≡ false) ⊎ (((l s).last.release ≤ clock s) ⊎ Quiet w l))
      → Holds w l → Holds (around w visit clock mail) l
  shrunk stay went h =
      record {
        free = λ e. shrunk_free (h.free e);
        mirror =
            λ s e. let v : visit s ≡ w.visit s = stay s e in rw v (h.mirror s (rw v at e));
        sites =
            λ s e.
            site_around w visit clock mail l shrunk_below shrunk_quiet shrunk_edge s (clocks s) (went s e) (h.sites s e);
        posted =
            λ k e. let m : mail k ≡ w.mail k = was_mail k e in rw m (h.posted k (rw m at e));
        mail = λ k. shrunk_mail k (mails k);
        passage = passage_around w visit clock mail l shrunk_below shrunk_quiet shrunk_edge h.passage;
        balance =
            λ d.
            let a : Balanced w l d = h.balance d in
            let b : calls_to (around w visit clock mail) d ≤ calls_to w d = fewer d in
            omega arith;
      }
    where
      gone_there : (s : ℕ) → (w.visit s).there ≡ false → (visit s).there ≡ false
      gone_there s e =
          ⊎_elim
          (λ t. absurd (true≢false (sym t ∙ ap (λ (v : Visit). v.there) (stay s t) ∙ e)))
          (λ t. t)
          (either (visit s).there)

      shrunk_free : FreeFine w l → FreeFine (around w visit clock mail) l
      shrunk_free f =
          record {
            round = f.round;
            visits = λ s. gone_there s (f.visits s);
            mail = λ k. ⊎_elim (λ m. rw m (f.mail k)) (λ m. m) (mails k);
            ledger = f.ledger;
          }

      shrunk_mail :
          (k : ℕ) → (mail k ≡ w.mail k) ⊎ ((mail k).body ≡ Body.Empty)
          → BodyFine (around w visit clock mail) l (mail k) (mail k).body
      shrunk_mail k (inl m) =
          rw m (body_around w visit clock mail l shrunk_below shrunk_quiet shrunk_edge (w.mail k) (w.mail k).body (h.mail k))
      shrunk_mail k (inr m) = rw m empty_clause

      one_fewer :
          (d k : ℕ) → (mail k ≡ w.mail k) ⊎ ((mail k).body ≡ Body.Empty)
          → one_if (is_call_to d (mail k).destination (mail k).body) ≤ one_if (is_call_to d (w.mail k).destination (w.mail k).body)
      one_fewer d k (inl m) = rw m (omega arith)
      one_fewer d k (inr m) = rw m (omega arith)

      fewer : (d : ℕ) → calls_to (around w visit clock mail) d ≤ calls_to w d
      fewer d = sum_le _ _ 32 (λ k. one_fewer d k (mails k))
