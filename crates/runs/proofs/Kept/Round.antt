-- The passage's round moves on: another status and phase, an answer that is kept, a new number. Assumes nothing.
use Rattle.std.specs.Prelude.{ℕ, ◌<◌, ◌≤◌, ◌≡◌, refl, ◌≢◌, ◌⊎◌, true, List, length, get_or}
use Rattle.std.proofs.Common.{arith, sym, ap, ◌∙◌, ⊎_elim, inl, inr, length-set, get_or-set_same, get_or-set_other}
use Rattle.std.proofs.lemmas.Bool.{false≢true}
use Rattle.rules.specs.Tables.{past_figures}
use Rattle.rules.specs.Parts.{is_free, is_over, is_phase_two, with_phase, figures_at, has_answered, with_answer, largest_quiesce}
use Rattle.runs.specs.Types.{Figures, Kind, Phase, Status}
use Rattle.runs.specs.Walk.Says.{is_refresh, is_binding}
use Rattle.runs.specs.Walk.Put.{same_or_other}
use Rattle.runs.specs.Times.View.{View, Ledger}
use Rattle.runs.specs.Times.Clauses.{Below, Quiet, KeptFigure, FigureFine, EdgeFine, Holds}
use Rattle.runs.proofs.Kept.Masks.{answered_here, answered_other, mask_lt}
use Rattle.runs.proofs.Kept.Same.{alike, alike_view, body_after_alike, site_after_alike}

-- the same visits, clocks and messages
abbrev pub alike_here : View → Status → Phase → ℕ → List Figures → View
alike_here w status phase answered figures =
    alike_view w status phase answered figures w.visit w.clock w.mail

-- what a passage with another status, phase, mask and kept figures must keep to; its home, number and kind stay
pub record Restated (w : View) (l : Ledger) (status : Status) (phase : Phase) (answered : ℕ) (figures : List Figures) : Type 0 where
  pub used : status ≢ Status.Free
  pub over : is_over w.passage.status ≡ true → is_over status ≡ true
  pub mask : answered < 256
  pub eight : length figures ≡ 8
  pub kept :
      (v : ℕ) (f : Figures) → KeptFigure (alike w.passage status phase answered figures).round v f → FigureFine w l v f
  pub edges :
      (v d k : ℕ) (f : Figures) → EdgeFine w l v d k → is_refresh w.passage.round.kind ≡ true
      → k < w.passage.round.number → KeptFigure (alike w.passage status phase answered figures).round v f
      → 1 ≤ get_or f.sent d 0
  pub home_answers :
      phase ≢ Phase.None → has_answered (alike w.passage status phase answered figures).round w.passage.home ≡ true
  pub refresh_two : (q r : ℕ) → phase ≡ Phase.Two → w.passage.round.kind ≡ Kind.Refresh q r → Below w l q
  pub closed_quiet :
      phase ≡ Phase.Two → is_binding w.passage.round.kind ≡ true
      → Quiet (alike_here w status phase answered figures) l
  pub largest :
      (s : ℕ) → (l s).seen ≡ true → phase ≡ Phase.Two → w.passage.round.kind ≡ Kind.Terminate
      → (l s).last.quiesce ≤ largest_quiesce (alike w.passage status phase answered figures).round
  pub terminate_aborted :
      w.passage.round.kind ≡ Kind.Terminate → phase ≢ Phase.None → status ≡ Status.Aborted

module _ (w : View) (l : Ledger) (status : Status) (phase : Phase) (answered : ℕ) (figures : List Figures)
    (x : Restated w l status phase answered figures) where
  below_alike : (q : ℕ) → Below w l q → Below (alike_here w status phase answered figures) l q
  below_alike q h = record { visits = h.visits; calls = h.calls }

  quiet_alike : Quiet w l → Quiet (alike_here w status phase answered figures) l
  quiet_alike h =
      record { binding = h.binding; over = x.over h.over; mail = h.mail; quiesced = h.quiesced }

  figure_alike : (v : ℕ) (f : Figures) → FigureFine w l v f → FigureFine (alike_here w status phase answered figures) l v f
  figure_alike v f h = record { seen = h.seen; answered = h.answered; bound = h.bound }

  edge_alike : (v d k : ℕ) → EdgeFine w l v d k → EdgeFine (alike_here w status phase answered figures) l v d k
  edge_alike v d k h =
      record {
        seen = h.seen;
        born = h.born;
        sent = h.sent;
        figures = λ e i f y. ⊎_elim (λ z. x.edges v d k f h e i z) (λ z. h.figures e i f (inr z)) y;
      }

  pub holds_after_alike : Holds w l → Holds (alike_here w status phase answered figures) l
  holds_after_alike h =
      record {
        free = λ e. absurd (x.used e);
        mirror = h.mirror;
        sites =
            λ s e.
            site_after_alike
            w
            status
            phase
            answered
            figures
            w.visit
            w.clock
            w.mail
            l
            below_alike
            quiet_alike
            edge_alike
            s
            (omega arith)
            (λ g. inl g)
            (x.largest s e)
            (h.sites s e);
        posted = h.posted;
        mail =
            λ k.
            body_after_alike
            w
            status
            phase
            answered
            figures
            w.visit
            w.clock
            w.mail
            l
            below_alike
            quiet_alike
            edge_alike
            (w.mail k)
            (w.mail k).body
            (h.mail k);
        passage =
            record {
              home = h.passage.home;
              mask = x.mask;
              figures = x.eight;
              kept = λ v i e. figure_alike v _ (x.kept v _ (i, e, refl));
              home_answers = x.home_answers;
              refresh_one = h.passage.refresh_one;
              refresh_two = λ q r e k. below_alike q (x.refresh_two q r e k);
              closed_quiet = x.closed_quiet;
              terminate_aborted = x.terminate_aborted;
            };
        balance = h.balance;
      }

-- ---- another status and another phase; answers stay

abbrev pub restated : View → Status → Phase → View
restated w status phase =
    alike_here w status phase w.passage.round.answered w.passage.round.figures

kept_fine : (w : View) (l : Ledger) → Holds w l → (v : ℕ) (f : Figures) → KeptFigure w.passage.round v f → FigureFine w l v f
kept_fine w l h v f (i, e, g) = rw g (h.passage.kept v i e)

pub holds_after_restated :
    (w : View) (l : Ledger) (status : Status) (phase : Phase) → Holds w l
    → (status ≢ Status.Free)
    → (is_over w.passage.status ≡ true → is_over status ≡ true)
    → (phase ≢ Phase.None → has_answered w.passage.round w.passage.home ≡ true)
    → ((q r : ℕ) → phase ≡ Phase.Two → w.passage.round.kind ≡ Kind.Refresh q r → Below w l q)
    → (phase ≡ Phase.Two → is_binding w.passage.round.kind ≡ true → Quiet (restated w status phase) l)
    → ((s : ℕ) → (l s).seen ≡ true → phase ≡ Phase.Two → w.passage.round.kind ≡ Kind.Terminate
    → (l s).last.quiesce ≤ largest_quiesce (with_phase w.passage.round phase))
    → (w.passage.round.kind ≡ Kind.Terminate → phase ≢ Phase.None → status ≡ Status.Aborted)
    → Holds (restated w status phase) l
holds_after_restated w l status phase h used over home two quiet largest aborted =
    holds_after_alike
    w
    l
    status
    phase
    w.passage.round.answered
    w.passage.round.figures
    (record {
      used = used;
      over = over;
      mask = h.passage.mask;
      eight = h.passage.figures;
      kept = kept_fine w l h;
      edges = λ v d k f e y i z. e.figures y i f (inl z);
      home_answers = home;
      refresh_two = two;
      closed_quiet = quiet;
      largest = largest;
      terminate_aborted = aborted;
    })
    h

-- "status aborted, round phase none"
pub holds_after_aborted :
    (w : View) (l : Ledger) → Holds w l → Holds (restated w Status.Aborted Phase.None) l
holds_after_aborted w l h =
    holds_after_restated
    w
    l
    Status.Aborted
    Phase.None
    h
    (λ e. false≢true (ap is_free e))
    (λ e. refl)
    (λ e. absurd (e refl))
    (λ q r e. absurd (false≢true (ap is_phase_two e)))
    (λ e. absurd (false≢true (ap is_phase_two e)))
    (λ s y e. absurd (false≢true (ap is_phase_two e)))
    (λ k n. refl)

-- ---- an answer is kept: figures of site s that fit, in a round that is not in phase 2

module _ (w : View) (l : Ledger) (s : ℕ) (f : Figures) (h : Holds w l) (i : s < 8) (fine : FigureFine w l s f)
    (edges : (d k : ℕ) → EdgeFine w l s d k → is_refresh w.passage.round.kind ≡ true → k < w.passage.round.number → 1 ≤ get_or f.sent d 0)
    (open' : w.passage.round.phase ≢ Phase.Two) (used : w.passage.status ≢ Status.Free) where
  -- figures kept now are the new ones, or were kept before
  kept_now :
      (v : ℕ) (g : Figures) → KeptFigure (with_answer w.passage.round s f) v g
      → ((v ≡ s) × (g ≡ f)) ⊎ KeptFigure w.passage.round v g
  kept_now v g (j, e, y) =
      ⊎_elim
      (λ (q : v ≡ s). inl (q, y ∙ same q))
      (λ n.
      inr (
        j,
        sym (answered_other w.passage.round s f i v j n) ∙ e,
        y
            ∙ get_or-set_other w.passage.round.figures s v f past_figures n,
      ))
      (same_or_other v s)
    where
      same : v ≡ s → figures_at (with_answer w.passage.round s f) v ≡ f
      same q =
          rw
          q
          (get_or-set_same
          w.passage.round.figures
          s
          f
          past_figures
          (rw h.passage.figures i))

  pub holds_after_answer :
      Holds
      (alike_here
      w
      w.passage.status
      w.passage.round.phase
      (with_answer w.passage.round s f).answered
      (with_answer w.passage.round s f).figures)
      l
  holds_after_answer =
      holds_after_alike
      w
      l
      w.passage.status
      w.passage.round.phase
      (with_answer w.passage.round s f).answered
      (with_answer w.passage.round s f).figures
      (record {
        used = used;
        over = λ e. e;
        mask = mask_lt w.passage.round s f i h.passage.mask;
        eight = rw length-set h.passage.figures;
        kept = λ v g y. ⊎_elim (λ z. rw (z.0, z.1) fine) (λ z. kept_fine w l h v g z) (kept_now v g y);
        edges =
            λ v d k g e y j z.
            ⊎_elim
            (λ (q : (v ≡ s) × (g ≡ f)). rw q.1 (edges d k (rw q.0 at e) y j))
            (λ q. e.figures y j g (inl q))
            (kept_now v g z);
        home_answers = home;
        refresh_two = λ q r e. absurd (open' e);
        closed_quiet = λ e. absurd (open' e);
        largest = λ t y e. absurd (open' e);
        terminate_aborted = h.passage.terminate_aborted;
      })
      h
    where
      home :
          w.passage.round.phase ≢ Phase.None
          → has_answered (with_answer w.passage.round s f) w.passage.home ≡ true
      home e =
          ⊎_elim
          (λ (q : w.passage.home ≡ s). rw q (answered_here w.passage.round s f i))
          (λ n.
          answered_other w.passage.round s f i w.passage.home h.passage.home n
          ∙ h.passage.home_answers e)
          (same_or_other w.passage.home s)
