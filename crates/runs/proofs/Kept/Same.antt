-- What is kept where the ledger stays, and of the passage its home and its round's number and kind. Assumes nothing.
use Rattle.std.specs.Prelude.{ℕ, ◌≤◌, ◌≡◌, ◌⊎◌, false, List}
use Rattle.std.proofs.Common.{arith, ⊎_elim, inl, inr}
use Rattle.rules.specs.Parts.{largest_quiesce}
use Rattle.runs.specs.Types.{Figures, Kind, Phase, Status, Passage, Visit, Call, Told, Body, Message}
use Rattle.runs.specs.Times.View.{View, Ledger}
use Rattle.runs.specs.Times.Clauses.{Below, Quiet, FigureFine, EdgeFine, SiteFine, CallFine, ToldFine, BodyFine}

-- a passage of the same home, and a round of the same number and kind
abbrev pub alike : Passage → Status → Phase → ℕ → List Figures → Passage
alike p status phase answered figures =
    record {
      status = status;
      home = p.home;
      round =
          record {
            number = p.round.number;
            kind = p.round.kind;
            phase = phase;
            answered = answered;
            figures = figures;
          };
      generation = p.generation;
    }

abbrev pub alike_view : View → Status → Phase → ℕ → List Figures → (ℕ → Visit) → (ℕ → ℕ) → (ℕ → Message) → View
alike_view w status phase answered figures visit clock mail =
    record { passage = alike w.passage status phase answered figures; visit = visit; clock = clock; mail = mail }

module _ (w : View) (status : Status) (phase : Phase) (answered : ℕ) (figures : List Figures)
    (visit : ℕ → Visit) (clock : ℕ → ℕ) (mail : ℕ → Message) (l : Ledger)
    (below : (q : ℕ) → Below w l q → Below (alike_view w status phase answered figures visit clock mail) l q)
    (quiet : Quiet w l → Quiet (alike_view w status phase answered figures visit clock mail) l)
    (edges : (v d k : ℕ) → EdgeFine w l v d k → EdgeFine (alike_view w status phase answered figures visit clock mail) l v d k) where
  pub figure_after_alike : (v : ℕ) (f : Figures) → FigureFine w l v f → FigureFine (alike_view w status phase answered figures visit clock mail) l v f
  figure_after_alike v f h = record { seen = h.seen; answered = h.answered; bound = h.bound }

  pub call_after_alike : (m : Message) (c : Call) → CallFine w l m c → CallFine (alike_view w status phase answered figures visit clock mail) l m c
  call_after_alike m c h =
      record {
        number = h.number;
        edge = edges m.source m.destination c.round h.edge;
        times = below c.quiesce h.times;
        refresh_one = h.refresh_one;
        bound = h.bound;
      }

  pub told_after_alike : (m : Message) (n : ℕ) (d : Told) → ToldFine w l m n d → ToldFine (alike_view w status phase answered figures visit clock mail) l m n d
  told_after_alike m n (Told.Refresh q) h =
      record {
        seen = h.seen;
        number = h.number;
        late = λ e. below q (h.late e);
        kind = h.kind;
      }
  told_after_alike m n (Told.Terminate x) h = (quiet h.0, h.1)
  told_after_alike m n Told.Prepare h = quiet h

  pub body_after_alike : (m : Message) (b : Body) → BodyFine w l m b → BodyFine (alike_view w status phase answered figures visit clock mail) l m b
  body_after_alike m b h =
      record {
        call = λ c e. call_after_alike m c (h.call c e);
        one = λ n a e. let f = h.one n a e in record { number = f.number; away = f.away; kind = f.kind };
        two = λ n d e. ((h.two n d e).0, told_after_alike m n d (h.two n d e).1);
        answer = λ n r q e. ((h.answer n r q e).0, λ i. figure_after_alike m.source _ ((h.answer n r q e).1 i));
      }

  -- at a site whose clock did not go back; its visit is there if it was, or it went at its time
  pub site_after_alike :
      (s : ℕ) → w.clock s ≤ clock s
      → ((visit s).there ≡ false → ((w.visit s).there ≡ false) ⊎ (((l s).last.release ≤ clock s) ⊎ Quiet w l))
      → (phase ≡ Phase.Two → w.passage.round.kind ≡ Kind.Terminate
      → (l s).last.quiesce ≤ largest_quiesce (alike w.passage status phase answered figures).round)
      → SiteFine w l s → SiteFine (alike_view w status phase answered figures visit clock mail) l s
  site_after_alike s c went largest h =
      record {
        place = h.place;
        counts = h.counts;
        number = h.number;
        born = h.born;
        tree = h.tree;
        edge = λ n. edges (l s).caller s (l s).born (h.edge n);
        times = below (l s).last.quiesce h.times;
        refresh_one = h.refresh_one;
        bound = λ b e. let x : (l s).last.quiesce ≤ w.clock s = h.bound b e in omega arith;
        gone = λ e. ⊎_elim (λ g. was (h.gone g)) (λ g. now g) (went e);
        largest = largest;
      }
    where
      now :
          ((l s).last.release ≤ clock s) ⊎ Quiet w l
          → ((l s).last.release ≤ clock s) ⊎ Quiet (alike_view w status phase answered figures visit clock mail) l
      now g = ⊎_elim (λ r. inl r) (λ q. inr (quiet q)) g

      was :
          ((l s).last.release ≤ w.clock s) ⊎ Quiet w l
          → ((l s).last.release ≤ clock s) ⊎ Quiet (alike_view w status phase answered figures visit clock mail) l
      was g = ⊎_elim (λ (r : (l s).last.release ≤ w.clock s). inl (omega arith)) (λ q. inr (quiet q)) g
