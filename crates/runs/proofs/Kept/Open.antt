-- A round opens: a new number and kind, home's own phase 1 part, home's answer, and phase 1. Assumes nothing.
use Rattle.std.specs.Prelude.{ℕ, ◌+◌, ◌<◌, ◌≤◌, ◌≡◌, refl, ◌≢◌, ◌⊎◌, true, false}
use Rattle.std.proofs.Common.{arith, sym, ap, ◌∙◌, ⊎_elim, inl, inr, true≢false}
use Rattle.std.proofs.lemmas.Bool.{false≢true}
use Rattle.rules.specs.Parts.{is_over, is_phase_two, figures_of, has_answered, with_answer, opened_round, asked_of, asked_visit, asked_status, with_phase}
use Rattle.rules.specs.Rounds.{opened_passage}
use Rattle.runs.specs.Types.{Figures, Kind, Phase, Status, Visit, Told, Body, Message}
use Rattle.runs.specs.Walk.Says.{is_binding}
use Rattle.runs.specs.Walk.Put.{put, put_same}
use Rattle.runs.specs.Times.View.{View, Ledger, relast}
use Rattle.runs.specs.Times.Clauses.{Below, Quiet, Figure, FigureFine, EdgeFine, SiteFine, ToldFine, BodyFine, Holds}
use Rattle.runs.proofs.Kept.Masks.{nobody_answers, answered_here}
use Rattle.runs.proofs.Kept.Round.{alike_here, holds_after_restated, holds_after_answer}
use Rattle.runs.proofs.Kept.Visit.{with_visit, with_last}
use Rattle.runs.proofs.Kept.Times.{holds_after_asked, asked_says, AskedSays, number_here}

-- the passage with its round's next number, before anybody has done its part: no phase, no answers
abbrev pub renumbered : View → Status → Kind → View
renumbered w status kind =
    record {
      passage =
          record {
            status = status;
            home = w.passage.home;
            round = with_phase (opened_round w.passage.round kind) Phase.None;
            generation = w.passage.generation;
          };
      visit = w.visit;
      clock = w.clock;
      mail = w.mail;
    }

-- ---- nothing carries the next number yet

module _ (w : View) (l : Ledger) (status : Status) (kind : Kind) (h : Holds w l)
    (used : status ≢ Status.Free)
    (times : (q r : ℕ) → kind ≡ Kind.Refresh q r → q ≤ r)
    (fits : (is_over w.passage.status ≡ false) ⊎ ((status ≡ w.passage.status) × (kind ≡ Kind.Terminate))) where
  new_below : (q : ℕ) → Below w l q → Below (renumbered w status kind) l q
  new_below q b = record { visits = b.visits; calls = b.calls }

  -- a passage that runs is not quiet; an aborted one stays quiet, since a terminate binds
  new_quiet : Quiet w l → Quiet (renumbered w status kind) l
  new_quiet q =
      ⊎_elim
      (λ n. absurd (true≢false (sym q.over ∙ n)))
      (λ y.
      record {
        binding = ap is_binding y.1;
        over = ap is_over y.0 ∙ q.over;
        mail = q.mail;
        quiesced = q.quiesced;
      })
      fits

  -- a number that is at most the old one is not the new one
  not_new : (n : ℕ) → n ≤ w.passage.round.number → n ≡ w.passage.round.number + 1 → ⊥
  not_new n i e = omega arith

  none_answered_yet : (v : ℕ) → v < 8 → has_answered (renumbered w status kind).passage.round v ≡ true → ⊥
  none_answered_yet v i e =
      true≢false (sym e ∙ nobody_answers (renumbered w status kind).passage.round v refl i)

  -- no answer in flight has the new number
  new_figure : (v : ℕ) (f : Figures) → Figure (renumbered w status kind) v f → ⊥
  new_figure v f (inl (i, e, g)) = none_answered_yet v i e
  new_figure v f (inr (k, y)) =
      not_new (w.passage.round.number + 1) ((h.mail k).answer (w.passage.round.number + 1) y.received y.quiesce y.body).0 refl

  new_edge : (v d k : ℕ) → EdgeFine w l v d k → EdgeFine (renumbered w status kind) l v d k
  new_edge v d k g =
      record {
        seen = g.seen;
        born = g.born;
        sent = g.sent;
        figures = λ e i f y. absurd (new_figure v f y);
      }

  new_site : (s : ℕ) → SiteFine w l s → SiteFine (renumbered w status kind) l s
  new_site s g =
      record {
        place = g.place;
        counts = g.counts;
        number = let i : (l s).last.round ≤ w.passage.round.number = g.number in omega arith;
        born = g.born;
        tree = g.tree;
        edge = λ n. new_edge (l s).caller s (l s).born (g.edge n);
        times = new_below (l s).last.quiesce g.times;
        refresh_one = λ q r k e. absurd (not_new (l s).last.round g.number e);
        bound = λ b e. absurd (not_new (l s).last.round g.number e);
        gone = λ e. ⊎_elim (λ r. inl r) (λ q. inr (new_quiet q)) (g.gone e);
        largest = λ e k. absurd (false≢true (ap is_phase_two e));
      }

  new_told : (m : Message) (n : ℕ) (d : Told) → ToldFine w l m n d → ToldFine (renumbered w status kind) l m n d
  new_told m n (Told.Refresh q) g =
      record {
        seen = g.seen;
        number = g.number;
        late = λ e. new_below q (g.late e);
        kind =
            λ e.
            absurd
            (not_new
            n
            (let i : n ≤ (l m.destination).last.round = g.number in
            let j : (l m.destination).last.round ≤ w.passage.round.number =
            (h.sites m.destination g.seen).number in
            omega arith)
            e);
      }
  new_told m n (Told.Terminate x) g = (new_quiet g.0, g.1)
  new_told m n Told.Prepare g = new_quiet g

  new_body : (m : Message) (b : Body) → BodyFine w l m b → BodyFine (renumbered w status kind) l m b
  new_body m b h =
      record {
        call =
            λ c e.
            let g = h.call c e in
            record {
              number = let i : c.round ≤ w.passage.round.number = g.number in omega arith;
              edge = new_edge m.source m.destination c.round g.edge;
              times = new_below c.quiesce g.times;
              refresh_one = λ q r k s i. absurd (not_new c.round g.number i);
              bound = λ b i. not_new c.round g.number i;
            };
        one =
            λ n a e.
            let g = h.one n a e in
            record {
              number = let i : n ≤ w.passage.round.number = g.number in omega arith;
              away = g.away;
              kind = λ i. absurd (not_new n g.number i);
            };
        two = λ n d e. ((h.two n d e).0, new_told m n d (h.two n d e).1);
        answer =
            λ n r q e.
            let i : n ≤ w.passage.round.number = (h.answer n r q e).0 in
            (omega arith, λ j. absurd (not_new n i j));
      }

  pub holds_after_renumbered : Holds (renumbered w status kind) l
  holds_after_renumbered =
      record {
        free = λ e. absurd (used e);
        mirror = h.mirror;
        sites = λ s e. new_site s (h.sites s e);
        posted = h.posted;
        mail = λ k. new_body (w.mail k) (w.mail k).body (h.mail k);
        passage =
            record {
              home = h.passage.home;
              mask = omega arith;
              figures = refl;
              kept = λ v i e. absurd (none_answered_yet v i e);
              home_answers = λ e. absurd (e refl);
              refresh_one = times;
              refresh_two = λ q r e k. absurd (false≢true (ap is_phase_two e));
              closed_quiet = λ e b. absurd (false≢true (ap is_phase_two e));
              terminate_aborted = λ k n. absurd (n refl);
            };
        balance = h.balance;
      }

-- ---- the whole opening

-- the home visit after home's own phase 1 part
abbrev pub home_asked : View → Kind → Visit
home_asked w kind =
    asked_visit (asked_of kind) (w.passage.round.number + 1) (w.clock w.passage.home) (w.visit w.passage.home)

abbrev pub opened_view : View → Kind → View
opened_view w kind =
    record {
      passage = opened_passage kind w.passage (home_asked w kind);
      visit = put w.visit w.passage.home (home_asked w kind);
      clock = w.clock;
      mail = w.mail;
    }

module _ (w : View) (l : Ledger) (kind : Kind) (h : Holds w l)
    (was : (w.visit w.passage.home).there ≡ true)
    (used : asked_status (asked_of kind) w.passage.status ≢ Status.Free)
    (times : (q r : ℕ) → kind ≡ Kind.Refresh q r → q ≤ r)
    (fits : (is_over w.passage.status ≡ false) ⊎ ((asked_status (asked_of kind) w.passage.status ≡ w.passage.status) × (kind ≡ Kind.Terminate)))
    (aborted : kind ≡ Kind.Terminate → asked_status (asked_of kind) w.passage.status ≡ Status.Aborted) where
  home_past :
      with_last l w.passage.home (home_asked w kind) w.passage.home
      ≡ relast (l w.passage.home) (home_asked w kind)
  home_past = put_same l w.passage.home (relast (l w.passage.home) (home_asked w kind))

  home_says : AskedSays (asked_of kind) (w.passage.round.number + 1) (w.clock w.passage.home) (w.visit w.passage.home)
  home_says = asked_says (asked_of kind) (w.passage.round.number + 1) (w.clock w.passage.home) (w.visit w.passage.home)

  -- home's own part is a phase 1 part like any other
  home_part :
      Holds
      (with_visit (renumbered w (asked_status (asked_of kind) w.passage.status) kind) w.passage.home (home_asked w kind))
      (with_last l w.passage.home (home_asked w kind))
  home_part =
      holds_after_asked
      (renumbered w (asked_status (asked_of kind) w.passage.status) kind)
      l
      w.passage.home
      (asked_of kind)
      (w.passage.round.number + 1)
      (holds_after_renumbered w l (asked_status (asked_of kind) w.passage.status) kind h used times fits)
      was
      (let i : (w.visit w.passage.home).round ≤ w.passage.round.number =
      number_here w l w.passage.home (w.visit w.passage.home) h was in
      omega arith)
      (omega arith)
      (λ e. refl)

  -- and its figures are kept as an answer
  home_figure :
      FigureFine
      (with_visit (renumbered w (asked_status (asked_of kind) w.passage.status) kind) w.passage.home (home_asked w kind))
      (with_last l w.passage.home (home_asked w kind))
      w.passage.home
      (figures_of (home_asked w kind))
  home_figure =
      record {
        seen = rw home_past refl;
        answered = rw home_past home_says.round;
        bound = λ b. (rw home_past refl, rw home_past refl, rw home_past (omega arith));
      }

  holds_after_home :
      Holds
      (alike_here
      (with_visit (renumbered w (asked_status (asked_of kind) w.passage.status) kind) w.passage.home (home_asked w kind))
      (asked_status (asked_of kind) w.passage.status)
      Phase.None
      (with_answer (opened_round w.passage.round kind) w.passage.home (figures_of (home_asked w kind))).answered
      (with_answer (opened_round w.passage.round kind) w.passage.home (figures_of (home_asked w kind))).figures)
      (with_last l w.passage.home (home_asked w kind))
  holds_after_home =
      holds_after_answer
      (with_visit (renumbered w (asked_status (asked_of kind) w.passage.status) kind) w.passage.home (home_asked w kind))
      (with_last l w.passage.home (home_asked w kind))
      w.passage.home
      (figures_of (home_asked w kind))
      home_part
      h.passage.home
      home_figure
      (λ d k e y i. rw home_past at e.sent)
      (λ e. false≢true (ap is_phase_two e))
      used

  pub holds_after_opened : Holds (opened_view w kind) (with_last l w.passage.home (home_asked w kind))
  holds_after_opened =
      holds_after_restated
      (alike_here
      (with_visit (renumbered w (asked_status (asked_of kind) w.passage.status) kind) w.passage.home (home_asked w kind))
      (asked_status (asked_of kind) w.passage.status)
      Phase.None
      (with_answer (opened_round w.passage.round kind) w.passage.home (figures_of (home_asked w kind))).answered
      (with_answer (opened_round w.passage.round kind) w.passage.home (figures_of (home_asked w kind))).figures)
      (with_last l w.passage.home (home_asked w kind))
      (asked_status (asked_of kind) w.passage.status)
      Phase.One
      holds_after_home
      used
      (λ e. e)
      (λ e. answered_here (opened_round w.passage.round kind) w.passage.home (figures_of (home_asked w kind)) h.passage.home)
      (λ q r e. absurd (false≢true (ap is_phase_two e)))
      (λ e. absurd (false≢true (ap is_phase_two e)))
      (λ s y e. absurd (false≢true (ap is_phase_two e)))
      (λ k n. aborted k)
