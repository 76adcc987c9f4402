-- A visit that is there gets other times or another round; its calls stay. Assumes nothing.
use Rattle.std.specs.Prelude.{ℕ, ◌<◌, ◌≤◌, ◌≡◌, refl, ◌≢◌, ◌⊎◌, true, false}
use Rattle.std.proofs.Common.{arith, sym, ap, ◌∙◌, ⊎_elim, inl, inr, true≢false}
use Rattle.rules.specs.Loops.{sum_up_to}
use Rattle.rules.specs.LoopsLaws.{sum_same}
use Rattle.rules.specs.Parts.{largest_quiesce}
use Rattle.runs.specs.Types.{Figures, Kind, Phase, Visit, Call, Told, Body}
use Rattle.runs.specs.Walk.Says.{is_binding}
use Rattle.runs.specs.Walk.Put.{put, put_same, put_other, put_all, same_or_other}
use Rattle.runs.specs.Times.View.{View, Ledger, relast}
use Rattle.runs.specs.Times.Clauses.{Below, QuietMail, Quiet, FigureFine, EdgeFine, SiteFine, BodyFine, received_by, sent_by, sent_figures, Balanced, Holds, ToldFine}

-- the view with this visit at site a
abbrev pub with_visit : View → ℕ → Visit → View
with_visit w a v =
    record { passage = w.passage; visit = put w.visit a v; clock = w.clock; mail = w.mail }

abbrev pub with_last : Ledger → ℕ → Visit → Ledger
with_last l a v = put l a (relast (l a) v)

-- what a new record v of the visit at site a must keep to; Needed are the quiesce times that must stay below every release
pub record Revision (w : View) (l : Ledger) (a : ℕ) (v : Visit) (Needed : ℕ → Type 0) : Type 0 where
  pub was : (w.visit a).there ≡ true
  pub there : v.there ≡ true
  pub sent : v.sent ≡ (w.visit a).sent
  pub received : v.received ≡ (w.visit a).received
  pub rises : (w.visit a).round ≤ v.round
  pub number : v.round ≤ w.passage.round.number
  pub release : (q : ℕ) → Needed q → q ≤ v.release
  pub needed : (q : ℕ) → Needed q → Below w l q
  pub here : Needed v.quiesce
  pub others : (s : ℕ) → (l s).seen ≡ true → Needed (l s).last.quiesce
  pub calls : (k : ℕ) (c : Call) → (w.mail k).body ≡ Body.Call c → Needed c.quiesce
  pub two : (q r : ℕ) → w.passage.round.phase ≡ Phase.Two → w.passage.round.kind ≡ Kind.Refresh q r → Needed q
  pub late :
      (k n q : ℕ) → (w.mail k).body ≡ Body.PhaseTwo n (Told.Refresh q)
      → n ≡ (l (w.mail k).destination).last.round → Needed q
  pub refresh_one :
      (q r : ℕ) → w.passage.round.kind ≡ Kind.Refresh q r → v.round ≡ w.passage.round.number → r ≤ v.release
  pub bound : is_binding w.passage.round.kind ≡ true → v.round ≡ w.passage.round.number → v.quiesce ≤ w.clock a
  pub figure :
      is_binding w.passage.round.kind ≡ true → (w.visit a).round ≡ w.passage.round.number
      → v.quiesce ≤ (w.visit a).quiesce
  pub quiet : Quiet w l → v.quiesce ≤ w.clock a
  pub largest :
      w.passage.round.phase ≡ Phase.Two → w.passage.round.kind ≡ Kind.Terminate
      → v.quiesce ≤ largest_quiesce w.passage.round
  pub told : (k n x : ℕ) → (w.mail k).body ≡ Body.PhaseTwo n (Told.Terminate x) → v.quiesce ≤ x

module _ (w : View) (l : Ledger) (a : ℕ) (v : Visit) (Needed : ℕ → Type 0)
    (h : Holds w l) (x : Revision w l a v Needed) where
  here_seen : (l a).seen ≡ true
  here_seen = (h.mirror a x.was).0

  here_last : (l a).last ≡ w.visit a
  here_last = (h.mirror a x.was).1

  -- who was seen is seen
  seen_same : (s : ℕ) → (with_last l a v s).seen ≡ (l s).seen
  seen_same s = put_all l a (relast (l a) v) (λ s y. y.seen ≡ (l s).seen) (sym here_seen) (λ s n. refl) s

  caller_same : (s : ℕ) → (with_last l a v s).caller ≡ (l s).caller
  caller_same s = put_all l a (relast (l a) v) (λ s y. y.caller ≡ (l s).caller) refl (λ s n. refl) s

  born_same : (s : ℕ) → (with_last l a v s).born ≡ (l s).born
  born_same s = put_all l a (relast (l a) v) (λ s y. y.born ≡ (l s).born) refl (λ s n. refl) s

  depth_same : (s : ℕ) → (with_last l a v s).depth ≡ (l s).depth
  depth_same s = put_all l a (relast (l a) v) (λ s y. y.depth ≡ (l s).depth) refl (λ s n. refl) s

  sent_same : (s : ℕ) → (with_last l a v s).last.sent ≡ (l s).last.sent
  sent_same s =
      put_all l a (relast (l a) v) (λ s y. y.last.sent ≡ (l s).last.sent) (rw here_last x.sent) (λ s n. refl) s

  received_same : (s : ℕ) → (with_last l a v s).last.received ≡ (l s).last.received
  received_same s =
      put_all
      l
      a
      (relast (l a) v)
      (λ s y. y.last.received ≡ (l s).last.received)
      (rw here_last x.received)
      (λ s n. refl)
      s

  -- a round only rises
  round_rises : (s : ℕ) → (l s).last.round ≤ (with_last l a v s).last.round
  round_rises s =
      put_all
      l
      a
      (relast (l a) v)
      (λ s y. (l s).last.round ≤ y.last.round)
      (rw here_last x.rises)
      (λ s n. omega arith)
      s

  below : (q : ℕ) → Needed q → Below (with_visit w a v) (with_last l a v) q
  below q n =
      record {
        visits =
            put_all
            l
            a
            (relast (l a) v)
            (λ s y. y.seen ≡ true → q ≤ y.last.release)
            (λ e. x.release q n)
            (λ s o e. (x.needed q n).visits s e);
        calls = λ k c e o. (x.needed q n).calls k c e (sym (seen_same (w.mail k).destination) ∙ o);
      }

  -- what holds of the site with an old last record, and of the new one, holds of every site's
  quiesced_all : (P : ℕ → ℕ → Type 0) → P a v.quiesce → ((s : ℕ) → (l s).seen ≡ true → P s (l s).last.quiesce) → (s : ℕ) → (with_last l a v s).seen ≡ true → P s (with_last l a v s).last.quiesce
  quiesced_all P here old =
      put_all l a (relast (l a) v) (λ s y. y.seen ≡ true → P s y.last.quiesce) (λ e. here) (λ s n e. old s e)

  quiet_mail : (d : ℕ) (b : Body) → QuietMail l d b → QuietMail (with_last l a v) d b
  quiet_mail d b q =
      record {
        call = q.call;
        late =
            λ n t e.
            let r : (l d).last.round ≤ (with_last l a v d).last.round = round_rises d in
            let i : n < (l d).last.round = (q.late n t e).1 in
            (seen_same d ∙ (q.late n t e).0, omega arith);
      }

  quiet : Quiet w l → Quiet (with_visit w a v) (with_last l a v)
  quiet q =
      record {
        binding = q.binding;
        over = q.over;
        mail = λ k. quiet_mail (w.mail k).destination (w.mail k).body (q.mail k);
        quiesced = quiesced_all (λ s t. t ≤ w.clock s) (x.quiet q) q.quiesced;
      }

  figure : (s : ℕ) (f : Figures) → FigureFine w l s f → FigureFine (with_visit w a v) (with_last l a v) s f
  figure s f g =
      record {
        seen = seen_same s ∙ g.seen;
        answered =
            put_all
            l
            a
            (relast (l a) v)
            (λ s y. (l s).last.round ≡ w.passage.round.number → y.last.round ≡ w.passage.round.number)
            (λ e.
            let o : (w.visit a).round ≡ w.passage.round.number = rw here_last at e in
            let r : (w.visit a).round ≤ v.round = x.rises in
            let n : v.round ≤ w.passage.round.number = x.number in
            omega arith)
            (λ s n e. e)
            s
            g.answered;
        bound =
            λ b. (
              (g.bound b).0 ∙ sym (sent_same s),
              (g.bound b).1 ∙ sym (received_same s),
              put_all
                  l
                  a
                  (relast (l a) v)
                  (λ s y.
                  (l s).last.round ≡ w.passage.round.number → (l s).last.quiesce ≤ f.quiesce → y.last.quiesce ≤ f.quiesce)
                  (λ e i.
                  let o : (w.visit a).round ≡ w.passage.round.number = rw here_last at e in
                  let j : (w.visit a).quiesce ≤ f.quiesce = rw here_last at i in
                  let k : v.quiesce ≤ (w.visit a).quiesce = x.figure b o in
                  omega arith)
                  (λ s n e i. i)
                  s
                  g.answered
                  (g.bound b).2,
            );
      }

  visit_edge : (s d k : ℕ) → EdgeFine w l s d k → EdgeFine (with_visit w a v) (with_last l a v) s d k
  visit_edge s d k g =
      record {
        seen = seen_same s ∙ g.seen;
        born = rw born_same g.born;
        sent = rw sent_same g.sent;
        figures = g.figures;
      }

  told :
      (k n : ℕ) (d : Told) → (w.mail k).body ≡ Body.PhaseTwo n d → ToldFine w l (w.mail k) n d → ToldFine (with_visit w a v) (with_last l a v) (w.mail k) n d
  told k n (Told.Refresh q) e g =
      let r : (l (w.mail k).destination).last.round ≤ (with_last l a v (w.mail k).destination).last.round = round_rises (w.mail k).destination in
      let j : n ≤ (l (w.mail k).destination).last.round = g.number in
      record {
        seen = seen_same (w.mail k).destination ∙ g.seen;
        number = omega arith;
        late = λ t. below q (x.late k n q e (omega (arith, t)));
        kind = g.kind;
      }
  told k n (Told.Terminate t) e g = (quiet g.0, quiesced_all (λ s q. q ≤ t) (x.told k n t e) g.1)
  told k n Told.Prepare e g = quiet g

  body : (k : ℕ) → BodyFine w l (w.mail k) (w.mail k).body → BodyFine (with_visit w a v) (with_last l a v) (w.mail k) (w.mail k).body
  body k h =
      let m = w.mail k in
      record {
        call =
            λ c e.
            let g = h.call c e in
            record {
              number = g.number;
              edge = visit_edge m.source m.destination c.round g.edge;
              times = below c.quiesce (x.calls k c e);
              refresh_one = λ q r o n. g.refresh_one q r o (sym (seen_same m.destination) ∙ n);
              bound = g.bound;
            };
        one = λ n d e. let g = h.one n d e in record { number = g.number; away = g.away; kind = g.kind };
        two = λ n d e. ((h.two n d e).0, told k n d e (h.two n d e).1);
        answer = λ n r q e. ((h.answer n r q e).0, λ j. figure m.source (sent_figures m r q) ((h.answer n r q e).1 j));
      }

  gone_other :
      (s : ℕ) → s ≢ a → (put w.visit a v s).there ≡ false → SiteFine w l s
      → ((l s).last.release ≤ w.clock s) ⊎ Quiet (with_visit w a v) (with_last l a v)
  gone_other s n e g =
      ⊎_elim (λ r. inl r) (λ q. inr (quiet q)) (g.gone (ap (λ (y : Visit). y.there) (sym (put_other w.visit a v s n)) ∙ e))

  site_other : (s : ℕ) → s ≢ a → (l s).seen ≡ true → SiteFine w l s → SiteFine (with_visit w a v) (with_last l a v) s
  site_other s n e g =
      let o : with_last l a v s ≡ l s = put_other l a (relast (l a) v) s n in
      record {
        place = g.place;
        counts = rw o g.counts;
        number = rw o g.number;
        born = rw o g.born;
        tree = λ m. rw (o, depth_same (l s).caller) (g.tree m);
        edge = λ m. rw o (visit_edge (l s).caller s (l s).born (g.edge m));
        times = rw o (below (l s).last.quiesce (x.others s e));
        refresh_one = λ q r k m. rw o (g.refresh_one q r k (rw o at m));
        bound = λ b m. rw o (g.bound b (rw o at m));
        gone = λ m. rw o (gone_other s n m g);
        largest = λ p k. rw o (g.largest p k);
      }

  site_here : SiteFine w l a → SiteFine (with_visit w a v) (with_last l a v) a
  site_here g =
      let o : with_last l a v a ≡ relast (l a) v = put_same l a (relast (l a) v) in
      record {
        place = g.place;
        counts = rw (o, x.sent, ← here_last) g.counts;
        number = rw o x.number;
        born =
            rw
            o
            (let i : (l a).born ≤ (w.visit a).round = rw here_last at g.born in
            let j : (w.visit a).round ≤ v.round = x.rises in
            omega arith);
        tree = λ m. rw (o, depth_same (l a).caller) (g.tree m);
        edge = λ m. rw o (visit_edge (l a).caller a (l a).born (g.edge m));
        times = rw o (below v.quiesce x.here);
        refresh_one = λ q r k m. rw o (x.refresh_one q r k (rw o at m));
        bound = λ b m. rw o (x.bound b (rw o at m));
        gone =
            λ m.
            absurd
            (true≢false
            (sym x.there ∙ ap (λ (y : Visit). y.there) (sym (put_same w.visit a v)) ∙ m));
        largest = λ p k. rw o (x.largest p k);
      }

  pub holds_after_revised : Holds (with_visit w a v) (with_last l a v)
  holds_after_revised =
      record {
        free = λ e. absurd (true≢false (sym x.was ∙ (h.free e).visits a));
        mirror =
            λ s.
            ⊎_elim
            (λ (e : s ≡ a) t.
            rw
            (e, put_same l a (relast (l a) v), put_same w.visit a v)
            (refl, refl))
            (λ n t.
            let o : put w.visit a v s ≡ w.visit s = put_other w.visit a v s n in
            rw (put_other l a (relast (l a) v) s n, o) (h.mirror s (rw o at t)))
            (same_or_other s a);
        sites =
            λ s.
            ⊎_elim
            (λ (e : s ≡ a) t. rw e (site_here (h.sites a here_seen)))
            (λ n t.
            let y : (l s).seen ≡ true = sym (seen_same s) ∙ t in
            site_other s n y (h.sites s y))
            (same_or_other s a);
        posted = h.posted;
        mail = λ k. body k (h.mail k);
        passage =
            record {
              home = h.passage.home;
              mask = h.passage.mask;
              figures = h.passage.figures;
              kept = λ s i e. figure s _ (h.passage.kept s i e);
              home_answers = h.passage.home_answers;
              refresh_one = h.passage.refresh_one;
              refresh_two = λ q r e k. below q (x.two q r e k);
              closed_quiet = λ e b. quiet (h.passage.closed_quiet e b);
              terminate_aborted = h.passage.terminate_aborted;
            };
        balance =
            λ d.
            let i : Balanced w l d = h.balance d in
            let r : received_by (with_last l a v d) ≡ received_by (l d) = rw (seen_same d, received_same d) refl in
            let t : sum_up_to (λ s. sent_by d (with_last l a v s)) 8 ≡ sum_up_to (λ s. sent_by d (l s)) 8 =
            sum_same _ _ 8 (λ s j. rw (seen_same s, sent_same s) refl) in
            rw (r, t) i;
      }
