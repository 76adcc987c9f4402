-- A step that changes one site's visit and one message slot of a passage that is not quiet: what it keeps. Assumes nothing.
use Rattle.std.specs.Prelude.{ℕ, ◌+◌, ◌<◌, ◌≤◌, ◌≡◌, refl, ◌≢◌, true, false, List, eqb, length, get_or, set}
use Rattle.std.proofs.Common.{arith, sym, ◌∙◌, ⊎_elim, inl, inr, true≢false, length-set, get_or-set_same, get_or-set_other, eq-eqb, ne_eqb}
use Rattle.rules.specs.Loops.{one_if, sum_up_to}
use Rattle.rules.specs.LoopsLaws.{either, sum_same}
use Rattle.rules.specs.Parts.{count_sent, count_received}
use Rattle.runs.specs.Types.{Figures, Status, Visit, Call, Told, Body, Message}
use Rattle.runs.specs.Walk.Says.{is_binding}
use Rattle.runs.specs.Walk.Put.{put, put_same, put_other, put_all, same_or_other, sum_put}
use Rattle.runs.specs.Times.View.{View, Past, Ledger, relast}
use Rattle.runs.specs.Times.Clauses.{call_to, Below, Quiet, InAnswer, Figure, FigureFine, EdgeFine, SiteFine, CallFine, ToldFine, BodyFine, Posted, PassageFine, calls_to, received_by, sent_by, Balanced, Holds}
use Rattle.runs.proofs.Kept.Shrunk.{around}

-- a sum over places with one place changed
pub sum_over_put :
    {A : Type 0} (g : A → ℕ) (f : ℕ → A) (a : ℕ) (x : A) (n : ℕ) → a < n
    → sum_up_to (λ i. g (put f a x i)) n + g (f a) ≡ sum_up_to (λ i. g (f i)) n + g x
sum_over_put {A} g f a x n h =
    let e : sum_up_to (λ i. g (put f a x i)) n ≡ sum_up_to (put (λ i. g (f i)) a (g x)) n =
    sum_same _ _ n (λ i l. each i) in
    rw e (sum_put (λ i. g (f i)) a (g x) n h)
  where
    each : (i : ℕ) → g (put f a x i) ≡ put (λ i. g (f i)) a (g x) i
    each i =
        ⊎_elim
        (λ (e : i ≡ a). rw (e, put_same f a x, put_same (λ i. g (f i)) a (g x)))
        (λ n. rw (put_other f a x i n, put_other (λ i. g (f i)) a (g x) i n))
        (same_or_other i a)

-- one more at place d, nothing elsewhere
pub one_call_more :
    (l : List ℕ) (d e : ℕ) → d < length l → get_or (set l d (get_or l d 0 + 1)) e 0 ≡ get_or l e 0 + one_if (eqb d e)
one_call_more l d e h =
    ⊎_elim
    (λ (q : e ≡ d). rw (q, get_or-set_same l d (get_or l d 0 + 1) 0 h, eq-eqb d d refl))
    (λ n. rw (get_or-set_other l d e (get_or l d 0 + 1) 0 n, ne_eqb d e (λ q. n (sym q))) (omega arith))
    (same_or_other e d)

-- ---- figures are always those of a site that has answered

module _ (w : View) (l : Ledger) (h : Holds w l) where
  pub figure_fine : (v : ℕ) (f : Figures) → Figure w v f → FigureFine w l v f
  figure_fine v f (inl k) = rw k.2 (h.passage.kept v k.0 k.1)
  figure_fine v f (inr (k, x)) =
      rw (← x.source, x.figures) (((h.mail k).answer w.passage.round.number x.received x.quiesce x.body).1 refl)

-- ---- what a change of a visit leaves: its times, its round and how it was made; and it has sent no less

pub record Later (x y : Past) : Type 0 where
  pub seen : y.seen ≡ true
  pub born : y.born ≡ x.born
  pub caller : y.caller ≡ x.caller
  pub depth : y.depth ≡ x.depth
  pub quiesce : y.last.quiesce ≡ x.last.quiesce
  pub release : y.last.release ≡ x.last.release
  pub round : y.last.round ≡ x.last.round
  pub counts : length y.last.sent ≡ length x.last.sent
  pub sent : (d : ℕ) → get_or x.last.sent d 0 ≤ get_or y.last.sent d 0

later_same : (x : Past) → x.seen ≡ true → Later x x
later_same x e =
    record {
      seen = e;
      born = refl;
      caller = refl;
      depth = refl;
      quiesce = refl;
      release = refl;
      round = refl;
      counts = refl;
      sent = λ d. omega arith;
    }

pub later_sent : (x : Past) (d : ℕ) → d < length x.last.sent → Later x (relast x (count_sent x.last d))
later_sent x d h =
    record {
      seen = refl;
      born = refl;
      caller = refl;
      depth = refl;
      quiesce = refl;
      release = refl;
      round = refl;
      counts = rw length-set;
      sent = λ e. rw (one_call_more x.last.sent d e h) (omega arith);
    }

pub later_received : (x : Past) → Later x (relast x (count_received x.last))
later_received x =
    record {
      seen = refl;
      born = refl;
      caller = refl;
      depth = refl;
      quiesce = refl;
      release = refl;
      round = refl;
      counts = refl;
      sent = λ e. omega arith;
    }

-- ---- the change: visit v at site a, noted as y, and message x in slot k

abbrev pub touched_view : View → ℕ → Visit → ℕ → Message → View
touched_view w a v k x = around w (put w.visit a v) w.clock (put w.mail k x)

-- what is asked of it; a site that was seen keeps what Later says, and under a binding kind has not yet answered
pub record Touch (w : View) (l : Ledger) (a : ℕ) (v : Visit) (y : Past) (k : ℕ) (x : Message) : Type 0 where
  pub holds : Holds w l
  pub busy : Quiet w l → ⊥
  pub used : w.passage.status ≢ Status.Free
  pub later : (l a).seen ≡ true → Later (l a) y
  pub settled :
      (l a).seen ≡ true → is_binding w.passage.round.kind ≡ true → (l a).last.round ≢ w.passage.round.number
  pub there : v.there ≡ true
  pub mirror : (y.seen ≡ true) × (y.last ≡ v)
  pub release : (q : ℕ) → Below w l q → q ≤ y.last.release
  pub silent : (n s : ℕ) (f : Figures) → InAnswer n s f x x.body → ⊥
  pub calls : (c : Call) → x.body ≡ Body.Call c → (q : ℕ) → Below w l q → q ≤ c.release

module _ {w : View} {l : Ledger} {a : ℕ} {v : Visit} {y : Past} {k : ℕ} {x : Message} (t : Touch w l a v y k x) where
  later_at : (s : ℕ) → (l s).seen ≡ true → Later (l s) (put l a y s)
  later_at = put_all l a y (λ s z. (l s).seen ≡ true → Later (l s) z) t.later (λ s n e. later_same (l s) e)

  same_at :
      (s : ℕ) → (l s).seen ≡ true → is_binding w.passage.round.kind ≡ true
      → (l s).last.round ≡ w.passage.round.number → put l a y s ≡ l s
  same_at =
      put_all l a y
      (λ s z.
      (l s).seen ≡ true → is_binding w.passage.round.kind ≡ true
      → (l s).last.round ≡ w.passage.round.number → z ≡ l s)
      (λ e b r. absurd (t.settled e b r))
      (λ s n e b r. refl)

  unseen_at : (s : ℕ) → (put l a y s).seen ≡ false → (l s).seen ≡ false
  unseen_at s u =
      ⊎_elim (λ e. absurd (true≢false (sym (later_at s e).seen ∙ u))) (λ e. e) (either (l s).seen)

  gone_at : (s : ℕ) → (put w.visit a v s).there ≡ false → (w.visit s).there ≡ false
  gone_at =
      put_all w.visit a v
      (λ s z. z.there ≡ false → (w.visit s).there ≡ false)
      (λ e. absurd (true≢false (sym t.there ∙ e)))
      (λ s n e. e)

  pub touched_below : (q : ℕ) → Below w l q → Below (touched_view w a v k x) (put l a y) q
  touched_below q h =
      record {
        visits =
            put_all l a y
            (λ s z. z.seen ≡ true → q ≤ z.last.release)
            (λ e. t.release q h)
            (λ s n e. h.visits s e);
        calls =
            put_all w.mail k x
            (λ j m. (c : Call) → m.body ≡ Body.Call c → (put l a y m.destination).seen ≡ false → q ≤ c.release)
            (λ c e u. t.calls c e q h)
            (λ j n c e u. h.calls j c e (unseen_at (w.mail j).destination u));
      }

  pub touched_figure : (s : ℕ) (f : Figures) → Figure (touched_view w a v k x) s f → Figure w s f
  touched_figure s f (inl z) = inl z
  touched_figure s f (inr (j, z)) =
      put_all w.mail k x
      (λ j m. InAnswer w.passage.round.number s f m m.body → Figure w s f)
      (λ z. absurd (t.silent _ s f z))
      (λ j n z. inr (j, z))
      j
      z

  figure_touched : (s : ℕ) (f : Figures) → FigureFine w l s f → FigureFine (touched_view w a v k x) (put l a y) s f
  figure_touched s f h =
      let e : Later (l s) (put l a y s) = later_at s h.seen in
      record {
        seen = e.seen;
        answered = e.round ∙ h.answered;
        bound = λ b. rw (same_at s h.seen b h.answered) (h.bound b);
      }

  pub edge_touched : (s d n : ℕ) → EdgeFine w l s d n → EdgeFine (touched_view w a v k x) (put l a y) s d n
  edge_touched s d n h =
      let e : Later (l s) (put l a y s) = later_at s h.seen in
      record {
        seen = e.seen;
        born = rw e.born h.born;
        sent = omega (arith, e.sent d, h.sent);
        figures = λ r j f z. h.figures r j f (touched_figure s f z);
      }

  call_touched : (m : Message) (c : Call) → CallFine w l m c → CallFine (touched_view w a v k x) (put l a y) m c
  call_touched m c h =
      record {
        number = h.number;
        edge = edge_touched m.source m.destination c.round h.edge;
        times = touched_below c.quiesce h.times;
        refresh_one = λ q r e u. h.refresh_one q r e (unseen_at m.destination u);
        bound = h.bound;
      }

  told_touched :
      (m : Message) (n : ℕ) (d : Told) → ToldFine w l m n d → ToldFine (touched_view w a v k x) (put l a y) m n d
  told_touched m n (Told.Refresh q) h =
      let e : Later (l m.destination) (put l a y m.destination) = later_at m.destination h.seen in
      record {
        seen = e.seen;
        number = rw e.round h.number;
        late = λ z. touched_below q (h.late (z ∙ e.round));
        kind = h.kind;
      }
  told_touched m n (Told.Terminate b) h = absurd (t.busy h.0)
  told_touched m n Told.Prepare h = absurd (t.busy h)

  body_touched : (m : Message) (b : Body) → BodyFine w l m b → BodyFine (touched_view w a v k x) (put l a y) m b
  body_touched m b h =
      record {
        call = λ c e. call_touched m c (h.call c e);
        one = λ n b e. let f = h.one n b e in record { number = f.number; away = f.away; kind = f.kind };
        two = λ n d e. ((h.two n d e).0, told_touched m n d (h.two n d e).1);
        answer = λ n r q e. ((h.answer n r q e).0, λ i. figure_touched m.source _ ((h.answer n r q e).1 i));
      }

  passage_touched : PassageFine w l → PassageFine (touched_view w a v k x) (put l a y)
  passage_touched h =
      record {
        home = h.home;
        mask = h.mask;
        figures = h.figures;
        kept = λ s i e. figure_touched s _ (h.kept s i e);
        home_answers = h.home_answers;
        refresh_one = h.refresh_one;
        refresh_two = λ q r e z. touched_below q (h.refresh_two q r e z);
        closed_quiet = λ e b. absurd (t.busy (h.closed_quiet e b));
        terminate_aborted = h.terminate_aborted;
      }

  -- at a site that was seen
  site_touched : (s : ℕ) → (l s).seen ≡ true → SiteFine w l s → SiteFine (touched_view w a v k x) (put l a y) s
  site_touched s seen h =
      let e : Later (l s) (put l a y s) = later_at s seen in
      record {
        place = h.place;
        counts = e.counts ∙ h.counts;
        number = rw e.round h.number;
        born = rw (e.born, e.round) h.born;
        tree =
            λ n.
            let u : Later (l (l s).caller) (put l a y (l s).caller) = later_at (l s).caller (h.edge n).seen in
            rw (e.caller, e.depth, u.depth) (h.tree n);
        edge = λ n. rw (e.caller, e.born) (edge_touched (l s).caller s (l s).born (h.edge n));
        times = rw e.quiesce (touched_below (l s).last.quiesce h.times);
        refresh_one = λ q r z i. rw e.release (h.refresh_one q r z (sym e.round ∙ i));
        bound = λ b i. rw e.quiesce (h.bound b (sym e.round ∙ i));
        gone =
            λ z.
            ⊎_elim (λ r. inl (rw e.release r)) (λ q. absurd (t.busy q)) (h.gone (gone_at s z));
        largest = λ z i. rw e.quiesce (h.largest z i);
      }

  -- calls received and in flight are at most the calls sent, where this one change keeps it
  balance_touched :
      k < 32 → a < 8
      → ((d : ℕ) → received_by (put l a y d) + call_to d x + sent_by d (l a) ≤ received_by (l d) + call_to d (w.mail k) + sent_by d y)
      → (d : ℕ) → Balanced (touched_view w a v k x) (put l a y) d
  balance_touched kin ain fair d =
      let b : Balanced w l d = t.holds.balance d in
      let c : calls_to (touched_view w a v k x) d + call_to d (w.mail k) ≡ calls_to w d + call_to d x =
      sum_over_put (call_to d) w.mail k x 32 kin in
      let e : sum_up_to (λ s. sent_by d (put l a y s)) 8 + sent_by d (l a) ≡ sum_up_to (λ s. sent_by d (l s)) 8 + sent_by d y =
      sum_over_put (sent_by d) l a y 8 ain in
      omega (arith, fair d)

  -- the law: what is left to show is the site's first visit, the new message, and the balance of this one change
  pub touched :
      ((l a).seen ≡ false → SiteFine (touched_view w a v k x) (put l a y) a)
      → BodyFine (touched_view w a v k x) (put l a y) x x.body
      → Posted k x → k < 32 → a < 8
      → ((d : ℕ) → received_by (put l a y d) + call_to d x + sent_by d (l a) ≤ received_by (l d) + call_to d (w.mail k) + sent_by d y)
      → Holds (touched_view w a v k x) (put l a y)
  touched first body posted kin ain fair =
      record {
        free = λ e. absurd (t.used e);
        mirror = mirrored;
        sites = sited;
        posted = put_all w.mail k x Posted posted (λ j n. t.holds.posted j);
        mail =
            put_all w.mail k x
            (λ j m. BodyFine (touched_view w a v k x) (put l a y) m m.body)
            body
            (λ j n. body_touched (w.mail j) (w.mail j).body (t.holds.mail j));
        passage = passage_touched t.holds.passage;
        balance = balance_touched kin ain fair;
      }
    where
      mirrored :
          (s : ℕ) → (put w.visit a v s).there ≡ true
          → ((put l a y s).seen ≡ true) × ((put l a y s).last ≡ put w.visit a v s)
      mirrored s e =
          ⊎_elim
          (λ (q : s ≡ a). rw (q, put_same l a y, put_same w.visit a v) t.mirror)
          (λ n.
          let o : put w.visit a v s ≡ w.visit s = put_other w.visit a v s n in
          rw (o, put_other l a y s n) (t.holds.mirror s (rw o at e)))
          (same_or_other s a)

      sited : (s : ℕ) → (put l a y s).seen ≡ true → SiteFine (touched_view w a v k x) (put l a y) s
      sited s e =
          ⊎_elim
          (λ i. site_touched s i (t.holds.sites s i))
          (λ u.
          ⊎_elim
          (λ (q : s ≡ a). rw q (first (rw q at u)))
          (λ n. absurd (true≢false (sym (rw (put_other l a y s n) at e) ∙ u)))
          (same_or_other s a))
          (either (l s).seen)
