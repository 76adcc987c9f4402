-- A message that is no call comes into a message slot: ask, tell, the answer to a phase 1 message, and the reply to a call. Assumes nothing.
use Rattle.std.specs.Prelude.{ℕ, ◌<◌, ◌≤◌, ◌≡◌, refl, ◌≢◌, ◌⊎◌, true, false, get_or}
use Rattle.std.proofs.Common.{arith, sym, ap, ◌∙◌, ⊎_elim, inl, inr, true≢false}
use Rattle.std.proofs.lemmas.Bool.{false≢true}
use Rattle.rules.specs.Loops.{one_if}
use Rattle.rules.specs.Parts.{has_answered, told_of, largest_quiesce, plain_message, answer_message}
use Rattle.rules.specs.Rounds.{ask_body, tell_body}
use Rattle.runs.specs.Types.{Figures, Kind, Phase, Status, Call, Body, Message}
use Rattle.runs.specs.Walk.Says.{is_refresh, is_binding, body_kind}
use Rattle.runs.specs.Walk.Put.{put, put_all}
use Rattle.runs.specs.Times.View.{View, Ledger}
use Rattle.runs.specs.Times.Clauses.{Below, QuietMail, Quiet, InAnswer, Figure, FigureFine, EdgeFine, SiteFine, ToldFine, BodyFine, Posted, is_call_to, calls_to, Balanced, Holds}
use Rattle.runs.proofs.Times.ClausesLaws.{one_quiet, two_quiet, answer_quiet, reply_quiet, one_clause, two_clause, answer_clause, reply_clause}
use Rattle.runs.proofs.Kept.Shrunk.{around, sum_le, body_around, passage_around, site_around}

-- the view with this message at slot k
abbrev pub with_mail : View → ℕ → Message → View
with_mail w k m = around w w.visit w.clock (put w.mail k m)

-- what the new message must keep to; Fine is what is to be said of its body
pub record Letter (w : View) (l : Ledger) (k : ℕ) (m : Message) : Type 0 where
  pub taken : w.passage.status ≡ Status.Free → ⊥
  pub posted : (k < 32) × (m.source < 8) × (m.destination < 8)
  pub no_call : (d a : ℕ) → is_call_to d a m.body ≡ false
  pub quiet : Quiet w l → QuietMail l m.destination m.body
  pub figures :
      (v d j : ℕ) (f : Figures) → EdgeFine w l v d j
      → InAnswer w.passage.round.number v f m m.body → 1 ≤ get_or f.sent d 0

module _ (w : View) (l : Ledger) (k : ℕ) (m : Message) (h : Holds w l) (x : Letter w l k m) where
  no_call_here : (c : Call) → m.body ≡ Body.Call c → ⊥
  no_call_here c e =
      let n : is_call_to 0 0 m.body ≡ false = x.no_call 0 0 in
      true≢false (rw e at n)

  -- a call in the new mail was there before
  was_call : (i : ℕ) (c : Call) → (put w.mail k m i).body ≡ Body.Call c → put w.mail k m i ≡ w.mail i
  was_call i c e =
      put_all
      w.mail
      k
      m
      (λ j y. y.body ≡ Body.Call c → y ≡ w.mail j)
      (λ q. absurd (no_call_here c q))
      (λ j n q. refl)
      i
      e

  pub mail_below : (q : ℕ) → Below w l q → Below (with_mail w k m) l q
  mail_below q b =
      record {
        visits = b.visits;
        calls =
            λ i c e n.
            let o : put w.mail k m i ≡ w.mail i = was_call i c e in
            b.calls i c (rw o at e) (rw o at n);
      }

  pub mail_quiet : Quiet w l → Quiet (with_mail w k m) l
  mail_quiet q =
      record {
        binding = q.binding;
        over = q.over;
        mail =
            put_all
            w.mail
            k
            m
            (λ i y. QuietMail l y.destination y.body)
            (x.quiet q)
            (λ i n. q.mail i);
        quiesced = q.quiesced;
      }

  -- figures in the new mail were there before, or are in the new message
  mail_figure :
      (v : ℕ) (f : Figures) → Figure (with_mail w k m) v f
      → Figure w v f ⊎ InAnswer w.passage.round.number v f m m.body
  mail_figure v f (inl g) = inl (inl g)
  mail_figure v f (inr (i, g)) =
      put_all
      w.mail
      k
      m
      (λ j y.
      InAnswer w.passage.round.number v f y y.body
      → Figure w v f ⊎ InAnswer w.passage.round.number v f m m.body)
      (λ y. inr y)
      (λ j n y. inl (inr (j, y)))
      i
      g

  mail_edge : (v d j : ℕ) → EdgeFine w l v d j → EdgeFine (with_mail w k m) l v d j
  mail_edge v d j g =
      record {
        seen = g.seen;
        born = g.born;
        sent = g.sent;
        figures =
            λ e i f y. ⊎_elim (λ z. g.figures e i f z) (λ z. x.figures v d j f g z) (mail_figure v f y);
      }

  pub holds_after_mail : BodyFine (with_mail w k m) l m m.body → Holds (with_mail w k m) l
  holds_after_mail fine =
      record {
        free = λ e. absurd (x.taken e);
        mirror = h.mirror;
        sites =
            λ s e.
            site_around
            w
            w.visit
            w.clock
            (put w.mail k m)
            l
            mail_below
            mail_quiet
            mail_edge
            s
            (omega arith)
            (λ g. inl g)
            (h.sites s e);
        posted = put_all w.mail k m (λ i y. Posted i y) (λ e. x.posted) (λ i n. h.posted i);
        mail =
            put_all
            w.mail
            k
            m
            (λ i y. BodyFine (with_mail w k m) l y y.body)
            fine
            (λ i n.
            body_around
            w
            w.visit
            w.clock
            (put w.mail k m)
            l
            mail_below
            mail_quiet
            mail_edge
            (w.mail i)
            (w.mail i).body
            (h.mail i));
        passage =
            passage_around
            w
            w.visit
            w.clock
            (put w.mail k m)
            l
            mail_below
            mail_quiet
            mail_edge
            h.passage;
        balance =
            λ d.
            let a : Balanced w l d = h.balance d in
            let b : calls_to (with_mail w k m) d ≤ calls_to w d =
            sum_le
            _
            _
            32
            (put_all
            w.mail
            k
            m
            (λ i y.
            one_if (is_call_to d y.destination y.body)
            ≤ one_if (is_call_to d (w.mail i).destination (w.mail i).body))
            (rw (x.no_call d m.destination) (omega arith))
            (λ i n. omega arith)) in
            omega arith;
      }

-- ---- ask: a phase 1 message from home, not to home

pub holds_after_ask :
    (w : View) (l : Ledger) (k site h stamp : ℕ) → Holds w l → (w.passage.status ≡ Status.Free → ⊥)
    → k < 32 → site < 8 → site ≢ w.passage.home
    → Holds (with_mail w k (plain_message (ask_body w.passage.round) w.passage.home site h stamp)) l
holds_after_ask w l k site h stamp g taken i j away =
    holds_after_mail
    w
    l
    k
    (plain_message (ask_body w.passage.round) w.passage.home site h stamp)
    g
    (record {
      taken = taken;
      posted = (i, g.passage.home, j);
      no_call = λ d a. refl;
      quiet = λ q. one_quiet;
      figures = λ v d e f y z. absurd (omega (arith, ap body_kind z.body));
    })
    (one_clause (record { number = omega arith; away = away; kind = λ e. refl }))

-- ---- tell: a phase 2 message from home to a site that has answered

module _ (w : View) (l : Ledger) (k site h stamp : ℕ) (g : Holds w l)
    (taken : w.passage.status ≡ Status.Free → ⊥)
    (slot : k < 32) (place : site < 8) (away : site ≢ w.passage.home)
    (two : w.passage.round.phase ≡ Phase.Two)
    (answered : has_answered w.passage.round site ≡ true) where
  tell_quiet :
      (x : Kind) → x ≡ w.passage.round.kind → Quiet w l
      → QuietMail l site (Body.PhaseTwo w.passage.round.number (told_of x (largest_quiesce w.passage.round)))
  tell_quiet Kind.None e q = two_quiet refl
  tell_quiet (Kind.Refresh q' r) e q = absurd (false≢true (ap is_binding e ∙ q.binding))
  tell_quiet Kind.Terminate e q = two_quiet refl
  tell_quiet Kind.Prepare e q = two_quiet refl

  tell_letter :
      Letter w l k (plain_message (tell_body w.passage.round) w.passage.home site h stamp)
  tell_letter =
      record {
        taken = taken;
        posted = (slot, g.passage.home, place);
        no_call = λ d a. refl;
        quiet = tell_quiet w.passage.round.kind refl;
        figures = λ v d e f y z. absurd (omega (arith, ap body_kind z.body));
      }

  tell_fine :
      (x : Kind) → x ≡ w.passage.round.kind → x ≢ Kind.None
      → ToldFine
      (with_mail w k (plain_message (tell_body w.passage.round) w.passage.home site h stamp))
      l
      (plain_message (tell_body w.passage.round) w.passage.home site h stamp)
      w.passage.round.number
      (told_of x (largest_quiesce w.passage.round))
  tell_fine Kind.None e n = absurd (n refl)
  tell_fine (Kind.Refresh q r) e n =
      let f : FigureFine w l site _ = g.passage.kept site place answered in
      record {
        seen = f.seen;
        number = let i : (l site).last.round ≡ w.passage.round.number = f.answered in omega arith;
        late = λ i. mail_below w l k _ g tell_letter q (g.passage.refresh_two q r two (sym e));
        kind = λ i. sym (ap is_refresh e);
      }
  tell_fine Kind.Terminate e n =
      (mail_quiet w l k _ g tell_letter (g.passage.closed_quiet two (sym (ap is_binding e))), λ s y. (g.sites s y).largest two (sym e))
  tell_fine Kind.Prepare e n =
      mail_quiet w l k _ g tell_letter (g.passage.closed_quiet two (sym (ap is_binding e)))

  pub holds_after_tell :
      w.passage.round.kind ≢ Kind.None
      → Holds (with_mail w k (plain_message (tell_body w.passage.round) w.passage.home site h stamp)) l
  holds_after_tell n = holds_after_mail w l k _ g tell_letter (two_clause away (tell_fine w.passage.round.kind refl n))

-- ---- the reply to a call, from a site to a site

pub holds_after_replied :
    (w : View) (l : Ledger) (k value from to h stamp : ℕ) → Holds w l → (w.passage.status ≡ Status.Free → ⊥)
    → k < 32 → from < 8 → to < 8
    → Holds (with_mail w k (plain_message (Body.Reply value) from to h stamp)) l
holds_after_replied w l k value from to h stamp g taken i j d =
    holds_after_mail
    w
    l
    k
    (plain_message (Body.Reply value) from to h stamp)
    g
    (record {
      taken = taken;
      posted = (i, j, d);
      no_call = λ d a. refl;
      quiet = λ q. reply_quiet;
      figures = λ v d e f y z. absurd (omega (arith, ap body_kind z.body));
    })
    reply_clause

-- ---- the answer of a visit, in place of the phase 1 message

pub holds_after_back :
    (w : View) (l : Ledger) (k a h stamp : ℕ) → Holds w l → (w.visit a).there ≡ true → k < 32
    → Holds (with_mail w k (answer_message (w.visit a) a w.passage.home h stamp)) l
holds_after_back w l k a h stamp g was slot =
    holds_after_mail
    w
    l
    k
    (answer_message (w.visit a) a w.passage.home h stamp)
    g
    (record {
      taken = λ e. true≢false (sym was ∙ (g.free e).visits a);
      posted = (slot, fine.place, g.passage.home);
      no_call = λ d x. refl;
      quiet = λ q. answer_quiet;
      figures =
          λ v d j f y z.
          let e : a ≡ v = z.source in
          let i : 1 ≤ get_or (w.visit a).sent d 0 = rw (← last) (rw e y.sent) in
          rw z.figures i;
    })
    (answer_clause
    (rw last at fine.number)
    (λ e.
    record {
      seen = (g.mirror a was).0;
      answered = rw last e;
      bound = λ b. (rw last refl, rw last refl, rw last (omega arith));
    }))
  where
    fine : SiteFine w l a
    fine = g.sites a (g.mirror a was).0

    last : (l a).last ≡ w.visit a
    last = (g.mirror a was).1
