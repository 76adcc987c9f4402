-- What a delivery leaves in its slot's view keeps the invariant: a call with its reply, a phase 1 and a phase 2 message, an answer. Assumes nothing.
use Rattle.std.specs.Prelude.{ℕ, ◌<◌, ◌≤◌, ◌≡◌, refl, ◌≢◌, ◌⊎◌, Bool, true, false, cond}
use Rattle.std.proofs.Common.{arith, sym, ap, ◌∙◌, subst, ⊎_elim, inl, inr, true≢false}
use Rattle.std.proofs.lemmas.Bool.{false≢true}
use Rattle.rules.specs.LoopsLaws.{either}
use Rattle.rules.specs.Tables.{no_visit, no_message}
use Rattle.rules.specs.Parts.{is_free, is_phase_one, is_empty, new_visit, count_received, with_round, with_answer, asked_visit, told_visit, plain_message, answer_message}
use Rattle.rules.specs.Calls.{called_visit}
use Rattle.runs.specs.Types.{Figures, Status, Passage, Visit, Call, Asked, Told, Body, Message}
use Rattle.runs.proofs.Walk.Plain.{when_true, when_false}
use Rattle.runs.specs.Walk.Says.{body_kind}
use Rattle.runs.specs.Walk.Put.{put, put_same, put_all, put_again}
use Rattle.runs.specs.Times.View.{View, Ledger, no_ledger, ledger_noted, relast, first_seen}
use Rattle.runs.specs.Times.Clauses.{Quiet, sent_figures, InAnswer, FigureFine, PhaseOneFine, LateFine, Holds}
use Rattle.runs.proofs.Times.ClausesLaws.{binding_no_refresh, late_says, terminate_says, prepare_says}
use Rattle.runs.proofs.Kept.Shrunk.{shrunk}
use Rattle.runs.proofs.Kept.Visit.{with_visit, with_last}
use Rattle.runs.proofs.Kept.Times.{asked_says, holds_after_asked, holds_after_told_refresh, holds_after_told_terminate}
use Rattle.runs.proofs.Kept.Mail.{with_mail, holds_after_back, holds_after_replied}
use Rattle.runs.proofs.Kept.Round.{holds_after_answer}
use Rattle.runs.proofs.Kept.Calls.{holds_after_received, never_twice, holds_after_made}
use Rattle.runs.proofs.Times.Store.{left_view, noted_there, noted_gone, noted_same}
use Rattle.runs.proofs.Fits.Shared.{moved, holds_after_moved, holds_after_news, visit_back, holds_after_went}

-- the message at slot k is lost
pub mail_lost : (w : View) (l : Ledger) (k : ℕ) → Holds w l → Holds (with_mail w k no_message) l
mail_lost w l k h =
    shrunk
    w
    w.visit
    w.clock
    (put w.mail k no_message)
    l
    (λ s. omega arith)
    (put_all w.mail k no_message (λ i m. (m ≡ w.mail i) ⊎ (m.body ≡ Body.Empty)) (inr refl) (λ i n. inl refl))
    (λ s e. refl)
    (λ s y e. inl e)
    h

-- a visit that is made where there was none
noted_made :
    (l : Ledger) (a source : ℕ) (v : Visit) → v.there ≡ true → (l a).seen ≡ false
    → ledger_noted l a source v ≡ put l a (first_seen l source v)
noted_made l a source v e s = ap (put l a) (made v.there (l a).seen e s)
  where
    made :
        (b c : Bool) → b ≡ true → c ≡ false → cond b (cond c (relast (l a) v) (first_seen l source v)) (l a) ≡ first_seen l source v
    made true true x y = absurd (true≢false y)
    made true false x y = refl
    made false c x y = absurd (false≢true x)

-- ---- one slot's view: a delivery at site a of the message in slot k, once the clock has moved to c

-- what is left with this passage, this visit and this message; source is that of the message looked at
abbrev pub LandedAt : View → Ledger → ℕ → ℕ → ℕ → Passage → Visit → Message → ℕ → Type 0
LandedAt w l a k c p v m source =
    Holds (left_view w a k p v c m) (cond (is_free p.status) no_ledger (ledger_noted l a source v))

module _ (w : View) (l : Ledger) (a k c : ℕ) (h : Holds w l) (i : w.clock a ≤ c) where
  abbrev Landed : Passage → Visit → Message → ℕ → Type 0
  Landed = LandedAt w l a k c

  abbrev later : View
  later = moved w a c

  later_holds : Holds later l
  later_holds = holds_after_moved w l a c h i

  -- ---- a call

  module _ (call : Call) (body : (w.mail k).body ≡ Body.Call call) (at : a ≡ (w.mail k).destination) where
    call_received :
        (w.visit a).there ≡ true → c < (w.visit a).quiesce
        → Landed w.passage (count_received (w.visit a)) no_message (w.mail k).source
    call_received there early =
        holds_after_news
        (left_view w a k w.passage (count_received (w.visit a)) c no_message)
        (ledger_noted l a (w.mail k).source (count_received (w.visit a)))
        _
        (noted_there l a (w.mail k).source (count_received (w.visit a)) there (h.mirror a there).0)
        (holds_after_received later l later_holds k a call body at there (rw (put_same w.clock a c) early))

    abbrev made_visit : Visit
    made_visit = new_visit call.quiesce call.release call.round

    call_makes :
        (w.visit a).there ≡ false → c < call.quiesce
        → Landed w.passage (count_received made_visit) no_message (w.mail k).source
    call_makes missing early =
        let late : put w.clock a c a < call.quiesce = rw (put_same w.clock a c) early in
        holds_after_news
        (left_view w a k w.passage (count_received made_visit) c no_message)
        (ledger_noted l a (w.mail k).source (count_received made_visit))
        _
        (noted_made l a (w.mail k).source (count_received made_visit) refl (never_twice later l later_holds k a call body at missing late))
        (holds_after_made later l later_holds k a call body at missing late)

    call_taken :
        c < (called_visit call (w.visit a)).quiesce
        → Landed w.passage (count_received (called_visit call (w.visit a))) no_message (w.mail k).source
    call_taken =
        ⊎_elim
        (λ e.
        when_true
        (λ (v : Visit). c < v.quiesce → Landed w.passage (count_received v) no_message (w.mail k).source)
        (w.visit a).there
        (w.visit a)
        made_visit
        e
        (call_received e))
        (λ e.
        when_false
        (λ (v : Visit). c < v.quiesce → Landed w.passage (count_received v) no_message (w.mail k).source)
        (w.visit a).there
        (w.visit a)
        made_visit
        e
        (call_makes e))
        (either (w.visit a).there)

    -- then the reply takes its slot
    pub call_lands :
        (value : ℕ) → c < (called_visit call (w.visit a)).quiesce
        → Landed w.passage (count_received (called_visit call (w.visit a)))
        (plain_message (Body.Reply value) (w.mail k).destination (w.mail k).source (w.mail k).handle c)
        (w.mail k).source
    call_lands value early =
        let post = h.posted k (ap is_empty body) in
        let made : Visit = count_received (called_visit call (w.visit a)) in
        let news : Ledger = cond (is_free w.passage.status) no_ledger (ledger_noted l a (w.mail k).source made) in
        subst
        (λ (f : ℕ → Message). Holds (record { passage = w.passage; visit = put w.visit a made; clock = put w.clock a c; mail = f }) news)
        (put_again w.mail k no_message _)
        (holds_after_replied (left_view w a k w.passage made c no_message) news k value (w.mail k).destination (w.mail k).source (w.mail k).handle c
        (call_taken early)
        (λ free. absurd (omega (arith, ap body_kind (sym body ∙ (h.free free).mail k))))
        post.0
        post.2
        post.1)

  -- ---- a phase 1 message: the visit takes its part, and its answer takes the message's slot

  module _ (n : ℕ) (asked : Asked) (body : (w.mail k).body ≡ Body.PhaseOne n asked)
      (there : (w.visit a).there ≡ true) (below : (w.visit a).round < n) (kin : k < 32) where
    abbrev asks : Visit
    asks = asked_visit asked n c (w.visit a)

    one_says : PhaseOneFine later (w.mail k) n asked
    one_says = (later_holds.mail k).one n asked body

    asks_there : asks.there ≡ true
    asks_there = (asked_says asked n c (w.visit a)).there ∙ there

    holds_after_asks : Holds (with_visit later a asks) (with_last l a asks)
    holds_after_asks =
        subst
        (λ (d : ℕ).
        Holds
        (with_visit later a (asked_visit asked n d (w.visit a)))
        (with_last l a (asked_visit asked n d (w.visit a))))
        (put_same w.clock a c)
        (holds_after_asked later l a asked n later_holds there below one_says.number one_says.kind)

    pub one_lands :
        (handle source : ℕ) → Landed w.passage asks (answer_message asks a w.passage.home handle c) source
    one_lands handle source =
        holds_after_news
        (left_view w a k w.passage asks c (answer_message asks a w.passage.home handle c))
        (ledger_noted l a source asks)
        (with_last l a asks)
        (noted_there l a source asks asks_there (h.mirror a there).0)
        (subst
        (λ (v : Visit).
        Holds
        (left_view w a k w.passage asks c (answer_message v a w.passage.home handle c))
        (with_last l a asks))
        (put_same w.visit a asks)
        (holds_after_back
        (with_visit later a asks)
        (with_last l a asks)
        k
        a
        handle
        c
        holds_after_asks
        (rw (put_same w.visit a asks) asks_there)
        kin))

    pub one_away : (w.mail k).destination ≢ w.passage.home
    one_away = one_says.away

  -- ---- a phase 2 message at its own round

  module _ (n : ℕ) (at : a ≡ (w.mail k).destination) (there : (w.visit a).there ≡ true) (round : n ≡ (w.visit a).round) where
    two_seen : (l a).seen ≡ true
    two_seen = (h.mirror a there).0

    two_round : n ≡ (l (w.mail k).destination).last.round
    two_round = rw (← at, (h.mirror a there).1) round

    -- the visit has this record, and the message is lost
    two_left :
        (v : Visit) (source : ℕ) → v.there ≡ true → Holds (with_visit later a v) (with_last l a v)
        → Landed w.passage v no_message source
    two_left v source e g =
        holds_after_news
        (left_view w a k w.passage v c no_message)
        (ledger_noted l a source v)
        (with_last l a v)
        (noted_there l a source v e two_seen)
        (mail_lost (with_visit later a v) (with_last l a v) k g)

    two_refresh :
        (q source : ℕ) → (w.mail k).body ≡ Body.PhaseTwo n (Told.Refresh q)
        → Landed w.passage (told_visit (Told.Refresh q) (w.visit a)) no_message source
    two_refresh q source body =
        two_left
        (told_visit (Told.Refresh q) (w.visit a))
        source
        there
        (holds_after_told_refresh
        later
        l
        a
        q
        later_holds
        there
        (says.late two_round)
        (λ y.
        let j : n < (l (w.mail k).destination).last.round =
        ((y.mail k).late n q body).1 in
        let e : n ≡ (l (w.mail k).destination).last.round = two_round in
        omega arith)
        (λ b e. binding_no_refresh w.passage.round.kind b (says.kind (round ∙ e))))
      where
        says : LateFine later l (w.mail k) n q
        says = late_says later l later_holds k n q body

    two_terminate :
        (m source : ℕ) → (w.mail k).body ≡ Body.PhaseTwo n (Told.Terminate m)
        → Landed w.passage (told_visit (Told.Terminate m) (w.visit a)) no_message source
    two_terminate m source body =
        let says : Quiet later l × ((s : ℕ) → (l s).seen ≡ true → (l s).last.quiesce ≤ m) =
        terminate_says later l later_holds k n m body in
        two_left
        (told_visit (Told.Terminate m) (w.visit a))
        source
        there
        (holds_after_told_terminate later l a m later_holds there says.0 says.1)

    two_prepare :
        (source : ℕ) → (w.mail k).body ≡ Body.PhaseTwo n Told.Prepare → Landed w.passage no_visit no_message source
    two_prepare source body =
        holds_after_news
        (left_view w a k w.passage no_visit c no_message)
        (ledger_noted l a source no_visit)
        l
        (noted_gone l a source no_visit refl)
        (mail_lost
        (with_visit later a no_visit)
        l
        k
        (holds_after_went later l a no_visit later_holds refl (λ y. inr (inr (prepare_says later l later_holds k n body)))))

    pub two_lands :
        (told : Told) (source : ℕ) → (w.mail k).body ≡ Body.PhaseTwo n told
        → Landed w.passage (told_visit told (w.visit a)) no_message source
    two_lands (Told.Refresh q) source body = two_refresh q source body
    two_lands (Told.Terminate m) source body = two_terminate m source body
    two_lands Told.Prepare source body = two_prepare source body

    pub two_away : (told : Told) → (w.mail k).body ≡ Body.PhaseTwo n told → (w.mail k).destination ≢ w.passage.home
    two_away told body = ((h.mail k).two n told body).0

  -- ---- an answer of the open round in phase 1 is kept

  module _ (n received q : ℕ) (body : (w.mail k).body ≡ Body.Answer n received q)
      (number : n ≡ w.passage.round.number) (one : is_phase_one w.passage.round.phase ≡ true)
      (used : w.passage.status ≢ Status.Free) where
    abbrev figures : Figures
    figures = sent_figures (w.mail k) received q

    abbrev source : ℕ
    source = (w.mail k).source

    abbrev kept : Passage
    kept = with_round w.passage (with_answer w.passage.round source figures)

    figures_fine : FigureFine later l source figures
    figures_fine = ((later_holds.mail k).answer n received q body).1 number

    in_answer : InAnswer w.passage.round.number source figures (w.mail k) (w.mail k).body
    in_answer =
        record { received = received; quiesce = q; body = body ∙ ap (λ (j : ℕ). Body.Answer j received q) number; source = refl; figures = refl }

    pub answer_lands : Landed kept (w.visit a) no_message source
    answer_lands =
        holds_after_news
        (left_view w a k kept (w.visit a) c no_message)
        (ledger_noted l a source (w.visit a))
        l
        (noted_same w l a source h)
        (visit_back
        w
        a
        k
        c
        kept
        (w.visit a)
        no_message
        l
        refl
        (mail_lost
        (record { passage = kept; visit = w.visit; clock = put w.clock a c; mail = w.mail })
        l
        k
        (holds_after_answer
        later
        l
        source
        figures
        later_holds
        (h.posted k (rw body)).1
        figures_fine
        (λ d j g r e. g.figures r e figures (inr (k, in_answer)))
        (λ e. false≢true (sym (ap is_phase_one e) ∙ one))
        used)))
