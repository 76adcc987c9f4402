-- An operation of a passage at one station leaves its mark everywhere: its stamp is before every quiesce time that its visit there ever has,
-- and before home's clock and the stamps of home's word once a commit round has heard of it.
-- Carried from the operation on until the slot is retired. Assumes nothing.
use Rattle.std.specs.Prelude.{ℕ, ◌+◌, ◌%◌, ◌<◌, ◌≤◌, ◌≡◌, Bool, true, false, cond}
use Rattle.std.proofs.Common.{arith, sym, ap, ◌∙◌, ⊎_elim, inl, inr, true≢false}
use Rattle.std.proofs.Math.Path.{refl, subst}
use Rattle.std.proofs.lemmas.Bool.{false≢true}
use Rattle.rules.specs.declared.looking.Trip.{Trip}
use Rattle.rules.specs.LoopsLaws.{either}
use Rattle.rules.specs.Tables.{site_at, no_message}
use Rattle.rules.specs.Answers.{is_accepted}
use Rattle.rules.specs.Parts.{is_free, is_empty, is_phase_one, is_phase_two, has_answered, with_round, with_answer, opened_round, figures_of, aborted_passage}
use Rattle.rules.specs.Rounds.{round_told, opened_passage, closed_passage}
use Rattle.rules.specs.Machine.{look_of, places_of, trip_site, head_of}
use Rattle.rules.proofs.Views.{Goes, deed_of}
use Rattle.runs.specs.Types.{Kind, Phase, Passage, Visit, Body, Message, Tables, Step}
use Rattle.runs.specs.Walk.Says.{is_prepare, carries_commit}
use Rattle.runs.specs.Walk.Put.{put, put_same, put_all, same_or_other}
use Rattle.runs.proofs.Walk.Sound.{Sound}
use Rattle.runs.proofs.Walk.Clocks.{head_adds}
use Rattle.runs.specs.Times.View.{View, Ledger, ledger_noted}
use Rattle.runs.specs.Times.Clauses.{Holds, sent_figures}
use Rattle.runs.proofs.Times.Store.{left_view}
use Rattle.runs.proofs.Kept.Answered.{closing_binding}
use Rattle.runs.proofs.Kept.Masks.{answered_other, nobody_answers}
use Rattle.runs.specs.Moves.Definitions.{is_answer, PlainMail, OpenedFrom, Move, Turn}
use Rattle.runs.proofs.Moves.Laws.{sites_after, made_at_unseen, turned_unmade, quiesce_after, is_crash, quiesce_turned, clock_after_move}
use Rattle.runs.specs.Commits.Vow.{Vow}
use Rattle.runs.proofs.Commits.VowLaws.{prepare_says}
use Rattle.runs.proofs.Commits.Since.{Carries}
use Rattle.runs.proofs.Order.Gone.{seen_used}

-- the operation had stamp x at site s
pub record Marked (x s : ℕ) (w : View) (l : Ledger) : Type 0 where
  pub seen : (l s).seen ≡ true
  pub early : x < (l s).last.quiesce
  pub past : x ≤ w.clock s
  -- once the site has answered a commit round, home's clock is past it; while the answer is on its way, the answer's stamp is
  pub answered : w.passage.round.kind ≡ Kind.Prepare → has_answered w.passage.round s ≡ true → x ≤ w.clock w.passage.home
  pub answer :
      w.passage.round.kind ≡ Kind.Prepare → (k n received q : ℕ) → (w.mail k).body ≡ Body.Answer n received q
      → n ≡ w.passage.round.number → (w.mail k).source ≡ s → x ≤ (w.mail k).stamp
  -- once the round tells, home's clock is past it, and so is the stamp of home's word
  pub tells : w.passage.round.kind ≡ Kind.Prepare → w.passage.round.phase ≡ Phase.Two → x ≤ w.clock w.passage.home
  pub word : (k : ℕ) → carries_commit (w.mail k).body ≡ true → x ≤ (w.mail k).stamp

module _ (x s : ℕ) where
  -- ---- at the site itself

  -- the visit there has a later quiesce time, or is gone as it was
  site_after :
      (w : View) (l : Ledger) (a source : ℕ) (v : Visit) → Marked x s w l → Holds w l
      → ((w.visit a).there ≡ false → v.there ≡ true → (l a).seen ≡ true → ⊥)
      → (s ≡ a → (w.visit a).there ≡ true → v.there ≡ true → x < (w.visit a).quiesce → x < v.quiesce)
      → ((ledger_noted l a source v s).seen ≡ true) × (x < (ledger_noted l a source v s).last.quiesce)
  site_after w l a source v o h unmade later =
      sites_after w l a source v
      (λ y u z. y ≡ s → (z.seen ≡ true) × (x < z.last.quiesce))
      (λ there z seen last e. (
        seen,
        subst (λ (b : Visit). x < b.quiesce) (sym last)
            (⊎_elim
            (λ (was : (w.visit a).there ≡ true).
            later (sym e) was there
            (subst (λ (b : Visit). x < b.quiesce) (h.mirror a was).1 (subst (λ (y : ℕ). x < (l y).last.quiesce) (sym e) o.early)))
            (λ missing. absurd (unmade missing there (subst (λ (y : ℕ). (l y).seen ≡ true) (sym e) o.seen)))
            (either (w.visit a).there)),
      ))
      (λ gone e. subst (λ (y : ℕ). ((l y).seen ≡ true) × (x < (l y).last.quiesce)) (sym e) (o.seen, o.early))
      (λ y n e. subst (λ (y : ℕ). ((l y).seen ≡ true) × (x < (l y).last.quiesce)) (sym e) (o.seen, o.early))
      s
      refl

  -- clocks only rise
  risen : (w : View) (a c y : ℕ) → w.clock a ≤ c → x ≤ w.clock y → x ≤ put w.clock a c y
  risen w a c y i = put_all w.clock a c (λ z n. x ≤ w.clock z → x ≤ n) (λ j. omega arith) (λ z n j. j) y

  -- ---- the passage and its mail

  -- what is left of the round and of the messages
  record Heard (w : View) : Type 0 where
    answered : w.passage.round.kind ≡ Kind.Prepare → has_answered w.passage.round s ≡ true → x ≤ w.clock w.passage.home
    answer :
        w.passage.round.kind ≡ Kind.Prepare → (k n received q : ℕ) → (w.mail k).body ≡ Body.Answer n received q
        → n ≡ w.passage.round.number → (w.mail k).source ≡ s → x ≤ (w.mail k).stamp
    tells : w.passage.round.kind ≡ Kind.Prepare → w.passage.round.phase ≡ Phase.Two → x ≤ w.clock w.passage.home
    word : (k : ℕ) → carries_commit (w.mail k).body ≡ true → x ≤ (w.mail k).stamp

  module _ (w : View) (l : Ledger) (a k c : ℕ) (v : Visit) (m : Message) (h : Holds w l) (vow : Vow w l) (o : Marked x s w l) (i : w.clock a ≤ c) where
    abbrev Left : Passage → View
    Left p = left_view w a k p v c m

    -- of the messages: those that stay, and the one that is left
    mail_answer :
        (number : ℕ) → (w.passage.round.kind ≡ Kind.Prepare)
        → ((j n r q : ℕ) → (w.mail j).body ≡ Body.Answer n r q → n ≡ number → n ≡ w.passage.round.number)
        → ((n r q : ℕ) → m.body ≡ Body.Answer n r q → n ≡ number → m.source ≡ s → x ≤ m.stamp)
        → (j n r q : ℕ) → (put w.mail k m j).body ≡ Body.Answer n r q → n ≡ number → (put w.mail k m j).source ≡ s → x ≤ (put w.mail k m j).stamp
    mail_answer number kind same new =
        put_all w.mail k m
        (λ j y. (n r q : ℕ) → y.body ≡ Body.Answer n r q → n ≡ number → y.source ≡ s → x ≤ y.stamp)
        new
        (λ j e n r q body number source. o.answer kind j n r q body (same j n r q body number) source)

    mail_word :
        (carries_commit m.body ≡ true → x ≤ m.stamp) → (j : ℕ) → carries_commit (put w.mail k m j).body ≡ true
        → x ≤ (put w.mail k m j).stamp
    mail_word new = put_all w.mail k m (λ j y. carries_commit y.body ≡ true → x ≤ y.stamp) new (λ j e. o.word j)

    -- the round keeps its number and its kind
    heard_alike :
        (p : Passage) → p.home ≡ w.passage.home → p.round.number ≡ w.passage.round.number → p.round.kind ≡ w.passage.round.kind
        → (w.passage.round.kind ≡ Kind.Prepare → has_answered p.round s ≡ true → x ≤ put w.clock a c w.passage.home)
        → (w.passage.round.kind ≡ Kind.Prepare → p.round.phase ≡ Phase.Two → x ≤ put w.clock a c w.passage.home)
        → ((n r q : ℕ) → w.passage.round.kind ≡ Kind.Prepare → m.body ≡ Body.Answer n r q → n ≡ w.passage.round.number → m.source ≡ s → x ≤ m.stamp)
        → (carries_commit m.body ≡ true → x ≤ m.stamp)
        → Heard (Left p)
    heard_alike p home number kind answered tells new word =
        record {
          answered = λ e yes. rw home (answered (sym kind ∙ e) yes);
          answer =
              λ e j n r q body same source.
              let late = mail_answer w.passage.round.number (sym kind ∙ e) (λ j n r q b y. y) (λ n r q b y z. new n r q (sym kind ∙ e) b y z) in
              late j n r q body (same ∙ number) source;
          tells = λ e two. rw home (tells (sym kind ∙ e) two);
          word = mail_word word;
        }

    -- the passage stays
    heard_stays :
        (p : Passage) → p ≡ w.passage
        → ((n r q : ℕ) → w.passage.round.kind ≡ Kind.Prepare → m.body ≡ Body.Answer n r q → n ≡ w.passage.round.number → m.source ≡ s → x ≤ m.stamp)
        → (carries_commit m.body ≡ true → x ≤ m.stamp)
        → Heard (Left p)
    heard_stays p e new word =
        subst (λ (q : Passage). Heard (Left q)) (sym e)
        (heard_alike w.passage refl refl refl
        (λ kind yes. risen w a c w.passage.home i (o.answered kind yes))
        (λ kind two. risen w a c w.passage.home i (o.tells kind two))
        new
        word)

    -- no answer and no word is left
    plain_answer :
        PlainMail m → (n r q : ℕ) → w.passage.round.kind ≡ Kind.Prepare → m.body ≡ Body.Answer n r q → n ≡ w.passage.round.number
        → m.source ≡ s → x ≤ m.stamp
    plain_answer z n r q kind body = absurd (true≢false (ap is_answer (sym body) ∙ z.answer))

    plain_word : PlainMail m → carries_commit m.body ≡ true → x ≤ m.stamp
    plain_word z y = absurd (true≢false (sym y ∙ z.commit))

    -- an emptied slot
    empty_plain : m ≡ no_message → PlainMail m
    empty_plain e = rw e (record { commit = refl; answer = refl })

    -- the message stays
    same_answer :
        m ≡ w.mail k → (n r q : ℕ) → w.passage.round.kind ≡ Kind.Prepare → m.body ≡ Body.Answer n r q → n ≡ w.passage.round.number
        → m.source ≡ s → x ≤ m.stamp
    same_answer e n r q kind = rw e (λ body number source. o.answer kind k n r q body number source)

    same_word : m ≡ w.mail k → carries_commit m.body ≡ true → x ≤ m.stamp
    same_word e = rw e (o.word k)

    -- ---- the moves

    -- a round of another kind opens
    heard_unbound : (kind : Kind) → is_prepare kind ≡ false → m ≡ w.mail k → Heard (Left (opened_passage kind w.passage v))
    heard_unbound kind other e =
        record {
          answered = λ y. absurd (false≢true (sym other ∙ ap is_prepare y));
          answer = λ y. absurd (false≢true (sym other ∙ ap is_prepare y));
          tells = λ y. absurd (false≢true (sym other ∙ ap is_prepare y));
          word = mail_word (same_word e);
        }

    -- a commit round opens: nobody has answered but home, and no answer has its number
    heard_opened :
        (kind : Kind) → OpenedFrom kind w.passage.status → a ≡ w.passage.home → m ≡ w.mail k → Heard (Left (opened_passage kind w.passage v))
    heard_opened Kind.None from home e = absurd from
    heard_opened (Kind.Refresh q r) from home e = heard_unbound (Kind.Refresh q r) refl e
    heard_opened Kind.Terminate from home e = heard_unbound Kind.Terminate refl e
    heard_opened Kind.Prepare from home e =
        record {
          answered =
              λ y yes.
              ⊎_elim
              (λ (here : s ≡ w.passage.home). risen w a c w.passage.home i (subst (λ (z : ℕ). x ≤ w.clock z) here o.past))
              (λ other.
              absurd
              (false≢true
              (sym (nobody_answers (opened_round w.passage.round Kind.Prepare) s refl place)
              ∙ sym (answered_other (opened_round w.passage.round Kind.Prepare) w.passage.home (figures_of v) h.passage.home s place other)
              ∙ yes)))
              (same_or_other s w.passage.home);
          answer =
              λ y.
              put_all w.mail k m
              (λ j z. (n r q : ℕ) → z.body ≡ Body.Answer n r q → n ≡ w.passage.round.number + 1 → z.source ≡ s → x ≤ z.stamp)
              (rw e (older k))
              (λ j n. older j);
          tells = λ y two. absurd (true≢false (ap is_phase_one two));
          word = mail_word (same_word e);
        }
      where
        place : s < 8
        place = (h.sites s o.seen).place

        older : (j n r q : ℕ) → (w.mail j).body ≡ Body.Answer n r q → n ≡ w.passage.round.number + 1 → (w.mail j).source ≡ s → x ≤ (w.mail j).stamp
        older j n r q body number source = absurd (omega (arith, ((h.mail j).answer n r q body).0))

    -- an answer comes home: home's clock goes past its stamp
    heard_kept :
        (n received q : ℕ) → (w.mail k).body ≡ Body.Answer n received q → n ≡ w.passage.round.number → a ≡ (w.mail k).destination
        → (w.mail k).stamp < c → m ≡ no_message
        → Heard (Left (with_round w.passage (with_answer w.passage.round (w.mail k).source (sent_figures (w.mail k) received q))))
    heard_kept n received q body number at later e =
        heard_alike (with_round w.passage (with_answer w.passage.round (w.mail k).source (sent_figures (w.mail k) received q))) refl refl refl
        (λ kind yes.
        ⊎_elim
        (λ (here : s ≡ (w.mail k).source).
        let home : a ≡ w.passage.home = at ∙ vow.answers k (ap is_answer body) in
        let stamp : x ≤ (w.mail k).stamp = o.answer kind k n received q body number (sym here) in
        subst (λ (z : ℕ). x ≤ put w.clock a c z) home (rw (put_same w.clock a c) (omega arith)))
        (λ other.
        risen w a c w.passage.home i
        (o.answered kind
        (sym
        (answered_other
        w.passage.round
        (w.mail k).source
        (sent_figures (w.mail k) received q)
        (h.posted k (ap is_empty body)).1
        s
        (h.sites s o.seen).place
        other)
        ∙ yes)))
        (same_or_other s (w.mail k).source))
        (λ kind two. risen w a c w.passage.home i (o.tells kind two))
        (plain_answer (empty_plain e))
        (plain_word (empty_plain e))

    -- a passage that is aborted, or stays
    heard_struck : (aborts : Bool) → m ≡ w.mail k → Heard (Left (cond aborts (aborted_passage w.passage) w.passage))
    heard_struck true z =
        heard_alike (aborted_passage w.passage) refl refl refl
        (λ kind yes. risen w a c w.passage.home i (o.answered kind yes))
        (λ kind two. absurd (false≢true (ap is_phase_two two)))
        (same_answer z)
        (same_word z)
    heard_struck false z = heard_stays w.passage refl (same_answer z) (same_word z)

    heard_moved : {step : Step} (p : Passage) → Move step w a k p v c m → is_free p.status ≡ false → Heard (Left p)
    heard_moved p (Move.Rests e y j (inl z)) u = heard_stays p e (same_answer z) (same_word z)
    heard_moved p (Move.Rests e y j (inr z)) u = heard_stays p e (plain_answer z.plain) (plain_word z.plain)
    heard_moved p (Move.Sends d b e was y j z f) u = heard_stays p e (plain_answer z) (plain_word z)
    heard_moved p (Move.Tells e y j home two silent word uncalled) u =
        heard_stays p e
        (λ n r q kind body. absurd (true≢false (ap is_answer (sym body) ∙ silent)))
        (λ y.
        let kind : w.passage.round.kind ≡ Kind.Prepare = prepare_says w.passage.round.kind (word y).0 in
        let late : x ≤ w.clock a = subst (λ (z : ℕ). x ≤ w.clock z) (sym home) (o.tells kind two) in
        rw (word y).1 (omega arith))
    heard_moved p (Move.Begins free status round unmarked j z) u = absurd (false≢true (sym ((h.free free).ledger s) ∙ o.seen))
    heard_moved p (Move.Retires g status round y j) u = absurd (true≢false (sym (ap is_free status) ∙ u))
    heard_moved p (Move.Opens kind from home was e y j z) u = subst (λ (q : Passage). Heard (Left q)) (sym e) (heard_opened kind from home z)
    heard_moved p (Move.Closes home one closed e y j z fits) u =
        subst (λ (q : Passage). Heard (Left q)) (sym e)
        (heard_alike (closed_passage (round_told w.passage.round) w.passage) refl refl refl
        (λ kind yes. risen w a c w.passage.home i (o.answered kind yes))
        (λ kind two. risen w a c w.passage.home i (o.answered kind (closing_binding w l h one closed (rw kind) s o.seen)))
        (same_answer z)
        (same_word z))
    heard_moved p (Move.Aborts runs e y j z) u = subst (λ (q : Passage). Heard (Left q)) (sym e) (heard_struck true z)
    heard_moved p (Move.Receives call body at e y early j z) u = heard_stays p e (plain_answer z.plain) (plain_word z.plain)
    heard_moved p (Move.Answers n asked body e was live below y j silent back uncalled) u =
        heard_stays p e
        (λ b r q kind answer number source.
        let said = back (ap is_answer answer) in
        let here : s ≡ a = sym source ∙ said.0 in
        let late : x ≤ w.clock a = subst (λ (z : ℕ). x ≤ w.clock z) here o.past in
        rw said.2 (omega arith))
        (λ y. absurd (true≢false (sym y ∙ silent)))
    heard_moved p (Move.Hears n told body e was y j z) u = heard_stays p e (plain_answer (empty_plain z)) (plain_word (empty_plain z))
    heard_moved p (Move.Keeps n r q body number at e y j stamp z) u =
        subst (λ (q : Passage). Heard (Left q)) (sym e) (heard_kept n r q body number at stamp z)

    -- a turn leaves the mail; an aborted passage tells nothing
    heard_turned : {trip : Trip} (p : Passage) → m ≡ w.mail k → Turn w a p v trip → Heard (Left p)
    heard_turned p z (Turn.Stays trip e y) = heard_stays p e (same_answer z) (same_word z)
    heard_turned p z (Turn.Sweeps site aborts active e was unprepared y) = subst (λ (q : Passage). Heard (Left q)) (sym e) (heard_struck aborts z)
    heard_turned p z (Turn.Crashes site aborts hits runs e unhit y) = subst (λ (q : Passage). Heard (Left q)) (sym e) (heard_struck aborts z)

  -- ---- so the mark is carried

  -- a crash has moved the clock of its site before it goes through the slots
  abbrev Ahead : Trip → View → Type 0
  Ahead trip w = is_crash trip ≡ true → s ≡ trip_site trip % 8 → x < w.clock s

  marked_of : (w : View) (l : Ledger) → ((l s).seen ≡ true) × (x < (l s).last.quiesce) → x ≤ w.clock s → Heard w → Marked x s w l
  marked_of w l site past heard =
      record {
        seen = site.0;
        early = site.1;
        past = past;
        answered = heard.answered;
        answer = heard.answer;
        tells = heard.tells;
        word = heard.word;
      }

  ahead_of :
      (t : Tables) (step : Step) → Goes step → Sound t → is_accepted (head_of t step).answer ≡ true → x ≤ (site_at t s).clock
      → is_crash (look_of step).trip ≡ true → s ≡ trip_site (look_of step).trip % 8 → x < (site_at (head_of t step).tables s).clock
  unfolding places_of
  ahead_of t _ (Goes.Sweeps site) z a i crash e = absurd (false≢true crash)
  ahead_of t _ (Goes.Crashes site) z a i crash e =
      subst
      (λ (y : ℕ). x ≤ (site_at t y).clock → x < (site_at (head_of t (Step.Crash site)).tables y).clock)
      (sym e)
      (λ j.
      let k : (site_at t (site % 8)).clock + 1 ≤ (site_at (head_of t (Step.Crash site)).tables (site % 8)).clock = head_adds t (Step.Crash site) z a refl in
      omega arith)
      i
  ahead_of t _ (Goes.Nowhere step none) z a i crash e = absurd (false≢true (ap is_crash (sym none) ∙ crash))

  pub marked_carries : Carries (Marked x s) Ahead
  marked_carries =
      record {
        moved =
            λ {step} {w} {a} {k} {c} {p} {v} {m} l source h vow o move u.
            let i : w.clock a ≤ c = clock_after_move move in
            marked_of
            (left_view w a k p v c m)
            (ledger_noted l a source v)
            (site_after w l a source v o h
            (λ missing there seen. true≢false (sym seen ∙ made_at_unseen l h move missing there))
            (λ here was there y. quiesce_after l h move x was there y (subst (λ (z : ℕ). x ≤ w.clock z) here o.past)))
            (risen w a c s i o.past)
            (heard_moved w l a k c v m h vow o i p move u);
        turned =
            λ {w} {a} {p} {v} trip l source k at h vow o way turn.
            marked_of
            (left_view w a k p v (w.clock a) (w.mail k))
            (ledger_noted l a source v)
            (site_after w l a source v o h
            (λ missing there seen. turned_unmade turn missing there)
            (λ here was there y. quiesce_turned turn x was there y (λ crash. subst (λ (z : ℕ). x < w.clock z) here (way crash (here ∙ at)))))
            (risen w a (w.clock a) s (omega arith) o.past)
            (heard_turned w l a k (w.clock a) v (w.mail k) h vow o (omega arith) p refl turn);
        used = λ h o. seen_used s h o.seen;
        sets_out = λ t step p l z a o. ahead_of t step (deed_of step).goes z a o.past;
        goes_on = λ trip w u later way crash e. let i : w.clock s ≤ u.clock s = later s in let j : x < w.clock s = way crash e in omega arith;
      }
