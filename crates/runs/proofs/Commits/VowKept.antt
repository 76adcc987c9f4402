-- Every move keeps the vow. The idea: what a commit round has bound is let go by home's word alone, and home gives its word once. Assumes nothing.
use Rattle.std.specs.Prelude.{ℕ, ◌+◌, ◌<◌, ◌≡◌, refl, ◌⊎◌, Bool, true, false, cond}
use Rattle.std.proofs.Common.{arith, sym, ap, ◌∙◌, subst, ⊎_elim, inl, inr, true≢false}
use Rattle.std.proofs.lemmas.Bool.{false≢true}
use Rattle.rules.specs.declared.looking.Trip.{Trip}
use Rattle.rules.specs.LoopsLaws.{either, cond_keeps}
use Rattle.rules.specs.Tables.{no_round, no_message}
use Rattle.rules.specs.Parts.{is_running, is_closed, aborted_passage, quieted, where_there, asked_of, asked_visit, told_visit, told_of, told_status, largest_quiesce}
use Rattle.rules.specs.Rounds.{round_told, opened_passage, closed_passage}
use Rattle.rules.specs.Calls.{called_visit}
use Rattle.runs.specs.Types.{Kind, Phase, Status, Passage, Visit, Call, Asked, Told, Body, Message, Step}
use Rattle.runs.specs.Walk.Says.{is_prepare, carries_commit}
use Rattle.runs.proofs.Walk.Plain.{when_true, when_false}
use Rattle.runs.specs.Walk.Put.{put, put_all}
use Rattle.runs.specs.Times.View.{View, Ledger, no_ledger, ledger_noted}
use Rattle.runs.specs.Times.Clauses.{Holds}
use Rattle.runs.proofs.Times.Store.{left_view}
use Rattle.runs.proofs.Kept.Answered.{closing_binding}
use Rattle.runs.proofs.Kept.Times.{asked_says}
use Rattle.runs.specs.Moves.Definitions.{is_answer, PlainMail, OpenedFrom, Move, Turn}
use Rattle.runs.proofs.Moves.Laws.{sites_after, where_is, where_not}
use Rattle.runs.specs.Commits.Vow.{RoundFor, RoundFits, Vow}
use Rattle.runs.proofs.Commits.VowLaws.{one_not_two, none_not_one, none_not_two, prepare_says, committed_tells, running_not_committed, aborted_not_committed, active_runs, telling_commits, SamePassage, same_passage}

-- ---- the vow over a view with one visit, one clock and one message changed

-- a free slot has no ledger, and the vow asks nothing of sites that are not seen
pub vow_ledger : (w : View) (l : Ledger) (b : Bool) → Vow w l → Vow w (cond b no_ledger l)
vow_ledger w l true o = record { round = o.round; asked = λ e f s y. absurd (false≢true y); told = o.told; word = o.word; answers = o.answers }
vow_ledger w l false o = o

module _ (w : View) (l : Ledger) (a k c source : ℕ) (v : Visit) (m : Message) (h : Holds w l) (o : Vow w l) where
  abbrev After : Passage → Type 0
  After p = Vow (left_view w a k p v c m) (ledger_noted l a source v)

  -- what is asked of the visit left at the step's own site, where the passage stays
  record Here : Type 0 where
    asked :
        w.passage.round.kind ≡ Kind.Prepare → w.passage.round.phase ≡ Phase.One
        → v.there ≡ true → v.round ≡ w.passage.round.number → v.prepared ≡ true
    gone :
        w.passage.round.kind ≡ Kind.Prepare → w.passage.round.phase ≡ Phase.One
        → (w.visit a).there ≡ true → (w.visit a).prepared ≡ true → v.there ≡ true
    told :
        w.passage.round.kind ≡ Kind.Prepare → w.passage.round.phase ≡ Phase.Two
        → v.there ≡ true → (v.prepared ≡ true) × (v.round ≡ w.passage.round.number)

  -- what is asked of the message left
  record Sent (p : Passage) : Type 0 where
    word : carries_commit m.body ≡ true → p.status ≡ Status.Committed
    answers : is_answer m.body ≡ true → m.destination ≡ p.home

  vow_stays : (p : Passage) → SamePassage w.passage p → Here → Sent p → After p
  vow_stays p same here sent =
      record {
        round = rw (same.status, same.kind, same.phase) o.round;
        asked =
            λ kind one.
            sites_after w l a source v
            (λ s x y. y.seen ≡ true → y.last.round ≡ p.round.number → (x.there ≡ true) × (x.prepared ≡ true))
            (λ there y seen last s r.
            let number : v.round ≡ w.passage.round.number = ap (λ (z : Visit). z.round) (sym last) ∙ r ∙ same.number in
            (there, here.asked (sym same.kind ∙ kind) (sym same.phase ∙ one) there number))
            (λ gone s r.
            let before = o.asked (sym same.kind ∙ kind) (sym same.phase ∙ one) a s (r ∙ same.number) in
            absurd (false≢true (sym gone ∙ here.gone (sym same.kind ∙ kind) (sym same.phase ∙ one) before.0 before.1)))
            (λ s n y r. o.asked (sym same.kind ∙ kind) (sym same.phase ∙ one) s y (r ∙ same.number));
        told =
            λ kind two.
            put_all w.visit a v
            (λ s x. x.there ≡ true → (x.prepared ≡ true) × (x.round ≡ p.round.number))
            (λ there. rw same.number (here.told (sym same.kind ∙ kind) (sym same.phase ∙ two) there))
            (λ s n there. rw same.number (o.told (sym same.kind ∙ kind) (sym same.phase ∙ two) s there));
        word =
            put_all w.mail k m
            (λ i x. carries_commit x.body ≡ true → p.status ≡ Status.Committed)
            sent.word
            (λ i n e. same.status ∙ o.word i e);
        answers =
            put_all w.mail k m
            (λ i x. is_answer x.body ≡ true → x.destination ≡ p.home)
            sent.answers
            (λ i n e. o.answers i e ∙ sym same.home);
      }

  -- a passage that binds nothing: it is begun, free or aborted, or its round is no commit round
  vow_unbound :
      (p : Passage) → RoundFits p → ((p.round.kind ≡ Kind.Prepare) → p.round.phase ≡ Phase.None)
      → ((i : ℕ) → carries_commit (put w.mail k m i).body ≡ true → p.status ≡ Status.Committed)
      → ((i : ℕ) → is_answer (put w.mail k m i).body ≡ true → (put w.mail k m i).destination ≡ p.home)
      → After p
  vow_unbound p fits unbound word answers =
      record {
        round = fits;
        asked = λ kind one. absurd (none_not_one (sym (unbound kind) ∙ one));
        told = λ kind two. absurd (none_not_two (sym (unbound kind) ∙ two));
        word = word;
        answers = answers;
      }

  -- a message that stays
  mail_word : m ≡ w.mail k → (i : ℕ) → carries_commit (put w.mail k m i).body ≡ true → w.passage.status ≡ Status.Committed
  mail_word e = put_all w.mail k m (λ i x. carries_commit x.body ≡ true → w.passage.status ≡ Status.Committed) (rw e (o.word k)) (λ i n. o.word i)

  mail_answers : m ≡ w.mail k → (i : ℕ) → is_answer (put w.mail k m i).body ≡ true → (put w.mail k m i).destination ≡ w.passage.home
  mail_answers e = put_all w.mail k m (λ i x. is_answer x.body ≡ true → x.destination ≡ w.passage.home) (rw e (o.answers k)) (λ i n. o.answers i)

  -- a visit that keeps its marks and its round
  here_marked : v.there ≡ (w.visit a).there → v.prepared ≡ (w.visit a).prepared → v.round ≡ (w.visit a).round → Here
  here_marked there prepared round =
      record {
        asked =
            λ kind one now r.
            let was = h.mirror a (sym there ∙ now) in
            prepared ∙ (o.asked kind one a was.0 (ap (λ (z : Visit). z.round) was.1 ∙ sym round ∙ r)).1;
        gone = λ kind one was y. there ∙ was;
        told = λ kind two now. let y = o.told kind two a (sym there ∙ now) in (prepared ∙ y.0, round ∙ y.1);
      }

  here_same : v ≡ w.visit a → Here
  here_same e = here_marked (ap (λ (x : Visit). x.there) e) (ap (λ (x : Visit). x.prepared) e) (ap (λ (x : Visit). x.round) e)

  -- a visit that is gone, where none was bound
  here_gone :
      v.there ≡ false → (w.passage.round.kind ≡ Kind.Prepare → w.passage.round.phase ≡ Phase.One → (w.visit a).prepared ≡ true → ⊥)
      → Here
  here_gone gone free =
      record {
        asked = λ kind one now. absurd (false≢true (sym gone ∙ now));
        gone = λ kind one was y. absurd (free kind one y);
        told = λ kind two now. absurd (false≢true (sym gone ∙ now));
      }

  -- a message that stays, is lost, or is no word and no answer
  sent_same : (p : Passage) → SamePassage w.passage p → m ≡ w.mail k → Sent p
  sent_same p same e = record { word = rw e (λ y. same.status ∙ o.word k y); answers = rw e (λ y. o.answers k y ∙ sym same.home) }

  sent_plain : (p : Passage) → PlainMail m → Sent p
  sent_plain p x = record { word = λ e. absurd (true≢false (sym e ∙ x.commit)); answers = λ e. absurd (true≢false (sym e ∙ x.answer)) }

  sent_empty : (p : Passage) → m ≡ no_message → Sent p
  sent_empty p e = record { word = rw e (λ y. absurd (false≢true y)); answers = rw e (λ y. absurd (false≢true y)) }

  -- ---- moves that leave the passage

  as_it_was : (p : Passage) → p ≡ w.passage → SamePassage w.passage p
  as_it_was p e = subst (SamePassage w.passage) (sym e) (same_passage w.passage)

  -- a call is received: a visit that it makes is of an older round, and a commit that tells has no call in flight
  here_received :
      (call : Call) → (w.mail k).body ≡ Body.Call call → v.there ≡ true → v.round ≡ (called_visit call (w.visit a)).round
      → v.prepared ≡ (called_visit call (w.visit a)).prepared → Here
  here_received call body there round prepared =
      ⊎_elim
      (λ (e : (w.visit a).there ≡ true). here_marked (there ∙ sym e) (prepared ∙ (rw e)) (round ∙ (rw e)))
      (λ (e : (w.visit a).there ≡ false).
      record {
        asked = λ kind one now r. absurd (((h.mail k).call call body).bound (rw kind) (let y : v.round ≡ call.round = round ∙ (rw e) in sym y ∙ r));
        gone = λ kind one was y. there;
        told = λ kind two now. absurd (((h.passage.closed_quiet two (rw kind)).mail k).call call body);
      })
      (either (w.visit a).there)

  -- a question of the round's own number is the round's own, and one of a lower number does not come to a visit that a commit has bound
  here_asked :
      (n : ℕ) (asked : Asked) → (w.mail k).body ≡ Body.PhaseOne n asked → (w.visit a).there ≡ true → (w.visit a).round < n
      → v ≡ asked_visit asked n c (w.visit a) → Here
  here_asked n asked body was below e =
      let says = asked_says asked n c (w.visit a) in
      let fine = (h.mail k).one n asked body in
      record {
        asked =
            λ kind one now r.
            let number : n ≡ w.passage.round.number = sym says.round ∙ ap (λ (x : Visit). x.round) (sym e) ∙ r in
            let what : asked ≡ Asked.Prepare = fine.kind number ∙ ap asked_of kind in
            ap (λ (x : Visit). x.prepared) (e ∙ ap (λ (y : Asked). asked_visit y n c (w.visit a)) what);
        gone = λ kind one there y. ap (λ (x : Visit). x.there) e ∙ says.there ∙ there;
        told = λ kind two now. let y : (w.visit a).round ≡ w.passage.round.number = (o.told kind two a was).1 in absurd (omega (arith, fine.number));
      }

  -- a commit's word comes to a committed passage, which asks nothing any more
  here_told : (n : ℕ) (told : Told) → (w.mail k).body ≡ Body.PhaseTwo n told → v ≡ told_visit told (w.visit a) → Here
  here_told n (Told.Refresh q) body e = here_marked (ap (λ (x : Visit). x.there) e) (ap (λ (x : Visit). x.prepared) e) (ap (λ (x : Visit). x.round) e)
  here_told n (Told.Terminate x) body e = here_marked (ap (λ (x : Visit). x.there) e) (ap (λ (x : Visit). x.prepared) e) (ap (λ (x : Visit). x.round) e)
  here_told n Told.Prepare body e =
      here_gone
      (ap (λ (x : Visit). x.there) e)
      (λ kind one y. one_not_two (sym one ∙ (committed_tells w.passage o.round (o.word k (ap carries_commit body))).1))

  -- ---- moves that change the passage

  -- the word of a commit is not in flight where the passage is not committed
  wordless :
      m ≡ w.mail k → (w.passage.status ≡ Status.Committed → ⊥) → (s : Status) (i : ℕ) → carries_commit (put w.mail k m i).body ≡ true
      → s ≡ Status.Committed
  wordless e never s i y = absurd (never (mail_word e i y))

  -- an abort binds nothing
  vow_aborted : m ≡ w.mail k → is_running w.passage.status ≡ true → After (aborted_passage w.passage)
  vow_aborted e runs =
      vow_unbound
      (aborted_passage w.passage)
      (inl refl)
      (λ y. refl)
      (wordless e (running_not_committed w.passage.status runs) Status.Aborted)
      (mail_answers e)

  -- a slot with no message
  vow_silent : (p : Passage) → RoundFits p → p.round ≡ no_round → ((i : ℕ) → (put w.mail k m i).body ≡ Body.Empty) → After p
  vow_silent p fits e none =
      vow_unbound
      p
      fits
      (λ y. absurd (false≢true (ap is_prepare (ap (λ r. r.kind) (sym e) ∙ y))))
      (λ i y. absurd (false≢true (ap carries_commit (sym (none i)) ∙ y)))
      (λ i y. absurd (false≢true (ap is_answer (sym (none i)) ∙ y)))

  -- a round opens: nothing carries its number yet but home
  vow_opened :
      (kind : Kind) → OpenedFrom kind w.passage.status → (w.visit a).there ≡ true
      → v ≡ asked_visit (asked_of kind) (w.passage.round.number + 1) c (w.visit a) → m ≡ w.mail k
      → After (opened_passage kind w.passage v)
  vow_opened Kind.None from was e f = absurd from
  vow_opened (Kind.Refresh q r) from was e f =
      vow_unbound
      (opened_passage (Kind.Refresh q r) w.passage v)
      (rw from)
      (λ y. absurd (false≢true (ap is_prepare y)))
      (wordless f (λ y. running_not_committed w.passage.status (ap is_running from) y) _)
      (mail_answers f)
  vow_opened Kind.Terminate from was e f =
      vow_unbound
      (opened_passage Kind.Terminate w.passage v)
      (rw from (inr refl))
      (λ y. absurd (false≢true (ap is_prepare y)))
      (wordless f (λ y. aborted_not_committed (sym from ∙ y)) _)
      (mail_answers f)
  vow_opened Kind.Prepare from was e f =
      record {
        round = (refl, refl);
        asked =
            λ kind one.
            sites_after w l a source v
            (λ s x y. y.seen ≡ true → y.last.round ≡ w.passage.round.number + 1 → (x.there ≡ true) × (x.prepared ≡ true))
            (λ there y seen last s r. (there, ap (λ (x : Visit). x.prepared) e))
            (λ gone s r. absurd (false≢true (sym gone ∙ ap (λ (x : Visit). x.there) e ∙ was)))
            (λ s n y r. absurd (omega (arith, (h.sites s y).number, r)));
        told = λ kind two. absurd (one_not_two two);
        word = wordless f (running_not_committed w.passage.status from) _;
        answers = mail_answers f;
      }

  -- a round closes: what a commit round has asked is bound, everywhere but at home, where it is done
  vow_closed :
      w.passage.round.phase ≡ Phase.One → is_closed w.passage.round ≡ true
      → v ≡ where_there (w.visit a) (told_visit (round_told w.passage.round) (w.visit a)) → m ≡ w.mail k
      → After (closed_passage (round_told w.passage.round) w.passage)
  vow_closed one closed e f =
      record {
        round = fits w.passage.status w.passage.round.kind w.passage.round.phase one o.round;
        asked = λ kind asks. absurd (one_not_two (sym asks));
        told =
            λ kind two.
            put_all w.visit a v
            (λ s x. x.there ≡ true → (x.prepared ≡ true) × (x.round ≡ w.passage.round.number))
            (λ there. absurd (home_gone kind (either (w.visit a).there) there))
            (λ s n there.
            let was = h.mirror s there in
            let number : (l s).last.round ≡ w.passage.round.number =
            (h.passage.kept s (h.sites s was.0).place (closing_binding w l h one closed (rw kind) s was.0)).answered in
            ((o.asked kind one s was.0 number).1, ap (λ (x : Visit). x.round) (sym was.1) ∙ number));
        word = λ i y. absurd (one_not_two (sym one ∙ (committed_tells w.passage o.round (mail_word f i y)).1));
        answers = mail_answers f;
      }
    where
      fits :
          (s : Status) (kind : Kind) (phase : Phase) → phase ≡ Phase.One → RoundFor s kind phase
          → RoundFor (told_status (told_of kind (largest_quiesce w.passage.round)) s) kind Phase.Two
      fits s Kind.Prepare phase y g = (refl, refl)
      fits Status.Free Kind.None phase y g = tt
      fits Status.Free (Kind.Refresh q r) phase y g = tt
      fits Status.Free Kind.Terminate phase y g = tt
      fits Status.Active Kind.None phase y g = g
      fits Status.Active (Kind.Refresh q r) phase y g = g
      fits Status.Active Kind.Terminate phase y g = g
      fits Status.Committing Kind.None phase y g = absurd (false≢true (ap is_prepare g.0))
      fits Status.Committing (Kind.Refresh q r) phase y g = absurd (false≢true (ap is_prepare g.0))
      fits Status.Committing Kind.Terminate phase y g = absurd (false≢true (ap is_prepare g.0))
      fits Status.Aborted Kind.None phase y (inl g) = absurd (none_not_one (sym g ∙ y))
      fits Status.Aborted Kind.None phase y (inr g) = inr g
      fits Status.Aborted (Kind.Refresh q r) phase y (inl g) = absurd (none_not_one (sym g ∙ y))
      fits Status.Aborted (Kind.Refresh q r) phase y (inr g) = inr g
      fits Status.Aborted Kind.Terminate phase y g = inr refl
      fits Status.Committed Kind.None phase y g = absurd (false≢true (ap is_prepare g.0))
      fits Status.Committed (Kind.Refresh q r) phase y g = absurd (false≢true (ap is_prepare g.0))
      fits Status.Committed Kind.Terminate phase y g = absurd (false≢true (ap is_prepare g.0))

      home_gone : w.passage.round.kind ≡ Kind.Prepare → ((w.visit a).there ≡ true) ⊎ ((w.visit a).there ≡ false) → v.there ≡ true → ⊥
      home_gone kind (inl y) there =
          let told : v ≡ told_visit Told.Prepare (w.visit a) =
          e ∙ where_is (w.visit a) _ y ∙ ap (λ (x : Kind). told_visit (told_of x (largest_quiesce w.passage.round)) (w.visit a)) kind in
          false≢true (ap (λ (x : Visit). x.there) (sym told) ∙ there)
      home_gone kind (inr y) there = false≢true (sym y ∙ ap (λ (x : Visit). x.there) (sym (e ∙ where_not (w.visit a) _ y)) ∙ there)

  -- ---- every move

  -- of a slot that the step leaves free nothing is in flight
  pub vow_moved :
      {step : Step} (p : Passage) → (p.status ≡ Status.Free → (i : ℕ) → (put w.mail k m i).body ≡ Body.Empty) → Move step w a k p v c m
      → After p
  vow_moved p none (Move.Rests e x i (inl y)) = vow_stays p (as_it_was p e) (here_same x) (sent_same p (as_it_was p e) y)
  vow_moved p none (Move.Rests e x i (inr y)) = vow_stays p (as_it_was p e) (here_same x) (sent_plain p y.plain)
  vow_moved p none (Move.Sends d b e was x i y f) =
      vow_stays p (as_it_was p e)
      (here_marked (ap (λ (z : Visit). z.there) x) (ap (λ (z : Visit). z.prepared) x) (ap (λ (z : Visit). z.round) x))
      (sent_plain p y)
  vow_moved p none (Move.Tells e x i home two silent word uncalled) =
      vow_stays p (as_it_was p e) (here_same x)
      (record {
        word =
            λ y.
            ap (λ (z : Passage). z.status) e
            ∙ telling_commits
            w.passage
            o.round
            (λ free. none_not_two (ap (λ r. r.phase) (sym (h.free free).round) ∙ two))
            (prepare_says w.passage.round.kind (word y).0)
            two;
        answers = λ y. absurd (true≢false (sym y ∙ silent));
      })
  vow_moved p none (Move.Begins free status round unmarked i y) =
      vow_silent p (rw (status, round)) round
      (put_all w.mail k m (λ j x. x.body ≡ Body.Empty) (ap (λ (x : Message). x.body) y ∙ (h.free free).mail k) (λ j n. (h.free free).mail j))
  vow_moved p none (Move.Retires g status round x i) = vow_silent p (rw status tt) round (none status)
  vow_moved p none (Move.Opens kind from home was e x i y) = subst After (sym e) (vow_opened kind from was x y)
  vow_moved p none (Move.Closes home one closed e x i y fits) = subst After (sym e) (vow_closed one closed x y)
  vow_moved p none (Move.Aborts runs e x i y) = subst After (sym e) (vow_aborted y runs)
  vow_moved p none (Move.Receives call body at e x early i y) =
      vow_stays p (as_it_was p e)
      (here_received
      call
      body
      (ap (λ (z : Visit). z.there) x ∙ made_there (either (w.visit a).there))
      (ap (λ (z : Visit). z.round) x)
      (ap (λ (z : Visit). z.prepared) x))
      (sent_plain p y.plain)
    where
      made_there : ((w.visit a).there ≡ true) ⊎ ((w.visit a).there ≡ false) → (called_visit call (w.visit a)).there ≡ true
      made_there (inl q) = when_true (λ (z : Visit). z.there ≡ true) (w.visit a).there (w.visit a) _ q q
      made_there (inr q) = when_false (λ (z : Visit). z.there ≡ true) (w.visit a).there (w.visit a) _ q refl
  vow_moved p none (Move.Answers n asked body e was live below x i silent back uncalled) =
      vow_stays p (as_it_was p e) (here_asked n asked body was below x)
      (record { word = λ y. absurd (true≢false (sym y ∙ silent)); answers = λ y. (back y).1 ∙ ap (λ (z : Passage). z.home) (sym e) })
  vow_moved p none (Move.Hears n told body e was x i y) = vow_stays p (as_it_was p e) (here_told n told body x) (sent_empty p y)
  vow_moved p none (Move.Keeps n r q body number at e x i stamp y) =
      vow_stays p
      (subst (SamePassage w.passage) (sym e) (record { status = refl; home = refl; number = refl; kind = refl; phase = refl }))
      (here_same x)
      (sent_empty p y)

  -- every turn; the message and the clock stay
  pub vow_turned : {trip : Trip} (p : Passage) → m ≡ w.mail k → Turn w a p v trip → After p
  vow_turned p f (Turn.Stays trip e x) = vow_stays p (as_it_was p e) (here_same x) (sent_same p (as_it_was p e) f)
  vow_turned p f (Turn.Sweeps site true active e was unprepared x) = subst After (sym e) (vow_aborted f (active_runs w.passage.status (active refl)))
  vow_turned p f (Turn.Sweeps site false active e was unprepared x) =
      vow_stays p (as_it_was p e)
      (here_gone (ap (λ (z : Visit). z.there) x) (λ kind one y. true≢false (sym y ∙ unprepared)))
      (sent_same p (as_it_was p e) f)
  vow_turned p f (Turn.Crashes site true hits runs e unhit x) = subst After (sym e) (vow_aborted f (runs refl))
  vow_turned p f (Turn.Crashes site false true runs e unhit x) =
      vow_stays p (as_it_was p e)
      (record {
        asked =
            λ kind one now r.
            let was : (w.visit a).there ≡ true = struck_there now in
            let seen = h.mirror a was in
            let number : (l a).last.round ≡ w.passage.round.number =
            ap (λ (z : Visit). z.round) seen.1 ∙ sym (ap (λ (z : Visit). z.round) (struck was)) ∙ r in
            absurd (true≢false (sym (o.asked kind one a seen.0 number).1 ∙ unhit refl refl));
        gone = λ kind one was y. absurd (true≢false (sym y ∙ unhit refl refl));
        told = λ kind two now. absurd (true≢false (sym (o.told kind two a (struck_there now)).0 ∙ unhit refl refl));
      })
      (sent_same p (as_it_was p e) f)
    where
      struck : (w.visit a).there ≡ true → v ≡ quieted (w.visit a) (w.clock a) false true
      struck was = x ∙ where_is (w.visit a) _ was

      struck_there : v.there ≡ true → (w.visit a).there ≡ true
      struck_there now =
          ⊎_elim
          (λ y. y)
          (λ y. absurd (false≢true (sym y ∙ ap (λ (z : Visit). z.there) (sym (x ∙ where_not (w.visit a) _ y)) ∙ now)))
          (either (w.visit a).there)
  vow_turned p f (Turn.Crashes site false false runs e unhit x) =
      vow_stays p (as_it_was p e)
      (here_same (x ∙ cond_keeps (λ (z : Visit). z ≡ w.visit a) (w.visit a).there (w.visit a) (w.visit a) refl refl))
      (sent_same p (as_it_was p e) f)
