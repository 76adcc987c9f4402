-- A commit rests on no crash: a passage whose visit at a station was struck by a crash before it was prepared never becomes committed.
-- The idea: a dead visit stays dead, no prepare is taken there, and a commit needs the promise of every station that has seen the passage;
-- and a crash of home aborts. Assumes nothing.
use Rattle.std.specs.Prelude.{ℕ, ◌<◌, ◌≡◌, refl, ◌≢◌, ◌⊎◌, true, false, List, ◌∷◌, ◌++◌}
use Rattle.std.proofs.Common.{sym, ap, ◌∙◌, subst, ⊎_elim, inl, inr, true≢false}
use Rattle.std.proofs.lemmas.Bool.{false≢true}
use Rattle.rules.specs.declared.looking.Trip.{Trip}
use Rattle.rules.specs.LoopsLaws.{cond_keeps}
use Rattle.rules.specs.Tables.{passage_at}
use Rattle.rules.specs.Answers.{is_accepted}
use Rattle.rules.specs.Parts.{is_free, is_over, aborted_passage, asked_visit, asked_of, quieted}
use Rattle.rules.specs.Rounds.{round_told}
use Rattle.rules.specs.Machine.{step_of}
use Rattle.rules.specs.Runs.{Started, run_of, history_of}
use Rattle.runs.specs.Types.{Status, Passage, Visit, Asked, Message, Tables, Step}
use Rattle.runs.specs.Walk.Says.{is_prepare}
use Rattle.runs.proofs.Walk.Plain.{when_true}
use Rattle.runs.specs.Walk.Put.{same_or_other}
use Rattle.runs.proofs.Walk.Steps.{run_on, ghost_step}
use Rattle.runs.specs.Times.View.{View, Ledger}
use Rattle.runs.specs.Times.Clauses.{Holds}
use Rattle.runs.proofs.Times.Ledgers.{head_ledgers, turn_ledgers, ledgers_of}
use Rattle.runs.specs.Orphans.Orphans.{is_retired}
use Rattle.runs.specs.Moves.Definitions.{Move, Turn}
use Rattle.runs.proofs.Moves.Laws.{seen_visit_after, where_is, made_at_unseen, turned_unmade}
use Rattle.runs.proofs.Operations.Struck.{crash_strikes}
use Rattle.runs.specs.Commits.Vow.{RoundFor, RoundFits}
use Rattle.runs.proofs.Commits.VowLaws.{none_not_one}
use Rattle.runs.proofs.Commits.Pledged.{Pledged, pledged_run, pledged_after_step}
use Rattle.runs.proofs.Commits.Since.{used_turned, Carries, Carried, not_retired, run_carried}
use Rattle.runs.proofs.Commits.Over.{NoWay, StatusIs, over_carries, over_after_step, ClosesCommit, committed_by_closing}
use Rattle.runs.proofs.Commits.Telling.{marks_told, telling_run}
use Rattle.runs.proofs.Order.Gone.{seen_used}
use Rattle.runs.proofs.Whole.RestsOn.{bound_at_commit}
use Rattle.runs.specs.Operations.Definitions.{IsRunning, Struck}
use Rattle.runs.specs.Promises.Definitions.{Unpromised}

-- ---- a dead visit stays dead

asked_dead : (asked : Asked) (n c : ℕ) (u : Visit) → (asked_visit asked n c u).dead ≡ u.dead
asked_dead (Asked.Refresh r) n c u = refl
asked_dead Asked.Terminate n c u = refl
asked_dead Asked.Prepare n c u = refl

dead_moved :
    {step : Step} {w : View} {a k c : ℕ} {p : Passage} {v : Visit} {m : Message} (l : Ledger) → Holds w l → Move step w a k p v c m
    → (w.visit a).there ≡ true → v.there ≡ true → (w.visit a).dead ≡ true → v.dead ≡ true
dead_moved l h (Move.Rests e x i z) was there dead = ap (λ (u : Visit). u.dead) x ∙ dead
dead_moved l h (Move.Sends d b e there x i z f) was now dead = ap (λ (u : Visit). u.dead) x ∙ dead
dead_moved l h (Move.Tells e x i home two silent word uncalled) was there dead = ap (λ (u : Visit). u.dead) x ∙ dead
dead_moved {a = a} l h (Move.Begins free status round unmarked i z) was there dead = absurd (false≢true (sym ((h.free free).visits a) ∙ was))
dead_moved l h (Move.Retires g status round x i) was there dead = ap (λ (u : Visit). u.dead) x ∙ dead
dead_moved {w = w} {a = a} {c = c} l h (Move.Opens kind from home was e x i z) there now dead =
    ap (λ (u : Visit). u.dead) x ∙ asked_dead (asked_of kind) _ c (w.visit a) ∙ dead
dead_moved {w = w} {a = a} {v = v} l h (Move.Closes home one closed e x i z fits) was there dead =
    let told = x ∙ where_is (w.visit a) _ was in
    ap (λ (u : Visit). u.dead) told ∙ (marks_told (round_told w.passage.round) (w.visit a) (ap (λ (u : Visit). u.there) (sym told) ∙ there)).1 ∙ dead
dead_moved {w = w} {a = a} l h (Move.Aborts runs e x i z) was there dead = ap (λ (u : Visit). u.dead) (x ∙ where_is (w.visit a) _ was) ∙ dead
dead_moved {w = w} {a = a} l h (Move.Receives call body at e x early i z) was there dead =
    ap (λ (u : Visit). u.dead) x ∙ when_true (λ (u : Visit). u.dead ≡ true) (w.visit a).there (w.visit a) _ was dead
dead_moved {w = w} {a = a} {c = c} l h (Move.Answers n asked body e was live below x i silent back uncalled) there now dead =
    ap (λ (u : Visit). u.dead) x ∙ asked_dead asked n c (w.visit a) ∙ dead
dead_moved {w = w} {a = a} l h (Move.Hears n told body e was x i z) there now dead =
    ap (λ (u : Visit). u.dead) x ∙ (marks_told told (w.visit a) (ap (λ (u : Visit). u.there) (sym x) ∙ now)).1 ∙ dead
dead_moved l h (Move.Keeps n r q body number at e x i stamp z) was there dead = ap (λ (u : Visit). u.dead) x ∙ dead

dead_turned :
    {w : View} {a : ℕ} {p : Passage} {v : Visit} {trip : Trip} → Turn w a p v trip
    → (w.visit a).there ≡ true → v.there ≡ true → (w.visit a).dead ≡ true → v.dead ≡ true
dead_turned (Turn.Stays trip e x) was there dead = ap (λ (u : Visit). u.dead) x ∙ dead
dead_turned (Turn.Sweeps site aborts active e was unprepared x) there now dead = absurd (false≢true (ap (λ (u : Visit). u.there) (sym x) ∙ now))
dead_turned {w = w} {a = a} (Turn.Crashes site aborts hits runs e unhit x) was there dead =
    ap (λ (u : Visit). u.dead) (x ∙ where_is (w.visit a) _ was)
    ∙ cond_keeps (λ (u : Visit). u.dead ≡ true) hits (quieted (w.visit a) (w.clock a) false true) (w.visit a) refl dead

-- ---- home stays while the slot is in use

home_moved :
    {step : Step} {w : View} {a k c : ℕ} {p : Passage} {v : Visit} {m : Message} → Move step w a k p v c m
    → is_free w.passage.status ≡ false → is_free p.status ≡ false → p.home ≡ w.passage.home
home_moved (Move.Rests e x i z) was now = ap (λ (q : Passage). q.home) e
home_moved (Move.Sends d b e there x i z f) was now = ap (λ (q : Passage). q.home) e
home_moved (Move.Tells e x i home two silent word uncalled) was now = ap (λ (q : Passage). q.home) e
home_moved (Move.Begins free status round unmarked i z) was now = absurd (true≢false (sym (ap is_free free) ∙ was))
home_moved (Move.Retires g status round x i) was now = absurd (true≢false (sym (ap is_free status) ∙ now))
home_moved (Move.Opens kind from home there e x i z) was now = ap (λ (q : Passage). q.home) e
home_moved (Move.Closes home one closed e x i z fits) was now = ap (λ (q : Passage). q.home) e
home_moved (Move.Aborts runs e x i z) was now = ap (λ (q : Passage). q.home) e
home_moved (Move.Receives call body at e x early i z) was now = ap (λ (q : Passage). q.home) e
home_moved (Move.Answers n asked body e there live below x i silent back uncalled) was now = ap (λ (q : Passage). q.home) e
home_moved (Move.Hears n told body e there x i z) was now = ap (λ (q : Passage). q.home) e
home_moved (Move.Keeps n r q body number at e x i stamp z) was now = ap (λ (q : Passage). q.home) e

home_turned : {w : View} {a : ℕ} {p : Passage} {v : Visit} {trip : Trip} → Turn w a p v trip → p.home ≡ w.passage.home
home_turned (Turn.Stays trip e x) = ap (λ (q : Passage). q.home) e
home_turned {w = w} (Turn.Sweeps site aborts active e was unprepared x) =
    ap (λ (q : Passage). q.home) e ∙ cond_keeps (λ (q : Passage). q.home ≡ w.passage.home) aborts (aborted_passage w.passage) _ refl refl
home_turned {w = w} (Turn.Crashes site aborts hits runs e unhit x) =
    ap (λ (q : Passage). q.home) e ∙ cond_keeps (λ (q : Passage). q.home ≡ w.passage.home) aborts (aborted_passage w.passage) _ refl refl

-- ---- what is carried

-- the slot is in use, and its home is not site s
record Elsewhere (s : ℕ) (w : View) (l : Ledger) : Type 0 where
  used : is_free w.passage.status ≡ false
  away : s ≢ w.passage.home

elsewhere_carries : (s : ℕ) → Carries (Elsewhere s) NoWay
elsewhere_carries s =
    record {
      moved = λ l source h o g move u. record { used = u; away = λ e. g.away (e ∙ home_moved move g.used u) };
      turned = λ trip l source k at h o g way turn. record { used = used_turned turn g.used; away = λ e. g.away (e ∙ home_turned turn) };
      used = λ h g. g.used;
      sets_out = λ t step p l z a g. tt;
      goes_on = λ trip w u later way. tt;
    }

-- site s has seen the passage, and a visit of it that is there is dead
record StruckAt (s : ℕ) (w : View) (l : Ledger) : Type 0 where
  seen : (l s).seen ≡ true
  dead : (w.visit s).there ≡ true → (w.visit s).dead ≡ true

module _ (s : ℕ) where
  struck_carries : Carries (StruckAt s) NoWay
  struck_carries =
      record {
        moved =
            λ {step} {w} {a} {k} {c} {p} {v} {m} l source h o g move u.
            let x =
            seen_visit_after w l a source v (λ u. u.dead ≡ true) (λ u. u.dead ≡ true) s g.seen g.dead
            (λ missing there seen. true≢false (sym seen ∙ made_at_unseen l h move missing there))
            (dead_moved l h move)
            (λ u dead. dead) in
            record { seen = x.0; dead = x.1 };
        turned =
            λ {w} {a} {p} {v} trip l source k at h o g way turn.
            let x =
            seen_visit_after w l a source v (λ u. u.dead ≡ true) (λ u. u.dead ≡ true) s g.seen g.dead
            (λ missing there seen. turned_unmade turn missing there)
            (dead_turned turn)
            (λ u dead. dead) in
            record { seen = x.0; dead = x.1 };
        used = λ h g. seen_used s h g.seen;
        sets_out = λ t step p l z a g. tt;
        goes_on = λ trip w u later way. tt;
      }

-- ---- the theorem

-- an aborted passage has no commit round that asks
aborted_not_closing : (p : Passage) → RoundFits p → p.status ≡ Status.Aborted → ClosesCommit p → ⊥
aborted_not_closing p fits e closes =
    ⊎_elim
    (λ none. none_not_one (sym none ∙ closes.asks))
    (λ ends. false≢true (ap is_prepare (sym ends ∙ closes.kind)))
    (subst (λ (s : Status). RoundFor s p.round.kind p.round.phase) e fits)

-- slot p has a visit at a station that crashes, and has promised nothing there. Then, until its slot is retired, it does not become committed
pub commit_rests_on_no_crash :
    {t₀ : Tables} → Started t₀ → (before : List Step) (site : ℕ) (between : List Step) (commit : Step) (p : ℕ) → p < 16
    → is_accepted (step_of (run_of t₀ before) (Step.Crash site)).answer ≡ true → Unpromised (run_of t₀ before) site p
    → is_retired p (history_of (run_of t₀ before) (Step.Crash site ∷ between)) ≡ false
    → (passage_at (run_of t₀ (before ++ Step.Crash site ∷ between)) p).status ≢ Status.Committed
    → (passage_at (step_of (run_of t₀ (before ++ Step.Crash site ∷ between)) commit).tables p).status ≢ Status.Committed
unfolding run_of
commit_rests_on_no_crash {t₀} fresh before site between commit p slot crashed bare kept not_yet committed =
    ⊎_elim
    (λ (home : site ≡ (passage_at t p).home).
    ⊎_elim
    (λ runs. over Status.Aborted refl (struck.aborted runs (sym home)))
    (λ done.
    over (passage_at t p).status done
    (over_after_step t (ledgers_of t₀ before) (Step.Crash site) p pledged slot done (not_retired p t (Step.Crash site) between kept).0))
    (runs_or_over (passage_at t p).status refl))
    away
    (same_or_other site (passage_at t p).home)
  where
    t : Tables
    t = run_of t₀ before

    next : Tables
    next = (step_of t (Step.Crash site)).tables

    ss : List Step
    ss = before ++ Step.Crash site ∷ between

    pledged : Pledged t (ledgers_of t₀ before)
    pledged = pledged_run fresh before

    struck : Struck t next site p
    struck = (crash_strikes t site pledged.kept.sound crashed).slots p slot

    later : is_retired p (history_of next between) ≡ false
    later = (not_retired p t (Step.Crash site) between kept).1

    -- the passage is in use
    used : is_free (passage_at t p).status ≡ false
    used = seen_used site (pledged.kept.slots p slot) ((pledged.kept.slots p slot).mirror site bare.there).0

    -- so it runs, or is over
    runs_or_over : (s : Status) → (passage_at t p).status ≡ s → IsRunning s ⊎ (is_over s ≡ true)
    runs_or_over Status.Free e = absurd (true≢false (sym (ap is_free e) ∙ used))
    runs_or_over Status.Active e = inl (inl refl)
    runs_or_over Status.Committing e = inl (inr refl)
    runs_or_over Status.Aborted e = inr refl
    runs_or_over Status.Committed e = inr refl

    closes : ClosesCommit (passage_at (run_of t₀ ss) p)
    closes = committed_by_closing (run_of t₀ ss) (ledgers_of t₀ ss) commit p (pledged_run fresh ss) slot not_yet committed

    after : Pledged next (ghost_step head_ledgers turn_ledgers t (Step.Crash site) (ledgers_of t₀ before))
    after = pledged_after_step t (Step.Crash site) (ledgers_of t₀ before) pledged

    ended : (s : Status) → is_over s ≡ true → (passage_at (run_of t₀ ss) p).status ≡ s → ⊥
    ended Status.Free o e = false≢true o
    ended Status.Active o e = false≢true o
    ended Status.Committing o e = false≢true o
    ended Status.Aborted o e = aborted_not_closing (passage_at (run_of t₀ ss) p) ((pledged_run fresh ss).vows p slot).round e closes
    ended Status.Committed o e = not_yet e

    -- a passage that is over after the crash stays so
    over : (s : Status) → is_over s ≡ true → (passage_at next p).status ≡ s → ⊥
    over s o e =
        let end : (passage_at (run_of t₀ ss) p).status ≡ s =
        ap (λ (u : Tables). (passage_at u p).status) (run_on t₀ before (Step.Crash site ∷ between))
        ∙ (run_carried (StatusIs s) NoWay (over_carries s o) p slot next between (record { ledgers = _; pledged = after; has = e }) later).has in
        ended s o end

    away : site ≢ (passage_at t p).home → ⊥
    away n =
        let dead = struck.unprepared bare.there bare.prepared in
        let c =
        subst (Carried (StruckAt site) p) (sym (run_on t₀ before (Step.Crash site ∷ between)))
        (run_carried (StruckAt site) NoWay (struck_carries site) p slot next between
        (record {
          ledgers = _;
          pledged = after;
          has = record { seen = ((after.kept.slots p slot).mirror site dead.there).0; dead = λ there. dead.dead };
        })
        later) in
        let d =
        subst (Carried (Elsewhere site) p) (sym (run_on t₀ before (Step.Crash site ∷ between)))
        (run_carried (Elsewhere site) NoWay (elsewhere_carries site) p slot t (Step.Crash site ∷ between)
        (record { ledgers = ledgers_of t₀ before; pledged = pledged; has = record { used = used; away = n } })
        kept) in
        let bound = bound_at_commit (run_of t₀ ss) c.ledgers p site slot c.pledged closes c.has.seen in
        true≢false (sym (c.has.dead bound.0) ∙ ((telling_run fresh ss).tells p slot).alive site d.has.away bound.0 bound.1)
