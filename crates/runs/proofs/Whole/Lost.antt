-- A call that is lost stays lost:
-- of the calls that were sent to a site, one that is neither received nor in flight is never made up for while the slot is in use.
-- The idea: no move makes the gap narrower between the calls sent to a site and those received there or in flight. Assumes nothing.
use Rattle.std.specs.Prelude.{ℕ, ◌+◌, ◌≤◌, ◌<◌, ◌≡◌, refl, true, false, cond, List, eqb, ltb, get_or, length}
use Rattle.std.proofs.Common.{arith, sym, ap, ◌∙◌, ⊎_elim, inl, inr, true≢false, ltb-true, ltb-false, eq-eqb}
use Rattle.std.proofs.lemmas.Bool.{false≢true}
use Rattle.rules.specs.declared.looking.Trip.{Trip}
use Rattle.rules.specs.Loops.{one_if, sum_up_to}
use Rattle.rules.specs.LoopsLaws.{either, cond_keeps, sum_same}
use Rattle.rules.specs.Tables.{no_message}
use Rattle.rules.specs.Parts.{is_free, asked_visit, asked_of, told_visit, quieted, where_there, count_sent, count_received, new_visit}
use Rattle.rules.specs.Rounds.{round_told}
use Rattle.rules.specs.Calls.{called_visit}
use Rattle.runs.specs.Types.{Passage, Visit, Call, Asked, Told, Body, Message, Step}
use Rattle.runs.proofs.Walk.Plain.{when_true, when_false}
use Rattle.runs.specs.Walk.Put.{put, put_all, put_other}
use Rattle.runs.specs.Times.View.{View, Past, Ledger, ledger_noted, noted_past}
use Rattle.runs.specs.Times.Clauses.{call_to, calls_to, received_by, sent_by, Holds}
use Rattle.runs.proofs.Times.Store.{left_view}
use Rattle.runs.proofs.Kept.Times.{asked_says}
use Rattle.runs.proofs.Kept.Shrunk.{sum_le}
use Rattle.runs.proofs.Kept.Touched.{sum_over_put, one_call_more}
use Rattle.runs.proofs.Kept.Closing.{call_places}
use Rattle.runs.specs.Moves.Definitions.{Move, Turn}
use Rattle.runs.proofs.Moves.Laws.{past_there, sites_after, where_is, where_not, made_at_unseen}
use Rattle.runs.proofs.Commits.Since.{used_turned, Carries}
use Rattle.runs.proofs.Commits.Over.{NoWay}

-- ---- what is carried

-- of the calls that were sent to site d, one at least is neither received nor in flight
abbrev pub Short : ℕ → View → Ledger → Type 0
Short d w l = received_by (l d) + calls_to w d + 1 ≤ sum_up_to (λ s. sent_by d (l s)) 8

-- ---- a store that moves no count

module _ (d : ℕ) (w : View) (l : Ledger) (h : Holds w l) (a k source : ℕ) (v : Visit) (m : Message) where
  -- a visit that is left there was there, with these counts
  abbrev Even : Type 0
  Even = v.there ≡ true → ((w.visit a).there ≡ true) × (v.received ≡ (w.visit a).received) × (v.sent ≡ (w.visit a).sent)

  past_even : Even → (s : ℕ) → (received_by (ledger_noted l a source v s) ≡ received_by (l s)) × (sent_by d (ledger_noted l a source v s) ≡ sent_by d (l s))
  past_even even =
      sites_after w l a source v
      (λ s x y. (received_by y ≡ received_by (l s)) × (sent_by d y ≡ sent_by d (l s)))
      (λ there y seen last.
      let e = even there in
      let was = h.mirror a e.0 in
      (rw (seen, last, was.0, was.1) e.1, rw (seen, last, was.0, was.1) (ap (λ (x : List ℕ). get_or x d 0) e.2)))
      (λ gone. (refl, refl))
      (λ s n. (refl, refl))

  -- the calls in flight, where one message may go and none comes
  fewer_calls : call_to d m ≤ call_to d (w.mail k) → sum_up_to (λ i. call_to d (put w.mail k m i)) 32 ≤ calls_to w d
  fewer_calls e = sum_le _ _ 32 (put_all w.mail k m (λ i x. call_to d x ≤ call_to d (w.mail i)) e (λ i n. omega arith))

  -- or one more may come
  one_more : sum_up_to (λ i. call_to d (put w.mail k m i)) 32 ≤ calls_to w d + call_to d m
  one_more =
      ⊎_elim
      (λ (e : ltb k 32 ≡ true).
      let s : sum_up_to (λ i. call_to d (put w.mail k m i)) 32 + call_to d (w.mail k) ≡ calls_to w d + call_to d m =
      sum_over_put (call_to d) w.mail k m 32 (ltb-true k 32 e) in
      omega arith)
      (λ (e : ltb k 32 ≡ false).
      let far : 32 ≤ k = ltb-false k 32 e in
      let s : sum_up_to (λ i. call_to d (put w.mail k m i)) 32 ≡ calls_to w d =
      sum_same _ _ 32 (λ i j. ap (call_to d) (put_other w.mail k m i (λ q. absurd (omega arith)))) in
      omega arith)
      (either (ltb k 32))

  short_even :
      (p : Passage) (c : ℕ) → Even → call_to d m ≤ call_to d (w.mail k) → Short d w l → Short d (left_view w a k p v c m) (ledger_noted l a source v)
  short_even p c even e short =
      let r : received_by (ledger_noted l a source v d) ≡ received_by (l d) = (past_even even d).0 in
      let s : sum_up_to (λ i. sent_by d (ledger_noted l a source v i)) 8 ≡ sum_up_to (λ i. sent_by d (l i)) 8 = sum_same _ _ 8 (λ i j. (past_even even i).1) in
      let f : sum_up_to (λ i. call_to d (put w.mail k m i)) 32 ≤ calls_to w d = fewer_calls e in
      omega (arith, short)

  -- ---- a call goes out

  short_sent :
      (p : Passage) (c e : ℕ) → e < 8 → (w.visit a).there ≡ true → v ≡ count_sent (w.visit a) e → call_to d m ≤ one_if (eqb e d) → Short d w l
      → Short d (left_view w a k p v c m) (ledger_noted l a source v)
  short_sent p c e i there is call short =
      let was = h.mirror a there in
      let now : v.there ≡ true = ap (λ (x : Visit). x.there) is ∙ there in
      let noted = past_there w l a source v now in
      let counts : length (w.visit a).sent ≡ 8 = rw was.1 at (h.sites a was.0).counts in
      let r : received_by (ledger_noted l a source v d) ≡ received_by (l d) =
      sites_after w l a source v (λ s x y. received_by y ≡ received_by (l s))
      (λ there y seen last. rw (seen, last, was.0, was.1) (ap (λ (x : Visit). x.received) is))
      (λ gone. refl)
      (λ s n. refl)
      d in
      let more : sent_by d (noted_past l (l a) source v) ≡ sent_by d (l a) + one_if (eqb e d) =
      rw (noted.0, noted.1, was.0, was.1, is) (one_call_more (w.visit a).sent e d (rw counts i)) in
      let s : sum_up_to (λ j. sent_by d (ledger_noted l a source v j)) 8 + sent_by d (l a)
      ≡ sum_up_to (λ j. sent_by d (l j)) 8 + sent_by d (noted_past l (l a) source v) =
      sum_over_put (sent_by d) l a (noted_past l (l a) source v) 8 (h.sites a was.0).place in
      let f : sum_up_to (λ j. call_to d (put w.mail k m j)) 32 ≤ calls_to w d + call_to d m = one_more in
      omega (arith, short, call)

  -- ---- a call is received

  short_received :
      (p : Passage) (c : ℕ) (call : Call) → (w.mail k).body ≡ Body.Call call → a ≡ (w.mail k).destination
      → ((w.visit a).there ≡ false → v.there ≡ true → (l a).seen ≡ false) → v ≡ count_received (called_visit call (w.visit a)) → call_to d m ≡ 0
      → Short d w l → Short d (left_view w a k p v c m) (ledger_noted l a source v)
  short_received p c call body at unseen is none short =
      let s : sum_up_to (λ j. sent_by d (l j)) 8 ≤ sum_up_to (λ j. sent_by d (ledger_noted l a source v j)) 8 = sum_le _ _ 8 (λ j. (grown j).0) in
      let f : sum_up_to (λ j. call_to d (put w.mail k m j)) 32 + call_to d (w.mail k) ≡ calls_to w d + call_to d m =
      sum_over_put (call_to d) w.mail k m 32 (call_places w l h k call body).0 in
      let r : received_by (ledger_noted l a source v d) ≤ received_by (l d) + call_to d (w.mail k) = (grown d).1 in
      omega (arith, short)
    where
      -- to its own site
      to_here : call_to a (w.mail k) ≡ 1
      to_here = rw (body, eq-eqb (w.mail k).destination a (sym at))

      grown :
          (j : ℕ) → (sent_by d (l j) ≤ sent_by d (ledger_noted l a source v j))
          × (received_by (ledger_noted l a source v j) ≤ received_by (l j) + call_to j (w.mail k))
      grown =
          sites_after w l a source v
          (λ j x y. (sent_by d (l j) ≤ sent_by d y) × (received_by y ≤ received_by (l j) + call_to j (w.mail k)))
          (λ there y seen last. ⊎_elim (found y seen last) (made there y seen last) (either (w.visit a).there))
          (λ gone. (omega arith, omega arith))
          (λ j n. (omega arith, omega arith))
        where
          found :
              (y : Past) → y.seen ≡ true → y.last ≡ v → (w.visit a).there ≡ true
              → (sent_by d (l a) ≤ sent_by d y) × (received_by y ≤ received_by (l a) + call_to a (w.mail k))
          found y seen last was =
              let same : v ≡ count_received (w.visit a) =
              is ∙ ap count_received (when_true (λ (x : Visit). x ≡ w.visit a) (w.visit a).there (w.visit a) _ was refl) in
              let old = h.mirror a was in
              (rw (seen, last, same, old.0, old.1) (omega arith), rw (seen, last, same, old.0, old.1, to_here) (omega arith))

          made :
              v.there ≡ true → (y : Past) → y.seen ≡ true → y.last ≡ v → (w.visit a).there ≡ false
              → (sent_by d (l a) ≤ sent_by d y) × (received_by y ≤ received_by (l a) + call_to a (w.mail k))
          made there y seen last gone =
              let fresh : Visit = new_visit call.quiesce call.release call.round in
              let new : v ≡ count_received fresh =
              is ∙ ap count_received (when_false (λ (x : Visit). x ≡ fresh) (w.visit a).there (w.visit a) _ gone refl) in
              (rw (unseen gone there) (omega arith), rw (seen, last, new, unseen gone there, to_here) (omega arith))

-- ---- every move

-- the counts of a visit after a question, a word, and a strike
asked_even : (asked : Asked) (n c : ℕ) (u : Visit) → ((asked_visit asked n c u).received ≡ u.received) × ((asked_visit asked n c u).sent ≡ u.sent)
asked_even asked n c u = ((asked_says asked n c u).received, (asked_says asked n c u).sent)

told_even :
    (told : Told) (u : Visit) → (told_visit told u).there ≡ true
    → (u.there ≡ true) × ((told_visit told u).received ≡ u.received) × ((told_visit told u).sent ≡ u.sent)
told_even (Told.Refresh q) u e = (e, refl, refl)
told_even (Told.Terminate m) u e = (e, refl, refl)
told_even Told.Prepare u e = absurd (false≢true e)

-- a visit that is changed only where it is there
where_even :
    (u x v : Visit) → v ≡ where_there u x → (x.there ≡ true → (u.there ≡ true) × (x.received ≡ u.received) × (x.sent ≡ u.sent)) → v.there ≡ true
    → (u.there ≡ true) × (v.received ≡ u.received) × (v.sent ≡ u.sent)
where_even u x v e even now =
    ⊎_elim
    (λ was. let is : v ≡ x = e ∙ where_is u x was in rw is (even (ap (λ (y : Visit). y.there) (sym is) ∙ now)))
    (λ gone. absurd (false≢true (sym gone ∙ ap (λ (y : Visit). y.there) (sym (e ∙ where_not u x gone)) ∙ now)))
    (either u.there)

-- a visit as it was
same_even : (u v : Visit) → v ≡ u → v.there ≡ true → (u.there ≡ true) × (v.received ≡ u.received) × (v.sent ≡ u.sent)
same_even u v e now = (ap (λ (y : Visit). y.there) (sym e) ∙ now, ap (λ (y : Visit). y.received) e, ap (λ (y : Visit). y.sent) e)

module _ (d : ℕ) where
  -- a message that stays, is lost, or is no call
  kept_call : (x m : Message) → m ≡ x → call_to d m ≤ call_to d x
  kept_call x m e = rw e (omega arith)

  no_call : (x m : Message) → call_to d m ≡ 0 → call_to d m ≤ call_to d x
  no_call x m e = rw e (omega arith)

  lost_call : (x m : Message) → m ≡ no_message → call_to d m ≤ call_to d x
  lost_call x m e = rw e (omega arith)

  short_moved :
      {step : Step} {w : View} {a k c : ℕ} {p : Passage} {v : Visit} {m : Message} (l : Ledger) (source : ℕ) → Holds w l
      → is_free w.passage.status ≡ false → is_free p.status ≡ false → Move step w a k p v c m → Short d w l
      → Short d (left_view w a k p v c m) (ledger_noted l a source v)
  short_moved {w = w} {a} {k} {c} {p} {v} {m} l source h was now (Move.Rests e x i (inl z)) =
      short_even d w l h a k source v m p c (same_even (w.visit a) v x) (kept_call (w.mail k) m z)
  short_moved {w = w} {a} {k} {c} {p} {v} {m} l source h was now (Move.Rests e x i (inr z)) =
      short_even d w l h a k source v m p c (same_even (w.visit a) v x) (no_call (w.mail k) m (z.none d))
  short_moved {w = w} {a} {k} {c} {p} {v} {m} l source h was now (Move.Sends b j e there x i z f) = short_sent d w l h a k source v m p c b j there x (f d)
  short_moved {w = w} {a} {k} {c} {p} {v} {m} l source h was now (Move.Tells e x i home two silent word uncalled) =
      short_even d w l h a k source v m p c (same_even (w.visit a) v x) (no_call (w.mail k) m (uncalled d))
  short_moved l source h was now (Move.Begins free status round unmarked i z) = absurd (true≢false (sym (ap is_free free) ∙ was))
  short_moved l source h was now (Move.Retires g status round x i) = absurd (true≢false (sym (ap is_free status) ∙ now))
  short_moved {w = w} {a} {k} {c} {p} {v} {m} l source h was now (Move.Opens kind from home there e x i z) =
      short_even d w l h a k source v m p c
      (λ n. let y = asked_even (asked_of kind) _ c (w.visit a) in (there, ap (λ (u : Visit). u.received) x ∙ y.0, ap (λ (u : Visit). u.sent) x ∙ y.1))
      (kept_call (w.mail k) m z)
  short_moved {w = w} {a} {k} {c} {p} {v} {m} l source h was now (Move.Closes home one closed e x i z fits) =
      short_even d w l h a k source v m p c
      (where_even (w.visit a) (told_visit (round_told w.passage.round) (w.visit a)) v x (told_even (round_told w.passage.round) (w.visit a)))
      (kept_call (w.mail k) m z)
  short_moved {w = w} {a} {k} {c} {p} {v} {m} l source h was now (Move.Aborts runs e x i z) =
      short_even d w l h a k source v m p c
      (where_even (w.visit a) (quieted (w.visit a) c false (w.visit a).dead) v x (λ there. (there, refl, refl)))
      (kept_call (w.mail k) m z)
  short_moved {w = w} {a} {k} {c} {p} {v} {m} l source h was now (Move.Receives call body at e x early i z) =
      short_received d w l h a k source v m p c call body at
      (λ gone there. made_at_unseen {step = Step.Recover 0} {p = p} l h (Move.Receives call body at e x early i z) gone there)
      x
      (z.none d)
  short_moved {w = w} {a} {k} {c} {p} {v} {m} l source h was now (Move.Answers n asked body e there live below x i silent back uncalled) =
      short_even d w l h a k source v m p c
      (λ s. let y = asked_even asked n c (w.visit a) in (there, ap (λ (u : Visit). u.received) x ∙ y.0, ap (λ (u : Visit). u.sent) x ∙ y.1))
      (no_call (w.mail k) m (uncalled d))
  short_moved {w = w} {a} {k} {c} {p} {v} {m} l source h was now (Move.Hears n told body e there x i z) =
      short_even d w l h a k source v m p c
      (λ s. rw x (told_even told (w.visit a) (ap (λ (u : Visit). u.there) (sym x) ∙ s)))
      (lost_call (w.mail k) m z)
  short_moved {w = w} {a} {k} {c} {p} {v} {m} l source h was now (Move.Keeps n r q body number at e x i stamp z) =
      short_even d w l h a k source v m p c (same_even (w.visit a) v x) (lost_call (w.mail k) m z)

  short_turned :
      {w : View} {a : ℕ} {p : Passage} {v : Visit} {trip : Trip} (l : Ledger) (source k : ℕ) → Holds w l → Turn w a p v trip → Short d w l
      → Short d (left_view w a k p v (w.clock a) (w.mail k)) (ledger_noted l a source v)
  short_turned {w = w} {a} {p} {v} l source k h (Turn.Stays trip e x) =
      short_even d w l h a k source v (w.mail k) p (w.clock a) (same_even (w.visit a) v x) (omega arith)
  short_turned {w = w} {a} {p} {v} l source k h (Turn.Sweeps site aborts active e was unprepared x) =
      short_even d w l h a k source v (w.mail k) p (w.clock a) (λ s. absurd (false≢true (ap (λ (u : Visit). u.there) (sym x) ∙ s))) (omega arith)
  short_turned {w = w} {a} {p} {v} l source k h (Turn.Crashes site aborts hits runs e unhit x) =
      short_even d w l h a k source v (w.mail k) p (w.clock a)
      (where_even (w.visit a) (cond hits (quieted (w.visit a) (w.clock a) false true) (w.visit a)) v x
      (cond_keeps
      (λ (u : Visit). u.there ≡ true → ((w.visit a).there ≡ true) × (u.received ≡ (w.visit a).received) × (u.sent ≡ (w.visit a).sent))
      hits
      (quieted (w.visit a) (w.clock a) false true)
      (w.visit a)
      (λ there. (there, refl, refl))
      (λ there. (there, refl, refl))))
      (omega arith)

  -- the slot is in use, and of the calls that were sent to d one is lost
  pub record LostTo (w : View) (l : Ledger) : Type 0 where
    pub used : is_free w.passage.status ≡ false
    pub short : Short d w l

  pub lost_carries : Carries LostTo NoWay
  lost_carries =
      record {
        moved = λ l source h o x move u. record { used = u; short = short_moved l source h x.used u move x.short };
        turned = λ trip l source k at h o x way turn. record { used = used_turned turn x.used; short = short_turned l source k h turn x.short };
        used = λ h x. x.used;
        sets_out = λ t step p l z a x. tt;
        goes_on = λ trip w u later way. tt;
      }
