-- The invariant passes over the steps of calls: a call is invoked, is delivered at a visit, or makes one. Assumes nothing.
-- Each law is said at the clock as the step has moved it: moving a clock alone is the frame law.
use Rattle.std.specs.Prelude.{ℕ, ◌+◌, ◌<◌, ◌≤◌, ◌≡◌, refl, ◌≢◌, true, false, length}
use Rattle.std.proofs.Common.{arith, sym, ap, ◌∙◌, subst, ⊎_elim, true≢false, eq-eqb}
use Rattle.rules.specs.LoopsLaws.{either}
use Rattle.rules.specs.Tables.{no_message}
use Rattle.rules.specs.Parts.{is_empty, new_visit, count_sent, count_received, plain_message}
use Rattle.runs.specs.Types.{Figures, Status, Visit, Call, Body, Message}
use Rattle.runs.specs.Walk.Says.{body_kind}
use Rattle.runs.specs.Walk.Put.{put, put_same, put_other, put_all}
use Rattle.runs.specs.Times.View.{View, Past, Ledger, relast, first_seen}
use Rattle.runs.specs.Times.Clauses.{call_to, Below, Quiet, InAnswer, EdgeFine, SiteFine, CallFine, received_by, sent_by, Holds}
use Rattle.runs.proofs.Times.ClausesLaws.{call_says, empty_clause, call_clause}
use Rattle.runs.proofs.Kept.Shrunk.{around}
use Rattle.runs.proofs.Kept.Touched.{figure_fine, one_call_more, Later, later_sent, later_received, touched_view, Touch, touched_below, touched_figure, edge_touched, touched}

-- ---- a visit that stands before its Q

module _ (w : View) (l : Ledger) (h : Holds w l) (a : ℕ)
    (there : (w.visit a).there ≡ true) (early : w.clock a < (w.visit a).quiesce) where
  early_seen : (l a).seen ≡ true
  early_seen = (h.mirror a there).0

  early_last : w.clock a < (l a).last.quiesce
  early_last = rw (h.mirror a there).1 early

  -- its passage is not quiet, and under a binding kind it has not answered
  early_touch :
      (v : Visit) (k : ℕ) (x : Message) → v.there ≡ true → Later (l a) (relast (l a) v)
      → ((n s : ℕ) (f : Figures) → InAnswer n s f x x.body → ⊥)
      → ((c : Call) → x.body ≡ Body.Call c → (q : ℕ) → Below w l q → q ≤ c.release)
      → Touch w l a v (relast (l a) v) k x
  early_touch v k x stands e silent calls =
      record {
        holds = h;
        busy = λ q. let z : (l a).last.quiesce ≤ w.clock a = q.quiesced a early_seen in omega (arith, early_last);
        used = λ z. true≢false (sym there ∙ (h.free z).visits a);
        later = λ _. e;
        settled =
            λ _ b r.
            let z : (l a).last.quiesce ≤ w.clock a = (h.sites a early_seen).bound b r in omega (arith, early_last);
        there = stands;
        mirror = (refl, refl);
        release = λ q b. rw e.release (b.visits a early_seen);
        silent = silent;
        calls = calls;
      }

-- ---- invoke: a visit before its Q sends a call with its own Q, R and round

module _ (w : View) (l : Ledger) (h : Holds w l) (s k d handle stamp : ℕ) (c : Call)
    (there : (w.visit s).there ≡ true) (early : w.clock s < (w.visit s).quiesce)
    (empty : (w.mail k).body ≡ Body.Empty) (kin : k < 32) (din : d < 8)
    (quiesce : c.quiesce ≡ (w.visit s).quiesce) (release : c.release ≡ (w.visit s).release)
    (round : c.round ≡ (w.visit s).round) where
  abbrev new_call : Message
  new_call = plain_message (Body.Call c) s d handle stamp

  abbrev counted : Visit
  counted = count_sent (w.visit s) d

  abbrev invoked_view : View
  invoked_view = touched_view w s counted k new_call

  abbrev invoked_ledger : Ledger
  invoked_ledger = put l s (relast (l s) counted)

  sender_seen : (l s).seen ≡ true
  sender_seen = (h.mirror s there).0

  sender_last : (l s).last ≡ w.visit s
  sender_last = (h.mirror s there).1

  sender : SiteFine w l s
  sender = h.sites s sender_seen

  sender_counts : d < length (l s).last.sent
  sender_counts = rw sender.counts din

  same_quiesce : c.quiesce ≡ (l s).last.quiesce
  same_quiesce = rw (sender_last, quiesce)

  same_release : c.release ≡ (l s).last.release
  same_release = rw (sender_last, release)

  same_round : c.round ≡ (l s).last.round
  same_round = rw (sender_last, round)

  invoked_touch : Touch w l s counted (relast (l s) counted) k new_call
  invoked_touch =
      early_touch w l h s there early counted k new_call there
      (rw (← sender_last) (later_sent (l s) d sender_counts))
      (λ n v f z. omega (arith, ap body_kind z.body))
      (λ i e q b. let j : i.release ≡ (l s).last.release = cc same_release in rw j (b.visits s sender_seen))

  -- the caller has now sent to d; its figures, if it has any, are of its own round
  invoked_edge : EdgeFine invoked_view invoked_ledger s d c.round
  invoked_edge =
      record {
        seen = rw put_same;
        born = rw (put_same, same_round) sender.born;
        sent = rw (put_same, ← sender_last, one_call_more (l s).last.sent d d sender_counts, eq-eqb d d refl) (omega arith);
        figures =
            λ r j f z.
            let g : (l s).last.round ≡ w.passage.round.number =
            (figure_fine w l h s f (touched_figure invoked_touch s f z)).answered in
            absurd (omega (arith, same_round));
      }

  invoked_call : CallFine invoked_view invoked_ledger new_call c
  invoked_call =
      record {
        number = rw same_round sender.number;
        edge = invoked_edge;
        times =
            subst
            (λ (q : ℕ). Below invoked_view invoked_ledger q)
            (sym same_quiesce)
            (touched_below invoked_touch (l s).last.quiesce sender.times);
        refresh_one = λ q r e u n. rw same_release (sender.refresh_one q r e (sym same_round ∙ n));
        bound = λ b n. invoked_touch.settled sender_seen b (sym same_round ∙ n);
      }

  -- one more call in flight to d, one more sent to d
  invoked_fair :
      (e : ℕ)
      → received_by (invoked_ledger e) + call_to e new_call + sent_by e (l s)
      ≤ received_by (l e) + call_to e (w.mail k) + sent_by e (relast (l s) counted)
  invoked_fair e =
      let r : received_by (invoked_ledger e) ≡ received_by (l e) =
      put_all l s (relast (l s) counted) (λ i z. received_by z ≡ received_by (l i)) (rw (sender_seen, sender_last)) (λ i n. refl) e in
      rw (r, sender_seen, empty, ← sender_last, one_call_more (l s).last.sent d e sender_counts) (omega arith)

  pub holds_after_invoked :
      Holds
      (around w (put w.visit s (count_sent (w.visit s) d)) w.clock (put w.mail k (plain_message (Body.Call c) s d handle stamp)))
      (put l s (relast (l s) (count_sent (w.visit s) d)))
  holds_after_invoked =
      touched invoked_touch
      (λ u. absurd (true≢false (sym sender_seen ∙ u)))
      (call_clause invoked_call)
      (λ _. (kin, sender.place, din))
      kin
      sender.place
      invoked_fair

-- ---- deliver: a call leaves its slot

module _ (w : View) (l : Ledger) (h : Holds w l) (k a : ℕ) (c : Call)
    (body : (w.mail k).body ≡ Body.Call c) (at : a ≡ (w.mail k).destination) where
  call_fine : CallFine w l (w.mail k) c
  call_fine = call_says w l h k c body

  call_posted : (k < 32) × ((w.mail k).source < 8) × ((w.mail k).destination < 8)
  call_posted = h.posted k (rw body)

  call_place : a < 8
  call_place = rw at call_posted.2

  call_busy : Quiet w l → ⊥
  call_busy q = (q.mail k).call c body

  call_used : w.passage.status ≢ Status.Free
  call_used e = true≢false (ap is_empty (sym ((h.free e).mail k) ∙ body))

  -- one fewer in flight to a, one more received there
  call_landed :
      (y : Past) → received_by y ≡ received_by (l a) + 1
      → (d : ℕ) → received_by (put l a y d) ≤ received_by (l d) + call_to d (w.mail k)
  call_landed y e =
      put_all l a y
      (λ d z. received_by z ≤ received_by (l d) + call_to d (w.mail k))
      (rw (body, ← at, eq-eqb a a refl, e) (omega arith))
      (λ d n. omega arith)

  -- ---- at a visit that stands: its own Q, R and round stay

  module _ (there : (w.visit a).there ≡ true) (early : w.clock a < (w.visit a).quiesce) where
    abbrev received : Visit
    received = count_received (w.visit a)

    callee_seen : (l a).seen ≡ true
    callee_seen = (h.mirror a there).0

    callee_last : (l a).last ≡ w.visit a
    callee_last = (h.mirror a there).1

    received_touch : Touch w l a received (relast (l a) received) k no_message
    received_touch =
        early_touch w l h a there early received k no_message there
        (rw (← callee_last) (later_received (l a)))
        (λ n v f z. omega (arith, ap body_kind z.body))
        (λ i e. absurd (true≢false (ap is_empty e)))

    received_fair :
        (d : ℕ)
        → received_by (put l a (relast (l a) received) d) + call_to d no_message + sent_by d (l a)
        ≤ received_by (l d) + call_to d (w.mail k) + sent_by d (relast (l a) received)
    received_fair d =
        let e : sent_by d (relast (l a) received) ≡ sent_by d (l a) = rw (callee_seen, callee_last) in
        let r : received_by (put l a (relast (l a) received) d) ≤ received_by (l d) + call_to d (w.mail k) =
        call_landed (relast (l a) received) (rw (callee_seen, callee_last)) d in
        omega arith

    pub holds_after_received :
        Holds
        (around w (put w.visit a (count_received (w.visit a))) w.clock (put w.mail k no_message))
        (put l a (relast (l a) (count_received (w.visit a))))
    holds_after_received =
        touched received_touch
        (λ u. absurd (true≢false (sym callee_seen ∙ u)))
        empty_clause
        (λ e. absurd (true≢false e))
        call_posted.0
        call_place
        received_fair

  -- ---- at a site without a visit: one is made from the call's Q, R and round

  module _ (missing : (w.visit a).there ≡ false) (early : w.clock a < c.quiesce) where
    -- no visit of a passage is made twice at a site: one that went did so at its R, which is past every Q
    pub never_twice : (l a).seen ≡ false
    never_twice =
        ⊎_elim
        (λ e.
        let q : c.quiesce ≤ (l a).last.release = call_fine.times.visits a e in
        ⊎_elim
        (λ (r : (l a).last.release ≤ w.clock a). absurd (omega arith))
        (λ z. absurd (call_busy z))
        ((h.sites a e).gone missing))
        (λ e. e)
        (either (l a).seen)

    abbrev made : Visit
    made = count_received (new_visit c.quiesce c.release c.round)

    abbrev caller : ℕ
    caller = (w.mail k).source

    abbrev made_past : Past
    made_past = first_seen l caller made

    made_touch : Touch w l a made made_past k no_message
    made_touch =
        record {
          holds = h;
          busy = call_busy;
          used = call_used;
          later = λ e. absurd (true≢false (sym e ∙ never_twice));
          settled = λ e. absurd (true≢false (sym e ∙ never_twice));
          there = refl;
          mirror = (refl, refl);
          release = λ q b. b.calls k c body (rw (← at) never_twice);
          silent = λ n v f z. omega (arith, ap body_kind z.body);
          calls = λ i e. absurd (true≢false (ap is_empty e));
        }

    -- the caller is another site: it was seen
    caller_same : put l a made_past caller ≡ l caller
    caller_same =
        put_other l a made_past caller
        (λ e. true≢false (sym call_fine.edge.seen ∙ ap (λ (s : ℕ). (l s).seen) e ∙ never_twice))

    made_same : put l a made_past a ≡ made_past
    made_same = put_same l a made_past

    -- the call's edge is the visit's
    made_edge : EdgeFine (touched_view w a made k no_message) (put l a made_past) caller a c.round
    made_edge =
        edge_touched made_touch caller a c.round
        (subst (λ (d : ℕ). EdgeFine w l caller d c.round) (sym at) call_fine.edge)

    made_site : SiteFine (touched_view w a made k no_message) (put l a made_past) a
    made_site =
        let f : CallFine w l (w.mail k) c = call_fine in
        record {
          place = call_place;
          counts = rw made_same;
          number = rw made_same f.number;
          born = rw made_same (omega arith);
          tree = λ n. rw (made_same, caller_same) (omega arith);
          edge = λ n. rw made_same made_edge;
          times =
              rw made_same (touched_below made_touch c.quiesce f.times);
          refresh_one =
              λ q r e n. rw made_same (f.refresh_one q r e (rw (← at) never_twice) (rw made_same at n));
          bound = λ b n. absurd (f.bound b (rw made_same at n));
          gone = λ e. absurd (true≢false (rw (put_same w.visit a made) at e));
          largest = λ e n. absurd (call_busy (h.passage.closed_quiet e (rw n)));
        }

    made_fair :
        (d : ℕ)
        → received_by (put l a made_past d) + call_to d no_message + sent_by d (l a)
        ≤ received_by (l d) + call_to d (w.mail k) + sent_by d made_past
    made_fair d =
        let e : sent_by d (l a) ≡ 0 = rw never_twice in
        let r : received_by (put l a made_past d) ≤ received_by (l d) + call_to d (w.mail k) =
        call_landed made_past (rw never_twice) d in
        omega arith

    pub holds_after_made :
        Holds
        (around
        w
        (put w.visit a (count_received (new_visit c.quiesce c.release c.round)))
        w.clock
        (put w.mail k no_message))
        (put
        l
        a
        (first_seen l (w.mail k).source (count_received (new_visit c.quiesce c.release c.round))))
    holds_after_made =
        touched made_touch (λ u. made_site) empty_clause (λ e. absurd (true≢false e)) call_posted.0 call_place made_fair
