-- 2. The reads of a check: each call, its delivery and that of its reply keep what holds between two steps, and add one width that is held.
-- The idea: while a call or its reply is in flight home's clock and the message's stamp are before a quiesce time, so the reply comes at it at the latest.
-- Assumes nothing.
use Prim.Native.Nat.{ℕ, zero, suc, ◌≤◌, ◌<◌}
use Rattle.std.proofs.Common.{arith, ap, ◌∙◌, eqb-true}
use Rattle.std.specs.Prelude.{◌≡◌, refl, true, false, List, eqb}
use Rattle.std.proofs.Math.Path.{sym}
use Rattle.std.proofs.Math.Logic.{⊎_elim}
use Rattle.std.proofs.lemmas.Bool.{eqb-false}
use Rattle.rules.specs.declared.tables.Visit.{Visit}
use Rattle.rules.specs.declared.tables.Call.{Call}
use Rattle.rules.specs.declared.tables.Body.{Body}
use Rattle.rules.specs.declared.tables.Message.{Message}
use Rattle.rules.specs.declared.tables.Object.{Object}
use Rattle.rules.specs.declared.tables.Tables.{Tables}
use Rattle.rules.specs.declared.steps.Step.{Step}
use Rattle.rules.specs.Limits.{time_most, width_most}
use Rattle.rules.specs.LoopsLaws.{either, cond_keeps, below_or_last}
use Rattle.rules.specs.Tables.{site_at, object_at, passage_at, visit_at, message_at, object_site, slot_of}
use Rattle.rules.specs.Answers.{is_accepted}
use Rattle.rules.specs.Parts.{next_clock, delivery_clock, is_held_by, is_held_by_other, taken, operated}
use Rattle.rules.proofs.PartsLaws.{value_of_read, holder_of_called}
use Rattle.rules.specs.Calls.{called_visit}
use Rattle.rules.specs.Machine.{step_of}
use Rattle.rules.proofs.RangesFits.{CallFits, call_range_says}
use Rattle.rules.proofs.EffectsLaws.{OnlyObject}
use Rattle.rules.proofs.EffectsPlaces.{message_fits}
use Rattle.rules.proofs.EffectsCalls.{Invoked, invoke_effects, CallDelivered, call_delivered_effects, ReplyDelivered, reply_delivered_effects}
use Rattle.clearing.specs.declared.way.Way.{Way}
use Rattle.clearing.specs.Question.{listed}
use Rattle.clearing.specs.Clearing.{made, read_one, reads_up_to}
use Rattle.clearing.specs.Underway.{Course, clock_here, clock_has, quiesce_most, width_most_lem, Runs, HoldsRead, Between, InFlight, Going, width_read, going_as, goes_there_and_back, stops_between, stops_in_flight, runs_on, near_on, read_on, others_on, emptied_on, was_empty}

module _ (course : Course) where
  abbrev h : ℕ
  h = course.handle

  abbrev home : ℕ
  home = course.home

  abbrev objects : List ℕ
  objects = course.objects

  -- ---- 2. a read

  -- the message is the call that reads this object
  record Calls (k : ℕ) (x : Message) : Type 0 where
    pub call : Call
    pub body : x.body ≡ Body.Call call
    pub object : call.object ≡ k
    pub reads : call.write ≡ false
    pub source : x.source ≡ home
    pub destination : x.destination ≡ object_site k
    pub handle : x.handle ≡ h

  -- with the call in flight in slot m: home's clock is before a quiesce time
  record CallWaits (n k m : ℕ) (t : Tables) : Type 0 where
    pub flight : InFlight course t m n time_most (Calls k)
    pub early : (site_at t home).clock < time_most

  -- the message is the reply that comes home with this width
  record Replies (w : ℕ) (x : Message) : Type 0 where
    pub body : x.body ≡ Body.Reply w
    pub destination : x.destination ≡ home
    pub handle : x.handle ≡ h
    pub stamp : x.stamp < time_most

  -- the object is held, and its width is w
  record HasWidth (k w : ℕ) (t : Tables) : Type 0 where
    pub holds : is_held_by (slot_of h) (object_at t k) ≡ true
    pub value : (object_at t k).value ≡ w
    pub fits : w ≤ width_most
    pub near : (site_at t (object_site k)).clock ≤ time_most

  -- with the reply in flight
  record ReplyWaits (n k m : ℕ) (t : Tables) : Type 0 where
    pub found : ℕ
    pub flight : InFlight course t m n time_most (Replies found)
    pub early : (site_at t home).clock < time_most
    pub read : HasWidth k found t

  -- after the read of object k, that of place n: it is held, and its width is the value
  record ReadMade (n k : ℕ) (t : Tables) (v : ℕ) : Type 0 where
    pub between : Between course t n time_most
    pub read : HasWidth k v t

  call_made :
      (t : Tables) (n k : ℕ) → home < 8 → Between course t n time_most
      → Going course (λ (u : Tables) (m : ℕ). (m < 32) × CallWaits n k m u) (made t (Step.Invoke h home 0 k 0))
  call_made t n k below b =
      record {
        goes = λ v e.
            let r : Runs course t time_most = b.running in
            let i : Invoked t (step_of t (Step.Invoke h home 0 k 0)).tables h (slot_of h) home 0 k 0 v = invoke_effects t h home 0 k 0 v r.sized e in
            let q : (visit_at t home (slot_of h)).quiesce ≤ time_most = quiesce_most t home (slot_of h) r.ranged below (omega arith) in
            let y : next_clock (site_at t home) < (visit_at t home (slot_of h)).quiesce = i.early in
            let l : next_clock (site_at t home) ≤ time_most = omega arith in (
              i.message.below,
              record {
                flight = record {
                  running =
                      runs_on course t (Step.Invoke h home 0 k 0) time_most time_most home _ (passage_at t (slot_of h)) r (ap is_accepted e) i.clock l
                      (omega arith)
                      (rw i.passages) r.runs refl refl r.asks;
                  read = read_on course i.objects b.read;
                  near = near_on course n time_most time_most home _ b.near i.clock l (omega arith);
                  below = i.message.below;
                  full = rw i.message.message.here;
                  says =
                      rw i.message.message.here
                      (record { call = _; body = refl; object = refl; reads = refl; source = refl; destination = refl; handle = refl });
                  was = was_empty course t v (b.mail v) i.message.empty;
                  mail = others_on course t (step_of t (Step.Invoke h home 0 k 0)).tables i.message.message (λ j _. b.mail j);
                };
                early = rw (clock_here i.clock) (omega arith);
              },
            );
        stops = λ r e. stops_between course t n time_most (Step.Invoke h home 0 k 0) r b (omega arith) refl e;
      }

  read_delivered :
      (t : Tables) (m n k : ℕ) → CallWaits n k m t → Going course (λ (u : Tables) (v : ℕ). ReplyWaits n k m u) (made t (Step.Deliver m))
  read_delivered t m n k waits =
      record {
        goes = λ v e.
            let f : InFlight course t m n time_most (Calls k) = waits.flight in
            let t' : Tables = (step_of t (Step.Deliver m)).tables in
            let r : Runs course t time_most = f.running in
            let says : Calls k (message_at t m) = f.says in
            let c : Call = says.call in
            let d : CallDelivered t t' m (message_at t m) (object_site k) (slot_of h) c v =
            rw (says.destination, says.handle) at (call_delivered_effects t m v c r.sized says.body e) in
            let fits : CallFits c = call_range_says c (rw says.body at (message_fits t m r.ranged f.below).body) in
            let o : c.object < 32 = d.object_below in
            let z : k ≡ c.object = sym says.object in
            let q : (called_visit c (visit_at t (object_site k) (slot_of h))).quiesce ≤ time_most =
            cond_keeps (λ (u : Visit). u.quiesce ≤ time_most) (visit_at t (object_site k) (slot_of h)).there _ _
            (quiesce_most t (object_site k) (slot_of h) r.ranged (omega arith) (omega arith))
            fits.quiesce in
            let y : delivery_clock (site_at t (object_site k)) (message_at t m) < (called_visit c (visit_at t (object_site k) (slot_of h))).quiesce = d.early in
            let i : delivery_clock (site_at t (object_site k)) (message_at t m) < time_most = omega arith in
            let l : delivery_clock (site_at t (object_site k)) (message_at t m) ≤ time_most = omega arith in
            let only : OnlyObject t t' k (operated c (taken (slot_of h) (object_at t k))) = rw says.object at d.object in
            let unheld : is_held_by_other (slot_of h) (object_at t k) ≡ false = rw says.object at d.unheld in
            record {
              found = (object_at t c.object).value;
              flight =
                  record {
                    running =
                        runs_on course t (Step.Deliver m) time_most time_most (object_site k) _ (passage_at t (slot_of h)) r (ap is_accepted e) d.clock l (omega arith)
                        (rw d.passages) r.runs refl refl r.asks;
                    read = read_again n k c only unheld says.reads f.read;
                    near = near_on course n time_most time_most (object_site k) _ f.near d.clock l (omega arith);
                    below = f.below;
                    full = rw d.reply.here;
                    says = rw d.reply.here (record { body = refl; destination = says.source; handle = says.handle; stamp = i });
                    was = f.was;
                    mail = others_on course t t' d.reply f.mail;
                  };
              early = clock_has d.clock (λ (x : ℕ). x < time_most) home i waits.early;
              read =
                  record {
                    holds = rw only.here (holder_of_called (slot_of h) (object_at t k) c unheld);
                    value = rw only.here (value_of_read (slot_of h) (object_at t k) c says.reads ∙ ap (λ (j : ℕ). (object_at t j).value) z);
                    fits = width_most_lem t c.object r.ranged o;
                    near = rw (clock_here d.clock) l;
                  };
            };
        stops = λ r e. stops_in_flight course t m n time_most r waits.flight (omega arith) e;
      }
    where
      -- what was read before stays so, if this object was among it too
      read_again :
          {t t' : Tables} (n k : ℕ) (c : Call) → OnlyObject t t' k (operated c (taken (slot_of h) (object_at t k)))
          → is_held_by_other (slot_of h) (object_at t k) ≡ false
          → c.write ≡ false
          → HoldsRead course t n
          → HoldsRead course t' n
      read_again {t} {t'} n k c only unheld reads r =
          record {
            holds = λ i l.
                ⊎_elim
                (λ y.
                let q : listed objects i ≡ k = eqb-true _ _ y in
                rw (q, only.here) (holder_of_called (slot_of h) (object_at t k) c unheld))
                (λ y. rw (only.others _ (eqb-false _ _ y)) (r.holds i l))
                (either (eqb (listed objects i) k));
            value = λ i l.
                ⊎_elim
                (λ y.
                let q : listed objects i ≡ k = eqb-true _ _ y in
                ap (λ (j : ℕ). (object_at t' j).value) q
                ∙ ap (λ (o : Object). o.value) only.here
                ∙ value_of_read (slot_of h) (object_at t k) c reads
                ∙ ap (λ (j : ℕ). (object_at t j).value) (sym q)
                ∙ r.value i l)
                (λ y. rw (only.others _ (eqb-false _ _ y)) (r.value i l))
                (either (eqb (listed objects i) k));
          }

  reply_delivered :
      (t : Tables) (m n k : ℕ) → ReplyWaits n k m t → Going course (ReadMade n k) (made t (Step.Deliver m))
  reply_delivered t m n k waits =
      record {
        goes = λ v e.
            let f : InFlight course t m n time_most (Replies waits.found) = waits.flight in
            let t' : Tables = (step_of t (Step.Deliver m)).tables in
            let r : Runs course t time_most = f.running in
            let says : Replies waits.found (message_at t m) = f.says in
            let d : ReplyDelivered t t' m (message_at t m) home waits.found v =
            rw says.destination at (reply_delivered_effects t m v waits.found r.sized says.body e) in
            let stamp : (message_at t m).stamp < time_most = says.stamp in
            let early : (site_at t home).clock < time_most = waits.early in
            let l : delivery_clock (site_at t home) (message_at t m) ≤ time_most = omega arith in
            let read : HasWidth k waits.found t = waits.read in
            record {
              between =
                  record {
                    running =
                        runs_on course t (Step.Deliver m) time_most time_most home _ (passage_at t (slot_of h)) r (ap is_accepted e) d.clock l (omega arith)
                        (rw d.passages) r.runs refl refl r.asks;
                    read = read_on course d.objects f.read;
                    near = near_on course n time_most time_most home _ f.near d.clock l (omega arith);
                    mail = emptied_on course t t' d.message f.was f.mail;
                  };
              read =
                  record {
                    holds = rw d.objects read.holds;
                    value = rw d.objects read.value ∙ sym d.value;
                    fits = rw d.value read.fits;
                    near = clock_has d.clock (λ (x : ℕ). x ≤ time_most) (object_site k) l read.near;
                  };
            };
        stops = λ r e. stops_in_flight course t m n time_most r waits.flight (omega arith) e;
      }

  pub reads_go :
      home < 8 → Going course (λ (t : Tables) (v : ℕ). Between course t 0 time_most) course.begun → (n : ℕ)
      → Going course (λ (t : Tables) (v : ℕ). Between course t n time_most) (reads_up_to h home objects course.begun n)
  unfolding reads_up_to read_one
  reads_go below begun zero = begun
  reads_go below begun (suc n) =
      let w : Way = reads_up_to h home objects course.begun n in
      let k : ℕ = listed objects n in
      going_as course _
      (goes_there_and_back course w (Step.Invoke h home 0 k 0) (reads_go below begun n)
      (λ v b. call_made w.tables n k below b)
      (λ t m waits. read_delivered t m n k waits)
      (λ t m waits. reply_delivered t m n k waits))
      (λ v e done.
      let l : v ≤ width_most = done.read.fits in
      let width : width_read course n ≡ v = rw e (omega arith) in
      record {
        running = done.between.running;
        read =
            record {
              holds = λ i l. ⊎_elim (λ y. done.between.read.holds i y) (λ y. rw y done.read.holds) (below_or_last i n l);
              value = λ i l. ⊎_elim (λ y. done.between.read.value i y) (λ y. rw y (done.read.value ∙ sym width)) (below_or_last i n l);
            };
        near = λ i l. ⊎_elim (λ y. done.between.near i y) (λ y. rw y done.read.near) (below_or_last i n l);
        mail = done.between.mail;
      })
