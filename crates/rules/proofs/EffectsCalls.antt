-- What an accepted invoke, the delivery of its call, that of the call's reply and a drop needed and left. Assumes nothing.
use Rattle.std.specs.Prelude.{ℕ, ◌%◌, ◌≤◌, ◌<◌, ◌≡◌, true, false, List, get_or, ltb, Ok}
use Rattle.std.proofs.Common.{arith, ap, ◌∙◌, leb-false, ltb-false, le-ltb}
use Rattle.std.proofs.Math.Path.{refl}
use Rattle.rules.specs.Types.{Visit, Call, Body, Message, Tables, Step, Check, MailAt, Places, Seen}
use Rattle.rules.specs.Limits.{width_most, count_most, message_most}
use Rattle.rules.specs.LoopsLaws.{not_false}
use Rattle.rules.specs.Tables.{site_at, object_at, passage_at, visit_at, message_at, bank_at, object_site, slot_of, past_object, no_message}
use Rattle.rules.specs.Ranges.{in_range}
use Rattle.rules.specs.Answers.{is_accepted, first_refusal, settle_of}
use Rattle.rules.specs.Parts.{next_clock, delivery_clock, count_sent, count_received, is_held_by_other, is_empty, taken, operated, plain_message}
use Rattle.rules.specs.Checks.{bad_message}
use Rattle.rules.specs.Calls.{call_site, invoke_checks, call_of, invoked, invoke_of, mail_clock, called_visit, call_checks, called, deliver_call_of, reply_checks, collected, deliver_reply_of, deliver_body_of, drop_checks, lost, drop_of}
use Rattle.rules.specs.Machine.{look_of, body_bank, places_of, seen_of, decide_of, step_of}
use Rattle.rules.specs.StoredLaws.{Sized}
use Rattle.rules.proofs.StoredObjects.{seen_object}
use Rattle.rules.proofs.RangesLaws.{neither}
use Rattle.rules.proofs.FineLaws.{CallFields, call_fields}
use Rattle.rules.proofs.RangesFits.{CallFits, call_range_says, MessageFits}
use Rattle.rules.proofs.SettledLaws.{delivered_named}
use Rattle.rules.proofs.EffectsLaws.{OnlyVisit, OnlyMessage, OnlyObject, ClockMoves, accepted_in_range, answered_at_lem, accepted_decided, Done, done_at, only_visit, only_message, only_object, sites_stay, passages_stay, visits_stay, objects_stay, clock_moves}
use Rattle.rules.proofs.EffectsPlaces.{message_fits, given_places, mail_places, InUse, in_use, NewMessage, new_message_lem}

-- ---- 3. invoke: a call goes out from the visit at this site, for an object, to read it or to write this width

pub record Invoked (t t' : Tables) (h slot site write object width v : ℕ) : Type 0 where
  pub names : InUse h (passage_at t slot)
  pub kind : write ≤ 1
  pub below : object < 32
  pub fits : width ≤ width_most
  -- a read carries no width
  pub plain : write ≡ 0 → width ≡ 0
  pub there : (visit_at t site slot).there ≡ true
  pub early : next_clock (site_at t site) < (visit_at t site slot).quiesce
  pub alive : (visit_at t site slot).dead ≡ false
  pub room : get_or (visit_at t site slot).sent (object_site object) 0 < count_most
  pub clock : ClockMoves t t' site (next_clock (site_at t site))
  pub visit : OnlyVisit t t' site slot (count_sent (visit_at t site slot) (object_site object))
  -- the value is the message's slot
  pub message :
      NewMessage t t' v
      (plain_message (Body.Call (call_of write object width (visit_at t site slot))) site (object_site object) h (next_clock (site_at t site)))
  pub passages : t'.passages ≡ t.passages
  pub objects : t'.objects ≡ t.objects

module _ (t : Tables) (h site write object width v : ℕ) (z : Sized t)
    (a : (step_of t (Step.Invoke h site write object width)).answer ≡ Ok v) where
  invoke_done_lem :
      (at : Places) → places_of t (look_of (Step.Invoke h site write object width)) ≡ at
      → Done t (step_of t (Step.Invoke h site write object width)).tables v at (invoke_checks h site write object width (seen_of t at)) at.message
      (invoked h site (call_of write object width (visit_at t at.site at.slot)) (next_clock (site_at t at.site)) (seen_of t at))
  unfolding decide_of invoke_of
  invoke_done_lem at p =
      done_at t (Step.Invoke h site write object width) v at (invoke_checks h site write object width) (λ seen. at.message)
      (λ seen. invoked h site (call_of write object width seen.visit) (next_clock seen.site) seen) refl z a p refl

  pub invoke_effects : Invoked t (step_of t (Step.Invoke h site write object width)).tables h (slot_of h) site write object width v
  invoke_effects =
      let g : CallFields h site write object width = call_fields h site write object width (invoke_done_lem _ refl).fine.fields in
      let below : object < 32 = omega arith in
      let c : object_site object % 8 ≡ object_site object = omega arith in
      let d = invoke_done_lem _ (given_places t MailAt.Empty h site (omega arith)) in
      let u : Visit = visit_at t site (slot_of h) in
      neither d.fine.early λ q n.
      record {
        names = in_use h _ g.named d.fine.found;
        kind = g.kind;
        below = below;
        fits = g.fits;
        plain = g.plain;
        there = not_false _ d.fine.there;
        early = leb-false _ _ q;
        alive = n;
        room = rw c at (leb-false count_most (get_or u.sent (call_site object) 0) d.fine.calls_left);
        clock = clock_moves d _ refl d.fine.up d.fine.clock;
        visit = rw c at (only_visit d);
        message = rw c at (new_message_lem d refl d.value d.fine.room);
        passages = passages_stay d refl;
        objects = objects_stay d refl;
      }

-- ---- 11. deliver

pub deliver_below : (t : Tables) (m v : ℕ) → (step_of t (Step.Deliver m)).answer ≡ Ok v → m < 32
unfolding decide_of
deliver_below t m v a =
    let e : bad_message m ≡ false = delivered_named _ m _ (ap is_accepted (accepted_decided t (Step.Deliver m) v refl a)) in
    omega (arith, ltb-false)

-- where a message x with this body is delivered
abbrev pub deliver_places : Message → Body → ℕ → Places
deliver_places x b m =
    record {
      site = x.destination;
      slot = slot_of x.handle;
      bank = body_bank b x.destination;
      message = m;
    }

-- an accepted delivery, by what its body decides
pub deliver_done :
    (t : Tables) (m v : ℕ) (b : Body) (checks : Seen → List Check) (result : Seen → ℕ) (left : Seen → Seen) → Sized t
    → (step_of t (Step.Deliver m)).answer ≡ Ok v
    → (message_at t m).body ≡ b
    → ((seen : Seen)
    → deliver_body_of b m seen ≡ settle_of (record { answer = first_refusal (checks seen) (result seen); left = left seen }) seen)
    → let seen : Seen = seen_of t (deliver_places (message_at t m) b m) in
    Done t (step_of t (Step.Deliver m)).tables v (deliver_places (message_at t m) b m) (checks seen) (result seen) (left seen)
unfolding decide_of
deliver_done t m v b checks result left z a e decides =
    let r : in_range t ≡ true = accepted_in_range t (Step.Deliver m) (ap is_accepted a) in
    let p : places_of t (look_of (Step.Deliver m)) ≡ deliver_places (message_at t m) b m =
    mail_places t m r (deliver_below t m v a) ∙ ap (λ (x : Body). deliver_places (message_at t m) x m) e in
    let seen : Seen = seen_of t (deliver_places (message_at t m) b m) in
    done_at t (Step.Deliver m) v _ checks result left refl z a p (ap (λ (x : Body). deliver_body_of x m seen) e ∙ decides seen)

-- a delivered call: the message x of slot m, for this site and passage slot, carries the call c

pub record CallDelivered (t t' : Tables) (m : ℕ) (x : Message) (site slot : ℕ) (c : Call) (v : ℕ) : Type 0 where
  pub below : m < 32
  pub object_below : c.object < 32
  pub early : delivery_clock (site_at t site) x < (called_visit c (visit_at t site slot)).quiesce
  pub alive : (called_visit c (visit_at t site slot)).dead ≡ false
  pub unheld : is_held_by_other slot (object_at t c.object) ≡ false
  pub room : (called_visit c (visit_at t site slot)).received < count_most
  pub value : v ≡ 0
  pub clock : ClockMoves t t' site (delivery_clock (site_at t site) x)
  pub visit : OnlyVisit t t' site slot (count_received (called_visit c (visit_at t site slot)))
  -- its slot then has a reply with the value before the operation, from this site to the one that called
  pub reply :
      OnlyMessage t t' m
      (plain_message (Body.Reply (object_at t c.object).value) site x.source x.handle (delivery_clock (site_at t site) x))
  pub object : OnlyObject t t' c.object (operated c (taken slot (object_at t c.object)))
  pub passages : t'.passages ≡ t.passages

pub call_delivered_effects :
    (t : Tables) (m v : ℕ) (c : Call) → Sized t → (message_at t m).body ≡ Body.Call c
    → (step_of t (Step.Deliver m)).answer ≡ Ok v
    → let x : Message = message_at t m in
    CallDelivered t (step_of t (Step.Deliver m)).tables m x x.destination (slot_of x.handle) c v
unfolding deliver_body_of deliver_call_of
call_delivered_effects t m v c z e a =
    let below : m < 32 = deliver_below t m v a in
    let fits : MessageFits (message_at t m) = message_fits t m (accepted_in_range t (Step.Deliver m) (ap is_accepted a)) below in
    let call : CallFits c = call_range_says c (rw e at fits.body) in
    let d =
    deliver_done t m v (Body.Call c) (call_checks m c) (λ seen. 0) (λ seen. called c (mail_clock seen) seen) z a e
    (λ seen. refl) in
    let s : object_site c.object ≡ object_site c.object % 8 = omega arith in
    let o : get_or (bank_at t (object_site c.object % 8)) (c.object % 4) past_object ≡ object_at t c.object = seen_object t c.object _ s in
    neither d.fine.early λ q n.
    record {
      below = below;
      object_below = omega arith;
      early = leb-false _ _ q;
      alive = n;
      unheld = rw o at d.fine.unheld;
      room = leb-false _ _ d.fine.calls_left;
      value = d.value;
      clock = clock_moves d _ refl d.fine.up d.fine.clock;
      visit = only_visit d;
      reply = rw o at (only_message d);
      object = only_object d c.object _ s (rw o);
      passages = passages_stay d refl;
    }

-- a delivered reply: the message x of slot m, for this site, carries the value w

pub record ReplyDelivered (t t' : Tables) (m : ℕ) (x : Message) (site w v : ℕ) : Type 0 where
  pub below : m < 32
  pub value : v ≡ w
  pub clock : ClockMoves t t' site (delivery_clock (site_at t site) x)
  pub message : OnlyMessage t t' m no_message
  pub passages : t'.passages ≡ t.passages
  pub visits : t'.visits ≡ t.visits
  pub objects : t'.objects ≡ t.objects

pub reply_delivered_effects :
    (t : Tables) (m v w : ℕ) → Sized t → (message_at t m).body ≡ Body.Reply w
    → (step_of t (Step.Deliver m)).answer ≡ Ok v
    → ReplyDelivered t (step_of t (Step.Deliver m)).tables m (message_at t m) (message_at t m).destination w v
unfolding deliver_body_of deliver_reply_of
reply_delivered_effects t m v w z e a =
    let d = deliver_done t m v (Body.Reply w) (reply_checks m) (λ seen. w) (λ seen. collected (mail_clock seen) seen) z a e (λ seen. refl) in
    record {
      below = deliver_below t m v a;
      value = d.value;
      clock = clock_moves d _ refl d.fine.up d.fine.clock;
      message = only_message d;
      passages = passages_stay d refl;
      visits = visits_stay d refl;
      objects = objects_stay d refl;
    }

-- ---- 12. drop

pub record Dropped (t t' : Tables) (m v : ℕ) : Type 0 where
  pub below : m < 32
  pub full : is_empty (message_at t m).body ≡ false
  pub value : v ≡ 0
  pub message : OnlyMessage t t' m no_message
  pub sites : t'.sites ≡ t.sites
  pub passages : t'.passages ≡ t.passages
  pub visits : t'.visits ≡ t.visits
  pub objects : t'.objects ≡ t.objects

module _ (t : Tables) (m v : ℕ) (z : Sized t) (a : (step_of t (Step.Drop m)).answer ≡ Ok v) where
  drop_done_lem :
      (at : Places) → places_of t (look_of (Step.Drop m)) ≡ at
      → Done t (step_of t (Step.Drop m)).tables v at (drop_checks m (seen_of t at)) 0 (lost (seen_of t at))
  unfolding decide_of drop_of
  drop_done_lem at p = done_at t (Step.Drop m) v at (drop_checks m) (λ seen. 0) lost refl z a p refl

  pub drop_effects : Dropped t (step_of t (Step.Drop m)).tables m v
  drop_effects =
      let e : ltb message_most m ≡ false = (drop_done_lem _ refl).fine.fields in
      let below : m < 32 = omega (arith, ltb-false) in
      let d = drop_done_lem _ (mail_places t m (accepted_in_range t (Step.Drop m) (ap is_accepted a)) below) in
      record {
        below = below;
        full = d.fine.found;
        value = d.value;
        message = only_message d;
        sites = sites_stay d refl;
        passages = passages_stay d refl;
        visits = visits_stay d refl;
        objects = objects_stay d refl;
      }

-- a message that is there can be dropped
pub drop_accepted :
    (t : Tables) (m : ℕ) → in_range t ≡ true → m < 32 → is_empty (message_at t m).body ≡ false
    → (step_of t (Step.Drop m)).answer ≡ Ok 0
unfolding decide_of drop_of first_refusal
drop_accepted t m e below full =
    answered_at_lem t (Step.Drop m) _ refl e (mail_places t m e below)
    ∙ (rw (le-ltb message_most m (omega arith), full))
