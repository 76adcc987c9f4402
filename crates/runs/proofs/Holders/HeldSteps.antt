-- What each step leaves: every object that is held has a visit at its site, and every call goes to its object's site. Assumes nothing.
use Rattle.std.specs.Prelude.{ℕ, ◌%◌, ◌≤◌, ◌<◌, ◌≡◌, ◌≢◌, ◌⊎◌, Bool, true, false, not, ◌||◌, List, eqb, get_or}
use native.Mathlib.Omega.{arith}
use Rattle.std.proofs.Math.Path.{refl, sym, ap}
use Rattle.std.proofs.Common.{◌∙◌, inl, inr, true≢false}
use Rattle.std.proofs.Math.Logic.{⊎_elim}
use Rattle.rules.specs.declared.tables.Object.{Object}
use Rattle.rules.specs.declared.looking.Trip.{Trip}
use Rattle.rules.specs.Types.{Check}
use Rattle.rules.specs.LoopsLaws.{either}
use Rattle.rules.specs.Tables.{past_object, site_at, passage_at, visit_at, message_at, bank_at, object_site, slot_of, no_message}
use Rattle.rules.specs.Answers.{is_accepted, first_refusal, settle_of}
use Rattle.rules.specs.AnswersLaws.{Fine, accepted_fine}
use Rattle.rules.proofs.FineLaws.{call_fields}
use Rattle.rules.specs.Parts.{next_clock, is_held_by, is_held_by_other, freed, restored, each_of, where_there, asked_visit, told_visit, told_objects, asked_of, plain_message}
use Rattle.rules.specs.Seen.{left_site}
use Rattle.rules.specs.Rounds.{sent_out, round_told, closed, open_of, close_of}
use Rattle.rules.specs.Calls.{call_site, mail_clock, mail_slot, at_home, answer_back, asked_at, called_visit, called_object, reply_to, called, invoke_of, empty_of, deliver_call_of, deliver_phase_one_of, deliver_phase_two_of, deliver_answer_of, deliver_reply_of, deliver_body_of, lost, drop_of}
use Rattle.rules.specs.Stations.{is_swept, loses_home, crashed_visit, swept_slot, crashed_slot}
use Rattle.rules.specs.Passages.{begin_of, abort_of, retired, retire_of}
use Rattle.rules.specs.Machine.{seen_of, body_bank, turn_seen}
use Rattle.rules.proofs.PartsLaws.{taken_holder, LetsGoOf, freed_lets_go, restored_lets_go, let_go_holder}
use Rattle.rules.proofs.StoredObjects.{each_at}
use Rattle.runs.specs.Types.{Site, Kind, Visit, Call, Asked, Told, Body, Message, Tables, Places, Seen}
use Rattle.runs.specs.Walk.Says.{body_kind, called_of}
use Rattle.runs.specs.Walk.Put.{set_at}
use Rattle.runs.proofs.Kept.Times.{asked_says}
use Rattle.runs.proofs.Holders.HeldStore.{GoesHome, Held, KeepsHeld}

abbrev is_call : Body → Bool
is_call b = eqb (body_kind b) 1

pub no_call : (m : Message) → is_call m.body ≡ false → (c : Call) → m.body ≡ Body.Call c → GoesHome m c
no_call m f c e = absurd (true≢false (sym (ap is_call e) ∙ f))

-- where a rule changes a visit that is there, it held_after_same there
changed_there : (v changed : Visit) → changed.there ≡ v.there → (where_there v changed).there ≡ v.there
changed_there v changed e = ⊎_elim (λ b. rw b (e ∙ b)) (λ b. rw b) (either v.there)

crashed_there : (homeless : Bool) (clock : ℕ) (v : Visit) → (crashed_visit homeless clock v).there ≡ v.there
crashed_there homeless clock v = ⊎_elim (λ b. rw b) (λ b. rw b) (either (homeless || not v.prepared))

-- an answer is no call
back_no_call : (v : Visit) (clock : ℕ) (seen : Seen) → is_call (answer_back v clock seen).body ≡ false
back_no_call v clock seen = ⊎_elim (λ e. rw e) (λ e. rw e) (either (at_home seen))

module _ (t : Tables) (at : Places) (k : Held t) where
  -- the message that was seen
  call_as_seen : (c : Call) → (message_at t at.message).body ≡ Body.Call c → GoesHome (message_at t at.message) c
  call_as_seen c e = k.calls at.message c e

  -- the objects stay, and a visit that was there is there
  held_after_same :
      (left : Seen) → left.objects ≡ bank_at t at.bank
      → (left.visit.there ≡ false → (visit_at t at.site at.slot).there ≡ false)
      → ((c : Call) → left.message.body ≡ Body.Call c → GoesHome left.message c)
      → KeepsHeld t at left
  held_after_same left o v m =
      record {
        objects = λ i p l e. inl (rw o at e);
        visit = λ e. inl (v e);
        calls = m;
      }

  held_after_seen : KeepsHeld t at (seen_of t at)
  held_after_seen = held_after_same (seen_of t at) refl (λ e. e) call_as_seen

  held_after_settled :
      (cs : List Check) (v : ℕ) (left : Seen) → (Fine cs → KeepsHeld t at left)
      → KeepsHeld t at (settle_of (record { answer = first_refusal cs v; left = left }) (seen_of t at)).left
  held_after_settled cs v left f =
      ⊎_elim
      (λ e. rw e (f (accepted_fine cs v e)))
      (λ e. rw e held_after_seen)
      (either (is_accepted (first_refusal cs v)))

  -- the visit has let go of what it held at its site
  lets_go :
      (f : Object → Object) (left : Seen)
      → LetsGoOf at.slot f
      → left.objects ≡ each_of f (bank_at t at.bank)
      → at.bank ≡ at.site
      → ((c : Call) → left.message.body ≡ Body.Call c → GoesHome left.message c)
      → KeepsHeld t at left
  lets_go f left law o b m =
      record {
        objects = λ i p l e. inl (was i p l e).0;
        visit = λ e. inr (b, λ i l. ⊎_elim (λ y. absurd ((was i at.slot l y).1 refl)) (λ y. y) (either _));
        calls = m;
      }
    where
      was :
          (i p : ℕ) → i < 4 → is_held_by p (get_or left.objects i past_object) ≡ true
          → (is_held_by p (get_or (bank_at t at.bank) i past_object) ≡ true) × (p ≢ at.slot)
      was i p l e =
          let_go_holder
          at.slot
          p
          f
          law
          (get_or (bank_at t at.bank) i past_object)
          (sym (ap (is_held_by p) (each_at f (bank_at t at.bank) i l))
          ∙ sym (ap (λ (os : List Object). is_held_by p (get_or os i past_object)) o)
          ∙ e)

  -- a phase 2 part
  held_after_told :
      (told : Told) (left : Seen) → left.visit ≡ told_visit told (visit_at t at.site at.slot)
      → left.objects ≡ told_objects told at.slot (bank_at t at.bank)
      → at.bank ≡ at.site
      → ((c : Call) → left.message.body ≡ Body.Call c → GoesHome left.message c)
      → KeepsHeld t at left
  held_after_told (Told.Refresh q) left v o b m = held_after_same left o (λ e. sym (ap (λ (x : Visit). x.there) v) ∙ e) m
  held_after_told (Told.Terminate x) left v o b m = held_after_same left o (λ e. sym (ap (λ (x : Visit). x.there) v) ∙ e) m
  held_after_told Told.Prepare left v o b m = lets_go (freed at.slot) left (freed_lets_go at.slot) o b m

  -- a close does it where the home visit is there
  held_after_closed : (told : Told) (clock : ℕ) → at.bank ≡ at.site → KeepsHeld t at (closed told at.slot clock (seen_of t at))
  held_after_closed told clock b =
      ⊎_elim
      (λ e. held_after_told told _ (rw e) (rw e) b call_as_seen)
      (λ e. held_after_same (closed told at.slot clock (seen_of t at)) (rw e) (λ y. e) call_as_seen)
      (either (visit_at t at.site at.slot).there)

  -- a delivered call takes its object for the message's slot
  held_after_called :
      (c : Call) (clock : ℕ) → at.slot ≡ mail_slot (seen_of t at) → at.bank ≡ at.site
      → is_held_by_other (mail_slot (seen_of t at)) (called_object c (seen_of t at)) ≡ false
      → KeepsHeld t at (called c clock (seen_of t at))
  held_after_called c clock s b free =
      record {
        objects =
            λ i p l.
            set_at
            (λ j o.
            is_held_by p o ≡ true
            → (is_held_by p (get_or (bank_at t at.bank) j past_object) ≡ true)
            ⊎ ((p ≡ at.slot) × (((called c clock (seen_of t at)).visit.there ≡ true) × (at.bank ≡ at.site))))
            (bank_at t at.bank)
            (c.object % 4)
            i
            _
            past_object
            (λ e. inl e)
            (λ e.
            ⊎_elim
            (λ y. inr (y ∙ sym s, (there, b)))
            inl
            (taken_holder (mail_slot (seen_of t at)) (called_object c (seen_of t at)) p c free e));
        visit = λ e. absurd (true≢false (sym there ∙ e));
        calls = no_call (reply_to c clock (seen_of t at)) refl;
      }
    where
      there : (called_visit c (visit_at t at.site at.slot)).there ≡ true
      there = ⊎_elim (λ e. rw e e) (λ e. rw e) (either (visit_at t at.site at.slot).there)

  -- a station's step: only its site changes
  pub held_after_station :
      (cs : List Check) (v : ℕ) (site : Site)
      → KeepsHeld t at (settle_of (record { answer = first_refusal cs v; left = left_site (seen_of t at) site }) (seen_of t at)).left
  held_after_station cs v site =
      held_after_settled cs v _ (λ f. held_after_same (left_site (seen_of t at) site) refl (λ e. e) call_as_seen)

  pub held_after_begin : (home slot q r : ℕ) → KeepsHeld t at (begin_of home slot q r (seen_of t at)).left
  unfolding begin_of
  held_after_begin home slot q r =
      held_after_settled _ _ _ (λ f. held_after_same _ refl (λ e. absurd (true≢false e)) call_as_seen)

  pub held_after_retire : (h : ℕ) (rest : Bool) → KeepsHeld t at (retire_of h rest (seen_of t at)).left
  unfolding retire_of
  held_after_retire h rest = held_after_settled _ _ _ (λ f. held_after_same (retired (seen_of t at)) refl (λ e. e) call_as_seen)

  pub held_after_drop : (m : ℕ) → KeepsHeld t at (drop_of m (seen_of t at)).left
  unfolding drop_of
  held_after_drop m = held_after_settled _ _ _ (λ f. held_after_same (lost (seen_of t at)) refl (λ e. e) (no_call no_message refl))

  -- ask and tell send no call
  pub held_after_sent :
      (cs : List Check) (v : ℕ) (body : Body) (h site clock : ℕ) → is_call body ≡ false
      → KeepsHeld t at (settle_of (record { answer = first_refusal cs v; left = sent_out body h site clock (seen_of t at) }) (seen_of t at)).left
  held_after_sent cs v body h site clock e =
      held_after_settled cs v _ λ f.
      held_after_same
      (sent_out body h site clock (seen_of t at))
      refl
      (λ y. y)
      (no_call (plain_message body (passage_at t at.slot).home site h clock) e)

  -- the object of an accepted invoke is one of the 32
  pub held_after_invoke : (h site write object value place : ℕ) → KeepsHeld t at (invoke_of h site write object value place (seen_of t at)).left
  unfolding invoke_of
  held_after_invoke h site write object value place =
      held_after_settled _ _ _ λ f.
      let o : object ≤ 31 = (call_fields h site write object value f.fields).below in
      held_after_same _ refl (λ e. e) (λ c e. sent c (ap called_of e) o)
    where
      sent : (c : Call) → object ≡ c.object → object ≤ 31 → (call_site object ≡ object_site c.object) × (c.object < 32)
      sent c e o =
          let y : object ≡ c.object = e in
          (omega arith, omega arith)

  pub held_after_open : (h : ℕ) (kind : Kind) (bad wrong : Bool) → KeepsHeld t at (open_of h kind bad wrong (seen_of t at)).left
  unfolding open_of
  held_after_open h kind bad wrong =
      held_after_settled _ _ _ (λ f. held_after_same _ refl (λ e. sym (asked_says (asked_of kind) _ _ _).there ∙ e) call_as_seen)

  pub held_after_abort : (h : ℕ) → KeepsHeld t at (abort_of h (seen_of t at)).left
  unfolding abort_of
  held_after_abort h =
      held_after_settled _ _ _ (λ f. held_after_same _ refl (λ e. sym (changed_there _ _ refl) ∙ e) call_as_seen)

  pub held_after_close : (h : ℕ) → slot_of h ≡ at.slot → at.bank ≡ at.site → KeepsHeld t at (close_of h (seen_of t at)).left
  unfolding close_of
  held_after_close h s b = held_after_settled _ _ _ (λ f. rw s (held_after_closed (round_told (passage_at t at.slot).round) (next_clock (site_at t at.site)) b))

  -- a phase 1 part, away from home with its answer
  held_after_asked : (n : ℕ) (asked : Asked) (clock : ℕ) → KeepsHeld t at (asked_at n asked clock (seen_of t at))
  held_after_asked n asked clock =
      let v : Visit = visit_at t at.site at.slot in
      held_after_same
      (asked_at n asked clock (seen_of t at))
      refl
      (λ e. sym (asked_says asked n clock v).there ∙ e)
      (no_call (answer_back (asked_visit asked n clock v) clock (seen_of t at)) (back_no_call (asked_visit asked n clock v) clock (seen_of t at)))

  -- by what the message slot holds
  pub held_after_deliver :
      (body : Body) (m : ℕ) → (message_at t at.message).body ≡ body
      → at.slot ≡ mail_slot (seen_of t at)
      → at.site ≡ (message_at t at.message).destination % 8
      → at.bank ≡ body_bank body at.site
      → KeepsHeld t at (deliver_body_of body m (seen_of t at)).left
  unfolding deliver_body_of empty_of deliver_call_of deliver_phase_one_of deliver_phase_two_of deliver_answer_of deliver_reply_of
  held_after_deliver Body.Empty m e s a b = held_after_settled _ _ _ (λ f. held_after_seen)
  held_after_deliver (Body.Call c) m e s a b =
      let y : (message_at t at.message).destination ≡ object_site c.object = (k.calls at.message c e).0 in
      held_after_settled _ _ _ (λ f. held_after_called c _ s (b ∙ ap (λ (x : ℕ). x % 8) (sym y) ∙ sym a) f.unheld)
  held_after_deliver (Body.PhaseOne n asked) m e s a b =
      held_after_settled _ _ _ (λ f. held_after_asked n asked (mail_clock (seen_of t at)))
  held_after_deliver (Body.PhaseTwo n told) m e s a b =
      held_after_settled _ _ _ (λ f. held_after_told told _ refl (rw s) b (no_call no_message refl))
  held_after_deliver (Body.Answer n r q) m e s a b =
      held_after_settled _ _ _ (λ f. held_after_same _ refl (λ y. y) (no_call no_message refl))
  held_after_deliver (Body.Reply value) m e s a b =
      held_after_settled _ _ _ (λ f. held_after_same _ refl (λ y. y) (no_call no_message refl))

  -- one slot of a sweep: the visit that goes has let go
  held_after_swept : (site : ℕ) → at.bank ≡ at.site → KeepsHeld t at (swept_slot site at.slot (seen_of t at))
  unfolding swept_slot
  held_after_swept site b =
      ⊎_elim
      (λ e. rw e (lets_go (restored at.slot) _ (restored_lets_go at.slot) refl b call_as_seen))
      (λ e. rw e held_after_seen)
      (either (is_swept (seen_of t at)))

  -- one slot of a crash: the visit held_after_same
  held_after_crashed : (site slot : ℕ) → KeepsHeld t at (crashed_slot site slot (seen_of t at))
  unfolding crashed_slot
  held_after_crashed site slot =
      let v : Visit = visit_at t at.site at.slot in
      let w : Visit = crashed_visit (loses_home site (passage_at t at.slot)) (site_at t at.site).clock v in
      held_after_same
      (crashed_slot site slot (seen_of t at))
      refl
      (λ e. sym (changed_there v w (crashed_there (loses_home site (passage_at t at.slot)) (site_at t at.site).clock v)) ∙ e)
      call_as_seen

  pub held_after_turned : (trip : Trip) → at.bank ≡ at.site → KeepsHeld t at (turn_seen trip at.slot (seen_of t at))
  held_after_turned Trip.Nowhere b = held_after_seen
  held_after_turned (Trip.Sweep site) b = held_after_swept site b
  held_after_turned (Trip.Crash site) b = held_after_crashed site at.slot
