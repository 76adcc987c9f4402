-- Steps of a message keep the invariant behind demand 3: invoke, deliver, drop. Assumes nothing.
use Rattle.std.specs.Prelude.{ℕ, ◌≤◌, ◌≡◌, refl, true, false}
use Rattle.std.proofs.Common.{zero-le, arith, sym, ap, ◌∙◌, subst, inl, inr, true≢false, leb-false}
use Rattle.rules.specs.LoopsLaws.{or_left, not_false, cond_keeps}
use Rattle.rules.specs.Tables.{site_at, passage_at, visit_at, message_at, no_message, slot_of}
use Rattle.rules.specs.Answers.{is_accepted, settle_of}
use Rattle.rules.specs.AnswersLaws.{Fine, accepted_fine}
use Rattle.rules.proofs.FineLaws.{invoke_empty}
use Rattle.rules.specs.Parts.{is_empty, clock_to, next_clock, asked_visit, answer_message, plain_message}
use Rattle.rules.specs.Seen.{left_site, left_message}
use Rattle.rules.specs.Calls.{call_site, call_of, invoke_done, invoke_checks, mail_clock, at_home, answer_back, called_visit, call_checks, reply_to, call_done, reply_done, phase_one_done, phase_two_done, answer_done, empty_of, deliver_call_of, deliver_phase_one_of, deliver_phase_two_of, deliver_answer_of, deliver_reply_of, deliver_body_of, lost}
use Rattle.rules.specs.Machine.{seen_of}
use Rattle.runs.specs.Types.{Site, Visit, Call, Asked, Told, Body, Message, Tables, Places, Seen, Decision}
use Rattle.runs.specs.Times.View.{View, view_of}
use Rattle.runs.proofs.Times.Store.{own_body, back_own}
use Rattle.runs.proofs.Orphans.WatchKept.{BodyKeeps}
use Rattle.runs.proofs.Orphans.WatchMailKept.{mail_after_same, mail_after_empty, mail_after_seen}
use Rattle.runs.proofs.Orphans.WatchPassageKept.{passage_after_same, passage_after_answered, asked_home, told_home}
use Rattle.runs.proofs.Orphans.WatchVisitKept.{visit_after_same, visit_after_sent, visit_after_asked, visit_after_told, visit_after_called}
use Rattle.runs.proofs.Orphans.WatchStore.{KeepsWatch}

-- ---- invoke: the call has the times of a visit that is there

pub watch_after_invoked :
    (latest : ℕ) (t : Tables) (at : Places) (h site write object value place : ℕ) → slot_of h ≡ at.slot
    → Fine (invoke_checks h site write object value (seen_of t at))
    → KeepsWatch latest t at (invoke_done h site write object value place (seen_of t at)).left
watch_after_invoked latest t at h site write object value place own fine =
    record {
      clock = omega arith;
      mail = inr (inl (invoke_empty h site write object value (seen_of t at) fine), inr own);
      own =
          λ e.
          record {
            passage = passage_after_same latest (view_of t at.slot) e;
            visit = visit_after_sent latest (view_of t at.slot) at.site (call_site object);
            mail =
                mail_after_seen
                latest
                (view_of t at.slot)
                at.slot
                (plain_message
                (Body.Call (call_of write object value (visit_at t at.site at.slot)))
                site
                (call_site object)
                h
                (next_clock (site_at t at.site)))
                (record { plain = λ y. refl; bounded = λ y b. omega (arith, (b.visits at.site there).0, (b.visits at.site there).1) });
          };
    }
  where
    there : (visit_at t at.site at.slot).there ≡ true
    there = not_false _ fine.there

-- ---- drop, and a reply: the message is gone, and the site's clock does not go back

watch_after_emptied :
    (latest : ℕ) (t : Tables) (at : Places) (site : Site) → slot_of (message_at t at.message).handle ≡ at.slot → (site_at t at.site).clock ≤ site.clock
    → KeepsWatch latest t at (left_message (left_site (seen_of t at) site) no_message)
watch_after_emptied latest t at site own i =
    record {
      clock = i;
      mail = inr (inr own, inl refl);
      own =
          λ e.
          record {
            passage = passage_after_same latest (view_of t at.slot) e;
            visit = visit_after_same latest (view_of t at.slot) at.site;
            mail = mail_after_empty latest (view_of t at.slot);
          };
    }

pub watch_after_lost :
    (latest : ℕ) (t : Tables) (at : Places) → slot_of (message_at t at.message).handle ≡ at.slot
    → KeepsWatch latest t at (lost (seen_of t at))
watch_after_lost latest t at own = watch_after_emptied latest t at (site_at t at.site) own (omega arith)

-- ---- deliver: the message was the slot's own

module _ (latest : ℕ) (t : Tables) (at : Places) (m : ℕ) (own : slot_of (message_at t at.message).handle ≡ at.slot) where
  abbrev letter : Message
  letter = message_at t at.message

  abbrev seen : Seen
  seen = seen_of t at

  abbrev view : View
  view = view_of t at.slot

  -- so what its body says is kept by the view
  watch_after_letter : (b : Body) → letter.body ≡ b → is_empty b ≡ false → BodyKeeps latest view b
  watch_after_letter b body full =
      subst
      (BodyKeeps latest view)
      (own_body at.slot letter b body full own)
      (mail_after_same latest view at.message)

  pub watch_after_call : (c : Call) → letter.body ≡ Body.Call c → Fine (call_checks m c seen) → KeepsWatch latest t at (call_done m c seen).left
  watch_after_call c body fine =
      record {
        clock = omega arith;
        mail = inr (inr own, inr own);
        own =
            λ e.
            record {
              passage = passage_after_same latest view e;
              visit =
                  visit_after_called
                  latest
                  view
                  at.site
                  (mail_clock seen)
                  c
                  (omega arith)
                  (watch_after_letter (Body.Call c) body refl)
                  (leb-false _ _ (or_left _ (called_visit c (visit_at t at.site at.slot)).dead fine.early));
              -- the reply brings no time
              mail = mail_after_seen latest view at.slot (reply_to c (mail_clock seen) seen) (record { plain = λ h. refl; bounded = λ h b. zero-le });
            };
      }

  -- the answer brings no time
  watch_after_back : (v : Visit) → BodyKeeps latest view (answer_back v (mail_clock seen) seen).body
  watch_after_back v =
      cond_keeps
      (λ (x : Message). BodyKeeps latest view x.body)
      (at_home seen)
      no_message
      (answer_message v letter.destination (passage_at t at.slot).home letter.handle (mail_clock seen))
      (mail_after_empty latest view)
      (record { plain = λ h. refl; bounded = λ h b. zero-le })

  pub watch_after_phase_one :
      (n : ℕ) (asked : Asked) → letter.body ≡ Body.PhaseOne n asked → KeepsWatch latest t at (phase_one_done m n asked seen).left
  watch_after_phase_one n asked body =
      record {
        clock = omega arith;
        mail = inr (inr own, back_own at.slot (mail_clock seen) asks seen own);
        own =
            λ e.
            record {
              passage = asked_home latest view (at_home seen) n asked says e;
              visit = visit_after_asked latest view at.site n (mail_clock seen) asked says;
              mail = mail_after_seen latest view at.slot (answer_back asks (mail_clock seen) seen) (watch_after_back asks);
            };
      }
    where
      asks : Visit
      asks = asked_visit asked n (mail_clock seen) (visit_at t at.site at.slot)

      says : BodyKeeps latest view (Body.PhaseOne n asked)
      says = watch_after_letter (Body.PhaseOne n asked) body refl

  pub watch_after_phase_two :
      (n : ℕ) (told : Told) → letter.body ≡ Body.PhaseTwo n told → KeepsWatch latest t at (phase_two_done m n told seen).left
  watch_after_phase_two n told body =
      record {
        clock = omega arith;
        mail = inr (inr own, inl refl);
        own =
            λ e.
            record {
              passage = told_home latest view (at_home seen) n told says e;
              visit = visit_after_told latest view at.site n told says;
              mail = mail_after_empty latest view;
            };
      }
    where
      says : BodyKeeps latest view (Body.PhaseTwo n told)
      says = watch_after_letter (Body.PhaseTwo n told) body refl

  pub watch_after_answer : (n received q : ℕ) → KeepsWatch latest t at (answer_done m n received q seen).left
  watch_after_answer n received q =
      record {
        clock = omega arith;
        mail = inr (inr own, inl refl);
        own =
            λ e.
            record {
              passage =
                  passage_after_answered
                  latest
                  view
                  letter.source
                  (record { sent = letter.sent; received = received; quiesce = q })
                  e;
              visit = visit_after_same latest view at.site;
              mail = mail_after_empty latest view;
            };
      }

  -- an accepted decision leaves what it decided
  watch_after_settled_delivery :
      (d : Decision) → is_accepted d.answer ≡ true → KeepsWatch latest t at d.left → KeepsWatch latest t at (settle_of d seen).left
  watch_after_settled_delivery d e x = rw e x

  pub watch_after_delivered :
      (b : Body) → letter.body ≡ b → is_accepted (deliver_body_of b m seen).answer ≡ true
      → KeepsWatch latest t at (deliver_body_of b m seen).left
  unfolding deliver_body_of empty_of deliver_call_of deliver_phase_one_of deliver_phase_two_of deliver_answer_of deliver_reply_of
  watch_after_delivered Body.Empty e y = absurd (true≢false (sym (ap is_empty e) ∙ (accepted_fine _ 0 y).found))
  watch_after_delivered (Body.Call c) e y = watch_after_settled_delivery (call_done m c seen) y (watch_after_call c e (accepted_fine _ _ y))
  watch_after_delivered (Body.PhaseOne n asked) e y = watch_after_settled_delivery (phase_one_done m n asked seen) y (watch_after_phase_one n asked e)
  watch_after_delivered (Body.PhaseTwo n told) e y = watch_after_settled_delivery (phase_two_done m n told seen) y (watch_after_phase_two n told e)
  watch_after_delivered (Body.Answer n received q) e y = watch_after_settled_delivery (answer_done m n received q seen) y (watch_after_answer n received q)
  watch_after_delivered (Body.Reply value) e y =
      watch_after_settled_delivery (reply_done m value seen) y
      (watch_after_emptied latest t at (clock_to (site_at t at.site) (mail_clock seen)) own (omega arith))
