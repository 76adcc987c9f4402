-- Steps of a round keep the invariant behind demand 3: refresh, terminate, prepare, ask, tell, close. Assumes nothing.
use Rattle.std.specs.Prelude.{ℕ, ◌+◌, ◌%◌, ◌≤◌, ◌≡◌, refl, ◌≢◌, Bool, true, not, ◌||◌}
use Rattle.std.proofs.Common.{arith, sym, ap, ◌∙◌, ⊎_elim, inl, inr, true≢false, eq-eqb, ne_eqb}
use Rattle.std.proofs.lemmas.Bool.{false≢true}
use Rattle.rules.specs.LoopsLaws.{and_left, or_left, not_false}
use Rattle.rules.specs.Tables.{site_at, passage_at, message_at, slot_of}
use Rattle.rules.specs.AnswersLaws.{Fine}
use Rattle.rules.specs.Parts.{is_active, is_running, is_phase_one, is_phase_two, has_answered, is_empty, next_clock, plain_message}
use Rattle.rules.specs.Rounds.{open_done, open_checks, opened_visit, sent_out, ask_done, ask_checks, ask_body, close_done, close_checks, tell_done, tell_checks, tell_body, round_told}
use Rattle.rules.specs.Machine.{seen_of}
use Rattle.runs.specs.Types.{Kind, Phase, Status, Asked, Body, Tables, Step, Places}
use Rattle.runs.specs.Times.View.{view_of}
use Rattle.runs.specs.Orphans.Watch.{Known}
use Rattle.runs.proofs.Orphans.WatchKept.{Ending, BodyKeeps, watch_unwatched, aborted_running}
use Rattle.runs.proofs.Orphans.WatchMailKept.{mail_after_same, mail_after_seen, mail_after_ask, mail_after_tell, refresh_asks, terminate_asks}
use Rattle.runs.proofs.Orphans.WatchPassageKept.{passage_after_same, passage_after_closed, passage_after_terminating, passage_after_refreshing}
use Rattle.runs.proofs.Orphans.WatchVisitKept.{visit_after_same, where_there_lem, visit_after_asked, visit_after_told}
use Rattle.runs.proofs.Orphans.WatchStore.{known_head, KeepsWatch, Guards}

-- ---- refresh and terminate: a round opens, and its phase 1 part is done at home

pub watch_after_refresh :
    (latest : ℕ) (t : Tables) (at : Places) (h q r : ℕ) (bad : Bool)
    → Fine (open_checks h bad (not (is_active (seen_of t at).passage.status)) (seen_of t at))
    → KeepsWatch latest t at (open_done h (Kind.Refresh q r) bad (not (is_active (seen_of t at).passage.status)) (seen_of t at)).left
watch_after_refresh latest t at h q r bad fine =
    record {
      clock = omega arith;
      mail = inl refl;
      own =
          λ e.
          record {
            passage = passage_after_refreshing
                latest
                (view_of t at.slot)
                e
                q
                r
                (opened_visit (Kind.Refresh q r) (next_clock (site_at t at.site)) (seen_of t at))
                active;
            visit =
                visit_after_asked
                latest
                (view_of t at.slot)
                at.site
                ((passage_at t at.slot).round.number + 1)
                (next_clock (site_at t at.site))
                (Asked.Refresh r)
                (refresh_asks latest (view_of t at.slot) ((passage_at t at.slot).round.number + 1) r active);
            mail = mail_after_same latest (view_of t at.slot) at.message;
          };
    }
  where
    active : is_active (passage_at t at.slot).status ≡ true
    active = not_false _ fine.state

pub watch_after_terminate :
    (latest : ℕ) (t : Tables) (at : Places) (h : ℕ) (bad wrong : Bool)
    → KeepsWatch latest t at (open_done h Kind.Terminate bad wrong (seen_of t at)).left
watch_after_terminate latest t at h bad wrong =
    record {
      clock = omega arith;
      mail = inl refl;
      own =
          λ e.
          record {
            passage = passage_after_terminating
                latest
                (view_of t at.slot)
                e
                (opened_visit Kind.Terminate (next_clock (site_at t at.site)) (seen_of t at));
            visit =
                visit_after_asked
                latest
                (view_of t at.slot)
                at.site
                ((passage_at t at.slot).round.number + 1)
                (next_clock (site_at t at.site))
                Asked.Terminate
                (terminate_asks latest (view_of t at.slot) ((passage_at t at.slot).round.number + 1));
            mail = mail_after_same latest (view_of t at.slot) at.message;
          };
    }

-- ---- prepare: something else is known after it

-- the passage was running, so it was not watched; from now on a commit round has begun
pub watch_after_prepare :
    (latest site : ℕ) (t : Tables) (at : Places) (g : Known) (h : ℕ) (bad : Bool) → slot_of h ≡ at.slot
    → Fine (open_checks h bad (not (is_running (seen_of t at).passage.status)) (seen_of t at))
    → Guards
    latest
    site
    t
    at
    g
    (λ p. known_head p t (Step.Prepare h) g)
    (open_done h Kind.Prepare bad (not (is_running (seen_of t at).passage.status)) (seen_of t at)).left
watch_after_prepare latest site t at g h bad own fine =
    record {
      clock = omega arith;
      mail = inl refl;
      own =
          λ k.
          watch_unwatched
          latest
          site
          _
          _
          (λ y. aborted_running (passage_at t at.slot).status (k.watched (and_left g.watched true y)).1.aborted running)
          (λ y. absurd (aborted_running Status.Committing y refl))
          (λ y.
          ⊎_elim
          (λ e. absurd (true≢false (rw (eq-eqb (slot_of h) at.slot own) at e)))
          (λ e. absurd (true≢false (ap is_running e)))
          y);
      other =
          λ p n.
          record {
            commit = λ y. rw (ne_eqb (slot_of h) p (λ e. n (sym e ∙ own))) at y;
            watched = λ y. and_left g.watched true y;
            cleared = λ y. y;
          };
    }
  where
    running : is_running (passage_at t at.slot).status ≡ true
    running = not_false _ fine.state

-- ---- ask and tell: a message of the open round goes into an empty slot

one_open : (p : Phase) → is_phase_one p ≡ true → p ≢ Phase.None
one_open p y e = false≢true (sym (ap is_phase_one e) ∙ y)

two_open : (p : Phase) → is_phase_two p ≡ true → p ≢ Phase.None
two_open p y e = false≢true (sym (ap is_phase_two e) ∙ y)

watch_after_sent_out :
    (latest : ℕ) (t : Tables) (at : Places) (body : Body) (h site clock : ℕ) → (site_at t at.site).clock ≤ clock
    → is_empty (message_at t at.message).body ≡ true → slot_of h ≡ at.slot
    → (Ending (passage_at t at.slot) → BodyKeeps latest (view_of t at.slot) body)
    → KeepsWatch latest t at (sent_out body h site clock (seen_of t at))
watch_after_sent_out latest t at body h site clock i empty own law =
    record {
      clock = i;
      mail = inr (inl empty, inr own);
      own =
          λ e.
          record {
            passage = passage_after_same latest (view_of t at.slot) e;
            visit = visit_after_same latest (view_of t at.slot) at.site;
            mail = mail_after_seen latest (view_of t at.slot) at.slot (plain_message body (passage_at t at.slot).home site h clock) (law e);
          };
    }

pub watch_after_asked_out :
    (latest : ℕ) (t : Tables) (at : Places) (h site place : ℕ) → slot_of h ≡ at.slot → Fine (ask_checks h site (seen_of t at))
    → KeepsWatch latest t at (ask_done h site place (seen_of t at)).left
watch_after_asked_out latest t at h site place own fine =
    watch_after_sent_out
    latest
    t
    at
    (ask_body (passage_at t at.slot).round)
    h
    site
    _
    (omega arith)
    (not_false _ fine.room)
    own
    (λ e.
    mail_after_ask
    latest
    (view_of t at.slot)
    e
    (one_open _ (not_false _ (or_left (not (is_phase_one (passage_at t at.slot).round.phase)) _ fine.state))))

pub watch_after_told_out :
    (latest : ℕ) (t : Tables) (at : Places) (h site place : ℕ) → slot_of h ≡ at.slot → Fine (tell_checks h site (seen_of t at))
    → KeepsWatch latest t at (tell_done h site place (seen_of t at)).left
watch_after_told_out latest t at h site place own fine =
    watch_after_sent_out
    latest
    t
    at
    (tell_body (passage_at t at.slot).round)
    h
    site
    _
    (omega arith)
    (not_false _ fine.room)
    own
    (λ e.
    mail_after_tell
    latest
    (view_of t at.slot)
    e
    (two_open
    _
    (not_false
    _
    (or_left
    (not (is_phase_two (passage_at t at.slot).round.phase))
    _
    (or_left (not (is_phase_two (passage_at t at.slot).round.phase) || not (has_answered (passage_at t at.slot).round (site % 8))) _ fine.state)))))

-- ---- close: the passage, and the home visit's phase 2 part where it is there

pub watch_after_close :
    (latest : ℕ) (t : Tables) (at : Places) (h : ℕ) → Fine (close_checks h (seen_of t at))
    → KeepsWatch latest t at (close_done h (seen_of t at)).left
watch_after_close latest t at h fine =
    record {
      clock = omega arith;
      mail = inl refl;
      own =
          λ e.
          let body : BodyKeeps latest (view_of t at.slot) (tell_body (passage_at t at.slot).round) =
          mail_after_tell latest (view_of t at.slot) e one in
          record {
            passage =
                passage_after_closed
                latest
                (view_of t at.slot)
                e
                (passage_at t at.slot).round.number
                (round_told (passage_at t at.slot).round)
                one
                body;
            visit =
                where_there_lem
                latest
                (view_of t at.slot)
                at.site
                _
                (visit_after_told
                latest
                (view_of t at.slot)
                at.site
                (passage_at t at.slot).round.number
                (round_told (passage_at t at.slot).round)
                body);
            mail = mail_after_same latest (view_of t at.slot) at.message;
          };
    }
  where
    one : (passage_at t at.slot).round.phase ≢ Phase.None
    one = one_open _ (not_false _ fine.state)
