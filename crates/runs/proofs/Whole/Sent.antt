-- Nothing is done that was not sent: every call in flight is the one that an earlier accepted invoke left in its message slot, and has waited there since;
-- so every operation does what an earlier invoke said.
-- And nothing is told that was not found: every reply in flight carries what the delivery of its call found.
-- The idea: a run begins with no message; a call comes into a slot by an invoke alone, and a reply by the delivery of a call. Assumes nothing.
use Rattle.std.specs.Prelude.{ℕ, ◌%◌, ◌≡◌, refl, ◌⊎◌, Bool, eqb, Ok}
use Rattle.std.proofs.Common.{sym, ◌∙◌, subst, eqb-true}
use Rattle.std.proofs.Math.Path.{ap}
use Rattle.std.proofs.Math.Logic.{⊎_elim}
use Rattle.std.proofs.Math.Bool.{true}
use Rattle.std.proofs.lemmas.Bool.{false≢true}
use mathlib.Core.List.{List, [], ◌∷◌, ◌++◌, append-nil, append_assoc}
use Rattle.rules.specs.LoopsLaws.{and_left, and_right}
use Rattle.rules.specs.Tables.{object_at, message_at, slot_of}
use Rattle.rules.specs.Answers.{is_accepted}
use Rattle.rules.specs.Machine.{step_of}
use Rattle.rules.specs.Record.{flat_of, is_step}
use Rattle.rules.proofs.StartLaws.{started_is_empty}
use Rattle.rules.specs.Runs.{Started, run_of}
use Rattle.rules.proofs.Views.{is_called, is_reply}
use Rattle.runs.specs.Types.{Body, Message, Tables, Step}
use Rattle.runs.proofs.Walk.Steps.{run_on}
use Rattle.runs.proofs.Walk.Sound.{sound_run}
use Rattle.runs.specs.Operations.Definitions.{mail_named, calls_for, operates, is_write, to_write, SaysCall, InvokedInto, RepliedInto}
use Rattle.runs.proofs.Operations.Invoked.{invoked_says}
use Rattle.runs.proofs.Operations.Mail.{call_was_invoked}
use Rattle.runs.proofs.Operations.Replied.{replied_finds, reply_was_left, reply_answers}
use Rattle.runs.specs.Whole.Definitions.{CameBefore, SentBefore, RepliedBefore, WasInvoked}

-- ---- what is in flight came by a step

-- of messages that no run begins with, and that come into a slot by a step of this kind alone
module _ {t₀ : Tables} (m : ℕ) (is : Body → Bool) (Into : Tables → Step → Type 0)
    (none : is (message_at t₀ m).body ≡ true → ⊥)
    (comes :
    (ss : List Step) (s : Step) → is (message_at (step_of (run_of t₀ ss) s).tables m).body ≡ true
    → (message_at (step_of (run_of t₀ ss) s).tables m ≡ message_at (run_of t₀ ss) m) ⊎ Into (run_of t₀ ss) s) where
  -- one more step
  came_on :
      (ss : List Step) (s : Step)
      → (is (message_at (run_of t₀ ss) m).body ≡ true → CameBefore Into t₀ ss m)
      → is (message_at (run_of t₀ (ss ++ s ∷ [])) m).body ≡ true → CameBefore Into t₀ (ss ++ s ∷ []) m
  unfolding run_of
  came_on ss s before c =
      let on : run_of t₀ (ss ++ s ∷ []) ≡ (step_of (run_of t₀ ss) s).tables = run_on t₀ ss (s ∷ []) in
      let now : is (message_at (step_of (run_of t₀ ss) s).tables m).body ≡ true = rw on at c in
      ⊎_elim
      (λ same.
      let g = before (ap (λ (x : Message). is x.body) (sym same) ∙ now) in
      record {
        first = g.first;
        step = g.step;
        rest = g.rest ++ s ∷ [];
        all = ap (λ (x : List Step). x ++ s ∷ []) g.all ∙ append_assoc g.first (g.step ∷ g.rest) (s ∷ []);
        by = g.by;
        waits = ap (λ (u : Tables). message_at u m) on ∙ same ∙ g.waits;
      })
      (λ g. record { first = ss; step = s; rest = []; all = refl; by = g; waits = ap (λ (u : Tables). message_at u m) on })
      (comes ss s now)

  came_from :
      (before ss : List Step) → (is (message_at (run_of t₀ before) m).body ≡ true → CameBefore Into t₀ before m)
      → is (message_at (run_of t₀ (before ++ ss)) m).body ≡ true → CameBefore Into t₀ (before ++ ss) m
  came_from before [] has c = rw (append-nil before) (has (rw (append-nil before) at c))
  came_from before (s ∷ ss) has c =
      subst
      (λ (x : List Step). is (message_at (run_of t₀ x) m).body ≡ true → CameBefore Into t₀ x m)
      (append_assoc before (s ∷ []) ss)
      (came_from (before ++ s ∷ []) ss (came_on before s has))
      c

  came_before : (ss : List Step) → is (message_at (run_of t₀ ss) m).body ≡ true → CameBefore Into t₀ ss m
  unfolding run_of
  came_before ss = came_from [] ss (λ c. absurd (none c))

-- in every run: a call in flight was sent by an accepted invoke, and has waited since
pub call_was_sent :
    {t₀ : Tables} → Started t₀ → (m : ℕ) (ss : List Step) → is_called (message_at (run_of t₀ ss) m).body ≡ true → SentBefore t₀ ss m
call_was_sent {t₀} fresh m =
    came_before m is_called (λ t step. InvokedInto t step m)
    (λ c. false≢true (ap is_called (sym ((started_is_empty fresh).empty m)) ∙ c))
    (λ ss s. call_was_invoked (run_of t₀ ss) m (sound_run fresh ss) s)

-- in every run: a reply in flight was left by an accepted delivery of a call, which found what it carries, and has waited since
pub reply_was_found :
    {t₀ : Tables} → Started t₀ → (m v : ℕ) (ss : List Step) → (message_at (run_of t₀ ss) m).body ≡ Body.Reply v → RepliedBefore t₀ ss m v
reply_was_found {t₀} fresh m v ss c =
    let came : CameBefore (λ t step. RepliedInto t step m) t₀ ss m =
    came_before m is_reply (λ t step. RepliedInto t step m)
    (λ y. false≢true (ap is_reply (sym ((started_is_empty fresh).empty m)) ∙ y))
    (λ ss s. reply_was_left (run_of t₀ ss) m (sound_run fresh ss) s)
    ss
    (rw c) in
    let left = replied_finds (run_of t₀ came.first) came.step m (sound_run fresh came.first) came.by in
    let same : Body.Reply v ≡ Body.Reply (object_at (run_of t₀ came.first) came.by.call.object).value =
    sym c ∙ ap (λ (x : Message). x.body) came.waits ∙ left in
    record { came = came; found = cc }

-- so in every run an accepted delivery of a reply answers what its call found
pub collected_is_found :
    {t₀ : Tables} → Started t₀ → (ss : List Step) (m v : ℕ) → (message_at (run_of t₀ ss) m).body ≡ Body.Reply v
    → is_accepted (step_of (run_of t₀ ss) (Step.Deliver m)).answer ≡ true
    → ((step_of (run_of t₀ ss) (Step.Deliver m)).answer ≡ Ok v) × RepliedBefore t₀ ss m v
collected_is_found {t₀} fresh ss m v reply a =
    (reply_answers (run_of t₀ ss) m v reply a, reply_was_found fresh m v ss reply)

-- ---- an operation

-- a body that calls for an object is a call
calls_called : (k : ℕ) (b : Body) → calls_for k b ≡ true → is_called b ≡ true
calls_called k Body.Empty e = e
calls_called k (Body.Call c) e = refl
calls_called k (Body.PhaseOne n asked) e = e
calls_called k (Body.PhaseTwo n told) e = e
calls_called k (Body.Answer n received q) e = e
calls_called k (Body.Reply value) e = e

-- in every run: every operation does what an earlier accepted invoke said, whose call has waited since
pub operation_was_invoked :
    {t₀ : Tables} → Started t₀ → (ss : List Step) (p k : ℕ) (s : Step) → operates (run_of t₀ ss) p k s ≡ true → WasInvoked t₀ ss p k s
operation_was_invoked {t₀} fresh ss p k s e =
    record {
      sent = sent;
      slot = slot;
      object = object;
      done =
          record {
            does = rw (slot, object) e;
            operation = ap is_write body ∙ said.operation;
            value = ap to_write body ∙ said.value;
          };
    }
  where
    t : Tables
    t = run_of t₀ ss

    m : ℕ
    m = (flat_of s).c % 32

    -- the parts of an operation
    for : calls_for k (mail_named t s).body ≡ true
    for = and_right (eqb (slot_of (mail_named t s).handle) p) _ (and_right (is_step 11 s) _ (and_right (is_accepted (step_of t s).answer) _ e))

    own : slot_of (mail_named t s).handle ≡ p
    own = eqb-true _ _ (and_left _ (calls_for k (mail_named t s).body) (and_right (is_step 11 s) _ (and_right (is_accepted (step_of t s).answer) _ e)))

    sent : SentBefore t₀ ss m
    sent = call_was_sent fresh m ss (calls_called k (mail_named t s).body for)

    went : InvokedInto (run_of t₀ sent.first) sent.step m
    went = sent.by

    said :
        SaysCall
        (run_of t₀ sent.first)
        (step_of (run_of t₀ sent.first) (Step.Invoke went.handle went.site went.operation went.object went.value)).tables
        went.handle
        went.site
        went.operation
        went.object
        went.value
        m
    said =
        rw went.answers at
        (invoked_says (run_of t₀ sent.first) went.handle went.site went.operation went.object went.value
        (sound_run fresh sent.first) went.accepted)

    same :
        mail_named t s
        ≡ message_at
        (step_of (run_of t₀ sent.first) (Step.Invoke went.handle went.site went.operation went.object went.value)).tables
        m
    same = sent.waits ∙ ap (λ (x : Step). message_at (step_of (run_of t₀ sent.first) x).tables m) went.invokes

    body : (mail_named t s).body ≡ Body.Call said.call
    body = ap (λ (x : Message). x.body) same ∙ said.body

    slot : slot_of went.handle ≡ p
    slot = ap slot_of (sym (ap (λ (x : Message). x.handle) same ∙ said.handle)) ∙ own

    object : went.object ≡ k
    object = sym said.object ∙ eqb-true _ _ (rw body at for)
