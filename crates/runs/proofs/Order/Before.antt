-- By their stamps, what a passage operates comes before what it lets go: of an operation and a later letting go, and of a letting go and a later operation.
-- The idea: an operation is before the quiesce time of its visit, that is at most every release time, and a sweep lets go at a release time at the earliest;
-- a commit lets go after home has heard from every station, and then no call is in flight. Assumes nothing.
use Rattle.std.specs.Prelude.{ℕ, ◌+◌, ◌%◌, ◌≤◌, ◌<◌, ◌≡◌, refl, ◌⊎◌, true, false, cond, ◌&&◌, eqb}
use Rattle.std.proofs.Common.{arith, sym, ap, ◌∙◌, subst, ⊎_elim, inl, inr, eqb-true}
use Rattle.std.proofs.lemmas.Bool.{false≢true}
use Rattle.rules.specs.LoopsLaws.{either, and_left, and_right}
use Rattle.rules.specs.Tables.{site_at, passage_at, visit_at, message_at, slot_of, object_site}
use Rattle.rules.specs.Answers.{is_accepted}
use Rattle.rules.specs.Parts.{has_answered}
use Rattle.rules.specs.Machine.{places_of, step_of}
use Rattle.rules.specs.Record.{flat_of, is_step}
use Rattle.rules.specs.Events.{is_holding}
use Rattle.runs.specs.Types.{Kind, Status, Visit, Call, Told, Body, Message, Tables, Step}
use Rattle.runs.specs.Walk.Says.{is_binding, carries_commit}
use Rattle.runs.proofs.Walk.Plain.{when_true, when_false}
use Rattle.runs.proofs.Walk.Clocks.{clock_adds}
use Rattle.runs.specs.Times.View.{Ledger, view_of}
use Rattle.runs.specs.Times.Clauses.{Quiet, Holds}
use Rattle.runs.proofs.Times.Store.{own_body}
use Rattle.runs.proofs.Kept.Answered.{closing_binding}
use Rattle.runs.proofs.Holders.HeldStore.{Held}
use Rattle.runs.specs.Operations.Definitions.{mail_named, calls_for, operates, said_quiesce, operated_at, StillOpen, SweptAt}
use Rattle.runs.proofs.Operations.Delivered.{delivered_after_sent}
use Rattle.runs.proofs.Operations.Operated.{nothing_after_quiesce, quiesce_after_operated, station_of_operated}
use Rattle.runs.proofs.Operations.LetGo.{let_go_by}
use Rattle.runs.proofs.Commits.VowLaws.{committed_tells}
use Rattle.runs.proofs.Commits.Pledged.{Pledged, pledged_after_step}
use Rattle.runs.proofs.Commits.Since.{Carried}
use Rattle.runs.proofs.Commits.Word.{WordOf, word_of, word_seen, committed_after_word}
use Rattle.runs.proofs.Order.Gone.{Gone}
use Rattle.runs.proofs.Order.Marked.{Marked}
use Rattle.runs.proofs.Order.SweptLedger.{ReleasedBy, sweep_released}

-- ---- a visit that is still open is not quiet

module _ (t : Tables) (ls : ℕ → Ledger) (k : Pledged t ls) (s p : ℕ) (slot : p < 16) (early : StillOpen t s p) where
  hold : Holds (view_of t p) (ls p)
  hold = k.kept.slots p slot

  open_seen : (ls p s).seen ≡ true
  open_seen = (hold.mirror s early.there).0

  open_early : (site_at t s).clock < (ls p s).last.quiesce
  open_early = subst (λ (v : Visit). (site_at t s).clock < v.quiesce) (sym (hold.mirror s early.there).1) early.early

  open_not_quiet : Quiet (view_of t p) (ls p) → ⊥
  open_not_quiet q =
      let i : (ls p s).last.quiesce ≤ (site_at t s).clock = q.quiesced s open_seen in
      let j : (site_at t s).clock < (ls p s).last.quiesce = open_early in
      omega arith

  -- it has not answered a round that binds
  open_unanswered : is_binding (passage_at t p).round.kind ≡ true → (ls p s).last.round ≡ (passage_at t p).round.number → ⊥
  open_unanswered b e =
      let i : (ls p s).last.quiesce ≤ (site_at t s).clock = (hold.sites s open_seen).bound b e in
      let j : (site_at t s).clock < (ls p s).last.quiesce = open_early in
      omega arith

  -- so an operation has its mark right after it
  pub marked_at_once : Marked (site_at t s).clock s (view_of t p) (ls p)
  marked_at_once =
      record {
        seen = open_seen;
        early = open_early;
        past = omega arith;
        answered = λ kind yes. absurd (open_unanswered (rw kind) (hold.passage.kept s (hold.sites s open_seen).place yes).answered);
        answer =
            λ kind j n r q body number source.
            let same : (ls p s).last.round ≡ (passage_at t p).round.number =
            subst (λ (x : ℕ). (ls p x).last.round ≡ (passage_at t p).round.number) source (((hold.mail j).answer n r q body).1 number).answered in
            absurd (open_unanswered (rw kind) same);
        tells = λ kind two. absurd (open_not_quiet (hold.passage.closed_quiet two (rw kind)));
        word = λ j e. absurd (open_not_quiet (word_quiet j ((view_of t p).mail j).body refl e));
      }
    where
      word_quiet : (j : ℕ) (b : Body) → ((view_of t p).mail j).body ≡ b → carries_commit b ≡ true → Quiet (view_of t p) (ls p)
      word_quiet j Body.Empty y e = absurd (false≢true e)
      word_quiet j (Body.Call c) y e = absurd (false≢true e)
      word_quiet j (Body.PhaseOne n a) y e = absurd (false≢true e)
      word_quiet j (Body.PhaseTwo n (Told.Refresh q)) y e = absurd (false≢true e)
      word_quiet j (Body.PhaseTwo n (Told.Terminate m)) y e = absurd (false≢true e)
      word_quiet j (Body.PhaseTwo n Told.Prepare) y e = ((hold.mail j).two n Told.Prepare y).1
      word_quiet j (Body.Answer n r q) y e = absurd (false≢true e)
      word_quiet j (Body.Reply v) y e = absurd (false≢true e)

-- ---- an operation, and a later letting go

-- of a marked passage: home's word is after the mark
word_after :
    (x s p : ℕ) (t : Tables) (step : Step) (site : ℕ) → p < 16 → Carried (Marked x s) p t → WordOf t site p step → is_accepted (step_of t step).answer ≡ true
    → x < (site_at (step_of t step).tables site).clock
unfolding places_of
word_after x s p t _ site slot c (WordOf.Closes h w) a =
    let hold = c.pledged.kept.slots p slot in
    let kind : (passage_at t p).round.kind ≡ Kind.Prepare = w.closes.kind in
    let yes : has_answered (passage_at t p).round s ≡ true =
    closing_binding (view_of t p) (c.ledgers p) hold w.closes.asks w.closes.closed (rw kind) s c.has.seen in
    let late : x ≤ (site_at t (passage_at t p).home).clock = c.has.answered kind yes in
    let place : (passage_at t p).home < 8 = hold.passage.home in
    let here : (passage_at t p).home ≡ site = (let y : (passage_at t p).home % 8 ≡ site = w.home in omega arith) in
    let moved : (site_at t ((passage_at t (slot_of h)).home % 8)).clock + 1 ≤ (site_at (step_of t (Step.Close h)).tables ((passage_at t (slot_of h)).home % 8)).clock =
    clock_adds t (Step.Close h) c.pledged.kept.sound a refl in
    let there : (site_at t site).clock + 1 ≤ (site_at (step_of t (Step.Close h)).tables site).clock =
    subst
    (λ (y : ℕ). (site_at t y).clock + 1 ≤ (site_at (step_of t (Step.Close h)).tables y).clock)
    (ap (λ (q : ℕ). (passage_at t q).home % 8) w.slot ∙ w.home)
    moved in
    let at : x ≤ (site_at t site).clock = subst (λ (y : ℕ). x ≤ (site_at t y).clock) here late in
    omega arith
word_after x s p t _ site slot c (WordOf.Mails m w) a =
    let same : (view_of t p).mail (m % 32) ≡ message_at t (m % 32) = word_seen t c.ledgers c.pledged p slot (m % 32) w.slot w.word in
    let late : x ≤ (message_at t (m % 32)).stamp =
    subst (λ (y : Message). x ≤ y.stamp) same (c.has.word (m % 32) (ap (λ (y : Message). carries_commit y.body) same ∙ w.word)) in
    let sent : (message_at t (m % 32)).stamp < (site_at (step_of t (Step.Deliver m)).tables ((message_at t (m % 32)).destination % 8)).clock =
    (delivered_after_sent t m c.pledged.kept.sound a).sent in
    let there : (message_at t (m % 32)).stamp < (site_at (step_of t (Step.Deliver m)).tables site).clock =
    subst (λ (y : ℕ). (message_at t (m % 32)).stamp < (site_at (step_of t (Step.Deliver m)).tables y).clock) w.here sent in
    omega arith

-- a sweep that is due is after it: a quiesce time is at most every release time
swept_after :
    (x s p : ℕ) (t : Tables) (step : Step) (site : ℕ) → p < 16 → Carried (Marked x s) p t → SweptAt t step site p
    → x < (site_at (step_of t step).tables site).clock
swept_after x s p t step site slot c w =
    let hold = c.pledged.kept.slots p slot in
    let was = hold.mirror site w.there in
    let times : (c.ledgers p s).last.quiesce ≤ (c.ledgers p site).last.release = (hold.sites s c.has.seen).times.visits site was.0 in
    let due : (visit_at t site p).release ≤ (site_at (step_of t step).tables site).clock = w.released in
    let same : (c.ledgers p site).last.release ≡ (visit_at t site p).release = ap (λ (v : Visit). v.release) was.1 in
    let early : x < (c.ledgers p s).last.quiesce = c.has.early in
    omega arith

pub marked_before_letting_go :
    (x s p k : ℕ) (t : Tables) (step : Step) → p < 16 → Carried (Marked x s) p t → is_holding t p k ≡ true → is_holding (step_of t step).tables p k ≡ false
    → x < (site_at (step_of t step).tables (object_site k)).clock
marked_before_letting_go x s p k t step slot c held free =
    ⊎_elim
    (λ w. word_after x s p t step (object_site k) slot c (word_of t step (object_site k) p w.0 w.1) w.0)
    (λ w. swept_after x s p t step (object_site k) slot c w)
    (let_go_by t step k p slot c.pledged.kept.sound held free)

-- ---- a letting go, and a later operation

-- what is carried from a letting go on: the passage is committed, or a visit of it has gone that had this release time at most
abbrev pub SinceLetGo : ℕ → ℕ → ℕ → Tables → Type 0
SinceLetGo x s p t = Carried (λ w l. w.passage.status ≡ Status.Committed) p t ⊎ Carried (Gone x s) p t

pub let_go_at_once :
    (p k : ℕ) (t : Tables) (ls : ℕ → Ledger) (step : Step) → p < 16 → Pledged t ls
    → is_holding t p k ≡ true → is_holding (step_of t step).tables p k ≡ false
    → SinceLetGo (site_at (step_of t step).tables (object_site k)).clock (object_site k) p (step_of t step).tables
let_go_at_once p k t ls step slot pledged held free =
    ⊎_elim
    (λ w.
    inl
    (record {
      ledgers = _;
      pledged = pledged_after_step t step ls pledged;
      has = committed_after_word t ls pledged p slot step (object_site k) w.0 w.1;
    }))
    (λ w. inr (swept step w))
    (let_go_by t step k p slot pledged.kept.sound held free)
  where
    swept :
        (x : Step) → SweptAt t x (object_site k) p
        → Carried (Gone (site_at (step_of t x).tables (object_site k)).clock (object_site k)) p (step_of t x).tables
    swept x w =
        let was = (pledged.kept.slots p slot).mirror (object_site k) w.there in
        let y = subst
        (λ (z : Step). is_accepted (step_of t z).answer ≡ true → (visit_at t (object_site k) p).release ≤ (site_at (step_of t z).tables (object_site k)).clock
        → Carried (λ v l. ReleasedBy (site_at (step_of t z).tables (object_site k)).clock (object_site k) l) p (step_of t z).tables)
        (sym w.sweeps)
        (λ a due.
        sweep_released _ (object_site k) p slot t (object_site k) ls pledged a
        (was.0, subst (λ (v : Visit). v.release ≤ (site_at (step_of t (Step.Sweep (object_site k))).tables (object_site k)).clock) (sym was.1) due))
        w.accepted
        w.released in
        record {
          ledgers = y.ledgers;
          pledged = y.pledged;
          has = record { seen = y.has.0; gone = w.gone; released = y.has.1 };
        }

-- the call that an operation delivers
pub record CallOf (t : Tables) (p k : ℕ) (step : Step) : Type 0 where
  pub call : Call
  pub body : (mail_named t step).body ≡ Body.Call call
  pub own : slot_of (mail_named t step).handle ≡ p

pub called_by : (t : Tables) (p k : ℕ) (step : Step) → operates t p k step ≡ true → CallOf t p k step
called_by t p k step e = go (mail_named t step).body refl (and_right (eqb (slot_of (mail_named t step).handle) p) _ named)
  where
    named : (eqb (slot_of (mail_named t step).handle) p && calls_for k (mail_named t step).body) ≡ true
    named = and_right (is_step 11 step) _ (and_right (is_accepted (step_of t step).answer) _ e)

    go : (b : Body) → (mail_named t step).body ≡ b → calls_for k b ≡ true → CallOf t p k step
    go Body.Empty y f = absurd (false≢true f)
    go (Body.Call c) y f = record { call = c; body = y; own = eqb-true _ _ (and_left _ (calls_for k (mail_named t step).body) named) }
    go (Body.PhaseOne n a) y f = absurd (false≢true f)
    go (Body.PhaseTwo n d) y f = absurd (false≢true f)
    go (Body.Answer n r q) y f = absurd (false≢true f)
    go (Body.Reply v) y f = absurd (false≢true f)

pub operation_before_let_go :
    (x s p k : ℕ) (t : Tables) (step : Step) → p < 16 → Held t → SinceLetGo x s p t → operates t p k step ≡ true
    → (site_at (step_of t step).tables (object_site k)).clock < x
operation_before_let_go x s p k t step slot held (inl c) e =
    let called = called_by t p k step e in
    let tells = committed_tells (passage_at t p) (c.pledged.vows p slot).round c.has in
    absurd
    ((((c.pledged.kept.slots p slot).passage.closed_quiet tells.1 (rw tells.0)).mail ((flat_of step).c % 32)).call called.call
    (own_body p (mail_named t step) (Body.Call called.call) called.body refl called.own))
operation_before_let_go x s p k t step slot held (inr c) e =
    let z = c.pledged.kept.sound in
    let hold = c.pledged.kept.slots p slot in
    let called = called_by t p k step e in
    let mine : ((view_of t p).mail ((flat_of step).c % 32)).body ≡ Body.Call called.call =
    own_body p (mail_named t step) (Body.Call called.call) called.body refl called.own in
    let early : (site_at (step_of t step).tables (operated_at t step)).clock < (visit_at (step_of t step).tables (operated_at t step) p).quiesce =
    (nothing_after_quiesce t p k step z e).early in
    let due : (c.ledgers p s).last.release ≤ x = c.has.released in
    let visit : Visit = visit_at t (operated_at t step) p in
    let times : cond visit.there visit.quiesce (said_quiesce (mail_named t step).body) ≤ (c.ledgers p s).last.release =
    ⊎_elim
    (λ there.
    let was = hold.mirror (operated_at t step) there in
    when_true (λ (y : ℕ). y ≤ (c.ledgers p s).last.release) visit.there _ _ there
    (subst (λ (v : Visit). v.quiesce ≤ (c.ledgers p s).last.release) was.1 ((hold.sites (operated_at t step) was.0).times.visits s c.has.seen)))
    (λ missing.
    when_false (λ (y : ℕ). y ≤ (c.ledgers p s).last.release) visit.there _ _ missing
    (rw called.body (((hold.mail ((flat_of step).c % 32)).call called.call mine).times.visits s c.has.seen)))
    (either visit.there) in
    let same = quiesce_after_operated t p k step z e in
    subst (λ (y : ℕ). (site_at (step_of t step).tables y).clock < x) (station_of_operated t p k step z e held) (omega (arith, same))
