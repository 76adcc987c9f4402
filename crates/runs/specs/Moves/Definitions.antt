-- What an accepted store does to the passage slot that it is for, by kinds: one for each way in which a step may move a passage, its visit and its mail.
-- A law about a passage along a run then has a row for each kind, and none for each step.
-- w is the slot's view before, a the site and k the message slot of the store;
-- p, v, c and m are the passage, the visit at a, the clock of a and the message at k after it. Assumes nothing.
use Rattle.std.specs.Prelude.{ℕ, ◌+◌, ◌<◌, ◌≤◌, ◌≡◌, ◌⊎◌, Bool, true, false, cond, ◌&&◌, eqb}
use Rattle.rules.specs.declared.looking.Trip.{Trip}
use Rattle.rules.specs.Loops.{one_if}
use Rattle.rules.specs.Tables.{no_visit, no_round, no_message}
use Rattle.rules.specs.Ranges.{phase_fits}
use Rattle.rules.specs.Parts.{is_active, is_running, is_closed, aborted_passage, with_round, with_answer, where_there, quieted, count_sent, count_received, asked_of, asked_visit, told_visit, asks_life}
use Rattle.rules.specs.Rounds.{round_told, opened_passage, closed_passage}
use Rattle.rules.specs.Calls.{called_visit}
use Rattle.rules.specs.Record.{is_step}
use Rattle.runs.specs.Types.{Kind, Phase, Status, Passage, Visit, Call, Asked, Told, Body, Message, Step}
use Rattle.runs.specs.Walk.Says.{is_prepare, body_kind, carries_commit}
use Rattle.runs.specs.Times.View.{View}
use Rattle.runs.specs.Times.Clauses.{sent_figures, call_to}

-- ---- what is said of a visit and of a message

abbrev pub is_answer : Body → Bool
is_answer b = eqb (body_kind b) 4

-- a message that is no answer and carries no commit's word
pub record PlainMail (m : Message) : Type 0 where
  pub commit : carries_commit m.body ≡ false
  pub answer : is_answer m.body ≡ false

-- one that is no call either
pub record Uncalled (m : Message) : Type 0 where
  pub plain : PlainMail m
  pub none : (d : ℕ) → call_to d m ≡ 0

-- ---- which status each kind of round is opened from

abbrev pub OpenedFrom : Kind → Status → Type 0
OpenedFrom Kind.None s = ⊥
OpenedFrom (Kind.Refresh q r) s = s ≡ Status.Active
OpenedFrom Kind.Terminate s = s ≡ Status.Aborted
OpenedFrom Kind.Prepare s = is_running s ≡ true

-- ---- a step's own store

pub data Move (step : Step) (w : View) (a k : ℕ) (p : Passage) (v : Visit) (c : ℕ) (m : Message) : Type 0 where
  -- the clock moves, a question goes out, a reply is collected, or a message is lost
  Rests :
      p ≡ w.passage → v ≡ w.visit a → w.clock a ≤ c → (m ≡ w.mail k) ⊎ Uncalled m
      → Move step w a k p v c m
  -- a call goes out, and the visit counts it as sent to site d
  Sends :
      (d : ℕ) → d < 8 → p ≡ w.passage → (w.visit a).there ≡ true → v ≡ count_sent (w.visit a) d → w.clock a ≤ c
      → PlainMail m → ((e : ℕ) → call_to e m ≤ one_if (eqb d e)) → Move step w a k p v c m
  -- home tells a site what its round has closed with
  Tells :
      p ≡ w.passage → v ≡ w.visit a → w.clock a ≤ c → a ≡ w.passage.home
      → w.passage.round.phase ≡ Phase.Two → is_answer m.body ≡ false
      → (carries_commit m.body ≡ true → (is_prepare w.passage.round.kind ≡ true) × (m.stamp ≡ c))
      → ((d : ℕ) → call_to d m ≡ 0) → Move step w a k p v c m
  Begins :
      w.passage.status ≡ Status.Free → p.status ≡ Status.Active → p.round ≡ no_round → v.prepared ≡ false → w.clock a ≤ c
      → m ≡ w.mail k → Move step w a k p v c m
  Retires : is_step 16 step ≡ true → p.status ≡ Status.Free → p.round ≡ no_round → v ≡ w.visit a → w.clock a ≤ c → Move step w a k p v c m
  Opens :
      (kind : Kind) → OpenedFrom kind w.passage.status → a ≡ w.passage.home → (w.visit a).there ≡ true
      → p ≡ opened_passage kind w.passage v
      → v ≡ asked_visit (asked_of kind) (w.passage.round.number + 1) c (w.visit a)
      → w.clock a < c → m ≡ w.mail k → Move step w a k p v c m
  Closes :
      a ≡ w.passage.home → w.passage.round.phase ≡ Phase.One → is_closed w.passage.round ≡ true
      → p ≡ closed_passage (round_told w.passage.round) w.passage
      → v ≡ where_there (w.visit a) (told_visit (round_told w.passage.round) (w.visit a))
      → w.clock a < c → m ≡ w.mail k → phase_fits w.passage.round.kind w.passage.round.phase ≡ true
      → Move step w a k p v c m
  Aborts :
      is_running w.passage.status ≡ true → p ≡ aborted_passage w.passage
      → v ≡ where_there (w.visit a) (quieted (w.visit a) c false (w.visit a).dead)
      → w.clock a < c → m ≡ w.mail k → Move step w a k p v c m
  -- a call is delivered, and its reply stands in its slot
  Receives :
      (call : Call) → (w.mail k).body ≡ Body.Call call → a ≡ (w.mail k).destination → p ≡ w.passage
      → v ≡ count_received (called_visit call (w.visit a)) → c < (called_visit call (w.visit a)).quiesce
      → w.clock a < c → Uncalled m → Move step w a k p v c m
  -- a phase 1 message is delivered, away from home, and answered; a refresh and a prepare not to a dead visit
  Answers :
      (n : ℕ) (asked : Asked) → (w.mail k).body ≡ Body.PhaseOne n asked → p ≡ w.passage
      → (w.visit a).there ≡ true → (asks_life asked && (w.visit a).dead) ≡ false → (w.visit a).round < n → v ≡ asked_visit asked n c (w.visit a)
      → w.clock a < c → carries_commit m.body ≡ false
      → (is_answer m.body ≡ true → (m.source ≡ a) × (m.destination ≡ w.passage.home) × (m.stamp ≡ c))
      → ((d : ℕ) → call_to d m ≡ 0) → Move step w a k p v c m
  -- a phase 2 message is delivered, away from home
  Hears :
      (n : ℕ) (told : Told) → (w.mail k).body ≡ Body.PhaseTwo n told → p ≡ w.passage → (w.visit a).there ≡ true
      → v ≡ told_visit told (w.visit a) → w.clock a < c → m ≡ no_message → Move step w a k p v c m
  -- an answer of the open round is delivered, and its figures are kept
  Keeps :
      (n received q : ℕ) → (w.mail k).body ≡ Body.Answer n received q → n ≡ w.passage.round.number
      → a ≡ (w.mail k).destination
      → p ≡ with_round w.passage (with_answer w.passage.round (w.mail k).source (sent_figures (w.mail k) received q))
      → v ≡ w.visit a → w.clock a < c → (w.mail k).stamp < c → m ≡ no_message → Move step w a k p v c m

-- ---- one slot of a sweep or of a crash; no message is stored

pub data Turn (w : View) (a : ℕ) (p : Passage) (v : Visit) : Trip → Type 0 where
  Stays : (trip : Trip) → p ≡ w.passage → v ≡ w.visit a → Turn w a p v trip
  Sweeps :
      (site : ℕ) (aborts : Bool) → (aborts ≡ true → is_active w.passage.status ≡ true)
      → p ≡ cond aborts (aborted_passage w.passage) w.passage
      → (w.visit a).there ≡ true → (w.visit a).prepared ≡ false → v ≡ no_visit → Turn w a p v (Trip.Sweep site)
  -- a prepared visit is hit only where its passage loses its home
  Crashes :
      (site : ℕ) (aborts hits : Bool) → (aborts ≡ true → is_running w.passage.status ≡ true)
      → p ≡ cond aborts (aborted_passage w.passage) w.passage
      → (aborts ≡ false → hits ≡ true → (w.visit a).prepared ≡ false)
      → v ≡ where_there (w.visit a) (cond hits (quieted (w.visit a) (w.clock a) false true) (w.visit a))
      → Turn w a p v (Trip.Crash site)
