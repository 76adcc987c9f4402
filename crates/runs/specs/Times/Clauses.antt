-- The invariant behind the time rule, for one passage slot: its view and its ledger. Assumes nothing.
use Rattle.std.specs.Prelude.{ℕ, ◌+◌, ◌<◌, ◌≤◌, ◌≡◌, ◌≢◌, ◌⊎◌, Bool, true, false, cond, ◌&&◌, eqb, length, get_or}
use Rattle.rules.specs.Loops.{one_if, sum_up_to}
use Rattle.rules.specs.Tables.{no_round}
use Rattle.rules.specs.Parts.{is_over, is_empty, figures_at, has_answered, largest_quiesce, asked_of}
use Rattle.runs.specs.Types.{Figures, Kind, Phase, Round, Status, Call, Asked, Told, Body, Message}
use Rattle.runs.specs.Walk.Says.{is_refresh, is_binding, body_kind}
use Rattle.runs.specs.Times.View.{View, Past, Ledger}

-- ---- releases: those of every visit that was ever there, and of every making call, that is a call to a site that has seen no visit

pub record Below (w : View) (l : Ledger) (q : ℕ) : Type 0 where
  pub visits : (t : ℕ) → (l t).seen ≡ true → q ≤ (l t).last.release
  pub calls : (k : ℕ) (c : Call) → (w.mail k).body ≡ Body.Call c → (l (w.mail k).destination).seen ≡ false → q ≤ c.release

-- ---- quiet: nothing that the passage has anywhere can still do harm

-- a message of a quiet passage is no call, and a phase 2 refresh comes too late
pub record QuietMail (l : Ledger) (d : ℕ) (b : Body) : Type 0 where
  pub call : (c : Call) → b ≡ Body.Call c → ⊥
  pub late : (n q : ℕ) → b ≡ Body.PhaseTwo n (Told.Refresh q) → ((l d).seen ≡ true) × (n < (l d).last.round)

pub record Quiet (w : View) (l : Ledger) : Type 0 where
  pub binding : is_binding w.passage.round.kind ≡ true
  pub over : is_over w.passage.status ≡ true
  pub mail : (k : ℕ) → QuietMail l (w.mail k).destination (w.mail k).body
  pub quiesced : (s : ℕ) → (l s).seen ≡ true → (l s).last.quiesce ≤ w.clock s

-- ---- figures: those kept of a site that has answered, and those in an answer in flight with the round's number

abbrev pub sent_figures : Message → ℕ → ℕ → Figures
sent_figures m received q = record { sent = m.sent; received = received; quiesce = q }

pub record InAnswer (n v : ℕ) (f : Figures) (m : Message) (b : Body) : Type 0 where
  pub received : ℕ
  pub quiesce : ℕ
  pub body : b ≡ Body.Answer n received quiesce
  pub source : m.source ≡ v
  pub figures : f ≡ sent_figures m received quiesce

abbrev pub KeptFigure : Round → ℕ → Figures → Type 0
KeptFigure r v f = (v < 8) × (has_answered r v ≡ true) × (f ≡ figures_at r v)

abbrev pub Figure : View → ℕ → Figures → Type 0
Figure w v f =
    KeptFigure w.passage.round v f
    ⊎ ((k : ℕ) × InAnswer w.passage.round.number v f (w.mail k) (w.mail k).body)

-- what holds of figures of site v
pub record FigureFine (w : View) (l : Ledger) (v : ℕ) (f : Figures) : Type 0 where
  pub seen : (l v).seen ≡ true
  pub answered : (l v).last.round ≡ w.passage.round.number
  pub bound :
      is_binding w.passage.round.kind ≡ true
      → (f.sent ≡ (l v).last.sent) × (f.received ≡ (l v).last.received) × ((l v).last.quiesce ≤ f.quiesce)

-- ---- edges: a call from v to d with round k, in flight or the one that made d's visit

pub record EdgeFine (w : View) (l : Ledger) (v d k : ℕ) : Type 0 where
  pub seen : (l v).seen ≡ true
  pub born : (l v).born ≤ k
  pub sent : 1 ≤ get_or (l v).last.sent d 0
  pub figures :
      is_refresh w.passage.round.kind ≡ true → k < w.passage.round.number → (f : Figures)
      → Figure w v f → 1 ≤ get_or f.sent d 0

-- ---- what holds of each site that has seen the passage

pub record SiteFine (w : View) (l : Ledger) (s : ℕ) : Type 0 where
  pub place : s < 8
  pub counts : length (l s).last.sent ≡ 8
  pub number : (l s).last.round ≤ w.passage.round.number
  pub born : (l s).born ≤ (l s).last.round
  pub tree : s ≢ w.passage.home → (l (l s).caller).depth < (l s).depth
  pub edge : s ≢ w.passage.home → EdgeFine w l (l s).caller s (l s).born
  pub times : Below w l (l s).last.quiesce
  pub refresh_one :
      (q r : ℕ) → w.passage.round.kind ≡ Kind.Refresh q r
      → (l s).last.round ≡ w.passage.round.number → r ≤ (l s).last.release
  pub bound :
      is_binding w.passage.round.kind ≡ true
      → (l s).last.round ≡ w.passage.round.number → (l s).last.quiesce ≤ w.clock s
  pub gone : (w.visit s).there ≡ false → ((l s).last.release ≤ w.clock s) ⊎ Quiet w l
  pub largest :
      w.passage.round.phase ≡ Phase.Two → w.passage.round.kind ≡ Kind.Terminate
      → (l s).last.quiesce ≤ largest_quiesce w.passage.round

-- ---- what holds of each message

pub record CallFine (w : View) (l : Ledger) (m : Message) (c : Call) : Type 0 where
  pub number : c.round ≤ w.passage.round.number
  pub edge : EdgeFine w l m.source m.destination c.round
  pub times : Below w l c.quiesce
  pub refresh_one :
      (q r : ℕ) → w.passage.round.kind ≡ Kind.Refresh q r → (l m.destination).seen ≡ false
      → c.round ≡ w.passage.round.number → r ≤ c.release
  pub bound : is_binding w.passage.round.kind ≡ true → c.round ≢ w.passage.round.number

pub record PhaseOneFine (w : View) (m : Message) (n : ℕ) (a : Asked) : Type 0 where
  pub number : n ≤ w.passage.round.number
  pub away : m.destination ≢ w.passage.home
  pub kind : n ≡ w.passage.round.number → a ≡ asked_of w.passage.round.kind

pub record LateFine (w : View) (l : Ledger) (m : Message) (n q : ℕ) : Type 0 where
  pub seen : (l m.destination).seen ≡ true
  pub number : n ≤ (l m.destination).last.round
  pub late : n ≡ (l m.destination).last.round → Below w l q
  pub kind : n ≡ w.passage.round.number → is_refresh w.passage.round.kind ≡ true

abbrev pub ToldFine : View → Ledger → Message → ℕ → Told → Type 0
ToldFine w l m n (Told.Refresh q) = LateFine w l m n q
ToldFine w l m n (Told.Terminate x) = Quiet w l × ((s : ℕ) → (l s).seen ≡ true → (l s).last.quiesce ≤ x)
ToldFine w l m n Told.Prepare = Quiet w l

-- of a message, by what it is; of an empty slot nothing is said
pub record BodyFine (w : View) (l : Ledger) (m : Message) (b : Body) : Type 0 where
  pub call : (c : Call) → b ≡ Body.Call c → CallFine w l m c
  pub one : (n : ℕ) (a : Asked) → b ≡ Body.PhaseOne n a → PhaseOneFine w m n a
  pub two : (n : ℕ) (told : Told) → b ≡ Body.PhaseTwo n told → (m.destination ≢ w.passage.home) × ToldFine w l m n told
  pub answer :
      (n received q : ℕ) → b ≡ Body.Answer n received q
      → (n ≤ w.passage.round.number)
      × (n ≡ w.passage.round.number → FigureFine w l m.source (sent_figures m received q))

-- a message slot in use is one of 32, and goes from a site to a site
abbrev pub Posted : ℕ → Message → Type 0
Posted k m = is_empty m.body ≡ false → (k < 32) × (m.source < 8) × (m.destination < 8)

-- ---- what holds of the passage itself

pub record PassageFine (w : View) (l : Ledger) : Type 0 where
  pub home : w.passage.home < 8
  pub mask : w.passage.round.answered < 256
  pub figures : length w.passage.round.figures ≡ 8
  pub kept :
      (v : ℕ) → v < 8 → has_answered w.passage.round v ≡ true
      → FigureFine w l v (figures_at w.passage.round v)
  pub home_answers : w.passage.round.phase ≢ Phase.None → has_answered w.passage.round w.passage.home ≡ true
  pub refresh_one : (q r : ℕ) → w.passage.round.kind ≡ Kind.Refresh q r → q ≤ r
  pub refresh_two :
      (q r : ℕ) → w.passage.round.phase ≡ Phase.Two → w.passage.round.kind ≡ Kind.Refresh q r → Below w l q
  pub closed_quiet :
      w.passage.round.phase ≡ Phase.Two → is_binding w.passage.round.kind ≡ true → Quiet w l
  pub terminate_aborted :
      w.passage.round.kind ≡ Kind.Terminate → w.passage.round.phase ≢ Phase.None
      → w.passage.status ≡ Status.Aborted

-- a free slot has nothing
pub record FreeFine (w : View) (l : Ledger) : Type 0 where
  pub round : w.passage.round ≡ no_round
  pub visits : (s : ℕ) → (w.visit s).there ≡ false
  pub mail : (k : ℕ) → (w.mail k).body ≡ Body.Empty
  pub ledger : (s : ℕ) → (l s).seen ≡ false

-- ---- balance: for each site, the calls received and in flight are at most the calls sent

abbrev pub is_call_to : ℕ → ℕ → Body → Bool
is_call_to d a b = eqb (body_kind b) 1 && eqb a d

-- a call to d, as a number
abbrev pub call_to : ℕ → Message → ℕ
call_to d m = one_if (is_call_to d m.destination m.body)

abbrev pub calls_to : View → ℕ → ℕ
calls_to w d = sum_up_to (λ k. one_if (is_call_to d (w.mail k).destination (w.mail k).body)) 32

abbrev pub received_by : Past → ℕ
received_by x = cond x.seen x.last.received 0

abbrev pub sent_by : ℕ → Past → ℕ
sent_by d x = cond x.seen (get_or x.last.sent d 0) 0

-- the calls to a site that were received or are in flight are at most those that were sent
abbrev pub Balanced : View → Ledger → ℕ → Type 0
Balanced w l d = received_by (l d) + calls_to w d ≤ sum_up_to (λ v. sent_by d (l v)) 8

-- ---- all of it

pub record Holds (w : View) (l : Ledger) : Type 0 where
  pub free : w.passage.status ≡ Status.Free → FreeFine w l
  pub mirror : (s : ℕ) → (w.visit s).there ≡ true → ((l s).seen ≡ true) × ((l s).last ≡ w.visit s)
  pub sites : (s : ℕ) → (l s).seen ≡ true → SiteFine w l s
  pub posted : (k : ℕ) → Posted k (w.mail k)
  pub mail : (k : ℕ) → BodyFine w l (w.mail k) (w.mail k).body
  pub passage : PassageFine w l
  pub balance : (d : ℕ) → Balanced w l d
