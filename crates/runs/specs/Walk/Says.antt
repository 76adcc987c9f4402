-- What a round and a message say, for statements and clauses: definitions by the round's kind and by the message's body. Assumes nothing.
use Rattle.std.specs.Prelude.{ℕ, max, Bool, true, false}
use Rattle.runs.specs.Types.{Kind, Call, Asked, Told, Body}

-- ---- rounds

abbrev pub is_refresh : Kind → Bool
is_refresh Kind.None = false
is_refresh (Kind.Refresh q r) = true
is_refresh Kind.Terminate = false
is_refresh Kind.Prepare = false

-- a round that binds: a terminate or a prepare
abbrev pub is_binding : Kind → Bool
is_binding Kind.None = false
is_binding (Kind.Refresh q r) = false
is_binding Kind.Terminate = true
is_binding Kind.Prepare = true

abbrev pub is_prepare : Kind → Bool
is_prepare Kind.None = false
is_prepare (Kind.Refresh q r) = false
is_prepare Kind.Terminate = false
is_prepare Kind.Prepare = true

-- ---- what a phase 1 message asks

abbrev pub asks_prepare : Asked → Bool
asks_prepare (Asked.Refresh r) = false
asks_prepare Asked.Terminate = false
asks_prepare Asked.Prepare = true

abbrev pub is_terminate : Asked → Bool
is_terminate (Asked.Refresh r) = false
is_terminate Asked.Terminate = true
is_terminate Asked.Prepare = false

-- the new release time of a refresh
abbrev pub asked_release : Asked → ℕ
asked_release (Asked.Refresh r) = r
asked_release Asked.Terminate = 0
asked_release Asked.Prepare = 0

-- ---- what a phase 2 message tells

-- a commit's word
abbrev pub tells_prepare : Told → Bool
tells_prepare (Told.Refresh q) = false
tells_prepare (Told.Terminate m) = false
tells_prepare Told.Prepare = true

-- the new quiesce time of a refresh
abbrev pub told_quiesce : Told → ℕ
told_quiesce (Told.Refresh q) = q
told_quiesce (Told.Terminate m) = 0
told_quiesce Told.Prepare = 0

-- the same, or a terminate's M
abbrev pub told_time : Told → ℕ
told_time (Told.Refresh q) = q
told_time (Told.Terminate m) = m
told_time Told.Prepare = 0

-- ---- what a message says

-- what it is: 0 nothing, 1 a call, 2 and 3 a round's two phases, 4 an answer, 5 a reply
abbrev pub body_kind : Body → ℕ
body_kind Body.Empty = 0
body_kind (Body.Call c) = 1
body_kind (Body.PhaseOne n a) = 2
body_kind (Body.PhaseTwo n d) = 3
body_kind (Body.Answer n received q) = 4
body_kind (Body.Reply value) = 5

-- by what a call, a phase 1 and a phase 2 message say; any other says nothing
abbrev pub by_saying : {A : Type 0} → A → (Call → A) → (Asked → A) → (Told → A) → Body → A
by_saying nothing call asked told Body.Empty = nothing
by_saying nothing call asked told (Body.Call c) = call c
by_saying nothing call asked told (Body.PhaseOne n a) = asked a
by_saying nothing call asked told (Body.PhaseTwo n d) = told d
by_saying nothing call asked told (Body.Answer n received q) = nothing
by_saying nothing call asked told (Body.Reply value) = nothing

-- the times that a message may still bring to a visit: those of a call, the new release of a refresh's phase 1, the new quiesce of its phase 2
abbrev pub body_latest : Body → ℕ
body_latest = by_saying 0 (λ c. max c.quiesce c.release) asked_release told_quiesce

-- every quiesce or release time in a message: an answer's quiesce time and a terminate's M too; a reply carries none
abbrev pub body_all : Body → ℕ
body_all Body.Empty = 0
body_all (Body.Call c) = max c.quiesce c.release
body_all (Body.PhaseOne n asked) = asked_release asked
body_all (Body.PhaseTwo n told) = told_time told
body_all (Body.Answer n received q) = q
body_all (Body.Reply value) = 0

-- a message of a commit round, of either phase
abbrev pub of_commit : Body → Bool
of_commit = by_saying false (λ c. false) asks_prepare tells_prepare

-- a commit's last word
abbrev pub carries_commit : Body → Bool
carries_commit = by_saying false (λ c. false) (λ a. false) tells_prepare

-- a message that asks to terminate
abbrev pub asks_terminate : Body → Bool
asks_terminate = by_saying false (λ c. false) is_terminate (λ d. false)

-- the object of a call
abbrev pub called_of : Body → ℕ
called_of = by_saying 0 (λ c. c.object) (λ a. 0) (λ d. 0)
