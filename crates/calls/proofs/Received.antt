-- A call's visit has received no more calls than the visit that was there: a new one has received none. Assumes nothing.
use Prim.Native.Nat.{ℕ, ◌≤◌, zero-le}
use Rattle.rules.specs.LoopsLaws.{cond_keeps}
use Rattle.rules.specs.declared.tables.Call.{Call}
use Rattle.rules.specs.declared.tables.Visit.{Visit}
use Rattle.rules.specs.Calls.{called_visit}
use Rattle.rules.specs.Parts.{new_visit}

pub called_received : (c : Call) (v : Visit) (n : ℕ) → v.received ≤ n → (called_visit c v).received ≤ n
called_received c v n h =
    cond_keeps
    (λ (w : Visit). w.received ≤ n)
    v.there
    v
    (new_visit c.quiesce c.release c.round)
    h
    zero-le
