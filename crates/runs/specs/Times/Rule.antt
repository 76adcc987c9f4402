-- What the time rule says of tables. Assumes nothing.
use Rattle.std.specs.Prelude.{ℕ, ◌<◌, ◌≤◌, ◌≡◌, true}
use Rattle.rules.specs.Tables.{visit_at}
use Rattle.runs.specs.Types.{Tables}

-- for every slot, and every two sites with a visit of that slot: the quiesce time of the one is at most the release time of the other
abbrev pub TimeRule : Tables → Type 0
TimeRule t =
    (slot one other : ℕ) → slot < 16 → one < 8 → other < 8
    → (visit_at t one slot).there ≡ true → (visit_at t other slot).there ≡ true
    → (visit_at t one slot).quiesce ≤ (visit_at t other slot).release
