-- The pass has found what the definitions find up to the index.
use Rattle.std.proofs.Common.{◌%◌, ◌≡◌, ◌||◌}
use Rattle.rules.specs.Loops.{first_up_to, some_up_to}
use Rattle.rules.specs.Parts.{is_empty}
use Rattle.rules.specs.Tables.{message_at, visit_at}
use Rattle.rules.specs.Machine.{is_message_of}
use Rattle.running.proofs.look_over.Given as goal

abbrev pub invariant-loop-k : goal.invariant-loop-k
invariant-loop-k l =
    (l.empty ≡ first_up_to (λ m. is_empty (message_at l.t m).body) l.k)
    × (l.remains ≡ some_up_to (λ j. is_message_of l.slot (message_at l.t j) || (visit_at l.t (j % 8) l.slot).there) l.k)
