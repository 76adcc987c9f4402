-- What an accepted step has passed, in numbers: an invoke's fields, an empty slot for a new message, and a count that may grow by one. Assumes nothing.
use Rattle.std.specs.Prelude.{ℕ, ◌<◌, ◌≤◌, ◌≡◌, Bool, true, false, not, ◌&&◌, ltb, eqb, get_or}
use Rattle.std.proofs.Common.{eqb-true, eq-eqb, leb-false, ltb-false}
use Rattle.rules.specs.Types.{Call, Seen}
use Rattle.rules.specs.Limits.{width_most, count_most}
use Rattle.rules.specs.LoopsLaws.{not_false}
use Rattle.rules.specs.AnswersLaws.{Fine}
use Rattle.rules.specs.Parts.{is_empty}
use Rattle.rules.specs.Checks.{bad_site, bad_handle}
use Rattle.rules.specs.Rounds.{open_checks}
use Rattle.rules.specs.Calls.{call_site, bad_call, invoke_checks, called_visit, call_checks}
use Rattle.rules.proofs.RangesLaws.{neither}

-- 2 of an invoke
pub record CallFields (h site write object value : ℕ) : Type 0 where
  pub named : bad_handle h ≡ false
  pub from : site ≤ 7
  pub kind : write ≤ 1
  pub below : object ≤ 31
  pub fits : value ≤ width_most
  -- a read carries no value
  pub plain : write ≡ 0 → value ≡ 0

pub call_fields : (h site write object value : ℕ) → bad_call h site write object value ≡ false → CallFields h site write object value
call_fields h site write object value e =
    neither {b = eqb write 0 && not (eqb value 0)} e λ e w.
    neither {b = ltb width_most value} e λ e v.
    neither {b = ltb 31 object} e λ e o.
    neither {b = ltb 1 write} e λ e k.
    neither {a = bad_handle h} {b = bad_site site} e λ b s.
    record {
      named = b;
      from = ltb-false _ _ s;
      kind = ltb-false _ _ k;
      below = ltb-false _ _ o;
      fits = ltb-false _ _ v;
      plain = λ y. eqb-true _ _ (not_false _ (rw (eq-eqb write 0 y) at w));
    }

module _ (h site write object value : ℕ) (seen : Seen) (fine : Fine (invoke_checks h site write object value seen)) where
  pub invoke_empty : is_empty seen.message.body ≡ true
  invoke_empty = not_false _ fine.room

  pub invoke_count : get_or seen.visit.sent (call_site object) 0 < count_most
  invoke_count = leb-false _ _ fine.calls_left

pub call_count : (m : ℕ) (c : Call) (seen : Seen) → Fine (call_checks m c seen) → (called_visit c seen.visit).received < count_most
call_count m c seen fine = leb-false _ _ fine.calls_left

pub open_count : (h : ℕ) (bad wrong : Bool) (seen : Seen) → Fine (open_checks h bad wrong seen) → seen.passage.round.number < count_most
open_count h bad wrong seen fine = leb-false _ _ fine.rounds_left
