use Rattle.std.proofs.Common.{◌≡◌, ◌∙◌, refl, arith, add-one}
use Rattle.rules.specs.Loops.{first_up_to, some_up_to}
use Rattle.rules.specs.Machine.{lowest_empty}
use Rattle.work.specs.WorkLaws.{rest_found}
use Rattle.running.proofs.look_over.Goals as goal

pub loop-k-init : goal.loop-k-init
unfolding first_up_to some_up_to
loop-k-init c = (refl, refl)

pub loop-k-preserved : goal.loop-k-preserved
unfolding first_up_to some_up_to
loop-k-preserved c = (
  rw (add-one, c.first_next-empty.ensures, ← c.loop-k.invariant.0),
  rw (add-one, c.rest_next-remains.ensures, ← c.loop-k.invariant.1),
)

pub returns : goal.returns
unfolding lowest_empty
returns c =
    let k : c.args.n ≡ 32 → c.loop-k.k ≡ 32 = λ h. omega arith in (
      λ h. rw (k h) at c.loop-k.invariant.0,
      λ h. (rw (k h) at c.loop-k.invariant.1) ∙ rest_found c.args.t.now c.args.slot,
    )
