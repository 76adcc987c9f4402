-- Each turn scans one byte more. Assumes nothing.
use Rattle.std.proofs.Common.{◌+◌, ◌-◌, ◌≡◌, sym, ap, ◌∙◌, length, take, drop, length-drop, rules, arith}
use Rattle.std.proofs.lemmas.List.{take_all}
use Rattle.words.specs.declared.scan.Scan.{Scan}
use Rattle.words.specs.Scan.{end_of}
use Rattle.faults.proofs.Finding.{by_within, fault_more, fault_end, scan_more, scan_end}
use Rattle.faults.proofs.found.spot_in.Goals as goal

pub loop-i-preserved : goal.loop-i-preserved
loop-i-preserved c =
    let line = c.args.line.now in (
      rw (c.from_by-from.ensures, c.scan_next-s.ensures) (fault_more line c.loop-i.i c.loop-i.from c.loop-i.s (search rules)) ∙ c.loop-i.invariant.0,
      rw c.scan_next-s.ensures (scan_more line c.loop-i.i c.loop-i.s (search rules)) ∙ c.loop-i.invariant.1,
      rw c.from_by-from.ensures (by_within c.scan_next-s.result.mode (length line) c.loop-i.from (c.loop-i.i + 1) c.loop-i.invariant.2 (search rules)),
      search rules,
    )

pub returns-clause-rest : goal.returns-clause-rest
returns-clause-rest c =
    let line = c.args.line.now in
    let from = c.from_by-from-2.result in
    let whole : take (length line - from) (drop from line) ≡ drop from line = take_all (length line - from) (drop from line) (rw (length-drop from line) (omega arith)) in
    whole
    ∙ rw (c.from_by-from-2.ensures, c.end_of-ended.ensures) (sym (fault_end line c.loop-i.i c.loop-i.from c.loop-i.s (search rules))) ∙ c.loop-i.invariant.0

pub returns-clause-node : goal.returns-clause-node
returns-clause-node c =
    rw c.end_of-ended.ensures (ap (λ (x : Scan). (end_of x).node) (sym (scan_end c.args.line.now c.loop-i.i c.loop-i.s (search rules)) ∙ c.loop-i.invariant.1))
