-- The check computed on two widths, one at home and one at a station that is asked, so that each of its words is seen to be said. Assumes nothing.
use Rattle.std.specs.Prelude.{[], ◌∷◌, ℕ, set, None}
use Rattle.rules.specs.Types.{Holder}
use Rattle.rules.specs.declared.tables.Tables.{Tables}
use Rattle.rules.specs.Tables.{start}
use Rattle.clearing.specs.declared.Verdict.{Verdict}
use Rattle.clearing.specs.Clearing.{cleared_of}

-- the start, with 13,000 at object 0 and 12,500 at object 4, which this one holds
abbrev pub two_widths : Holder → Tables
two_widths holder =
    record {
      sites = start.sites;
      objects =
          set (set start.objects 0 (record { value = 13000; holder = None; before = 0 })) 4
          (record { value = 12500; holder = holder; before = 0 });
      passages = start.passages;
      visits = start.visits;
      messages = start.messages;
    }

-- what is said to a ship of this beam
abbrev pub said : Holder → ℕ → Verdict
said holder beam = (cleared_of (two_widths holder) beam 0 (0 ∷ 4 ∷ []) 0 2 500 510).verdict
