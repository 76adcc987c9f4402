-- What was seen, with one record changed: what a step leaves is said by these. Assumes nothing.
use Rattle.std.specs.Prelude.{ℕ, List}
use Rattle.rules.specs.Types.{Site, Object, Passage, Visit, Message, Seen}
use Rattle.rules.specs.Parts.{clock_to}

abbrev pub left_site : Seen → Site → Seen
left_site seen s =
    record { site = s; passage = seen.passage; visit = seen.visit; message = seen.message; objects = seen.objects }

abbrev pub left_passage : Seen → Passage → Seen
left_passage seen p =
    record { site = seen.site; passage = p; visit = seen.visit; message = seen.message; objects = seen.objects }

abbrev pub left_visit : Seen → Visit → Seen
left_visit seen v =
    record { site = seen.site; passage = seen.passage; visit = v; message = seen.message; objects = seen.objects }

abbrev pub left_message : Seen → Message → Seen
left_message seen m =
    record { site = seen.site; passage = seen.passage; visit = seen.visit; message = m; objects = seen.objects }

abbrev pub left_objects : Seen → List Object → Seen
left_objects seen os =
    record { site = seen.site; passage = seen.passage; visit = seen.visit; message = seen.message; objects = os }

-- "first moves its clock"
abbrev pub at_clock : Seen → ℕ → Seen
at_clock seen clock = left_site seen (clock_to seen.site clock)
