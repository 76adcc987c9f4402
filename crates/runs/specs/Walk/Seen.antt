-- Where a step looks, and what it sees there. Assumes nothing.
use Rattle.rules.specs.Machine.{look_of, places_of, seen_of}
use Rattle.runs.specs.Types.{Tables, Step, Places, Seen}

abbrev pub places_at : Tables → Step → Places
places_at t step = places_of t (look_of step)

abbrev pub seen_at : Tables → Step → Seen
seen_at t step = seen_of t (places_at t step)
