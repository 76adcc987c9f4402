-- The tables of document 01: how a place is read and stored, and what an empty one holds.
-- `past_x` is what an index past the end reads; it is never met at the lengths 8, 32, 16, 128 and 32. `no_x` is an emptied place. Assumes nothing.
use Rattle.std.specs.Prelude.{ℕ, ◌+◌, ◌*◌, ◌/◌, ◌%◌, true, false, List, [], ◌∷◌, get_or, set, replicate, None}
use Rattle.rules.specs.Types.{Site, Object, Figures, Kind, Phase, Round, Status, Passage, Visit, Body, Message, Tables}

-- ---- what an index past the end reads

abbrev pub past_site : Site
past_site = record { clock = 0; up = false }

abbrev pub past_object : Object
past_object = record { value = 0; holder = None; before = 0 }

abbrev pub past_figures : Figures
past_figures = record { sent = []; received = 0; quiesce = 0 }

abbrev pub past_passage : Passage
past_passage =
    record {
      status = Status.Free;
      home = 0;
      round = record { number = 0; kind = Kind.None; phase = Phase.None; answered = 0; figures = [] };
      generation = 0;
    }

abbrev pub past_visit : Visit
past_visit =
    record {
      there = false;
      quiesce = 0;
      release = 0;
      round = 0;
      prepared = false;
      dead = false;
      sent = [];
      received = 0;
    }

abbrev pub past_message : Message
past_message = record { body = Body.Empty; source = 0; destination = 0; handle = 0; stamp = 0; sent = [] }

-- ---- "A visit place, message slot or passage slot that is emptied becomes all 0 but for the generation."

abbrev pub no_object : Object
no_object = record { value = 0; holder = None; before = 0 }

-- a count of 0 for each of the eight sites
abbrev pub no_counts : List ℕ
no_counts = replicate 8 0

abbrev pub no_figures : Figures
no_figures = record { sent = no_counts; received = 0; quiesce = 0 }

abbrev pub no_round : Round
no_round =
    record {
      number = 0;
      kind = Kind.None;
      phase = Phase.None;
      answered = 0;
      figures = replicate 8 no_figures;
    }

abbrev pub free_slot : ℕ → Passage
free_slot generation =
    record { status = Status.Free; home = 0; round = no_round; generation = generation }

abbrev pub no_visit : Visit
no_visit =
    record {
      there = false;
      quiesce = 0;
      release = 0;
      round = 0;
      prepared = false;
      dead = false;
      sent = no_counts;
      received = 0;
    }

abbrev pub no_message : Message
no_message =
    record { body = Body.Empty; source = 0; destination = 0; handle = 0; stamp = 0; sent = no_counts }

-- ---- reading

abbrev pub site_at : Tables → ℕ → Site
site_at t s = get_or t.sites s past_site

abbrev pub object_at : Tables → ℕ → Object
object_at t k = get_or t.objects k past_object

abbrev pub passage_at : Tables → ℕ → Passage
passage_at t p = get_or t.passages p past_passage

-- "128 visits, one place per site and passage": sixteen places to a site
abbrev pub visit_place : ℕ → ℕ → ℕ
visit_place s p = 16 * s + p

abbrev pub visit_at : Tables → ℕ → ℕ → Visit
visit_at t s p = get_or t.visits (visit_place s p) past_visit

abbrev pub message_at : Tables → ℕ → Message
message_at t m = get_or t.messages m past_message

-- "object k stands at site k/4, rounded down"
abbrev pub object_site : ℕ → ℕ
object_site k = k / 4

-- the four objects that stand at a site
abbrev pub bank_at : Tables → ℕ → List Object
bank_at t s =
    object_at t (4 * s) ∷ object_at t (4 * s + 1) ∷ object_at t (4 * s + 2) ∷ object_at t (4 * s + 3) ∷ []

-- ---- storing

abbrev pub put_site : Tables → ℕ → Site → Tables
put_site t s x =
    record {
      sites = set t.sites s x;
      objects = t.objects;
      passages = t.passages;
      visits = t.visits;
      messages = t.messages;
    }

abbrev pub put_passage : Tables → ℕ → Passage → Tables
put_passage t p x =
    record {
      sites = t.sites;
      objects = t.objects;
      passages = set t.passages p x;
      visits = t.visits;
      messages = t.messages;
    }

abbrev pub put_visit : Tables → ℕ → ℕ → Visit → Tables
put_visit t s p x =
    record {
      sites = t.sites;
      objects = t.objects;
      passages = t.passages;
      visits = set t.visits (visit_place s p) x;
      messages = t.messages;
    }

abbrev pub put_message : Tables → ℕ → Message → Tables
put_message t m x =
    record {
      sites = t.sites;
      objects = t.objects;
      passages = t.passages;
      visits = t.visits;
      messages = set t.messages m x;
    }

-- the four objects of a site, one after the other
abbrev pub put_bank : Tables → ℕ → List Object → Tables
put_bank t s xs =
    record {
      sites = t.sites;
      objects =
          set
          (set
          (set
          (set t.objects (4 * s) (get_or xs 0 past_object))
          (4 * s + 1)
          (get_or xs 1 past_object))
          (4 * s + 2)
          (get_or xs 2 past_object))
          (4 * s + 3)
          (get_or xs 3 past_object);
      passages = t.passages;
      visits = t.visits;
      messages = t.messages;
    }

-- ---- "Handle = slot + 16 × generation."

abbrev pub handle_of : ℕ → ℕ → ℕ
handle_of slot generation = slot + 16 * generation

abbrev pub slot_of : ℕ → ℕ
slot_of h = h % 16

abbrev pub generation_of : ℕ → ℕ
generation_of h = h / 16

-- ---- "Start: clocks 0, sites up, slots free, generations 0, objects 0 and unheld, no visits, no messages."

unfoldable pub start : Tables
start =
    record {
      sites = replicate 8 (record { clock = 0; up = true });
      objects = replicate 32 no_object;
      passages = replicate 16 (free_slot 0);
      visits = replicate 128 no_visit;
      messages = replicate 32 no_message;
    }
