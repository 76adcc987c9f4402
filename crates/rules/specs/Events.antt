-- What a step did to objects, as a list: which it took, operated and freed, for which passage slot, where and when. Assumes nothing.
use Rattle.std.specs.Prelude.{ℕ, zero, suc, ◌+◌, ◌*◌, Bool, cond, not, ◌&&◌, List, [], ◌∷◌, ◌++◌}
use Rattle.rules.specs.Types.{Call, Body, Tables, Step, MailAt}
use Rattle.rules.specs.Tables.{object_at, message_at}
use Rattle.rules.specs.Answers.{is_accepted}
use Rattle.rules.specs.Parts.{is_held_by}
use Rattle.rules.specs.Machine.{look_of, places_of, step_of}
use Rattle.rules.specs.Runs.{acts_at_site, stamp_of}

-- ---- an event

-- operated: whether it was written, the value that was found, and the value that was to be written, 0 for a read
pub data EventKind : Type 0 where
  Took : EventKind
  Operated : (write : Bool) (found written : ℕ) → EventKind
  Freed : EventKind

-- the stamp is the site's clock after the step
pub record Event : Type 0 where
  pub kind : EventKind
  pub slot : ℕ
  pub object : ℕ
  pub site : ℕ
  pub stamp : ℕ

-- an event of this step, at the site where it acts
abbrev pub event_in : Tables → Step → EventKind → ℕ → ℕ → Event
event_in t step kind slot object =
    record {
      kind = kind;
      slot = slot;
      object = object;
      site = (places_of t (look_of step)).site;
      stamp = stamp_of t step;
    }

-- object k is held by passage slot p
abbrev pub is_holding : Tables → ℕ → ℕ → Bool
is_holding t p k = is_held_by p (object_at t k)

-- ---- took, then operated: by a delivered call

-- "The object is taken if unheld": its passage takes it where it does not hold it yet
abbrev pub took_of : Tables → Step → ℕ → ℕ → List Event
took_of t step slot object =
    cond (is_holding t slot object) [] (event_in t step EventKind.Took slot object ∷ [])

-- "then read or written"; found is the object's value before the operation, which the reply carries
abbrev pub operated_of : Tables → Step → ℕ → Call → Event
operated_of t step slot c =
    event_in t step (EventKind.Operated c.write (object_at t c.object).value c.value) slot c.object

-- by what the message slot holds: only a call takes and operates, and a reply is no operation
abbrev pub body_events : Tables → Step → ℕ → Body → List Event
body_events t step slot Body.Empty = []
body_events t step slot (Body.Call c) = took_of t step slot c.object ++ operated_of t step slot c ∷ []
body_events t step slot (Body.PhaseOne n asked) = []
body_events t step slot (Body.PhaseTwo n told) = []
body_events t step slot (Body.Answer n received q) = []
body_events t step slot (Body.Reply value) = []

-- what the step delivers: only deliver and drop name a message, and drop acts at no site
abbrev pub named_body : MailAt → Body → Body
named_body MailAt.Nowhere body = Body.Empty
named_body (MailAt.Given m) body = body
named_body MailAt.Empty body = Body.Empty

unfoldable pub delivered_of : Tables → Step → List Event
delivered_of t step =
    body_events
    t
    step
    (places_of t (look_of step)).slot
    (named_body (look_of step).mail (message_at t (places_of t (look_of step)).message).body)

-- ---- freed: held before and not after, whoever's step it is

abbrev pub is_freed : Tables → Step → ℕ → ℕ → Bool
is_freed t step slot object = is_holding t slot object && not (is_holding (step_of t step).tables slot object)

abbrev pub freed_at : Tables → Step → ℕ → ℕ → List Event
freed_at t step slot object =
    cond (is_freed t step slot object) (event_in t step EventKind.Freed slot object ∷ []) []

-- the lists at 0, 1, .. below n, one after the other
unfoldable pub join_up_to : (ℕ → List Event) → ℕ → List Event
join_up_to f zero = []
join_up_to f (suc n) = join_up_to f n ++ f n

-- of one slot: the four objects of the site, rising
abbrev pub freed_by : Tables → Step → ℕ → List Event
freed_by t step slot = join_up_to (λ i. freed_at t step slot (4 * (places_of t (look_of step)).site + i)) 4

-- of all sixteen slots, rising
unfoldable pub freed_of : Tables → Step → List Event
freed_of t step = join_up_to (freed_by t step) 16

-- ---- the events of a step: took, operated, freed; none of a step that is refused, or that acts at no site

unfoldable pub events_of : Tables → Step → List Event
events_of t step =
    cond
    (is_accepted (step_of t step).answer && acts_at_site step)
    (delivered_of t step ++ freed_of t step)
    []
