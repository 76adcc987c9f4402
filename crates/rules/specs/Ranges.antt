-- Number 20: "the tables handed in hold a number outside the ranges above, or kind none in phase 1 or 2".
-- Every number of every table counts, whether its place is in use or not; how the tables fit together does not. Assumes nothing.
use Rattle.std.specs.Prelude.{ℕ, Bool, true, false, ◌&&◌, List, leb, get_or, Some, None}
use Rattle.rules.specs.Types.{Site, Object, Figures, Kind, Phase, Round, Passage, Visit, Call, Asked, Told, Body, Message, Tables}
use Rattle.rules.specs.Limits.{clock_most, time_most, width_most, count_most, handle_most, site_most, slot_most, object_most}
use Rattle.rules.specs.Loops.{every_up_to}
use Rattle.rules.specs.Tables.{site_at, object_at, passage_at, message_at, past_figures, past_visit}

-- "clock 0..2,000,000,000"
abbrev pub site_in_range : Site → Bool
site_in_range s = leb s.clock clock_most

-- "holder (a slot) or none"
abbrev pub holder_in_range : Object → Bool
holder_in_range o = elim o.holder [ None ↦ true | Some p ↦ leb p slot_most ]

-- "Value 0..1,000,000 (mm), holder (a slot) or none, and the value before the holder took it"
abbrev pub object_in_range : Object → Bool
object_in_range o = leb o.value width_most && leb o.before width_most && holder_in_range o

-- "calls sent to each site (0..1,000 each)"
unfoldable pub counts_in_range : List ℕ → Bool
counts_in_range sent = every_up_to (λ d. leb (get_or sent d 0) count_most) 8

-- "A number in a message has the range of the number it copies", and so have kept figures
abbrev pub figures_in_range : Figures → Bool
figures_in_range f =
    counts_in_range f.sent && leb f.received count_most && leb f.quiesce time_most

-- "refresh with its new Q and R"
abbrev pub kind_in_range : Kind → Bool
kind_in_range Kind.None = true
kind_in_range (Kind.Refresh q r) = leb q time_most && leb r time_most
kind_in_range Kind.Terminate = true
kind_in_range Kind.Prepare = true

-- "or kind none in phase 1 or 2"
abbrev pub phase_fits : Kind → Phase → Bool
phase_fits Kind.None Phase.None = true
phase_fits Kind.None Phase.One = false
phase_fits Kind.None Phase.Two = false
phase_fits (Kind.Refresh q r) p = true
phase_fits Kind.Terminate p = true
phase_fits Kind.Prepare p = true

-- "number 0..1,000, kind, phase", and the kept figures; every number of eight bits is an answered mask
unfoldable pub round_in_range : Round → Bool
round_in_range r =
    leb r.number count_most && kind_in_range r.kind && phase_fits r.kind r.phase
    && every_up_to (λ s. figures_in_range (get_or r.figures s past_figures)) 8

-- home is a site, 0..7; every byte is a generation
abbrev pub passage_in_range : Passage → Bool
passage_in_range p = leb p.home site_most && round_in_range p.round

-- "quiesce Q, release R, round, .. calls sent to each site .., calls received"
abbrev pub visit_in_range : Visit → Bool
visit_in_range v =
    leb v.quiesce time_most && leb v.release time_most && leb v.round count_most
    && counts_in_range v.sent
    && leb v.received count_most

abbrev pub call_in_range : Call → Bool
call_in_range c =
    leb c.quiesce time_most && leb c.release time_most && leb c.round count_most
    && leb c.object object_most
    && leb c.value width_most

abbrev pub asked_in_range : Asked → Bool
asked_in_range (Asked.Refresh r) = leb r time_most
asked_in_range Asked.Terminate = true
asked_in_range Asked.Prepare = true

abbrev pub told_in_range : Told → Bool
told_in_range (Told.Refresh q) = leb q time_most
told_in_range (Told.Terminate m) = leb m time_most
told_in_range Told.Prepare = true

abbrev pub body_in_range : Body → Bool
body_in_range Body.Empty = true
body_in_range (Body.Call c) = call_in_range c
body_in_range (Body.PhaseOne n a) = leb n count_most && asked_in_range a
body_in_range (Body.PhaseTwo n d) = leb n count_most && told_in_range d
body_in_range (Body.Answer n received q) = leb n count_most && leb received count_most && leb q time_most
body_in_range (Body.Reply value) = leb value width_most

abbrev pub message_in_range : Message → Bool
message_in_range m =
    leb m.source site_most && leb m.destination site_most && leb m.handle handle_most && leb m.stamp clock_most
    && counts_in_range m.sent
    && body_in_range m.body

-- every number of every table
unfoldable pub in_range : Tables → Bool
in_range t =
    every_up_to (λ s. site_in_range (site_at t s)) 8 && every_up_to (λ k. object_in_range (object_at t k)) 32
    && every_up_to (λ p. passage_in_range (passage_at t p)) 16
    && every_up_to (λ i. visit_in_range (get_or t.visits i past_visit)) 128
    && every_up_to (λ m. message_in_range (message_at t m)) 32
