-- What is seen at places that exist is sane, and they exist.
use Rattle.rules.proofs.RangesLaws.{placed_places}
use Rattle.rules.specs.Machine.{places_of, head_of}
use Rattle.decisions.specs.TurnsLaws.{sane_at}
use Rattle.machine.proofs.whole.head.Goals as goal

pub see-requires : goal.see-requires
see-requires c = rw c.places_of-at.ensures (placed_places c.args.t c.args.look)

pub remains-requires : goal.remains-requires
remains-requires c = rw c.places_of-at.ensures (placed_places c.args.t c.args.look).slot

pub decide-d-requires : goal.decide-d-requires
decide-d-requires c =
    rw (c.see.ensures, c.places_of-at.ensures) (sane_at c.args.t (places_of c.args.t c.args.look) c.requires.0 (placed_places c.args.t c.args.look))

pub store-requires : goal.store-requires
store-requires c = rw c.places_of-at.ensures (placed_places c.args.t c.args.look)

pub returns : goal.returns
unfolding head_of
returns c =
    rw (c.store.ensures, c.decide-d.ensures, c.remains.ensures, c.see.ensures, c.places_of-at.ensures, c.requires.1)
