-- What the first turn sees of tables in range is sane; what a turn leaves is what the definition makes.
use Rattle.std.proofs.Common.{◌≡◌, ap}
use Rattle.rules.specs.declared.looking.Places.{Places}
use Rattle.work.specs.Work.{turn_message}
use Rattle.running.specs.Turn.{turn_made}
use Rattle.running.proofs.Turned.{turn_sane}
use Rattle.running.proofs.take_turn.Goals as goal

pub decide_turn-d-requires : goal.decide_turn-d-requires
decide_turn-d-requires c =
    let q : c.message_for-message.result ≡ turn_message c.args.turn c.args.t.now c.places_for-at.result.message =
    rw (ap (λ (at : Places). at.message) c.places_for-at.ensures.0) c.message_for-message.ensures in (
      rw c.see.ensures (turn_sane c.args.t.now c.args.turn c.places_for-at.result c.message_for-message.result c.requires.3 c.places_for-at.ensures.1 q),
      c.requires.1,
      c.requires.2,
    )

pub returns : goal.returns
unfolding turn_made
returns c =
    rw (c.store.ensures, c.decide_turn-d.ensures, c.see.ensures, c.places_for-at.ensures.0, c.message_for-message.ensures, c.mail_place-place.ensures.0, c.turn_look-look.ensures, c.requires.0)
