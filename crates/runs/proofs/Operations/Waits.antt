-- Along a list of steps a message waits as it was sent, of any sound tables. Assumes nothing.
use Rattle.std.specs.Prelude.{ℕ, ◌≡◌, refl, ◌⊎◌, false, List, [], ◌∷◌}
use Rattle.std.proofs.Common.{◌∙◌}
use Rattle.std.proofs.Math.Path.{ap}
use Rattle.std.proofs.Math.Logic.{⊎_elim, inl, inr}
use Rattle.rules.specs.Tables.{message_at}
use Rattle.rules.specs.Parts.{is_empty}
use Rattle.rules.specs.Machine.{step_of}
use Rattle.rules.specs.Runs.{run_of}
use Rattle.runs.specs.Types.{Message, Tables, Step}
use Rattle.runs.proofs.Walk.Sound.{Sound, sound_step}
use Rattle.runs.specs.Operations.Definitions.{TakenUp}
use Rattle.runs.proofs.Operations.Mail.{mail_stays}

-- so a message waits as it was sent, until it is delivered or dropped
pub mail_waits :
    (t : Tables) (m : ℕ) (ss : List Step) → Sound t → is_empty (message_at t m).body ≡ false → (message_at (run_of t ss) m ≡ message_at t m) ⊎ TakenUp t m ss
unfolding run_of
mail_waits t m [] z full = inl refl
mail_waits t m (s ∷ ss) z full =
    ⊎_elim
    (λ same.
    ⊎_elim
    (λ e. inl (e ∙ same))
    (λ g.
    inr
    (record {
      first = s ∷ g.first;
      step = g.step;
      rest = g.rest;
      all = ap (λ (x : List Step). s ∷ x) g.all;
      waits = g.waits ∙ same;
      accepted = g.accepted;
      own = g.own;
    }))
    (mail_waits (step_of t s).tables m ss (sound_step t s z) (ap (λ (x : Message). is_empty x.body) same ∙ full)))
    (λ own. inr (record { first = []; step = s; rest = ss; all = refl; waits = refl; accepted = own.0; own = own.1 }))
    (mail_stays t s m z full)
