-- What the start holds, place by place. Assumes nothing.
use Rattle.std.specs.Prelude.{ℕ, zero, suc, ◌<◌, ◌≡◌, refl, true, false, get_or, replicate}
use Rattle.std.proofs.Common.{ap}
use Rattle.std.proofs.lemmas.List.{get_or-replicate}
use Rattle.rules.specs.Types.{Site, Object, Status, Passage, Visit, Body, Message, Tables}
use Rattle.rules.specs.Tables.{past_site, past_object, past_passage, past_visit, past_message, no_object, no_visit, no_message, free_slot, site_at, object_at, passage_at, visit_place, visit_at, message_at, start}
use Rattle.rules.specs.Parts.{is_unheld}
use Rattle.rules.specs.Runs.{Started}

-- "clocks 0, sites up, slots free, generations 0, objects 0 and unheld, no visits, no messages", at every index; only the eight sites are up
pub record Bare (t : Tables) : Type 0 where
  pub clock : (s : ℕ) → (site_at t s).clock ≡ 0
  pub up : (s : ℕ) → s < 8 → (site_at t s).up ≡ true
  pub value : (k : ℕ) → (object_at t k).value ≡ 0
  pub unheld : (k : ℕ) → is_unheld (object_at t k) ≡ true
  pub free : (p : ℕ) → (passage_at t p).status ≡ Status.Free
  pub generation : (p : ℕ) → (passage_at t p).generation ≡ 0
  pub unvisited : (s p : ℕ) → (visit_at t s p).there ≡ false
  pub empty : (m : ℕ) → (message_at t m).body ≡ Body.Empty

-- every place of a repeated record holds it, and so does a place past the end, if what stands there is as good
pub repeat_has : {A : Type 0} (P : A → Type 0) (n : ℕ) (x d : A) → P x → P d → (i : ℕ) → P (get_or (replicate n x) i d)
repeat_has P zero x d h k i = k
repeat_has P (suc n) x d h k zero = h
repeat_has P (suc n) x d h k (suc i) = repeat_has P n x d h k i

-- the start is bare
pub start_is_empty : Bare start
unfolding start
start_is_empty =
    record {
      clock = repeat_has (λ (x : Site). x.clock ≡ 0) 8 _ past_site refl refl;
      up = λ s l. ap (λ (x : Site). x.up) (get_or-replicate 8 s (record { clock = 0; up = true }) past_site l);
      value = repeat_has (λ (x : Object). x.value ≡ 0) 32 no_object past_object refl refl;
      unheld = repeat_has (λ (x : Object). is_unheld x ≡ true) 32 no_object past_object refl refl;
      free = repeat_has (λ (x : Passage). x.status ≡ Status.Free) 16 (free_slot 0) past_passage refl refl;
      generation = repeat_has (λ (x : Passage). x.generation ≡ 0) 16 (free_slot 0) past_passage refl refl;
      unvisited = λ s p. repeat_has (λ (x : Visit). x.there ≡ false) 128 no_visit past_visit refl refl (visit_place s p);
      empty = repeat_has (λ (x : Message). x.body ≡ Body.Empty) 32 no_message past_message refl refl;
    }

-- so are the tables that a run begins with
pub started_is_empty : {t : Tables} → Started t → Bare t
started_is_empty fresh = rw fresh.empty start_is_empty
