-- What a sweep leaves in the ledger of a slot: the release time of its visit, whether the visit goes or stays. Assumes nothing.
use Prim.Native.Nat.{ℕ, ◌≤◌, ◌<◌}
use Rattle.std.specs.Prelude.{◌≡◌, refl, false}
use Rattle.std.proofs.Common.{sym, ◌∙◌}
use Rattle.std.proofs.Math.Path.{ap, subst}
use Rattle.std.proofs.Math.Logic.{⊎_elim}
use Rattle.std.proofs.Math.Bool.{true}
use Rattle.std.proofs.lemmas.Bool.{false≢true}
use Rattle.rules.specs.declared.looking.Trip.{Trip}
use Rattle.rules.specs.Tables.{message_at}
use Rattle.rules.specs.Answers.{is_accepted}
use Rattle.rules.specs.AnswersLaws.{settle_accepted}
use Rattle.rules.specs.Parts.{is_free}
use Rattle.rules.specs.Stations.{sweep_of, sweep_done}
use Rattle.rules.specs.Machine.{seen_of, decide_of, head_of, trip_places, turn_seen, step_of}
use Rattle.runs.specs.Types.{Passage, Visit, Tables, Step, Places, Seen}
use Rattle.runs.proofs.Walk.Plain.{when_false}
use Rattle.runs.specs.Walk.Put.{put_same, put_other, same_or_other}
use Rattle.runs.specs.Walk.Seen.{places_at, seen_at}
use Rattle.runs.proofs.Walk.Steps.{turned_of, ghost_turns, accepted_has}
use Rattle.runs.specs.Times.View.{View, Ledger, view_of, no_ledger}
use Rattle.runs.specs.Times.Clauses.{Holds}
use Rattle.runs.proofs.Times.Store.{next_ledger, next_ledgers, noted_same}
use Rattle.runs.proofs.Times.Ledgers.{head_ledgers, turn_ledgers}
use Rattle.runs.specs.Moves.Definitions.{Turn}
use Rattle.runs.proofs.Moves.Steps.{turn_of_lem}
use Rattle.runs.proofs.Moves.Laws.{sites_after}
use Rattle.runs.proofs.Commits.Pledged.{Pledged, pledged_after_head, pledged_after_turn}
use Rattle.runs.proofs.Commits.Since.{Carried, used_turned}
use Rattle.runs.proofs.Order.Gone.{seen_used}

-- the ledger has seen a visit at site s, with this release time at most
abbrev pub ReleasedBy : ℕ → ℕ → Ledger → Type 0
ReleasedBy r s l = ((l s).seen ≡ true) × ((l s).last.release ≤ r)

module _ (r s p : ℕ) (slot : p < 16) where
  -- a sweep's own store is no news
  head_news :
      (t : Tables) (site : ℕ) (ls : ℕ → Ledger) → Pledged t ls → is_accepted (head_of t (Step.Sweep site)).answer ≡ true
      → (ls p s).seen ≡ true → head_ledgers t (Step.Sweep site) ls p ≡ ls p
  unfolding head_of decide_of sweep_of
  head_news t site ls k e seen =
      let step : Step = Step.Sweep site in
      let at : Places = places_at t step in
      let left : Seen = (sweep_done site (seen_at t step)).left in
      let hold : Holds (view_of t p) (ls p) = k.kept.slots p slot in
      ap (λ (x : Seen). next_ledgers ls at (seen_at t step) x p) (settle_accepted (sweep_done site (seen_at t step)) (seen_at t step) e)
      ∙ ⊎_elim
      (λ (own : p ≡ at.slot).
      subst
      (λ (q : ℕ). Holds (view_of t q) (ls q) → (ls q s).seen ≡ true → next_ledgers ls at (seen_at t step) left q ≡ ls q)
      (sym own)
      (λ h y.
      put_same ls at.slot (next_ledger (ls at.slot) at.site (seen_at t step) left)
      ∙ when_false (λ (l : Ledger). l ≡ ls at.slot) (is_free left.passage.status) no_ledger _ (seen_used s h y)
      (noted_same (view_of t at.slot) (ls at.slot) at.site (message_at t at.message).source h))
      hold
      seen)
      (λ n. put_other ls at.slot _ p n)
      (same_or_other p at.slot)

  -- a visit that a turn leaves there has the release time that it had
  turned_release : {w : View} {a : ℕ} {site : ℕ} {v : Visit} {x : Passage} → Turn w a x v (Trip.Sweep site) → v.there ≡ true → v ≡ w.visit a
  turned_release (Turn.Stays _ e y) there = y
  turned_release (Turn.Sweeps site aborts active e was unprepared y) there = absurd (false≢true (ap (λ (z : Visit). z.there) (sym y) ∙ there))

  turn_released :
      (site n : ℕ) (t : Tables) (ls : ℕ → Ledger) → n < 16 → Pledged t ls → ReleasedBy r s (ls p)
      → ReleasedBy r s (turn_ledgers (Trip.Sweep site) n t ls p)
  turn_released site n t ls i k y =
      let at : Places = trip_places (Trip.Sweep site) n in
      let left : Seen = turn_seen (Trip.Sweep site) n (seen_of t at) in
      ⊎_elim
      (λ (own : p ≡ n).
      let here : ReleasedBy r s (ls n) = subst (λ (q : ℕ). ReleasedBy r s (ls q)) own y in
      let hold : Holds (view_of t n) (ls n) = k.kept.slots n i in
      let free : is_free left.passage.status ≡ false = used_turned (turn_of_lem t (Trip.Sweep site) n) (seen_used s hold here.0) in
      subst (λ (q : ℕ). ReleasedBy r s (turn_ledgers (Trip.Sweep site) n t ls q)) (sym own)
      (subst (ReleasedBy r s)
      (sym (put_same ls n (next_ledger (ls n) at.site (seen_of t at) left)))
      (when_false (ReleasedBy r s) (is_free left.passage.status) no_ledger _ free
      (sites_after (view_of t n) (ls n) at.site (message_at t at.message).source left.visit
      (λ x v z. x ≡ s → (z.seen ≡ true) × (z.last.release ≤ r))
      (λ there z seen last e. (
        seen,
        let same : left.visit ≡ (view_of t n).visit at.site = turned_release (turn_of_lem t (Trip.Sweep site) n) there in
            subst (λ (b : Visit). b.release ≤ r)
            ((hold.mirror at.site (ap (λ (b : Visit). b.there) (sym same) ∙ there)).1 ∙ sym same ∙ sym last)
            (subst (λ (x : ℕ). (ls n x).last.release ≤ r) (sym e) here.1),
      ))
      (λ gone e. subst (λ (x : ℕ). ((ls n x).seen ≡ true) × ((ls n x).last.release ≤ r)) (sym e) here)
      (λ x other e. subst (λ (x : ℕ). ((ls n x).seen ≡ true) × ((ls n x).last.release ≤ r)) (sym e) here)
      s
      refl))))
      (λ n. rw (put_other ls at.slot (next_ledger (ls at.slot) at.site (seen_of t at) left) p n) y)
      (same_or_other p n)

  -- after a sweep
  pub sweep_released :
      (t : Tables) (site : ℕ) (ls : ℕ → Ledger) → Pledged t ls → is_accepted (step_of t (Step.Sweep site)).answer ≡ true → ReleasedBy r s (ls p)
      → Carried (λ w l. ReleasedBy r s l) p (step_of t (Step.Sweep site)).tables
  unfolding ghost_turns
  sweep_released t site ls k e y =
      let step : Step = Step.Sweep site in
      let first : ℕ → Ledger = head_ledgers t step ls in
      let done = accepted_has t step
      (λ n u. Pledged u (ghost_turns head_ledgers turn_ledgers (Trip.Sweep site) (head_of t step) n first)
      × ReleasedBy r s (ghost_turns head_ledgers turn_ledgers (Trip.Sweep site) (head_of t step) n first p))
      (λ n i x. (
        pledged_after_turn (Trip.Sweep site) n (turned_of t step n) _ i x.0,
        turn_released site n (turned_of t step n).tables _ i x.0 x.1,
      ))
      (λ a. (pledged_after_head t step ls k a, subst (ReleasedBy r s) (sym (head_news t site ls k a y.0)) y))
      e in
      record { ledgers = _; pledged = done.0; has = done.1 }
