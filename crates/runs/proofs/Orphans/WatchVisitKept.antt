-- Visits that a step may leave at a site, in the view of an orphan's slot. Assumes nothing.
use Rattle.std.specs.Prelude.{ℕ, ◌<◌, ◌≤◌, max, ◌≡◌, refl, ◌⊎◌, Bool, true, false, cond}
use Rattle.std.proofs.Common.{arith, sym, subst, inl, inr, true≢false}
use Rattle.std.proofs.lemmas.Bool.{false≢true}
use Rattle.rules.specs.LoopsLaws.{either, cond_keeps}
use Rattle.rules.specs.Tables.{no_visit}
use Rattle.rules.specs.Parts.{quieted, new_visit, count_sent, count_received, where_there, asked_visit, told_visit}
use Rattle.rules.specs.Calls.{called_visit}
use Rattle.runs.specs.Types.{Visit, Call, Asked, Told, Body}
use Rattle.runs.specs.Times.View.{View}
use Rattle.runs.proofs.Orphans.WatchKept.{BodyKeeps, VisitKeeps}

module _ (latest : ℕ) (w : View) (a : ℕ) where
  pub visit_after_same : VisitKeeps latest w a (w.visit a)
  visit_after_same =
      record { plain = λ h. h.visits a; bounded = λ h b. b.visits a; cleared = λ f b e l. e }

  -- where it is there, else nothing is done
  pub where_there_lem : (v : Visit) → VisitKeeps latest w a v → VisitKeeps latest w a (where_there (w.visit a) v)
  where_there_lem v h = cond_keeps (VisitKeeps latest w a) (w.visit a).there v (w.visit a) h visit_after_same

  pub visit_goes : VisitKeeps latest w a no_visit
  visit_goes =
      record {
        plain = λ h e. absurd (false≢true e);
        bounded = λ h b e. absurd (false≢true e);
        cleared = λ f b e l. refl;
      }

  pub visit_after_quieted : (c : ℕ) (dead : Bool) → VisitKeeps latest w a (quieted (w.visit a) c false dead)
  visit_after_quieted c dead =
      record {
        plain = λ h e. refl;
        bounded =
            λ h b e.
            let x : ((w.visit a).quiesce ≤ latest) × ((w.visit a).release ≤ latest) = b.visits a e in
            (omega arith, omega arith);
        cleared = λ f b e l. e;
      }

  pub visit_after_sent : (d : ℕ) → VisitKeeps latest w a (count_sent (w.visit a) d)
  visit_after_sent d =
      record { plain = λ h. h.visits a; bounded = λ h b. b.visits a; cleared = λ f b e l. e }

  pub visit_after_asked :
      (n c : ℕ) (asked : Asked) → BodyKeeps latest w (Body.PhaseOne n asked)
      → VisitKeeps latest w a (asked_visit asked n c (w.visit a))
  visit_after_asked n c (Asked.Refresh r) h =
      record {
        plain = λ y. y.visits a;
        bounded =
            λ y b e.
            let x : ((w.visit a).quiesce ≤ latest) × ((w.visit a).release ≤ latest) = b.visits a e in
            let z : r ≤ latest = h.bounded y b in
            (omega arith, omega arith);
        cleared = λ f b e l. e;
      }
  visit_after_asked n c Asked.Terminate h =
      record {
        plain = λ y e. refl;
        bounded =
            λ y b e.
            let x : ((w.visit a).quiesce ≤ latest) × ((w.visit a).release ≤ latest) = b.visits a e in
            (omega arith, omega arith);
        cleared = λ f b e l. e;
      }
  visit_after_asked n c Asked.Prepare h =
      record {
        plain = λ y. absurd (true≢false (h.plain y));
        bounded = λ y b. absurd (true≢false (h.plain y));
        cleared = λ f b e l. e;
      }

  pub visit_after_told :
      (n : ℕ) (told : Told) → BodyKeeps latest w (Body.PhaseTwo n told)
      → VisitKeeps latest w a (told_visit told (w.visit a))
  visit_after_told n (Told.Refresh q) h =
      record {
        plain = λ y. y.visits a;
        bounded =
            λ y b e.
            let x : ((w.visit a).quiesce ≤ latest) × ((w.visit a).release ≤ latest) = b.visits a e in
            let z : q ≤ latest = h.bounded y b in
            (omega arith, omega arith);
        cleared = λ f b e l. e;
      }
  visit_after_told n (Told.Terminate m) h =
      record {
        plain = λ y. y.visits a;
        bounded =
            λ y b e.
            let x : ((w.visit a).quiesce ≤ latest) × ((w.visit a).release ≤ latest) = b.visits a e in
            (omega arith, omega arith);
        cleared = λ f b e l. e;
      }
  visit_after_told n Told.Prepare h = visit_goes

  -- a call at a visit that is there, or that it makes: its quiesce time is above the clock, so above the latest
  pub visit_after_called :
      (c : ℕ) (call : Call) → w.clock a ≤ c → BodyKeeps latest w (Body.Call call)
      → c < (called_visit call (w.visit a)).quiesce
      → VisitKeeps latest w a (count_received (called_visit call (w.visit a)))
  visit_after_called c call i h = go (either (w.visit a).there)
    where
      made : Visit
      made = new_visit call.quiesce call.release call.round

      Lands : Visit → Type 0
      Lands v = c < v.quiesce → VisitKeeps latest w a (count_received v)

      there : Lands (w.visit a)
      there j = record { plain = λ y. y.visits a; bounded = λ y b. b.visits a; cleared = λ f b e l. e }

      makes : (w.visit a).there ≡ false → Lands made
      makes missing j =
          record {
            plain = λ y e. refl;
            bounded = λ y b e. let q : max call.quiesce call.release ≤ latest = h.bounded y b in (omega arith, omega arith);
            cleared =
                λ f b e l.
                let q : max call.quiesce call.release ≤ latest = h.bounded f b in
                absurd (omega arith);
          }

      go : ((w.visit a).there ≡ true) ⊎ ((w.visit a).there ≡ false) → Lands (cond (w.visit a).there (w.visit a) made)
      go (inl e) = subst (λ (d : Bool). Lands (cond d (w.visit a) made)) (sym e) there
      go (inr e) = subst (λ (d : Bool). Lands (cond d (w.visit a) made)) (sym e) (makes e)
