-- A visit that is gone does not come back, and its release time stays as it was, until its slot is retired. Assumes nothing.
use Rattle.std.specs.Prelude.{ℕ, ◌≤◌, ◌≡◌, refl, true, false}
use Rattle.std.proofs.Common.{sym, ◌∙◌, subst, ⊎_elim, true≢false}
use Rattle.std.proofs.lemmas.Bool.{false≢true}
use Rattle.rules.specs.LoopsLaws.{either}
use Rattle.rules.specs.Parts.{is_free}
use Rattle.runs.specs.Types.{Visit}
use Rattle.runs.specs.Walk.Put.{put}
use Rattle.runs.specs.Times.View.{View, Ledger, ledger_noted}
use Rattle.runs.specs.Times.Clauses.{Holds}
use Rattle.runs.proofs.Fits.Life.{free_says}
use Rattle.runs.proofs.Moves.Laws.{sites_after, made_at_unseen, turned_unmade}
use Rattle.runs.proofs.Commits.Over.{NoWay}
use Rattle.runs.proofs.Commits.Since.{Carries}

-- the visit at site s is gone, and its release time was r at most
pub record Gone (r s : ℕ) (w : View) (l : Ledger) : Type 0 where
  pub seen : (l s).seen ≡ true
  pub gone : (w.visit s).there ≡ false
  pub released : (l s).last.release ≤ r

-- a slot that a site has seen is in use
pub seen_used : {w : View} {l : Ledger} (s : ℕ) → Holds w l → (l s).seen ≡ true → is_free w.passage.status ≡ false
seen_used {w = w} s h e =
    ⊎_elim
    (λ f. absurd (false≢true (sym ((h.free (free_says w.passage.status f)).ledger s) ∙ e)))
    (λ f. f)
    (either (is_free w.passage.status))

module _ (r s : ℕ) where
  -- a store that makes no visit where one has been seen
  gone_after :
      (w : View) (l : Ledger) (a source : ℕ) (v : Visit) → Gone r s w l → ((w.visit a).there ≡ false → v.there ≡ true → (l a).seen ≡ true → ⊥)
      → (x : ℕ) → x ≡ s → ((ledger_noted l a source v x).seen ≡ true) × ((put w.visit a v x).there ≡ false) × ((ledger_noted l a source v x).last.release ≤ r)
  gone_after w l a source v g unmade =
      sites_after w l a source v
      (λ x u y. x ≡ s → (y.seen ≡ true) × (u.there ≡ false) × (y.last.release ≤ r))
      (λ there y seen last e.
      absurd (unmade (subst (λ (x : ℕ). (w.visit x).there ≡ false) (sym e) g.gone) there (subst (λ (x : ℕ). (l x).seen ≡ true) (sym e) g.seen)))
      (λ gone e. (subst (λ (x : ℕ). (l x).seen ≡ true) (sym e) g.seen, gone, subst (λ (x : ℕ). (l x).last.release ≤ r) (sym e) g.released))
      (λ x n e. subst (λ (y : ℕ). ((l y).seen ≡ true) × ((w.visit y).there ≡ false) × ((l y).last.release ≤ r)) (sym e) (g.seen, g.gone, g.released))

  pub gone_carries : Carries (Gone r s) NoWay
  gone_carries =
      record {
        moved =
            λ {step} {w} {a} {k} {c} {p} {v} {m} l source h o g move u.
            let x = gone_after w l a source v g (λ missing there seen. true≢false (sym seen ∙ made_at_unseen l h move missing there)) s refl in
            record { seen = x.0; gone = x.1; released = x.2 };
        turned =
            λ {w} {a} {p} {v} trip l source k at h o g way turn.
            let x = gone_after w l a source v g (λ missing there seen. turned_unmade turn missing there) s refl in
            record { seen = x.0; gone = x.1; released = x.2 };
        used = λ h g. seen_used s h g.seen;
        sets_out = λ t step p l z a g. tt;
        goes_on = λ trip w u later way. tt;
      }
