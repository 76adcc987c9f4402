-- A check ends in one of four ways: refused by itself, never begun, given up, committed. Assumes nothing.
use Rattle.std.specs.Prelude.{ℕ, ◌≡◌, Bool, true, false, cond, List, length, Ok, Err}
use Rattle.std.proofs.Math.Path.{refl, ap}
use Rattle.std.proofs.Common.{sym, ◌∙◌, subst}
use Rattle.rules.specs.declared.tables.Tables.{Tables}
use Rattle.rules.specs.Types.{Answer}
use Rattle.clearing.specs.declared.way.Way.{Way}
use Rattle.clearing.specs.declared.OwnRefusal.{OwnRefusal}
use Rattle.clearing.specs.declared.Verdict.{Verdict}
use Rattle.clearing.specs.declared.Cleared.{Cleared}
use Rattle.clearing.specs.Question.{bad_beam, bad_margin, bad_list, bad_object, names_twice, is_fitting}
use Rattle.clearing.specs.Clearing.{read_count, refused_by, ended_by, went_of, begun_by, checked_of, cleared_of}
use Rattle.clearing.specs.Ends.{beginning, handle, widths_read, closing, Fair, Ends}

module _ (t : Tables) (beam margin : ℕ) (objects : List ℕ) (home slot quiesce release : ℕ) where
  abbrev begun : Way
  begun = beginning t objects home slot quiesce release

  abbrev h : ℕ
  h = handle t objects home slot quiesce release

  abbrev last : Way
  last = closing t objects home slot quiesce release

  ends_went :
      (a : Answer) (v : ℕ) → Fair t beam margin objects home slot quiesce release → begun.answer ≡ Ok v → last.answer ≡ a
      → Ends t beam margin objects home slot quiesce release (went_of beam margin objects home begun)
  ends_went (Ok u) v fair b e = Ends.Committed v u fair b e (rw e)
  ends_went (Err r) v fair b e = Ends.GivenUp v r b e (rw e)

  ends_checked : (a : Answer) → Fair t beam margin objects home slot quiesce release → begun.answer ≡ a → Ends t beam margin objects home slot quiesce release (checked_of t beam margin objects home slot quiesce release)
  ends_checked (Ok v) fair e =
      subst (Ends t beam margin objects home slot quiesce release) (sym (ap (λ (a : Answer). begun_by a beam margin objects home begun) e)) (ends_went last.answer v fair e refl)
  ends_checked (Err r) fair e = Ends.Unbegun r e (rw e)

  ends_tried :
      (b m l o w : Bool) → bad_beam beam ≡ b → bad_margin margin ≡ m → bad_list objects ≡ l → bad_object objects ≡ o
      → names_twice objects ≡ w
      → Ends t beam margin objects home slot quiesce release
      (cond b (refused_by OwnRefusal.Beam t)
      (cond m (refused_by OwnRefusal.Margin t)
      (cond l (refused_by OwnRefusal.List t)
      (cond o (refused_by OwnRefusal.Object t)
      (cond w (refused_by OwnRefusal.Twice t) (checked_of t beam margin objects home slot quiesce release))))))
  ends_tried true m l o w _ _ _ _ _ = Ends.Refused OwnRefusal.Beam refl
  ends_tried false true l o w _ _ _ _ _ = Ends.Refused OwnRefusal.Margin refl
  ends_tried false false true o w _ _ _ _ _ = Ends.Refused OwnRefusal.List refl
  ends_tried false false false true w _ _ _ _ _ = Ends.Refused OwnRefusal.Object refl
  ends_tried false false false false true _ _ _ _ _ = Ends.Refused OwnRefusal.Twice refl
  ends_tried false false false false false b m l o w =
      ends_checked begun.answer (record { beam_fair = b; margin_fair = m; list_fair = l; objects_fair = o; once = w }) refl

  -- a check that its own refusals let pass, that was begun and whose close was accepted, says "fits" exactly if every width fits, else "narrow"
  pub said_after_close :
      (v u : ℕ) → Fair t beam margin objects home slot quiesce release → begun.answer ≡ Ok v → last.answer ≡ Ok u
      → (cleared_of t beam margin objects home slot quiesce release).verdict
      ≡ cond (is_fitting beam margin (widths_read t objects home slot quiesce release) (length objects)) Verdict.Fits Verdict.Narrow
  unfolding cleared_of
  said_after_close v u fair b e =
      ap (λ (c : Cleared). c.verdict)
      (tried ∙ ap (λ (a : Answer). begun_by a beam margin objects home begun) b
      ∙ ap (λ (a : Answer). ended_by a beam margin objects home (widths_read t objects home slot quiesce release) (read_count h home objects begun (length objects)) h last) e)
    where
      tried : cleared_of t beam margin objects home slot quiesce release ≡ checked_of t beam margin objects home slot quiesce release
      tried = rw (fair.beam_fair, fair.margin_fair, fair.list_fair, fair.objects_fair, fair.once)

  pub ends : Ends t beam margin objects home slot quiesce release (cleared_of t beam margin objects home slot quiesce release)
  unfolding cleared_of
  ends = ends_tried _ _ _ _ _ refl refl refl refl refl
