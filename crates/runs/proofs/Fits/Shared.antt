-- What the steps' own laws share: the clock moves first, the ledger gets its news, a message or a visit stays. Assumes nothing.
use Rattle.std.specs.Prelude.{ℕ, ◌≤◌, ◌≡◌, refl, ◌≢◌, ◌⊎◌, true, false, cond}
use Rattle.std.proofs.Common.{arith, sym, ap, ◌∙◌, subst, inl, true≢false}
use Rattle.rules.specs.Tables.{passage_at}
use Rattle.rules.specs.Parts.{is_free}
use Rattle.rules.specs.Ranges.{in_range, phase_fits}
use Rattle.rules.proofs.RangesLaws.{placed_places, seen_in_range}
use Rattle.rules.proofs.RangesFits.{seen_says}
use Rattle.rules.specs.Machine.{places_of, seen_of}
use Rattle.runs.specs.Types.{Status, Passage, Visit, Message, Tables, Look}
use Rattle.runs.specs.Walk.Put.{put, put_all, put_back}
use Rattle.runs.specs.Times.View.{View, Ledger, no_ledger, ledger_noted}
use Rattle.runs.specs.Times.Clauses.{Quiet, Holds}
use Rattle.runs.proofs.Kept.Shrunk.{around, shrunk}
use Rattle.runs.proofs.Kept.Visit.{with_visit}
use Rattle.runs.proofs.Kept.Life.{free_again}
use Rattle.runs.proofs.Times.Store.{left_view, noted_same}

-- the view once the clock of site a has moved
abbrev pub moved : View → ℕ → ℕ → View
moved w a c = around w w.visit (put w.clock a c) w.mail

pub holds_after_moved : (w : View) (l : Ledger) (a c : ℕ) → Holds w l → w.clock a ≤ c → Holds (moved w a c) l
holds_after_moved w l a c h i =
    shrunk
    w
    w.visit
    (put w.clock a c)
    w.mail
    l
    (put_all w.clock a c (λ s y. w.clock s ≤ y) i (λ s n. omega arith))
    (λ k. inl refl)
    (λ s e. refl)
    (λ s y e. inl e)
    h

-- the ledger with its news serves; a free slot needs none
pub holds_after_news :
    (w : View) (news l : Ledger) → news ≡ l → Holds w l → Holds w (cond (is_free w.passage.status) no_ledger news)
holds_after_news w news l y h = go w.passage.status refl
  where
    go : (s : Status) → w.passage.status ≡ s → Holds w (cond (is_free s) no_ledger news)
    go Status.Free e = free_again w l h e
    go Status.Active e = rw y h
    go Status.Committing e = rw y h
    go Status.Aborted e = rw y h
    go Status.Committed e = rw y h

-- to store a message back where it stands changes nothing
pub mail_back :
    (w : View) (a k c : ℕ) (passage : Passage) (v : Visit) (m : Message) (l : Ledger) → m ≡ w.mail k
    → Holds (record { passage = passage; visit = put w.visit a v; clock = put w.clock a c; mail = w.mail }) l
    → Holds (left_view w a k passage v c m) l
mail_back w a k c passage v m l e h =
    subst
    (λ (mail : ℕ → Message).
    Holds (record { passage = passage; visit = put w.visit a v; clock = put w.clock a c; mail = mail }) l)
    (sym (put_back w.mail k m e))
    h

-- to store a visit back where it stands changes nothing
pub visit_back :
    (w : View) (a k c : ℕ) (passage : Passage) (v : Visit) (m : Message) (l : Ledger) → v ≡ w.visit a
    → Holds (record { passage = passage; visit = w.visit; clock = put w.clock a c; mail = put w.mail k m }) l
    → Holds (left_view w a k passage v c m) l
visit_back w a k c passage v m l e h =
    subst
    (λ (visit : ℕ → Visit).
    Holds (record { passage = passage; visit = visit; clock = put w.clock a c; mail = put w.mail k m }) l)
    (sym (put_back w.visit a v e))
    h

-- a visit that stays is no news
pub holds_after_stay :
    (w : View) (l : Ledger) (a source : ℕ) → Holds w l
    → Holds (with_visit w a (w.visit a)) (ledger_noted l a source (w.visit a))
holds_after_stay w l a source h =
    rw
    (noted_same w l a source h)
    (subst
    (λ (v : ℕ → Visit). Holds (record { passage = w.passage; visit = v; clock = w.clock; mail = w.mail }) l)
    (sym (put_back w.visit a (w.visit a) refl))
    h)

-- a visit that goes: its release time has come, or the passage is quiet
pub holds_after_went :
    (w : View) (l : Ledger) (a : ℕ) (v : Visit) → Holds w l → v.there ≡ false
    → ((l a).seen ≡ true → ((w.visit a).there ≡ false) ⊎ (((l a).last.release ≤ w.clock a) ⊎ Quiet w l))
    → Holds (around w (put w.visit a v) w.clock w.mail) l
holds_after_went w l a v h e went =
    shrunk
    w
    (put w.visit a v)
    w.clock
    w.mail
    l
    (λ s. omega arith)
    (λ k. inl refl)
    (put_all
    w.visit
    a
    v
    (λ s x. x.there ≡ true → x ≡ w.visit s)
    (λ y. absurd (true≢false (sym y ∙ e)))
    (λ s n y. refl))
    (put_all
    w.visit
    a
    v
    (λ s x.
    (l s).seen ≡ true → x.there ≡ false
    → ((w.visit s).there ≡ false) ⊎ (((l s).last.release ≤ w.clock s) ⊎ Quiet w l))
    (λ y z. went y)
    (λ s n y z. inl z))
    h

pub not_free : (s : Status) → is_free s ≡ false → s ≢ Status.Free
not_free s e y = true≢false (sym (ap is_free y) ∙ e)

-- the round of the passage that a step looks at has a kind that fits its phase
pub phase_in_range :
    (t : Tables) (look : Look) → in_range t ≡ true
    → phase_fits (passage_at t (places_of t look).slot).round.kind (passage_at t (places_of t look).slot).round.phase ≡ true
phase_in_range t look range =
    (seen_says (seen_of t (places_of t look)) (seen_in_range t (places_of t look) range (placed_places t look))).passage.round.phase
