-- From tables to views: a step stores one site, one passage, one visit and one message; what each slot then sees. Assumes nothing.
use Rattle.std.specs.Prelude.{ℕ, ◌<◌, ◌≤◌, ◌≡◌, refl, ◌≢◌, ◌⊎◌, Bool, true, false, cond, not, ◌&&◌, eqb}
use Rattle.std.proofs.Common.{arith, sym, ap, ◌∙◌, subst, ⊎_elim, inl, inr, eq-eqb, ne_eqb}
use Rattle.rules.specs.Tables.{site_at, visit_at, message_at, no_message, slot_of}
use Rattle.rules.specs.Answers.{is_accepted, settle_of}
use Rattle.rules.specs.AnswersLaws.{settle_accepted}
use Rattle.rules.specs.Parts.{is_free, is_empty, answer_message}
use Rattle.rules.specs.Calls.{at_home, answer_back}
use Rattle.rules.specs.Machine.{seen_of, stored}
use Rattle.rules.specs.LoopsLaws.{either, cond_keeps}
use Rattle.rules.specs.StoredLaws.{Sized, Placed, visit_place_same, site_after_stored, passage_after_stored, visit_after_stored, message_after_stored, site_after_stored_other, passage_after_stored_other, visit_after_stored_other, message_after_stored_other}
use Rattle.runs.specs.Types.{Site, Status, Passage, Visit, Body, Message, Tables, Places, Seen, Decision}
use Rattle.runs.specs.Walk.Put.{put, put_same, put_other, put_all, same_or_other, everywhere, put_back}
use Rattle.runs.specs.Times.View.{View, Past, Ledger, mail_of, view_of, no_ledger, relast, noted_past, ledger_noted}
use Rattle.runs.specs.Times.Clauses.{Quiet, Holds}
use Rattle.runs.proofs.Kept.Shrunk.{around, shrunk}
use Rattle.runs.proofs.Kept.Life.{free_again}

-- ---- the ledger along a run

-- the slot's ledger once a step has left this: none for a free slot
abbrev pub next_ledger : Ledger → ℕ → Seen → Seen → Ledger
next_ledger l a seen left =
    cond (is_free left.passage.status) no_ledger (ledger_noted l a seen.message.source left.visit)

-- the ledgers of all slots: only the step's own slot has news
abbrev pub next_ledgers : (ℕ → Ledger) → Places → Seen → Seen → ℕ → Ledger
next_ledgers ls at seen left = put ls at.slot (next_ledger (ls at.slot) at.site seen left)

-- ---- what a slot sees after a store

-- this passage, this visit and this clock at site a, this message in slot k
abbrev pub left_view : View → ℕ → ℕ → Passage → Visit → ℕ → Message → View
left_view w a k passage visit clock m =
    record {
      passage = passage;
      visit = put w.visit a visit;
      clock = put w.clock a clock;
      mail = put w.mail k m;
    }

-- a message slot that is empty, or of passage slot p
abbrev pub Own : ℕ → Message → Type 0
Own p m = (is_empty m.body ≡ true) ⊎ (slot_of m.handle ≡ p)

-- a message of slot p is seen by p as it is
pub own_mail : (p : ℕ) (m : Message) → is_empty m.body ≡ false → slot_of m.handle ≡ p → mail_of p m ≡ m
own_mail p m b e = rw (b, eq-eqb (slot_of m.handle) p e)

pub own_body :
    (p : ℕ) (m : Message) (b : Body) → m.body ≡ b → is_empty b ≡ false → slot_of m.handle ≡ p → (mail_of p m).body ≡ b
own_body p m b e full h = ap (λ (x : Message). x.body) (own_mail p m (ap is_empty e ∙ full) h) ∙ e

-- an empty one as empty
pub empty_mail : (p : ℕ) (m : Message) → is_empty m.body ≡ true → mail_of p m ≡ no_message
empty_mail p m e = rw e

-- and by another slot as empty
pub other_mail : (p q : ℕ) (m : Message) → Own p m → q ≢ p → mail_of q m ≡ no_message
other_mail p q m (inl e) n = rw e
other_mail p q m (inr e) n = hidden (is_empty m.body) (ne_eqb (slot_of m.handle) q (λ y. n (sym y ∙ e)))
  where
    hidden : (b : Bool) → eqb (slot_of m.handle) q ≡ false → cond (not b && eqb (slot_of m.handle) q) m no_message ≡ no_message
    hidden true y = refl
    hidden false y = rw y

-- the answer to a message of slot p, if one goes out, is of p too
pub back_own :
    (p clock : ℕ) (v : Visit) (seen : Seen) → slot_of seen.message.handle ≡ p → Own p (answer_back v clock seen)
back_own p clock v seen e =
    cond_keeps
    (Own p)
    (at_home seen)
    no_message
    (answer_message v seen.message.destination seen.passage.home seen.message.handle clock)
    (inl refl)
    (inr e)

-- what a step of slot p does to a message slot: nothing, or it was p's or empty and stays so
abbrev pub OwnChange : ℕ → Message → Message → Type 0
OwnChange p was left = (left ≡ was) ⊎ (Own p was × Own p left)

-- another slot sees nothing of it
pub mail_after_other : (p q : ℕ) (was left : Message) → OwnChange p was left → q ≢ p → mail_of q left ≡ mail_of q was
mail_after_other p q was left (inl e) n = ap (mail_of q) e
mail_after_other p q was left (inr e) n = other_mail p q left e.1 n ∙ sym (other_mail p q was e.0 n)

module _ (t : Tables) (at : Places) (left : Seen) (z : Sized t) (h : Placed at) where
  stored_clock : (s : ℕ) → (site_at (stored t at left) s).clock ≡ put (λ x. (site_at t x).clock) at.site left.site.clock s
  stored_clock s =
      ⊎_elim
      (λ (e : s ≡ at.site).
      rw e (ap (λ (x : Site). x.clock) (site_after_stored t at left z h) ∙ sym (put_same (λ x. (site_at t x).clock) at.site left.site.clock)))
      (λ n.
      ap (λ (x : Site). x.clock) (site_after_stored_other t at left s n)
      ∙ sym (put_other (λ x. (site_at t x).clock) at.site left.site.clock s n))
      (same_or_other s at.site)

  stored_visit : (s : ℕ) → visit_at (stored t at left) s at.slot ≡ put (λ x. visit_at t x at.slot) at.site left.visit s
  stored_visit s =
      ⊎_elim
      (λ (e : s ≡ at.site).
      rw e (visit_after_stored t at left z h ∙ sym (put_same (λ x. visit_at t x at.slot) at.site left.visit)))
      (λ n.
      visit_after_stored_other t at left s at.slot (λ e. n (visit_place_same s at.slot at.site at.slot h.slot h.slot e).0)
      ∙ sym (put_other (λ x. visit_at t x at.slot) at.site left.visit s n))
      (same_or_other s at.site)

  stored_mail : (p k : ℕ) → mail_of p (message_at (stored t at left) k) ≡ put (λ x. mail_of p (message_at t x)) at.message (mail_of p left.message) k
  stored_mail p k =
      ⊎_elim
      (λ (e : k ≡ at.message).
      rw e (ap (mail_of p) (message_after_stored t at left z h) ∙ sym (put_same (λ x. mail_of p (message_at t x)) at.message (mail_of p left.message))))
      (λ n.
      ap (mail_of p) (message_after_stored_other t at left k n)
      ∙ sym (put_other (λ x. mail_of p (message_at t x)) at.message (mail_of p left.message) k n))
      (same_or_other k at.message)

  -- the step's own slot
  pub own_view :
      view_of (stored t at left) at.slot
      ≡ left_view (view_of t at.slot) at.site at.message left.passage left.visit left.site.clock (mail_of at.slot left.message)
  own_view =
      λ i.
      record {
        passage = passage_after_stored t at left z h i;
        visit = everywhere stored_visit i;
        clock = everywhere stored_clock i;
        mail = everywhere (stored_mail at.slot) i;
      }

  -- another slot: its passage and visits stay
  pub other_view :
      (p : ℕ) → p < 16 → p ≢ at.slot
      → view_of (stored t at left) p
      ≡ around
      (view_of t p)
      (view_of t p).visit
      (put (view_of t p).clock at.site left.site.clock)
      (put (view_of t p).mail at.message (mail_of p left.message))
  other_view p b n =
      λ i.
      record {
        passage = passage_after_stored_other t at left p n i;
        visit =
            everywhere
            {f = λ s. visit_at (stored t at left) s p}
            {g = λ s. visit_at t s p}
            (λ s.
            visit_after_stored_other t at left s p (λ e. n (visit_place_same s p at.site at.slot b h.slot e).1))
            i;
        clock = everywhere stored_clock i;
        mail = everywhere (stored_mail p) i;
      }

-- ---- what a store must keep to

pub record Fitting (t : Tables) (at : Places) (left : Seen) : Type 0 where
  pub clock : (site_at t at.site).clock ≤ left.site.clock
  pub mail : OwnChange at.slot (message_at t at.message) left.message
  pub own :
      (l : Ledger) → Holds (view_of t at.slot) l
      → Holds
      (left_view (view_of t at.slot) at.site at.message left.passage left.visit left.site.clock (mail_of at.slot left.message))
      (next_ledger l at.site (seen_of t at) left)

-- an accepted decision leaves what it decided
pub fitting_after_settled :
    (t : Tables) (at : Places) (d : Decision) → is_accepted d.answer ≡ true → Fitting t at d.left
    → Fitting t at (settle_of d (seen_of t at)).left
fitting_after_settled t at d e x = subst (Fitting t at) (sym (settle_accepted d (seen_of t at) e)) x

-- then every slot's invariant is kept: its own by its law, the others' by the frame law
module _ (t : Tables) (at : Places) (left : Seen) (z : Sized t) (h : Placed at) (x : Fitting t at left) where
  holds_after_other : (p : ℕ) (l : Ledger) → p < 16 → p ≢ at.slot → Holds (view_of t p) l → Holds (view_of (stored t at left) p) l
  holds_after_other p l b n k =
      rw
      (other_view t at left z h p b n)
      (shrunk
      (view_of t p)
      (view_of t p).visit
      (put (view_of t p).clock at.site left.site.clock)
      (put (view_of t p).mail at.message (mail_of p left.message))
      l
      (put_all
      (view_of t p).clock
      at.site
      left.site.clock
      (λ s c. (view_of t p).clock s ≤ c)
      x.clock
      (λ s e. omega arith))
      (put_all
      (view_of t p).mail
      at.message
      (mail_of p left.message)
      (λ i m. (m ≡ (view_of t p).mail i) ⊎ (m.body ≡ Body.Empty))
      (inl (mail_after_other at.slot p (message_at t at.message) left.message x.mail n))
      (λ i e. inl refl))
      (λ s e. refl)
      (λ s y e. inl e)
      k)

  pub holds_after_fitting :
      (ls : ℕ → Ledger) → ((p : ℕ) → p < 16 → Holds (view_of t p) (ls p)) → (p : ℕ) → p < 16
      → Holds (view_of (stored t at left) p) (next_ledgers ls at (seen_of t at) left p)
  holds_after_fitting ls k p b =
      put_all
      ls
      at.slot
      (next_ledger (ls at.slot) at.site (seen_of t at) left)
      (λ q l. q < 16 → Holds (view_of (stored t at left) q) l)
      (λ c. rw (own_view t at left z h) (x.own (ls at.slot) (k at.slot h.slot)))
      (λ q n c. holds_after_other q (ls q) c n (k q c))
      p
      b

-- ---- the ledger where the visit stays, or changes

first_of_two : {A : Type 0} (b c : Bool) (x y z : A) → b ≡ true → c ≡ true → cond b (cond c x y) z ≡ x
first_of_two b c x y z e s = rw (e, s)

relast_same : (x : Past) (v : Visit) → x.seen ≡ true → x.last ≡ v → relast x v ≡ x
relast_same x v s e =
    λ i.
    record {
      seen = sym s i;
      last = sym e i;
      born = x.born;
      caller = x.caller;
      depth = x.depth;
    }

-- a visit that stays is no news
pub noted_same : (w : View) (l : Ledger) (a source : ℕ) → Holds w l → ledger_noted l a source (w.visit a) ≡ l
noted_same w l a source h = put_back l a _ (same (either (w.visit a).there))
  where
    same : ((w.visit a).there ≡ true) ⊎ ((w.visit a).there ≡ false) → noted_past l (l a) source (w.visit a) ≡ l a
    same (inl e) =
        first_of_two (w.visit a).there (l a).seen _ _ _ e (h.mirror a e).0
        ∙ relast_same (l a) (w.visit a) (h.mirror a e).0 (h.mirror a e).1
    same (inr e) = rw e

-- a visit that was there and is there has a later record
pub noted_there :
    (l : Ledger) (a source : ℕ) (v : Visit) → v.there ≡ true → (l a).seen ≡ true
    → ledger_noted l a source v ≡ put l a (relast (l a) v)
noted_there l a source v e s = ap (put l a) (first_of_two v.there (l a).seen _ _ _ e s)

-- a visit that is not there leaves the ledger
pub noted_gone : (l : Ledger) (a source : ℕ) (v : Visit) → v.there ≡ false → ledger_noted l a source v ≡ l
noted_gone l a source v e = put_back l a _ (rw e refl)

-- the clock moves, and a message may be lost
pub holds_after_raised :
    (w : View) (l : Ledger) (a k c : ℕ) (m : Message) → Holds w l → w.clock a ≤ c
    → (m ≡ w.mail k) ⊎ (m.body ≡ Body.Empty)
    → Holds (left_view w a k w.passage (w.visit a) c m) l
holds_after_raised w l a k c m h i e =
    shrunk
    w
    (put w.visit a (w.visit a))
    (put w.clock a c)
    (put w.mail k m)
    l
    (put_all w.clock a c (λ s y. w.clock s ≤ y) i (λ s n. omega arith))
    (put_all w.mail k m (λ j y. (y ≡ w.mail j) ⊎ (y.body ≡ Body.Empty)) e (λ j n. inl refl))
    (put_all w.visit a (w.visit a) (λ s v. v.there ≡ true → v ≡ w.visit s) (λ y. refl) (λ s n y. refl))
    (put_all
    w.visit
    a
    (w.visit a)
    (λ s v.
    (l s).seen ≡ true → v.there ≡ false
    → ((w.visit s).there ≡ false) ⊎ (((l s).last.release ≤ put w.clock a c s) ⊎ Quiet w l))
    (λ y z. inl z)
    (λ s n y z. inl z))
    h

-- the same, with the ledger that a step without news leaves
pub holds_after_idle :
    (w : View) (l : Ledger) (a k c source : ℕ) (m : Message) → Holds w l → w.clock a ≤ c
    → (m ≡ w.mail k) ⊎ (m.body ≡ Body.Empty)
    → Holds
    (left_view w a k w.passage (w.visit a) c m)
    (cond (is_free w.passage.status) no_ledger (ledger_noted l a source (w.visit a)))
holds_after_idle w l a k c source m h i e = go w.passage.status refl
  where
    left : Holds (left_view w a k w.passage (w.visit a) c m) l
    left = holds_after_raised w l a k c m h i e

    used : Holds (left_view w a k w.passage (w.visit a) c m) (ledger_noted l a source (w.visit a))
    used = rw (noted_same w l a source h) left

    go :
        (s : Status) → w.passage.status ≡ s
        → Holds (left_view w a k w.passage (w.visit a) c m) (cond (is_free s) no_ledger (ledger_noted l a source (w.visit a)))
    go Status.Free y = free_again (left_view w a k w.passage (w.visit a) c m) l left y
    go Status.Active y = used
    go Status.Committing y = used
    go Status.Aborted y = used
    go Status.Committed y = used
