-- The invariant behind demand 3 on one slot's view: what a step must keep of passage, visit and message, and that a store of such three keeps it. Assumes nothing.
use Rattle.std.specs.Prelude.{ℕ, ◌≤◌, ◌≡◌, ◌⊎◌, true, false}
use Rattle.std.proofs.Common.{arith, sym, ap, ◌∙◌, ⊎_elim, inl, inr, true≢false}
use Rattle.std.proofs.lemmas.Bool.{false≢true}
use Rattle.rules.specs.Parts.{is_free, is_running, is_active}
use Rattle.runs.specs.Types.{Kind, Phase, Status, Passage, Visit, Body, Message}
use Rattle.runs.specs.Walk.Says.{of_commit}
use Rattle.runs.specs.Walk.Put.{put, put_all}
use Rattle.runs.specs.Times.View.{View}
use Rattle.runs.proofs.Kept.Shrunk.{around}
use Rattle.runs.proofs.Times.Store.{left_view}
use Rattle.runs.specs.Orphans.Watch.{Known, PlainStatus, PlainKind, PlainVisit, PlainBody, Plain, BoundedVisit, BoundedBody, Bounded, Watch}

-- ---- what is known may grow weaker: no commit round and the watch only where they were known before

pub record Follows (g h : Known) : Type 0 where
  pub commit : h.commit ≡ false → g.commit ≡ false
  pub watched : h.watched ≡ true → g.watched ≡ true
  pub cleared : h.cleared ≡ true → g.cleared ≡ true

pub follows_same : (g : Known) → Follows g g
follows_same g = record { commit = λ e. e; watched = λ e. e; cleared = λ e. e }

pub watch_follows :
    (latest site : ℕ) (g h : Known) (w : View) → Follows g h → Watch latest site g w → Watch latest site h w
watch_follows latest site g h w f k =
    record {
      ending = k.ending;
      plain = λ e. k.plain (⊎_elim (λ c. inl (f.commit c)) (λ c. inr c) e);
      watched = λ e. k.watched (f.watched e);
      cleared = λ e y. k.cleared (f.cleared e) (f.watched y);
    }

-- ---- what is kept of one passage, and of one body

-- a round of an aborted passage that is open is a terminate
abbrev pub Ending : Passage → Type 0
Ending p = p.status ≡ Status.Aborted → (p.round.phase ≡ Phase.None) ⊎ (p.round.kind ≡ Kind.Terminate)

-- a body that the view could hold
pub record BodyKeeps (latest : ℕ) (w : View) (b : Body) : Type 0 where
  pub plain : Plain w → PlainBody b
  pub bounded : Plain w → Bounded latest w → BoundedBody latest b

-- a visit that may stand at site a next
pub record VisitKeeps (latest : ℕ) (w : View) (a : ℕ) (v : Visit) : Type 0 where
  pub plain : Plain w → PlainVisit v
  pub bounded : Plain w → Bounded latest w → BoundedVisit latest v
  pub cleared : Plain w → Bounded latest w → (w.visit a).there ≡ false → latest ≤ w.clock a → v.there ≡ false

-- a passage that may stand there next
pub record PassageKeeps (latest : ℕ) (w : View) (p : Passage) : Type 0 where
  pub ending : Ending p
  pub free : p.status ≡ Status.Free → w.passage.status ≡ Status.Free
  pub plain : Plain w → PlainStatus p.status × PlainKind p.round.kind
  pub aborted : Plain w → Bounded latest w → p.status ≡ Status.Aborted

-- ---- a store with these three parts keeps the invariant

pub plain_left :
    (w : View) (a k c : ℕ) (p : Passage) (v : Visit) (m : Message) → Plain w
    → PlainStatus p.status × PlainKind p.round.kind → PlainVisit v → PlainBody m.body
    → Plain (left_view w a k p v c m)
plain_left w a k c p v m h x y z =
    record {
      status = x.0;
      kind = x.1;
      visits = put_all w.visit a v (λ s u. PlainVisit u) y (λ s n. h.visits s);
      mail = put_all w.mail k m (λ i u. PlainBody u.body) z (λ i n. h.mail i);
    }

bounded_left :
    (latest : ℕ) (w : View) (a k c : ℕ) (p : Passage) (v : Visit) (m : Message) → Bounded latest w
    → p.status ≡ Status.Aborted → BoundedVisit latest v → BoundedBody latest m.body
    → Bounded latest (left_view w a k p v c m)
bounded_left latest w a k c p v m h x y z =
    record {
      aborted = x;
      visits = put_all w.visit a v (λ s u. BoundedVisit latest u) y (λ s n. h.visits s);
      mail = put_all w.mail k m (λ i u. BoundedBody latest u.body) z (λ i n. h.mail i);
    }

module _ (latest site : ℕ) (g : Known) (w : View) (a k c : ℕ) (p : Passage) (v : Visit) (m : Message)
    (i : w.clock a ≤ c) (x : PassageKeeps latest w p) (y : VisitKeeps latest w a v) (z : BodyKeeps latest w m.body)
    (h : Watch latest site g w) where
  left_plain : Plain w → Plain (left_view w a k p v c m)
  left_plain e = plain_left w a k c p v m e (x.plain e) (y.plain e) (z.plain e)

  left_bounded : Plain w → Bounded latest w → Bounded latest (left_view w a k p v c m)
  left_bounded e b = bounded_left latest w a k c p v m b (x.aborted e b) (y.bounded e b) (z.bounded e b)

  left_gone : Plain w → Bounded latest w → (w.visit site).there ≡ false → latest ≤ w.clock site → (put w.visit a v site).there ≡ false
  left_gone f b =
      put_all
      w.visit
      a
      v
      (λ s u. (w.visit s).there ≡ false → latest ≤ w.clock s → u.there ≡ false)
      (y.cleared f b)
      (λ s n e l. e)
      site

  left_late : latest ≤ w.clock site → latest ≤ put w.clock a c site
  left_late =
      put_all w.clock a c (λ s d. latest ≤ w.clock s → latest ≤ d) (λ e. omega arith) (λ s n e. e) site

  pub watch_left : Watch latest site g (left_view w a k p v c m)
  watch_left =
      record {
        ending = x.ending;
        plain = λ e. left_plain (h.plain (⊎_elim (λ f. inl f) (λ f. inr (x.free f)) e));
        watched = λ e. (left_plain (h.watched e).0, left_bounded (h.watched e).0 (h.watched e).1);
        cleared =
            λ e f.
            (left_gone (h.watched f).0 (h.watched f).1 (h.cleared e f).0 (h.cleared e f).1, left_late (h.cleared e f).1);
      }

-- another slot's step: only a clock moves on, and the mail stays
pub watch_moved :
    (latest site : ℕ) (g : Known) (w : View) (a k c : ℕ) (m : Message) → w.clock a ≤ c → m ≡ w.mail k
    → Watch latest site g w → Watch latest site g (around w w.visit (put w.clock a c) (put w.mail k m))
watch_moved latest site g w a k c m i e h =
    record {
      ending = h.ending;
      plain = λ f. plain (h.plain f);
      watched = λ f. (plain (h.watched f).0, bounded (h.watched f).1);
      cleared =
          λ f y. (
            (h.cleared f y).0,
            put_all w.clock a c (λ s d. latest ≤ w.clock s → latest ≤ d) (λ l. omega arith) (λ s n l. l) site (h.cleared f y).1,
          );
    }
  where
    plain : Plain w → Plain (around w w.visit (put w.clock a c) (put w.mail k m))
    plain y =
        record {
          status = y.status;
          kind = y.kind;
          visits = y.visits;
          mail = put_all w.mail k m (λ j u. PlainBody u.body) (rw e (y.mail k)) (λ j n. y.mail j);
        }

    bounded : Bounded latest w → Bounded latest (around w w.visit (put w.clock a c) (put w.mail k m))
    bounded y =
        record {
          aborted = y.aborted;
          visits = y.visits;
          mail = put_all w.mail k m (λ j u. BoundedBody latest u.body) (rw e (y.mail k)) (λ j n. y.mail j);
        }

-- a passage that is not watched
pub watch_unwatched :
    (latest site : ℕ) (g : Known) (w : View) → (g.watched ≡ true → ⊥) → Ending w.passage
    → ((g.commit ≡ false) ⊎ (w.passage.status ≡ Status.Free) → Plain w) → Watch latest site g w
watch_unwatched latest site g w n e p =
    record { ending = e; plain = p; watched = λ y. absurd (n y); cleared = λ f y. absurd (n y) }

-- a slot with nothing in it
pub plain_free :
    (w : View) → w.passage.status ≡ Status.Free → w.passage.round.kind ≡ Kind.None
    → ((s : ℕ) → (w.visit s).there ≡ false) → ((k : ℕ) → (w.mail k).body ≡ Body.Empty) → Plain w
plain_free w free none visits mail =
    record {
      status = rw free tt;
      kind = rw none tt;
      visits = λ s e. absurd (true≢false (sym e ∙ visits s));
      mail = λ k. ap of_commit (mail k);
    }

-- ---- statuses

pub aborted_free : (s : Status) → s ≡ Status.Aborted → s ≡ Status.Free → ⊥
aborted_free s e f = false≢true (sym (ap is_free e) ∙ ap is_free f)

pub aborted_running : (s : Status) → s ≡ Status.Aborted → is_running s ≡ true → ⊥
aborted_running s e f = false≢true (sym (ap is_running e) ∙ f)

pub aborted_active : (s : Status) → s ≡ Status.Aborted → is_active s ≡ true → ⊥
aborted_active s e f = false≢true (sym (ap is_active e) ∙ f)
