-- What is known of a passage along a run, and what a store must leave so that every slot keeps the invariant behind demand 3. Assumes nothing.
use Rattle.std.specs.Prelude.{ℕ, ◌<◌, ◌≤◌, ◌≢◌, not, ◌&&◌}
use Rattle.std.proofs.Common.{sym, subst, ⊎_elim}
use Rattle.rules.specs.declared.looking.Trip.{Trip}
use Rattle.rules.specs.Tables.{site_at, passage_at, message_at}
use Rattle.rules.specs.Machine.{stored}
use Rattle.rules.specs.StoredLaws.{Sized, Placed}
use Rattle.runs.specs.Types.{Passage, Visit, Body, Tables, Step, Places, Seen}
use Rattle.runs.specs.Walk.Put.{same_or_other}
use Rattle.runs.specs.Times.View.{View, mail_of, view_of}
use Rattle.runs.proofs.Times.Store.{left_view, OwnChange, mail_after_other, own_view, other_view}
use Rattle.runs.specs.Orphans.Orphans.{commit_after, retires}
use Rattle.runs.specs.Orphans.Watch.{Known, Watch}
use Rattle.runs.proofs.Orphans.WatchKept.{Follows, watch_follows, Ending, BodyKeeps, VisitKeeps, PassageKeeps, watch_left, watch_moved}

-- ---- what is known, along a run

-- a prepare begins a commit round, a begin starts afresh, a retire ends the watch
abbrev pub known_head : ℕ → Tables → Step → Known → Known
known_head p t step g =
    record {
      commit = commit_after p g.commit step;
      watched = g.watched && not (retires p step);
      cleared = g.cleared;
    }

-- a slot's turn of a sweep or a crash changes nothing of it
abbrev pub known_turn : Trip → ℕ → Tables → Known → Known
known_turn trip slot t g = g

-- ---- what a store must keep to

-- the passage, the visit at site a and the body that a step leaves
pub record LeftKeeps (latest : ℕ) (w : View) (a : ℕ) (p : Passage) (v : Visit) (b : Body) : Type 0 where
  pub passage : PassageKeeps latest w p
  pub visit : VisitKeeps latest w a v
  pub mail : BodyKeeps latest w b

-- a step that tells nothing new of the passage
pub record KeepsWatch (latest : ℕ) (t : Tables) (at : Places) (left : Seen) : Type 0 where
  pub clock : (site_at t at.site).clock ≤ left.site.clock
  pub mail : OwnChange at.slot (message_at t at.message) left.message
  pub own :
      Ending (passage_at t at.slot)
      → LeftKeeps latest (view_of t at.slot) at.site left.passage left.visit (mail_of at.slot left.message).body

-- any step, where next says what is known of each slot after it
pub record Guards (latest site : ℕ) (t : Tables) (at : Places) (g : Known) (next : ℕ → Known) (left : Seen) : Type 0 where
  pub clock : (site_at t at.site).clock ≤ left.site.clock
  pub mail : OwnChange at.slot (message_at t at.message) left.message
  pub own :
      Watch latest site g (view_of t at.slot)
      → Watch
      latest
      site
      (next at.slot)
      (left_view (view_of t at.slot) at.site at.message left.passage left.visit left.site.clock (mail_of at.slot left.message))
  pub other : (p : ℕ) → p ≢ at.slot → Follows g (next p)

pub guards_of_kept :
    (latest site : ℕ) (t : Tables) (at : Places) (g : Known) (next : ℕ → Known) (left : Seen)
    → ((p : ℕ) → Follows g (next p)) → KeepsWatch latest t at left → Guards latest site t at g next left
guards_of_kept latest site t at g next left f x =
    record {
      clock = x.clock;
      mail = x.mail;
      own =
          λ h.
          watch_follows
          latest
          site
          g
          (next at.slot)
          _
          (f at.slot)
          (watch_left
          latest
          site
          g
          (view_of t at.slot)
          at.site
          at.message
          left.site.clock
          left.passage
          left.visit
          (mail_of at.slot left.message)
          x.clock
          (x.own h.ending).passage
          (x.own h.ending).visit
          (x.own h.ending).mail
          h);
      other = λ p n. f p;
    }

-- then every slot's invariant is kept
module _ (latest site : ℕ) (t : Tables) (at : Places) (g : Known) (next : ℕ → Known) (left : Seen)
    (z : Sized t) (h : Placed at) (x : Guards latest site t at g next left) where
  own_guarded : Watch latest site g (view_of t at.slot) → Watch latest site (next at.slot) (view_of (stored t at left) at.slot)
  own_guarded k = rw (own_view t at left z h) (x.own k)

  other_guarded :
      (p : ℕ) → p < 16 → p ≢ at.slot → Watch latest site g (view_of t p)
      → Watch latest site (next p) (view_of (stored t at left) p)
  other_guarded p b n k =
      rw
      (other_view t at left z h p b n)
      (watch_follows
      latest
      site
      g
      (next p)
      _
      (x.other p n)
      (watch_moved
      latest
      site
      g
      (view_of t p)
      at.site
      at.message
      left.site.clock
      (mail_of p left.message)
      x.clock
      (mail_after_other at.slot p (message_at t at.message) left.message x.mail n)
      k))

  pub guarded :
      (p : ℕ) → p < 16 → Watch latest site g (view_of t p) → Watch latest site (next p) (view_of (stored t at left) p)
  guarded p b =
      ⊎_elim
      (λ e.
      subst
      (λ (q : ℕ). Watch latest site g (view_of t q) → Watch latest site (next q) (view_of (stored t at left) q))
      (sym e)
      own_guarded)
      (λ n. other_guarded p b n)
      (same_or_other p at.slot)
