-- What one passage slot has in the tables, and the ledger that the proof keeps of it. Assumes nothing.
use Rattle.std.specs.Prelude.{ℕ, suc, Bool, true, false, cond}
use Rattle.rules.specs.Tables.{site_at, passage_at, visit_at, message_at, no_visit, no_message}
use Rattle.rules.specs.Machine.{is_message_of}
use Rattle.runs.specs.Types.{Passage, Visit, Message, Tables}
use Rattle.runs.specs.Walk.Put.{put}

-- one slot's part of the tables: its passage, its visit at each site, each site's clock, and its messages;
-- a message slot that is empty or another passage's is seen as empty
pub record View : Type 0 where
  pub passage : Passage
  pub visit : ℕ → Visit
  pub clock : ℕ → ℕ
  pub mail : ℕ → Message

abbrev pub mail_of : ℕ → Message → Message
mail_of p m = cond (is_message_of p m) m no_message

abbrev pub view_of : Tables → ℕ → View
view_of t p =
    record {
      passage = passage_at t p;
      visit = λ s. visit_at t s p;
      clock = λ s. (site_at t s).clock;
      mail = λ k. mail_of p (message_at t k);
    }

-- what is remembered of the passage's visit at one site: whether there ever was one, its latest record (left as it was when the visit goes),
-- and, from when it was made, the call's round, the call's source, and one more than the caller's depth
pub record Past : Type 0 where
  pub seen : Bool
  pub last : Visit
  pub born : ℕ
  pub caller : ℕ
  pub depth : ℕ

abbrev pub Ledger : Type 0
Ledger = ℕ → Past

abbrev pub never : Past
never = record { seen = false; last = no_visit; born = 0; caller = 0; depth = 0 }

abbrev pub no_ledger : Ledger
no_ledger s = never

-- the visit's latest record
abbrev pub relast : Past → Visit → Past
relast x v = record { seen = true; last = v; born = x.born; caller = x.caller; depth = x.depth }

-- a visit that is made for a call from this source
abbrev pub first_seen : Ledger → ℕ → Visit → Past
first_seen l source v =
    record { seen = true; last = v; born = v.round; caller = source; depth = suc (l source).depth }

abbrev pub noted_past : Ledger → Past → ℕ → Visit → Past
noted_past l x source v = cond v.there (cond x.seen (relast x v) (first_seen l source v)) x

-- the ledger once this visit stands at site a; source is that of the message looked at
abbrev pub ledger_noted : Ledger → ℕ → ℕ → Visit → Ledger
ledger_noted l a source v = put l a (noted_past l (l a) source v)
