-- A page: what putting a text behind its own leaves. Assumes nothing.
use Rattle.std.specs.Prelude.{ℕ, ◌+◌, ◌≤◌, ◌≡◌, List, length}
use Rattle.std.specs.Borrow.{MutBor}
use Rattle.buffer.specs.declared.Page.{Page}
use Rattle.buffer.specs.Text.{written}

-- a page that goes on at this place of this buffer, of which nothing has changed
pub record Begins (page : Page) (at : ℕ) (lent : MutBor (List ℕ)) : Type 0 where
  pub same : page.out.ghost_name ≡ lent.ghost_name
  pub size : length page.out.now ≡ length lent.now
  pub buffer : page.out.now ≡ lent.now
  pub place : page.len ≡ at

-- a page with no text yet
abbrev pub IsEmpty : Page → MutBor (List ℕ) → Type 0
IsEmpty page lent = Begins page 0 lent

-- there is room for so many bytes more
abbrev pub HasRoom : Page → ℕ → Type 0
HasRoom page n = page.len + n ≤ length page.out.now

-- the page goes on with this text, in the same buffer; every other byte of the buffer stays
pub record Writes (before after : Page) (text : List ℕ) : Type 0 where
  pub same : after.out.ghost_name ≡ before.out.ghost_name
  pub size : length after.out.now ≡ length before.out.now
  pub buffer : after.out.now ≡ written before.out.now before.len text
  pub ends : after.len ≡ before.len + length text
