-- Nothing is put on a page, or one text after another. Assumes nothing.
use Rattle.std.specs.Prelude.{◌≡◌, refl, List, ℕ, [], ◌++◌}
use Rattle.std.proofs.Common.{◌∙◌, add-zero, append-nil, arith, length-append, take-append-drop}
use Rattle.std.specs.Borrow.{MutBor}
use Rattle.buffer.specs.declared.Page.{Page}
use Rattle.buffer.specs.Page.{Begins, IsEmpty, Writes}
use Rattle.buffer.specs.Text.{Puts, written_both}

pub writes_nothing : (a : Page) → Writes a a []
writes_nothing a = record {
  same = refl;
  size = refl;
  buffer = rw (add-zero, append-nil, take-append-drop);
  ends = omega arith;
}

pub writes_both : {a b c : Page} {x y : List ℕ} → Writes a b x → Writes b c y → Writes a c (x ++ y)
writes_both {a} {b} {c} {x} {y} p q = record {
  same = q.same ∙ p.same;
  size = q.size ∙ p.size;
  buffer = q.buffer ∙ rw (p.buffer, p.ends) (written_both a.out.now a.len x y a.fits);
  ends = rw (length-append x y) (omega (arith, p.ends, q.ends));
}

-- what stands on a page that began at this place, and what its `len` answers
pub puts_from : {lent : MutBor (List ℕ)} {a b : Page} {at : ℕ} {x : List ℕ} {n : ℕ} → Begins a at lent → Writes a b x → n ≡ b.len
    → Puts lent.now at x b.out.now n
puts_from {lent} {a} {b} {at} {x} {n} e w l = record {
  buffer = rw (w.buffer, e.buffer, e.place);
  ends = rw (l, w.ends, e.place);
}

-- the same of a page that began with no text
pub puts_from_front : {lent : MutBor (List ℕ)} {a b : Page} {x : List ℕ} {n : ℕ} → IsEmpty a lent → Writes a b x → n ≡ b.len
    → Puts lent.now 0 x b.out.now n
puts_from_front e w l = puts_from e w l
