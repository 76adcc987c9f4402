-- Four bytes put into a record at once are the four put one by one. Assumes nothing.
use Rattle.std.specs.Prelude.{ℕ, zero, suc, ◌+◌, ◌/◌, ◌%◌, ◌≤◌, ◌≡◌, List, [], ◌∷◌, length, set}
use Rattle.std.specs.Int.{w32, to_le_bytes}
use Rattle.std.proofs.Common.{refl, arith, ap}
use borrow.Rule.Slice.PartMut.{put_mid}
use Rattle.words.specs.Grammar.{put_four}

set_four : (at : ℕ) (a b c d : ℕ) (bytes : List ℕ) → at + 4 ≤ length bytes → put_mid at 4 bytes (a ∷ b ∷ c ∷ d ∷ []) ≡ set (set (set (set bytes at a) (at + 1) b) (at + 2) c) (at + 3) d
set_four zero a b c d [] h = absurd (omega arith)
set_four zero a b c d (_ ∷ []) h = absurd (omega arith)
set_four zero a b c d (_ ∷ _ ∷ []) h = absurd (omega arith)
set_four zero a b c d (_ ∷ _ ∷ _ ∷ []) h = absurd (omega arith)
set_four zero a b c d (_ ∷ _ ∷ _ ∷ _ ∷ bytes) h = refl
set_four (suc at) a b c d [] h = absurd (omega arith)
set_four (suc at) a b c d (x ∷ bytes) h =
    let one : suc at + 1 ≡ suc (at + 1) = omega arith in
    let two : suc at + 2 ≡ suc (at + 2) = omega arith in
    let three : suc at + 3 ≡ suc (at + 3) = omega arith in
    rw (one, two, three) (ap (λ (l : List ℕ). x ∷ l) (set_four at a b c d bytes (omega arith)))

pub four_stored : (at n k : ℕ) (bytes part : List ℕ) → at + 4 ≤ length bytes → k ≡ 4 → part ≡ to_le_bytes w32 n → put_mid at k bytes part ≡ put_four at n bytes
four_stored at n k bytes part h e f = rw (e, f, set_four at (n % 256) (n / 256 % 256) (n / 65536 % 256) (n / 16777216 % 256) bytes h)
