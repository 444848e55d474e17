-- What an output holds once a line, or an answer as one, is printed at its front.
use mathlib.Core.Path.{◌≡◌, refl, sym, ap, ◌∙◌}
use mathlib.Core.List.{List, [], ◌∷◌, ◌++◌}
use Prim.Native.Nat.{ℕ, ◌+◌, ◌*◌, ◌/◌, ◌%◌, ◌≤◌, ◌<◌}
use native.Mathlib.Omega.{arith}
use lib.ListN.{length, take, drop, set, length-append, drop_of_length-le}
use lib.Seq.{take_all}
use Rattle.std.proofs.Common.{append-nil, append_assoc, length-take}
use Rattle.cells.specs.Cell.{put}
use Rattle.cells.proofs.Cells.{put_none}
use Rattle.frames.specs.Printing.{printed, Prints}
use Rattle.lines.specs.Hex.{digits_of}
use Rattle.lines.proofs.Digits.{length_digits}

-- ---- a line

-- one byte more behind those that are put
put_end : (s t : List ℕ) (v : ℕ) → set (put s 0 t) (length t) v ≡ put s 0 (t ++ (v ∷ []))
unfolding put
put_end [] t v = refl
put_end (x ∷ s) [] v = ap (λ (r : List ℕ). v ∷ r) (put_none s 0)
put_end (x ∷ s) (y ∷ t) v = ap (λ (r : List ℕ). y ∷ r) (put_end s t v)

pub length_printed : (bytes : List ℕ) → length (printed bytes) ≡ 2 * length bytes + 1
length_printed bytes = rw (length-append, length_digits)

-- digits that are put, and a line feed behind them
pub put_printed : (s bytes l : List ℕ) → l ≡ put s 0 (digits_of bytes) → set l (2 * length bytes) 10 ≡ put s 0 (printed bytes)
put_printed s bytes l e = rw (e, ← length_digits bytes) (put_end s (digits_of bytes) 10)

-- ---- one behind another

-- one list put behind another that is put, where k bytes are left for it
put_behind : (s d t : List ℕ) (k : ℕ) → length s ≡ length d + k → let text = put s 0 d in
    take (length d) text ++ (put (take k (drop (length d) text)) 0 t ++ drop k (drop (length d) text)) ≡ put s 0 (d ++ t)
unfolding put
put_behind s [] t k e =
    let none : drop k s ≡ [] = drop_of_length-le s {i = k} (omega arith) in
    rw (← put_none s 0, take_all k s (omega arith), none, append-nil)
put_behind [] (y ∷ d) t k e = absurd (omega arith)
put_behind (x ∷ s) (y ∷ d) t k e = ap (λ (r : List ℕ). y ∷ r) (put_behind s d t k (omega arith))

digits_append : (front rest : List ℕ) → digits_of (front ++ rest) ≡ digits_of front ++ digits_of rest
unfolding digits_of
digits_append [] rest = refl
digits_append (b ∷ front) rest = rw (digits_append front rest)

printed_append : (front rest : List ℕ) → printed (front ++ rest) ≡ digits_of front ++ printed rest
printed_append front rest = rw (digits_append, append_assoc)

-- a line printed behind the digits of the bytes before it
pub behind : (out front rest text line : List ℕ) (k n : ℕ) → text ≡ put out 0 (digits_of front) → length out ≡ 2 * length front + k
    → let at = 2 * length front in Prints rest (take k (drop at text)) n line → Prints (front ++ rest) out (at + n) (take at text ++ (line ++ drop k (drop at text)))
behind out front rest text line k n is e p =
    let at : 2 * length front ≡ length (digits_of front) = sym (length_digits front) in
    let whole = ap length (printed_append front rest) ∙ length-append (digits_of front) (printed rest) in
    let left : length (take k (drop (2 * length front) text)) ≤ k = rw length-take (omega arith) in
    let put : take (2 * length front) text ++ (line ++ drop k (drop (2 * length front) text)) ≡ put out 0 (printed (front ++ rest)) =
    rw (p.output, printed_append, is, at) (put_behind out (digits_of front) (printed rest) k (omega (arith, e, at))) in
    record { len = omega (arith, p.len, whole, at); room = omega (arith, p.room, whole, at, left); output = put }

-- the high byte of a place
pub high_byte : (n : ℕ) → n < 65536 → n / 256 % 256 ≡ n / 256
high_byte n h = omega arith
