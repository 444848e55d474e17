-- The laws of a text's lines and of hexadecimal.
use Rattle.std.specs.Prelude.{◌≡◌, true, List, [], ◌∷◌, ℕ, ◌-◌, ◌*◌, ◌%◌, ◌≤◌, ◌<◌, length, drop, codes}
use Rattle.std.proofs.Math.Pow.{are_bytes}
use Rattle.std.specs.List.{list_all}
use Rattle.cells.specs.Cell.{cell}
use Rattle.lines.specs.Lines.{lines_of, first_line, behind_line, line_at, no_line_feed, joined, closed}
use Rattle.lines.specs.Hex.{is_digit, bytes_of, digits_of}

-- whole, unbroken: each byte of a text is in exactly one line or is a line feed that ends one, in their order.
-- next: where something is left of a text, its lines are the one before its first line feed and those of what is behind that. none: at its
-- end there are none.
-- part, behind: from an index to the end that is found there stands the next line, and from the next index on what is behind that line.
-- on: the next index is further on, and not past the text's end.
pub record TheLines : Type 0 where
  pub whole : (text : List ℕ) → joined (lines_of text) ≡ closed text
  pub unbroken : (text : List ℕ) → list_all no_line_feed (lines_of text) ≡ true
  pub next : (text : List ℕ) → 0 < length text → lines_of text ≡ first_line text ∷ lines_of (behind_line text)
  pub none : lines_of [] ≡ []
  pub part : (text : List ℕ) (at : ℕ) → cell text at ((line_at text at).end - at) ≡ first_line (drop at text)
  pub behind : (text : List ℕ) (at : ℕ) → drop (line_at text at).next text ≡ behind_line (drop at text)
  pub on : (text : List ℕ) (at : ℕ) → at < length text → (at < (line_at text at).next) × ((line_at text at).next ≤ length text)

-- Hexadecimal. shown: the digits of bytes that have each digit once, in the order of their values.
-- digits, twice: the digits of bytes are digits, two a byte. back: they stand for those bytes. written: digits in pairs are the digits of
-- the bytes that they stand for.
pub record TheDigits : Type 0 where
  pub shown : digits_of (0x01 ∷ 0x23 ∷ 0x45 ∷ 0x67 ∷ 0x89 ∷ 0xab ∷ 0xcd ∷ 0xef ∷ []) ≡ codes "0123456789abcdef"
  pub digits : (bytes : List ℕ) → are_bytes bytes ≡ true → list_all is_digit (digits_of bytes) ≡ true
  pub twice : (bytes : List ℕ) → length (digits_of bytes) ≡ 2 * length bytes
  pub back : (bytes : List ℕ) → are_bytes bytes ≡ true → bytes_of (digits_of bytes) ≡ bytes
  pub written : (digits : List ℕ) → list_all is_digit digits ≡ true → length digits % 2 ≡ 0 → digits_of (bytes_of digits) ≡ digits
