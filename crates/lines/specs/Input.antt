-- What it is for a text to be read into a buffer.
use Rattle.std.specs.Prelude.{◌≡◌, List, ℕ, length, min}
use Rattle.cells.specs.Cell.{put}

-- The front of a buffer holds these bytes, as many as it has room for, which is so many; the rest of it is as it was.
abbrev pub Fills : (before : List ℕ) → (n : ℕ) → (after bytes : List ℕ) → Type 0
Fills before n after bytes = (n ≡ min (length before) (length bytes)) × (after ≡ put before 0 bytes)
