-- Which rows of a memory are full. How that is kept, this file alone knows (and src/occupancy.rt): everywhere else a row is asked, and
-- set, by these names.
use Rattle.std.specs.Prelude.{◌≡◌, ◌↔◌, ◌==◌, Bool, true, false, not, ◌&&◌, ◌||◌, ℕ, suc, ◌≤◌, ◌<◌}
use Rattle.bits.specs.Marks.{marked, how_many}
use Rattle.bits.specs.Marks as marks
use Rattle.bits.specs.Sets.{set_of}
use Rattle.layout.specs.declared.TheConstants.{MOST_ROWS}
use Rattle.layout.specs.declared.occupancy.Rows.{Rows}

-- Whether a row is full, and whether it is empty.
abbrev pub is_full : Rows → (row : ℕ) → Bool
is_full rows row = marked rows.full row

abbrev pub is_empty : Rows → (row : ℕ) → Bool
is_empty rows row = not (is_full rows row)

-- No row is full.
abbrev pub all_empty : Rows
all_empty = record { full = 0 }

-- One row made full, one row made empty, each row of a set made empty; and every other as it was.
abbrev pub with_full : Rows → (row : ℕ) → Rows
with_full rows row = record { full = set_of (λ r. r == row || is_full rows r) MOST_ROWS }

abbrev pub with_empty : Rows → (row : ℕ) → Rows
with_empty rows row = record { full = set_of (λ r. not (r == row) && is_full rows r) MOST_ROWS }

abbrev pub without : Rows → (set : ℕ) → Rows
without rows set = record { full = set_of (λ r. is_full rows r && not (marked set r)) MOST_ROWS }

-- How many of the first g rows are full.
abbrev pub full_count : Rows → (g : ℕ) → ℕ
full_count rows g = how_many (is_full rows) g

-- Whether no row from g on is full.
abbrev pub none_from : Rows → (g : ℕ) → Bool
none_from rows g = marks.none_from rows.full g

-- The same in words.
abbrev pub EmptyFrom : Rows → (g : ℕ) → Type 0
EmptyFrom rows g = (row : ℕ) → g ≤ row → is_full rows row ≡ false

-- none: `none_from`, row by row. empty: of `all_empty`, none is full.
-- filled, emptied: one row made full, or empty, is so, and every other row is as it was. cleared: of a set of rows made empty none is
-- full, and every other row is as it was.
-- counted_none, one_more, one_less: of `all_empty` no row is counted; a row made full is counted once more, and one made empty no longer.
pub record TheOccupancy : Type 0 where
  pub none : (rows : Rows) (g : ℕ) → (none_from rows g ≡ true) ↔ EmptyFrom rows g
  pub empty : (row : ℕ) → is_full all_empty row ≡ false
  pub filled : (rows : Rows) (row : ℕ) → EmptyFrom rows MOST_ROWS → row < MOST_ROWS
      → (r : ℕ) → is_full (with_full rows row) r ≡ (r == row || is_full rows r)
  pub emptied : (rows : Rows) (row : ℕ) → EmptyFrom rows MOST_ROWS → row < MOST_ROWS
      → (r : ℕ) → is_full (with_empty rows row) r ≡ (not (r == row) && is_full rows r)
  pub cleared : (rows : Rows) (set : ℕ) → EmptyFrom rows MOST_ROWS
      → (r : ℕ) → is_full (without rows set) r ≡ (is_full rows r && not (marked set r))
  pub counted_none : (g : ℕ) → full_count all_empty g ≡ 0
  pub one_more : (rows : Rows) (row g : ℕ) → EmptyFrom rows MOST_ROWS → g ≤ MOST_ROWS → row < g → is_full rows row ≡ false
      → full_count (with_full rows row) g ≡ suc (full_count rows g)
  pub one_less : (rows : Rows) (row g : ℕ) → EmptyFrom rows MOST_ROWS → g ≤ MOST_ROWS → row < g → is_full rows row ≡ true
      → full_count rows g ≡ suc (full_count (with_empty rows row) g)
