-- The state of a memory: its shape, and which of its rows are full.
use Rattle.std.specs.Prelude.{Bool, ◌&&◌, ℕ}
use Rattle.std.specs.Result.{is_ok}
use Rattle.layout.specs.declared.TheConstants.{MOST_ROWS}
use Rattle.layout.specs.declared.Shape.{Shape}
use Rattle.layout.specs.declared.occupancy.Rows.{Rows}
use Rattle.layout.specs.Occupancy.{all_empty, with_full, with_empty, without, full_count, none_from, EmptyFrom}
use Rattle.layout.specs.Shape.{shape_refusal, InRange}
use Rattle.memory.specs.declared.State.{State}

-- The number of full rows: in a state that is not broken none from G on is full [answer.full-rows].
abbrev pub full_rows : State → ℕ
full_rows state = full_count state.rows MOST_ROWS

-- Whether a state is not broken: it keeps set-up's ranges, and no row from G on is full [state.broken].
unfoldable pub sound : State → Bool
sound state = is_ok (shape_refusal state.shape) && none_from state.rows state.shape.g

-- The same in words.
pub record Sound (state : State) : Type 0 where
  pub ranges : InRange state.shape
  pub rows : EmptyFrom state.rows state.shape.g

-- A state with no row full, and the state of zeros.
abbrev pub empty : Shape → State
empty shape = record { shape = shape; rows = all_empty }

abbrev pub zero_state : State
zero_state = empty (record { k = 0; m = 0; p = 0; g = 0 })

-- The state with these rows; with one row made full, one made empty, each row of a set made empty.
abbrev pub with_rows : State → Rows → State
with_rows state rows = record state { rows = rows }

abbrev pub row_filled : State → (row : ℕ) → State
row_filled state row = with_rows state (with_full state.rows row)

abbrev pub row_emptied : State → (row : ℕ) → State
row_emptied state row = with_rows state (with_empty state.rows row)

abbrev pub rows_emptied : State → (set : ℕ) → State
rows_emptied state set = with_rows state (without state.rows set)
