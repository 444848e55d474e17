-- What the lines of a session asked of its memory, read off the lines alone, and what it is for the session to keep that.
use Rattle.std.specs.Prelude.{◌≡◌, List, [], ◌∷◌, ℕ, ◌+◌, ◌*◌, ◌<◌, length, take}
use Rattle.refusals.specs.Verdict.{if_refused}
use Rattle.cells.specs.Cell.{cell}
use Rattle.layout.specs.declared.Shape.{Shape}
use Rattle.reads.specs.Reads.{reads_in, read_at}
use Rattle.memory.specs.declared.State.{State}
use Rattle.rows.specs.Rows.{packet_in}
use Rattle.memory.specs.Meaning.{Operation}
use Rattle.memory.specs.History.{History, last_written, Remembers}
use Rattle.frames.specs.Frame.{read, frame_in, first_byte}
use Rattle.steps.specs.Asked.{Asked, asks_nothing, asks_set_up, asks_operation, asked}
use Rattle.steps.specs.Session.{Session, Fresh, Running, set_up_refusal, memory_of}

-- Nothing, before any accepted 01; else the shape of the last accepted 01, and the operations since.
pub data Past : Type 0 where
  nothing : Past
  since : Shape → History → Past

-- One operation more.
abbrev pub more : (Shape → Operation) → Past → Past
more operation nothing = nothing
more operation (since shape history) = since shape (operation shape ∷ history)

-- After what one frame more asks, after one line more, and after all of some lines. What is refused with 17 to 20, or 1 to 4, asks nothing
-- of the memory.
abbrev pub past_by_asked : Past → Asked → Past
past_by_asked past asks_nothing = past
past_by_asked past (asks_set_up shape) = if_refused past (since shape []) (set_up_refusal shape)
past_by_asked past (asks_operation operation) = more operation past

unfoldable pub past_by : Past → (line : List ℕ) → Past
past_by past line = past_by_asked past (asked (frame_in line))

unfoldable pub past_in : Past → List (List ℕ) → Past
past_in past [] = past
past_in past (line ∷ lines) = past_in (past_by past line) lines

-- The session has no memory, or one that remembers the operations since its set-up.
abbrev pub Keeps : Past → Session → (store : List ℕ) → Type 0
Keeps nothing session store = session ≡ Fresh
Keeps (since shape history) session store =
    (state : State) × (session ≡ Running state) × Remembers shape history (memory_of state store)

-- What answers a 04 that is served after a history: 84 00, and for each read, in their order, the packet last written at its row, group and
-- symbol.
pub record Brings (shape : Shape) (history : History) (list answer : List ℕ) : Type 0 where
  pub served : take 2 answer ≡ first_byte (read list) ∷ 0 ∷ []
  pub size : length answer ≡ 2 + length (reads_in list) * shape.p
  pub packets : (n : ℕ) → n < length (reads_in list) → let name = read_at (reads_in list) n in
      cell answer (2 + n * shape.p) shape.p ≡ packet_in shape (last_written shape history name.row) name.group name.symbol
