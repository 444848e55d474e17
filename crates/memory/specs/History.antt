-- Histories: what a memory holds after any operations, each with the state and the store that the one before left.
use Rattle.std.specs.Prelude.{◌≡◌, Bool, true, false, List, [], ◌∷◌, ℕ, ◌+◌, ◌*◌, ◌<◌, length, Result, Ok}
use Rattle.bits.specs.Marks.{how_many}
use Rattle.refusals.specs.declared.Refusal.{Refusal}
use Rattle.refusals.specs.Verdict.{Verdict, Accepted, answer_by, if_refused}
use Rattle.cells.specs.Cell.{cell}
use Rattle.simplex.specs.Code.{bank_cell}
use Rattle.audit.specs.Plan.{opened}
use Rattle.layout.specs.declared.Shape.{Shape}
use Rattle.layout.specs.declared.PacketName.{PacketName}
use Rattle.memory.specs.declared.Outcome.{Outcome}
use Rattle.refusals.specs.declared.Answer.{Answer}
use Rattle.refusals.specs.declared.Answer.TheVariants.{Served}
use Rattle.layout.specs.Shape.{shape_refusal, store_size, generation_size, CellOf, cell_at}
use Rattle.rows.specs.Rows.{packets_in, packet_in, group_written, edited}
use Rattle.rows.specs.Laws.{Edited}
use Rattle.reads.specs.Reads.{reads_in, read_at}
use Rattle.cycle.specs.Cycle.{xor_of_cells}
use Rattle.cycle.specs.Served.{line}
use Rattle.layout.specs.Occupancy.{is_full}
use Rattle.memory.specs.State.{full_rows, Sound}
use Rattle.memory.specs.Operations.{set_up_of, update_store, cycle_output, cycle_schedule}
use Rattle.memory.specs.Meaning.{Operation, update, read, Memory, Known, Meaning, meaning_of}

-- The operations since set-up, the last one first.
abbrev pub History : Type 0
History = List Operation

-- ---- what a memory does

abbrev pub outcome_of : Memory → Operation → Outcome
outcome_of memory operation = (meaning_of operation).outcome memory

abbrev pub store_after : Memory → Operation → List ℕ
store_after memory operation = (meaning_of operation).store memory

abbrev pub packets_by : Memory → Operation → List ℕ
packets_by memory operation = (meaning_of operation).packets memory

abbrev pub step : Memory → Operation → Memory
step memory operation = record { state = (outcome_of memory operation).state; store = store_after memory operation }

abbrev pub run : Memory → History → Memory
run new [] = new
run new (operation ∷ history) = step (run new history) operation

-- ---- what the history says by itself

-- It is said from the operations and the shape alone. A history never leaves a broken state or a store of a wrong length, so 5 and 6 do
-- not occur in its verdicts.

abbrev pub known_after : Shape → Operation → Known → Known
known_after shape operation known =
    let meaning = meaning_of operation in if_refused known (meaning.known shape known) (meaning.verdict shape known)

abbrev pub known_in : Shape → History → Known
known_in shape [] = record { full = λ row. false; last = λ row. [] }
known_in shape (operation ∷ history) = known_after shape operation (known_in shape history)

-- Row r is full: of the accepted writes and releases of it, alone or in a set, the last was a write.
abbrev pub full_in : Shape → History → ℕ → Bool
full_in shape history = (known_in shape history).full

-- The generation last written to row r by an accepted write, with every packet that an accepted update has changed since; also where the
-- row was released since; nothing where there was none.
abbrev pub last_written : Shape → History → ℕ → List ℕ
last_written shape history = (known_in shape history).last

-- The verdict on an operation after a history.
abbrev pub verdict_in : Shape → History → Operation → Verdict
verdict_in shape history operation = (meaning_of operation).verdict shape (known_in shape history)

-- What it then answers: accepted, by the number of rows that are full with it.
abbrev pub answer_in : Shape → History → Operation → Result Answer Refusal
answer_in shape history operation =
    answer_by ((meaning_of operation).told (how_many (full_in shape (operation ∷ history)) shape.g)) (verdict_in shape history operation)

-- The sum of this over the accepted operations of a history.
abbrev pub in_all : (Meaning → ℕ) → Shape → History → ℕ
in_all rows shape [] = 0
in_all rows shape (operation ∷ history) =
    if_refused 0 (rows (meaning_of operation)) (verdict_in shape history operation) + in_all rows shape history

-- ---- how the two agree

-- A row of a memory that is full or not, as is said here, and the generation last written to it. Full: this has the right length, and
-- every cell of the row is what the code puts there for it.
pub record RowAgrees (shape : Shape) (memory : Memory) (row : ℕ) (full : Bool) (last : List ℕ) : Type 0 where
  pub mark : is_full memory.state.rows row ≡ full
  pub whole : full ≡ true → length last ≡ generation_size shape
  pub cells : (x b : ℕ) → CellOf shape x b row → full ≡ true
      → cell_at shape memory.store x b row ≡ bank_cell shape.p (packets_in shape last x) b

-- A memory that agrees with what is known of its rows: its shape is this one, its state is not broken, its store has its length, and each
-- row is as is known.
pub record Agrees (shape : Shape) (known : Known) (memory : Memory) : Type 0 where
  pub of_shape : memory.state.shape ≡ shape
  pub sound : Sound memory.state
  pub size : length memory.store ≡ store_size shape
  pub rows : (row : ℕ) → RowAgrees shape memory row (known.full row) (known.last row)

-- What read n of a list that is served brings, where `last` is the generation last written to its row. packet: the output holds in its
-- place the packet that was written there. banks: the banks on its line of the schedule XOR, in the store, to that packet.
pub record Returned (shape : Shape) (memory : Memory) (list out schedule : List ℕ) (n : ℕ) (read : PacketName) (last : List ℕ)
    : Type 0 where
  pub packet : cell (cycle_output memory.state memory.store list out schedule) (n * shape.p) shape.p
      ≡ packet_in shape last read.group read.symbol
  pub banks : xor_of_cells shape memory.store read.group read.row
      (opened (line (cycle_schedule memory.state memory.store list out schedule) n))
      ≡ packet_in shape last read.group read.symbol

-- What an update that is accepted does. fresh: the store is then the one after its group was written afresh, in that row, with its
-- packets of the edited generation. last: what was last written to the row then has the new packet in its place, and every other packet
-- as it was.
pub record UpdatedIn (shape : Shape) (history : History) (memory : Memory) (name : PacketName) (packet : List ℕ) : Type 0 where
  pub fresh : update_store memory.state memory.store name packet
      ≡ group_written shape name.group name.row
      (packets_in shape (edited shape (last_written shape history name.row) name.group name.symbol packet) name.group) memory.store
  pub last : Edited shape name.group name.symbol packet (last_written shape history name.row)
      (last_written shape (update name packet ∷ history) name.row)

-- agrees: the memory agrees with what the history says of its rows.
-- count: as many rows are full as accepted writes have filled less those that accepted releases have emptied.
-- answers: the next operation is refused as the history says; accepted, each but a read cycle answers the number of rows that are full
-- with it.
-- updates: an update that is accepted leaves what writing its group anew, with the edited packets, would leave.
-- returns: a read cycle that is served returns, in the list's order, the packet last written at each read's row, group and symbol; that
-- row is full.
pub record Remembers (shape : Shape) (history : History) (memory : Memory) : Type 0 where
  pub agrees : Agrees shape (known_in shape history) memory
  pub count : full_rows memory.state + in_all (λ meaning. meaning.emptied) shape history ≡ in_all (λ meaning. meaning.filled) shape history
  pub answers : (operation : Operation) → (outcome_of memory operation).answer ≡ answer_in shape history operation
  pub updates : (name : PacketName) (packet : List ℕ) → verdict_in shape history (update name packet) ≡ Accepted
      → UpdatedIn shape history memory name packet
  pub returns : (list out schedule : List ℕ) → (outcome_of memory (read list out schedule)).answer ≡ Ok Served
      → (n : ℕ) → n < length (reads_in list) → let name = read_at (reads_in list) n in
      (full_in shape history name.row ≡ true) × Returned shape memory list out schedule n name (last_written shape history name.row)

-- So it is after every history, from an accepted set-up and any store of the right length [promise.recall].
abbrev pub RecallLaw : Type 0
RecallLaw =
    (shape : Shape) → shape_refusal shape ≡ Accepted → (store : List ℕ) → length store ≡ store_size shape → (history : History)
    → Remembers shape history (run (record { state = (set_up_of shape).state; store = store }) history)
