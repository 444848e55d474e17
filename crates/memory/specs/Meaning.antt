-- What may be asked of a memory, and what each operation means: to the memory, and to what is known of its rows.
use Rattle.std.specs.Prelude.{Bool, true, false, ◌&&◌, not, if◌then◌else◌, List, [], ℕ, ◌==◌, length}
use Rattle.bits.specs.Marks.{marked, how_many}
use Rattle.refusals.specs.Verdict.{Verdict}
use Rattle.layout.specs.declared.Shape.{Shape}
use Rattle.layout.specs.declared.PacketName.{PacketName}
use Rattle.memory.specs.declared.State.{State}
use Rattle.memory.specs.declared.Outcome.{Outcome}
use Rattle.refusals.specs.declared.Answer.{Answer}
use Rattle.refusals.specs.declared.Answer.TheVariants.{FullRows, Served}
use Rattle.layout.specs.declared.TheConstants.{MOST_ROWS}
use Rattle.rows.specs.Rows.{edited}
use Rattle.reads.specs.Refusals.{list_refusal}
use Rattle.memory.specs.Operations.{write_checks, write_outcome, write_store, update_checks, update_outcome, update_store, release_checks, release_outcome, release_set_checks, release_set_outcome, cycle_outcome, cycle_output}

-- A write of a generation to a row, an update of one packet of a row, a release of a row or of a row set, a read cycle with its list and
-- its buffers.
pub data Operation : Type 0 where
  write : (row : ℕ) (generation : List ℕ) → Operation
  update : (name : PacketName) (packet : List ℕ) → Operation
  release : (row : ℕ) → Operation
  release_set : (set : ℕ) → Operation
  read : (list out schedule : List ℕ) → Operation

pub record Memory : Type 0 where
  pub state : State
  pub store : List ℕ

-- What the operations so far say of the rows, with no state and no store. full: which are full. last: the generation last written to
-- each, with every packet that was updated since; also where the row was released since.
pub record Known : Type 0 where
  pub full : ℕ → Bool
  pub last : ℕ → List ℕ

abbrev pub empty_in : Known → (row : ℕ) → Bool
empty_in known row = not (known.full row)

-- What an operation means.
pub record Meaning : Type 0 where
  -- To a memory: what it gives, the store that it leaves, and what it puts out, as its promise says.
  pub outcome : Memory → Outcome
  pub store : Memory → List ℕ
  pub packets : Memory → List ℕ
  -- To what is known of the rows: whether it is refused.
  pub verdict : Shape → Known → Verdict
  -- Accepted: what it answers, where so many rows are full then; what is known then; how many rows it makes full, and how many empty.
  pub told : ℕ → Answer
  pub known : Shape → Known → Known
  pub filled : ℕ
  pub emptied : ℕ

-- One that leaves the store and what is known as they are, puts nothing out, and tells the number of full rows.
abbrev pub quiet : (Memory → Outcome) → (Shape → Known → Verdict) → Meaning
quiet outcome verdict = record {
  outcome = outcome;
  store = λ memory. memory.store;
  packets = λ memory. [];
  verdict = verdict;
  told = λ rows. FullRows rows;
  known = λ shape known. known;
  filled = 0;
  emptied = 0;
}

-- Another value for one row, and for every other row that of before.
abbrev pub but_at : {A : Type 0} → (row : ℕ) → (now : A) → (before : ℕ → A) → ℕ → A
but_at row now before r = if r == row then now else before r

-- EACH OPERATION: what it means, said where it is other than quiet. A release is lent no store, and a read cycle only for reading:
-- neither can change it.
abbrev pub meaning_of : Operation → Meaning
meaning_of (write row generation) = record (quiet
    (λ memory. write_outcome memory.state (length memory.store) row (length generation))
    (λ shape known. write_checks shape (empty_in known) row (length generation))) {
      store = λ memory. write_store memory.state memory.store row generation;
      known = λ shape known. record { full = but_at row true known.full; last = but_at row generation known.last };
      filled = 1;
    }
meaning_of (update name packet) = record (quiet
    (λ memory. update_outcome memory.state (length memory.store) name (length packet))
    (λ shape known. update_checks shape known.full name (length packet))) {
      store = λ memory. update_store memory.state memory.store name packet;
      known = λ shape known.
          record known { last = but_at name.row (edited shape (known.last name.row) name.group name.symbol packet) known.last };
    }
meaning_of (release row) = record (quiet
    (λ memory. release_outcome memory.state row)
    (λ shape known. release_checks shape known.full row)) {
      known = λ shape known. record known { full = but_at row false known.full };
      emptied = 1;
    }
meaning_of (release_set set) = record (quiet
    (λ memory. release_set_outcome memory.state set)
    (λ shape known. release_set_checks shape known.full set)) {
      known = λ shape known. record known { full = λ r. known.full r && not (marked set r) };
      emptied = how_many (marked set) MOST_ROWS;
    }
meaning_of (read list out schedule) = record (quiet
    (λ memory. cycle_outcome memory.state (length memory.store) list (length out) (length schedule))
    (λ shape known. list_refusal shape known.full list (length out) (length schedule))) {
      packets = λ memory. cycle_output memory.state memory.store list out schedule;
      told = λ rows. Served;
    }
