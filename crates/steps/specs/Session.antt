-- A session: what each line makes of the memory and answers, and what a whole text answers.
use Rattle.std.specs.Prelude.{List, [], ◌∷◌, ◌++◌, ℕ, nat_le, length, take, drop, Option, Some, None, Err}
use Rattle.refusals.specs.declared.Refusal.{Refusal}
use Rattle.refusals.specs.Verdict.{Verdict, Accepted, refusal_of, check, ◌then◌}
use Rattle.cells.specs.Xor.{zeros}
use Rattle.layout.specs.declared.Shape.{Shape}
use Rattle.layout.specs.Shape.{shape_refusal, store_size}
use Rattle.memory.specs.declared.State.{State}
use Rattle.memory.specs.Operations.{set_up_of}
use Rattle.memory.specs.Meaning.{Operation, Memory}
use Rattle.memory.specs.History.{outcome_of, store_after, packets_by}
use Rattle.lines.specs.Lines.{lines_of}
use Rattle.lines.specs.Hex.{bytes_of}
use Rattle.frames.specs.declared.TheConstants.{MOST_STORE}
use Rattle.frames.specs.Frame.{Frame, unknown, frame_of, line_refusal, first_byte}
use Rattle.frames.specs.Printing.{refusal_said, said, printed}
use Rattle.steps.specs.declared.TheConstants.{MOST_TEXT}
use Rattle.steps.specs.Asked.{Asked, asks_nothing, asks_set_up, asks_operation, asked}

-- What a session has from line to line, beside its store: nothing, or the memory of the last accepted 01 [session.memory].
abbrev pub Session : Type 0
Session = Option State

pattern abbrev pub Fresh : Session
Fresh = None

pattern abbrev pub Running : State → Session
Running state = Some state

-- What is done with the memory and the store, and what is said of it: an answer, but for its first byte.
pub record Done : Type 0 where
  pub session : Session
  pub store : List ℕ
  pub said : List ℕ

-- Refused: nothing has changed.
abbrev pub refused_with : Session → (store : List ℕ) → Refusal → Done
refused_with session store refusal = record { session = session; store = store; said = refusal_said refusal }

-- Refused by this verdict, or else this.
abbrev pub unless_refused : Verdict → Session → (store : List ℕ) → Done → Done
unless_refused Accepted session store done = done
unless_refused (Err refusal) session store done = refused_with session store refusal

-- ---- a set-up

-- 1 to 4; then 20, its store has more than 16,384 bytes [session.store], [session.order].
unfoldable pub set_up_refusal : Shape → Verdict
set_up_refusal shape = shape_refusal shape then check 20 0 (nat_le (store_size shape) MOST_STORE)

-- The memory is a new one, its store is all zeros, and the answer is a set-up's. Refused, memory and store are those of before
-- [session.memory], [session.store].
abbrev pub set_up_done : Session → (store : List ℕ) → Shape → Done
set_up_done session store shape =
    unless_refused (set_up_refusal shape) session store (record {
      session = Running (set_up_of shape).state;
      store = zeros (length store);
      said = said [] (set_up_of shape).answer;
    })

-- ---- an operation of the memory

-- The memory's part of the session's store is its front, as long as its shape needs; the bytes behind it stay as they are.
abbrev pub memory_of : State → (store : List ℕ) → Memory
memory_of state store = record { state = state; store = take (store_size state.shape) store }

abbrev pub behind : State → (store : List ℕ) → List ℕ
behind state store = drop (store_size state.shape) store

-- 19: there is no memory.
abbrev pub no_memory : Refusal
no_memory = refusal_of 19 0

-- 19, before any accepted 01; else what the memory does.
abbrev pub operation_done : Session → (store : List ℕ) → (Shape → Operation) → Done
operation_done Fresh store operation = refused_with Fresh store no_memory
operation_done (Running state) store operation =
    let memory = memory_of state store in
    let op = operation state.shape in
    record {
      session = Running (outcome_of memory op).state;
      store = store_after memory op ++ behind state store;
      said = said (packets_by memory op) (outcome_of memory op).answer;
    }

-- ---- a frame, a line, and a text

-- 18: there is no frame.
abbrev pub unknown_frame : Refusal
unknown_frame = refusal_of 18 0

-- What is done of what a frame asks.
abbrev pub done_by : Session → (store : List ℕ) → Asked → Done
done_by session store asks_nothing = refused_with session store unknown_frame
done_by session store (asks_set_up shape) = set_up_done session store shape
done_by session store (asks_operation operation) = operation_done session store operation

-- What a line leaves: the memory, the store, and the bytes of the output line.
pub record After : Type 0 where
  pub session : Session
  pub store : List ℕ
  pub answer : List ℕ

-- The answer to a frame starts with its first byte.
abbrev pub answered : Frame → Done → After
answered frame done = record { session = done.session; store = done.store; answer = first_byte frame ∷ done.said }

-- What a frame does.
unfoldable pub frame_done : Session → (store : List ℕ) → Frame → After
frame_done session store frame = answered frame (done_by session store (asked frame))

-- What a line does: what the frame does that its bytes are; or 17, which is no frame's answer.
abbrev pub line_by : Verdict → Session → (store bytes : List ℕ) → After
line_by Accepted session store bytes = frame_done session store (frame_of bytes)
line_by (Err refusal) session store bytes = answered unknown (refused_with session store refusal)

unfoldable pub line_done : Session → (store line : List ℕ) → After
line_done session store line = line_by (line_refusal line) session store (bytes_of line)

-- What lines leave: the memory, the store, and the text that they print.
pub record AfterLines : Type 0 where
  pub session : Session
  pub store : List ℕ
  pub output : List ℕ

-- A line, and then the lines behind it.
abbrev pub and_then : After → AfterLines → AfterLines
and_then first rest = record { session = rest.session; store = rest.store; output = printed first.answer ++ rest.output }

-- What lines do, each with the memory and the store that the one before left.
unfoldable pub lines_done : Session → (store : List ℕ) → List (List ℕ) → AfterLines
lines_done session store [] = record { session = session; store = store; output = [] }
lines_done session store (line ∷ lines) =
    let first = line_done session store line in and_then first (lines_done first.session first.store lines)

-- The lines that are read, of a text that is cut at 32,768 bytes, and what they all do [session.cut].
abbrev pub text_read : List ℕ → List (List ℕ)
text_read input = lines_of (take MOST_TEXT input)

abbrev pub text_done : Session → (store input : List ℕ) → AfterLines
text_done session store input = lines_done session store (text_read input)

-- A session from its start: what some lines leave, what a line then answers, and the whole session, from its text to its output.
abbrev pub from_start : List (List ℕ) → AfterLines
from_start lines = lines_done Fresh (zeros MOST_STORE) lines

abbrev pub answer_after : (lines : List (List ℕ)) → (line : List ℕ) → List ℕ
answer_after lines line = let after = from_start lines in (line_done after.session after.store line).answer

abbrev pub session_of : List ℕ → List ℕ
session_of input = (from_start (text_read input)).output
