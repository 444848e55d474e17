-- The laws of the session file.
use Rattle.std.specs.Prelude.{◌≡◌, List, [], ◌∷◌, ℕ, ◌-◌, ◌*◌, ◌/◌, ◌%◌, ◌^◌, ◌≤◌, ◌<◌, length, slice_index, slice_index_or, take}
use Rattle.bits.specs.Marks.{how_many}
use Rattle.refusals.specs.Verdict.{Accepted, refused}
use Rattle.layout.specs.declared.Shape.{Shape}
use Rattle.layout.specs.Shape.{shape_refusal, InRange}
use Rattle.memory.specs.Operations.{set_up_of}
use Rattle.memory.specs.Meaning.{Operation}
use Rattle.memory.specs.Meaning as operation
use Rattle.memory.specs.History.{History, full_in, verdict_in}
use Rattle.lines.specs.Lines.{lines_of, first_line, behind_line, closed}
use Rattle.lines.specs.Hex.{digits_of}
use Rattle.frames.specs.Frame.{Frame, set_up, write, release, read, unknown, frame_in}
use Rattle.frames.specs.Laws.{BytesLine}
use Rattle.steps.specs.Asked.{cycle_of}
use Rattle.steps.specs.Session.{Session, Fresh, Running, After, line_done, and_then, lines_done}
use Rattle.steps.specs.Session.{text_read, from_start, answer_after, session_of}
use Rattle.steps.specs.Past.{nothing, since, past_in, Keeps, Brings}

-- What a 01 leaves and answers that is accepted: a memory of its shape, set up afresh, and a store as long as before whose every byte is 0;
-- 81 00, the banks of its groups, 2^K - 1 each, and the most reads of one, 2^(K-1).
pub record Afresh (shape : Shape) (store : List ℕ) (after : After) : Type 0 where
  pub session : after.session ≡ Running (set_up_of shape).state
  pub size : length after.store ≡ length store
  pub zero : (i : ℕ) → i < length store → slice_index after.store i ≡ 0
  pub answer : after.answer ≡ 0x81 ∷ 0 ∷ (shape.m * (2 ^ shape.k - 1)) ∷ (2 ^ (shape.k - 1)) ∷ []

-- What a refused line leaves and answers: the session and the store as they were; a first byte, a number, and place 0.
abbrev pub unserved : Session → (store : List ℕ) → (first number : ℕ) → After
unserved session store first number = record { session = session; store = store; answer = first ∷ number ∷ 0 ∷ 0 ∷ [] }

-- Which lines are refused, and how. seventeen: one that does not stand for bytes answers ff and 17. eighteen: one that does and is no
-- frame, ff and 18.
-- nineteen_write, nineteen_release, nineteen_read: a 02, 03 or 04 where no 01 was accepted yet answers 82, 83 or 84, and 19.
-- one_to_four: a 01 whose shape is refused answers 81, and the number of that refusal. twenty: one in range whose store does not fit, 81
-- and 20. Each keeps the session and the store. Rule [session.order].
pub record TheRefusedLines : Type 0 where
  pub seventeen : (session : Session) (store line : List ℕ) → (BytesLine line → ⊥)
      → line_done session store line ≡ unserved session store 0xff 17
  pub eighteen : (session : Session) (store line : List ℕ) → BytesLine line → frame_in line ≡ unknown
      → line_done session store line ≡ unserved session store 0xff 18
  pub nineteen_write : (store line : List ℕ) (row : ℕ) (packets : List ℕ) → frame_in line ≡ write row packets
      → line_done Fresh store line ≡ unserved Fresh store 0x82 19
  pub nineteen_release : (store line : List ℕ) (row : ℕ) → frame_in line ≡ release row
      → line_done Fresh store line ≡ unserved Fresh store 0x83 19
  pub nineteen_read : (store line list : List ℕ) → frame_in line ≡ read list
      → line_done Fresh store line ≡ unserved Fresh store 0x84 19
  pub one_to_four : (session : Session) (store line : List ℕ) (shape : Shape) (number : ℕ) → frame_in line ≡ set_up shape
      → 1 ≤ number → number ≤ 4 → shape_refusal shape ≡ refused number 0
      → line_done session store line ≡ unserved session store 0x81 number
  pub twenty : (session : Session) (store line : List ℕ) (shape : Shape) → frame_in line ≡ set_up shape → InRange shape
      → 16384 < shape.m * (2 ^ shape.k - 1) * shape.g * shape.p
      → line_done session store line ≡ unserved session store 0x81 20

-- What answers an operation that is refused after a history: its first byte, its number, and its place: how many 256s, and the rest.
abbrev pub TellsRefusal : (first : ℕ) → Shape → History → Operation → (answer : List ℕ) → Type 0
TellsRefusal first shape history operation answer =
    (number place : ℕ) → 1 ≤ number → number ≤ 20 → verdict_in shape history operation ≡ refused number place
    → answer ≡ first ∷ number ∷ (place / 256) ∷ (place % 256) ∷ []

-- The same, and what answers one that is accepted: its first byte, 00, and how many rows are full with it.
pub record TellsRows (first : ℕ) (shape : Shape) (history : History) (operation : Operation) (answer : List ℕ) : Type 0 where
  pub refusal : TellsRefusal first shape history operation answer
  pub rows : verdict_in shape history operation ≡ Accepted
      → answer ≡ first ∷ 0 ∷ how_many (full_in shape (operation ∷ history)) shape.g ∷ []

-- A line that is this frame comes after lines that leave a memory of this shape, and this history of it.
pub record Comes (frame : Frame) (shape : Shape) (history : History) (lines : List (List ℕ)) (line : List ℕ) : Type 0 where
  pub past : past_in nothing lines ≡ since shape history
  pub is : frame_in line ≡ frame

-- What a 02, a 03 and a 04 answer, by the history: refused, with which number and place; a 02 or 03 that is accepted, how many rows are
-- full then. (A 04 that is served: `returned` of TheSession.) Rule [session.answer].
pub record TheAnswers : Type 0 where
  pub written : (lines : List (List ℕ)) (line : List ℕ) (shape : Shape) (history : History) (row : ℕ) (packets : List ℕ)
      → Comes (write row packets) shape history lines line
      → TellsRows 0x82 shape history (operation.write row packets) (answer_after lines line)
  pub released : (lines : List (List ℕ)) (line : List ℕ) (shape : Shape) (history : History) (row : ℕ)
      → Comes (release row) shape history lines line
      → TellsRows 0x83 shape history (operation.release row) (answer_after lines line)
  pub unread : (lines : List (List ℕ)) (line : List ℕ) (shape : Shape) (history : History) (list : List ℕ)
      → Comes (read list) shape history lines line
      → TellsRefusal 0x84 shape history (cycle_of list shape) (answer_after lines line)

-- next: what the lines of a text do is what its first line does, and then what those behind it do. none: an empty text does nothing.
-- one, each: a session prints one line for each line that it reads, in their order: what that line answers after those before it.
-- ended: the output line of every one, the last too, ends in a line feed.
-- afresh: a 01 in range whose store fits 16,384 bytes.
-- kept: after any lines, the session keeps what they asked of its memory.
-- returned: a 04 that comes then, if the operations since set-up let it be served, answers the packets last written, in the list's order.
-- Rules [session.lines], [session.memory], [promise.recall].
pub record TheSession : Type 0 where
  pub next : (session : Session) (store text : List ℕ) → 0 < length text → let first = line_done session store (first_line text) in
      lines_done session store (lines_of text) ≡ and_then first (lines_done first.session first.store (lines_of (behind_line text)))
  pub none : (session : Session) (store : List ℕ)
      → lines_done session store (lines_of []) ≡ record { session = session; store = store; output = [] }
  pub one : (input : List ℕ) → length (lines_of (session_of input)) ≡ length (text_read input)
  pub each : (input : List ℕ) (n : ℕ) → n < length (text_read input)
      → slice_index_or (lines_of (session_of input)) n []
      ≡ digits_of (answer_after (take n (text_read input)) (slice_index_or (text_read input) n []))
  pub ended : (input : List ℕ) → closed (session_of input) ≡ session_of input
  pub afresh : (session : Session) (store line : List ℕ) (shape : Shape) → frame_in line ≡ set_up shape → InRange shape
      → shape.m * (2 ^ shape.k - 1) * shape.g * shape.p ≤ 16384 → Afresh shape store (line_done session store line)
  pub kept : (lines : List (List ℕ)) → Keeps (past_in nothing lines) (from_start lines).session (from_start lines).store
  pub returned : (lines : List (List ℕ)) (line : List ℕ) (shape : Shape) (history : History) (list : List ℕ)
      → past_in nothing lines ≡ since shape history → frame_in line ≡ read list
      → verdict_in shape history (cycle_of list shape) ≡ Accepted → Brings shape history list (answer_after lines line)
