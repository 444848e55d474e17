-- A frame: what it carries; which frame bytes are, or none (18); which frame a line is, or none (17); and the first byte of its answer.
use Rattle.std.specs.Prelude.{◌&&◌, if◌then◌else◌, List, [], ◌∷◌, ℕ, ◌+◌, ◌*◌, ◌%◌, ◌==◌, length}
use Rattle.std.specs.List.{list_all}
use Rattle.refusals.specs.Verdict.{Verdict, between, check, if_refused}
use Rattle.layout.specs.declared.Shape.{Shape}
use Rattle.lines.specs.Hex.{is_digit, bytes_of}
use Rattle.frames.specs.declared.TheConstants.{MOST_CHARACTERS}
use Rattle.frames.specs.declared.Frame as code
use Rattle.frames.specs.declared.Frame.TheVariants.{SetUp, Write, Release, Read, Unknown}

-- A frame, with what it carries: a shape; a row and the packets for it; a row; the list of a cycle; nothing, where it is none.
pub data Frame : Type 0 where
  set_up : Shape → Frame
  write : (row : ℕ) (packets : List ℕ) → Frame
  release : (row : ℕ) → Frame
  read : (list : List ℕ) → Frame
  unknown : Frame

-- The frame that the code has, which borrows what it carries.
abbrev pub shown : code.Frame → Frame
shown (SetUp shape) = set_up shape
shown (Write row packets) = write row packets.now
shown (Release row) = release row
shown (Read list) = read list.now
shown Unknown = unknown

-- The frame of each kind with these bytes behind its first. 01: K, m, P (its high byte, its low one), G [frame.set-up].
abbrev pub set_up_frame : (fields : List ℕ) → Frame
set_up_frame (k ∷ m ∷ high ∷ low ∷ g ∷ []) = set_up (record { k = k; m = m; p = high * 256 + low; g = g })
set_up_frame other = unknown

-- 02: row packets [frame.write].
abbrev pub write_frame : (fields : List ℕ) → Frame
write_frame (row ∷ packets) = write row packets
write_frame [] = unknown

-- 03: row [frame.release].
abbrev pub release_frame : (fields : List ℕ) → Frame
release_frame (row ∷ []) = release row
release_frame other = unknown

-- By the first byte: one of the four kinds, or unknown. 04 has nothing but the list of a cycle [form.frame], [frame.read].
abbrev pub frame_by : (kind : ℕ) → (fields : List ℕ) → Frame
frame_by kind fields =
    if kind == 1 then set_up_frame fields
    else if kind == 2 then write_frame fields
    else if kind == 3 then release_frame fields
    else if kind == 4 then read fields
    else unknown

-- The frame that bytes are.
unfoldable pub frame_of : List ℕ → Frame
frame_of (kind ∷ fields) = frame_by kind fields
frame_of [] = unknown

-- 17, unless a line has 1 to 4,096 characters, they are even in number, and each is one of 0-9 and a-f [session.hex].
unfoldable pub line_refusal : (line : List ℕ) → Verdict
line_refusal line =
    check 17 0 (between 1 MOST_CHARACTERS (length line) && length line % 2 == 0 && list_all is_digit line)

-- The frame that a line is: none, where it is refused.
abbrev pub frame_in : (line : List ℕ) → Frame
frame_in line = if_refused unknown (frame_of (bytes_of line)) (line_refusal line)

-- The first byte of the answer to a frame: the frame's own and 80 hexadecimal; ff to what is none [session.answer].
abbrev pub first_byte : Frame → ℕ
first_byte (set_up shape) = 0x80 + 1
first_byte (write row packets) = 0x80 + 2
first_byte (release row) = 0x80 + 3
first_byte (read list) = 0x80 + 4
first_byte unknown = 0xff
