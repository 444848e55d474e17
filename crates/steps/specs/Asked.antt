-- What a frame asks of a session.
use Rattle.std.specs.Prelude.{List, ℕ, ◌*◌, length}
use Rattle.cells.specs.Xor.{zeros}
use Rattle.layout.specs.declared.Shape.{Shape}
use Rattle.reads.specs.Reads.{reads_in}
use Rattle.memory.specs.Meaning.{Operation, write, release, read}
use Rattle.frames.specs.Frame.{Frame}
use Rattle.frames.specs.Frame as frame

-- A cycle has buffers of the sizes that its reads need.
abbrev pub cycle_of : (list : List ℕ) → Shape → Operation
cycle_of list shape = let count = length (reads_in list) in read list (zeros (count * shape.p)) (zeros (count * 2))

-- Nothing; a memory of this shape, set up afresh; or this operation of the memory that there is, which has a shape.
pub data Asked : Type 0 where
  asks_nothing : Asked
  asks_set_up : Shape → Asked
  asks_operation : (Shape → Operation) → Asked

-- What each frame asks. What a step does goes by this, and so does what a session remembers
-- [frame.set-up], [frame.write], [frame.release], [frame.read].
abbrev pub asked : Frame → Asked
asked (frame.set_up shape) = asks_set_up shape
asked (frame.write row packets) = asks_operation (λ shape. write row packets)
asked (frame.release row) = asks_operation (λ shape. release row)
asked (frame.read list) = asks_operation (cycle_of list)
asked frame.unknown = asks_nothing
