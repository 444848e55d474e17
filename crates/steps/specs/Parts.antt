-- What the parts of a step hand on to each other. No public promise cites it.
use Rattle.std.specs.Prelude.{◌≡◌, List, ℕ, ◌<◌, length, Result, Ok, Err}
use Rattle.refusals.specs.declared.Refusal.{Refusal}
use Rattle.refusals.specs.Verdict.{if_refused}
use Rattle.layout.specs.declared.Shape.{Shape}
use Rattle.layout.specs.Shape.{shape_refusal, store_size}
use Rattle.frames.specs.declared.TheConstants.{MOST_FRAME}
use Rattle.frames.specs.Frame.{Frame, read}
use Rattle.steps.specs.declared.Reply.{Reply}
use Rattle.steps.specs.Session.{Session, refused_with, answered, frame_done}
use Rattle.steps.specs.Steps.{Gives}

-- How many bytes a memory of this shape is lent, if there are so many: none where the shape is out of range, which no session sets up.
unfoldable pub lent_size : Shape → ℕ
lent_size shape = if_refused 0 (store_size shape) (shape_refusal shape)

-- The list of a 04 is shorter than the longest frame: its first byte is not in it.
abbrev pub FewReads : Frame → Type 0
FewReads (read list) = length list < MOST_FRAME
FewReads other = Unit {0}

-- What a frame does is done, or it is this refusal, and nothing has changed so far.
abbrev pub Tries : Session → (store out : List ℕ) → Frame → Result Reply Refusal → (store_after out_after : List ℕ) → Type 0
Tries session store out frame (Ok r) store_after out_after = Gives (frame_done session store frame) out r store_after out_after
Tries session store out frame (Err refusal) store_after out_after =
    (frame_done session store frame ≡ answered frame (refused_with session store refusal))
    × (refusal.place < 65536) × (store_after ≡ store) × (out_after ≡ out)
