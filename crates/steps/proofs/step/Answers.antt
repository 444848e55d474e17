-- A line that is not refused with 17 is the frame of the bytes that it stands for.
use Rattle.frames.proofs.Framed.{front}
use Rattle.steps.specs.Session.{line_done}
use Rattle.steps.proofs.step.Goals as goal

pub returns-in-Ok : goal.returns-in-Ok
unfolding line_done
returns-in-Ok c = rw (← c.in-Ok.ensures) (rw (c.frame_of-frame.ensures, front _ _ c.in-Ok.ensures c.decode.ensures) at c.do_frame.ensures)
