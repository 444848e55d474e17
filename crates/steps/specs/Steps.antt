-- What a step of a session promises.
use Rattle.std.specs.Prelude.{◌≡◌, List, [], ℕ, ◌<◌, length, Option, Some, None}
use Rattle.lines.specs.Lines.{first_line, behind_line}
use Rattle.lines.specs.Reader.{left_of}
use Rattle.frames.specs.Printing.{Prints}
use Rattle.steps.specs.declared.Reply.{Reply}
use Rattle.steps.specs.declared.Next.{Next}
use Rattle.steps.specs.Session.{Session, After, line_done}

-- A step over this output that gave this reply, and left this store and this output, did what a line does.
pub record Gives (after : After) (out : List ℕ) (r : Reply) (store_after out_after : List ℕ) : Type 0 where
  pub session : r.session ≡ after.session
  pub store : store_after ≡ after.store
  pub line : Prints after.answer out r.len out_after

-- The same of the line that comes next in what a reader has left: there is one, it is answered, and the reader is moved on behind it.
pub record AnswersLine (session : Session) (store text out : List ℕ) (r : Next) (store_after out_after : List ℕ) : Type 0 where
  pub some : 0 < length text
  pub line : Gives (line_done session store (first_line text)) out r.reply store_after out_after
  pub behind : left_of r.reader ≡ behind_line text

-- A line that is left is answered; where none is, nothing has changed, and there is no output line.
abbrev pub Answers : Session → (store text out : List ℕ) → Option Next → (store_after out_after : List ℕ) → Type 0
Answers session store text out (Some r) store_after out_after = AnswersLine session store text out r store_after out_after
Answers session store text out None store_after out_after = (text ≡ []) × (store_after ≡ store) × (out_after ≡ out)
