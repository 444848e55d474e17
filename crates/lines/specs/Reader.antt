-- What a reader of a text's lines gives.
use Rattle.std.specs.Prelude.{◌≡◌, List, ℕ, ◌<◌, length, drop}
use Rattle.lines.specs.declared.reader.Reader.{Reader}
use Rattle.lines.specs.Lines.{first_line, behind_line}

-- What a reader has left of its text.
abbrev pub left_of : Reader → List ℕ
left_of reader = drop reader.at reader.text.now

-- A line and what is left behind it, of a text that is not at its end: all that stands before its first line feed, and behind that.
pub record FrontLine (text found left : List ℕ) : Type 0 where
  pub some : 0 < length text
  pub line : found ≡ first_line text
  pub behind : left ≡ behind_line text
