-- How an answer is said in bytes, and what it is for bytes to be printed as a line.
use Rattle.std.specs.Prelude.{◌≡◌, List, [], ◌∷◌, ◌++◌, ℕ, ◌/◌, ◌%◌, ◌≤◌, ◌<◌, length, All, Result, Ok, Err}
use Rattle.cells.specs.Cell.{put}
use Rattle.refusals.specs.declared.Refusal.{Refusal}
use Rattle.refusals.specs.Verdict.{number_of, values_of}
use Rattle.refusals.specs.declared.Answer.{Answer}
use Rattle.lines.specs.Lines.{line_feed}
use Rattle.lines.specs.Hex.{digits_of}

-- A refusal in bytes: its number, and its place in two, high first.
abbrev pub refusal_said : Refusal → List ℕ
refusal_said refusal = number_of refusal.reason ∷ (refusal.place / 256) ∷ (refusal.place % 256) ∷ []

-- A memory's answer in bytes: 00, its values, and packets, which a cycle alone puts out; or a refusal [session.answer].
abbrev pub said : (packets : List ℕ) → Result Answer Refusal → List ℕ
said packets (Ok answer) = 0 ∷ values_of answer ++ packets
said packets (Err refusal) = refusal_said refusal

-- An answer's numbers fit the bytes that it is said in.
abbrev pub Fits : Result Answer Refusal → Type 0
Fits (Ok answer) = All (λ value. value < 256) (values_of answer)
Fits (Err refusal) = refusal.place < 65536

-- The line that bytes are printed as.
abbrev pub printed : List ℕ → List ℕ
printed bytes = digits_of bytes ++ (line_feed ∷ [])

-- These bytes are printed at the front of an output, which has room for them: the length of the line, and what the output then holds.
pub record Prints (bytes out : List ℕ) (n : ℕ) (out_after : List ℕ) : Type 0 where
  pub len : n ≡ length (printed bytes)
  pub room : length (printed bytes) ≤ length out
  pub output : out_after ≡ put out 0 (printed bytes)
