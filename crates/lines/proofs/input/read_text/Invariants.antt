-- What was read stands before the rest of the text, which keeps its bytes.
use Rattle.std.proofs.Common.{◌≡◌, ℕ, ◌≤◌, List, ◌++◌, length, drop}
use Rattle.std.specs.Io.KnownBytes.{Consumes}
use Rattle.lines.proofs.input.read_text.Given as goal

abbrev pub invariant-loop : goal.invariant-loop
invariant-loop g l =
    let remaining = g.R.Read.remaining in
    (read : List ℕ) × (l.len ≡ length read) × (l.len ≤ length l.fn.text)
    × Consumes (remaining l.fn.reader) (remaining l.reader) read × (l.text ≡ read ++ drop l.len l.fn.text)
