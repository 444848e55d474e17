-- What is gone from the bytes was written, and something is left.
use Rattle.std.proofs.Common.{◌≡◌, ◌<◌, length, ℕ, List, ◌++◌}
use Rattle.std.specs.Io.KnownBytes.{Appends}
use Rattle.console.proofs.write_all.Given as goal

abbrev pub invariant-loop : goal.invariant-loop
invariant-loop g l =
    let contents = g.W.Write.contents in
    (done : List ℕ) × (0 < length l.rest) × (l.fn.bytes ≡ done ++ l.rest) × Appends (contents l.fn.writer) (contents l.writer) done
