-- The counts are those of the reads so far.
use Rattle.std.proofs.Common.{◌≡◌}
use Rattle.reads.specs.Reads.{names_of}
use Rattle.reads.proofs.Grids.{all_until}
use Rattle.reads.proofs.count_reads.Given as goal

abbrev pub invariant-loop-read : goal.invariant-loop-read
invariant-loop-read l = l.counts ≡ all_until (names_of l.reads) l.read-index
