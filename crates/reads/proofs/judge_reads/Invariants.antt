use Rattle.std.proofs.Common.{◌≡◌}
use Rattle.refusals.specs.Verdict.{Accepted, first_refusal}
use Rattle.layout.specs.Occupancy.{is_full}
use Rattle.reads.specs.Reads.{names_of}
use Rattle.reads.specs.Refusals.{read_refusal}
use Rattle.reads.proofs.judge_reads.Given as goal

-- the reads before this one are accepted
abbrev pub invariant-loop-n : goal.invariant-loop-n
invariant-loop-n l = first_refusal (read_refusal l.fn.geometry.shape (is_full l.fn.rows) (names_of l.fn.reads)) l.n ≡ Accepted
