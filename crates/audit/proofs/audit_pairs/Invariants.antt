use Rattle.std.proofs.Common.{length}
use Rattle.simplex.specs.Shape.{is_bank}
use Rattle.simplex.specs.Limit.{reads_of}
use Rattle.audit.specs.Audit.{pairs_of}
use Rattle.audit.proofs.Walk.{Walked}
use Rattle.audit.proofs.audit_pairs.Given as goal

abbrev pub invariant-loop-a : goal.invariant-loop-a
invariant-loop-a l =
    (goal.iterator-loop-a).can_next l.a-iterator × (goal.iterator-loop-a).is_finite l.a-iterator × Walked (is_bank l.fn.k) (reads_of l.fn.counts) (pairs_of l.fn.bytes) (length l.yielded) l.met
