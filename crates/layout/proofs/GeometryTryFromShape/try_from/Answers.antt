-- A shape that is not refused is in range.
use Rattle.std.proofs.Common.{sym}
use Rattle.layout.proofs.Ranges.{range_words}
use Rattle.layout.proofs.GeometryTryFromShape.try_from.Goals as goal

pub invariant_of-result : goal.invariant_of-result
invariant_of-result c = record { in_range = range_words c.args.shape (sym (c.in_ok-judge_shape.ensures {u = tt})) }
