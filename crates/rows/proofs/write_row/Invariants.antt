-- The groups of the turns so far are put.
use Rattle.rows.proofs.Chunks.{Turned}
use Rattle.rows.proofs.write_row.Given as goal

abbrev pub invariant-loop-group : goal.invariant-loop-group
invariant-loop-group l = Turned l.geometry.shape l.row l.generation l.fn.store l.store l.group-iterator
