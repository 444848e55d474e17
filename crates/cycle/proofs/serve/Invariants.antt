-- The loop of `cycle::serve`: the reads before n are served.
use Rattle.std.proofs.Common.{◌≡◌}
use Rattle.cells.specs.Cell.{put_each}
use Rattle.reads.specs.Reads.{names_of}
use Rattle.cycle.specs.Cycle.{plans_of, packet_of, line_of}
use Rattle.cycle.specs.Parts.{GroupsAfter}
use Rattle.cycle.proofs.serve.Given as goal

abbrev pub invariant-loop-n : goal.invariant-loop-n
invariant-loop-n l =
    let list = names_of l.reads in
    let shape = l.fn.store.geometry.shape in
    let plans = plans_of shape.k list in
    (l.out ≡ put_each shape.p (packet_of shape plans l.fn.store.bytes.now list) l.n l.fn.out)
    × (l.schedule ≡ put_each 2 (line_of plans list) l.n l.fn.schedule)
    × GroupsAfter plans list l.n shape.m l.groups
