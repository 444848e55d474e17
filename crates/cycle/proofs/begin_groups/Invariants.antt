-- The loop of `cycle::begin_groups`: the groups before x are planned, and none of them is refused.
use Rattle.std.proofs.Common.{◌≡◌}
use Rattle.refusals.specs.Verdict.{Accepted, first_refusal}
use Rattle.reads.specs.Reads.{names_of}
use Rattle.reads.specs.Refusals.{group_refusal}
use Rattle.cycle.specs.Cycle.{plans_of}
use Rattle.cycle.specs.Parts.{GroupsAfter}
use Rattle.cycle.proofs.begin_groups.Given as goal

abbrev pub invariant-loop-x : goal.invariant-loop-x
invariant-loop-x l =
    let list = names_of l.reads in
    let shape = l.fn.geometry.shape in
    (first_refusal (group_refusal shape list) l.x-counter ≡ Accepted) × GroupsAfter (plans_of shape.k list) list 0 l.x-counter l.groups
