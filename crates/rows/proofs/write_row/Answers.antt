-- Each turn puts the group whose packets come.
use Rattle.std.proofs.Common.{arith, ◌∙◌}
use Rattle.rows.proofs.Groups.{fillable}
use Rattle.rows.proofs.Writing.{group_spaced}
use Rattle.rows.proofs.Chunks.{turn, all_put}
use Rattle.rows.proofs.write_row.Goals as goal

pub loop-group-preserved : goal.loop-group-preserved
loop-group-preserved c =
    let t = turn c.args.geometry.in_range c.requires.generation_len c.loop-group.invariant c.in-Some.group c.in-Some.packets c.next.new.self (c.in-Some.ensures {u = tt}).steps in
    t.put _
    (group_spaced c.args.geometry.shape c.in-Some.group c.args.row _ c.loop-group.store _ (rw c.spacing_of.ensures at c.fill_group.ensures))

pub spacing_of-requires : goal.spacing_of-requires
spacing_of-requires c =
    let t = turn c.args.geometry.in_range c.requires.generation_len c.loop-group.invariant c.in-Some.group c.in-Some.packets c.next.new.self (c.in-Some.ensures {u = tt}).steps in
    (omega (arith, t.there), omega (arith, c.requires.place))

pub fill_group-requires : goal.fill_group-requires
fill_group-requires c =
    let t = turn c.args.geometry.in_range c.requires.generation_len c.loop-group.invariant c.in-Some.group c.in-Some.packets c.next.new.self (c.in-Some.ensures {u = tt}).steps in
    rw c.spacing_of.ensures
    (fillable _ _ _ c.args.geometry.in_range (omega (arith, t.there)) (omega (arith, c.requires.place)) _ _ t.size (c.loop-group.auto.store ∙ c.requires.store_len))

pub returns : goal.returns
returns c = all_put c.args.geometry.in_range c.requires.generation_len c.loop-group.invariant c.next.new.self (c.in-None.ensures {u = tt}).steps
