-- `cycle::begin_group` meets its contract.
use Rattle.std.proofs.Common.{◌∙◌, sym, add-zero}
use Rattle.cycle.proofs.Groups.{plan_is, plan_few}
use Rattle.cycle.proofs.begin_group.Goals as goal

pub starts_of-requires : goal.starts_of-requires
starts_of-requires c = plan_few c.args.geometry.shape.k c.args.counts c.args.geometry.in_range.symbols c.in_ok-plan.plan (c.in_ok-plan.ensures {u = tt}).value

pub returns-clause-planned : goal.returns-clause-planned
returns-clause-planned c = record {
  plan = plan_is c.args.geometry.shape.k c.args.counts c.args.geometry.in_range.symbols c.in_ok-plan.plan (c.in_ok-plan.ensures {u = tt}).value;
  next = λ i l. c.starts_of.ensures i l ∙ sym (add-zero _);
}
