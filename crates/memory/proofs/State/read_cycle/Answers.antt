-- `State::read_cycle`: what a cycle that is served tells of its plans and of its lines.
use Rattle.std.proofs.Common.{sym, ◌∙◌}
use Rattle.memory.proofs.Cycles.{audited, systematic}
use Rattle.memory.proofs.State.read_cycle.Goals as goal

pub returns-clause-plans : goal.returns-clause-plans
returns-clause-plans c e =
    audited c.args.self c.args.store.now c.args.list.now c.args.out.now c.args.schedule.now (sym c.try_read_cycle.ensures.answer ∙ e)

pub returns-clause-systematic : goal.returns-clause-systematic
returns-clause-systematic c e =
    rw c.try_read_cycle.ensures.lines
    (systematic c.args.self c.args.store.now c.args.list.now c.args.out.now c.args.schedule.now (sym c.try_read_cycle.ensures.answer ∙ e))
