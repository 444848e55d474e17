-- `State::try_release_set`: the full rows as a set.
use Rattle.std.proofs.Common.{arith}
use Rattle.std.proofs.lemmas.Grind.{common_steps}
use Rattle.memory.proofs.Emptying.{there_by_set, full_by_set}
use Rattle.memory.proofs.State.try_release_set.Goals as goal

pub returns-in_err-judge_rows-2 : goal.returns-in_err-judge_rows-2
returns-in_err-judge_rows-2 c =
    let full = full_by_set c.args.set c.full_set.result c.args.self.rows c.full_set.ensures in
    rw (there_by_set c.args.self c.args.set, full) (grind (arith, common_steps))

pub returns : goal.returns
returns c =
    let full = full_by_set c.args.set c.full_set.result c.args.self.rows c.full_set.ensures in
    rw (there_by_set c.args.self c.args.set, full) (grind (arith, common_steps))
