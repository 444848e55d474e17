use Rattle.refusals.proofs.check.Goals as goal

pub returns-then-passed : goal.returns-then-passed
returns-then-passed c = rw c.if-passed.true
