use Rattle.refusals.proofs.AnswerDisplay.fmt.Goals as goal

pub returns-in-Ready-clause-writes : goal.returns-in-Ready-clause-writes
returns-in-Ready-clause-writes g c = λ plain ok. rw c.in-Ready.is (c.write.ensures.writes plain ok)
