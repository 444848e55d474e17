-- The reads that are run are those of the list.
use Rattle.std.proofs.Common.{rules}
use Rattle.reads.specs.Refusals.{list_refusal}
use Rattle.reads.proofs.Cutting.{cut}
use Rattle.cycle.proofs.run.Goals as goal

pub returns-clause-verdict : goal.returns-clause-verdict
unfolding list_refusal
returns-clause-verdict c = let v = rw (cut c.args.list.now _ c.as_chunks.ensures.front) at c.run_reads.ensures.verdict in search rules

pub returns-clause-output : goal.returns-clause-output
returns-clause-output c = rw (cut c.args.list.now _ c.as_chunks.ensures.front) at c.run_reads.ensures.output

pub returns-clause-lines : goal.returns-clause-lines
returns-clause-lines c = rw (cut c.args.list.now _ c.as_chunks.ensures.front) at c.run_reads.ensures.lines
