-- Each turn judges the packet that its read names.
use Rattle.std.proofs.Common.{◌≡◌, rules}
use Rattle.refusals.proofs.Verdicts.{stops}
use Rattle.reads.specs.Reads.{names_of, read_at}
use Rattle.reads.proofs.Cutting.{names_many}
use Rattle.reads.proofs.Grids.{taken}
use Rattle.reads.proofs.judge_reads.Goals.{After-from}
use Rattle.reads.proofs.judge_reads.Goals as goal

named : (c : After-from) → c.from.result ≡ read_at (names_of c.args.reads.now) c.loop-n.n
named c = taken _ c.loop-n.n _ _ c.from.ensures (search rules)

pub returns-in_err-judge_packet : goal.returns-in_err-judge_packet
returns-in_err-judge_packet c =
    let is = named (goal.at.returns-in_err-judge_packet c).After-from in
    let judged = rw is at c.judge_packet.ensures in rw names_many (search (rules, stops))

pub loop-n-preserved : goal.loop-n-preserved
loop-n-preserved c =
    let is = named (goal.at.loop-n-preserved c).After-from in
    let judged = rw is at c.judge_packet.ensures in search rules
