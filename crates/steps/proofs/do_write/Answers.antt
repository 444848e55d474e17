-- `steps::do_write` meets its contract.
use Rattle.std.proofs.Common.{◌∙◌, arith, refl}
use Rattle.memory.specs.Meaning as operation
use Rattle.frames.specs.Frame.{write}
use Rattle.steps.proofs.Done.{running, writes}
use Rattle.steps.proofs.do_write.Goals as goal

pub returns : goal.returns
returns c =
    let a = c.args in
    let w = c.write-outcome in
    let same = writes a.state a.store.now c.lent_size-lent.result a.row a.packets.now (omega arith) c.lent_size-lent.ensures in
    let did = w.ensures.outcome ∙ same.0 in
    running a.store.now (write a.row a.packets.now) (λ shape. operation.write a.row a.packets.now) _ w.result refl (rw did) (rw w.ensures.store same.1)
    c.answer.ensures.session (rw did at c.answer.ensures.line)
