-- `steps::do_read` meets its contract: the cycle on the memory's part of the store, and its packets printed from the buffer that it has filled.
use Rattle.std.proofs.Common.{◌*◌, ◌/◌, ◌≤◌, length, arith, ap, sym, ◌∙◌}
use Rattle.std.proofs.lemmas.List.{take-replicate}
use Rattle.cells.specs.Xor.{zeros}
use Rattle.frames.specs.declared.TheConstants.{MOST_FRAME, MOST_STORE}
use Rattle.steps.proofs.Fitting.{reads_many}
use Rattle.steps.proofs.Cycles.{filled, cycle_done}
use Rattle.steps.proofs.do_read.Goals as goal

pub returns : goal.returns
returns c =
    let a = c.args in
    let list = a.list.now in
    let did = c.read_cycle-outcome.ensures in
    let size = rw (← reads_many list) at c.packets_size-size.ensures in
    let buffer = filled MOST_STORE _ _ _ size c.read_cycle-outcome.auto.out in
    let lines : length list / 3 * 2 ≤ MOST_FRAME / 3 * 2 = omega (arith, c.requires) in
    let schedule = take-replicate (length list / 3 * 2) (MOST_FRAME / 3 * 2) 0 lines ∙ ap (λ n. zeros (n * 2)) (sym (reads_many list)) in
    cycle_done a.store.now list a.state _ _ (omega arith) c.lent_size-lent.ensures size _ _ _ _ buffer.lent schedule
    did.outcome did.output c.answer.ensures.session (rw buffer.front at c.answer.ensures.line)
