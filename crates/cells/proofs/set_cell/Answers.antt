-- `cells::set_cell` meets its contract: after i turns, the first i bytes of the cell are put.
use Rattle.std.proofs.Common.{◌<◌, length, arith}
use Rattle.cells.proofs.Cells.{put_none}
use Rattle.cells.proofs.Turns.{put_more}
use Rattle.cells.proofs.set_cell.Goals as goal

pub loop-i-init : goal.loop-i-init
loop-i-init g c = λ cell to. put_none c.args.s.now c.args.at

pub loop-i-preserved : goal.loop-i-preserved
loop-i-preserved g c = λ cell to.
    let within : c.loop-i.i < length cell = omega (arith, to.0) in
    let before = c.loop-i.invariant cell to in
    put_more c.args.s.now c.args.at cell c.loop-i.i c.loop-i.s c.byte.result within before (to.1 _ c.loop-i.i c.byte.result (omega arith) before c.byte.ensures)
