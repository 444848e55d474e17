-- A turn does a line and writes its answer; after the last the whole text is done.
use Rattle.std.proofs.Common.{◌∙◌, refl}
use Rattle.console.proofs.Turns.{at_first, turned, cut_short, same_room, at_last}
use Rattle.console.proofs.answer.Goals as goal

pub loop-next-init : goal.loop-next-init
loop-next-init g c = record { turn = at_first _ (c.new-reader.ensures ∙ c.cut.ensures); room = refl }

pub returns-in-Err-clause-answered : goal.returns-in-Err-clause-answered
returns-in-Err-clause-answered g c = cut_short c.loop-next.invariant.turn c.in-Some.ensures c.in-Err.ensures.written

pub loop-next-preserved : goal.loop-next-preserved
loop-next-preserved g c =
    let now = c.loop-next.invariant in
    record { turn = turned now.turn c.in-Some.ensures c.in_default-write_all.ensures.written; room = (same_room now.turn c.in-Some.ensures).0 ∙ now.room }

pub returns-clause-answered : goal.returns-clause-answered
returns-clause-answered g c = let none = c.in_default.ensures in rw none.1 (at_last none.0 c.loop-next.invariant.turn)
