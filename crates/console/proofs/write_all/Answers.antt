-- A write takes the front of what is left.
use Rattle.std.proofs.Common.{◌++◌, take}
use Rattle.std.proofs.KnownBytes.{Appends-trans}
use Rattle.console.proofs.Written.{moved, some_left}
use Rattle.console.proofs.write_all.Goals as goal

pub loop-preserved : goal.loop-preserved
loop-preserved g c =
    let (done, some, split, written) = c.loop.invariant in
    let rest = c.loop.rest.now in
    let n = c.in-Ok.n in
    (done ++ take n rest, some_left rest n c.if-n-rest.true, moved _ done rest n split, Appends-trans _ _ _ _ _ written c.in-Ok.ensures.bytes)
