-- A group has a first bank.
use Rattle.std.proofs.Common.{arith}
use Rattle.rows.proofs.Groups.{some_banks}
use Rattle.rows.proofs.spacing_of.Goals as goal

pub offset_of-requires : goal.offset_of-requires
offset_of-requires c =
    let p = c.requires in
    record { group = p.0; first = omega arith; last = omega (arith, some_banks _ c.args.geometry.in_range); row = p.1 }
