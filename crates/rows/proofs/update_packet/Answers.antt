-- The banks of a group lie a row of cells apart.
use Rattle.std.proofs.Common.{sym, ◌∙◌}
use Rattle.rows.proofs.Updating.{packet_spaced}
use Rattle.rows.proofs.Groups.{updatable}
use Rattle.rows.proofs.update_packet.Goals as goal

pub update_symbol-requires : goal.update_symbol-requires
update_symbol-requires c =
    let p = c.requires in
    let a = c.args in
    rw c.spacing_of-banks.ensures
    (updatable a.geometry.shape a.name.group a.name.symbol a.name.row a.geometry.in_range p.place a.packet.now a.store.now p.store_len p.packet_len)

pub returns : goal.returns
returns c =
    let p = c.requires in
    let a = c.args in
    c.update_symbol.ensures
    ∙ rw (c.spacing_of-banks.ensures, p.packet_len)
    (sym (packet_spaced a.geometry.shape a.name.row a.name.group a.name.symbol a.packet.now a.store.now p.place p.store_len p.packet_len))
