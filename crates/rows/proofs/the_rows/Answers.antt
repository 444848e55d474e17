-- `rows::the_rows` carries the laws of a row.
use Rattle.rows.proofs.Writing.{in_order, packet_in_lem, row_written_lem}
use Rattle.rows.proofs.Updating.{store_updated, generation_edited, fresh}
use Rattle.rows.proofs.the_rows.Goals as goal

pub returns : goal.returns
returns c = record {
  order = in_order;
  packets = packet_in_lem;
  written = row_written_lem;
  updated = store_updated;
  editing = generation_edited;
  fresh = λ sh row x i packet s generation u size bytes whole. fresh sh row x i packet s u size bytes generation whole;
}
