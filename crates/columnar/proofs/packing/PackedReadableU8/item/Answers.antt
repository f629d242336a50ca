use Rattle.columnar.proofs.CellRows.{unpacked_read}
use Rattle.columnar.proofs.packing.PackedReadableU8.item.Goals as goal

pub returns : goal.returns
returns c n h = unpacked_read _ c.args.start n c.args.j _ _ h c.bit.ensures
