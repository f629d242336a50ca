use Rattle.std.proofs.Common.{◌∙◌}
use Rattle.columnar.proofs.CellRows.{bit_row_read}
use Rattle.columnar.proofs.items.Items+Packed+u8.bit.Goals as goal

pub returns : goal.returns
returns c = let v = c.args.self.now in c.row.ensures ∙ bit_row_read v.slots.now v.start v.len c.args.j
