use Rattle.columnar.proofs.CellRows.{length_cells}
use Rattle.columnar.proofs.column.FlatColumnRowsItem.len.Goals as goal

pub returns : goal.returns
returns g c = let v = c.args.self.now.values in length_cells _ v.len (g.met.L.Readable.counts v.slots.now v.start v.len v.fits) _
