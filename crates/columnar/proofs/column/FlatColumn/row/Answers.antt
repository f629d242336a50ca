use Rattle.std.proofs.Common.{ap, sym, arith}
use Rattle.std.specs.Option.{option_map}
use Rattle.columnar.specs.Cells.{seen}
use Rattle.columnar.proofs.CellRows.{length_cells_from, cells_past}
use Rattle.columnar.proofs.column.FlatColumn.row.Goals as goal

pub returns-then-j-self : goal.returns-then-j-self
returns-then-j-self g c =
    let v = c.args.self.now.values in
    ap (option_map seen) (sym (cells_past _ v.len (g.met.L.Readable.counts v.slots.now v.start v.len v.fits) _ c.args.j c.if-j-self.true))

pub read-requires : goal.read-requires
read-requires g c =
    let v = c.args.self.now.values in
    let count = g.met.L.Readable.counts v.slots.now v.start v.len v.fits in
    simp length_cells_from (omega (arith, c.if-j-self.false, count))
