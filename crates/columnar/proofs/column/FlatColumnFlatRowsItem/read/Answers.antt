use Rattle.std.proofs.Common.{sym, ◌∙◌, arith}
use Rattle.columnar.proofs.CellRows.{row_within, row_valid, row_null}
use Rattle.columnar.proofs.column.FlatColumnFlatRowsItem.read.Goals as goal

pub valid-requires : goal.valid-requires
valid-requires g c =
    let v = c.args.self.now.values in
    omega (arith, row_within _ _ c.args.j c.requires, g.met.L.Readable.counts v.slots.now v.start v.len v.fits, c.args.self.now.even)

pub get-requires : goal.get-requires
get-requires g c =
    let v = c.args.self.now.values in
    omega (arith, row_within _ _ c.args.j c.requires, g.met.L.Readable.counts v.slots.now v.start v.len v.fits)

pub returns-then-valid : goal.returns-then-valid
returns-then-valid g c = row_valid _ _ c.args.j c.requires _ c.get.ensures (sym c.valid.ensures ∙ c.if-valid.true)

pub returns : goal.returns
returns g c = row_null _ _ c.args.j c.requires (sym c.valid.ensures ∙ c.if-valid.false)
