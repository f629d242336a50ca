use Rattle.std.proofs.Common.{sym, ◌∙◌}
use Rattle.std.proofs.lemmas.List.FromFn.{length-range_with_len}
use Rattle.columnar.proofs.CellRows.{same_nulls}
use Rattle.columnar.proofs.column.FlatColumnRowsItem.null_count.Goals as goal

pub returns : goal.returns
returns g c =
    let v = c.args.self.now.values in
    c.args.self.now.counted ∙ same_nulls _ _ _ (length-range_with_len 0 v.len ∙ sym (g.met.L.Readable.counts v.slots.now v.start v.len v.fits))
