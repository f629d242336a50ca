use Rattle.std.proofs.Common.{length, ◌∙◌}
use Rattle.columnar.specs.Cells.{passes}
use Rattle.columnar.specs.Views.{ticks}
use Rattle.buffers.proofs.AdmittedRows.{lets, admitted_yes, admitted_no}
use Rattle.buffers.proofs.admitted.admitted.Goals as goal

pub returns-then-unwrap_or : goal.returns-then-unwrap_or
returns-then-unwrap_or g c =
    let ts = ticks c.args.opt_filter.now in
    let cs = g.C.Rows.cells c.args.values.now in
    admitted_yes (passes ts (length cs)) cs c.args.j c.read.result (lets ts (length cs) c.args.j _ _ c.requires c.row.ensures c.unwrap_or.ensures ∙ c.if-unwrap_or.true) c.read.ensures

pub returns : goal.returns
returns g c =
    let ts = ticks c.args.opt_filter.now in
    let cs = g.C.Rows.cells c.args.values.now in
    admitted_no (passes ts (length cs)) cs c.args.j (lets ts (length cs) c.args.j _ _ c.requires c.row.ensures c.unwrap_or.ensures ∙ c.if-unwrap_or.false)
