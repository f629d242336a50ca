use Rattle.std.proofs.Common.{is_some, ap, ◌∙◌, arith}
use Rattle.columnar.specs.Cells.{over}
use Rattle.buffers.specs.Memory.{short, stored}
use Rattle.columnar.specs.Views.{ticks}
use Rattle.buffers.proofs.AdmittedRows.{length_kept, kept_is}
use Rattle.buffers.proofs.buffers.FlatBuffers.put_rows.Goals as goal

pub put_from-requires : goal.put_from-requires
put_from-requires g c =
    let ts = ticks c.args.opt_filter.now in
    let cs = g.C.Rows.cells c.args.values.now in
    record {
      values = omega (arith, c.len-rows.ensures, length_kept (λ o. (over c.args.filler o).figure) ts cs);
      marks = omega (arith, c.len-rows.ensures, length_kept is_some ts cs);
      room = ap (short g.Self.Buffers.layout (g.Self.Buffers.room (g.Self.Buffers.memory c.args.self.now))) (kept_is c.args.filler ts cs c.len-rows.result c.len-rows.ensures) ∙ c.requires.room;
    }

pub returns : goal.returns
returns g c =
    let ts = ticks c.args.opt_filter.now in
    let cs = g.C.Rows.cells c.args.values.now in
    c.put_from.ensures ∙ ap (λ k. stored g.Self.Buffers.masks g.Self.Buffers.figures k (g.Self.Buffers.memory c.args.self.now)) (kept_is c.args.filler ts cs c.len-rows.result c.len-rows.ensures)
