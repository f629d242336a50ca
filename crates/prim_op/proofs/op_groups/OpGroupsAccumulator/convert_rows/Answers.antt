use Rattle.std.proofs.Common.{◌≡◌, true, false, cond, length, Some, None, unwrap_or, sym, refl, ap, ◌∙◌}
use Rattle.std.proofs.lemmas.Bool.{not-true, not-false}
use Rattle.columnar.specs.declared.refusal.Refusal.TheVariants.{ShortBuffer}
use Rattle.columnar.specs.Cells.{passes, kept_rows}
use Rattle.buffers.specs.Memory.{short, stored}
use Rattle.columnar.specs.Views.{ticks}
use Rattle.groups.specs.Tally.{converted}
use Rattle.operations.specs.Primitive.{primitive}
use Rattle.prim_op.proofs.Converting.{converted_is, kept_shaped, convert_line}
use Rattle.prim_op.proofs.op_groups.OpGroupsAccumulator.convert_rows.Goals as goal

pub put_rows-requires : goal.put_rows-requires
put_rows-requires g c =
    let rows = g.C.Rows.cells c.args.values.now in
    let f = ticks c.args.opt_filter.now in
    record { room = not-true _ (sym (c.fits.ensures (kept_rows c.starting_value.result (passes f (length rows)) rows) (kept_shaped c.starting_value.result f rows c.len-rows.result c.len-rows.ensures)) ∙ c.if-not-fits.false) }

pub returns-then-not-fits : goal.returns-then-not-fits
returns-then-not-fits g c =
    let o = g.O.Operation in
    let b = g.B.Buffers in
    let rows = g.C.Rows.cells c.args.values.now in
    let f = ticks c.args.opt_filter.now in
    let kept = kept_rows o.start (passes f (length rows)) rows in
    let room = b.room (b.memory c.args.out.now) in
    let small : short b.layout room kept ≡ true = not-false _ (sym (c.fits.ensures kept (kept_shaped o.start f rows c.len-rows.result c.len-rows.ensures)) ∙ c.if-not-fits.true) in
    record {
      answer =
          ap (λ s. cond s (Some ShortBuffer) None) (sym small ∙ ap (short b.layout room) (converted_is o.start o.rule rows f))
          ∙ convert_line c.args.self.now.limits.rows (length rows) f (short b.layout room (converted (primitive o.start o.rule) rows f)) c.len-rows.result c.len-rows.ensures c.if-rows-self.false (ap (λ q. unwrap_or q c.len-rows.result) (sym c.ticked.ensures) ∙ sym c.unwrap_or.ensures ∙ c.if-unwrap_or-rows.false);
      written = refl;
    }

pub returns : goal.returns
returns g c =
    let o = g.O.Operation in
    let b = g.B.Buffers in
    let rows = g.C.Rows.cells c.args.values.now in
    let f = ticks c.args.opt_filter.now in
    let kept = kept_rows o.start (passes f (length rows)) rows in
    let m = b.memory c.args.out.now in
    let room = b.room m in
    let small : short b.layout room kept ≡ false = not-true _ (sym (c.fits.ensures kept (kept_shaped o.start f rows c.len-rows.result c.len-rows.ensures)) ∙ c.if-not-fits.false) in
    record {
      answer =
          ap (λ s. cond s (Some ShortBuffer) None) (sym small ∙ ap (short b.layout room) (converted_is o.start o.rule rows f))
          ∙ convert_line c.args.self.now.limits.rows (length rows) f (short b.layout room (converted (primitive o.start o.rule) rows f)) c.len-rows.result c.len-rows.ensures c.if-rows-self.false (ap (λ q. unwrap_or q c.len-rows.result) (sym c.ticked.ensures) ∙ sym c.unwrap_or.ensures ∙ c.if-unwrap_or-rows.false);
      written =
          c.put_rows.ensures
          ∙ ap (λ x. stored b.masks b.figures (kept_rows x (passes f (length rows)) rows) m) c.starting_value.ensures
          ∙ ap (λ col. stored b.masks b.figures col m) (converted_is o.start o.rule rows f);
    }
