use Rattle.std.proofs.Common.{sym, ◌∙◌, arith}
use Rattle.std.specs.Option.{option_map}
use Rattle.columnar.proofs.CellRows.{nulls_more}
use Rattle.columnar.proofs.validity.Validity.count_nulls.Goals as goal
use Rattle.columnar.proofs.validity.Validity.count_nulls.Goals.{then-not-valid, else-not-valid}

pub loop-j-preserved : goal.loop-j-preserved
loop-j-preserved c =
    let s = c.args.self.now in
    elim c.if-not-valid.branch [
      | then-not-valid w ↦ (omega (arith, w.nulls-is), omega (arith, w.nulls-is, nulls_more (option_map (λ x. x.now) s.mask) s.start c.loop-j.j _ (sym c.valid.ensures ∙ w.if-not-valid.true)))
      | else-not-valid w ↦ (omega (arith, w.nulls-is), omega (arith, w.nulls-is, nulls_more (option_map (λ x. x.now) s.mask) s.start c.loop-j.j _ (sym c.valid.ensures ∙ w.if-not-valid.false)))
    ]
