use Rattle.std.proofs.Common.{sym, ◌∙◌}
use Rattle.std.proofs.lemmas.List.FromFn.{length-range_with_len}
use Rattle.columnar.proofs.CellRows.{nulls_cells}
use Rattle.columnar.proofs.column.FlatColumn.new.Goals as goal

pub invariant_of-result-clause-counted : goal.invariant_of-result-clause-counted
invariant_of-result-clause-counted g c =
    let v = c.args.values in
    c.count_nulls.ensures ∙ nulls_cells _ _ (length-range_with_len 0 v.len ∙ sym c.if-mask-values.false ∙ sym c.from-validity.ensures.1.1) _
