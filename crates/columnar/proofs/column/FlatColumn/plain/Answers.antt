use Rattle.std.proofs.Common.{ap}
use Rattle.std.specs.List.{range_with_len}
use Rattle.std.specs.Option.{option_map}
use Rattle.columnar.proofs.CellRows.{plain_nulls}
use Rattle.columnar.proofs.column.FlatColumn.plain.Goals as goal

pub invariant_of-result-clause-counted : goal.invariant_of-result-clause-counted
invariant_of-result-clause-counted g c =
    plain_nulls _ c.all.result.start (range_with_len 0 c.args.values.len) (ap (option_map (λ x. x.now)) c.all.ensures.mask)
