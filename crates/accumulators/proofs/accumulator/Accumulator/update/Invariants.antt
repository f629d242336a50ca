use Rattle.std.proofs.Common.{◌≡◌, take}
use Rattle.accumulators.specs.Listed.{after_rows}
use Rattle.accumulators.proofs.accumulator.Accumulator.update.Given as goal

abbrev pub invariant-loop-j : goal.invariant-loop-j
invariant-loop-j g l = g.Self.Accumulator.credit l.self ≡ after_rows g.Self.Accumulator.kind (g.C.Rows.cells l.values) (g.Self.Accumulator.credit l.initial.self) (take l.j-index l.rows)
