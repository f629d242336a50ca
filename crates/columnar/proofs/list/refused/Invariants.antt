use Rattle.std.proofs.Common.{◌≡◌, drop, pos}
use Rattle.columnar.specs.Refusals.{offsets_bad}
use Rattle.columnar.proofs.list.refused.Given as goal

abbrev pub invariant-loop-offset : goal.invariant-loop-offset
invariant-loop-offset l = offsets_bad l.before (drop l.offset-index l.offsets) l.items ≡ offsets_bad (pos 0) l.offsets l.items
