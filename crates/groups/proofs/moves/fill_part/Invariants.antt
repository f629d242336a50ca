use Rattle.std.proofs.Common.{◌≡◌, ◌++◌, drop, replicate}
use Rattle.groups.proofs.moves.fill_part.Given as goal

abbrev pub invariant-loop-slot : goal.invariant-loop-slot
invariant-loop-slot g l = l.slot-items ≡ replicate l.slot-index l.x ++ drop l.slot-index l.initial.slot-items
