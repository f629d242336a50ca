use Rattle.prim_op.specs.Means.{Sound}
use Rattle.planner.proofs.feed.lead_with.Given as goal

-- the accumulator stays sound
abbrev pub invariant-loop-part : goal.invariant-loop-part
invariant-loop-part g l = Sound g.O.Operation.start l.acc
