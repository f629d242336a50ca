use Rattle.prim_op.specs.Means.{Sound}
use Rattle.planner.proofs.feed.follow_with.Given as goal

-- the accumulator stays sound
abbrev pub invariant-loop-turn : goal.invariant-loop-turn
invariant-loop-turn g l = Sound g.O.Operation.start l.acc
