use Rattle.planner.proofs.divide.feed_part.Given as goal

-- the accumulator stays sound
abbrev pub invariant-loop-turn : goal.invariant-loop-turn
invariant-loop-turn g l = g.T.GroupsAccumulator.sound l.acc
