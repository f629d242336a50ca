use Rattle.turns.proofs.Runs.{in_any_order}
use Rattle.turns.proofs.runs_hold_in_any_order.Goals as goal

pub returns : goal.returns
returns g c = let t = g.T.GroupsAccumulator in in_any_order t.kind t.laws c.commutes.ensures
