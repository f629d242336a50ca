use Rattle.turns.proofs.Runs.{in_order}
use Rattle.turns.proofs.runs_hold.Goals as goal

pub returns : goal.returns
returns g c = let t = g.T.GroupsAccumulator in in_order t.kind t.laws
