use Rattle.std.proofs.Common.{rules}
use Rattle.operations.proofs.Folds.{shows_greatest}
use Rattle.operations.proofs.shows.max_shows.Goals as goal

pub returns : goal.returns
returns g c = let order = g.T.Bounded.order in search (rules, shows_greatest)
