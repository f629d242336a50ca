use Rattle.operations.specs.contracts.boolean.OrOperationBool.TheImpl.{ghosts}
use Rattle.operations.proofs.Folds.{shows_any}
use Rattle.operations.proofs.shows.or_shows.Goals as goal

pub returns : goal.returns
returns c = shows_any ghosts.start
