use Rattle.operations.specs.contracts.boolean.AndOperationBool.TheImpl.{ghosts}
use Rattle.operations.proofs.Folds.{shows_all}
use Rattle.operations.proofs.shows.and_shows.Goals as goal

pub returns : goal.returns
returns c = shows_all ghosts.start
