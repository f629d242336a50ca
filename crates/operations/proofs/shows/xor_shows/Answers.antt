use Rattle.operations.specs.contracts.boolean.XorOperationBool.TheImpl.{ghosts}
use Rattle.operations.proofs.Folds.{shows_odd}
use Rattle.operations.proofs.shows.xor_shows.Goals as goal

pub returns : goal.returns
returns c = shows_odd ghosts.start
