use Rattle.operations.proofs.Credits.{primitive_laws}
use Rattle.operations.proofs.laws.lawful.Goals as goal

pub returns-clause-laws : goal.returns-clause-laws
returns-clause-laws g c = primitive_laws g.O.Operation.combines g.O.Operation.start
