use Rattle.std.proofs.Common.{rules}
use Rattle.columnar.proofs.FilterRows.{tick_count}
use Rattle.columnar.proofs.filter.Filter.ticked.Goals as goal

pub returns : goal.returns
returns c = search (rules, tick_count)
