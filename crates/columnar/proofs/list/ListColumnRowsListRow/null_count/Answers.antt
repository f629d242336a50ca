use Rattle.std.proofs.Common.{sym}
use Rattle.columnar.proofs.Ordered.{lists_nulls}
use Rattle.columnar.proofs.list.ListColumnRowsListRow.null_count.Goals as goal

pub returns : goal.returns
returns g c = sym (lists_nulls c.args.self.now.offsets.now c.args.self.now.items.now)
