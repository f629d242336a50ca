use Rattle.std.proofs.Common.{sym}
use Rattle.columnar.proofs.Ordered.{length_lists}
use Rattle.columnar.proofs.list.ListColumnRowsListRow.len.Goals as goal

pub returns : goal.returns
returns g c = sym (length_lists c.args.self.now.offsets.now c.args.self.now.items.now)
