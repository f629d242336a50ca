use Rattle.std.proofs.Common.{◌+◌, ◌<◌, ◌≤◌, length, arith, rules}
use Rattle.columnar.proofs.Ordered.{offset_low, row_order, row_within}
use Rattle.columnar.proofs.list.ListColumn.row.Given as given
use Rattle.columnar.proofs.list.ListColumn.row.Goals as goal

pub offset-low-requires : goal.offset-low-requires
offset-low-requires g c =
    let k = c.args.self.now in
    let l : c.args.j < length k.offsets.now = omega arith in
    record { within = l; sign = offset_low k.offsets.now (length k.items.now) k.ordered c.args.j l }

pub offset-high-requires : goal.offset-high-requires
offset-high-requires g c =
    let k = c.args.self.now in
    let l : c.args.j + 1 < length k.offsets.now = omega arith in
    record { within = l; sign = offset_low k.offsets.now (length k.items.now) k.ordered (c.args.j + 1) l }

-- the part of the items that row j is
order : (g : given.Over) (c : goal.After-offset-high g) → c.offset-low.result ≤ c.offset-high.result
order g c =
    let k = c.args.self.now in
    omega (arith, row_order k.offsets.now (length k.items.now) k.ordered c.args.j (omega arith))

within : (g : given.Over) (c : goal.After-offset-high g) → c.offset-high.result ≤ length c.args.self.now.items.now
within g c =
    let k = c.args.self.now in
    omega (arith, row_within k.offsets.now (length k.items.now) k.ordered c.args.j (omega arith))

pub offset_bounds-items-low : goal.offset_bounds-items-low
offset_bounds-items-low g c = omega (arith, order g c, within g c)

pub slice_bounds-result-count : goal.slice_bounds-result-count
slice_bounds-result-count g c = order g c

pub slice_bounds-result-start : goal.slice_bounds-result-start
slice_bounds-result-start g c = let o = order g c in search (rules, o)

pub slice_bounds-result-end : goal.slice_bounds-result-end
slice_bounds-result-end g c = let w = within g c in search (rules, w)
