use Rattle.std.proofs.Common.{◌≡◌, ◌≤◌, not, map, count_by}
use Rattle.std.specs.List.{range_with_len}
use Rattle.std.specs.Option.{option_map}
use Rattle.columnar.specs.Rows.{valid_at}
use Rattle.columnar.proofs.validity.Validity.count_nulls.Given as goal

abbrev pub invariant-loop-j : goal.invariant-loop-j
invariant-loop-j l =
    (l.nulls ≤ l.j) × (l.nulls ≡ count_by not (map (valid_at (option_map (λ x. x.now) l.self.mask) l.self.start) (range_with_len 0 l.j)))
