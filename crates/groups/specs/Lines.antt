-- The conditions of a batch that ask for no pairs, by numbers: for accumulators that keep no pairs.
use Rattle.std.specs.Prelude.{ℕ, ◌-◌, not, List, length, Option, ◌==◌, nat_lt}
use Rattle.std.specs.Option.{unwrap_or}
use Rattle.groups.specs.Lists.{all_below, names_from}
use Rattle.groups.specs.Tally.{Conditions, none_hold}

-- of n rows with these group indices; `ticked` is the length of a filter that is given
abbrev pub batch_line : ℕ → ℕ → ℕ → ℕ → List ℕ → Option ℕ → ℕ → Conditions
batch_line most_rows most_groups kept n groups ticked total =
    record none_hold {
      too_many_rows = nat_lt most_rows n;
      indices_differ = not (n == length groups);
      filter_differs = not (unwrap_or ticked n == n);
      total_below = nat_lt total kept;
      total_above = nat_lt most_groups total;
      index_above = not (all_below total groups);
      not_named = not (names_from kept (total - kept) groups);
    }
