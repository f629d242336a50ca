-- The limits of an accumulator: each the least of the number asked for, its cap and, where memory is needed, the places given.
--
--     cap            the most rows of a batch, and the most groups, of any accumulator
--     pair_cap       the most pairs of any accumulator
use Rattle.std.specs.Prelude.{ℕ}

abbrev pub cap : ℕ
cap = 65536

abbrev pub pair_cap : ℕ
pair_cap = 1048576
