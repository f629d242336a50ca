-- The rules of the operations.
--
--     added_i64, added_u64   sums that wrap at the ends of their type
--     ord_min, ord_max       the lesser and the greater of two by an order are the standard library's
--     odd_of a b             whether exactly one of two booleans is true; ◌&&◌ and ◌||◌ are the other two
use Rattle.std.specs.Prelude.{ℕ, ◌+◌, ◌%◌, ◌^◌, Bool, true, false, not, ℤ, ◌+ℤ◌}
use Rattle.std.specs.Int.{int_wrap, w64}

abbrev pub added_i64 : ℤ → ℤ → ℤ
added_i64 a b = int_wrap w64 (a +ℤ b)

abbrev pub added_u64 : ℕ → ℕ → ℕ
added_u64 a b = (a + b) % 2 ^ 64

abbrev pub odd_of : Bool → Bool → Bool
odd_of true b = not b
odd_of false b = b
