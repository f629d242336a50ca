-- Hash numbers.
--
--     folded n            the high half of 64 bits folded into the low half
--     mixed n f           a product of 64 bits, folded
--     scattered seed n    the hash number of n under a seed
use Rattle.std.specs.Prelude.{ℕ, ◌*◌, ◌/◌, ◌%◌, ◌^◌, bit_or, bit_xor}

abbrev pub folded : ℕ → ℕ
folded n = bit_xor n (n / 2 ^ 32)

abbrev pub mixed : ℕ → ℕ → ℕ
mixed n f = folded (n * f % 2 ^ 64)

abbrev pub scattered : ℕ → ℕ → ℕ
scattered seed n =
    mixed (mixed (mixed (bit_xor seed n) 0x9E37_79B9_7F4A_7C15) (bit_or (bit_xor seed 0xBF58_476D_1CE4_E5B9) 1)) 0x94D0_49BB_1331_11EB
