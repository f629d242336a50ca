-- Packed bits, as the Apache Arrow columnar format lays them out.
--
--     bit_at bytes k          bit k: bit k mod 8, counted from the least significant, of byte k / 8
--     unpacked bytes s n      the bits of n rows from bit s on
--     bit_row bytes s n j     row j of those n rows, absent past the end
--     bytes_for n             how many bytes n bits take: one for each eight begun
--     byte_at bits k          byte k of bits that are packed, with zeros after the last bit
--     packed bits             the bytes of bits, from bit 0 on
use Rattle.std.specs.Prelude.{ℕ, ◌+◌, ◌*◌, ◌/◌, ◌%◌, ◌^◌, Bool, false, cond, List, map, length, Some, None, sum_by, Option, ◌==◌, nat_lt, slice_index, slice_index_or}
use Rattle.std.specs.List.{range_with_len}

abbrev pub bit_at : List ℕ → ℕ → Bool
bit_at bytes k = slice_index bytes (k / 8) / 2 ^ (k % 8) % 2 == 1

abbrev pub unpacked : List ℕ → ℕ → ℕ → List Bool
unpacked bytes start n = map (λ j. bit_at bytes (start + j)) (range_with_len 0 n)

abbrev pub bit_row : List ℕ → ℕ → ℕ → ℕ → Option Bool
bit_row bytes start n j = cond (nat_lt j n) (Some (bit_at bytes (start + j))) None

abbrev pub bytes_for : ℕ → ℕ
bytes_for n = (n + 7) / 8

-- the places of a byte's bits: the sum of 2 ^ i over the bits i below m that are set
abbrev pub byte_up_to : List Bool → ℕ → ℕ → ℕ
byte_up_to bits k m = sum_by (λ i. cond (slice_index_or bits (8 * k + i) false) (2 ^ i) 0) (range_with_len 0 m)

abbrev pub byte_at : List Bool → ℕ → ℕ
byte_at bits k = byte_up_to bits k 8

abbrev pub packed : List Bool → List ℕ
packed bits = map (byte_at bits) (range_with_len 0 (bytes_for (length bits)))
