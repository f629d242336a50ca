-- The items of either packing: as many as are asked for.
use Rattle.std.specs.Prelude.{◌≡◌, ℕ, ◌+◌, ◌*◌, ◌≤◌, List, length, take, drop}
use Rattle.std.proofs.Common.{arith}
use Rattle.std.proofs.lemmas.List.{length-drop, length-take-le}
use Rattle.std.proofs.lemmas.List.FromFn.{length-map-range_with_len}
use Rattle.columnar.specs.Packed.{bit_at, unpacked}

pub length_plain : {X : Type 0} (xs : List X) (start n : ℕ) → start + n ≤ length xs → length (take n (drop start xs)) ≡ n
length_plain xs start n h = omega (arith, length-drop start xs, length-take-le n (drop start xs))

pub length_packed : (bytes : List ℕ) (start n : ℕ) → start + n ≤ 8 * length bytes → length (unpacked bytes start n) ≡ n
length_packed bytes start n h = length-map-range_with_len (λ j. bit_at bytes (start + j)) 0 n
