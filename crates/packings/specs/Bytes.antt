-- Booleans, a byte for each.
--
--     read_bytes xs s n    the booleans of n bytes from byte s on: each but 0 is true
--     bytes_of bs          the bytes of booleans: 1 for true, 0 for false
use Rattle.std.specs.Prelude.{◌≡◌, ℕ, ◌+◌, ◌≤◌, Bool, cond, not, List, map, length, take, drop, ◌==◌}
use Rattle.std.proofs.Common.{◌∙◌}
use Rattle.std.proofs.lemmas.List.{length-map}
use Rattle.columnar.specs.Packings.{length_plain}

abbrev pub read_bytes : List ℕ → ℕ → ℕ → List Bool
read_bytes xs start n = map (λ x. not (x == 0)) (take n (drop start xs))

abbrev pub bytes_of : List Bool → List ℕ
bytes_of bs = map (λ b. cond b 1 0) bs

pub length_read : (xs : List ℕ) (start n : ℕ) → start + n ≤ length xs → length (read_bytes xs start n) ≡ n
length_read xs start n h = length-map (take n (drop start xs)) (λ x. not (x == 0)) ∙ length_plain xs start n h
