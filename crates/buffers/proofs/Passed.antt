-- The rows that a filter lets through, as bits.
use Rattle.std.proofs.Common.{◌≡◌, ℕ, zero, suc, ◌+◌, Bool, ◌&&◌, List, ◌∷◌, map, take, Some, None, Option, sym, refl, ap, ◌∙◌, arith}
use Rattle.std.specs.List.{range_with_len}
use Rattle.std.proofs.lemmas.List.FromFn.{length-map-range_with_len}
use Rattle.std.proofs.lemmas.List.{take_all}
use Rattle.columnar.specs.Cells.{ticked}
use Rattle.columnar.specs.Packed.{bit_at, unpacked}
use Rattle.columnar.specs.Rows.{cells_from, valid_at, boolean_cells}

-- rows from a on, by a test for validity and one for the value
ticked_counted : (p f : ℕ → Bool) (a n : ℕ) → ticked (cells_from p a (map f (range_with_len a n))) n ≡ map (λ j. p j && f j) (range_with_len a n)
ticked_counted p f a zero = refl
ticked_counted p f a (suc n) = ap (λ bs. (p a && f a) ∷ bs) (ticked_counted p f (a + 1) n)

first_all : (f : ℕ → Bool) (n : ℕ) → take n (map f (range_with_len 0 n)) ≡ map f (range_with_len 0 n)
first_all f n = take_all n (map f (range_with_len 0 n)) (omega (arith, length-map-range_with_len f 0 n))

-- a filter without a mask stands as its values alone
pub passed_plain : (bytes : List ℕ) (start : ℕ) (mask : Option (List ℕ)) (from n : ℕ) → mask ≡ None → take n (unpacked bytes start n) ≡ ticked (boolean_cells bytes start mask from n) n
passed_plain bytes start mask from n e =
    first_all (λ j. bit_at bytes (start + j)) n
    ∙ sym (ap (λ m. ticked (boolean_cells bytes start m from n) n) e ∙ ticked_counted (valid_at None from) (λ j. bit_at bytes (start + j)) 0 n)

-- and otherwise the bits are anded
pub passed_anded : (bytes : List ℕ) (start : ℕ) (mask : Option (List ℕ)) (known : List ℕ) (from n : ℕ) → mask ≡ Some known
    → take n (map (λ j. bit_at known (from + j) && bit_at bytes (start + j)) (range_with_len 0 n)) ≡ ticked (boolean_cells bytes start mask from n) n
passed_anded bytes start mask known from n e =
    first_all (λ j. bit_at known (from + j) && bit_at bytes (start + j)) n
    ∙ sym (ap (λ m. ticked (boolean_cells bytes start m from n) n) e ∙ ticked_counted (valid_at (Some known) from) (λ j. bit_at bytes (start + j)) 0 n)
