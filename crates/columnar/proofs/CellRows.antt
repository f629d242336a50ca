-- Cells by row number: their reads, and the count of the nulls among them.
use Rattle.std.proofs.Common.{◌≡◌, ℕ, zero, suc, ◌+◌, ◌<◌, ◌≤◌, Bool, true, false, cond, not, List, [], ◌∷◌, map, length, get_or, Some, None, count_by, Option, sym, refl, ap, ◌∙◌, add-zero, zero-add, ltb, ⊎_elim, arith}
use Rattle.std.specs.List.{slice_get, range_with_len}
use Rattle.std.specs.Option.{option_map}
use Rattle.std.proofs.lemmas.List.FromFn.{length-map-range_with_len, get_or-map-range_with_len, sum_by-map-range_with_len_more}
use Rattle.std.proofs.lemmas.List.Sums.{sum_by-cons}
use Rattle.std.proofs.lemmas.Bool.{ltb-true, ltb-false, cases_Bool, cond-true, cond-false}
use Rattle.std.proofs.lemmas.Option.{slice_get_past, slice_get_read}
use Rattle.columnar.specs.Cells.{Cell, cell, seen, nulls}
use Rattle.columnar.specs.Packed.{bit_at, bit_row, unpacked}
use Rattle.columnar.specs.Rows.{valid_at, cells_from, column_cells}

pub length_cells_from : {V : Type 0} (p : ℕ → Bool) (i : ℕ) (xs : List V) → length (cells_from p i xs) ≡ length xs
length_cells_from p i [] = refl
length_cells_from p i (x ∷ xs) = ap suc (length_cells_from p (i + 1) xs)

pub nth_cells_past : {V : Type 0} (p : ℕ → Bool) (i : ℕ) (xs : List V) (j : ℕ) → length xs ≤ j → slice_get (cells_from p i xs) j ≡ None
nth_cells_past p i xs j h = slice_get_past (cells_from p i xs) j (simp length_cells_from h)

nth_cells_from : {V : Type 0} (p : ℕ → Bool) (i : ℕ) (xs : List V) (j : ℕ) (x : V) → j < length xs → x ≡ get_or xs j x → slice_get (cells_from p i xs) j ≡ Some (cell (p (i + j)) x)
nth_cells_from p i [] j x h e = absurd (omega arith)
nth_cells_from p i (y ∷ ys) zero x h e = rw (add-zero, e)
nth_cells_from p i (y ∷ ys) (suc j) x h e =
    let l : j < length ys = omega arith in
    nth_cells_from p (i + 1) ys j x l e ∙ ap (λ k. Some (cell (p k) x)) (omega arith)

-- the cell of row j, read with its value
pub nth_cells : {V : Type 0} (p : ℕ → Bool) (b : Bool) (xs : List V) (j : ℕ) (x : V) → j < length xs → x ≡ get_or xs j x → p j ≡ b → slice_get (cells_from p 0 xs) j ≡ Some (cell b x)
nth_cells p b xs j x h e is = nth_cells_from p 0 xs j x h e ∙ rw (zero-add, is)

seen_null_from : {V : Type 0} (p : ℕ → Bool) (i : ℕ) (xs : List V) (j : ℕ) → j < length xs → p (i + j) ≡ false → option_map seen (slice_get (cells_from p i xs) j) ≡ Some None
seen_null_from p i [] j h e = absurd (omega arith)
seen_null_from p i (y ∷ ys) zero h e = let e' : p i ≡ false = rw add-zero at e in rw e'
seen_null_from p i (y ∷ ys) (suc j) h e =
    let l : j < length ys = omega arith in
    let same : i + 1 + j ≡ i + suc j = omega arith in
    seen_null_from p (i + 1) ys j l (ap p same ∙ e)

-- a null is seen as such whatever its figure
pub seen_null : {V : Type 0} (p : ℕ → Bool) (xs : List V) (j : ℕ) → j < length xs → p j ≡ false → option_map seen (slice_get (cells_from p 0 xs) j) ≡ Some None
seen_null p xs j h e = seen_null_from p 0 xs j h (ap p (zero-add j) ∙ e)

nulls_cells_from : {V : Type 0} (p : ℕ → Bool) (i : ℕ) (xs : List V) → nulls (cells_from p i xs) ≡ count_by (λ j. not (p j)) (range_with_len i (length xs))
nulls_cells_from p i [] = refl
nulls_cells_from {V} p i (x ∷ xs) =
    sum_by-cons (λ (c : Cell V). cond (not c.valid) 1 0) (cell (p i) x) (cells_from p (i + 1) xs)
    ∙ ap (λ n. cond (not (p i)) 1 0 + n) (nulls_cells_from p (i + 1) xs)
    ∙ sym (sum_by-cons (λ j. cond (not (p j)) 1 0) i (range_with_len (i + 1) (length xs)))

none_counted : (a n : ℕ) → count_by (λ (j : ℕ). not true) (range_with_len a n) ≡ 0
none_counted a zero = refl
none_counted a (suc n) = none_counted (a + 1) n

-- items that are n in number, as the cells of so many rows
module _ {V : Type 0} (xs : List V) (n : ℕ) (count : length xs ≡ n) where
  pub length_cells : (p : ℕ → Bool) → n ≡ length (cells_from p 0 xs)
  length_cells p = sym (length_cells_from p 0 xs ∙ count)

  pub cells_past : (p : ℕ → Bool) (j : ℕ) → n ≤ j → slice_get (cells_from p 0 xs) j ≡ None
  cells_past p j h = slice_get_past (cells_from p 0 xs) j (omega (arith, length_cells p))

  -- the nulls of a column, counted by row number
  pub nulls_cells : (p : ℕ → Bool) → count_by (λ j. not (p j)) (range_with_len 0 n) ≡ nulls (cells_from p 0 xs)
  nulls_cells p = ap (λ k. count_by (λ j. not (p j)) (range_with_len 0 k)) (sym count) ∙ sym (nulls_cells_from p 0 xs)

-- which rows are null does not depend on what lies in them
pub same_nulls : {V W : Type 0} (p : ℕ → Bool) (xs : List V) (ys : List W) → length xs ≡ length ys → nulls (cells_from p 0 xs) ≡ nulls (cells_from p 0 ys)
same_nulls p xs ys e = nulls_cells_from p 0 xs ∙ ap (λ n. count_by (λ j. not (p j)) (range_with_len 0 n)) e ∙ sym (nulls_cells_from p 0 ys)

-- a row of a column, where it is one of those that there are
module _ {V : Type 0} (p : ℕ → Bool) (xs : List V) (j : ℕ) (within : j < length (cells_from p 0 xs)) where
  pub row_within : j < length xs
  row_within = simp length_cells_from at within

  pub row_valid : (x : V) → x ≡ get_or xs j x → p j ≡ true → Some (Some x) ≡ option_map seen (slice_get (cells_from p 0 xs) j)
  row_valid x read valid = ap (option_map seen) (sym (nth_cells p true xs j x row_within read valid))

  pub row_null : p j ≡ false → Some None ≡ option_map seen (slice_get (cells_from p 0 xs) j)
  row_null null = sym (seen_null p xs j row_within null)

-- without a mask no row is null
pub plain_nulls : {V : Type 0} (mask : Option (List ℕ)) (start : ℕ) (xs : List V) → mask ≡ None → 0 ≡ nulls (column_cells mask start xs)
plain_nulls mask start xs e = rw e (sym (none_counted 0 (length xs)) ∙ sym (nulls_cells_from (valid_at None start) 0 xs))

pub length_unpacked : (bytes : List ℕ) (start n : ℕ) → length (unpacked bytes start n) ≡ n
length_unpacked bytes start n = length-map-range_with_len (λ j. bit_at bytes (start + j)) 0 n

pub unpacked_read : (bytes : List ℕ) (start n j : ℕ) (b d : Bool) → j < n → b ≡ bit_at bytes (start + j) → b ≡ get_or (unpacked bytes start n) j d
unpacked_read bytes start n j b d h e = e ∙ sym (get_or-map-range_with_len (λ k. bit_at bytes (start + k)) 0 n j j d h (zero-add j))

-- one more row in the count of nulls
pub nulls_more : (mask : Option (List ℕ)) (start n : ℕ) (b : Bool) → valid_at mask start n ≡ b → count_by not (map (valid_at mask start) (range_with_len 0 (n + 1))) ≡ count_by not (map (valid_at mask start) (range_with_len 0 n)) + cond (not b) 1 0
nulls_more mask start n b e = sum_by-map-range_with_len_more (λ v. cond (not v) 1 0) (valid_at mask start) 0 n n (zero-add n) ∙ rw e

-- a row of unpacked bits is the bit row of the format
pub bit_row_read : (bytes : List ℕ) (start n j : ℕ) → slice_get (unpacked bytes start n) j ≡ bit_row bytes start n j
bit_row_read bytes start n j = ⊎_elim within past (cases_Bool (ltb j n))
  where
    within : ltb j n ≡ true → slice_get (unpacked bytes start n) j ≡ bit_row bytes start n j
    within t =
        let h : j < n = ltb-true j n t in
        slice_get_read (unpacked bytes start n) n j (bit_at bytes (start + j)) (sym (length_unpacked bytes start n)) h (unpacked_read bytes start n j (bit_at bytes (start + j)) (bit_at bytes (start + j)) h refl)
        ∙ sym (cond-true (ltb j n) (Some (bit_at bytes (start + j))) None t)

    past : ltb j n ≡ false → slice_get (unpacked bytes start n) j ≡ bit_row bytes start n j
    past f =
        let l : n ≤ j = ltb-false j n f in
        slice_get_past (unpacked bytes start n) j (omega (arith, l, length_unpacked bytes start n))
        ∙ sym (cond-false (ltb j n) (Some (bit_at bytes (start + j))) None f)
