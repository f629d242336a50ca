-- The rows of a view over buffers are those of the column that the buffers hold.
use Rattle.std.proofs.Common.{◌≡◌, ℕ, ◌+◌, ◌*◌, ◌≤◌, Bool, true, false, cond, not, ◌&&◌, ◌||◌, eqb, ltb, List, [], ◌∷◌, map, length, is_ok, Some, None, Ok, Err, Result, sym, refl, ap, ◌∙◌, arith}
use Rattle.std.specs.List.{range_with_len}
use Rattle.std.specs.Result.{result_err}
use Rattle.std.proofs.lemmas.Bool.{cond_both, cond-false, le-ltb, ltb-false, eq-eqb, or_parts}
use Rattle.columnar.specs.Packed.{bit_at, unpacked}
use Rattle.columnar.specs.Cells.{Cell, cell, cells, masked_cells}
use Rattle.columnar.specs.Rows.{cells_from, column_cells}
use Rattle.buffers.specs.Memory.{readable}

-- values without a mask, and under one
pub cells_plain : {X : Type 0} (i : ℕ) (xs : List X) → cells_from (λ j. true) i xs ≡ map (cell true) xs
cells_plain i [] = refl
cells_plain i (x ∷ xs) = ap (λ cs. cell true x ∷ cs) (cells_plain (i + 1) xs)

pub cells_masked : {X : Type 0} (p : ℕ → Bool) (i : ℕ) (xs : List X) → cells_from p i xs ≡ masked_cells (map p (range_with_len i (length xs))) xs
cells_masked p i [] = refl
cells_masked p i (x ∷ xs) = ap (λ cs. cell (p i) x ∷ cs) (cells_masked p (i + 1) xs)

-- as the column that is held has them
abbrev pub held_as : {X : Type 0} → Bool → List ℕ → ℕ → List X → List (Cell X)
held_as masked bits n xs = cells (record { mask = cond masked (Some (unpacked bits 0 n)) None; figures = xs })

pub held_plain : {X : Type 0} (masked : Bool) (bits : List ℕ) (n : ℕ) (xs : List X) → masked ≡ false → column_cells None 0 xs ≡ held_as masked bits n xs
held_plain masked bits n xs off = cells_plain 0 xs ∙ ap (λ b. held_as b bits n xs) (sym off)

pub held_masked : {X : Type 0} (masked : Bool) (bits : List ℕ) (n : ℕ) (xs : List X) → masked ≡ true → length xs ≡ n → column_cells (Some bits) 0 xs ≡ held_as masked bits n xs
held_masked masked bits n xs on long =
    cells_masked (λ j. bit_at bits (0 + j)) 0 xs ∙ ap (λ k. masked_cells (unpacked bits 0 k) xs) long ∙ ap (λ b. held_as b bits n xs) (sym on)

pub none_refused : {A E : Type 0} (r : Result A E) → result_err r ≡ None → is_ok r ≡ true
none_refused (Ok a) none = refl
none_refused (Err e) none = cc

-- a view over as many rows as can be read
pub mask_made : {A E : Type 0} (r : Result A E) (e : E) (bytes n len start : ℕ) → n ≤ 8 * bytes → result_err r ≡ cond (ltb (8 * bytes) (0 + n)) (Some e) None → len ≡ cond (is_ok r) n 0 → start ≡ cond (is_ok r) 0 0
    → (len ≡ n) × (start ≡ 0)
mask_made r e bytes n len start fits err long from =
    let made : is_ok r ≡ true = none_refused r (err ∙ cond-false (ltb (8 * bytes) (0 + n)) (Some e) None (le-ltb (8 * bytes) (0 + n) (omega arith))) in
    (long ∙ ap (λ b. cond b n 0) made, from ∙ ap (λ b. cond b 0 0) made)

pub column_made : {A E C : Type 0} (r : Result A E) (e : E) (m n : ℕ) (cs shown none : C) → m ≡ n → result_err r ≡ cond (not (eqb m n)) (Some e) None → shown ≡ cond (is_ok r) cs none → shown ≡ cs
column_made r e m n cs shown none same err shows =
    let even : not (eqb m n) ≡ false = ap not (eq-eqb m n same) in
    let made : is_ok r ≡ true = none_refused r (err ∙ cond-false (not (eqb m n)) (Some e) None even) in
    shows ∙ ap (λ b. cond b cs none) made

pub readable_within : (places bytes : ℕ) (masked : Bool) (rows n : ℕ) → n ≡ readable places bytes masked rows → n ≤ places
readable_within places bytes masked rows n is = cond_both (ltb places rows || (masked && ltb (8 * bytes) rows)) 0 rows (λ k. n ≡ k → n ≤ places)
    (λ lacks none. omega arith)
    (λ has all. omega (arith, ltb-false places rows (or_parts (ltb places rows) (masked && ltb (8 * bytes) rows) has).0))
    is

pub readable_masked : (places bytes : ℕ) (masked : Bool) (rows n : ℕ) → masked ≡ true → n ≡ readable places bytes masked rows → n ≤ 8 * bytes
readable_masked places bytes masked rows n on is = cond_both (ltb places rows || (masked && ltb (8 * bytes) rows)) 0 rows (λ k. n ≡ k → n ≤ 8 * bytes)
    (λ lacks none. omega arith)
    (λ has all. omega (arith, ltb-false (8 * bytes) rows (ap (λ b. b && ltb (8 * bytes) rows) (sym on) ∙ (or_parts (ltb places rows) (masked && ltb (8 * bytes) rows) has).1)))
    is
