-- Whether a column of one figure a row finds its places.
use Rattle.std.proofs.Common.{◌≡◌, ℕ, ◌≤◌, Bool, true, false, cond, ◌||◌, ltb, List, [], ◌∷◌, length, Some, None, sum_by, Option, sym, refl, ap, ◌∙◌, arith}
use Rattle.std.specs.Option.{option_map}
use Rattle.std.proofs.lemmas.Bool.{le-ltb, or_parts, ltb-false}
use Rattle.std.proofs.lemmas.List.{length-take-le}
use Rattle.columnar.specs.Packed.{bytes_for}
use Rattle.columnar.specs.Cells.{Column}
use Rattle.buffers.specs.Memory.{Room, Shaped, short, mask_bytes, flat_column}

no_items : {X : Type 0} (xs : List X) → sum_by (λ x. 0) xs ≡ 0
no_items [] = refl
no_items (x ∷ xs) = no_items xs

or_false : (a b : Bool) → (a || (b || false)) ≡ (a || b)
or_false true b = refl
or_false false true = refl
or_false false false = refl

mask_bytes_are : (mask : Option (List Bool)) (n : ℕ) (masked : Bool) → option_map length mask ≡ cond masked (Some n) None → mask_bytes mask ≡ cond masked (bytes_for n) 0
mask_bytes_are None n true e = let z : ◌≡◌ {A = ℕ} 0 1 = cc in absurd (omega arith)
mask_bytes_are None n false e = refl
mask_bytes_are (Some bs) n true e = let s : length bs ≡ n = cc in ap bytes_for s
mask_bytes_are (Some bs) n false e = let z : ◌≡◌ {A = ℕ} 0 1 = cc in absurd (omega arith)

pub short_is : {X : Type 0} (places : ℕ → ℕ) (room : Room) (c : Column X) (n : ℕ) (masked : Bool) → Shaped c n masked → short (record { places = places; items = λ x. 0 }) room c ≡ (ltb room.figures (places n) || ltb room.mask (cond masked (bytes_for n) 0))
short_is places room c n masked s =
    let none : ltb room.items (sum_by (λ x. 0) c.figures) ≡ false = ap (ltb room.items) (no_items c.figures) ∙ le-ltb room.items 0 (omega arith) in
    ap (λ k. ltb room.figures (places k) || (ltb room.mask (mask_bytes c.mask) || ltb room.items (sum_by (λ x. 0) c.figures))) s.figures_are
    ∙ ap (λ k. ltb room.figures (places n) || (ltb room.mask k || ltb room.items (sum_by (λ x. 0) c.figures))) (mask_bytes_are c.mask n masked s.mask_is)
    ∙ ap (λ b. ltb room.figures (places n) || (ltb room.mask (cond masked (bytes_for n) 0) || b)) none
    ∙ or_false (ltb room.figures (places n)) (ltb room.mask (cond masked (bytes_for n) 0))

pub flat_shaped : {X : Type 0} (xs : List X) (marks : List Bool) (n : ℕ) (masked : Bool) → n ≤ length xs → n ≤ length marks → Shaped (flat_column xs marks n masked) n masked
flat_shaped xs marks n true h l = record { figures_are = length-take-le n xs h; mask_is = ap Some (length-take-le n marks l) }
flat_shaped xs marks n false h l = record { figures_are = length-take-le n xs h; mask_is = refl }

pub record Roomy (figures places bits bytes : ℕ) : Type 0 where
  pub for_figures : places ≤ figures
  pub for_mask : bytes ≤ bits

-- what a column that is not short has
pub roomy : {X : Type 0} (places : ℕ → ℕ) (room : Room) (xs : List X) (marks : List Bool) (n : ℕ) (masked : Bool) → n ≤ length xs → n ≤ length marks
    → short (record { places = places; items = λ x. 0 }) room (flat_column xs marks n masked) ≡ false → Roomy room.figures (places n) room.mask (cond masked (bytes_for n) 0)
roomy places room xs marks n masked h l e =
    let parts = or_parts (ltb room.figures (places n)) (ltb room.mask (cond masked (bytes_for n) 0)) (sym (short_is places room (flat_column xs marks n masked) n masked (flat_shaped xs marks n masked h l)) ∙ e) in
    record { for_figures = ltb-false room.figures (places n) parts.0; for_mask = ltb-false room.mask (cond masked (bytes_for n) 0) parts.1 }
