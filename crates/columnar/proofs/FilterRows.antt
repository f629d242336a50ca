-- A filter that is given, by row number.
use Rattle.std.proofs.Common.{◌≡◌, ℕ, ◌+◌, ◌<◌, ◌≤◌, Bool, true, ◌&&◌, List, length, Some, None, Option, is_some, unwrap_or, sym, refl, ap, ◌∙◌, arith}
use Rattle.std.specs.Bool.{then_some}
use Rattle.std.specs.List.{slice_get}
use Rattle.std.specs.Option.{option_map}
use Rattle.columnar.specs.Cells.{Cell}
use Rattle.columnar.specs.Packed.{bit_at, unpacked}
use Rattle.columnar.specs.Rows.{valid_at, ticks_of}
use Rattle.columnar.proofs.CellRows.{length_cells, cells_past, nth_cells, length_unpacked, unpacked_read}

module _ (o : Option (List ℕ)) (bytes : List ℕ) (start : ℕ) (mask : Option (List ℕ)) (from n : ℕ) (given : o ≡ Some bytes) where
  pub tick_past : (j : ℕ) → n ≤ j → None ≡ unwrap_or (option_map (λ ts. option_map (λ (t : Cell Bool). t.valid && t.figure) (slice_get ts j)) (ticks_of o start mask from n)) (Some true)
  tick_past j h = rw given (ap (option_map (λ (t : Cell Bool). t.valid && t.figure)) (sym (cells_past (unpacked bytes start n) n (length_unpacked bytes start n) (valid_at mask from) j h)))

  pub tick_is : (j : ℕ) (b : Bool) → j < n → b ≡ (valid_at mask from j && bit_at bytes (start + j)) → Some b ≡ unwrap_or (option_map (λ ts. option_map (λ (t : Cell Bool). t.valid && t.figure) (slice_get ts j)) (ticks_of o start mask from n)) (Some true)
  tick_is j b h is =
      rw given (ap Some is ∙ ap (option_map (λ (t : Cell Bool). t.valid && t.figure)) (sym (nth_cells (valid_at mask from) _ (unpacked bytes start n) j _ (omega (arith, length_unpacked bytes start n)) (unpacked_read bytes start n j _ _ h refl) refl)))

pub tick_count : (o : Option (List ℕ)) (start : ℕ) (mask : Option (List ℕ)) (from n : ℕ) → then_some (is_some (ticks_of o start mask from n)) n ≡ option_map length (ticks_of o start mask from n)
tick_count None start mask from n = refl
tick_count (Some bytes) start mask from n = ap Some (length_cells (unpacked bytes start n) n (length_unpacked bytes start n) (valid_at mask from))
