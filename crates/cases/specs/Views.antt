-- Worked cases of views and buffers.
use Rattle.std.specs.Prelude.{◌≡◌, ℕ, ◌-◌, ◌^◌, true, false, [], ◌∷◌, pos, negsuc, Some, None}
use Rattle.columnar.specs.declared.refusal.Refusal.TheVariants.{BitsOutOfBytes, MaskLength, Offsets}
use Rattle.columnar.specs.Packed.{bit_row, packed}
use Rattle.columnar.specs.Cells.{Column, cell, passes}
use Rattle.columnar.specs.Rows.{column_cells, boolean_cells, ticks_of}
use Rattle.columnar.specs.Lists.{list_row, list_cells}
use Rattle.columnar.specs.Refusals.{number_of, bits_refusal, lengths_refusal, offsets_refusal}
use Rattle.buffers.specs.Memory.{Laid, stored, stored_mask, stored_values, stored_packed, held_values, held_packed}

pub record ViewCases : Type 0 where
  -- a mask that starts within a byte, one that goes on in the next byte, and none
  pub mask_from_bit_two : column_cells {V = ℕ} (Some (20 ∷ [])) 2 (7 ∷ 8 ∷ 9 ∷ []) ≡ cell true 7 ∷ cell false 8 ∷ cell true 9 ∷ []
  pub mask_over_two_bytes : column_cells {V = ℕ} (Some (128 ∷ 1 ∷ [])) 7 (1 ∷ 2 ∷ 3 ∷ []) ≡ cell true 1 ∷ cell true 2 ∷ cell false 3 ∷ []
  pub no_mask : column_cells {V = ℕ} None 0 (7 ∷ 8 ∷ []) ≡ cell true 7 ∷ cell true 8 ∷ []
  -- packed booleans and their mask, each with a start of its own
  pub booleans_by_two_starts : boolean_cells (24 ∷ []) 3 (Some (10 ∷ [])) 1 3 ≡ cell true true ∷ cell false true ∷ cell true false ∷ []
  -- a filter that is given, with a null over a set bit, and one that is not
  pub filter_rows : ticks_of (Some (24 ∷ [])) 3 (Some (10 ∷ [])) 1 3 ≡ Some (cell true true ∷ cell false true ∷ cell true false ∷ [])
  pub filter_lets_through : passes (ticks_of (Some (24 ∷ [])) 3 (Some (10 ∷ [])) 1 3) 3 ≡ true ∷ false ∷ false ∷ []
  pub filter_without_mask : passes (ticks_of (Some (24 ∷ [])) 3 None 0 3) 3 ≡ true ∷ true ∷ false ∷ []
  pub filter_not_given : passes (ticks_of None 3 (Some (10 ∷ [])) 1 3) 2 ≡ true ∷ true ∷ []
  pub filter_as_mask : packed (passes (ticks_of (Some (24 ∷ [])) 3 (Some (10 ∷ [])) 1 3) 3) ≡ 1 ∷ []
  -- rows past the end are absent
  pub last_bit : bit_row (5 ∷ []) 0 3 2 ≡ Some true
  pub bit_past_the_end : bit_row (5 ∷ []) 0 3 3 ≡ None
  pub last_list : list_row {V = ℕ} (pos 0 ∷ pos 2 ∷ pos 2 ∷ pos 3 ∷ []) (7 ∷ 8 ∷ 9 ∷ []) 2 ≡ Some (9 ∷ [])
  pub list_past_the_end : list_row {V = ℕ} (pos 0 ∷ pos 2 ∷ pos 2 ∷ pos 3 ∷ []) (7 ∷ 8 ∷ 9 ∷ []) 3 ≡ None
  -- a first offset that is not 0
  pub lists_from_offset_two : list_cells {V = ℕ} (pos 2 ∷ pos 4 ∷ pos 4 ∷ pos 5 ∷ []) (1 ∷ 2 ∷ 3 ∷ 4 ∷ 5 ∷ 6 ∷ []) ≡ cell true (3 ∷ 4 ∷ []) ∷ cell true [] ∷ cell true (5 ∷ []) ∷ []
  pub offsets_from_two : offsets_refusal (pos 2 ∷ pos 4 ∷ pos 4 ∷ pos 5 ∷ []) 6 ≡ None
  -- offsets at their boundaries
  pub no_offset : offsets_refusal [] 3 ≡ Some Offsets
  pub one_offset : offsets_refusal (pos 0 ∷ []) 0 ≡ None
  pub negative_offset : offsets_refusal (negsuc 0 ∷ pos 1 ∷ []) 3 ≡ Some Offsets
  pub last_at_the_end : offsets_refusal (pos 0 ∷ pos 3 ∷ []) 3 ≡ None
  pub last_past_the_end : offsets_refusal (pos 0 ∷ pos 4 ∷ []) 3 ≡ Some Offsets
  -- masks of another length, and bits whose end passes the machine word
  pub equal_lengths : lengths_refusal 3 3 ≡ None
  pub shorter_mask : lengths_refusal 2 3 ≡ Some MaskLength
  pub longer_mask : lengths_refusal 4 3 ≡ Some MaskLength
  pub lengths_number : number_of MaskLength ≡ 2
  pub end_past_the_word : bits_refusal 1 (2 ^ 64 - 1) 2 ≡ Some BitsOutOfBytes

abbrev lent : Laid ℕ
lent = record { figures = 9 ∷ 9 ∷ 9 ∷ []; bits = 255 ∷ 255 ∷ []; rows = 0; masked = false }

abbrev masked_column : Column ℕ
masked_column = record { mask = Some (true ∷ false ∷ []); figures = 4 ∷ 0 ∷ [] }

abbrev plain_column : Column ℕ
plain_column = record { mask = None; figures = 4 ∷ 5 ∷ [] }

pub record BufferCases : Type 0 where
  -- places past an answer are untouched, and so is the mask where none is handed out
  pub laid_with_a_mask : stored stored_mask stored_values masked_column lent ≡ record { figures = 4 ∷ 0 ∷ 9 ∷ []; bits = 1 ∷ 255 ∷ []; rows = 2; masked = true }
  pub laid_without_a_mask : stored stored_mask stored_values plain_column lent ≡ record { figures = 4 ∷ 5 ∷ 9 ∷ []; bits = 255 ∷ 255 ∷ []; rows = 2; masked = false }
  pub held_again : held_values (stored stored_mask stored_values masked_column lent) ≡ masked_column
  -- zeros after the last row in the last byte
  pub nine_bits : packed (true ∷ true ∷ true ∷ true ∷ true ∷ true ∷ true ∷ true ∷ true ∷ []) ≡ 255 ∷ 1 ∷ []
  pub packed_values : stored stored_mask stored_packed (record { mask = None; figures = false ∷ true ∷ true ∷ [] }) lent ≡ record { figures = 6 ∷ 9 ∷ 9 ∷ []; bits = 255 ∷ 255 ∷ []; rows = 3; masked = false }
  pub packed_held_again : held_packed (stored stored_mask stored_packed (record { mask = None; figures = false ∷ true ∷ true ∷ [] }) lent) ≡ record { mask = None; figures = false ∷ true ∷ true ∷ [] }
