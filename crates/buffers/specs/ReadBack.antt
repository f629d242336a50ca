-- What is written reads back.
--
--     PackedReadsBack bits   packed bits unpack to themselves; they take one byte for each eight begun, each below
--                            256, with zeros after the last bit
--     MaskFits mask n        a mask, if there is one, is of n rows
--     SameWords X            values and packed booleans, laid down and read by their packing, are just those of the words
--                            for either
--     LaidAs .. l s h r      what buffers have as their layout, and as what is stored, held and readable in them, is l, s, h
--                            and r
--     WrittenReadsBack X     the first of all bits; and of columns of values and of booleans: whatever lay in the
--                            buffers, the column that is laid down is the column held, and the one that can be
--                            read; and these words are those of the packings
use Rattle.std.specs.Prelude.{◌≡◌, ℕ, ◌*◌, ◌<◌, ◌≤◌, Bool, false, List, length, take, drop, Some, None, Option, slice_index}
use Rattle.columnar.specs.Packed.{bit_at, unpacked, bytes_for, packed}
use Rattle.columnar.specs.Cells.{Column}
use Rattle.buffers.specs.Memory.{Laid, Layout, stored, stored_mask, stored_slots, stored_values, stored_packed, held_items, held_values, held_packed, readable_items, readable_values, readable_packed}

pub record PackedReadsBack (bits : List Bool) : Type 0 where
  pub back : unpacked (packed bits) 0 (length bits) ≡ bits
  pub count : length (packed bits) ≡ bytes_for (length bits)
  pub bytes : (k : ℕ) → slice_index (packed bits) k < 256
  pub zeros : (k : ℕ) → length bits ≤ k → bit_at (packed bits) k ≡ false

abbrev pub MaskFits : Option (List Bool) → ℕ → Type 0
MaskFits None n = Unit {0}
MaskFits (Some bits) n = length bits ≡ n

pub record SameWords (X : Type 0) : Type 0 where
  pub values_stored : (xs : List X) (m : Laid X) → stored_slots (λ ys. ys) xs m ≡ stored_values xs m
  pub values_held : (m : Laid X) → held_items (λ xs start n. take n (drop start xs)) m ≡ held_values m
  pub values_read : (m : Laid X) → readable_items (λ n. n) (λ xs start n. take n (drop start xs)) m ≡ readable_values m
  pub booleans_stored : (bs : List Bool) (m : Laid ℕ) → stored_slots packed bs m ≡ stored_packed bs m
  pub booleans_held : (m : Laid ℕ) → held_items unpacked m ≡ held_packed m
  pub booleans_read : (m : Laid ℕ) → readable_items (λ n. 8 * n) unpacked m ≡ readable_packed m

pub record WrittenReadsBack (X : Type 0) : Type 0 where
  pub packs : (bits : List Bool) → PackedReadsBack bits
  pub values : (c : Column X) (m : Laid X) → MaskFits c.mask (length c.figures) → held_values (stored stored_mask stored_values c m) ≡ c
  pub booleans : (c : Column Bool) (m : Laid ℕ) → MaskFits c.mask (length c.figures) → held_packed (stored stored_mask stored_packed c m) ≡ c
  pub values_readable : (c : Column X) (m : Laid X) → MaskFits c.mask (length c.figures) → readable_values (stored stored_mask stored_values c m) ≡ c
  pub booleans_readable : (c : Column Bool) (m : Laid ℕ) → MaskFits c.mask (length c.figures) → readable_packed (stored stored_mask stored_packed c m) ≡ c
  pub words : SameWords X

pub record LaidAs {X F : Type 0} (layout : Layout X) (store : List X → Laid F → Laid F) (hold read : Laid F → Column X) (l : Layout X) (s : List X → Laid F → Laid F) (h r : Laid F → Column X) : Type 0 where
  pub room : layout ≡ l
  pub stores : (xs : List X) (m : Laid F) → store xs m ≡ s xs m
  pub holds : (m : Laid F) → hold m ≡ h m
  pub reads : (m : Laid F) → read m ≡ r m
