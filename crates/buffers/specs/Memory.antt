-- Answer buffers: the memory that a caller lends for an answer, and what an answer leaves in it.
--
--     Laid F           what lies in the buffers: places for figures and for mask bytes, and how many rows the last
--                      answer had and whether it had a mask
--     Room             how many places there are: for figures, mask bytes and list items
--     Layout X         how many places the figures of n rows take, and how many list items a row has; flat_layout: no
--                      list items
--     front xs ys      xs over the first places of ys; the places past them are untouched
--     stored_mask      a mask written, if there is one; stored_slots: figures written as a packing has them in slots;
--                      stored_values: as values; stored_packed: as packed booleans; stored: a whole column, first its
--                      mask and then its figures
--     held_items       the column that lies in such buffers; held_values, held_packed
--     readable         how many rows can be read back: none where one would lack its figure or, under a mask, its bit
--     readable_items   the column that can be read back of such buffers; readable_values, readable_packed
--     short l r c      whether a column finds too few places
--     flat_column      the column of the first n of values, with the marks of these rows as their mask or without one
--     Shaped c n b     a column of n rows, with a mask of as many rows or without one
use Rattle.std.specs.Prelude.{◌≡◌, ℕ, ◌*◌, ◌<◌, Bool, cond, ◌&&◌, ◌||◌, List, ◌++◌, length, take, drop, is_some, Some, None, sum_by, Option, nat_lt, slice_index_or}
use Rattle.std.specs.Option.{option_map}
use Rattle.columnar.specs.Packed.{bytes_for, packed, unpacked}
use Rattle.columnar.specs.Cells.{Column}

pub record Laid (F : Type 0) : Type 0 where
  pub figures : List F
  pub bits : List ℕ
  pub rows : ℕ
  pub masked : Bool

pub record Room : Type 0 where
  pub figures : ℕ
  pub mask : ℕ
  pub items : ℕ

pub record Layout (X : Type 0) : Type 0 where
  pub places : ℕ → ℕ
  pub items : X → ℕ

-- so many places for so many rows
abbrev pub flat_layout : {X : Type 0} → (ℕ → ℕ) → Layout X
flat_layout places = record { places = places; items = λ x. 0 }

-- one place for each row
abbrev pub values_layout : {X : Type 0} → Layout X
values_layout = record { places = λ n. n; items = λ x. 0 }

-- one byte for each eight rows begun
abbrev pub packed_layout : Layout Bool
packed_layout = record { places = bytes_for; items = λ b. 0 }

abbrev pub front : {X : Type 0} → List X → List X → List X
front xs ys = xs ++ drop (length xs) ys

-- each item that is made of its number is that of the list
abbrev pub Makes : {X : Type 0} → (ℕ → X → Type 0) → List X → Type 0
Makes {X} post xs = (j : ℕ) (x : X) → j < length xs → post j x → x ≡ slice_index_or xs j x

-- the mask bytes after an answer: as they were where it has no mask
abbrev pub mask_after : Option (List Bool) → List ℕ → List ℕ
mask_after None old = old
mask_after (Some bits) old = front (packed bits) old

-- a mask laid down, and then figures, as their packing has them in slots: as values, or as packed booleans
abbrev pub stored_mask : {F : Type 0} → Option (List Bool) → Laid F → Laid F
stored_mask mask m = record { figures = m.figures; bits = mask_after mask m.bits; rows = m.rows; masked = is_some mask }

abbrev pub stored_slots : {X F : Type 0} → (List X → List F) → List X → Laid F → Laid F
stored_slots slots xs m = record { figures = front (slots xs) m.figures; bits = m.bits; rows = length xs; masked = m.masked }

abbrev pub stored_values : {X : Type 0} → List X → Laid X → Laid X
stored_values xs m = record { figures = front xs m.figures; bits = m.bits; rows = length xs; masked = m.masked }

abbrev pub stored_packed : List Bool → Laid ℕ → Laid ℕ
stored_packed bs m = record { figures = front (packed bs) m.figures; bits = m.bits; rows = length bs; masked = m.masked }

-- a whole column laid down, by the two steps of its buffers
abbrev pub stored : {X M : Type 0} → (Option (List Bool) → M → M) → (List X → M → M) → Column X → M → M
stored masks figures c m = figures c.figures (masks c.mask m)

abbrev pub held_mask : {F : Type 0} → Laid F → Option (List Bool)
held_mask m = cond m.masked (Some (unpacked m.bits 0 m.rows)) None

-- the column of the items that lie in the slots
abbrev pub held_items : {X F : Type 0} → (List F → ℕ → ℕ → List X) → Laid F → Column X
held_items items m = record { mask = held_mask m; figures = items m.figures 0 m.rows }

abbrev pub held_values : {X : Type 0} → Laid X → Column X
held_values m = record { mask = held_mask m; figures = take m.rows m.figures }

abbrev pub held_packed : Laid ℕ → Column Bool
held_packed m = record { mask = held_mask m; figures = unpacked m.figures 0 m.rows }

-- of `rows` rows, where so many rows have a figure
abbrev pub readable : ℕ → ℕ → Bool → ℕ → ℕ
readable places bytes masked rows = cond (nat_lt places rows || (masked && nat_lt (8 * bytes) rows)) 0 rows

abbrev pub readable_items : {X F : Type 0} → (ℕ → ℕ) → (List F → ℕ → ℕ → List X) → Laid F → Column X
readable_items holds items m = held_items items (record m { rows = readable (holds (length m.figures)) (length m.bits) m.masked m.rows })

abbrev pub readable_values : {X : Type 0} → Laid X → Column X
readable_values m = held_values (record m { rows = readable (length m.figures) (length m.bits) m.masked m.rows })

abbrev pub readable_packed : Laid ℕ → Column Bool
readable_packed m = held_packed (record m { rows = readable (8 * length m.figures) (length m.bits) m.masked m.rows })

abbrev pub room_of : {F : Type 0} → Laid F → Room
room_of m = record { figures = length m.figures; mask = length m.bits; items = 0 }

-- mask bytes that a column needs: none without a mask
abbrev pub mask_bytes : Option (List Bool) → ℕ
mask_bytes None = 0
mask_bytes (Some bits) = bytes_for (length bits)

abbrev pub short : {X : Type 0} → Layout X → Room → Column X → Bool
short l room c =
    nat_lt room.figures (l.places (length c.figures)) || (nat_lt room.mask (mask_bytes c.mask) || nat_lt room.items (sum_by l.items c.figures))

-- the first n of values, with the marks of these rows as their mask or without one
abbrev pub flat_column : {X : Type 0} → List X → List Bool → ℕ → Bool → Column X
flat_column xs marks n masked = record { mask = cond masked (Some (take n marks)) None; figures = take n xs }

pub record Shaped {X : Type 0} (c : Column X) (n : ℕ) (masked : Bool) : Type 0 where
  pub figures_are : length c.figures ≡ n
  pub mask_is : option_map length c.mask ≡ cond masked (Some n) None
