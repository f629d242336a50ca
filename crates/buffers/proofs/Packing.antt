-- Packing: a byte made bit by bit, how it grows and that it stays a byte, and the bytes of a list of bits.
use Rattle.std.proofs.Common.{◌≡◌, ℕ, zero, suc, ◌+◌, ◌-◌, ◌*◌, ◌%◌, ◌^◌, ◌<◌, ◌≤◌, Bool, true, false, cond, List, length, get_or, sum_by, sym, ap, ◌∙◌, ⊎_elim, add-zero, pow-suc, zero-add, add-one, arith, pow_mono}
use Rattle.std.specs.List.{range_with_len}
use Rattle.std.proofs.lemmas.List.{map-id, get_or_past}
use Rattle.std.proofs.lemmas.Nat.{one_shl}
use Rattle.std.proofs.lemmas.List.FromFn.{sum_by-map-range_with_len_more, length-map-range_with_len, get_or-map-range_with_len}
use Rattle.std.proofs.lemmas.Bool.{cases_lt}
use Rattle.columnar.specs.Packed.{bytes_for, byte_up_to, byte_at, packed}

pub up_to_more : (bits : List Bool) (k m : ℕ) → byte_up_to bits k (m + 1) ≡ byte_up_to bits k m + cond (get_or bits (8 * k + m) false) (2 ^ m) 0
up_to_more bits k m =
    let f : ℕ → ℕ = λ i. cond (get_or bits (8 * k + i) false) (2 ^ i) 0 in
    ap (sum_by f) (sym (map-id (range_with_len 0 (m + 1))))
    ∙ sum_by-map-range_with_len_more f (λ i. i) 0 m m (zero-add m)
    ∙ ap (λ xs. sum_by f xs + f m) (map-id (range_with_len 0 m))

pub up_to_yes : (bits : List Bool) (k m : ℕ) → get_or bits (8 * k + m) false ≡ true → byte_up_to bits k (m + 1) ≡ byte_up_to bits k m + 2 ^ m
up_to_yes bits k m e = up_to_more bits k m ∙ ap (λ b. byte_up_to bits k m + cond b (2 ^ m) 0) e

pub up_to_no : (bits : List Bool) (k m : ℕ) → get_or bits (8 * k + m) false ≡ false → byte_up_to bits k (m + 1) ≡ byte_up_to bits k m
up_to_no bits k m e = up_to_more bits k m ∙ ap (λ b. byte_up_to bits k m + cond b (2 ^ m) 0) e ∙ add-zero (byte_up_to bits k m)

cond_le : (b : Bool) (n : ℕ) → cond b n 0 ≤ n
cond_le true n = omega arith
cond_le false n = omega arith

pub up_to_lt : (bits : List Bool) (k m : ℕ) → byte_up_to bits k m < 2 ^ m
up_to_lt bits k zero = omega arith
up_to_lt bits k (suc m) =
    let more : byte_up_to bits k (suc m) ≡ byte_up_to bits k m + cond (get_or bits (8 * k + m) false) (2 ^ m) 0 = rw add-one at (up_to_more bits k m) in
    omega (arith, more, up_to_lt bits k m, cond_le (get_or bits (8 * k + m) false) (2 ^ m), pow-suc 2 m)

-- past the last bit there is nothing to add
pub up_to_past : (bits : List Bool) (k m d : ℕ) → length bits ≤ 8 * k + m → byte_up_to bits k (m + d) ≡ byte_up_to bits k m
up_to_past bits k m zero h = ap (byte_up_to bits k) (add-zero m)
up_to_past bits k m (suc d) h =
    let same : m + suc d ≡ (m + d) + 1 = omega arith in
    ap (byte_up_to bits k) same
    ∙ up_to_no bits k (m + d) (get_or_past bits (8 * k + (m + d)) false (omega arith))
    ∙ up_to_past bits k m d h

-- the loop over a byte's bits
module _ (bits : List Bool) (k i byte : ℕ) (inv : byte ≡ byte_up_to bits k i) where
  pub byte_fits : i < 8 → byte + 1 * 2 ^ i % 256 < 256
  byte_fits h =
      let shift : 1 * 2 ^ i % 256 ≡ 2 ^ i = one_shl i 8 h in
      let next : 2 ^ suc i ≤ 2 ^ 8 = pow_mono {i = suc i} {j = 8} (omega arith) in
      omega (arith, up_to_lt bits k i, pow-suc 2 i)

  pub byte_yes : i < 8 → get_or bits (8 * k + i) false ≡ true → byte + 1 * 2 ^ i % 256 ≡ byte_up_to bits k (i + 1)
  byte_yes h is = let shift : 1 * 2 ^ i % 256 ≡ 2 ^ i = one_shl i 8 h in omega (arith, up_to_yes bits k i is)

  pub byte_no : get_or bits (8 * k + i) false ≡ false → byte ≡ byte_up_to bits k (i + 1)
  byte_no is = inv ∙ sym (up_to_no bits k i is)

  pub byte_all : i ≤ 8 → (i < 8 → length bits ≤ 8 * k + i) → byte ≡ byte_at bits k
  byte_all l last =
      ⊎_elim
      (λ below.
      let whole : i + (8 - i) ≡ 8 = omega arith in
      inv ∙ sym (up_to_past bits k i (8 - i) (last below)) ∙ ap (byte_up_to bits k) whole)
      (λ above. let whole : i ≡ 8 = omega arith in inv ∙ ap (byte_up_to bits k) whole)
      (cases_lt i 8)

-- the loop over the bytes of n bits
pub length_packed : (bits : List Bool) (n : ℕ) → length bits ≡ n → length (packed bits) ≡ bytes_for n
length_packed bits n e = length-map-range_with_len (byte_at bits) 0 (bytes_for (length bits)) ∙ ap bytes_for e

pub get_d_packed : (bits : List Bool) (n k d : ℕ) → length bits ≡ n → k < bytes_for n → get_or (packed bits) k d ≡ byte_at bits k
get_d_packed bits n k d e h = get_or-map-range_with_len (byte_at bits) 0 (bytes_for (length bits)) k k d (rw e h) (zero-add k)

pub packed_makes : (bits : List Bool) (n j x : ℕ) → length bits ≡ n → j < length (packed bits) → x ≡ byte_at bits j → x ≡ get_or (packed bits) j x
packed_makes bits n j x e h is = is ∙ sym (get_d_packed bits n j x e (omega (arith, length_packed bits n e)))
