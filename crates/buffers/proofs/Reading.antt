-- What is packed reads back, and so does a column laid down in buffers.
use Rattle.std.proofs.Common.{◌≡◌, ℕ, zero, suc, ◌+◌, ◌-◌, ◌*◌, ◌/◌, ◌%◌, ◌^◌, ◌<◌, ◌≤◌, Bool, true, false, cond, ◌&&◌, eqb, ltb, List, [], ◌++◌, length, get_or, take, drop, is_some, Some, None, Option, sym, refl, ap, ◌∙◌, ⊎_elim, mul_assoc, mul_comm, pow-suc, zero-add, add-one, arith, pow_pos, pow-add}
use native.Mathlib.Nat.{add-mul-div_right, add-mul-mod_self_right, zero-div}
use lib.Pow.{high}
use Rattle.std.proofs.lemmas.List.{get_or_past, get_or_append_left, take_at, append-nil, drop_all, length-append}
use Rattle.std.proofs.lemmas.List.FromFn.{fill_by_all}
use Rattle.std.proofs.lemmas.Bool.{cases_lt, le-ltb, or_from}
use Rattle.columnar.specs.Packed.{bit_at, unpacked, bytes_for, byte_up_to, packed}
use Rattle.columnar.specs.Cells.{Column}
use Rattle.buffers.specs.Memory.{Laid, front, mask_after, stored, stored_mask, stored_values, stored_packed, readable, held_values, held_packed, readable_values, readable_packed}
use Rattle.buffers.specs.ReadBack.{PackedReadsBack, MaskFits}
use Rattle.buffers.proofs.Packing.{up_to_more, up_to_lt, length_packed, get_d_packed}

weight : (b : Bool) (n : ℕ) → cond b n 0 ≡ cond b 1 0 * n
weight true n = omega arith
weight false n = omega arith

bit_back : (b : Bool) → eqb (cond b 1 0 % 2) 1 ≡ b
bit_back true = refl
bit_back false = refl

-- the last bit that was added
bit_last : (u m : ℕ) (b : Bool) → u < 2 ^ m → eqb ((u + cond b (2 ^ m) 0) / 2 ^ m % 2) 1 ≡ b
bit_last u m b h =
    let parts : u + cond b (2 ^ m) 0 ≡ cond b 1 0 * 2 ^ m + u = omega (arith, weight b (2 ^ m)) in
    ap (λ n. eqb (n / 2 ^ m % 2) 1) parts ∙ ap (λ n. eqb (n % 2) 1) (high (cond b 1 0) m h) ∙ bit_back b

-- a bit below the one that was added is as it was
bit_below : (u m i : ℕ) (b : Bool) → i < m → (u + cond b (2 ^ m) 0) / 2 ^ i % 2 ≡ u / 2 ^ i % 2
bit_below u m i b h =
    let rest = m - suc i in
    let size : rest + suc i ≡ m = omega arith in
    let whole : 2 ^ m ≡ 2 ^ rest * (2 ^ i * 2) = ap (λ n. 2 ^ n) (sym size) ∙ pow-add 2 rest (suc i) ∙ ap (λ n. 2 ^ rest * n) (pow-suc 2 i) in
    let c = cond b 1 0 * 2 ^ rest in
    let parts : cond b (2 ^ m) 0 ≡ c * 2 * 2 ^ i =
    weight b (2 ^ m) ∙ ap (λ n. cond b 1 0 * n) whole ∙ sym (mul_assoc (cond b 1 0) (2 ^ rest) (2 ^ i * 2)) ∙ ap (λ n. c * n) (mul_comm (2 ^ i) 2) ∙ sym (mul_assoc c 2 (2 ^ i)) in
    ap (λ n. (u + n) / 2 ^ i % 2) parts ∙ ap (λ n. n % 2) (add-mul-div_right u (c * 2) (pow_pos i)) ∙ add-mul-mod_self_right (u / 2 ^ i) c 2

-- a bit of a byte in the making
pub bit_of : (bits : List Bool) (k m i : ℕ) → i < m → eqb (byte_up_to bits k m / 2 ^ i % 2) 1 ≡ get_or bits (8 * k + i) false
bit_of bits k zero i h = absurd (omega arith)
bit_of bits k (suc m) i h =
    let b = get_or bits (8 * k + m) false in
    let more : byte_up_to bits k (suc m) ≡ byte_up_to bits k m + cond b (2 ^ m) 0 = rw add-one at (up_to_more bits k m) in
    ap (λ n. eqb (n / 2 ^ i % 2) 1) more
    ∙ ⊎_elim
    (λ below. ap (λ n. eqb n 1) (bit_below (byte_up_to bits k m) m i b below) ∙ bit_of bits k m i below)
    (λ above.
    let same : i ≡ m = omega arith in
    ap (λ j. eqb ((byte_up_to bits k m + cond b (2 ^ m) 0) / 2 ^ j % 2) 1) same
    ∙ bit_last (byte_up_to bits k m) m b (up_to_lt bits k m)
    ∙ ap (λ j. get_or bits (8 * k + j) false) (sym same))
    (cases_lt i m)

-- a bit of the bytes, whatever stands after them
bit_packed : (bits : List Bool) (after : List ℕ) (k : ℕ) → k < 8 * bytes_for (length bits) → bit_at (packed bits ++ after) k ≡ get_or bits k false
bit_packed bits after k h =
    let low : k / 8 < bytes_for (length bits) = omega arith in
    let within : k / 8 < length (packed bits) = omega (arith, length_packed bits (length bits) refl) in
    let place : k % 8 < 8 = omega arith in
    let same : 8 * (k / 8) + k % 8 ≡ k = omega arith in
    ap (λ n. eqb (n / 2 ^ (k % 8) % 2) 1) (get_or_append_left (packed bits) after 0 (k / 8) within ∙ get_d_packed bits (length bits) (k / 8) 0 refl low)
    ∙ bit_of bits (k / 8) 8 (k % 8) place
    ∙ ap (λ j. get_or bits j false) same

-- all of them
pub unpacked_front : (bits : List Bool) (old : List ℕ) → unpacked (front (packed bits) old) 0 (length bits) ≡ bits
unpacked_front bits old =
    let bytes = front (packed bits) old in
    sym (fill_by_all (λ j. bit_at bytes (0 + j)) bits (length bits) false refl
    (λ k h.
    let inside : 0 + k < 8 * bytes_for (length bits) = omega arith in
    sym (bit_packed bits (drop (length (packed bits)) old) (0 + k) inside ∙ ap (λ j. get_or bits j false) (zero-add k))))

zero_bit : (k : ℕ) → eqb (0 / 2 ^ k % 2) 1 ≡ false
zero_bit k = ap (λ n. eqb (n % 2) 1) (zero-div (2 ^ k))

packed_zeros : (bits : List Bool) (k : ℕ) → length bits ≤ k → bit_at (packed bits) k ≡ false
packed_zeros bits k h =
    ⊎_elim
    (λ inside. ap (λ bytes. bit_at bytes k) (sym (append-nil (packed bits))) ∙ bit_packed bits [] k inside ∙ get_or_past bits k false h)
    (λ past.
    let end : length (packed bits) ≤ k / 8 = omega (arith, length_packed bits (length bits) refl) in
    ap (λ n. eqb (n / 2 ^ (k % 8) % 2) 1) (get_or_past (packed bits) (k / 8) 0 end) ∙ zero_bit (k % 8))
    (cases_lt k (8 * bytes_for (length bits)))

packed_bytes : (bits : List Bool) (k : ℕ) → get_or (packed bits) k 0 < 256
packed_bytes bits k =
    ⊎_elim
    (λ inside. omega (arith, get_d_packed bits (length bits) k 0 refl inside, up_to_lt bits k 8))
    (λ past. omega (arith, get_or_past (packed bits) k 0 (omega (arith, length_packed bits (length bits) refl))))
    (cases_lt k (bytes_for (length bits)))

pub packed_back : (bits : List Bool) → PackedReadsBack bits
packed_back bits = record {
  back = ap (λ bytes. unpacked bytes 0 (length bits)) (sym (append-nil (packed bits)) ∙ ap (λ zs. packed bits ++ zs) (sym (drop_all (length (packed bits)) [] (omega arith)))) ∙ unpacked_front bits [];
  count = length_packed bits (length bits) refl;
  bytes = packed_bytes bits;
  zeros = packed_zeros bits;
}

held_mask_lem : (mask : Option (List Bool)) (n : ℕ) (old : List ℕ) → MaskFits mask n → cond (is_some mask) (Some (unpacked (mask_after mask old) 0 n)) None ≡ mask
held_mask_lem None n old fit = refl
held_mask_lem (Some bits) n old fit = ap Some (ap (unpacked (front (packed bits) old) 0) (sym fit) ∙ unpacked_front bits old)

-- what was laid down has a place for each row, and a bit under a mask
length_front : {X : Type 0} (xs ys : List X) → length xs ≤ length (front xs ys)
length_front xs ys = omega (arith, length-append xs (drop (length xs) ys))

mask_reaches : (mask : Option (List Bool)) (n : ℕ) (old : List ℕ) → MaskFits mask n → (is_some mask && ltb (8 * length (mask_after mask old)) n) ≡ false
mask_reaches None n old fit = refl
mask_reaches (Some bits) n old fit =
    let long : bytes_for (length bits) ≤ length (front (packed bits) old) = omega (arith, length_packed bits (length bits) refl, length_front (packed bits) old) in
    le-ltb (8 * length (front (packed bits) old)) n (omega (arith, fit, long))

pub all_readable : (places n : ℕ) (mask : Option (List Bool)) (old : List ℕ) → n ≤ places → MaskFits mask n → readable places (length (mask_after mask old)) (is_some mask) n ≡ n
all_readable places n mask old enough fit =
    ap (λ b. cond b 0 n) (or_from (ltb places n) (is_some mask && ltb (8 * length (mask_after mask old)) n) (le-ltb places n enough) (mask_reaches mask n old fit))

pub values_back : {X : Type 0} (c : Column X) (m : Laid X) → MaskFits c.mask (length c.figures) → held_values (stored stored_mask stored_values c m) ≡ c
values_back c m fit =
    let mask = held_mask_lem c.mask (length c.figures) m.bits fit in
    let figures = take_at c.figures (drop (length c.figures) m.figures) (length c.figures) refl in
    λ i. record { mask = mask i; figures = figures i }

pub booleans_back : (c : Column Bool) (m : Laid ℕ) → MaskFits c.mask (length c.figures) → held_packed (stored stored_mask stored_packed c m) ≡ c
booleans_back c m fit =
    let mask = held_mask_lem c.mask (length c.figures) m.bits fit in
    let figures = unpacked_front c.figures m.figures in
    λ i. record { mask = mask i; figures = figures i }

pub values_readable : {X : Type 0} (c : Column X) (m : Laid X) → MaskFits c.mask (length c.figures) → readable_values (stored stored_mask stored_values c m) ≡ c
values_readable c m fit =
    let n = length c.figures in
    let after = front c.figures m.figures in
    let all = all_readable (length after) n c.mask m.bits (length_front c.figures m.figures) fit in
    let mask = ap (λ k. cond (is_some c.mask) (Some (unpacked (mask_after c.mask m.bits) 0 k)) None) all ∙ held_mask_lem c.mask n m.bits fit in
    let figures = ap (λ k. take k after) all ∙ take_at c.figures (drop n m.figures) n refl in
    λ i. record { mask = mask i; figures = figures i }

pub booleans_readable : (c : Column Bool) (m : Laid ℕ) → MaskFits c.mask (length c.figures) → readable_packed (stored stored_mask stored_packed c m) ≡ c
booleans_readable c m fit =
    let n = length c.figures in
    let after = front (packed c.figures) m.figures in
    let long : n ≤ 8 * length after = omega (arith, length_packed c.figures n refl, length_front (packed c.figures) m.figures) in
    let all = all_readable (8 * length after) n c.mask m.bits long fit in
    let mask = ap (λ k. cond (is_some c.mask) (Some (unpacked (mask_after c.mask m.bits) 0 k)) None) all ∙ held_mask_lem c.mask n m.bits fit in
    let figures = ap (unpacked after 0) all ∙ unpacked_front c.figures m.figures in
    λ i. record { mask = mask i; figures = figures i }
