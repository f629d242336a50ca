-- That being equal is an equivalence, and that equal values have equal hash numbers. The lemmas stand among the
-- specifications since a key hands its own out with its test.
--
--     equal_doors a b    the same street and the same house
use Rattle.std.specs.Prelude.{◌≡◌, ℕ, ◌+◌, ◌*◌, Bool, true, ℤ, nat_eq}
use Rattle.std.proofs.Common.{ap, ap₂, of_z}
use Rattle.std.specs.Int.{w64}
use Rattle.std.specs.Ordering.{int_eq, on, eq_of_both}
use Rattle.std.specs.Cmp.{IsEquivalence, signed_Decides, nat_eq_equiv, on_equiv, and_equiv}
use Rattle.std.proofs.lemmas.Bool.{eqb-true, and_parts}
use Rattle.keys.specs.declared.key.Door.{Door}
use Rattle.keys.specs.Hash.{scattered}

abbrev pub equal_doors : Door → Door → Bool
equal_doors = eq_of_both (on (λ a. a.street) nat_eq) (on (λ a. a.house) nat_eq)

pub doors : IsEquivalence equal_doors
doors = and_equiv (on_equiv (λ a. a.street) nat_eq_equiv) (on_equiv (λ a. a.house) nat_eq_equiv)

-- ── equal values have equal hash numbers ─────────────────────────────────
pub number_hashes : (seed a b : ℕ) → nat_eq a b ≡ true → scattered seed a ≡ scattered seed b
number_hashes seed a b p = ap (scattered seed) (eqb-true a b p)

pub signed_hashes : (seed : ℕ) (a b : ℤ) → int_eq a b ≡ true → scattered seed (of_z w64 a) ≡ scattered seed (of_z w64 b)
signed_hashes seed a b p = ap (λ z. scattered seed (of_z w64 z)) ((signed_Decides a b).0 p)

pub door_hashes : (seed : ℕ) (a b : Door) → equal_doors a b ≡ true → scattered seed (a.street * 65536 + a.house) ≡ scattered seed (b.street * 65536 + b.house)
door_hashes seed a b p =
    let s = and_parts (nat_eq a.street b.street) (nat_eq a.house b.house) p in
    ap (scattered seed) (ap₂ (λ m n. m * 65536 + n) (eqb-true a.street b.street s.0) (eqb-true a.house b.house s.1))
