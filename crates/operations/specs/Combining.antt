-- Each rule of its own combines. The lemmas stand among the specifications since an operation hands its own out with its rule.
use Rattle.std.specs.Prelude.{◌≡◌, ◌+◌, ◌%◌, ◌^◌, ◌+ℤ◌, Bool, true, false, ◌&&◌, ◌||◌, refl}
use Rattle.std.proofs.Common.{sym, ap, ◌∙◌, add_assoc, add_comm}
use Rattle.std.proofs.Math.Bool.{and_assoc, and_comm, or_assoc, or_comm}
use Rattle.std.proofs.Math.IntN.{+ℤ_assoc, +ℤ_comm}
use Rattle.std.proofs.Math.Nat.{mod-add-mod, add-mod-mod}
use Rattle.std.specs.Int.{int_wrap, w64}
use Rattle.std.proofs.lemmas.Int.{int_wrap-add_left, int_wrap-add_right}
use Rattle.operations.specs.Primitive.{Combines}
use Rattle.operations.specs.Rules.{added_i64, added_u64, odd_of}

-- ── sums ─────────────────────────────────────────────────────────────────
pub added_i64_lem : Combines added_i64
added_i64_lem =
    record {
      assoc = λ a b c. int_wrap-add_left w64 (a +ℤ b) c ∙ ap (int_wrap w64) (+ℤ_assoc a b c) ∙ sym (int_wrap-add_right w64 a (b +ℤ c));
      comm = λ a b. ap (int_wrap w64) (+ℤ_comm a b);
    }

pub added_u64_lem : Combines added_u64
added_u64_lem =
    record {
      assoc = λ a b c. mod-add-mod (a + b) (2 ^ 64) c ∙ ap (λ n. n % 2 ^ 64) (add_assoc a b c) ∙ sym (add-mod-mod a (b + c) (2 ^ 64));
      comm = λ a b. ap (λ n. n % 2 ^ 64) (add_comm a b);
    }

-- ── booleans ─────────────────────────────────────────────────────────────
pub every : Combines ◌&&◌
every = record { assoc = and_assoc; comm = and_comm }

pub any : Combines ◌||◌
any = record { assoc = or_assoc; comm = or_comm }

odd_assoc : (a b c : Bool) → odd_of (odd_of a b) c ≡ odd_of a (odd_of b c)
odd_assoc true true true = refl
odd_assoc true true false = refl
odd_assoc true false c = refl
odd_assoc false b c = refl

odd_comm : (a b : Bool) → odd_of a b ≡ odd_of b a
odd_comm true true = refl
odd_comm true false = refl
odd_comm false true = refl
odd_comm false false = refl

pub odd : Combines odd_of
odd = record { assoc = odd_assoc; comm = odd_comm }
