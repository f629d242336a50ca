-- The number of null rows, counted up to a most.
--
--     most                                  2 ^ 64 - 1
--     Count                                 a number that is not above the most
--     capped n                              a number, or the most where it is above that
--     counted a b                           the sum of two counts, capped
--     null_count_kind                       the kind
--     null_count_laws, null_counts_commute  its laws
use Rattle.std.specs.Prelude.{◌≡◌, ℕ, ◌+◌, ◌-◌, ◌^◌, ◌≤◌, min, ℤ, Some, None, Option, refl}
use Rattle.std.proofs.Common.{sym, ap, ap₂, ◌∙◌, arith}
use mathlib.Core.HLevel.{is_prop→PathP}
use Rattle.std.proofs.Math.Bridge.{le_prop}
use Rattle.std.proofs.Math.Nat.{min-le_right}
use Rattle.groups.specs.Kind.{Kind, Laws, Commutes, always_marked}
use Rattle.accumulators.specs.Marked.{never_plain, never_by_nulls}

abbrev pub most : ℕ
most = 2 ^ 64 - 1

pub record Count : Type 0 where
  pub count : ℕ
  pub bound : count ≤ most

abbrev pub capped : ℕ → Count
capped n = record { count = min n most; bound = min-le_right n most }

abbrev pub counted : Count → Count → Count
counted a b = capped (a.count + b.count)

-- a null counts one, a value nothing
abbrev pub of_row : Option ℤ → Count
of_row None = capped 1
of_row (Some v) = capped 0

abbrev pub null_count_kind : Kind ℤ ℕ ℕ
null_count_kind =
    record {
      Credit = Count;
      empty = capped 0;
      join = counted;
      of_row = of_row;
      of_state = capped;
      written = λ c. Some c.count;
      under = 0;
      shown = λ c. Some c.count;
      filler = 0;
      Alike = λ a b. a ≡ b;
      pairs = λ c. 0;
      switch = always_marked;
    }

-- ── its laws ─────────────────────────────────────────────────────────────
-- counts with equal numbers are equal, however they are shown to be bounded
pub same_count : (a b : Count) → a.count ≡ b.count → a ≡ b
same_count a b p = λ i. record { count = p i; bound = is_prop→PathP (λ j. p j ≤ most) (λ j. le_prop) a.bound b.bound i }

left : (a : Count) → counted (capped 0) a ≡ a
left a = let h = a.bound in same_count (counted (capped 0) a) a (omega arith)

right : (a : Count) → counted a (capped 0) ≡ a
right a = let h = a.bound in same_count (counted a (capped 0)) a (omega arith)

assoc : (a b c : Count) → counted (counted a b) c ≡ counted a (counted b c)
assoc a b c = same_count (counted (counted a b) c) (counted a (counted b c)) (omega arith)

pub null_count_laws : Laws null_count_kind
null_count_laws =
    record {
      alike_refl = λ a. refl;
      alike_sym = λ a b p. sym p;
      alike_trans = λ a b c p q. p ∙ q;
      join_alike = λ a b c d p q. ap₂ counted p q;
      left = left;
      right = right;
      assoc = assoc;
      shows = λ a b p. ap (λ c. Some c.count) p;
      takes = λ a b p. refl;
      reads = λ a. let h = a.bound in same_count (capped a.count) a (omega arith);
      plain_clear = λ e a. never_plain e;
      row_clear = λ e a v. never_by_nulls e;
      state_clear = λ e a s. never_by_nulls e;
    }

pub null_counts_commute : Commutes null_count_kind
null_counts_commute a b = same_count (counted a b) (counted b a) (omega arith)
