-- The span: the least and the greatest of the values, shown as their difference.
--
--     Ends                      two numbers in order
--     sorted a b                two numbers put in order
--     ends_of r                 what a record means, whichever of its numbers is the greater
--     hulled a b                the least and the greatest of both
--     spread e                  the greatest minus the least
--     recorded e                the ends as a record
--     span_kind                 the kind: no value, or the ends
--     span_laws, span_commutes  its laws; they stand here since the accumulator hands them out with the kind
--     span_of o                 what an accumulator holds, as a credit
--     order_refusal             what is refused of the making of a record
use Rattle.std.specs.Prelude.{◌≡◌, ℕ, cond, ℤ, pos, ◌-ℤ◌, ◌≤ℤ◌, Some, None, Option, int_le, int_lt, unsigned_abs, refl}
use Rattle.std.proofs.Common.{sym, ap, ap₂, ◌∙◌, arith}
use mathlib.Core.HLevel.{is_prop→PathP}
use Rattle.std.proofs.Math.Dec.{T_prop}
use Rattle.std.specs.Int.{int_min, int_max}
use Rattle.std.specs.Option.{option_map}
use Rattle.std.proofs.lemmas.Int.{ints, clamps}
use Rattle.columnar.specs.Cells.{over}
use Rattle.columnar.specs.declared.refusal.Refusal.{Refusal}
use Rattle.columnar.specs.declared.refusal.Refusal.TheVariants.{SpanOrder}
use Rattle.groups.specs.Kind.{Kind, Laws, Commutes, read, always_marked}
use Rattle.accumulators.specs.Marked.{never_plain, never_by_nulls}
use Rattle.accumulators.specs.declared.span.SpanRecord.{SpanRecord}

pub record Ends : Type 0 where
  pub least : ℤ
  pub greatest : ℤ
  pub ordered : least ≤ℤ greatest

-- ── in order ─────────────────────────────────────────────────────────────
pub in_order : (a b : ℤ) → int_min a b ≤ℤ int_max a b
in_order a b = omega (arith, ints, clamps)

pub both_in_order : (a b c d : ℤ) → a ≤ℤ b → c ≤ℤ d → int_min a c ≤ℤ int_max b d
both_in_order a b c d p q = omega (arith, ints, clamps)

-- ── ends ─────────────────────────────────────────────────────────────────
abbrev pub sorted : ℤ → ℤ → Ends
sorted a b = record { least = int_min a b; greatest = int_max a b; ordered = in_order a b }

abbrev pub ends_of : SpanRecord → Ends
ends_of r = sorted r.least r.greatest

abbrev pub hulled : Ends → Ends → Ends
hulled a b = record { least = int_min a.least b.least; greatest = int_max a.greatest b.greatest; ordered = both_in_order a.least a.greatest b.least b.greatest a.ordered b.ordered }

abbrev pub spread : Ends → ℕ
spread e = unsigned_abs (e.greatest -ℤ e.least)

abbrev pub recorded : Ends → SpanRecord
recorded e = record { least = e.least; greatest = e.greatest }

-- ── the kind ─────────────────────────────────────────────────────────────
abbrev pub join : Option Ends → Option Ends → Option Ends
join None b = b
join (Some x) None = Some x
join (Some x) (Some y) = Some (hulled x y)

abbrev pub span_kind : Kind ℤ SpanRecord ℕ
span_kind =
    record {
      Credit = Option Ends;
      empty = None;
      join = join;
      of_row = option_map (λ v. sorted v v);
      of_state = λ r. Some (ends_of r);
      written = option_map recorded;
      under = record { least = pos 0; greatest = pos 0 };
      shown = option_map spread;
      filler = 0;
      Alike = λ a b. a ≡ b;
      pairs = λ c. 0;
      switch = always_marked;
    }

abbrev pub span_of : Option SpanRecord → Option Ends
span_of o = option_map ends_of o

abbrev pub order_refusal : ℤ → ℤ → Option Refusal
order_refusal least greatest = cond (int_lt greatest least) (Some SpanOrder) None

-- ── its laws ─────────────────────────────────────────────────────────────
-- an order of numbers is a test, so it has one proof
one_proof : (a b : ℤ) (p q : a ≤ℤ b) → p ≡ q
one_proof a b p q = λ i. record { le = T_prop (int_le a b) p.le q.le i }

-- ends with equal numbers are equal, however they are shown to be in order
pub same_ends : (a b : Ends) → a.least ≡ b.least → a.greatest ≡ b.greatest → a ≡ b
same_ends a b p q = λ i. record { least = p i; greatest = q i; ordered = is_prop→PathP (λ j. p j ≤ℤ q j) (λ j. one_proof (p j) (q j)) a.ordered b.ordered i }

pub join_right : (a : Option Ends) → join a None ≡ a
join_right None = refl
join_right (Some x) = refl

hull_assoc : (a b c : Ends) → hulled (hulled a b) c ≡ hulled a (hulled b c)
hull_assoc a b c = same_ends (hulled (hulled a b) c) (hulled a (hulled b c)) (omega (arith, ints, clamps)) (omega (arith, ints, clamps))

hull_comm : (a b : Ends) → hulled a b ≡ hulled b a
hull_comm a b = same_ends (hulled a b) (hulled b a) (omega (arith, ints, clamps)) (omega (arith, ints, clamps))

join_assoc : (a b c : Option Ends) → join (join a b) c ≡ join a (join b c)
join_assoc None b c = refl
join_assoc (Some x) None c = refl
join_assoc (Some x) (Some y) None = refl
join_assoc (Some x) (Some y) (Some z) = ap Some (hull_assoc x y z)

pub ends_recorded : (e : Ends) → ends_of (recorded e) ≡ e
ends_recorded e = same_ends (ends_of (recorded e)) e (omega (arith, ints, clamps)) (omega (arith, ints, clamps))

reads_back : (a : Option Ends) → read span_kind (over span_kind.under (option_map recorded a)) ≡ a
reads_back None = refl
reads_back (Some e) = ap Some (ends_recorded e)

pub span_laws : Laws span_kind
span_laws =
    record {
      alike_refl = λ a. refl;
      alike_sym = λ a b p. sym p;
      alike_trans = λ a b c p q. p ∙ q;
      join_alike = λ a b c d p q. ap₂ join p q;
      left = λ a. refl;
      right = join_right;
      assoc = join_assoc;
      shows = λ a b p. ap (option_map spread) p;
      takes = λ a b p. refl;
      reads = reads_back;
      plain_clear = λ e a. never_plain e;
      row_clear = λ e a v. never_by_nulls e;
      state_clear = λ e a s. never_by_nulls e;
    }

pub span_commutes : Commutes span_kind
span_commutes None None = refl
span_commutes None (Some y) = refl
span_commutes (Some x) None = refl
span_commutes (Some x) (Some y) = ap Some (hull_comm x y)
