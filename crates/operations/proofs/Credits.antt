-- The laws of the primitive kind, for every rule that combines.
use Rattle.std.proofs.Common.{◌≡◌, ℕ, true, false, ◌||◌, is_some, Some, None, Option, sym, refl, ap, ◌∙◌, ap₂, arith}
use Rattle.std.proofs.lemmas.Bool.{true≢false}
use Rattle.columnar.specs.Cells.{over}
use Rattle.groups.specs.Kind.{Laws, Commutes, read, by_nulls, always_plain}
use Rattle.operations.specs.Primitive.{Combines, join_by, primitive, marked, value, MarkAndValue}

clash : {A : Type 0} → by_nulls ≡ always_plain → A
clash e = let z : ◌≡◌ {A = ℕ} 0 1 = cc in absurd (omega arith)

module _ {E : Type 0} (rule : E → E → E) where
  join_right : (a : Option E) → join_by rule a None ≡ a
  join_right None = refl
  join_right (Some x) = refl

  marked_by : (a : Option E) (v : E) → is_some (join_by rule a (Some v)) ≡ true
  marked_by None v = refl
  marked_by (Some x) v = refl

  mark_of_join : (a b : Option E) → marked (join_by rule a b) ≡ (marked a || marked b)
  mark_of_join None b = refl
  mark_of_join (Some x) None = refl
  mark_of_join (Some x) (Some y) = refl

module _ {E : Type 0} (start : E) (rule : E → E → E) where
  reads_back : (a : Option E) → read (primitive start rule) (over start a) ≡ a
  reads_back None = refl
  reads_back (Some x) = refl

  value_of_marked : (a b : Option E) → marked a ≡ true → marked b ≡ true → value start (join_by rule a b) ≡ rule (value start a) (value start b)
  value_of_marked None b p q = absurd (true≢false (sym p))
  value_of_marked (Some x) None p q = absurd (true≢false (sym q))
  value_of_marked (Some x) (Some y) p q = refl

  value_of_join : (a b : Option E) → rule start (value start b) ≡ value start b → rule (value start a) start ≡ value start a → value start (join_by rule a b) ≡ rule (value start a) (value start b)
  value_of_join None b l r = sym l
  value_of_join (Some x) None l r = sym r
  value_of_join (Some x) (Some y) l r = refl

module _ {E : Type 0} (start : E) where
  unmarked_start : (a : Option E) → marked a ≡ false → value start a ≡ start
  unmarked_start None e = refl
  unmarked_start (Some x) e = absurd (true≢false e)

  same_credit : (a b : Option E) → marked a ≡ marked b → value start a ≡ value start b → a ≡ b
  same_credit None None m v = refl
  same_credit None (Some y) m v = absurd (true≢false (sym m))
  same_credit (Some x) None m v = absurd (true≢false m)
  same_credit (Some x) (Some y) m v = ap Some v

module _ {E : Type 0} {rule : E → E → E} (c : Combines rule) where
  join_assoc : (a b d : Option E) → join_by rule (join_by rule a b) d ≡ join_by rule a (join_by rule b d)
  join_assoc None b d = refl
  join_assoc (Some x) None d = refl
  join_assoc (Some x) (Some y) None = refl
  join_assoc (Some x) (Some y) (Some z) = ap Some (c.assoc x y z)

  join_comm : (a b : Option E) → join_by rule a b ≡ join_by rule b a
  join_comm None None = refl
  join_comm None (Some y) = refl
  join_comm (Some x) None = refl
  join_comm (Some x) (Some y) = ap Some (c.comm x y)

  pub primitive_laws : (start : E) → Laws (primitive start rule)
  primitive_laws start =
      record {
        alike_refl = λ a. refl;
        alike_sym = λ a b p. sym p;
        alike_trans = λ a b d p q. p ∙ q;
        join_alike = λ a b d e p q. ap₂ (join_by rule) p q;
        left = λ a. refl;
        right = join_right rule;
        assoc = join_assoc;
        shows = λ a b p. p;
        takes = λ a b p. refl;
        reads = reads_back start rule;
        plain_clear = λ e a. clash e;
        row_clear = λ e a v. (marked_by rule a v, marked_by rule a v);
        state_clear = λ e a v. (marked_by rule a v, marked_by rule a v);
      }

  pub primitive_commutes : (start : E) → Commutes (primitive start rule)
  primitive_commutes start = join_comm

pub mark_and_value : {E : Type 0} (start : E) (rule : E → E → E) → MarkAndValue start rule
mark_and_value start rule =
    record {
      empty_mark = refl;
      empty_value = refl;
      row_mark = λ x. refl;
      row_value = λ x. refl;
      unmarked = unmarked_start start;
      same = same_credit start;
      join_mark = mark_of_join rule;
      join_marked = value_of_marked start rule;
      join_value = value_of_join start rule;
    }
