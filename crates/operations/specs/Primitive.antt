-- The primitive kind of a start value and a rule.
--
--     Combines rule          the rule's laws: grouping and order do not matter
--     primitive start rule   the kind: a credit is a marked value, or the one unmarked credit
--     marked c, value s c    a credit as a mark and a value
--     MarkAndValue           how a join goes by marks and values
use Rattle.std.specs.Prelude.{◌≡◌, Bool, true, false, ◌||◌, is_some, Some, None, Option}
use Rattle.std.specs.Option.{unwrap_or}
use Rattle.groups.specs.Kind.{Kind, by_nulls}

pub record Combines {E : Type 0} (rule : E → E → E) : Type 0 where
  pub assoc : (x y z : E) → rule (rule x y) z ≡ rule x (rule y z)
  pub comm : (x y : E) → rule x y ≡ rule y x

abbrev pub join_by : {E : Type 0} → (E → E → E) → Option E → Option E → Option E
join_by rule None b = b
join_by rule (Some x) None = Some x
join_by rule (Some x) (Some y) = Some (rule x y)

abbrev pub primitive : {E : Type 0} → E → (E → E → E) → Kind E E E
primitive {E} start rule =
    record {
      Credit = Option E;
      empty = None;
      join = join_by rule;
      of_row = λ o. o;
      of_state = λ s. Some s;
      written = λ c. c;
      under = start;
      shown = λ c. c;
      filler = start;
      Alike = λ a b. a ≡ b;
      pairs = λ c. 0;
      switch = by_nulls;
    }

abbrev pub marked : {E : Type 0} → Option E → Bool
marked c = is_some c

-- the start value where there is no mark
abbrev pub value : {E : Type 0} → E → Option E → E
value start c = unwrap_or c start

pub record MarkAndValue {E : Type 0} (start : E) (rule : E → E → E) : Type 0 where
  -- the empty credit has no mark and the start value; a row's value is marked
  pub empty_mark : marked (primitive start rule).empty ≡ false
  pub empty_value : value start (primitive start rule).empty ≡ start
  pub row_mark : (x : E) → marked ((primitive start rule).of_row (Some x)) ≡ true
  pub row_value : (x : E) → value start ((primitive start rule).of_row (Some x)) ≡ x
  -- a mark and a value make a credit, and an unmarked one has the start value
  pub unmarked : (a : Option E) → marked a ≡ false → value start a ≡ start
  pub same : (a b : Option E) → marked a ≡ marked b → value start a ≡ value start b → a ≡ b
  -- a join is marked if one of the two is
  pub join_mark : (a b : Option E) → marked ((primitive start rule).join a b) ≡ (marked a || marked b)
  -- of two marked credits the values are combined; of any two, if the start value leaves both values unchanged
  pub join_marked : (a b : Option E) → marked a ≡ true → marked b ≡ true → value start ((primitive start rule).join a b) ≡ rule (value start a) (value start b)
  pub join_value : (a b : Option E) → rule start (value start b) ≡ value start b → rule (value start a) start ≡ value start a → value start ((primitive start rule).join a b) ≡ rule (value start a) (value start b)
