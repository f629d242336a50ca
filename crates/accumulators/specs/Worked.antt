-- Rows written out, and what is shown of them.
use Rattle.std.specs.Prelude.{◌≡◌, ℕ, ◌-◌, ◌^◌, List, [], ◌∷◌, ℤ, pos, negsuc, Some, None, Option}
use Rattle.groups.specs.Kind.{Kind, joined}
use Rattle.accumulators.specs.declared.span.SpanRecord.{SpanRecord}

abbrev shown_of : {S : Type 0} → Kind ℤ S ℕ → List (Option ℤ) → Option ℕ
shown_of K rs = K.shown (joined K rs)

pub record Worked (span : Kind ℤ SpanRecord ℕ) (blanks : Kind ℤ ℕ ℕ) : Type 0 where
  -- -5 and 7
  pub apart : shown_of span (Some (negsuc 4) ∷ Some (pos 7) ∷ []) ≡ Some 12
  -- the type's ends
  pub widest : shown_of span (Some (negsuc (2 ^ 63 - 1)) ∷ Some (pos (2 ^ 63 - 1)) ∷ []) ≡ Some (2 ^ 64 - 1)
  pub one_value : shown_of span (None ∷ Some (pos 3) ∷ []) ≡ Some 0
  pub no_value : shown_of span (None ∷ None ∷ []) ≡ None
  -- a state row in the wrong order
  pub turned : span.shown (span.of_state (record { least = pos 7; greatest = negsuc 4 })) ≡ Some 12
  pub two_nulls : shown_of blanks (None ∷ Some (pos 3) ∷ None ∷ []) ≡ Some 2
  pub no_rows : shown_of blanks [] ≡ Some 0
  -- a count that is full stays so
  pub full : blanks.shown (blanks.join (blanks.of_state (2 ^ 64 - 1)) (blanks.of_row None)) ≡ Some (2 ^ 64 - 1)
