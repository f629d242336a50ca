-- The table of named groups that a check of a batch makes in spare marks.
use Rattle.std.specs.Prelude.{ℕ, Bool, true, cond, List, fold, nat_le, slice_set}

-- marks after each group from `kept` on that is named is set
abbrev pub named_marks : ℕ → List Bool → List ℕ → List Bool
named_marks kept ms gs = fold (λ m k. cond (nat_le kept k) (slice_set m k true) m) ms gs
