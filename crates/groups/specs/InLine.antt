-- The order in line is the order of the numbers.
--
--     FirstByNumber    the refusal that is answered is the first in line whose condition holds, and the line goes by numbers:
--                      so it is the first by number
use Rattle.std.specs.Prelude.{◌≡◌, ◌<◌, true, false, [], ◌∷◌, map, find, Some, None}
use Rattle.columnar.specs.declared.refusal.Refusal.{Refusal}
use Rattle.columnar.specs.Refusals.{number_of}
use Rattle.groups.specs.Tally.{Conditions, holds, in_line, refusal}

pub record FirstByNumber : Type 0 where
  pub line : (c : Conditions) → refusal c ≡ find (holds c) in_line
  pub numbers : map number_of in_line ≡ 5 ∷ 6 ∷ 7 ∷ 8 ∷ 9 ∷ 10 ∷ 11 ∷ 12 ∷ 13 ∷ 14 ∷ []
  pub answered : (c : Conditions) (r : Refusal) → refusal c ≡ Some r → holds c r ≡ true
  pub first : (c : Conditions) (r q : Refusal) → refusal c ≡ Some r → number_of q < number_of r → holds c q ≡ false
  pub none : (c : Conditions) (q : Refusal) → refusal c ≡ None → holds c q ≡ false
