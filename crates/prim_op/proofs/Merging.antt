-- A merge is an update with no filter.
use Rattle.std.proofs.Common.{◌≡◌, ℕ, ltb, List, [], ◌∷◌, map, length, None, Option, sym, refl, ap}
use Rattle.columnar.specs.Cells.{Cell, seen, all_pass, nulls}
use Rattle.std.specs.List.{zip}
use Rattle.groups.specs.Lists.{change, deal}
use Rattle.groups.specs.Kind.{read, by_nulls}
use Rattle.groups.specs.Tally.{Meaning, admitted, refusal, batch_conditions, with_credits, opened, turned, merged, merge_refusal, updated, update_refusal}
use Rattle.operations.specs.Primitive.{primitive, join_by}

module _ {E : Type 0} (start : E) (rule : E → E → E) where
  states_dealt : (gs : List ℕ) (cs : List (Cell E)) (xs : List (Option E)) → deal (λ c s. join_by rule c (read (primitive start rule) s)) (zip gs cs) xs ≡ deal (join_by rule) (admitted (all_pass (length cs)) gs (map seen cs)) xs
  states_dealt [] [] xs = refl
  states_dealt [] (c ∷ cs) xs = refl
  states_dealt (g ∷ gs) [] xs = refl
  states_dealt (g ∷ gs) (c ∷ cs) xs = states_dealt gs cs (change (λ a. join_by rule a (seen c)) g xs)

  module _ (m : Meaning (Option E)) (cs : List (Cell E)) (gs : List ℕ) (total : ℕ) where
    pub merged_is : updated (primitive start rule) m cs None gs total ≡ merged (primitive start rule) m cs gs total
    merged_is = ap (λ xs. with_credits (primitive start rule) m xs (turned by_nulls m.marked (ltb 0 (nulls cs)))) (sym (states_dealt gs cs (opened (primitive start rule) m total)))

    pub merge_refusal_is : update_refusal (primitive start rule) m cs None gs total ≡ merge_refusal (primitive start rule) m cs gs total
    merge_refusal_is = ap (λ xs. refusal (batch_conditions (primitive start rule) m (length cs) None gs total xs)) (sym (states_dealt gs cs (opened (primitive start rule) m total)))
