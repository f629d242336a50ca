-- A loop over pairs of a group and a value, by the pairs that are still to come.
use Rattle.std.proofs.Common.{◌≡◌, List, [], ◌∷◌, Some, None, Option, Bor, Iter, refl, ap, ap₂, ◌∙◌, ⊎_elim}
use Rattle.std.specs.List.{zip}
use Rattle.std.specs.declared.iter.Zip.{Zip}
use Rattle.std.specs.Slice.Iter.{iter_rest}
use Rattle.std.specs.Iterator.Adapters.{zip_first, zip_second}
use Rattle.std.proofs.iter.Yields.{fronts}
use Rattle.std.proofs.lemmas.Iterator.{zips}
use Rattle.std.proofs.lemmas.Slice.Zip.{Zip-more, either_empty_from_Zip}

-- the pairs that are still to come of an iterator over two slices
abbrev pub pairs_rest : {A B : Type 0} → Zip (Iter A) (Iter B) → List (A × B)
pairs_rest s = zip (iter_rest (zip_first s)) (iter_rest (zip_second s))

zip_none : {A B : Type 0} (xs : List A) → zip xs (let none : List B = [] in none) ≡ []
zip_none [] = refl
zip_none (x ∷ xs) = refl

module _ {A B : Type 0} (s t : Zip (Iter A) (Iter B)) (r : Option (Bor A × Bor B)) where
  pub pairs_rest_more : (p : Bor A × Bor B) → r ≡ Some p → zips fronts fronts s r t → pairs_rest s ≡ (p.0.now, p.1.now) ∷ pairs_rest t
  pairs_rest_more p is steps = let both_more = Zip-more s t r p is steps in ap₂ zip both_more.0 both_more.1

  pub pairs_rest_all : r ≡ None → zips fronts fronts s r t → pairs_rest s ≡ []
  pairs_rest_all is steps =
      ⊎_elim
      (λ first. ap (λ xs. zip xs (iter_rest (zip_second s))) first)
      (λ second. ap (zip (iter_rest (zip_first s))) second ∙ zip_none (iter_rest (zip_first s)))
      (either_empty_from_Zip s t r is steps)
