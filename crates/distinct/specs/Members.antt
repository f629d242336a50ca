-- Lists of keys, told apart by a test of being the same.
--
--     has xs k               whether one of them is the same as k
--     Different xs           none is the same as a later one
--     added xs x             x appended, unless it is there already
--     with_all xs ys         a list followed by what it lacks of another, by first arrival
--     different xs           the different ones of a list, by first arrival
use Rattle.std.specs.Prelude.{◌≡◌, Bool, false, cond, List, [], ◌∷◌, ◌++◌, fold}
use Rattle.std.specs.List.{list_any, AllPairs}

module _ {K : Type 0} (same : K → K → Bool) where
  abbrev pub has : List K → K → Bool
  has xs k = list_any (λ x. same x k) xs

  abbrev pub Different : List K → Type 0
  Different xs = AllPairs (λ x y. same x y ≡ false) xs

  abbrev pub added : List K → K → List K
  added xs x = cond (has xs x) xs (xs ++ x ∷ [])

  abbrev pub with_all : List K → List K → List K
  with_all xs ys = fold added xs ys

  abbrev pub different : List K → List K
  different xs = with_all [] xs
