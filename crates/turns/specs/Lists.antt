-- Words on lists, by places.
--
--     EachRow R j xs ys     the lists are as long as each other, and R holds of the elements at each place and of its number,
--                           counted from j
--     listed n f            f 0, f 1 and so on up to f (n − 1)
--     gathered n f          the lists f 0, f 1 and so on up to f (n − 1), end to end
use Rattle.std.specs.Prelude.{ℕ, zero, suc, List, [], ◌∷◌, ◌++◌}

abbrev pub EachRow : {A B : Type 0} → (ℕ → A → B → Type 0) → ℕ → List A → List B → Type 0
EachRow R j [] [] = Unit {0}
EachRow R j [] (y ∷ ys) = ⊥
EachRow R j (x ∷ xs) [] = ⊥
EachRow R j (x ∷ xs) (y ∷ ys) = R j x y × EachRow R (suc j) xs ys

abbrev pub listed : {A : Type 0} → ℕ → (ℕ → A) → List A
listed zero f = []
listed (suc n) f = f zero ∷ listed n (λ j. f (suc j))

abbrev pub gathered : {A : Type 0} → ℕ → (ℕ → List A) → List A
gathered zero f = []
gathered (suc n) f = f zero ++ gathered n (λ j. f (suc j))
