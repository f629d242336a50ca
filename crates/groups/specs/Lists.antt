-- Words on lists.
--
--     change f n xs      the element at a place, changed; a place past the end changes nothing
--     deal f es xs       entries dealt in order, each to the place that it names
--     has n ns           whether a number is in a list
--     all_below n ns     whether each is below n
--     names_from a k ns  whether the k numbers from a on are all in the list
use Rattle.std.specs.Prelude.{ℕ, zero, suc, Bool, true, ◌&&◌, List, [], ◌∷◌, ◌==◌, nat_lt}
use Rattle.std.specs.List.{list_any, list_all}

abbrev pub change : {A : Type 0} → (A → A) → ℕ → List A → List A
change f n [] = []
change f zero (x ∷ xs) = f x ∷ xs
change f (suc n) (x ∷ xs) = x ∷ change f n xs

abbrev pub deal : {X A : Type 0} → (A → X → A) → List (ℕ × X) → List A → List A
deal f [] xs = xs
deal f (e ∷ es) xs = deal f es (change (λ a. f a e.1) e.0 xs)

abbrev pub has : ℕ → List ℕ → Bool
has n ms = list_any (λ m. n == m) ms

abbrev pub all_below : ℕ → List ℕ → Bool
all_below n ms = list_all (λ m. nat_lt m n) ms

abbrev pub names_from : ℕ → ℕ → List ℕ → Bool
names_from from zero ms = true
names_from from (suc count) ms = has from ms && names_from (suc from) count ms
