-- How values and marks lie in an accumulator's memory, and what they mean.
--
--     credits_of ms vs        a credit for each group: its value if it is marked, and else the empty one
--     Unset start ms vs       a group that is not marked has the start value
--     marked_at ms ps         marks after visits; combined_at start rule vs ps: values after visits
use Rattle.std.specs.Prelude.{◌≡◌, ℕ, Bool, true, false, cond, List, [], ◌∷◌, Some, None, fold, Option, slice_index_or, slice_set}

abbrev pub credits_of : {E : Type 0} → List Bool → List E → List (Option E)
credits_of [] vs = []
credits_of (m ∷ ms) [] = []
credits_of (m ∷ ms) (v ∷ vs) = cond m (Some v) None ∷ credits_of ms vs

abbrev pub Unset : {E : Type 0} → E → List Bool → List E → Type 0
Unset start [] vs = Unit {0}
Unset start (m ∷ ms) [] = Unit {0}
Unset start (m ∷ ms) (v ∷ vs) = (m ≡ false → v ≡ start) × Unset start ms vs

abbrev pub marked_at : {V : Type 0} → List Bool → List (ℕ × V) → List Bool
marked_at ms ps = fold (λ m p. slice_set m p.0 true) ms ps

abbrev pub combined_at : {V : Type 0} → V → (V → V → V) → List V → List (ℕ × V) → List V
combined_at start rule vs ps = fold (λ v p. slice_set v p.0 (rule (slice_index_or v p.0 start) p.1)) vs ps
