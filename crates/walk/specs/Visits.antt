-- The visits of a walk.
--
--     visits gs cs ps        the group and the value of each valid row that is let through, in ascending order: gs are
--                            the group indices, cs the rows, ps whether each row is let through
--     told_all after m vs    a visitor's model after a list of visits
--     Tests post p n         a test of the row numbers below n answers as p does
use Rattle.std.specs.Prelude.{◌≡◌, ℕ, ◌<◌, Bool, cond, ◌&&◌, List, [], ◌∷◌, fold}
use Rattle.columnar.specs.Cells.{Cell}

abbrev pub visits : {V : Type 0} → List ℕ → List (Cell V) → List Bool → List (ℕ × V)
visits [] cs ps = []
visits (g ∷ gs) [] ps = []
visits (g ∷ gs) (c ∷ cs) [] = []
visits (g ∷ gs) (c ∷ cs) (p ∷ ps) = cond (c.valid && p) ((g, c.figure) ∷ visits gs cs ps) (visits gs cs ps)

abbrev pub told_all : {V M : Type 0} → (M → ℕ → V → M) → M → List (ℕ × V) → M
told_all after m vs = fold (λ s v. after s v.0 v.1) m vs

abbrev pub Tests : (ℕ → Bool → Type 0) → (ℕ → Bool) → ℕ → Type 0
Tests post p n = (j : ℕ) (b : Bool) → j < n → post j b → b ≡ p j
