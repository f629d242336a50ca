-- A loop that writes one value over the front of a list: one more place.
use Rattle.std.proofs.Common.{◌≡◌, ℕ, zero, suc, ◌<◌, List, [], ◌∷◌, ◌++◌, length, drop, set, replicate, refl, ap, arith}

pub filled_more : {X : Type 0} (xs : List X) (i : ℕ) (x : X) → i < length xs → set (replicate i x ++ drop i xs) i x ≡ replicate (suc i) x ++ drop (suc i) xs
filled_more [] i x l = absurd (omega arith)
filled_more (y ∷ ys) zero x l = refl
filled_more (y ∷ ys) (suc i) x l = ap (λ zs. x ∷ zs) (filled_more ys i x (omega arith))
