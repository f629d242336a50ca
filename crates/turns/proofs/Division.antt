-- The join of a list of rows: appending is joining, and order does not matter where the join commutes.
use Rattle.std.proofs.Common.{◌≡◌, List, [], ◌∷◌, ◌++◌, Option, subst}
use mathlib.Core.List.{Permᴰ}
use Rattle.groups.specs.Kind.{Kind, Laws, Commutes, joined}

module _ {V S O : Type 0} (K : Kind V S O) (L : Laws K) where
  pub joined_append : (xs ys : List (Option V)) → K.Alike (joined K (xs ++ ys)) (K.join (joined K xs) (joined K ys))
  joined_append [] ys = L.alike_sym _ _ (L.left (joined K ys))
  joined_append (x ∷ xs) ys =
      L.alike_trans _ _ _
      (L.join_alike _ _ _ _ (L.alike_refl (K.of_row x)) (joined_append xs ys))
      (L.alike_sym _ _ (L.assoc (K.of_row x) (joined K xs) (joined K ys)))

  -- a bag appended, and a row pushed, at credits alike the joins
  pub joined_join : (c d : K.Credit) (xs ys : List (Option V)) → K.Alike c (joined K xs) → K.Alike d (joined K ys) → K.Alike (K.join c d) (joined K (xs ++ ys))
  joined_join c d xs ys p q = L.alike_trans _ _ _ (L.join_alike _ _ _ _ p q) (L.alike_sym _ _ (joined_append xs ys))

  pub joined_one : (r : Option V) → K.Alike (K.of_row r) (joined K (r ∷ []))
  joined_one r = L.alike_sym _ _ (L.right (K.of_row r))

  pub joined_push : (c : K.Credit) (xs : List (Option V)) (r : Option V) → K.Alike c (joined K xs) → K.Alike (K.join c (K.of_row r)) (joined K (xs ++ r ∷ []))
  joined_push c xs r p = joined_join c (K.of_row r) xs (r ∷ []) p (joined_one r)

  same_row : (a b : Option V) → a ≡ b → K.Alike (K.of_row a) (K.of_row b)
  same_row a b e = subst (λ x. K.Alike (K.of_row a) (K.of_row x)) e (L.alike_refl (K.of_row a))

  module _ (comm : Commutes K) where
    swapped : (a b c : K.Credit) → K.Alike (K.join a (K.join b c)) (K.join b (K.join a c))
    swapped a b c =
        L.alike_trans _ _ _ (L.alike_sym _ _ (L.assoc a b c))
        (L.alike_trans _ _ _ (L.join_alike _ _ _ _ (comm a b) (L.alike_refl c)) (L.assoc b a c))

    pub joined_perm : {xs ys : List (Option V)} → Permᴰ xs ys → K.Alike (joined K xs) (joined K ys)
    joined_perm Permᴰ.nil = L.alike_refl _
    joined_perm (Permᴰ.cons e p) = L.join_alike _ _ _ _ (same_row _ _ e) (joined_perm p)
    joined_perm (Permᴰ.swap {a} {b} {a'} {b'} {l} e f) =
        L.alike_trans _ _ _ (swapped (K.of_row a) (K.of_row b) (joined K l))
        (L.join_alike _ _ _ _ (same_row b a' f) (L.join_alike _ _ _ _ (same_row a b' e) (L.alike_refl _)))
    joined_perm (Permᴰ.trans p q) = L.alike_trans _ _ _ (joined_perm p) (joined_perm q)
