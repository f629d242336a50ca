-- A list of different keys stays one as keys are added. The lemmas stand among the specifications since a credit holds
-- the fact with its keys.
use Rattle.std.specs.Prelude.{◌≡◌, ℕ, ◌<◌, Bool, false, List, [], ◌∷◌, ◌++◌, length, get_or}
use Rattle.std.proofs.Common.{sym, ◌∙◌, arith}
use Rattle.std.proofs.lemmas.Bool.{true≢false, cond_both, false_from_ne_true}
use Rattle.std.proofs.lemmas.List.Folds.{list_any_at}
use Rattle.std.proofs.lemmas.List.Quantifiers.{all_pairs_push}
use Rattle.distinct.specs.Members.{has, Different, added, with_all}

module _ {K : Type 0} (same : K → K → Bool) where
  pub none_different : Different same []
  none_different i j d l m = absurd (omega arith)

  pub one_different : (x : K) → Different same (x ∷ [])
  one_different x i j d l m = absurd (omega arith)

  lacks : (xs : List K) (x : K) → has same xs x ≡ false → (k : ℕ) (d : K) → k < length xs → same (get_or xs k d) x ≡ false
  lacks xs x n k d l = false_from_ne_true (same (get_or xs k d) x) (λ t. true≢false (sym (list_any_at (λ y. same y x) xs k d l t) ∙ n))

  pub added_different : (xs : List K) (x : K) → Different same xs → Different same (added same xs x)
  added_different xs x a = cond_both (has same xs x) xs (xs ++ x ∷ []) (λ zs. Different same zs) (λ e. a) (λ n. all_pairs_push (λ y z. same y z ≡ false) xs x a (lacks xs x n))

  pub with_all_different : (xs ys : List K) → Different same xs → Different same (with_all same xs ys)
  with_all_different xs [] a = a
  with_all_different xs (y ∷ ys) a = with_all_different (added same xs y) ys (added_different xs y a)
