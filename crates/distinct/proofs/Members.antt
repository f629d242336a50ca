-- Members of lists of keys, and how many different ones there are.
use Rattle.std.proofs.Common.{◌≡◌, Bool, true, false, cond, ◌||◌, List, [], ◌∷◌, ◌++◌, length, sym, refl, ap, ◌∙◌, ⊎_elim}
use Rattle.std.specs.Cmp.{IsEquivalence}
use Rattle.std.specs.List.{list_any}
use Rattle.std.proofs.Math.Bool.{or_assoc, or-false}
use Rattle.std.proofs.lemmas.List.Folds.{list_any-append}
use Rattle.std.proofs.lemmas.List.Sums.{fold_push}
use Rattle.std.proofs.lemmas.Map.Keys.{IsDistinct-from_apart}
use Rattle.std.proofs.lemmas.Map.Made.{length-from_keys}
use Rattle.std.proofs.lemmas.Bool.{cases_Bool, cond-true, or_right}
use Rattle.distinct.specs.Members.{has, Different, added, with_all, different}

-- what b gives anyway
or_known : (a b : Bool) → (b ≡ true → a ≡ true) → a ≡ (a || b)
or_known true b h = refl
or_known false true h = h refl
or_known false false h = refl

module _ {K : Type 0} {same : K → K → Bool} (e : IsEquivalence same) where
  -- what is the same as a member is one
  pub has_like : (xs : List K) (x k : K) → same x k ≡ true → has same xs x ≡ has same xs k
  has_like xs x k l = ap (λ (p : K → Bool). list_any p xs) (λ i y. (e.symm y x ∙ e.congr x k y l ∙ e.symm k y) i)

  has_added : (xs : List K) (x k : K) → has same (added same xs x) k ≡ (has same xs k || same x k)
  has_added xs x k =
      ⊎_elim
      (λ (there : has same xs x ≡ true). ap (λ b. has same (cond b xs (xs ++ x ∷ [])) k) there ∙ or_known (has same xs k) (same x k) (λ l. sym (has_like xs x k l) ∙ there))
      (λ (lacked : has same xs x ≡ false).
      ap (λ b. has same (cond b xs (xs ++ x ∷ [])) k) lacked
      ∙ list_any-append (λ y. same y k) xs (x ∷ [])
      ∙ ap (λ b. has same xs k || b) (or-false (same x k)))
      (cases_Bool (has same xs x))

  pub has_with_all : (xs ys : List K) (k : K) → has same (with_all same xs ys) k ≡ (has same xs k || has same ys k)
  has_with_all xs [] k = sym (or-false (has same xs k))
  has_with_all xs (y ∷ ys) k = has_with_all (added same xs y) ys k ∙ ap (λ b. b || has same ys k) (has_added xs y k) ∙ or_assoc (has same xs k) (same y k) (has same ys k)

  -- ── adding in parts ──
  with_added : (xs zs : List K) (y : K) → with_all same xs (added same zs y) ≡ added same (with_all same xs zs) y
  with_added xs zs y =
      ⊎_elim
      (λ (there : has same zs y ≡ true).
      ap (λ b. with_all same xs (cond b zs (zs ++ y ∷ []))) there
      ∙ sym (cond-true (has same (with_all same xs zs) y) (with_all same xs zs) (with_all same xs zs ++ y ∷ []) (has_with_all xs zs y ∙ or_right (has same xs y) (has same zs y) there)))
      (λ (lacked : has same zs y ≡ false). ap (λ b. with_all same xs (cond b zs (zs ++ y ∷ []))) lacked ∙ fold_push (added same) xs zs y)
      (cases_Bool (has same zs y))

  pub with_all_assoc : (xs zs ys : List K) → with_all same xs (with_all same zs ys) ≡ with_all same (with_all same xs zs) ys
  with_all_assoc xs zs [] = refl
  with_all_assoc xs zs (y ∷ ys) = with_all_assoc xs (added same zs y) ys ∙ ap (λ ws. with_all same ws ys) (with_added xs zs y)

  -- a list adds what its different keys add
  pub with_different : (xs ys : List K) → with_all same xs (different same ys) ≡ with_all same xs ys
  with_different xs ys = with_all_assoc xs [] ys

  -- ── counting ──
  turned : (xs : List K) (k : K) → list_any (same k) xs ≡ has same xs k
  turned xs k = ap (λ (p : K → Bool). list_any p xs) (λ i x. e.symm k x i)

  -- lists of different keys with the same members are equally long
  pub as_many : (xs ys : List K) → Different same xs → Different same ys → ((k : K) → has same xs k ≡ has same ys k) → length xs ≡ length ys
  as_many xs ys a b h =
      length-from_keys e xs xs (IsDistinct-from_apart same xs a) (λ k. refl)
      ∙ sym (length-from_keys e ys xs (IsDistinct-from_apart same ys b) (λ k. turned ys k ∙ sym (h k) ∙ sym (turned xs k)))
