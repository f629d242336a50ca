-- What distinct counts show of rows.
use Rattle.std.proofs.Common.{◌≡◌, Bool, true, false, ◌||◌, List, [], ◌∷◌, length, pos, Some, None, Option, sym, refl, ap, ◌∙◌}
use Rattle.std.specs.Cmp.{IsEquivalence, both_ways}
use Rattle.std.specs.List.{Contains, list_any}
use Rattle.std.proofs.Math.Bool.{or-false}
use Rattle.std.proofs.lemmas.Bool.{true≢false}
use Rattle.std.proofs.lemmas.List.Folds.{Any-from_list_any, list_any-from_Any}
use Rattle.groups.specs.Kind.{joined}
use Rattle.distinct.specs.Members.{has}
use Rattle.distinct.specs.Distinct.{distinct, ListsValues, CountsDifferentValues}
use Rattle.distinct.proofs.Members.{has_with_all, as_many}

-- ── one that passes a test ───────────────────────────────────────────────
module _ {X : Type 0} (p : X → Bool) where
  find : (xs : List X) → list_any p xs ≡ true → (x : X) × Contains xs x × (p x ≡ true)
  find xs h = let a = Any-from_list_any p xs h in (a.1, (a.0, a.2, a.3), a.4)

  found : (xs : List X) (x : X) → Contains xs x → p x ≡ true → list_any p xs ≡ true
  found xs x h t = list_any-from_Any p xs (h.0, x, h.1, h.2, t)

-- ── rows ─────────────────────────────────────────────────────────────────
module _ {K : Type 0} {same : K → K → Bool} (e : IsEquivalence same) where
  -- whether a row's value is the same as k
  abbrev tells : K → Option K → Bool
  tells k None = false
  tells k (Some v) = same v k

  value_of : (rows : List (Option K)) (k : K) → list_any (tells k) rows ≡ true → (v : K) × Contains rows (Some v) × (same v k ≡ true)
  value_of rows k t = let f = find (tells k) rows t in a_value f.0 f.1 f.2
    where
      a_value : (r : Option K) → Contains rows r → tells k r ≡ true → (v : K) × Contains rows (Some v) × (same v k ≡ true)
      a_value None h w = absurd (true≢false (sym w))
      a_value (Some v) h w = (v, h, w)

  abbrev items : List (Option K) → List K
  items rows = (joined (distinct same) rows).items

  items_have : (rows : List (Option K)) (k : K) → has same (items rows) k ≡ list_any (tells k) rows
  items_have [] k = refl
  items_have (None ∷ rows) k = has_with_all e [] (items rows) k ∙ items_have rows k
  items_have (Some v ∷ rows) k =
      has_with_all e (v ∷ []) (items rows) k
      ∙ ap (λ b. b || has same (items rows) k) (or-false (same v k))
      ∙ ap (λ b. same v k || b) (items_have rows k)

  items_list : (rows : List (Option K)) → ListsValues same rows (items rows)
  items_list rows =
      record {
        once = (joined (distinct same) rows).apart;
        each = λ v h. find (λ x. same x v) (items rows) (items_have rows v ∙ found (tells v) rows (Some v) h (e.refl v));
        only = λ k h.
            let f = value_of rows k (sym (items_have rows k) ∙ found (λ x. same x k) (items rows) k h (e.refl k)) in
            (f.0, f.1, e.symm k f.0 ∙ f.2);
      }

  listed_as_many : (rows : List (Option K)) (ks : List K) → ListsValues same rows ks → length (items rows) ≡ length ks
  listed_as_many rows ks l =
      as_many e (items rows) ks (joined (distinct same) rows).apart l.once (λ k. both_ways (has same (items rows) k) (has same ks k) (to k) (from k))
    where
      to : (k : K) → has same (items rows) k ≡ true → has same ks k ≡ true
      to k t =
          let f = value_of rows k (sym (items_have rows k) ∙ t) in
          let g = l.each f.0 f.1 in
          found (λ x. same x k) ks g.0 g.1 (e.congr g.0 f.0 k g.2 ∙ f.2)

      from : (k : K) → has same ks k ≡ true → has same (items rows) k ≡ true
      from k t =
          let f = find (λ x. same x k) ks t in
          let g = l.only f.0 f.1 in
          items_have rows k ∙ found (tells k) rows (Some g.0) g.1 (sym (e.congr f.0 g.0 k g.2) ∙ f.2)

  pub counts_different_values : CountsDifferentValues same
  counts_different_values = record { kept = items_list; count = λ rows ks l. ap (λ n. Some (pos n)) (listed_as_many rows ks l) }
