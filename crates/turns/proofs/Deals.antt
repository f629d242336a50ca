-- Entries dealt to places: what a place gets, and that each place that is named gets something.
use Rattle.std.proofs.Common.{◌≡◌, ℕ, zero, suc, ◌+◌, ◌<◌, ◌≤◌, true, ◌⊎◌, List, [], ◌∷◌, ◌++◌, map, length, get_or, replicate, sym, refl, ap, ◌∙◌, subst, inl, inr, arith, length-append}
use lib.ListN.{length-replicate}
use Rattle.std.specs.List.{AllByRecursion}
use Rattle.std.proofs.lemmas.List.{get_or_append_left}
use Rattle.std.proofs.ByRecursion.{All-get_or, All-from_get_or}
use Rattle.std.proofs.lemmas.Bool.{cases_eq, cases_lt, and_parts, ne_eqb, false≢true}
use Rattle.groups.specs.Lists.{change, deal, has, names_from}

abbrev pub heads : {X : Type 0} → List (ℕ × X) → List ℕ
heads es = map (λ e. e.0) es

length_change : {A : Type 0} (f : A → A) (n : ℕ) (xs : List A) → length (change f n xs) ≡ length xs
length_change f n [] = refl
length_change f zero (x ∷ xs) = refl
length_change f (suc n) (x ∷ xs) = ap suc (length_change f n xs)

pub length_deal : {X A : Type 0} (f : A → X → A) (es : List (ℕ × X)) (xs : List A) → length (deal f es xs) ≡ length xs
length_deal f [] xs = refl
length_deal f (e ∷ es) xs = length_deal f es _ ∙ length_change (λ a. f a e.1) e.0 xs

pub change_same : {A : Type 0} (f : A → A) (n : ℕ) (xs : List A) (d : A) → n < length xs → get_or (change f n xs) n d ≡ f (get_or xs n d)
change_same f n [] d h = absurd (omega arith)
change_same f zero (x ∷ xs) d h = refl
change_same f (suc n) (x ∷ xs) d h = change_same f n xs d (omega arith)

pub change_other : {A : Type 0} (f : A → A) (n k : ℕ) (xs : List A) (d : A) → (k ≡ n → ⊥) → get_or (change f n xs) k d ≡ get_or xs k d
change_other f n k [] d h = refl
change_other f zero zero (x ∷ xs) d h = absurd (h refl)
change_other f zero (suc k) (x ∷ xs) d h = refl
change_other f (suc n) zero (x ∷ xs) d h = refl
change_other f (suc n) (suc k) (x ∷ xs) d h = change_other f n k xs d (λ e. h (ap suc e))

has_skip : (k m : ℕ) (ms : List ℕ) → (k ≡ m → ⊥) → has k (m ∷ ms) ≡ true → has k ms ≡ true
has_skip k m ms ne h = rw (ne_eqb k m ne) at h

names_at : (from count : ℕ) (ms : List ℕ) (k : ℕ) → names_from from count ms ≡ true → from ≤ k → k < from + count → has k ms ≡ true
names_at from zero ms k h l u = absurd (omega arith)
names_at from (suc count) ms k h l u =
    let both = and_parts _ _ h in
    go (names_at (suc from) count ms k both.1) (cases_eq k from)
  where
    go : (suc from ≤ k → k < suc from + count → has k ms ≡ true) → (k ≡ from) ⊎ (k ≡ from → ⊥) → has k ms ≡ true
    go below (inl e) = subst (λ n. has n ms ≡ true) (sym e) (and_parts _ _ h).0
    go below (inr ne) = below (omega arith) (omega arith)

module _ {X A : Type 0} (P : A → Type 0) (Good : X → Type 0) (f : A → X → A) (make : (a : A) (x : X) → Good x → P (f a x)) where
  deal_at : (es : List (ℕ × X)) → AllByRecursion (λ e. Good e.1) es → (xs : List A) (k : ℕ) (d : A) → k < length xs
      → (P (get_or xs k d)) ⊎ (has k (heads es) ≡ true) → P (get_or (deal f es xs) k d)
  deal_at [] g xs k d l (inl p) = p
  deal_at [] g xs k d l (inr h) = absurd (false≢true h)
  deal_at (e ∷ es) g xs k d l s =
      deal_at es g.1 (change (λ a. f a e.1) e.0 xs) k d (rw (length_change (λ a. f a e.1) e.0 xs) l) (go s (cases_eq k e.0))
    where
      go : (P (get_or xs k d)) ⊎ (has k (e.0 ∷ heads es) ≡ true) → (k ≡ e.0) ⊎ (k ≡ e.0 → ⊥)
          → (P (get_or (change (λ a. f a e.1) e.0 xs) k d)) ⊎ (has k (heads es) ≡ true)
      go s (inl q) = inl (subst (λ n. P (get_or (change (λ a. f a e.1) n xs) k d)) q (rw (change_same (λ a. f a e.1) k xs d l) (make _ _ g.0)))
      go (inl p) (inr ne) = inl (rw (change_other (λ a. f a e.1) e.0 k xs d ne) p)
      go (inr h) (inr ne) = inr (has_skip k e.0 (heads es) ne h)

  -- after a batch of good entries that names every new place
  pub dealt_all : (old : List A) (new : A) (more : ℕ) (es : List (ℕ × X)) (gs : List ℕ) → heads es ≡ gs → AllByRecursion P old → AllByRecursion (λ e. Good e.1) es
      → names_from (length old) more gs ≡ true → AllByRecursion P (deal f es (old ++ replicate more new))
  dealt_all old new more es gs hs p g named =
      All-from_get_or P _ new (λ k l. deal_at es g (old ++ replicate more new) k new (bound k l) (go k (bound k l) (cases_lt k (length old))))
    where
      bound : (k : ℕ) → k < length (deal f es (old ++ replicate more new)) → k < length (old ++ replicate more new)
      bound k l = rw (length_deal f es (old ++ replicate more new)) at l

      go : (k : ℕ) → k < length (old ++ replicate more new) → (k < length old) ⊎ (length old ≤ k) → (P (get_or (old ++ replicate more new) k new)) ⊎ (has k (heads es) ≡ true)
      go k l (inl b) = inl (rw (get_or_append_left old (replicate more new) new k b) (All-get_or P old k new b p))
      go k l (inr b) = inr (rw hs (names_at (length old) more gs k named b (simp (length-append, length-replicate) at l)))
