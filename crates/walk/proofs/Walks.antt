-- The walk by row numbers: what is left of the rows, and a loop's step.
use Rattle.std.proofs.Common.{◌≡◌, ℕ, ◌+◌, ◌<◌, ◌≤◌, Bool, true, false, cond, ◌&&◌, List, [], ◌∷◌, map, length, get_or, drop, sym, refl, ap, ◌∙◌, subst, arith}
use Rattle.std.specs.List.{zip, range_with_len, All, AllByRecursion}
use Rattle.std.proofs.ByRecursion.{All-get_or}
use Rattle.std.proofs.lemmas.List.Elements.{All-from_recursion, recursion_from_All}
use Rattle.std.proofs.lemmas.List.{drop_more, drop_all, drop-drop}
use Rattle.std.proofs.lemmas.Slice.Zip.{length-zip, get_or-zip}
use Rattle.std.proofs.lemmas.Bool.{and_from, and_left, and_right}
use Rattle.columnar.specs.Rows.{cells_from}
use Rattle.walk.specs.Visits.{visits, told_all, Tests}

-- the visits that are left, after m, come to what all of them do after m₀, and if they all fit, then all do
pub record Walked {V M : Type 0} (after : M → ℕ → V → M) (fit : V → Type 0) (all : List (ℕ × V)) (m₀ m : M) (rest : List (ℕ × V)) : Type 0 where
  pub left : told_all after m rest ≡ told_all after m₀ all
  pub fits : AllByRecursion (λ (v : ℕ × V). fit v.1) rest → AllByRecursion (λ (v : ℕ × V). fit v.1) all

module _ {V M : Type 0} {after : M → ℕ → V → M} {fit : V → Type 0} {all rest : List (ℕ × V)} {m₀ m : M} (w : Walked after fit all m₀ m rest) where
  walked_visit : {rest' : List (ℕ × V)} {g : ℕ} {x : V} {m' : M} → rest ≡ (g, x) ∷ rest' → m' ≡ after m g x → fit x → Walked after fit all m₀ m' rest'
  walked_visit {rest'} {g} {x} next told fits = record {
    left = ap (λ s. told_all after s rest') told ∙ ap (told_all after m) (sym next) ∙ w.left;
    fits = λ h. w.fits (subst (AllByRecursion (λ (v : ℕ × V). fit v.1)) (sym next) (fits, h));
  }

  walked_skip : {rest' : List (ℕ × V)} {m' : M} → rest ≡ rest' → m' ≡ m → Walked after fit all m₀ m' rest'
  walked_skip {rest'} next same = record {
    left = ap (λ s. told_all after s rest') same ∙ ap (told_all after m) (sym next) ∙ w.left;
    fits = λ h. w.fits (subst (AllByRecursion (λ (v : ℕ × V). fit v.1)) (sym next) h);
  }

  pub walked_told : rest ≡ [] → m ≡ told_all after m₀ all
  walked_told end = ap (told_all after m) (sym end) ∙ w.left

  pub walked_fits : rest ≡ [] → AllByRecursion (λ (v : ℕ × V). fit v.1) all
  walked_fits end =
      let none : AllByRecursion (λ (v : ℕ × V). fit v.1) [] = tt in
      w.fits (subst (AllByRecursion (λ (v : ℕ × V). fit v.1)) (sym end) none)

-- the elements whose row number passes, where the first of them is row i
abbrev kept_from : {X : Type 0} → (ℕ → Bool) → ℕ → List X → List X
kept_from p i [] = []
kept_from p i (x ∷ xs) = cond (p i) (x ∷ kept_from p (i + 1) xs) (kept_from p (i + 1) xs)

abbrev both : (ℕ → Bool) → (ℕ → Bool) → ℕ → Bool
both p q j = p j && q j

visits_from : {V : Type 0} (p q : ℕ → Bool) (i : ℕ) (gs : List ℕ) (xs : List V) → visits gs (cells_from p i xs) (map q (range_with_len i (length gs))) ≡ kept_from (both p q) i (zip gs xs)
visits_from p q i [] xs = refl
visits_from p q i (g ∷ gs) [] = refl
visits_from p q i (g ∷ gs) (x ∷ xs) = ap (λ r. cond (p i && q i) ((g, x) ∷ r) r) (visits_from p q (i + 1) gs xs)

-- whatever tests they are by which the rows are told apart, those from row i on are left
pub record WalkedRows {V M : Type 0} (after : M → ℕ → V → M) (fit : V → Type 0) (valid passes : ℕ → Bool → Type 0) (gs : List ℕ) (xs : List V) (m₀ m : M) (i : ℕ) : Type 0 where
  by_tests : (p q : ℕ → Bool) → Tests valid p (length gs) → Tests passes q (length gs) → Walked after fit (kept_from (both p q) 0 (zip gs xs)) m₀ m (kept_from (both p q) i (drop i (zip gs xs)))

at_row : {V : Type 0} (gs : List ℕ) (xs : List V) (i : ℕ) (x : V) → i < length gs → length xs ≡ length gs → x ≡ get_or xs i x → drop i (zip gs xs) ≡ (get_or gs i 0, x) ∷ drop (i + 1) (zip gs xs)
at_row {V} gs xs i x h e read =
    let lx : i < length xs = omega arith in
    let lz : i < length (zip gs xs) = omega (arith, length-zip gs xs) in
    drop_more (zip gs xs) i (0, x) lz
    ∙ ap (λ (y : ℕ × V). y ∷ drop (i + 1) (zip gs xs)) (get_or-zip gs xs i (0, x) h lx)
    ∙ ap (λ y. (get_or gs i 0, y) ∷ drop (i + 1) (zip gs xs)) (sym read)

kept_yes : {X : Type 0} (p : ℕ → Bool) (i : ℕ) (z : X) (zs : List X) → p i ≡ true → kept_from p i (z ∷ zs) ≡ z ∷ kept_from p (i + 1) zs
kept_yes p i z zs e = rw e

kept_no : {X : Type 0} (p : ℕ → Bool) (i : ℕ) (zs : List X) → p i ≡ false → kept_from p i zs ≡ kept_from p (i + 1) (drop 1 zs)
kept_no p i [] e = refl
kept_no p i (z ∷ zs) e = rw e

pub rows_none : {V M : Type 0} {after : M → ℕ → V → M} {fit : V → Type 0} {valid passes : ℕ → Bool → Type 0} {gs : List ℕ} {xs : List V} {m₀ : M} → WalkedRows after fit valid passes gs xs m₀ m₀ 0
rows_none = record { by_tests = λ p q s t. record { left = refl; fits = λ h. h } }

module _ {V M : Type 0} {after : M → ℕ → V → M} {fit : V → Type 0} {valid passes : ℕ → Bool → Type 0} {gs : List ℕ} {xs : List V} {m₀ m : M} {i : ℕ} (w : WalkedRows after fit valid passes gs xs m₀ m i) where
  pub rows_visit : {m' : M} {x : V} {a b : Bool} → i < length gs → valid i a → a ≡ true → passes i b → b ≡ true → length xs ≡ length gs → x ≡ get_or xs i x → m' ≡ after m (get_or gs i 0) x → fit x → WalkedRows after fit valid passes gs xs m₀ m' (i + 1)
  rows_visit {m'} {x} {a} {b} h v is_valid u lets e read told fits = record {
    by_tests = λ p q s t. walked_visit (w.by_tests p q s t) (ap (kept_from (both p q) i) (at_row gs xs i x h e read) ∙ kept_yes (both p q) i (get_or gs i 0, x) (drop (i + 1) (zip gs xs)) (and_from (p i) (q i) (sym (s i a h v) ∙ is_valid) (sym (t i b h u) ∙ lets))) told fits;
  }

  rows_skip : {m' : M} → ((p q : ℕ → Bool) → Tests valid p (length gs) → Tests passes q (length gs) → (p i && q i) ≡ false) → m' ≡ m → WalkedRows after fit valid passes gs xs m₀ m' (i + 1)
  rows_skip {m'} fails same = record {
    by_tests = λ p q s t. walked_skip (w.by_tests p q s t) (kept_no (both p q) i (drop i (zip gs xs)) (fails p q s t) ∙ ap (kept_from (both p q) (i + 1)) (drop-drop 1 i (zip gs xs))) same;
  }

  pub rows_null : {m' : M} {a : Bool} → i < length gs → valid i a → a ≡ false → m' ≡ m → WalkedRows after fit valid passes gs xs m₀ m' (i + 1)
  rows_null {m'} {a} h v null same = rows_skip (λ p q s t. and_left (p i) (q i) (sym (s i a h v) ∙ null)) same

  pub rows_kept_out : {m' : M} {b : Bool} → i < length gs → passes i b → b ≡ false → m' ≡ m → WalkedRows after fit valid passes gs xs m₀ m' (i + 1)
  rows_kept_out {m'} {b} h u out same = rows_skip (λ p q s t. and_right (p i) (q i) (sym (t i b h u) ∙ out)) same

  module _ (h : length gs ≤ i) (p q : ℕ → Bool) (s : Tests valid p (length gs)) (t : Tests passes q (length gs)) where
    rows_end : kept_from (both p q) i (drop i (zip gs xs)) ≡ []
    rows_end = ap (kept_from (both p q) i) (drop_all i (zip gs xs) (omega (arith, length-zip gs xs)))

    pub rows_told : m ≡ told_all after m₀ (visits gs (cells_from p 0 xs) (map q (range_with_len 0 (length gs))))
    rows_told = walked_told (w.by_tests p q s t) rows_end ∙ ap (told_all after m₀) (sym (visits_from p q 0 gs xs))

    pub rows_fits : All (λ (v : ℕ × V). fit v.1) (visits gs (cells_from p 0 xs) (map q (range_with_len 0 (length gs))))
    rows_fits = subst (All (λ (v : ℕ × V). fit v.1)) (sym (visits_from p q 0 gs xs)) (All-from_recursion _ _ (walked_fits (w.by_tests p q s t) rows_end))

pub named_below : (n : ℕ) (gs : List ℕ) (i : ℕ) → All (λ k. k < n) gs → i < length gs → get_or gs i 0 < n
named_below n gs i all h = All-get_or (λ k. k < n) gs i 0 h (recursion_from_All (λ k. k < n) gs all)

pub groups_same : {X : Type 0} {a b : ℕ × X} → a ≡ b → a.0 ≡ b.0
groups_same e = ap (λ y. y.0) e
