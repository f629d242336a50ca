-- That groups are named, as a test says it and by the rows that name them.
use Rattle.std.proofs.Common.{◌≡◌, ℕ, zero, suc, ◌+◌, ◌<◌, ◌≤◌, Bool, true, false, ◌||◌, eqb, ◌⊎◌, List, [], ◌∷◌, length, get_or, sym, refl, ap, ◌∙◌, subst, inl, inr, ⊎_elim, arith}
use Rattle.std.specs.List.{ContainsAt as Has}
use Rattle.std.proofs.lemmas.Bool.{both_ways, eq-eqb, eqb-true, and_from, and_parts, cases_lt}
use Rattle.groups.specs.Lists.{has, names_from}

-- each group from the kept number up to the total is named by a row
abbrev pub AllNamed : ℕ → ℕ → List ℕ → Type 0
AllNamed kept total gs = (k : ℕ) → kept ≤ k → k < total → Has gs k

or_true : (b : Bool) → (b || true) ≡ true
or_true true = refl
or_true false = refl

or_either : (a b : Bool) → (a || b) ≡ true → (a ≡ true) ⊎ (b ≡ true)
or_either true b e = inl refl
or_either false b e = inr e

has_true : (k : ℕ) (gs : List ℕ) (i : ℕ) → i < length gs → get_or gs i 0 ≡ k → has k gs ≡ true
has_true k [] i h e = absurd (omega arith)
has_true k (g ∷ gs) zero h e = ap (λ b. b || has k gs) (eq-eqb k g (sym e))
has_true k (g ∷ gs) (suc i) h e = ap (λ b. eqb k g || b) (has_true k gs i (omega arith) e) ∙ or_true (eqb k g)

has_Has : (k : ℕ) (gs : List ℕ) → has k gs ≡ true → Has gs k
has_Has k [] e = absurd (both_ways false refl e)
has_Has k (g ∷ gs) e =
    ⊎_elim (λ here. (0, omega arith, λ d. sym (eqb-true k g here))) (λ later. let t = has_Has k gs later in (suc t.0, omega (arith, t.1), λ d. t.2 d)) (or_either (eqb k g) (has k gs) e)

pub names_true : (from count : ℕ) (gs : List ℕ) → AllNamed from (from + count) gs → names_from from count gs ≡ true
names_true from zero gs all = refl
names_true from (suc count) gs all =
    let t = all from (omega arith) (omega arith) in
    and_from (has from gs) (names_from (suc from) count gs) (has_true from gs t.0 t.1 (t.2 0)) (names_true (suc from) count gs (λ k a b. all k (omega arith) (omega arith)))

pub names_all_lem : (from count : ℕ) (gs : List ℕ) → names_from from count gs ≡ true → AllNamed from (from + count) gs
names_all_lem from zero gs e k a b = absurd (omega arith)
names_all_lem from (suc count) gs e k a b =
    let parts = and_parts (has from gs) (names_from (suc from) count gs) e in
    ⊎_elim (λ later. names_all_lem (suc from) count gs parts.1 k (omega arith) (omega arith)) (λ here. let q : k ≡ from = omega arith in let P : ℕ → Type 0 = λ n. Has gs n in subst P (sym q) (has_Has from gs parts.0)) (cases_lt from k)
