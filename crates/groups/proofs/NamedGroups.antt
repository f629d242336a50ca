-- The table of named groups.
use Rattle.std.proofs.Common.{◌≡◌, ℕ, zero, suc, ◌+◌, ◌-◌, ◌<◌, ◌≤◌, Bool, true, false, cond, ◌&&◌, ◌||◌, eqb, leb, ◌⊎◌, List, [], ◌∷◌, ◌++◌, length, get_or, take, drop, set, replicate, sym, refl, ap, ◌∙◌, ap₂, subst, inl, inr, ⊎_elim, arith}
use Rattle.std.proofs.Math.Seq.{drop-cons}
use Rattle.std.specs.List.{list_all}
use Rattle.std.proofs.lemmas.List.{length-set, length-append, length-take-le, length-replicate, length-drop, get_or-set_same, get_or-set_other, get_or_append_left, get_or-append_right, get_or-replicate, take-set-le, take_at}
use Rattle.std.proofs.lemmas.Bool.{le-leb, cases_Bool, cases_eq, eq-eqb, ne_eqb, cond-true, cond-false, leb-true}
use Rattle.groups.specs.Lists.{has, names_from}
use Rattle.groups.specs.Moves.{refilled}
use Rattle.groups.specs.Named.{named_marks}

-- one step of the table
abbrev step : ℕ → List Bool → ℕ → List Bool
step kept ms g = cond (leb kept g) (set ms g true) ms

step_length : (kept g : ℕ) (ms : List Bool) → length (step kept ms g) ≡ length ms
step_length kept g ms = elim (leb kept g) as (λ b. length (cond b (set ms g true) ms) ≡ length ms) [ true ↦ length-set ms g true | false ↦ refl ]

step_take : (kept g : ℕ) (ms : List Bool) → take kept (step kept ms g) ≡ take kept ms
step_take kept g ms =
    ⊎_elim (λ t. ap (take kept) (cond-true (leb kept g) (set ms g true) ms t) ∙ take-set-le kept ms g true (leb-true kept g t)) (λ f. ap (take kept) (cond-false (leb kept g) (set ms g true) ms f)) (cases_Bool (leb kept g))

-- a place past the kept groups has its own mark, or that of the group that is named
step_at : (kept g k : ℕ) (ms : List Bool) → kept ≤ k → k < length ms → get_or (step kept ms g) k false ≡ (eqb k g || get_or ms k false)
step_at kept g k ms h l = go (cases_eq k g)
  where
    go : (k ≡ g) ⊎ (k ≡ g → ⊥) → get_or (step kept ms g) k false ≡ (eqb k g || get_or ms k false)
    go (inl e) =
        let named : leb kept g ≡ true = le-leb kept g (omega arith) in
        ap (λ s. get_or s k false) (cond-true (leb kept g) (set ms g true) ms named)
        ∙ subst (λ n. get_or (set ms n true) k false ≡ true) e (get_or-set_same ms k true false l)
        ∙ ap (λ b. b || get_or ms k false) (sym (eq-eqb k g e))
    go (inr ne) =
        elim (leb kept g) as (λ b. get_or (cond b (set ms g true) ms) k false ≡ get_or ms k false) [ true ↦ get_or-set_other ms g k true false ne | false ↦ refl ]
        ∙ ap (λ b. b || get_or ms k false) (sym (ne_eqb k g ne))

or_none : (a : Bool) → a ≡ (a || false)
or_none true = refl
or_none false = refl

or_swap : (a b c : Bool) → ((a || b) || c) ≡ (b || (a || c))
or_swap true true c = refl
or_swap true false c = refl
or_swap false true c = refl
or_swap false false c = refl

named_at : (kept k : ℕ) (ms : List Bool) (gs : List ℕ) → kept ≤ k → k < length ms → get_or (named_marks kept ms gs) k false ≡ (get_or ms k false || has k gs)
named_at kept k ms [] h l = or_none (get_or ms k false)
named_at kept k ms (g ∷ gs) h l =
    named_at kept k (step kept ms g) gs h (omega (arith, step_length kept g ms))
    ∙ ap (λ b. b || has k gs) (step_at kept g k ms h l)
    ∙ or_swap (eqb k g) (get_or ms k false) (has k gs)

pub named_length : (kept : ℕ) (ms : List Bool) (gs : List ℕ) → length (named_marks kept ms gs) ≡ length ms
named_length kept ms [] = refl
named_length kept ms (g ∷ gs) = named_length kept (step kept ms g) gs ∙ step_length kept g ms

named_take : (kept : ℕ) (ms : List Bool) (gs : List ℕ) → take kept (named_marks kept ms gs) ≡ take kept ms
named_take kept ms [] = refl
named_take kept ms (g ∷ gs) = named_take kept (step kept ms g) gs ∙ step_take kept g ms

-- where each place says whether its number is in the list, all of them are set exactly where all numbers are
all_named : (m : List Bool) (gs : List ℕ) (from count : ℕ) → from + count ≤ length m → ((k : ℕ) → from ≤ k → k < from + count → get_or m k false ≡ has k gs)
    → list_all (λ mark. mark) (take count (drop from m)) ≡ names_from from count gs
all_named m gs from zero l at = refl
all_named m gs from (suc count) l at =
    ap (λ xs. list_all (λ mark. mark) (take (suc count) xs)) (drop-cons m from false (omega arith))
    ∙ ap₂ (λ a b. a && b) (at from (omega arith) (omega arith)) (all_named m gs (suc from) count (omega arith) (λ k a b. at k (omega arith) (omega arith)))

module _ (xs : List Bool) (from to : ℕ) (h : from ≤ to) (l : to ≤ length xs) where
  front : length (take from xs) ≡ from
  front = length-take-le from xs (omega arith)

  mid : length (replicate (to - from) false) ≡ to - from
  mid = length-replicate (to - from) false

  pub refilled_length : length (refilled xs from to false) ≡ length xs
  refilled_length =
      omega (arith, length-append (take from xs) (replicate (to - from) false ++ drop to xs), length-append (replicate (to - from) false) (drop to xs), front, mid, length-drop to xs)

  pub refilled_at : (k : ℕ) → from ≤ k → k < to → get_or (refilled xs from to false) k false ≡ false
  refilled_at k a b =
      let n : k - from < length (replicate (to - from) false) = omega (arith, mid) in
      get_or-append_right (take from xs) _ from k false front a
      ∙ get_or_append_left (replicate (to - from) false) (drop to xs) false (k - from) n
      ∙ get_or-replicate (to - from) (k - from) false false (omega arith)

  module _ (gs : List ℕ) where
    abbrev table : List Bool
    table = named_marks from (refilled xs from to false) gs

    pub names_answer : list_all (λ mark. mark) (take (to - from) (drop from table)) ≡ names_from from (to - from) gs
    names_answer =
        all_named table gs from (to - from) (omega (arith, named_length from (refilled xs from to false) gs, refilled_length))
        (λ k a b.
        let unset = refilled_at k a (omega arith) in
        named_at from k (refilled xs from to false) gs a (omega (arith, refilled_length)) ∙ ap (λ m. m || has k gs) unset)

    pub table_front : take from table ≡ take from xs
    table_front = named_take from (refilled xs from to false) gs ∙ take_at (take from xs) _ from front
