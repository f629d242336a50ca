-- Groups shown and removed: the memory and the credits.
use Rattle.std.proofs.Common.{◌≡◌, ℕ, zero, suc, ◌≤◌, Bool, true, false, cond, not, ◌&&◌, ltb, List, [], ◌∷◌, map, length, take, drop, is_some, Some, None, Option, sym, refl, ap, ◌∙◌, ap₂, arith}
use Rattle.std.proofs.lemmas.List.{length-take-le, take_all, drop_all, take-take}
use Rattle.std.proofs.lemmas.Bool.{le-ltb, ltb-false}
use Rattle.columnar.specs.Cells.{handed, over}
use Rattle.buffers.specs.Memory.{flat_column}
use Rattle.groups.specs.declared.emit.EmitTo.{EmitTo}
use Rattle.groups.specs.declared.emit.EmitTo.TheVariants.{All, First}
use Rattle.groups.specs.Emits.{taken, others, count_of, too_many, resets}
use Rattle.groups.specs.Kind.{by_nulls}
use Rattle.groups.specs.Tally.{left_by}
use Rattle.groups.specs.Seen.{in_force}
use Rattle.prim_op.specs.Kept.{credits_of, Unset}
use Rattle.prim_op.proofs.Updates.{forced_length}
use Rattle.prim_op.proofs.Calls.{credits_length}

-- ── which groups ─────────────────────────────────────────────────────────
pub taken_is : {A : Type 0} (e : EmitTo) (xs : List A) → taken e xs ≡ take (count_of e (length xs)) xs
taken_is All xs = sym (take_all (length xs) xs (omega arith))
taken_is (First n) xs = refl

pub others_is : {A : Type 0} (e : EmitTo) (xs : List A) → others e xs ≡ drop (count_of e (length xs)) xs
others_is All xs = sym (drop_all (length xs) xs (omega arith))
others_is (First n) xs = refl

pub too_many_is : (e : EmitTo) (kept : ℕ) → too_many e kept ≡ ltb kept (count_of e kept)
too_many_is All kept = sym (le-ltb kept kept (omega arith))
too_many_is (First n) kept = refl

-- the marks of a plain switch make no mask
mask_same : (plain : Bool) (n kept : ℕ) (marks : List Bool) → n ≤ kept → cond (not plain) (Some (take n (in_force plain kept marks))) None ≡ cond (not plain) (Some (take n marks)) None
mask_same true n kept marks h = refl
mask_same false n kept marks h = ap Some (take-take n kept marks h)

pub many_is : {C : Type 0} (e : EmitTo) (cs : List C) (kept rows : ℕ) (b : Bool) → length cs ≡ kept → rows ≡ count_of e kept → ltb kept rows ≡ b → too_many e (length cs) ≡ b
many_is e cs kept rows b l r h = ap (too_many e) l ∙ too_many_is e kept ∙ ap (ltb kept) (sym r) ∙ h

peel : {E : Type 0} (b : Bool) (e : E) (rest : Option E) → cond b (Some e) rest ≡ None → b ≡ false
peel true e rest h = let z : ◌≡◌ {A = ℕ} 0 1 = cc in absurd (omega arith)
peel false e rest h = refl

-- an emission that is not refused is of kept groups
pub few_enough : {C R : Type 0} (e : EmitTo) (cs : List C) (kept : ℕ) (r : R) (rest : Option R) → length cs ≡ kept → cond (too_many e (length cs)) (Some r) rest ≡ None → count_of e kept ≤ kept
few_enough e cs kept r rest l h = ltb-false kept (count_of e kept) (sym (too_many_is e kept) ∙ sym (ap (too_many e) l) ∙ peel (too_many e (length cs)) r rest h)

-- ── credits of a part ────────────────────────────────────────────────────
module _ {E : Type 0} where
  pub credits_take : (n : ℕ) (ms : List Bool) (vs : List E) → take n (credits_of ms vs) ≡ credits_of (take n ms) (take n vs)
  credits_take zero ms vs = refl
  credits_take (suc n) [] vs = refl
  credits_take (suc n) (m ∷ ms) [] = refl
  credits_take (suc n) (m ∷ ms) (v ∷ vs) = ap (λ cs. cond m (Some v) None ∷ cs) (credits_take n ms vs)

  pub credits_drop : (n : ℕ) (ms : List Bool) (vs : List E) → length ms ≡ length vs → drop n (credits_of ms vs) ≡ credits_of (drop n ms) (drop n vs)
  credits_drop zero ms vs e = refl
  credits_drop (suc n) [] [] e = refl
  credits_drop (suc n) [] (v ∷ vs) e = absurd (omega arith)
  credits_drop (suc n) (m ∷ ms) [] e = absurd (omega arith)
  credits_drop (suc n) (m ∷ ms) (v ∷ vs) e = credits_drop n ms vs (omega arith)

  pub unset_drop : (start : E) (n : ℕ) (ms : List Bool) (vs : List E) → length ms ≡ length vs → Unset start ms vs → Unset start (drop n ms) (drop n vs)
  unset_drop start zero ms vs e h = h
  unset_drop start (suc n) [] [] e h = tt
  unset_drop start (suc n) [] (v ∷ vs) e h = absurd (omega arith)
  unset_drop start (suc n) (m ∷ ms) [] e h = absurd (omega arith)
  unset_drop start (suc n) (m ∷ ms) (v ∷ vs) e h = unset_drop start n ms vs (omega arith) h.1

  unset_take : (start : E) (n : ℕ) (ms : List Bool) (vs : List E) → Unset start ms vs → Unset start (take n ms) (take n vs)
  unset_take start zero ms vs h = tt
  unset_take start (suc n) [] vs h = tt
  unset_take start (suc n) (m ∷ ms) [] h = tt
  unset_take start (suc n) (m ∷ ms) (v ∷ vs) h = (h.0, unset_take start n ms vs h.1)

  -- ── what is shown ──
  some_if : (m : Bool) (v : E) → is_some (cond m (Some v) None) ≡ m
  some_if true v = refl
  some_if false v = refl

  figure_if : (start : E) (m : Bool) (v : E) → (m ≡ false → v ≡ start) → (over start (cond m (Some v) None)).figure ≡ v
  figure_if start true v h = refl
  figure_if start false v h = sym (h refl)

  marks_shown : (ms : List Bool) (vs : List E) → length ms ≡ length vs → map is_some (map (λ c. c) (credits_of ms vs)) ≡ ms
  marks_shown [] [] e = refl
  marks_shown [] (v ∷ vs) e = absurd (omega arith)
  marks_shown (m ∷ ms) [] e = absurd (omega arith)
  marks_shown (m ∷ ms) (v ∷ vs) e = ap₂ (λ b bs. b ∷ bs) (some_if m v) (marks_shown ms vs (omega arith))

  values_shown : (start : E) (ms : List Bool) (vs : List E) → length ms ≡ length vs → Unset start ms vs → map (λ o. (over start o).figure) (map (λ c. c) (credits_of ms vs)) ≡ vs
  values_shown start [] [] e h = refl
  values_shown start [] (v ∷ vs) e h = absurd (omega arith)
  values_shown start (m ∷ ms) [] e h = absurd (omega arith)
  values_shown start (m ∷ ms) (v ∷ vs) e h = ap₂ (λ x xs. x ∷ xs) (figure_if start m v h.0) (values_shown start ms vs (omega arith) h.1)

  shown_by : (start : E) (masked : Bool) (ms : List Bool) (vs : List E) → length ms ≡ length vs → Unset start ms vs → handed masked start (map (λ c. c) (credits_of ms vs)) ≡ record { mask = cond masked (Some ms) None; figures = vs }
  shown_by start masked ms vs e h =
      ap (λ bs. record { mask = cond masked (Some bs) None; figures = map (λ o. (over start o).figure) (map (λ c. c) (credits_of ms vs)) }) (marks_shown ms vs e)
      ∙ ap (λ xs. record { mask = cond masked (Some ms) None; figures = xs }) (values_shown start ms vs e h)

  -- what is laid down is what the credits show
  pub laid_is_shown : (start : E) (plain : Bool) (e : EmitTo) (kept : ℕ) (marks : List Bool) (values : List E) → kept ≤ length marks → kept ≤ length values → count_of e kept ≤ kept → Unset start (in_force plain kept marks) (take kept values)
      → flat_column values marks (count_of e kept) (not plain) ≡ handed (not plain) start (map (λ c. c) (taken e (credits_of (in_force plain kept marks) (take kept values))))
  laid_is_shown start plain e kept marks values hm hv few unset =
      let n = count_of e kept in
      let ms = in_force plain kept marks in
      let vs = take kept values in
      let lm : length ms ≡ kept = forced_length plain kept marks hm in
      let lv : length vs ≡ kept = length-take-le kept values hv in
      let lc : length (credits_of ms vs) ≡ kept = credits_length ms vs (lm ∙ sym lv) ∙ lv in
      let part : taken e (credits_of ms vs) ≡ credits_of (take n ms) (take n vs) = taken_is e (credits_of ms vs) ∙ ap (λ k. take (count_of e k) (credits_of ms vs)) lc ∙ credits_take n ms vs in
      let am : length (take n ms) ≡ n = length-take-le n ms (omega arith) in
      let av : length (take n vs) ≡ n = length-take-le n vs (omega arith) in
      sym (
      ap (λ cs. handed (not plain) start (map (λ c. c) cs)) part
      ∙ shown_by start (not plain) (take n ms) (take n vs) (am ∙ sym av) (unset_take start n ms vs unset)
      ∙ ap (λ m. record { mask = m; figures = take n vs }) (mask_same plain n kept marks few)
      ∙ ap (λ xs. record { mask = cond (not plain) (Some (take n marks)) None; figures = xs }) (take-take n kept values few))

-- ── what a removal leaves ────────────────────────────────────────────────
pub switch_left : (e : EmitTo) (plain plain' : Bool) → plain' ≡ cond (resets e) true plain → not plain' ≡ left_by by_nulls e (not plain)
switch_left e plain plain' h = ap not h ∙ elim (resets e) as (λ r. not (cond r true plain) ≡ (not plain && not r)) [ true ↦ and_none (not plain) | false ↦ and_all (not plain) ]
  where
    and_none : (b : Bool) → false ≡ (b && false)
    and_none true = refl
    and_none false = refl

    and_all : (b : Bool) → b ≡ (b && true)
    and_all true = refl
    and_all false = refl

module _ {E : Type 0} (e : EmitTo) (ms : List Bool) (vs vs' : List E) (kept : ℕ) (lm : length ms ≡ kept) (lv : length vs ≡ kept) (moved : vs' ≡ drop (count_of e kept) vs) where
  others_marks : others e ms ≡ drop (count_of e kept) ms
  others_marks = others_is e ms ∙ ap (λ k. drop (count_of e k) ms) lm

  pub credits_left : credits_of (others e ms) vs' ≡ others e (credits_of ms vs)
  credits_left =
      let lc : length (credits_of ms vs) ≡ kept = credits_length ms vs (lm ∙ sym lv) ∙ lv in
      ap₂ credits_of others_marks moved ∙ sym (others_is e (credits_of ms vs) ∙ ap (λ k. drop (count_of e k) (credits_of ms vs)) lc ∙ credits_drop (count_of e kept) ms vs (lm ∙ sym lv))

  pub unset_left : (start : E) → Unset start ms vs → Unset start (others e ms) vs'
  unset_left start h = rw (others_marks, moved) (unset_drop start (count_of e kept) ms vs (lm ∙ sym lv) h)
