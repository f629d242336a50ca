-- Offsets that may stand over items: the test of them decides, and what they bound.
use Rattle.std.proofs.Common.{◌≡◌, ℕ, zero, suc, ◌+◌, ◌-◌, ◌<◌, ◌≤◌, true, false, ◌||◌, List, [], ◌∷◌, map, length, drop, ℤ, pos, negsuc, ◌≤ℤ◌, Decides, sym, refl, ap, ◌∙◌, add-zero, add-one, arith}
use lib.Signed.{lt_z}
use Rattle.std.specs.List.{range_with_len}
use Rattle.std.proofs.lemmas.List.FromFn.{length-map-range_with_len}
use Rattle.std.proofs.lemmas.List.{at_drop_more, at_drop_all}
use Rattle.std.proofs.lemmas.Int.{ints}
use Rattle.std.proofs.lemmas.Bool.{or_parts, or_from, or_left, true≢false, false≢true}
use Rattle.columnar.specs.Cells.{cell, nulls}
use Rattle.columnar.specs.Lists.{OffsetsOk, natural, offset_at, list_at, list_cells}
use Rattle.columnar.specs.Refusals.{offsets_bad, offsets_refused}

at_least : (a b : ℤ) → lt_z b a ≡ false → a ≤ℤ b
at_least a b e = grind (arith, ints)

not_below : (a b : ℤ) → a ≤ℤ b → lt_z b a ≡ false
not_below a b h = grind (arith, ints)

-- from an offset on
record Follows (before : ℤ) (offsets : List ℤ) (items : ℕ) : Type 0 where
  ascending : (j : ℕ) → j < length offsets → offset_at (before ∷ offsets) j ≤ℤ offset_at offsets j
  last : offset_at (before ∷ offsets) (length offsets) ≤ℤ pos items

follows_from : (before : ℤ) (offsets : List ℤ) (items : ℕ) → offsets_bad before offsets items ≡ false → Follows before offsets items
follows_from before [] items e = record { ascending = λ j h. absurd (omega arith); last = at_least before (pos items) e }
follows_from before (o ∷ os) items e =
    let parts = or_parts (lt_z o before) (offsets_bad o os items) e in
    let rest = follows_from o os items parts.1 in
    let step : (j : ℕ) → j < suc (length os) → offset_at (before ∷ o ∷ os) j ≤ℤ offset_at (o ∷ os) j =
    λ j h. elim j as (λ k. k < suc (length os) → offset_at (before ∷ o ∷ os) k ≤ℤ offset_at (o ∷ os) k) [ zero ↦ λ l. at_least before o parts.0 | suc k ↦ λ l. rest.ascending k (omega arith) ] h in
    record { ascending = step; last = rest.last }

follows_to : (before : ℤ) (offsets : List ℤ) (items : ℕ) → Follows before offsets items → offsets_bad before offsets items ≡ false
follows_to before [] items f = not_below before (pos items) f.last
follows_to before (o ∷ os) items f =
    or_from (lt_z o before) (offsets_bad o os items) (not_below before o (f.ascending 0 (omega arith))) (follows_to o os items (record { ascending = λ j h. f.ascending (suc j) (omega arith); last = f.last }))

-- the loop over the offsets, the first of them held against 0
bad_refused : (offsets : List ℤ) (items : ℕ) → (length offsets ≡ 0 → ⊥) → offsets_bad (pos 0) offsets items ≡ offsets_refused offsets items
bad_refused [] items some = absurd (some refl)
bad_refused (o ∷ os) items some = refl

module _ (offsets : List ℤ) (items i : ℕ) (before : ℤ) (inv : offsets_bad before (drop i offsets) items ≡ offsets_bad (pos 0) offsets items) where
  next : i < length offsets → offsets_bad before (drop i offsets) items ≡ (lt_z (offset_at offsets i) before || offsets_bad (offset_at offsets i) (drop (i + 1) offsets) items)
  next h = at_drop_more (λ os. offsets_bad before os items) offsets i (pos 0) h

  pub bad_here : (x : ℤ) → i < length offsets → x ≡ offset_at offsets i → lt_z x before ≡ true → true ≡ offsets_refused offsets items
  bad_here x h read e =
      sym (sym (bad_refused offsets items (λ z. omega arith)) ∙ sym inv ∙ next h ∙ or_left _ _ (ap (λ y. lt_z y before) (sym read) ∙ e))

  pub bad_on : (x : ℤ) → i < length offsets → x ≡ offset_at offsets i → lt_z x before ≡ false → offsets_bad x (drop (i + 1) offsets) items ≡ offsets_bad (pos 0) offsets items
  bad_on x h read e =
      sym (ap (λ b. b || offsets_bad x (drop (i + 1) offsets) items) e)
      ∙ ap (λ y. lt_z y before || offsets_bad y (drop (i + 1) offsets) items) read
      ∙ sym (next h)
      ∙ inv

  pub bad_end : length offsets ≤ i → (length offsets ≡ 0 → ⊥) → lt_z (pos items) before ≡ offsets_refused offsets items
  bad_end h some = sym (at_drop_all (λ os. offsets_bad before os items) offsets i h) ∙ inv ∙ bad_refused offsets items some

-- the test decides
pub offsets_ok : (offsets : List ℤ) (items : ℕ) → offsets_refused offsets items ≡ false → OffsetsOk offsets items
offsets_ok [] items e = absurd (true≢false e)
offsets_ok (o ∷ os) items e =
    let parts = or_parts (lt_z o (pos 0)) (offsets_bad o os items) e in
    let rest = follows_from o os items parts.1 in
    let end : suc (length os) - 1 ≡ length os = omega arith in
    record {
      some = omega arith;
      first = at_least (pos 0) o parts.0;
      ascending = λ j h. rw (add-one) (rest.ascending j (omega arith));
      last = rw end rest.last;
    }

pub offsets_not_refused : (offsets : List ℤ) (items : ℕ) → OffsetsOk offsets items → offsets_refused offsets items ≡ false
offsets_not_refused [] items ok = let h : ◌<◌ 0 0 = ok.some in absurd (omega arith)
offsets_not_refused (o ∷ os) items ok =
    let end : suc (length os) - 1 ≡ length os = omega arith in
    let step : (j : ℕ) → j < length os → offset_at (o ∷ os) j ≤ℤ offset_at os j = λ j h. rw add-one at (ok.ascending j (omega arith)) in
    let last : offset_at (o ∷ os) (length os) ≤ℤ pos items = rw end at ok.last in
    or_from (lt_z o (pos 0)) (offsets_bad o os items) (not_below (pos 0) o ok.first) (follows_to o os items (record { ascending = step; last = last }))

-- an answer to either
pub decides_yes : {P : Type 0} → P → Decides true P
decides_yes p = (λ e. p, λ q. refl)

pub refused_decides : (offsets : List ℤ) (items : ℕ) → offsets_refused offsets items ≡ true → Decides false (OffsetsOk offsets items)
refused_decides offsets items e = (λ no. absurd (false≢true no), λ ok. sym (offsets_not_refused offsets items ok) ∙ e)

natural_order : (a b : ℤ) → pos 0 ≤ℤ a → a ≤ℤ b → natural a ≤ natural b
natural_order (pos m) (pos n) h l = omega (arith, ints)
natural_order (pos m) (negsuc n) h l = absurd (omega (arith, ints))
natural_order (negsuc m) b h l = absurd (omega (arith, ints))

-- what offsets that may stand bound
module _ (offsets : List ℤ) (items : ℕ) (ordered : offsets_refused offsets items ≡ false) where
  ok : OffsetsOk offsets items
  ok = offsets_ok offsets items ordered

  later : (i d : ℕ) → i + d < length offsets → offset_at offsets i ≤ℤ offset_at offsets (i + d)
  later i zero h = rw add-zero (omega (arith, ints))
  later i (suc d) h =
      let l : i + d + 1 < length offsets = omega arith in
      let before : i + d < length offsets = omega arith in
      let e : i + d + 1 ≡ i + suc d = omega arith in
      let step : offset_at offsets (i + d) ≤ℤ offset_at offsets (i + suc d) = rw e at (ok.ascending (i + d) l) in
      let first : offset_at offsets i ≤ℤ offset_at offsets (i + d) = later i d before in
      omega (arith, ints)

  -- each is at least 0
  pub offset_low : (j : ℕ) → j < length offsets → pos 0 ≤ℤ offset_at offsets j
  offset_low j l =
      let e : 0 + j ≡ j = omega arith in
      let m : offset_at offsets 0 ≤ℤ offset_at offsets j = rw e at (later 0 j (omega arith)) in
      let first : pos 0 ≤ℤ offset_at offsets 0 = ok.first in
      omega (arith, ints)

  offset_high : (j : ℕ) → j < length offsets → offset_at offsets j ≤ℤ pos items
  offset_high j l =
      let e : j + (length offsets - 1 - j) ≡ length offsets - 1 = omega arith in
      let m : offset_at offsets j ≤ℤ offset_at offsets (length offsets - 1) = rw e at (later j (length offsets - 1 - j) (omega arith)) in
      let last : offset_at offsets (length offsets - 1) ≤ℤ pos items = ok.last in
      omega (arith, ints)

  -- a row's part of the items
  pub row_order : (j : ℕ) → j + 1 < length offsets → natural (offset_at offsets j) ≤ natural (offset_at offsets (j + 1))
  row_order j l = natural_order _ _ (offset_low j (omega arith)) (ok.ascending j l)

  pub row_within : (j : ℕ) → j + 1 < length offsets → natural (offset_at offsets (j + 1)) ≤ items
  row_within j l = natural_order _ (pos items) (offset_low (j + 1) l) (offset_high (j + 1) l)

-- the rows as cells
pub length_lists : {V : Type 0} (offsets : List ℤ) (items : List V) → length (list_cells offsets items) ≡ length offsets - 1
length_lists offsets items = length-map-range_with_len (λ j. cell true (list_at offsets items j)) 0 (length offsets - 1)

valid_nulls : {V : Type 0} (f : ℕ → V) (a n : ℕ) → nulls (map (λ j. cell true (f j)) (range_with_len a n)) ≡ 0
valid_nulls f a zero = refl
valid_nulls f a (suc n) = valid_nulls f (a + 1) n

pub lists_nulls : {V : Type 0} (offsets : List ℤ) (items : List V) → nulls (list_cells offsets items) ≡ 0
lists_nulls offsets items = valid_nulls (list_at offsets items) 0 (length offsets - 1)
