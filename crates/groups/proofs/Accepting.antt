-- What a batch that is not refused has.
use Rattle.std.proofs.Common.{◌≡◌, ℕ, ◌-◌, ◌<◌, ◌≤◌, Bool, true, false, cond, not, eqb, ltb, List, [], ◌∷◌, length, Some, None, Option, unwrap_or, refl}
use Rattle.std.specs.List.{AllByRecursion}
use Rattle.std.proofs.lemmas.Bool.{ltb-false, ltb-true, eqb-true, not-false, and_parts}
use Rattle.columnar.specs.declared.refusal.Refusal.{Refusal}
use Rattle.columnar.specs.declared.refusal.Refusal.TheVariants.{TooManyRows, IndexCount, FilterLength, TotalBelowKept, TotalAboveLimit, IndexAboveTotal}
use Rattle.groups.specs.Lists.{all_below, names_from}
use Rattle.groups.specs.Tally.{refusal}
use Rattle.groups.specs.Lines.{batch_line}

-- where a line of conditions answers none, its first does not hold, and the others answer none
pub peel : {E : Type 0} (b : Bool) (e : E) (rest : Option E) → cond b (Some e) rest ≡ None → (b ≡ false) × (rest ≡ None)
peel true e rest h = absurd (cc)
peel false e rest h = (refl, h)

all_below_lem : (total : ℕ) (gs : List ℕ) → all_below total gs ≡ true → AllByRecursion (λ k. k < total) gs
all_below_lem total [] h = tt
all_below_lem total (g ∷ gs) h = let s = and_parts (ltb g total) (all_below total gs) h in (ltb-true g total s.0, all_below_lem total gs s.1)

-- the first six conditions in line, and what comes after them
abbrev pub six : Bool → Bool → Bool → Bool → Bool → Bool → Option Refusal → Option Refusal
six a b c d e f o =
    cond a (Some TooManyRows) (cond b (Some IndexCount) (cond c (Some FilterLength) (cond d (Some TotalBelowKept) (cond e (Some TotalAboveLimit) (cond f (Some IndexAboveTotal) o)))))

never : {E : Type 0} {A : Type 0} (r : E) → ◌≡◌ {A = Option E} (Some r) None → A
never r e = absurd (cc)

pub six_passed : (a b c d e f : Bool) (o : Option Refusal) → six a b c d e f None ≡ None → o ≡ six a b c d e f o
six_passed true b c d e f o h = never _ h
six_passed false true c d e f o h = never _ h
six_passed false false true d e f o h = never _ h
six_passed false false false true e f o h = never _ h
six_passed false false false false true f o h = never _ h
six_passed false false false false false true o h = never _ h
six_passed false false false false false false o h = refl

pub six_refused : (a b c d e f : Bool) (r : Refusal) (o : Option Refusal) → Some r ≡ six a b c d e f None → Some r ≡ six a b c d e f o
six_refused true b c d e f r o h = h
six_refused false true c d e f r o h = h
six_refused false false true d e f r o h = h
six_refused false false false true e f r o h = h
six_refused false false false false true f r o h = h
six_refused false false false false false true r o h = h
six_refused false false false false false false r o h = never r h

pub record Accepted (most_rows most_groups kept rows : ℕ) (gs : List ℕ) (ticked : Option ℕ) (total : ℕ) : Type 0 where
  pub few : rows ≤ most_rows
  pub even : rows ≡ length gs
  pub filter : unwrap_or ticked rows ≡ rows
  pub order : kept ≤ total
  pub room : total ≤ most_groups
  pub below : AllByRecursion (λ k. k < total) gs

module _ (most_rows most_groups kept rows : ℕ) (gs : List ℕ) (ticked : Option ℕ) (total : ℕ) where
  -- the first six conditions in line, and what comes after them
  abbrev pub line : Option Refusal → Option Refusal
  line o =
      cond (ltb most_rows rows) (Some TooManyRows)
      (cond (not (eqb rows (length gs))) (Some IndexCount)
      (cond (not (eqb (unwrap_or ticked rows) rows)) (Some FilterLength)
      (cond (ltb total kept) (Some TotalBelowKept) (cond (ltb most_groups total) (Some TotalAboveLimit) (cond (not (all_below total gs)) (Some IndexAboveTotal) o)))))

  pub accepted : (o : Option Refusal) → line o ≡ None → Accepted most_rows most_groups kept rows gs ticked total × (o ≡ None)
  accepted o h =
      let a = peel (ltb most_rows rows) _ _ h in
      let b = peel (not (eqb rows (length gs))) _ _ a.1 in
      let c = peel (not (eqb (unwrap_or ticked rows) rows)) _ _ b.1 in
      let d = peel (ltb total kept) _ _ c.1 in
      let e = peel (ltb most_groups total) _ _ d.1 in
      let f = peel (not (all_below total gs)) _ _ e.1 in (
        record {
          few = ltb-false most_rows rows a.0;
          even = eqb-true rows (length gs) (not-false _ b.0);
          filter = eqb-true (unwrap_or ticked rows) rows (not-false _ c.0);
          order = ltb-false total kept d.0;
          room = ltb-false most_groups total e.0;
          below = all_below_lem total gs (not-false _ f.0);
        },
        f.1,
      )

  -- an accepted batch names every group that it opens
  pub named : refusal (batch_line most_rows most_groups kept rows gs ticked total) ≡ None → names_from kept (total - kept) gs ≡ true
  named h = let a = accepted _ h in let n = peel (not (names_from kept (total - kept) gs)) _ _ a.1 in not-false _ n.0
