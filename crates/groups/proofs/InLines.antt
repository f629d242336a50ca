-- The first in line that holds is the first by number, since the line goes by the numbers.
use Rattle.std.proofs.Common.{◌≡◌, ℕ, ◌<◌, Bool, true, false, cond, ◌⊎◌, List, [], ◌∷◌, Some, None, Option, sym, refl, ap, ◌∙◌, subst, inl, inr, ⊎_elim, arith, rules}
use Rattle.columnar.specs.declared.refusal.Refusal.{Refusal}
use Rattle.columnar.specs.declared.refusal.Refusal.TheVariants.{BitsOutOfBytes, MaskLength, Offsets, SpanOrder, TooManyRows, IndexCount, FilterLength, TotalBelowKept, TotalAboveLimit, IndexAboveTotal, GroupNotNamed, TooManyPairs, TooManyGroups, ShortBuffer}
use Rattle.columnar.specs.Refusals.{number_of}
use Rattle.groups.specs.Tally.{Conditions, holds, in_line}
use Rattle.std.specs.List.{AllByRecursion, find}
use Rattle.groups.proofs.Accepting.{peel}

abbrev In : Refusal → List Refusal → Type 0
In q [] = ⊥
In q (r ∷ rs) = (r ≡ q) ⊎ In q rs

-- each number is below those that come later
abbrev Before : ℕ → List Refusal → Type 0
Before n rs = AllByRecursion (λ r. n < number_of r) rs

abbrev Rising : List Refusal → Type 0
Rising [] = Unit {0}
Rising (r ∷ rs) = Before (number_of r) rs × Rising rs

before_in : (n : ℕ) (rs : List Refusal) (q : Refusal) → Before n rs → In q rs → n < number_of q
before_in n [] q below there = absurd there
before_in n (r ∷ rs) q below there = ⊎_elim (λ is. subst (λ k. n < number_of k) is below.0) (λ later. before_in n rs q below.1 later) there

-- the answer is the first, or comes of the others
came : (b : Bool) (x r : Refusal) (rest : Option Refusal) → cond b (Some x) rest ≡ Some r → ((b ≡ true) × (x ≡ r)) ⊎ ((b ≡ false) × (rest ≡ Some r))
came true x r rest e = inl (refl, cc)
came false x r rest e = inr (refl, e)

pub find_holds : (h : Refusal → Bool) (rs : List Refusal) (r : Refusal) → find h rs ≡ Some r → h r ≡ true
find_holds h [] r e = absurd (cc)
find_holds h (x ∷ xs) r e = ⊎_elim (λ w. ap h (sym w.1) ∙ w.0) (λ w. find_holds h xs r w.1) (came (h x) x r (find h xs) e)

pub find_first : (h : Refusal → Bool) (rs : List Refusal) (r q : Refusal) → Rising rs → find h rs ≡ Some r → In q rs → number_of q < number_of r → h q ≡ false
find_first h [] r q up e there lower = absurd there
find_first h (x ∷ xs) r q up e there lower =
    ⊎_elim
    (λ w.
    let lowest : number_of q < number_of x = subst (λ k. number_of q < number_of k) (sym w.1) lower in
    absurd (⊎_elim (λ is. let same : number_of x ≡ number_of q = ap number_of is in omega arith) (λ later. omega (arith, before_in (number_of x) xs q up.0 later)) there))
    (λ w. ⊎_elim (λ is. ap h (sym is) ∙ w.0) (λ later. find_first h xs r q up.1 w.1 later lower) there)
    (came (h x) x r (find h xs) e)

pub find_none : (h : Refusal → Bool) (rs : List Refusal) (q : Refusal) → find h rs ≡ None → In q rs → h q ≡ false
find_none h [] q e there = absurd there
find_none h (x ∷ xs) q e there =
    let w = peel (h x) x (find h xs) e in
    ⊎_elim (λ is. ap h (sym is) ∙ w.0) (λ later. find_none h xs q w.1 later) there

-- each refusal is in line, or holds of no call
pub placed : (c : Conditions) (q : Refusal) → In q in_line ⊎ (holds c q ≡ false)
placed c BitsOutOfBytes = inr refl
placed c MaskLength = inr refl
placed c Offsets = inr refl
placed c SpanOrder = inr refl
placed c TooManyRows = inl (inl refl)
placed c IndexCount = inl (inr (inl refl))
placed c FilterLength = inl (inr (inr (inl refl)))
placed c TotalBelowKept = inl (inr (inr (inr (inl refl))))
placed c TotalAboveLimit = inl (inr (inr (inr (inr (inl refl)))))
placed c IndexAboveTotal = inl (inr (inr (inr (inr (inr (inl refl))))))
placed c GroupNotNamed = inl (inr (inr (inr (inr (inr (inr (inl refl)))))))
placed c TooManyPairs = inl (inr (inr (inr (inr (inr (inr (inr (inl refl))))))))
placed c TooManyGroups = inl (inr (inr (inr (inr (inr (inr (inr (inr (inl refl)))))))))
placed c ShortBuffer = inl (inr (inr (inr (inr (inr (inr (inr (inr (inr (inl refl))))))))))

pub line_rises : Rising in_line
line_rises = search rules
