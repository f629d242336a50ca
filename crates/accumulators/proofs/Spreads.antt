-- What a span shows of rows: one induction over the rows, with the ends as members that bound all.
use Rattle.std.proofs.Common.{◌≡◌, ◌⊎◌, List, [], ◌∷◌, ℤ, pos, ◌+ℤ◌, ◌-ℤ◌, nat_abs, ◌≤ℤ◌, Some, None, Option, sym, refl, ap, ◌∙◌, subst, inl, inr, ⊎_elim, arith}
use Rattle.std.specs.Int.{int_min, int_max}
use Rattle.std.specs.Option.{option_map}
use Rattle.std.specs.List.{All, Contains}
use Rattle.std.proofs.lemmas.List.Elements.{All-nil, All-cons, All-weaker, Contains-append_right}
use Rattle.std.proofs.lemmas.Int.{ints, clamps}
use Rattle.std.proofs.lemmas.Bool.{cases_cond}
use Rattle.groups.specs.Kind.{joined}
use Rattle.accumulators.specs.declared.span.SpanRecord.{SpanRecord}
use Rattle.accumulators.specs.Spans.{Ends, sorted, ends_of, hulled, spread, recorded, join, span_kind, span_of, same_ends}
use Rattle.accumulators.specs.Shown.{values, Shows, Farthest, Least, Greatest, ShowsSpan, WritesSpan}

first_of : {E : Type 0} (x : E) (vs : List E) → Contains (x ∷ vs) x
first_of x vs = (0, omega arith, refl)

-- ── the least and the greatest of one value and others ───────────────────
least_one : (x m : ℤ) → m ≡ x → Least (x ∷ []) m
least_one x m e = (subst (Contains (x ∷ [])) (sym e) (first_of x []), All-cons (λ v. m ≤ℤ v) x [] (omega (arith, ints, e)) (All-nil (λ v. m ≤ℤ v)))

greatest_one : (x m : ℤ) → m ≡ x → Greatest (x ∷ []) m
greatest_one x m e = (subst (Contains (x ∷ [])) (sym e) (first_of x []), All-cons (λ v. v ≤ℤ m) x [] (omega (arith, ints, e)) (All-nil (λ v. v ≤ℤ m)))

one_of : (x m n : ℤ) (vs : List ℤ) → (n ≡ x) ⊎ (n ≡ m) → Contains vs m → Contains (x ∷ vs) n
one_of x m n vs e h =
    ⊎_elim
    (λ (first : n ≡ x). subst (Contains (x ∷ vs)) (sym first) (first_of x vs))
    (λ (later : n ≡ m). subst (Contains (x ∷ vs)) (sym later) (Contains-append_right (x ∷ []) vs m h))
    e

least_more : (x m n : ℤ) (vs : List ℤ) → n ≡ int_min x m → Least vs m → Least (x ∷ vs) n
least_more x m n vs e p =
    (one_of x m n vs (⊎_elim (λ y. inr (e ∙ y)) (λ y. inl (e ∙ y)) (cases_cond _ m x (int_min x m) refl)) p.0, All-cons (λ v. n ≤ℤ v) x vs (omega (arith, ints, clamps, e)) (All-weaker (λ v. m ≤ℤ v) (λ v. n ≤ℤ v) (λ v h. omega (arith, ints, clamps, e)) vs p.1))

greatest_more : (x m n : ℤ) (vs : List ℤ) → n ≡ int_max x m → Greatest vs m → Greatest (x ∷ vs) n
greatest_more x m n vs e p =
    (one_of x m n vs (⊎_elim (λ y. inl (e ∙ y)) (λ y. inr (e ∙ y)) (cases_cond _ x m (int_max x m) refl)) p.0, All-cons (λ v. v ≤ℤ n) x vs (omega (arith, ints, clamps, e)) (All-weaker (λ v. v ≤ℤ m) (λ v. v ≤ℤ n) (λ v h. omega (arith, ints, clamps, e)) vs p.1))

-- ── the ends of rows ─────────────────────────────────────────────────────
abbrev Bounds : List ℤ → Ends → Type 0
Bounds vs e = Least vs e.least × Greatest vs e.greatest

before : (x : ℤ) (vs : List ℤ) (c : Option Ends) → Shows Bounds vs c → Shows Bounds (x ∷ vs) (join (Some (sorted x x)) c)
before x [] c e = (sorted x x, ap (join (Some (sorted x x))) e, (least_one x (int_min x x) (omega (arith, ints, clamps)), greatest_one x (int_max x x) (omega (arith, ints, clamps))))
before x (v ∷ vs) c s =
    let e = s.0 in (
      hulled (sorted x x) e,
      ap (join (Some (sorted x x))) s.1,
      (least_more x e.least (int_min (int_min x x) e.least) (v ∷ vs) (omega (arith, ints, clamps)) s.2.0, greatest_more x e.greatest (int_max (int_max x x) e.greatest) (v ∷ vs) (omega (arith, ints, clamps)) s.2.1),
    )

bounds : (rs : List (Option ℤ)) → Shows Bounds (values rs) (joined span_kind rs)
bounds [] = refl
bounds (None ∷ rs) = bounds rs
bounds (Some x ∷ rs) = before x (values rs) (joined span_kind rs) (bounds rs)

-- what is made of the ends
module _ {F : Type 0} (f : Ends → F) (P : List ℤ → F → Type 0) (step : (vs : List ℤ) (e : Ends) → Bounds vs e → P vs (f e)) where
  made : (vs : List ℤ) (c : Option Ends) → Shows Bounds vs c → Shows P vs (option_map f c)
  made [] c s = ap (option_map f) s
  made (v ∷ vs) c s = (f s.0, ap (option_map f) s.1, step (v ∷ vs) s.0 s.2)

apart : (l g : ℤ) → l ≤ℤ g → g ≡ (l +ℤ pos (nat_abs (g -ℤ l)))
apart l g h = grind (arith, ints)

farthest : (vs : List ℤ) (e : Ends) → Bounds vs e → Farthest vs (spread e)
farthest vs e b =
    let d = spread e in
    let reach = apart e.least e.greatest e.ordered in (
      (e.least, e.greatest, b.0.0, b.1.0, reach),
      All-weaker (λ v. e.least ≤ℤ v) (λ v. All (λ w. w ≤ℤ (v +ℤ pos d)) vs)
          (λ v low. All-weaker (λ w. w ≤ℤ e.greatest) (λ w. w ≤ℤ (v +ℤ pos d)) (λ w high. omega (arith, ints, reach)) vs b.1.1)
          vs b.0.1,
    )

pub shows_span : ShowsSpan span_kind
shows_span rs = made spread Farthest farthest (values rs) (joined span_kind rs) (bounds rs)

pub writes_span : WritesSpan span_kind
writes_span rs = made recorded (λ vs r. Least vs r.least × Greatest vs r.greatest) (λ vs e b. b) (values rs) (joined span_kind rs) (bounds rs)

-- ── one more span ────────────────────────────────────────────────────────
widened : (a b r : SpanRecord) → r.least ≡ int_min (ends_of a).least (ends_of b).least → r.greatest ≡ int_max (ends_of a).greatest (ends_of b).greatest → ends_of r ≡ hulled (ends_of a) (ends_of b)
widened a b r p q = same_ends (ends_of r) (hulled (ends_of a) (ends_of b)) (omega (arith, ints, clamps, p, q)) (omega (arith, ints, clamps, p, q))

pub covers_first : (o : Option SpanRecord) (b r : SpanRecord) → o ≡ None → r ≡ b → Some (ends_of r) ≡ join (span_of o) (Some (ends_of b))
covers_first o b r n e = ap (λ q. Some (ends_of q)) e ∙ sym (ap (λ p. join (span_of p) (Some (ends_of b))) n)

pub covers_more : (o : Option SpanRecord) (a b r : SpanRecord) → o ≡ Some a → r.least ≡ int_min (ends_of a).least (ends_of b).least → r.greatest ≡ int_max (ends_of a).greatest (ends_of b).greatest → Some (ends_of r) ≡ join (span_of o) (Some (ends_of b))
covers_more o a b r s p q = ap Some (widened a b r p q) ∙ sym (ap (λ p. join (span_of p) (Some (ends_of b))) s)
