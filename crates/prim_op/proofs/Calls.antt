-- What the calls know of the memory, put as meanings.
use Rattle.std.proofs.Common.{◌≡◌, ℕ, ◌-◌, ◌<◌, ◌≤◌, Bool, true, false, cond, not, ◌&&◌, ◌||◌, eqb, ltb, List, [], ◌∷◌, map, length, get_or, take, set, is_some, IfSome, Some, None, sum_by, Option, unwrap_or, sym, refl, ap, ◌∙◌, arith}
use Rattle.std.specs.Option.{option_map}
use Rattle.std.specs.List.{AllByRecursion}
use Rattle.std.proofs.lemmas.List.{length-take-le}
use Rattle.std.proofs.lemmas.Bool.{eq-eqb, and_parts, or_parts, ltb-false, not-true}
use Rattle.columnar.specs.Cells.{Cell, Ticks, passes, all_pass, nulls}
use Rattle.groups.specs.Lists.{all_below, names_from, has}
use Rattle.groups.specs.Lines.{batch_line}
use Rattle.groups.specs.Tally.{Meaning, Conditions, refusal, differs, update_refusal}
use Rattle.operations.specs.Primitive.{primitive, join_by}
use Rattle.groups.specs.Seen.{in_force}
use Rattle.walk.specs.Visits.{visits, told_all}
use Rattle.prim_op.specs.Kept.{credits_of, marked_at, combined_at}
use Rattle.prim_op.proofs.Updates.{group_of, forced_length, visits_all, names_has}

-- the accumulator as a visitor
pub told_memory : {V : Type 0} (start : V) (rule : V → V → V) (vs : List V) (ms : List Bool) (plain : Bool) (ps : List (ℕ × V))
    → told_all {V = V} {M = List V × (List Bool × Bool)} (λ m k x. (set m.0 k (rule (get_or m.0 k start) x), (cond m.1.1 m.1.0 (set m.1.0 k true), m.1.1))) (vs, (ms, plain)) ps ≡ (combined_at start rule vs ps, (cond plain ms (marked_at ms ps), plain))
told_memory start rule vs ms true [] = refl
told_memory start rule vs ms false [] = refl
told_memory start rule vs ms true (p ∷ ps) = told_memory start rule (set vs p.0 (rule (get_or vs p.0 start) p.1)) ms true ps
told_memory start rule vs ms false (p ∷ ps) = told_memory start rule (set vs p.0 (rule (get_or vs p.0 start) p.1)) (set ms p.0 true) false ps

pub five_same : (n n' a a' b b' c c' d d' e e' : ℕ) → ◌≡◌ {A = ℕ × List ℕ} (n, a ∷ (b ∷ (c ∷ (d ∷ (e ∷ []))))) (n', a' ∷ (b' ∷ (c' ∷ (d' ∷ (e' ∷ []))))) → (a ≡ a') × (b ≡ b') × (c ≡ c') × (d ≡ d') × (e ≡ e')
five_same n n' a a' b b' c c' d d' e e' h = let q = ap (λ y. y.1) h in (cc, cc, cc, cc, cc)

-- only the marks of the kept groups are in force
pub forced_same : (plain : Bool) (kept : ℕ) (ms ns : List Bool) → take kept ms ≡ take kept ns → in_force plain kept ms ≡ in_force plain kept ns
forced_same true kept ms ns e = refl
forced_same false kept ms ns e = e

pub visits_below : {V : Type 0} (n : ℕ) (gs : List ℕ) (rows : List (Cell V)) (ps : List Bool) → AllByRecursion (λ k. k < n) gs → AllByRecursion (λ (v : ℕ × V). v.0 < n) (visits gs rows ps)
visits_below n [] rows ps h = tt
visits_below n (g ∷ gs) [] ps h = tt
visits_below n (g ∷ gs) (r ∷ rows) [] h = tt
visits_below {V} n (g ∷ gs) (r ∷ rows) (p ∷ ps) h =
    let rest = visits_below n gs rows ps h.1 in
    elim (r.valid && p) as (λ b. AllByRecursion (λ (v : ℕ × V). v.0 < n) (cond b ((g, r.figure) ∷ visits gs rows ps) (visits gs rows ps))) [ true ↦ (h.0, rest) | false ↦ rest ]

-- ── the length of a filter ───────────────────────────────────────────────
pub differs_is : (f : Ticks) (n : ℕ) → differs f n ≡ not (eqb (unwrap_or (option_map length f) n) n)
differs_is None n = ap not (sym (eq-eqb n n refl))
differs_is (Some ts) n = refl

pub ticks_long : (f : Ticks) (n k : ℕ) → unwrap_or (option_map length f) n ≡ n → n ≡ k → IfSome f (λ ts. length ts ≡ k)
ticks_long None n k e h = tt
ticks_long (Some ts) n k e h = e ∙ h

-- ── the refusals of an update ────────────────────────────────────────────
no_pairs : {X : Type 0} (xs : List X) → sum_by (λ x. 0) xs ≡ 0
no_pairs [] = refl
no_pairs (x ∷ xs) = no_pairs xs

pub credits_length : {E : Type 0} (ms : List Bool) (vs : List E) → length ms ≡ length vs → length (credits_of ms vs) ≡ length vs
credits_length [] [] e = refl
credits_length [] (v ∷ vs) e = absurd (omega arith)
credits_length (m ∷ ms) [] e = absurd (omega arith)
credits_length (m ∷ ms) (v ∷ vs) e = let r : length (credits_of ms vs) ≡ length vs = credits_length ms vs (omega arith) in omega (arith, r)

-- the credits of the kept groups are as many as these
pub kept_credits : {E : Type 0} (plain : Bool) (kept : ℕ) (ms : List Bool) (vs : List E) → kept ≤ length ms → kept ≤ length vs → length (credits_of (in_force plain kept ms) (take kept vs)) ≡ kept
kept_credits plain kept ms vs h l =
    let e : length (take kept vs) ≡ kept = length-take-le kept vs l in
    credits_length (in_force plain kept ms) (take kept vs) (forced_length plain kept ms h ∙ sym e) ∙ e

pub join_none : {E : Type 0} (rule : E → E → E) (a : Option E) → join_by rule a None ≡ a
join_none rule None = refl
join_none rule (Some x) = refl

module _ {E : Type 0} (start : E) (rule : E → E → E) (m : Meaning (Option E)) (kept : ℕ) (is : length m.credits ≡ kept) (none : m.most_pairs ≡ 0) (rows : List (Cell E)) (f : Ticks) (gs : List ℕ) (total : ℕ) where
  abbrev conditions : Bool → ℕ → Bool → Conditions
  conditions filter k pairs =
      record {
        too_many_rows = ltb m.most_rows (length rows);
        indices_differ = not (eqb (length rows) (length gs));
        filter_differs = filter;
        total_below = ltb total k;
        total_above = ltb m.most_groups total;
        index_above = not (all_below total gs);
        not_named = not (names_from k (total - k) gs);
        too_many_pairs = pairs;
        too_many_groups = false;
        buffer_short = false;
      }

  pub update_line : refusal (batch_line m.most_rows m.most_groups kept (length rows) gs (option_map length f) total) ≡ update_refusal (primitive start rule) m rows f gs total
  update_line =
      let pairs = sum_by (primitive start rule).pairs in
      let after = Rattle.groups.specs.Tally.with_rows (primitive start rule) m (Rattle.groups.specs.Tally.row_entries rows f gs) total in
      let p : false ≡ ltb m.most_pairs (pairs after) = sym (ap (λ n. ltb n (pairs after)) none ∙ ap (ltb 0) (no_pairs after)) in
      ap (λ b. refusal (conditions b kept false)) (sym (differs_is f (length rows)))
      ∙ ap (λ k. refusal (conditions (differs f (length rows)) k false)) (sym is)
      ∙ ap (λ b. refusal (conditions (differs f (length rows)) (length m.credits) b)) p

-- ── the switch ───────────────────────────────────────────────────────────
pub switch_is : (plain turns batch plain' : Bool) → plain' ≡ (plain && not turns) → turns ≡ batch → not plain' ≡ (not plain || batch)
switch_is true true batch plain' e h = ap not e ∙ h
switch_is true false batch plain' e h = ap not e ∙ h
switch_is false turns batch plain' e h = ap not e

-- a batch that leaves the switch plain has no filter and no null
absent : (f : Ticks) → is_some f ≡ false → f ≡ None
absent None e = refl
absent (Some ts) e = let z : ◌≡◌ {A = ℕ} 0 1 = cc in absurd (omega arith)

quiet : {V : Type 0} (f : Ticks) (rows : List (Cell V)) (plain turns plain' : Bool) → plain' ≡ (plain && not turns) → turns ≡ (is_some f || ltb 0 (nulls rows)) → plain' ≡ true → (f ≡ None) × (nulls rows ≡ 0)
quiet f rows plain turns plain' e h p =
    let parts = or_parts (is_some f) (ltb 0 (nulls rows)) (sym h ∙ not-true turns (and_parts plain (not turns) (sym e ∙ p)).1) in
    let low : nulls rows ≤ 0 = ltb-false 0 (nulls rows) parts.1 in
    (absent f parts.0, omega arith)

pub all_covered : {V : Type 0} (kept total : ℕ) (gs : List ℕ) (rows : List (Cell V)) (f : Ticks) (plain turns plain' : Bool) → kept ≤ total → length rows ≡ length gs → names_from kept (total - kept) gs ≡ true
    → plain' ≡ (plain && not turns) → turns ≡ (is_some f || ltb 0 (nulls rows)) → plain' ≡ true → (k : ℕ) → kept ≤ k → k < total → has k (map group_of (visits gs rows (passes f (length gs)))) ≡ true
all_covered kept total gs rows f plain turns plain' h even names e t p k a b =
    let q = quiet f rows plain turns plain' e t p in
    let all : map group_of (visits gs rows (passes f (length gs))) ≡ gs = ap (λ ts. map group_of (visits gs rows (passes ts (length gs)))) q.0 ∙ ap (λ n. map group_of (visits gs rows (all_pass n))) (sym even) ∙ visits_all gs rows (sym even) q.1 in
    ap (has k) all ∙ names_has kept (total - kept) gs names k a (omega arith)

-- ── meanings ─────────────────────────────────────────────────────────────
pub meaning_same : {C : Type 0} (cs cs' : List C) (b b' : Bool) (r r' g g' p : ℕ) → cs ≡ cs' → b ≡ b' → r ≡ r' → g ≡ g'
    → ◌≡◌ {A = Meaning C} (record { credits = cs; marked = b; most_rows = r; most_groups = g; most_pairs = p }) (record { credits = cs'; marked = b'; most_rows = r'; most_groups = g'; most_pairs = p })
meaning_same {C} cs cs' b b' r r' g g' p e f h i =
    ap (λ x. record { credits = x; marked = b; most_rows = r; most_groups = g; most_pairs = p }) e
    ∙ ap (λ x. record { credits = cs'; marked = x; most_rows = r; most_groups = g; most_pairs = p }) f
    ∙ ap (λ x. record { credits = cs'; marked = b'; most_rows = x; most_groups = g; most_pairs = p }) h
    ∙ ap (λ x. record { credits = cs'; marked = b'; most_rows = r'; most_groups = x; most_pairs = p }) i
