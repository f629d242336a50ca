-- An accepted update: the credits in memory are those of the definition.
use Rattle.std.proofs.Common.{◌≡◌, ℕ, zero, suc, ◌+◌, ◌-◌, ◌<◌, ◌≤◌, Bool, true, false, cond, not, ◌&&◌, ◌||◌, eqb, ◌⊎◌, List, [], ◌∷◌, ◌++◌, map, length, get_or, take, set, replicate, Some, None, Option, sym, refl, ap, ◌∙◌, ap₂, inl, inr, ⊎_elim, arith}
use lib.Seq.{take-set-lt}
use Rattle.std.specs.List.{AllByRecursion}
use Rattle.std.proofs.lemmas.List.{same_lists, length-append, length-replicate, length-take-le, length-set, get_or-take, get_or-replicate, get_or_append_left, get_or-set_same}
use Rattle.std.proofs.lemmas.List.Sums.{sum_by-cons}
use Rattle.std.proofs.lemmas.Bool.{both_ways, eqb-true, and_parts, cases_lt}
use Rattle.columnar.specs.Cells.{Cell, seen, all_pass, nulls}
use Rattle.groups.specs.Lists.{deal, has, names_from}
use Rattle.groups.specs.Tally.{admitted}
use Rattle.walk.specs.Visits.{visits}
use Rattle.groups.specs.Seen.{in_force}
use Rattle.prim_op.specs.Kept.{credits_of, Unset, marked_at, combined_at}
use Rattle.prim_op.proofs.Credits.{credits_told, unset_told, rows_dealt}

abbrev pub group_of : {V : Type 0} → ℕ × V → ℕ
group_of p = p.0

pub forced_length : (plain : Bool) (kept : ℕ) (marks : List Bool) → kept ≤ length marks → length (in_force plain kept marks) ≡ kept
forced_length true kept marks h = length-replicate kept true
forced_length false kept marks h = length-take-le kept marks h

-- ── the front of the memory ──────────────────────────────────────────────
module _ {E : Type 0} (start : E) (rule : E → E → E) (n : ℕ) where
  pub take_combined : (ps : List (ℕ × E)) (vs : List E) → AllByRecursion (λ (p : ℕ × E). p.0 < n) ps → take n (combined_at start rule vs ps) ≡ combined_at start rule (take n vs) ps
  take_combined [] vs h = refl
  take_combined (p ∷ ps) vs h =
      let k = p.0 in
      take_combined ps (set vs k (rule (get_or vs k start) p.1)) h.1
      ∙ ap (λ ws. combined_at start rule ws ps) (take-set-lt n vs k (rule (get_or vs k start) p.1) h.0 ∙ ap (λ y. set (take n vs) k (rule y p.1)) (sym (get_or-take n vs k start h.0)))

  pub take_marked : (ps : List (ℕ × E)) (ms : List Bool) → AllByRecursion (λ (p : ℕ × E). p.0 < n) ps → take n (marked_at ms ps) ≡ marked_at (take n ms) ps
  take_marked [] ms h = refl
  take_marked (p ∷ ps) ms h = take_marked ps (set ms p.0 true) h.1 ∙ ap (λ ns. marked_at ns ps) (take-set-lt n ms p.0 true h.0)

-- ── groups that are opened ───────────────────────────────────────────────
pub credits_append : {E : Type 0} (ms ns : List Bool) (vs ws : List E) → length ms ≡ length vs → credits_of (ms ++ ns) (vs ++ ws) ≡ credits_of ms vs ++ credits_of ns ws
credits_append [] ns [] ws e = refl
credits_append [] ns (v ∷ vs) ws e = absurd (omega arith)
credits_append (m ∷ ms) ns [] ws e = absurd (omega arith)
credits_append (m ∷ ms) ns (v ∷ vs) ws e = ap (λ cs. cond m (Some v) None ∷ cs) (credits_append ms ns vs ws (omega arith))

credits_opened : {E : Type 0} (start : E) (d : ℕ) → credits_of (replicate d false) (replicate d start) ≡ replicate d None
credits_opened start zero = refl
credits_opened start (suc d) = ap (λ cs. None ∷ cs) (credits_opened start d)

unset_append : {E : Type 0} (start : E) (ms ns : List Bool) (vs ws : List E) → length ms ≡ length vs → Unset start ms vs → Unset start ns ws → Unset start (ms ++ ns) (vs ++ ws)
unset_append start [] ns [] ws e h l = l
unset_append start [] ns (v ∷ vs) ws e h l = absurd (omega arith)
unset_append start (m ∷ ms) ns [] ws e h l = absurd (omega arith)
unset_append start (m ∷ ms) ns (v ∷ vs) ws e h l = (h.0, unset_append start ms ns vs ws (omega arith) h.1 l)

unset_opened : {E : Type 0} (start : E) (d : ℕ) → Unset start (replicate d false) (replicate d start)
unset_opened start zero = tt
unset_opened start (suc d) = ((λ e. refl), unset_opened start d)

-- ── marks after visits ───────────────────────────────────────────────────
set_keeps : (ms : List Bool) (g k : ℕ) → get_or ms k false ≡ true → get_or (set ms g true) k false ≡ true
set_keeps [] g k h = h
set_keeps (m ∷ ms) zero zero h = refl
set_keeps (m ∷ ms) zero (suc k) h = h
set_keeps (m ∷ ms) (suc g) zero h = h
set_keeps (m ∷ ms) (suc g) (suc k) h = set_keeps ms g k h

marked_keeps : {V : Type 0} (ps : List (ℕ × V)) (ms : List Bool) (k : ℕ) → get_or ms k false ≡ true → get_or (marked_at ms ps) k false ≡ true
marked_keeps [] ms k h = h
marked_keeps (p ∷ ps) ms k h = marked_keeps ps (set ms p.0 true) k (set_keeps ms p.0 k h)

or_either : (a b : Bool) → (a || b) ≡ true → (a ≡ true) ⊎ (b ≡ true)
or_either true b e = inl refl
or_either false b e = inr e

marked_has : {V : Type 0} (ps : List (ℕ × V)) (ms : List Bool) (k : ℕ) → k < length ms → has k (map group_of ps) ≡ true → get_or (marked_at ms ps) k false ≡ true
marked_has [] ms k l h = absurd (both_ways false refl h)
marked_has (p ∷ ps) ms k l h =
    ⊎_elim
    (λ here. marked_keeps ps (set ms p.0 true) k (ap (λ n. get_or (set ms n true) k false) (sym (eqb-true k p.0 here)) ∙ get_or-set_same ms k true false l))
    (λ later. marked_has ps (set ms p.0 true) k (omega (arith, length-set ms p.0 true)) later)
    (or_either (eqb k p.0) (has k (map group_of ps)) h)

marked_length : {V : Type 0} (ps : List (ℕ × V)) (ms : List Bool) → length (marked_at ms ps) ≡ length ms
marked_length [] ms = refl
marked_length (p ∷ ps) ms = marked_length ps (set ms p.0 true) ∙ length-set ms p.0 true

read_at : (ms : List Bool) (k : ℕ) (d : Bool) → k < length ms → get_or ms k d ≡ get_or ms k false
read_at [] k d h = absurd (omega arith)
read_at (m ∷ ms) zero d h = refl
read_at (m ∷ ms) (suc k) d h = read_at ms k d (omega arith)

-- every opened group is visited: then all are marked
all_marked : {V : Type 0} (kept d : ℕ) (ps : List (ℕ × V)) → ((k : ℕ) → kept ≤ k → k < kept + d → has k (map group_of ps) ≡ true) → marked_at (replicate kept true ++ replicate d false) ps ≡ replicate (kept + d) true
all_marked kept d ps covered =
    let ms = replicate kept true ++ replicate d false in
    let long : length ms ≡ kept + d = length-append (replicate kept true) (replicate d false) ∙ ap₂ (λ a b. a + b) (length-replicate kept true) (length-replicate d false) in
    let after : length (marked_at ms ps) ≡ kept + d = marked_length ps ms ∙ long in
    same_lists (marked_at ms ps) (replicate (kept + d) true) (after ∙ sym (length-replicate (kept + d) true)) (λ k def h.
    let l : k < kept + d = omega (arith, after) in
    read_at (marked_at ms ps) k def h
    ∙ ⊎_elim
    (λ old. let o : k < length (replicate kept true) = omega (arith, length-replicate kept true) in
    marked_keeps ps ms k (get_or_append_left (replicate kept true) (replicate d false) false k o ∙ get_or-replicate kept k true false old))
    (λ new. marked_has ps ms k (omega (arith, long)) (covered k new l))
    (cases_lt k kept)
    ∙ sym (get_or-replicate (kept + d) k true def l))

-- ── an accepted update ───────────────────────────────────────────────────
pub record Told {E : Type 0} (start : E) (rule : E → E → E) (kept total : ℕ) (plain plain' : Bool) (M₀ M₁ M' : List Bool) (V₀ V₁ V' : List E) (ps : List (ℕ × E)) : Type 0 where
  pub order : kept ≤ total
  pub room_values : kept ≤ length V₀
  pub room_marks : kept ≤ length M₀
  pub below : AllByRecursion (λ (p : ℕ × E). p.0 < total) ps
  pub fit : AllByRecursion (λ (p : ℕ × E). rule start p.1 ≡ p.1) ps
  pub unset : Unset start (in_force plain kept M₀) (take kept V₀)
  pub values_opened : take total V₁ ≡ take kept V₀ ++ replicate (total - kept) start
  pub values_told : V' ≡ combined_at start rule V₁ ps
  pub marks_opened : plain' ≡ false → take total M₁ ≡ in_force plain kept M₀ ++ replicate (total - kept) false
  pub marks_told : M' ≡ cond plain' M₁ (marked_at M₁ ps)
  pub was_plain : plain' ≡ true → plain ≡ true
  pub covered : plain' ≡ true → (k : ℕ) → kept ≤ k → k < total → has k (map group_of ps) ≡ true

abbrev opened_marks : Bool → ℕ → ℕ → List Bool → List Bool
opened_marks plain kept total M₀ = in_force plain kept M₀ ++ replicate (total - kept) false

abbrev opened_values : {E : Type 0} → E → ℕ → ℕ → List E → List E
opened_values start kept total V₀ = take kept V₀ ++ replicate (total - kept) start

marks_agree : (plain plain' : Bool) {E : Type 0} (start : E) (rule : E → E → E) (kept total : ℕ) (M₀ M₁ M' : List Bool) (ps : List (ℕ × E)) → kept ≤ total → AllByRecursion (λ (p : ℕ × E). p.0 < total) ps
    → (plain' ≡ false → take total M₁ ≡ opened_marks plain kept total M₀) → M' ≡ cond plain' M₁ (marked_at M₁ ps) → (plain' ≡ true → plain ≡ true)
    → (plain' ≡ true → (k : ℕ) → kept ≤ k → k < total → has k (map group_of ps) ≡ true) → in_force plain' total M' ≡ marked_at (opened_marks plain kept total M₀) ps
marks_agree plain true start rule kept total M₀ M₁ M' ps h below opened told was covered =
    let e : kept + (total - kept) ≡ total = omega arith in
    sym (all_marked kept (total - kept) ps (λ k a b. covered refl k a (omega arith)) ∙ ap (λ n. replicate n true) e)
    ∙ ap (λ b. marked_at (opened_marks b kept total M₀) ps) (sym (was refl))
marks_agree plain false start rule kept total M₀ M₁ M' ps h below opened told was covered =
    ap (take total) told ∙ take_marked start rule total ps M₁ below ∙ ap (λ ms. marked_at ms ps) (opened refl)

module _ {E : Type 0} {start : E} {rule : E → E → E} {kept total : ℕ} {plain plain' : Bool} {M₀ M₁ M' : List Bool} {V₀ V₁ V' : List E} {ps : List (ℕ × E)} (t : Told start rule kept total plain plain' M₀ M₁ M' V₀ V₁ V' ps) where
  even : length (in_force plain kept M₀) ≡ length (take kept V₀)
  even = forced_length plain kept M₀ t.room_marks ∙ sym (length-take-le kept V₀ t.room_values)

  values_agree : take total V' ≡ combined_at start rule (opened_values start kept total V₀) ps
  values_agree = ap (take total) t.values_told ∙ take_combined start rule total ps V₁ t.below ∙ ap (λ vs. combined_at start rule vs ps) t.values_opened

  marks_are : in_force plain' total M' ≡ marked_at (opened_marks plain kept total M₀) ps
  marks_are = marks_agree plain plain' start rule kept total M₀ M₁ M' ps t.order t.below t.marks_opened t.marks_told t.was_plain t.covered

  unset_before : Unset start (opened_marks plain kept total M₀) (opened_values start kept total V₀)
  unset_before = unset_append start (in_force plain kept M₀) (replicate (total - kept) false) (take kept V₀) (replicate (total - kept) start) even t.unset (unset_opened start (total - kept))

  module _ (join : Option E → Option E → Option E) (none : (b : Option E) → join None b ≡ b) (some : (x y : E) → join (Some x) (Some y) ≡ Some (rule x y)) (right : (a : Option E) → join a None ≡ a) where
    pub unset_updated : Unset start (in_force plain' total M') (take total V')
    unset_updated = rw (marks_are, values_agree) (unset_told start rule join none some ps _ _ unset_before)

    pub credits_updated : (tell : List Bool) (gs : List ℕ) (rows : List (Cell E)) → ps ≡ visits gs rows tell
        → credits_of (in_force plain' total M') (take total V') ≡ deal join (admitted tell gs (map seen rows)) (credits_of (in_force plain kept M₀) (take kept V₀) ++ replicate (total - kept) None)
    credits_updated tell gs rows e =
        ap₂ credits_of marks_are values_agree
        ∙ sym (credits_told start rule join none some ps (opened_marks plain kept total M₀) (opened_values start kept total V₀) unset_before t.fit)
        ∙ ap (deal (λ c x. join c (Some x)) ps) (credits_append (in_force plain kept M₀) (replicate (total - kept) false) (take kept V₀) (replicate (total - kept) start) even ∙ ap (λ cs. credits_of (in_force plain kept M₀) (take kept V₀) ++ cs) (credits_opened start (total - kept)))
        ∙ ap (λ qs. deal (λ c x. join c (Some x)) qs (credits_of (in_force plain kept M₀) (take kept V₀) ++ replicate (total - kept) None)) e
        ∙ sym (rows_dealt join right tell gs rows _)

-- ── a batch that does not turn the switch visits every row ───────────────
no_null : (v : Bool) (n : ℕ) → cond (not v) 1 0 + n ≡ 0 → (v ≡ true) × (n ≡ 0)
no_null true n e = (refl, omega arith)
no_null false n e = absurd (omega arith)

pub visits_all : {V : Type 0} (gs : List ℕ) (rows : List (Cell V)) → length gs ≡ length rows → nulls rows ≡ 0 → map group_of (visits gs rows (all_pass (length rows))) ≡ gs
visits_all [] rows e z = refl
visits_all (g ∷ gs) [] e z = absurd (omega arith)
visits_all (g ∷ gs) (r ∷ rows) e z =
    let parts = no_null r.valid (nulls rows) (sym (sum_by-cons (λ c. cond (not c.valid) 1 0) r rows) ∙ z) in
    ap (λ b. map group_of (cond (b && true) ((g, r.figure) ∷ visits gs rows (all_pass (length rows))) (visits gs rows (all_pass (length rows))))) parts.0
    ∙ ap (λ hs. g ∷ hs) (visits_all gs rows (omega arith) parts.1)

pub names_has : (from count : ℕ) (gs : List ℕ) → names_from from count gs ≡ true → (k : ℕ) → from ≤ k → k < from + count → has k gs ≡ true
names_has from zero gs e k a b = absurd (omega arith)
names_has from (suc count) gs e k a b =
    let parts = and_parts (has from gs) (names_from (suc from) count gs) e in
    ⊎_elim (λ later. names_has (suc from) count gs parts.1 k (omega arith) (omega arith)) (λ here. let q : from ≡ k = omega arith in ap (λ n. has n gs) (sym q) ∙ parts.0) (cases_lt from k)
