-- Visits as they change the memory, and as they change the credits.
use Rattle.std.proofs.Common.{◌≡◌, ℕ, zero, suc, Bool, true, false, cond, ◌&&◌, List, [], ◌∷◌, map, get_or, set, Some, None, Option, sym, refl, ap, ◌∙◌}
use Rattle.std.specs.List.{AllByRecursion}
use Rattle.std.proofs.lemmas.Bool.{true≢false}
use Rattle.columnar.specs.Cells.{Cell, seen}
use Rattle.groups.specs.Lists.{change, deal}
use Rattle.groups.specs.Tally.{admitted}
use Rattle.walk.specs.Visits.{visits}
use Rattle.prim_op.specs.Kept.{credits_of, Unset, marked_at, combined_at}

module _ {E : Type 0} (start : E) (rule : E → E → E) (join : Option E → Option E → Option E) (none : (b : Option E) → join None b ≡ b) (some : (x y : E) → join (Some x) (Some y) ≡ Some (rule x y)) where
  -- one visit
  credit_first : (m : Bool) (v x : E) → (m ≡ false → v ≡ start) → rule start x ≡ x → join (cond m (Some v) None) (Some x) ≡ Some (rule v x)
  credit_first true v x h u = some v x
  credit_first false v x h u = none (Some x) ∙ ap Some (sym u ∙ ap (λ y. rule y x) (sym (h refl)))

  pub credit_step : (ms : List Bool) (vs : List E) (k : ℕ) (x : E) → Unset start ms vs → rule start x ≡ x → change (λ c. join c (Some x)) k (credits_of ms vs) ≡ credits_of (set ms k true) (set vs k (rule (get_or vs k start) x))
  credit_step [] vs k x h u = refl
  credit_step (m ∷ ms) [] zero x h u = refl
  credit_step (m ∷ ms) [] (suc k) x h u = refl
  credit_step (m ∷ ms) (v ∷ vs) zero x h u = ap (λ c. c ∷ credits_of ms vs) (credit_first m v x h.0 u)
  credit_step (m ∷ ms) (v ∷ vs) (suc k) x h u = ap (λ cs. cond m (Some v) None ∷ cs) (credit_step ms vs k x h.1 u)

  pub unset_step : (ms : List Bool) (vs : List E) (k : ℕ) (y : E) → Unset start ms vs → Unset start (set ms k true) (set vs k y)
  unset_step [] vs k y h = tt
  unset_step (m ∷ ms) [] zero y h = tt
  unset_step (m ∷ ms) [] (suc k) y h = tt
  unset_step (m ∷ ms) (v ∷ vs) zero y h = ((λ e. absurd (true≢false e)), h.1)
  unset_step (m ∷ ms) (v ∷ vs) (suc k) y h = (h.0, unset_step ms vs k y h.1)

  -- all visits
  pub credits_told : (ps : List (ℕ × E)) (ms : List Bool) (vs : List E) → Unset start ms vs → AllByRecursion (λ (p : ℕ × E). rule start p.1 ≡ p.1) ps → deal (λ c x. join c (Some x)) ps (credits_of ms vs) ≡ credits_of (marked_at ms ps) (combined_at start rule vs ps)
  credits_told [] ms vs h u = refl
  credits_told (p ∷ ps) ms vs h u =
      ap (deal (λ c x. join c (Some x)) ps) (credit_step ms vs p.0 p.1 h u.0)
      ∙ credits_told ps (set ms p.0 true) (set vs p.0 (rule (get_or vs p.0 start) p.1)) (unset_step ms vs p.0 _ h) u.1

  pub unset_told : (ps : List (ℕ × E)) (ms : List Bool) (vs : List E) → Unset start ms vs → Unset start (marked_at ms ps) (combined_at start rule vs ps)
  unset_told [] ms vs h = h
  unset_told (p ∷ ps) ms vs h = unset_told ps (set ms p.0 true) (set vs p.0 (rule (get_or vs p.0 start) p.1)) (unset_step ms vs p.0 _ h)

-- a change that changes nothing
change_same : {A : Type 0} (f : A → A) (same : (a : A) → f a ≡ a) (n : ℕ) (xs : List A) → change f n xs ≡ xs
change_same f same n [] = refl
change_same f same zero (x ∷ xs) = ap (λ y. y ∷ xs) (same x)
change_same f same (suc n) (x ∷ xs) = ap (λ ys. x ∷ ys) (change_same f same n xs)

module _ {E : Type 0} (join : Option E → Option E → Option E) (right : (a : Option E) → join a None ≡ a) where
  -- a row that is null or not let through changes no credit
  entry_dealt : (v p : Bool) (g : ℕ) (x : E) (es : List (ℕ × Option E)) (ps : List (ℕ × E)) → ((cs : List (Option E)) → deal join es cs ≡ deal (λ c y. join c (Some y)) ps cs)
      → (cs : List (Option E)) → deal join (cond p ((g, cond v (Some x) None) ∷ es) es) cs ≡ deal (λ c y. join c (Some y)) (cond (v && p) ((g, x) ∷ ps) ps) cs
  entry_dealt true true g x es ps same cs = same (change (λ c. join c (Some x)) g cs)
  entry_dealt true false g x es ps same cs = same cs
  entry_dealt false true g x es ps same cs = ap (deal join es) (change_same (λ c. join c None) right g cs) ∙ same cs
  entry_dealt false false g x es ps same cs = same cs

  pub rows_dealt : (ps : List Bool) (gs : List ℕ) (rows : List (Cell E)) (cs : List (Option E)) → deal join (admitted ps gs (map seen rows)) cs ≡ deal (λ c y. join c (Some y)) (visits gs rows ps) cs
  rows_dealt [] [] rows cs = refl
  rows_dealt [] (g ∷ gs) [] cs = refl
  rows_dealt [] (g ∷ gs) (r ∷ rows) cs = refl
  rows_dealt (p ∷ ps) [] rows cs = refl
  rows_dealt (p ∷ ps) (g ∷ gs) [] cs = refl
  rows_dealt (p ∷ ps) (g ∷ gs) (r ∷ rows) cs = entry_dealt r.valid p g r.figure _ _ (rows_dealt ps gs rows) cs
