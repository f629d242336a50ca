-- What the primitive kind shows of rows: one induction over the rows, and a step for each rule.
use Rattle.std.proofs.Common.{◌≡◌, ℕ, ◌+◌, ◌%◌, ◌^◌, ◌<◌, Bool, true, false, cond, not, ◌&&◌, ◌||◌, List, [], ◌∷◌, ℤ, pos, ◌+ℤ◌, Some, None, Decides, sum, count_by, Option, Ordering, sym, refl, ap, ◌∙◌, subst, inl, inr, ⊎_elim, mod-eq_of_lt, arith, w64, SFits}
use native.Mathlib.Nat.{add-mod-mod}
use Rattle.std.specs.Int.{int_wrap}
use Rattle.std.specs.List.{All, Contains}
use Rattle.std.specs.Ordering.{ord_min, ord_max}
use Rattle.std.proofs.lemmas.Int.{ints, int_wrap_fits, int_wrap-add_right}
use Rattle.std.proofs.lemmas.List.Elements.{All-nil, All-cons, All-head, All-tail, All-weaker, Contains-append_right, Contains-append_cases, Contains-push_cases}
use Rattle.std.proofs.lemmas.List.Sums.{sum_by-cons}
use Rattle.std.proofs.lemmas.Bool.{cases_eq, true≢false}
use Rattle.std.proofs.lemmas.Bool.Decides.{Decides-and, Decides-or, Decides-like}
use Rattle.groups.specs.Kind.{joined}
use Rattle.operations.specs.Primitive.{join_by, primitive}
use Rattle.operations.specs.Rules.{added_i64, added_u64, odd_of}
use Rattle.operations.specs.Orders.{Order, Picks, itself, lesser_picks, greater_picks}
use Rattle.operations.specs.Shown.{values, shown_of, Shows, total_z, ShowsSumI64, ShowsSumU64, Least, Greatest, ShowsLeast, ShowsGreatest, ShowsAll, ShowsAny, ShowsOdd}

-- P of one value, and of one more value before others, shows it of all; Q is what is known of each value
module _ {E : Type 0} (rule : E → E → E) (Q : E → Type 0) (P : List E → E → Type 0) (one : (x : E) → Q x → P (x ∷ []) x) (more : (x : E) (vs : List E) (m : E) → Q x → P vs m → P (x ∷ vs) (rule x m)) where
  before : (x : E) (vs : List E) (c : Option E) → Q x → Shows P vs c → Shows P (x ∷ vs) (join_by rule (Some x) c)
  before x [] c q e = (x, ap (join_by rule (Some x)) e, one x q)
  before x (v ∷ vs) c q s = (rule x s.0, ap (join_by rule (Some x)) s.1, more x (v ∷ vs) s.0 q s.2)

  shows : (start : E) (rs : List (Option E)) → All Q (values rs) → Shows P (values rs) (shown_of start rule rs)
  shows start [] q = refl
  shows start (None ∷ rs) q = shows start rs q
  shows start (Some x ∷ rs) q = before x (values rs) (joined (primitive start rule) rs) (All-head Q x (values rs) q) (shows start rs (All-tail Q x (values rs) q))

-- ── sums ─────────────────────────────────────────────────────────────────
plus_zero : (x : ℤ) → x +ℤ pos 0 ≡ x
plus_zero x = omega (arith, ints)

pub shows_sum_i64 : ShowsSumI64 (pos 0) added_i64
shows_sum_i64 =
    shows added_i64 (SFits w64) (λ vs m. m ≡ int_wrap w64 (total_z vs))
    (λ x f. sym (ap (int_wrap w64) (plus_zero x) ∙ int_wrap_fits w64 x f))
    (λ x vs m f e. ap (λ n. int_wrap w64 (x +ℤ n)) e ∙ int_wrap-add_right w64 x (total_z vs))
    (pos 0)

pub shows_sum_u64 : ShowsSumU64 0 added_u64
shows_sum_u64 =
    shows added_u64 (λ v. v < 2 ^ 64) (λ vs m. m ≡ sum vs % 2 ^ 64)
    (λ x f. sym (ap (λ n. n % 2 ^ 64) (sum_by-cons (λ v. v) x []) ∙ ap (λ n. n % 2 ^ 64) (plain x) ∙ mod-eq_of_lt f))
    (λ x vs m f e. ap (λ n. (x + n) % 2 ^ 64) e ∙ add-mod-mod x (sum vs) (2 ^ 64) ∙ ap (λ n. n % 2 ^ 64) (sym (sum_by-cons (λ v. v) x vs)))
    0
  where
    plain : (x : ℕ) → x + 0 ≡ x
    plain x = omega arith

-- ── a member that bounds all ─────────────────────────────────────────────
first_of : {E : Type 0} (x : E) (vs : List E) → Contains (x ∷ vs) x
first_of x vs = (0, omega arith, refl)

member_of : {E : Type 0} {UpTo : E → E → Type 0} {rule : E → E → E} → Picks UpTo rule → (x m : E) (vs : List E) → Contains vs m → Contains (x ∷ vs) (rule x m)
member_of {E} {UpTo} {rule} p x m vs h =
    ⊎_elim
    (λ (e : rule x m ≡ x). subst (Contains (x ∷ vs)) (sym e) (first_of x vs))
    (λ (e : rule x m ≡ m). subst (Contains (x ∷ vs)) (sym e) (Contains-append_right (x ∷ []) vs m h))
    (p.either x m)

module _ {E : Type 0} {UpTo : E → E → Type 0} {rank : E → E → Ordering} (o : Order UpTo rank) where
  pub shows_least : (start : E) → ShowsLeast UpTo start (ord_min rank)
  shows_least start rs =
      let p = lesser_picks o in
      shows (ord_min rank) (λ v. Unit {0}) (Least UpTo)
      (λ x k. record { member = first_of x []; bound = All-cons (λ v. UpTo x v) x [] (itself o x) (All-nil (λ v. UpTo x v)) })
      (λ x vs m k b. record {
        member = member_of p x m vs b.member;
        bound = All-cons (λ v. UpTo (ord_min rank x m) v) x vs (p.left x m) (All-weaker (λ v. UpTo m v) (λ v. UpTo (ord_min rank x m) v) (λ v h. o.onward (ord_min rank x m) m v (p.right x m) h) vs b.bound);
      })
      start rs (λ k d l. tt)

  pub shows_greatest : (start : E) → ShowsGreatest UpTo start (ord_max rank)
  shows_greatest start rs =
      let p = greater_picks o in
      shows (ord_max rank) (λ v. Unit {0}) (Greatest UpTo)
      (λ x k. record { member = first_of x []; bound = All-cons (λ v. UpTo v x) x [] (itself o x) (All-nil (λ v. UpTo v x)) })
      (λ x vs m k b. record {
        member = member_of p x m vs b.member;
        bound = All-cons (λ v. UpTo v (ord_max rank x m)) x vs (p.left x m) (All-weaker (λ v. UpTo v m) (λ v. UpTo v (ord_max rank x m)) (λ v h. o.onward v m (ord_max rank x m) h (p.right x m)) vs b.bound);
      })
      start rs (λ k d l. tt)

-- ── booleans ─────────────────────────────────────────────────────────────
itself_true : (b : Bool) → Decides b (b ≡ true)
itself_true b = (λ e. e, λ e. e)

pub shows_all : (start : Bool) → ShowsAll start ◌&&◌
shows_all start rs =
    shows ◌&&◌ (λ v. Unit {0}) (λ vs m. Decides m (All (λ v. v ≡ true) vs))
    (λ x k. (λ e. All-cons (λ v. v ≡ true) x [] e (All-nil (λ v. v ≡ true)), λ a. All-head (λ v. v ≡ true) x [] a))
    (λ x vs m k d.
    Decides-like (x && m)
    (λ (b : (x ≡ true) × All (λ v. v ≡ true) vs). All-cons (λ v. v ≡ true) x vs b.0 b.1)
    (λ a. (All-head (λ v. v ≡ true) x vs a, All-tail (λ v. v ≡ true) x vs a))
    (Decides-and x m (itself_true x) d))
    start rs (λ k l n. tt)

pub shows_any : (start : Bool) → ShowsAny start ◌||◌
shows_any start rs =
    shows ◌||◌ (λ v. Unit {0}) (λ vs m. Decides m (Contains vs true))
    (λ x k. Decides-like x (λ e. subst (Contains (x ∷ [])) e (first_of x [])) (λ h. ⊎_elim (λ none. absurd (omega (arith, none.1))) (λ e. e) (Contains-push_cases [] x true h)) (itself_true x))
    (λ x vs m k d.
    Decides-like (x || m)
    (⊎_elim (λ (e : x ≡ true). subst (Contains (x ∷ vs)) e (first_of x vs)) (λ (h : Contains vs true). Contains-append_right (x ∷ []) vs true h))
    (λ h. ⊎_elim (λ h. ⊎_elim (λ none. absurd (omega (arith, none.1))) inl (Contains-push_cases [] x true h)) inr (Contains-append_cases (x ∷ []) vs true h))
    (Decides-or x m (itself_true x) d))
    start rs (λ k l n. tt)

-- one more changes whether a number is odd
odd_more : (m : Bool) (n : ℕ) → Decides m (n % 2 ≡ 1) → Decides (not m) ((1 + n) % 2 ≡ 1)
odd_more true n d = let h = d.0 refl in (λ e. absurd (true≢false (sym e)), λ o. absurd (omega arith))
odd_more false n d = (λ e. ⊎_elim (λ (o : n % 2 ≡ 1). absurd (true≢false (sym (d.1 o)))) (λ (z : n % 2 ≡ 1 → ⊥). omega (arith, z)) (cases_eq (n % 2) 1), λ o. refl)

odd_step : (x m : Bool) (n : ℕ) → Decides m (n % 2 ≡ 1) → Decides (odd_of x m) ((cond x 1 0 + n) % 2 ≡ 1)
odd_step true m n d = odd_more m n d
odd_step false m n d = let z : 0 + n ≡ n = omega arith in subst (λ k. Decides m (k % 2 ≡ 1)) (sym z) d

odd_one : (x : Bool) → Decides x (count_by (λ v. v) (x ∷ []) % 2 ≡ 1)
odd_one true = (λ e. refl, λ e. refl)
odd_one false = (λ e. absurd (true≢false (sym e)), λ e. absurd (omega (arith, e)))

pub shows_odd : (start : Bool) → ShowsOdd start odd_of
shows_odd start rs =
    shows odd_of (λ v. Unit {0}) (λ vs m. Decides m (count_by (λ v. v) vs % 2 ≡ 1))
    (λ x k. odd_one x)
    (λ x vs m k d. subst (λ n. Decides (odd_of x m) (n % 2 ≡ 1)) (sym (sum_by-cons (λ v. cond v 1 0) x vs)) (odd_step x m (count_by (λ v. v) vs) d))
    start rs (λ k l n. tt)
