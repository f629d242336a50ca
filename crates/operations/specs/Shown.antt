-- What the primitive kind shows of rows, in terms of the values among them alone.
--
--     values rs               the values among rows, in order
--     shown_of start rule rs  what is shown of the join of the rows
--     Shows P vs c            nothing where there are no values, else a value that P says of them
--     total_z vs              the plain sum
--     Least UpTo vs m         a value among them that is up to each of them
--     Greatest UpTo vs m      a value among them that each of them is up to
use Rattle.std.specs.Prelude.{◌≡◌, ℕ, ◌%◌, ◌^◌, ◌<◌, Bool, true, List, [], ◌∷◌, ℤ, pos, ◌+ℤ◌, Some, None, Decides, sum, count_by, Option, FitsSigned}
use Rattle.std.specs.List.{All, Contains, filter_map}
use Rattle.std.specs.Int.{int_wrap, w64}
use Rattle.groups.specs.Kind.{joined}
use Rattle.operations.specs.Primitive.{primitive}

abbrev pub values : {E : Type 0} → List (Option E) → List E
values rs = filter_map (λ r. r) rs

abbrev pub shown_of : {E : Type 0} → E → (E → E → E) → List (Option E) → Option E
shown_of start rule rs = (primitive start rule).shown (joined (primitive start rule) rs)

abbrev pub Shows : {E : Type 0} → (List E → E → Type 0) → List E → Option E → Type 0
Shows P [] c = c ≡ None
Shows {E} P (v ∷ vs) c = (m : E) × (c ≡ Some m) × P (v ∷ vs) m

-- ── sums ─────────────────────────────────────────────────────────────────
abbrev pub total_z : List ℤ → ℤ
total_z [] = pos 0
total_z (v ∷ vs) = v +ℤ total_z vs

-- the plain sum, wrapped once
abbrev pub ShowsSumI64 : ℤ → (ℤ → ℤ → ℤ) → Type 0
ShowsSumI64 start rule = (rs : List (Option ℤ)) → All (FitsSigned w64) (values rs) → Shows (λ vs m. m ≡ int_wrap w64 (total_z vs)) (values rs) (shown_of start rule rs)

abbrev pub ShowsSumU64 : ℕ → (ℕ → ℕ → ℕ) → Type 0
ShowsSumU64 start rule = (rs : List (Option ℕ)) → All (λ v. v < 2 ^ 64) (values rs) → Shows (λ vs m. m ≡ sum vs % 2 ^ 64) (values rs) (shown_of start rule rs)

-- ── a member that bounds all ─────────────────────────────────────────────
module _ {E : Type 0} (UpTo : E → E → Type 0) where
  pub record Least (vs : List E) (m : E) : Type 0 where
    pub member : Contains vs m
    pub bound : All (λ v. UpTo m v) vs

  pub record Greatest (vs : List E) (m : E) : Type 0 where
    pub member : Contains vs m
    pub bound : All (λ v. UpTo v m) vs

  abbrev pub ShowsLeast : E → (E → E → E) → Type 0
  ShowsLeast start rule = (rs : List (Option E)) → Shows Least (values rs) (shown_of start rule rs)

  abbrev pub ShowsGreatest : E → (E → E → E) → Type 0
  ShowsGreatest start rule = (rs : List (Option E)) → Shows Greatest (values rs) (shown_of start rule rs)

-- ── booleans ─────────────────────────────────────────────────────────────
abbrev pub ShowsAll : Bool → (Bool → Bool → Bool) → Type 0
ShowsAll start rule = (rs : List (Option Bool)) → Shows (λ vs m. Decides m (All (λ v. v ≡ true) vs)) (values rs) (shown_of start rule rs)

abbrev pub ShowsAny : Bool → (Bool → Bool → Bool) → Type 0
ShowsAny start rule = (rs : List (Option Bool)) → Shows (λ vs m. Decides m (Contains vs true)) (values rs) (shown_of start rule rs)

abbrev pub ShowsOdd : Bool → (Bool → Bool → Bool) → Type 0
ShowsOdd start rule = (rs : List (Option Bool)) → Shows (λ vs m. Decides m (count_by (λ v. v) vs % 2 ≡ 1)) (values rs) (shown_of start rule rs)
