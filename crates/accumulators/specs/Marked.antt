-- A switch that is always marked is no other: the laws on credits that are never null ask nothing of it.
use Rattle.std.specs.Prelude.{◌≡◌, ℕ}
use Rattle.std.proofs.Common.{arith}
use Rattle.groups.specs.Kind.{by_nulls, always_marked, always_plain}

pub never_plain : {A : Type 0} → always_marked ≡ always_plain → A
never_plain e = let z : ◌≡◌ {A = ℕ} 0 1 = cc in absurd (omega arith)

pub never_by_nulls : {A : Type 0} → always_marked ≡ by_nulls → A
never_by_nulls e = let z : ◌≡◌ {A = ℕ} 0 1 = cc in absurd (omega arith)
