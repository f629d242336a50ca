-- The groups that a call is for, and those that it leaves.
--
--     taken e xs     what a list has for the groups asked for
--     others e xs    what it has for the others, in their order
--     count_of e n   how many groups are asked for where n are kept
--     too_many e n   whether more groups are asked for than the n that are kept
--     resets e       whether the switch is plain again after these groups are removed
use Rattle.std.specs.Prelude.{ℕ, Bool, true, false, List, [], take, drop, nat_lt}
use Rattle.groups.specs.declared.emit.EmitTo.{EmitTo}
use Rattle.groups.specs.declared.emit.EmitTo.TheVariants.{All, First}

abbrev pub taken : {A : Type 0} → EmitTo → List A → List A
taken All xs = xs
taken (First n) xs = take n xs

abbrev pub others : {A : Type 0} → EmitTo → List A → List A
others All xs = []
others (First n) xs = drop n xs

abbrev pub count_of : EmitTo → ℕ → ℕ
count_of All kept = kept
count_of (First n) kept = n

abbrev pub too_many : EmitTo → ℕ → Bool
too_many All kept = false
too_many (First n) kept = nat_lt kept n

abbrev pub resets : EmitTo → Bool
resets All = true
resets (First n) = false
