-- The marks of groups.
--
--     is_plain s              whether the switch is plain
--     in_force plain n ms     the marks of the n kept groups: while the switch is plain each counts as marked
--     kept_marks m            those of marks beside their state
use Rattle.std.specs.Prelude.{ℕ, Bool, true, false, List, take, replicate}
use Rattle.groups.specs.declared.null_state.SeenValues.{SeenValues}
use Rattle.groups.specs.declared.null_state.SeenValues.TheVariants.{All, Marked}
use Rattle.groups.specs.declared.marks.Marks.{Marks}

abbrev pub is_plain : SeenValues → Bool
is_plain All = true
is_plain Marked = false

abbrev pub in_force : Bool → ℕ → List Bool → List Bool
in_force true kept marks = replicate kept true
in_force false kept marks = take kept marks

abbrev pub kept_marks : Marks → List Bool
kept_marks m = in_force (is_plain m.null_state.seen_values) m.null_state.kept m.slots.now
