use Rattle.std.proofs.Common.{◌≡◌, take}
use Rattle.groups.specs.Named.{named_marks}
use Rattle.groups.proofs.checks.mark_named.Given as goal

abbrev pub invariant-loop-group : goal.invariant-loop-group
invariant-loop-group l = l.marks ≡ named_marks l.kept l.initial.marks (take l.group-index l.group_indices)
