-- What an accumulator under an operation means, and how its memory lies.
--
--     kind_of o         the primitive kind of an operation
--     meaning_of s      a credit for each kept group, the switch and the limits; it keeps no pairs
--     Sound start s     the kept groups and the limit lie within the memory, and unmarked groups have the start value
use Rattle.std.specs.Prelude.{◌≤◌, Bool, not, List, length, take, Option}
use Rattle.groups.specs.Kind.{Kind}
use Rattle.groups.specs.Tally.{Meaning}
use Rattle.operations.specs.declared.operation.Operation as operation
use Rattle.operations.specs.Primitive.{primitive}
use Rattle.groups.specs.Seen.{is_plain, kept_marks}
use Rattle.prim_op.specs.declared.op_groups.OpGroupsAccumulator.{OpGroupsAccumulator}
use Rattle.prim_op.specs.Kept.{credits_of, Unset}

abbrev pub kind_of : {O E : Type 0} → operation.Ghosts O E → Kind E E E
kind_of o = primitive o.start o.rule

module _ {E O L S : Type 0} where
  -- the marks in force, and the values, of the kept groups
  abbrev pub marks_of : OpGroupsAccumulator E O L S → List Bool
  marks_of s = kept_marks s.marks

  abbrev pub values_of : OpGroupsAccumulator E O L S → List E
  values_of s = take s.marks.null_state.kept s.values.now

  abbrev pub meaning_of : OpGroupsAccumulator E O L S → Meaning (Option E)
  meaning_of s =
      record {
        credits = credits_of (marks_of s) (values_of s);
        marked = not (is_plain s.marks.null_state.seen_values);
        most_rows = s.limits.rows;
        most_groups = s.limits.groups;
        most_pairs = 0;
      }

  pub record Sound (start : E) (s : OpGroupsAccumulator E O L S) : Type 0 where
    pub kept_limit : s.marks.null_state.kept ≤ s.limits.groups
    pub limit_values : s.limits.groups ≤ length s.values.now
    pub limit_marks : s.limits.groups ≤ length s.marks.slots.now
    pub unset : Unset start (marks_of s) (values_of s)
