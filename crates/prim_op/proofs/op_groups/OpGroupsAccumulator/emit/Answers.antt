use Rattle.std.proofs.Common.{sym, arith}
use Rattle.groups.specs.Seen.{is_plain}
use Rattle.prim_op.specs.Kept.{credits_of}
use Rattle.prim_op.specs.Means.{marks_of, values_of}
use Rattle.prim_op.proofs.Calls.{kept_credits}
use Rattle.prim_op.proofs.Emitting.{few_enough}
use Rattle.prim_op.proofs.op_groups.OpGroupsAccumulator.emit.Goals as goal

pub remove-requires : goal.remove-requires
remove-requires g c =
    let s = c.args.self.now in
    let kept = s.marks.null_state.kept in
    record {
      sound = c.requires;
      few = few_enough c.args.emit_to (credits_of (marks_of s) (values_of s)) kept _ _ (kept_credits (is_plain s.marks.null_state.seen_values) kept s.marks.slots.now s.values.now (omega arith) (omega arith)) (sym c.in_ok-show.ensures.answer);
    }
