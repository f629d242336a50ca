use Rattle.std.proofs.Common.{true, false, sym, refl, arith}
use Rattle.std.proofs.lemmas.Bool.{cond-true, cond-false, lt-ltb, le-ltb}
use Rattle.groups.specs.Seen.{is_plain}
use Rattle.prim_op.specs.Kept.{credits_of}
use Rattle.prim_op.specs.Means.{marks_of, values_of}
use Rattle.prim_op.proofs.Calls.{kept_credits}
use Rattle.prim_op.proofs.Emitting.{many_is}
use Rattle.prim_op.proofs.op_groups.OpGroupsAccumulator.forget_groups.Goals as goal

pub returns-then-count-kept : goal.returns-then-count-kept
returns-then-count-kept g c =
    let s = c.args.self.now in
    let kept = s.marks.null_state.kept in
    let many = kept_credits (is_plain s.marks.null_state.seen_values) kept s.marks.slots.now s.values.now (omega arith) (omega arith) in
    record {
      stays = c.requires;
      answer = sym (cond-true _ _ _ (many_is c.args.emit_to (credits_of (marks_of s) (values_of s)) kept c.count.result true many c.count.ensures (lt-ltb kept c.count.result c.if-count-kept.true)));
      after = refl;
    }

pub returns : goal.returns
returns g c =
    let s = c.args.self.now in
    let kept = s.marks.null_state.kept in
    let many = kept_credits (is_plain s.marks.null_state.seen_values) kept s.marks.slots.now s.values.now (omega arith) (omega arith) in
    record {
      stays = c.remove.ensures.stays;
      answer = sym (cond-false _ _ _ (many_is c.args.emit_to (credits_of (marks_of s) (values_of s)) kept c.count.result false many c.count.ensures (le-ltb kept c.count.result c.if-count-kept.false)));
      after = c.remove.ensures.after;
    }
