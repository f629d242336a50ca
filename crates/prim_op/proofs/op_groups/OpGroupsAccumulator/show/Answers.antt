use Rattle.std.proofs.Common.{◌≡◌, ◌≤◌, true, false, length, sym, refl, ap, ◌∙◌, ap₂, arith}
use Rattle.std.proofs.lemmas.Bool.{cond-true, cond-false, lt-ltb, le-ltb, not-true, not-false}
use Rattle.buffers.specs.Memory.{flat_column, short, stored}
use Rattle.buffers.proofs.Rooms.{flat_shaped}
use Rattle.groups.specs.Tally.{answer}
use Rattle.operations.specs.Primitive.{primitive}
use Rattle.groups.specs.Seen.{is_plain}
use Rattle.prim_op.specs.Kept.{credits_of}
use Rattle.prim_op.specs.Means.{marks_of, values_of, meaning_of}
use Rattle.prim_op.proofs.Calls.{kept_credits}
use Rattle.prim_op.proofs.Emitting.{many_is, laid_is_shown}
use Rattle.prim_op.proofs.op_groups.OpGroupsAccumulator.show.Goals as goal

pub returns-then-rows-kept : goal.returns-then-rows-kept
returns-then-rows-kept g c =
    let s = c.args.self.now in
    let kept = s.marks.null_state.kept in
    let many = kept_credits (is_plain s.marks.null_state.seen_values) kept s.marks.slots.now s.values.now (omega arith) (omega arith) in
    record {
      answer = sym (cond-true _ _ _ (many_is c.args.emit_to (credits_of (marks_of s) (values_of s)) kept c.count-rows.result true many c.count-rows.ensures (lt-ltb kept c.count-rows.result c.if-rows-kept.true)));
      written = refl;
    }

pub returns-then-not-fits : goal.returns-then-not-fits
returns-then-not-fits g c =
    let s = c.args.self.now in
    let o = g.O.Operation in
    let b = g.B.Buffers in
    let kept = s.marks.null_state.kept in
    let rows = c.count-rows.result in
    let masked = c.is_marked-masked.result in
    let plain = is_plain s.marks.null_state.seen_values in
    let in-marks : kept ≤ length s.marks.slots.now = omega arith in
    let in-values : kept ≤ length s.values.now = omega arith in
    let few : rows ≤ kept = c.if-rows-kept.false in
    let flat = flat_column s.values.now s.marks.slots.now rows masked in
    let many = kept_credits plain kept s.marks.slots.now s.values.now in-marks in-values in
    let shown : flat ≡ answer (primitive o.start o.rule) (meaning_of s) c.args.emit_to =
    ap₂ (flat_column s.values.now s.marks.slots.now) c.count-rows.ensures c.is_marked-masked.ensures
    ∙ laid_is_shown o.start plain c.args.emit_to kept s.marks.slots.now s.values.now in-marks in-values (omega (arith, c.count-rows.ensures)) c.requires.unset in
    let small : short b.layout (b.room (b.memory c.args.out.now)) flat ≡ true =
    not-false _ (sym (c.fits.ensures flat (flat_shaped s.values.now s.marks.slots.now rows masked (omega arith) (omega arith))) ∙ c.if-not-fits.true) in
    record {
      answer = sym (
          cond-false _ _ _ (many_is c.args.emit_to (credits_of (marks_of s) (values_of s)) kept rows false many c.count-rows.ensures (le-ltb kept rows few))
          ∙ cond-true _ _ _ (ap (short b.layout (b.room (b.memory c.args.out.now))) (sym shown) ∙ small));
      written = refl;
    }

pub put-requires : goal.put-requires
put-requires g c =
    let s = c.args.self.now in
    let flat = flat_column s.values.now s.marks.slots.now c.count-rows.result c.is_marked-masked.result in
    record {
      values = omega arith;
      marks = omega arith;
      room = not-true _ (sym (c.fits.ensures flat (flat_shaped s.values.now s.marks.slots.now c.count-rows.result c.is_marked-masked.result (omega arith) (omega arith))) ∙ c.if-not-fits.false);
    }

pub returns : goal.returns
returns g c =
    let s = c.args.self.now in
    let o = g.O.Operation in
    let b = g.B.Buffers in
    let kept = s.marks.null_state.kept in
    let rows = c.count-rows.result in
    let masked = c.is_marked-masked.result in
    let plain = is_plain s.marks.null_state.seen_values in
    let in-marks : kept ≤ length s.marks.slots.now = omega arith in
    let in-values : kept ≤ length s.values.now = omega arith in
    let few : rows ≤ kept = c.if-rows-kept.false in
    let flat = flat_column s.values.now s.marks.slots.now rows masked in
    let many = kept_credits plain kept s.marks.slots.now s.values.now in-marks in-values in
    let shown : flat ≡ answer (primitive o.start o.rule) (meaning_of s) c.args.emit_to =
    ap₂ (flat_column s.values.now s.marks.slots.now) c.count-rows.ensures c.is_marked-masked.ensures
    ∙ laid_is_shown o.start plain c.args.emit_to kept s.marks.slots.now s.values.now in-marks in-values (omega (arith, c.count-rows.ensures)) c.requires.unset in
    let small : short b.layout (b.room (b.memory c.args.out.now)) flat ≡ false =
    not-true _ (sym (c.fits.ensures flat (flat_shaped s.values.now s.marks.slots.now rows masked (omega arith) (omega arith))) ∙ c.if-not-fits.false) in
    record {
      answer = sym (
          cond-false _ _ _ (many_is c.args.emit_to (credits_of (marks_of s) (values_of s)) kept rows false many c.count-rows.ensures (le-ltb kept rows few))
          ∙ cond-false _ _ _ (ap (short b.layout (b.room (b.memory c.args.out.now))) (sym shown) ∙ small));
      written = c.put.ensures ∙ ap (λ col. stored b.masks b.figures col (b.memory c.args.out.now)) shown;
    }
