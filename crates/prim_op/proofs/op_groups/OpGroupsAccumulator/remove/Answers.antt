use Rattle.std.proofs.Common.{◌≡◌, ◌≤◌, Bool, List, length, take, drop, sym, refl, ap, ◌∙◌, subst, arith}
use Rattle.std.proofs.lemmas.List.{length-take-le}
use Rattle.groups.specs.Emits.{count_of}
use Rattle.groups.specs.Moves.{moved_down}
use Rattle.groups.specs.Seen.{is_plain}
use Rattle.groups.proofs.Marking.{take_moved}
use Rattle.prim_op.specs.Kept.{credits_of, Unset}
use Rattle.prim_op.specs.Means.{marks_of, values_of}
use Rattle.prim_op.proofs.Updates.{forced_length}
use Rattle.prim_op.proofs.Calls.{meaning_same}
use Rattle.prim_op.proofs.Emitting.{credits_left, unset_left, switch_left}
use Rattle.prim_op.proofs.op_groups.OpGroupsAccumulator.remove.Goals as goal

pub returns : goal.returns
returns g c =
    let s = c.args.self.now in
    let o = g.O.Operation in
    let e = c.args.emit_to in
    let kept = s.marks.null_state.kept in
    let n = count_of e kept in
    let plain = is_plain s.marks.null_state.seen_values in
    let t = c.remove.new.self.null_state in
    let vs = take t.kept c.move_down.new.slots in
    let in-marks : kept ≤ length s.marks.slots.now = omega arith in
    let in-values : kept ≤ length s.values.now = omega arith in
    let lm = forced_length plain kept s.marks.slots.now in-marks in
    let lv = length-take-le kept s.values.now in-values in
    let moved : vs ≡ drop n (values_of s) =
    ap (take t.kept) (c.move_down.ensures ∙ ap (λ k. moved_down s.values.now k kept) c.count-rows.ensures)
    ∙ ap (λ k. take k (moved_down s.values.now n kept)) c.remove.ensures.kept
    ∙ take_moved s.values.now n kept c.requires.few in-values in
    let P : List Bool → Type 0 = λ ms. Unset o.start ms vs in
    record {
      stays = record {
        kept_limit = omega (arith, c.remove.ensures.kept);
        limit_values = omega arith;
        limit_marks = omega arith;
        unset = subst P (sym c.remove.ensures.others) (unset_left e (marks_of s) (values_of s) vs kept lm lv moved o.start c.requires.sound.unset);
      };
      after = meaning_same _ _ _ _ _ _ _ _ 0
          (ap (λ ms. credits_of ms vs) c.remove.ensures.others ∙ credits_left e (marks_of s) (values_of s) vs kept lm lv moved)
          (switch_left e plain (is_plain t.seen_values) c.remove.ensures.switch) refl refl;
    }
