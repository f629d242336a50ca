use Rattle.std.proofs.Common.{◌≡◌, ◌-◌, ◌<◌, ◌≤◌, min, Bool, false, not, ◌||◌, ltb, List, ◌++◌, map, length, take, replicate, is_some, None, unwrap_or, sym, refl, ap, ◌∙◌, subst, arith}
use Rattle.std.specs.Option.{option_map}
use Rattle.std.proofs.ByRecursion.{All-weaker}
use Rattle.std.proofs.lemmas.List.Elements.{All-from_recursion, recursion_from_All}
use Rattle.std.proofs.lemmas.Result.{err_from_is_err_and}
use Rattle.std.proofs.lemmas.Bool.{and_parts}
use Rattle.columnar.specs.Cells.{passes, nulls, seen}
use Rattle.columnar.specs.Views.{cells_under, ticks}
use Rattle.groups.specs.Lists.{deal}
use Rattle.groups.specs.Lines.{batch_line}
use Rattle.groups.specs.Tally.{refusal, admitted}
use Rattle.groups.proofs.Accepting.{accepted, named}
use Rattle.operations.specs.Primitive.{join_by}
use Rattle.groups.specs.Seen.{is_plain, in_force}
use Rattle.walk.specs.Visits.{visits}
use Rattle.prim_op.specs.Kept.{credits_of, Unset}
use Rattle.prim_op.specs.Means.{marks_of, values_of, meaning_of}
use Rattle.prim_op.proofs.Updates.{Told, credits_updated, unset_updated}
use Rattle.prim_op.proofs.Calls.{told_memory, five_same, forced_same, visits_below, ticks_long, update_line, kept_credits, join_none, switch_is, all_covered, meaning_same}
use Rattle.prim_op.proofs.op_groups.OpGroupsAccumulator.update_rows.Goals as goal

pub returns-in_err-refuse : goal.returns-in_err-refuse
returns-in_err-refuse g c =
    let o = g.O.Operation in
    let s = c.args.self.now in
    let plain = is_plain s.marks.null_state.seen_values in
    let kept = s.marks.null_state.kept in
    let v = c.args.values.now.values in
    let rows = cells_under c.args.values.now.validity (g.L.PackingOf.items v.slots.now v.start v.len) in
    let f = ticks c.args.opt_filter.now in
    let same : in_force plain kept c.refuse.new.marks ≡ marks_of s = forced_same plain kept c.refuse.new.marks s.marks.slots.now c.refuse.ensures.marks in
    let in-marks : kept ≤ length s.marks.slots.now = omega arith in
    let in-values : kept ≤ length s.values.now = omega arith in
    let many = kept_credits plain kept s.marks.slots.now s.values.now in-marks in-values in
    let P : List Bool → Type 0 = λ ms. Unset o.start ms (values_of s) in
    let line =
    c.in_err-refuse.ensures.answer
    ∙ ap (λ n. refusal (batch_line s.limits.rows s.limits.groups kept n c.args.group_indices.now c.ticked.result c.args.total)) c.len.ensures
    ∙ ap (λ q. refusal (batch_line s.limits.rows s.limits.groups kept (length rows) c.args.group_indices.now q c.args.total)) c.ticked.ensures
    ∙ update_line o.start o.rule (meaning_of s) kept many refl rows f c.args.group_indices.now c.args.total in
    let p = err_from_is_err_and c.from_residual.result c.from_residual.ensures.1 in
    rw (p.1, p.2) record {
      stays = record { kept_limit = c.requires.kept_limit; limit_values = c.requires.limit_values; limit_marks = omega arith; unset = subst P (sym same) c.requires.unset };
      answer = line;
      after = meaning_same _ _ _ _ _ _ _ _ 0 (ap (λ ms. credits_of ms (values_of s)) same) refl refl refl;
    }

pub accumulate-requires : goal.accumulate-requires
accumulate-requires g c =
    let s = c.args.self.now in
    let t = c.open.new.self in
    let a = (accepted s.limits.rows s.limits.groups s.marks.null_state.kept c.len.result c.args.group_indices.now c.ticked.result c.args.total _ (sym c.in_ok-refuse.ensures.answer)).0 in
    record {
      even = sym a.even ∙ c.len.ensures;
      named = All-from_recursion _ _ (All-weaker (λ k. k < c.args.total) (λ k. k < min (length t.values.now) (length t.marks.slots.now)) (λ k h. omega (arith, a.room, c.open.ensures.values_len, c.open.ensures.marks_len)) c.args.group_indices.now a.below);
      ticked = ticks_long (ticks c.args.opt_filter.now) c.len.result (length c.args.group_indices.now) (ap (λ q. unwrap_or q c.len.result) (sym c.ticked.ensures) ∙ a.filter) a.even;
    }

pub returns : goal.returns
returns g c =
    let o = g.O.Operation in
    let s = c.args.self.now in
    let plain = is_plain s.marks.null_state.seen_values in
    let kept = s.marks.null_state.kept in
    let total = c.args.total in
    let gs = c.args.group_indices.now in
    let v = c.args.values.now.values in
    let rows = cells_under c.args.values.now.validity (g.L.PackingOf.items v.slots.now v.start v.len) in
    let f = ticks c.args.opt_filter.now in
    let t = c.open.new.self in
    let plain' = is_plain t.marks.null_state.seen_values in
    let z = c.accumulate.new.visitor in
    let ps = visits gs rows (passes f (length gs)) in
    let line : refusal (batch_line s.limits.rows s.limits.groups kept (length rows) gs (option_map length f) total) ≡ None =
    ap (λ n. refusal (batch_line s.limits.rows s.limits.groups kept n gs (option_map length f) total)) (sym c.len.ensures)
    ∙ ap (λ q. refusal (batch_line s.limits.rows s.limits.groups kept c.len.result gs q total)) (sym c.ticked.ensures)
    ∙ sym c.in_ok-refuse.ensures.answer in
    let a = (accepted s.limits.rows s.limits.groups kept (length rows) gs (option_map length f) total _ line).0 in
    let names = named s.limits.rows s.limits.groups kept (length rows) gs (option_map length f) total line in
    let told = c.accumulate.ensures.told ∙ told_memory o.start o.rule t.values.now t.marks.slots.now plain' ps in
    let five = five_same _ _ _ _ _ _ _ _ _ _ _ _ c.accumulate.ensures.same in
    let turns = c.given.result || ltb 0 c.null_count.result in
    let turned : turns ≡ (is_some f || ltb 0 (nulls rows)) = ap (λ b. b || ltb 0 c.null_count.result) c.given.ensures ∙ ap (λ n. is_some f || ltb 0 n) c.null_count.ensures in
    let force : in_force plain kept c.refuse.new.marks ≡ marks_of s = forced_same plain kept c.refuse.new.marks s.marks.slots.now c.refuse.ensures.marks in
    let in-values : kept ≤ length s.values.now = omega arith in
    let in-marks : kept ≤ length s.marks.slots.now = omega arith in
    let all : Told o.start o.rule kept total plain plain' s.marks.slots.now t.marks.slots.now z.marks.slots.now s.values.now t.values.now z.values.now ps =
    record {
      order = a.order;
      room_values = in-values;
      room_marks = in-marks;
      below = visits_below total gs rows (passes f (length gs)) a.below;
      fit = recursion_from_All _ _ c.accumulate.ensures.fits;
      unset = c.requires.unset;
      values_opened = c.open.ensures.values;
      values_told = ap (λ y. y.0) told;
      marks_opened = λ e. c.open.ensures.marks e ∙ ap (λ ms. ms ++ replicate (total - kept) false) force;
      marks_told = ap (λ y. y.1.0) told;
      was_plain = λ e. (and_parts plain (not turns) (sym c.open.ensures.switch ∙ e)).0;
      covered = all_covered kept total gs rows f plain turns plain' a.order a.even names c.open.ensures.switch turned;
    } in
    let zkept : z.marks.null_state.kept ≡ total = five.2 ∙ c.open.ensures.kept in
    let zplain : is_plain z.marks.null_state.seen_values ≡ plain' = ap (λ y. y.1.1) told in
    let join = join_by o.rule in
    let cs = credits_of (marks_of s) (values_of s) in
    let many : length cs ≡ kept = kept_credits plain kept s.marks.slots.now s.values.now in-marks in-values in
    let credits =
    ap (λ b. credits_of (in_force b z.marks.null_state.kept z.marks.slots.now) (values_of z)) zplain
    ∙ ap (λ k. credits_of (in_force plain' k z.marks.slots.now) (take k z.values.now)) zkept
    ∙ credits_updated all join (λ b. refl) (λ x y. refl) (join_none o.rule) (passes f (length rows)) gs rows (ap (λ n. visits gs rows (passes f n)) (sym a.even))
    ∙ ap (λ k. deal join (admitted (passes f (length rows)) gs (map seen rows)) (cs ++ replicate (total - k) None)) (sym many) in
    let start-kept : Unset o.start (marks_of z) (values_of z) =
    rw (zplain, zkept) (unset_updated all join (λ b. refl) (λ x y. refl) (join_none o.rule)) in
    record {
      stays = record {
        kept_limit = omega (arith, a.room, five.4, ap (λ l. l.groups) c.open.ensures.limits);
        limit_values = omega (arith, five.0, five.4, ap (λ l. l.groups) c.open.ensures.limits, c.open.ensures.values_len);
        limit_marks = omega (arith, five.1, five.4, ap (λ l. l.groups) c.open.ensures.limits, c.open.ensures.marks_len);
        unset = start-kept;
      };
      answer = sym line ∙ update_line o.start o.rule (meaning_of s) kept many refl rows f gs total;
      after = meaning_same _ _ _ _ _ _ _ _ 0 credits (ap not zplain ∙ switch_is plain turns (is_some f || ltb 0 (nulls rows)) plain' c.open.ensures.switch turned) (five.3 ∙ ap (λ l. l.rows) c.open.ensures.limits) (five.4 ∙ ap (λ l. l.groups) c.open.ensures.limits);
    }
