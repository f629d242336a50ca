use Rattle.std.proofs.Common.{ap, ◌∙◌}
use Rattle.std.specs.Result.{result_err}
use Rattle.columnar.specs.Views.{cells_under}
use Rattle.groups.specs.Tally.{unless, update_refusal, updated}
use Rattle.operations.specs.Primitive.{primitive}
use Rattle.prim_op.specs.Means.{meaning_of}
use Rattle.prim_op.proofs.Merging.{merged_is, merge_refusal_is}
use Rattle.prim_op.proofs.op_groups.OpGroupsAccumulator.merge_rows.Goals as goal

pub returns : goal.returns
returns g c =
    let o = g.O.Operation in
    let k = primitive o.start o.rule in
    let m = meaning_of c.args.self.now in
    let v = c.args.values.now.values in
    let rows = cells_under c.args.values.now.validity (g.L.PackingOf.items v.slots.now v.start v.len) in
    let gs = c.args.group_indices.now in
    let total = c.args.total in
    record {
      stays = c.update_rows.ensures.stays;
      answer = c.update_rows.ensures.answer ∙ ap (λ f. update_refusal k m rows f gs total) c.none-none.ensures ∙ merge_refusal_is o.start o.rule m rows gs total;
      after = c.update_rows.ensures.after ∙ ap (λ f. unless (result_err c.update_rows.result) m (updated k m rows f gs total)) c.none-none.ensures ∙ ap (unless (result_err c.update_rows.result) m) (merged_is o.start o.rule m rows gs total);
    }
