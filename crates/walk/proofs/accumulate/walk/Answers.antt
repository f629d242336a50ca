use Rattle.std.proofs.Common.{sym, refl, ap, ◌∙◌, arith, rules}
use Rattle.walk.proofs.Walks.{rows_none, rows_visit, rows_null, rows_kept_out, rows_told, rows_fits, named_below, groups_same}
use Rattle.walk.proofs.accumulate.walk.Goals as goal
use Rattle.walk.proofs.accumulate.walk.Goals.{then-valid+then-passes, else-valid, else-valid-via-then-valid+else-passes, else-valid-via-else-valid}

pub loop-j-init : goal.loop-j-init
loop-j-init g c = (refl, rows_none)

pub visit-requires : goal.visit-requires
visit-requires g c = omega (arith, groups_same c.loop-j.invariant.0, named_below (g.V.Visitor.fixed c.args.visitor.now).0 c.args.group_indices.now c.loop-j.j c.requires.named c.loop-j-test.true)

pub loop-j-preserved : goal.loop-j-preserved
loop-j-preserved g c =
    let v = g.V.Visitor in
    let xs = c.args.values.now in
    let count = g.met.L.Readable.counts xs.slots.now xs.start xs.len xs.fits in
    elim c.if-valid.branch [
      | then-valid+then-passes w ↦ (
        search rules,
        rows_visit c.loop-j.invariant.1 c.loop-j-test.true c.valid.ensures w.if-valid.true w.passes.ensures w.if-passes.true (count ∙ sym c.requires.even) w.get.ensures (ap v.model w.visitor-is ∙ w.visit.ensures.told) w.visit.ensures.fit,
      )
      | else-valid w ↦ (
        search rules,
        elim w.else-valid.branch [
          | else-valid-via-then-valid+else-passes w' ↦ rows_kept_out c.loop-j.invariant.1 c.loop-j-test.true w'.passes.ensures w'.if-passes.false (ap v.model w.visitor-is)
          | else-valid-via-else-valid w' ↦ rows_null c.loop-j.invariant.1 c.loop-j-test.true c.valid.ensures w'.if-valid.false (ap v.model w.visitor-is)
        ],
      )
    ]

pub returns : goal.returns
returns g c = record {
  told = rows_told c.loop-j.invariant.1 c.loop-j-test.false;
  same = c.loop-j.invariant.0;
  fits = rows_fits c.loop-j.invariant.1 c.loop-j-test.false;
}
