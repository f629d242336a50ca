use Rattle.std.proofs.Common.{refl, arith}
use Rattle.std.proofs.lemmas.List.{length-take-le}
use Rattle.buffers.proofs.Fronts.{over_more, over_part}
use Rattle.buffers.proofs.front.write_front.Goals as goal

pub loop-j-init : goal.loop-j-init
loop-j-init g c = (omega (arith, length-take-le c.args.n c.args.out.now c.requires.room), λ xs e m. refl)

pub loop-j-preserved : goal.loop-j-preserved
loop-j-preserved g c = (
  c.loop-j.invariant.0,
  λ xs e m. over_more xs _ c.loop-j.slot-items c.loop-j.j c.make.result (omega (arith, c.loop-j.invariant.0, c.loop-j-test.true)) c.loop-j-test.true (m c.loop-j.j c.make.result (omega (arith, c.loop-j.invariant.0, c.loop-j-test.true)) c.make.ensures) (c.loop-j.invariant.1 xs e m),
)

pub returns : goal.returns
returns g c xs e m = over_part xs _ c.loop-j.slot-items c.args.out.now c.args.n _ c.loop-j.j c.loop-j.invariant.0 e (omega arith) (omega (arith, c.loop-j.invariant.0, c.loop-j-test.false)) (c.loop-j.invariant.1 xs e m)
