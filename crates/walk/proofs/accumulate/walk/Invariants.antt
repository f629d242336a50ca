use Rattle.std.proofs.Common.{◌≡◌}
use Rattle.walk.proofs.Walks.{WalkedRows}
use Rattle.walk.proofs.accumulate.walk.Given as goal

abbrev pub invariant-loop-j : goal.invariant-loop-j
invariant-loop-j g l =
    let v = g.V.Visitor in
    let xs = l.values in
    (v.fixed l.visitor ≡ v.fixed l.initial.visitor)
    × WalkedRows v.after v.fit (λ j b. g.P.Fn.post l.valid (j, tt) b) (λ j b. g.Q.Fn.post l.passes (j, tt) b) l.group_indices (g.L.PackingOf.items xs.slots.now xs.start xs.len) (v.model l.initial.visitor) (v.model l.visitor) l.j
