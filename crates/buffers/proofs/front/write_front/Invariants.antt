use Rattle.std.proofs.Common.{◌≡◌, length}
use Rattle.buffers.specs.Memory.{Makes}
use Rattle.buffers.proofs.Fronts.{over_front}
use Rattle.buffers.proofs.front.write_front.Given as goal

abbrev pub invariant-loop-j : goal.invariant-loop-j
invariant-loop-j g l =
    (length l.initial.slot-items ≡ l.n)
    × ((xs : _) → length xs ≡ l.n → Makes (λ j x. g.F.Fn.post l.make (j, tt) x) xs → l.slot-items ≡ over_front xs l.initial.slot-items l.j)
