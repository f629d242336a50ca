use Rattle.std.proofs.Common.{◌≡◌, take}
use Rattle.columnar.specs.Packed.{byte_up_to}
use Rattle.buffers.proofs.pack.packed_byte.Given as goal

abbrev pub invariant-loop-i : goal.invariant-loop-i
invariant-loop-i g l = l.byte ≡ byte_up_to (take l.n (g.S.Source.items l.bits)) l.k l.i
