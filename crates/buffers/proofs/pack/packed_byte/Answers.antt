use Rattle.std.proofs.Common.{◌≡◌, ◌+◌, ◌*◌, ◌<◌, false, length, get_or, take, sym, ◌∙◌, arith}
use Rattle.std.proofs.lemmas.List.{get_or_read, get_or-take, length-take-le}
use Rattle.buffers.proofs.Packing.{byte_fits, byte_yes, byte_no, byte_all}
use Rattle.buffers.proofs.pack.packed_byte.Goals as goal
use Rattle.buffers.proofs.pack.packed_byte.Goals.{then-get, else-get}

pub overflow_add-byte : goal.overflow_add-byte
overflow_add-byte g c = omega (arith, byte_fits (take c.args.n (g.S.Source.items c.args.bits.now)) c.args.k c.loop-i.i c.loop-i.byte c.loop-i.invariant (omega arith))

pub loop-i-preserved : goal.loop-i-preserved
loop-i-preserved g c =
    let n = c.args.n in
    let k = c.args.k in
    let i = c.loop-i.i in
    let bits = g.S.Source.items c.args.bits.now in
    let inside : 8 * k + i < n = omega arith in
    let read : get_or bits (8 * k + i) false ≡ c.get.result = sym (get_or_read bits (8 * k + i) c.get.result (omega arith) c.get.ensures false) in
    elim c.if-get.branch [
      | then-get w ↦ w.byte-is ∙ byte_yes (take n bits) k i c.loop-i.byte c.loop-i.invariant (omega arith) (get_or-take n bits _ _ inside ∙ read ∙ w.if-get.true)
      | else-get w ↦ w.byte-is ∙ byte_no (take n bits) k i c.loop-i.byte c.loop-i.invariant (get_or-take n bits _ _ inside ∙ read ∙ w.if-get.false)
    ]

pub returns : goal.returns
returns g c =
    let n = c.args.n in
    let bits = g.S.Source.items c.args.bits.now in
    let long : length (take n bits) ≡ n = length-take-le n bits c.requires.within in
    byte_all (take n bits) c.args.k c.loop-i.i c.loop-i.byte c.loop-i.invariant (omega arith) (λ h. omega arith)
