use Rattle.std.proofs.Common.{take, sym, rules, ◌∙◌}
use Rattle.std.proofs.lemmas.List.{length-take-le}
use Rattle.columnar.specs.Packed.{packed}
use Rattle.buffers.proofs.Packing.{length_packed, packed_makes}
use Rattle.buffers.proofs.pack.write_bits.Goals as goal

pub returns : goal.returns
returns g c =
    let bits = take c.args.n (g.S.Source.items c.args.bits.now) in
    let long = length-take-le c.args.n (g.S.Source.items c.args.bits.now) c.requires.within in
    c.write_front.ensures (packed bits) (length_packed bits c.args.n long ∙ sym c.bytes_for.ensures) (λ j x h made. packed_makes bits c.args.n j x long h (search rules))
