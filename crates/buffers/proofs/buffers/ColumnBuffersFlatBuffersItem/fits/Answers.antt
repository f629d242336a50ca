use Rattle.std.proofs.Common.{cond, not, ◌||◌, ltb, length, sym, ap, ap₂, ◌∙◌}
use Rattle.buffers.proofs.Rooms.{short_is}
use Rattle.buffers.proofs.buffers.ColumnBuffersFlatBuffersItem.fits.Goals as goal

pub returns : goal.returns
returns g c = λ col shaped.
    let s = c.args.self.now in
    c.has_room.ensures
    ∙ ap₂ (λ k n. not (ltb (length s.values.now) k || ltb (length s.bits.now) (cond c.args.masked n 0))) c.places.ensures c.bytes_for.ensures
    ∙ ap not (sym (short_is g.L.Packing.places _ col c.args.rows c.args.masked shaped))
