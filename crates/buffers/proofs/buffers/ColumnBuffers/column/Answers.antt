use Rattle.std.proofs.Common.{◌≡◌, ◌*◌, ◌&&◌, ◌||◌, cond, ltb, length, ap, ◌∙◌, arith}
use Rattle.buffers.specs.Memory.{readable}
use Rattle.buffers.proofs.HeldCells.{held_as, held_plain, held_masked, readable_within}
use Rattle.buffers.proofs.buffers.ColumnBuffers.column.Goals as goal

-- how many rows the view has
rows_are : (holds bytes len n : _) (lacks masked : _) → lacks ≡ ltb holds len → n ≡ cond (lacks || (masked && ltb (8 * bytes) len)) 0 len → n ≡ readable holds bytes masked len
rows_are holds bytes len n lacks masked e is = is ∙ ap (λ b. cond (b || (masked && ltb (8 * bytes) len)) 0 len) e

pub returns-then-not-self : goal.returns-then-not-self
returns-then-not-self g c =
    let s = c.args.self.now in
    let n = c.readable_rows-len.result in
    c.plain.ensures
    ∙ held_plain s.masked s.bits.now n (g.L.PackingOf.items s.values.now 0 n) c.if-not-self.true
    ∙ ap (λ k. held_as s.masked s.bits.now k (g.L.PackingOf.items s.values.now 0 k)) (rows_are _ _ _ _ _ _ c.lacks.ensures c.readable_rows-len.ensures)

pub returns : goal.returns
returns g c =
    let s = c.args.self.now in
    let n = c.readable_rows-len.result in
    let is = rows_are (g.L.Packing.holds (length s.values.now)) _ _ _ _ _ c.lacks.ensures c.readable_rows-len.ensures in
    let shows = rw c.unwrap.ensures at c.new.ensures.shows in
    shows
    ∙ held_masked s.masked s.bits.now n (g.L.PackingOf.items s.values.now 0 n) c.if-not-self.false (g.met.L.Readable.counts s.values.now 0 n (omega (arith, readable_within (g.L.Packing.holds (length s.values.now)) (length s.bits.now) s.masked s.len n is)))
    ∙ ap (λ k. held_as s.masked s.bits.now k (g.L.PackingOf.items s.values.now 0 k)) is
