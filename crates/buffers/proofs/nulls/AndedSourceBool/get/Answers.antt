use Rattle.std.proofs.Common.{ℕ, ◌+◌, ◌<◌, Bool, ◌&&◌, sym, ◌∙◌, ap₂, zero-add, arith}
use Rattle.std.proofs.lemmas.List.FromFn.{length-map-range_with_len, get_or-map-range_with_len}
use Rattle.columnar.specs.Packed.{bit_at}
use Rattle.buffers.proofs.nulls.AndedSourceBool.get.Goals as goal

pub get-requires : goal.get-requires
get-requires c = let s = c.args.self.now in omega (arith, c.requires, s.even, length-map-range_with_len (λ j. bit_at s.mask.slots.now (s.mask.start + j) && bit_at s.values.slots.now (s.values.start + j)) 0 s.values.len)

pub get-requires-2 : goal.get-requires-2
get-requires-2 c = let s = c.args.self.now in omega (arith, c.requires, length-map-range_with_len (λ j. bit_at s.mask.slots.now (s.mask.start + j) && bit_at s.values.slots.now (s.values.start + j)) 0 s.values.len)

pub returns : goal.returns
returns c =
    let s = c.args.self.now in
    let j = c.args.j in
    let f : ℕ → Bool = λ j. bit_at s.mask.slots.now (s.mask.start + j) in
    let h : ℕ → Bool = λ j. bit_at s.values.slots.now (s.values.start + j) in
    let both : ℕ → Bool = λ j. f j && h j in
    let low : j < s.values.len = omega (arith, c.requires, length-map-range_with_len both 0 s.values.len) in
    let known : j < s.mask.len = omega (arith, low, s.even) in
    ap₂ (λ a b. a && b)
    (c.get.ensures ∙ get_or-map-range_with_len f 0 s.mask.len j j c.get.result known (zero-add j))
    (c.get-2.ensures ∙ get_or-map-range_with_len h 0 s.values.len j j c.get-2.result low (zero-add j))
    ∙ sym (get_or-map-range_with_len both 0 s.values.len j j (c.get.result && c.get-2.result) low (zero-add j))
