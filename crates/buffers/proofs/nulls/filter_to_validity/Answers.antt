use Rattle.std.proofs.Common.{◌≡◌, ◌+◌, ◌≤◌, false, ltb, length, sym, ap, ◌∙◌, arith}
use Rattle.std.specs.Option.{option_map}
use Rattle.std.proofs.lemmas.List.FromFn.{length-map-range_with_len}
use Rattle.std.proofs.lemmas.Bool.{le-ltb, cond-false}
use Rattle.columnar.specs.Packed.{bit_at, bytes_for, packed}
use Rattle.buffers.specs.Memory.{front}
use Rattle.buffers.proofs.Passed.{passed_plain, passed_anded}
use Rattle.buffers.proofs.nulls.filter_to_validity.Goals as goal

pub write_bits-requires-clause-within : goal.write_bits-requires-clause-within
write_bits-requires-clause-within c = let v = c.args.filter.now.values in omega (arith, length-map-range_with_len (λ j. bit_at v.slots.now (v.start + j)) 0 v.len)

pub write_bits-requires-2-clause-within : goal.write_bits-requires-2-clause-within
write_bits-requires-2-clause-within c = omega (arith, length-map-range_with_len)

pub returns-in_default-clause-out : goal.returns-in_default-clause-out
returns-in_default-clause-out c =
    let f = c.args.filter.now in
    let v = f.values in
    let room : bytes_for v.len ≤ length c.args.out.now = omega arith in
    let fits : ltb (length c.args.out.now) (bytes_for v.len) ≡ false = le-ltb _ _ room in
    c.write_bits.ensures ∙ ap (λ bs. front (packed bs) c.args.out.now) (passed_plain v.slots.now v.start (option_map (λ x. x.now) f.validity.mask) f.validity.start v.len (ap (option_map (λ x. x.now)) c.in_default.is)) ∙ sym (cond-false _ _ _ fits)

pub returns-clause-out : goal.returns-clause-out
returns-clause-out c =
    let f = c.args.filter.now in
    let v = f.values in
    let room : bytes_for v.len ≤ length c.args.out.now = omega arith in
    let fits : ltb (length c.args.out.now) (bytes_for v.len) ≡ false = le-ltb _ _ room in
    c.write_bits-2.ensures ∙ ap (λ bs. front (packed bs) c.args.out.now) (passed_anded v.slots.now v.start (option_map (λ x. x.now) f.validity.mask) c.in-Some.bytes.now f.validity.start v.len (ap (option_map (λ x. x.now)) c.in-Some.is)) ∙ sym (cond-false _ _ _ fits)
