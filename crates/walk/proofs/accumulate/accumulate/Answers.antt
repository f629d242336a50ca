use Rattle.std.proofs.Common.{sym, refl, ap, ◌∙◌, arith, rules}
use Rattle.std.specs.Option.{option_map}
use Rattle.columnar.specs.Rows.{valid_at}
use Rattle.columnar.proofs.CellRows.{length_cells}
use Rattle.walk.proofs.Tests.{plain_counted, none_passes, some_passes, tick_count, some_within, told_rows, fits_rows}
use Rattle.walk.proofs.accumulate.accumulate.Goals as goal

pub walk-requires-clause-even : goal.walk-requires-clause-even
walk-requires-clause-even g c =
    let v = c.args.values.now.values in
    c.requires.even ∙ sym (length_cells _ v.len (g.met.L.Readable.counts v.slots.now v.start v.len v.fits) _)

pub walk-requires-in_default-None-2-clause-even : goal.walk-requires-in_default-None-2-clause-even
walk-requires-in_default-None-2-clause-even g c =
    let v = c.args.values.now.values in
    c.requires.even ∙ sym (length_cells _ v.len (g.met.L.Readable.counts v.slots.now v.start v.len v.fits) _)

pub walk-requires-in_default-Some-clause-even : goal.walk-requires-in_default-Some-clause-even
walk-requires-in_default-Some-clause-even g c =
    let v = c.args.values.now.values in
    c.requires.even ∙ sym (length_cells _ v.len (g.met.L.Readable.counts v.slots.now v.start v.len v.fits) _)

pub walk-requires-in_default-Some-2-clause-even : goal.walk-requires-in_default-Some-2-clause-even
walk-requires-in_default-Some-2-clause-even g c =
    let v = c.args.values.now.values in
    c.requires.even ∙ sym (length_cells _ v.len (g.met.L.Readable.counts v.slots.now v.start v.len v.fits) _)

pub walk-requires-in_default-None-2-clause-valid : goal.walk-requires-in_default-None-2-clause-valid
walk-requires-in_default-None-2-clause-valid g c j h _ _ _ _ _ =
    let k = c.args.values.now in
    let v = k.values in
    omega (arith, h, c.requires.even, length_cells _ v.len (g.met.L.Readable.counts v.slots.now v.start v.len v.fits) (valid_at (option_map (λ x. x.now) k.validity.mask) k.validity.start), k.even)

pub walk-requires-in_default-Some-2-clause-valid : goal.walk-requires-in_default-Some-2-clause-valid
walk-requires-in_default-Some-2-clause-valid g c j h _ _ _ _ _ =
    let k = c.args.values.now in
    let v = k.values in
    omega (arith, h, c.requires.even, length_cells _ v.len (g.met.L.Readable.counts v.slots.now v.start v.len v.fits) (valid_at (option_map (λ x. x.now) k.validity.mask) k.validity.start), k.even)

pub walk-requires-in_default-Some-clause-passes : goal.walk-requires-in_default-Some-clause-passes
walk-requires-in_default-Some-clause-passes g c j h _ _ _ _ _ _ _ _ =
    let f = c.args.opt_filter.now in
    let known = option_map (λ x. x.now) f.validity.mask in
    let given = ap (option_map (λ x. x.now)) c.in_default-Some.is-1 in
    let count = tick_count _ f.start known f.validity.start f.validity.len _ given c.requires.ticked in
    let within = some_within _ f.start known f.validity.start f.validity.len _ given c.requires.ticked f.fits in
    (omega (arith, h, within), omega (arith, h, count))

pub walk-requires-in_default-Some-2-clause-passes : goal.walk-requires-in_default-Some-2-clause-passes
walk-requires-in_default-Some-2-clause-passes g c j h _ _ _ _ _ _ _ _ =
    let f = c.args.opt_filter.now in
    let known = option_map (λ x. x.now) f.validity.mask in
    let given = ap (option_map (λ x. x.now)) c.in_default-Some.is-1 in
    let count = tick_count _ f.start known f.validity.start f.validity.len _ given c.requires.ticked in
    let within = some_within _ f.start known f.validity.start f.validity.len _ given c.requires.ticked f.fits in
    (omega (arith, h, within), omega (arith, h, count))

pub returns-in_default-None-clause-told : goal.returns-in_default-None-clause-told
returns-in_default-None-clause-told g c =
    let w = g.V.Visitor in
    let k = c.args.values.now in
    let f = c.args.opt_filter.now in
    let through = none_passes _ f.start (option_map (λ x. x.now) f.validity.mask) f.validity.start f.validity.len _ (ap (option_map (λ x. x.now)) c.in_default-None.is-1) in
    told_rows c.args.group_indices.now (plain_counted _ _ k.values.len (g.met.L.Readable.counts k.values.slots.now k.values.start k.values.len k.values.fits) (sym k.counted ∙ c.if-n-eq0.true)) through w.after (w.model c.args.visitor.now) (c.walk.ensures.told _ _ (λ j b h e. search rules) (λ j b h e. search rules))

pub returns-in_default-None-clause-fits : goal.returns-in_default-None-clause-fits
returns-in_default-None-clause-fits g c =
    let w = g.V.Visitor in
    let k = c.args.values.now in
    let f = c.args.opt_filter.now in
    let through = none_passes _ f.start (option_map (λ x. x.now) f.validity.mask) f.validity.start f.validity.len _ (ap (option_map (λ x. x.now)) c.in_default-None.is-1) in
    fits_rows c.args.group_indices.now (plain_counted _ _ k.values.len (g.met.L.Readable.counts k.values.slots.now k.values.start k.values.len k.values.fits) (sym k.counted ∙ c.if-n-eq0.true)) through w.fit (c.walk.ensures.fits _ _ (λ j b h e. search rules) (λ j b h e. search rules))

pub returns-in_default-None-2-clause-told : goal.returns-in_default-None-2-clause-told
returns-in_default-None-2-clause-told g c =
    let w = g.V.Visitor in
    let k = c.args.values.now in
    let f = c.args.opt_filter.now in
    let through = none_passes _ f.start (option_map (λ x. x.now) f.validity.mask) f.validity.start f.validity.len _ (ap (option_map (λ x. x.now)) c.in_default-None-2.is-1) in
    told_rows c.args.group_indices.now (refl) through w.after (w.model c.args.visitor.now) (c.walk-in_default-None-2.ensures.told _ _ (λ j b h e. search rules) (λ j b h e. search rules))

pub returns-in_default-None-2-clause-fits : goal.returns-in_default-None-2-clause-fits
returns-in_default-None-2-clause-fits g c =
    let w = g.V.Visitor in
    let k = c.args.values.now in
    let f = c.args.opt_filter.now in
    let through = none_passes _ f.start (option_map (λ x. x.now) f.validity.mask) f.validity.start f.validity.len _ (ap (option_map (λ x. x.now)) c.in_default-None-2.is-1) in
    fits_rows c.args.group_indices.now (refl) through w.fit (c.walk-in_default-None-2.ensures.fits _ _ (λ j b h e. search rules) (λ j b h e. search rules))

pub returns-in_default-Some-clause-told : goal.returns-in_default-Some-clause-told
returns-in_default-Some-clause-told g c =
    let w = g.V.Visitor in
    let k = c.args.values.now in
    let f = c.args.opt_filter.now in
    let known = option_map (λ x. x.now) f.validity.mask in
    let given = ap (option_map (λ x. x.now)) c.in_default-Some.is-1 in
    let through = some_passes _ f.start known f.validity.start f.validity.len _ given c.requires.ticked in
    told_rows c.args.group_indices.now (plain_counted _ _ k.values.len (g.met.L.Readable.counts k.values.slots.now k.values.start k.values.len k.values.fits) (sym k.counted ∙ c.if-n-eq0-2.true)) through w.after (w.model c.args.visitor.now) (c.walk-in_default-Some.ensures.told _ _ (λ j b h e. search rules) (λ j b h e. search rules))

pub returns-in_default-Some-clause-fits : goal.returns-in_default-Some-clause-fits
returns-in_default-Some-clause-fits g c =
    let w = g.V.Visitor in
    let k = c.args.values.now in
    let f = c.args.opt_filter.now in
    let known = option_map (λ x. x.now) f.validity.mask in
    let given = ap (option_map (λ x. x.now)) c.in_default-Some.is-1 in
    let through = some_passes _ f.start known f.validity.start f.validity.len _ given c.requires.ticked in
    fits_rows c.args.group_indices.now (plain_counted _ _ k.values.len (g.met.L.Readable.counts k.values.slots.now k.values.start k.values.len k.values.fits) (sym k.counted ∙ c.if-n-eq0-2.true)) through w.fit (c.walk-in_default-Some.ensures.fits _ _ (λ j b h e. search rules) (λ j b h e. search rules))

pub returns-in_default-Some-2-clause-told : goal.returns-in_default-Some-2-clause-told
returns-in_default-Some-2-clause-told g c =
    let w = g.V.Visitor in
    let k = c.args.values.now in
    let f = c.args.opt_filter.now in
    let known = option_map (λ x. x.now) f.validity.mask in
    let given = ap (option_map (λ x. x.now)) c.in_default-Some.is-1 in
    let through = some_passes _ f.start known f.validity.start f.validity.len _ given c.requires.ticked in
    told_rows c.args.group_indices.now (refl) through w.after (w.model c.args.visitor.now) (c.walk-in_default-Some-2.ensures.told _ _ (λ j b h e. search rules) (λ j b h e. search rules))

pub returns-in_default-Some-2-clause-fits : goal.returns-in_default-Some-2-clause-fits
returns-in_default-Some-2-clause-fits g c =
    let w = g.V.Visitor in
    let k = c.args.values.now in
    let f = c.args.opt_filter.now in
    let known = option_map (λ x. x.now) f.validity.mask in
    let given = ap (option_map (λ x. x.now)) c.in_default-Some.is-1 in
    let through = some_passes _ f.start known f.validity.start f.validity.len _ given c.requires.ticked in
    fits_rows c.args.group_indices.now (refl) through w.fit (c.walk-in_default-Some-2.ensures.fits _ _ (λ j b h e. search rules) (λ j b h e. search rules))
