use Rattle.std.proofs.Common.{cond, length, Some, None, sym, refl, ap}
use Rattle.columnar.specs.declared.refusal.Refusal.TheVariants.{Offsets}
use Rattle.columnar.proofs.Ordered.{offsets_ok, decides_yes, refused_decides}
use Rattle.columnar.proofs.list.ListColumn.new.Goals as goal

pub returns-then-refused : goal.returns-then-refused
returns-then-refused g c = record {
  refused = ap (λ b. cond b (Some Offsets) None) c.if-refused.ensures;
  decides = refused_decides c.args.offsets.now (length c.args.items.now) (sym c.if-refused.ensures);
  offsets = tt;
  items = tt;
}

pub returns : goal.returns
returns g c = record {
  refused = ap (λ b. cond b (Some Offsets) None) c.if-refused.ensures;
  decides = decides_yes (offsets_ok c.args.offsets.now (length c.args.items.now) (sym c.if-refused.ensures));
  offsets = refl;
  items = refl;
}
