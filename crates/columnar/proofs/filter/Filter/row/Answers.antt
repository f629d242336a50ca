use Rattle.std.proofs.Common.{ap}
use Rattle.std.specs.Option.{option_map}
use Rattle.columnar.proofs.FilterRows.{tick_past, tick_is}
use Rattle.columnar.proofs.filter.Filter.row.Goals as goal

pub returns-then-j-self : goal.returns-then-j-self
returns-then-j-self c = tick_past _ _ _ _ _ _ (ap (option_map (λ x. x.now)) c.in-Some.is) c.args.j c.if-j-self.true

pub returns : goal.returns
returns c = tick_is _ _ _ _ _ _ (ap (option_map (λ x. x.now)) c.in-Some.is) c.args.j _ c.if-j-self.false c.passes.ensures
