use Rattle.std.proofs.Common.{◌∙◌}
use Rattle.buffers.proofs.AdmittedRows.{length_kept, made_at, filled}
use Rattle.buffers.proofs.admitted.AdmittedFiguresSource.get.Goals as goal

pub admitted-requires : goal.admitted-requires
admitted-requires g c = simp length_kept at c.requires

pub returns : goal.returns
returns g c = made_at _ _ c.args.j _ _ c.requires c.admitted.ensures (c.unwrap_or.ensures ∙ filled c.args.self.now.filler c.admitted.result)
