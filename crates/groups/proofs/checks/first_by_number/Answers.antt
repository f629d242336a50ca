use Rattle.std.proofs.Common.{refl, ⊎_elim}
use Rattle.groups.specs.Tally.{holds, in_line}
use Rattle.groups.proofs.InLines.{find_holds, find_first, find_none, placed, line_rises}
use Rattle.groups.proofs.checks.first_by_number.Goals as goal

pub returns : goal.returns
returns c =
    record {
      line = λ k. refl;
      numbers = refl;
      answered = λ k r e. find_holds (holds k) in_line r e;
      first = λ k r q e lower. ⊎_elim (λ there. find_first (holds k) in_line r q line_rises e there lower) (λ never. never) (placed k q);
      none = λ k q e. ⊎_elim (λ there. find_none (holds k) in_line q e there) (λ never. never) (placed k q);
    }
