-- What a call leaves in buffers.
--
--     HandsOut b r c old new  the column c is laid down in them, or where r is a refusal they are as they were
use Rattle.std.specs.Prelude.{◌≡◌, Option}
use Rattle.columnar.specs.declared.refusal.Refusal.{Refusal}
use Rattle.columnar.specs.Cells.{Column}
use Rattle.buffers.specs.declared.buffers.Buffers as buffers
use Rattle.buffers.specs.Memory.{stored}
use Rattle.groups.specs.Tally.{unless}

module _ {X B : Type 0} (b : buffers.Ghosts B X) where
  abbrev pub HandsOut : Option Refusal → Column X → B → B → Type 0
  HandsOut r column old new = b.memory new ≡ unless r (b.memory old) (stored b.masks b.figures column (b.memory old))
