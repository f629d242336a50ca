use Rattle.std.proofs.Common.{refl}
use Rattle.buffers.proofs.Reading.{packed_back, values_back, booleans_back, values_readable, booleans_readable}
use Rattle.buffers.proofs.pack.written_reads_back.Goals as goal

pub returns : goal.returns
returns g c = record { packs = packed_back; values = values_back; booleans = booleans_back; values_readable = values_readable; booleans_readable = booleans_readable; words = record { values_stored = λ xs m. refl; values_held = λ m. refl; values_read = λ m. refl; booleans_stored = λ bs m. refl; booleans_held = λ m. refl; booleans_read = λ m. refl } }
