-- The numbers of the refusals, and the three that stop the making of a view.
--
--     number_of r             the number of a refusal
--     bits_refusal b s n      1: start plus length exceeds eight times the bytes
--     lengths_refusal m n     2: a column's mask and values differ in length
--     offsets_refusal os n    3: no offset, a negative one, one below its predecessor, or a last one above the items
use Rattle.std.specs.Prelude.{ℕ, ◌+◌, ◌*◌, Bool, true, cond, not, ◌||◌, List, [], ◌∷◌, ℤ, pos, Some, None, Option, ◌==◌, int_lt, nat_lt}
use Rattle.columnar.specs.declared.refusal.Refusal.{Refusal}
use Rattle.columnar.specs.declared.refusal.Refusal.TheVariants.{BitsOutOfBytes, MaskLength, Offsets, SpanOrder, TooManyRows, IndexCount, FilterLength, TotalBelowKept, TotalAboveLimit, IndexAboveTotal, GroupNotNamed, TooManyPairs, TooManyGroups, ShortBuffer}

abbrev pub number_of : Refusal → ℕ
number_of BitsOutOfBytes = 1
number_of MaskLength = 2
number_of Offsets = 3
number_of SpanOrder = 4
number_of TooManyRows = 5
number_of IndexCount = 6
number_of FilterLength = 7
number_of TotalBelowKept = 8
number_of TotalAboveLimit = 9
number_of IndexAboveTotal = 10
number_of GroupNotNamed = 11
number_of TooManyPairs = 12
number_of TooManyGroups = 13
number_of ShortBuffer = 14

abbrev pub bits_refusal : ℕ → ℕ → ℕ → Option Refusal
bits_refusal bytes start len = cond (nat_lt (8 * bytes) (start + len)) (Some BitsOutOfBytes) None

abbrev pub lengths_refusal : ℕ → ℕ → Option Refusal
lengths_refusal mask values = cond (not (mask == values)) (Some MaskLength) None

-- from an offset on: one below its predecessor, or a last one above the items
abbrev pub offsets_bad : ℤ → List ℤ → ℕ → Bool
offsets_bad before [] items = int_lt (pos items) before
offsets_bad before (o ∷ os) items = int_lt o before || offsets_bad o os items

abbrev pub offsets_refused : List ℤ → ℕ → Bool
offsets_refused [] items = true
offsets_refused (o ∷ os) items = int_lt o (pos 0) || offsets_bad o os items

abbrev pub offsets_refusal : List ℤ → ℕ → Option Refusal
offsets_refusal offsets items = cond (offsets_refused offsets items) (Some Offsets) None
