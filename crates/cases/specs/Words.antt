-- Words for the worked cases.
--
--     sums               the kind of the wrapping sum of i64; ands, ors and xors: the kinds of booleans
--     run cs             replies from a fresh accumulator of sums, of 100 rows and groups
--     narrow cs          from one of 3 rows and 2 groups
--     decide K cs        from a fresh accumulator of booleans, of 100 rows and groups: figures are packed bytes
--     states cs e        the state rows of groups, peeked after calls
--     holding i j        the conditions under which the refusals of these two numbers hold
use Rattle.std.specs.Prelude.{ℕ, Bool, true, false, ◌||◌, List, [], ◌∷◌, map, ℤ, pos, Some, None, Option, ◌==◌, nat_eq}
use Rattle.std.specs.Option.{option_map, unwrap_or}
use Rattle.columnar.specs.declared.refusal.Refusal.{Refusal}
use Rattle.columnar.specs.Packed.{packed}
use Rattle.columnar.specs.Cells.{Cell, cell, cells}
use Rattle.columnar.specs.Refusals.{number_of}
use Rattle.buffers.specs.Memory.{Room, values_layout, packed_layout}
use Rattle.groups.specs.declared.emit.EmitTo.{EmitTo}
use Rattle.groups.specs.declared.emit.EmitTo.TheVariants.{All, First}
use Rattle.groups.specs.Kind.{Kind}
use Rattle.groups.specs.Tally.{Means, Limits, Conditions, fresh, peeked}
use Rattle.operations.specs.Primitive.{primitive}
use Rattle.operations.specs.contracts.operation.SumOperationI64.TheImpl.{ghosts as of_sum}
use Rattle.operations.specs.contracts.boolean.AndOperationBool.TheImpl.{ghosts as of_and}
use Rattle.operations.specs.contracts.boolean.OrOperationBool.TheImpl.{ghosts as of_or}
use Rattle.operations.specs.contracts.boolean.XorOperationBool.TheImpl.{ghosts as of_xor}
use Rattle.cases.specs.Calls.{Call, Reply, update, evaluate, peek, answered, reached, replies}

-- ── kinds and runs ───────────────────────────────────────────────────────
abbrev pub sums : Kind ℤ ℤ ℤ
sums = primitive of_sum.start of_sum.rule

abbrev pub ands : Kind Bool Bool Bool
ands = primitive of_and.start of_and.rule

abbrev pub ors : Kind Bool Bool Bool
ors = primitive of_or.start of_or.rule

abbrev pub xors : Kind Bool Bool Bool
xors = primitive of_xor.start of_xor.rule

abbrev pub wide : Limits
wide = record { rows = 100; groups = 100; pairs = 0 }

abbrev pub as_they_are : List ℤ → List ℤ
as_they_are ns = ns

abbrev pub run : List (Call ℤ) → List (Reply ℤ)
run cs = replies sums values_layout as_they_are (fresh sums wide) cs

abbrev pub narrow : List (Call ℤ) → List (Reply ℤ)
narrow cs = replies sums values_layout as_they_are (fresh sums (record { rows = 3; groups = 2; pairs = 0 })) cs

abbrev pub decide : Kind Bool Bool Bool → List (Call Bool) → List (Reply ℕ)
decide K cs = replies K packed_layout packed (fresh K wide) cs

abbrev pub meant : List (Call ℤ) → Means sums
meant cs = reached sums values_layout (fresh sums wide) cs

abbrev pub states : List (Call ℤ) → EmitTo → List (Cell ℤ)
states cs e = cells (peeked sums (meant cs) e)

-- the last reply
abbrev pub ending : List (Reply ℤ) → Option (Reply ℤ)
ending [] = None
ending (r ∷ []) = Some r
ending (r ∷ (s ∷ rs)) = ending (s ∷ rs)

-- ── rows and rooms ───────────────────────────────────────────────────────
-- valid rows, and a null one over a number
abbrev pub plain : List ℕ → List (Cell ℤ)
plain ns = map (λ n. cell true (pos n)) ns

abbrev pub null : ℕ → Cell ℤ
null n = cell false (pos n)

abbrev pub shown : List ℕ → Option (List ℕ) → Reply ℤ
shown ns bytes = answered (map pos ns) bytes

-- valid booleans, and a null one over a bit
abbrev pub bits : List Bool → List (Cell Bool)
bits bs = map (cell true) bs

abbrev pub null_bit : Bool → Cell Bool
null_bit b = cell false b

abbrev pub room : ℕ → ℕ → Room
room figures bytes = record { figures = figures; mask = bytes; items = 0 }

abbrev pub ample : Room
ample = room 100 100

-- ticks of a filter: yes, no, and a null over a bit that is set
abbrev pub yes : Cell Bool
yes = cell true true

abbrev pub no : Cell Bool
no = cell true false

abbrev pub null_tick : Cell Bool
null_tick = cell false true

-- ── calls ────────────────────────────────────────────────────────────────
-- with room enough
abbrev pub all : {E : Type 0} → Call E
all = evaluate All ample

abbrev pub first : {E : Type 0} → ℕ → Call E
first n = evaluate (First n) ample

abbrev pub look : {E : Type 0} → EmitTo → Call E
look e = peek e ample

-- rows of groups 0, 1 and 0, of which the second is null
abbrev pub half_null : Call ℤ
half_null = update (cell true (pos 5) ∷ null 7 ∷ cell true (pos 9) ∷ []) None (0 ∷ 1 ∷ 0 ∷ []) 2

-- two kept groups
abbrev pub two : Call ℤ
two = update (plain (5 ∷ 7 ∷ [])) None (0 ∷ 1 ∷ []) 2

-- ── refusals ─────────────────────────────────────────────────────────────
-- the refusals of these two numbers hold, and no other
abbrev pub holding : ℕ → ℕ → Conditions
holding i j =
    record {
      too_many_rows = among 5;
      indices_differ = among 6;
      filter_differs = among 7;
      total_below = among 8;
      total_above = among 9;
      index_above = among 10;
      not_named = among 11;
      too_many_pairs = among 12;
      too_many_groups = among 13;
      buffer_short = among 14;
    }
  where
    among : ℕ → Bool
    among n = n == i || n == j

abbrev pub numbered : Option Refusal → Option ℕ
numbered r = option_map number_of r

-- whether this is the refusal of a number
abbrev pub is_number : ℕ → Option Refusal → Bool
is_number n r = unwrap_or (option_map (λ x. nat_eq (number_of x) n) r) false
