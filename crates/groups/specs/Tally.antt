-- What an accumulator means, and what each call makes of that meaning.
--
--     Meaning C        a credit for each kept group, whether answers have a mask, and the limits
--     Limits           the most rows of a batch, groups and pairs
--     fresh l          the meaning of an accumulator that is made
--     Conditions       which of the refusals 5 to 14 hold of a call; one that a call does not look for is false
--     none_hold        none of them holds
--     holds c r        the condition of a refusal
--     in_line          the refusals of calls, in the order in line
--     refusal c        the first of them in line
--     unless r a b     b where nothing is refused, else a
--     X-refusal, and what an accepted call gives: updated, merged, answer, peeked, removed, converted
use Rattle.std.specs.Prelude.{ℕ, ◌-◌, Bool, true, false, cond, not, ◌&&◌, ◌||◌, List, [], ◌∷◌, ◌++◌, map, length, replicate, is_some, Some, None, sum_by, zip, Option, ◌==◌, nat_lt}
use Rattle.columnar.specs.declared.refusal.Refusal.{Refusal}
use Rattle.columnar.specs.declared.refusal.Refusal.TheVariants.{BitsOutOfBytes, MaskLength, Offsets, SpanOrder, TooManyRows, IndexCount, FilterLength, TotalBelowKept, TotalAboveLimit, IndexAboveTotal, GroupNotNamed, TooManyPairs, TooManyGroups, ShortBuffer}
use Rattle.columnar.specs.Cells.{Cell, Column, Ticks, seen, handed, passes, nulls}
use Rattle.buffers.specs.Memory.{Layout, Room, short}
use Rattle.groups.specs.declared.emit.EmitTo.{EmitTo}
use Rattle.groups.specs.Lists.{deal, all_below, names_from}
use Rattle.groups.specs.Emits.{taken, others, too_many, resets}
use Rattle.groups.specs.Kind.{Kind, Switch, by_nulls, always_marked, always_plain, read}

pub record Meaning (C : Type 0) : Type 0 where
  pub credits : List C
  pub marked : Bool
  pub most_rows : ℕ
  pub most_groups : ℕ
  pub most_pairs : ℕ

pub record Limits : Type 0 where
  pub rows : ℕ
  pub groups : ℕ
  pub pairs : ℕ

-- ── refusals ─────────────────────────────────────────────────────────────
pub record Conditions : Type 0 where
  pub too_many_rows : Bool
  pub indices_differ : Bool
  pub filter_differs : Bool
  pub total_below : Bool
  pub total_above : Bool
  pub index_above : Bool
  pub not_named : Bool
  pub too_many_pairs : Bool
  pub too_many_groups : Bool
  pub buffer_short : Bool

-- the condition of each refusal; those that stop the making of a value are no call's
abbrev pub holds : Conditions → Refusal → Bool
holds c BitsOutOfBytes = false
holds c MaskLength = false
holds c Offsets = false
holds c SpanOrder = false
holds c TooManyRows = c.too_many_rows
holds c IndexCount = c.indices_differ
holds c FilterLength = c.filter_differs
holds c TotalBelowKept = c.total_below
holds c TotalAboveLimit = c.total_above
holds c IndexAboveTotal = c.index_above
holds c GroupNotNamed = c.not_named
holds c TooManyPairs = c.too_many_pairs
holds c TooManyGroups = c.too_many_groups
holds c ShortBuffer = c.buffer_short

-- the order in line, for every call
abbrev pub in_line : List Refusal
in_line =
    TooManyRows
    ∷ IndexCount
    ∷ FilterLength
    ∷ TotalBelowKept
    ∷ TotalAboveLimit
    ∷ IndexAboveTotal
    ∷ GroupNotNamed
    ∷ TooManyPairs
    ∷ TooManyGroups
    ∷ ShortBuffer
    ∷ []

abbrev pub foremost : List (Bool × Refusal) → Option Refusal
foremost [] = None
foremost (c ∷ cs) = cond c.0 (Some c.1) (foremost cs)

abbrev pub refusal : Conditions → Option Refusal
refusal c =
    foremost
    ((c.too_many_rows, TooManyRows)
    ∷ (c.indices_differ, IndexCount)
    ∷ (c.filter_differs, FilterLength)
    ∷ (c.total_below, TotalBelowKept)
    ∷ (c.total_above, TotalAboveLimit)
    ∷ (c.index_above, IndexAboveTotal)
    ∷ (c.not_named, GroupNotNamed)
    ∷ (c.too_many_pairs, TooManyPairs)
    ∷ (c.too_many_groups, TooManyGroups)
    ∷ (c.buffer_short, ShortBuffer)
    ∷ [])

-- none of them
abbrev pub none_hold : Conditions
none_hold =
    record {
      too_many_rows = false;
      indices_differ = false;
      filter_differs = false;
      total_below = false;
      total_above = false;
      index_above = false;
      not_named = false;
      too_many_pairs = false;
      too_many_groups = false;
      buffer_short = false;
    }

-- 13 and 14 alone
abbrev pub emit_conditions : Bool → Bool → Conditions
emit_conditions many small = record none_hold { too_many_groups = many; buffer_short = small }

-- 5, 7 and 14 alone
abbrev pub convert_conditions : Bool → Bool → Bool → Conditions
convert_conditions many differ small = record none_hold { too_many_rows = many; filter_differs = differ; buffer_short = small }

-- a refused call changes nothing
abbrev pub unless : {A : Type 0} → Option Refusal → A → A → A
unless None before after = after
unless (Some r) before after = before

-- the filter has another length than the n rows
abbrev pub differs : Ticks → ℕ → Bool
differs None n = false
differs (Some ts) n = not (length ts == n)

-- ── the switch ───────────────────────────────────────────────────────────
abbrev pub starting : Switch → Bool
starting by_nulls = false
starting always_marked = true
starting always_plain = false

-- a batch with a filter or a null row marks it
abbrev pub turned : Switch → Bool → Bool → Bool
turned by_nulls before batch = before || batch
turned always_marked before batch = true
turned always_plain before batch = false

-- what a removal leaves
abbrev pub left_by : Switch → EmitTo → Bool → Bool
left_by by_nulls e before = before && not (resets e)
left_by always_marked e before = true
left_by always_plain e before = false

-- conversions have a mask save where the switch is always plain
abbrev pub converts_masked : Switch → Bool
converts_masked by_nulls = true
converts_masked always_marked = true
converts_masked always_plain = false

-- ── rows with a group ────────────────────────────────────────────────────
-- those that the filter lets through
abbrev pub admitted : {X : Type 0} → List Bool → List ℕ → List X → List (ℕ × X)
admitted [] gs xs = []
admitted (p ∷ ps) [] xs = []
admitted (p ∷ ps) (g ∷ gs) [] = []
admitted (p ∷ ps) (g ∷ gs) (x ∷ xs) = cond p ((g, x) ∷ admitted ps gs xs) (admitted ps gs xs)

abbrev pub row_entries : {V : Type 0} → List (Cell V) → Ticks → List ℕ → List (ℕ × Option V)
row_entries rows filter groups = admitted (passes filter (length rows)) groups (map seen rows)

module _ {V S O : Type 0} (K : Kind V S O) where
  abbrev pub Means : Type 0
  Means = Meaning K.Credit

  abbrev pub fresh : Limits → Means
  fresh l = record { credits = []; marked = starting K.switch; most_rows = l.rows; most_groups = l.groups; most_pairs = l.pairs }

  -- the same limits, other credits and another switch
  abbrev pub with_credits : Means → List K.Credit → Bool → Means
  with_credits m cs b = record m { credits = cs; marked = b }

  -- empty credits up to the total
  abbrev pub opened : Means → ℕ → List K.Credit
  opened m total = m.credits ++ replicate (total - length m.credits) K.empty

  -- ── update ──
  -- each row's credit joined to its group's, in order
  abbrev pub with_rows : Means → List (ℕ × Option V) → ℕ → List K.Credit
  with_rows m entries total = deal (λ c r. K.join c (K.of_row r)) entries (opened m total)

  -- 5 to 12 for n rows, of which these credits would come
  abbrev pub batch_conditions : Means → ℕ → Ticks → List ℕ → ℕ → List K.Credit → Conditions
  batch_conditions m n filter groups total after =
      record none_hold {
        too_many_rows = nat_lt m.most_rows n;
        indices_differ = not (n == length groups);
        filter_differs = differs filter n;
        total_below = nat_lt total (length m.credits);
        total_above = nat_lt m.most_groups total;
        index_above = not (all_below total groups);
        not_named = not (names_from (length m.credits) (total - length m.credits) groups);
        too_many_pairs = nat_lt m.most_pairs (sum_by K.pairs after);
      }

  abbrev pub update_refusal : Means → List (Cell V) → Ticks → List ℕ → ℕ → Option Refusal
  update_refusal m rows filter groups total =
      refusal (batch_conditions m (length rows) filter groups total (with_rows m (row_entries rows filter groups) total))

  abbrev pub updated : Means → List (Cell V) → Ticks → List ℕ → ℕ → Means
  updated m rows filter groups total =
      with_credits m (with_rows m (row_entries rows filter groups) total) (turned K.switch m.marked (is_some filter || nat_lt 0 (nulls rows)))

  -- ── merge ──
  -- each state row's credit joined to its group's, in order
  abbrev pub with_states : Means → List (ℕ × Cell S) → ℕ → List K.Credit
  with_states m entries total = deal (λ c s. K.join c (read K s)) entries (opened m total)

  abbrev pub merge_refusal : Means → List (Cell S) → List ℕ → ℕ → Option Refusal
  merge_refusal m states groups total = refusal (batch_conditions m (length states) None groups total (with_states m (zip groups states) total))

  abbrev pub merged : Means → List (Cell S) → List ℕ → ℕ → Means
  merged m states groups total = with_credits m (with_states m (zip groups states) total) (turned K.switch m.marked (nat_lt 0 (nulls states)))

  -- ── evaluate ──
  abbrev pub answer : Means → EmitTo → Column O
  answer m e = handed m.marked K.filler (map K.shown (taken e m.credits))

  abbrev pub evaluate_refusal : Layout O → Means → EmitTo → Room → Option Refusal
  evaluate_refusal layout m e room = refusal (emit_conditions (too_many e (length m.credits)) (short layout room (answer m e)))

  -- the groups asked for are removed
  abbrev pub removed : Means → EmitTo → Means
  removed m e = with_credits m (others e m.credits) (left_by K.switch e m.marked)

  -- ── peek and forget, and state, which is both ──
  abbrev pub state_column : Bool → List K.Credit → Column S
  state_column masked cs = handed masked K.under (map K.written cs)

  abbrev pub peeked : Means → EmitTo → Column S
  peeked m e = state_column m.marked (taken e m.credits)

  abbrev pub peek_refusal : Layout S → Means → EmitTo → Room → Option Refusal
  peek_refusal layout m e room = refusal (emit_conditions (too_many e (length m.credits)) (short layout room (peeked m e)))

  abbrev pub forget_refusal : Means → EmitTo → Option Refusal
  forget_refusal m e = refusal (emit_conditions (too_many e (length m.credits)) false)

  -- ── conversion ──
  -- each row's credit; the empty one for a row that is not let through
  abbrev pub row_credits : List Bool → List (Cell V) → List K.Credit
  row_credits [] cs = []
  row_credits (p ∷ ps) [] = []
  row_credits (p ∷ ps) (c ∷ cs) = cond p (K.of_row (seen c)) K.empty ∷ row_credits ps cs

  abbrev pub converted : List (Cell V) → Ticks → Column S
  converted rows filter = state_column (converts_masked K.switch) (row_credits (passes filter (length rows)) rows)

  abbrev pub convert_refusal : Layout S → Means → List (Cell V) → Ticks → Room → Option Refusal
  convert_refusal layout m rows filter room =
      refusal (convert_conditions (nat_lt m.most_rows (length rows)) (differs filter (length rows)) (short layout room (converted rows filter)))
