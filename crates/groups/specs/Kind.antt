-- What a kind of accumulator is, and its laws.
--
--     Switch       who sets whether answers have a mask: the nulls and filters of the batches, or the kind, once for all
--     Kind V S O   a kind over the types of a row's value, of a state row's figure and of a shown figure
--     Credit       what a group has been credited with: an empty one, the credit of a row, the join of two
--     read s       the credit of a state row: a null one is the empty credit
--     joined rs    the join of the credits of rows, each a value or a null
--     Clear c      neither shown nor written null
--     Laws         the laws but for commuting
--     Commutes     the join of two credits is alike in either order
use Rattle.std.specs.Prelude.{◌≡◌, ℕ, true, cond, List, [], ◌∷◌, is_some, Some, Option}
use Rattle.columnar.specs.Cells.{Cell, over}

pub data Switch : Type 0 where
  by_nulls always_marked always_plain : Switch

pub record Kind (V S O : Type 0) : Type 1 where
  pub Credit : Type 0
  pub empty : Credit
  pub join : Credit → Credit → Credit
  -- the credit of a row, from its value or its nullness, and of a valid state row
  pub of_row : Option V → Credit
  pub of_state : S → Credit
  -- the state row of a credit, and how a credit is shown: a value, or null over a filler
  pub written : Credit → Option S
  pub under : S
  pub shown : Credit → Option O
  pub filler : O
  -- when two credits are alike, and how many pairs one takes
  pub Alike : Credit → Credit → Type 0
  pub pairs : Credit → ℕ
  pub switch : Switch

module _ {V S O : Type 0} (K : Kind V S O) where
  abbrev pub read : Cell S → K.Credit
  read c = cond c.valid (K.of_state c.figure) K.empty

  abbrev pub joined : List (Option V) → K.Credit
  joined [] = K.empty
  joined (r ∷ rs) = K.join (K.of_row r) (joined rs)

  abbrev pub Clear : K.Credit → Type 0
  Clear c = (is_some (K.shown c) ≡ true) × (is_some (K.written c) ≡ true)

  pub record Laws : Type 0 where
    -- alike is an equivalence that the join keeps
    pub alike_refl : (a : K.Credit) → K.Alike a a
    pub alike_sym : (a b : K.Credit) → K.Alike a b → K.Alike b a
    pub alike_trans : (a b c : K.Credit) → K.Alike a b → K.Alike b c → K.Alike a c
    pub join_alike : (a b c d : K.Credit) → K.Alike a b → K.Alike c d → K.Alike (K.join a c) (K.join b d)
    -- the empty credit on either side, and grouping
    pub left : (a : K.Credit) → K.Alike (K.join K.empty a) a
    pub right : (a : K.Credit) → K.Alike (K.join a K.empty) a
    pub assoc : (a b c : K.Credit) → K.Alike (K.join (K.join a b) c) (K.join a (K.join b c))
    -- alike credits are shown equal and take equally many pairs
    pub shows : (a b : K.Credit) → K.Alike a b → K.shown a ≡ K.shown b
    pub takes : (a b : K.Credit) → K.Alike a b → K.pairs a ≡ K.pairs b
    -- the state row of a credit reads as a credit alike it
    pub reads : (a : K.Credit) → K.Alike (read (over K.under (K.written a))) a
    -- where no mask is handed out, no credit is shown or written null
    pub plain_clear : K.switch ≡ always_plain → (a : K.Credit) → Clear a
    pub row_clear : K.switch ≡ by_nulls → (a : K.Credit) (v : V) → Clear (K.join a (K.of_row (Some v)))
    pub state_clear : K.switch ≡ by_nulls → (a : K.Credit) (s : S) → Clear (K.join a (K.of_state s))

  abbrev pub Commutes : Type 0
  Commutes = (a b : K.Credit) → K.Alike (K.join a b) (K.join b a)
