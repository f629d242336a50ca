-- What holds of all turns together, of accumulators of any kind.
--
--     written_in os p      the state rows that the turn of a place wrote
--     Stands os s          a merged row was written earlier, where it says, and reads now as it did, up to alike
--     Honest turns os      each row of each accepted merge stands in the outcomes before it; of a refused one nothing is asked
--     ledger ls turns os   the book's entries for each turn, from the turns and the verdicts of these outcomes
--     InOrder, InAnyOrder  when two bags have the same rows: equal, or equal up to order
--     Shows row rows       a shown row is the join of these rows: its value, or null over the filler where that join is shown null
--     Carries row rows     a state row reads as a credit alike the join of these rows
--     UpTo Same R          R holds of every list of rows that is the same as the entry's bag
--     Showing, Writing     what holds of the rows that a turn showed, and wrote, each with its entry, if it did
--     Closed os g row bag  a turn closed the group g, showing this row, and the book has this bag for it
--     Agree c d            two rows differ at most in what lies under a null
--     AlikeButHidden       two turns differ at most in what lies under nulls, in rows that are not let through, and in the
--                          value bits of null ticks
--     Promised             the promise on turns made of fresh accumulators, and their outcomes
--     RunsHold             it holds of the outcomes of all turns
use Rattle.std.specs.Prelude.{◌≡◌, ℕ, ◌<◌, true, List, [], ◌∷◌, ◌++◌, map, length, get_or, Some, None, slice_index_or}
use mathlib.Core.List.{Permᴰ}
use Rattle.std.specs.List.{AllByRecursion, AllZip}
use Rattle.columnar.specs.Cells.{Cell, Ticks, cells, over}
use Rattle.buffers.specs.Memory.{Room}
use Rattle.groups.specs.Kind.{Kind, read, joined}
use Rattle.groups.specs.Tally.{Limits}
use Rattle.turns.specs.Lists.{EachRow}
use Rattle.turns.specs.Turns.{Turn, Outcome, Place, Sent, Layouts, answers}
use Rattle.turns.specs.Turns.Turn.{update, merge, convert, evaluate, state, peek, forget, hand_over}
use Rattle.turns.specs.Turns.Outcome.{done, showed, wrote, refused, taker_refused, no_such}
use Rattle.turns.specs.Book.{Bag, Entry, Group, Verdict, accepted, refused_call, refused_by_taker, verdict, counts, book}

-- ── rows that are shown and written ──────────────────────────────────────
module _ {S O : Type 0} where
  abbrev pub rows_written : Outcome S O → List (Cell S)
  rows_written done = []
  rows_written (showed c) = []
  rows_written (wrote c) = cells c
  rows_written (refused r) = []
  rows_written (taker_refused r c) = cells c
  rows_written no_such = []

  abbrev pub rows_shown : Outcome S O → List (Cell O)
  rows_shown done = []
  rows_shown (showed c) = cells c
  rows_shown (wrote c) = []
  rows_shown (refused r) = []
  rows_shown (taker_refused r c) = []
  rows_shown no_such = []

  abbrev pub written_in : List (Outcome S O) → Place → List (Cell S)
  written_in os p = rows_written (slice_index_or os p.turn no_such)

-- ── turns alike in all but what is hidden ────────────────────────────────
abbrev pub Agree : {X : Type 0} → Cell X → Cell X → Type 0
Agree c d = (c.valid ≡ d.valid) × (c.valid ≡ true → c.figure ≡ d.figure)

abbrev pub TicksAgree : Ticks → Ticks → Type 0
TicksAgree None None = Unit {0}
TicksAgree None (Some us) = ⊥
TicksAgree (Some ts) None = ⊥
TicksAgree (Some ts) (Some us) = AllZip Agree ts us

-- of a row that does not count only the validity
abbrev pub RowAgrees : {V : Type 0} → Ticks → ℕ → Cell V → Cell V → Type 0
RowAgrees filter j c d = (c.valid ≡ d.valid) × (counts filter j ≡ true → c.valid ≡ true → c.figure ≡ d.figure)

abbrev pub BatchAgrees : {V : Type 0} → List (Cell V) → Ticks → List (Cell V) → Ticks → Type 0
BatchAgrees rows filter rows' filter' = TicksAgree filter filter' × EachRow (RowAgrees filter) 0 rows rows'

abbrev pub SentAgrees : {S : Type 0} → Sent S → Sent S → Type 0
SentAgrees s u = (s.from ≡ u.from) × Agree s.cell u.cell

pub data AlikeButHidden {V S : Type 0} : Turn V S → Turn V S → Type 0 where
  same : (t : Turn V S) → AlikeButHidden t t
  updates : (i : ℕ) (rows rows' : List (Cell V)) (filter filter' : Ticks) (groups : List ℕ) (total : ℕ) → BatchAgrees rows filter rows' filter'
      → AlikeButHidden (update i rows filter groups total) (update i rows' filter' groups total)
  converts : (i : ℕ) (rows rows' : List (Cell V)) (filter filter' : Ticks) (room : Room) → BatchAgrees rows filter rows' filter'
      → AlikeButHidden (convert i rows filter room) (convert i rows' filter' room)
  merges : (i : ℕ) (sent sent' : List (Sent S)) (groups : List ℕ) (total : ℕ) → AllZip SentAgrees sent sent'
      → AlikeButHidden (merge i sent groups total) (merge i sent' groups total)

-- ── the same rows ────────────────────────────────────────────────────────
abbrev pub InOrder : {V : Type 0} → Bag V → Bag V → Type 0
InOrder a b = a ≡ b

abbrev pub InAnyOrder : {V : Type 0} → Bag V → Bag V → Type 0
InAnyOrder a b = Permᴰ a b

-- ── the book of a run ────────────────────────────────────────────────────
abbrev pub ledger : {V S O : Type 0} → List Limits → List (Turn V S) → List (Outcome S O) → List (List (Entry V))
ledger ls turns os = (book ls turns (map verdict os)).entries

pub record Closed {V S O : Type 0} (ls : List Limits) (turns : List (Turn V S)) (os : List (Outcome S O)) (group : Group) (row : Cell O) (bag : Bag V) : Type 0 where
  pub turn : ℕ
  pub place : ℕ
  pub there : place < length (rows_shown (slice_index_or os turn no_such))
  pub row_is : get_or (rows_shown (slice_index_or os turn no_such)) place row ≡ row
  pub entry_is : get_or (slice_index_or (ledger ls turns os) turn []) place (record { group = None; bag = [] }) ≡ record { group = Some group; bag = bag }

module _ {V S O : Type 0} (K : Kind V S O) where
  -- ── merged rows ──
  pub record Stands (os : List (Outcome S O)) (s : Sent S) : Type 0 where
    pub place : Place
    pub said : s.from ≡ Some place
    pub there : place.row < length (written_in os place)
    pub as_written : K.Alike (read K s.cell) (read K (slice_index_or (written_in os place) place.row s.cell))

  abbrev pub MergeStands : List (Outcome S O) → Turn V S → Verdict → Type 0
  MergeStands os (update i rows filter groups total) v = Unit {0}
  MergeStands os (merge i sent groups total) accepted = AllByRecursion (Stands os) sent
  MergeStands os (merge i sent groups total) refused_call = Unit {0}
  MergeStands os (merge i sent groups total) refused_by_taker = Unit {0}
  MergeStands os (convert i rows filter room) v = Unit {0}
  MergeStands os (evaluate i e room) v = Unit {0}
  MergeStands os (state i e room) v = Unit {0}
  MergeStands os (peek i e room) v = Unit {0}
  MergeStands os (forget i e) v = Unit {0}
  MergeStands os (hand_over i j e room groups total) v = Unit {0}

  -- after the outcomes `past`
  abbrev pub HonestAfter : List (Outcome S O) → List (Turn V S) → List (Outcome S O) → Type 0
  HonestAfter past [] os = Unit {0}
  HonestAfter past (t ∷ turns) [] = Unit {0}
  HonestAfter past (t ∷ turns) (o ∷ os) = MergeStands past t (verdict o) × HonestAfter (past ++ o ∷ []) turns os

  abbrev pub Honest : List (Turn V S) → List (Outcome S O) → Type 0
  Honest turns os = HonestAfter [] turns os

  -- ── what a row is to show, and to carry ──
  abbrev pub Shows : Cell O → Bag V → Type 0
  Shows row rows = row ≡ over K.filler (K.shown (joined K rows))

  abbrev pub Carries : Cell S → Bag V → Type 0
  Carries row rows = K.Alike (read K row) (joined K rows)

  abbrev pub UpTo : {X : Type 0} → (Bag V → Bag V → Type 0) → (X → Bag V → Type 0) → X → Entry V → Type 0
  UpTo Same R row entry = (rows : Bag V) → Same entry.bag rows → R row rows

  abbrev pub Showing : (Cell O → Entry V → Type 0) → Outcome S O → List (Entry V) → Type 0
  Showing R done entries = Unit {0}
  Showing R (showed c) entries = AllZip R (cells c) entries
  Showing R (wrote c) entries = Unit {0}
  Showing R (refused r) entries = Unit {0}
  Showing R (taker_refused r c) entries = Unit {0}
  Showing R no_such entries = Unit {0}

  abbrev pub Writing : (Cell S → Entry V → Type 0) → Outcome S O → List (Entry V) → Type 0
  Writing R done entries = Unit {0}
  Writing R (showed c) entries = Unit {0}
  Writing R (wrote c) entries = AllZip R (cells c) entries
  Writing R (refused r) entries = Unit {0}
  Writing R (taker_refused r c) entries = AllZip R (cells c) entries
  Writing R no_such entries = Unit {0}

  -- ── the promise ──
  pub record Promised (l : Layouts S O) (Same : Bag V → Bag V → Type 0) (ls : List Limits) (turns : List (Turn V S)) (os : List (Outcome S O)) : Type 0 where
    -- the outcomes are those of the definitions
    pub answered : os ≡ answers K l ls turns
    -- each closed group shows the join of exactly the rows credited to it
    pub shows : Honest turns os → AllZip (Showing (UpTo Same Shows)) os (ledger ls turns os)
    -- each state row written carries the join of exactly the rows credited to it
    pub carries : Honest turns os → AllZip (Writing (UpTo Same Carries)) os (ledger ls turns os)
    -- two closed groups with the same rows credited show the same, in these turns or in any others of accumulators of the kind
    pub divides : Honest turns os → (l' : Layouts S O) (ls' : List Limits) (turns' : List (Turn V S)) → let os' = answers K l' ls' turns' in Honest turns' os'
        → (g g' : Group) (row row' : Cell O) (bag bag' : Bag V) → Closed ls turns os g row bag → Closed ls' turns' os' g' row' bag' → Same bag bag' → row ≡ row'
    -- turns that are alike in all but what is hidden have the same outcomes
    pub hides : (turns' : List (Turn V S)) → AllZip AlikeButHidden turns turns' → answers K l ls turns' ≡ os

  abbrev pub RunsHold : (Bag V → Bag V → Type 0) → Type 0
  RunsHold Same =
      (l : Layouts S O) (ls : List Limits) (turns : List (Turn V S)) (os : List (Outcome S O)) → os ≡ answers K l ls turns → Promised l Same ls turns os
