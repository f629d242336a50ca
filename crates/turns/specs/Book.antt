-- The book of the rows that are credited. It is fed with each call's arguments, the place where each merged row was written,
-- and the verdict on the call, and with nothing else of an accumulator. All of it goes by the numbers of rows and places.
--
--     Bag V                the rows credited to a group or to a state row, each a value or a null, in the order of crediting
--     Open V               an open group: its opening number and its bag
--     Account V            what the book has of an accumulator: its next opening number, and its open groups by their places
--     Group                a group by its accumulator and its opening number, which it keeps through renumbering
--     Entry V              what the book has of a row that was shown or written: its group, if it is of one, and its bag
--     Book V               the accounts, and for each turn so far the entries of the rows that it showed or wrote
--     Verdict              whether a call was accepted, refused, or, a hand-over, refused by its taker
--     counts filter j      whether row j counts: there is no filter, or its tick j is a valid yes
--     rows_at, bags_at     what a batch, and a merge, adds to the bag at place g
--     grown a n add        an account after groups are opened up to n, and `add g` is added to the bag at each place g
--     front, without       the entries of the groups asked for, and the account without these groups
--     booked b t v         the book after a turn t with the verdict v
--     book ls turns vs     the book of turns made of fresh accumulators
use Rattle.std.specs.Prelude.{ℕ, ◌+◌, ◌-◌, Bool, true, false, cond, ◌&&◌, List, [], ◌∷◌, ◌++◌, map, length, get_or, set, Some, None, Option, ◌==◌, slice_index, slice_index_or, slice_set}
use Rattle.columnar.specs.Cells.{Cell, Ticks, cell, seen}
use Rattle.groups.specs.declared.emit.EmitTo.{EmitTo}
use Rattle.groups.specs.Emits.{count_of}
use Rattle.turns.specs.Lists.{listed, gathered}
use Rattle.turns.specs.Turns.{Turn, Outcome, Place}
use Rattle.turns.specs.Turns.Turn.{update, merge, convert, evaluate, state, peek, forget, hand_over}
use Rattle.turns.specs.Turns.Outcome.{done, showed, wrote, refused, taker_refused, no_such}

abbrev pub Bag : Type 0 → Type 0
Bag V = List (Option V)

pub record Open (V : Type 0) : Type 0 where
  pub opening : ℕ
  pub bag : Bag V

pub record Account (V : Type 0) : Type 0 where
  pub next : ℕ
  pub groups : List (Open V)

pub record Group : Type 0 where
  pub accumulator : ℕ
  pub opening : ℕ

pub record Entry (V : Type 0) : Type 0 where
  pub group : Option Group
  pub bag : Bag V

pub record Book (V : Type 0) : Type 0 where
  pub accounts : List (Account V)
  pub entries : List (List (Entry V))

pub data Verdict : Type 0 where
  accepted refused_call refused_by_taker : Verdict

abbrev pub verdict : {S O : Type 0} → Outcome S O → Verdict
verdict done = accepted
verdict (showed c) = accepted
verdict (wrote c) = accepted
verdict (refused r) = refused_call
verdict (taker_refused r c) = refused_by_taker
verdict no_such = refused_call

-- ── which rows go where ──────────────────────────────────────────────────
-- a tick that is not there is no yes
abbrev pub counts : Ticks → ℕ → Bool
counts None j = true
counts (Some ticks) j = let tick = get_or ticks j (cell false false) in tick.valid && tick.figure

-- the group index of row j; an accepted call has one for each row
abbrev pub index : List ℕ → ℕ → ℕ
index groups j = slice_index groups j

module _ {V : Type 0} where
  -- row j by itself, or nothing if it does not count
  abbrev pub row_bag : List (Cell V) → Ticks → ℕ → Bag V
  row_bag rows filter j = cond (counts filter j) (slice_index_or (map seen rows) j None ∷ []) []

  -- the rows j, ascending, that count and have index g
  abbrev pub rows_at : List (Cell V) → Ticks → List ℕ → ℕ → Bag V
  rows_at rows filter groups g = gathered (length rows) (λ j. cond (index groups j == g) (row_bag rows filter j) [])

  -- the bags of the merged rows j, ascending, that have index g
  abbrev pub bags_at : List (Bag V) → List ℕ → ℕ → Bag V
  bags_at bags groups g = gathered (length bags) (λ j. cond (index groups j == g) (slice_index_or bags j []) [])

  -- ── an account ──
  abbrev pub kept : Account V → ℕ
  kept a = length a.groups

  -- at a place where no group is open, one is opened with the next number and an empty bag
  abbrev pub open_at : Account V → ℕ → Open V
  open_at a g = slice_index_or a.groups g (record { opening = a.next + (g - kept a); bag = [] })

  abbrev pub grown : Account V → ℕ → (ℕ → Bag V) → Account V
  grown a total add =
      record {
        next = a.next + (total - kept a);
        groups = listed total (λ g. record { opening = (open_at a g).opening; bag = (open_at a g).bag ++ add g });
      }

  abbrev pub front : ℕ → Account V → EmitTo → List (Entry V)
  front i a e = listed (count_of e (kept a)) (λ g. record { group = Some (record { accumulator = i; opening = (open_at a g).opening }); bag = (open_at a g).bag })

  abbrev pub without : Account V → EmitTo → Account V
  without a e = let n = count_of e (kept a) in record { next = a.next; groups = listed (kept a - n) (λ g. open_at a (n + g)) }

  abbrev pub bags_of : List (Entry V) → List (Bag V)
  bags_of entries = map (λ n. n.bag) entries

  -- ── the book ──
  abbrev pub account : List (Account V) → ℕ → Account V
  account list i = slice_index_or list i (record { next = 0; groups = [] })

  -- the bag of the row written at a place; nothing is credited to a row of no place
  abbrev pub placed : Book V → Option Place → Bag V
  placed b None = []
  placed b (Some p) = slice_index_or (bags_of (slice_index_or b.entries p.turn [])) p.row []

  -- the book after a turn that left these accounts, and showed or wrote rows with these entries
  abbrev pub noted : Book V → List (Account V) → List (Entry V) → Book V
  noted b left entries = record { accounts = left; entries = b.entries ++ entries ∷ [] }

module _ {V S : Type 0} where
  abbrev pub entered : Book V → Turn V S → Book V
  entered b (update i rows filter groups total) = noted b (slice_set b.accounts i (grown (account b.accounts i) total (rows_at rows filter groups))) []
  entered b (merge i sent groups total) =
      noted b (slice_set b.accounts i (grown (account b.accounts i) total (bags_at (map (λ s. placed b s.from) sent) groups))) []
  entered b (convert i rows filter room) = noted b b.accounts (listed (length rows) (λ j. record { group = None; bag = row_bag rows filter j }))
  entered b (evaluate i e room) = noted b (slice_set b.accounts i (without (account b.accounts i) e)) (front i (account b.accounts i) e)
  entered b (state i e room) = noted b (slice_set b.accounts i (without (account b.accounts i) e)) (front i (account b.accounts i) e)
  entered b (peek i e room) = noted b b.accounts (front i (account b.accounts i) e)
  entered b (forget i e) = noted b (slice_set b.accounts i (without (account b.accounts i) e)) []
  -- as its parts: a peek at the giver, a merge into the taker, a forgetting at the giver
  entered b (hand_over i j e room groups total) =
      let given = front i (account b.accounts i) e in
      let merging = set b.accounts j (grown (account b.accounts j) total (bags_at (bags_of given) groups)) in
      noted b (slice_set merging i (without (account merging i) e)) given

  -- a hand-over that its taker refused counts as its peek
  abbrev pub peeked_only : Book V → Turn V S → List (Entry V)
  peeked_only b (update i rows filter groups total) = []
  peeked_only b (merge i sent groups total) = []
  peeked_only b (convert i rows filter room) = []
  peeked_only b (evaluate i e room) = []
  peeked_only b (state i e room) = []
  peeked_only b (peek i e room) = []
  peeked_only b (forget i e) = []
  peeked_only b (hand_over i j e room groups total) = front i (account b.accounts i) e

  -- no other refused call changes the book
  abbrev pub booked : Book V → Turn V S → Verdict → Book V
  booked b t accepted = entered b t
  booked b t refused_call = noted b b.accounts []
  booked b t refused_by_taker = noted b b.accounts (peeked_only b t)

  abbrev pub booked_all : Book V → List (Turn V S) → List Verdict → Book V
  booked_all b [] vs = b
  booked_all b (t ∷ turns) [] = b
  booked_all b (t ∷ turns) (v ∷ vs) = booked_all (booked b t v) turns vs

-- no groups, and numbers from 0, for each of these fresh accumulators
abbrev pub new_book : {A V : Type 0} → List A → Book V
new_book ls = record { accounts = map (λ l. record { next = 0; groups = [] }) ls; entries = [] }

abbrev pub book : {A V S : Type 0} → List A → List (Turn V S) → List Verdict → Book V
book ls turns vs = booked_all (new_book ls) turns vs
