-- Calls made of several accumulators of one kind, one turn after another, and what comes of them.
--
--     Place             where a state row was written: the turn, and the row of what that turn wrote, both from 0
--     Sent S            a state row as it is merged: its cell, and the place where it was written, if one is given
--     Turn V S          a call with its arguments, and the number of the accumulator that it is made of; a hand-over has
--                       two, its giver and its taker. Buffers come in as their room
--     Outcome S O       what comes of a turn: accepted with nothing to hand out; groups shown; state rows written; refused;
--                       a hand-over refused by its taker, which has written its state rows; or no such accumulator
--     Layouts S O       how answers and states lie in their buffers
--     named t           the accumulators that a turn names
--     step ts t         the accumulators after a turn, and its outcome
--     outcomes, after   the outcomes of turns, one for each, and the accumulators after them
--     answers ls ts     the outcomes of turns made of fresh accumulators with these limits
use Rattle.std.specs.Prelude.{ℕ, cond, List, [], ◌∷◌, map, length, set, Some, None, Option, slice_index_or, slice_set}
use Rattle.columnar.specs.declared.refusal.Refusal.{Refusal}
use Rattle.columnar.specs.Cells.{Cell, Column, Ticks, cells}
use Rattle.buffers.specs.Memory.{Layout, Room}
use Rattle.groups.specs.declared.emit.EmitTo.{EmitTo}
use Rattle.groups.specs.Lists.{all_below}
use Rattle.groups.specs.Kind.{Kind}
use Rattle.groups.specs.Tally.{Means, Limits, fresh, update_refusal, updated, merge_refusal, merged, convert_refusal, converted, evaluate_refusal, answer, peek_refusal, peeked, forget_refusal, removed}

pub record Place : Type 0 where
  pub turn : ℕ
  pub row : ℕ

pub record Sent (S : Type 0) : Type 0 where
  pub cell : Cell S
  pub from : Option Place

pub data Turn (V S : Type 0) : Type 0 where
  update : ℕ → List (Cell V) → Ticks → List ℕ → ℕ → Turn V S
  merge : ℕ → List (Sent S) → List ℕ → ℕ → Turn V S
  convert : ℕ → List (Cell V) → Ticks → Room → Turn V S
  evaluate : ℕ → EmitTo → Room → Turn V S
  state : ℕ → EmitTo → Room → Turn V S
  peek : ℕ → EmitTo → Room → Turn V S
  forget : ℕ → EmitTo → Turn V S
  hand_over : ℕ → ℕ → EmitTo → Room → List ℕ → ℕ → Turn V S

pub data Outcome (S O : Type 0) : Type 0 where
  done : Outcome S O
  showed : Column O → Outcome S O
  wrote : Column S → Outcome S O
  refused : Refusal → Outcome S O
  taker_refused : Refusal → Column S → Outcome S O
  no_such : Outcome S O

pub record Layouts (S O : Type 0) : Type 0 where
  pub states : Layout S
  pub shown : Layout O

abbrev pub sent_cells : {S : Type 0} → List (Sent S) → List (Cell S)
sent_cells sent = map (λ s. s.cell) sent

abbrev pub named : {V S : Type 0} → Turn V S → List ℕ
named (update i rows filter groups total) = i ∷ []
named (merge i sent groups total) = i ∷ []
named (convert i rows filter room) = i ∷ []
named (evaluate i e room) = i ∷ []
named (state i e room) = i ∷ []
named (peek i e room) = i ∷ []
named (forget i e) = i ∷ []
named (hand_over i j e room groups total) = i ∷ j ∷ []

module _ {V S O : Type 0} (K : Kind V S O) (l : Layouts S O) where
  abbrev pub Accumulators : Type 0
  Accumulators = List (Means K)

  abbrev pub nobody : Means K
  nobody = fresh K (record { rows = 0; groups = 0; pairs = 0 })

  -- the accumulator of a number
  abbrev pub at : Accumulators → ℕ → Means K
  at ts i = slice_index_or ts i nobody

  abbrev pub Step : Type 0
  Step = Accumulators × Outcome S O

  -- a refused call changes nothing
  abbrev pub ruled : Option Refusal → Accumulators → Step → Step
  ruled None ts s = s
  ruled (Some r) ts s = (ts, refused r)

  abbrev pub taken_over : Option Refusal → Accumulators → Column S → Accumulators → Step
  taken_over None ts written after = (after, wrote written)
  taken_over (Some r) ts written after = (ts, taker_refused r written)

  -- a peek at the giver, a merge into the taker, and then a forgetting at the giver, whoever they are
  abbrev pub handed_over : Accumulators → ℕ → ℕ → EmitTo → Room → List ℕ → ℕ → Step
  handed_over ts i j e room groups total =
      let written = peeked K (at ts i) e in
      let merging = set ts j (merged K (at ts j) (cells written) groups total) in
      ruled (peek_refusal K l.states (at ts i) e room) ts
      (taken_over (merge_refusal K (at ts j) (cells written) groups total) ts written (slice_set merging i (removed K (at merging i) e)))

  -- a call of accumulators that are there
  abbrev pub called : Accumulators → Turn V S → Step
  called ts (update i rows filter groups total) =
      ruled (update_refusal K (at ts i) rows filter groups total) ts (slice_set ts i (updated K (at ts i) rows filter groups total), done)
  called ts (merge i sent groups total) =
      ruled (merge_refusal K (at ts i) (sent_cells sent) groups total) ts (slice_set ts i (merged K (at ts i) (sent_cells sent) groups total), done)
  called ts (convert i rows filter room) = ruled (convert_refusal K l.states (at ts i) rows filter room) ts (ts, wrote (converted K rows filter))
  called ts (evaluate i e room) =
      ruled (evaluate_refusal K l.shown (at ts i) e room) ts (slice_set ts i (removed K (at ts i) e), showed (answer K (at ts i) e))
  called ts (state i e room) = ruled (peek_refusal K l.states (at ts i) e room) ts (slice_set ts i (removed K (at ts i) e), wrote (peeked K (at ts i) e))
  called ts (peek i e room) = ruled (peek_refusal K l.states (at ts i) e room) ts (ts, wrote (peeked K (at ts i) e))
  called ts (forget i e) = ruled (forget_refusal K (at ts i) e) ts (slice_set ts i (removed K (at ts i) e), done)
  called ts (hand_over i j e room groups total) = handed_over ts i j e room groups total

  -- a turn that names an accumulator that is not there makes no call
  abbrev pub step : Accumulators → Turn V S → Step
  step ts t = cond (all_below (length ts) (named t)) (called ts t) (ts, no_such)

  abbrev pub outcomes : Accumulators → List (Turn V S) → List (Outcome S O)
  outcomes ts [] = []
  outcomes ts (t ∷ turns) = (step ts t).1 ∷ outcomes (step ts t).0 turns

  abbrev pub after : Accumulators → List (Turn V S) → Accumulators
  after ts [] = ts
  after ts (t ∷ turns) = after (step ts t).0 turns

  abbrev pub answers : List Limits → List (Turn V S) → List (Outcome S O)
  answers ls turns = outcomes (map (fresh K) ls) turns
