-- Calls of an accumulator, one after another, and what each replies.
--
--     Call E             a call of a kind whose rows, state rows and shown figures are of one type
--     Reply F            what comes of it: nothing to hand out, figures and packed mask bytes, or the number of the refusal
--     refusal_of m c     the refusal of a call, if it is refused
--     next m c           the meaning after a call; a refused one changes nothing
--     reached m cs       the meaning after calls
--     replies f m cs     the replies to calls, their figures laid out by f
use Rattle.std.specs.Prelude.{ℕ, List, [], ◌∷◌, Some, None, Option}
use Rattle.std.specs.Option.{option_map}
use Rattle.columnar.specs.declared.refusal.Refusal.{Refusal}
use Rattle.columnar.specs.Packed.{packed}
use Rattle.columnar.specs.Cells.{Cell, Column, Ticks}
use Rattle.columnar.specs.Refusals.{number_of}
use Rattle.buffers.specs.Memory.{Layout, Room}
use Rattle.groups.specs.declared.emit.EmitTo.{EmitTo}
use Rattle.groups.specs.Kind.{Kind}
use Rattle.groups.specs.Tally.{Means, unless, update_refusal, updated, merge_refusal, merged, convert_refusal, converted, evaluate_refusal, answer, peek_refusal, peeked, forget_refusal, removed}

pub data Call (E : Type 0) : Type 0 where
  update : List (Cell E) → Ticks → List ℕ → ℕ → Call E
  merge : List (Cell E) → List ℕ → ℕ → Call E
  convert : List (Cell E) → Ticks → Room → Call E
  evaluate : EmitTo → Room → Call E
  peek : EmitTo → Room → Call E
  forget : EmitTo → Call E

pub data Reply (F : Type 0) : Type 0 where
  accepted : Reply F
  answered : List F → Option (List ℕ) → Reply F
  refused : ℕ → Reply F

-- a column as its figures are laid out, with packed mask bytes
abbrev pub handed_out : {E F : Type 0} → (List E → List F) → Column E → Reply F
handed_out figures c = answered (figures c.figures) (option_map packed c.mask)

abbrev pub reply : {F : Type 0} → Option Refusal → Reply F → Reply F
reply None given = given
reply (Some r) given = refused (number_of r)

module _ {E : Type 0} (K : Kind E E E) (layout : Layout E) where
  abbrev pub refusal_of : Means K → Call E → Option Refusal
  refusal_of m (update rows filter groups total) = update_refusal K m rows filter groups total
  refusal_of m (merge states groups total) = merge_refusal K m states groups total
  refusal_of m (convert rows filter room) = convert_refusal K layout m rows filter room
  refusal_of m (evaluate e room) = evaluate_refusal K layout m e room
  refusal_of m (peek e room) = peek_refusal K layout m e room
  refusal_of m (forget e) = forget_refusal K m e

  -- conversions and peeks change nothing
  abbrev pub after : Means K → Call E → Means K
  after m (update rows filter groups total) = updated K m rows filter groups total
  after m (merge states groups total) = merged K m states groups total
  after m (convert rows filter room) = m
  after m (evaluate e room) = removed K m e
  after m (peek e room) = m
  after m (forget e) = removed K m e

  abbrev pub next : Means K → Call E → Means K
  next m c = unless (refusal_of m c) m (after m c)

  abbrev pub reached : Means K → List (Call E) → Means K
  reached m [] = m
  reached m (c ∷ cs) = reached (next m c) cs

module _ {E F : Type 0} (K : Kind E E E) (layout : Layout E) (figures : List E → List F) where
  abbrev pub told : Means K → Call E → Reply F
  told m (update rows filter groups total) = accepted
  told m (merge states groups total) = accepted
  told m (convert rows filter room) = handed_out figures (converted K rows filter)
  told m (evaluate e room) = handed_out figures (answer K m e)
  told m (peek e room) = handed_out figures (peeked K m e)
  told m (forget e) = accepted

  abbrev pub replies : Means K → List (Call E) → List (Reply F)
  replies m [] = []
  replies m (c ∷ cs) = reply (refusal_of K layout m c) (told m c) ∷ replies (next K layout m c) cs
