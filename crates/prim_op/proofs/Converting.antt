-- Rows as state rows.
use Rattle.std.proofs.Common.{◌≡◌, ℕ, ◌≤◌, Bool, true, false, cond, not, eqb, ltb, List, [], ◌∷◌, map, length, is_some, Some, None, unwrap_or, sym, refl, ap, ◌∙◌}
use Rattle.std.specs.Option.{option_map}
use Rattle.std.proofs.lemmas.Bool.{cond-false, le-ltb, eq-eqb}
use Rattle.columnar.specs.declared.refusal.Refusal.TheVariants.{TooManyRows, FilterLength, ShortBuffer}
use Rattle.columnar.specs.Cells.{Cell, Ticks, seen, over, handed, passes, admitted_rows, kept_rows}
use Rattle.buffers.specs.Memory.{Shaped}
use Rattle.buffers.proofs.AdmittedRows.{length_kept}
use Rattle.groups.specs.Tally.{differs, row_credits, converted, refusal, convert_conditions}
use Rattle.operations.specs.Primitive.{primitive}
use Rattle.prim_op.proofs.Calls.{differs_is}

module _ {E : Type 0} (start : E) (rule : E → E → E) where
  rows_are : (ps : List Bool) (cs : List (Cell E)) → map (λ c. c) (row_credits (primitive start rule) ps cs) ≡ admitted_rows ps cs
  rows_are [] cs = refl
  rows_are (p ∷ ps) [] = refl
  rows_are (p ∷ ps) (c ∷ cs) = ap (λ os. cond p (seen c) None ∷ os) (rows_are ps cs)

  pub converted_is : (rows : List (Cell E)) (f : Ticks) → kept_rows start (passes f (length rows)) rows ≡ converted (primitive start rule) rows f
  converted_is rows f = ap (handed true start) (sym (rows_are (passes f (length rows)) rows))

pub kept_shaped : {E : Type 0} (filler : E) (f : Ticks) (rows : List (Cell E)) (n : ℕ) → n ≡ length rows → Shaped (kept_rows filler (passes f (length rows)) rows) n true
kept_shaped filler f rows n e =
    record { figures_are = length_kept (λ o. (over filler o).figure) f rows ∙ sym e; mask_is = ap Some (length_kept is_some f rows ∙ sym e) }

-- neither too many rows nor a filter of another length: the answer is the buffers'
pub convert_line : (most n : ℕ) (f : Ticks) (short : Bool) (rows : ℕ) → rows ≡ n → rows ≤ most → unwrap_or (option_map length f) rows ≡ rows → cond short (Some ShortBuffer) None ≡ refusal (convert_conditions (ltb most n) (differs f n) short)
convert_line most n f short rows e few even =
    let a : ltb most n ≡ false = ap (ltb most) (sym e) ∙ le-ltb most rows few in
    let b : differs f n ≡ false = differs_is f n ∙ ap (λ k. not (eqb (unwrap_or (option_map length f) k) k)) (sym e) ∙ ap not (eq-eqb (unwrap_or (option_map length f) rows) rows even) in
    sym (cond-false (ltb most n) (Some TooManyRows) _ a ∙ cond-false (differs f n) (Some FilterLength) _ b)
