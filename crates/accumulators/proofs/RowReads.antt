-- What is read of a row is what the column has there, and one more listed row is joined after those before it.
use Rattle.std.proofs.Common.{◌≡◌, ℕ, ◌+◌, ◌<◌, Bool, true, false, cond, List, [], ◌∷◌, map, length, get_or, take, is_some, Some, None, Option, unwrap_or, sym, refl, ap, ◌∙◌}
use Rattle.std.specs.List.{slice_get}
use Rattle.std.specs.Option.{option_map, option_flatten}
use Rattle.std.proofs.lemmas.Bool.{true≢false}
use Rattle.std.proofs.lemmas.List.Sums.{fold_more}
use Rattle.columnar.specs.Cells.{Cell, seen, over}
use Rattle.groups.specs.Kind.{Kind, Laws, read, joined}
use Rattle.accumulators.specs.Listed.{seen_at, read_at, after_rows, after_states}
use Rattle.accumulators.specs.Shown.{ListedRows}

module _ {V S O : Type 0} (K : Kind V S O) where
  by_valid : (b : Bool) (x : S) → read K (over K.under (cond b (Some x) None)) ≡ cond b (K.of_state x) K.empty
  by_valid true x = refl
  by_valid false x = refl

  by_place : (o : Option (Cell S)) (r : Option S) → Some r ≡ option_map seen o → read K (over K.under r) ≡ unwrap_or (option_map (read K) o) K.empty
  by_place None r e = absurd (true≢false (ap is_some e))
  by_place (Some c) r e = ap (λ s. read K (over K.under s)) (ap option_flatten e) ∙ by_valid c.valid c.figure

  pub rows_more : (cells : List (Cell V)) (start before after : K.Credit) (js : List ℕ) (i : ℕ) (r : Option V) → i < length js → before ≡ after_rows K cells start (take i js) → Some r ≡ option_map seen (slice_get cells (get_or js i 0)) → after ≡ K.join before (K.of_row r) → after ≡ after_rows K cells start (take (i + 1) js)
  rows_more cells start before after js i r h inv e step =
      step
      ∙ ap (λ s. K.join before (K.of_row s)) (ap option_flatten e)
      ∙ ap (λ b. K.join b (K.of_row (seen_at cells (get_or js i 0)))) inv
      ∙ sym (fold_more (λ b j. K.join b (K.of_row (seen_at cells j))) start js i 0 h)

  pub states_more : (cells : List (Cell S)) (start before after : K.Credit) (js : List ℕ) (i : ℕ) (r : Option S) → i < length js → before ≡ after_states K cells start (take i js) → Some r ≡ option_map seen (slice_get cells (get_or js i 0)) → after ≡ K.join before (read K (over K.under r)) → after ≡ after_states K cells start (take (i + 1) js)
  states_more cells start before after js i r h inv e step =
      step
      ∙ ap (K.join before) (by_place (slice_get cells (get_or js i 0)) r e)
      ∙ ap (λ b. K.join b (read_at K cells (get_or js i 0))) inv
      ∙ sym (fold_more (λ b j. K.join b (read_at K cells j)) start js i 0 h)

-- listed rows joined one after another, and all at once
module _ {V S O : Type 0} (K : Kind V S O) (laws : Laws K) where
  after_joined : (cells : List (Cell V)) (c : K.Credit) (js : List ℕ) → K.Alike (after_rows K cells c js) (K.join c (joined K (map (seen_at cells) js)))
  after_joined cells c [] = laws.alike_sym (K.join c K.empty) c (laws.right c)
  after_joined cells c (j ∷ js) =
      let r = K.of_row (seen_at cells j) in
      let rest = joined K (map (seen_at cells) js) in
      laws.alike_trans (after_rows K cells (K.join c r) js) (K.join (K.join c r) rest) (K.join c (K.join r rest)) (after_joined cells (K.join c r) js) (laws.assoc c r rest)

  pub listed_rows : ListedRows K
  listed_rows cells js =
      let all = joined K (map (seen_at cells) js) in
      laws.alike_trans (after_rows K cells K.empty js) (K.join K.empty all) all (after_joined cells K.empty js) (laws.left all)

  pub shown_listed : (cells : List (Cell V)) (js : List ℕ) (before after : K.Credit) (r : Option O) → before ≡ K.empty → after ≡ after_rows K cells before js → r ≡ K.shown after → r ≡ K.shown (joined K (map (seen_at cells) js))
  shown_listed cells js before after r b a e =
      e ∙ ap K.shown a ∙ ap (λ c. K.shown (after_rows K cells c js)) b ∙ laws.shows (after_rows K cells K.empty js) (joined K (map (seen_at cells) js)) (listed_rows cells js)
