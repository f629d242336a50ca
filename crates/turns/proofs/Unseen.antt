-- What lies under nulls, in rows that are not let through and in null ticks reaches nothing.
use Rattle.std.proofs.Common.{◌≡◌, ℕ, suc, ◌+◌, ◌-◌, Bool, true, false, cond, not, ◌&&◌, ◌||◌, eqb, ltb, List, [], ◌∷◌, map, length, set, is_some, Some, None, sum_by, sym, refl, ap, ◌∙◌, ap₂}
use Rattle.std.proofs.lemmas.Bool.{true≢false, false≢true}
use Rattle.std.specs.List.{AllZip, zip}
use Rattle.columnar.specs.Cells.{Cell, Ticks, seen, passes, nulls}
use Rattle.buffers.specs.Memory.{Room, short}
use Rattle.groups.specs.Lists.{change, deal, all_below, names_from}
use Rattle.groups.specs.Kind.{Kind, read}
use Rattle.groups.specs.Tally.{Means, none_hold, refusal, convert_conditions, differs, turned, converts_masked, admitted, with_credits, opened, with_rows, row_credits, state_column}
use Rattle.turns.specs.Lists.{EachRow}
use Rattle.turns.specs.Turns.{Turn, Sent, Layouts, Step, at, ruled, sent_cells, step, outcomes}
use Rattle.turns.specs.Turns.Outcome.{done, wrote, no_such}
use Rattle.turns.specs.Theorem.{Agree, TicksAgree, RowAgrees, BatchAgrees, SentAgrees, AlikeButHidden, same, updates, converts, merges}
use Rattle.turns.proofs.Eachs.{each_length}
use Rattle.turns.proofs.Batches.{nulls_cons}

-- what is read of a row only where it is valid
valid_same : {X Y : Type 0} (f : X → Y) (d : Y) (v w : Bool) (x y : X) → v ≡ w → (v ≡ true → x ≡ y) → cond v (f x) d ≡ cond w (f y) d
valid_same f d true true x y p q = ap f (q refl)
valid_same f d true false x y p q = absurd (true≢false p)
valid_same f d false true x y p q = absurd (false≢true p)
valid_same f d false false x y p q = refl

and_same : (v w x y : Bool) → v ≡ w → (v ≡ true → x ≡ y) → (v && x) ≡ (w && y)
and_same true true x y p q = q refl
and_same true false x y p q = absurd (true≢false p)
and_same false true x y p q = absurd (false≢true p)
and_same false false x y p q = refl

rows_shift : {A B : Type 0} (R : ℕ → A → B → Type 0) (j : ℕ) (xs : List A) (ys : List B) → EachRow R (suc j) xs ys → EachRow (λ k. R (suc k)) j xs ys
rows_shift R j [] [] e = tt
rows_shift R j [] (y ∷ ys) e = absurd e
rows_shift R j (x ∷ xs) [] e = absurd e
rows_shift R j (x ∷ xs) (y ∷ ys) e = (e.0, rows_shift R (suc j) xs ys e.1)

nulls_same : {X : Type 0} (r s : Cell X) (rs ss : List (Cell X)) → r.valid ≡ s.valid → nulls rs ≡ nulls ss → nulls (r ∷ rs) ≡ nulls (s ∷ ss)
nulls_same r s rs ss v n = nulls_cons r rs ∙ ap₂ (λ w m. cond (not w) 1 0 + m) v n ∙ sym (nulls_cons s ss)

given_same : (filter filter' : Ticks) → TicksAgree filter filter' → is_some filter ≡ is_some filter'
given_same None None f = refl
given_same None (Some us) f = absurd f
given_same (Some ts) None f = absurd f
given_same (Some ts) (Some us) f = refl

differs_same : (n n' : ℕ) (filter filter' : Ticks) → n ≡ n' → TicksAgree filter filter' → differs filter n ≡ differs filter' n'
differs_same n n' None None e f = refl
differs_same n n' None (Some us) e f = absurd f
differs_same n n' (Some ts) None e f = absurd f
differs_same n n' (Some ts) (Some us) e f = ap₂ (λ a b. not (eqb a b)) (each_length Agree ts us f) e

module _ {V S O : Type 0} (K : Kind V S O) where
  -- what two columns under their filters have in common
  pub record Same (ps : List Bool) (rows : List (Cell V)) (ps' : List Bool) (rows' : List (Cell V)) : Type 0 where
    pub len : length rows ≡ length rows'
    pub nulls_are : nulls rows ≡ nulls rows'
    pub entries_are : (gs : List ℕ) → admitted ps gs (map seen rows) ≡ admitted ps' gs (map seen rows')
    pub credits_are : row_credits K ps rows ≡ row_credits K ps' rows'

  same_none : Same [] [] [] []
  same_none = record { len = refl; nulls_are = refl; entries_are = λ gs. refl; credits_are = refl }

  same_more : (p p' : Bool) (r r' : Cell V) (ps ps' : List Bool) (rows rows' : List (Cell V)) → p ≡ p' → r.valid ≡ r'.valid → (p ≡ true → r.valid ≡ true → r.figure ≡ r'.figure)
      → Same ps rows ps' rows' → Same (p ∷ ps) (r ∷ rows) (p' ∷ ps') (r' ∷ rows')
  same_more p p' r r' ps ps' rows rows' e v f s =
      record {
        len = ap suc s.len;
        nulls_are = nulls_same r r' rows rows' v s.nulls_are;
        entries_are = go p p' e f;
        credits_are = ap₂ (λ c cs. c ∷ cs) (one p p' e f) s.credits_are;
      }
    where
      seen_same : (r.valid ≡ true → r.figure ≡ r'.figure) → seen r ≡ seen r'
      seen_same q = valid_same Some None r.valid r'.valid r.figure r'.figure v q

      go : (p p' : Bool) → p ≡ p' → (p ≡ true → r.valid ≡ true → r.figure ≡ r'.figure) → (gs : List ℕ) → admitted (p ∷ ps) gs (map seen (r ∷ rows)) ≡ admitted (p' ∷ ps') gs (map seen (r' ∷ rows'))
      go p p' e f [] = refl
      go true true e f (g ∷ gs) = ap₂ (λ o l. (g, o) ∷ l) (seen_same (f refl)) (s.entries_are gs)
      go true false e f (g ∷ gs) = absurd (true≢false e)
      go false true e f (g ∷ gs) = absurd (false≢true e)
      go false false e f (g ∷ gs) = s.entries_are gs

      one : (p p' : Bool) → p ≡ p' → (p ≡ true → r.valid ≡ true → r.figure ≡ r'.figure) → cond p (K.of_row (seen r)) K.empty ≡ cond p' (K.of_row (seen r')) K.empty
      one true true e f = ap K.of_row (seen_same (f refl))
      one true false e f = absurd (true≢false e)
      one false true e f = absurd (false≢true e)
      one false false e f = refl

  same_plain : (rows rows' : List (Cell V)) → EachRow (RowAgrees None) 0 rows rows' → Same (passes None (length rows)) rows (passes None (length rows')) rows'
  same_plain [] [] e = same_none
  same_plain [] (r ∷ rows) e = absurd e
  same_plain (r ∷ rows) [] e = absurd e
  same_plain (r ∷ rows) (r' ∷ rows') e = same_more true true r r' _ _ rows rows' refl e.0.0 e.0.1 (same_plain rows rows' (rows_shift (RowAgrees None) 0 rows rows' e.1))

  same_ticked : (rows rows' : List (Cell V)) (ts us : List (Cell Bool)) → AllZip Agree ts us → EachRow (RowAgrees (Some ts)) 0 rows rows'
      → Same (passes (Some ts) (length rows)) rows (passes (Some us) (length rows')) rows'
  same_ticked [] [] ts us a e = same_none
  same_ticked [] (r ∷ rows) ts us a e = absurd e
  same_ticked (r ∷ rows) [] ts us a e = absurd e
  same_ticked (r ∷ rows) (r' ∷ rows') [] [] a e =
      same_more false false r r' _ _ rows rows' refl e.0.0 e.0.1 (same_ticked rows rows' [] [] tt (rows_shift (RowAgrees (Some [])) 0 rows rows' e.1))
  same_ticked (r ∷ rows) (r' ∷ rows') [] (u ∷ us) a e = absurd a
  same_ticked (r ∷ rows) (r' ∷ rows') (t ∷ ts) [] a e = absurd a
  same_ticked (r ∷ rows) (r' ∷ rows') (t ∷ ts) (u ∷ us) a e =
      same_more (t.valid && t.figure) (u.valid && u.figure) r r' _ _ rows rows' (and_same t.valid u.valid t.figure u.figure a.0.0 a.0.1) e.0.0 e.0.1
      (same_ticked rows rows' ts us a.1 (rows_shift (RowAgrees (Some (t ∷ ts))) 0 rows rows' e.1))

  same_batch : (rows rows' : List (Cell V)) (filter filter' : Ticks) → BatchAgrees rows filter rows' filter'
      → Same (passes filter (length rows)) rows (passes filter' (length rows')) rows'
  same_batch rows rows' None None e = same_plain rows rows' e.1
  same_batch rows rows' None (Some us) e = absurd e.0
  same_batch rows rows' (Some ts) None e = absurd e.0
  same_batch rows rows' (Some ts) (Some us) e = same_ticked rows rows' ts us e.0 e.1

  -- ── merged rows ──
  same_reads : (ss us : List (Sent S)) → AllZip SentAgrees ss us → map (λ s. read K s.cell) ss ≡ map (λ s. read K s.cell) us
  same_reads [] [] e = refl
  same_reads [] (u ∷ us) e = absurd e
  same_reads (s ∷ ss) [] e = absurd e
  same_reads (s ∷ ss) (u ∷ us) e =
      ap₂ (λ c cs. c ∷ cs) (valid_same K.of_state K.empty s.cell.valid u.cell.valid s.cell.figure u.cell.figure e.0.1.0 e.0.1.1) (same_reads ss us e.1)

  same_sent_nulls : (ss us : List (Sent S)) → AllZip SentAgrees ss us → nulls (sent_cells ss) ≡ nulls (sent_cells us)
  same_sent_nulls [] [] e = refl
  same_sent_nulls [] (u ∷ us) e = absurd e
  same_sent_nulls (s ∷ ss) [] e = absurd e
  same_sent_nulls (s ∷ ss) (u ∷ us) e = nulls_same s.cell u.cell (sent_cells ss) (sent_cells us) e.0.1.0 (same_sent_nulls ss us e.1)

  same_sent_length : (ss us : List (Sent S)) → AllZip SentAgrees ss us → length (sent_cells ss) ≡ length (sent_cells us)
  same_sent_length [] [] e = refl
  same_sent_length [] (u ∷ us) e = absurd e
  same_sent_length (s ∷ ss) [] e = absurd e
  same_sent_length (s ∷ ss) (u ∷ us) e = ap suc (same_sent_length ss us e.1)

  -- dealing state rows is dealing the credits that they are read as
  deal_reads : (gs : List ℕ) (ss : List (Sent S)) (cs : List K.Credit)
      → deal (λ c s. K.join c (read K s)) (zip gs (sent_cells ss)) cs ≡ deal K.join (zip gs (map (λ s. read K s.cell) ss)) cs
  deal_reads [] ss cs = refl
  deal_reads (g ∷ gs) [] cs = refl
  deal_reads (g ∷ gs) (s ∷ ss) cs = deal_reads gs ss (change (λ c. K.join c (read K s.cell)) g cs)

  same_dealt : (gs : List ℕ) (ss us : List (Sent S)) (cs : List K.Credit) → AllZip SentAgrees ss us
      → deal (λ c s. K.join c (read K s)) (zip gs (sent_cells ss)) cs ≡ deal (λ c s. K.join c (read K s)) (zip gs (sent_cells us)) cs
  same_dealt gs ss us cs e = deal_reads gs ss cs ∙ ap (λ l. deal K.join (zip gs l) cs) (same_reads ss us e) ∙ sym (deal_reads gs us cs)

  -- ── turns ──
  module _ (l : Layouts S O) where
    -- a batch by what it reads of its rows and its filter
    batch_by : List (Means K) → ℕ → List ℕ → ℕ → ℕ → List K.Credit → Bool → Bool → Step K l
    batch_by ts i gs total n after differ batch =
        let m = at K l ts i in
        ruled K l
        (refusal
        (record none_hold {
          too_many_rows = ltb m.most_rows n;
          indices_differ = not (eqb n (length gs));
          filter_differs = differ;
          total_below = ltb total (length m.credits);
          total_above = ltb m.most_groups total;
          index_above = not (all_below total gs);
          not_named = not (names_from (length m.credits) (total - length m.credits) gs);
          too_many_pairs = ltb m.most_pairs (sum_by K.pairs after);
        }))
        ts (set ts i (with_credits K m after (turned K.switch m.marked batch)), done)

    convert_by : List (Means K) → ℕ → Room → ℕ → List K.Credit → Bool → Step K l
    convert_by ts i room n cs differ =
        let c = state_column K (converts_masked K.switch) cs in
        ruled K l (refusal (convert_conditions (ltb (at K l ts i).most_rows n) differ (short l.states room c))) ts (ts, wrote c)

    called_same : (ts : List (Means K)) {t u : Turn V S} → AlikeButHidden t u → step K l ts t ≡ step K l ts u
    unfolding batch_by convert_by
    called_same ts (same t) = refl
    called_same ts (updates i rows rows' filter filter' gs total e) =
        let s = same_batch rows rows' filter filter' e in
        let entries = s.entries_are gs in
        let d = differs_same (length rows) (length rows') filter filter' s.len e.0 in
        let given = given_same filter filter' e.0 in
        λ x. cond (all_below (length ts) (i ∷ [])) (batch_by ts i gs total (s.len x) (with_rows K (at K l ts i) (entries x) total) (d x) (given x || ltb 0 (s.nulls_are x))) (ts, no_such)
    called_same ts (converts i rows rows' filter filter' room e) =
        let s = same_batch rows rows' filter filter' e in
        let d = differs_same (length rows) (length rows') filter filter' s.len e.0 in
        λ x. cond (all_below (length ts) (i ∷ [])) (convert_by ts i room (s.len x) (s.credits_are x) (d x)) (ts, no_such)
    called_same ts (merges i ss us gs total e) =
        let dealt = same_dealt gs ss us (opened K (at K l ts i) total) e in
        let n = same_sent_length ss us e in
        let b = same_sent_nulls ss us e in
        λ x. cond (all_below (length ts) (i ∷ [])) (batch_by ts i gs total (n x) (dealt x) false (ltb 0 (b x))) (ts, no_such)

    pub outcomes_same : (turns turns' : List (Turn V S)) (ts : List (Means K)) → AllZip AlikeButHidden turns turns' → outcomes K l ts turns ≡ outcomes K l ts turns'
    outcomes_same [] [] ts e = refl
    outcomes_same [] (u ∷ us) ts e = absurd e
    outcomes_same (t ∷ turns) [] ts e = absurd e
    outcomes_same (t ∷ turns) (u ∷ us) ts e =
        ap (λ os. (step K l ts t).1 ∷ os) (outcomes_same turns us (step K l ts t).0 e.1) ∙ ap (λ (s : Step K l). s.1 ∷ outcomes K l s.0 us) (called_same ts e.0)
