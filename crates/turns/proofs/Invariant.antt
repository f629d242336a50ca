-- What every turn keeps: each accumulator's credits are alike the joins of its bags, and each row handed out is what its entry says.
use Rattle.std.proofs.Common.{◌≡◌, ℕ, ◌-◌, ◌<◌, ◌≤◌, Bool, true, false, cond, ◌&&◌, ◌||◌, ltb, List, [], ◌∷◌, ◌++◌, map, length, get_or, set, replicate, is_some, Some, None, Option, sym, refl, ap, ◌∙◌, subst, arith}
use lib.ListN.{get_or-map}
use Rattle.std.specs.List.{AllByRecursion, AllZip, zip}
use Rattle.std.proofs.lemmas.Bool.{or_parts, cond-true, true≢false}
use Rattle.columnar.specs.declared.refusal.Refusal.{Refusal}
use Rattle.columnar.specs.Cells.{Cell, Ticks, seen, over, cells, passes, nulls}
use Rattle.buffers.specs.Memory.{Room, short}
use Rattle.groups.specs.declared.emit.EmitTo.{EmitTo}
use Rattle.groups.specs.declared.emit.EmitTo.TheVariants.{All as Whole, First}
use Rattle.groups.specs.Emits.{taken, others, count_of}
use Rattle.groups.specs.Lists.{all_below}
use Rattle.groups.specs.Kind.{Kind, Switch, by_nulls, always_marked, always_plain, Laws, Clear, read, joined}
use Rattle.groups.specs.Tally.{Means, turned, left_by, converts_masked, opened, with_rows, with_states, row_entries, row_credits, update_refusal, updated, merge_refusal, merged, evaluate_refusal, answer, removed, state_column, peeked, peek_refusal, forget_refusal, converted, convert_refusal, fresh}
use Rattle.turns.specs.Lists.{listed}
use Rattle.turns.specs.Turns.{Turn, Outcome, Sent, Layouts, Step, at, nobody, ruled, taken_over, sent_cells, named, called, step}
use Rattle.turns.specs.Turns.Turn.{update, merge, convert, evaluate, state, peek, forget, hand_over}
use Rattle.turns.specs.Turns.Outcome.{done, showed, wrote, refused, taker_refused, no_such}
use Rattle.turns.specs.Book.{Bag, Account, Entry, Book, verdict, row_bag, rows_at, bags_at, kept, grown, front, without, bags_of, account, placed, noted, booked}
use Rattle.turns.specs.Theorem.{rows_written, Stands, MergeStands, Shows, Carries, Showing, Writing}
use Rattle.turns.proofs.Division.{joined_join, joined_one, joined_push}
use Rattle.turns.proofs.Eachs.{each_length, each_append, each_replicate, each_get_d, each_at, each_set, each_taken, each_others, Paired, each_deal, each_same, each_map, each_unmap, each_zip, all_taken, all_others, all_maps, all_of}
use Rattle.turns.proofs.Deals.{dealt_all}
use Rattle.turns.proofs.Crediting.{add_to, alone, whole, rows_mine, bags_mine, bags_in, kept_bags, grown_bags, front_bags, without_bags, map_listed}
use Rattle.turns.proofs.Batches.{Passed, passed, within, entries_heads, Given, entries_given, zip_heads, zip_valid, cells_handed}

module _ {V S O : Type 0} (K : Kind V S O) (L : Laws K) where
  abbrev pub Credited : K.Credit → Bag V → Type 0
  Credited c b = K.Alike c (joined K b)

  -- where there is no mask, no credit is null
  abbrev pub Visible : Bool → List K.Credit → Type 0
  Visible marked cs = marked ≡ false → AllByRecursion (Clear K) cs

  pub record Fair (m : Means K) (a : Account V) : Type 0 where
    pub alike : AllZip Credited m.credits (bags_in a)
    pub visible : Visible m.marked m.credits

  abbrev pub ShowsEntry : Cell O → Entry V → Type 0
  ShowsEntry row n = Shows K row n.bag

  abbrev pub CarriesEntry : Cell S → Entry V → Type 0
  CarriesEntry row n = Carries K row n.bag

  abbrev pub Told : Outcome S O → List (Entry V) → Type 0
  Told o entries = Showing K ShowsEntry o entries × Writing K CarriesEntry o entries

  pub record Inv (ts : List (Means K)) (past : List (Outcome S O)) (b : Book V) : Type 0 where
    pub fair : AllZip Fair ts b.accounts
    pub told : AllZip Told past b.entries

  kept_credits : (m : Means K) (a : Account V) → Fair m a → length m.credits ≡ kept a
  kept_credits m a h = each_length Credited m.credits (bags_in a) h.alike ∙ kept_bags a

  -- ── the switch ──
  visible_turned : (d : Switch) → K.switch ≡ d → (before batch : Bool) (cs : List K.Credit)
      → (K.switch ≡ by_nulls → before ≡ false → batch ≡ false → AllByRecursion (Clear K) cs) → Visible (turned d before batch) cs
  visible_turned by_nulls e before batch cs h f = let both = or_parts before batch f in h e both.0 both.1
  visible_turned always_marked e before batch cs h f = absurd (true≢false f)
  visible_turned always_plain e before batch cs h f = all_of (Clear K) (L.plain_clear e) cs

  and_true : (b : Bool) → (b && true) ≡ false → b ≡ false
  and_true true e = e
  and_true false e = refl

  visible_removed : (d : Switch) → K.switch ≡ d → (e : EmitTo) (before : Bool) (cs : List K.Credit) → Visible before cs → Visible (left_by d e before) (others e cs)
  visible_removed by_nulls q Whole before cs h f = tt
  visible_removed by_nulls q (First n) before cs h f = all_others (Clear K) (First n) cs (h (and_true before f))
  visible_removed always_marked q e before cs h f = absurd (true≢false f)
  visible_removed always_plain q e before cs h f = all_of (Clear K) (L.plain_clear q) (others e cs)

  visible_converted : (d : Switch) → K.switch ≡ d → (cs : List K.Credit) → Visible (converts_masked d) cs
  visible_converted by_nulls q cs f = absurd (true≢false f)
  visible_converted always_marked q cs f = absurd (true≢false f)
  visible_converted always_plain q cs f = all_of (Clear K) (L.plain_clear q) cs

  -- ── what an accepted batch keeps ──
  opened_alike : (cs : List K.Credit) (bs : List (Bag V)) (total : ℕ) → AllZip Credited cs bs
      → AllZip Credited (cs ++ replicate (total - length cs) K.empty) (bs ++ replicate (total - length bs) [])
  opened_alike cs bs total e =
      subst (λ n. AllZip Credited (cs ++ replicate (total - length cs) K.empty) (bs ++ replicate (total - n) [])) (each_length Credited cs bs e)
      (each_append Credited cs bs _ _ e (each_replicate Credited (total - length cs) K.empty [] (L.alike_refl _)))

  update_fair : (m : Means K) (a : Account V) (rows : List (Cell V)) (filter : Ticks) (gs : List ℕ) (total : ℕ) → update_refusal K m rows filter gs total ≡ None
      → Fair m a → Fair (updated K m rows filter gs total) (grown a total (rows_at rows filter gs))
  update_fair m a rows filter gs total ok h =
      let p = passed K m (length rows) filter gs total (with_rows K m (row_entries rows filter gs) total) ok in
      record {
        alike = subst (AllZip Credited (with_rows K m (row_entries rows filter gs) total))
            (grown_bags alone a (row_entries rows filter gs) total (rows_at rows filter gs) (subst (λ n. n ≤ total) (kept_credits m a h) p.upward) (λ g. rows_mine rows filter gs g p.rows_match))
            (each_deal Credited (λ r s. r ≡ s) (λ c r. K.join c (K.of_row r)) (add_to alone)
            (λ c b r s p q. subst (λ s. Credited (K.join c (K.of_row r)) (b ++ s ∷ [])) q (joined_push K L c b r p))
            (row_entries rows filter gs) (row_entries rows filter gs) (each_same (Paired (λ r s. r ≡ s)) (λ e. (refl, refl)) (row_entries rows filter gs))
            (opened K m total) (bags_in a ++ replicate (total - length (bags_in a)) []) (opened_alike m.credits (bags_in a) total h.alike));
        visible = visible_turned K.switch refl m.marked (is_some filter || ltb 0 (nulls rows)) (with_rows K m (row_entries rows filter gs) total) (go filter p);
      }
    where
      make : K.switch ≡ by_nulls → (c : K.Credit) (r : Option V) → Given r → Clear K (K.join c (K.of_row r))
      make d c r g = subst (λ x. Clear K (K.join c (K.of_row x))) (sym g.1) (L.row_clear d c g.0)

      go : (filter : Ticks) → Passed (length m.credits) (length rows) gs total → K.switch ≡ by_nulls → m.marked ≡ false → (is_some filter || ltb 0 (nulls rows)) ≡ false
          → AllByRecursion (Clear K) (with_rows K m (row_entries rows filter gs) total)
      go None p d f batch =
          dealt_all (Clear K) Given (λ c r. K.join c (K.of_row r)) (make d) m.credits K.empty (total - length m.credits) (row_entries rows None gs) gs
          (entries_heads rows gs p.rows_match) (h.visible f) (entries_given rows gs batch) p.new_named
      go (Some ts) p d f batch = absurd (true≢false batch)

  abbrev pub Reads : Cell S → Bag V → Type 0
  Reads s b = K.Alike (read K s) (joined K b)

  merge_fair : (m : Means K) (a : Account V) (rows : List (Cell S)) (bags : List (Bag V)) (gs : List ℕ) (total : ℕ) → merge_refusal K m rows gs total ≡ None
      → AllZip Reads rows bags → Fair m a → Fair (merged K m rows gs total) (grown a total (bags_at bags gs))
  merge_fair m a rows bags gs total ok r h =
      let p = passed K m (length rows) None gs total (with_states K m (zip gs rows) total) ok in
      record {
        alike = subst (AllZip Credited (with_states K m (zip gs rows) total))
            (grown_bags whole a (zip gs bags) total (bags_at bags gs) (subst (λ n. n ≤ total) (kept_credits m a h) p.upward) (λ g. bags_mine bags gs g (sym (each_length Reads rows bags r) ∙ p.rows_match)))
            (each_deal Credited Reads (λ c s. K.join c (read K s)) (add_to whole) (λ c b s x p q. joined_join K L c (read K s) b x p q)
            (zip gs rows) (zip gs bags) (each_zip Reads gs rows bags r) (opened K m total) (bags_in a ++ replicate (total - length (bags_in a)) []) (opened_alike m.credits (bags_in a) total h.alike));
        visible = visible_turned K.switch refl m.marked (ltb 0 (nulls rows)) (with_states K m (zip gs rows) total) (go p);
      }
    where
      make : K.switch ≡ by_nulls → (c : K.Credit) (s : Cell S) → s.valid ≡ true → Clear K (K.join c (read K s))
      make d c s g = subst (λ x. Clear K (K.join c x)) (sym (cond-true s.valid (K.of_state s.figure) K.empty g)) (L.state_clear d c s.figure)

      go : Passed (length m.credits) (length rows) gs total → K.switch ≡ by_nulls → m.marked ≡ false → ltb 0 (nulls rows) ≡ false → AllByRecursion (Clear K) (with_states K m (zip gs rows) total)
      go p d f batch =
          dealt_all (Clear K) (λ s. s.valid ≡ true) (λ c s. K.join c (read K s)) (make d) m.credits K.empty (total - length m.credits) (zip gs rows) gs
          (zip_heads rows gs p.rows_match) (h.visible f) (zip_valid rows gs batch) p.new_named

  removed_fair : (m : Means K) (a : Account V) (e : EmitTo) → Fair m a → Fair (removed K m e) (without a e)
  removed_fair m a e h =
      record {
        alike = subst (AllZip Credited (others e m.credits)) (without_bags a e) (each_others Credited e m.credits (bags_in a) h.alike);
        visible = visible_removed K.switch refl e m.marked m.credits h.visible;
      }

  -- ── what is handed out ──
  answer_shows : (m : Means K) (i : ℕ) (a : Account V) (e : EmitTo) → count_of e (length m.credits) ≤ length m.credits → Fair m a → AllZip ShowsEntry (cells (answer K m e)) (front i a e)
  answer_shows m i a e w h =
      each_unmap (Shows K) (λ n. n.bag) (cells (answer K m e)) (front i a e)
      (subst (AllZip (Shows K) (cells (answer K m e))) (front_bags i a e (subst (λ n. count_of e n ≤ n) (kept_credits m a h) w))
      (subst (λ rows. AllZip (Shows K) rows (taken e (bags_in a)))
      (sym (cells_handed K.filler m.marked (map K.shown (taken e m.credits)) (λ f. all_maps (Clear K) (λ o. is_some o ≡ true) K.shown (λ c q. q.0) (taken e m.credits) (all_taken (Clear K) e m.credits (h.visible f)))))
      (each_map (λ o b. o ≡ K.shown (joined K b)) (Shows K) (over K.filler) (λ o b q. ap (over K.filler) q) (map K.shown (taken e m.credits)) (taken e (bags_in a))
      (each_map Credited (λ o b. o ≡ K.shown (joined K b)) K.shown (λ c b q. L.shows _ _ q) (taken e m.credits) (taken e (bags_in a)) (each_taken Credited e m.credits (bags_in a) h.alike)))))

  state_carries : (masked : Bool) (cs : List K.Credit) (bs : List (Bag V)) → Visible masked cs → AllZip Credited cs bs → AllZip (Carries K) (cells (state_column K masked cs)) bs
  state_carries masked cs bs v h =
      subst (λ rows. AllZip (Carries K) rows bs)
      (sym (cells_handed K.under masked (map K.written cs) (λ f. all_maps (Clear K) (λ o. is_some o ≡ true) K.written (λ c q. q.1) cs (v f))))
      (each_map (λ o b. Carries K (over K.under o) b) (Carries K) (over K.under) (λ o b q. q) (map K.written cs) bs
      (each_map Credited (λ o b. Carries K (over K.under o) b) K.written (λ c b q. L.alike_trans _ _ _ (L.reads c) q) cs bs h))

  peek_carries : (m : Means K) (i : ℕ) (a : Account V) (e : EmitTo) → count_of e (length m.credits) ≤ length m.credits → Fair m a → AllZip CarriesEntry (cells (peeked K m e)) (front i a e)
  peek_carries m i a e w h =
      each_unmap (Carries K) (λ n. n.bag) (cells (peeked K m e)) (front i a e)
      (subst (AllZip (Carries K) (cells (peeked K m e))) (front_bags i a e (subst (λ n. count_of e n ≤ n) (kept_credits m a h) w))
      (state_carries m.marked (taken e m.credits) (taken e (bags_in a)) (λ f. all_taken (Clear K) e m.credits (h.visible f)) (each_taken Credited e m.credits (bags_in a) h.alike)))

  row_alike : (p : Bool) (r : Option V) → Credited (cond p (K.of_row r) K.empty) (cond p (r ∷ []) [])
  row_alike true r = joined_one K L r
  row_alike false r = L.alike_refl _

  converted_alike : (rows : List (Cell V)) (filter : Ticks) → AllZip Credited (row_credits K (passes filter (length rows)) rows) (listed (length rows) (row_bag rows filter))
  converted_alike [] None = tt
  converted_alike [] (Some ts) = tt
  converted_alike (r ∷ rs) None = (row_alike true (seen r), converted_alike rs None)
  converted_alike (r ∷ rs) (Some []) = (row_alike false (seen r), converted_alike rs (Some []))
  converted_alike (r ∷ rs) (Some (t ∷ ts)) = (row_alike (t.valid && t.figure) (seen r), converted_alike rs (Some ts))

  converted_carries : (rows : List (Cell V)) (filter : Ticks) → AllZip CarriesEntry (cells (converted K rows filter)) (listed (length rows) (λ j. record { group = None; bag = row_bag rows filter j }))
  converted_carries rows filter =
      let entries = listed (length rows) (λ j. record { group = None; bag = row_bag rows filter j }) in
      let cs = row_credits K (passes filter (length rows)) rows in
      each_unmap (Carries K) (λ n. n.bag) (cells (converted K rows filter)) entries
      (subst (AllZip (Carries K) (cells (converted K rows filter))) (sym (map_listed (λ (n : Entry V). n.bag) (length rows) (λ j. record { group = None; bag = row_bag rows filter j })))
      (state_carries (converts_masked K.switch) cs (listed (length rows) (row_bag rows filter)) (visible_converted K.switch refl cs) (converted_alike rows filter)))

  -- ── merged rows ──
  carried_at : (rows : List (Cell S)) (entries : List (Entry V)) (n : ℕ) (d : Cell S) → AllZip CarriesEntry rows entries → n < length rows → Carries K (get_or rows n d) (get_or (bags_of entries) n [])
  carried_at rows entries n d h l =
      subst (Carries K (get_or rows n d)) (sym (get_or-map (λ (x : Entry V). x.bag) entries n (record { group = None; bag = [] })))
      (each_at CarriesEntry rows entries n d (record { group = None; bag = [] }) l h)

  row_carries : (o : Outcome S O) (entries : List (Entry V)) (n : ℕ) (d : Cell S) → Told o entries → n < length (rows_written o) → Carries K (get_or (rows_written o) n d) (get_or (bags_of entries) n [])
  row_carries done entries n d h l = absurd (omega arith)
  row_carries (showed c) entries n d h l = absurd (omega arith)
  row_carries (wrote c) entries n d h l = carried_at (cells c) entries n d h.1 l
  row_carries (refused r) entries n d h l = absurd (omega arith)
  row_carries (taker_refused r c) entries n d h l = carried_at (cells c) entries n d h.1 l
  row_carries no_such entries n d h l = absurd (omega arith)

  sent_reads : (past : List (Outcome S O)) (b : Book V) → AllZip Told past b.entries → (sent : List (Sent S)) → AllByRecursion (Stands K past) sent
      → AllZip Reads (sent_cells sent) (map (λ s. placed b s.from) sent)
  sent_reads past b h [] e = tt
  sent_reads past b h (s ∷ sent) e =
      let p = e.0.place in
      let carried = row_carries (get_or past p.turn no_such) (get_or b.entries p.turn []) p.row s.cell
      (each_get_d Told past b.entries p.turn no_such [] (tt, tt) h) e.0.there in
      (subst (λ from. K.Alike (read K s.cell) (joined K (placed b from))) (sym e.0.said) (L.alike_trans _ _ _ e.0.as_written carried), sent_reads past b h sent e.1)

  each_bags : (rows : List (Cell S)) (entries : List (Entry V)) → AllZip CarriesEntry rows entries → AllZip Reads rows (bags_of entries)
  each_bags [] [] e = tt
  each_bags [] (n ∷ ns) e = absurd e
  each_bags (r ∷ rs) [] e = absurd e
  each_bags (r ∷ rs) (n ∷ ns) e = (e.0, each_bags rs ns e.1)

  -- ── turns ──
  keeps_noted : (ts ts' : List (Means K)) (past : List (Outcome S O)) (o : Outcome S O) (b : Book V) (left : List (Account V)) (entries : List (Entry V))
      → Inv ts past b → AllZip Fair ts' left → Told o entries → Inv ts' (past ++ o ∷ []) (noted b left entries)
  keeps_noted ts ts' past o b left entries i f t = record { fair = f; told = each_append Told past b.entries (o ∷ []) (entries ∷ []) i.told (t, tt) }

  no_account : Fair (fresh K (record { rows = 0; groups = 0; pairs = 0 })) (record { next = 0; groups = [] })
  no_account = record { alike = tt; visible = λ f. tt }

  module _ (l : Layouts S O) where
    abbrev Kept : List (Outcome S O) → Book V → Turn V S → Step K l → Type 0
    Kept past b t s = Inv s.0 (past ++ s.1 ∷ []) (booked b t (verdict s.1))

    fair_at : (ts : List (Means K)) (left : List (Account V)) (i : ℕ) → AllZip Fair ts left → Fair (at K l ts i) (account left i)
    fair_at ts left i h = each_get_d Fair ts left i (nobody K l) (record { next = 0; groups = [] }) no_account h

    keeps_ruled : (r : Option Refusal) (ts : List (Means K)) (past : List (Outcome S O)) (b : Book V) (t : Turn V S) (s : Step K l) → Inv ts past b
        → (r ≡ None → Kept past b t s) → Kept past b t (ruled K l r ts s)
    keeps_ruled None ts past b t s i h = h refl
    keeps_ruled (Some r) ts past b t s i h = keeps_noted ts ts past (refused r) b b.accounts [] i i.fair (tt, tt)

    taken_over_keeps : (ts : List (Means K)) (past : List (Outcome S O)) (b : Book V) (i j : ℕ) (e : EmitTo) (room : Room) (gs : List ℕ) (total : ℕ) → Inv ts past b
        → count_of e (length (at K l ts i).credits) ≤ length (at K l ts i).credits
        → (r : Option Refusal) → merge_refusal K (at K l ts j) (cells (peeked K (at K l ts i) e)) gs total ≡ r
        → let c = peeked K (at K l ts i) e in
        let merging = set ts j (merged K (at K l ts j) (cells c) gs total) in
        Kept past b (hand_over i j e room gs total) (taken_over K l r ts c (set merging i (removed K (at K l merging i) e)))
    taken_over_keeps ts past b i j e room gs total h w None ok =
        let m = at K l ts i in
        let c = peeked K m e in
        let given = front i (account b.accounts i) e in
        let giver = account b.accounts i in
        let taker = account b.accounts j in
        let carried = peek_carries m i giver e w (fair_at ts b.accounts i h.fair) in
        let after = merged K (at K l ts j) (cells c) gs total in
        let taker' = grown taker total (bags_at (bags_of given) gs) in
        let merging = set ts j after in
        let merging' = set b.accounts j taker' in
        let read_as : AllZip Reads (cells c) (bags_of given) = each_bags (cells c) given carried in
        let mid = each_set Fair ts b.accounts j after taker' (merge_fair (at K l ts j) taker (cells c) (bags_of given) gs total ok read_as (fair_at ts b.accounts j h.fair)) h.fair in
        keeps_noted ts (set merging i (removed K (at K l merging i) e)) past (wrote c) b (set merging' i (without (account merging' i) e)) given h
        (each_set Fair merging merging' i (removed K (at K l merging i) e) (without (account merging' i) e) (removed_fair (at K l merging i) (account merging' i) e (fair_at merging merging' i mid)) mid)
        (tt, carried)
    taken_over_keeps ts past b i j e room gs total h w (Some r) ok =
        keeps_noted ts ts past (taker_refused r (peeked K (at K l ts i) e)) b b.accounts (front i (account b.accounts i) e) h h.fair
        (tt, peek_carries (at K l ts i) i (account b.accounts i) e w (fair_at ts b.accounts i h.fair))

    pub called_keeps : (ts : List (Means K)) (past : List (Outcome S O)) (b : Book V) (t : Turn V S) → Inv ts past b → MergeStands K past t (verdict (called K l ts t).1) → Kept past b t (called K l ts t)
    called_keeps ts past b (update i rows filter gs total) h w =
        let m = at K l ts i in
        let a = account b.accounts i in
        let after = updated K m rows filter gs total in
        let a' = grown a total (rows_at rows filter gs) in
        keeps_ruled (update_refusal K m rows filter gs total) ts past b (update i rows filter gs total) (set ts i after, done) h
        (λ ok. keeps_noted ts (set ts i after) past done b (set b.accounts i a') [] h
        (each_set Fair ts b.accounts i after a' (update_fair m a rows filter gs total ok (fair_at ts b.accounts i h.fair)) h.fair) (tt, tt))
    called_keeps ts past b (merge i sent gs total) h w =
        let m = at K l ts i in
        let a = account b.accounts i in
        let after = merged K m (sent_cells sent) gs total in
        let bags = map (λ s. placed b s.from) sent in
        let a' = grown a total (bags_at bags gs) in
        keeps_ruled (merge_refusal K m (sent_cells sent) gs total) ts past b (merge i sent gs total) (set ts i after, done) h
        (λ ok. keeps_noted ts (set ts i after) past done b (set b.accounts i a') [] h
        (each_set Fair ts b.accounts i after a'
        (merge_fair m a (sent_cells sent) bags gs total ok
        (sent_reads past b h.told sent (subst (λ r. MergeStands K past (merge i sent gs total) (verdict (ruled K l r ts (set ts i after, done)).1)) ok w))
        (fair_at ts b.accounts i h.fair)) h.fair) (tt, tt))
    called_keeps ts past b (convert i rows filter room) h w =
        let entries = listed (length rows) (λ j. record { group = None; bag = row_bag rows filter j }) in
        keeps_ruled (convert_refusal K l.states (at K l ts i) rows filter room) ts past b (convert i rows filter room) (ts, wrote (converted K rows filter)) h
        (λ ok. keeps_noted ts ts past (wrote (converted K rows filter)) b b.accounts entries h h.fair (tt, converted_carries rows filter))
    called_keeps ts past b (evaluate i e room) h w =
        let m = at K l ts i in
        let a = account b.accounts i in
        let f = fair_at ts b.accounts i h.fair in
        keeps_ruled (evaluate_refusal K l.shown m e room) ts past b (evaluate i e room) (set ts i (removed K m e), showed (answer K m e)) h
        (λ ok. keeps_noted ts (set ts i (removed K m e)) past (showed (answer K m e)) b (set b.accounts i (without a e)) (front i a e) h
        (each_set Fair ts b.accounts i (removed K m e) (without a e) (removed_fair m a e f) h.fair)
        (answer_shows m i a e (within e (length m.credits) (short l.shown room (answer K m e)) ok) f, tt))
    called_keeps ts past b (state i e room) h w =
        let m = at K l ts i in
        let a = account b.accounts i in
        let f = fair_at ts b.accounts i h.fair in
        keeps_ruled (peek_refusal K l.states m e room) ts past b (state i e room) (set ts i (removed K m e), wrote (peeked K m e)) h
        (λ ok. keeps_noted ts (set ts i (removed K m e)) past (wrote (peeked K m e)) b (set b.accounts i (without a e)) (front i a e) h
        (each_set Fair ts b.accounts i (removed K m e) (without a e) (removed_fair m a e f) h.fair)
        (tt, peek_carries m i a e (within e (length m.credits) (short l.states room (peeked K m e)) ok) f))
    called_keeps ts past b (peek i e room) h w =
        let m = at K l ts i in
        let a = account b.accounts i in
        keeps_ruled (peek_refusal K l.states m e room) ts past b (peek i e room) (ts, wrote (peeked K m e)) h
        (λ ok. keeps_noted ts ts past (wrote (peeked K m e)) b b.accounts (front i a e) h h.fair
        (tt, peek_carries m i a e (within e (length m.credits) (short l.states room (peeked K m e)) ok) (fair_at ts b.accounts i h.fair)))
    called_keeps ts past b (forget i e) h w =
        let m = at K l ts i in
        let a = account b.accounts i in
        keeps_ruled (forget_refusal K m e) ts past b (forget i e) (set ts i (removed K m e), done) h
        (λ ok. keeps_noted ts (set ts i (removed K m e)) past done b (set b.accounts i (without a e)) [] h
        (each_set Fair ts b.accounts i (removed K m e) (without a e) (removed_fair m a e (fair_at ts b.accounts i h.fair)) h.fair) (tt, tt))
    called_keeps ts past b (hand_over i j e room gs total) h w =
        let m = at K l ts i in
        let c = peeked K m e in
        let merging = set ts j (merged K (at K l ts j) (cells c) gs total) in
        let over = taken_over K l (merge_refusal K (at K l ts j) (cells c) gs total) ts c (set merging i (removed K (at K l merging i) e)) in
        keeps_ruled (peek_refusal K l.states m e room) ts past b (hand_over i j e room gs total) over h
        (λ ok. taken_over_keeps ts past b i j e room gs total h (within e (length m.credits) (short l.states room c) ok) (merge_refusal K (at K l ts j) (cells c) gs total) refl)

    pub step_keeps : (ts : List (Means K)) (past : List (Outcome S O)) (b : Book V) (t : Turn V S) → Inv ts past b → MergeStands K past t (verdict (step K l ts t).1) → Kept past b t (step K l ts t)
    step_keeps ts past b t h w = go (all_below (length ts) (named t)) w
      where
        go : (there : Bool) → MergeStands K past t (verdict (cond there (called K l ts t) (ts, no_such)).1) → Kept past b t (cond there (called K l ts t) (ts, no_such))
        go true w = called_keeps ts past b t h w
        go false w = keeps_noted ts ts past no_such b b.accounts [] h h.fair (tt, tt)
