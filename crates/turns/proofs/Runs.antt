-- The theorem over all turns together.
use Rattle.std.specs.List.{AllZip}
use Rattle.std.proofs.Common.{◌≡◌, ℕ, ◌<◌, List, [], ◌∷◌, ◌++◌, map, length, get_or, None, sym, refl, ap, ◌∙◌, subst, arith}
use Rattle.std.proofs.lemmas.List.{append-nil, append_assoc}
use Rattle.columnar.specs.Cells.{Cell, cells, over}
use Rattle.groups.specs.Kind.{Kind, Laws, Commutes, joined}
use Rattle.groups.specs.Tally.{Means, Limits, fresh}
use Rattle.turns.specs.Turns.{Turn, Outcome, Layouts, step, outcomes, answers}
use Rattle.turns.specs.Turns.Outcome.{done, showed, wrote, refused, taker_refused, no_such}
use Rattle.turns.specs.Book.{Bag, Entry, Group, Book, verdict, booked, booked_all, new_book}
use Rattle.turns.specs.Theorem.{rows_shown, HonestAfter, Honest, InOrder, InAnyOrder, ledger, Closed, Shows, Carries, UpTo, Showing, Writing, RunsHold}
use Rattle.turns.proofs.Division.{joined_perm}
use Rattle.turns.proofs.Eachs.{each_imp, each_maps, each_get_d, each_at}
use Rattle.turns.proofs.Invariant.{Inv, Fair, Told, ShowsEntry, CarriesEntry, step_keeps}
use Rattle.turns.proofs.Unseen.{outcomes_same}

module _ {V S O : Type 0} (K : Kind V S O) (L : Laws K) where
  run_keeps : (l : Layouts S O) (turns : List (Turn V S)) (ts : List (Means K)) (past : List (Outcome S O)) (b : Book V) → Inv K L ts past b → HonestAfter K past turns (outcomes K l ts turns)
      → AllZip (Told K L) (past ++ outcomes K l ts turns) (booked_all b turns (map verdict (outcomes K l ts turns))).entries
  run_keeps l [] ts past b i h = subst (λ os. AllZip (Told K L) os b.entries) (sym (append-nil past)) i.told
  run_keeps l (t ∷ turns) ts past b i h =
      let o = (step K l ts t).1 in
      let ts' = (step K l ts t).0 in
      subst (λ os. AllZip (Told K L) os (booked_all (booked b t (verdict o)) turns (map verdict (outcomes K l ts' turns))).entries) (append_assoc past (o ∷ []) (outcomes K l ts' turns))
      (run_keeps l turns ts' (past ++ o ∷ []) (booked b t (verdict o)) (step_keeps K L l ts past b t i h.0) h.1)

  start : (ls : List Limits) → Inv K L (map (fresh K) ls) [] (new_book ls)
  start ls = record { fair = each_maps (Fair K L) (fresh K) (λ x. record { next = 0; groups = [] }) (λ x. record { alike = tt; visible = λ f. tt }) ls; told = tt }

  -- each turn tells its entries' bags in the order of crediting: no commuting is used
  told : (l : Layouts S O) (ls : List Limits) (turns : List (Turn V S)) (os : List (Outcome S O)) → os ≡ answers K l ls turns → Honest K turns os → AllZip (Told K L) os (ledger ls turns os)
  told l ls turns os e =
      subst (λ os. Honest K turns os → AllZip (Told K L) os (ledger ls turns os)) (sym e) (run_keeps l turns (map (fresh K) ls) [] (new_book ls) (start ls))

  shown_at : (o : Outcome S O) (entries : List (Entry V)) (n : ℕ) (row : Cell O) (d : Entry V) → Told K L o entries → n < length (rows_shown o) → Shows K (get_or (rows_shown o) n row) (get_or entries n d).bag
  shown_at done entries n row d h l = absurd (omega arith)
  shown_at (showed c) entries n row d h l = each_at (ShowsEntry K L) (cells c) entries n row d l h.0
  shown_at (wrote c) entries n row d h l = absurd (omega arith)
  shown_at (refused r) entries n row d h l = absurd (omega arith)
  shown_at (taker_refused r c) entries n row d h l = absurd (omega arith)
  shown_at no_such entries n row d h l = absurd (omega arith)

  closed_shows : (ls : List Limits) (turns : List (Turn V S)) (os : List (Outcome S O)) → AllZip (Told K L) os (ledger ls turns os)
      → (g : Group) (row : Cell O) (bag : Bag V) → Closed ls turns os g row bag → Shows K row bag
  closed_shows ls turns os t g row bag c =
      let none : Entry V = record { group = None; bag = [] } in
      let shown = shown_at (get_or os c.turn no_such) (get_or (ledger ls turns os) c.turn []) c.place row none (each_get_d (Told K L) os (ledger ls turns os) c.turn no_such [] (tt, tt) t) c.there in
      sym c.row_is ∙ shown ∙ ap (λ (n : Entry V). over K.filler (K.shown (joined K n.bag))) c.entry_is

  -- over any meaning of "the same rows" that the join respects
  module _ (Same : Bag V → Bag V → Type 0) (respects : (a b : Bag V) → Same a b → K.Alike (joined K a) (joined K b)) where
    showing : (o : Outcome S O) (entries : List (Entry V)) → Told K L o entries → Showing K (UpTo K Same (Shows K)) o entries
    showing done entries h = tt
    showing (showed c) entries h =
        each_imp (ShowsEntry K L) (UpTo K Same (Shows K)) (λ row n q rows s. q ∙ ap (over K.filler) (L.shows _ _ (respects n.bag rows s))) (cells c) entries h.0
    showing (wrote c) entries h = tt
    showing (refused r) entries h = tt
    showing (taker_refused r c) entries h = tt
    showing no_such entries h = tt

    carrying : (rows : List (Cell S)) (entries : List (Entry V)) → AllZip (CarriesEntry K L) rows entries → AllZip (UpTo K Same (Carries K)) rows entries
    carrying rows entries h = each_imp (CarriesEntry K L) (UpTo K Same (Carries K)) (λ row n q rows s. L.alike_trans _ _ _ q (respects n.bag rows s)) rows entries h

    writing : (o : Outcome S O) (entries : List (Entry V)) → Told K L o entries → Writing K (UpTo K Same (Carries K)) o entries
    writing done entries h = tt
    writing (showed c) entries h = tt
    writing (wrote c) entries h = carrying (cells c) entries h.1
    writing (refused r) entries h = tt
    writing (taker_refused r c) entries h = carrying (cells c) entries h.1
    writing no_such entries h = tt

    pub promised : RunsHold K Same
    promised l ls turns os e =
        record {
          answered = e;
          shows = λ h. each_imp (Told K L) (Showing K (UpTo K Same (Shows K))) showing os (ledger ls turns os) (told l ls turns os e h);
          carries = λ h. each_imp (Told K L) (Writing K (UpTo K Same (Carries K))) writing os (ledger ls turns os) (told l ls turns os e h);
          divides = λ h l' ls' turns' h' g g' row row' bag bag' c c' s.
              closed_shows ls turns os (told l ls turns os e h) g row bag c
              ∙ ap (over K.filler) (L.shows _ _ (respects bag bag' s))
              ∙ sym (closed_shows ls' turns' (answers K l' ls' turns') (told l' ls' turns' (answers K l' ls' turns') refl h') g' row' bag' c');
          hides = λ turns' a. sym (outcomes_same K l turns turns' (map (fresh K) ls) a) ∙ sym e;
        }

  pub in_order : RunsHold K InOrder
  in_order = promised InOrder (λ a b e. subst (λ x. K.Alike (joined K a) (joined K x)) e (L.alike_refl _))

  pub in_any_order : Commutes K → RunsHold K InAnyOrder
  in_any_order comm = promised InAnyOrder (λ a b p. joined_perm K L comm p)
