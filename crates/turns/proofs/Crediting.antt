-- The book's words by row numbers and places, against the calls' by lists.
use Rattle.std.proofs.Common.{◌≡◌, ℕ, zero, suc, ◌+◌, ◌-◌, ◌<◌, ◌≤◌, Bool, true, false, cond, ◌&&◌, eqb, ◌⊎◌, List, [], ◌∷◌, ◌++◌, map, length, get_or, take, drop, replicate, Some, None, Option, sym, refl, ap, ◌∙◌, subst, inl, inr, arith, length-append, length-drop}
use lib.ListN.{length-replicate, length-map, get_or-map}
use Rattle.std.proofs.lemmas.List.{get_or-drop, get_or-take, length-take-le, append-nil, append_assoc}
use Rattle.std.proofs.lemmas.Bool.{cases_eq, eq-eqb, ne_eqb, cond-true, cond-false}
use Rattle.std.specs.Prelude.{zip}
use Rattle.columnar.specs.Cells.{Cell, Ticks, seen}
use Rattle.groups.specs.declared.emit.EmitTo.{EmitTo}
use Rattle.groups.specs.declared.emit.EmitTo.TheVariants.{All, First}
use Rattle.groups.specs.Emits.{taken, others, count_of}
use Rattle.groups.specs.Lists.{change, deal}
use Rattle.groups.specs.Tally.{row_entries}
use Rattle.turns.specs.Lists.{listed}
use Rattle.turns.specs.Book.{Bag, Open, Account, Entry, rows_at, bags_at, kept, open_at, grown, front, without, bags_of}
use Rattle.turns.proofs.Deals.{length_deal, change_same, change_other}

-- ── lists made by places ─────────────────────────────────────────────────
pub listed_from : {A : Type 0} (xs : List A) (n : ℕ) (f : ℕ → A) (d : A) → length xs ≡ n → ((k : ℕ) → k < n → get_or xs k d ≡ f k) → xs ≡ listed n f
listed_from [] zero f d e h = refl
listed_from [] (suc n) f d e h = absurd (omega arith)
listed_from (x ∷ xs) zero f d e h = absurd (omega arith)
listed_from (x ∷ xs) (suc n) f d e h = λ i. h 0 (omega arith) i ∷ listed_from xs n (λ k. f (suc k)) d (omega arith) (λ k l. h (suc k) (omega arith)) i

pub map_listed : {A B : Type 0} (g : A → B) (n : ℕ) (f : ℕ → A) → map g (listed n f) ≡ listed n (λ k. g (f k))
map_listed g zero f = refl
map_listed g (suc n) f = ap (λ xs. g (f zero) ∷ xs) (map_listed g n (λ k. f (suc k)))

listed_same : {A : Type 0} (n : ℕ) (f g : ℕ → A) → ((k : ℕ) → f k ≡ g k) → listed n f ≡ listed n g
listed_same zero f g h = refl
listed_same (suc n) f g h = λ i. h 0 i ∷ listed_same n (λ k. f (suc k)) (λ k. g (suc k)) (λ k. h (suc k)) i

get_d_blank : {A : Type 0} (n k : ℕ) (d : A) → get_or (replicate n d) k d ≡ d
get_d_blank zero k d = refl
get_d_blank (suc n) zero d = refl
get_d_blank (suc n) (suc k) d = get_d_blank n k d

-- blanks at the end are read like nothing at all
get_d_more : {A : Type 0} (xs : List A) (n k : ℕ) (d : A) → get_or (xs ++ replicate n d) k d ≡ get_or xs k d
get_d_more [] n k d = get_d_blank n k d
get_d_more (x ∷ xs) n zero d = refl
get_d_more (x ∷ xs) n (suc k) d = get_d_more xs n k d

-- ── what a place is dealt ────────────────────────────────────────────────
module _ {V X : Type 0} (h : X → Bag V) where
  abbrev pub mine : ℕ → List (ℕ × X) → Bag V
  mine g [] = []
  mine g (e ∷ es) = cond (eqb e.0 g) (h e.1) [] ++ mine g es

  abbrev pub add_to : Bag V → X → Bag V
  add_to b x = b ++ h x

  deal_mine : (es : List (ℕ × X)) (xs : List (Bag V)) (g : ℕ) → g < length xs → get_or (deal add_to es xs) g [] ≡ get_or xs g [] ++ mine g es
  deal_mine [] xs g l = sym (append-nil (get_or xs g []))
  deal_mine (e ∷ es) xs g l =
      let next = change (λ b. add_to b e.1) e.0 xs in
      deal_mine es next g (subst (λ n. g < n) (sym (length_deal add_to (e ∷ []) xs)) l) ∙ go (cases_eq e.0 g)
    where
      go : (e.0 ≡ g) ⊎ (e.0 ≡ g → ⊥) → get_or (change (λ b. add_to b e.1) e.0 xs) g [] ++ mine g es ≡ get_or xs g [] ++ (cond (eqb e.0 g) (h e.1) [] ++ mine g es)
      go (inl q) =
          ap (λ b. b ++ mine g es) (ap (λ n. get_or (change (λ b. add_to b e.1) n xs) g []) q ∙ change_same (λ b. add_to b e.1) g xs [] l)
          ∙ append_assoc (get_or xs g []) (h e.1) (mine g es)
          ∙ ap (λ b. get_or xs g [] ++ (b ++ mine g es)) (sym (cond-true (eqb e.0 g) (h e.1) [] (eq-eqb e.0 g q)))
      go (inr ne) =
          ap (λ b. b ++ mine g es) (change_other (λ b. add_to b e.1) e.0 g xs [] (λ q. ne (sym q)))
          ∙ ap (λ b. get_or xs g [] ++ (b ++ mine g es)) (sym (cond-false (eqb e.0 g) (h e.1) [] (ne_eqb e.0 g ne)))

  abbrev no_rows : Bag V
  no_rows = []

  dealt_length : (bs : List (Bag V)) (es : List (ℕ × X)) (total : ℕ) → length bs ≤ total → length (deal add_to es (bs ++ replicate (total - length bs) [])) ≡ total
  dealt_length bs es total l =
      length_deal add_to es (bs ++ replicate (total - length bs) [])
      ∙ length-append bs (replicate (total - length bs) [])
      ∙ ap (λ n. length bs + n) (length-replicate (total - length bs) no_rows)
      ∙ omega arith

  pub dealt_listed : (bs : List (Bag V)) (es : List (ℕ × X)) (total : ℕ) → length bs ≤ total
      → deal add_to es (bs ++ replicate (total - length bs) []) ≡ listed total (λ g. get_or bs g [] ++ mine g es)
  dealt_listed bs es total l =
      let opened = bs ++ replicate (total - length bs) [] in
      listed_from (deal add_to es opened) total (λ g. get_or bs g [] ++ mine g es) [] (dealt_length bs es total l)
      (λ g below.
      deal_mine es opened g (subst (λ n. g < n) (sym (dealt_length bs es total l) ∙ length_deal add_to es opened) below)
      ∙ ap (λ b. b ++ mine g es) (get_d_more bs (total - length bs) g []))

module _ {V : Type 0} where
  abbrev pub alone : Option V → Bag V
  alone r = r ∷ []

  abbrev pub whole : Bag V → Bag V
  whole b = b

  nothing_added : (b : Bool) (more : Bag V) → cond b [] [] ++ more ≡ more
  nothing_added true more = refl
  nothing_added false more = refl

  one_row : (p : Bool) (g k : ℕ) (r : Option V) (rest : List (ℕ × Option V)) (more : Bag V) → mine alone g rest ≡ more
      → mine alone g (cond p ((k, r) ∷ rest) rest) ≡ cond (eqb k g) (cond p (r ∷ []) []) [] ++ more
  one_row true g k r rest more e = ap (λ b. cond (eqb k g) (r ∷ []) [] ++ b) e
  one_row false g k r rest more e = e ∙ sym (nothing_added (eqb k g) more)

  -- the rows of a batch that go to place g, by their numbers
  pub rows_mine : (rows : List (Cell V)) (filter : Ticks) (gs : List ℕ) (g : ℕ) → length rows ≡ length gs → mine alone g (row_entries rows filter gs) ≡ rows_at rows filter gs g
  rows_mine [] None gs g e = refl
  rows_mine [] (Some ts) gs g e = refl
  rows_mine (r ∷ rs) filter [] g e = absurd (omega arith)
  rows_mine (r ∷ rs) None (k ∷ gs) g e = one_row true g k (seen r) _ _ (rows_mine rs None gs g (omega arith))
  rows_mine (r ∷ rs) (Some []) (k ∷ gs) g e = one_row false g k (seen r) _ _ (rows_mine rs (Some []) gs g (omega arith))
  rows_mine (r ∷ rs) (Some (t ∷ ts)) (k ∷ gs) g e = one_row (t.valid && t.figure) g k (seen r) _ _ (rows_mine rs (Some ts) gs g (omega arith))

  -- and the bags of a merge
  pub bags_mine : (bags : List (Bag V)) (gs : List ℕ) (g : ℕ) → length bags ≡ length gs → mine whole g (zip gs bags) ≡ bags_at bags gs g
  bags_mine [] [] g e = refl
  bags_mine [] (k ∷ gs) g e = absurd (omega arith)
  bags_mine (b ∷ bags) [] g e = absurd (omega arith)
  bags_mine (b ∷ bags) (k ∷ gs) g e = ap (λ more. cond (eqb k g) b [] ++ more) (bags_mine bags gs g (omega arith))

  -- ── accounts ──
  abbrev pub bags_in : Account V → List (Bag V)
  bags_in a = map (λ o. o.bag) a.groups

  pub kept_bags : (a : Account V) → length (bags_in a) ≡ kept a
  kept_bags a = length-map a.groups (λ o. o.bag)

  bag_at : (a : Account V) (g : ℕ) → get_or (bags_in a) g [] ≡ (open_at a g).bag
  bag_at a g = get_or-map (λ (o : Open V). o.bag) a.groups g (record { opening = a.next + (g - kept a); bag = [] })

  pub grown_bags : {X : Type 0} (h : X → Bag V) (a : Account V) (es : List (ℕ × X)) (total : ℕ) (add : ℕ → Bag V) → kept a ≤ total → ((g : ℕ) → mine h g es ≡ add g)
      → deal (add_to h) es (bags_in a ++ replicate (total - length (bags_in a)) []) ≡ bags_in (grown a total add)
  grown_bags h a es total add l m =
      dealt_listed h (bags_in a) es total (subst (λ n. n ≤ total) (sym (kept_bags a)) l)
      ∙ listed_same total (λ g. get_or (bags_in a) g [] ++ mine h g es) (λ g. (open_at a g).bag ++ add g) (λ g i. bag_at a g i ++ m g i)
      ∙ sym (map_listed (λ (o : Open V). o.bag) total (λ g. record { opening = (open_at a g).opening; bag = (open_at a g).bag ++ add g }))

  pub front_bags : (i : ℕ) (a : Account V) (e : EmitTo) → count_of e (kept a) ≤ kept a → taken e (bags_in a) ≡ bags_of (front i a e)
  front_bags i a e l = go e l ∙ sym (map_listed (λ (n : Entry V). n.bag) (count_of e (kept a)) _)
    where
      go : (e : EmitTo) → count_of e (kept a) ≤ kept a → taken e (bags_in a) ≡ listed (count_of e (kept a)) (λ g. (open_at a g).bag)
      go All l = listed_from (bags_in a) (kept a) (λ g. (open_at a g).bag) [] (kept_bags a) (λ k below. bag_at a k)
      go (First n) l =
          listed_from (take n (bags_in a)) n (λ g. (open_at a g).bag) [] (length-take-le n (bags_in a) (subst (λ m. n ≤ m) (sym (kept_bags a)) l))
          (λ k below. get_or-take n (bags_in a) k [] below ∙ bag_at a k)

  pub without_bags : (a : Account V) (e : EmitTo) → others e (bags_in a) ≡ bags_in (without a e)
  without_bags a e = go e ∙ sym (map_listed (λ (o : Open V). o.bag) (kept a - count_of e (kept a)) (λ g. open_at a (count_of e (kept a) + g)))
    where
      go : (e : EmitTo) → others e (bags_in a) ≡ listed (kept a - count_of e (kept a)) (λ g. (open_at a (count_of e (kept a) + g)).bag)
      go All = ap (λ n. listed n (λ g. (open_at a (kept a + g)).bag)) (none_left (kept a))
        where
          none_left : (n : ℕ) → 0 ≡ n - n
          none_left n = omega arith
      go (First n) =
          listed_from (drop n (bags_in a)) (kept a - n) (λ g. (open_at a (n + g)).bag) [] (length-drop n (bags_in a) ∙ ap (λ m. m - n) (kept_bags a))
          (λ k below. get_or-drop n (bags_in a) k [] ∙ bag_at a (n + k))
