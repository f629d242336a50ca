-- Rows under a filter, by row number and as the column that they make.
use Rattle.std.proofs.Common.{◌≡◌, ℕ, zero, suc, ◌<◌, ◌≤◌, Bool, true, false, cond, ◌&&◌, List, [], ◌∷◌, map, length, get_or, take, is_some, Some, None, Option, unwrap_or, sym, refl, ap, ◌∙◌, arith}
use Rattle.std.specs.List.{slice_get}
use Rattle.std.specs.Option.{option_map}
use Rattle.std.proofs.lemmas.List.{length-map, get_or-map, take_all}
use Rattle.columnar.specs.Cells.{Cell, Ticks, seen, over, all_pass, ticked, passes, admitted_rows, kept_rows}
use Rattle.buffers.specs.Memory.{flat_column}

length_ticked : (ts : List (Cell Bool)) (n : ℕ) → length (ticked ts n) ≡ n
length_ticked ts zero = refl
length_ticked [] (suc n) = ap suc (length_ticked [] n)
length_ticked (t ∷ ts) (suc n) = ap suc (length_ticked ts n)

length_all : (n : ℕ) → length (all_pass n) ≡ n
length_all zero = refl
length_all (suc n) = ap suc (length_all n)

length_passes : (ts : Ticks) (n : ℕ) → length (passes ts n) ≡ n
length_passes None n = length_all n
length_passes (Some ts) n = length_ticked ts n

ticked_at : (ts : List (Cell Bool)) (n j : ℕ) → j < n → get_or (ticked ts n) j false ≡ unwrap_or (option_map (λ (t : Cell Bool). t.valid && t.figure) (slice_get ts j)) false
ticked_at ts zero j h = absurd (omega arith)
ticked_at [] (suc n) zero h = refl
ticked_at [] (suc n) (suc j) h = ticked_at [] n j (omega arith)
ticked_at (t ∷ ts) (suc n) zero h = refl
ticked_at (t ∷ ts) (suc n) (suc j) h = ticked_at ts n j (omega arith)

all_at : (n j : ℕ) → j < n → get_or (all_pass n) j false ≡ true
all_at zero j h = absurd (omega arith)
all_at (suc n) zero h = refl
all_at (suc n) (suc j) h = all_at n j (omega arith)

passes_at : (ts : Ticks) (n j : ℕ) → j < n → get_or (passes ts n) j false ≡ unwrap_or (unwrap_or (option_map (λ ts. option_map (λ (t : Cell Bool). t.valid && t.figure) (slice_get ts j)) ts) (Some true)) false
passes_at None n j h = all_at n j h
passes_at (Some ts) n j h = ticked_at ts n j h

-- what a filter says of a row, and no more past its end
pub lets : (ts : Ticks) (n j : ℕ) (said : Option Bool) (b : Bool) → j < n → said ≡ unwrap_or (option_map (λ ts. option_map (λ (t : Cell Bool). t.valid && t.figure) (slice_get ts j)) ts) (Some true) → b ≡ unwrap_or said false → get_or (passes ts n) j false ≡ b
lets ts n j said b h is e = passes_at ts n j h ∙ ap (λ o. unwrap_or o false) (sym is) ∙ sym e

pub admitted_no : {X : Type 0} (ps : List Bool) (cs : List (Cell X)) (j : ℕ) → get_or ps j false ≡ false → None ≡ get_or (admitted_rows ps cs) j None
admitted_no [] cs j e = refl
admitted_no (p ∷ ps) [] j e = refl
admitted_no (p ∷ ps) (c ∷ cs) zero e = ap (λ b. cond b (seen c) None) (sym e)
admitted_no (p ∷ ps) (c ∷ cs) (suc j) e = admitted_no ps cs j e

pub admitted_yes : {X : Type 0} (ps : List Bool) (cs : List (Cell X)) (j : ℕ) (o : Option X) → get_or ps j false ≡ true → Some o ≡ option_map seen (slice_get cs j) → o ≡ get_or (admitted_rows ps cs) j None
admitted_yes [] cs j o e is = let z : ◌≡◌ {A = ℕ} 0 1 = cc in absurd (omega arith)
admitted_yes (p ∷ ps) [] j o e is = let z : ◌≡◌ {A = ℕ} 0 1 = cc in absurd (omega arith)
admitted_yes (p ∷ ps) (c ∷ cs) zero o e is = let same : o ≡ seen c = cc in same ∙ ap (λ b. cond b (seen c) None) (sym e)
admitted_yes (p ∷ ps) (c ∷ cs) (suc j) o e is = admitted_yes ps cs j o e is

length_admitted : {X : Type 0} (ps : List Bool) (cs : List (Cell X)) → length ps ≡ length cs → length (admitted_rows ps cs) ≡ length cs
length_admitted [] [] e = refl
length_admitted [] (c ∷ cs) e = absurd (omega arith)
length_admitted (p ∷ ps) [] e = refl
length_admitted (p ∷ ps) (c ∷ cs) e = ap suc (length_admitted ps cs (omega arith))

-- as many as there are rows, whatever is made of each
pub length_kept : {X Y : Type 0} (f : Option X → Y) (ts : Ticks) (cs : List (Cell X)) → length (map f (admitted_rows (passes ts (length cs)) cs)) ≡ length cs
length_kept f ts cs =
    length-map (admitted_rows (passes ts (length cs)) cs) f ∙ length_admitted (passes ts (length cs)) cs (length_passes ts (length cs))

pub made_at : {X Y : Type 0} (f : Option X → Y) (os : List (Option X)) (j : ℕ) (o : Option X) (y : Y) → j < length (map f os) → o ≡ get_or os j None → y ≡ f o → y ≡ get_or (map f os) j y
made_at f os j o y h is e =
    let l : j < length os = simp length-map at h in
    e ∙ ap f is ∙ sym (get_or-map f os j None y l)

pub filled : {X : Type 0} (filler : X) (o : Option X) → unwrap_or o filler ≡ (over filler o).figure
filled filler None = refl
filled filler (Some x) = refl

pub kept_is : {X : Type 0} (filler : X) (ts : Ticks) (cs : List (Cell X)) (n : ℕ) → n ≡ length cs → flat_column (map (λ o. (over filler o).figure) (admitted_rows (passes ts (length cs)) cs)) (map is_some (admitted_rows (passes ts (length cs)) cs)) n true ≡ kept_rows filler (passes ts (length cs)) cs
kept_is {X} filler ts cs n e =
    let figure : Option X → X = λ o. (over filler o).figure in
    let os = admitted_rows (passes ts (length cs)) cs in
    let ends : length (map figure os) ≤ n = omega (arith, length_kept figure ts cs) in
    let marks-end : length (map is_some os) ≤ n = omega (arith, length_kept is_some ts cs) in
    ap (λ xs. record { mask = Some (take n (map is_some os)); figures = xs }) (take_all n (map figure os) ends)
    ∙ ap (λ bs. record { mask = Some bs; figures = map figure os }) (take_all n (map is_some os) marks-end)
