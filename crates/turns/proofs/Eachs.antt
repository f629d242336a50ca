-- Lists related place by place.
use Rattle.std.proofs.Common.{◌≡◌, ℕ, zero, suc, ◌<◌, List, [], ◌∷◌, ◌++◌, map, length, get_or, take, drop, set, replicate, sym, refl, subst, arith}
use Rattle.groups.specs.declared.emit.EmitTo.{EmitTo}
use Rattle.groups.specs.declared.emit.EmitTo.TheVariants.{All, First}
use Rattle.groups.specs.Lists.{change, deal}
use Rattle.groups.specs.Emits.{taken, others}
use Rattle.std.specs.List.{AllByRecursion, AllZip, zip}
use Rattle.std.proofs.lemmas.Slice.Zip.{AllZip-long}
use Rattle.std.proofs.ByRecursion.{All-take, All-drop, All-weaker, All-map}

module _ {A B : Type 0} (R : A → B → Type 0) where
  pub each_length : (xs : List A) (ys : List B) → AllZip R xs ys → length xs ≡ length ys
  each_length xs ys e = sym (AllZip-long R xs ys e)

  pub each_append : (xs : List A) (ys : List B) (us : List A) (vs : List B) → AllZip R xs ys → AllZip R us vs → AllZip R (xs ++ us) (ys ++ vs)
  each_append [] [] us vs e f = f
  each_append [] (y ∷ ys) us vs e f = absurd e
  each_append (x ∷ xs) [] us vs e f = absurd e
  each_append (x ∷ xs) (y ∷ ys) us vs e f = (e.0, each_append xs ys us vs e.1 f)

  pub each_replicate : (n : ℕ) (a : A) (b : B) → R a b → AllZip R (replicate n a) (replicate n b)
  each_replicate zero a b r = tt
  each_replicate (suc n) a b r = (r, each_replicate n a b r)

  pub each_get_d : (xs : List A) (ys : List B) (n : ℕ) (a : A) (b : B) → R a b → AllZip R xs ys → R (get_or xs n a) (get_or ys n b)
  each_get_d [] [] n a b r e = r
  each_get_d [] (y ∷ ys) n a b r e = absurd e
  each_get_d (x ∷ xs) [] n a b r e = absurd e
  each_get_d (x ∷ xs) (y ∷ ys) zero a b r e = e.0
  each_get_d (x ∷ xs) (y ∷ ys) (suc n) a b r e = each_get_d xs ys n a b r e.1

  -- within the lists no default is asked about
  pub each_at : (xs : List A) (ys : List B) (n : ℕ) (a : A) (b : B) → n < length xs → AllZip R xs ys → R (get_or xs n a) (get_or ys n b)
  each_at [] [] n a b r e = absurd (omega arith)
  each_at [] (y ∷ ys) n a b r e = absurd e
  each_at (x ∷ xs) [] n a b r e = absurd e
  each_at (x ∷ xs) (y ∷ ys) zero a b r e = e.0
  each_at (x ∷ xs) (y ∷ ys) (suc n) a b r e = each_at xs ys n a b (omega arith) e.1

  pub each_set : (xs : List A) (ys : List B) (n : ℕ) (a : A) (b : B) → R a b → AllZip R xs ys → AllZip R (set xs n a) (set ys n b)
  each_set [] [] n a b r e = tt
  each_set [] (y ∷ ys) n a b r e = absurd e
  each_set (x ∷ xs) [] n a b r e = absurd e
  each_set (x ∷ xs) (y ∷ ys) zero a b r e = (r, e.1)
  each_set (x ∷ xs) (y ∷ ys) (suc n) a b r e = (e.0, each_set xs ys n a b r e.1)

  each_take : (n : ℕ) (xs : List A) (ys : List B) → AllZip R xs ys → AllZip R (take n xs) (take n ys)
  each_take zero xs ys e = tt
  each_take (suc n) [] [] e = tt
  each_take (suc n) [] (y ∷ ys) e = absurd e
  each_take (suc n) (x ∷ xs) [] e = absurd e
  each_take (suc n) (x ∷ xs) (y ∷ ys) e = (e.0, each_take n xs ys e.1)

  each_drop : (n : ℕ) (xs : List A) (ys : List B) → AllZip R xs ys → AllZip R (drop n xs) (drop n ys)
  each_drop zero xs ys e = e
  each_drop (suc n) [] [] e = tt
  each_drop (suc n) [] (y ∷ ys) e = absurd e
  each_drop (suc n) (x ∷ xs) [] e = absurd e
  each_drop (suc n) (x ∷ xs) (y ∷ ys) e = each_drop n xs ys e.1

  pub each_taken : (e : EmitTo) (xs : List A) (ys : List B) → AllZip R xs ys → AllZip R (taken e xs) (taken e ys)
  each_taken All xs ys r = r
  each_taken (First n) xs ys r = each_take n xs ys r

  pub each_others : (e : EmitTo) (xs : List A) (ys : List B) → AllZip R xs ys → AllZip R (others e xs) (others e ys)
  each_others All xs ys r = tt
  each_others (First n) xs ys r = each_drop n xs ys r

  each_change : (f : A → A) (g : B → B) → ((a : A) (b : B) → R a b → R (f a) (g b)) → (n : ℕ) (xs : List A) (ys : List B) → AllZip R xs ys → AllZip R (change f n xs) (change g n ys)
  each_change f g k n [] [] e = tt
  each_change f g k n [] (y ∷ ys) e = absurd e
  each_change f g k n (x ∷ xs) [] e = absurd e
  each_change f g k zero (x ∷ xs) (y ∷ ys) e = (k x y e.0, e.1)
  each_change f g k (suc n) (x ∷ xs) (y ∷ ys) e = (e.0, each_change f g k n xs ys e.1)

-- entries for the same place, with related contents
abbrev pub Paired : {X Y : Type 0} → (X → Y → Type 0) → ℕ × X → ℕ × Y → Type 0
Paired Q e f = (e.0 ≡ f.0) × Q e.1 f.1

module _ {A B X Y : Type 0} (R : A → B → Type 0) (Q : X → Y → Type 0) (f : A → X → A) (g : B → Y → B)
    (keeps : (a : A) (b : B) (x : X) (y : Y) → R a b → Q x y → R (f a x) (g b y)) where
  pub each_deal : (es : List (ℕ × X)) (fs : List (ℕ × Y)) → AllZip (Paired Q) es fs → (xs : List A) (ys : List B) → AllZip R xs ys → AllZip R (deal f es xs) (deal g fs ys)
  each_deal [] [] q xs ys r = r
  each_deal [] (d ∷ fs) q xs ys r = absurd q
  each_deal (e ∷ es) [] q xs ys r = absurd q
  each_deal (e ∷ es) (d ∷ fs) q xs ys r =
      each_deal es fs q.1 _ _
      (subst (λ n. AllZip R (change (λ a. f a e.1) e.0 xs) (change (λ b. g b d.1) n ys)) q.0.0
      (each_change R (λ a. f a e.1) (λ b. g b d.1) (λ a b h. keeps a b e.1 d.1 h q.0.1) e.0 xs ys r))

pub each_same : {A : Type 0} (R : A → A → Type 0) → ((a : A) → R a a) → (xs : List A) → AllZip R xs xs
each_same R h [] = tt
each_same R h (x ∷ xs) = (h x, each_same R h xs)

pub each_imp : {A B : Type 0} (R Q : A → B → Type 0) → ((a : A) (b : B) → R a b → Q a b) → (xs : List A) (ys : List B) → AllZip R xs ys → AllZip Q xs ys
each_imp R Q h [] [] e = tt
each_imp R Q h [] (y ∷ ys) e = absurd e
each_imp R Q h (x ∷ xs) [] e = absurd e
each_imp R Q h (x ∷ xs) (y ∷ ys) e = (h x y e.0, each_imp R Q h xs ys e.1)

pub each_map : {A B C : Type 0} (R : A → B → Type 0) (Q : C → B → Type 0) (f : A → C) → ((a : A) (b : B) → R a b → Q (f a) b) → (xs : List A) (ys : List B) → AllZip R xs ys → AllZip Q (map f xs) ys
each_map R Q f h [] [] e = tt
each_map R Q f h [] (y ∷ ys) e = absurd e
each_map R Q f h (x ∷ xs) [] e = absurd e
each_map R Q f h (x ∷ xs) (y ∷ ys) e = (h x y e.0, each_map R Q f h xs ys e.1)

-- what is related to the images is related to what they are of
pub each_unmap : {A B C : Type 0} (R : A → C → Type 0) (f : B → C) (xs : List A) (ys : List B) → AllZip R xs (map f ys) → AllZip (λ x y. R x (f y)) xs ys
each_unmap R f [] [] e = tt
each_unmap R f [] (y ∷ ys) e = absurd e
each_unmap R f (x ∷ xs) [] e = absurd e
each_unmap R f (x ∷ xs) (y ∷ ys) e = (e.0, each_unmap R f xs ys e.1)

pub each_maps : {A B C : Type 0} (Q : B → C → Type 0) (f : A → B) (g : A → C) → ((a : A) → Q (f a) (g a)) → (xs : List A) → AllZip Q (map f xs) (map g xs)
each_maps Q f g h [] = tt
each_maps Q f g h (x ∷ xs) = (h x, each_maps Q f g h xs)

pub each_zip : {X Y : Type 0} (Q : X → Y → Type 0) (gs : List ℕ) (xs : List X) (ys : List Y) → AllZip Q xs ys → AllZip (Paired Q) (zip gs xs) (zip gs ys)
each_zip Q [] xs ys e = tt
each_zip Q (g ∷ gs) [] [] e = tt
each_zip Q (g ∷ gs) [] (y ∷ ys) e = absurd e
each_zip Q (g ∷ gs) (x ∷ xs) [] e = absurd e
each_zip Q (g ∷ gs) (x ∷ xs) (y ∷ ys) e = ((refl, e.0), each_zip Q gs xs ys e.1)

pub all_taken : {A : Type 0} (P : A → Type 0) (e : EmitTo) (xs : List A) → AllByRecursion P xs → AllByRecursion P (taken e xs)
all_taken P All xs h = h
all_taken P (First n) xs h = All-take P n xs h

pub all_others : {A : Type 0} (P : A → Type 0) (e : EmitTo) (xs : List A) → AllByRecursion P xs → AllByRecursion P (others e xs)
all_others P All xs h = tt
all_others P (First n) xs h = All-drop P n xs h

pub all_maps : {A B : Type 0} (P : A → Type 0) (Q : B → Type 0) (f : A → B) → ((a : A) → P a → Q (f a)) → (xs : List A) → AllByRecursion P xs → AllByRecursion Q (map f xs)
all_maps P Q f h xs e = All-map Q f xs (All-weaker P (λ x. Q (f x)) h xs e)

pub all_of : {A : Type 0} (P : A → Type 0) → ((a : A) → P a) → (xs : List A) → AllByRecursion P xs
all_of P h [] = tt
all_of P h (x ∷ xs) = (h x, all_of P h xs)
