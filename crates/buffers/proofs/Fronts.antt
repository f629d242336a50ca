-- A loop that writes one list over the front of another.
use Rattle.std.proofs.Common.{◌≡◌, ℕ, ◌+◌, ◌-◌, ◌<◌, ◌≤◌, List, [], ◌∷◌, ◌++◌, length, get_or, take, drop, set, sym, ap, ap₂, ◌∙◌, arith}
use Rattle.std.proofs.lemmas.List.{append_assoc, length-take-le, set-append_right, drop_more, take_more, take_all, drop_all, append-nil}
use Rattle.buffers.specs.Memory.{front}

-- the first n places of a list, over those of another
abbrev pub over_front : {X : Type 0} → List X → List X → ℕ → List X
over_front xs ys n = take n xs ++ drop n ys

set_first : {X : Type 0} (ys zs : List X) (y x : X) (n : ℕ) → n ≡ 0 → ys ≡ y ∷ zs → set ys n x ≡ x ∷ zs
set_first ys zs y x n z e = rw (z, e)

pub over_more : {X : Type 0} (xs ys now : List X) (i : ℕ) (x : X) → i < length xs → i < length ys → x ≡ get_or xs i x → now ≡ over_front xs ys i → set now i x ≡ over_front xs ys (i + 1)
over_more xs ys now i x h l read e =
    let front : length (take i xs) ≡ i = length-take-le i xs (omega arith) in
    ap (λ zs. set zs i x) e
    ∙ set-append_right (take i xs) (drop i ys) i i x front (omega arith)
    ∙ ap (λ zs. take i xs ++ zs) (set_first (drop i ys) (drop (i + 1) ys) (get_or ys i x) x (i - i) (omega arith) (drop_more ys i x l))
    ∙ sym (append_assoc (take i xs) (x ∷ []) (drop (i + 1) ys))
    ∙ ap (λ zs. zs ++ drop (i + 1) ys) (ap (λ y. take i xs ++ y ∷ []) read ∙ sym (take_more xs i x h))

-- all of it
pub over_all : {X : Type 0} (xs ys now : List X) (i : ℕ) → length ys ≡ length xs → length xs ≤ i → now ≡ over_front xs ys i → now ≡ xs
over_all xs ys now i e h is = is ∙ ap₂ (λ a b. a ++ b) (take_all i xs h) (drop_all i ys (omega arith)) ∙ append-nil xs

-- in a part of a slice, before what is left of it
pub over_part : {X : Type 0} (xs ys now after : List X) (n k i : ℕ) → length ys ≡ n → length xs ≡ n → k ≡ n → n ≤ i → now ≡ over_front xs ys i → now ++ drop k after ≡ front xs after
over_part xs ys now after n k i e same whole h is =
    ap (λ zs. zs ++ drop k after) (over_all xs ys now i (e ∙ sym same) (omega arith) is) ∙ ap (λ m. xs ++ drop m after) (whole ∙ sym same)
