-- Marks in force after groups are opened or removed.
use Rattle.std.proofs.Common.{◌≡◌, ℕ, ◌+◌, ◌-◌, ◌≤◌, Bool, true, false, List, ◌++◌, length, take, drop, replicate, sym, ap, ◌∙◌, arith}
use Rattle.std.proofs.lemmas.List.{append_assoc, length-append, length-take-le, length-drop, length-replicate, take_at, drop-take, drop-replicate}
use Rattle.groups.specs.Moves.{refilled, moved_down}
use Rattle.groups.specs.Seen.{in_force}

pub take_refilled : {X : Type 0} (xs : List X) (from to : ℕ) (x : X) → from ≤ to → to ≤ length xs → take to (refilled xs from to x) ≡ take from xs ++ replicate (to - from) x
take_refilled xs from to x h l =
    let front : length (take from xs) ≡ from = length-take-le from xs (omega arith) in
    let whole : length (take from xs ++ replicate (to - from) x) ≡ to = omega (arith, length-append (take from xs) (replicate (to - from) x), length-replicate (to - from) x) in
    ap (take to) (sym (append_assoc (take from xs) (replicate (to - from) x) (drop to xs))) ∙ take_at (take from xs ++ replicate (to - from) x) (drop to xs) to whole

-- what a move down leaves in the front
pub take_moved : {X : Type 0} (xs : List X) (n kept : ℕ) → n ≤ kept → kept ≤ length xs → take (kept - n) (moved_down xs n kept) ≡ drop n (take kept xs)
take_moved xs n kept h l =
    let m = kept - n in
    let front : length (take m (drop n xs)) ≡ m = length-take-le m (drop n xs) (omega (arith, length-drop n xs)) in
    let whole : n + (kept - n) ≡ kept = omega arith in
    take_at (take m (drop n xs)) (drop m xs) m front ∙ sym (drop-take n m xs) ∙ ap (λ k. drop n (take k xs)) whole

pub forced_moved : (plain : Bool) (kept n : ℕ) (marks : List Bool) → n ≤ kept → kept ≤ length marks → in_force plain (kept - n) (moved_down marks n kept) ≡ drop n (in_force plain kept marks)
forced_moved true kept n marks h l = sym (drop-replicate n kept true)
forced_moved false kept n marks h l = take_moved marks n kept h l
