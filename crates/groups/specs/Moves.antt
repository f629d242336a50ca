-- Groups in memory: places written over, and places moved down.
--
--     refilled xs a b x       the places from a up to b written over by x
--     over_front xs ys n      the first n of xs over those of ys
--     moved_down xs n kept    the places from n up to `kept` moved to the front
use Rattle.std.specs.Prelude.{ℕ, ◌-◌, List, ◌++◌, take, drop, replicate}

abbrev pub refilled : {X : Type 0} → List X → ℕ → ℕ → X → List X
refilled xs from to x = take from xs ++ (replicate (to - from) x ++ drop to xs)

abbrev pub over_front : {X : Type 0} → List X → List X → ℕ → List X
over_front xs ys n = take n xs ++ drop n ys

abbrev pub moved_down : {X : Type 0} → List X → ℕ → ℕ → List X
moved_down xs n kept = over_front (drop n xs) xs (kept - n)
