-- How words and lists lie on one stack.
use Rattle.std.specs.Prelude.{ℕ, ◌-◌, ◌≤◌, List, [], ◌∷◌, ◌++◌, length, map, take, drop}
use Rattle.store_core.specs.Tapes.{Item, word, lists}
use Rattle.store_core.specs.declared.tape.Placed.{Placed}

-- words and lists with the number of words below each, the top first
abbrev pub stack : List ℕ → List Placed → List Item
stack ws [] = map word ws
stack ws (l ∷ ls) = map word (take (length ws - l.below) ws) ++ (lists l.list ∷ stack (drop (length ws - l.below) ws) ls)

-- each has at most this number of words below it, and at least as many as the next has
abbrev pub AreBelow : List Placed → ℕ → Type 0
AreBelow [] n = Unit {0}
AreBelow (l ∷ ls) n = (l.below ≤ n) × AreBelow ls l.below
