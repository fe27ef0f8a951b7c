-- What a call answers that resolves names.
use Rattle.std.specs.Prelude.{◌≡◌, ℕ, ◌<◌, Bool, true, false, List, length, Option, Result, Ok, Err}
use Rattle.fl_ast.specs.Tree.{Expression}
use Rattle.store_core.specs.declared.layout.Shape.{Shape}
use Rattle.resolved.specs.declared.resolved.ResolvedHead.{ResolvedHead}
use Rattle.resolved.specs.ResolvedExprs.{slot_name, expression_back, is_within}
use Rattle.resolved.specs.ResolvedStmts.{option_back, is_option_within, is_head_placed}
use Rattle.resolved.specs.declared.resolve.ResolveError.{ResolveError}
use Rattle.resolved.specs.declared.resolve.ResolveError.TheVariants.{Unplaced, Memory}

-- a tree that stands for the given one, all slots within the layout; or that some name has no place, and then one has none
abbrev pub Resolves : {A P : Type 0} → (A → P) → (A → Bool) → P → Bool → Result A ResolveError → Type 0
Resolves back within tree placed (Ok expr) = (back expr ≡ tree) × (within expr ≡ true) × (placed ≡ true)
Resolves back within tree placed (Err Unplaced) = placed ≡ false
Resolves back within tree placed (Err Memory) = Unit {0}

-- a loop's head
abbrev pub ResolvesHead : List Shape → List ℕ → Expression → Expression → Option Expression → Result ResolvedHead ResolveError → Type 0
ResolvesHead shapes var first last step (Ok head) =
    (slot_name shapes head.variable ≡ var) × (head.variable < length shapes)
    × (expression_back shapes head.first ≡ first) × (is_within (length shapes) head.first ≡ true)
    × (expression_back shapes head.last ≡ last) × (is_within (length shapes) head.last ≡ true)
    × (option_back shapes head.step ≡ step) × (is_option_within (length shapes) head.step ≡ true)
    × (is_head_placed shapes var first last step ≡ true)
ResolvesHead shapes var first last step (Err Unplaced) = is_head_placed shapes var first last step ≡ false
ResolvesHead shapes var first last step (Err Memory) = Unit {0}
