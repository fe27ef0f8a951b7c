-- Values that are given to atoms one by one.
use Rattle.std.specs.Prelude.{◌≡◌, ℕ, suc, ◌<◌, ◌≤◌, Bool, true, false, ◌&&◌, if◌then◌else◌, nat_eq, bytes_eq, ℤ, pos, List, [], ◌∷◌, ◌++◌, Option, None, Some, Result, Ok, Err}
use Rattle.fl_ast.specs.Tree.{Expression}
use Rattle.fl_types.specs.Accesses.{Occurrence}
use Rattle.meaning.specs.declared.value.Value.{Value}
use Rattle.meaning.specs.declared.value.Value.TheVariants.{Index, Ring}
use Rattle.meaning.specs.declared.value.Cause.{Cause}
use Rattle.meaning.specs.Sites.{Cells, Site}
use Rattle.meaning.specs.Expressions.{value_of}
use Rattle.index_forms.specs.declared.form.Side.{Side}
use Rattle.index_forms.specs.declared.form.Side.TheVariants.{One, Two}
use Rattle.index_forms.specs.Form.{Atom, start, iter, inner, inv, version, read, opaque, start2, iter2}
use Rattle.index_forms.specs.Formed.{Known, formed_all}
use Rattle.index_forms.specs.Walk.{Setting, viewed}

abbrev pub Binding : Type 0
Binding = Atom × ℤ

-- a valuation gives them all
abbrev pub Agrees : (Atom → ℤ) → List Binding → Type 0
Agrees v [] = Unit {0}
Agrees v (b ∷ bs) = (v b.0 ≡ b.1) × Agrees v bs

-- no atom stands twice
abbrev pub IsAbsent : Atom → List Binding → Type 0
IsAbsent a [] = Unit {0}
IsAbsent a (b ∷ bs) = ¬ (a ≡ b.0) × IsAbsent a bs

abbrev pub AreApart : List Binding → Type 0
AreApart [] = Unit {0}
AreApart (b ∷ bs) = IsAbsent b.0 bs × AreApart bs

-- the same atom of an instance
abbrev pub same_side : Side → Side → Bool
same_side One One = true
same_side One Two = false
same_side Two One = false
same_side Two Two = true

abbrev pub is_atom : Atom → Atom → Bool
is_atom (inner s l) (inner t m) = same_side s t && nat_eq l m
is_atom (version s n x) (version t m y) = same_side s t && (nat_eq n m && bytes_eq x y)
is_atom (opaque s a n) (opaque t b m) = same_side s t && (nat_eq a b && nat_eq n m)
is_atom a b = false

-- the value of such an atom, where it stands among them, and else another
abbrev pub given : List Binding → (Atom → ℤ) → Atom → ℤ
given [] other a = other a
given (b ∷ bs) other a = if is_atom b.0 a then b.1 else given bs other a

-- an atom of one side: of a statement from n on and below m, of an access behind a and up to b, or of one of these loops
abbrev pub Lies : Side → (n m a b : ℕ) → (loops : ℕ → Bool) → Atom → Type 0
Lies side n m a b loops start = ⊥
Lies side n m a b loops (iter s) = ⊥
Lies side n m a b loops (inner s l) = (s ≡ side) × (loops l ≡ true)
Lies side n m a b loops (inv x) = ⊥
Lies side n m a b loops (version s k x) = (s ≡ side) × (n ≤ k) × (k < m)
Lies side n m a b loops (read x fs) = ⊥
Lies side n m a b loops (opaque s k i) = (s ≡ side) × (a < k) × (k ≤ b)
Lies side n m a b loops start2 = ⊥
Lies side n m a b loops (iter2 s) = ⊥

abbrev pub AllHave : (Atom → Type 0) → List Binding → Type 0
AllHave P [] = Unit {0}
AllHave P (b ∷ bs) = P b.0 × AllHave P bs

abbrev pub AllLie : Side → (n m a b : ℕ) → (loops : ℕ → Bool) → List Binding → Type 0
AllLie side n m a b loops bs = AllHave (Lies side n m a b loops) bs

-- none of the loops
abbrev pub no_loops : ℕ → Bool
no_loops l = false

-- ---- the values of the nodes that opaque atoms stand for

abbrev pub index_of : Option Value → ℤ
index_of None = pos 0
index_of (Some (Index z)) = z
index_of (Some (Ring d)) = pos 0

abbrev pub node_value : Result Value Cause → ℤ
node_value (Ok v) = index_of (Some v)
node_value (Err c) = pos 0

abbrev pub leaf_binding : Atom → ℤ → List Binding
leaf_binding (opaque s a n) z = (opaque s a n, z) ∷ []
leaf_binding start z = []
leaf_binding (iter s) z = []
leaf_binding (inner s l) z = []
leaf_binding (inv x) z = []
leaf_binding (version s n x) z = []
leaf_binding (read x fs) z = []
leaf_binding start2 z = []
leaf_binding (iter2 s) z = []

abbrev pub leaf_bindings : Site → Cells → List (Atom × Expression) → List Binding
leaf_bindings site cells [] = []
leaf_bindings site cells (l ∷ ls) = leaf_binding l.0 (node_value (value_of l.1 site cells).out) ++ leaf_bindings site cells ls

-- of accesses that are evaluated together, the first being number a + 1
abbrev pub group_bindings : Setting → Known → ℕ → Site → Cells → List Occurrence → List Binding
group_bindings c k a site cells [] = []
group_bindings c k a site cells (o ∷ os) =
    leaf_bindings site cells (formed_all (viewed c k (suc a)) 0 o.place.subscripts).leaves ++ group_bindings c k (suc a) site cells os
