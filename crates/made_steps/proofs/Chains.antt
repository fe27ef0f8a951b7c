-- Terms of increments.
use Rattle.std.specs.Prelude.{◌≡◌, ℕ, Bool, true, false, if◌then◌else◌, List, [], ◌∷◌, ◌++◌, Option, Some, None, refl}
use Rattle.std.proofs.Common.{ap, sym, ◌∙◌}
use Rattle.fl_ast.specs.declared.kind.BinOp.TheVariants.{Add, Sub}
use Rattle.fl_ast.specs.Tree.{Expression, get, binary, Expressions}
use Rattle.fl_ast.specs.Same.{same_expression}
use Rattle.fl_types.specs.Increment.{Signed, longer, chain, first_of_sum}
use Rattle.resolved.specs.SlotTables.{Names}
use Rattle.made_steps.specs.declared.terms.SignedExpr.{SignedExpr}
use Rattle.made_steps.specs.Scopes.{front_terms, AreTerms}

-- a chain is what stands before its last term, and that term
pub record Grown (t a : Expression) (r : Signed) (rs : List Signed) : Type 0 where
  pub front : List Signed
  pub is_front : front_terms t a ≡ Some front
  pub grown : front ++ r ∷ [] ≡ rs

grown_by : (t a : Expression) (r : Signed) (rs : List Signed) (q : Bool) (o : Option (List Signed)) → same_expression t a ≡ q → chain t a ≡ o
    → (if q then Some (r ∷ []) else longer o r) ≡ Some rs → Grown t a r rs
grown_by t a r rs true o p c e = record { front = []; is_front = rw p refl; grown = cc }
grown_by t a r rs false (Some qs) p c e = record { front = qs; is_front = rw p c; grown = cc }
grown_by t a r rs false None p c e = absurd (cc)

pub added : (t e a b : Expression) (rs : List Signed) → e ≡ binary Add a b → chain t e ≡ Some rs → Grown t a (false, b) rs
added t e a b rs f h = grown_by t a (false, b) rs (same_expression t a) (chain t a) refl refl (ap (chain t) (sym f) ∙ h)

pub taken : (t e a b : Expression) (rs : List Signed) → e ≡ binary Sub a b → chain t e ≡ Some rs → Grown t a (true, b) rs
taken t e a b rs f h = grown_by t a (true, b) rs (same_expression t a) (chain t a) refl refl (ap (chain t) (sym f) ∙ h)

only_empty : (q : Bool) (rs : List Signed) → (if q then Some [] else None) ≡ Some rs → [] ≡ rs
only_empty true rs e = cc
only_empty false rs e = absurd (cc)

-- a name before the first term is the target
pub at_front : (t e : Expression) (x : List ℕ) (ss : Expressions) (rs : List Signed) → e ≡ get x ss → front_terms t e ≡ Some rs → [] ≡ rs
at_front t e x ss rs f h = only_empty (same_expression t (get x ss)) rs (ap (front_terms t) (sym f) ∙ h)

only_one : (q : Bool) (r : Signed) (rs : List Signed) → (if q then Some (r ∷ []) else None) ≡ Some rs → r ∷ [] ≡ rs
only_one true r rs e = cc
only_one false r rs e = absurd (cc)

pub summed : (t e a b : Expression) (rs : List Signed) → e ≡ binary Add a b → first_of_sum t e ≡ Some rs → (false, a) ∷ [] ≡ rs
summed t e a b rs f h = only_one (same_expression t b) (false, a) rs (ap (first_of_sum t) (sym f) ∙ h)

pub none_are : (names : Names) (terms : List SignedExpr) → terms ≡ [] → AreTerms names [] terms
none_are names [] h = record { back = refl; ready = refl }
none_are names (t ∷ terms) h = absurd (cc)
