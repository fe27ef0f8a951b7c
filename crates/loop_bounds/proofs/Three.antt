-- Three statements that are added one after the other.
use Rattle.std.proofs.Common.{◌≡◌, List, [], ◌∷◌, ◌++◌, map, ap, Result, Ok, Err, OnOk, ◌∙◌, append_assoc}
use Rattle.std.proofs.lemmas.List.{map-append}
use Rattle.fl_ast.specs.declared.adjoint.AStmt.{AStmt}
use Rattle.fl_ast.specs.AdjointTree.{AdjointStatement, astmt_tree}

pub on_ok : {X E : Type 0} {P Q : Type 0} (r : Result X E) → (P → Q) → OnOk r P → OnOk r Q
on_ok (Ok x) f p = f p
on_ok (Err e) f p = tt

one : (s t : List AStmt) (a : AStmt) (x : AdjointStatement) → t ≡ s ++ a ∷ [] → astmt_tree a ≡ x → map astmt_tree t ≡ map astmt_tree s ++ x ∷ []
one s t a x e h = ap (map astmt_tree) e ∙ (map-append astmt_tree s (a ∷ []) ∙ ap (λ y. map astmt_tree s ++ y ∷ []) h)

pub three : (s t u v : List AStmt) (a b c : AStmt) (x y z : AdjointStatement) → t ≡ s ++ a ∷ [] → u ≡ t ++ b ∷ [] → v ≡ u ++ c ∷ []
    → astmt_tree a ≡ x → astmt_tree b ≡ y → astmt_tree c ≡ z → map astmt_tree v ≡ map astmt_tree s ++ x ∷ y ∷ z ∷ []
three s t u v a b c x y z ta ub vc ax by cz =
    one u v c z vc cz
    ∙ (ap (λ l. l ++ z ∷ []) (one t u b y ub by ∙ ap (λ l. l ++ y ∷ []) (one s t a x ta ax))
    ∙ (append_assoc (map astmt_tree s ++ x ∷ []) (y ∷ []) (z ∷ []) ∙ append_assoc (map astmt_tree s) (x ∷ []) (y ∷ z ∷ [])))
