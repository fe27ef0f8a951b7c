-- The text of a run in a direction, from its parts.
use Rattle.std.proofs.Common.{◌≡◌, ℕ, List, [], ◌∷◌, ◌++◌, ap, ◌∙◌}
use Rattle.serde_json.specs.Data.{object}
use Rattle.serde_json.specs.Written.{compact_text}
use Rattle.fl_ast.specs.declared.stmt.Program.{Program}
use Rattle.store_core.specs.declared.layout.Shape.{Shape}
use Rattle.store_core.specs.declared.values.Args.{Args}
use Rattle.store_core.specs.declared.values.Direction.{Direction}
use Rattle.store_core.specs.declared.values.Weights.{Weights}
use Rattle.data_io.specs.Written.{tangent_members}
use Rattle.answers.specs.Runs.{shown_at, values_of}
use Rattle.answers.specs.Tangents.{tangents_of, ring_arguments, tangent_text}

shown : (p : Program) (es : List Shape) (ws us : List ℕ) (names : List (List ℕ)) (t : Weights) → ws ≡ us → names ≡ ring_arguments p → t ≡ shown_at p es ws names → t ≡ shown_at p es us (ring_arguments p)
shown p es ws us names t w n e = e ∙ (ap (λ (x : List ℕ). shown_at p es x names) w ∙ ap (shown_at p es us) n)

pub text_is : (p : Program) (es : List Shape) (args : Args) (direction : Direction) (values tangents : List ℕ) (names : List (List ℕ)) (t v : Weights) (text : List ℕ) → values ≡ values_of p es args → tangents ≡ tangents_of p es args direction
    → names ≡ ring_arguments p → t ≡ shown_at p es tangents names → v ≡ shown_at p es values names → text ≡ compact_text (object (tangent_members t v)) ++ 10 ∷ [] → text ≡ tangent_text p es args direction
unfolding tangent_text
text_is p es args direction values tangents names t v text a b c d e f =
    let moved : t ≡ shown_at p es (tangents_of p es args direction) (ring_arguments p) = shown p es tangents (tangents_of p es args direction) names t b c d in
    let held : v ≡ shown_at p es (values_of p es args) (ring_arguments p) = shown p es values (values_of p es args) names v a c e in
    f ∙ (ap (λ (x : Weights). compact_text (object (tangent_members x v)) ++ 10 ∷ []) moved
    ∙ ap (λ (x : Weights). compact_text (object (tangent_members (shown_at p es (tangents_of p es args direction) (ring_arguments p)) x)) ++ 10 ∷ []) held)
