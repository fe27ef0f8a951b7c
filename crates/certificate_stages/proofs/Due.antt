-- The texts for a set of active names are those of the definitions.
use Rattle.std.proofs.Common.{◌≡◌, ℕ, Bool, List, [], Result, Ok, Err, IfOk, Vec, Global, ap, subst, ◌∙◌}
use Rattle.fl_ast.specs.declared.stmt.Program.{Program}
use Rattle.fl_printer.specs.Text.{adjoint_text}
use Rattle.fl_types.specs.declared.choice.Chosen.{Chosen}
use Rattle.fl_types.specs.Sharing.{has_name}
use Rattle.activity.specs.Active.{AreActive}
use Rattle.adjoint_rules.specs.Adjoint.{adjoint_of}
use Rattle.adjoint_unit.specs.Adjoints.{IsAdjointOf}
use Rattle.adjoint_sets.specs.Names.{is_needed}
use Rattle.adjoint_sets.proofs.Same.{active_is, needed_is}
use Rattle.adjoint_stage.specs.Adjoints.{IsTextFor}
use Rattle.program_certificates.specs.Choices.{choices_with}
use Rattle.program_certificates.specs.Texts.{proved_text}
use Rattle.certificate_stages.specs.Certificates.{proved_for, shared_adjoint_for, printed_shared}

pub certificates_are : {E : Type 0} (p : Program) (of wrt names : List (List ℕ)) {T : Type 0} (items : T → List ℕ) (result : Result T E) → AreActive p of wrt names
    → IfOk result (λ text. items text ≡ proved_text p (λ x. has_name x names)) → IfOk result (λ text. items text ≡ proved_for p of wrt)
unfolding proved_for
certificates_are p of wrt names items (Ok text) a t = t ∙ ap (λ (f : List ℕ → Bool). proved_text p f) (active_is p of wrt names a)
certificates_are p of wrt names items (Err error) a t = tt

text_is : (p : Program) (of wrt names : List (List ℕ)) (choices : List Chosen) (text : List ℕ) → AreActive p of wrt names → choices ≡ choices_with p (λ x. has_name x names) []
    → IsTextFor p (λ x. has_name x names) choices text → text ≡ printed_shared p of wrt
unfolding printed_shared
text_is p of wrt names choices text a c t =
    let r : IsAdjointOf p (λ x. has_name x names) choices t.0 = t.1 in
    t.2 ∙ (ap adjoint_text (r.tree ∙ (ap (λ n. adjoint_of p (λ x. has_name x names) n choices) (needed_is p (λ x. has_name x names) r.needed r.least)
    ∙ ap (λ l. adjoint_of p (λ x. has_name x names) (is_needed p (λ x. has_name x names)) l) c)) ∙ ap (λ f. adjoint_text (shared_adjoint_for p f)) (active_is p of wrt names a))

pub texts_are : {E : Type 0} (p q : Program) (of wrt names : List (List ℕ)) (choices : List Chosen) {T : Type 0} (items : T → List ℕ) (result : Result T E) → q ≡ p → AreActive p of wrt names
    → choices ≡ choices_with p (λ x. has_name x names) [] → IfOk result (λ text. IsTextFor q (λ x. has_name x names) choices (items text)) → IfOk result (λ text. items text ≡ printed_shared p of wrt)
texts_are p q of wrt names choices items (Ok text) e a c t = text_is p of wrt names choices (items text) a c (subst (λ s. IsTextFor s (λ x. has_name x names) choices (items text)) e t)
texts_are p q of wrt names choices items (Err error) e a c t = tt

-- the text that was found
pub text_due : {E : Type 0} (due : Program → List (List ℕ) → List (List ℕ) → List ℕ) (p : Program) (of wrt names : List (List ℕ)) (result : Result (Vec ℕ Global) E) (text : Vec ℕ Global) → AreActive p of wrt names
    → ((a b : List (List ℕ)) → AreActive p a b names → IfOk result (λ t. t.items ≡ due p a b)) → result ≡ Ok text → text.items ≡ due p of wrt
text_due due p of wrt names result text a h r = subst (λ s. IfOk s (λ t. t.items ≡ due p of wrt)) r (h of wrt a)
