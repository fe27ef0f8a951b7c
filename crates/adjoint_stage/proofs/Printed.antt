-- The text of the adjoint for a set of active names is the one of the definitions.
use Rattle.std.proofs.Common.{◌≡◌, ℕ, Bool, List, Result, Ok, Err, IfOk, Vec, Global, ap, sym, subst, ◌∙◌}
use Rattle.fl_ast.specs.declared.stmt.Program.{Program}
use Rattle.fl_printer.specs.Text.{adjoint_text}
use Rattle.fl_types.specs.declared.choice.Chosen.{Chosen}
use Rattle.fl_types.specs.Sharing.{has_name}
use Rattle.activity.specs.Active.{AreActive}
use Rattle.adjoint_rules.specs.Adjoint.{adjoint_of}
use Rattle.adjoint_unit.specs.Adjoints.{IsAdjointOf}
use Rattle.adjoint_choices.specs.Choosing.{choices_of}
use Rattle.adjoint_sets.specs.Names.{is_active, is_needed}
use Rattle.adjoint_sets.proofs.Same.{active_is, needed_is}
use Rattle.adjoint_stage.specs.Adjoints.{adjoint_for, printed_adjoint, IsTextFor}

text_is : (p : Program) (of wrt names : List (List ℕ)) (choices : List Chosen) (text : List ℕ) → AreActive p of wrt names → choices ≡ choices_of p (λ x. has_name x names)
    → IsTextFor p (λ x. has_name x names) choices text → text ≡ printed_adjoint p of wrt
unfolding printed_adjoint
text_is p of wrt names choices text a c t =
    let r : IsAdjointOf p (λ x. has_name x names) choices t.0 = t.1 in
    t.2 ∙ (ap adjoint_text (r.tree ∙ (ap (λ n. adjoint_of p (λ x. has_name x names) n choices) (needed_is p (λ x. has_name x names) r.needed r.least)
    ∙ ap (λ l. adjoint_of p (λ x. has_name x names) (is_needed p (λ x. has_name x names)) l) c)) ∙ ap (λ f. adjoint_text (adjoint_for p f)) (active_is p of wrt names a))

pub texts_are : {E : Type 0} (p : Program) (of wrt names : List (List ℕ)) (choices : List Chosen) {T : Type 0} (items : T → List ℕ) (result : Result T E) → AreActive p of wrt names → choices ≡ choices_of p (λ x. has_name x names)
    → IfOk result (λ text. IsTextFor p (λ x. has_name x names) choices (items text)) → IfOk result (λ text. items text ≡ printed_adjoint p of wrt)
texts_are p of wrt names choices items (Ok text) a c t = text_is p of wrt names choices (items text) a c t
texts_are p of wrt names choices items (Err error) a c t = tt

-- the text that was found
pub text_due : {E : Type 0} (p q : Program) (of wrt names : List (List ℕ)) (result : Result (Vec ℕ Global) E) (text : Vec ℕ Global) → q ≡ p → AreActive p of wrt names
    → ((a b : List (List ℕ)) → AreActive q a b names → IfOk result (λ t. t.items ≡ printed_adjoint q a b)) → result ≡ Ok text → text.items ≡ printed_adjoint p of wrt
text_due p q of wrt names result text e a h r =
    let told : IfOk result (λ t. t.items ≡ printed_adjoint q of wrt) = h of wrt (subst (λ s. AreActive s of wrt names) (sym e) a) in
    let due : text.items ≡ printed_adjoint q of wrt = subst (λ s. IfOk s (λ t. t.items ≡ printed_adjoint q of wrt)) r told in
    due ∙ ap (λ s. printed_adjoint s of wrt) e
