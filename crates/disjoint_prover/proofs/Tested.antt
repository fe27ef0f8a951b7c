-- Tests that tell less than a derivation.
use Rattle.std.proofs.Common.{◌≡◌, ℕ, Bool, true, false, List, [], ◌∷◌, Option, Some, None, refl, sym, ap, ◌∙◌, rules}
use Rattle.std.specs.Prelude.{◌||◌, is_some, if◌then◌else◌, ℤ, pos}
use Rattle.index_forms.specs.Form.{Form, form, Terms}
use Rattle.index_knowledge.specs.Knowledge.{KnownFact, KnownPair}
use Rattle.certificate_rules.specs.Derivations.{Line, Derived}
use Rattle.certificate_rules.specs.Surveys.{Survey, fact_serves}
use Rattle.certificate_rules.specs.Disjoint.{is_nested}
use Rattle.certificate_rules.specs.Accepted.{reads_apart}
use Rattle.certificate_rules.specs.Tests.{same_form}
use Rattle.certificate_rules.specs.Plain.{Elements, or_else, after_first, line_for, lines_for, fact_derivation, by_fact, by_facts, by_elements, by_distinct, by_residue, by_range, elements_of, first_element, if_apart, stated}
use Rattle.certificate_rules.proofs.Same.{same-to}
use Rattle.disjoint_prover.specs.Tested.{may_close, is_closed}

none-first : (o : Option Line) (r : Option (List Line)) → false ≡ is_some o → after_first o r ≡ None
none-first None r e = refl
none-first (Some l) r e = search (rules, e)

no-lines : (p : KnownPair) (gs : List Form) → false ≡ may_close p gs → lines_for p gs ≡ None
no-lines p [] e = search (rules, e)
no-lines p (g ∷ gs) e = none-first (line_for p g) (lines_for p gs) e

no-derivation : (b : Bool) (n : ℕ) → None ≡ (if b then fact_derivation n None else None)
no-derivation true n = refl
no-derivation false n = refl

pub not_closing : (s : Survey) (p : KnownPair) (n : ℕ) (k : KnownFact) → false ≡ may_close p k.differences → None ≡ by_fact s p n k
not_closing s p n k e =
    no-derivation (fact_serves s.accesses k p) n ∙ ap (λ (o : Option (List Line)). if fact_serves s.accesses k p then fact_derivation n o else None) (sym (no-lines p k.differences e))

or-cases : (f a b c e : Option Derived) → (is_some (or_else a (or_else b c)) || (is_some f || is_some e)) ≡ is_some (or_else f (or_else a (or_else b (or_else c e))))
or-cases None None None None None = refl
or-cases None None None None (Some e) = refl
or-cases None None None (Some c) e = refl
or-cases None None (Some b) c e = refl
or-cases None (Some a) b c e = refl
or-cases (Some f) None None None e = refl
or-cases (Some f) None None (Some c) e = refl
or-cases (Some f) None (Some b) c e = refl
or-cases (Some f) (Some a) b c e = refl

pub closed_is_stated : (s : Survey) (p : KnownPair) (r : Bool) → r ≡ is_closed s p → r ≡ is_some (stated s p)
closed_is_stated s p r h = h ∙ or-cases (by_facts (by_fact s p) 1 s.facts) (by_distinct (is_nested p) p) (by_residue p) (by_range s p) (by_facts (by_elements s p) 1 s.facts)

abbrev constant-of : Form → ℤ
constant-of (form k ts) = k

unless-same : (b : Bool) (e : Elements) → (b ≡ true → ⊥) → None ≡ (if b then Some e else None)
unless-same true e h = absurd (h refl)
unless-same false e h = refl

unless-apart : (k : ℤ) (ts : Terms) (o : Option Elements) → (k ≡ pos 0 → ⊥) → None ≡ if_apart (form k ts) o
unless-apart k ts None h = refl
unless-apart k ts (Some e) h =
    unless-same (same_form (form k ts) (reads_apart e.name e.ones e.twos)) e (λ q. h (ap constant-of (same-to (form k ts) (reads_apart e.name e.ones e.twos) q)))

pub not_apart : (k : ℤ) (ts : Terms) → (k ≡ pos 0 → ⊥) → None ≡ elements_of (form k ts)
not_apart k ts h = unless-apart k ts (first_element ts) h
