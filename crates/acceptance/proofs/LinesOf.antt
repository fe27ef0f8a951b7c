-- The lines of a derivation, one by one.
use Rattle.std.proofs.Common.{◌≡◌, ℕ, zero, suc, ◌<◌, ◌≤◌, Bool, true, false, ◌&&◌, if◌then◌else◌, IsTrue, ◌↔◌, ℤ, List, [], ◌∷◌, ◌++◌, map, drop, length, slice_get, get_or, Option, Some, None, refl, sym, ap, subst, ◌∙◌, arith}
use Rattle.std.specs.Prelude.{option_map}
use Rattle.std.proofs.Math.Seq.{drop-cons}
use Rattle.std.proofs.lemmas.List.{drop_all}
use Rattle.certificate.specs.declared.derivation.Multiple.{Multiple}
use Rattle.certificate.specs.declared.derivation.Line as program_line
use Rattle.certificate.specs.declared.derivation.Line.TheVariants.{Hyp}
use Rattle.index_forms.specs.declared.form.Form as program_form
use Rattle.index_forms.specs.Form.{Form, Forms}
use Rattle.index_forms.specs.Seen.{form_tree}
use Rattle.index_knowledge.specs.Knowledge.{KnownFact, KnownPair}
use Rattle.certificate_rules.specs.Derivations.{Derived}
use Rattle.certificate_rules.specs.Surveys.{Survey, numbered, fact_serves, IsSurvey, IsPairOf}
use Rattle.certificate_rules.specs.Disjoint.{Disjoint}
use Rattle.certificate_rules.specs.Accepted.{added, combined, Accepted}
use Rattle.certificate_rules.specs.Tests.{line_form, after_line, all_forms, lines_are, fact_closes, accepts}
use Rattle.certificate_rules.proofs.Sound.{accepted-disjoint}
use Rattle.certificate_rules.proofs.DecidedCloses.{tests-decide}
use Rattle.acceptance.specs.declared.line_form.LineForm.{LineForm}
use Rattle.acceptance.specs.Told.{multiple_told, line_told, seen_in, forms_in}
use Rattle.acceptance.proofs.NumberedItems.{numbered-map}

pub item-got : {A : Type 0} (xs : List A) (i : ℕ) (x : A) → slice_get xs i ≡ Some x → get_or xs i x ≡ x
item-got [] i x e = refl
item-got (y ∷ xs) zero x e = cc
item-got (y ∷ xs) (suc i) x e = item-got xs i x e

-- ---- sums of multiples

combined-front : (above : List Form) (ms : List Multiple) (i : ℕ) (m : Multiple) → i < length ms → get_or ms i m ≡ m →
    combined above (map multiple_told (drop i ms)) ≡ added m.multiplier (numbered above m.line) (combined above (map multiple_told (drop (suc i) ms)))
combined-front above ms i m h e = rw (drop-cons ms i m h, e) refl

found-one : (b : Bool) (f : Form) (o : Option Form) → b ≡ true → (if b then Some f else None) ≡ o → Some f ≡ o
found-one true f o e h = h
found-one false f o e h = cc

found-none : (b : Bool) (f : Form) (o : Option Form) → b ≡ false → (if b then Some f else None) ≡ o → None ≡ o
found-none true f o e h = cc
found-none false f o e h = h

pub combined-step : (above : List Form) (ms : List Multiple) (i : ℕ) (m : Multiple) (b : Bool) (f g : Form) → i < length ms → get_or ms i m ≡ m → b ≡ true →
    (if b then Some g else None) ≡ added m.multiplier (numbered above m.line) (Some f) → Some f ≡ combined above (map multiple_told (drop (suc i) ms)) → Some g ≡ combined above (map multiple_told (drop i ms))
combined-step above ms i m b f g h e t s r =
    found-one b g (added m.multiplier (numbered above m.line) (Some f)) t s ∙ ap (added m.multiplier (numbered above m.line)) r ∙ sym (combined-front above ms i m h e)

added-none : (k : ℤ) (o : Option Form) → added k o None ≡ None
added-none k None = refl
added-none k (Some f) = refl

none-stays : (above : List Form) (ms : List Multiple) (i : ℕ) → None ≡ combined above (map multiple_told (drop i ms)) → None ≡ combined above (map multiple_told ms)
none-stays above [] i e = e ∙ ap (λ (l : List Multiple). combined above (map multiple_told l)) (drop_all i [] (omega arith))
none-stays above (m ∷ ms) zero e = e
none-stays above (m ∷ ms) (suc i) e = sym (added-none m.multiplier (numbered above m.line)) ∙ ap (added m.multiplier (numbered above m.line)) (none-stays above ms i e)

pub combined-none : (above : List Form) (ms : List Multiple) (i : ℕ) (m : Multiple) (b : Bool) (f g : Form) → i < length ms → get_or ms i m ≡ m → b ≡ false →
    (if b then Some g else None) ≡ added m.multiplier (numbered above m.line) (Some f) → Some f ≡ combined above (map multiple_told (drop (suc i) ms)) → None ≡ combined above (map multiple_told ms)
combined-none above ms i m b f g h e t s r =
    none-stays above ms i (found-none b g (added m.multiplier (numbered above m.line) (Some f)) t s ∙ ap (added m.multiplier (numbered above m.line)) r ∙ sym (combined-front above ms i m h e))

-- ---- all lines

forms-more : (ls : List LineForm) (l : LineForm) → forms_in (ls ++ l ∷ []) ≡ forms_in ls ++ seen_in l ∷ []
forms-more [] l = refl
forms-more (k ∷ ls) l = ap (λ (fs : List Form). seen_in k ∷ fs) (forms-more ls l)

all-front : (s : Survey) (p : KnownPair) (above : List Form) (ls : List program_line.Line) (i : ℕ) (l : program_line.Line) → i < length ls → get_or ls i l ≡ l →
    all_forms s p above (map line_told (drop i ls)) ≡ after_line (line_form s p above (line_told l)) (λ f. all_forms s p (above ++ f ∷ []) (map line_told (drop (suc i) ls)))
all-front s p above ls i l h e = rw (drop-cons ls i l h, e) refl

pub all-step : (s : Survey) (p : KnownPair) (above new : List LineForm) (ls : List program_line.Line) (i : ℕ) (l : program_line.Line) (o : Option LineForm) (f : LineForm) (all : Option (List Form)) → i < length ls → get_or ls i l ≡ l →
    o ≡ Some f → option_map seen_in o ≡ line_form s p (forms_in above) (line_told l) → new ≡ above ++ f ∷ [] → all_forms s p (forms_in above) (map line_told (drop i ls)) ≡ all →
    all_forms s p (forms_in new) (map line_told (drop (suc i) ls)) ≡ all
all-step s p above new ls i l o f all h e q t n r =
    ap (λ (fs : List Form). all_forms s p fs (map line_told (drop (suc i) ls))) (ap forms_in n ∙ forms-more above f)
    ∙ ap (λ (z : Option Form). after_line z (λ g. all_forms s p (forms_in above ++ g ∷ []) (map line_told (drop (suc i) ls)))) (sym (ap (option_map seen_in) q) ∙ t)
    ∙ sym (all-front s p (forms_in above) ls i l h e) ∙ r

pub all-none : (s : Survey) (p : KnownPair) (above : List Form) (ls : List program_line.Line) (i : ℕ) (l : program_line.Line) (o : Option LineForm) (all : Option (List Form)) → i < length ls → get_or ls i l ≡ l →
    o ≡ None → option_map seen_in o ≡ line_form s p above (line_told l) → all_forms s p above (map line_told (drop i ls)) ≡ all → None ≡ all
all-none s p above ls i l o all h e q t r =
    ap (λ (z : Option Form). after_line z (λ g. all_forms s p (above ++ g ∷ []) (map line_told (drop (suc i) ls)))) (sym (ap (option_map seen_in) q) ∙ t)
    ∙ sym (all-front s p above ls i l h e) ∙ r

pub all-done : (s : Survey) (p : KnownPair) (above : List Form) (ls : List program_line.Line) (i : ℕ) (all : Option (List Form)) → length ls ≤ i → all_forms s p above (map line_told (drop i ls)) ≡ all → Some above ≡ all
all-done s p above ls i all h r = ap (λ (l : List program_line.Line). all_forms s p above (map line_told l)) (sym (drop_all i ls h)) ∙ r

-- the pair's difference with a number
pub hyp-form : (s : Survey) (p : KnownPair) (above : List Form) (l : program_line.Line) (d : ℕ) (ds es : List program_form.Form) (o : Option LineForm) (q : Option program_form.Form) → l ≡ Hyp d → p.differences ≡ map form_tree ds → es ≡ ds →
    option_map seen_in o ≡ option_map form_tree q → q ≡ numbered es d → option_map seen_in o ≡ line_form s p above (line_told l)
hyp-form s p above l d ds es o q e h i t r =
    t ∙ ap (option_map form_tree) (r ∙ ap (λ (z : List program_form.Form). numbered z d) i) ∙ sym (numbered-map form_tree ds d) ∙ ap (λ (z : List Form). numbered z d) (sym h)
    ∙ ap (λ (z : program_line.Line). line_form s p above (line_told z)) (sym e)

-- ---- a fact

pub fact-refused : (s : Survey) (p : KnownPair) (above : List Form) (ls : List ℕ) (k : KnownFact) (o : Option KnownFact) → Some k ≡ o → fact_serves s.accesses k p ≡ false → false ≡ fact_closes s p above ls o
fact-refused s p above ls k o e t = sym (ap (λ (b : Bool). b && lines_are above ls k.differences) t) ∙ ap (fact_closes s p above ls) e

pub fact-taken : (s : Survey) (p : KnownPair) (above : List Form) (ls : List ℕ) (k : KnownFact) (o : Option KnownFact) (r : Bool) → Some k ≡ o → fact_serves s.accesses k p ≡ true → r ≡ lines_are above ls k.differences →
    r ≡ fact_closes s p above ls o
fact-taken s p above ls k o r e t h = h ∙ sym (ap (λ (b : Bool). b && lines_are above ls k.differences) t) ∙ ap (fact_closes s p above ls) e

pub fact-none : (s : Survey) (p : KnownPair) (above : List Form) (ls : List ℕ) (o : Option KnownFact) → None ≡ o → false ≡ fact_closes s p above ls o
fact-none s p above ls o e = ap (fact_closes s p above ls) e

-- ---- the whole

pub accepted_exact : (s : Survey) (p : KnownPair) (d : Derived) (b : Bool) → b ≡ accepts s p d → IsTrue b ↔ Accepted s p d
accepted_exact s p d b e = subst (λ (t : Bool). IsTrue t ↔ Accepted s p d) (sym e) (tests-decide s p d)

pub accepted_disjoint : (s : Survey) (p : KnownPair) (d : Derived) (b : Bool) → b ≡ accepts s p d → IsTrue b → (f g : Forms) → IsSurvey s → IsPairOf s p f g → Disjoint s p f g
accepted_disjoint s p d b e t f g v w = accepted-disjoint s p f g d v w ((accepted_exact s p d b e).0 t)
