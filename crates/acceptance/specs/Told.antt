-- What the program's knowledge and derivations stand for.
use Rattle.std.specs.Prelude.{ℕ, ℤ, List, map}
use Rattle.certificate.specs.declared.derivation.Multiple.{Multiple}
use Rattle.certificate.specs.declared.derivation.Line as program_line
use Rattle.certificate.specs.declared.derivation.Line.TheVariants.{Hyp, Comb, Cong}
use Rattle.certificate.specs.declared.derivation.Close as program_close
use Rattle.certificate.specs.declared.derivation.Close.TheVariants.{Distinct, Residue, Range, Fact}
use Rattle.certificate.specs.declared.derivation.Derivation.{Derivation}
use Rattle.index_forms.specs.declared.form.Form as program_form
use Rattle.index_forms.specs.Form.{Form, Forms}
use Rattle.index_forms.specs.Seen.{form_tree}
use Rattle.index_forms.specs.Scenes.{is_fixed_there}
use Rattle.index_forms.specs.Listed.{forms_seen, all_forms_seen}
use Rattle.index_knowledge.specs.Told.{facts_told}
use Rattle.index_ranges.specs.Told.{ranges_told}
use Rattle.certificate_rules.specs.Derivations.{Line, hyp, comb, cong, Close, distinct, residue, range, fact, Derived}
use Rattle.certificate_rules.specs.Surveys.{Survey}
use Rattle.acceptance.specs.declared.knowledge.LoopKnowledge.{LoopKnowledge}
use Rattle.acceptance.specs.declared.line_form.LineForm.{LineForm}
use Rattle.acceptance.specs.declared.line_form.LineForm.TheVariants.{Given, Made}
use Rattle.acceptance.specs.declared.congruence.Element.{Element}

abbrev pub survey_of : LoopKnowledge → Survey
survey_of k = record {
  accesses = k.accesses;
  ones = all_forms_seen k.ones;
  twos = all_forms_seen k.twos;
  fixed = is_fixed_there k.scene;
  facts = facts_told k.facts;
  ranges = ranges_told k.ranges;
  second = k.second;
}

-- ---- derivations

abbrev pub multiple_told : Multiple → ℤ × ℕ
multiple_told m = (m.multiplier, m.line)

abbrev pub line_told : program_line.Line → Line
line_told (Hyp d) = hyp d
line_told (Comb ms) = comb (map multiple_told ms)
line_told (Cong a b ls) = cong a b ls

abbrev pub close_told : program_close.Close → Close
close_told (Distinct l m) = distinct l m
close_told (Residue l) = residue l
close_told (Range l) = range l
close_told (Fact n ls) = fact n ls

abbrev pub derivation_told : Derivation → Derived
derivation_told d = record { lines = map line_told d.lines; close = close_told d.close }

-- ---- the forms of lines

abbrev pub form_in : LineForm → program_form.Form
form_in (Given f) = f.now
form_in (Made f) = f

abbrev pub seen_in : LineForm → Form
seen_in l = form_tree (form_in l)

abbrev pub forms_in : List LineForm → List Form
forms_in ls = map seen_in ls

-- ---- elements of index arrays

abbrev pub element_told : Element → List ℕ × Forms
element_told e = (e.name.now, forms_seen e.forms.now)
