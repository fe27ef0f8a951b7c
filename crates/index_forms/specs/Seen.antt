-- The plain data that each value of the program's types stands for.
use Rattle.std.specs.Prelude.{ℤ, List, [], ◌∷◌}
use Rattle.index_forms.specs.declared.form.Atom.{fold-Atom}
use Rattle.index_forms.specs.declared.form.Form.{fold-Form}
use Rattle.index_forms.specs.declared.form.Atom as program
use Rattle.index_forms.specs.declared.form.Form as program_form
use Rattle.index_forms.specs.declared.form.Atom.TheOpen.{Atom-F, Form-F}
use Rattle.index_forms.specs.Form.{Atom, start, iter, inner, inv, version, read, opaque, start2, iter2, Form, form, Terms, no_terms, term, Forms, no_forms, and_form}

abbrev pub terms_of : List (Atom × ℤ) → Terms
terms_of [] = no_terms
terms_of (p ∷ ps) = term p.0 p.1 (terms_of ps)

abbrev pub forms_of : List Form → Forms
forms_of [] = no_forms
forms_of (f ∷ fs) = and_form f (forms_of fs)

abbrev pub atom_level : Atom-F Atom Form → Atom
atom_level Atom-F.Start = start
atom_level (Atom-F.Iter s) = iter s
atom_level (Atom-F.Inner s l) = inner s l
atom_level (Atom-F.Inv n) = inv n
atom_level (Atom-F.Version s l n) = version s l n
atom_level (Atom-F.Read n fs) = read n (forms_of fs)
atom_level (Atom-F.Opaque s a n) = opaque s a n
atom_level Atom-F.Start2 = start2
atom_level (Atom-F.Iter2 s) = iter2 s

abbrev pub form_level : Form-F Atom Form → Form
form_level f = form f.constant (terms_of f.terms)

abbrev pub atom_tree : program.Atom → Atom
atom_tree = fold-Atom Atom Form atom_level form_level

abbrev pub form_tree : program_form.Form → Form
form_tree = fold-Form Atom Form atom_level form_level

abbrev pub term_tree : program.Atom × ℤ → Atom × ℤ
term_tree p = (atom_tree p.0, p.1)
