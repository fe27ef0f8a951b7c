-- Two terms that are a multiple of one atom without another one.
use Rattle.std.specs.Prelude.{Bool, not, ◌&&◌, ℤ, ◌+ℤ◌, List, map}
use Rattle.std.specs.Borrow.{Bor}
use Rattle.index_forms.specs.declared.form.Atom.{Atom}
use Rattle.index_forms.specs.Form.{Terms}
use Rattle.index_forms.specs.Seen.{term_tree, terms_of}
use Rattle.certificate_rules.specs.Tests.{is_zero}

abbrev pub apart_test : (first second : Bool) → ℤ → ℤ → Bool
apart_test p q a b = (p && not (is_zero a)) && (q && is_zero (a +ℤ b))

-- the multiplier, and the terms behind
abbrev pub apart_told : ℤ × Bor (List (Atom × ℤ)) → ℤ × Terms
apart_told r = (r.0, terms_of (map term_tree r.1.now))
