-- The first terms as far as they are multiples of variables of inner loops.
use Rattle.std.specs.Prelude.{ℕ, zero, suc, ◌+◌, ◌*◌, Bool, true, false, ◌&&◌, nat_lt, ℤ, unsigned_abs, List, drop, map, Option, Some, None}
use Rattle.std.specs.Borrow.{Bor}
use Rattle.index_forms.specs.declared.form.Atom.{Atom}
use Rattle.index_forms.specs.Form.{Form, Terms, no_terms, term}
use Rattle.index_forms.specs.Seen.{term_tree, terms_of}
use Rattle.index_ranges.specs.Ranges.{KnownRange}
use Rattle.certificate_rules.specs.Surveys.{range_of}
use Rattle.certificate_rules.specs.Tests.{inner_of, has_none, Interval, is_range, is_second_range}

abbrev pub one_more : Option ℕ → ℕ → ℕ
one_more None n = zero
one_more (Some l) n = suc n

-- how many they are
abbrev pub run : Terms → ℕ
run no_terms = zero
run (term x k ts) = one_more (inner_of x) (run ts)

-- their least and greatest value, and the terms behind them
abbrev pub interval_told : List (Atom × ℤ) → ℤ × ℤ → Interval
interval_told ts w = record { low = w.0; high = w.1; last = terms_of (map term_tree (drop (run (terms_of (map term_tree ts))) ts)) }

abbrev pub known_range : List KnownRange → Option ℕ → Option KnownRange
known_range rs None = None
known_range rs (Some l) = range_of rs l

abbrev pub less_twice : ℕ → (a b : ℤ) → ℕ → Bool
less_twice size a b m = nat_lt size (unsigned_abs b) && nat_lt (unsigned_abs b * m + size) (unsigned_abs a)

abbrev pub second_told : ℕ → ℤ → Option ℕ → Option (ℤ × Bor (List (Atom × ℤ))) → Bool
second_told size a second None = false
second_told size a None (Some r) = false
second_told size a (Some m) (Some r) = has_none (terms_of (map term_tree r.1.now)) && less_twice size a r.0 m

abbrev pub range_test : (nested : Bool) → List KnownRange → Option ℕ → Form → Bool
range_test false rs second f = is_range rs f
range_test true rs second f = is_second_range rs second f
