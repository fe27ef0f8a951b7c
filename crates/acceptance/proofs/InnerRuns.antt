-- The first terms, as far as they are multiples of variables of inner loops.
use Rattle.std.proofs.Common.{◌≡◌, ◌≢◌, ℕ, zero, suc, ◌<◌, ◌≤◌, Bool, true, false, ◌&&◌, if◌then◌else◌, nat_eq, max, ℤ, pos, ◌+ℤ◌, neg_ℤ, int_lt, unsigned_abs, List, [], ◌∷◌, map, drop, length, get_or, Option, Some, None, is_some, ◌==◌, ◌-◌, take, refl, sym, ap, ◌∙◌, arith}
use Rattle.std.specs.Prelude.{option_map}
use Rattle.std.specs.Borrow.{Bor}
use Rattle.std.proofs.Math.Seq.{drop-cons}
use Rattle.std.proofs.lemmas.List.{drop_all, take_all, length-drop}
use Rattle.std.proofs.lemmas.Bool.Decides.{nat_tests}
use Rattle.index_forms.specs.declared.form.Atom as program
use Rattle.index_forms.specs.declared.form.Form as program_form
use Rattle.index_forms.specs.Form.{Atom, Form, form, Terms}
use Rattle.index_forms.specs.Seen.{atom_tree, form_tree, term_tree, terms_of}
use Rattle.index_ranges.specs.declared.range.Range.{Range}
use Rattle.index_ranges.specs.Ranges.{KnownRange}
use Rattle.index_ranges.specs.Told.{range_told, ranges_told}
use Rattle.certificate_rules.specs.Surveys.{Survey, range_of}
use Rattle.certificate_rules.specs.Accepted.{low_end, high_end}
use Rattle.certificate_rules.specs.Tests.{inner_of, Interval, with_multiple, interval_by, interval, has_none, ends_between, lies_between, second_iterations_of, second_lies, second_ends, range_by, is_range, second_range_by, is_second_range, iterations_of, range_holds}
use Rattle.acceptance.specs.Pairs.{apart_told}
use Rattle.acceptance.proofs.Seens.{form-seen}
use Rattle.acceptance.specs.Runs.{one_more, run, interval_told, known_range, less_twice, second_told, range_test}

abbrev pub L : Type 0
L = List (program.Atom × ℤ)

abbrev pub seen : L → Terms
seen ts = terms_of (map term_tree ts)

-- ---- how many they are

run-front : (ts : L) (i : ℕ) (x : program.Atom × ℤ) → i < length ts → get_or ts i x ≡ x → run (seen (drop i ts)) ≡ one_more (inner_of (atom_tree x.0)) (run (seen (drop (suc i) ts)))
run-front ts i x h e = rw (drop-cons ts i x h, e) refl

by_none : (o : Option ℕ) (n : ℕ) → is_some o ≡ false → one_more o n ≡ 0
by_none None n e = refl
by_none (Some l) n e = cc

by_some : (o : Option ℕ) (n : ℕ) → is_some o ≡ true → one_more o n ≡ suc n
by_some None n e = cc
by_some (Some l) n e = refl

pub run-stop : (ts : L) (i : ℕ) (x : program.Atom × ℤ) → i < length ts → get_or ts i x ≡ x → is_some (inner_of (atom_tree x.0)) ≡ false → run (seen (drop i ts)) ≡ 0
run-stop ts i x h e d = run-front ts i x h e ∙ by_none (inner_of (atom_tree x.0)) (run (seen (drop (suc i) ts))) d

pub run-step : (ts : L) (i : ℕ) (x : program.Atom × ℤ) → i < length ts → get_or ts i x ≡ x → is_some (inner_of (atom_tree x.0)) ≡ true → run (seen (drop i ts)) ≡ suc (run (seen (drop (suc i) ts)))
run-step ts i x h e d = run-front ts i x h e ∙ by_some (inner_of (atom_tree x.0)) (run (seen (drop (suc i) ts))) d

pub run-end : (ts : L) (i : ℕ) → length ts ≤ i → run (seen (drop i ts)) ≡ 0
run-end ts i h = rw (drop_all i ts h) refl

more-within : (o : Option ℕ) (m n : ℕ) → m ≤ n → one_more o m ≤ suc n
more-within None m n h = omega arith
more-within (Some l) m n h = omega (arith, h)

pub run-within : (ts : L) → run (seen ts) ≤ length ts
run-within [] = omega arith
run-within (x ∷ ts) = more-within (inner_of (atom_tree x.0)) (run (seen ts)) (length ts) (run-within ts)

-- ---- ranges by loops' numbers

range-front : (rs : List Range) (i l : ℕ) (r : Range) → i < length rs → get_or rs i r ≡ r → range_of (ranges_told (drop i rs)) l ≡ (if nat_eq r.number l then Some (range_told r) else range_of (ranges_told (drop (suc i) rs)) l)
range-front rs i l r h e = rw (drop-cons rs i r h, e) refl

pub range-here : (rs : List Range) (i l : ℕ) (r : Range) → i < length rs → get_or rs i r ≡ r → r.number ≡ l → range_of (ranges_told (drop i rs)) l ≡ Some (range_told r)
range-here rs i l r h e d =
    range-front rs i l r h e ∙ ap (λ (b : Bool). if b then Some (range_told r) else range_of (ranges_told (drop (suc i) rs)) l) (let t : nat_eq r.number l ≡ true = grind (arith, nat_tests, d) in t)

pub range-later : (rs : List Range) (i l : ℕ) (r : Range) → i < length rs → get_or rs i r ≡ r → r.number ≢ l → range_of (ranges_told (drop i rs)) l ≡ range_of (ranges_told (drop (suc i) rs)) l
range-later rs i l r h e d =
    range-front rs i l r h e ∙ ap (λ (b : Bool). if b then Some (range_told r) else range_of (ranges_told (drop (suc i) rs)) l) (let t : nat_eq r.number l ≡ false = grind (arith, nat_tests, d) in t)

pub range-none : (rs : List Range) (i l : ℕ) → length rs ≤ i → range_of (ranges_told (drop i rs)) l ≡ None
range-none rs i l h = rw (drop_all i rs h) refl

-- ---- their sum

pub interval-end : (rs : List KnownRange) (ts : L) → interval rs (seen (drop (run (seen ts)) ts)) ≡ Some (record { low = pos 0; high = pos 0; last = seen (drop (run (seen ts)) ts) })
interval-end rs [] = refl
interval-end rs (x ∷ ts) = by_first (inner_of (atom_tree x.0)) refl (interval-end rs ts)
  where
    by_first : (o : Option ℕ) → inner_of (atom_tree x.0) ≡ o → interval rs (seen (drop (run (seen ts)) ts)) ≡ Some (record { low = pos 0; high = pos 0; last = seen (drop (run (seen ts)) ts) }) →
        interval rs (seen (drop (one_more o (run (seen ts))) (x ∷ ts))) ≡ Some (record { low = pos 0; high = pos 0; last = seen (drop (one_more o (run (seen ts))) (x ∷ ts)) })
    by_first None e h = ap (λ (p : Option ℕ). interval_by rs p (atom_tree x.0) x.1 (seen ts) (interval rs (seen ts))) e
    by_first (Some l) e h = h

-- what a multiple of a number in a range adds
abbrev pub with_range : ℤ → KnownRange → Interval → Interval
with_range k r w = record { low = low_end k r +ℤ w.low; high = high_end k r +ℤ w.high; last = w.last }

stepped : (rs : List KnownRange) (o : Option ℕ) (x : Atom) (k : ℤ) (ts : Terms) (r : KnownRange) (w : Interval) (rest : Option Interval) → Some r ≡ known_range rs o → Some w ≡ rest → Some (with_range k r w) ≡ interval_by rs o x k ts rest
stepped rs None x k ts r w rest e h = cc
stepped rs (Some l) x k ts r w rest e h = ap (with_multiple k (Some r)) h ∙ ap (λ (p : Option KnownRange). with_multiple k p rest) e

pub interval-step : (rs : List KnownRange) (ts : L) (i : ℕ) (x : program.Atom × ℤ) (r : KnownRange) (w : Interval) → i < length ts → get_or ts i x ≡ x → Some r ≡ known_range rs (inner_of (atom_tree x.0)) →
    Some w ≡ interval rs (seen (drop (suc i) ts)) → Some (with_range x.1 r w) ≡ interval rs (seen (drop i ts))
interval-step rs ts i x r w h e d s =
    stepped rs (inner_of (atom_tree x.0)) (atom_tree x.0) x.1 (seen (drop (suc i) ts)) r w (interval rs (seen (drop (suc i) ts))) d s ∙ rw (drop-cons ts i x h, e) refl

rest-none : (k : ℤ) (o : Option KnownRange) → with_multiple k o None ≡ None
rest-none k None = refl
rest-none k (Some r) = refl

pub interval-none : (rs : List KnownRange) (ts : L) (i : ℕ) (x : program.Atom × ℤ) → i < run (seen ts) → get_or ts i x ≡ x → None ≡ known_range rs (inner_of (atom_tree x.0)) → None ≡ interval rs (seen ts)
interval-none rs [] i x h e d = absurd (omega arith)
interval-none rs (y ∷ ts) zero x h e d = by_first (inner_of (atom_tree y.0)) h (d ∙ ap (λ (z : program.Atom × ℤ). known_range rs (inner_of (atom_tree z.0))) (sym e))
  where
    by_first : (o : Option ℕ) → zero < one_more o (run (seen ts)) → None ≡ known_range rs o → None ≡ interval_by rs o (atom_tree y.0) y.1 (seen ts) (interval rs (seen ts))
    by_first None h d = absurd (omega arith)
    by_first (Some l) h d = ap (λ (p : Option KnownRange). with_multiple y.1 p (interval rs (seen ts))) d
interval-none rs (y ∷ ts) (suc i) x h e d = by_first (inner_of (atom_tree y.0)) h (λ g. interval-none rs ts i x g e d)
  where
    by_first : (o : Option ℕ) → suc i < one_more o (run (seen ts)) → (i < run (seen ts) → None ≡ interval rs (seen ts)) → None ≡ interval_by rs o (atom_tree y.0) y.1 (seen ts) (interval rs (seen ts))
    by_first None h rest = absurd (omega arith)
    by_first (Some l) h rest = sym (rest-none y.1 (range_of rs l)) ∙ ap (with_multiple y.1 (range_of rs l)) (rest (omega arith))

-- ---- between which numbers it lies

has-more : (ts : L) (i : ℕ) → i < length ts → has_none (seen (drop i ts)) ≡ false
has-more [] i h = absurd (omega arith)
has-more (x ∷ ts) zero h = refl
has-more (x ∷ ts) (suc i) h = has-more ts i (omega arith)

has-no-more : (ts : L) (i : ℕ) → length ts ≤ i → has_none (seen (drop i ts)) ≡ true
has-no-more ts i h = rw (drop_all i ts h) refl

pub ends_none : (c a : ℤ) (o : Option Interval) → None ≡ o → false ≡ ends_between c a o
ends_none c a o e = ap (ends_between c a) e

pub ends_longer : (c a : ℤ) (ts : L) (w : ℤ × ℤ) (o : Option Interval) → Some (interval_told ts w) ≡ o → run (seen ts) < length ts → false ≡ ends_between c a o
ends_longer c a ts w o e h =
    sym (ap (λ (b : Bool). b && lies_between c a (interval_told ts w)) (has-more ts (run (seen ts)) h)) ∙ ap (ends_between c a) e

pub ends_done : (c a : ℤ) (ts : L) (w : ℤ × ℤ) (o : Option Interval) (low high : ℤ) (r : Bool) → Some (interval_told ts w) ≡ o → length ts ≤ run (seen ts) → low ≡ c +ℤ w.0 → high ≡ c +ℤ w.1 →
    r ≡ (int_lt (neg_ℤ (pos (unsigned_abs a))) low && int_lt high (pos (unsigned_abs a))) → r ≡ ends_between c a o
ends_done c a ts w o low high r e h p q s =
    s ∙ ap (λ (z : ℤ). int_lt (neg_ℤ (pos (unsigned_abs a))) z && int_lt high (pos (unsigned_abs a))) p ∙ ap (λ (z : ℤ). int_lt (neg_ℤ (pos (unsigned_abs a))) (c +ℤ w.0) && int_lt z (pos (unsigned_abs a))) q
    ∙ sym (ap (λ (b : Bool). b && lies_between c a (interval_told ts w)) (has-no-more ts (run (seen ts)) h)) ∙ ap (ends_between c a) e

pub second_none : (c a : ℤ) (second : Option ℕ) (o : Option Interval) → None ≡ o → false ≡ second_ends c a second o
second_none c a second o e = ap (second_ends c a second) e

told-lies : (c a : ℤ) (second : Option ℕ) (w : Interval) (size : ℕ) (it : Option (ℤ × Bor L)) → size ≡ max (unsigned_abs (c +ℤ w.low)) (unsigned_abs (c +ℤ w.high)) →
    second_told size a second it ≡ second_lies c a second w (option_map apart_told it)
told-lies c a None w size None e = refl
told-lies c a (Some m) w size None e = refl
told-lies c a None w size (Some r) e = refl
told-lies c a (Some m) w size (Some r) e = rw e refl

pub second_done : (c a : ℤ) (second : Option ℕ) (ts last : L) (w : ℤ × ℤ) (o : Option Interval) (low high : ℤ) (size : ℕ) (it : Option (ℤ × Bor L)) (r : Bool) → Some (interval_told ts w) ≡ o → low ≡ c +ℤ w.0 → high ≡ c +ℤ w.1 →
    size ≡ max (unsigned_abs low) (unsigned_abs high) → last ≡ drop (run (seen ts)) ts → option_map apart_told it ≡ second_iterations_of (seen last) → r ≡ second_told size a second it → r ≡ second_ends c a second o
second_done c a second ts last w o low high size it r e p q s l d t =
    t ∙ told-lies c a second (interval_told ts w) size it (s ∙ ap (λ (z : ℤ). max (unsigned_abs z) (unsigned_abs high)) p ∙ ap (λ (z : ℤ). max (unsigned_abs (c +ℤ w.0)) (unsigned_abs z)) q)
    ∙ ap (second_lies c a second (interval_told ts w)) (d ∙ ap (λ (z : L). second_iterations_of (seen z)) l) ∙ ap (second_ends c a second) e

pub second_longer : (size : ℕ) (a : ℤ) (second : Option ℕ) (it : Option (ℤ × Bor L)) (m : ℕ) (b : ℤ) (rest : Bor L) (r : Bool) → it ≡ Some (b, rest) → second ≡ Some m → r ≡ false → r ≡ (length rest.now == 0) →
    r ≡ second_told size a second it
second_longer size a second it m b rest r e h f i =
    f ∙ by_rest rest.now (sym f ∙ i) ∙ sym (ap (second_told size a (Some m)) e) ∙ sym (ap (λ (o : Option ℕ). second_told size a o it) h)
  where
    by_rest : (ts : L) → false ≡ (length ts == 0) → false ≡ (has_none (seen ts) && less_twice size a b m)
    by_rest [] z = cc
    by_rest (t ∷ ts) z = refl

-- the part of a slice from a place on
pub part-from : (ts : L) (n m : ℕ) → n ≡ m → take (length ts - n) (drop n ts) ≡ drop m ts
part-from ts n m e = take_all (length ts - n) (drop n ts) (omega (arith, length-drop n ts)) ∙ ap (λ (k : ℕ). drop k ts) e

-- ---- of whole forms

by_terms : (rs : List KnownRange) (g : Form) (c a : ℤ) (ts rest : Terms) (r : Bool) → g ≡ form c ts → Some (a, rest) ≡ iterations_of ts → r ≡ ends_between c a (interval rs rest) → r ≡ is_range rs g
by_terms rs g c a ts rest r p e h = h ∙ ap (range_by rs c) e ∙ ap (is_range rs) (sym p)

by_no_terms : (rs : List KnownRange) (g : Form) (c : ℤ) (ts : Terms) → g ≡ form c ts → None ≡ iterations_of ts → false ≡ is_range rs g
by_no_terms rs g c ts p e = ap (range_by rs c) e ∙ ap (is_range rs) (sym p)

pub range_seen : (rs : List KnownRange) (f : program_form.Form) (us : L) (a : ℤ) (rest : Terms) (r : Bool) → us ≡ f.terms → Some (a, rest) ≡ iterations_of (seen us) → r ≡ ends_between f.constant a (interval rs rest) → r ≡ is_range rs (form_tree f)
range_seen rs f us a rest r p e h = by_terms rs (form_tree f) f.constant a (seen f.terms) rest r (form-seen f) (e ∙ ap (λ (z : L). iterations_of (seen z)) p) h

pub range_not : (rs : List KnownRange) (f : program_form.Form) (us : L) → us ≡ f.terms → None ≡ iterations_of (seen us) → false ≡ is_range rs (form_tree f)
range_not rs f us p e = by_no_terms rs (form_tree f) f.constant (seen f.terms) (form-seen f) (e ∙ ap (λ (z : L). iterations_of (seen z)) p)

second_by_terms : (rs : List KnownRange) (second : Option ℕ) (g : Form) (c a : ℤ) (ts rest : Terms) (r : Bool) → g ≡ form c ts → Some (a, rest) ≡ iterations_of ts → r ≡ second_ends c a second (interval rs rest) → r ≡ is_second_range rs second g
second_by_terms rs second g c a ts rest r p e h = h ∙ ap (second_range_by rs second c) e ∙ ap (is_second_range rs second) (sym p)

second_by_no_terms : (rs : List KnownRange) (second : Option ℕ) (g : Form) (c : ℤ) (ts : Terms) → g ≡ form c ts → None ≡ iterations_of ts → false ≡ is_second_range rs second g
second_by_no_terms rs second g c ts p e = ap (second_range_by rs second c) e ∙ ap (is_second_range rs second) (sym p)

pub second_seen : (rs : List KnownRange) (second : Option ℕ) (f : program_form.Form) (us : L) (a : ℤ) (rest : Terms) (r : Bool) → us ≡ f.terms → Some (a, rest) ≡ iterations_of (seen us) → r ≡ second_ends f.constant a second (interval rs rest) → r ≡ is_second_range rs second (form_tree f)
second_seen rs second f us a rest r p e h = second_by_terms rs second (form_tree f) f.constant a (seen f.terms) rest r (form-seen f) (e ∙ ap (λ (z : L). iterations_of (seen z)) p) h

pub second_not : (rs : List KnownRange) (second : Option ℕ) (f : program_form.Form) (us : L) → us ≡ f.terms → None ≡ iterations_of (seen us) → false ≡ is_second_range rs second (form_tree f)
second_not rs second f us p e = second_by_no_terms rs second (form_tree f) f.constant (seen f.terms) (form-seen f) (e ∙ ap (λ (z : L). iterations_of (seen z)) p)

pub range-tested : (b : Bool) (s : Survey) (f : Form) → range_test b s.ranges s.second f ≡ range_holds b s f
range-tested true s f = refl
range-tested false s f = refl
