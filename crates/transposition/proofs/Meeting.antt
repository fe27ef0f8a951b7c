-- What programs that meet the premises of the law are shown with.
use Rattle.std.proofs.Common.{◌≡◌, ℕ, zero, suc, List, [], ◌∷◌, refl, ap, sym, ◌∙◌, subst, Bool, true, false, not, ◌&&◌, ◌||◌, Option, Some, None, arith}
use Rattle.std.specs.Prelude.{bytes_eq, nat_lt, nat_eq, slice_index}
use Rattle.std.proofs.lemmas.Bool.{and_parts}
use Rattle.std.proofs.lemmas.Bool.Decides.{nat_tests}
use Rattle.std.proofs.lemmas.Slice.Eq.{bytes_eq-Decides}
use Rattle.ring_core.specs.Index.{fits_index}
use Rattle.fl_ast.specs.declared.kind.Kind.{Kind}
use Rattle.fl_ast.specs.declared.kind.Kind.TheVariants as kind
use Rattle.fl_types.specs.Sharing.{has_name}
use Rattle.meaning.specs.declared.value.Value.{Value}
use Rattle.meaning.specs.declared.value.Value.TheVariants.{Index, Ring}
use Rattle.meaning.specs.Sites.{Key, Cells, Site, kind_of, word_of}
use Rattle.meaning.specs.Fitting.{CellFits, CellsFit}
use Rattle.transposition.specs.Worlds.{name_at}
use Rattle.transposition.specs.Law.{Use, Like}
use Rattle.meaning.specs.Fitting.{HasKind}
use Rattle.transposition.proofs.Keys.{name_later}
use Rattle.transposition.proofs.Places.{content_later}
use Rattle.meaning.specs.Expressions.{content}

-- ---- names

pub not_true : (b : Bool) → not b ≡ true → b ≡ false
not_true true h = cc
not_true false h = refl

pub or_false : (b : Bool) → (b || false) ≡ false → b ≡ false
or_false true h = cc
or_false false h = refl

pub or_none : (b : Bool) → b ≡ false → (b || false) ≡ false
or_none true h = cc
or_none false h = refl

pub or_true : (b : Bool) → (b || false) ≡ true → b ≡ true
or_true true h = refl
or_true false h = cc

-- what holds of the one name of a list
pub named : (x y : List ℕ) (P : List ℕ → Type 0) → has_name y (x ∷ []) ≡ true → P x → P y
named x y P h p = subst P (sym ((bytes_eq-Decides y x).0 (or_true (bytes_eq y x) h))) p

-- of one of two names
pub named_two : (x y z : List ℕ) (P : List ℕ → Type 0) → has_name z (x ∷ y ∷ []) ≡ true → P x → P y → P z
named_two x y z P h p q = by_first (bytes_eq z x) refl h
  where
    by_first : (b : Bool) → bytes_eq z x ≡ b → (b || (bytes_eq z y || false)) ≡ true → P z
    by_first true e g = subst P (sym ((bytes_eq-Decides z x).0 e)) p
    by_first false e g = subst P (sym ((bytes_eq-Decides z y).0 (or_true (bytes_eq z y) g))) q

pub neither : (a b : Bool) → (a || (b || false)) ≡ false → not (a || b) ≡ true
neither true b h = cc
neither false true h = cc
neither false false h = refl

pub both_off : (a b : Bool) → not (a || b) ≡ true → (a || (b || false)) ≡ false
both_off true b h = cc
both_off false true h = cc
both_off false false h = refl

-- ---- cells that fit, by computing

abbrev kind_held : Kind → Value → Bool
kind_held kind.Ring (Ring d) = nat_lt d.value 18446744073709551616
kind_held kind.Index (Index z) = fits_index z
kind_held kind.Ring (Index z) = false
kind_held kind.Index (Ring d) = false

has_kind : (k : Kind) (v : Value) → kind_held k v ≡ true → HasKind k v
has_kind kind.Ring (Ring d) h = grind (arith, nat_tests)
has_kind kind.Index (Index z) h = h
has_kind kind.Ring (Index z) h = cc
has_kind kind.Index (Ring d) h = cc

abbrev cell_held : Kind → Option Value → Bool
cell_held k None = true
cell_held k (Some v) = kind_held k v

abbrev pub cells_held : Site → List Key → Cells → Bool
cells_held site [] [] = true
cells_held site (k ∷ keys) [] = false
cells_held site [] (c ∷ s) = false
cells_held site (k ∷ keys) (c ∷ s) = cell_held (kind_of site k.0) c && cells_held site keys s

cell_fits : (site : Site) (k : Key) (c : Option Value) → cell_held (kind_of site k.0) c ≡ true → CellFits site k c
cell_fits site k None h = tt
cell_fits site k (Some v) h = has_kind (kind_of site k.0) v h

pub held_fits : (site : Site) (keys : List Key) (s : Cells) → cells_held site keys s ≡ true → CellsFit site keys s
held_fits site [] [] h = tt
held_fits site (k ∷ keys) [] h = cc
held_fits site [] (c ∷ s) h = cc
held_fits site (k ∷ keys) (c ∷ s) h =
    let r = and_parts (cell_held (kind_of site k.0) c) (cells_held site keys s) h in
    (cell_fits site k c r.0, held_fits site keys s r.1)

-- ---- words of cells, by computing

abbrev word_held : Option Value → ℕ → Bool
word_held None n = true
word_held (Some v) n = nat_eq n (word_of (Some v))

abbrev pub words_held : Use → List Key → List ℕ → Cells → Bool
words_held u keys vs [] = true
words_held u keys [] (c ∷ s) = false
words_held u [] (n ∷ vs) (c ∷ s) = false
words_held u (k ∷ keys) (n ∷ vs) (c ∷ s) = (not (u.needed k.0) || word_held c n) && words_held u keys vs s

read_words : (u : Use) (keys : List Key) (vs : List ℕ) (s : Cells) → words_held u keys vs s ≡ true → (p : ℕ) (v : Value) → content s p ≡ Some v → u.needed (name_at keys p) ≡ true → slice_index vs p ≡ word_of (Some v)
read_words u keys vs [] h p v e n = let f : None ≡ Some v = e in cc
read_words u keys [] (c ∷ s) h p v e n = cc
read_words u [] (m ∷ vs) (c ∷ s) h p v e n = cc
read_words u (k ∷ keys) (m ∷ vs) (c ∷ s) h zero v e n = by_test (u.needed k.0) n (and_parts (not (u.needed k.0) || word_held c m) (words_held u keys vs s) h).0
  where
    same : (c : Option Value) → c ≡ Some v → word_held c m ≡ true → m ≡ word_of (Some v)
    same None f g = cc
    same (Some x) f g = (let i : m ≡ word_of (Some x) = grind (arith, nat_tests) in i) ∙ ap word_of f

    by_test : (b : Bool) → b ≡ true → (not b || word_held c m) ≡ true → m ≡ word_of (Some v)
    by_test true f g = same c e g
    by_test false f g = cc
read_words u (k ∷ keys) (m ∷ vs) (c ∷ s) h (suc p) v e n =
    read_words u keys vs s (and_parts (not (u.needed k.0) || word_held c m) (words_held u keys vs s) h).1 p v (sym (content_later c s p) ∙ e) (ap u.needed (sym (name_later k keys p)) ∙ n)

-- outside of sequential loops
pub held_words : (u : Use) (keys : List Key) (vs : List ℕ) (s : Cells) → words_held u keys vs s ≡ true → ((x : List ℕ) → u.held x ≡ None) → Like u keys vs s
held_words u keys vs s h unheld = record { read = read_words u keys vs s h; held = λ p n e. (let f : None ≡ Some n = sym (unheld (name_at keys p)) ∙ e in cc) }

-- ---- a name with one place, by computing

abbrev not_named : List ℕ → List Key → Bool
not_named x [] = true
not_named x (k ∷ ks) = not (bytes_eq k.0 x) && not_named x ks

abbrev pub named_only : List ℕ → ℕ → List Key → Bool
named_only x q [] = not (bytes_eq [] x)
named_only x zero (k ∷ ks) = not (bytes_eq [] x) && not_named x ks
named_only x (suc q) (k ∷ ks) = not (bytes_eq k.0 x) && named_only x q ks

differs : (y x : List ℕ) → not (bytes_eq y x) ≡ true → y ≡ x → ⊥
differs y x h e = let k : true ≡ false = sym ((bytes_eq-Decides y x).1 e) ∙ not_true (bytes_eq y x) h in cc

nowhere : (x : List ℕ) (ks : List Key) → not (bytes_eq [] x) ≡ true → not_named x ks ≡ true → (p : ℕ) → name_at ks p ≡ x → ⊥
nowhere x [] f h p e = differs [] x f e
nowhere x (k ∷ ks) f h zero e = differs k.0 x (and_parts (not (bytes_eq k.0 x)) (not_named x ks) h).0 e
nowhere x (k ∷ ks) f h (suc p) e = nowhere x ks f (and_parts (not (bytes_eq k.0 x)) (not_named x ks) h).1 p (sym (name_later k ks p) ∙ e)

pub only_at : (x : List ℕ) (q : ℕ) (ks : List Key) → named_only x q ks ≡ true → (p : ℕ) → name_at ks p ≡ x → p ≡ q
only_at x q [] h p e = absurd (differs [] x h e)
only_at x zero (k ∷ ks) h zero e = refl
only_at x zero (k ∷ ks) h (suc p) e =
    let r = and_parts (not (bytes_eq [] x)) (not_named x ks) h in
    absurd (nowhere x ks r.0 r.1 p (sym (name_later k ks p) ∙ e))
only_at x (suc q) (k ∷ ks) h zero e = absurd (differs k.0 x (and_parts (not (bytes_eq k.0 x)) (named_only x q ks) h).0 e)
only_at x (suc q) (k ∷ ks) h (suc p) e = ap suc (only_at x q ks (and_parts (not (bytes_eq k.0 x)) (named_only x q ks) h).1 p (sym (name_later k ks p) ∙ e))
