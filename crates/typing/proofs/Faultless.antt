-- Names and numbers at which no rule is broken.
use Rattle.std.proofs.Common.{◌≡◌, ℕ, Bool, true, false, not, ◌||◌, nat_lt, List, ◌∷◌, ◌++◌, slice_get, Option, Some, None, refl, sym, ◌∙◌}
use Rattle.std.proofs.lemmas.Bool.{or_parts}
use Rattle.std.specs.List.{list_any}
use Rattle.fl_ast.specs.declared.kind.Kind.TheVariants.{Index, Ring}
use Rattle.fl_ast.specs.declared.stmt.Program.{Program}
use Rattle.fl_types.specs.declared.typed.TypeError.{TypeError}
use Rattle.fl_types.specs.Kinds.{has_declared_rank}
use Rattle.fl_types.specs.Sharing.{has_name}
use Rattle.fl_types.specs.Declarations.{is_declared}
use Rattle.fl_types.specs.WellTyped.{is_local_index_scalar, is_read_only_argument}
use Rattle.fl_types.specs.Mentions.{Surroundings, Ending, Mention, a_variable, a_target, a_use, a_number, an_exponent}
use Rattle.fl_types.specs.Rows.{when, faults_at, is_varying, kinds_differ, divides_data, is_data_as_index}
use Rattle.typing.specs.Firsts.{or_later}
use Rattle.typing.proofs.Heads.{head, head_cons, head_append}

-- no rule is broken at any of them
abbrev pub Clean : Program → List Mention → Type 0
Clean p ms = head p ms ≡ None

none_both : {A : Type 0} (a b : Option A) → or_later a b ≡ None → (a ≡ None) × (b ≡ None)
none_both None b h = (refl, h)
none_both (Some x) b h = absurd (let f : Some x ≡ None = h in cc)

pub apart : (p : Program) (ms ns : List Mention) → Clean p (ms ++ ns) → Clean p ms × Clean p ns
apart p ms ns h = none_both _ _ (sym (head_append p ms ns) ∙ h)

pub at_first : (p : Program) (m : Mention) (ms : List Mention) → Clean p (m ∷ ms) → (slice_get (faults_at p m) 0 ≡ None) × Clean p ms
at_first p m ms h = none_both _ _ (sym (head_cons p m ms) ∙ h)

pub holds : (b : Bool) (e : TypeError) (fs : List TypeError) → slice_get (when b e ++ fs) 0 ≡ None → (b ≡ false) × (slice_get fs 0 ≡ None)
holds true e fs h = absurd (let f : Some e ≡ None = h in cc)
holds false e fs h = (refl, h)

-- the expressions and the assignment that end break no rule of kinds
pub record EndsWell (p : Program) (ends : List Ending) : Type 0 where
  pub clash : list_any (kinds_differ p) ends ≡ false
  pub division : list_any (divides_data p) ends ≡ false
  pub index : list_any (is_data_as_index p) ends ≡ false

pub ends_behind : (p : Program) (x : Ending) (ends : List Ending) → EndsWell p (x ∷ ends) → EndsWell p ends
ends_behind p x ends h = record {
  clash = (or_parts (kinds_differ p x) _ h.clash).1;
  division = (or_parts (divides_data p x) _ h.division).1;
  index = (or_parts (is_data_as_index p x) _ h.index).1;
}

no_not : (b : Bool) → not b ≡ false → b ≡ true
no_not true h = refl
no_not false h = absurd (let f : true ≡ false = h in cc)

pub use_clean : (p : Program) (s : Surroundings) (ends : List Ending) (x : List ℕ) (n : ℕ) → slice_get (faults_at p (a_use s ends x n)) 0 ≡ None
    → (has_declared_rank p.decls x n ≡ true) × EndsWell p ends
use_clean p s ends x n h =
    let a = holds (not (is_declared p.decls x)) _ _ h in
    let b = holds (not (has_declared_rank p.decls x n)) _ _ a.1 in
    let c = holds (list_any (kinds_differ p) ends) _ _ b.1 in
    let d = holds (list_any (divides_data p) ends) _ _ c.1 in
    let e = holds (list_any (is_data_as_index p) ends) _ _ d.1 in
    (no_not _ b.0, record { clash = c.0; division = d.0; index = e.0 })

pub exponent_clean : (p : Program) (s : Surroundings) (ends : List Ending) → slice_get (faults_at p (an_exponent s ends)) 0 ≡ None → EndsWell p ends
exponent_clean p s ends h =
    let c = holds (list_any (kinds_differ p) ends) _ _ h in
    let d = holds (list_any (divides_data p) ends) _ _ c.1 in
    let e = holds (list_any (is_data_as_index p) ends) _ _ d.1 in
    record { clash = c.0; division = d.0; index = e.0 }

pub ring_clean : (p : Program) (s : Surroundings) (ends : List Ending) (n : ℕ) → slice_get (faults_at p (a_number s ends n Ring)) 0 ≡ None → EndsWell p ends
ring_clean p s ends n h =
    let c = holds (list_any (kinds_differ p) ends) _ _ h in
    let d = holds (list_any (divides_data p) ends) _ _ c.1 in
    let e = holds (list_any (is_data_as_index p) ends) _ _ d.1 in
    record { clash = c.0; division = d.0; index = e.0 }

pub index_clean : (p : Program) (s : Surroundings) (ends : List Ending) (n : ℕ) → slice_get (faults_at p (a_number s ends n Index)) 0 ≡ None
    → (nat_lt 2147483647 n ≡ false) × EndsWell p ends
index_clean p s ends n h =
    let r = holds (nat_lt 2147483647 n) _ _ h in
    let c = holds (list_any (kinds_differ p) ends) _ _ r.1 in
    let d = holds (list_any (divides_data p) ends) _ _ c.1 in
    let e = holds (list_any (is_data_as_index p) ends) _ _ d.1 in
    (r.0, record { clash = c.0; division = d.0; index = e.0 })

pub target_clean : (p : Program) (s : Surroundings) (x : List ℕ) (n : ℕ) → slice_get (faults_at p (a_target s x n)) 0 ≡ None
    → (has_declared_rank p.decls x n ≡ true) × ((is_read_only_argument p x ≡ false) × (is_varying p x ≡ false))
target_clean p s x n h =
    let a = holds (not (is_declared p.decls x)) _ _ h in
    let b = holds (not (has_declared_rank p.decls x n)) _ _ a.1 in
    let c = holds (is_read_only_argument p x) _ _ b.1 in
    let d = holds (is_varying p x) _ _ c.1 in
    (no_not _ b.0, (c.0, d.0))

pub variable_clean : (p : Program) (s : Surroundings) (x : List ℕ) → slice_get (faults_at p (a_variable s x)) 0 ≡ None → is_local_index_scalar p x ≡ true
variable_clean p s x h =
    let a = holds (not (is_declared p.decls x)) _ _ h in
    let b = holds (not (is_local_index_scalar p x) || has_name x s.vars) _ _ a.1 in
    no_not _ (or_parts (not (is_local_index_scalar p x)) (has_name x s.vars) b.0).0
