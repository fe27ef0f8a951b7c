-- What a first declaration says of all.
use Rattle.std.proofs.Common.{◌≡◌, ℕ, Bool, true, false, ◌&&◌, ◌||◌, if◌then◌else◌, List, [], ◌∷◌, length, is_some, Option, Some, None, nat_eq, bytes_eq, refl, sym, ap, ◌∙◌}
use Rattle.std.proofs.lemmas.Bool.{and_from, or_left, or_right}
use Rattle.std.proofs.lemmas.Slice.Eq.{bytes_eq-Decides}
use Rattle.std.specs.Bool.{one_answer}
use Rattle.fl_ast.specs.declared.decl.Decl.{Decl}
use Rattle.fl_types.specs.Kinds.{has_declared_rank}
use Rattle.fl_types.specs.Declarations.{is_declared}
use Rattle.fl_types.specs.WellTyped.{declaration_of}

turned : (x y : List ℕ) → bytes_eq x y ≡ bytes_eq y x
turned x y = one_answer (bytes_eq x y) (bytes_eq y x) (bytes_eq-Decides x y) ((λ h. sym ((bytes_eq-Decides y x).0 h)), (λ e. (bytes_eq-Decides y x).1 (sym e)))

declared_at : (a b : Bool) → a ≡ b → (d : Decl) (o : Option Decl) (r : Bool) → is_some o ≡ r → is_some (if a then Some d else o) ≡ (b || r)
declared_at true true h d o r i = refl
declared_at true false h d o r i = absurd (let f : true ≡ false = h in cc)
declared_at false true h d o r i = absurd (let f : true ≡ false = sym h in cc)
declared_at false false h d o r i = i

-- a name is declared where it has a first declaration
declared_is : (ds : List Decl) (x : List ℕ) → is_some (declaration_of ds x) ≡ is_declared ds x
declared_is [] x = refl
declared_is (d ∷ ds) x = declared_at (bytes_eq x d.name) (bytes_eq d.name x) (turned x d.name) d (declaration_of ds x) (is_declared ds x) (declared_is ds x)

pub declared_some : (ds : List Decl) (x : List ℕ) (d : Decl) → declaration_of ds x ≡ Some d → true ≡ is_declared ds x
declared_some ds x d h = sym (ap is_some h) ∙ declared_is ds x

pub declared_none : (ds : List Decl) (x : List ℕ) → declaration_of ds x ≡ None → false ≡ is_declared ds x
declared_none ds x h = sym (ap is_some h) ∙ declared_is ds x

-- the first declaration is one
ranked_at : (b : Bool) (d first : Decl) (ds : List Decl) (x : List ℕ) (n : ℕ) → bytes_eq x d.name ≡ b
    → (declaration_of ds x ≡ Some first → has_declared_rank ds x n ≡ true)
    → (if b then Some d else declaration_of ds x) ≡ Some first → nat_eq (length first.dims) n ≡ true → has_declared_rank (d ∷ ds) x n ≡ true
ranked_at true d first ds x n e k h r =
    let same : d ≡ first = cc in
    or_left _ _ (and_from _ _ e (ap (λ (c : Decl). nat_eq (length c.dims) n) same ∙ r))
ranked_at false d first ds x n e k h r = or_right _ _ (k h)

pub ranked : (ds : List Decl) (x : List ℕ) (n : ℕ) (first : Decl) → declaration_of ds x ≡ Some first → nat_eq (length first.dims) n ≡ true → has_declared_rank ds x n ≡ true
ranked [] x n first h r = absurd (let f : None ≡ Some first = h in cc)
ranked (d ∷ ds) x n first h r = ranked_at (bytes_eq x d.name) d first ds x n refl (λ g. ranked ds x n first g r) h r
