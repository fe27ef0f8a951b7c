-- What the law asks of assignments holds of those of an accepted program.
use Rattle.std.proofs.Common.{◌≡◌, ℕ, Bool, true, false, ◌&&◌, if◌then◌else◌, List, [], ◌∷◌, ◌++◌, flat_map, map, Option, Some, None, sym, subst, ◌∙◌}
use Rattle.std.proofs.lemmas.Bool.{and_parts}
use Rattle.fl_ast.specs.declared.kind.Kind.TheVariants.{Index, Ring}
use Rattle.fl_ast.specs.Tree.{Expression, literal, get, minus, binary, power, call, Expressions, no_expressions, expression, Designator, assignment}
use Rattle.fl_types.specs.declared.choice.Choice.{Choice}
use Rattle.fl_types.specs.Increment.{Signed, target_of, increment_terms}
use Rattle.fl_types.specs.Kinds.{kind_of_name, kind_of_expression, takes_operands, takes_value, is_well_kinded, is_well_kinded_assignment, declared_names}
use Rattle.fl_types.specs.Sharing.{is_ring_name}
use Rattle.fl_types.specs.Declarations.{is_declared}
use Rattle.fl_types.specs.Mentions.{Region}
use Rattle.reachability.specs.Reached.{Edge, IsAmong}
use Rattle.activity.specs.Active.{edge_to, flows_to}
use Rattle.adjoint_rules.specs.Occurrences as rules
use Rattle.adjoint_rules.specs.Needed.{names_in, names_in_all, names_in_terms, names_in_occurrence, edge_from, rest_names}
use Rattle.transposition.specs.Worlds.{is_reduction}
use Rattle.transposition.specs.Law.{Use}
use Rattle.transposition.specs.Needs.{NeedsEach, Quiet, QuietAll, Kinded}
use Rattle.transposition.specs.Sound.{QuietTerms, KindedTerms, Whole, WholeAll, Unmoved, UnmovedTerms, SoundTarget, SoundPlain, SoundIncrement, SoundStore, SoundAssigned}
use Rattle.transposition.specs.Typed.{TypedExpression}
use Rattle.transposition.proofs.WellKinded.{typed_by_kinds}
use Rattle.sound_programs.proofs.Lists.{in_left, in_right, in_map, never, fails, by_cases, itself, other_way, Each, each_both, each_left, each_right, nothing}
use Rattle.sound_programs.proofs.NameReads.{needs_all, needs_terms, all_absent, quiet_of, EachTerm, Parts, Increments, OfIncrement, increment_parts}
use Rattle.sound_programs.proofs.Spreads.{same_occurrences, same_rest, needs_each, places_of, rest_places, reads_of, rest_reads}
use Rattle.sound_programs.proofs.Mentioned.{IsUsable, IsCleanAssignment}
use Rattle.sound_programs.proofs.Setups.{Setup, decls_in, Facts, PartOne, Scene, seen, shown, target_usable, world_at, use_at}
use Rattle.fl_types.specs.Rows.{is_varying}

-- ---- the index kind

mutual
  -- names of the index kind have no tangents
  whole_quiet : (on ring : List ℕ → Bool) (u : Use) (e : Expression) → ((x : List ℕ) → ring x ≡ false → u.moved x ≡ false) → Whole ring e
      → Quiet on u e
  whole_quiet on ring u (literal n k) still h = tt
  whole_quiet on ring u (get x s) still h = λ o. still x h
  whole_quiet on ring u (minus a) still h = whole_quiet on ring u a still h
  whole_quiet on ring u (binary o a b) still h = (whole_quiet on ring u a still h.0, whole_quiet on ring u b still h.1)
  whole_quiet on ring u (power a n) still h = whole_quiet on ring u a still h
  whole_quiet on ring u (call g s) still h = all_whole_quiet on ring u s still h

  all_whole_quiet : (on ring : List ℕ → Bool) (u : Use) (s : Expressions) → ((x : List ℕ) → ring x ≡ false → u.moved x ≡ false)
      → WholeAll ring s → QuietAll on u s
  all_whole_quiet on ring u no_expressions still h = tt
  all_whole_quiet on ring u (expression a s) still h = (whole_quiet on ring u a still h.0, all_whole_quiet on ring u s still h.1)

-- ---- terms

quiet_terms : (on : List ℕ → Bool) (u : Use) (rs : List Signed) → EachTerm (Quiet on u) rs → QuietTerms on u rs
quiet_terms on u [] h = tt
quiet_terms on u (r ∷ rs) h = (h.0, quiet_terms on u rs h.1)

kinded_terms : (ring : List ℕ → Bool) (rs : List Signed) → EachTerm (Kinded ring) rs → KindedTerms ring rs
kinded_terms ring [] h = tt
kinded_terms ring (r ∷ rs) h = (h.0, kinded_terms ring rs h.1)

pub term_names : (P : List ℕ → Type 0) (rs : List Signed) → EachTerm (λ e. Each P (names_in e)) rs → Each P (names_in_terms rs)
term_names P [] h = λ x k. absurd k
term_names P (r ∷ rs) h = each_both P (names_in r.1) (names_in_terms rs) h.0 (term_names P rs h.1)

each_first : (P Q : Expression → Type 0) (rs : List Signed) → EachTerm (λ e. P e × Q e) rs → EachTerm P rs
each_first P Q [] h = tt
each_first P Q (r ∷ rs) h = (h.0.0, each_first P Q rs h.1)

each_second : (P Q : Expression → Type 0) (rs : List Signed) → EachTerm (λ e. P e × Q e) rs → EachTerm Q rs
each_second P Q [] h = tt
each_second P Q (r ∷ rs) h = (h.0.1, each_second P Q rs h.1)

each_given : (A : Type 0) (P : Expression → Type 0) (rs : List Signed) → A → EachTerm (λ e. A → P e) rs → EachTerm P rs
each_given A P [] a h = tt
each_given A P (r ∷ rs) a h = (h.0 a, each_given A P rs a h.1)

-- ---- an assignment

-- what is known of an assignment where it stands
record Standpoint (t : Setup) (vars : List (List ℕ)) (parallel : Option Region) (n l : List ℕ → Bool) (held : List ℕ → Option ℕ) (p : Designator) (e : Expression) : Type 0 where
  pub facts : Facts t
  pub scene : Scene t vars parallel n l held
  pub clean : IsCleanAssignment t.program vars parallel p e
  pub kinds : is_well_kinded_assignment (declared_names (decls_in t)) p e ≡ true

usable_in : (t : Setup) (vars : List (List ℕ)) (parallel : Option Region) (n l : List ℕ → Bool) (held : List ℕ → Option ℕ) (p : Designator) (e : Expression)
    → Standpoint t vars parallel n l held p e → (x : List ℕ) → IsAmong (names_in e) x → IsUsable t.program vars parallel x
usable_in t vars parallel n l held p e h x i = (h.clean.value x i).usable

-- where the target is active, what the increments read is needed
abbrev ReadsNeeded : Setup → Designator → Expression → Option (List Signed) → Type 0
ReadsNeeded t p e o =
    (x : List ℕ) → IsAmong (if t.active p.name then names_in_all p.subscripts ++ flat_map names_in_occurrence
    (rules.assignment_occurrences t.active e o) else []) x → is_declared (decls_in t) x ≡ true → t.needed x ≡ true

-- and where it is needed, what restores it
abbrev RestoresNeeded : Setup → Designator → Option (List Signed) → Type 0
RestoresNeeded t p o =
    (g : Edge (List ℕ)) → IsAmong (map (edge_from p.name) (names_in_all p.subscripts ++ rest_names o)) g
    → is_declared (decls_in t) g.tail ≡ true → is_declared (decls_in t) g.head ≡ true → t.needed g.tail ≡ true → t.needed g.head ≡ true

abbrev FlowsOn : Setup → Designator → Expression → Type 0
FlowsOn t p e =
    (g : Edge (List ℕ)) → IsAmong (if is_ring_name (decls_in t) p.name then flows_to (is_ring_name (decls_in t)) p.name e else []) g
    → is_declared (decls_in t) g.tail ≡ true → is_declared (decls_in t) g.head ≡ true
    → (t.moved g.tail ≡ true → t.moved g.head ≡ true) × (t.useful g.head ≡ true → t.useful g.tail ≡ true)

active_reads : (t : Setup) (p : Designator) (e : Expression) (o : Option (List Signed)) → ReadsNeeded t p e o → t.active p.name ≡ true
    → (x : List ℕ) → IsAmong (names_in_all p.subscripts ++ flat_map names_in_occurrence (rules.assignment_occurrences t.active e o)) x
    → is_declared (decls_in t) x ≡ true → t.needed x ≡ true
active_reads t p e o r a x i k =
    r x (subst (λ b. IsAmong (if b then names_in_all p.subscripts ++ flat_map names_in_occurrence
    (rules.assignment_occurrences t.active e o) else []) x) (sym a) i) k

target_sound : (t : Setup) (vars : List (List ℕ)) (parallel : Option Region) (n l : List ℕ → Bool) (held : List ℕ → Option ℕ) (outer : List (List ℕ))
    (accessed pluses : List ℕ → Bool) (choice : List ℕ → Choice) (p : Designator) (e : Expression) (o : Option (List Signed))
    → Standpoint t vars parallel n l held p e → ReadsNeeded t p e o → RestoresNeeded t p o
    → (t.active p.name ≡ true → is_reduction (choice p.name) ≡ false) → SoundTarget (world_at t outer accessed pluses choice) (use_at t n l held) p
target_sound t vars parallel n l held outer accessed pluses choice p e o h reads restores summed = record {
  subscripts = λ a. needs_all (use_at t n l held) p.subscripts (λ x i.
      let k = (h.clean.subscripts x i).usable in
      seen t vars parallel n l held h.scene x
      (active_reads t p e o reads a x
      (in_left (names_in_all p.subscripts) (flat_map names_in_occurrence (rules.assignment_occurrences t.active e o)) x i) k.known) k);
  undone = λ d. needs_all (use_at t n l held) p.subscripts (λ x i.
      let k = (h.clean.subscripts x i).usable in
      seen t vars parallel n l held h.scene x
      (restores (edge_from p.name x)
      (in_map (edge_from p.name) (names_in_all p.subscripts ++ rest_names o) x (in_left (names_in_all p.subscripts) (rest_names o) x i))
      h.clean.target.known k.known d) k);
  free = all_absent p.name p.subscripts (λ x i. other_way p.name x (h.clean.subscripts x i).other);
  unheld = nothing (held p.name) (λ m e. never (is_varying t.program p.name) (h.scene.varying p.name (h.scene.around p.name m e)) h.clean.target.fixed);
  pushed = λ d. h.scene.needed p.name d h.clean.target.fixed;
  live = by_cases (t.active p.name) (λ a. live a ∙ sym a) (λ a. fails (l p.name) (λ d. never (t.active p.name) (h.scene.live p.name d) a) ∙ sym a);
  ring = h.facts.ring p.name;
  summed = summed;
}
  where
    live : t.active p.name ≡ true → l p.name ≡ true
    live a = shown t h.facts vars parallel n l held h.scene p.name a (target_usable t.program vars parallel p.name h.clean.target)

value_known : (t : Setup) (vars : List (List ℕ)) (parallel : Option Region) (n l : List ℕ → Bool) (held : List ℕ → Option ℕ) (p : Designator) (e : Expression)
    → Standpoint t vars parallel n l held p e → (x : List ℕ) → IsAmong (names_in e) x → is_declared (decls_in t) x ≡ true
value_known t vars parallel n l held p e h x i = (h.clean.value x i).usable.known

-- a name on the right of an active one has an adjoint or no tangent
quiet_value : (t : Setup) (vars : List (List ℕ)) (parallel : Option Region) (n l : List ℕ → Bool) (held : List ℕ → Option ℕ) (p : Designator) (e : Expression)
    → Standpoint t vars parallel n l held p e → FlowsOn t p e → t.active p.name ≡ true → Quiet t.active (use_at t n l held) e
quiet_value t vars parallel n l held p e h flown a =
    quiet_of t.active (is_ring_name (decls_in t)) (use_at t n l held) p.name e h.facts.still (λ x i j o.
    fails (t.moved x) (λ m.
    let g = flown (edge_to p.name x)
    (subst (λ b. IsAmong (if b then flows_to (is_ring_name (decls_in t)) p.name e else []) (edge_to p.name x))
    (sym (h.facts.ring p.name a)) j) (value_known t vars parallel n l held p e h x i) h.clean.target.known in
    never (t.active x) (h.facts.both x m (g.1 (h.facts.parts p.name a).1)) o))

kind_value : (t : Setup) (p : Designator) (e : Expression) → is_well_kinded_assignment (declared_names (decls_in t)) p e ≡ true
    → is_well_kinded (declared_names (decls_in t)) e ≡ true
kind_value t p e h = (and_parts (is_well_kinded (declared_names (decls_in t)) (target_of p))
    (is_well_kinded (declared_names (decls_in t)) e)
    (and_parts _ (is_well_kinded (declared_names (decls_in t)) (target_of p) && is_well_kinded (declared_names (decls_in t)) e) h).1).1

whole_value : (t : Setup) (p : Designator) (e : Expression) → is_well_kinded_assignment (declared_names (decls_in t)) p e ≡ true
    → is_ring_name (decls_in t) p.name ≡ false → Whole (is_ring_name (decls_in t)) e
whole_value t p e h r =
    (typed_by_kinds (declared_names (decls_in t)) e (kind_value t p e h)).whole
    (subst (λ b. takes_value (if b then Ring else Index) (kind_of_expression (declared_names (decls_in t)) e) ≡ true) r
    (and_parts (takes_value (kind_of_name (declared_names (decls_in t)) p.name) (kind_of_expression (declared_names (decls_in t)) e))
    (is_well_kinded (declared_names (decls_in t)) (target_of p) && is_well_kinded (declared_names (decls_in t)) e) h).0)

-- and nothing on the right of one that doesn't move has a tangent
still_value : (t : Setup) (vars : List (List ℕ)) (parallel : Option Region) (n l : List ℕ → Bool) (held : List ℕ → Option ℕ) (p : Designator) (e : Expression)
    → Standpoint t vars parallel n l held p e → FlowsOn t p e → t.moved p.name ≡ false → Unmoved (use_at t n l held) e
still_value t vars parallel n l held p e h flown m =
    by_cases (is_ring_name (decls_in t) p.name)
    (λ r. quiet_of (λ x. false) (is_ring_name (decls_in t)) (use_at t n l held) p.name e h.facts.still (λ x i j o.
    fails (t.moved x) (λ k.
    let g = flown (edge_to p.name x)
    (subst (λ b. IsAmong (if b then flows_to (is_ring_name (decls_in t)) p.name e else []) (edge_to p.name x)) (sym r) j)
    (value_known t vars parallel n l held p e h x i) h.clean.target.known in
    never (t.moved p.name) (g.0 k) m)))
    (λ r. whole_quiet (λ x. false) (is_ring_name (decls_in t)) (use_at t n l held) e h.facts.still (whole_value t p e h.kinds r))

plain_sound : (t : Setup) (vars : List (List ℕ)) (parallel : Option Region) (n l : List ℕ → Bool) (held : List ℕ → Option ℕ) (outer : List (List ℕ))
    (accessed pluses : List ℕ → Bool) (choice : List ℕ → Choice) (p : Designator) (e : Expression)
    → Standpoint t vars parallel n l held p e → ReadsNeeded t p e None → RestoresNeeded t p None → FlowsOn t p e
    → (t.active p.name ≡ true → is_reduction (choice p.name) ≡ false)
    → SoundPlain (world_at t outer accessed pluses choice) (use_at t n l held) p e × SoundStore (world_at t outer accessed pluses choice)
    (use_at t n l held) p e
plain_sound t vars parallel n l held outer accessed pluses choice p e h reads restores flown summed = (
  record {
    target = target_sound t vars parallel n l held outer accessed pluses choice p e None h reads restores summed;
    amounts = λ a. subst (NeedsEach (use_at t n l held)) (sym (same_occurrences t.active e false []))
        (needs_each (use_at t n l held) (rules.occurrences t.active e false []) (places_of (λ x. l x ≡ true) t.active e (live a) false [])
        (λ x i. read a x i (usable x i)));
    quiet = λ a. quiet_value t vars parallel n l held p e h flown a;
    kinds = λ a. kinded.kinds;
  },
  record {
    literals = kinded.literals;
    whole = λ r. whole_value t p e h.kinds r;
    still = λ m. still_value t vars parallel n l held p e h flown m;
  },
)
  where
    kinded : TypedExpression (declared_names (decls_in t)) e
    kinded = typed_by_kinds (declared_names (decls_in t)) e (kind_value t p e h.kinds)

    live : t.active p.name ≡ true → (x : List ℕ) → IsAmong (names_in e) x → t.active x ≡ true → l x ≡ true
    live a x i k = shown t h.facts vars parallel n l held h.scene x k (usable_in t vars parallel n l held p e h x i)

    usable : (x : List ℕ) → IsAmong (flat_map names_in_occurrence (rules.occurrences t.active e false [])) x → IsUsable t.program vars parallel x
    usable = reads_of (IsUsable t.program vars parallel) t.active e (usable_in t vars parallel n l held p e h) false [] (λ x i. absurd i)

    read : t.active p.name ≡ true → (x : List ℕ) → IsAmong (flat_map names_in_occurrence (rules.occurrences t.active e false [])) x
        → IsUsable t.program vars parallel x → n x ≡ true
    read a x i k =
        seen t vars parallel n l held h.scene x
        (active_reads t p e None reads a x
        (in_right (names_in_all p.subscripts) (flat_map names_in_occurrence (rules.occurrences t.active e false [])) x i) k.known) k

-- what each term of an increment meets
abbrev OfTerm : Setup → List (List ℕ) → Option Region → (n l : List ℕ → Bool) (held : List ℕ → Option ℕ) → Designator → Expression → Type 0
OfTerm t vars parallel n l held p a =
    (t.active p.name ≡ true → Quiet t.active (use_at t n l held) a) ×
    ((t.moved p.name ≡ false → Unmoved (use_at t n l held) a) ×
    ((is_well_kinded (declared_names (decls_in t)) a ≡ true) × Each (IsUsable t.program vars parallel) (names_in a)))

term_parts : (t : Setup) (vars : List (List ℕ)) (parallel : Option Region) (n l : List ℕ → Bool) (held : List ℕ → Option ℕ) (p : Designator)
    → Parts (OfTerm t vars parallel n l held p)
term_parts t vars parallel n l held p o a b h =
    let names = declared_names (decls_in t) in
    let k = and_parts (is_well_kinded names a) (is_well_kinded names b)
    (and_parts (takes_operands o (kind_of_expression names a) (kind_of_expression names b))
    (is_well_kinded names a && is_well_kinded names b) h.1.1.0).1 in (
      ((λ g. (h.0 g).0), ((λ g. (h.1.0 g).0), (k.0, each_left (IsUsable t.program vars parallel) (names_in a) (names_in b) h.1.1.1))),
      ((λ g. (h.0 g).1), ((λ g. (h.1.0 g).1), (k.1, each_right (IsUsable t.program vars parallel) (names_in a) (names_in b) h.1.1.1))),
    )

terms_kinded : (t : Setup) (rs : List Signed) → EachTerm (λ a. is_well_kinded (declared_names (decls_in t)) a ≡ true) rs
    → EachTerm (Kinded (is_ring_name (decls_in t))) rs
terms_kinded t [] h = tt
terms_kinded t (r ∷ rs) h = ((typed_by_kinds (declared_names (decls_in t)) r.1 h.0).kinds, terms_kinded t rs h.1)

increment_sound : (t : Setup) (vars : List (List ℕ)) (parallel : Option Region) (n l : List ℕ → Bool) (held : List ℕ → Option ℕ) (outer : List (List ℕ))
    (accessed pluses : List ℕ → Bool) (choice : List ℕ → Choice) (p : Designator) (e : Expression) (rs : List Signed)
    → Standpoint t vars parallel n l held p e → ReadsNeeded t p e (Some rs) → RestoresNeeded t p (Some rs)
    → (t.active p.name ≡ true → is_reduction (choice p.name) ≡ false)
    → Increments (OfTerm t vars parallel n l held p) (is_ring_name (decls_in t)) p.name rs
    → SoundIncrement (world_at t outer accessed pluses choice) (use_at t n l held) p rs × (t.moved p.name ≡ false → UnmovedTerms (use_at t n l held) rs)
increment_sound t vars parallel n l held outer accessed pluses choice p e rs h reads restores summed i = (
  record {
    target = target_sound t vars parallel n l held outer accessed pluses choice p e (Some rs) h reads restores summed;
    amounts = λ a.
        subst (NeedsEach (use_at t n l held)) (sym (same_rest t.active rs))
        (needs_each (use_at t n l held) (rules.rest_occurrences t.active rs)
        (rest_places (λ x. l x ≡ true) t.active rs (λ x j k. shown t h.facts vars parallel n l held h.scene x k (usable x j)))
        (λ x j. read a x j (rest_reads (IsUsable t.program vars parallel) t.active rs usable x j)));
    quiet = λ a. quiet_terms t.active (use_at t n l held) rs
        (each_given (t.active p.name ≡ true) (Quiet t.active (use_at t n l held)) rs a
        (each_first (λ b. t.active p.name ≡ true → Quiet t.active (use_at t n l held) b) Rest rs i.each));
    kinds = λ a. kinded_terms (is_ring_name (decls_in t)) rs
        (terms_kinded t rs (each_first WellKinded Usable rs
        (each_second Unmoving (λ b. WellKinded b × Usable b) rs (each_second Quieting Rest rs i.each))));
    terms = λ d. needs_terms (use_at t n l held) rs (λ x j.
        let k = usable x j in
        seen t vars parallel n l held h.scene x
        (restores (edge_from p.name x)
        (in_map (edge_from p.name) (names_in_all p.subscripts ++ names_in_terms rs) x
        (in_right (names_in_all p.subscripts) (names_in_terms rs) x j)) h.clean.target.known k.known d) k);
    apart = i.free;
    whole = i.ring_target;
  },
  λ m. quiet_terms (λ x. false) (use_at t n l held) rs
      (each_given (t.moved p.name ≡ false) (Quiet (λ x. false) (use_at t n l held)) rs m
      (each_first Unmoving (λ b. WellKinded b × Usable b) rs (each_second Quieting Rest rs i.each))),
)
  where
    Quieting : Expression → Type 0
    Quieting b = t.active p.name ≡ true → Quiet t.active (use_at t n l held) b

    Unmoving : Expression → Type 0
    Unmoving b = t.moved p.name ≡ false → Unmoved (use_at t n l held) b

    WellKinded : Expression → Type 0
    WellKinded b = is_well_kinded (declared_names (decls_in t)) b ≡ true

    Usable : Expression → Type 0
    Usable b = Each (IsUsable t.program vars parallel) (names_in b)

    Rest : Expression → Type 0
    Rest b = Unmoving b × (WellKinded b × Usable b)

    usable : Each (IsUsable t.program vars parallel) (names_in_terms rs)
    usable = term_names (IsUsable t.program vars parallel) rs
        (each_second WellKinded Usable rs (each_second Unmoving (λ b. WellKinded b × Usable b) rs (each_second Quieting Rest rs i.each)))

    read : t.active p.name ≡ true → (x : List ℕ) → IsAmong (flat_map names_in_occurrence (rules.rest_occurrences t.active rs)) x
        → IsUsable t.program vars parallel x → n x ≡ true
    read a x j k =
        seen t vars parallel n l held h.scene x
        (active_reads t p e (Some rs) reads a x
        (in_right (names_in_all p.subscripts) (flat_map names_in_occurrence (rules.rest_occurrences t.active rs)) x j) k.known) k

assigned_by : (t : Setup) (vars : List (List ℕ)) (parallel : Option Region) (n l : List ℕ → Bool) (held : List ℕ → Option ℕ) (outer : List (List ℕ))
    (accessed pluses : List ℕ → Bool) (choice : List ℕ → Choice) (p : Designator) (e : Expression) (o : Option (List Signed))
    → Standpoint t vars parallel n l held p e → ReadsNeeded t p e o → RestoresNeeded t p o → FlowsOn t p e
    → (t.active p.name ≡ true → is_reduction (choice p.name) ≡ false)
    → OfIncrement (OfTerm t vars parallel n l held p) (is_ring_name (decls_in t)) p.name o
    → SoundAssigned (world_at t outer accessed pluses choice) (use_at t n l held) p e o
assigned_by t vars parallel n l held outer accessed pluses choice p e None h reads restores flown summed i =
    plain_sound t vars parallel n l held outer accessed pluses choice p e h reads restores flown summed
assigned_by t vars parallel n l held outer accessed pluses choice p e (Some rs) h reads restores flown summed i =
    increment_sound t vars parallel n l held outer accessed pluses choice p e rs h reads restores summed i

pub assignment_sound : (t : Setup) → Facts t → (vars : List (List ℕ)) (parallel : Option Region) (n l : List ℕ → Bool) (held : List ℕ → Option ℕ)
    → Scene t vars parallel n l held → (outer : List (List ℕ)) (accessed pluses : List ℕ → Bool) (choice : List ℕ → Choice) (line : ℕ)
    (atomic : Bool) (p : Designator) (e : Expression)
    → IsCleanAssignment t.program vars parallel p e → is_well_kinded_assignment (declared_names (decls_in t)) p e ≡ true
    → PartOne t choice (assignment line atomic p e)
    → SoundAssigned (world_at t outer accessed pluses choice) (use_at t n l held) p e (increment_terms (is_ring_name (decls_in t)) p e)
assignment_sound t f vars parallel n l held scene outer accessed pluses choice line atomic p e clean kinds part =
    assigned_by t vars parallel n l held outer accessed pluses choice p e (increment_terms (is_ring_name (decls_in t)) p e) h part.read
    part.restored part.flown (part.summed p.name (itself p.name))
    (increment_parts (OfTerm t vars parallel n l held p) (term_parts t vars parallel n l held p) (is_ring_name (decls_in t)) p e (
      (λ a. quiet_value t vars parallel n l held p e h part.flown a),
      ((λ m. still_value t vars parallel n l held p e h part.flown m), (kind_value t p e kinds, usable_in t vars parallel n l held p e h)),
    ))
  where
    h : Standpoint t vars parallel n l held p e
    h = record { facts = f; scene = scene; clean = clean; kinds = kinds }
