-- The forms of a loop's accesses, by its scene.
use Rattle.std.proofs.Common.{◌≡◌, ℕ, suc, Bool, List, [], ◌∷◌, length, map, Option, refl, sym, ap, ◌∙◌}
use Rattle.fl_ast.specs.declared.decl.Decl.{Decl}
use Rattle.fl_ast.specs.Tree.{Statements}
use Rattle.fl_types.specs.declared.access.Access.{Access}
use Rattle.fl_types.specs.Accesses.{Scope, Occurrence, loop_accesses}
use Rattle.index_forms.specs.declared.form.Form as program_form
use Rattle.index_forms.specs.declared.form.Side.{Side}
use Rattle.index_forms.specs.declared.form.Side.TheVariants.{One, Two}
use Rattle.index_forms.specs.declared.scene.Scene.{Scene}
use Rattle.index_forms.specs.Form.{Forms}
use Rattle.index_forms.specs.Listed.{forms_seen, all_forms_seen}
use Rattle.index_forms.specs.Loops.{HeadedLoop, inside, further, forms_scope, is_fixed}
use Rattle.index_forms.specs.Scenes.{setting_there, known_there, is_fixed_there}
use Rattle.index_forms.specs.Walk.{with_statements, loop_forms}
use Rattle.index_knowledge.specs.Knowledge.{KnownFact, facts}
use Rattle.index_ranges.specs.Ranges.{KnownRange, ranges_in}
use Rattle.loop_scenes.specs.Turns.{last_turn_of}
use Rattle.certificate_rules.specs.Surveys.{Survey, count_of}
use Rattle.loop_accesses.specs.Numbers.{numbered}
use Rattle.loop_scenes.specs.Rights.{rights_in}
use Rattle.loop_scenes.specs.Scened.{scene_by, scope_there}
use Rattle.loop_scenes.proofs.Scenes.{scope_is, fixed_is, forms_are}
use Rattle.loop_pairs.specs.Known.{bare, bare_accesses, survey_by}
use Rattle.loop_pairs.proofs.Ranks.{rank_of, loop_counts}

pub forms_made : (side : Side) (decls ds : List Decl) (h : HeadedLoop) (s : Scene) (ss : Statements) (fs : List Forms) → s ≡ scene_by side ds h → ds ≡ decls → ss ≡ inside h →
    fs ≡ with_statements (setting_there s) 1 (known_there s []) ss [] → fs ≡ loop_forms decls h side
forms_made side decls ds h s ss fs e d b m =
    m ∙ (ap (λ (t : Scene). with_statements (setting_there t) 1 (known_there t []) ss []) e
    ∙ (ap (λ (t : Statements). with_statements (setting_there (scene_by side ds h)) 1 (known_there (scene_by side ds h) []) t []) b
    ∙ (forms_are side ds h ∙ ap (λ (t : List Decl). loop_forms t h side) d)))

pub rights_made : (side : Side) (decls ds : List Decl) (on : List ℕ → Bool) (h : HeadedLoop) (s : Scene) (ss : Statements) (bs : List Bool) → s ≡ scene_by side ds h → ds ≡ decls → ss ≡ inside h →
    bs ≡ rights_in (scope_there s) on ss → bs ≡ rights_in (forms_scope decls h) on (inside h)
rights_made side decls ds on h s ss bs e d b m =
    m ∙ (ap (λ (t : Scene). rights_in (scope_there t) on ss) e
    ∙ (ap (λ (t : Statements). rights_in (scope_there (scene_by side ds h)) on t) b
    ∙ (ap (λ (c : Scope). rights_in c on (inside h)) (scope_is side ds h) ∙ ap (λ (t : List Decl). rights_in (forms_scope t h) on (inside h)) d)))

pub fixed_made : (side : Side) (decls ds : List Decl) (h : HeadedLoop) (s : Scene) → s ≡ scene_by side ds h → ds ≡ decls → is_fixed_there s ≡ is_fixed decls h
fixed_made side decls ds h s e d = ap is_fixed_there e ∙ (fixed_is side ds h ∙ ap (λ (t : List Decl). is_fixed t h) d)

-- ---- as many forms as accesses

length_map : {A B : Type 0} (f : A → B) (xs : List A) → length (map f xs) ≡ length xs
length_map f [] = refl
length_map f (x ∷ xs) = ap suc (length_map f xs)

numbered_length : (l n : ℕ) (os : List Occurrence) → length (numbered l n os) ≡ length os
numbered_length l n [] = refl
numbered_length l n (o ∷ os) = ap suc (numbered_length l (suc n) os)

pub as_many : (decls : List Decl) (h : HeadedLoop) (side : Side) (fs : List Forms) (as' : List Access) → fs ≡ loop_forms decls h side → as' ≡ bare_accesses decls h.loop → length fs ≡ length as'
as_many decls h side fs as' e d =
    ap length e ∙ (sym (length_map count_of (loop_forms decls h side)) ∙ (ap length (loop_counts decls h side) ∙ (length_map rank_of (loop_accesses decls h.loop)
    ∙ (sym (numbered_length h.loop.number 1 (loop_accesses decls h.loop)) ∙ (sym (length_map bare (numbered h.loop.number 1 (loop_accesses decls h.loop))) ∙ sym (ap length d))))))

pub seen_length : (fss : List (List program_form.Form)) → length (all_forms_seen fss) ≡ length fss
seen_length fss = length_map forms_seen fss

pub facts_at : (as' bs : List Access) (fs gs hs is : List Forms) → as' ≡ bs → fs ≡ gs → hs ≡ is → facts as' fs hs ≡ facts bs gs is
facts_at as' bs fs gs hs is a f h = ap (λ (l : List Access). facts l fs hs) a ∙ (ap (λ (l : List Forms). facts bs l hs) f ∙ ap (λ (l : List Forms). facts bs gs l) h)

abbrev surveyed : List Access → (fs gs : List Forms) → (List ℕ → Bool) → List KnownFact → List KnownRange → Option ℕ → Survey
surveyed as' fs gs x ks rs m = record { accesses = as'; ones = fs; twos = gs; fixed = x; facts = ks; ranges = rs; second = m }

-- a survey by its parts
pub survey_made : (decls : List Decl) (l : HeadedLoop) (as' : List Access) (fs gs : List Forms) (x : List ℕ → Bool) (ks : List KnownFact) (rs : List KnownRange) (m : Option ℕ) → as' ≡ bare_accesses decls l.loop →
    fs ≡ loop_forms decls l One → gs ≡ loop_forms decls l Two → x ≡ is_fixed decls l → ks ≡ facts as' fs gs → rs ≡ ranges_in (inside l) → m ≡ last_turn_of (further l) → surveyed as' fs gs x ks rs m ≡ survey_by decls l
survey_made decls l as' fs gs x ks rs m a f g e k r n =
    let all : ks ≡ facts (bare_accesses decls l.loop) (loop_forms decls l One) (loop_forms decls l Two) = k ∙ facts_at as' (bare_accesses decls l.loop) fs (loop_forms decls l One) gs (loop_forms decls l Two) a f g in
    let s = survey_by decls l in
    ap (λ (z : List Access). surveyed z fs gs x ks rs m) a
    ∙ (ap (λ (z : List Forms). surveyed s.accesses z gs x ks rs m) f
    ∙ (ap (λ (z : List Forms). surveyed s.accesses s.ones z x ks rs m) g
    ∙ (ap (λ (z : List ℕ → Bool). surveyed s.accesses s.ones s.twos z ks rs m) e
    ∙ (ap (λ (z : List KnownFact). surveyed s.accesses s.ones s.twos s.fixed z rs m) all
    ∙ (ap (λ (z : List KnownRange). surveyed s.accesses s.ones s.twos s.fixed s.facts z m) r
    ∙ ap (λ (z : Option ℕ). surveyed s.accesses s.ones s.twos s.fixed s.facts s.ranges z) n)))))
