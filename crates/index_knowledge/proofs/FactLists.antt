-- Lists of facts.
use Rattle.std.proofs.Common.{◌≡◌, ℕ, suc, ◌<◌, ◌≤◌, true, false, List, [], ◌∷◌, ◌++◌, drop, length, map, get_or, refl, sym, ap, ◌∙◌, subst}
use Rattle.std.proofs.lemmas.List.{drop_all}
use Rattle.std.proofs.Math.Seq.{drop-cons}
use Rattle.fl_types.specs.declared.access.Access.{Access}
use Rattle.index_forms.specs.declared.form.Form as program_form
use Rattle.index_forms.specs.Form.{Form, Forms}
use Rattle.index_forms.specs.Seen.{form_tree}
use Rattle.index_forms.specs.Sums.{minus, differences}
use Rattle.index_forms.specs.Listed.{forms_seen, all_forms_seen}
use Rattle.index_knowledge.specs.declared.fact.Fact.{Fact}
use Rattle.index_knowledge.specs.Knowledge.{KnownFact, is_fact, and_fact, with_facts_of, with_facts}
use Rattle.index_knowledge.specs.Told.{fact_told, facts_told}

abbrev pub F : Type 0
F = List program_form.Form

pub at : {A : Type 0} (xs : List A) (i : ℕ) (x : A) → i < length xs → get_or xs i x ≡ x → drop i xs ≡ x ∷ drop (suc i) xs
at xs i x h g = drop-cons xs i x h ∙ ap (λ z. z ∷ drop (suc i) xs) g

-- ---- differences

told_more : (ds : F) (d : program_form.Form) → map form_tree (ds ++ d ∷ []) ≡ map form_tree ds ++ form_tree d ∷ []
told_more [] d = refl
told_more (e ∷ ds) d = ap (λ (l : List Form). form_tree e ∷ l) (told_more ds d)

assoc : {A : Type 0} (a : List A) (x : A) (b : List A) → (a ++ x ∷ []) ++ b ≡ a ++ x ∷ b
assoc [] x b = refl
assoc (y ∷ a) x b = ap (λ l. y ∷ l) (assoc a x b)

pub none : {A : Type 0} (a : List A) → a ++ [] ≡ a
none [] = refl
none (y ∷ a) = ap (λ l. y ∷ l) (none a)

-- the differences so far, and those of the rest, are all
pub differences_more : (fs gs ds es : F) (i : ℕ) (f g d : program_form.Form) (all : List Form) → i < length fs → get_or fs i f ≡ f → i < length gs → get_or gs i g ≡ g →
    form_tree d ≡ minus (form_tree f) (form_tree g) → es ≡ ds ++ d ∷ [] →
    map form_tree ds ++ differences (forms_seen (drop i fs)) (forms_seen (drop i gs)) ≡ all →
    map form_tree es ++ differences (forms_seen (drop (suc i) fs)) (forms_seen (drop (suc i) gs)) ≡ all
differences_more fs gs ds es i f g d all h p k q e r w =
    let rest = differences (forms_seen (drop (suc i) fs)) (forms_seen (drop (suc i) gs)) in
    ap (λ (l : F). map form_tree l ++ rest) r
    ∙ ap (λ (l : List Form). l ++ rest) (told_more ds d)
    ∙ assoc (map form_tree ds) (form_tree d) rest
    ∙ ap (λ (x : Form). map form_tree ds ++ x ∷ rest) e
    ∙ sym (ap (λ (l : F). map form_tree ds ++ differences (forms_seen l) (forms_seen (drop i gs))) (at fs i f h p)
    ∙ ap (λ (l : F). map form_tree ds ++ differences (forms_seen (f ∷ drop (suc i) fs)) (forms_seen l)) (at gs i g k q))
    ∙ w

pub left_done : (fs gs ds : F) (i : ℕ) (all : List Form) → length fs ≤ i → map form_tree ds ++ differences (forms_seen (drop i fs)) (forms_seen (drop i gs)) ≡ all → map form_tree ds ≡ all
left_done fs gs ds i all h w =
    sym (none (map form_tree ds)) ∙ sym (ap (λ (l : F). map form_tree ds ++ differences (forms_seen l) (forms_seen (drop i gs))) (drop_all i fs h)) ∙ w

short : (fs : F) → differences (forms_seen fs) (forms_seen []) ≡ []
short [] = refl
short (f ∷ fs) = refl

pub right_done : (fs gs ds : F) (i : ℕ) (all : List Form) → length gs ≤ i → map form_tree ds ++ differences (forms_seen (drop i fs)) (forms_seen (drop i gs)) ≡ all → map form_tree ds ≡ all
right_done fs gs ds i all h w =
    sym (none (map form_tree ds)) ∙ sym (ap (λ (l : F). map form_tree ds ++ differences (forms_seen (drop i fs)) (forms_seen l)) (drop_all i gs h) ∙ ap (λ (l : List Form). map form_tree ds ++ l) (short (drop i fs))) ∙ w

-- ---- facts

pub fact_none : (a b : Access) (f g : Forms) (ks : List KnownFact) → is_fact a b ≡ false → ks ≡ and_fact a f b g ks
fact_none a b f g ks h = rw h refl

facts_more : (fs : List Fact) (x : Fact) → facts_told (fs ++ x ∷ []) ≡ facts_told fs ++ fact_told x ∷ []
facts_more [] x = refl
facts_more (y ∷ fs) x = ap (λ (l : List KnownFact). fact_told y ∷ l) (facts_more fs x)

facts_length : (fs : List Fact) → length (facts_told fs) ≡ length fs
facts_length [] = refl
facts_length (y ∷ fs) = ap suc (facts_length fs)

pub fact_made : (a b : Access) (fs gs ds : F) (ks ls : List Fact) (n : ℕ) → is_fact a b ≡ true → n ≡ suc (length ks) → map form_tree ds ≡ differences (forms_seen fs) (forms_seen gs) →
    ls ≡ ks ++ record { number = n; first = a.number; second = b.number; differences = ds } ∷ [] →
    facts_told ls ≡ and_fact a (forms_seen fs) b (forms_seen gs) (facts_told ks)
fact_made a b fs gs ds ks ls n h e d g =
    ap facts_told g ∙ facts_more ks (record { number = n; first = a.number; second = b.number; differences = ds })
    ∙ ap (λ (l : List Form). facts_told ks ++ record { number = n; first = a.number; second = b.number; differences = l } ∷ []) d
    ∙ ap (λ (m : ℕ). facts_told ks ++ record { number = m; first = a.number; second = b.number; differences = differences (forms_seen fs) (forms_seen gs) } ∷ []) (e ∙ ap suc (sym (facts_length ks)))
    ∙ rw h refl

abbrev pub Rows : Type 0
Rows = List (List program_form.Form)

-- one access more
pub row_more : (a : Access) (f : Forms) (bs : List Access) (gs : Rows) (i : ℕ) (b : Access) (g : F) (ks ls all : List KnownFact) → i < length bs → get_or bs i b ≡ b → i < length gs → get_or gs i g ≡ g →
    ls ≡ and_fact a f b (forms_seen g) ks → with_facts_of a f (drop i bs) (all_forms_seen (drop i gs)) ks ≡ all →
    with_facts_of a f (drop (suc i) bs) (all_forms_seen (drop (suc i) gs)) ls ≡ all
row_more a f bs gs i b g ks ls all h p k q e w =
    ap (with_facts_of a f (drop (suc i) bs) (all_forms_seen (drop (suc i) gs))) e
    ∙ sym (ap (λ (l : List Access). with_facts_of a f l (all_forms_seen (drop i gs)) ks) (at bs i b h p)
    ∙ ap (λ (l : Rows). with_facts_of a f (b ∷ drop (suc i) bs) (all_forms_seen l) ks) (at gs i g k q))
    ∙ w

pub row_done : (a : Access) (f : Forms) (bs : List Access) (gs : List Forms) (i : ℕ) (ks all : List KnownFact) → length bs ≤ i → with_facts_of a f (drop i bs) gs ks ≡ all → ks ≡ all
row_done a f bs gs i ks all h w = subst (λ (l : List Access). with_facts_of a f l gs ks ≡ all) (drop_all i bs h) w

pub rows_more : (as' : List Access) (fs : Rows) (bs : List Access) (gs : List Forms) (i : ℕ) (a : Access) (f : F) (ks ls all : List KnownFact) → i < length as' → get_or as' i a ≡ a → i < length fs → get_or fs i f ≡ f →
    ls ≡ with_facts_of a (forms_seen f) bs gs ks → with_facts (drop i as') (all_forms_seen (drop i fs)) bs gs ks ≡ all →
    with_facts (drop (suc i) as') (all_forms_seen (drop (suc i) fs)) bs gs ls ≡ all
rows_more as' fs bs gs i a f ks ls all h p k q e w =
    ap (with_facts (drop (suc i) as') (all_forms_seen (drop (suc i) fs)) bs gs) e
    ∙ sym (ap (λ (l : List Access). with_facts l (all_forms_seen (drop i fs)) bs gs ks) (at as' i a h p)
    ∙ ap (λ (l : Rows). with_facts (a ∷ drop (suc i) as') (all_forms_seen l) bs gs ks) (at fs i f k q))
    ∙ w

pub rows_done : (as' : List Access) (fs : List Forms) (bs : List Access) (gs : List Forms) (i : ℕ) (ks all : List KnownFact) → length as' ≤ i → with_facts (drop i as') fs bs gs ks ≡ all → ks ≡ all
rows_done as' fs bs gs i ks all h w = subst (λ (l : List Access). with_facts l fs bs gs ks ≡ all) (drop_all i as' h) w
