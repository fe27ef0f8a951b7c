-- Lines that show forms to be 0, step by step.
use Rattle.std.proofs.Common.{◌≡◌, ℕ, suc, ◌+◌, ◌<◌, List, [], ◌∷◌, ◌++◌, drop, length, get_or, map, Option, Some, None, refl, sym, ap, ◌∙◌, arith}
use Rattle.std.proofs.Math.Seq.{drop-cons}
use Rattle.std.proofs.lemmas.List.{length-map}
use Rattle.certificate.specs.declared.derivation.Line as program_line
use Rattle.index_forms.specs.declared.form.Form as program_form
use Rattle.fl_types.specs.declared.access.Access.{Access}
use Rattle.index_forms.specs.Form.{Forms}
use Rattle.index_forms.specs.Sums.{differences}
use Rattle.index_forms.specs.Seen.{form_tree}
use Rattle.index_knowledge.specs.Knowledge.{KnownPair}
use Rattle.certificate_rules.specs.Derivations.{Line}
use Rattle.certificate_rules.specs.Surveys.{Survey}
use Rattle.certificate_rules.specs.Plain.{lines_for, Elements, least_read, Shown, shown_cong, shown_elements, shown, AllShown, and_shown, after_shown, all_shown}
use Rattle.acceptance.specs.Told.{line_told}
use Rattle.disjoint_prover.specs.Aparts.{read_by}
use Rattle.disjoint_prover.specs.ShownLines.{behind, all_behind}
use Rattle.disjoint_prover.proofs.GrownLines.{assoc}

abbrev pub Ls : Type 0
Ls = List program_line.Line

told-push : (ls : Ls) (l : program_line.Line) → map line_told (ls ++ l ∷ []) ≡ map line_told ls ++ line_told l ∷ []
told-push [] l = refl
told-push (k ∷ ls) l = ap (λ (z : List Line). line_told k ∷ z) (told-push ls l)

join-length : (xs ys : List Line) → length (xs ++ ys) ≡ length xs + length ys
join-length [] ys = omega arith
join-length (x ∷ xs) ys = let p = join-length xs ys in omega (arith, p)

assoc-all : {A : Type 0} (xs ys zs : List A) → (xs ++ ys) ++ zs ≡ xs ++ (ys ++ zs)
assoc-all [] ys zs = refl
assoc-all (x ∷ xs) ys zs = ap (λ l. x ∷ l) (assoc-all xs ys zs)

-- how many lines are added
grown-length : (old mid : Ls) (ls : List Line) → map line_told mid ≡ map line_told old ++ ls → length mid ≡ length old + length ls
grown-length old mid ls e = omega (arith, length-map mid line_told, length-map old line_told, ap length e, join-length (map line_told old) ls)

abbrev pub R : Type 0
R = Option (List Line × ℕ)

pub elements-shown : (s : Survey) (p : KnownPair) (T : List Line) (n : ℕ) (e : Elements) (as' : List Access) (us vs : List Forms) (a b : Option ℕ) (r : R) → as' ≡ s.accesses → us ≡ s.ones → vs ≡ s.twos →
    a ≡ least_read (read_by s.fixed as' us) e.name e.ones 1 (length as') → b ≡ least_read (read_by s.fixed as' vs) e.name e.twos 1 (length as') →
    r ≡ behind T (shown_cong n a b (lines_for p (differences e.ones e.twos))) → r ≡ behind T (shown_elements s p n (Some e))
elements-shown s p T n e as' us vs a b r h i j k l q =
    q ∙ ap (λ (z : Option ℕ). behind T (shown_cong n z b (lines_for p (differences e.ones e.twos)))) (k ∙ ap (λ (z : List Access). least_read (read_by s.fixed z us) e.name e.ones 1 (length z)) h ∙ ap (λ (z : List Forms). least_read (read_by s.fixed s.accesses z) e.name e.ones 1 (length s.accesses)) i)
    ∙ ap (λ (z : Option ℕ). behind T (shown_cong n (least_read (read_by s.fixed s.accesses s.ones) e.name e.ones 1 (length s.accesses)) z (lines_for p (differences e.ones e.twos))))
    (l ∙ ap (λ (z : List Access). least_read (read_by s.fixed z vs) e.name e.twos 1 (length z)) h ∙ ap (λ (z : List Forms). least_read (read_by s.fixed s.accesses z) e.name e.twos 1 (length s.accesses)) j)

-- ---- all forms

abbrev pub F : Type 0
F = List program_form.Form

abbrev pub A : Type 0
A = Option (List Line × List ℕ)

all-front : (s : Survey) (p : KnownPair) (n : ℕ) (fs : F) (i : ℕ) (f : program_form.Form) → i < length fs → get_or fs i f ≡ f →
    all_shown s p n (map form_tree (drop i fs)) ≡ after_shown n (shown s p n (form_tree f)) (λ m. all_shown s p m (map form_tree (drop (suc i) fs)))
all-front s p n fs i f h e = rw (drop-cons fs i f h, e) refl

joined : (T U : List Line) (ns ms : List ℕ) (w : Shown) (last : ℕ) (r : Option AllShown) → U ≡ T ++ w.lines → last ≡ w.last → ms ≡ ns ++ last ∷ [] → all_behind U ms r ≡ all_behind T ns (and_shown w r)
joined T U ns ms w last None e h d = refl
joined T U ns ms w last (Some r) e h d =
    ap (λ (z : List Line). Some (z ++ r.lines, ms ++ r.lasts)) e ∙ ap (λ (z : List Line). Some (z, ms ++ r.lasts)) (assoc-all T w.lines r.lines)
    ∙ ap (λ (z : List ℕ). Some (T ++ (w.lines ++ r.lines), z ++ r.lasts)) d ∙ ap (λ (z : List ℕ). Some (T ++ (w.lines ++ r.lines), z)) (assoc ns last r.lasts)
    ∙ ap (λ (z : ℕ). Some (T ++ (w.lines ++ r.lines), ns ++ z ∷ r.lasts)) h

abbrev lines-in : List Line → Option (List Line × ℕ) → List Line
lines-in ls None = ls
lines-in ls (Some r) = r.0

abbrev last-in : ℕ → Option (List Line × ℕ) → ℕ
last-in n None = n
last-in n (Some r) = r.1

same-pair : (ls ks : List Line) (n m : ℕ) → ◌≡◌ {A = Option (List Line × ℕ)} (Some (ls, n)) (Some (ks, m)) → (ls ≡ ks) × (n ≡ m)
same-pair ls ks n m e = (ap (lines-in ls) e, ap (last-in n) e)

after-some : (old new : Ls) (ns ms : List ℕ) (o : Option Shown) (last : ℕ) (rest : ℕ → Option AllShown) → Some (map line_told new, last) ≡ behind (map line_told old) o → ms ≡ ns ++ last ∷ [] →
    all_behind (map line_told new) ms (rest (suc (length new))) ≡ all_behind (map line_told old) ns (after_shown (suc (length old)) o rest)
after-some old new ns ms None last rest e d = cc
after-some old new ns ms (Some w) last rest e d =
    let c = same-pair (map line_told new) (map line_told old ++ w.lines) last w.last e in
    let u : map line_told new ≡ map line_told old ++ w.lines = c.0 in
    let l : last ≡ w.last = c.1 in
    let k : suc (length new) ≡ suc (length old) + length w.lines = omega (arith, grown-length old new w.lines u) in
    ap (λ (z : ℕ). all_behind (map line_told new) ms (rest z)) k ∙ joined (map line_told old) (map line_told new) ns ms w last (rest (suc (length old) + length w.lines)) u l d

pub all-step : (s : Survey) (p : KnownPair) (old new : Ls) (ns ms : List ℕ) (fs : F) (i : ℕ) (f : program_form.Form) (last : ℕ) (all : A) → i < length fs → get_or fs i f ≡ f →
    Some (map line_told new, last) ≡ behind (map line_told old) (shown s p (suc (length old)) (form_tree f)) → ms ≡ ns ++ last ∷ [] →
    all_behind (map line_told old) ns (all_shown s p (suc (length old)) (map form_tree (drop i fs))) ≡ all → all_behind (map line_told new) ms (all_shown s p (suc (length new)) (map form_tree (drop (suc i) fs))) ≡ all
all-step s p old new ns ms fs i f last all h e q d w =
    after-some old new ns ms (shown s p (suc (length old)) (form_tree f)) last (λ m. all_shown s p m (map form_tree (drop (suc i) fs))) q d
    ∙ ap (all_behind (map line_told old) ns) (sym (all-front s p (suc (length old)) fs i f h e)) ∙ w
