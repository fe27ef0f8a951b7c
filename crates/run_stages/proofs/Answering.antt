-- What the sweeps of a run leave is what is answered.
use Rattle.std.proofs.Common.{◌≡◌, ℕ, ◌%◌, ◌^◌, Bool, List, ◌++◌, length, None, Result, Ok, Err, IfOk, refl, sym, ap, subst, ◌∙◌}
use Rattle.fl_ast.specs.declared.stmt.Program.{Program}
use Rattle.fl_ast.specs.Tree.{program_tree}
use Rattle.fl_types.specs.declared.choice.Chosen.{Chosen}
use Rattle.fl_types.specs.declared.choice.NameSet.{NameSet}
use Rattle.fl_types.specs.Sharing.{has_name}
use Rattle.store_core.specs.declared.layout.Shape.{Shape}
use Rattle.store_core.specs.declared.values.Args.{Args}
use Rattle.store_core.specs.declared.values.Weights.{Weights}
use Rattle.store_core.specs.Filled.{place_words}
use Rattle.store_core.specs.Keys.{keys_of}
use Rattle.store_core.specs.Places.{shapes_of}
use Rattle.store_core.specs.Tapes.{Item}
use Rattle.meaning.specs.Sites.{Cells}
use Rattle.meaning.specs.Stops.{the_limits}
use Rattle.resolved.specs.SlotTables.{names_of}
use Rattle.transposition.specs.Tapes.{Tape}
use Rattle.adjoint_choices.specs.Choosing.{choices_of}
use Rattle.adjoint_rules.specs.Needed.{AreNeeded}
use Rattle.adjoint_sets.specs.Names.{is_active, is_needed}
use Rattle.adjoint_sets.proofs.Same.{needed_is}
use Rattle.forward_law.specs.Forward.{tape_back}
use Rattle.reverse_run.specs.Undoing.{swept_back}
use Rattle.sound_programs.specs.Accepted.{IsAccepted}
use Rattle.data_io.specs.declared.answer.Answer.{Answer}
use Rattle.answers.specs.Runs.{shown_at, values_of, adjoints_of}
use Rattle.answers.specs.Sweeps.{forward_run, end_words, tape_left, run_choices, seeded_cells, quieted, run_answer, adds_of}
use Rattle.answer_law.specs.Answered.{AreSmall, AreAmong, IsBack, IsAnswered}
use Rattle.answer_law.proofs.Answering.{made_answered}
use Rattle.one_thread.specs.Back.{HasRun, further, IsUndoneTo}
use Rattle.run_stages.proofs.Counting.{adds_counted}

abbrev answer : ℕ → Weights → Weights → List Chosen → Answer
answer adds adjoint value choices = record { adds = adds; adjoint = adjoint; value = value; choices = record { entries = choices }; race = None }

same_answer : (adds more : ℕ) (adjoint transposed value final : Weights) (cs ds : List Chosen) → adds ≡ more → adjoint ≡ transposed → value ≡ final → cs ≡ ds
    → answer adds adjoint value cs ≡ answer more transposed final ds
same_answer adds more adjoint transposed value final cs ds a b c d =
    ap (λ k. answer k adjoint value cs) a ∙ (ap (λ w. answer more w value cs) b ∙ (ap (λ w. answer more transposed w cs) c ∙ ap (answer more transposed final) d))

-- what is undone is undone for the names that are meant
named : (p : Program) (shapes : List Shape) (args : Args) (weights : Weights) (of wrt : List (List ℕ)) (on need : List ℕ → Bool) (cs : List Chosen) (tape : Tape) (values adjoints : List ℕ) (adds : ℕ)
    → on ≡ is_active p of wrt → need ≡ is_needed p (is_active p of wrt) → cs ≡ run_choices p of wrt → tape ≡ tape_left p shapes args of wrt → values ≡ end_words p shapes args of wrt
    → IsUndoneTo (program_tree p) shapes need on cs tape (values ++ place_words shapes weights.entries) adjoints adds
    → IsUndoneTo (program_tree p) shapes (is_needed p (is_active p of wrt)) (is_active p of wrt) (run_choices p of wrt) (tape_left p shapes args of wrt) (seeded_cells p shapes args weights of wrt) adjoints adds
named p shapes args weights of wrt on need cs tape values adjoints adds a n c t v u =
    let s = place_words shapes weights.entries in
    subst (λ (vs : List ℕ). IsUndoneTo (program_tree p) shapes (is_needed p (is_active p of wrt)) (is_active p of wrt) (run_choices p of wrt) (tape_left p shapes args of wrt) (vs ++ s) adjoints adds) v
    (subst (λ (x : Tape). IsUndoneTo (program_tree p) shapes (is_needed p (is_active p of wrt)) (is_active p of wrt) (run_choices p of wrt) x (values ++ s) adjoints adds) t
    (subst (λ (ks : List Chosen). IsUndoneTo (program_tree p) shapes (is_needed p (is_active p of wrt)) (is_active p of wrt) ks tape (values ++ s) adjoints adds) c
    (subst (λ (f : List ℕ → Bool). IsUndoneTo (program_tree p) shapes f (is_active p of wrt) cs tape (values ++ s) adjoints adds) n
    (subst (λ (f : List ℕ → Bool). IsUndoneTo (program_tree p) shapes need f cs tape (values ++ s) adjoints adds) a u))))

pub answered : (p : Program) (shapes : List Shape) (args : Args) (weights : Weights) (of wrt active needed : List (List ℕ)) (cs : List Chosen) (cells : Cells) (tape : List Item) (values adjoints : List ℕ) (adds : ℕ)
    → shapes ≡ shapes_of p args.entries → IsAccepted p of wrt → AreSmall args.entries → AreSmall weights.entries → AreAmong of weights.entries
    → (λ x. has_name x active) ≡ is_active p of wrt → (λ x. has_name x needed) ≡ is_needed p (is_active p of wrt) → cs ≡ choices_of p (λ x. has_name x active)
    → HasRun (forward_run p shapes args of wrt) cells tape → values ≡ end_words p shapes args of wrt
    → IsUndoneTo (program_tree p) shapes (λ x. has_name x needed) (λ x. has_name x active) cs (tape_back tape) (values ++ place_words shapes weights.entries) adjoints adds
    → answer adds (quieted (λ x. has_name x active) (shown_at p shapes adjoints wrt)) (shown_at p shapes values of) cs
    ≡ run_answer p shapes args weights of wrt (adds_of p shapes args weights of wrt)
answered p shapes args weights of wrt active needed cs cells tape values adjoints adds laid accepted small light among a n c r v u =
    let on = is_active p of wrt in
    let k : cs ≡ run_choices p of wrt = c ∙ ap (choices_of p) a in
    let m = named p shapes args weights of wrt (λ x. has_name x active) (λ x. has_name x needed) cs (tape_back tape) values adjoints adds a n k r.tape_is v u in
    let left : List ℕ = swept_back (names_of shapes p.decls) (length (keys_of shapes)) m.us (tape_left p shapes args of wrt) (further (program_tree p) shapes) (seeded_cells p shapes args weights of wrt) in
    let back : IsBack p shapes args weights of wrt left = record { us = m.us; stands = m.stands; cells = refl } in
    let P : List Shape → Type 0 = λ s. HasRun (forward_run p s args of wrt) cells tape → IsBack p s args weights of wrt left → IsAnswered p s args weights of wrt left in
    let law : P (shapes_of p args.entries) = λ q b. made_answered p args weights of wrt the_limits cells left accepted small light among q.cells_are q.ends b in
    let told : IsAnswered p shapes args weights of wrt left = subst P (sym laid) law r back in
    same_answer adds (adds_of p shapes args weights of wrt) (quieted (λ x. has_name x active) (shown_at p shapes adjoints wrt)) (shown_at p shapes (adjoints_of p shapes args weights) wrt)
    (shown_at p shapes values of) (shown_at p shapes (values_of p shapes args) of) cs (run_choices p of wrt)
    (m.adds_are ∙ ap (λ x. x % 2 ^ 64) (adds_counted p shapes args weights of wrt m.us accepted.readable m.stands))
    (ap (λ f. quieted f (shown_at p shapes adjoints wrt)) a ∙ (ap (λ w. quieted on (shown_at p shapes w wrt)) m.adjoints_are ∙ told.adjoint))
    (ap (λ w. shown_at p shapes w of) v ∙ told.value)
    k

-- the least needed names are those that are defined
pub needed_names : {E : Type 0} (p q : Program) (active : List ℕ → Bool) (result : Result NameSet E) → q ≡ p
    → IfOk result (λ set. AreNeeded q active (λ x. has_name x set.names)) → IfOk result (λ set. (λ x. has_name x set.names) ≡ is_needed p active)
needed_names p q active (Ok set) e h = needed_is p active (λ x. has_name x set.names) (subst (λ (r : Program). AreNeeded r active (λ x. has_name x set.names)) e h)
needed_names p q active (Err error) e h = tt
