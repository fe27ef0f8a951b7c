-- Along the run of an accepted program differentiated reads of Shared names are apart.
use Rattle.std.proofs.Common.{◌≡◌, ℕ, Bool, List, [], ◌∷◌, Option, Some, refl, sym, subst, ◌∙◌, inl, inr}
use Rattle.std.specs.List.{AllByRecursion}
use Rattle.fl_ast.specs.Tree.{stmt_trees, program_tree}
use Rattle.fl_types.specs.Mentions.{at_unit}
use Rattle.store_core.specs.Places.{shapes_of}
use Rattle.meaning.specs.Logs.{Log, events}
use Rattle.meaning.specs.Sites.{Cells, Site}
use Rattle.meaning.specs.Statements.{run_all}
use Rattle.meaning.specs.Stops.{by_conflict, at_end, first_stop}
use Rattle.meaning.specs.Adjoints.{cells_along, unit}
use Rattle.meaning.specs.Programs.{entry_site, entry_cells}
use Rattle.meaning.specs.Laws.{values_out}
use Rattle.meaning.proofs.LawProofs.{unseen as tangents_are_unseen}
use Rattle.meaning.proofs.Entries.{entries_fit}
use Rattle.meaning.proofs.Layouts.{programs_kinded}
use Rattle.meaning.proofs.Soundly.{runs_sound}
use Rattle.transposition.specs.Worlds.{World, name_at}
use Rattle.transposition.specs.Calms.{IsCalmAll}
use Rattle.transposition.proofs.Passing.{unstopped}
use Rattle.transposition.proofs.Transposed.{along_along, Turned, turned}
use Rattle.index_forms.specs.Loops.{HeadedLoop, headed_loops_of_all}
use Rattle.index_law.specs.Meetings.{In}
use Rattle.reachability.specs.Reached.{IsAmong}
use Rattle.certificate_rules.specs.Surveys.{numbered}
use Rattle.certificate_check.specs.Pairs.{KnownLoop}
use Rattle.loop_pairs.specs.Known.{known_loop, known_of, AreSurveys}
use Rattle.loop_pairs.proofs.Numbered.{loops_stand}
use Rattle.loop_pairs.proofs.Surveys.{all_surveys}
use Rattle.adjoint_sets.specs.Names.{is_active, is_needed}
use Rattle.loop_choices.specs.Choosing.{choice_in}
use Rattle.sharing_choice.specs.Choosing.{pairs_of}
use Rattle.program_certificates.specs.Choices.{choices_with, NeverMeet}
use Rattle.program_certificates.proofs.Disjointness.{survey_at}
use Rattle.sound_programs.specs.Uses.{outer_use}
use Rattle.sound_programs.specs.Accepted.{world_of_program, made_choices, ChoicesFit}
use Rattle.sound_programs.proofs.Lists.{Each}
use Rattle.sound_programs.proofs.PlacedNames.{IsCleanBody}
use Rattle.sound_programs.proofs.Programs.{clean_body, programs_sound}
use Rattle.sound_programs.proofs.Collecting.{choices_fit}
use Rattle.sound_programs.proofs.Transposing.{apart_all}
use Rattle.apart_law.proofs.Loops.{loops_apart, numbers_own}
use Rattle.shared_law.specs.Apart.{ReadsAreApart}
use Rattle.shared_law.proofs.Loops.{lone_all}
use Rattle.shared_law.proofs.Choices.{never_meets}
use Rattle.shared_law.proofs.Evaluated.{reads_evaluated}
use Rattle.shared_law.proofs.Reaching.{IsShown, all_apart}

every : {X : Type 0} (P : X → Type 0) (xs : List X) → AllByRecursion P xs → Each P xs
every P [] a x i = absurd i
every P (y ∷ xs) a x (inl e) = subst P e a.0
every P (y ∷ xs) a x (inr i) = every P xs a.1 x i

in_among : (ls : List HeadedLoop) (l : HeadedLoop) → IsAmong ls l → In l ls
in_among [] l i = absurd i
in_among (k ∷ ls) l (inl e) = inl e
in_among (k ∷ ls) l (inr i) = inr (in_among ls l i)

one_known : (k l : KnownLoop) (o : Option (Option KnownLoop)) → o ≡ Some (Some k) → o ≡ Some (Some l) → k ≡ l
one_known k l o e f = let g : Some (Some k) ≡ Some (Some l) = sym e ∙ f in cc

pub reads_apart : ReadsAreApart
reads_apart p of wrt values givens limits words s2 j a small run stop =
    all_apart p.decls w v (stmt_trees p.body) site sj t.s3 refl shown
    (runs_sound (stmt_trees p.body) site sj (programs_kinded p values (is_needed p on) c.typed.once c.typed.arrays c.typed.kinds)
    (entries_fit (program_tree p) (shapes_of p values) (is_needed p on) words (unit j) small))
    t.out calm
  where
    on : List ℕ → Bool
    on = is_active p of wrt

    -- the world of these choices, and that of choices which ask nothing of reads
    w : World
    w = world_of_program p of wrt values (choice_in (choices_with p on givens))

    v : World
    v = world_of_program p of wrt values (made_choices p of wrt)

    site : Site
    site = entry_site (program_tree p) (shapes_of p values) (is_needed p on)

    s : Cells
    s = entry_cells (program_tree p) (shapes_of p values) words

    sj : Cells
    sj = cells_along (unit j) s

    c : IsCleanBody p
    c = clean_body p of wrt a

    fit : ChoicesFit p of wrt
    fit = choices_fit p of wrt a

    unseen : ((run_all (stmt_trees p.body) site s).log ≡ (run_all (stmt_trees p.body) site sj).log)
        × (values_out (run_all (stmt_trees p.body) site s).out ≡ values_out (run_all (stmt_trees p.body) site sj).out)
    unseen = tangents_are_unseen (stmt_trees p.body) site s sj (sym (along_along (unit j) s))

    t : Turned (run_all (stmt_trees p.body) site sj).out s2
    t = turned (run_all (stmt_trees p.body) site sj).out (run_all (stmt_trees p.body) site s).out s2 run unseen.1

    calm : IsCalmAll (stmt_trees p.body) v sj
    calm = unstopped v (outer_use p of wrt) (stmt_trees p.body) limits sj t.s3 (programs_sound p of wrt values (made_choices p of wrt) a fit.fitting)
        t.out (subst (λ (l : Log). first_stop by_conflict limits (events l) ≡ at_end) unseen.0 stop) (apart_all (stmt_trees p.body) v sj fit.one_step)

    -- what is known of a loop stands at its number
    stands : Each (λ (l : HeadedLoop). numbered (known_of p on) l.loop.number ≡ Some (Some (known_loop p.decls on l)))
        (headed_loops_of_all [] (stmt_trees p.body))
    stands = every (λ (l : HeadedLoop). numbered (known_of p on) l.loop.number ≡ Some (Some (known_loop p.decls on l)))
        (headed_loops_of_all [] (stmt_trees p.body)) (loops_stand p on c.typed)

    surveys : AreSurveys (known_of p on)
    surveys = all_surveys p on (known_of p on) c.typed refl

    shown : Each (IsShown p.decls w) (headed_loops_of_all [] (stmt_trees p.body))
    shown l i =
        let lone = lone_all p (at_unit p.line) (stmt_trees p.body) c.clean a.readable.body l i in (
          lone,
          λ site heads cells h q o x y b d n e f.
              let never = never_meets p on givens c.typed l.loop.number (name_at site.keys q) o in
              let same : never.known ≡ known_loop p.decls on l =
              one_known never.known (known_loop p.decls on l) (numbered (known_of p on) l.loop.number) never.stands (stands l i) in
              let one = reads_evaluated p.decls on l site heads cells lone.flat h x q b e in
              let two = reads_evaluated p.decls on l site heads cells lone.flat h y q d f in
              loops_apart p.decls on l (numbers_own p a.readable l (in_among (headed_loops_of_all [] (stmt_trees p.body)) l i)) site heads cells h (survey_at (known_of p on) surveys l.loop.number (known_loop p.decls on l) (stands l i)) (name_at site.keys q)
              (subst (λ (k : KnownLoop). AllByRecursion (NeverMeet k) (pairs_of (name_at site.keys q ∷ []) k)) same never.apart) x y q n one.0 two.0 one.1,
        )
