-- What is known of the parallel loops of a program.
use Rattle.std.specs.Prelude.{ℕ, Bool, if◌then◌else◌, List, [], ◌∷◌, map, option_map, Option, Some, None}
use Rattle.fl_ast.specs.declared.decl.Decl.{Decl}
use Rattle.fl_ast.specs.declared.stmt.Program.{Program}
use Rattle.fl_ast.specs.Tree.{stmt_trees}
use Rattle.fl_types.specs.declared.access.Access.{Access}
use Rattle.fl_types.specs.Nests.{is_nest}
use Rattle.fl_types.specs.Sharing.{ParallelLoop}
use Rattle.fl_types.specs.Accesses.{loop_accesses}
use Rattle.loop_accesses.specs.Numbers.{Numbered, numbered}
use Rattle.index_forms.specs.declared.form.Side.TheVariants.{One, Two}
use Rattle.index_forms.specs.Loops.{HeadedLoop, inside, further, forms_scope, is_fixed}
use Rattle.index_forms.specs.Walk.{loop_forms}
use Rattle.index_knowledge.specs.Knowledge.{facts}
use Rattle.index_ranges.specs.Ranges.{ranges_in}
use Rattle.certificate_rules.specs.Surveys.{Survey, IsSurvey}
use Rattle.certificate_check.specs.Pairs.{KnownLoop}
use Rattle.certificate_check.specs.Flaws.{Loops}
use Rattle.loop_scenes.specs.Loops.{loops_by_all}
use Rattle.loop_scenes.specs.Turns.{last_turn_of}
use Rattle.loop_scenes.specs.Rights.{rights_in}

-- the number of loops whose iterations the loop's iterations are
abbrev pub nest_of : ParallelLoop → ℕ
nest_of l = if is_nest l.directive l.body then 2 else 1

-- an access as it is known: its subscripts stand as forms
abbrev pub bare : Numbered → Access
bare n = record {
  number = n.number;
  loop_number = n.loop_number;
  line = n.occurrence.line;
  place = record { name = n.occurrence.place.name; subscripts = [] };
  path = n.occurrence.path;
  kind = n.occurrence.kind;
}

-- the accesses of a loop by their numbers
abbrev pub bare_accesses : List Decl → ParallelLoop → List Access
bare_accesses decls l = map bare (numbered l.number 1 (loop_accesses decls l))

-- these with their forms on both sides, the facts that they make, and the ranges of the loops in the loop
abbrev pub survey_by : List Decl → HeadedLoop → Survey
survey_by decls l = record {
  accesses = bare_accesses decls l.loop;
  ones = loop_forms decls l One;
  twos = loop_forms decls l Two;
  fixed = is_fixed decls l;
  facts = facts (bare_accesses decls l.loop) (loop_forms decls l One) (loop_forms decls l Two);
  ranges = ranges_in (inside l);
  second = last_turn_of (further l);
}

-- which accesses are in right sides of assignments to active names makes the loop's pairs
abbrev pub known_loop : List Decl → (active : List ℕ → Bool) → HeadedLoop → KnownLoop
known_loop decls active l = record {
  number = l.loop.number;
  nest = nest_of l.loop;
  rights = rights_in (forms_scope decls l) active (inside l);
  survey = survey_by decls l;
}

abbrev pub known_in : List Decl → (active : List ℕ → Bool) → List (Option HeadedLoop) → Loops
known_in decls active ls = map (λ o. option_map (known_loop decls active) o) ls

-- for each loop of a program, in textual order, whether it is parallel, and what is known of it then
unfoldable pub known_of : Program → (active : List ℕ → Bool) → Loops
known_of p active = known_in p.decls active (loops_by_all [] (stmt_trees p.body))

-- each is a survey
abbrev pub AreSurveys : List (Option KnownLoop) → Type 0
AreSurveys [] = Unit {0}
AreSurveys (None ∷ ks) = AreSurveys ks
AreSurveys (Some k ∷ ks) = IsSurvey k.survey × AreSurveys ks
