-- One name of those that a run is asked for.
use Rattle.std.proofs.Common.{◌≡◌, ℕ, suc, ◌+◌, ◌<◌, ◌≤◌, List, [], ◌∷◌, length, drop, get_or, true, false, if◌then◌else◌, codes, Err, Ok, refl, sym, ap, subst, ◌∙◌, add-one, arith}
use Rattle.std.proofs.Math.Seq.{drop-cons}
use Rattle.std.proofs.lemmas.Grind.{common_steps}
use Rattle.ending.specs.declared.early.Early.{Early}
use Rattle.ending.specs.declared.verdict.Verdict.TheVariants.{Refused}
use Rattle.outside.specs.States.{Files}
use Rattle.ending.specs.Plan.{Plan, Says, LeadsTo, line}
use Rattle.ending.proofs.Follow.{says_part}
use Rattle.ending.specs.Stage.{IsPart, IsSaid}
use Rattle.fl_ast.specs.declared.stmt.Program.{Program}
use Rattle.fl_types.specs.Declarations.{is_ring_argument}
use Rattle.program_stage.specs.Names.{names_stage}

opened : (program : Program) (names : List (List ℕ)) (i : ℕ) (name : List ℕ) (rest : Unit {0} → Plan) → i < length names → name ≡ get_or names i name →
    names_stage program (drop i names) rest ≡ (if is_ring_argument program name then names_stage program (drop (i + 1) names) rest else Says Refused (line (codes "refused name ") name))
unfolding names_stage
opened program names i name rest h e =
    let whole : drop i names ≡ name ∷ drop (i + 1) names = drop-cons names i name h ∙ ap (λ n. n ∷ drop (suc i) names) (sym e) ∙ ap (λ k. name ∷ drop k names) (sym (add-one i)) in
    ap (λ ns. names_stage program ns rest) whole

pub passed : (program : Program) (names : List (List ℕ)) (i : ℕ) (name : List ℕ) (rest : Unit {0} → Plan) → i < length names → name ≡ get_or names i name →
    is_ring_argument program name ≡ true → names_stage program (drop (i + 1) names) rest ≡ names_stage program (drop i names) rest
passed program names i name rest h e is = sym (opened program names i name rest h e ∙ ap (λ t. if t then names_stage program (drop (i + 1) names) rest else Says Refused (line (codes "refused name ") name)) is)

pub stopped : (program : Program) (names : List (List ℕ)) (i : ℕ) (name : List ℕ) (rest : Unit {0} → Plan) → i < length names → name ≡ get_or names i name →
    is_ring_argument program name ≡ false → names_stage program (drop i names) rest ≡ Says Refused (line (codes "refused name ") name)
stopped program names i name rest h e is = opened program names i name rest h e ∙ ap (λ t. if t then names_stage program (drop (i + 1) names) rest else Says Refused (line (codes "refused name ") name)) is

-- a name that isn't one is said
pub refuses_name : (program : Program) (names : List (List ℕ)) (name : List ℕ) (early : Early) → IsSaid Refused (line (codes "refused name ") name) early →
    ((rest : Unit {0} → Plan) → names_stage program names rest ≡ Says Refused (line (codes "refused name ") name)) →
    IsPart {T = Unit {0}} (λ _. tt) (names_stage program names) (Err early)
refuses_name program names name early is e = says_part is e

-- and all that are lead on
pub names_pass : (program : Program) (names : List (List ℕ)) (i : ℕ) → length names ≤ i →
    ((rest : Unit {0} → Plan) → names_stage program (drop i names) rest ≡ names_stage program names rest) →
    IsPart {T = Unit {0}} (λ _. tt) (names_stage program names) (Ok tt)
unfolding names_stage
names_pass program names i h e =
    let none : drop i names ≡ [] = grind (arith, common_steps) in
    record {
      clear = λ h. h;
      told = λ files rest status text comes.
          let P : Plan → Type 0 = λ p. LeadsTo files p status text in subst P (ap (λ ns. names_stage program ns rest) (sym none) ∙ e rest) comes;
    }
