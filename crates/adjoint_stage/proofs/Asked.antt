-- The names that an adjoint is asked for, by the first that isn't an argument of the ring kind.
use Rattle.std.proofs.Common.{◌≡◌, ℕ, Bool, true, false, not, if◌then◌else◌, cond, List, [], ◌∷◌, ◌++◌, find, codes, Option, Some, None, Result, Ok, Err, refl, ap, sym, subst, ◌∙◌}
use Rattle.outside.specs.States.{Files}
use Rattle.ending.specs.declared.early.Early.{Early}
use Rattle.ending.specs.declared.verdict.Verdict.TheVariants.{Refused}
use Rattle.ending.specs.Plan.{Plan, Says, LeadsTo, line}
use Rattle.ending.specs.Stage.{IsPart, IsSaying}
use Rattle.ending.proofs.Follow.{says_part, wants}
use Rattle.fl_ast.specs.declared.stmt.Program.{Program}
use Rattle.fl_types.specs.Declarations.{is_ring_argument}
use Rattle.activity.specs.declared.set.ActivityError.{ActivityError}
use Rattle.activity.specs.declared.set.ActivityError.TheVariants.{NotRing, Memory}
use Rattle.activity.specs.Active.{misfit_among, first_misfit, IsCause}
use Rattle.program_stage.specs.Names.{names_stage}
use Rattle.adjoint_stage.specs.Adjoints.{say_misfit, asked_stage}

-- a misfit is said, and without one it goes on
abbrev by_misfit : Option (List ℕ) → (Unit {0} → Plan) → Plan
by_misfit None rest = rest tt
by_misfit (Some name) rest = Says Refused (line (codes "refused name ") name)

misfit_is : (p : Program) (names : List (List ℕ)) (rest : Unit {0} → Plan) → names_stage p names rest ≡ by_misfit (misfit_among p names) rest
unfolding names_stage
misfit_is p [] rest = refl
misfit_is p (name ∷ names) rest = by_test (is_ring_argument p name) (misfit_is p names rest)
  where
    by_test : (b : Bool) → names_stage p names rest ≡ by_misfit (misfit_among p names) rest
        → (if b then names_stage p names rest else Says Refused (line (codes "refused name ") name)) ≡ by_misfit (cond (not b) (Some name) (misfit_among p names)) rest
    by_test true h = h
    by_test false h = refl

joined : (p : Program) (of wrt : List (List ℕ)) (rest : Unit {0} → Plan) → names_stage p (of ++ wrt) rest ≡ asked_stage p of wrt rest
unfolding names_stage
joined p [] wrt rest = refl
joined p (name ∷ of) wrt rest = ap (λ q. if is_ring_argument p name then q else Says Refused (line (codes "refused name ") name)) (joined p of wrt rest)

asked_is : (p : Program) (of wrt : List (List ℕ)) (rest : Unit {0} → Plan) → asked_stage p of wrt rest ≡ by_misfit (first_misfit p of wrt) rest
asked_is p of wrt rest = sym (joined p of wrt rest) ∙ misfit_is p (of ++ wrt) rest

pub refused_part : {T : Type 0} (p : Program) (of wrt : List (List ℕ)) (error : ActivityError) (early : Early) → IsCause (first_misfit p of wrt) error → IsSaying (say_misfit error) early
    → IsPart {T = T} (λ _. tt {0}) (asked_stage p of wrt) (Err early)
refused_part p of wrt (NotRing name) early c is = says_part is (λ rest. asked_is p of wrt rest ∙ ap (λ o. by_misfit o rest) c)
refused_part p of wrt Memory early c is = rw is wants

pub asked_part : {T : Type 0} (p : Program) (of wrt : List (List ℕ)) (value : T) → first_misfit p of wrt ≡ None → IsPart {T = T} (λ _. tt {0}) (asked_stage p of wrt) (Ok value)
asked_part p of wrt value e = record {
  clear = λ h. h;
  told = λ files rest status text comes.
      let P : Plan → Type 0 = λ q. LeadsTo files q status text in subst P (sym (asked_is p of wrt rest ∙ ap (λ o. by_misfit o rest) e)) comes;
}
