-- The accesses of what is defined are defined: their subscripts are of the index kind.
use Rattle.std.proofs.Common.{ℕ, Bool, true, false, List, [], ◌∷◌, ◌++◌, Option, Some, None}
use Rattle.std.specs.Prelude.{if◌then◌else◌}
use Rattle.fl_ast.specs.Tree.{Expression, literal, get, minus, binary, power, call, Expressions, no_expressions, expression, Designator, Condition, relation, negation, conjunction, disjunction}
use Rattle.fl_types.specs.declared.access.AccessKind.{AccessKind}
use Rattle.fl_types.specs.declared.access.AccessKind.TheVariants.{Read, Write}
use Rattle.fl_types.specs.declared.access.PathStep.{PathStep}
use Rattle.fl_types.specs.Increment.{Signed, target_of}
use Rattle.fl_types.specs.Accesses.{Scope, Occurrence, access, increment_kind, reads, reads_all, step_reads, term_reads, condition_reads, assignment_accesses}
use Rattle.meaning.specs.Sites.{Cells, Site}
use Rattle.meaning.specs.Defined.{IsDefined, AreDefined, IsDefinedCondition}
use Rattle.meaning.specs.Reached.{AreDefinedTerms, IsDefinedAssignment, IsIndexStep}
use Rattle.apart_law.proofs.Leaves.{AllDefined}
use Rattle.apart_law.specs.Spots.{bounds_accesses}

module _ (site : Site) (cells : Cells) where
  pub all_both : (os ps : List Occurrence) → AllDefined site cells os → AllDefined site cells ps → AllDefined site cells (os ++ ps)
  all_both [] ps h g = g
  all_both (o ∷ os) ps h g = (h.0, all_both os ps h.1 g)

  module _ (scope : Scope) (line : ℕ) (path : List PathStep) where
    access_defined : (kind : AccessKind) (p : Designator) → IsDefined site cells (get p.name p.subscripts) → AllDefined site cells (access scope line path kind p)
    access_defined kind p d = by_test (scope.accessed p.name)
      where
        by_test : (b : Bool) → AllDefined site cells (if b then record { line = line; place = p; path = path; kind = kind } ∷ [] else [])
        by_test true = (d, tt)
        by_test false = tt

    mutual
      pub reads_defined : (e : Expression) → IsDefined site cells e → AllDefined site cells (reads scope line path e)
      reads_defined (literal n k) d = tt
      reads_defined (get x ss) d =
          all_both (reads_all scope line path ss) (access scope line path Read (record { name = x; subscripts = ss })) (reads_all_defined ss d.0) (access_defined Read (record { name = x; subscripts = ss }) d)
      reads_defined (minus a) d = reads_defined a d
      reads_defined (binary op a b) d = all_both (reads scope line path a) (reads scope line path b) (reads_defined a d.0) (reads_defined b d.1)
      reads_defined (power a n) d = reads_defined a d
      reads_defined (call f es) d = reads_all_defined es d.0

      pub reads_all_defined : (es : Expressions) → AreDefined site cells es → AllDefined site cells (reads_all scope line path es)
      reads_all_defined no_expressions d = tt
      reads_all_defined (expression e es) d = all_both (reads scope line path e) (reads_all scope line path es) (reads_defined e d.0) (reads_all_defined es d.1)

    pub condition_defined : (c : Condition) → IsDefinedCondition site cells c → AllDefined site cells (condition_reads scope line path c)
    condition_defined (relation op a b) d = all_both (reads scope line path a) (reads scope line path b) (reads_defined a d.0) (reads_defined b d.1)
    condition_defined (negation a) d = condition_defined a d
    condition_defined (conjunction a b) d = all_both (condition_reads scope line path a) (condition_reads scope line path b) (condition_defined a d.0) (condition_defined b d.1)
    condition_defined (disjunction a b) d = all_both (condition_reads scope line path a) (condition_reads scope line path b) (condition_defined a d.0) (condition_defined b d.1)

    terms_defined : (rs : List Signed) → AreDefinedTerms site cells rs → AllDefined site cells (term_reads scope line path rs)
    terms_defined [] d = tt
    terms_defined (r ∷ rs) d = all_both (reads scope line path r.1) (term_reads scope line path rs) (reads_defined r.1 d.0) (terms_defined rs d.1)

    target_defined : (kind : AccessKind) (p : Designator) → IsDefined site cells (target_of p) → AllDefined site cells (reads_all scope line path p.subscripts ++ access scope line path kind p)
    target_defined kind p d = all_both (reads_all scope line path p.subscripts) (access scope line path kind p) (reads_all_defined p.subscripts d.0) (access_defined kind p d)

    pub assignment_defined : (atomic : Bool) (p : Designator) (e : Expression) (t : Option (List Signed)) → IsDefinedAssignment site cells p e t → AllDefined site cells (assignment_accesses scope line path atomic p e t)
    assignment_defined atomic p e None d = all_both (reads scope line path e) (reads_all scope line path p.subscripts ++ access scope line path Write p) (reads_defined e d.0) (target_defined Write p d.1)
    assignment_defined atomic p e (Some rs) d =
        all_both (term_reads scope line path rs) (reads_all scope line path p.subscripts ++ access scope line path (increment_kind atomic (scope.pluses p.name)) p)
        (terms_defined rs d.0) (target_defined (increment_kind atomic (scope.pluses p.name)) p d.1)

    step_defined : (o : Option Expression) → IsIndexStep site cells o → AllDefined site cells (step_reads scope line path o)
    step_defined None d = tt
    step_defined (Some e) d = reads_defined e d.0

    pub bounds_defined : (low high : Expression) (by : Option Expression) → IsDefined site cells low → IsDefined site cells high → IsIndexStep site cells by → AllDefined site cells (bounds_accesses scope line path low high by)
    bounds_defined low high by a b c =
        all_both (reads scope line path low) (reads scope line path high ++ step_reads scope line path by) (reads_defined low a)
        (all_both (reads scope line path high) (step_reads scope line path by) (reads_defined high b) (step_defined by c))
