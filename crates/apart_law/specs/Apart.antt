-- Accesses of a loop whose pair is shown never fall on one place in different iterations of a run without a conflict.
use Rattle.std.specs.Prelude.{◌≡◌, ◌≢◌, ℕ, ℤ, ◌<◌, Bool, true, List, [], ◌∷◌, Some, Ok}
use Rattle.std.specs.List.{AllByRecursion}
use Rattle.fl_ast.specs.declared.decl.Decl.{Decl}
use Rattle.fl_ast.specs.declared.stmt.Program.{Program}
use Rattle.fl_ast.specs.Readable.{IsReadable}
use Rattle.fl_ast.specs.Tree.{stmt_trees}
use Rattle.fl_types.specs.declared.access.AccessKind.TheVariants.{Read}
use Rattle.fl_types.specs.Sharing.{is_ring_name}
use Rattle.meaning.specs.declared.value.Value.{Value}
use Rattle.meaning.specs.Values.{whole_numbers}
use Rattle.meaning.specs.Sites.{Cells, Site, in_iteration}
use Rattle.meaning.specs.Expressions.{values_of}
use Rattle.meaning.specs.Statements.{Heads, iterations, turns}
use Rattle.meaning.specs.Reached.{iteration_cells, HoldsAtAll, IsSound}
use Rattle.meaning.specs.Groups.{iteration_of}
use Rattle.index_forms.specs.declared.form.Side.TheVariants.{One, Two}
use Rattle.index_forms.specs.Form.{Atom, Forms}
use Rattle.index_forms.specs.Sums.{values}
use Rattle.index_forms.specs.Walk.{loop_forms}
use Rattle.index_forms.specs.Loops.{HeadedLoop, headed_loops_of_all, inside}
use Rattle.index_ranges.specs.Ranges.{ranges_in}
use Rattle.index_law.specs.Meetings.{In, FreeRun, Evaluated, place_in}
use Rattle.index_law.specs.Starts.{IsBegun}
use Rattle.index_knowledge.specs.Knowledge.{KnownPair}
use Rattle.certificate_rules.specs.Surveys.{numbered, IsSurvey, range_of}
use Rattle.certificate_rules.specs.Disjoint.{Respects}
use Rattle.loop_pairs.specs.Known.{survey_by, known_loop, nest_of}
use Rattle.sharing_choice.specs.Choosing.{pairs_of}
use Rattle.program_certificates.specs.Choices.{NeverMeet}
use Rattle.apart_law.specs.Numbers.{AreNumbered}

-- an instance of a parallel loop that comes to its end without a conflict, where each iteration is sound
pub record IsInstance (decls : List Decl) (l : HeadedLoop) (site : Site) (heads : Heads) (cells : Cells) : Type 0 where
  pub begun : IsBegun l site heads cells
  pub outer : site.outer ≡ l.loop.outer
  pub ring : site.ring ≡ is_ring_name decls
  pub run : FreeRun site l.loop heads cells
  pub sound : (k : ℕ) → k < iterations heads → (c : Cells) → (turns k (iteration_of site l.loop heads) cells).out ≡ Ok c →
      HoldsAtAll IsSound (inside l) (in_iteration site l.loop.directive l.loop.var l.loop.body) (iteration_cells site l.loop.directive l.loop.var l.loop.body heads k c)

-- a read on the right side of an assignment to an active name that iteration k evaluates, at a place
pub record IsDifferentiated (on : List ℕ → Bool) (site : Site) (l : HeadedLoop) (heads : Heads) (cells : Cells) (k p : ℕ) : Type 0 where
  pub evaluated : Evaluated site l.loop heads cells k
  pub right : In evaluated.access evaluated.group.right
  pub active : on evaluated.group.target ≡ true
  pub reads : evaluated.access.kind ≡ Read
  pub falls : place_in site l.loop heads cells k evaluated ≡ Some p

-- no loop in it has the number of one around it, and its ranges are found by the loops' numbers
abbrev pub HasOwnNumbers : HeadedLoop → Type 0
HasOwnNumbers l = AreNumbered (λ n. range_of (ranges_in (inside l)) n) (inside l)

-- where the pairs of a name in the loop never meet, no two iterations of an instance have differentiated reads of it at one place
abbrev pub LoopIsApart : List Decl → (active : List ℕ → Bool) → HeadedLoop → Type 0
LoopIsApart decls active l =
    (site : Site) (heads : Heads) (cells : Cells) → IsInstance decls l site heads cells → IsSurvey (survey_by decls l)
    → (x : List ℕ) → AllByRecursion (NeverMeet (known_loop decls active l)) (pairs_of (x ∷ []) (known_loop decls active l))
    → (i j p : ℕ) → i ≢ j → (a : IsDifferentiated active site l heads cells i p) → IsDifferentiated active site l heads cells j p
    → a.evaluated.access.place.name ≡ x → ⊥

-- so each loop whose numbers are its own
abbrev pub LoopsAreApart : Type 0
LoopsAreApart = (decls : List Decl) (active : List ℕ → Bool) (l : HeadedLoop) → HasOwnNumbers l → LoopIsApart decls active l

-- and so are the numbers of a program that some text reads as
abbrev pub NumbersAreOwn : Type 0
NumbersAreOwn = (p : Program) → IsReadable p → (l : HeadedLoop) → In l (headed_loops_of_all [] (stmt_trees p.body)) → HasOwnNumbers l

-- ---- valuations

-- under the valuation the forms of an access that was evaluated, by its number among the loop's, are the subscripts that it had
pub record HasValues (v : Atom → ℤ) (forms : List Forms) (site : Site) (l : HeadedLoop) (heads : Heads) (cells : Cells) (k : ℕ) (e : Evaluated site l.loop heads cells k) (number : ℕ) : Type 0 where
  pub form : Forms
  pub there : numbered forms number ≡ Some form
  pub subscripts : List Value
  pub had : (values_of e.access.place.subscripts e.group.site e.group.cells).out ≡ Ok subscripts
  pub worth : values v form ≡ whole_numbers subscripts

-- for any two accesses that different iterations of an instance evaluate there is a valuation that has the values of both and respects their pair
pub record AreValued (decls : List Decl) (l : HeadedLoop) (site : Site) (heads : Heads) (cells : Cells) (i j : ℕ) (a : Evaluated site l.loop heads cells i) (b : Evaluated site l.loop heads cells j) : Type 0 where
  pub valuation : Atom → ℤ
  pub first : ℕ
  pub second : ℕ
  pub one : HasValues valuation (loop_forms decls l One) site l heads cells i a first
  pub two : HasValues valuation (loop_forms decls l Two) site l heads cells j b second
  pub respects : (p : KnownPair) → p.first ≡ first → p.second ≡ second → p.nest ≡ nest_of l.loop → Respects valuation (survey_by decls l) p

abbrev pub PairsAreValued : Type 0
PairsAreValued =
    (decls : List Decl) (l : HeadedLoop) → HasOwnNumbers l → (site : Site) (heads : Heads) (cells : Cells) → IsInstance decls l site heads cells → IsSurvey (survey_by decls l)
    → (i j : ℕ) → i ≢ j → (a : Evaluated site l.loop heads cells i) (b : Evaluated site l.loop heads cells j) → AreValued decls l site heads cells i j a b
