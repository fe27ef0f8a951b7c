-- What is said of a program that isn't typed.
use Rattle.std.specs.Prelude.{◌++◌, codes, None}
use Rattle.ending.specs.Plan.{Plan, Saying, or_say}
use Rattle.fl_ast.specs.declared.stmt.Program.{Program}
use Rattle.fl_types.specs.declared.typed.TypeError.{TypeError}
use Rattle.fl_types.specs.declared.typed.TypeError.TheVariants.{Undeclared, Doubled, ReservedSuffix, LocalArray, Rank, LiteralRange, KindClash, DataDivision, DataToIndex, IntentIn, SelfSubscript, LoopVarUse, PrivateUse, ReductionUse, AtomicForm, NotShareable, Unlisted, MixedKinds, CollapseForm, Memory}
use Rattle.fl_types.specs.Rows.{judged}
use Rattle.program_stage.specs.Lines.{refused_line}

abbrev pub say_type : TypeError → Saying
say_type (Undeclared line x) = refused_line line (codes "undeclared " ++ x)
say_type (Doubled line x) = refused_line line (codes "declared twice " ++ x)
say_type (ReservedSuffix line x) = refused_line line (codes "reserved name " ++ x)
say_type (LocalArray line x) = refused_line line (codes "local array " ++ x)
say_type (Rank line x) = refused_line line (codes "rank " ++ x)
say_type (LiteralRange line) = refused_line line (codes "literal out of range")
say_type (KindClash line) = refused_line line (codes "kinds differ")
say_type (DataDivision line) = refused_line line (codes "division of data")
say_type (DataToIndex line) = refused_line line (codes "data as index")
say_type (IntentIn line x) = refused_line line (codes "intent in " ++ x)
say_type (SelfSubscript line x) = refused_line line (codes "self subscript " ++ x)
say_type (LoopVarUse line x) = refused_line line (codes "loop variable " ++ x)
say_type (PrivateUse line x) = refused_line line (codes "private " ++ x)
say_type (ReductionUse line x) = refused_line line (codes "reduction " ++ x)
say_type (AtomicForm line) = refused_line line (codes "atomic form")
say_type (NotShareable line x) = refused_line line (codes "not shareable " ++ x)
say_type (Unlisted line x) = refused_line line (codes "unlisted " ++ x)
say_type (MixedKinds line x) = refused_line line (codes "mixed data kinds " ++ x)
say_type (CollapseForm line) = refused_line line (codes "collapse form")
say_type Memory = None

-- the typed program
unfoldable pub typed_stage : Program → (Program → Plan) → Plan
typed_stage program rest = or_say say_type (judged program) rest
