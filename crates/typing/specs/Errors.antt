-- What is said of a broken rule.
use Rattle.std.specs.Prelude.{ℕ, List}
use Rattle.fl_types.specs.declared.typed.TypeError.{TypeError}
use Rattle.fl_types.specs.declared.typed.TypeError.TheVariants as fault
use Rattle.typing.specs.declared.rule.Rule.{Rule}
use Rattle.typing.specs.declared.rule.Rule.TheVariants.{Undeclared, Doubled, ReservedSuffix, LocalArray, Rank, LiteralRange, KindClash, DataDivision, DataToIndex, IntentIn, SelfSubscript, LoopVarUse, PrivateUse, ReductionUse, AtomicForm, NotShareable, Unlisted, MixedKinds, CollapseForm}
use Rattle.typing.specs.Views.{Told}

abbrev pub error_by : Rule → ℕ → List ℕ → TypeError
error_by Undeclared line x = fault.Undeclared line x
error_by Doubled line x = fault.Doubled line x
error_by ReservedSuffix line x = fault.ReservedSuffix line x
error_by LocalArray line x = fault.LocalArray line x
error_by Rank line x = fault.Rank line x
error_by LiteralRange line x = fault.LiteralRange line
error_by KindClash line x = fault.KindClash line
error_by DataDivision line x = fault.DataDivision line
error_by DataToIndex line x = fault.DataToIndex line
error_by IntentIn line x = fault.IntentIn line x
error_by SelfSubscript line x = fault.SelfSubscript line x
error_by LoopVarUse line x = fault.LoopVarUse line x
error_by PrivateUse line x = fault.PrivateUse line x
error_by ReductionUse line x = fault.ReductionUse line x
error_by AtomicForm line x = fault.AtomicForm line
error_by NotShareable line x = fault.NotShareable line x
error_by Unlisted line x = fault.Unlisted line x
error_by MixedKinds line x = fault.MixedKinds line x
error_by CollapseForm line x = fault.CollapseForm line

abbrev pub error_of : Told → TypeError
error_of t = error_by t.rule t.line t.name
