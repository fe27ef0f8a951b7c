-- What the tokens of printed conditions are read as, line numbers aside.
use Rattle.std.specs.Prelude.{◌≡◌, ◌+◌}
use Rattle.fl_ast.specs.Tree.{Condition, cond_tree}
use Rattle.fl_ast.specs.Measures.{condition_depth}
use Rattle.parsing.specs.Reading.{Lexemes}
use Rattle.parsing.specs.Grammar.{Grammar}
use Rattle.fl_conditions.specs.declared.tree.Judged.{Judged}

-- in the grammar the lexemes are a condition of this plain tree, with its levels beneath its root
pub record IsJudgedAs (N : Grammar Judged) (us : Lexemes) (c : Condition) : Type 0 where
  pub value : Judged
  pub tree : cond_tree value.cond ≡ c
  pub levels : value.levels + 1 ≡ condition_depth c
  pub reads : N value us
