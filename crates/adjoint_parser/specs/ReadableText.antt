-- The text of an adjoint that is readable: what the grammar of adjoints and its limits say of the whole.
use Rattle.std.specs.Prelude.{◌≡◌, ◌≤◌, true}
use Rattle.std.specs.List.{list_all}
use Rattle.fl_base.specs.Spelling.{is_name}
use Rattle.fl_ast.specs.declared.adjoint.AdjointText.{AdjointText}
use Rattle.fl_ast.specs.AdjointTree.{astmt_trees}
use Rattle.fl_ast.specs.Readable.{is_variable, is_readable_decl}
use Rattle.fl_ast.specs.ReadableAdjoint.{are_readable_adjoint_statements, deepest_in_adjoints, block_depth_of_adjoints}

-- The same as of an adjoint, whose two parts are one body here. The unit's name may be any word.
pub record IsReadableText (t : AdjointText) : Type 0 where
  pub name : is_name t.name ≡ true
  pub args : list_all is_variable t.args ≡ true
  pub decls : list_all is_readable_decl t.decls ≡ true
  pub body : are_readable_adjoint_statements (astmt_trees t.body) ≡ true
  pub shallow : deepest_in_adjoints (astmt_trees t.body) ≤ 256
  pub shallow_blocks : block_depth_of_adjoints (astmt_trees t.body) ≤ 256
