-- What the rows of printed declarations are read as, line numbers aside.
use Rattle.std.specs.Prelude.{◌≡◌, List, ◌++◌, map}
use Rattle.fl_ast.specs.declared.decl.Decl.{Decl}
use Rattle.parsing.specs.Reading.{Lexemes}
use Rattle.parsing.specs.Grammar.{many, where_}
use Rattle.fl_statements.specs.Limits.{the_limits}
use Rattle.fl_parser.specs.UnitGrammar as g

-- a declaration without its line
abbrev pub unlined_decl : Decl → Decl
unlined_decl d = record d { line = 0 }

-- in the grammar the lexemes are these declarations, behind others
pub record AreDeclared (before : List Decl) (us : Lexemes) (ds : List Decl) : Type 0 where
  pub news : List Decl
  pub same : map unlined_decl news ≡ map unlined_decl ds
  pub reads : many (λ found. where_ (g.may_declare the_limits found) (g.decl the_limits found)) before (before ++ news) us
