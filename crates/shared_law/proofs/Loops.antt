-- What typing says of the parallel loops of a program.
use Rattle.std.proofs.Common.{◌≡◌, inl, inr, ℕ, Bool, true, false, ◌&&◌, if◌then◌else◌, bytes_eq, List, [], ◌∷◌, ◌++◌, Some, None, refl, ap, subst, ◌∙◌}
use Rattle.std.proofs.lemmas.Bool.{and_parts, or_left}
use Rattle.fl_ast.specs.declared.stmt.Program.{Program}
use Rattle.fl_ast.specs.Readable.{has_arm, has_parallel_in, is_readable_condition, is_readable_statement, are_readable_statements, are_readable_arms}
use Rattle.fl_ast.specs.Tree.{Statement, assignment, branch, loop, Statements, no_statements, statement, Arms, no_arms, arm}
use Rattle.fl_types.specs.Mentions as m
use Rattle.fl_types.specs.Mentions.{Surroundings}
use Rattle.fl_types.specs.Nests.{is_nest, inner_head}
use Rattle.fl_types.specs.Sharing.{has_name}
use Rattle.typing.proofs.Faultless.{Clean, apart}
use Rattle.transposition.specs.Calms.{AreFlat}
use Rattle.index_forms.specs.Loops.{HeadedLoop, headed_loops, headed_loops_of_all, headed_loops_of_arms, further}
use Rattle.index_law.specs.Starts.{HasOtherVariable}
use Rattle.sound_programs.proofs.Lists.{never, not_yes, fails, same_name, itself, Each, each_both}
use Rattle.sound_programs.proofs.Stating.{loop_readable}
use Rattle.sound_programs.proofs.Trees.{loop_clean, flat_all}

-- the one element of a list
only_here : {X : Type 0} (P : X → Type 0) (y : X) → P y → Each P (y ∷ [])
only_here P y h x (inl e) = subst P e h
only_here P y h x (inr i) = absurd i

-- a loop without another parallel one in it, whose variable is another than that of the loop collapsed with it
pub record IsLone (l : HeadedLoop) : Type 0 where
  pub flat : AreFlat l.loop.body
  pub variable : l.loop.var ≡ l.head.var
  pub apart : HasOtherVariable (further l) l.head.var

other_variable : (p : Program) (s : Surroundings) (x : List ℕ) (b : Bool) (body : Statements) → has_name x s.vars ≡ true
    → Clean p (m.in_statements s body) → HasOtherVariable (if b then inner_head body else None) x
other_variable p s x false body h c = tt
other_variable p s x true no_statements h c = tt
other_variable p s x true (statement (assignment line atomic t e) ss) h c = tt
other_variable p s x true (statement (branch line arms other) ss) h c = tt
other_variable p s x true (statement (loop line number directive var first last step body) ss) h c =
    let q = apart p (m.in_statement s (loop line number directive var first last step body)) (m.in_statements s ss) c in
    differs x var s.vars h (loop_clean p s line number directive var first last step body q.0).variable.new
  where
    differs : (x y : List ℕ) (vars : List (List ℕ)) → has_name x vars ≡ true → has_name y vars ≡ false → bytes_eq x y ≡ false
    differs x y vars h k = fails (bytes_eq x y) (λ e. never (has_name x vars) h (ap (λ z. has_name z vars) (same_name x y e) ∙ k))

mutual
  lone_one : (p : Program) (s : Surroundings) (a : Statement) → Clean p (m.in_statement s a) → is_readable_statement a ≡ true
      → Each IsLone (headed_loops s.vars a)
  lone_one p s (assignment line atomic t e) c r = λ l i. absurd i
  lone_one p s (branch line arms other) c r =
      let q = apart p (m.in_arms s line arms) (m.in_statements s other) c in
      let h = and_parts (are_readable_arms arms) (are_readable_statements other) (and_parts (has_arm arms) (are_readable_arms arms && are_readable_statements other) r).1 in
      each_both IsLone (headed_loops_of_arms s.vars arms) (headed_loops_of_all s.vars other) (lone_arms p s line arms q.0 h.0) (lone_all p s other q.1 h.1)
  lone_one p s (loop line number None var first last step body) c r =
      lone_all p (m.at_body s var (m.made_parallel None var body)) body (loop_clean p s line number None var first last step body c).inside
      (loop_readable None var first last step body r).inside
  lone_one p s (loop line number (Some d) var first last step body) c r =
      let h = loop_readable (Some d) var first last step body r in
      let k = loop_clean p s line number (Some d) var first last step body c in
      each_both IsLone (record {
        head = record { line = line; var = var; first = first; last = last; step = step };
        loop = record { line = line; number = number; outer = s.vars; directive = d; var = var; body = body };
      } ∷ []) (headed_loops_of_all (var ∷ s.vars) body)
      (only_here IsLone _ (record {
        flat = flat_all body (not_yes (has_parallel_in body) h.alone);
        variable = refl;
        apart = other_variable p (m.at_body s var (m.made_parallel (Some d) var body)) var (is_nest d body) body
            (or_left (bytes_eq var var) (has_name var s.vars) (itself var)) k.inside;
      }))
      (lone_all p (m.at_body s var (m.made_parallel (Some d) var body)) body k.inside h.inside)

  pub lone_all : (p : Program) (s : Surroundings) (ss : Statements) → Clean p (m.in_statements s ss) → are_readable_statements ss ≡ true
      → Each IsLone (headed_loops_of_all s.vars ss)
  lone_all p s no_statements c r = λ l i. absurd i
  lone_all p s (statement a ss) c r =
      let q = apart p (m.in_statement s a) (m.in_statements s ss) c in
      let h = and_parts (is_readable_statement a) (are_readable_statements ss) r in
      each_both IsLone (headed_loops s.vars a) (headed_loops_of_all s.vars ss) (lone_one p s a q.0 h.0) (lone_all p s ss q.1 h.1)

  lone_arms : (p : Program) (s : Surroundings) (line : ℕ) (arms : Arms) → Clean p (m.in_arms s line arms) → are_readable_arms arms ≡ true
      → Each IsLone (headed_loops_of_arms s.vars arms)
  lone_arms p s line no_arms c r = λ l i. absurd i
  lone_arms p s line (arm test body arms) c r =
      let q = apart p (m.in_statements s body) (m.in_arms s line arms)
      (apart p (m.in_condition (m.at_line s line) test) (m.in_statements s body ++ m.in_arms s line arms) c).1 in
      let h = and_parts (are_readable_statements body) (are_readable_arms arms)
      (and_parts (is_readable_condition test) (are_readable_statements body && are_readable_arms arms) r).1 in
      each_both IsLone (headed_loops_of_all s.vars body) (headed_loops_of_arms s.vars arms) (lone_all p s body q.0 h.0) (lone_arms p s line arms q.1 h.1)
