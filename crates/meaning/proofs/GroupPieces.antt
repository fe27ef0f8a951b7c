-- Each group stands among the accesses of the statements.
use Rattle.std.specs.Prelude.{◌≡◌, ℕ, zero, suc, ◌+◌, Bool, true, false, if◌then◌else◌, List, [], ◌∷◌, ◌++◌, Option, Some, None, Result, Ok, Err, refl}
use Rattle.std.proofs.Common.{ap, sym, ◌∙◌, append_assoc}
use Rattle.fl_ast.specs.Tree.{Expression, Designator, Statement, assignment, branch, loop, Statements, no_statements, statement, Arms, no_arms, arm}
use Rattle.fl_types.specs.declared.access.PathStep.{PathStep}
use Rattle.fl_types.specs.declared.access.PathStep.TheVariants.{Arm, Body}
use Rattle.fl_types.specs.declared.access.AccessKind.TheVariants.{Write}
use Rattle.fl_types.specs.Increment.{Signed, increment_terms}
use Rattle.fl_types.specs.Accesses.{Occurrence, access, increment_kind, assignment_accesses, reads, reads_all, step_reads, condition_reads, accesses, accesses_all, arms_accesses, statement_count, statements_count, test_path}
use Rattle.meaning.specs.Logs.{after}
use Rattle.meaning.specs.Sites.{Cells, Site, in_turn}
use Rattle.meaning.specs.Expressions.{holds}
use Rattle.meaning.specs.Statements.{Run, turns_of, value_at, turns, one_turn, run, run_all}
use Rattle.meaning.specs.Touches.{scope_at}
use Rattle.meaning.specs.Reached.{cells_with}
use Rattle.meaning.specs.Groups.{Group, right_accesses, groups_from, groups_of_turns, groups_of, groups_of_all, groups_of_arms, IsPiece, ArePieces}
use Rattle.meaning.proofs.GroupReadings.{append_nil}

piece_itself : (os : List Occurrence) → IsPiece os os
piece_itself os = record { before = []; after = []; whole = sym (append_nil os) }

piece_wider : (os more before after ps : List Occurrence) → more ≡ before ++ (os ++ after) → IsPiece os ps → IsPiece more ps
piece_wider os more before after ps e h = record {
  before = before ++ h.before;
  after = h.after ++ after;
  whole = e ∙ (ap (λ (xs : List Occurrence). before ++ (xs ++ after)) h.whole ∙ simp append_assoc);
}

pieces_wider : (os more before after : List Occurrence) (gs : List Group) → more ≡ before ++ (os ++ after) → ArePieces os gs → ArePieces more gs
pieces_wider os more before after [] e h = tt
pieces_wider os more before after (g ∷ gs) e h = (piece_wider os more before after g.accesses e h.0, h.1, pieces_wider os more before after gs e h.2)

pieces_append : (os : List Occurrence) (gs hs : List Group) → ArePieces os gs → ArePieces os hs → ArePieces os (gs ++ hs)
pieces_append os [] hs h k = k
pieces_append os (g ∷ gs) hs h k = (h.0, h.1, pieces_append os gs hs h.2 k)

pieces_from : {X A : Type 0} (os : List Occurrence) (r : Result A X) (f : A → List Group) → ((a : A) → ArePieces os (f a)) → ArePieces os (groups_from r f)
pieces_from os (Ok a) f h = h a
pieces_from os (Err x) f h = tt

pieces_of_turns : (os : List Occurrence) (n : ℕ) (f : ℕ → Run) (g : ℕ → Cells → List Group) → ((k : ℕ) (c : Cells) → ArePieces os (g k c)) → (c : Cells) → ArePieces os (groups_of_turns n f g c)
pieces_of_turns os zero f g h c = tt
pieces_of_turns os (suc n) f g h c = pieces_append os (groups_of_turns n f g c) (groups_from (turns n f c).out (g n)) (pieces_of_turns os n f g h c) (pieces_from os (turns n f c).out (g n) (h n))

if_pieces : (os : List Occurrence) (b : Bool) (gs hs : List Group) → ArePieces os gs → ArePieces os hs → ArePieces os (if b then gs else hs)
if_pieces os true gs hs h k = h
if_pieces os false gs hs h k = k

bounds_whole : (f l u inner : List Occurrence) → f ++ (l ++ (u ++ inner)) ≡ [] ++ ((f ++ (l ++ u)) ++ inner)
bounds_whole f l u inner = simp append_assoc

body_whole : (f l u inner : List Occurrence) → f ++ (l ++ (u ++ inner)) ≡ (f ++ (l ++ u)) ++ (inner ++ [])
body_whole f l u inner = ap (λ (xs : List Occurrence). f ++ (l ++ (u ++ xs))) (sym (append_nil inner)) ∙ simp append_assoc

last_whole : (a b : List Occurrence) → a ++ b ≡ a ++ (b ++ [])
last_whole a b = ap (λ (xs : List Occurrence). a ++ xs) (sym (append_nil b))

rest_whole : (a b rest : List Occurrence) → a ++ (b ++ rest) ≡ (a ++ b) ++ (rest ++ [])
rest_whole a b rest = ap (λ (xs : List Occurrence). a ++ (b ++ xs)) (sym (append_nil rest)) ∙ simp append_assoc

no_piece : (os : List Occurrence) → IsPiece os []
no_piece os = record { before = []; after = os; whole = refl }

-- the right side comes first
right_piece : (s : Site) (line : ℕ) (path : List PathStep) (atomic : Bool) (p : Designator) (e : Expression) (o : Option (List Signed)) → IsPiece (assignment_accesses (scope_at s) line path atomic p e o) (right_accesses (scope_at s) line path e o)
right_piece s line path atomic p e None = record { before = []; after = reads_all (scope_at s) line path p.subscripts ++ access (scope_at s) line path Write p; whole = refl }
right_piece s line path atomic p e (Some rs) =
    record { before = []; after = reads_all (scope_at s) line path p.subscripts ++ access (scope_at s) line path (increment_kind atomic (s.pluses p.name)) p; whole = refl }

mutual
  pieces : (x : Statement) (n : ℕ) (path : List PathStep) (s : Site) (c : Cells) → ArePieces (accesses (scope_at s) n path x) (groups_of n path x s c)
  pieces (assignment line atomic p e) n path s c = (piece_itself (accesses (scope_at s) n path (assignment line atomic p e)), right_piece s line path atomic p e (increment_terms s.ring p e), tt)
  pieces (branch line arms other) n path s c =
      arms_pieces arms line n (n + 1) 0 path (λ k steps. groups_of_all k steps other) (λ k steps. accesses_all (scope_at s) k steps other) s (λ k steps b. all_pieces other k steps s b) c
  pieces (loop line number directive var first last step body) n path s c =
      let f : List Occurrence = reads (scope_at s) line path first in
      let l : List Occurrence = reads (scope_at s) line path last in
      let u : List Occurrence = step_reads (scope_at s) line path step in
      let inner : List Occurrence = accesses_all (scope_at s) (n + 1) (path ++ Body n ∷ []) body in
      let all : List Occurrence = f ++ (l ++ (u ++ inner)) in (
        record { before = []; after = inner; whole = bounds_whole f l u inner },
        no_piece (f ++ (l ++ u)),
        pieces_from all (turns_of first last step s c).out
            (λ t. groups_of_turns t.count (one_turn s var t (run_all body)) (λ k a. groups_of_all (n + 1) (path ++ Body n ∷ []) body (in_turn s var) (cells_with s var (value_at t k) a)) c)
            (λ t. pieces_of_turns all t.count (one_turn s var t (run_all body)) (λ k a. groups_of_all (n + 1) (path ++ Body n ∷ []) body (in_turn s var) (cells_with s var (value_at t k) a))
            (λ k a. pieces_wider inner all (f ++ (l ++ u)) [] (groups_of_all (n + 1) (path ++ Body n ∷ []) body (in_turn s var) (cells_with s var (value_at t k) a)) (body_whole f l u inner)
            (all_pieces body (n + 1) (path ++ Body n ∷ []) (in_turn s var) (cells_with s var (value_at t k) a))) c),
      )

  pub all_pieces : (xs : Statements) (n : ℕ) (path : List PathStep) (s : Site) (c : Cells) → ArePieces (accesses_all (scope_at s) n path xs) (groups_of_all n path xs s c)
  all_pieces no_statements n path s c = tt
  all_pieces (statement x xs) n path s c =
      let a : List Occurrence = accesses (scope_at s) n path x in
      let b : List Occurrence = accesses_all (scope_at s) (n + statement_count x) path xs in
      pieces_append (a ++ b) (groups_of n path x s c) (groups_from (run x s c).out (groups_of_all (n + statement_count x) path xs s)) (pieces_wider a (a ++ b) [] b (groups_of n path x s c) refl (pieces x n path s c))
      (pieces_from (a ++ b) (run x s c).out (groups_of_all (n + statement_count x) path xs s)
      (λ d. pieces_wider b (a ++ b) a [] (groups_of_all (n + statement_count x) path xs s d) (last_whole a b) (all_pieces xs (n + statement_count x) path s d)))

  arms_pieces : (arms : Arms) (line n k m : ℕ) (path : List PathStep) (g : ℕ → List PathStep → Site → Cells → List Group) (o : ℕ → List PathStep → List Occurrence) (s : Site)
      → ((j : ℕ) (steps : List PathStep) (c : Cells) → ArePieces (o j steps) (g j steps s c)) → (c : Cells) → ArePieces (arms_accesses (scope_at s) line n k m path arms o) (groups_of_arms line n k m path arms g s c)
  arms_pieces no_arms line n k m path g o s h c = h k (path ++ Arm n m ∷ []) c
  arms_pieces (arm test body arms) line n k m path g o s h c =
      let a : List Occurrence = condition_reads (scope_at s) line (test_path path n m) test in
      let b : List Occurrence = accesses_all (scope_at s) k (path ++ Arm n m ∷ []) body in
      let rest : List Occurrence = arms_accesses (scope_at s) line n (k + statements_count body) (m + 1) path arms o in
      let here : List Group = groups_of_all k (path ++ Arm n m ∷ []) body s c in
      let there : List Group = groups_of_arms line n (k + statements_count body) (m + 1) path arms g s c in (
        record { before = []; after = b ++ rest; whole = refl },
        no_piece a,
        pieces_from (a ++ (b ++ rest)) (holds test s c).out (λ t. if t then here else there)
            (λ t. if_pieces (a ++ (b ++ rest)) t here there (pieces_wider b (a ++ (b ++ rest)) a rest here refl (all_pieces body k (path ++ Arm n m ∷ []) s c))
            (pieces_wider rest (a ++ (b ++ rest)) (a ++ b) [] there (rest_whole a b rest) (arms_pieces arms line n (k + statements_count body) (m + 1) path g o s h c))),
      )
