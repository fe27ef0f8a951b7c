-- The premises of the law can be met with a private scalar, and adjoints that are incremented without atomics:
--   do i = 1, n: d = x(i)*x(i); x(i) = d*x(i)
use Rattle.std.proofs.Common.{◌≡◌, ℕ, zero, suc, ◌<◌, ◌≤◌, List, [], ◌∷◌, refl, sym, ◌∙◌, subst, Bool, true, false, not, ◌||◌, None, arith, pos, length, Some}
use Rattle.std.specs.Prelude.{codes, slice_index, bytes_eq}
use Rattle.ring_core.specs.Index.{exact_index}
use Rattle.fl_ast.specs.declared.kind.Kind.TheVariants as kind
use Rattle.fl_ast.specs.declared.directive.Directive.{Directive}
use Rattle.fl_ast.specs.Tree.{Statements, statement, Subroutine}
use Rattle.fl_types.specs.declared.access.AccessKind.TheVariants.{Read}
use Rattle.fl_types.specs.declared.choice.Choice.TheVariants.{Shared}
use Rattle.meaning.specs.Logs.{Log}
use Rattle.meaning.specs.Sites.{Cells, Site, opening_site}
use Rattle.meaning.specs.Statements.{Heads, iterations}
use Rattle.meaning.specs.Stops.{the_limits}
use Rattle.meaning.specs.Adjoints.{cells_along, unit}
use Rattle.meaning.proofs.Small.{declared, scalar, array, word, number, one, name, at, to, into, ◌times◌, only, set as set_to, clauses, parallel, all_pushed}
use Rattle.meaning.specs.Fitting.{Fits}
use Rattle.transposition.specs.Worlds.{World, in_iteration, name_at}
use Rattle.transposition.specs.Law.{Use, SharedApart}
use Rattle.transposition.specs.Sound.{writes_in, SoundAll, SoundRounds, Own, IsHeld}
use Rattle.transposition.specs.Calms.{PairwiseAll, IsCalmAll, iteration_log}
use Rattle.transposition.specs.Answer.{Answer}
use Rattle.store_core.specs.declared.layout.Shape.{Shape}
use Rattle.meaning.specs.Programs.{entry_cells, adjoint_of}
use Rattle.transposition.specs.Answer.{reverse_run}
use Rattle.transposition.specs.Programs.{program_world}
use Rattle.transposition.proofs.WholePrograms.{program_transposed}
use Rattle.transposition.proofs.Words.{all_small, all_words}
use Rattle.transposition.proofs.Meeting.{or_false, named, held_fits, held_words, only_at}
use Rattle.transposition.proofs.Passing.{unstopped}
use Rattle.transposition.proofs.Squares.{touched_at, all_at}
use Rattle.transposition.proofs.Clears.{read_of}
use Rattle.transposition.proofs.Transposed.{answered}

abbrev n : List ℕ
n = codes "n"

abbrev i : List ℕ
i = codes "i"

abbrev d : List ℕ
d = codes "d"

abbrev x : List ℕ
x = codes "x"

abbrev directive : Directive
directive = record clauses { privates = d ∷ [] }

abbrev site : Site
site = opening_site (declared kind.Index n ∷ declared kind.Ring x ∷ declared kind.Index i ∷ declared kind.Ring d ∷ []) (scalar n ∷ array x 2 ∷ []) all_pushed

abbrev body : Statements
body = statement (set_to 6 (to d) (at x (name i) times at x (name i))) (only (set_to 7 (into x (name i)) (name d times at x (name i))))

abbrev cubes : Statements
cubes = parallel directive i (one 1) (name n) body

abbrev world : World
world = record { site = site; shared = 3; active = λ z. bytes_eq z x || bytes_eq z d; choice = λ z. Shared; choices = λ k z. Shared }

-- outside, neither the loop's variable nor the private scalar is in scope
abbrev outer : Use
outer = record { needed = λ z. not (bytes_eq z i || bytes_eq z d); live = λ z. bytes_eq z x; moved = λ z. true; held = λ z. None }

abbrev inner : Use
inner = record { needed = λ z. true; live = λ z. bytes_eq z x || bytes_eq z d; moved = λ z. true; held = λ z. None }

abbrev inside_world : World
inside_world = in_iteration world 1 directive i body

own_i : Own world i
own_i = record { q = 3; place = refl; only = only_at i 3 site.keys refl; own = omega arith }

own_d : Own world d
own_d = record { q = 4; place = refl; only = only_at d 4 site.keys refl; own = omega arith }

neither : (a b : Bool) → (a || false) ≡ false → (b || false) ≡ false → not (b || a) ≡ true
neither true b h k = cc
neither false true h k = cc
neither false false h k = refl

live_same : (a b : Bool) → (b || false) ≡ false → (a || b) ≡ a
live_same true b h = refl
live_same false b h = or_false b h

rounds_sound : SoundRounds world outer inner 1 directive i body
rounds_sound = record {
  variables = (own_i, tt);
  whole = λ z h. named i z (λ y. site.ring y ≡ false) h refl;
  unvaried = λ z h. named i z (λ y. writes_in y body ≡ false) h refl;
  privates = (own_d, tt);
  unheld = λ z h. refl;
  pushed = λ z h k i. refl;
  needed = λ z h k e. neither (bytes_eq z d) (bytes_eq z i) k e;
  outside = λ z h. refl;
  live = λ z h. live_same (bytes_eq z x) (bytes_eq z d) h;
  moved = λ z. refl;
  dead = dead;
  stays = stays;
  unset = λ z h. (let e : None ≡ Some h.0 = h.1 in cc);
  low = λ p h. refl;
  fresh = λ z. refl;
  inside = inside;
  silent = λ z. refl;
  summed = ((λ h. cc), ((λ h. cc), ((λ h. cc), ((λ h. cc), tt))));
}
  where
    dead : (p : ℕ) → 3 ≤ p → bytes_eq (name_at site.keys p) x ≡ false
    dead zero h = absurd (omega arith)
    dead (suc zero) h = absurd (omega arith)
    dead (suc (suc zero)) h = absurd (omega arith)
    dead (suc (suc (suc zero))) h = refl
    dead (suc (suc (suc (suc zero)))) h = refl
    dead (suc (suc (suc (suc (suc p))))) h = refl

    stays : (p : ℕ) → 3 ≤ p → p < length site.keys → not (bytes_eq (name_at site.keys p) i || bytes_eq (name_at site.keys p) d) ≡ true → IsHeld outer (name_at site.keys p)
    stays zero h j k = absurd (omega arith)
    stays (suc zero) h j k = absurd (omega arith)
    stays (suc (suc zero)) h j k = absurd (omega arith)
    stays (suc (suc (suc zero))) h j k = cc
    stays (suc (suc (suc (suc zero)))) h j k = cc
    stays (suc (suc (suc (suc (suc p))))) h j k = absurd (omega arith)

    inside : (p : ℕ) → p < 3 → inside_world.site.accessed (name_at site.keys p) ≡ true
    inside zero h = refl
    inside (suc zero) h = refl
    inside (suc (suc zero)) h = refl
    inside (suc (suc (suc p))) h = absurd (omega arith)

sound : SoundAll world outer cubes
sound = (
  (
    inner,
    rounds_sound,
    (tt, tt, tt),
    tt,
    (
      (
        record {
          target = record { subscripts = λ e. tt; undone = λ e. tt; free = refl; unheld = refl; pushed = λ e. refl; live = refl; ring = λ e. refl; summed = λ e. refl };
          amounts = λ e. (record { factors = ((refl, ((refl, tt), tt)), tt); subscripts = ((refl, tt), tt); live = refl }, (record { factors = ((refl, ((refl, tt), tt)), tt); subscripts = ((refl, tt), tt); live = refl }, tt));
          quiet = λ e. ((λ h. cc), (λ h. cc));
          kinds = λ e. (tt, tt);
        },
        record { literals = ((tt, tt), (tt, tt)); whole = λ h. cc; still = λ h. cc },
      ),
      (
        (
          record {
            target = record { subscripts = λ e. ((refl, tt), tt); undone = λ e. ((refl, tt), tt); free = refl; unheld = refl; pushed = λ e. refl; live = refl; ring = λ e. refl; summed = λ e. refl };
            amounts = λ e. (record { factors = ((refl, ((refl, tt), tt)), tt); subscripts = tt; live = refl }, (record { factors = ((refl, tt), tt); subscripts = ((refl, tt), tt); live = refl }, tt));
            quiet = λ e. ((λ h. cc), (λ h. cc));
            kinds = λ e. (tt, tt);
          },
          record { literals = (tt, (tt, tt)); whole = λ h. cc; still = λ h. cc },
        ),
        tt,
      ),
    ),
    (tt, (tt, tt)),
  ),
  tt,
)

abbrev cells : Cells
cells = number 2 ∷ word 3 ∷ word 5 ∷ None ∷ None ∷ []

abbrev start : Cells
start = cells_along (unit 1) cells

abbrev last : Cells
last = number 2 ∷ word 27 ∷ word 125 ∷ number 2 ∷ word 25 ∷ []

-- ---- the reads of two iterations are at different places

apart_by : (l m : Log) (q r : ℕ) → ((q ≡ r) → ⊥) → all_at q l ≡ true → all_at r m ≡ true → SharedApart inside_world l m
apart_by l m q r f h g p e a b = f (sym (touched_at q p Read l h (read_of inside_world p l a)) ∙ touched_at r p Read m g (read_of inside_world p m b))

abbrev heads : Heads
heads = (i, record { first = pos 1; last = pos 2; step = pos 1; count = 2 }) ∷ []

abbrev log_of : Heads → ℕ → Log
log_of h k = iteration_log site directive i h body start k

apart_at : (j k : ℕ) → j < 2 → k < 2 → ((j ≡ k) → ⊥) → SharedApart inside_world (log_of heads j) (log_of heads k)
unfolding exact_index
apart_at zero zero a b f = absurd (f refl)
apart_at zero (suc zero) a b f = apart_by (log_of heads 0) (log_of heads 1) 1 2 (λ e. cc) refl refl
apart_at (suc zero) zero a b f = apart_by (log_of heads 1) (log_of heads 0) 2 1 (λ e. cc) refl refl
apart_at (suc zero) (suc zero) a b f = absurd (f refl)
apart_at (suc (suc j)) k a b f = absurd (omega arith)
apart_at zero (suc (suc k)) a b f = absurd (omega arith)
apart_at (suc zero) (suc (suc k)) a b f = absurd (omega arith)

apart : PairwiseAll SharedApart cubes world start
unfolding exact_index
apart = (
  (λ h e j k a b f.
      let same : heads ≡ h = cc in
      subst (λ (y : Heads). j < iterations y → k < iterations y → SharedApart inside_world (log_of y j) (log_of y k)) same (λ g m. apart_at j k g m f) a b),
  λ s h. tt,
)

abbrev end_of : Cells
end_of = last

calm : IsCalmAll cubes world start
unfolding exact_index
calm = unstopped world outer cubes the_limits start _ sound refl refl apart

fits : Fits site cells
fits = held_fits site site.keys cells refl

met : Answer world outer cubes cells (2 ∷ 27 ∷ 125 ∷ 0 ∷ 0 ∷ []) (0 ∷ 1 ∷ 10 ∷ 0 ∷ 0 ∷ []) 1
unfolding exact_index
met = answered world outer cubes cells last (2 ∷ 27 ∷ 125 ∷ 0 ∷ 0 ∷ []) (0 ∷ 1 ∷ 10 ∷ 0 ∷ 0 ∷ []) 1 (record { value = 3; tangent = 0 }) sound (λ z. refl) calm fits (omega arith) refl refl
    (held_words outer site.keys (2 ∷ 27 ∷ 125 ∷ 0 ∷ 0 ∷ []) last refl (λ z. refl)) refl refl (all_small (0 ∷ 1 ∷ 10 ∷ 0 ∷ 0 ∷ []) refl) refl refl dead_seed
  where
    dead_seed : (p : ℕ) → bytes_eq (name_at site.keys p) x ≡ false → true ≡ true → slice_index (0 ∷ 1 ∷ 10 ∷ 0 ∷ 0 ∷ []) p ≡ 0
    dead_seed zero h k = refl
    dead_seed (suc zero) h k = cc
    dead_seed (suc (suc zero)) h k = cc
    dead_seed (suc (suc (suc zero))) h k = refl
    dead_seed (suc (suc (suc (suc zero)))) h k = refl
    dead_seed (suc (suc (suc (suc (suc p))))) h k = refl

-- ---- the whole program

abbrev program : Subroutine
program = record {
  name = codes "cubes";
  args = n ∷ x ∷ [];
  decls = declared kind.Index n ∷ declared kind.Ring x ∷ declared kind.Index i ∷ declared kind.Ring d ∷ [];
  body = cubes;
}

abbrev shapes : List Shape
shapes = scalar n ∷ array x 2 ∷ []

abbrev seed : List ℕ
seed = 0 ∷ 1 ∷ 10 ∷ 0 ∷ 0 ∷ []

abbrev final : List ℕ
final = 2 ∷ 27 ∷ 125 ∷ 0 ∷ 0 ∷ []

program_met :
    slice_index (reverse_run (program_world program shapes all_pushed (λ z. bytes_eq z x || bytes_eq z d) (λ k z. Shared)) cubes (entry_cells program shapes (2 ∷ 3 ∷ 5 ∷ [])) final seed).cells 4
    ≡ adjoint_of program shapes (2 ∷ 3 ∷ 5 ∷ []) seed 1
unfolding exact_index
program_met =
    program_transposed program shapes all_pushed (λ z. bytes_eq z x || bytes_eq z d) (λ k z. Shared) outer the_limits (2 ∷ 3 ∷ 5 ∷ []) final seed last 1 (record { value = 3; tangent = 0 }) sound (λ z. refl) apart (all_words (2 ∷ 3 ∷ 5 ∷ []) refl) refl refl
    (held_words outer site.keys final last refl (λ z. refl)) refl refl (all_small seed refl) dead_seed (omega arith) refl refl refl
  where
    dead_seed : (p : ℕ) → bytes_eq (name_at site.keys p) x ≡ false → true ≡ true → slice_index (0 ∷ 1 ∷ 10 ∷ 0 ∷ 0 ∷ []) p ≡ 0
    dead_seed zero h k = refl
    dead_seed (suc zero) h k = cc
    dead_seed (suc (suc zero)) h k = cc
    dead_seed (suc (suc (suc zero))) h k = refl
    dead_seed (suc (suc (suc (suc zero)))) h k = refl
    dead_seed (suc (suc (suc (suc (suc p))))) h k = refl
