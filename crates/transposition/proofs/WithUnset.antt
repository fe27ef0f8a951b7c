-- The premises of the law can be met where a parallel loop unsets the variable of the loop around it, which the reverse part needs:
--   do i = 1, n: x(i) = x(i)*x(i); parallel with private(i): do j = 1, n: x(j) = x(j)*x(j)
use Rattle.std.proofs.Common.{◌≡◌, ℕ, zero, suc, ◌<◌, ◌≤◌, List, [], ◌∷◌, length, refl, ap, Bool, true, false, not, ◌||◌, None, Some, arith}
use Rattle.std.specs.Prelude.{codes, slice_index, bytes_eq}
use Rattle.ring_core.specs.Index.{exact_index}
use Rattle.fl_ast.specs.declared.kind.Kind.TheVariants as kind
use Rattle.fl_ast.specs.declared.directive.Directive.{Directive}
use Rattle.fl_ast.specs.Tree.{Statements, loop, statement, Subroutine}
use Rattle.fl_types.specs.declared.choice.Choice.TheVariants.{Shared, Atomic}
use Rattle.store_core.specs.declared.layout.Shape.{Shape}
use Rattle.meaning.specs.Sites.{Cells, Site, opening_site}
use Rattle.meaning.specs.Stops.{the_limits}
use Rattle.meaning.specs.Adjoints.{cells_along, unit}
use Rattle.meaning.specs.Programs.{entry_cells, adjoint_of}
use Rattle.meaning.proofs.Small.{declared, scalar, array, word, number, one, name, at, into, ◌times◌, only, set as set_to, clauses, parallel, all_pushed}
use Rattle.transposition.specs.Worlds.{World, in_turn, in_iteration, name_at}
use Rattle.transposition.specs.Law.{Use, SharedApart}
use Rattle.transposition.specs.Sound.{scope_with, writes_in, IsHeld, SoundAll, SoundRounds, Own}
use Rattle.transposition.specs.Calms.{PairwiseAll}
use Rattle.transposition.specs.Answer.{reverse_run}
use Rattle.transposition.specs.Programs.{program_world}
use Rattle.transposition.proofs.WholePrograms.{program_transposed}
use Rattle.transposition.proofs.Words.{all_small, all_words}
use Rattle.transposition.proofs.Meeting.{named, held_words, only_at}
use Rattle.transposition.proofs.Runs.{held_in_turn}

abbrev n : List ℕ
n = codes "n"

abbrev x : List ℕ
x = codes "x"

abbrev i : List ℕ
i = codes "i"

abbrev j : List ℕ
j = codes "j"

abbrev directive : Directive
directive = record clauses { privates = i ∷ [] }

abbrev site : Site
site = opening_site (declared kind.Index n ∷ declared kind.Ring x ∷ declared kind.Index i ∷ declared kind.Index j ∷ []) (scalar n ∷ array x 2 ∷ []) all_pushed

abbrev body : Statements
body = only (set_to 6 (into x (name j)) (at x (name j) times at x (name j)))

abbrev powers : Statements
powers = only (loop 3 0 None i (one 1) (name n) None (statement (set_to 4 (into x (name i)) (at x (name i) times at x (name i))) (parallel directive j (one 1) (name n) body)))

abbrev world : World
world = record { site = site; shared = 3; active = λ z. bytes_eq z x; choice = λ z. Shared; choices = λ k z. Atomic }

-- outside, neither loop's variable is in scope
abbrev outer : Use
outer = record { needed = λ z. not (bytes_eq z i || bytes_eq z j); live = λ z. bytes_eq z x; moved = λ z. true; held = λ z. None }

abbrev turned : ℕ → Use
turned m = scope_with i m outer

abbrev inner : Use
inner = record { needed = λ z. true; live = λ z. bytes_eq z x; moved = λ z. true; held = λ z. None }

abbrev turn_world : World
turn_world = in_turn world i

own_i : Own turn_world i
own_i = record { q = 3; place = refl; only = only_at i 3 site.keys refl; own = omega arith }

own_j : Own turn_world j
own_j = record { q = 4; place = refl; only = only_at j 4 site.keys refl; own = omega arith }

other : (a b : Bool) → (a || false) ≡ false → (b || false) ≡ false → (not (a || b) || a) ≡ true
other true b h k = cc
other false true h k = cc
other false false h k = refl

rounds_sound : (m : ℕ) → SoundRounds turn_world (turned m) inner 1 directive j body
rounds_sound m = record {
  variables = (own_j, tt);
  whole = λ z h. named j z (λ y. site.ring y ≡ false) h refl;
  unvaried = λ z h. named j z (λ y. writes_in y body ≡ false) h refl;
  unheld = λ z h. named j z (λ y. (turned m).held y ≡ None) h refl;
  privates = (own_i, tt);
  pushed = λ z h k e. refl;
  needed = λ z h k e. other (bytes_eq z i) (bytes_eq z j) k e;
  outside = λ z h. refl;
  live = λ z h. refl;
  moved = λ z. refl;
  dead = dead;
  stays = stays;
  unset = λ z h. held_in_turn i m outer z h.0 h.1 (λ e k. ap (λ (y : List ℕ). writes_in y body) e) (λ e k. (let f : None ≡ Some h.0 = k in cc));
  low = low;
  fresh = λ z. refl;
  inside = inside;
  silent = λ z. refl;
  summed = ((λ h. cc), ((λ h. cc), ((λ h. cc), ((λ h. cc), tt))));
}
  where
    dead : (p : ℕ) → 3 ≤ p → bytes_eq (name_at site.keys p) x ≡ false
    dead zero h = absurd (omega arith)
    dead (suc zero) h = absurd (omega arith)
    dead (suc (suc zero)) h = absurd (omega arith)
    dead (suc (suc (suc zero))) h = refl
    dead (suc (suc (suc (suc zero)))) h = refl
    dead (suc (suc (suc (suc (suc p))))) h = refl

    -- the outer variable is needed, and held
    stays : (p : ℕ) → 3 ≤ p → p < length site.keys → (turned m).needed (name_at site.keys p) ≡ true → IsHeld (turned m) (name_at site.keys p)
    stays zero h k e = absurd (omega arith)
    stays (suc zero) h k e = absurd (omega arith)
    stays (suc (suc zero)) h k e = absurd (omega arith)
    stays (suc (suc (suc zero))) h k e = (m, refl)
    stays (suc (suc (suc (suc zero)))) h k e = cc
    stays (suc (suc (suc (suc (suc p))))) h k e = absurd (omega arith)

    low : (p : ℕ) → p < 3 → (turned m).held (name_at site.keys p) ≡ None
    low zero h = refl
    low (suc zero) h = refl
    low (suc (suc zero)) h = refl
    low (suc (suc (suc p))) h = absurd (omega arith)

    inside : (p : ℕ) → p < 3 → (in_iteration turn_world 1 directive j body).site.accessed (name_at site.keys p) ≡ true
    inside zero h = refl
    inside (suc zero) h = refl
    inside (suc (suc zero)) h = refl
    inside (suc (suc (suc p))) h = absurd (omega arith)

sound : SoundAll world outer powers
sound = (
  (
    record { q = 3; place = refl; only = only_at i 3 site.keys refl; own = omega arith; whole = refl; unneeded = refl; unheld = refl; dead = refl; literals = (tt, tt, tt); wholes = (tt, refl, tt) },
    λ m. (
      (
        record {
          target = record { subscripts = λ e. ((refl, tt), tt); undone = λ e. ((refl, tt), tt); free = refl; unheld = refl; pushed = λ e. refl; live = refl; ring = λ e. refl; summed = λ e. refl };
          amounts = λ e. (record { factors = ((refl, ((refl, tt), tt)), tt); subscripts = ((refl, tt), tt); live = refl }, (record { factors = ((refl, ((refl, tt), tt)), tt); subscripts = ((refl, tt), tt); live = refl }, tt));
          quiet = λ e. ((λ h. cc), (λ h. cc));
          kinds = λ e. (tt, tt);
        },
        record { literals = ((tt, tt), (tt, tt)); whole = λ h. cc; still = λ h. cc },
      ),
      (
        (
          inner,
          rounds_sound m,
          (tt, tt, tt),
          tt,
          ((
            (
              record {
                target = record { subscripts = λ e. ((refl, tt), tt); undone = λ e. ((refl, tt), tt); free = refl; unheld = refl; pushed = λ e. refl; live = refl; ring = λ e. refl; summed = λ e. refl };
                amounts = λ e. (record { factors = ((refl, ((refl, tt), tt)), tt); subscripts = ((refl, tt), tt); live = refl }, (record { factors = ((refl, ((refl, tt), tt)), tt); subscripts = ((refl, tt), tt); live = refl }, tt));
                quiet = λ e. ((λ h. cc), (λ h. cc));
                kinds = λ e. (tt, tt);
              },
              record { literals = ((tt, tt), (tt, tt)); whole = λ h. cc; still = λ h. cc },
            ),
            tt,
          )),
          (tt, tt),
        ),
        tt,
      ),
    ),
  ),
  tt,
)

abbrev cells : Cells
cells = number 2 ∷ word 2 ∷ word 3 ∷ None ∷ None ∷ []

abbrev start : Cells
start = cells_along (unit 1) cells

-- with atomic increments nothing is asked of reads
apart : PairwiseAll SharedApart powers world start
apart = ((λ t e k b s1 g. (tt, λ s2 h. ((λ heads f p q a c d. λ r o y z. (let l : true ≡ false = o in cc)), λ s3 l. tt))), λ s h. tt)

-- the outer variable ends unset
abbrev last : Cells
last = number 2 ∷ word 256 ∷ word 6561 ∷ None ∷ number 2 ∷ []

-- ---- the whole program

abbrev program : Subroutine
program = record {
  name = codes "powers";
  args = n ∷ x ∷ [];
  decls = declared kind.Index n ∷ declared kind.Ring x ∷ declared kind.Index i ∷ declared kind.Index j ∷ [];
  body = powers;
}

abbrev shapes : List Shape
shapes = scalar n ∷ array x 2 ∷ []

abbrev seed : List ℕ
seed = 0 ∷ 1 ∷ 10 ∷ 0 ∷ 0 ∷ []

abbrev final : List ℕ
final = 2 ∷ 256 ∷ 6561 ∷ 0 ∷ 0 ∷ []

program_met :
    slice_index (reverse_run (program_world program shapes all_pushed (λ z. bytes_eq z x) (λ k z. Atomic)) powers (entry_cells program shapes (2 ∷ 2 ∷ 3 ∷ [])) final seed).cells 4
    ≡ adjoint_of program shapes (2 ∷ 2 ∷ 3 ∷ []) seed 1
unfolding exact_index
program_met =
    program_transposed program shapes all_pushed (λ z. bytes_eq z x) (λ k z. Atomic) outer the_limits (2 ∷ 2 ∷ 3 ∷ []) final seed last 1 (record { value = 2; tangent = 0 }) sound (λ z. refl) apart (all_words (2 ∷ 2 ∷ 3 ∷ []) refl) refl refl
    (held_words outer site.keys final last refl (λ z. refl)) refl refl (all_small seed refl) dead_seed (omega arith) refl refl refl
  where
    dead_seed : (p : ℕ) → bytes_eq (name_at site.keys p) x ≡ false → true ≡ true → slice_index (0 ∷ 1 ∷ 10 ∷ 0 ∷ 0 ∷ []) p ≡ 0
    dead_seed zero h k = refl
    dead_seed (suc zero) h k = cc
    dead_seed (suc (suc zero)) h k = cc
    dead_seed (suc (suc (suc zero))) h k = refl
    dead_seed (suc (suc (suc (suc zero)))) h k = refl
    dead_seed (suc (suc (suc (suc (suc p))))) h k = refl

-- 8*2^7
left : slice_index (reverse_run (program_world program shapes all_pushed (λ z. bytes_eq z x) (λ k z. Atomic)) powers (entry_cells program shapes (2 ∷ 2 ∷ 3 ∷ [])) final seed).cells 4 ≡ 1024
unfolding exact_index
left = refl
