-- A name that is asked by and isn't active has the adjoint 0: in its direction no name that is asked of moves.
use Rattle.std.proofs.Common.{◌≡◌, ◌⊎◌, inl, inr, ℕ, suc, ◌*◌, ◌%◌, ◌≤◌, Bool, true, false, not, ◌++◌, cond, find, List, [], ◌∷◌, map, length, Option, Some, None, Result, Ok, Err, refl, ap, sym, subst, ◌∙◌, arith}
use Rattle.std.specs.Prelude.{slice_index}
use Rattle.std.proofs.lemmas.Bool.{and_parts, not_from_true}
use Rattle.ring_core.specs.Ring.{ring_add, ring_mul}
use Rattle.pairing.specs.Ring.{big, Same}
use Rattle.pairing.proofs.Sames.{of_equal, same_product, put_add, put_mul}
use Rattle.fl_ast.specs.declared.decl.Decl.{Decl}
use Rattle.fl_ast.specs.declared.stmt.Program.{Program}
use Rattle.fl_ast.specs.Tree.{stmt_trees, program_tree}
use Rattle.fl_types.specs.declared.choice.Choice.TheVariants.{Atomic}
use Rattle.fl_types.specs.Sharing.{has_name}
use Rattle.fl_types.specs.Declarations.{is_declared, is_ring_argument}
use Rattle.store_core.specs.Keys.{scalar}
use Rattle.store_core.specs.Places.{shapes_of}
use Rattle.meaning.specs.declared.value.Value.{Value}
use Rattle.meaning.specs.declared.value.TrapAt.{TrapAt}
use Rattle.meaning.specs.Sites.{Key, Cells}
use Rattle.meaning.specs.Expressions.{content}
use Rattle.meaning.specs.Statements.{run_all}
use Rattle.meaning.specs.Adjoints.{cells_along, unit, tangent_of, pairing_of, pairing_after}
use Rattle.meaning.specs.Fitting.{Fits}
use Rattle.meaning.specs.Programs.{entry_site, entry_cells, no_pushes, adjoint_of}
use Rattle.meaning.proofs.Entries.{directions_fit, entries_fit}
use Rattle.meaning.proofs.Everywhere.{runs_everywhere}
use Rattle.reachability.specs.Reached.{Edge, IsAmong, root, onward}
use Rattle.reachability.specs.Named.{are_both_declared, IsReachedName}
use Rattle.activity.specs.Active.{program_flows, turned}
use Rattle.adjoint_sets.specs.Names.{is_active, is_needed}
use Rattle.adjoint_sets.proofs.Reaching.{reached_name}
use Rattle.transposition.specs.Worlds.{World, name_at}
use Rattle.transposition.specs.Law.{Use, Fit}
use Rattle.transposition.specs.Sound.{SoundAll}
use Rattle.transposition.proofs.Places.{content_later}
use Rattle.transposition.proofs.Fits.{all_laid, unit_fit}
use Rattle.transposition.proofs.Whole.{kept_all}
use Rattle.sound_programs.specs.Uses.{is_useful, outer_use}
use Rattle.sound_programs.specs.Accepted.{IsAccepted, world_of_program, InactiveIsZero}
use Rattle.sound_programs.proofs.Lists.{at_test, by_cases, never, fails, has_in, in_left, in_right, in_map, each_both, filter_meets}
use Rattle.sound_programs.proofs.Programs.{programs_sound, names_fit, all_fit, active_both, filter_among, begins, goes_on, known_argument}

-- ---- a sum of zeros

zero_rest : 0 % big ≡ 0
unfolding big
zero_rest = refl

zero_product : (w t : ℕ) → (w ≡ 0) ⊎ Same t 0 → ring_mul w t ≡ 0
zero_product w t (inl e) = put_mul w t ∙ (of_equal (w * t) 0 (rw e (omega arith)) ∙ zero_rest)
zero_product w t (inr e) = put_mul w t ∙ (same_product w w t 0 refl e ∙ (of_equal (w * 0) 0 (omega arith) ∙ zero_rest))

zero_sum : (a b : ℕ) → a ≡ 0 → b ≡ 0 → ring_add a b ≡ 0
zero_sum a b e f = put_add a b ∙ (of_equal _ 0 (omega (arith, e, f)) ∙ zero_rest)

zero_pairing : (seed : List ℕ) (s : Cells) → ((q : ℕ) → (slice_index seed q ≡ 0) ⊎ Same (tangent_of (content s q)) 0) → pairing_of seed s ≡ 0
zero_pairing [] s h = refl
zero_pairing (w ∷ ws) [] h = refl
zero_pairing (w ∷ ws) (c ∷ s) h =
    zero_sum (ring_mul w (tangent_of c)) (pairing_of ws s) (zero_product w (tangent_of c) (h 0)) (zero_pairing ws s (λ q. later q (h (suc q))))
  where
    later : (q : ℕ) → (slice_index (w ∷ ws) (suc q) ≡ 0) ⊎ Same (tangent_of (content (c ∷ s) (suc q))) 0
        → (slice_index ws q ≡ 0) ⊎ Same (tangent_of (content s q)) 0
    later q (inl e) = inl e
    later q (inr e) = inr (subst (λ (o : Option Value). Same (tangent_of o) 0) (content_later c s q) e)

-- ---- what flows on from a name, and back to it

useful_back : (p : Program) (of : List (List ℕ)) (x y : List ℕ) → IsReachedName p.decls (x ∷ []) (program_flows p) y
    → is_useful p of y ≡ true → is_useful p of x ≡ true
useful_back p of x y (root _ h) u = only (filter_among (is_declared p.decls) (x ∷ []) y h)
  where
    only : IsAmong (x ∷ []) y → is_useful p of x ≡ true
    only (inl e) = ap (is_useful p of) e ∙ u
    only (inr e) = absurd e
useful_back p of x y (onward z _ r l) u =
    let e : Edge (List ℕ) = record { tail = z; head = y } in
    let k = and_parts (is_declared p.decls z) (is_declared p.decls y) (filter_meets (are_both_declared p.decls) (program_flows p) e l) in
    useful_back p of x z r (goes_on p.decls of (map turned (program_flows p)) (turned e)
    (in_map turned (program_flows p) e (filter_among (are_both_declared p.decls) (program_flows p) e l)) k.1 k.0 u)

-- ---- asked by that name alone

all_found : (test : List ℕ → Bool) (xs : List (List ℕ)) → ((x : List ℕ) → IsAmong xs x → test x ≡ false) → find test xs ≡ None
all_found test [] h = refl
all_found test (y ∷ ys) h = at_test (λ b. test y ≡ b → cond b (Some y) (find test ys) ≡ None) (test y)
    (λ e g. never (test y) g (h y (inl refl))) (λ e g. all_found test ys (λ x i. h x (inr i))) refl

alone : (p : Program) (of wrt : List (List ℕ)) (x : List ℕ) → IsAccepted p of wrt → has_name x wrt ≡ true → IsAccepted p of (x ∷ [])
alone p of wrt x a h = record {
  readable = a.readable;
  typed = a.typed;
  fit = all_found (λ y. not (is_ring_argument p y)) (of ++ x ∷ []) (λ y i. not_from_true (is_ring_argument p y) (fair y i));
}
  where
    one : (y : List ℕ) → IsAmong (x ∷ []) y → is_ring_argument p y ≡ true
    one y (inl e) = ap (is_ring_argument p) (sym e) ∙ all_fit p of wrt a.fit x (in_right of wrt x (has_in x wrt h))
    one y (inr e) = absurd e

    fair : (y : List ℕ) → IsAmong (of ++ x ∷ []) y → is_ring_argument p y ≡ true
    fair = each_both (λ y. is_ring_argument p y ≡ true) of (x ∷ []) (λ y i. all_fit p of wrt a.fit y (in_left of wrt y i)) one

pub inactive_zero : InactiveIsZero
inactive_zero p of wrt values words seed j a small dead asked inactive = same-adjoint ∙ by_out (run_all (stmt_trees p.body) w.site sj).out refl
  where
    keys : List Key
    keys = (entry_site (program_tree p) (shapes_of p values) no_pushes).keys

    x : List ℕ
    x = name_at keys j

    b : IsAccepted p of (x ∷ [])
    b = alone p of wrt x a asked

    w : World
    w = world_of_program p of (x ∷ []) values (λ n z. Atomic)

    u : Use
    u = outer_use p of (x ∷ [])

    s : Cells
    s = entry_cells (program_tree p) (shapes_of p values) words

    sj : Cells
    sj = cells_along (unit j) s

    sound : SoundAll w u (stmt_trees p.body)
    sound = programs_sound p of (x ∷ []) values (λ n z. Atomic) b (λ l i y on h. never false h refl)

    fits : Fits w.site s
    fits = (directions_fit w.site s []).1 (entries_fit (program_tree p) (shapes_of p values) (is_needed p (is_active p of (x ∷ []))) words [] small)

    room : w.shared ≤ length w.site.keys
    room = all_laid (shapes_of p values) (map (λ (d : Decl). scalar d.name) p.decls)

    moves : u.moved x ≡ true
    moves = begins p.decls (x ∷ []) (program_flows p) x (inl refl)
        (known_argument p x (all_fit p of wrt a.fit x (in_right of wrt x (has_in x wrt asked))))

    fit : Fit w u sj
    fit = unit_fit w u s j fits room moves (λ y. refl)

    -- what is asked of doesn't move
    still : (y : List ℕ) → has_name y of ≡ true → u.moved y ≡ false
    still y o = fails (u.moved y) (λ m.
        let r = (reached_name p.decls (x ∷ []) (program_flows p) y).0 m in
        let i = has_in y of o in
        let g = begins p.decls of (map turned (program_flows p)) y i (known_argument p y (all_fit p of wrt a.fit y (in_left of wrt y i))) in
        never (is_active p of wrt x) (active_both p of wrt x ((names_fit p of wrt a).moved x asked) (useful_back p of x y r g)) inactive)

    by_out : (r : Result Cells TrapAt) → (run_all (stmt_trees p.body) w.site sj).out ≡ r → pairing_after seed r ≡ 0
    by_out (Err t) e = refl
    by_out (Ok s3) e =
        let k = kept_all (stmt_trees p.body) w u sj s3 fit sound e in
        zero_pairing seed s3 (λ q. by_cases (has_name (name_at keys q) of) (λ o. inr (k.fit.still q (still (name_at keys q) o)))
        (λ o. inl (dead q o)))

    same-adjoint : adjoint_of (program_tree p) (shapes_of p values) words seed j ≡ pairing_after seed (run_all (stmt_trees p.body) w.site sj).out
    same-adjoint =
        ap (pairing_after seed) (runs_everywhere (entry_site (program_tree p) (shapes_of p values) no_pushes) w.site refl refl (λ y. refl)
        (stmt_trees p.body) (λ e. refl) sj)
