-- What the reverse sweep leaves is what is answered, name by name.
use Rattle.std.proofs.Common.{◌≡◌, inl, inr, ℕ, zero, suc, ◌+◌, ◌-◌, ◌<◌, ◌≤◌, ◌^◌, Bool, true, false, List, [], ◌∷◌, ◌++◌, All, map, length, take, drop, find, bytes_eq, get_or, replicate, Some, Result, Ok, Err, refl, ap, sym, ◌∙◌, arith, length-append, length-drop}
use Rattle.std.specs.Prelude.{slice_index}
use Rattle.std.proofs.Math.Seq.{take-append_seam, drop-append_seam}
use Rattle.std.proofs.lemmas.Bool.{and_parts, or_left, or_right, cases_lt}
use Rattle.std.proofs.lemmas.List.{get_or-drop, get_or-take, get_or_append_left, get_or-append_right, length-map, length-replicate, length-take-le}
use Rattle.ring_core.specs.declared.ring.Width.{Width}
use Rattle.ring_core.specs.declared.ring.Width.TheVariants.{Bits8, Bits16, Bits64}
use Rattle.fl_ast.specs.declared.decl.Decl.{Decl}
use Rattle.fl_ast.specs.declared.stmt.Program.{Program}
use Rattle.fl_ast.specs.Tree.{Subroutine, stmt_trees, program_tree}
use Rattle.fl_types.specs.Sharing.{has_name, is_ring_name}
use Rattle.store_core.specs.declared.layout.Shape.{Shape}
use Rattle.store_core.specs.declared.values.Args.{Args}
use Rattle.store_core.specs.declared.values.Entry.{Entry}
use Rattle.store_core.specs.declared.values.Weights.{Weights}
use Rattle.store_core.specs.Filled.{place_words, name_words, is_scalar, entry_at}
use Rattle.store_core.specs.Keys.{keys_of, scalar, with_scalars}
use Rattle.store_core.specs.Places.{shapes_of}
use Rattle.store_core.proofs.Filling.{length_places}
use Rattle.operations.proofs.Dues.{length_played}
use Rattle.meaning.specs.declared.value.Dual.{Dual}
use Rattle.meaning.specs.declared.value.Value.{Value}
use Rattle.meaning.specs.declared.value.Value.TheVariants.{Ring}
use Rattle.meaning.specs.declared.value.TrapAt.{TrapAt}
use Rattle.meaning.specs.Laws.{values_out}
use Rattle.meaning.specs.Logs.{Traced, events}
use Rattle.meaning.specs.Sites.{Key, Cells, word_of, data_width}
use Rattle.meaning.specs.Expressions.{content}
use Rattle.meaning.specs.Statements.{run_all}
use Rattle.meaning.specs.Stops.{Limits, by_conflict, at_end, first_stop}
use Rattle.meaning.specs.Adjoints.{cells_along, unit}
use Rattle.meaning.specs.Programs.{entry_site, entry_cells, no_pushes, run_of, adjoint_of, numbers_from, words_after}
use Rattle.meaning.proofs.Entries.{entries_fit}
use Rattle.meaning.proofs.Everywhere.{runs_everywhere}
use Rattle.meaning.proofs.Placing.{fitting_length}
use Rattle.meaning.proofs.Storing.{cells_kept}
use Rattle.transposition.specs.Back.{back_all}
use Rattle.transposition.specs.Law.{flat, local, Like}
use Rattle.transposition.specs.Tapes.{Tape, empty, tape_after}
use Rattle.transposition.specs.Worlds.{World, Local, name_at}
use Rattle.transposition.proofs.Fits.{all_laid}
use Rattle.adjoint_sets.specs.Names.{is_active, is_needed}
use Rattle.undo_steps.specs.UndoSteps.{UndoTrees}
use Rattle.undo_steps.specs.UndosStand.{AllUndoStand}
use Rattle.reverse_sweep.specs.Reversing.{Reversing}
use Rattle.reverse_law.proofs.Reversed.{reverse_played, program_named}
use Rattle.sound_programs.specs.Uses.{outer_use}
use Rattle.sound_programs.specs.Accepted.{IsAccepted, world_of_program, made_choices}
use Rattle.sound_programs.proofs.Inactive.{inactive_zero}
use Rattle.sound_programs.proofs.Layouts.{extra, extra_keys, plain_key}
use Rattle.sound_programs.proofs.Lists.{itself, in_right, has_in}
use Rattle.sound_programs.proofs.Programs.{all_fit, places_suffice}
use Rattle.run_law.specs.Machine.{names_in, machine_cells}
use Rattle.run_law.proofs.Machines.{made_machine}
use Rattle.answers.specs.Runs.{shown_word, shown_at, values_of, adjoints_of}
use Rattle.answers.specs.Sweeps.{end_words, forward_run, seeded_cells, reverse_entry, opening_local, quiet_words, quiet_entry}
use Rattle.answer_law.specs.Answered.{cells_back, AreSmall, AreAmong, IsBack, MadeIsAnswered}
use Rattle.answer_law.proofs.Words.{name_left, named_map, named_same, named_zeros}
use Rattle.answer_law.proofs.Opening.{places_small, words_and_zeros, zero_at, unseeded, has_value, entry_along, seed_more, length-numbers, numbered, word_here, words_along}

-- ---- lists

-- a run whose values come out ends with cells
ended_with : (r : Result Cells TrapAt) (s : Cells) → values_out r ≡ Ok s → (c : Cells) × (r ≡ Ok c)
ended_with (Ok c) s h = (c, refl)
ended_with (Err t) s h = absurd (let e : Err t ≡ Ok s = h in cc)

-- the sweep's opening, with zeros for the places of its own
opened_cells : (n own : ℕ) (xs ys : List ℕ) → length xs ≡ n → length ys ≡ n
    → flat n (xs ++ replicate own 0) (ys ++ replicate own 0) ≡ xs ++ ys
opened_cells n own xs ys e f =
    ap (λ l. l ++ take n (ys ++ replicate own 0)) (front xs e) ∙ ap (λ l. xs ++ l) (front ys f)
  where
    front : (zs : List ℕ) → length zs ≡ n → take n (zs ++ replicate own 0) ≡ zs
    front zs g = ap (λ k. take k (zs ++ replicate own 0)) (sym g) ∙ take-append_seam zs (replicate own 0)

opened_local : (n own : ℕ) (t : Tape) (xs ys : List ℕ) → length xs ≡ n → length ys ≡ n
    → local n t (xs ++ replicate own 0) (ys ++ replicate own 0) ≡ opening_local own t
opened_local n own t xs ys e f =
    ap (λ (l : List ℕ). with_words l (drop n (ys ++ replicate own 0))) (back xs e) ∙ ap (λ (l : List ℕ). with_words (replicate own 0) l) (back ys f)
  where
    with_words : List ℕ → List ℕ → Local
    with_words vs bs = record { tape = t; values = vs; adjoints = bs }

    back : (zs : List ℕ) → length zs ≡ n → drop n (zs ++ replicate own 0) ≡ replicate own 0
    back zs g = ap (λ k. drop k (zs ++ replicate own 0)) (sym g) ∙ drop-append_seam zs (replicate own 0)

long_with : (n m own : ℕ) (xs : List ℕ) → length xs ≡ n → n ≤ m → own ≡ m - n → length (xs ++ replicate own 0) ≡ m
long_with n m own xs e h o = length-append xs (replicate own 0) ∙ omega (arith, length-replicate {A = ℕ} own 0)

-- the words of contents, with others behind them
valued : (n : ℕ) (s : Cells) (zs : List ℕ) (q : ℕ) (v : Value) → q < n → n ≤ length s → content s q ≡ Some v
    → slice_index (take n (map word_of s) ++ zs) q ≡ word_of (Some v)
valued n s zs q v l m h =
    get_or_append_left (take n (map word_of s)) zs 0 q (omega (arith, length-take-le n (map word_of s) (omega (arith, length-map s word_of))))
    ∙ (get_or-take n (map word_of s) q 0 l ∙ word_here s q v h)

-- ---- places of the layout

low_name : (shapes : List Shape) (decls : List Decl) (q : ℕ) → q < length (keys_of shapes)
    → name_at (keys_of (with_scalars shapes decls)) q ≡ name_at (keys_of shapes) q
low_name shapes decls q h = ap (λ ks. name_at ks q) (extra_keys decls shapes) ∙ name_left (keys_of shapes) (map plain_key (extra shapes decls)) q h

-- a place whose name isn't asked of has the weight 0, behind the layout too
dead_place : (shapes : List Shape) (decls : List Decl) (weights : List Entry) (of : List (List ℕ)) (own q : ℕ) → AreAmong of weights
    → has_name (name_at (keys_of (with_scalars shapes decls)) q) of ≡ false → slice_index (place_words shapes weights ++ replicate own 0) q ≡ 0
dead_place shapes decls weights of own q a h = elim (cases_lt q (length (keys_of shapes))) [
  | inl l ↦
      get_or_append_left (place_words shapes weights) (replicate own 0) 0 q (omega (arith, length_places shapes weights))
      ∙ unseeded shapes weights of q a (ap (λ x. has_name x of) (sym (low_name shapes decls q l)) ∙ h)
  | inr l ↦
      get_or-append_right (place_words shapes weights) (replicate own 0) (length (keys_of shapes)) q 0 (length_places shapes weights) l
      ∙ zero_at own (q - length (keys_of shapes))
]

-- ---- what is shown

shown_zero : (width : Width) → shown_word width 0 ≡ 0
shown_zero Bits8 = refl
shown_zero Bits16 = refl
shown_zero Bits64 = refl

map_at : (f : ℕ → ℕ) → f 0 ≡ 0 → (ws : List ℕ) (j : ℕ) → get_or (map f ws) j 0 ≡ f (get_or ws j 0)
map_at f z [] j = sym z
map_at f z (w ∷ ws) zero = refl
map_at f z (w ∷ ws) (suc j) = map_at f z ws j

-- words of a name that is active are those at its places, and else 0
quiet_same : (on : Bool) (f : ℕ → ℕ) → f 0 ≡ 0 → (es : List Shape) (x xs ys : List ℕ) → length xs ≡ length (keys_of es) → length ys ≡ length (keys_of es)
    → (on ≡ true → (j : ℕ) → j < length (keys_of es) → name_at (keys_of es) j ≡ x → get_or xs j 0 ≡ get_or ys j 0)
    → (on ≡ false → (j : ℕ) → j < length (keys_of es) → name_at (keys_of es) j ≡ x → get_or ys j 0 ≡ 0)
    → quiet_words on (name_words es x (map f xs)) ≡ name_words es x (map f ys)
quiet_same true f z es x xs ys a b h g =
    named_map f es x xs ∙ (ap (map f) (named_same es x xs ys a b (h refl)) ∙ sym (named_map f es x ys))
quiet_same false f z es x xs ys a b h g =
    named_zeros es x (map f xs) (map f ys) (length-map xs f ∙ a) (length-map ys f ∙ b) (λ j l k. map_at f z ys j ∙ (ap f (g refl j l k) ∙ z))

each_same : (q : Entry → Entry) (f g : List ℕ → Entry) (xs : List (List ℕ)) → ((x : List ℕ) → has_name x xs ≡ true → q (f x) ≡ g x)
    → map q (map f xs) ≡ map g xs
each_same q f g [] h = refl
each_same q f g (x ∷ xs) h =
    ap (λ (e : Entry). e ∷ map q (map f xs)) (h x (or_left (bytes_eq x x) (has_name x xs) (itself x)))
    ∙ ap (λ (es : List Entry). g x ∷ es) (each_same q f g xs (λ y k. h y (or_right (bytes_eq y x) (has_name y xs) k)))

abbrev with_entries : List Entry → Weights
with_entries es = record { entries = es }

quiet_entries : (active : List ℕ → Bool) (f : ℕ → ℕ) → f 0 ≡ 0 → (shapes : List Shape) (names : List (List ℕ)) (xs ys : List ℕ)
    → length xs ≡ length (keys_of shapes) → length ys ≡ length (keys_of shapes)
    → ((x : List ℕ) → has_name x names ≡ true → active x ≡ true → (j : ℕ) → j < length (keys_of shapes) → name_at (keys_of shapes) j ≡ x → get_or xs j 0 ≡ get_or ys j 0)
    → ((x : List ℕ) → has_name x names ≡ true → active x ≡ false → (j : ℕ) → j < length (keys_of shapes) → name_at (keys_of shapes) j ≡ x → get_or ys j 0 ≡ 0)
    → map (quiet_entry active) (map (entry_at shapes (map f xs)) names) ≡ map (entry_at shapes (map f ys)) names
quiet_entries active f z shapes names xs ys a b h g =
    each_same (quiet_entry active) (entry_at shapes (map f xs)) (entry_at shapes (map f ys)) names
    (λ x k. ap (λ (ws : List ℕ). entry_with x ws) (quiet_same (active x) f z shapes x xs ys a b (h x k) (g x k)))
  where
    entry_with : List ℕ → List ℕ → Entry
    entry_with x ws = record { name = x; scalar = is_scalar (find (λ (s : Shape). bytes_eq x s.name) shapes); words = ws }

-- ---- of a program

-- the machine keeps the number of cells
back_long : (p : Program) (of wrt : List (List ℕ)) (values : List Entry) (us : UndoTrees) (l : Local) (c : List ℕ)
    → let w = world_of_program p of wrt values (made_choices p of wrt) in
    AllUndoStand (names_in p values) w us (stmt_trees p.body) → length (cells_back (names_in p values) w.shared us l c) ≡ length c
back_long p of wrt values us l c h =
    let w = world_of_program p of wrt values (made_choices p of wrt) in
    ap (λ (r : Reversing). length r.stage.cells)
    (reverse_played (names_in p values) w us (stmt_trees p.body) l c
    (program_named (program_tree p) (shapes_of p values) (is_needed p (is_active p of wrt)) (is_active p of wrt) (made_choices p of wrt)) h)
    ∙ length_played (back_all (stmt_trees p.body) w l) c

-- what is known of a run's sweeps
record Setting (p : Program) (args : Args) (weights : Weights) (of wrt : List (List ℕ)) (left : List ℕ) : Type 0 where
  pub long : length left ≡ length (keys_of (shapes_of p args.entries)) + length (keys_of (shapes_of p args.entries))
  -- at the places of active names that are asked by, the adjoint
  pub active : (x : List ℕ) → has_name x wrt ≡ true → is_active p of wrt x ≡ true → (j : ℕ) → j < length (keys_of (shapes_of p args.entries))
      → name_at (keys_of (shapes_of p args.entries)) j ≡ x
      → slice_index left (length (keys_of (shapes_of p args.entries)) + j)
      ≡ adjoint_of (program_tree p) (shapes_of p args.entries) (place_words (shapes_of p args.entries) args.entries)
      (place_words (shapes_of p args.entries) weights.entries) j
  -- and at those of the others it is 0
  pub quiet : (x : List ℕ) → has_name x wrt ≡ true → is_active p of wrt x ≡ false → (j : ℕ) → j < length (keys_of (shapes_of p args.entries))
      → name_at (keys_of (shapes_of p args.entries)) j ≡ x
      → adjoint_of (program_tree p) (shapes_of p args.entries) (place_words (shapes_of p args.entries) args.entries)
      (place_words (shapes_of p args.entries) weights.entries) j ≡ 0

setting_of : (p : Program) (args : Args) (weights : Weights) (of wrt : List (List ℕ)) (limits : Limits) (ended : Cells) (left : List ℕ)
    → let shapes = shapes_of p args.entries in
    IsAccepted p of wrt → AreSmall args.entries → AreSmall weights.entries → AreAmong of weights.entries
    → values_out (forward_run p shapes args of wrt).out ≡ Ok ended
    → first_stop by_conflict limits (events (forward_run p shapes args of wrt).log) ≡ at_end
    → IsBack p shapes args weights of wrt left
    → Setting p args weights of wrt left
setting_of p args weights of wrt limits ended left a small light asked out stop back =
    record { long = long_left; active = active_at; quiet = quiet_at }
  where
    shapes : List Shape
    shapes = shapes_of p args.entries

    n : ℕ
    n = length (keys_of shapes)

    tree : Subroutine
    tree = program_tree p

    words : List ℕ
    words = place_words shapes args.entries

    seeds : List ℕ
    seeds = place_words shapes weights.entries

    w : World
    w = world_of_program p of wrt args.entries (made_choices p of wrt)

    keys : List Key
    keys = keys_of (with_scalars shapes p.decls)

    own : ℕ
    own = length keys - n

    e : Cells
    e = entry_cells tree shapes words

    same : cells_along [] e ≡ e
    same = entry_along (entry_site tree shapes no_pushes) p.args keys words

    words_small : All (λ x. x < 2 ^ 64) words
    words_small = places_small shapes args.entries small

    room : n ≤ length keys
    room = all_laid shapes (map (λ (d : Decl). scalar d.name) p.decls)

    run : Cells → Traced TrapAt Cells
    run c = run_all (stmt_trees p.body) w.site c

    end : (c : Cells) × ((run (cells_along [] e)).out ≡ Ok c)
    end = ended_with (run (cells_along [] e)).out ended out

    s2 : Cells
    s2 = end.0

    out_same : (run e).out ≡ Ok s2
    out_same = ap (λ c. (run c).out) (sym same) ∙ end.1

    stop_same : first_stop by_conflict limits (events (run e).log) ≡ at_end
    stop_same = ap (λ c. first_stop by_conflict limits (events (run c).log)) (sym same) ∙ stop

    long_end : length s2 ≡ length keys
    long_end =
        cells_kept (stmt_trees p.body) w.site (cells_along [] e) s2 end.1
        ∙ fitting_length w.site keys (cells_along [] e) (entries_fit tree shapes (is_needed p (is_active p of wrt)) words [] words_small)

    values : List ℕ
    values = take n (map word_of s2)

    values_are : end_words p shapes args of wrt ≡ values
    values_are = ap (words_after n) end.1

    long_values : length values ≡ n
    long_values = length-take-le n (map word_of s2) (omega (arith, length-map s2 word_of, long_end, room))

    long_seeds : length seeds ≡ n
    long_seeds = length_places shapes weights.entries

    vs : List ℕ
    vs = values ++ replicate own 0

    seed : List ℕ
    seed = seeds ++ replicate own 0

    like : Like (outer_use p of wrt) keys vs s2
    like = places_suffice p of wrt args.entries vs s2 a.readable a.typed
        (λ q v l h. valued n s2 (replicate own 0) q v l (omega (arith, long_end, room)) h)

    dead : (q : ℕ) → has_name (name_at keys q) of ≡ false → slice_index seed q ≡ 0
    dead q h = dead_place shapes p.decls weights.entries of own q asked h

    tape : Cells → Tape
    tape c = tape_after (run c).log empty

    left_is : left ≡ machine_cells p args.entries w words vs seed back.us
    left_is =
        back.cells
        ∙ (ap (λ c. cells_back (names_in p args.entries) n back.us (opening_local own (tape c)) (end_words p shapes args of wrt ++ seeds)) same
        ∙ (ap (λ l. cells_back (names_in p args.entries) n back.us (opening_local own (tape e)) (l ++ seeds)) values_are
        ∙ (ap (λ l. cells_back (names_in p args.entries) n back.us l (values ++ seeds)) (sym (opened_local n own (tape e) values seeds long_values long_seeds))
        ∙ ap (λ c. cells_back (names_in p args.entries) n back.us (local n (tape e) vs seed) c) (sym (opened_cells n own values seeds long_values long_seeds)))))

    long_left : length left ≡ n + n
    long_left =
        ap length back.cells
        ∙ (back_long p of wrt args.entries back.us (reverse_entry p shapes args of wrt) (seeded_cells p shapes args weights of wrt) back.stands
        ∙ (length-append (end_words p shapes args of wrt) seeds ∙ omega (arith, ap length values_are, long_values, long_seeds)))

    more : (j : ℕ) → adjoint_of tree shapes words seed j ≡ adjoint_of tree shapes words seeds j
    more j = seed_more seeds own (run_of tree shapes no_pushes (cells_along (unit j) e)).out

    named : (x : List ℕ) (j : ℕ) → j < n → name_at (keys_of shapes) j ≡ x → name_at keys j ≡ x
    named x j l k = low_name shapes p.decls j l ∙ k

    argument : (x : List ℕ) → has_name x wrt ≡ true → (has_name x p.args ≡ true) × (is_ring_name p.decls x ≡ true)
    argument x h = and_parts (has_name x p.args) (is_ring_name p.decls x) (all_fit p of wrt a.fit x (in_right of wrt x (has_in x wrt h)))

    value_at : (x : List ℕ) → has_name x wrt ≡ true → (j : ℕ) → j < n → name_at keys j ≡ x → (d : Dual) × (content e j ≡ Some (Ring d))
    value_at x h j l k =
        has_value (entry_site tree shapes no_pushes) p.args keys words j (omega (arith, room)) (omega (arith, length_places shapes args.entries))
        (ap (λ y. has_name y p.args) k ∙ (argument x h).0) (ap (is_ring_name p.decls) k ∙ (argument x h).1)

    active_at : (x : List ℕ) → has_name x wrt ≡ true → is_active p of wrt x ≡ true → (j : ℕ) → j < n → name_at (keys_of shapes) j ≡ x
        → slice_index left (n + j) ≡ adjoint_of tree shapes words seeds j
    active_at x h on j l k =
        let m = named x j l k in
        let v = value_at x h j l m in
        ap (λ c. slice_index c (n + j)) left_is
        ∙ (made_machine p of wrt args.entries limits words vs seed s2 j v.0 back.us a back.stands words_small out_same stop_same like
        (long_with n (length keys) own values long_values room refl) (long_with n (length keys) own seeds long_seeds room refl)
        (words_and_zeros seeds own (places_small shapes weights.entries light)) dead l v.1 (ap (λ y. has_name y wrt) m ∙ h)
        (ap (is_active p of wrt) m ∙ on)
        ∙ more j)

    quiet_at : (x : List ℕ) → has_name x wrt ≡ true → is_active p of wrt x ≡ false → (j : ℕ) → j < n → name_at (keys_of shapes) j ≡ x
        → adjoint_of tree shapes words seeds j ≡ 0
    quiet_at x h off j l k =
        let m = named x j l k in
        sym (more j)
        ∙ inactive_zero p of wrt args.entries words seed j a words_small dead (ap (λ y. has_name y wrt) m ∙ h) (ap (is_active p of wrt) m ∙ off)

-- ---- the answer

adjoint_length : (p : Program) (shapes : List Shape) (args : Args) (weights : Weights) → length (adjoints_of p shapes args weights) ≡ length (keys_of shapes)
adjoint_length p shapes args weights =
    length-map (numbers_from 0 (length (keys_of shapes))) (adjoint_of (program_tree p) shapes (place_words shapes args.entries) (place_words shapes weights.entries))
    ∙ length-numbers 0 (length (keys_of shapes))

adjoint_here : (p : Program) (shapes : List Shape) (args : Args) (weights : Weights) (j : ℕ) → j < length (keys_of shapes)
    → get_or (adjoints_of p shapes args weights) j 0 ≡ adjoint_of (program_tree p) shapes (place_words shapes args.entries) (place_words shapes weights.entries) j
adjoint_here p shapes args weights j h =
    numbered (adjoint_of (program_tree p) shapes (place_words shapes args.entries) (place_words shapes weights.entries)) 0 (length (keys_of shapes)) j h
    ∙ ap (adjoint_of (program_tree p) shapes (place_words shapes args.entries) (place_words shapes weights.entries)) (omega arith)

adjoint_shown : (p : Program) (args : Args) (weights : Weights) (of wrt : List (List ℕ)) (left : List ℕ) → Setting p args weights of wrt left
    → let shapes = shapes_of p args.entries in
    map (quiet_entry (is_active p of wrt)) (map (entry_at shapes (map (shown_word (data_width p.decls)) (drop (length (keys_of shapes)) left))) wrt)
    ≡ map (entry_at shapes (map (shown_word (data_width p.decls)) (adjoints_of p shapes args weights))) wrt
adjoint_shown p args weights of wrt left s =
    let shapes = shapes_of p args.entries in
    let n = length (keys_of shapes) in
    quiet_entries (is_active p of wrt) (shown_word (data_width p.decls)) (shown_zero (data_width p.decls)) shapes wrt (drop n left)
    (adjoints_of p shapes args weights) (length-drop n left ∙ omega (arith, s.long)) (adjoint_length p shapes args weights)
    (λ x h on j l k. get_or-drop n left j 0 ∙ (s.active x h on j l k ∙ sym (adjoint_here p shapes args weights j l)))
    (λ x h off j l k. adjoint_here p shapes args weights j l ∙ s.quiet x h off j l k)

words_of_ended : (n : ℕ) (r : Result Cells TrapAt) (ended : Cells) → values_out r ≡ Ok ended → words_after n r ≡ take n (map word_of ended)
words_of_ended n (Ok c) ended h = ap (take n) (sym (words_along c)) ∙ (let e : cells_along [] c ≡ ended = cc in ap (λ (s : Cells). take n (map word_of s)) e)
words_of_ended n (Err t) ended h = absurd (let e : Err t ≡ Ok ended = h in cc)

-- the words at the end are those of the values that come out
pub end_is_ended : (p : Program) (shapes : List Shape) (args : Args) (of wrt : List (List ℕ)) (ended : Cells)
    → values_out (forward_run p shapes args of wrt).out ≡ Ok ended → end_words p shapes args of wrt ≡ take (length (keys_of shapes)) (map word_of ended)
end_is_ended p shapes args of wrt ended h = words_of_ended (length (keys_of shapes)) (forward_run p shapes args of wrt).out ended h

-- the values don't depend on what is pushed
pub end_is_final : (p : Program) (shapes : List Shape) (args : Args) (of wrt : List (List ℕ)) → end_words p shapes args of wrt ≡ values_of p shapes args
end_is_final p shapes args of wrt =
    ap (words_after (length (keys_of shapes)))
    (runs_everywhere (entry_site (program_tree p) shapes (is_needed p (is_active p of wrt))) (entry_site (program_tree p) shapes no_pushes) refl refl (λ y. refl)
    (stmt_trees p.body) (λ e. refl) (cells_along [] (entry_cells (program_tree p) shapes (place_words shapes args.entries))))

pub made_answered : MadeIsAnswered
made_answered p args weights of wrt limits ended left a small light asked out stop back = record {
  adjoint = ap with_entries (adjoint_shown p args weights of wrt left (setting_of p args weights of wrt limits ended left a small light asked out stop back));
  value = ap (λ (ws : List ℕ). shown_at p (shapes_of p args.entries) ws of) (end_is_final p (shapes_of p args.entries) args of wrt);
}
