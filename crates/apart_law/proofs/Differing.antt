-- Reads of a name whose pairs are shown are apart.
use Rattle.std.proofs.Common.{◌≡◌, ◌≢◌, ℕ, ◌+◌, ◌-◌, ◌≤◌, Bool, true, false, ◌&&◌, ◌||◌, if◌then◌else◌, List, [], ◌∷◌, length, refl, ap, sym, ◌∙◌, subst, arith, Option, Some, None}
use Rattle.std.specs.Prelude.{flat_map, nat_le, bytes_eq}
use Rattle.std.specs.List.{AllByRecursion}
use Rattle.std.proofs.lemmas.Bool.Decides.{nat_tests}
use Rattle.std.proofs.lemmas.Slice.Eq.{bytes_eq-Decides}
use Rattle.fl_ast.specs.declared.decl.Decl.{Decl}
use Rattle.fl_types.specs.declared.access.Access.{Access}
use Rattle.fl_types.specs.declared.access.AccessKind.TheVariants.{Read}
use Rattle.fl_types.specs.Accesses.{Scope, Occurrence}
use Rattle.meaning.specs.Sites.{Cells, Site}
use Rattle.meaning.specs.Statements.{Heads}
use Rattle.index_forms.specs.declared.form.Side.{Side}
use Rattle.index_forms.specs.declared.form.Side.TheVariants.{One, Two}
use Rattle.index_forms.specs.Form.{Forms}
use Rattle.index_forms.specs.Sums.{differences}
use Rattle.index_forms.specs.Formed.{subscript_forms}
use Rattle.index_forms.specs.Loops.{HeadedLoop, inside, known_at_start}
use Rattle.index_law.specs.Meetings.{In}
use Rattle.apart_law.specs.Spots.{Spot}
use Rattle.apart_law.specs.Laid.{plain_scope}
use Rattle.index_knowledge.specs.Knowledge.{KnownPair, is_read}
use Rattle.certificate_rules.specs.Surveys.{numbered}
use Rattle.certificate_check.specs.Pairs.{KnownLoop, pair_read_of, pair_read_at, pair_of_two, pair_at}
use Rattle.loop_scenes.specs.Rights.{marked, rights_in}
use Rattle.loop_pairs.specs.Known.{bare_accesses, known_loop}
use Rattle.sharing_choice.specs.Choosing.{pairs_of}
use Rattle.program_certificates.specs.Choices.{NeverMeet}
use Rattle.apart_law.specs.Apart.{IsDifferentiated}
use Rattle.apart_law.proofs.Running.{IsRun}
use Rattle.apart_law.proofs.Located.{Located, number_in, number_of, numbered_first, numbered_map, beside}
use Rattle.apart_law.proofs.Pairs.{of_pairs}
use Rattle.apart_law.proofs.Rights.{spot_rights, falses, AllBegin, begin_of_all, begins_in, rights_as_many, rights_of_all}
use Rattle.apart_law.proofs.Respecting.{bare_at, c, spots, view_at, form_is, access_is, laid, key_of, side_found, own_one, own_two, never, scope_is}

marked_at : (b : Bool) (os : List Occurrence) (n : ℕ) (o : Occurrence) → numbered os n ≡ Some o → numbered (marked b os) n ≡ Some b
marked_at b os n o h = numbered_map (λ (o : Occurrence). b) os n o h

le_true : (m n : ℕ) → m ≤ n → nat_le m n ≡ true
le_true m n h = grind (arith, nat_tests)

le_is : (m n : ℕ) → nat_le m n ≡ true → m ≤ n
le_is m n h = grind (arith, nat_tests)

later_is : (m n : ℕ) → nat_le m n ≡ false → n ≤ m
later_is m n h = grind (arith, nat_tests)

in_order : (m n a b : ℕ) → m ≡ a → n ≡ b → a ≤ b → m ≤ n
in_order m n a b e f h = omega (arith, e, f, h)

same_name : (x : List ℕ) → bytes_eq x x ≡ true
same_name x = (bytes_eq-Decides x x).1 refl

module _ (decls : List Decl) (on : List ℕ → Bool) (l : HeadedLoop) (site : Site) (heads : Heads) (cells : Cells) (run : IsRun decls l site heads cells) where
  abbrev k : KnownLoop
  k = known_loop decls on l

  -- the number of such a read, as a side sees it
  record Numbered (side : Side) (i p : ℕ) (d : IsDifferentiated on site l heads cells i p) : Type 0 where
    number : ℕ
    found : Located (spots decls l site heads cells run side) 0 number d.evaluated.access
    is : found.spot ≡ (side_found decls l site heads cells run side i d.evaluated).spot
    right : numbered k.rights number ≡ Some true
    numbering : number ≡ key_of decls l site heads cells run i d.evaluated + (number_in d.evaluated.access d.evaluated.group.right d.right).0

  -- the marks of accesses, as a side's spots have them
  rights_are : (side : Side) → flat_map (spot_rights on) (spots decls l site heads cells run side) ≡ k.rights
  rights_are side =
      sym (rights_of_all (c decls l site heads cells run side) on 1 (known_at_start side l) [] 0 (inside l))
      ∙ ap (λ (scope : Scope). rights_in (plain_scope scope) on (inside l)) (scope_is decls l site heads cells run)

  -- a read that a group with an own spot has
  numbered_by : (side : Side) (i p : ℕ) (d : IsDifferentiated on site l heads cells i p) → (x : Spot) → In x (spots decls l site heads cells run side) → d.evaluated.group.accesses ≡ x.accesses → d.evaluated.group.right ≡ x.right → d.evaluated.group.target ≡ x.target →
      x ≡ (side_found decls l site heads cells run side i d.evaluated).spot → Numbered side i p d
  numbered_by side i p d x inside_spots same_accesses same_right same_target is =
      let o = d.evaluated.access in
      let n = number_in o d.evaluated.group.right d.right in
      let own : numbered x.right n.0 ≡ Some o = subst (λ (os : List Occurrence). numbered os n.0 ≡ Some o) same_right n.1 in
      let begins = all_begin side in
      let b = begins_in (spots decls l site heads cells run side) begins x inside_spots in
      let here : numbered x.accesses n.0 ≡ Some o = subst (λ (os : List Occurrence). numbered os n.0 ≡ Some o) (sym b.1) (numbered_first x.right b.0 n.0 o own) in
      let t = number_of (spots decls l site heads cells run side) 0 x n.0 o (laid decls l site heads cells run side) inside_spots here in
      let active : on x.target ≡ true = subst (λ (y : List ℕ). on y ≡ true) same_target d.active in
      let mark : numbered (spot_rights on x) n.0 ≡ Some true = subst (λ (m : Bool). numbered (spot_rights on x) n.0 ≡ Some m) active (numbered_first (marked (on x.target) x.right) (falses (length x.accesses - length x.right)) n.0 (on x.target) (marked_at (on x.target) x.right n.0 o own)) in
      let there : numbered (spot_rights on t.found.spot) t.found.at ≡ Some true =
      subst (λ (y : Spot). numbered (spot_rights on y) t.found.at ≡ Some true) (sym t.is) (subst (λ (z : ℕ). numbered (spot_rights on x) z ≡ Some true) (sym t.there) mark) in
      record {
        number = t.number;
        found = t.found;
        is = t.is ∙ is;
        numbering =
            (let e : t.found.spot.before ≡ (side_found decls l site heads cells run side i d.evaluated).spot.before = ap (λ (y : Spot). y.before) (t.is ∙ is) in
            let f : (side_found decls l site heads cells run side i d.evaluated).spot.before ≡ key_of decls l site heads cells run i d.evaluated = (side_found decls l site heads cells run side i d.evaluated).begins in
            let g = t.found.begins in
            let h = t.found.number in
            let w = t.there in
            omega (arith, e, f, g, h, w));
        right = subst (λ (bs : List Bool). numbered bs t.number ≡ Some true) (rights_are side)
            (beside (spot_rights on) (spots decls l site heads cells run side) (λ y i. rights_as_many on y (begins_in (spots decls l site heads cells run side) begins y i)) 0 t.number o t.found true there);
      }
    where
      all_begin : (side : Side) → AllBegin (spots decls l site heads cells run side)
      all_begin side = begin_of_all (c decls l site heads cells run side) 1 (known_at_start side l) [] 0 (inside l)

  -- ---- the pair of two such reads

  -- what a read of the name makes of a pair
  read_of : (x : List ℕ) (side : List Forms) (n : ℕ) (o : Occurrence) (f : Forms) → numbered (bare_accesses decls l.loop) n ≡ Some (bare_at l.loop.number n o) → numbered k.rights n ≡ Some true → numbered side n ≡ Some f → o.kind ≡ Read → o.place.name ≡ x →
      pair_read_at (x ∷ []) k side n ≡ Some (o.place.name, f)
  read_of x side n o f ea er ef kind name =
      ap (λ (a : Option Access). pair_read_of (x ∷ []) a (numbered k.rights n) (numbered side n)) ea
      ∙ (ap (λ (r : Option Bool). pair_read_of (x ∷ []) (Some (bare_at l.loop.number n o)) r (numbered side n)) er
      ∙ (ap (λ (g : Option Forms). pair_read_of (x ∷ []) (Some (bare_at l.loop.number n o)) (Some true) g) ef
      ∙ ap (λ (b : Bool). if b then Some (o.place.name, f) else None) (both (is_read o.kind) (bytes_eq o.place.name x) (ap is_read kind) ((bytes_eq-Decides o.place.name x).1 name))))
    where
      both : (p q : Bool) → p ≡ true → q ≡ true → (p && (q || false)) ≡ true
      both true true e g = refl
      both true false e g = cc
      both false q e g = cc

  -- the first not behind the second
  pair_apart : (x : List ℕ) → AllByRecursion (NeverMeet k) (pairs_of (x ∷ []) k) → (i j p : ℕ) → i ≢ j → (d : IsDifferentiated on site l heads cells i p) (e : IsDifferentiated on site l heads cells j p) →
      d.evaluated.access.place.name ≡ x → e.evaluated.access.place.name ≡ x → (m : Numbered One i p d) (n : Numbered Two j p e) → m.number ≤ n.number → ⊥
  pair_apart x all i j p apart d e named also m n order =
      let o = d.evaluated.access in
      let q = e.evaluated.access in
      let f = subscript_forms (view_at decls l site heads cells run One m.number o m.found) o.place.subscripts in
      let g = subscript_forms (view_at decls l site heads cells run Two n.number q n.found) q.place.subscripts in
      let ff = form_is decls l site heads cells run One m.number o m.found in
      let gg = form_is decls l site heads cells run Two n.number q n.found in
      let ao = access_is decls l site heads cells run One m.number o m.found in
      let aq = access_is decls l site heads cells run Two n.number q n.found in
      let ro = read_of x k.survey.ones m.number o f ao m.right ff d.reads named in
      let rq = read_of x k.survey.twos n.number q g aq n.right gg e.reads also in
      let pair : KnownPair = record { loop_number = k.number; first = m.number; second = n.number; differences = differences f g; nest = k.nest } in
      let same : bytes_eq o.place.name q.place.name ≡ true = (bytes_eq-Decides o.place.name q.place.name).1 (named ∙ sym also) in
      let is : pair_at (x ∷ []) k m.number n.number ≡ Some pair =
      ap (λ (a : Option (List ℕ × Forms)). pair_of_two k.number k.nest m.number n.number a (pair_read_at (x ∷ []) k k.survey.twos n.number)) ro
      ∙ (ap (λ (b : Option (List ℕ × Forms)). pair_of_two k.number k.nest m.number n.number (Some (o.place.name, f)) b) rq
      ∙ ap (λ (b : Bool). if b then Some pair else None) (both (nat_le m.number n.number) (bytes_eq o.place.name q.place.name) (le_true m.number n.number order) same)) in
      let shown : NeverMeet k pair = of_pairs (NeverMeet k) (x ∷ []) k all m.number n.number (bare_at l.loop.number m.number o) (bare_at l.loop.number n.number q) ao aq order (or_first (bytes_eq o.place.name x) ((bytes_eq-Decides o.place.name x).1 named)) pair is in
      let w = shown.0 in
      never decls l site heads cells run i j d.evaluated e.evaluated apart m.number n.number (record { first = m.found; second = n.found; of_first = m.is; of_second = n.is }) pair refl refl refl w.ones w.twos w.of_pair.first w.of_pair.second shown.1 p d.falls e.falls
    where
      both : (p q : Bool) → p ≡ true → q ≡ true → (p && q) ≡ true
      both true true e g = refl
      both true false e g = cc
      both false q e g = cc

      or_first : (b : Bool) → b ≡ true → (b || false) ≡ true
      or_first true e = refl
      or_first false e = cc

  -- the reads of two iterations
  pub apart : (x : List ℕ) → AllByRecursion (NeverMeet k) (pairs_of (x ∷ []) k) → (i j p : ℕ) → i ≢ j → (d : IsDifferentiated on site l heads cells i p) (e : IsDifferentiated on site l heads cells j p) → d.evaluated.access.place.name ≡ x → e.evaluated.access.place.name ≡ x → ⊥
  apart x all i j p differ d e named also = by_order (nat_le first second) refl
    where
      first : ℕ
      first = key_of decls l site heads cells run i d.evaluated + (number_in d.evaluated.access d.evaluated.group.right d.right).0

      second : ℕ
      second = key_of decls l site heads cells run j e.evaluated + (number_in e.evaluated.access e.evaluated.group.right e.right).0

      here_one : Numbered One i p d
      here_one =
          let m = own_one decls l site heads cells run i j d.evaluated e.evaluated in
          let f = side_found decls l site heads cells run One i d.evaluated in
          numbered_by One i p d f.spot f.among m.accesses m.right m.target refl

      there_two : Numbered Two j p e
      there_two =
          let m = own_two decls l site heads cells run i j d.evaluated e.evaluated in
          let f = side_found decls l site heads cells run Two j e.evaluated in
          numbered_by Two j p e f.spot f.among m.accesses m.right m.target refl

      there_one : Numbered One j p e
      there_one =
          let m = own_one decls l site heads cells run j i e.evaluated d.evaluated in
          let f = side_found decls l site heads cells run One j e.evaluated in
          numbered_by One j p e f.spot f.among m.accesses m.right m.target refl

      here_two : Numbered Two i p d
      here_two =
          let m = own_two decls l site heads cells run j i e.evaluated d.evaluated in
          let f = side_found decls l site heads cells run Two i d.evaluated in
          numbered_by Two i p d f.spot f.among m.accesses m.right m.target refl

      by_order : (b : Bool) → nat_le first second ≡ b → ⊥
      by_order true f = pair_apart x all i j p differ d e named also here_one there_two (in_order here_one.number there_two.number first second here_one.numbering there_two.numbering (le_is first second f))
      by_order false f = pair_apart x all j i p (λ g. differ (sym g)) e d also named there_one here_two (in_order there_one.number here_two.number second first there_one.numbering here_two.numbering (later_is first second f))
