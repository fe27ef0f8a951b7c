-- Rows whose tokens don't join are laid out in lines that the lexer reads back.
use Rattle.std.proofs.Common.{◌≡◌, ℕ, ◌+◌, ◌≤◌, Bool, true, false, cond, not, ◌&&◌, ◌||◌, List, [], ◌∷◌, ◌++◌, length, refl, ap, sym, ◌∙◌, subst, arith, length-append}
use Rattle.std.specs.Prelude.{replicate}
use Rattle.std.proofs.lemmas.List.{length-replicate}
use Rattle.std.proofs.lemmas.Bool.Decides.{nat_tests}
use Rattle.fl_lexer.specs.declared.piece.PieceKind.{PieceKind}
use Rattle.fl_lexer.specs.Bytes.{is_blank, begins}
use Rattle.fl_lexer.specs.Pieces.{piece_of}
use Rattle.fl_lexer.specs.Spelling.{Each, Spelt, text_of, AreLongest, IsPiece}
use Rattle.fl_lexer.specs.Printing.{Printed, opening, joint_of, content, is_plain, is_first, IsPrinted, Follows, ArePrinted}
use Rattle.fl_printer.specs.declared.spaced.Spaced.{Spaced}
use Rattle.fl_printer.specs.Rows.{Row}
use Rattle.fl_printer.specs.Layout.{blank_if, token, width, width_of_all, Laid, with_token, is_long, is_past, start, indent, later_line, broken, laid, laid_behind, lines_by, row_lines, lines_of}
use Rattle.fl_printer.proofs.Tokens.{Class, Calm, class_of, touch, touch_calm, IsToken, kind_is}
use Rattle.fl_printer.proofs.Flow.{Flow}

-- ---- a token at the beginning of a text

true_false : {A : Type 0} → true ≡ false → A
true_false e = absurd (let g : true ≡ false = e in cc)

class_front : (bs cs : List ℕ) → begins (λ b. not (is_blank b)) bs ≡ true → class_of (bs ++ cs) ≡ class_of bs
class_front [] cs h = true_false (sym h)
class_front (b ∷ bs) cs h = refl

begins_front : (test : ℕ → Bool) (bs cs : List ℕ) → begins test bs ≡ true → begins test (bs ++ cs) ≡ true
begins_front test [] cs h = true_false (sym h)
begins_front test (b ∷ bs) cs h = h

plain_append : (bs cs : List ℕ) → Each is_plain bs → Each is_plain cs → Each is_plain (bs ++ cs)
plain_append [] cs e f = f
plain_append (b ∷ bs) cs e f = (e.0, plain_append bs cs e.1 f)

token_piece : (bs rest : List ℕ) → IsToken bs → touch (class_of bs) (class_of rest) ≡ true → IsPiece (piece_of bs).kind bs rest
token_piece bs rest t h = subst (λ (k : PieceKind). IsPiece k bs rest) (sym (kind_is bs t)) (t.lexical rest h)

-- ---- what is laid out

record IsLaid (directive : Bool) (at : ℕ) (c : Class) (l : Laid) : Type 0 where
  longest : AreLongest l.words
  plain : Each is_plain (text_of l.words)
  meets : touch c (class_of (text_of l.words)) ≡ true
  short : at + length (text_of l.words) ≤ 1022
  follows : Follows l.goes_on directive l.behind
  behind : ArePrinted l.behind

-- a token with a blank before it or not, and what is behind it
record IsBegun (b : Bool) (bs : List ℕ) (l : Laid) : Type 0 where
  longest : AreLongest (blank_if b ++ token bs ∷ l.words)
  plain : Each is_plain (text_of (blank_if b ++ token bs ∷ l.words))
  size : length (text_of (blank_if b ++ token bs ∷ l.words)) ≡ cond b 1 0 + length bs + length (text_of l.words)

begun : (b : Bool) (bs : List ℕ) (directive : Bool) (at : ℕ) (l : Laid) → IsToken bs → IsLaid directive at (class_of bs) l → IsBegun b bs l
begun true bs directive at l t i = record {
  longest = ((32, refl, refl), (token_piece bs (text_of l.words) t i.meets, i.longest));
  plain = (refl, plain_append bs (text_of l.words) t.plain i.plain);
  size = omega (arith, length-append bs (text_of l.words));
}
begun false bs directive at l t i = record {
  longest = (token_piece bs (text_of l.words) t i.meets, i.longest);
  plain = plain_append bs (text_of l.words) t.plain i.plain;
  size = omega (arith, length-append bs (text_of l.words));
}

joint_size : (g : Bool) → length (joint_of g) ≤ 1
joint_size true = omega arith
joint_size false = omega arith

opening_size : (d : Bool) → length (opening d) ≡ cond d 5 0
opening_size true = refl
opening_size false = refl

content_size : (l : Printed) → length (content l) ≡ l.indent + (length (opening l.directive) + (length (text_of l.words) + length (joint_of l.goes_on)))
content_size l =
    let a = length-append (replicate l.indent 32) (opening l.directive ++ (text_of l.words ++ joint_of l.goes_on)) in
    let b = length-append (opening l.directive) (text_of l.words ++ joint_of l.goes_on) in
    let c = length-append (text_of l.words) (joint_of l.goes_on) in
    let d = length-replicate {A = ℕ} l.indent 32 in
    omega (arith, a, b, c, d)

-- how much stands before the tokens of a later line
lead_size : (margin : ℕ) (d : Bool) → indent margin d + (length (opening d) + cond d 1 0) ≡ start margin d
lead_size margin true = omega arith
lead_size margin false = omega arith

begun_first : (d : Bool) (bs : List ℕ) (l : Laid) → IsToken bs → begins (is_first d) (text_of (blank_if d ++ token bs ∷ l.words)) ≡ true
begun_first true bs l t = refl
begun_first false bs l t = begins_front (is_first false) bs (text_of l.words) t.begun

later_is : (margin : ℕ) (d : Bool) (bs : List ℕ) (l : Laid) → IsToken bs → IsLaid d (start margin d + length bs) (class_of bs) l → IsPrinted (later_line margin d bs l)
later_is margin d bs l t i =
    let g = begun d bs d (start margin d + length bs) l t i in
    let size = content_size (later_line margin d bs l) in
    let lead = lead_size margin d in
    let joint = joint_size l.goes_on in
    let words = g.size in
    let short = i.short in
    record {
      longest = g.longest;
      plain = g.plain;
      begun = begun_first d bs l t;
      short = omega (arith, size, lead, joint, words, short);
    }

start_size : (margin : ℕ) (d : Bool) → start margin d ≤ margin + 6
start_size margin true = omega arith
start_size margin false = omega arith

not_long : (n : ℕ) → is_long n ≡ false → n ≤ 120
not_long n h = grind (arith, nat_tests)

not_past : (n : ℕ) → is_past n ≡ false → n ≤ 118
not_past n h = grind (arith, nat_tests)

-- a token that isn't broken off fits
fits : (long : Bool) (n all : ℕ) → (long && is_past n) ≡ false → (long ≡ false → n + all ≤ 700) → n ≤ 700
fits true n all h f = let m = not_past n h in omega (arith, m)
fits false n all h f = let m = f refl in omega (arith, m)

blank_meets : (b : Bool) (c : Class) (bs : List ℕ) (ws : List Spelt) → (b || touch c (class_of bs)) ≡ true → begins (λ b. not (is_blank b)) bs ≡ true →
    touch c (class_of (text_of (blank_if b ++ token bs ∷ ws))) ≡ true
blank_meets true c bs ws h n = touch_calm c
blank_meets false c bs ws h n = ap (touch c) (class_front bs (text_of ws) n) ∙ h

laid_by : (margin : ℕ) (d long : Bool) (at : ℕ) (c : Class) (w : Spaced) → IsToken w.text → (w.blank || touch c (class_of w.text)) ≡ true → (k l : Laid) → at ≤ 700 →
    IsLaid d (start margin d + length w.text) (class_of w.text) k → ((long && is_past (at + width w)) ≡ false → IsLaid d (at + width w) (class_of w.text) l) →
    (t : Bool) → (long && is_past (at + width w)) ≡ t → IsLaid d at c (cond t (broken margin d w.text k) (with_token w l))
laid_by margin d long at c w token m k l h broke kept true e = record {
  longest = ((32, refl, refl), tt);
  plain = (refl, tt);
  meets = touch_calm c;
  short = omega (arith, h);
  follows = refl;
  behind = (later_is margin d w.text k token broke, broke.follows, broke.behind);
}
laid_by margin d long at c w token m k l h broke kept false e =
    let rest = kept e in
    let g = begun w.blank w.text d (at + width w) l token rest in
    let words = g.size in
    let short = rest.short in
    record {
      longest = g.longest;
      plain = g.plain;
      meets = blank_meets w.blank c w.text l.words m token.begun;
      short = omega (arith, words, short);
      follows = rest.follows;
      behind = rest.behind;
    }

module _ (margin : ℕ) (d : Bool) (small : margin ≤ 600) where
  laid_is : (long : Bool) (at : ℕ) (c e : Class) (ws : List Spaced) → Flow c ws e → at ≤ 700 → (long ≡ false → at + width_of_all ws ≤ 700) → IsLaid d at c (laid margin d long at ws)
  laid_is long at c e [] f h room = record {
    longest = tt;
    plain = tt;
    meets = touch_calm c;
    short = omega (arith, h);
    follows = tt;
    behind = tt;
  }
  laid_is long at c e (w ∷ ws) f h room =
      let from = start margin d + length w.text in
      let next = is_long (from + width_of_all ws) in
      let lead = start_size margin d in
      let text = f.0.short in
      let more : long ≡ false → at + width w + width_of_all ws ≤ 700 = λ n. let m = room n in omega (arith, m) in
      let broke = laid_is next from (class_of w.text) e ws f.2 (omega (arith, small, lead, text)) (λ n. let m = not_long (from + width_of_all ws) n in omega (arith, m)) in
      laid_by margin d long at c w f.0 f.1 (laid margin d next from ws) (laid margin d long (at + width w) ws) h broke
      (λ k. laid_is long (at + width w) (class_of w.text) e ws f.2 (fits long (at + width w) (width_of_all ws) k more) more) (long && is_past (at + width w)) refl

  behind_is : (at : ℕ) (c e : Class) (ws : List Spaced) → Flow c ws e → at ≤ 700 → IsLaid d at c (laid_behind margin d at ws)
  behind_is at c e ws f h = laid_is (is_long (at + width_of_all ws)) at c e ws f h (λ n. let m = not_long (at + width_of_all ws) n in omega (arith, m))

-- ---- rows

-- a directive's tokens have a blank before the first, and a statement's have none
abbrev pub leads : Bool → List Spaced → Bool
leads d [] = false
leads true (w ∷ ws) = w.blank
leads false (w ∷ ws) = not w.blank

pub record IsRow (r : Row) : Type 0 where
  pub small : r.margin ≤ 600
  pub leading : leads r.directive r.words ≡ true
  pub to : Class
  pub flow : Flow Calm r.words to

-- the first text behind a sentinel is a blank, whether the line goes on there or not
blank_first : (margin : ℕ) (long : Bool) (at : ℕ) (w : Spaced) (ws : List Spaced) → w.blank ≡ true → begins is_blank (text_of (laid margin true long at (w ∷ ws)).words) ≡ true
blank_first margin long at w ws h = by (long && is_past (at + width w))
  where
    kept : (b : Bool) (l : Laid) → b ≡ true → begins is_blank (text_of (blank_if b ++ token w.text ∷ l.words)) ≡ true
    kept true l e = refl
    kept false l e = true_false (sym e)

    by : (t : Bool) → begins is_blank (text_of (cond t (broken margin true w.text (laid margin true (is_long (start margin true + length w.text + width_of_all ws)) (start margin true + length w.text) ws)) (with_token w (laid margin true long (at + width w) ws))).words) ≡ true
    by true = refl
    by false = kept w.blank (laid margin true long (at + width w) ws) h

row_by : (d : Bool) (margin : ℕ) (ws : List Spaced) (e : Class) → margin ≤ 600 → leads d ws ≡ true → Flow Calm ws e → ArePrinted (lines_by d margin ws)
row_by d margin [] e small h f = true_false (sym h)
row_by true margin (w ∷ ws) e small h f =
    let l = laid_behind margin true (margin + 5) (w ∷ ws) in
    let i = behind_is margin true small (margin + 5) Calm e (w ∷ ws) f (omega (arith, small)) in
    let size = content_size (record { indent = margin; directive = true; words = l.words; goes_on = l.goes_on }) in
    let joint = joint_size l.goes_on in
    let short = i.short in (
      record {
        longest = i.longest;
        plain = i.plain;
        begun = blank_first margin (is_long (margin + 5 + width_of_all (w ∷ ws))) (margin + 5) w ws h;
        short = omega (arith, size, joint, short, opening_size true);
      },
      i.follows,
      i.behind,
    )
row_by false margin (w ∷ ws) e small h f =
    let at = margin + width w in
    let l = laid_behind margin false at ws in
    let text = f.0.short in
    let i = behind_is margin false small at (class_of w.text) e ws f.2 (width_fits w.blank text) in
    let g = begun w.blank w.text false at l f.0 i in
    let line : Printed = record { indent = margin; directive = false; words = blank_if w.blank ++ token w.text ∷ l.words; goes_on = l.goes_on } in
    let size = content_size line in
    let joint = joint_size l.goes_on in
    let short = i.short in
    let words = g.size in (
      record {
        longest = g.longest;
        plain = g.plain;
        begun = no_blank w.blank h;
        short = omega (arith, size, joint, short, words);
      },
      i.follows,
      i.behind,
    )
  where
    width_fits : (b : Bool) → length w.text ≤ 64 → margin + (cond b 1 0 + length w.text) ≤ 700
    width_fits true t = omega (arith, small, t)
    width_fits false t = omega (arith, small, t)

    no_blank : (b : Bool) → not b ≡ true → begins (is_first false) (text_of (blank_if b ++ token w.text ∷ (laid_behind margin false (margin + width w) ws).words)) ≡ true
    no_blank true e = true_false (sym e)
    no_blank false e = begins_front (is_first false) w.text (text_of (laid_behind margin false (margin + width w) ws).words) f.0.begun

follows_append : (g d : Bool) (xs ys : List Printed) → Follows g d xs → Follows g d (xs ++ ys)
follows_append false d xs ys f = tt
follows_append true d [] ys f = absurd f
follows_append true d (x ∷ xs) ys f = f

printed_append : (xs ys : List Printed) → ArePrinted xs → ArePrinted ys → ArePrinted (xs ++ ys)
printed_append [] ys a b = b
printed_append (x ∷ xs) ys a b = (a.0, follows_append x.goes_on x.directive xs ys a.1, printed_append xs ys a.2 b)

abbrev pub AreRows : List Row → Type 0
AreRows [] = Unit {0}
AreRows (r ∷ rs) = IsRow r × AreRows rs

pub row_printed : (r : Row) → IsRow r → ArePrinted (row_lines r)
row_printed r i = row_by r.directive r.margin r.words i.to i.small i.leading i.flow

pub rows_printed : (rs : List Row) → AreRows rs → ArePrinted (lines_of rs)
rows_printed [] a = tt
rows_printed (r ∷ rs) a = printed_append (row_lines r) (lines_of rs) (row_printed r a.0) (rows_printed rs a.1)

pub rows_append : (a b : List Row) → AreRows a → AreRows b → AreRows (a ++ b)
rows_append [] b f g = g
rows_append (r ∷ rs) b f g = (f.0, rows_append rs b f.1 g)
