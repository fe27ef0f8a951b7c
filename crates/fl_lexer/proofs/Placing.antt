-- The tokens that a text spells are slices of it, in order.
use Rattle.std.proofs.Common.{◌≡◌, ℕ, zero, suc, ◌+◌, ◌-◌, ◌<◌, ◌≤◌, Bool, true, false, cond, eqb, ◌&&◌, List, [], ◌∷◌, ◌++◌, length, take, drop, slice_range, inl, inr, refl, ap, sym, ◌∙◌, subst, arith, append_assoc, length-append, length-drop}
use Rattle.std.specs.Prelude.{codes}
use Rattle.std.specs.List.{prefix_len, position_or_len}
use Rattle.std.specs.Char.{to_ascii_lowercase}
use Rattle.std.specs.Str.{str_to_ascii_lowercase}
use Rattle.std.proofs.lemmas.List.{take-append-drop, take-append-le}
use Rattle.std.proofs.lemmas.List.Sums.{prefix_len-le-length}
use Rattle.std.proofs.Math.Seq.{take-length}
use Rattle.tokens.specs.Spans.{Are_spans}
use Rattle.tokens.specs.declared.TokenKind.{TokenKind}
use Rattle.tokens.specs.declared.TokenKind.TheVariants.{Word, Number, Mark, Dots, Sentinel, LineEnd}
use Rattle.fl_lexer.specs.declared.piece.PieceKind.{PieceKind}
use Rattle.fl_lexer.specs.declared.piece.PieceKind.TheVariants.{Blank, Lexical, BadByte, LongName, WideLiteral}
use Rattle.fl_lexer.specs.declared.line.Ending.{Ending}
use Rattle.fl_lexer.specs.declared.line.Ending.TheVariants.{Missing, LineFeed, CrLf}
use Rattle.fl_lexer.specs.declared.line.LinePlace.{LinePlace}
use Rattle.fl_lexer.specs.declared.line.LineClass.{LineClass}
use Rattle.fl_lexer.specs.declared.line.LineClass.TheVariants.{Empty, Conditional, Statement, Directive}
use Rattle.fl_lexer.specs.Bytes.{is_blank, is_bang, is_line_feed, is_either, begins}
use Rattle.fl_lexer.specs.Lines.{Line, line, longer, ahead, lines, ending_len, class_of, class_of_text, class_of_bang, is_sentinel, is_conditional, ends_word, text_from, goes_on, body_of, trimmed_len}
use Rattle.fl_lexer.specs.Reading.{Tokens, token, joint, after, first_place, leaves_open}
use Rattle.fl_lexer.specs.Spelling.{IsPiece, IsLexical, Spelt, text_of, AreLongest, token_of, tokens_of, end_of, SpellsText, SpellsClass, SpellLines, Spells}
use Rattle.fl_lexer.specs.Placement.{ending_bytes, text_of_lines, IsText, InOrder}
use Rattle.fl_lexer.proofs.PieceLaws.{chosen, begins_some}
use Rattle.fl_lexer.proofs.PieceSpelling.{take_front, drop_front, drop_both, and_first, and_second, same_byte}

-- The lines are the text.

longer_by : (t : Bool) (b : ℕ) → eqb b 13 ≡ t → (cond t (line [] CrLf) (line (b ∷ []) LineFeed)).bytes ++ ending_bytes (cond t (line [] CrLf) (line (b ∷ []) LineFeed)).ending ≡ b ∷ 10 ∷ []
longer_by true b h = ap (λ n. n ∷ 10 ∷ []) (sym (same_byte b 13 h))
longer_by false b h = refl

longer_whole : (b : ℕ) (bytes : List ℕ) (ending : Ending) → (longer b bytes ending).bytes ++ ending_bytes (longer b bytes ending).ending ≡ b ∷ (bytes ++ ending_bytes ending)
longer_whole b [] LineFeed = longer_by (eqb b 13) b refl
longer_whole b [] Missing = refl
longer_whole b [] CrLf = refl
longer_whole b (c ∷ bytes) Missing = refl
longer_whole b (c ∷ bytes) LineFeed = refl
longer_whole b (c ∷ bytes) CrLf = refl

ahead_whole : (b : ℕ) (ls : List Line) → text_of_lines (ahead b ls) ≡ b ∷ text_of_lines ls
ahead_whole b [] = refl
ahead_whole b (l ∷ ls) =
    let m = longer b l.bytes l.ending in
    sym (append_assoc m.bytes (ending_bytes m.ending) (text_of_lines ls))
    ∙ ap (λ bs. bs ++ text_of_lines ls) (longer_whole b l.bytes l.ending)
    ∙ ap (λ bs. b ∷ bs) (append_assoc l.bytes (ending_bytes l.ending) (text_of_lines ls))

lines_by : (t : Bool) (b : ℕ) (ls : List Line) → is_line_feed b ≡ t → text_of_lines (cond t (line [] LineFeed ∷ ls) (ahead b ls)) ≡ b ∷ text_of_lines ls
lines_by true b ls h = ap (λ n. n ∷ text_of_lines ls) (sym (same_byte b 10 h))
lines_by false b ls h = ahead_whole b ls

pub lines_whole : (bs : List ℕ) → text_of_lines (lines bs) ≡ bs
unfolding lines
lines_whole [] = refl
lines_whole (b ∷ bs) = lines_by (is_line_feed b) b (lines bs) refl ∙ ap (λ cs. b ∷ cs) (lines_whole bs)

-- A text in its line.

prefix_rest : (s m : ℕ) (bs : List ℕ) → (tail : List ℕ) × (drop s bs ≡ drop s (take m bs) ++ tail)
prefix_rest zero m bs = (drop m bs, sym (take-append-drop m bs))
prefix_rest (suc s) zero [] = ([], refl)
prefix_rest (suc s) (suc m) [] = ([], refl)
prefix_rest (suc s) zero (b ∷ bs) = (drop s bs, refl)
prefix_rest (suc s) (suc m) (b ∷ bs) = prefix_rest s m bs

body_front : (text : List ℕ) → (m : ℕ) × (body_of text ≡ take m text)
unfolding body_of
body_front text = chosen (goes_on text) (take (trimmed_len text - 1) text) text (λ (bs : List ℕ). (m : ℕ) × (bs ≡ take m text)) (λ _. (trimmed_len text - 1, refl)) (λ _. (length text, sym (take-length text)))

pub text_in_line : (from s : ℕ) (bytes : List ℕ) → (tail : List ℕ) × (drop (from + s) bytes ≡ drop s (body_of (text_from from bytes)) ++ tail)
text_in_line from s bytes =
    let cut = drop from bytes in
    let n = position_or_len is_bang cut in
    let text = take n cut in
    let front = body_front text in
    let one = prefix_rest s n cut in
    let two = prefix_rest s front.0 text in (
      two.0 ++ one.0,
      drop_both from s bytes ∙ one.1 ∙ ap (λ bs. bs ++ one.0) (two.1 ∙ ap (λ bs. drop s bs ++ two.0) (sym front.1))
          ∙ append_assoc (drop s (body_of text)) two.0 one.0,
    )

drop_within : (k : ℕ) (xs ys : List ℕ) → k ≤ length xs → drop k (xs ++ ys) ≡ drop k xs ++ ys
drop_within zero xs ys h = refl
drop_within (suc k) [] ys h = absurd (omega arith)
drop_within (suc k) (x ∷ xs) ys h = drop_within k xs ys (omega (arith, h))

-- Tokens in order.

lower : (whole : List ℕ) (m n : ℕ) (ts : Tokens) → m ≤ n → InOrder whole n ts → InOrder whole m ts
lower whole m n [] h i = tt
lower whole m n (t ∷ ts) h i = (omega (arith, h, i.0), i.1, i.2, i.3, i.4)

text_is : (kind : TokenKind) (bs rest : List ℕ) → IsLexical kind bs rest → IsText kind bs
text_is Word bs rest i = (i.0, i.1)
text_is (Number v s) bs rest i = i.0
text_is Mark bs rest (inl (b, e, m, h)) = inl (b, e, m)
text_is Mark bs rest (inr i) = inr i
text_is Dots bs rest i = i
text_is Sentinel bs rest i = absurd i
text_is LineEnd bs rest i = absurd i

pub slice_is : (whole bs more : List ℕ) (at : ℕ) → drop at whole ≡ bs ++ more → slice_range whole at (at + length bs) ≡ bs
slice_is whole bs more at h =
    let e : at + length bs - at ≡ length bs = omega arith in
    ap (λ n. take n (drop at whole)) e ∙ ap (λ cs. take (length bs) cs) h ∙ take_front bs more

piece_placed : (whole bs more : List ℕ) (p : LinePlace) (at : ℕ) (kind : PieceKind) (rest : List ℕ) (us : Tokens) → drop (p.start + at) whole ≡ bs ++ more →
    p.start + at + length bs ≤ length whole → IsPiece kind bs rest → InOrder whole (p.start + (at + length bs)) us → InOrder whole (p.start + at) (token_of p at (length bs) kind ++ us)
piece_placed whole bs more p at Blank rest us h room i o = lower whole (p.start + at) (p.start + (at + length bs)) us (omega arith) o
piece_placed whole bs more p at (Lexical kind) rest us h room i o =
    let e : p.start + (at + length bs) ≡ p.start + at + length bs = omega arith in (
      omega arith,
      omega arith,
      room,
      subst (IsText kind) (sym (slice_is whole bs more (p.start + at) h)) (text_is kind bs rest i),
      subst (λ (n : ℕ). InOrder whole n us) e o,
    )
piece_placed whole bs more p at BadByte rest us h room i o = absurd i
piece_placed whole bs more p at LongName rest us h room i o = absurd i
piece_placed whole bs more p at WideLiteral rest us h room i o = absurd i

tokens_placed : (whole more : List ℕ) (p : LinePlace) (at : ℕ) (xs : List Spelt) (vs : Tokens) → drop (p.start + at) whole ≡ text_of xs ++ more →
    p.start + at + length (text_of xs) ≤ length whole → AreLongest xs → InOrder whole (p.start + (at + length (text_of xs))) vs → InOrder whole (p.start + at) (tokens_of p at xs ++ vs)
tokens_placed whole more p at [] vs h room a o = lower whole (p.start + at) (p.start + (at + 0)) vs (omega arith) o
tokens_placed whole more p at (x ∷ xs) vs h room a o =
    let n = length x.bytes in
    let rest = text_of xs in
    let size : length (x.bytes ++ rest) ≡ n + length rest = length-append x.bytes rest in
    let split : drop (p.start + at) whole ≡ x.bytes ++ (rest ++ more) = h ∙ append_assoc x.bytes rest more in
    let e : p.start + (at + n) ≡ p.start + at + n = omega arith in
    let behind : drop (p.start + (at + n)) whole ≡ rest ++ more =
    ap (λ k. drop k whole) e ∙ drop_both (p.start + at) n whole ∙ ap (drop n) split ∙ drop_front x.bytes (rest ++ more) in
    let fits : p.start + (at + n) + length rest ≤ length whole = omega (arith, size, room) in
    let one : p.start + at + n ≤ length whole = omega (arith, size, room) in
    let f : p.start + (at + length (x.bytes ++ rest)) ≡ p.start + (at + n + length rest) = omega (arith, size) in
    let rec : InOrder whole (p.start + (at + n)) (tokens_of p (at + n) xs ++ vs) = tokens_placed whole more p (at + n) xs vs behind fits a.1 (subst (λ (k : ℕ). InOrder whole k vs) f o) in
    subst (InOrder whole (p.start + at)) (sym (append_assoc (token_of p at n x.kind) (tokens_of p (at + n) xs) vs))
    (piece_placed whole x.bytes (rest ++ more) p at x.kind rest (tokens_of p (at + n) xs ++ vs) split one a.0 rec)

-- A line in the text.

pub record IsIn (whole : List ℕ) (p : LinePlace) (l : Line) (more : List ℕ) : Type 0 where
  pub cut : drop p.start whole ≡ l.bytes ++ (ending_bytes l.ending ++ more)
  pub room : p.start + length l.bytes + ending_len l.ending ≤ length whole

line_cut : (whole more : List ℕ) (p : LinePlace) (l : Line) (k : ℕ) → IsIn whole p l more → k ≤ length l.bytes → drop (p.start + k) whole ≡ drop k l.bytes ++ (ending_bytes l.ending ++ more)
line_cut whole more p l k i h = drop_both p.start k whole ∙ ap (drop k) i.cut ∙ drop_within k l.bytes (ending_bytes l.ending ++ more) h

ending_size : (e : Ending) → length (ending_bytes e) ≡ ending_len e
ending_size Missing = refl
ending_size LineFeed = refl
ending_size CrLf = refl

end_placed : (g : Bool) (whole more : List ℕ) (p : LinePlace) (l : Line) (at : ℕ) (vs : Tokens) → IsIn whole p l more → at ≤ length l.bytes → InOrder whole (after p l).start vs →
    InOrder whole (p.start + at) (end_of g p l ++ vs)
end_placed true whole more p l at vs i h o = lower whole (p.start + at) (after p l).start vs (omega (arith, h)) o
end_placed false whole more p l at vs i h o =
    let n = length l.bytes in
    let cut : drop (p.start + n) whole ≡ ending_bytes l.ending ++ more = drop_both p.start n whole ∙ ap (drop n) i.cut ∙ drop_front l.bytes (ending_bytes l.ending ++ more) in
    let slice : slice_range whole (p.start + n) (p.start + n + ending_len l.ending) ≡ ending_bytes l.ending =
    ap (λ k. slice_range whole (p.start + n) (p.start + n + k)) (sym (ending_size l.ending)) ∙ slice_is whole (ending_bytes l.ending) more (p.start + n) cut in
    (omega (arith, h), omega arith, i.room, (l.ending, slice), o)

text_placed : (whole more : List ℕ) (p : LinePlace) (class : LineClass) (from skipped : ℕ) (l : Line) (ls : List Line) (us vs : Tokens) → IsIn whole p l more →
    from + skipped ≤ length l.bytes → SpellsText p class from skipped l ls us → InOrder whole (after p l).start vs → InOrder whole (p.start + (from + skipped)) (us ++ vs)
text_placed whole more p class from skipped l ls us vs i h (xs, e, a, g, u) o =
    let at = from + skipped in
    let end = end_of (goes_on (text_from from l.bytes)) p l in
    let behind = ending_bytes l.ending ++ more in
    let found = text_in_line from skipped l.bytes in
    let body : drop at l.bytes ≡ text_of xs ++ found.0 = found.1 ∙ ap (λ bs. bs ++ found.0) e in
    let cut : drop (p.start + at) whole ≡ text_of xs ++ (found.0 ++ behind) = line_cut whole more p l at i h ∙ ap (λ bs. bs ++ behind) body ∙ append_assoc (text_of xs) found.0 behind in
    let size : length (text_of xs) + at ≤ length l.bytes = omega (arith, ap length body, length-append (text_of xs) found.0, length-drop at l.bytes, h) in
    let last : InOrder whole (p.start + (at + length (text_of xs))) (end ++ vs) = end_placed (goes_on (text_from from l.bytes)) whole more p l (at + length (text_of xs)) vs i (omega (arith, size)) o in
    subst (InOrder whole (p.start + at)) (sym (append_assoc (tokens_of p at xs) end vs) ∙ ap (λ ts. ts ++ vs) (sym u))
    (tokens_placed whole (found.0 ++ behind) p at xs (end ++ vs) cut (omega (arith, size, i.room)) a last)

pub joint_within : (continued : Bool) (l : Line) → prefix_len is_blank l.bytes + joint continued (prefix_len is_blank l.bytes) l ≤ length l.bytes
joint_within continued l =
    let from = prefix_len is_blank l.bytes in
    let front : from ≤ length l.bytes = prefix_len-le-length is_blank l.bytes in
    chosen (continued && begins (λ b. eqb b 38) (drop from l.bytes)) 1 0 (λ (n : ℕ). from + n ≤ length l.bytes)
    (λ h. let some : 0 < length (drop from l.bytes) = begins_some (λ b. eqb b 38) (drop from l.bytes) (and_second continued _ h) in omega (arith, some, length-drop from l.bytes))
    (λ _. omega (arith, front))

-- A directive's sentinel.

abbrev pub HasSentinel : List ℕ → Type 0
HasSentinel bs = (5 ≤ length bs) × (str_to_ascii_lowercase (take 5 bs) ≡ codes "!$omp")

sentinel_is : (b : ℕ) (bs : List ℕ) → is_bang b ≡ true → is_sentinel bs ≡ true → HasSentinel (b ∷ bs)
sentinel_is b [] h s = absurd (let e : false ≡ true = s in cc)
sentinel_is b (c ∷ []) h s = absurd (let e : false ≡ true = s in cc)
sentinel_is b (c ∷ d ∷ []) h s = absurd (let e : false ≡ true = s in cc)
sentinel_is b (c ∷ d ∷ e ∷ []) h s = absurd (let g : false ≡ true = s in cc)
sentinel_is b (c ∷ d ∷ e ∷ f ∷ bs) h s =
    let four = and_first _ (ends_word bs) s in
    let three = and_first _ (is_either f 112) four in
    let two = and_first _ (is_either e 109) three in
    let first = same_byte c 36 (and_first (eqb c 36) (is_either d 111) two) in
    let second = same_byte (to_ascii_lowercase d) 111 (and_second (eqb c 36) (is_either d 111) two) in
    let third = same_byte (to_ascii_lowercase e) 109 (and_second _ (is_either e 109) three) in
    let fourth = same_byte (to_ascii_lowercase f) 112 (and_second _ (is_either f 112) four) in (
      omega arith,
      ap (λ n. to_ascii_lowercase n ∷ to_ascii_lowercase c ∷ to_ascii_lowercase d ∷ to_ascii_lowercase e ∷ to_ascii_lowercase f ∷ []) (same_byte b 33 h)
          ∙ ap (λ n. 33 ∷ to_ascii_lowercase n ∷ to_ascii_lowercase d ∷ to_ascii_lowercase e ∷ to_ascii_lowercase f ∷ []) first
          ∙ ap (λ n. 33 ∷ 36 ∷ n ∷ to_ascii_lowercase e ∷ to_ascii_lowercase f ∷ []) second
          ∙ ap (λ n. 33 ∷ 36 ∷ 111 ∷ n ∷ to_ascii_lowercase f ∷ []) third
          ∙ ap (λ n. 33 ∷ 36 ∷ 111 ∷ 109 ∷ n ∷ []) fourth,
    )

bang_directive : (b : ℕ) (bs : List ℕ) → is_bang b ≡ true → class_of_bang bs ≡ Directive → HasSentinel (b ∷ bs)
bang_directive b bs h e =
    let P : LineClass → Type 0 = λ (c : LineClass). c ≡ Directive → HasSentinel (b ∷ bs) in
    chosen (is_sentinel bs) _ _ P (λ s _. sentinel_is b bs h s)
    (λ _. chosen (is_conditional bs) _ _ P (λ _ g. absurd (let x : Conditional ≡ Directive = g in cc)) (λ _ g. absurd (let x : Empty ≡ Directive = g in cc))) e

text_directive : (bs : List ℕ) → class_of_text bs ≡ Directive → HasSentinel bs
text_directive [] e = absurd (let x : Empty ≡ Directive = e in cc)
text_directive (b ∷ bs) e =
    let P : LineClass → Type 0 = λ (c : LineClass). c ≡ Directive → HasSentinel (b ∷ bs) in
    chosen (is_bang b) _ _ P (λ h g. bang_directive b bs h g) (λ _ g. absurd (let x : Statement ≡ Directive = g in cc)) e

pub directive_has : (bytes : List ℕ) → class_of bytes ≡ Directive → HasSentinel (drop (prefix_len is_blank bytes) bytes)
unfolding class_of
directive_has bytes e = text_directive (drop (prefix_len is_blank bytes) bytes) e

sentinel_placed : (continued : Bool) (whole more : List ℕ) (p : LinePlace) (l : Line) (us : Tokens) → IsIn whole p l more → class_of l.bytes ≡ Directive →
    InOrder whole (p.start + (prefix_len is_blank l.bytes + 5)) us → InOrder whole (p.start + prefix_len is_blank l.bytes) (cond continued [] (token p (prefix_len is_blank l.bytes) 5 Sentinel ∷ []) ++ us)
sentinel_placed true whole more p l us i d o = let from = prefix_len is_blank l.bytes in lower whole (p.start + from) (p.start + (from + 5)) us (omega arith) o
sentinel_placed false whole more p l us i d o =
    let from = prefix_len is_blank l.bytes in
    let has = directive_has l.bytes d in
    let front : from ≤ length l.bytes = prefix_len-le-length is_blank l.bytes in
    let cut = line_cut whole more p l from i front in
    let e : p.start + from + 5 - (p.start + from) ≡ 5 = omega arith in
    let slice : slice_range whole (p.start + from) (p.start + from + 5) ≡ take 5 (drop from l.bytes) =
    ap (λ n. take n (drop (p.start + from) whole)) e ∙ ap (take 5) cut ∙ take-append-le 5 (drop from l.bytes) (ending_bytes l.ending ++ more) has.0 in
    let f : p.start + (from + 5) ≡ p.start + from + 5 = omega arith in (
      omega arith,
      omega arith,
      omega (arith, has.0, length-drop from l.bytes, front, i.room),
      ap str_to_ascii_lowercase slice ∙ has.1,
      subst (λ (n : ℕ). InOrder whole n us) f o,
    )

class_placed : (class : LineClass) (continued : Bool) (whole more : List ℕ) (p : LinePlace) (l : Line) (ls : List Line) (us vs : Tokens) → class_of l.bytes ≡ class → IsIn whole p l more →
    SpellsClass p continued class l ls us → InOrder whole (after p l).start vs → InOrder whole p.start (us ++ vs)
class_placed Empty continued whole more p l ls us vs is i s o =
    subst (λ (ws : Tokens). InOrder whole p.start (ws ++ vs)) (sym s) (lower whole p.start (after p l).start vs (omega arith) o)
class_placed Conditional continued whole more p l ls us vs is i s o = absurd s
class_placed Statement continued whole more p l ls us vs is i s o =
    let from = prefix_len is_blank l.bytes in
    let skipped = joint continued from l in
    lower whole p.start (p.start + (from + skipped)) (us ++ vs) (omega arith) (text_placed whole more p Statement from skipped l ls us vs i (joint_within continued l) s o)
class_placed Directive continued whole more p l ls us vs is i (ws, s, e) o =
    let from = prefix_len is_blank l.bytes in
    let first = cond continued [] (token p from 5 Sentinel ∷ []) in
    let has = directive_has l.bytes is in
    let front : from ≤ length l.bytes = prefix_len-le-length is_blank l.bytes in
    let room : from + 5 + 0 ≤ length l.bytes = omega (arith, has.0, length-drop from l.bytes, front) in
    let none : from + 5 + 0 ≡ from + 5 = omega arith in
    let text : InOrder whole (p.start + (from + 5)) (ws ++ vs) = subst (λ (n : ℕ). InOrder whole (p.start + n) (ws ++ vs)) none (text_placed whole more p Directive (from + 5) 0 l ls ws vs i room s o) in
    lower whole p.start (p.start + from) (us ++ vs) (omega arith)
    (subst (InOrder whole (p.start + from)) (sym (append_assoc first ws vs) ∙ ap (λ ts. ts ++ vs) (sym e)) (sentinel_placed continued whole more p l (ws ++ vs) i is text))

lines_placed : (whole : List ℕ) (p : LinePlace) (continued : Bool) (ls : List Line) (us : Tokens) → drop p.start whole ≡ text_of_lines ls → p.start ≤ length whole →
    SpellLines p continued ls us → InOrder whole p.start us
lines_placed whole p continued [] us cut room s = subst (InOrder whole p.start) (sym s) tt
lines_placed whole p continued (l ∷ ls) us cut room (vs, ws, limit, s, rest, e) =
    let n = length l.bytes in
    let tail = text_of_lines ls in
    let behind = ending_bytes l.ending ++ tail in
    let size : length (drop p.start whole) ≡ n + (ending_len l.ending + length tail) =
    ap length cut ∙ omega (arith, length-append l.bytes behind, length-append (ending_bytes l.ending) tail, ending_size l.ending) in
    let fits : p.start + n + ending_len l.ending ≤ length whole = omega (arith, size, length-drop p.start whole, room) in
    let i : IsIn whole p l tail = record { cut = cut; room = fits } in
    let sized : p.start + n + ending_len l.ending ≡ p.start + n + length (ending_bytes l.ending) = ap (λ k. p.start + n + k) (sym (ending_size l.ending)) in
    let next : drop (after p l).start whole ≡ tail =
    ap (λ k. drop k whole) sized ∙ drop_both (p.start + n) (length (ending_bytes l.ending)) whole
    ∙ ap (drop (length (ending_bytes l.ending))) (drop_both p.start n whole ∙ ap (drop n) cut ∙ drop_front l.bytes behind) ∙ drop_front (ending_bytes l.ending) tail in
    subst (InOrder whole p.start) (sym e)
    (class_placed (class_of l.bytes) continued whole tail p l ls vs ws refl i s (lines_placed whole (after p l) (leaves_open continued (class_of l.bytes) l.bytes) ls ws next fits rest))

-- the tokens that a text spells are slices of it, in order
pub spells_in_order : (whole : List ℕ) (us : Tokens) → Spells whole us → InOrder whole 0 us
spells_in_order whole us s = lines_placed whole first_place false (lines whole) us (sym (lines_whole whole)) (omega arith) s

-- so they are pieces of it
pub spans_from : (whole : List ℕ) (from : ℕ) (us : Tokens) → InOrder whole from us → Are_spans whole us
spans_from whole from [] o = tt
spans_from whole from (t ∷ ts) o = ((o.1, o.2), spans_from whole t.end ts o.4)
