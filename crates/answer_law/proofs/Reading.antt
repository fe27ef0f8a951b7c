-- What is read from a file: its numbers are words, and its names are those that are asked for.
use Rattle.std.proofs.Common.{◌≡◌, ℕ, zero, suc, ◌^◌, ◌==◌, pos, Bool, true, false, cond, if◌then◌else◌, bytes_eq, List, [], ◌∷◌, All, map, find, IfSome, Option, Some, None, option_map, option_and_then, nat_lt, slice_index, drop, refl, ap, sym, subst, ◌∙◌, arith}
use Rattle.std.proofs.Common.{Ordering, Less, Equal, Greater}
use Rattle.std.specs.Int.{w64, cast_unsigned}
use Rattle.std.specs.Ordering.{nat_cmp, match_ordering}
use Rattle.std.specs.Cmp.Lexicographic.{slice_cmp}
use Rattle.std.specs.Str.{is_utf8}
use Rattle.std.proofs.lemmas.Bool.{or_left, or_right}
use Rattle.std.proofs.lemmas.Bool.Decides.{nat_tests}
use Rattle.std.proofs.lemmas.List.Elements.{All-append}
use Rattle.fast_float.specs.Text.{Parts, with_sign, digits_of, minus, scan}
use Rattle.json.specs.Json as json
use Rattle.json.specs.Lex.{tokens}
use Rattle.serde_json.specs.Data.{Num, unsigned, negative, float, Data, null, boolean, number, string, array, object, Items, no_items, item, Members, no_members, member, put}
use Rattle.serde_json.specs.Find.{get, get_member}
use Rattle.serde_json.specs.Read.{float_of, number_from, number_of, of_json, of_items, of_members, max_depth, read}
use Rattle.fl_ast.specs.declared.decl.Decl.{Decl}
use Rattle.fl_types.specs.Sharing.{has_name}
use Rattle.store_core.specs.declared.values.Entry.{Entry}
use Rattle.store_core.specs.Places.{declaration_of, is_empty}
use Rattle.data_io.specs.DataFaults.{list_of, found, or_zero, word_of, word_at, words_at, scalar_entry, array_entry, entry_of, on_declared, name_entries, entries_of}
use Rattle.sound_programs.proofs.Lists.{at_test, same_name, itself}
use Rattle.answer_law.specs.Answered.{ReadWordsAreSmall, SeedsAreAsked}
use Rattle.answer_law.proofs.Opening.{IsSmall, none_small, one_more, zero_small}

-- ---- numbers that are read

abbrev IsFairNumber : Num → Type 0
IsFairNumber (unsigned n) = Unit {0}
IsFairNumber (negative z) = IsSmall (cast_unsigned w64 z)
IsFairNumber (float x) = Unit {0}

abbrev mutual
  IsFair : Data → Type 0
  IsFair null = Unit {0}
  IsFair (boolean b) = Unit {0}
  IsFair (number n) = IsFairNumber n
  IsFair (string s) = Unit {0}
  IsFair (array ds) = AreFair ds
  IsFair (object ms) = HasFair ms

  AreFair : Items → Type 0
  AreFair no_items = Unit {0}
  AreFair (item d ds) = IsFair d × AreFair ds

  HasFair : Members → Type 0
  HasFair no_members = Unit {0}
  HasFair (member k d ms) = IsFair d × HasFair ms

either_some : {A : Type 0} (P : A → Type 0) (b : Bool) (x y : Option A) → IfSome x P → IfSome y P → IfSome (if b then x else y) P
either_some P true x y h g = h
either_some P false x y h g = g

map_some : {A B : Type 0} (P : A → Type 0) (Q : B → Type 0) (f : A → B) (o : Option A) → IfSome o P → ((x : A) → P x → Q (f x)) → IfSome (option_map f o) Q
map_some P Q f None h g = tt
map_some P Q f (Some x) h g = g x h

then_some : {A B : Type 0} (P : A → Type 0) (Q : B → Type 0) (f : A → Option B) (o : Option A) → IfSome o P → ((x : A) → P x → IfSome (f x) Q) → IfSome (option_and_then f o) Q
then_some P Q f None h g = tt
then_some P Q f (Some x) h g = g x h

negative_small : (n : ℕ) → IsSmall (cast_unsigned w64 (with_sign true n))
negative_small zero = zero_small
negative_small (suc n) = omega arith

float_fair : (b : Bool) (p : Parts) → IfSome (float_of b p) IsFairNumber
float_fair b p = either_some IsFairNumber _ (Some (float _)) None tt tt

from_fair : (b : Bool) (p : Parts) → IfSome (number_from b p) IsFairNumber
from_fair false p = either_some IsFairNumber _ (Some (unsigned (digits_of p))) (float_of false p) tt (float_fair false p)
from_fair true p = either_some IsFairNumber _ (Some (negative (with_sign true (digits_of p)))) (float_of true p) (negative_small (digits_of p)) (float_fair true p)

number_fair : (s : List ℕ) → IfSome (number_of s) IsFairNumber
unfolding number_of
number_fair s =
    either_some IsFairNumber (slice_index s 0 == minus) (number_from true (scan (drop 1 s))) (number_from false (scan s)) (from_fair true (scan (drop 1 s)))
    (from_fair false (scan s))

put_at : (o : Ordering) (a b c : Members) → HasFair a → HasFair b → HasFair c → HasFair (match_ordering o a b c)
put_at Less a b c h g k = h
put_at Equal a b c h g k = g
put_at Greater a b c h g k = k

put_fair : (k : List ℕ) (d : Data) (ms : Members) → IsFair d → HasFair ms → HasFair (put k d ms)
put_fair k d no_members h g = (h, tt)
put_fair k d (member l e ms) h g =
    put_at (slice_cmp nat_cmp k l) (member k d (member l e ms)) (member l d ms) (member l e (put k d ms)) (h, g) (h, g.1) (g.0, put_fair k d ms h g.1)

both_fair : (o : Option Data) (p : Option Items) → IfSome o IsFair → IfSome p AreFair → IfSome (option_and_then (λ d. option_map (item d) p) o) AreFair
both_fair None p h g = tt
both_fair (Some d) p h g = map_some AreFair AreFair (item d) p g (λ ds k. (h, k))

mutual
  json_fair : (j : json.Json) → IfSome (of_json j) IsFair
  json_fair json.null = tt
  json_fair (json.boolean b) = tt
  json_fair (json.number s) = map_some IsFairNumber IsFair number (number_of s) (number_fair s) (λ n h. h)
  json_fair (json.string s) = tt
  json_fair (json.array js) = map_some AreFair IsFair array (of_items js) (items_fair js) (λ n h. h)
  json_fair (json.object ms) = map_some HasFair IsFair object (of_members ms no_members) (members_fair ms no_members tt) (λ n h. h)

  items_fair : (js : json.Items) → IfSome (of_items js) AreFair
  items_fair json.no_items = tt
  items_fair (json.item j js) =
      both_fair (of_json j) (of_items js) (json_fair j) (items_fair js)

  members_fair : (ms : json.Members) (given : Members) → HasFair given → IfSome (of_members ms given) HasFair
  members_fair json.no_members given h = h
  members_fair (json.member k j ms) given h =
      then_some IsFair HasFair (λ d. of_members ms (put k d given)) (of_json j) (json_fair j) (λ d g. members_fair ms (put k d given) (put_fair k d given g h))

whole_fair : (o : Option json.Json) → IfSome (option_and_then of_json o) IsFair
whole_fair None = tt
whole_fair (Some j) = json_fair j

read_fair : (bytes : List ℕ) → IfSome (read bytes) IsFair
read_fair bytes = whole_fair (option_and_then (λ p. json.if_last p.0 p.1) (json.value max_depth (tokens bytes)))

-- ---- words

by_range : (n : ℕ) (b : Bool) → nat_lt n (2 ^ 63) ≡ b → IsSmall (cast_unsigned w64 (or_zero (if b then Some (pos n) else None)))
by_range n true e = grind (arith, nat_tests)
by_range n false e = zero_small

word_small : (d : Data) → IsFair d → IsSmall (word_of d)
word_small null h = zero_small
word_small (boolean b) h = zero_small
word_small (number (unsigned n)) h = by_range n (nat_lt n (2 ^ 63)) refl
word_small (number (negative z)) h = h
word_small (number (float x)) h = zero_small
word_small (string s) h = zero_small
word_small (array ds) h = zero_small
word_small (object ms) h = zero_small

word_at_small : (o : Option Data) → IfSome o IsFair → IsSmall (word_at o)
word_at_small None h = zero_small
word_at_small (Some d) h = word_small d h

items_small : (ds : Items) → AreFair ds → All IsSmall (map word_of (list_of ds))
items_small no_items h = none_small
items_small (item d ds) h = one_more (word_of d) (map word_of (list_of ds)) (word_small d h.0) (items_small ds h.1)

words_at_small : (o : Option Data) → IfSome o IsFair → All IsSmall (words_at o)
words_at_small None h = none_small
words_at_small (Some null) h = none_small
words_at_small (Some (boolean b)) h = none_small
words_at_small (Some (number n)) h = none_small
words_at_small (Some (string s)) h = none_small
words_at_small (Some (array ds)) h = items_small ds h
words_at_small (Some (object ms)) h = none_small

got_at : (o : Ordering) (a b c : Option Data) → IfSome a IsFair → IfSome b IsFair → IfSome c IsFair → IfSome (match_ordering o a b c) IsFair
got_at Less a b c h g k = h
got_at Equal a b c h g k = g
got_at Greater a b c h g k = k

member_fair : (k : List ℕ) (ms : Members) → HasFair ms → IfSome (get_member k ms) IsFair
member_fair k no_members h = tt
member_fair k (member l e ms) h =
    got_at (slice_cmp nat_cmp k l) (get_member k ms) (Some e) (get_member k ms) (member_fair k ms h.1) h.0 (member_fair k ms h.1)

get_fair : (k : List ℕ) (d : Data) → IsFair d → IfSome (get k d) IsFair
get_fair k null h = tt
get_fair k (boolean b) h = tt
get_fair k (number n) h = tt
get_fair k (string s) h = tt
get_fair k (array ds) h = tt
get_fair k (object ms) h = member_fair k ms h

found_fair : (k : List ℕ) (d : Data) → IsFair d → IfSome (found k d) IsFair
found_fair k d h = at_test (λ b. IfSome (cond b (get k d) None) IsFair) (is_utf8 k) (λ e. get_fair k d h) (λ e. tt)

-- ---- entries

-- what holds of the entry of each declared name
all_entries : (P : Entry → Type 0) (decls : List Decl) (names : List (List ℕ)) (d : Data)
    → ((x : List ℕ) (a : Decl) → has_name x names ≡ true → declaration_of decls x ≡ Some a → P (entry_of d a)) → All P (entries_of decls names d)
all_entries P decls [] d h = λ k e l. absurd (omega arith)
all_entries P decls (y ∷ ys) d h =
    All-append P (name_entries decls d y) (entries_of decls ys d)
    (here (declaration_of decls y) (λ a e. h y a (or_left (bytes_eq y y) (has_name y ys) (itself y)) e))
    (all_entries P decls ys d (λ x a k e. h x a (or_right (bytes_eq x y) (has_name x ys) k) e))
  where
    one : (e : Entry) → P e → All P (e ∷ [])
    one e k zero f l = k
    one e k (suc j) f l = absurd (omega arith)

    here : (o : Option Decl) → ((a : Decl) → o ≡ Some a → P (entry_of d a)) → All P (on_declared o (λ a. entry_of d a ∷ []))
    here None g = λ k e l. absurd (omega arith)
    here (Some a) g = one (entry_of d a) (g a refl)

entry_small : (d : Data) (a : Decl) → IsFair d → All IsSmall (entry_of d a).words
entry_small d a h =
    at_test (λ b. All IsSmall (cond b (scalar_entry d a) (array_entry d a)).words) (is_empty a.dims)
    (λ e. one_more (word_at (found a.name d)) [] (word_at_small (found a.name d) (found_fair a.name d h)) none_small)
    (λ e. words_at_small (found a.name d) (found_fair a.name d h))

pub read_small : ReadWordsAreSmall
read_small bytes decls names d h =
    all_entries (λ (e : Entry). All IsSmall e.words) decls names d
    (λ x a k e. entry_small d a (subst (λ (o : Option Data). IfSome o IsFair) h (read_fair bytes)))

find_meets : (test : Decl → Bool) (ds : List Decl) (a : Decl) → find test ds ≡ Some a → test a ≡ true
find_meets test [] a h = absurd (let e : None ≡ Some a = h in cc)
find_meets test (d ∷ ds) a h =
    at_test (λ b. cond b (Some d) (find test ds) ≡ Some a → test a ≡ true) (test d)
    (λ e k. (let g : d ≡ a = cc in subst (λ (c : Decl). test c ≡ true) g e)) (λ e k. find_meets test ds a k) h

pub seeds_asked : SeedsAreAsked
seeds_asked decls names d =
    all_entries (λ (e : Entry). has_name e.name names ≡ true) decls names d (λ x a k e.
    at_test (λ b. has_name (cond b (scalar_entry d a) (array_entry d a)).name names ≡ true) (is_empty a.dims) (λ t. named x a k e) (λ t. named x a k e))
  where
    named : (x : List ℕ) (a : Decl) → has_name x names ≡ true → declaration_of decls x ≡ Some a → has_name a.name names ≡ true
    named x a k e =
        ap (λ y. has_name y names) (sym (same_name x a.name (find_meets (λ (b : Decl). bytes_eq x b.name) decls a e))) ∙ k
