-- A unit is read exactly.
use Rattle.std.proofs.Common.{false, ◌≡◌, ℕ, ◌+◌, Bool, true, cond, List, [], ◌∷◌, ◌++◌, length, refl, inl, inr}
use Rattle.parsing.specs.declared.symbol.Symbol.{Symbol}
use Rattle.parsing.specs.declared.symbol.Symbol.TheVariants as s
use Rattle.parsing.specs.declared.fault.Cause.TheVariants.{Expected, Many}
use Rattle.parsing.specs.Freed.{Freed}
use Rattle.parsing.specs.Terminal.{same, on, is, reads, names, words}
use Rattle.parsing.specs.Reading.{Lexemes, sees}
use Rattle.parsing.specs.Grammar.{Grammar, gives, ◌>>=◌ as ◌⨟◌}
use Rattle.fl_ast.specs.declared.kind.Kind.{Kind}
use Rattle.fl_ast.specs.declared.kind.Kind.TheVariants.{Index, Ring}
use Rattle.fl_ast.specs.declared.kind.Intent.{Intent}
use Rattle.fl_ast.specs.declared.kind.Intent.TheVariants.{Unsaid, ReadOnly, WriteOnly, Both}
use Rattle.fl_ast.specs.declared.decl.Decl.{Decl}
use Rattle.std.specs.Prelude.{bytes_eq, ◌&&◌, Option, Some, None, not}
use Rattle.std.specs.Str.{str_to_ascii_lowercase}
use Rattle.std.proofs.Common.{sym, ap, ◌∙◌}
use Rattle.std.proofs.lemmas.Slice.Eq.{bytes_eq-Decides}
use Rattle.tokens.specs.Lexeme.{Lexeme}
use Rattle.tokens.specs.declared.TokenKind.{TokenKind}
use Rattle.tokens.specs.declared.TokenKind.TheVariants.{Word as word_token, Number as number_token, Mark as mark_token, Dots as dots_token, Sentinel as sentinel_token, LineEnd as end_token}
use Rattle.parsing.specs.Symbol.{symbol_of, symbol_by}
use Rattle.parsing.specs.Grammar.{one}
use Rattle.parsing.specs.Terminal.{numbers, some, spelled, spelled_number}
use Rattle.parsing.proofs.Exact.{token_exact}
use Rattle.parsing.proofs.OnSymbols.{begins_one}
use Rattle.parsing.proofs.Rules.{meets_or}
use Rattle.fl_parser.specs.declared.unit.UnitHead.{UnitHead}
use Rattle.fl_parser.specs.Terminals.{kind_by, one_text, two_text}
use Rattle.fl_statements.specs.Limits.{Limits}
use Rattle.fl_parser.specs.Trees.{declared, head_of, program}
use Rattle.fl_statements.specs.Wide.{Widens}
use Rattle.fl_parser.specs.UnitGrammar as g
use Rattle.fl_parser.specs.UnitReading as p
use Rattle.parsing.proofs.Outcomes.{differ, never, sees-never, shrinks_pure, shrinks_seq, Bites}
use Rattle.parsing.proofs.Exact.{Exact, always_room, room_of, Begins, Meets, pure_exact, seq, shrinks_token}
use Rattle.parsing.proofs.Rules.{narrow, anywhere, either, optional, loop_exact, begins_seq, begins_or, begins_opens, Opens, opens_or, opens_gives, opens_begins, opens_many, meets_never, gives_meets, meets_or, mapped}
use Rattle.parsing.proofs.OnSymbols.{less, wider, among, meets, begins_in, begins_mark, begins_name, begins_by, begins_same_word, mark_exact, name_exact, word_exact, same_word_exact, by_exact, mark_then, bites_mark, apart}
use Rattle.fl_statements.specs.Trees.{block_from}
use Rattle.fl_statements.specs.StmtReading.{begins_stmt}
use Rattle.fl_statements.proofs.StmtExact.{stmts_exact, stmts_open}
use Rattle.fl_parser.proofs.ExactDims.{shape_exact}

-- ---- declarations

kind_word_exact : (l : Freed) → Exact l g.kind_word (is s.Kind) p.kind_word p.kind_word
unfolding g.kind_word p.kind_word
kind_word_exact l = optional tt (anywhere (mark_then s.Kind _ _ _ (λ _. mark_then s.Equals _ _ _ (λ _. pure_exact tt)))) (begins_seq _ (begins_mark s.Kind)) (λ rest h. h)

-- a token that is spelled so
spelled_begins : (bytes : List ℕ) → Begins (one (spelled_number bytes)) (spelled bytes)
spelled_begins bytes = begins_one (spelled_number bytes) (spelled bytes) (λ t x h. given (spelled bytes t) x h)
  where
    given : (b : Bool) (x : Unit {0}) → cond b (Some tt) None ≡ Some x → b ≡ true
    given true x h = refl
    given false x h = cc

numbered : (bytes : List ℕ) (t : Lexeme) → spelled bytes t ≡ true → numbers (symbol_of t) ≡ true
numbered bytes t h = first_true (numbers (symbol_of t)) _ h
  where
    first_true : (a b : Bool) → (a && b) ≡ true → a ≡ true
    first_true true b e = refl
    first_true false b e = e

spelled_counts : (bytes : List ℕ) → Begins (one (spelled_number bytes)) (on numbers)
spelled_counts bytes = begins_one (spelled_number bytes) (on numbers) (λ t x h. numbered bytes t (given (spelled bytes t) x h))
  where
    given : (b : Bool) (x : Unit {0}) → cond b (Some tt) None ≡ Some x → b ≡ true
    given true x h = refl
    given false x h = cc

spelled_text : (bytes : List ℕ) (t : Lexeme) → spelled bytes t ≡ true → bytes_eq t.bytes (str_to_ascii_lowercase bytes) ≡ true
spelled_text bytes t h = second_true (numbers (symbol_of t)) _ h
  where
    second_true : (a b : Bool) → (a && b) ≡ true → b ≡ true
    second_true true b e = e
    second_true false b e = cc

text_is : (bytes : List ℕ) (t : Lexeme) → spelled bytes t ≡ true → t.bytes ≡ str_to_ascii_lowercase bytes
text_is bytes t h = (bytes_eq-Decides t.bytes (str_to_ascii_lowercase bytes)).0 (spelled_text bytes t h)

not_both : (a b : Bool) (e : a ≡ true → b ≡ true → ⊥) → a ≡ true → b ≡ false
not_both a true e h = absurd (e h refl)
not_both a false e h = refl

one_exact : (l : Freed) → Exact l g.one_byte never p.one_byte p.one_byte
unfolding g.one_byte p.one_byte symbol_by
one_exact l = mapped (token_exact (spelled_number one_text) tt (record { line = 1; kind = number_token 1 None; bytes = one_text }) refl) (λ _. (Ring, 1))

two_exact : (l : Freed) → Exact l g.two_bytes never p.two_bytes p.two_bytes
unfolding g.two_bytes p.two_bytes symbol_by
two_exact l = mapped (token_exact (spelled_number two_text) tt (record { line = 1; kind = number_token 2 None; bytes = two_text }) refl) (λ _. (Ring, 2))

-- other numbers are spelled otherwise
two_apart : (ts : Lexemes) → sees (spelled two_text) ts ≡ true → sees (spelled one_text) ts ≡ false
two_apart [] h = refl
two_apart (t ∷ ts) h = not_both (spelled two_text t) (spelled one_text t) (λ a b. differ (bytes_eq t.bytes (str_to_ascii_lowercase one_text)) (spelled_text one_text t b) (ap (λ v. bytes_eq v (str_to_ascii_lowercase one_text)) (text_is two_text t a))) h

kinds_apart : (bytes : List ℕ) → ((k : TokenKind) → kind_by (symbol_by k (str_to_ascii_lowercase bytes)) ≡ None) → (ts : Lexemes) → sees (on (reads kind_by)) ts ≡ true → sees (spelled bytes) ts ≡ false
kinds_apart bytes none [] h = refl
kinds_apart bytes none (t ∷ ts) h = not_both (reads kind_by (symbol_of t)) (spelled bytes t) (λ a b. wrong (kind_by (symbol_of t)) (ap (λ v. kind_by (symbol_by t.kind v)) (text_is bytes t b) ∙ none t.kind) a) h
  where
    wrong : (o : Option (Kind × ℕ)) → o ≡ None → some o ≡ true → ⊥
    wrong None e h = cc
    wrong (Some x) e h = cc

no_one : (k : TokenKind) → kind_by (symbol_by k (str_to_ascii_lowercase one_text)) ≡ None
unfolding symbol_by
no_one word_token = refl
no_one (number_token v f) = refl
no_one mark_token = refl
no_one dots_token = refl
no_one sentinel_token = refl
no_one end_token = refl

no_two : (k : TokenKind) → kind_by (symbol_by k (str_to_ascii_lowercase two_text)) ≡ None
unfolding symbol_by
no_two word_token = refl
no_two (number_token v f) = refl
no_two mark_token = refl
no_two dots_token = refl
no_two sentinel_token = refl
no_two end_token = refl

value_exact : (l : Freed) → Exact l g.kind_value never p.kind_value p.kind_value
unfolding g.kind_value p.kind_value g.one_byte g.two_bytes
value_exact l = either (one_exact l) (either (two_exact l) (by_exact kind_by s.Four (Index, 4) refl) (begins_seq _ (spelled_begins two_text))
    (λ z ws rest m _. kinds_apart two_text no_two (ws ++ rest) (begins_by kind_by z ws rest m)))
    (begins_seq _ (spelled_begins one_text))
    (meets_or _ _ (spelled one_text) never (λ z ws rest m _. two_apart (ws ++ rest) (begins_seq (λ (_ : Unit {0}). gives {A = Kind × ℕ} (Ring, 2)) (spelled_begins two_text) z ws rest m))
    (λ z ws rest m _. kinds_apart one_text no_one (ws ++ rest) (begins_by kind_by z ws rest m)))

value_begins : Begins g.kind_value (on numbers)
unfolding g.kind_value g.one_byte g.two_bytes
value_begins = begins_or _ _ (on numbers) (begins_seq _ (spelled_counts one_text)) (begins_or _ _ (on numbers) (begins_seq _ (spelled_counts two_text)) (begins_in (reads kind_by) numbers _ (begins_by kind_by) refl refl))

kind_brackets_exact : (l : Freed) → Exact l g.kind_brackets never p.kind_brackets p.kind_brackets
unfolding g.kind_brackets p.kind_brackets
kind_brackets_exact l =
    mark_then s.Open _ _ _ (λ _. seq (kind_word_exact l) (λ _. seq (value_exact l) (λ k. mark_then s.Close _ _ _ (λ _. pure_exact k)) (λ k. meets_never never _))
    (λ _. meets numbers (same s.Kind) never _ (begins_seq _ value_begins) refl refl))

kind_brackets_begins : Begins g.kind_brackets (is s.Open)
unfolding g.kind_brackets
kind_brackets_begins = begins_seq _ (begins_mark s.Open)

kind_exact : (l : Freed) → Exact l g.kind (is s.Open) p.kind p.kind
unfolding g.kind p.kind
kind_exact l = optional (Index, 4) (anywhere (kind_brackets_exact l)) kind_brackets_begins (λ rest h. h)

inward_exact : (l : Freed) → Exact l g.inward (is s.Out) p.inward p.inward
unfolding g.inward g.and_out p.inward
inward_exact l = mark_then s.In _ _ _ (λ _. optional ReadOnly (anywhere (mark_then s.Out _ _ _ (λ _. pure_exact Both))) (begins_seq _ (begins_mark s.Out)) (λ rest h. h))

inward_begins : Begins g.inward (is s.In)
unfolding g.inward
inward_begins = begins_seq _ (begins_mark s.In)

outward_exact : (l : Freed) → Exact l g.outward never p.outward p.outward
unfolding g.outward p.outward
outward_exact l = either (mark_then s.Out _ _ _ (λ _. pure_exact WriteOnly)) (mark_then s.InOut _ _ _ (λ _. pure_exact Both)) (begins_seq _ (begins_mark s.Out))
    (meets (same s.InOut) (same s.Out) never _ (begins_seq _ (begins_mark s.InOut)) refl refl)

abbrev outs : Symbol → Bool
outs = among (s.Out ∷ s.InOut ∷ [])

outward_begins : Begins g.outward (on outs)
unfolding g.outward
outward_begins = begins_or _ _ (on outs) (begins_in (same s.Out) outs _ (begins_seq _ (begins_mark s.Out)) refl refl) (begins_in (same s.InOut) outs _ (begins_seq _ (begins_mark s.InOut)) refl refl)

direction_exact : (l : Freed) → Exact l g.direction (is s.Out) p.direction p.direction
unfolding g.direction p.direction
direction_exact l = either (inward_exact l) (anywhere (outward_exact l)) inward_begins (meets outs (same s.In) (is s.Out) _ outward_begins refl refl)

intent_list_exact : (l : Freed) → Exact l g.intent_list never p.intent_list p.intent_list
unfolding g.intent_list p.intent_list
intent_list_exact l =
    mark_then s.Comma _ _ _ (λ _. mark_then s.Intent _ _ _ (λ _. mark_then s.Open _ _ _ (λ _. seq (direction_exact l)
    (λ i. mark_then s.Close _ _ _ (λ _. mark_then s.Colons _ _ _ (λ _. pure_exact i)))
    (λ i. meets (same s.Close) (same s.Out) never _ (begins_seq _ (begins_mark s.Close)) refl refl))))

intent_list_begins : Begins g.intent_list (is s.Comma)
unfolding g.intent_list
intent_list_begins = begins_seq _ (begins_mark s.Comma)

-- what begins an intent, or goes on with none
abbrev intents : Symbol → Bool
intents = among (s.Comma ∷ s.Colons ∷ [])

colons_exact : (l : Freed) → Exact l g.colons (is s.Colons) p.colons p.colons
unfolding g.colons p.colons
colons_exact l = optional Unsaid (anywhere (mark_then s.Colons _ _ _ (λ _. pure_exact Unsaid))) (begins_seq _ (begins_mark s.Colons)) (λ rest h. h)

colons_opens : Opens g.colons (on intents)
unfolding g.colons
colons_opens = opens_or _ _ (on intents) (opens_begins _ (on intents) (begins_in (same s.Colons) intents _ (begins_seq _ (begins_mark s.Colons)) refl refl)) (opens_gives Unsaid (on intents))

colons_meet : Meets g.colons (is s.Comma) (on intents)
unfolding g.colons
colons_meet = meets_or _ _ (is s.Comma) (on intents) (meets (same s.Colons) (same s.Comma) (on intents) _ (begins_seq _ (begins_mark s.Colons)) refl refl)
    (gives_meets Unsaid (is s.Comma) (on intents) (less (same s.Comma) intents refl refl))

intent_exact : (l : Freed) → Exact l g.intent (on intents) p.intent p.intent
unfolding g.intent p.intent
intent_exact l = either (anywhere (intent_list_exact l)) (narrow (colons_exact l) (less (same s.Colons) intents refl refl)) intent_list_begins colons_meet

intent_opens : Opens g.intent (on intents)
unfolding g.intent
intent_opens = opens_or _ _ (on intents) (opens_begins _ (on intents) (begins_in (same s.Comma) intents _ intent_list_begins refl refl)) colons_opens

-- what begins the part of a declaration after its kind
abbrev heads : Symbol → Bool
heads a = cond (intents a) true (names a)

pub opens_in : {A : Type 0} (f h : Symbol → Bool) (N : Grammar A) → Opens N (on f) → ((ts : Lexemes) → sees (on f) ts ≡ true → sees (on h) ts ≡ true) → Opens N (on h)
opens_in f h N o wide x us rest n = elim (o x us rest n) [ inl e ↦ inl e | inr e ↦ inr (wide (us ++ rest) e) ]

opens_heads : Opens g.intent (on heads)
opens_heads = opens_in intents heads _ intent_opens (wider intents heads refl refl)

-- what goes on with the items of a declaration
abbrev shapes : Symbol → Bool
shapes = among (s.Comma ∷ s.Open ∷ [])

-- what stands behind an item
abbrev ends_item : Symbol → Bool
ends_item = among (s.Comma ∷ s.LineEnd ∷ [])

item_exact : (l : Freed) (line : ℕ) (k : Kind × ℕ) (i : Intent) (ds : List Decl) → Exact l (g.item line k i ds) (is s.Open) (p.item line k i ds) (p.item line k i ds)
unfolding g.item p.item
item_exact l line k i ds = seq name_exact (λ x. mapped (shape_exact l) (declared ds line k i x)) (λ x. meets_never (is s.Open) _)

item_begins : (line : ℕ) (k : Kind × ℕ) (i : Intent) (ds : List Decl) → Begins (g.item line k i ds) (on names)
unfolding g.item
item_begins line k i ds = begins_seq _ begins_name

module _ (l : Freed) (limits wide : Limits) (W : Widens l limits wide) where
  another_item_exact : (line : ℕ) (k : Kind × ℕ) (i : Intent) (ds : List Decl) → Exact l (g.another_item limits line k i ds) (is s.Open) (p.another_item limits line k i ds) (p.another_item wide line k i ds)
  unfolding g.another_item p.another_item
  another_item_exact line k i ds = mark_then s.Comma _ _ _ (λ _. item_exact l line k i ds)

  another_item_begins : (line : ℕ) (k : Kind × ℕ) (i : Intent) (ds : List Decl) → Begins (g.another_item limits line k i ds) (is s.Comma)
  unfolding g.another_item
  another_item_begins line k i ds = begins_seq _ (begins_mark s.Comma)

  another_item_bites : (line : ℕ) (k : Kind × ℕ) (i : Intent) (ds : List Decl) → Bites (p.another_item wide line k i ds) (is s.Comma)
  unfolding p.another_item
  another_item_bites line k i ds = bites_mark s.Comma _ (λ _. (item_exact l line k i ds).shrinks)

  items_exact : (line : ℕ) (k : Kind × ℕ) (i : Intent) (ds : List Decl) → Exact l (g.items limits line k i ds) (on shapes) (p.items limits line k i ds) (p.items wide line k i ds)
  unfolding g.items p.items
  items_exact line k i = loop_exact l (is s.Comma) (is s.Open) (on shapes) (g.may_declare limits) (g.may_declare wide) Many _ _ _
      (λ ds. room_of W.names (length ds + 1)) (another_item_exact line k i) (another_item_begins line k i) (another_item_bites line k i)
      (less (same s.Open) shapes refl refl) (less (same s.Comma) shapes refl refl) (apart (same s.Comma) (same s.Open) refl refl)

  items_open : (line : ℕ) (k : Kind × ℕ) (i : Intent) (ds : List Decl) → Opens (g.items limits line k i ds) (is s.Comma)
  unfolding g.items
  items_open line k i = opens_many _ _ (is s.Comma) (another_item_begins line k i)

  -- the part of a declaration after its kind
  decl_exact : (ds : List Decl) → Exact l (g.decl limits ds) never (p.decl limits ds) (p.decl wide ds)
  unfolding g.decl p.decl
  decl_exact ds = mark_then s.Integer _ _ _ (λ line. seq (kind_exact l)
      (λ k. seq (intent_exact l)
      (λ i. seq (item_exact l line k i ds)
      (λ first. seq (items_exact line k i first) (λ found. mark_then s.LineEnd _ _ _ (λ _. pure_exact found))
      (λ found. meets (same s.LineEnd) shapes never _ (begins_seq _ (begins_mark s.LineEnd)) refl refl))
      (λ first. meets ends_item (same s.Open) never _ (begins_opens (g.items limits line k i first) _ (on ends_item)
      (opens_in (same s.Comma) ends_item _ (items_open line k i first) (wider (same s.Comma) ends_item refl refl))
      (λ found. begins_in (same s.LineEnd) ends_item _ (begins_seq _ (begins_mark s.LineEnd)) refl refl)) refl refl))
      (λ i. meets names intents never _ (begins_seq _ (item_begins line k i ds)) refl refl))
      (λ k. meets heads (same s.Open) never _
      (begins_opens g.intent _ (on heads) opens_heads (λ i. begins_in names heads _ (begins_seq _ (item_begins line k i ds)) refl refl)) refl refl))

  decl_begins : (ds : List Decl) → Begins (g.decl limits ds) (is s.Integer)
  unfolding g.decl
  decl_begins ds = begins_seq _ (begins_mark s.Integer)

  decl_bites : (ds : List Decl) → Bites (p.decl wide ds) (is s.Integer)
  unfolding p.decl
  decl_bites ds = bites_mark s.Integer _ (λ line. shrinks_seq _ _ ((kind_exact l).shrinks) (λ k. shrinks_seq _ _ ((intent_exact l).shrinks) (λ i. shrinks_seq _ _ ((item_exact l line k i ds).shrinks)
      (λ first. shrinks_seq _ _ ((items_exact line k i first).shrinks) (λ found. shrinks_seq _ _ (shrinks_token _) (λ _. shrinks_pure found))))))

  pub decls_exact : Exact l (g.decls limits) (is s.Integer) (p.decls limits) (p.decls wide)
  unfolding g.decls p.decls
  decls_exact = loop_exact l (is s.Integer) never (is s.Integer) (g.may_declare limits) (g.may_declare wide) Many _ _ _
      (λ ds. room_of W.names (length ds + 1)) decl_exact decl_begins decl_bites
      (λ rest h. sees-never rest) (λ rest h. h) (λ rest h. sees-never rest) []

  pub decls_open : Opens (g.decls limits) (is s.Integer)
  unfolding g.decls
  decls_open = opens_many _ _ (is s.Integer) decl_begins []

-- ---- the unit

another_arg_exact : (l : Freed) (found : List (List ℕ)) → Exact l (g.another_arg found) never (p.another_arg found) (p.another_arg found)
unfolding g.another_arg p.another_arg
another_arg_exact l found = mark_then s.Comma _ _ _ (λ _. seq name_exact (λ x. pure_exact (found ++ x.name ∷ [])) (λ x. meets_never never _))

another_arg_begins : (found : List (List ℕ)) → Begins (g.another_arg found) (is s.Comma)
unfolding g.another_arg
another_arg_begins found = begins_seq _ (begins_mark s.Comma)

another_arg_bites : (found : List (List ℕ)) → Bites (p.another_arg found) (is s.Comma)
unfolding p.another_arg
another_arg_bites found = bites_mark s.Comma _ (λ _. shrinks_seq _ _ (shrinks_token _) (λ x. shrinks_pure (found ++ x.name ∷ [])))

more_args_exact : (l : Freed) (found : List (List ℕ)) → Exact l (g.more_args found) (is s.Comma) (p.more_args found) (p.more_args found)
unfolding g.more_args p.more_args
more_args_exact l = loop_exact l (is s.Comma) never (is s.Comma) (λ _. true) (λ _. true) Expected _ _ _
    (λ _. always_room) (another_arg_exact l) another_arg_begins another_arg_bites (λ rest h. sees-never rest) (λ rest h. h) (λ rest h. sees-never rest)

some_args_exact : (l : Freed) → Exact l g.some_args (is s.Comma) p.some_args p.some_args
unfolding g.some_args p.some_args
some_args_exact l = seq name_exact (λ x. more_args_exact l (x.name ∷ [])) (λ x. meets_never (is s.Comma) _)

some_args_begins : Begins g.some_args (on names)
unfolding g.some_args
some_args_begins = begins_seq _ begins_name

-- what goes on with a list of arguments
abbrev listing : Symbol → Bool
listing a = cond (same s.Comma a) true (names a)

listed_args_exact : (l : Freed) → Exact l g.listed_args (on listing) p.listed_args p.listed_args
unfolding g.listed_args p.listed_args
listed_args_exact l = optional [] (narrow (some_args_exact l) (less (same s.Comma) listing refl refl)) some_args_begins (less names listing refl refl)

bracketed_args_exact : (l : Freed) → Exact l g.bracketed_args never p.bracketed_args p.bracketed_args
unfolding g.bracketed_args p.bracketed_args
bracketed_args_exact l = mark_then s.Open _ _ _ (λ _. seq (listed_args_exact l) (λ found. mark_then s.Close _ _ _ (λ _. pure_exact found))
    (λ found. meets (same s.Close) listing never _ (begins_seq _ (begins_mark s.Close)) refl refl))

bracketed_args_begins : Begins g.bracketed_args (is s.Open)
unfolding g.bracketed_args
bracketed_args_begins = begins_seq _ (begins_mark s.Open)

args_exact : (l : Freed) → Exact l g.args (is s.Open) p.args p.args
unfolding g.args p.args
args_exact l = optional [] (anywhere (bracketed_args_exact l)) bracketed_args_begins (λ rest h. h)

implicit_exact : (l : Freed) → Exact l g.implicit (is s.Implicit) p.implicit p.implicit
unfolding g.implicit p.implicit
implicit_exact l = optional tt (anywhere (mark_then s.Implicit _ _ _ (λ _. mark_then s.NoneWord _ _ _ (λ _. mark_then s.LineEnd _ _ _ (λ _. pure_exact tt)))))
    (begins_seq _ (begins_mark s.Implicit)) (λ rest h. h)

closing_exact : (l : Freed) (bytes : List ℕ) → Exact l (g.closing bytes) never (p.closing bytes) (p.closing bytes)
unfolding g.closing p.closing
closing_exact l bytes = either (seq (same_word_exact bytes) (λ _. mark_exact s.LineEnd) (λ _. meets_never never _)) (mark_exact s.LineEnd) (begins_seq _ (begins_same_word bytes))
    (meets (same s.LineEnd) words never _ (begins_mark s.LineEnd) refl refl)

end_word_exact : (l : Freed) (bytes : List ℕ) → Exact l (g.end_word bytes) never (p.end_word bytes) (p.end_word bytes)
unfolding g.end_word g.after_end p.end_word
end_word_exact l bytes = mark_then s.End _ _ _ (λ _. either (mark_then s.Subroutine _ _ _ (λ _. closing_exact l bytes)) (mark_exact s.LineEnd) (begins_seq _ (begins_mark s.Subroutine))
    (meets (same s.LineEnd) (same s.Subroutine) never _ (begins_mark s.LineEnd) refl refl))

end_word_begins : (bytes : List ℕ) → Begins (g.end_word bytes) (is s.End)
unfolding g.end_word
end_word_begins bytes = begins_seq _ (begins_mark s.End)

pub end_unit_exact : (l : Freed) (bytes : List ℕ) → Exact l (g.end_unit bytes) never (p.end_unit bytes) (p.end_unit bytes)
unfolding g.end_unit p.end_unit
end_unit_exact l bytes = either (mark_then s.EndSubroutine _ _ _ (λ _. closing_exact l bytes)) (end_word_exact l bytes) (begins_seq _ (begins_mark s.EndSubroutine))
    (meets (same s.End) (same s.EndSubroutine) never _ (end_word_begins bytes) refl refl)

abbrev pub ends : Symbol → Bool
ends = among (s.End ∷ s.EndSubroutine ∷ [])

pub end_unit_begins : (bytes : List ℕ) → Begins (g.end_unit bytes) (on ends)
unfolding g.end_unit
end_unit_begins bytes = begins_or _ _ (on ends) (begins_in (same s.EndSubroutine) ends _ (begins_seq _ (begins_mark s.EndSubroutine)) refl refl) (begins_in (same s.End) ends _ (end_word_begins bytes) refl refl)

-- what begins the statements of a unit or its end
abbrev bodies : Symbol → Bool
bodies a = cond (ends a) true (begins_stmt a)

-- what begins the part of a unit after its head
abbrev parts : Symbol → Bool
parts a = cond (bodies a) true (same s.Integer a)

pub unit_head_exact : (l : Freed) → Exact l g.unit_head (is s.Implicit) p.unit_head p.unit_head
unfolding g.unit_head p.unit_head
unit_head_exact l =
    mark_then s.Subroutine _ _ _ (λ line. seq word_exact (λ x. seq (args_exact l) (λ found. mark_then s.LineEnd _ _ _ (λ _. mapped (implicit_exact l) (λ _. head_of line x found)))
    (λ found. meets (same s.LineEnd) (same s.Open) (is s.Implicit) _ (begins_seq _ (begins_mark s.LineEnd)) refl refl)) (λ x. meets_never (is s.Implicit) _))

body_exact : (l : Freed) (limits wide : Limits) → Widens l limits wide → Exact l (g.body limits) (on begins_stmt) (p.body limits) (p.body wide)
unfolding g.body p.body
body_exact l limits wide W = stmts_exact l limits wide W limits.blocks wide.blocks W.blocks false (block_from 0 0)

body_open : (l : Freed) (limits wide : Limits) → Widens l limits wide → Opens (g.body limits) (on begins_stmt)
unfolding g.body
body_open l limits wide W = stmts_open l limits wide W limits.blocks wide.blocks W.blocks false (block_from 0 0)

-- A unit is read exactly.
pub unit_exact : (l : Freed) (limits wide : Limits) → Widens l limits wide → Exact l (g.unit limits) never (p.unit limits) (p.unit wide)
unfolding g.unit p.unit
unit_exact l limits wide W =
    seq (unit_head_exact l)
    (λ h. seq (decls_exact l limits wide W)
    (λ ds. seq (body_exact l limits wide W)
    (λ body. seq (end_unit_exact l h.name) (λ _. pure_exact (program h ds body)) (λ _. meets_never never _))
    (λ body. meets ends begins_stmt never _ (begins_seq _ (end_unit_begins h.name)) refl refl))
    (λ ds. meets bodies (same s.Integer) never _ (body_begins h ds) refl refl))
    (λ h. meets parts (same s.Implicit) never _ (parts_begin h) refl refl)
  where
    body_begins : (h : UnitHead) (ds : List Decl) → Begins (g.body limits ⨟ (λ body. g.end_unit h.name ⨟ (λ _. gives (program h ds body)))) (on bodies)
    body_begins h ds = begins_opens (g.body limits) _ (on bodies) (opens_in begins_stmt bodies _ (body_open l limits wide W) (wider begins_stmt bodies refl refl))
        (λ body. begins_in ends bodies _ (begins_seq _ (end_unit_begins h.name)) refl refl)

    parts_begin : (h : UnitHead) → Begins (g.decls limits ⨟ (λ ds. g.body limits ⨟ (λ body. g.end_unit h.name ⨟ (λ _. gives (program h ds body))))) (on parts)
    parts_begin h = begins_opens (g.decls limits) _ (on parts) (opens_in (same s.Integer) parts _ (decls_open l limits wide W) (wider (same s.Integer) parts refl refl))
        (λ ds. begins_in bodies parts _ (begins_opens (g.body limits) _ (on bodies) (opens_in begins_stmt bodies _ (body_open l limits wide W) (wider begins_stmt bodies refl refl))
        (λ body. begins_in ends bodies _ (begins_seq _ (end_unit_begins h.name)) refl refl)) refl refl)
