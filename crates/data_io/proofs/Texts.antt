-- Names that are text.
use Rattle.std.proofs.Common.{◌≡◌, ℕ, Bool, true, false, List, [], cond, Option, None, refl, sym, ap, ◌∙◌, subst, IsUtf8}
use Rattle.std.specs.Str.{is_utf8}
use Rattle.std.proofs.lemmas.Str.{IsUtf8-from_is_utf8, is_utf8-from_IsUtf8}
use Rattle.serde_json.specs.Data.{Data}
use Rattle.serde_json.specs.Find.{get}
use Rattle.data_io.specs.DataFaults.{found}

no_text : (bs : List ℕ) (b : Bool) → is_utf8 bs ≡ b → (IsUtf8 bs → ⊥) → b ≡ false
no_text bs true e h = absurd (h (IsUtf8-from_is_utf8 bs e))
no_text bs false e h = refl

pub found_text : (name bytes key : List ℕ) (d : Data) → bytes ≡ name → key ≡ bytes → IsUtf8 bytes → get key d ≡ found name d
found_text name bytes key d b k h =
    let t : is_utf8 name ≡ true = ap is_utf8 (sym b) ∙ is_utf8-from_IsUtf8 bytes h in
    ap (λ n. get n d) (k ∙ b) ∙ sym (ap (λ c. cond c (get name d) None) t)

pub found_none : (name bytes : List ℕ) (d : Data) → bytes ≡ name → (IsUtf8 bytes → ⊥) → None ≡ found name d
found_none name bytes d b h =
    let f : is_utf8 name ≡ false = ap is_utf8 (sym b) ∙ no_text bytes (is_utf8 bytes) refl h in
    sym (ap (λ c. cond c (get name d) None) f)

pub text_is : (name bytes key : List ℕ) → bytes ≡ name → key ≡ bytes → IsUtf8 bytes → key ≡ cond (is_utf8 name) name []
text_is name bytes key b k h =
    let t : is_utf8 name ≡ true = ap is_utf8 (sym b) ∙ is_utf8-from_IsUtf8 bytes h in
    k ∙ b ∙ sym (ap (λ c. cond c name []) t)

pub text_none : (name bytes : List ℕ) → bytes ≡ name → (IsUtf8 bytes → ⊥) → [] ≡ cond (is_utf8 name) name []
text_none name bytes b h =
    let f : is_utf8 name ≡ false = ap is_utf8 (sym b) ∙ no_text bytes (is_utf8 bytes) refl h in
    sym (ap (λ c. cond c name []) f)
