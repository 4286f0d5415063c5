-- Bytes begin with only one piece: for the uniqueness of cuttings.
use Rattle.std.proofs.Common.{◌≡◌, inl, inr, ◌++◌, ℕ, ◌+◌, ◌<◌, Bool, List, [], ◌∷◌, length, take, drop, Option, Some, None, refl}
use Rattle.std.proofs.Common.{sym, ap, ◌∙◌, arith}
use Rattle.std.proofs.lemmas.Bool.{cases_lt}
use Rattle.cs_ast.specs.declared.token.TokenKind.{TokenKind}
use Rattle.cs_ast.specs.declared.token.TokenKind.TheVariants as kinds
use Rattle.cs_lexer.specs.declared.lexeme.Fault.{Fault}
use Rattle.cs_lexer.specs.declared.lexeme.Lexeme.{Lexeme}
use Rattle.cs_lexer.specs.declared.lexeme.Lexeme.TheVariants.{Gap, Marker, Token, Refused}
use Rattle.cs_lexer.specs.declared.piece.Class.{Class}
use Rattle.cs_lexer.specs.declared.piece.Class.TheVariants as class
use Rattle.cs_lexer.specs.declared.escape.Item.TheVariants as items
use Rattle.cs_lexer.specs.Classes.{is_name_byte}
use Rattle.cs_lexer.specs.Escapes.{item_at}
use Rattle.cs_lexer.specs.Comments.{IsFirstEnd, CommentGives}
use Rattle.std.specs.List.{take_while}
use Rattle.std.specs.Prelude.{false}
use Rattle.cs_lexer.specs.Quoted.{closing, Reads, begins, item, BadItem, IsTextToken, TextBodyGives, TextIn}
use Rattle.cs_lexer.specs.Pieces.{class_of, BeginsAs, Begins}
use Rattle.cs_lexer.proofs.OneWord.{word_once, punctuator_once}
use Rattle.cs_lexer.proofs.Onward.{Onward, stays, IsDetermined, IsStuck, one_further, one_end}

same_end : (bytes : List ℕ) (m n : ℕ) → IsFirstEnd bytes m → IsFirstEnd bytes n → m ≡ n
same_end bytes m n h i = elim (cases_lt m n) [
  | inl below ↦ absurd (i.first m below h.here)
  | inr above ↦ elim (cases_lt n m) [ inl below ↦ absurd (h.first n below i.here) | inr other ↦ omega arith ]
]

comment_once : (inside : List ℕ) (f g : Lexeme) → CommentGives inside f → CommentGives inside g → f ≡ g
comment_once inside (Gap m) (Gap n) h i = ap Gap (h.1 ∙ ap (λ count. count + 4) (same_end inside h.0 i.0 h.2 i.2) ∙ sym i.1)
comment_once inside (Gap m) (Refused fault n) h i = absurd (i.2 h.0 h.2.here)
comment_once inside (Refused fault m) (Gap n) h i = absurd (h.2 i.0 i.2.here)
comment_once inside (Refused fault m) (Refused other n) h i = ap (λ f. Refused f m) (h.0 ∙ sym i.0) ∙ ap (λ s. Refused other s) (h.1 ∙ sym i.1)
comment_once inside (Gap m) (Marker n next name) h i = absurd i
comment_once inside (Gap m) (Token n kind) h i = absurd i
comment_once inside (Refused fault m) (Marker n next name) h i = absurd i
comment_once inside (Refused fault m) (Token n kind) h i = absurd i
comment_once inside (Marker m next name) g h i = absurd h
comment_once inside (Token m kind) g h i = absurd h

-- the bytes that the body of a literal represents so far, and the rest of the body
abbrev Reading : Type 0
Reading = List ℕ × List ℕ

-- one more item is read
record ReadsItem (before after : Reading) : Type 0 where
  byte : ℕ
  size : ℕ
  some : 0 < length before.1
  is : item_at before.1 ≡ items.Byte byte size
  values : after.0 ≡ before.0 ++ byte ∷ []
  rest : after.1 ≡ drop size before.1

item_once : IsDetermined ReadsItem
item_once s t u h i =
    let same : items.Byte h.byte h.size ≡ items.Byte i.byte i.size = sym h.is ∙ i.is in
    let byte : h.byte ≡ i.byte = cc in
    let size : h.size ≡ i.size = cc in
    let values : t.0 ≡ u.0 = h.values ∙ ap (λ b. s.0 ++ b ∷ []) byte ∙ sym i.values in
    let rest : t.1 ≡ u.1 = h.rest ∙ ap (λ n. drop n s.1) size ∙ sym i.rest in
    ap (λ v. (v, t.1)) values ∙ ap (λ r. (u.0, r)) rest

reads_onward : (body values rest : List ℕ) → Reads body values rest → Onward ReadsItem ([], body) (values, rest)
reads_onward body _ _ begins = stays refl
reads_onward body _ _ (item {values} {rest} {byte} {size} reads some is) =
    one_further ReadsItem ([], body) (values, rest) (values ++ byte ∷ [], drop size rest) (reads_onward body values rest reads)
    (record { byte = byte; size = size; some = some; is = is; values = refl; rest = refl })

read_through : (values : List ℕ) → IsStuck ReadsItem (values, [])
read_through values t step = absurd (omega (arith, step.some))

read_to_fault : (values rest : List ℕ) (fault : Fault) → item_at rest ≡ items.Refused fault → IsStuck ReadsItem (values, rest)
read_to_fault values rest fault is t step = let e : items.Refused fault ≡ items.Byte step.byte step.size = sym is ∙ step.is in absurd cc

text_token_once : (body : List ℕ) (m n : ℕ) (a b : TokenKind) → IsTextToken body m a → IsTextToken body n b → Token m a ≡ Token n b
text_token_once body m n (kinds.Text v) (kinds.Text w) h i =
    let same = one_end ReadsItem item_once ([], body) (v, []) (w, []) (reads_onward body v [] h.1) (read_through v) (reads_onward body w [] i.1)
    (read_through w) in
    ap (λ x. Token m (kinds.Text x)) (ap (λ x. x.0) same) ∙ ap (λ x. Token x (kinds.Text w)) (h.0 ∙ sym i.0)
text_token_once body m n (kinds.Text v) _ h i = absurd i
text_token_once body m n _ b h i = absurd h

text_or_fault : (body : List ℕ) (m : ℕ) (a : TokenKind) (fault : Fault) (n : ℕ) → IsTextToken body m a → BadItem body fault n → ⊥
text_or_fault body m (kinds.Text v) fault n h i =
    let same = one_end ReadsItem item_once ([], body) (v, []) (i.values, i.rest) (reads_onward body v [] h.1) (read_through v)
    (reads_onward body i.values i.rest i.reads) (read_to_fault i.values i.rest fault i.refused) in
    absurd (omega (arith, i.some, ap (λ x. length x.1) same))
text_or_fault body m _ fault n h i = h

fault_once : (body : List ℕ) (f g : Fault) (m n : ℕ) → BadItem body f m → BadItem body g n → Refused f m ≡ Refused g n
fault_once body f g m n h i =
    let same = one_end ReadsItem item_once ([], body) (h.values, h.rest) (i.values, i.rest) (reads_onward body h.values h.rest h.reads)
    (read_to_fault h.values h.rest f h.refused) (reads_onward body i.values i.rest i.reads) (read_to_fault i.values i.rest g i.refused) in
    let rest : h.rest ≡ i.rest = ap (λ x. x.1) same in
    let fault : items.Refused f ≡ items.Refused g = sym h.refused ∙ ap item_at rest ∙ i.refused in
    let size : m ≡ n = omega (arith, h.place, i.place, ap length rest) in
    let one : f ≡ g = cc in
    ap (λ x. Refused x m) one ∙ ap (λ x. Refused g x) size

body_once : (body : List ℕ) (f g : Lexeme) → TextBodyGives body f → TextBodyGives body g → f ≡ g
body_once body (Token m a) (Token n b) h i = text_token_once body m n a b h i
body_once body (Token m a) (Refused fault n) h i = absurd (text_or_fault body m a fault n h i)
body_once body (Refused fault m) (Token n b) h i = absurd (text_or_fault body n b fault m i h)
body_once body (Refused f m) (Refused g n) h i = fault_once body f g m n h i
body_once body (Token m a) (Gap n) h i = absurd i
body_once body (Token m a) (Marker n next name) h i = absurd i
body_once body (Refused f m) (Gap n) h i = absurd i
body_once body (Refused f m) (Marker n next name) h i = absurd i
body_once body (Gap m) g h i = absurd h
body_once body (Marker m next name) g h i = absurd h

text_once : (bytes : List ℕ) (closing : Option ℕ) (f g : Lexeme) → TextIn bytes closing f → TextIn bytes closing g → f ≡ g
text_once bytes None f g h i = h ∙ sym i
text_once bytes (Some count) f g h i = body_once (take count bytes) f g h i

class_once : (c : Class) (bytes : List ℕ) (f g : Lexeme) → BeginsAs c bytes f → BeginsAs c bytes g → f ≡ g
class_once class.Directive bytes f g h i = h ∙ sym i
class_once class.Space bytes f g h i = h ∙ sym i
class_once class.BlockComment bytes f g h i = comment_once (drop 2 bytes) f g h i
class_once class.LineComment bytes f g h i = h ∙ sym i
class_once class.Word bytes f g h i = word_once (take_while is_name_byte bytes) f g h i
class_once class.Number bytes f g h i = h ∙ sym i
class_once class.Character bytes f g h i = h ∙ sym i
class_once class.Text bytes f g h i = text_once (drop 1 bytes) (closing 34 false (drop 1 bytes)) f g h i
class_once class.Punctuator bytes f g h i = punctuator_once bytes f g h i

-- bytes begin with one piece, or with one fault
pub begins_once : (is_line_start : Bool) (bytes : List ℕ) (f g : Lexeme) → Begins is_line_start bytes f → Begins is_line_start bytes g → f ≡ g
begins_once is_line_start bytes f g h i = class_once (class_of is_line_start bytes) bytes f g h i
