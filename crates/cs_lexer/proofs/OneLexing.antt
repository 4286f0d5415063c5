-- A text has either one list of tokens or none: for the crates above, which refuse a text or continue with its tokens.
use Rattle.std.proofs.Common.{◌≡◌, ℕ, List, length, refl, sym, ap, ◌∙◌, arith}
use Rattle.cs_ast.specs.declared.place.Place.{Place}
use Rattle.cs_lexer.specs.declared.cut.End.TheVariants as ends
use Rattle.cs_lexer.specs.declared.lexeme.Fault.{Fault}
use Rattle.cs_lexer.specs.declared.lexeme.Fault.TheVariants as faults
use Rattle.cs_lexer.specs.declared.refusal.LexRefusal.{LexRefusal}
use Rattle.cs_lexer.specs.declared.refusal.LexRefusal.TheVariants.{BadByte, Unclosed, WideNumber, BadLine, TooManyTokens, Memory}
use Rattle.cs_lexer.specs.declared.lexer.Lexed.{Lexed}
use Rattle.cs_lexer.specs.Lexing.{tokens_of, Lexes, IsFirstFault, HasTooMany, IsRefused}
use Rattle.cs_lexer.proofs.OneCutting.{one_cutting}

-- the same tokens, files and end
pub record AreSameTokens (one other : Lexed) : Type 0 where
  pub list : one.list.items ≡ other.list.items
  pub files : one.files.items ≡ other.files.items
  pub end : one.end ≡ other.end

pub lexed_once : (text : List ℕ) (one other : Lexed) → Lexes text one → Lexes text other → AreSameTokens one other
lexed_once text one other h i =
    let same = one_cutting text one.files.items other.files.items h.pieces i.pieces one.end other.end ends.Whole ends.Whole h.whole i.whole in
    record { list = h.tokens_are ∙ ap tokens_of same.same_list ∙ sym i.tokens_are; files = same.same_files; end = same.same_place }

no_fault : (text : List ℕ) (lexed : Lexed) (fault : Fault) (place : Place) (file : List ℕ) → Lexes text lexed → IsFirstFault text fault place file
    → ⊥
no_fault text lexed fault place file h i =
    let same = one_cutting text lexed.files.items i.files h.pieces i.pieces lexed.end place ends.Whole (ends.Refused fault) h.whole i.refused in
    let e = same.same_end in
    cc

not_many : (text : List ℕ) (lexed : Lexed) → Lexes text lexed → HasTooMany text → ⊥
not_many text lexed h i =
    let same = one_cutting text lexed.files.items i.files h.pieces i.pieces lexed.end i.place ends.Whole i.end h.whole i.cut in
    omega (arith, i.many, h.few, ap length h.tokens_are, ap (λ pieces. length (tokens_of pieces)) same.same_list)

-- a text that has tokens isn't refused
pub lexed_or_refused : (text : List ℕ) (lexed : Lexed) (refusal : LexRefusal) → Lexes text lexed → IsRefused text refusal → refusal ≡ Memory
lexed_or_refused text lexed (BadByte place file) h i = absurd (no_fault text lexed faults.BadByte place file h i)
lexed_or_refused text lexed (Unclosed place file) h i = absurd (no_fault text lexed faults.Unclosed place file h i)
lexed_or_refused text lexed (WideNumber place file) h i = absurd (no_fault text lexed faults.WideNumber place file h i)
lexed_or_refused text lexed (BadLine place file) h i = absurd (no_fault text lexed faults.BadLine place file h i)
lexed_or_refused text lexed TooManyTokens h i = absurd (not_many text lexed h i)
lexed_or_refused text lexed Memory h i = refl
