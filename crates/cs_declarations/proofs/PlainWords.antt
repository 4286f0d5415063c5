-- Specifiers without a body, counted among all specifiers: for the integer type that they name.
use Rattle.std.proofs.Common.{◌≡◌, ℕ, ◌+◌, cond, List, [], ◌∷◌, refl, ap, ◌∙◌, count_by, arith}
use Rattle.std.specs.List.{fold}
use Rattle.cs_ast.specs.declared.raw.declaration.SpecWord as words
use Rattle.cs_ast.specs.declared.raw.declaration.SpecWord.{SpecWord}
use Rattle.cs_ast.specs.declared.raw.written_type.IntegerWord.{IntegerWord}
use Rattle.cs_ast.specs.declared.raw.written_type.TypeWord.{TypeWord}
use Rattle.cs_scopes.specs.TypeNames.{times, is_word}
use Rattle.cs_declarations.specs.Bodies.{plain_words, is_kind}

-- one more, if the specifier is of this kind
abbrev with_word : IntegerWord → ℕ → SpecWord → ℕ
with_word kind n w = n + cond (is_kind kind w) 1 0

abbrev with_plain : IntegerWord → ℕ → TypeWord → ℕ
with_plain kind n w = n + cond (is_word kind w) 1 0

none_more : (kind : IntegerWord) (n : ℕ) (ws : List SpecWord) → fold (with_word kind) (n + 0) ws ≡ fold (with_word kind) n ws
none_more kind n ws = ap (λ m. fold (with_word kind) m ws) (omega arith)

counted : (kind : IntegerWord) (n : ℕ) (ws : List SpecWord) → fold (with_word kind) n ws ≡ fold (with_plain kind) n (plain_words ws)
counted kind n [] = refl
counted kind n (words.TheVariants.Plain w ∷ ws) = counted kind (n + cond (is_word kind w) 1 0) ws
counted kind n (words.TheVariants.Static ∷ ws) = none_more kind n ws ∙ counted kind n ws
counted kind n (words.TheVariants.Struct' tag shape row ∷ ws) = none_more kind n ws ∙ counted kind n ws
counted kind n (words.TheVariants.Enum tag constants comma ∷ ws) = none_more kind n ws ∙ counted kind n ws

pub times_plain : (kind : IntegerWord) (ws : List SpecWord) → count_by (is_kind kind) ws ≡ times kind (plain_words ws)
times_plain kind ws = counted kind 0 ws
