-- The numbers of tokens of a list that is partly read: for the loop that collects them.
use Rattle.std.proofs.Common.{◌≡◌, ℕ, ◌+◌, ◌<◌, ℤ, List, length, drop, get_or, sym, ap, ◌∙◌}
use Rattle.std.proofs.lemmas.List.{at_drop_more}
use Rattle.std.specs.Ordering.{int_eq}
use Rattle.indexmap.specs.IndexSet.{insert_all}
use Rattle.cs_ast.specs.declared.token.Token.{Token}
use Rattle.cs_typing.specs.Programs.{numbers_in, number_before}

-- the number of the next token, if it has one, comes first
pub at_token : (keys whole : List ℤ) (tokens : List Token) (i : ℕ) (t : Token) → i < length tokens → t ≡ get_or tokens i t
    → insert_all int_eq keys (numbers_in (drop i tokens)) ≡ whole
    → insert_all int_eq keys (number_before t.kind (numbers_in (drop (i + 1) tokens))) ≡ whole
at_token keys whole tokens i t within is so_far =
    ap (λ (u : Token). insert_all int_eq keys (number_before u.kind (numbers_in (drop (i + 1) tokens)))) is
    ∙ sym (at_drop_more (λ ts. insert_all int_eq keys (numbers_in ts)) tokens i t within) ∙ so_far
