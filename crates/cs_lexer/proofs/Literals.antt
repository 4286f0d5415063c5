-- The part of a string literal's body that has been read: for `text_of`.
use Rattle.std.proofs.Common.{◌≡◌, ℕ, ◌<◌, ◌≤◌, List, [], ◌∷◌, ◌++◌, length, drop, length-drop, sym, subst, arith}
use Rattle.cs_lexer.specs.declared.escape.Item.TheVariants.{Byte}
use Rattle.cs_lexer.specs.Escapes.{item_at}
use Rattle.cs_lexer.specs.Quoted.{Reads, begins, item}

-- the body is read up to the rest, which is a part of it
pub record Progress (body values rest : List ℕ) : Type 0 where
  pub reads : Reads body values rest
  pub within : length rest ≤ length body

pub nothing_read : (body values : List ℕ) → values ≡ [] → Progress body values body
nothing_read body values none = record {
  reads = subst (λ vs. Reads body vs body) (sym none) begins;
  within = omega arith;
}

pub one_more : (body values rest more left : List ℕ) (byte size : ℕ) → Progress body values rest → 0 < length rest → item_at rest ≡ Byte byte size
    → more ≡ values ++ byte ∷ [] → left ≡ drop size rest → Progress body more left
one_more body values rest more left byte size so_far some is pushed cut = record {
  reads = subst (λ vs. Reads body vs left) (sym pushed) (subst (λ xs. Reads body (values ++ byte ∷ []) xs) (sym cut) (item so_far.reads some is));
  within = let fits = so_far.within in rw cut (omega (arith, length-drop size rest));
}
