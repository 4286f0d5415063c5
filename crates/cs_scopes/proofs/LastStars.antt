-- The last two stars of pointers after one more specifier: for whether a parameter points to something const.
use Rattle.std.proofs.Common.{◌≡◌, Bool, true, false, List, [], ◌∷◌, ◌++◌, Some, None, refl, sym, ap, ◌∙◌}
use Rattle.cs_ast.specs.declared.raw.written_type.PointerWord.{PointerWord}
use Rattle.cs_ast.specs.declared.raw.written_type.PointerWord.TheVariants.{Star, Const}
use Rattle.cs_scopes.specs.declared.constness.Stars.{Stars}
use Rattle.cs_scopes.specs.Constness.{begins_const, consts_after, first_of, second_of}
use Rattle.cs_scopes.specs.Constness.{AreLastStars}

begins_const-star : (ws : List PointerWord) → begins_const (ws ++ Star ∷ []) ≡ begins_const ws
begins_const-star [] = refl
begins_const-star (Star ∷ ws) = refl
begins_const-star (Const ∷ ws) = refl

following-star : (ws : List PointerWord) → consts_after (ws ++ Star ∷ []) ≡ false ∷ consts_after ws
following-star [] = refl
following-star (Const ∷ ws) = following-star ws
following-star (Star ∷ ws) = ap (λ xs. xs ++ begins_const (ws ++ Star ∷ []) ∷ []) (following-star ws)
    ∙ ap (λ b. (false ∷ consts_after ws) ++ b ∷ []) (begins_const-star ws)

-- with `const` after the last star
abbrev last_const : List Bool → List Bool
last_const [] = []
last_const (b ∷ bs) = true ∷ bs

last_const-more : (bs : List Bool) (b c : Bool) → last_const (bs ++ b ∷ []) ++ c ∷ [] ≡ last_const ((bs ++ b ∷ []) ++ c ∷ [])
last_const-more [] b c = refl
last_const-more (x ∷ bs) b c = refl

last_const-true : (bs : List Bool) → last_const bs ++ true ∷ [] ≡ last_const (bs ++ true ∷ [])
last_const-true [] = refl
last_const-true (x ∷ bs) = refl

following-const : (ws : List PointerWord) → consts_after (ws ++ Const ∷ []) ≡ last_const (consts_after ws)
following-const [] = refl
following-const (Const ∷ ws) = following-const ws
following-const (Star ∷ []) = refl
following-const (Star ∷ (Const ∷ ws)) = ap (λ bs. bs ++ true ∷ []) (following-const (Const ∷ ws)) ∙ last_const-true (consts_after (Const ∷ ws))
following-const (Star ∷ (Star ∷ ws)) = ap (λ bs. bs ++ false ∷ []) (following-const (Star ∷ ws))
    ∙ last_const-more (consts_after ws) (begins_const ws) false

second_of-more : (b : Bool) (bs : List Bool) → second_of (b ∷ bs) ≡ first_of bs
second_of-more b [] = refl
second_of-more b (x ∷ bs) = refl

pub star_after : (ws : List PointerWord) (s : Stars) → AreLastStars ws s → AreLastStars (ws ++ Star ∷ []) (record { last = Some false; before = s.last })
star_after ws s are = record {
  last = sym (ap first_of (following-star ws));
  before = are.last ∙ sym (second_of-more false (consts_after ws)) ∙ sym (ap second_of (following-star ws));
}

const_known : (bs : List Bool) (b : Bool) → Some b ≡ first_of bs
    → (Some true ≡ first_of (last_const bs)) × (second_of bs ≡ second_of (last_const bs))
const_known [] b e = cc
const_known (x ∷ bs) b e = (refl, refl)

const_unknown : (bs : List Bool) → None ≡ first_of bs → bs ≡ last_const bs
const_unknown [] e = refl
const_unknown (x ∷ bs) e = cc

pub const_after : (ws : List PointerWord) (s : Stars) (b : Bool) → s.last ≡ Some b → AreLastStars ws s
    → AreLastStars (ws ++ Const ∷ []) (record { last = Some true; before = s.before })
const_after ws s b is are =
    let known = const_known (consts_after ws) b (sym is ∙ are.last) in
    record {
      last = known.0 ∙ sym (ap first_of (following-const ws));
      before = are.before ∙ known.1 ∙ sym (ap second_of (following-const ws));
    }

pub const_first : (ws : List PointerWord) (s : Stars) → s.last ≡ None → AreLastStars ws s → AreLastStars (ws ++ Const ∷ []) s
const_first ws s is are =
    let same = const_unknown (consts_after ws) (sym is ∙ are.last) ∙ sym (following-const ws) in
    record { last = are.last ∙ ap first_of same; before = are.before ∙ ap second_of same }
