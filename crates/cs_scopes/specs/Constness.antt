-- Where a declaration has `const`: among its words, or after its stars (C11 6.7.3).
use Rattle.std.specs.Prelude.{◌≡◌, Bool, true, false, List, [], ◌∷◌, ◌++◌, Option, Some, None}
use Rattle.std.specs.List.{list_any}
use Rattle.cs_ast.specs.declared.raw.expression.RawExpr.{RawExpr}
use Rattle.cs_ast.specs.declared.raw.declaration.RawSpecs.{RawSpecs}
use Rattle.cs_ast.specs.declared.raw.declaration.SpecWord as words
use Rattle.cs_ast.specs.declared.raw.declaration.SpecWord.{SpecWord}
use Rattle.cs_ast.specs.declared.raw.written_type.PointerWord.{PointerWord}
use Rattle.cs_ast.specs.declared.raw.written_type.PointerWord.TheVariants.{Star, Const}
use Rattle.cs_ast.specs.declared.raw.written_type.TypeWord.TheVariants as word
use Rattle.cs_scopes.specs.declared.constness.Stars.{Stars}

-- `const` is among the words
abbrev pub is_const_word : SpecWord → Bool
is_const_word (words.TheVariants.Plain word.Const) = true
is_const_word other = false

abbrev pub has_const : RawSpecs → Bool
has_const s = list_any is_const_word s.words.items

-- these words begin with `const`
abbrev pub begins_const : List PointerWord → Bool
begins_const (Const ∷ others) = true
begins_const others = false

-- for each star, the last one first, whether `const` follows it
abbrev pub consts_after : List PointerWord → List Bool
consts_after [] = []
consts_after (Star ∷ others) = consts_after others ++ begins_const others ∷ []
consts_after (Const ∷ others) = consts_after others

-- the first and the second of them, if they exist
abbrev pub first_of : List Bool → Option Bool
first_of [] = None
first_of (first ∷ others) = Some first

abbrev pub second_of : List Bool → Option Bool
second_of [] = None
second_of (first ∷ others) = first_of others

-- a parameter with a bracket points to something const: by the `const` after its last star, or, without a star, among its words
abbrev pub elements_const : RawSpecs → List Bool → Bool
elements_const s [] = has_const s
elements_const s (last ∷ others) = last

-- a parameter without a bracket points to something const: by the `const` after its last star but one, or, with one star, among its words
abbrev pub target_const : RawSpecs → List Bool → Bool
target_const s [] = false
target_const s (last ∷ []) = has_const s
target_const s (last ∷ before ∷ others) = before

abbrev pub points_to_const : RawSpecs → List PointerWord → List (Option RawExpr) → Bool
points_to_const s pointers [] = target_const s (consts_after pointers)
points_to_const s pointers (bound ∷ bounds) = elements_const s (consts_after pointers)

-- a file-scope object is const: by the `const` after its last star, or, without a star, among its words
abbrev pub is_constant_by : RawSpecs → List Bool → Bool
is_constant_by s [] = has_const s
is_constant_by s (last ∷ others) = last

abbrev pub is_constant_object : RawSpecs → List PointerWord → Bool
is_constant_object s pointers = is_constant_by s (consts_after pointers)

-- the last star of these words, and the one before it
pub record AreLastStars (pointers : List PointerWord) (stars : Stars) : Type 0 where
  pub last : stars.last ≡ first_of (consts_after pointers)
  pub before : stars.before ≡ second_of (consts_after pointers)
