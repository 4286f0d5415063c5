-- What is known after the tags of a file's structs are declared: structs without members, and nothing else. For the contract of `typed`.
use Rattle.std.proofs.Common.{◌≡◌, ℕ, suc, ◌+◌, ◌≤◌, Bool, true, false, cond, List, [], ◌∷◌, length, refl, arith}
use Rattle.std.specs.Prelude.{Option, Some, None}
use Rattle.cs_types.specs.declared.data_model.DataModel.{DataModel}
use Rattle.cs_ast.specs.TypedProgram.{TypedProgram}
use Rattle.cs_ast.specs.declared.token.Token.{Token}
use Rattle.cs_ast.specs.declared.token.TokenKind.{TokenKind}
use Rattle.cs_ast.specs.declared.token.TokenKind.TheVariants as token
use Rattle.cs_declarations.specs.Environment.{Environment, table_of}
use Rattle.cs_declarations.specs.Bodies.{empty_struct, with_tagged_struct}
use Rattle.cs_declarations.proofs.SoundStructs.{with_tagged_struct-GoesOn}
use Rattle.cs_file_scope.specs.Objects.{Filed, with_known}
use Rattle.cs_file_scope.specs.declared.tags.TagWord.{TagWord}
use Rattle.cs_file_scope.specs.declared.tags.TagWord.TheVariants.{Struct, Enum}
use Rattle.cs_file_scope.specs.Tags.{Tagging, is_named, with_new_tag, tag_named, tag_word, token_read, tokens_read, tags_declared}
use Rattle.cs_well_formed.specs.Expressions.{Setting}
use Rattle.cs_well_formed.specs.Leading.{Leads}
use Rattle.cs_well_formed.specs.Nodes.{struct_nodes}
use Rattle.cs_well_formed.specs.Agreement.{KnownTypesAreNamed}
use Rattle.cs_well_formed.specs.Programs.{outside}
use Rattle.cs_well_formed.proofs.Leading.{leads-trans, leads-tagged}
use Rattle.cs_well_formed.proofs.NamedTypes.{NamedOn, named_on-self, named_on-trans, tagged_struct-named}
use Rattle.cs_well_formed.proofs.Structs.{keeps-self}
use Rattle.cs_well_formed.proofs.TextSizes.{all_nodes-append}
use Rattle.cs_statements.proofs.BoundedParts.{nodes_known}
use Rattle.cs_statements.proofs.DeclarationsAfter.{DeclaresOn, same-on, on-self, on-trans}
use Rattle.cs_statements.proofs.SoundStatements.{IsLaidUnder, following}
use Rattle.cs_typing.proofs.FilesSoFar.{with_parts, Kept, Adds, leads-following, known-adds}

-- a property with room for a number of structs: a new struct takes one from the room, and a token without a new struct may
module _ (P : ℕ → Environment → Type 0) (each : (left : ℕ) (name : List ℕ) (k : Environment) → P (suc left) k
    → P left (with_tagged_struct name k))
    (less : (left : ℕ) (k : Environment) → P (suc left) k → P left k) where
  new_tag-keeps : (left : ℕ) (word : TagWord) (name : List ℕ) (t : Tagging) → P (suc left) t.known → P left (with_new_tag word name t).known
  new_tag-keeps left Struct name t h = each left name t.known h
  new_tag-keeps left Enum name t h = less left t.known h

  tag-keeps : (left : ℕ) (word : TagWord) (name : List ℕ) (t : Tagging) → P (suc left) t.known → P left (tag_named word name t).known
  tag-keeps left word name t h = by_test (is_named name t)
    where
      by_test : (named : Bool) → P left (cond named t (with_new_tag word name t)).known
      by_test true = less left t.known h
      by_test false = new_tag-keeps left word name t h

  token-keeps : (left : ℕ) (before : Option TagWord) (kind : TokenKind) (t : Tagging) → P (suc left) t.known → P left (token_read before kind t).known
  token-keeps left (Some word) (token.Name name) t h = tag-keeps left word name t h
  token-keeps left (Some word) other t h = less left t.known h
  token-keeps left None kind t h = less left t.known h

  tokens-keep : (before : Option TagWord) (tokens : List Token) (t : Tagging) → P (length tokens) t.known → P 0 (tokens_read before tokens t).known
  tokens-keep before [] t h = h
  tokens-keep before (x ∷ tokens) t h =
      tokens-keep (tag_word x.kind) tokens (token_read before x.kind t) (token-keeps (length tokens) before x.kind t h)

  pub tags-keep : (tokens : List Token) (k : Environment) → P (length tokens) k → P 0 (tags_declared tokens k)
  tags-keep tokens k h = tokens-keep None tokens (record { known = k; enums = [] }) h

-- the structs keep their layouts
pub tags-sound : (model : DataModel) (tokens : List Token) (k : Environment) → IsLaidUnder model k → IsLaidUnder model (tags_declared tokens k)
tags-sound model tokens k h =
    tags-keep (λ _ m. IsLaidUnder model m)
    (λ left name m laid. following model m (with_tagged_struct name m) laid (with_tagged_struct-GoesOn m name laid.0)) (λ left m laid. laid) tokens k h

-- at most one struct is added for each token
one-more : (name : List ℕ) (k : Environment) → nodes_known (with_tagged_struct name k) ≤ nodes_known k + 1
one-more name k = let e = all_nodes-append struct_nodes (table_of k) (empty_struct name ∷ []) in omega (arith, e)

pub tags-few : (tokens : List Token) (k : Environment) → nodes_known (tags_declared tokens k) ≤ nodes_known k + length tokens
tags-few tokens k =
    let all = tags-keep (λ left m. nodes_known m + left ≤ nodes_known k + length tokens)
    (λ left name m few. let one = one-more name m in omega (arith, one, few)) (λ left m few. omega (arith, few)) tokens k (omega arith) in
    omega (arith, all)

module _ (p : TypedProgram) (f : Filed) where
  -- only the known structs grow
  abbrev Grown : Environment → Type 0
  Grown k = Leads (outside (with_parts p f)) f.known k × (DeclaresOn f.known k × NamedOn f.known k)

  grown-tag : (name : List ℕ) (k : Environment) → Grown k → Grown (with_tagged_struct name k)
  grown-tag name k h =
      let s = outside (with_parts p f) in
      let m = with_tagged_struct name k in (
        leads-trans s f.known k m h.0 (leads-tagged s name k),
        (on-trans f.known k m h.1.0 (same-on k m refl refl), named_on-trans f.known k m h.1.1 (tagged_struct-named name k h.1.1.known)),
      )

  -- what is declared so far remains
  pub tags-add : (tokens : List Token) → Kept p f → Adds p f (with_known (tags_declared tokens f.known) f)
  tags-add tokens kept =
      let k = tags_declared tokens f.known in
      let same : Grown f.known = (
        record { model = refl; literals = refl; table = keeps-self (table_of f.known); declarations = λ h. h },
        (on-self f.known, named_on-self f.known kept.types.known),
      ) in
      let grown = tags-keep (λ _ m. Grown m) (λ left name m h. grown-tag name m h) (λ left m h. h) tokens f.known same in
      known-adds p f k kept (leads-following p f k grown.0 grown.1.0 grown.1.1.known)
