-- Declarations are placed: their nodes have the positions of their tokens. The tokens of each definition begin with those of the
-- declaration.
use Rattle.std.specs.Prelude.{◌≡◌, ℕ, suc, ◌+◌, List, [], ◌∷◌, drop, length, map, Option, Some, None, slice_get}
use Rattle.std.specs.Option.{option_map, option_and_then}
use Rattle.cs_ast.specs.declared.place.Place.{Place}
use Rattle.cs_ast.specs.declared.token.Token.{Token}
use Rattle.cs_ast.specs.declared.raw.name.RawName.{RawName}
use Rattle.cs_ast.specs.declared.raw.expression.RawExpr.{RawExpr}
use Rattle.cs_ast.specs.declared.raw.written_type.TypeWord.TheVariants as word
use Rattle.cs_ast.specs.declared.raw.declaration.RawSpecs.{RawSpecs}
use Rattle.cs_ast.specs.declared.raw.declaration.SpecWord as words
use Rattle.cs_ast.specs.declared.raw.declaration.SpecWord.{SpecWord}
use Rattle.cs_ast.specs.declared.raw.declaration.RawDeclarator.{RawDeclarator}
use Rattle.cs_ast.specs.declared.raw.declaration.RawEnumerator.{RawEnumerator}
use Rattle.cs_ast.specs.declared.raw.declaration.RawInitial as first_value
use Rattle.cs_ast.specs.declared.raw.declaration.RawInitial.{RawInitial}
use Rattle.cs_ast.specs.declared.raw.declaration.RawFirstValue.{RawFirstValue}
use Rattle.cs_ast.specs.declared.raw.declaration.RawInit.{RawInit}
use Rattle.cs_ast.specs.declared.raw.declaration.RawParameter.{RawParameter}
use Rattle.cs_ast.specs.declared.raw.declaration.RawParameters.{RawParameters}
use Rattle.cs_ast.specs.declared.raw.declaration.RawParameters.TheVariants as parameter_lists
use Rattle.cs_ast.specs.RawView.{written}
use Rattle.cs_ast.specs.RawDeclarationView.{spec, specs_row, specs, declarator, constant, initial, declared, parameter}
use Rattle.cs_ast.specs.RawDeclarations.{Static, Plain, StructBody, EnumBody, Specs, NoSpec, MoreSpecs}
use Rattle.cs_grammar.specs.Text.{Kinds, pointers_text}
use Rattle.cs_grammar.specs.FileText.{name_text, brackets_text, declarator_text, constant_text, spec_text, specs_text, initial_text, declared_text}
use Rattle.cs_grammar.specs.FileText.{parameter_text}
use Rattle.cs_grammar.specs.FileText.{with_commas}
use Rattle.cs_grammar.specs.Places.{HasPlaces, StandsAt}

-- the tokens after a text
abbrev pub past : (Kinds → Kinds) → List Token → List Token
past spell tokens = drop (length (spell [])) tokens

-- each item of a list, with a token after it, is placed
abbrev pub AreInRow : {A : Type 0} → (A → List Token → Type 0) → (A → Kinds → Kinds) → List A → List Token → Type 0
AreInRow Has spell [] tokens = Unit {0}
AreInRow Has spell (a ∷ all) tokens = Has a tokens × AreInRow Has spell all (drop 1 (past (spell a) tokens))

-- each item of a list is placed
abbrev pub AreSideBySide : {A : Type 0} → (A → List Token → Type 0) → (A → Kinds → Kinds) → List A → List Token → Type 0
AreSideBySide Has spell [] tokens = Unit {0}
AreSideBySide Has spell (a ∷ all) tokens = Has a tokens × AreSideBySide Has spell all (past (spell a) tokens)

-- an expression, if there is one, is placed
abbrev pub IsSomePlaced : Option RawExpr → List Token → Type 0
IsSomePlaced (Some e) tokens = HasPlaces e tokens
IsSomePlaced None tokens = Unit {0}

-- bounds between brackets, which may be empty
abbrev pub AreBracketsPlaced : List (Option RawExpr) → List Token → Type 0
AreBracketsPlaced = AreSideBySide (λ bound tokens. IsSomePlaced bound (drop 1 tokens)) (λ bound. brackets_text (option_map written bound ∷ []))

-- a declarator has the position of its name
abbrev pub IsDeclaratorPlaced : RawDeclarator → List Token → Type 0
IsDeclaratorPlaced d tokens =
    StandsAt d.place (past (pointers_text d.pointers.items) tokens) × AreBracketsPlaced d.bounds.items (drop 1 (past (pointers_text d.pointers.items) tokens))

abbrev pub AreDeclaratorsPlaced : List RawDeclarator → List Token → Type 0
AreDeclaratorsPlaced = AreInRow IsDeclaratorPlaced (λ d. declarator_text (declarator d))

-- an enumeration constant has the position of its name
abbrev pub IsConstantPlaced : RawEnumerator → List Token → Type 0
IsConstantPlaced e tokens = StandsAt e.place tokens × IsSomePlaced e.value (drop 2 tokens)

-- the number of tokens before the tag that names a type
abbrev pub before_tag : Specs → Option ℕ
before_tag NoSpec = None
before_tag (MoreSpecs (Plain (word.Struct tag)) others) = Some 1
before_tag (MoreSpecs (Plain (word.Enum tag)) others) = Some 1
before_tag (MoreSpecs (StructBody (Some tag) members) others) = Some 1
before_tag (MoreSpecs (EnumBody (Some tag) constants comma) others) = Some 1
before_tag (MoreSpecs (StructBody None members) others) = None
before_tag (MoreSpecs (EnumBody None constants comma) others) = None
before_tag (MoreSpecs Static others) = option_map suc (before_tag others)
before_tag (MoreSpecs (Plain other) others) = option_map suc (before_tag others)

-- the position of the tag, if there is one
abbrev pub tag_place : Specs → List Token → Option Place
tag_place s tokens = option_map (λ (token : Token). token.place) (option_and_then (λ number. slice_get tokens number) (before_tag s))

-- the tokens after the opening brace of a body
abbrev pub in_body : Option (List ℕ) → List Token → List Token
in_body tag tokens = drop (length (name_text tag []) + 2) tokens

abbrev mutual
  -- a word before the declarators, or a type with its body
  pub IsSpecPlaced : SpecWord → List Token → Type 0
  IsSpecPlaced words.TheVariants.Static tokens = Unit {0}
  IsSpecPlaced (words.TheVariants.Plain w) tokens = Unit {0}
  IsSpecPlaced (words.TheVariants.Struct' tag shape row) tokens = AreMembersPlaced row (in_body tag tokens)
  IsSpecPlaced (words.TheVariants.Enum tag constants comma) tokens =
      AreInRow IsConstantPlaced (λ e. constant_text (constant e)) constants.items (in_body tag tokens)

  pub AreSpecsPlaced : {n : _} → words.Row_of-SpecWord n → List Token → Type 0
  AreSpecsPlaced words.end_of-SpecWord tokens = Unit {0}
  AreSpecsPlaced (words.more_of-SpecWord first others) tokens = IsSpecPlaced first tokens × AreSpecsPlaced others (past (spec_text (spec first)) tokens)

  -- the members of a body, each group with its semicolon
  pub AreMembersPlaced : {n : _} → words.Row_of-RawMember n → List Token → Type 0
  AreMembersPlaced words.end_of-RawMember tokens = Unit {0}
  AreMembersPlaced (words.more_of-RawMember shape row tag declarators others) tokens =
      (tag ≡ tag_place (specs_row row) tokens) × AreSpecsPlaced row tokens
      × AreDeclaratorsPlaced declarators.items (past (specs_text (specs_row row)) tokens)
      × AreMembersPlaced others (drop 1 (past (with_commas declarator_text (map declarator declarators.items)) (past (specs_text (specs_row row)) tokens)))

-- declaration specifiers: the position of the tag, and those in the body
pub record HasSpecPlaces (s : RawSpecs) (tokens : List Token) : Type 0 where
  pub tag : s.tag ≡ tag_place (specs s) tokens
  pub inside : AreSideBySide IsSpecPlaced (λ w. spec_text (spec w)) s.words.items tokens

abbrev mutual
  -- an initializer
  pub IsInitialPlaced : RawInitial → List Token → Type 0
  IsInitialPlaced (first_value.TheVariants.Value e) tokens = HasPlaces e tokens
  IsInitialPlaced (first_value.TheVariants.List' shape row comma) tokens = AreInitialsPlaced row (drop 1 tokens)

  pub AreInitialsPlaced : {n : _} → first_value.Row_of-RawInitial n → List Token → Type 0
  AreInitialsPlaced first_value.end_of-RawInitial tokens = Unit {0}
  AreInitialsPlaced (first_value.more_of-RawInitial first others) tokens =
      IsInitialPlaced first tokens × AreInitialsPlaced others (drop 1 (past (initial_text (initial first)) tokens))

-- an initializer after a declarator has the position of its `=`
abbrev pub IsFirstValuePlaced : Option RawFirstValue → List Token → Type 0
IsFirstValuePlaced None tokens = Unit {0}
IsFirstValuePlaced (Some value) tokens = StandsAt value.place tokens × IsInitialPlaced value.initial (drop 1 tokens)

abbrev pub IsDeclaredPlaced : RawInit → List Token → Type 0
IsDeclaredPlaced d tokens =
    IsDeclaratorPlaced d.declarator tokens × IsFirstValuePlaced d.initial (past (declarator_text (declarator d.declarator)) tokens)

abbrev pub AreObjectsPlaced : List RawInit → List Token → Type 0
AreObjectsPlaced = AreInRow IsDeclaredPlaced (λ d. declared_text (declared d))

-- a declaration of objects
pub record IsDeclarationPlaced (s : RawSpecs) (objects : List RawInit) (tokens : List Token) : Type 0 where
  pub specs_are : HasSpecPlaces s tokens
  pub objects_are : AreObjectsPlaced objects (past (specs_text (specs s)) tokens)

-- the name of a parameter, if it has one
abbrev pub IsNamePlaced : Option RawName → List Token → Type 0
IsNamePlaced None tokens = Unit {0}
IsNamePlaced (Some name) tokens = StandsAt name.place tokens

-- a parameter has the position of its first token
pub record IsParameterPlaced (p : RawParameter) (tokens : List Token) : Type 0 where
  pub at : StandsAt p.place tokens
  pub specs_are : HasSpecPlaces p.specs tokens
  pub name_is : IsNamePlaced p.name (past (λ rest. specs_text (specs p.specs) (pointers_text p.pointers.items rest)) tokens)
  pub bounds_are : AreBracketsPlaced p.bounds.items
      (past (λ rest. specs_text (specs p.specs) (pointers_text p.pointers.items (name_text (option_map (λ (n : RawName). n.name) p.name) rest))) tokens)

abbrev pub AreParametersPlaced : RawParameters → List Token → Type 0
AreParametersPlaced parameter_lists.Empty tokens = Unit {0}
AreParametersPlaced parameter_lists.Void tokens = Unit {0}
AreParametersPlaced (parameter_lists.List list) tokens = AreInRow IsParameterPlaced (λ p. parameter_text (parameter p)) list.items tokens
