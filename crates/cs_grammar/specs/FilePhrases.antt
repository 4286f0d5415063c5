-- Which written declarations, statements and files are in the grammar (C11 6.7, 6.8, 6.9), and which tokens begin a file.
use Rattle.std.specs.Prelude.{◌≡◌, ◌≢◌, ◌≤◌, ℕ, Bool, true, false, IsTrue, IsFalse, List, [], ◌∷◌, ◌++◌, Option, Some, None}
use Rattle.std.specs.Prelude.{IsSome, MatchOption, if◌then◌else◌}
use Rattle.std.specs.Option.{option_map}
use Rattle.cs_ast.specs.declared.raw.written_type.TypeWord.{TypeWord}
use Rattle.cs_ast.specs.declared.raw.written_type.TypeWord.TheVariants.{Void, Struct, Enum}
use Rattle.cs_ast.specs.RawTree.{Written}
use Rattle.cs_ast.specs.RawDeclarations.{Declarator, Constant, Spec, Static, Plain, StructBody, EnumBody, Specs, NoSpec, MoreSpecs, Members, NoMember}
use Rattle.cs_ast.specs.RawDeclarations.{MoreMembers, Initial, Single, Listed, Initials, NoItem as NoInitial, MoreItems as MoreInitials, Declared, Parameter}
use Rattle.cs_ast.specs.RawDeclarations.{Parameters, NoParameter, VoidAlone, ParameterList, Head}
use Rattle.cs_ast.specs.RawStatements.{First, NoFirst, FirstRuns, FirstDeclares, Sentence, Block, Nothing, Runs, If, IfElse, While, Do, For, Switch, Goto}
use Rattle.cs_ast.specs.RawStatements.{Continue, Break, Return, Label, Item, Declares, Does, Items, NoItem, MoreItems, SwitchItem, Case, Default, Inside}
use Rattle.cs_ast.specs.RawStatements.{SwitchItems, NoSwitchItem, MoreSwitchItems, External, TypeAlone, Typedef, Objects, Function, Definition}
use Rattle.cs_ast.specs.RawFileHeight.{external_height}
use Rattle.cs_grammar.specs.TypeWords.{Names, is_among, is_type, is_pointer}
use Rattle.cs_grammar.specs.Levels.{COMMA, ASSIGN, CHOICE}
use Rattle.cs_grammar.specs.Text.{Kinds}
use Rattle.cs_grammar.specs.Phrases.{IsPhrase}
use Rattle.cs_grammar.specs.FileText.{file_text}

-- all of these satisfy a predicate
abbrev pub AreAll : {A : Type 0} → (A → Type 0) → List A → Type 0
AreAll Is [] = Unit {0}
AreAll Is (a ∷ all) = Is a × AreAll Is all

-- there is at least one
abbrev pub IsSomeList : {A : Type 0} → List A → Type 0
IsSomeList [] = ⊥
IsSomeList (a ∷ all) = Unit {0}

-- the words of the type: all except `static`; a type with a body counts as one with a tag
abbrev pub words_of : Specs → List TypeWord
words_of NoSpec = []
words_of (MoreSpecs Static others) = words_of others
words_of (MoreSpecs (Plain w) others) = w ∷ words_of others
words_of (MoreSpecs (StructBody tag members) others) = Struct [] ∷ words_of others
words_of (MoreSpecs (EnumBody tag constants comma) others) = Enum [] ∷ words_of others

-- the words, if none of them is `static` or has a body
abbrev pub plain_words : Specs → Option (List TypeWord)
plain_words NoSpec = Some []
plain_words (MoreSpecs (Plain w) others) = option_map (λ words. w ∷ words) (plain_words others)
plain_words (MoreSpecs other others) = None

-- a name that is no typedef name
abbrev pub IsFree : Names → List ℕ → Type 0
IsFree names name = IsFalse (is_among names name)

-- a bound is empty or a constant expression
abbrev pub IsBound : Names → Option Written → Type 0
IsBound names bound = MatchOption bound (Unit {0}) (IsPhrase names CHOICE)

-- a bound is a constant expression
abbrev pub IsFullBound : Names → Option Written → Type 0
IsFullBound names bound = MatchOption bound ⊥ (IsPhrase names CHOICE)

-- a declarator with such a name and such bounds
pub record IsDeclaratorOf (IsName : List ℕ → Type 0) (IsBoundHere : Option Written → Type 0) (d : Declarator) : Type 0 where
  pub pointers : IsTrue (is_pointer d.pointers)
  pub named : IsName d.name
  pub bounds : AreAll IsBoundHere d.bounds

-- the declarator of an object, a typedef or a local
abbrev pub IsDeclarator : Names → Declarator → Type 0
IsDeclarator names = IsDeclaratorOf (IsFree names) (IsBound names)

-- the declarator of a member, whose name may be a typedef name, and whose bounds aren't empty
abbrev pub IsMember : Names → Declarator → Type 0
IsMember names = IsDeclaratorOf (λ name. Unit {0}) (IsFullBound names)

-- an enumeration constant
pub record IsConstant (names : Names) (c : Constant) : Type 0 where
  pub free : IsFree names c.name
  pub value : MatchOption c.value (Unit {0}) (IsPhrase names CHOICE)

abbrev mutual
  -- the bodies among some specifiers are in the grammar
  pub HaveBodies : Names → Specs → Type 0
  HaveBodies names NoSpec = Unit {0}
  HaveBodies names (MoreSpecs first others) = HasBody names first × HaveBodies names others

  -- a body has groups of members, or at least one constant
  pub HasBody : Names → Spec → Type 0
  HasBody names Static = Unit {0}
  HasBody names (Plain w) = Unit {0}
  HasBody names (StructBody tag members) = AreMembers names members
  HasBody names (EnumBody tag constants comma) = IsSomeList constants × AreAll (IsConstant names) constants

  pub AreMembers : Names → Members → Type 0
  AreMembers names NoMember = Unit {0}
  AreMembers names (MoreMembers specs declarators others) =
      IsTrue (is_type names (words_of specs)) × HaveBodies names specs × IsSomeList declarators × AreAll (IsMember names) declarators
      × AreMembers names others

-- declaration specifiers outside blocks
abbrev pub AreSpecs : Names → Specs → Type 0
AreSpecs names specs = IsTrue (is_type names (words_of specs)) × HaveBodies names specs

-- declaration specifiers inside a block: no `static`, and no body
abbrev pub AreBlockSpecs : Names → Specs → Type 0
AreBlockSpecs names specs = MatchOption (plain_words specs) ⊥ (λ words. IsTrue (is_type names words))

abbrev mutual
  -- an expression without a comma, or at least one item between braces
  pub IsInitial : Names → Initial → Type 0
  IsInitial names (Single value) = IsPhrase names ASSIGN value
  IsInitial names (Listed NoInitial comma) = ⊥
  IsInitial names (Listed (MoreInitials first others) comma) = IsInitial names first × AreInitials names others

  pub AreInitials : Names → Initials → Type 0
  AreInitials names NoInitial = Unit {0}
  AreInitials names (MoreInitials first others) = IsInitial names first × AreInitials names others

-- a declared object
pub record IsDeclared (names : Names) (d : Declared) : Type 0 where
  pub declarator : IsDeclarator names d.declarator
  pub initial : MatchOption d.initial (Unit {0}) (IsInitial names)

-- at least one declared object
abbrev pub AreDeclared : Names → List Declared → Type 0
AreDeclared names objects = IsSomeList objects × AreAll (IsDeclared names) objects

-- a parameter
pub record IsParameter (names : Names) (p : Parameter) : Type 0 where
  pub specs : AreSpecs names p.specs
  pub pointers : IsTrue (is_pointer p.pointers)
  pub free : MatchOption p.name (Unit {0}) (IsFree names)
  pub bounds : AreAll (IsBound names) p.bounds

-- the parameter whose only token is `void`
abbrev pub lone_void : Parameter
lone_void = record { specs = MoreSpecs (Plain Void) NoSpec; pointers = []; name = None; bounds = [] }

-- at least one parameter; a lone `void` isn't one
abbrev pub AreParameters : Names → Parameters → Type 0
AreParameters names NoParameter = Unit {0}
AreParameters names VoidAlone = Unit {0}
AreParameters names (ParameterList list) = IsSomeList list × (list ≢ lone_void ∷ []) × AreAll (IsParameter names) list

-- a function's declarator: its name with its parameters
pub record IsHead (names : Names) (h : Head) : Type 0 where
  pub pointers : IsTrue (is_pointer h.pointers)
  pub free : IsFree names h.name
  pub parameters : AreParameters names h.parameters

-- every parameter has a name
abbrev pub AreNamed : Parameters → Type 0
AreNamed NoParameter = Unit {0}
AreNamed VoidAlone = Unit {0}
AreNamed (ParameterList list) = AreAll (λ (p : Parameter). IsSome p.name) list

-- an `else` after the statement would belong to an `if` in it
abbrev pub is_open : Sentence → Bool
is_open (If test body) = true
is_open (IfElse test body other) = is_open other
is_open (While test body) = is_open body
is_open (For first test last body) = is_open body
is_open (Label name body) = is_open body
is_open other = false

-- an expression with commas, or none
abbrev pub IsAny : Names → Option Written → Type 0
IsAny names e = MatchOption e (Unit {0}) (IsPhrase names COMMA)

abbrev pub IsFirst : Names → First → Type 0
IsFirst names NoFirst = Unit {0}
IsFirst names (FirstRuns e) = IsPhrase names COMMA e
IsFirst names (FirstDeclares specs objects) = AreBlockSpecs names specs × AreDeclared names objects

abbrev mutual
  -- a statement; an `else` belongs to the nearest `if`
  pub IsSentence : Names → Sentence → Type 0
  IsSentence names (Block items) = AreItems names items
  IsSentence names Nothing = Unit {0}
  IsSentence names (Runs e) = IsPhrase names COMMA e
  IsSentence names (If test body) = IsPhrase names COMMA test × IsSentence names body
  IsSentence names (IfElse test body other) = IsPhrase names COMMA test × IsFalse (is_open body) × IsSentence names body × IsSentence names other
  IsSentence names (While test body) = IsPhrase names COMMA test × IsSentence names body
  IsSentence names (Do body test) = IsSentence names body × IsPhrase names COMMA test
  IsSentence names (For first test last body) = IsFirst names first × IsAny names test × IsAny names last × IsSentence names body
  IsSentence names (Switch value items) = IsPhrase names COMMA value × AreSwitchItems names items
  IsSentence names (Goto label) = Unit {0}
  IsSentence names Continue = Unit {0}
  IsSentence names Break = Unit {0}
  IsSentence names (Return value) = IsAny names value
  IsSentence names (Label name body) = IsSentence names body

  pub IsItem : Names → Item → Type 0
  IsItem names (Declares specs objects) = AreBlockSpecs names specs × AreDeclared names objects
  IsItem names (Does statement) = IsSentence names statement

  pub AreItems : Names → Items → Type 0
  AreItems names NoItem = Unit {0}
  AreItems names (MoreItems first others) = IsItem names first × AreItems names others

  pub IsSwitchItem : Names → SwitchItem → Type 0
  IsSwitchItem names (Case value) = IsPhrase names CHOICE value
  IsSwitchItem names Default = Unit {0}
  IsSwitchItem names (Inside item) = IsItem names item

  pub AreSwitchItems : Names → SwitchItems → Type 0
  AreSwitchItems names NoSwitchItem = Unit {0}
  AreSwitchItems names (MoreSwitchItems first others) = IsSwitchItem names first × AreSwitchItems names others

-- an external declaration; every parameter of a function with a body has a name
abbrev pub IsExternal : Names → External → Type 0
IsExternal names (TypeAlone specs) = AreSpecs names specs
IsExternal names (Typedef specs declarators) = AreSpecs names specs × IsSomeList declarators × AreAll (IsDeclarator names) declarators
IsExternal names (Objects specs objects) = AreSpecs names specs × AreDeclared names objects
IsExternal names (Function specs head) = AreSpecs names specs × IsHead names head
IsExternal names (Definition specs head body) = AreSpecs names specs × IsHead names head × AreNamed head.parameters × AreItems names body

-- the names with this one, after the others if it is new
abbrev pub with_name : Names → List ℕ → Names
with_name names name = if is_among names name then names else names ++ name ∷ []

-- the names with those that are declared by these declarators
abbrev pub with_names : Names → List Declarator → Names
with_names names [] = names
with_names names (d ∷ declarators) = with_names (with_name names d.name) declarators

-- the typedef names after an external declaration: those before it, and those that it declares
abbrev pub names_after : Names → External → Names
names_after names (Typedef specs declarators) = with_names names declarators
names_after names other = names

-- a file, if these are the typedef names before it
abbrev pub IsFile : Names → List External → Type 0
IsFile names [] = Unit {0}
IsFile names (external ∷ externals) = IsExternal names external × IsFile (names_after names external) externals

-- no external declaration is higher than the limit
abbrev pub AreLow : ℕ → List External → Type 0
AreLow limit externals = AreAll (λ external. external_height external ≤ limit) externals

-- the tokens begin a file
pub record BeginsFile (front : Kinds) : Type 0 where
  pub file : List External
  pub more : Kinds
  pub is_file : IsFile [] file
  pub spelled : file_text file ≡ front ++ more

-- the tokens begin a file whose parts are no higher than the limit
pub record BeginsLowFile (limit : ℕ) (front : Kinds) : Type 0 where
  pub file : List External
  pub more : Kinds
  pub is_file : IsFile [] file
  pub low : AreLow limit file
  pub spelled : file_text file ≡ front ++ more
