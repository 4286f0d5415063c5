-- Small files and statements, which show what the definitions accept and what they don't.
use Rattle.std.proofs.Common.{◌≡◌, ℕ, Bool, true, false, List, [], ◌∷◌, ◌++◌, Option, Some, None, refl, sym, arith}
use Rattle.std.proofs.lemmas.Bool.{false≢true}
use Rattle.cs_ast.specs.declared.token.TokenKind.{TokenKind}
use Rattle.cs_ast.specs.declared.token.TokenKind.TheVariants as token
use Rattle.cs_ast.specs.declared.token.Keyword.TheVariants as keyword
use Rattle.cs_ast.specs.declared.token.Punctuator.TheVariants as punctuator
use Rattle.cs_ast.specs.declared.raw.written_type.TypeWord.TheVariants as word
use Rattle.cs_ast.specs.declared.raw.written_type.IntegerWord.TheVariants.{Int}
use Rattle.cs_ast.specs.RawDeclarations.{Declarator, Declared, Static, Plain, StructBody, MoreMembers, NoMember, Single, Listed, MoreItems, NoItem as NoMore}
use Rattle.cs_ast.specs.RawDeclarations.{Specs, NoSpec, MoreSpecs, Parameter, ParameterList, Head, VoidAlone}
use Rattle.cs_ast.specs.RawStatements.{Sentence, Nothing, If, IfElse, NoItem, External, TypeAlone, Typedef, Objects, Function, Definition}
use Rattle.cs_grammar.specs.Text.{Kinds, text}
use Rattle.cs_grammar.specs.FileText.{sentence_text, file_text}
use Rattle.cs_grammar.specs.FilePhrases.{IsSentence, AreBlockSpecs, AreParameters, lone_void, IsExternal, IsFile}
use Rattle.cs_grammar.specs.FileRefusals.{IsUnsupportedOfFile}
use Rattle.cs_grammar.specs.Roles.{in_expression, declared_name, another, file_roles}
use Rattle.cs_grammar.proofs.StatementParts.{nought}
use Rattle.cs_grammar.proofs.Declarators.{declarator_of}
use Rattle.cs_grammar.proofs.DeclaredObjects.{declared_of}

-- the names `T`, `f` and `x`
abbrev T : List ℕ
T = 84 ∷ []

abbrev f : List ℕ
f = 102 ∷ []

abbrev x : List ℕ
x = 120 ∷ []

abbrev int : Specs
int = MoreSpecs (Plain (word.Integer Int)) NoSpec

abbrev of_type_T : External
of_type_T = Objects (MoreSpecs (Plain (word.Typedef T)) NoSpec) (declared_of (declarator_of [] x []) None ∷ [])

-- `typedef int T; T x;`
abbrev grown : List External
grown = Typedef int (declarator_of [] T [] ∷ []) ∷ of_type_T ∷ []

grown_is : IsFile [] grown
grown_is = (
  ((refl, (tt, tt)), tt, (record { pointers = refl; named = refl; bounds = tt }, tt)),
  (((refl, (tt, tt)), (tt, (record { declarator = record { pointers = refl; named = refl; bounds = tt }; initial = tt }, tt))), tt),
)

grown_text : file_text grown ≡ token.Keyword keyword.Typedef ∷ token.Keyword keyword.Int ∷ token.Name T ∷ token.Punctuator punctuator.Semicolon
    ∷ token.Name T ∷ token.Name x ∷ token.Punctuator punctuator.Semicolon ∷ []
grown_text = refl

grown_roles : file_roles grown ≡ another ∷ another ∷ declared_name ∷ another ∷ another ∷ declared_name ∷ another ∷ []
grown_roles = refl

-- `T x;` without the typedef
unknown_type : IsFile [] (of_type_T ∷ []) → ⊥
unknown_type is = false≢true is.0.0.0

-- `if ( 0 ) if ( 0 ) ; else ;` with the `else` at the inner `if`, and at the outer one: the same tokens, only one of them a statement
nearest : IsSentence [] (If nought (IfElse nought Nothing Nothing))
nearest = ((omega arith, tt), ((omega arith, tt), refl, tt, tt))

farther : IsSentence [] (IfElse nought (If nought Nothing) Nothing) → ⊥
farther is = false≢true (sym is.1)

same_tokens : (rest : Kinds) → sentence_text (IfElse nought (If nought Nothing) Nothing) rest
    ≡ sentence_text (If nought (IfElse nought Nothing Nothing)) rest
same_tokens rest = refl

-- only `void` is not a parameter
void_alone : AreParameters [] (ParameterList (lone_void ∷ [])) → ⊥
void_alone are = are.1 refl

-- `int f(int)` with a semicolon, and with a block
abbrev unnamed : Head
unnamed = record { pointers = []; name = f; parameters = ParameterList (record { specs = int; pointers = []; name = None; bounds = [] } ∷ []) }

unnamed_body : IsExternal [] (Definition int unnamed NoItem) → ⊥
unnamed_body is = false≢true is.2.0

-- `static` is allowed only outside blocks
static_outside : IsExternal [] (Objects (MoreSpecs Static int) (declared_of (declarator_of [] x []) None ∷ []))
static_outside = ((refl, (tt, (tt, tt))), (tt, (record { declarator = record { pointers = refl; named = refl; bounds = tt }; initial = tt }, tt)))

static_inside : AreBlockSpecs [] (MoreSpecs Static int) → ⊥
static_inside are = are

-- `int (`: where a name is allowed, a parenthesis is unsupported
abbrev plain_x : List External
plain_x = Objects int (declared_of (declarator_of [] x []) None ∷ []) ∷ []

plain_is : IsFile [] plain_x
plain_is = (((refl, (tt, tt)), (tt, (record { declarator = record { pointers = refl; named = refl; bounds = tt }; initial = tt }, tt))), tt)

parenthesis_out : IsUnsupportedOfFile (token.Keyword keyword.Int ∷ []) (token.Punctuator punctuator.OpenParenthesis)
parenthesis_out = record {
  file = plain_x;
  more = token.Name x ∷ token.Punctuator punctuator.Semicolon ∷ [];
  is_file = plain_is;
  spelled = refl;
  there = refl;
}

-- `int x = .`: where an initializer may begin, a dot is unsupported
abbrev listed_x : List External
listed_x = Objects int (declared_of (declarator_of [] x []) (Some (Listed (MoreItems (Single nought) NoMore) false)) ∷ []) ∷ []

listed_is : IsFile [] listed_x
listed_is =
    (((refl, (tt, tt)), (tt, (record { declarator = record { pointers = refl; named = refl; bounds = tt }; initial = ((omega arith, tt), tt) }, tt))), tt)

dot_out : IsUnsupportedOfFile (token.Keyword keyword.Int ∷ token.Name x ∷ token.Punctuator punctuator.Equal ∷ []) (token.Punctuator punctuator.Dot)
dot_out = record {
  file = listed_x;
  more = token.Punctuator punctuator.OpenBrace ∷ text nought (token.Punctuator punctuator.CloseBrace ∷ token.Punctuator punctuator.Semicolon ∷ []);
  is_file = listed_is;
  spelled = refl;
  there = refl;
}

-- `struct { int x :`: after a member's declarator a colon is unsupported
abbrev struct_x : List External
struct_x = TypeAlone (MoreSpecs (StructBody None (MoreMembers int (declarator_of [] x [] ∷ []) NoMember)) NoSpec) ∷ []

struct_is : IsFile [] struct_x
struct_is = ((refl, ((refl, (tt, tt), tt, (record { pointers = refl; named = tt; bounds = tt }, tt), tt), tt)), tt)

colon_out : IsUnsupportedOfFile (token.Keyword keyword.Struct ∷ token.Punctuator punctuator.OpenBrace ∷ token.Keyword keyword.Int ∷ token.Name x ∷ [])
    (token.Punctuator punctuator.Colon)
colon_out = record {
  file = struct_x;
  more = token.Punctuator punctuator.Semicolon ∷ token.Punctuator punctuator.CloseBrace ∷ token.Punctuator punctuator.Semicolon ∷ [];
  is_file = struct_is;
  spelled = refl;
  there = refl;
}
