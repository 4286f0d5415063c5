-- The classes of phrases that declarations consist of.
use Rattle.std.specs.Prelude.{◌≡◌, ◌≢◌, IsTrue, ℕ, ◌+◌, max, Bool, true, false, List, [], ◌∷◌, Option, MatchOption}
use Rattle.cs_ast.specs.declared.token.TokenKind.{TokenKind}
use Rattle.cs_ast.specs.declared.token.TokenKind.TheVariants as token
use Rattle.cs_ast.specs.declared.token.Punctuator.TheVariants as punctuator
use Rattle.cs_ast.specs.declared.raw.written_type.TypeWord.TheVariants.{Struct, Enum}
use Rattle.cs_ast.specs.declared.raw.written_type.PointerWord.{PointerWord}
use Rattle.cs_ast.specs.RawTree.{Written}
use Rattle.cs_ast.specs.RawDeclarations.{Declarator, Constant, Spec, Plain, Specs, Members, Initial, Declared, Parameter, Parameters, Head}
use Rattle.cs_ast.specs.RawStatements.{External}
use Rattle.cs_ast.specs.RawFileHeight.{height_of_some, highest_by, declarator_height, constant_height, spec_height, specs_height, members_height}
use Rattle.cs_ast.specs.RawFileHeight.{initial_height, declared_height, parameter_height, parameters_height, head_height, external_height}
use Rattle.cs_grammar.specs.TypeWords.{Names, is_pointer}
use Rattle.cs_grammar.specs.Levels.{CHOICE}
use Rattle.cs_grammar.specs.Text.{Kinds, pointers_text}
use Rattle.cs_grammar.specs.Phrases.{IsPhrase}
use Rattle.cs_grammar.specs.FileText.{name_text, with_commas, brackets_text, declarator_text, constant_text, spec_text, specs_text, members_text, initial_text}
use Rattle.cs_grammar.specs.FileText.{declared_text, parameter_text, parameters_text, head_text, external_text}
use Rattle.cs_grammar.specs.FilePhrases.{AreAll, IsSomeList, HasBody, IsMember, IsFree, IsBound, lone_void, IsDeclaratorOf, IsConstant, AreMembers, AreSpecs}
use Rattle.cs_grammar.specs.FilePhrases.{AreBlockSpecs, IsInitial, IsDeclared, IsParameter, AreParameters, IsHead, IsExternal}
use Rattle.cs_grammar.specs.Parsing.{Class}
use Rattle.cs_grammar.specs.Composed.{Following, ClosedSome}

-- there is no token, or the first passes a test
abbrev pub Follows : (TokenKind → Bool) → Kinds → Type 0
Follows test [] = Unit {0}
Follows test (t ∷ tokens) = test t ≡ true

-- the first token isn't an opening bracket
abbrev pub HasNoBracket : Kinds → Type 0
HasNoBracket (token.Punctuator punctuator.OpenBracket ∷ others) = ⊥
HasNoBracket tokens = Unit {0}

-- a bound between brackets, which may be absent if that is allowed
abbrev pub Bounds : Names → Type 0 → Class
Bounds names MayLack = Following (token.Punctuator punctuator.OpenBracket) (ClosedSome names CHOICE MayLack (token.Punctuator punctuator.CloseBracket))

-- a sequence of bounds between brackets, not followed by another one
abbrev pub Brackets : Names → Type 0 → Class
Brackets names MayLack = record {
  Tree = List (Option Written);
  spell = brackets_text;
  tall = highest_by height_of_some;
  Is = AreAll (λ bound. MatchOption bound MayLack (IsPhrase names CHOICE));
  Shut = λ tree after. HasNoBracket after;
}

-- declarators with such names, whose bounds may be absent if that is allowed, not followed by another bound
abbrev pub Declarators : (List ℕ → Type 0) → Names → Type 0 → Class
Declarators IsName names MayLack = record {
  Tree = Declarator;
  spell = declarator_text;
  tall = declarator_height;
  Is = IsDeclaratorOf IsName (λ bound. MatchOption bound MayLack (IsPhrase names CHOICE));
  Shut = λ tree after. HasNoBracket after;
}

-- the declarators of objects, typedefs and locals
abbrev pub ObjectDeclarators : Names → Class
ObjectDeclarators names = Declarators (IsFree names) names (Unit {0})

-- the declarators of members
abbrev pub MemberDeclarators : Names → Class
MemberDeclarators names = Declarators (λ name. Unit {0}) names ⊥

-- a comma or a semicolon
abbrev pub ends_declared : TokenKind → Bool
ends_declared (token.Punctuator punctuator.Comma) = true
ends_declared (token.Punctuator punctuator.Semicolon) = true
ends_declared other = false

-- declared objects
abbrev pub Objects : Names → Class
Objects names = record {
  Tree = Declared;
  spell = declared_text;
  tall = declared_height;
  Is = IsDeclared names;
  Shut = λ tree after. Follows ends_declared after;
}

-- a comma, a semicolon or a closing brace
abbrev pub ends_value : TokenKind → Bool
ends_value (token.Punctuator punctuator.Comma) = true
ends_value (token.Punctuator punctuator.Semicolon) = true
ends_value (token.Punctuator punctuator.CloseBrace) = true
ends_value other = false

-- initializers
abbrev pub Values : Names → Class
Values names = record { Tree = Initial; spell = initial_text; tall = initial_height; Is = IsInitial names; Shut = λ tree after. Follows ends_value after }

-- enumeration constants
abbrev pub Constants : Names → Class
Constants names = record {
  Tree = Constant;
  spell = constant_text;
  tall = constant_height;
  Is = IsConstant names;
  Shut = λ tree after. Follows ends_value after;
}

-- a name or a punctuator other than an opening brace
abbrev pub ends_specs : TokenKind → Bool
ends_specs (token.Name name) = true
ends_specs (token.Punctuator punctuator.OpenBrace) = false
ends_specs (token.Punctuator punctuator) = true
ends_specs other = false

-- declaration specifiers outside blocks
abbrev pub FileSpecs : Names → Class
FileSpecs names = record { Tree = Specs; spell = specs_text; tall = specs_height; Is = AreSpecs names; Shut = λ tree after. Follows ends_specs after }

-- declaration specifiers inside a block
abbrev pub BlockSpecs : Names → Class
BlockSpecs names = record { Tree = Specs; spell = specs_text; tall = specs_height; Is = AreBlockSpecs names; Shut = λ tree after. Follows ends_specs after }

-- the first token isn't an opening brace
abbrev pub HasNoOpenBrace : Kinds → Type 0
HasNoOpenBrace (token.Punctuator punctuator.OpenBrace ∷ others) = ⊥
HasNoOpenBrace tokens = Unit {0}

-- no opening brace follows a tag
abbrev pub IsQuiet : Spec → Kinds → Type 0
IsQuiet (Plain (Struct tag)) after = HasNoOpenBrace after
IsQuiet (Plain (Enum tag)) after = HasNoOpenBrace after
IsQuiet other after = Unit {0}

-- the specifiers outside blocks, types with bodies among them
abbrev pub SpecElements : Names → Class
SpecElements names = record { Tree = Spec; spell = spec_text; tall = spec_height; Is = HasBody names; Shut = IsQuiet }

-- members that share specifiers, with their semicolon
abbrev pub MemberGroups : Names → Class
MemberGroups names = record {
  Tree = Specs × List Declarator;
  spell = λ group after. specs_text group.0 (with_commas declarator_text group.1 (token.Punctuator punctuator.Semicolon ∷ after));
  tall = λ group. 1 + max (specs_height group.0) (highest_by declarator_height group.1);
  Is = λ group. AreSpecs names group.0 × (IsSomeList group.1 × AreAll (IsMember names) group.1);
  Shut = λ group after. Unit {0};
}

-- a comma or a closing parenthesis
abbrev pub ends_parameter : TokenKind → Bool
ends_parameter (token.Punctuator punctuator.Comma) = true
ends_parameter (token.Punctuator punctuator.CloseParenthesis) = true
ends_parameter other = false

-- parameters
abbrev pub ParameterClass : Names → Class
ParameterClass names = record {
  Tree = Parameter;
  spell = parameter_text;
  tall = parameter_height;
  Is = IsParameter names;
  Shut = λ tree after. Follows ends_parameter after;
}

-- the pointers, the name if there is one, and the bounds of a parameter
abbrev pub ParameterTail : Type 0
ParameterTail = List PointerWord × (Option (List ℕ) × List (Option Written))

abbrev pub ParameterTails : Names → Class
ParameterTails names = record {
  Tree = ParameterTail;
  spell = λ tree after. pointers_text tree.0 (name_text tree.1.0 (brackets_text tree.1.1 after));
  tall = λ tree. highest_by height_of_some tree.1.1;
  Is = λ tree. IsTrue (is_pointer tree.0) × (MatchOption tree.1.0 (Unit {0}) (IsFree names) × AreAll (IsBound names) tree.1.1);
  Shut = λ tree after. Follows ends_parameter after;
}

-- at least one parameter, but not only `void`, with commas between them and the closing parenthesis
abbrev pub ParameterRows : Names → Class
ParameterRows names = record {
  Tree = List Parameter;
  spell = λ tree after. with_commas parameter_text tree (token.Punctuator punctuator.CloseParenthesis ∷ after);
  tall = highest_by parameter_height;
  Is = λ tree. IsSomeList tree × ((tree ≢ lone_void ∷ []) × AreAll (IsParameter names) tree);
  Shut = λ tree after. Unit {0};
}

-- a function's parameter list, with the closing parenthesis
abbrev pub ParameterLists : Names → Class
ParameterLists names = record {
  Tree = Parameters;
  spell = λ tree after. parameters_text tree (token.Punctuator punctuator.CloseParenthesis ∷ after);
  tall = parameters_height;
  Is = AreParameters names;
  Shut = λ tree after. Unit {0};
}

-- the declarators of functions
abbrev pub Heads : Names → Class
Heads names = record { Tree = Head; spell = head_text; tall = head_height; Is = IsHead names; Shut = λ tree after. Unit {0} }

-- the members of a struct, with the closing brace
abbrev pub MemberRows : Names → Class
MemberRows names = record {
  Tree = Members;
  spell = λ tree after. members_text tree (token.Punctuator punctuator.CloseBrace ∷ after);
  tall = members_height;
  Is = AreMembers names;
  Shut = λ tree after. Unit {0};
}

-- external declarations
abbrev pub Externals : Names → Class
Externals names = record { Tree = External; spell = external_text; tall = external_height; Is = IsExternal names; Shut = λ tree after. Unit {0} }
