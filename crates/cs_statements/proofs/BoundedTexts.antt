-- The lengths of the texts of declarators, parameters and tests, with what follows them: for the bounds of typed programs.
use Rattle.std.proofs.Common.{◌≡◌, ◌+◌, ◌≤◌, suc, List, [], ◌∷◌, map, length, arith}
use Rattle.std.specs.Prelude.{Option}
use Rattle.cs_ast.specs.declared.raw.declaration.RawParameter.{RawParameter}
use Rattle.cs_ast.specs.declared.token.TokenKind.TheVariants as token
use Rattle.cs_ast.specs.RawTree.{Written}
use Rattle.cs_ast.specs.RawDeclarations.{Declarator}
use Rattle.cs_ast.specs.RawDeclarationView.{parameter}
use Rattle.cs_grammar.specs.Text.{Kinds}
use Rattle.cs_grammar.specs.FileText.{some_text, each_after_comma, with_commas, brackets_text, declarator_text, parameter_text}
use Rattle.cs_grammar.proofs.FileTexts.{optional_append, brackets_append, declarator_append, parameter_append}
use Rattle.cs_well_formed.specs.Sizes.{text_size, size_of}
use Rattle.cs_well_formed.proofs.TextSizes.{size-following, size-pointers, size-with_commas}

pub some_size : (e : Option Written) (rest : Kinds) → text_size (some_text e rest) ≡ size_of (some_text e) + text_size rest
some_size e rest = size-following (some_text e) (optional_append e) rest

-- a declarator has at least one token, its name
pub declarator_size : (d : Declarator) (rest : Kinds) → 1 + text_size rest ≤ text_size (declarator_text d rest)
declarator_size d rest =
    let pointers = size-pointers d.pointers (token.Name d.name ∷ brackets_text d.bounds rest) in
    let brackets = size-following (brackets_text d.bounds) (brackets_append d.bounds) rest in
    omega (arith, pointers, brackets)

pub declarators_size : (ds : List Declarator) (rest : Kinds) → text_size rest ≤ text_size (with_commas declarator_text ds rest)
declarators_size ds rest = let e = size-with_commas declarator_text declarator_append ds rest in omega (arith, e)

-- a text of parameters after commas has at least one token for each parameter
further_parameters : (list : List RawParameter) (rest : Kinds)
    → length list + text_size rest ≤ text_size (each_after_comma parameter_text (map parameter list) rest)
further_parameters [] rest = omega arith
further_parameters (p ∷ ps) rest =
    let one = size-following (parameter_text (parameter p)) (parameter_append (parameter p)) (each_after_comma parameter_text (map parameter ps) rest) in
    let more = further_parameters ps rest in
    omega (arith, one, more)

pub parameters_count : (list : List RawParameter) → length list ≤ suc (size_of (with_commas parameter_text (map parameter list)))
parameters_count [] = omega arith
parameters_count (p ∷ ps) =
    let one = size-following (parameter_text (parameter p)) (parameter_append (parameter p)) (each_after_comma parameter_text (map parameter ps) []) in
    let more = further_parameters ps [] in
    omega (arith, one, more)
