-- Declarations and external declarations as specifiers and what follows them: the result of each return. For the contracts of
-- every parser of declarations and files.
use Rattle.std.proofs.Common.{◌≡◌, ℕ, suc, ◌+◌, ◌≤◌, ◌⊎◌, inl, inr, Bool, true, false, List, [], ◌∷◌, ◌++◌, Option, Some}
use Rattle.std.proofs.Common.{None, refl, sym, ap, ◌∙◌, subst, arith}
use Rattle.std.proofs.lemmas.Bool.{false≢true}
use Rattle.cs_ast.specs.declared.token.TokenKind.{TokenKind}
use Rattle.cs_ast.specs.declared.token.TokenKind.TheVariants as token
use Rattle.cs_ast.specs.declared.token.Punctuator.TheVariants as punctuator
use Rattle.cs_ast.specs.RawDeclarations.{Declared, Specs, Head}
use Rattle.cs_ast.specs.RawStatements.{Items, External}
use Rattle.cs_grammar.specs.TypeWords.{Names}
use Rattle.cs_grammar.specs.Text.{Kinds}
use Rattle.cs_grammar.specs.FileText.{declared_text, with_commas, specs_text, head_text}
use Rattle.cs_grammar.specs.FilePhrases.{AreNamed}
use Rattle.cs_grammar.specs.DeclarationClasses.{Objects as ObjectClass, BlockSpecs, FileSpecs, Heads, Externals}
use Rattle.cs_grammar.specs.FileClasses.{BlockRows}
use Rattle.cs_grammar.specs.FileParts.{ExternalRest, no_name, function, definition, rest_text, ExternalRests, FunctionEnds, end_text}
use Rattle.cs_grammar.specs.Parsing.{Class, Near, Took, Refused, Exactly}
use Rattle.cs_grammar.specs.Composed.{Sequence, Separated}
use Rattle.cs_grammar.proofs.Holes.{Lawful, tail_refused, tail_took, exact_took}
use Rattle.cs_grammar.proofs.Tails.{first_or}
use Rattle.cs_grammar.proofs.Sequences.{first_refused, then_refused, then_took, took_exact}
use Rattle.cs_grammar.proofs.Pairs.{single_refused, single_took}
use Rattle.cs_grammar.proofs.Statements.{open_brace, semicolon}
use Rattle.cs_grammar.proofs.BlockItems.{BlockDeclarations, block_joins, block_specs_law, object_list_law, object_list_least}
use Rattle.cs_grammar.proofs.Bodies.{file_specs_law}
use Rattle.cs_grammar.proofs.FileRules.{external_joins, rests_law, rests_least, function_of, function_tail, ends_law, end_semicolon, end_wrong, body_single}

-- a declaration inside a block: its specifiers were refused
pub block_type_refused : (names : Names) (limit : ℕ) → 1 ≤ limit
    → (front : Kinds) (next : TokenKind) (deep : Bool) → Refused (BlockSpecs names) limit front next deep
    → Refused (BlockDeclarations names) limit front next deep
block_type_refused names limit some front next deep r =
    first_refused (BlockSpecs names) (Separated (ObjectClass names) semicolon) limit (block_specs_law names) (block_joins names) (object_list_least names)
    (omega (arith, some)) front next deep r

-- its objects were refused
pub block_objects_refused : (names : Names) (limit : ℕ) → 1 ≤ limit
    → (specs : Specs) (first : TokenKind) → Took (BlockSpecs names) limit specs first false
    → (front : Kinds) (next : TokenKind) (deep : Bool) → first_or front next ≡ first
    → Refused (Separated (ObjectClass names) semicolon) limit front next deep
    → Refused (BlockDeclarations names) limit (specs_text specs [] ++ front) next deep
block_objects_refused names limit some specs first t front next deep starts r =
    then_refused (BlockSpecs names) (Separated (ObjectClass names) semicolon) limit (block_specs_law names) (object_list_law names) (block_joins names)
    (object_list_least names) (omega (arith, some)) specs first false t (λ reported. absurd (false≢true reported)) front next deep starts r

-- it was taken
pub block_declaration_took : (names : Names) (limit : ℕ) → 1 ≤ limit
    → (specs : Specs) (first : TokenKind) → Took (BlockSpecs names) limit specs first false
    → (list : List Declared) (next : TokenKind) → first_or (with_commas declared_text list (semicolon ∷ [])) next ≡ first
    → Took (Separated (ObjectClass names) semicolon) limit list next false → Took (BlockDeclarations names) limit (specs, list) next false
block_declaration_took names limit some specs first t list next starts t' =
    then_took (BlockSpecs names) (Separated (ObjectClass names) semicolon) limit (block_specs_law names) (object_list_law names) (block_joins names)
    (object_list_least names) (omega (arith, some)) specs first false t (λ reported. absurd (false≢true reported)) list next false starts t'

-- an external declaration, as its specifiers and what follows them
abbrev pub TypedParts : Names → Class
TypedParts names = Sequence (FileSpecs names) (ExternalRests names)

-- its specifiers were refused
pub file_type_refused : (names : Names) (limit : ℕ) (front : Kinds) (next : TokenKind) (deep : Bool) → Refused (FileSpecs names) limit front next deep
    → Refused (TypedParts names) limit front next deep
file_type_refused names limit front next deep r =
    first_refused (FileSpecs names) (ExternalRests names) limit (file_specs_law names) (external_joins names) (rests_least names) (omega arith) front next deep
    r

-- what follows its specifiers was refused
pub file_rest_refused : (names : Names) (limit : ℕ) (specs : Specs) (first : TokenKind) → Took (FileSpecs names) limit specs first false
    → (front : Kinds) (next : TokenKind) (deep : Bool) → first_or front next ≡ first → Refused (ExternalRests names) limit front next deep
    → Refused (TypedParts names) limit (specs_text specs [] ++ front) next deep
file_rest_refused names limit specs first t front next deep starts r =
    then_refused (FileSpecs names) (ExternalRests names) limit (file_specs_law names) (rests_law names) (external_joins names) (rests_least names) (omega arith)
    specs first false t (λ reported. absurd (false≢true reported)) front next deep starts r

-- both were taken
pub file_part_took : (names : Names) (limit : ℕ) (specs : Specs) (first : TokenKind) → Took (FileSpecs names) limit specs first false
    → (rest : ExternalRest) (next : TokenKind) → first_or (rest_text rest []) next ≡ first → Took (ExternalRests names) limit rest next false
    → Took (TypedParts names) limit (specs, rest) next false
file_part_took names limit specs first t rest next starts t' =
    then_took (FileSpecs names) (ExternalRests names) limit (file_specs_law names) (rests_law names) (external_joins names) (rests_least names) (omega arith)
    specs first false t (λ reported. absurd (false≢true reported)) rest next false starts t'

-- a function's head was taken, and what follows it refused
pub function_refused : (names : Names) (limit : ℕ) (head : Head) → Exactly (Heads names) limit head
    → (front : Kinds) (next : TokenKind) (deep : Bool) → Refused (FunctionEnds names head) limit front next deep
    → Refused (ExternalRests names) limit (head_text head [] ++ front) next deep
function_refused names limit head e front next deep r =
    tail_refused (ExternalRests names) (FunctionEnds names head) limit limit (head_text head []) (function_of head) (λ rest. Unit {0}) (ends_law names head)
    (function_tail names limit head e) front next deep (λ following near. tt) r

-- a function without a body was taken
pub function_took : (names : Names) (limit : ℕ) (head : Head) → Exactly (Heads names) limit head
    → (next : TokenKind) → Took (ExternalRests names) limit (function head) next false
function_took names limit head e next =
    tail_took (ExternalRests names) (FunctionEnds names head) limit limit (head_text head []) (function_of head) (λ rest. Unit {0}) (ends_law names head)
    (function_tail names limit head e) None next false (λ following near. tt)
    (exact_took (FunctionEnds names head) limit None (end_semicolon names head limit) next)

-- the block of a function was refused
pub body_refused : (names : Names) (limit inner : ℕ) → limit ≡ 1 + inner → (head : Head) → AreNamed head.parameters
    → Exactly (Heads names) limit head → (front : Kinds) (next : TokenKind) (deep : Bool) → Refused (BlockRows names) inner front next deep
    → Refused (ExternalRests names) limit (head_text head [] ++ (open_brace ∷ front)) next deep
body_refused names limit inner less head named e front next deep r =
    function_refused names limit head e (open_brace ∷ front) next deep
    (single_refused (body_single names head named) limit inner (less, omega arith) front next deep (λ following near. tt) r)

-- a function with its body was taken
pub definition_took : (names : Names) (limit inner : ℕ) → limit ≡ 1 + inner → (head : Head) → AreNamed head.parameters
    → Exactly (Heads names) limit head → (body : Items) (next : TokenKind) → Took (BlockRows names) inner body next false
    → Took (ExternalRests names) limit (definition head body) next false
definition_took names limit inner less head named e body next t =
    tail_took (ExternalRests names) (FunctionEnds names head) limit limit (head_text head []) (function_of head) (λ rest. Unit {0}) (ends_law names head)
    (function_tail names limit head e) (Some body) next false (λ following near. tt)
    (single_took (body_single names head named) limit inner (less, omega arith) body next false (λ following near. tt) t)

-- an external declaration that was taken before every token is determined by its tokens
pub external_exact : (names : Names) (limit : ℕ) (e : External) → ((next : TokenKind) → Took (Externals names) limit e next false)
    → Exactly (Externals names) limit e
external_exact names limit e took = took_exact (Externals names) limit e took (λ other after. tt) semicolon
