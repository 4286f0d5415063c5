-- Declared objects: the result of each return. For the contracts of `with_value`, `with_others` and their callers.
use Rattle.std.proofs.Common.{◌≡◌, ℕ, ◌+◌, ◌≤◌, true, false, Some, None, List, [], ◌∷◌, ◌++◌, sym, ap, ◌∙◌, subst, arith}
use Rattle.cs_ast.specs.declared.token.Token.{Token}
use Rattle.cs_ast.specs.declared.token.TokenKind.{TokenKind}
use Rattle.cs_ast.specs.declared.raw.declaration.RawDeclarator.{RawDeclarator}
use Rattle.cs_ast.specs.declared.raw.declaration.RawInit.{RawInit}
use Rattle.cs_ast.specs.declared.raw.declaration.RawInitial.{RawInitial}
use Rattle.cs_ast.specs.RawDeclarations.{Declarator}
use Rattle.cs_ast.specs.RawDeclarationView.{declarator, initial, declared}
use Rattle.cs_ast.specs.RawFileHeight.{declared_height}
use Rattle.cs_grammar.specs.declared.refusal.Reason.TheVariants.{TooDeep}
use Rattle.cs_grammar.specs.TypeWords.{Names}
use Rattle.cs_grammar.specs.FileText.{declarator_text, initial_text}
use Rattle.cs_grammar.specs.Parsing.{Took}
use Rattle.cs_grammar.specs.DeclarationClasses.{ObjectDeclarators, Objects, Values}
use Rattle.cs_grammar.specs.FilePhrases.{IsFree}
use Rattle.cs_grammar.proofs.Declarators.{declarators_law}
use Rattle.cs_grammar.proofs.DeclaredObjects.{equal_token, declared_of, declared_refused, declared_alone, declared_full, declared_value_refused}
use Rattle.cs_grammar.proofs.DeclaredObjects.{declared_value_took}
use Rattle.cs_expr_parser.specs.Positions.{kind_or_end}
use Rattle.cs_expr_parser.specs.Parts.{Spells, is_deep}
use Rattle.cs_declarator_parser.specs.declared.source.Scope.{Scope}
use Rattle.cs_expr_parser.specs.declared.stop.Stop.{Stop}
use Rattle.cs_declarator_parser.specs.declared.stop.Taken.{Taken}
use Rattle.cs_declarator_parser.specs.declared.stop.Unclosed.{Unclosed}
use Rattle.cs_declarator_parser.specs.declared.declarator.Declares.TheVariants as declaring
use Rattle.cs_declarator_parser.specs.Reasons.{plain_reason}
use Rattle.cs_declarator_parser.specs.Answers.{Stops, IsUnclosed}
use Rattle.cs_declarator_parser.specs.DeclarationAnswers.{DeclaratorsFor, IsDeclaratorTaken, IsAlone}
use Rattle.cs_expr_parser.proofs.Standing.{spells_one, spells_more, spells_as}
use Rattle.cs_declarator_parser.proofs.PartStops.{stops_in, stops_pass, plain_flat}
use Rattle.cs_declarator_parser.proofs.ListSites.{unclosed_as}

-- the declarator was refused
pub object_stops : (names : Names) (limit : ℕ) (tokens : List Token) (from : ℕ) (s : Stop)
    → Stops (DeclaratorsFor declaring.Names names) limit tokens from s → Stops (Objects names) limit tokens from s
object_stops names limit tokens from s r =
    stops_pass (Objects names) (DeclaratorsFor declaring.Names names) limit limit tokens from
    (λ front at deep here x. declared_refused names limit front (kind_or_end tokens at) deep x) s r

-- no value follows the declarator
pub alone_taken : (names : Names) (limit inner : ℕ) → limit ≡ 1 + inner
    → (tokens : List Token) (from : ℕ) (d : Taken RawDeclarator) → IsDeclaratorTaken declaring.Names names limit tokens from d
    → (kind_or_end tokens d.next ≡ equal_token → ⊥) → (scope : Scope) (taken : Unclosed RawInit) → IsAlone d.tree taken.tree
    → taken.height ≡ d.height → taken.next ≡ d.next → taken.otherwise ≡ plain_reason scope (kind_or_end tokens d.next)
    → IsUnclosed (Objects names) declared limit tokens from taken
alone_taken names limit inner less tokens from d given other scope taken is tall next why =
    let t = given inner less in
    unclosed_as (Objects names) declared limit tokens from (declared_of (declarator d.tree) None) d.height d.next false taken t.height_is t.spelled
    (declared_alone names limit (declarator d.tree) (kind_or_end tokens d.next) false t.took other) is tall next
    (ap is_deep why ∙ plain_flat scope (kind_or_end tokens d.next))

-- an `=` follows it, and the limit doesn't allow a value
pub alone_full : (names : Names) (limit inner : ℕ) → limit ≡ 1 + inner
    → (tokens : List Token) (from : ℕ) (d : Taken RawDeclarator) → IsDeclaratorTaken declaring.Names names limit tokens from d
    → kind_or_end tokens d.next ≡ equal_token → limit ≤ d.height → (taken : Unclosed RawInit) → IsAlone d.tree taken.tree
    → taken.height ≡ d.height → taken.next ≡ d.next → taken.otherwise ≡ TooDeep → IsUnclosed (Objects names) declared limit tokens from taken
alone_full names limit inner less tokens from d given equal full taken is tall next why =
    let t = given inner less in
    let h = t.height_is in
    unclosed_as (Objects names) declared limit tokens from (declared_of (declarator d.tree) None) d.height d.next true taken t.height_is t.spelled
    (subst (λ (x : TokenKind). Took (Objects names) limit (declared_of (declarator d.tree) None) x true) (sym equal)
    (declared_full names limit (declarator d.tree) false
    (subst (λ (x : TokenKind). Took (ObjectDeclarators names) limit (declarator d.tree) x false) equal t.took) (omega (arith, h, full)))) is tall next
    (ap is_deep why)

equal_spelled : (tokens : List Token) (from next : ℕ) (d : Declarator) → Spells tokens from next (declarator_text d)
    → kind_or_end tokens next ≡ equal_token → Spells tokens from (next + 1) (λ rest. declarator_text d (equal_token ∷ rest))
equal_spelled tokens from next d sp equal =
    spells_more tokens from next (next + 1) (declarator_text d) (λ rest. equal_token ∷ rest) sp (spells_one tokens next equal_token equal (λ x. cc))

-- the value was refused
pub object_value_stops : (names : Names) (limit inner : ℕ) → limit ≡ 1 + inner
    → (tokens : List Token) (from : ℕ) (d : Taken RawDeclarator) → IsDeclaratorTaken declaring.Names names limit tokens from d
    → kind_or_end tokens d.next ≡ equal_token → d.height ≤ inner → (s : Stop) → Stops (Values names) inner tokens (d.next + 1) s
    → Stops (Objects names) limit tokens from s
object_value_stops names limit inner less tokens from d given equal fits s r =
    let t = given inner less in
    let h = t.height_is in
    stops_in (Objects names) (Values names) limit inner tokens from (d.next + 1) (declarator_text (declarator d.tree) (equal_token ∷ []))
    (spells_as tokens from (d.next + 1) (λ rest. declarator_text (declarator d.tree) (equal_token ∷ rest))
    (λ rest. declarator_text (declarator d.tree) (equal_token ∷ []) ++ rest) (equal_spelled tokens from d.next (declarator d.tree) t.spelled equal)
    (λ rest. sym (declarators_law (IsFree names) names (Unit {0}) (declarator d.tree) (equal_token ∷ []) rest)))
    (λ front at deep here x.
    declared_value_refused names limit inner less (declarator d.tree) false
    (subst (λ (k : TokenKind). Took (ObjectDeclarators names) limit (declarator d.tree) k false) equal t.took) (omega (arith, h, fits)) front
    (kind_or_end tokens at) deep x) s r

-- the value was taken
pub object_value_taken : (names : Names) (limit inner : ℕ) → limit ≡ 1 + inner
    → (tokens : List Token) (from : ℕ) (d : Taken RawDeclarator) → IsDeclaratorTaken declaring.Names names limit tokens from d
    → kind_or_end tokens d.next ≡ equal_token → d.height ≤ inner
    → (value : Unclosed RawInitial) → IsUnclosed (Values names) initial inner tokens (d.next + 1) value
    → (taken : Unclosed RawInit) → declared taken.tree ≡ declared_of (declarator d.tree) (Some (initial value.tree))
    → (tall : ℕ) → taken.height ≡ tall → tall ≡ declared_height (declared_of (declarator d.tree) (Some (initial value.tree)))
    → taken.next ≡ value.next → taken.otherwise ≡ value.otherwise → IsUnclosed (Objects names) declared limit tokens from taken
object_value_taken names limit inner less tokens from d given equal fits value v taken is tall tallness g next why =
    let t = given inner less in
    let h = t.height_is in
    unclosed_as (Objects names) declared limit tokens from (declared_of (declarator d.tree) (Some (initial value.tree))) tall value.next
    (is_deep value.otherwise) taken g
    (spells_more tokens from (d.next + 1) value.next (λ rest. declarator_text (declarator d.tree) (equal_token ∷ rest)) (initial_text (initial value.tree))
    (equal_spelled tokens from d.next (declarator d.tree) t.spelled equal) v.spelled)
    (declared_value_took names limit inner less (declarator d.tree) false
    (subst (λ (k : TokenKind). Took (ObjectDeclarators names) limit (declarator d.tree) k false) equal t.took) (omega (arith, h, fits))
    (initial value.tree) (kind_or_end tokens value.next) (is_deep value.otherwise) v.took) is tallness next (ap is_deep why)
