-- The positions of external declarations, over indices of tokens: for the clauses on positions of the parts that parse them.
use Rattle.std.proofs.Common.{◌≡◌, ℕ, ◌+◌, List, [], ◌∷◌, ◌++◌, drop, sym, ap, ◌∙◌, subst}
use Rattle.std.proofs.lemmas.List.{drop-drop}
use Rattle.cs_ast.specs.declared.token.Token.{Token}
use Rattle.cs_ast.specs.declared.raw.declaration.RawSpecs.{RawSpecs}
use Rattle.cs_ast.specs.declared.raw.declaration.RawDeclarator.{RawDeclarator}
use Rattle.cs_ast.specs.declared.raw.declaration.RawParameters.{RawParameters}
use Rattle.cs_ast.specs.declared.raw.declaration.RawFunction.{RawFunction}
use Rattle.cs_ast.specs.declared.raw.external.RawBody.{RawBody}
use Rattle.cs_ast.specs.declared.raw.external.RawExternal.{RawExternal}
use Rattle.cs_ast.specs.RawDeclarationView.{specs, head}
use Rattle.cs_ast.specs.RawStatementView.{items_list, external}
use Rattle.cs_grammar.specs.TypeWords.{Names}
use Rattle.cs_grammar.specs.Text.{pointers_text}
use Rattle.cs_grammar.specs.FileText.{specs_text, head_text, items_text, external_text}
use Rattle.cs_grammar.specs.Places.{StandsAt}
use Rattle.cs_grammar.proofs.FileTexts.{specs_append, head_append, items_append, external_append}
use Rattle.cs_expr_parser.specs.Parts.{Spells}
use Rattle.cs_declarator_parser.specs.declared.declarator.Pointed.{Pointed}
use Rattle.cs_declarator_parser.specs.declared.stop.Taken.{Taken}
use Rattle.cs_declarator_parser.specs.DeclarationPlaces.{past, HasSpecPlaces, AreDeclaratorsPlaced, AreParametersPlaced}
use Rattle.cs_decl_parser.specs.FilePlaces.{IsHeadPlaced, IsBodyPlaced, IsExternalPlaced}
use Rattle.cs_decl_parser.specs.StatementPlaces.{AreItemsBeside}
use Rattle.cs_decl_parser.specs.ExternalPlaces.{IsPointedPlaced, IsHeadBuilt}
use Rattle.cs_declarator_parser.proofs.Placing.{one_after, past_text, after_text, past_pointed, SidePlaced, side_begun, side_goes_on}

-- after `typedef`
pub typedef_placed : (tokens : List Token) (from next : ℕ) (s : RawSpecs) (names : List RawDeclarator)
    → Spells tokens (from + 1) next (specs_text (specs s)) → HasSpecPlaces s (drop (from + 1) tokens) → AreDeclaratorsPlaced names (drop next tokens)
    → HasSpecPlaces s (drop 1 (drop from tokens)) × AreDeclaratorsPlaced names (past (specs_text (specs s)) (drop 1 (drop from tokens)))
typedef_placed tokens from next s names sp a b = (
  subst (HasSpecPlaces s) (sym (one_after tokens from)) a,
  subst (λ (list : List Token). AreDeclaratorsPlaced names (past (specs_text (specs s)) list)) (sym (one_after tokens from))
      (after_text (AreDeclaratorsPlaced names) (specs_text (specs s)) (specs_append (specs s)) tokens (from + 1) next sp b),
)

-- the head of a function
pub head_placed : (names : Names) (tokens : List Token) (at : ℕ) (pointed : Taken Pointed) (parameters : RawParameters) (f : RawFunction)
    → IsHeadBuilt pointed.tree parameters f → IsPointedPlaced names tokens at pointed → AreParametersPlaced parameters (drop (pointed.next + 1) tokens)
    → IsHeadPlaced f (drop at tokens)
head_placed names tokens at pointed parameters f built p a =
    let after_pointers = past (pointers_text pointed.tree.pointers.items) (drop at tokens) in
    let two : drop 2 after_pointers ≡ drop (pointed.next + 1) tokens =
    sym (drop-drop 1 1 after_pointers)
    ∙ ap (λ (list : List Token). drop 1 list) (past_pointed pointed.tree.pointers.items pointed.tree.name.name tokens at pointed.next p.0.spelled)
    ∙ one_after tokens pointed.next in
    built (drop at tokens) p.1 (subst (AreParametersPlaced parameters) (sym two) a)

-- a function without a body
pub function_placed : (tokens : List Token) (from next : ℕ) (s : RawSpecs) (f : RawFunction) → Spells tokens from next (specs_text (specs s))
    → HasSpecPlaces s (drop from tokens) → IsHeadPlaced f (drop next tokens)
    → HasSpecPlaces s (drop from tokens) × IsHeadPlaced f (past (specs_text (specs s)) (drop from tokens))
function_placed tokens from next s f sp a h = (a, after_text (IsHeadPlaced f) (specs_text (specs s)) (specs_append (specs s)) tokens from next sp h)

-- a body with its braces
pub body_placed : (tokens : List Token) (at next : ℕ) (body : RawBody) → StandsAt body.opening (drop at tokens)
    → AreItemsBeside body.items.items (drop (at + 1) tokens) → Spells tokens (at + 1) next (items_text (items_list body.items.items))
    → StandsAt body.closing (drop next tokens) → IsBodyPlaced body (drop at tokens)
body_placed tokens at next body o i sp c = record {
  opening = o;
  inside = subst (AreItemsBeside body.items.items) (sym (one_after tokens at)) i;
  closing =
      subst (λ (list : List Token). StandsAt body.closing (past (items_text (items_list body.items.items)) list)) (sym (one_after tokens at))
      (after_text (StandsAt body.closing) (items_text (items_list body.items.items)) (items_append (items_list body.items.items)) tokens (at + 1) next sp c);
}

-- a function with its body
pub definition_placed : (tokens : List Token) (from next later : ℕ) (s : RawSpecs) (f : RawFunction) (body : RawBody)
    → Spells tokens from next (specs_text (specs s)) → Spells tokens next later (head_text (head f)) → HasSpecPlaces s (drop from tokens)
    → IsHeadPlaced f (drop next tokens) → IsBodyPlaced body (drop later tokens)
    → HasSpecPlaces s (drop from tokens) × IsHeadPlaced f (past (specs_text (specs s)) (drop from tokens))
    × IsBodyPlaced body (past (head_text (head f)) (past (specs_text (specs s)) (drop from tokens)))
definition_placed tokens from next later s f body sp sh a h b =
    let e = past_text (specs_text (specs s)) (specs_append (specs s)) tokens from next sp in (
      a,
      subst (IsHeadPlaced f) (sym e) h,
      subst (λ (list : List Token). IsBodyPlaced body (past (head_text (head f)) list)) (sym e)
          (after_text (IsBodyPlaced body) (head_text (head f)) (head_append (head f)) tokens next later sh b),
    )

-- the external declarations so far
abbrev pub PartsPlaced : List Token → List RawExternal → ℕ → Type 0
PartsPlaced tokens done next = SidePlaced IsExternalPlaced (λ e. external_text (external e)) tokens 0 done next

pub parts_begun : (tokens : List Token) (done : List RawExternal) → done ≡ [] → PartsPlaced tokens done 0
parts_begun tokens done none =
    subst (λ (x : List RawExternal). PartsPlaced tokens x 0) (sym none) (side_begun IsExternalPlaced (λ e. external_text (external e)) tokens 0)

pub parts_go_on : (tokens : List Token) (done all : List RawExternal) (next : ℕ) (e : RawExternal) (later : ℕ) → PartsPlaced tokens done next
    → all ≡ done ++ e ∷ [] → Spells tokens next later (external_text (external e)) → IsExternalPlaced e (drop next tokens)
    → PartsPlaced tokens all later
parts_go_on tokens = side_goes_on IsExternalPlaced (λ e. external_text (external e)) (λ e. external_append (external e)) tokens 0
