-- If a token is refused before the body of a function, no body has begun: for the contracts of external declarations.
use Rattle.std.proofs.Common.{◌≡◌, ℕ, ◌+◌, inl, inr, IsTrue, List, [], ◌∷◌, ◌++◌, Err, length, drop, refl, sym, ap, ◌∙◌, subst}
use Rattle.std.proofs.Common.{arith, append-nil}
use Rattle.std.proofs.lemmas.Bool.{false≢true}
use Rattle.std.proofs.lemmas.List.{append_cancel_right, length-append}
use Rattle.cs_ast.specs.declared.token.Token.{Token}
use Rattle.cs_ast.specs.declared.token.TokenKind.TheVariants as token
use Rattle.cs_ast.specs.declared.token.Keyword.TheVariants as keyword
use Rattle.cs_ast.specs.declared.raw.declaration.RawSpecs.{RawSpecs}
use Rattle.cs_ast.specs.declared.raw.declaration.RawFunction.{RawFunction}
use Rattle.cs_ast.specs.declared.raw.written_type.PointerWord.{PointerWord}
use Rattle.cs_ast.specs.declared.raw.written_type.PointerWord.TheVariants as pointer
use Rattle.cs_ast.specs.RawDeclarations.{Head}
use Rattle.cs_grammar.specs.declared.refusal.Reason.{Reason}
use Rattle.cs_grammar.specs.TypeWords.{Names, is_pointer}
use Rattle.cs_grammar.specs.Text.{Kinds, pointers_text}
use Rattle.cs_grammar.specs.FileText.{specs_text, head_text, parameters_text}
use Rattle.cs_grammar.specs.FilePhrases.{IsHead}
use Rattle.cs_grammar.specs.DeclarationClasses.{Follows, ends_specs, FileSpecs, ParameterLists}
use Rattle.cs_grammar.proofs.Texts.{pointers_append}
use Rattle.cs_grammar.proofs.Statements.{open_parenthesis, close_parenthesis, open_brace}
use Rattle.cs_grammar.proofs.Bodies.{file_specs_law}
use Rattle.cs_grammar.proofs.HeadRules.{heads_law, parameter_lists_law}
use Rattle.cs_grammar.proofs.ExternalSites.{specs_first}
use Rattle.cs_expr_parser.specs.Positions.{kinds, kind_or_end}
use Rattle.cs_expr_parser.specs.Parts.{IsRefused}
use Rattle.cs_expr_parser.proofs.Standing.{stands, near, kinds_first}
use Rattle.cs_declarator_parser.specs.declared.source.Scope.TheVariants as scope
use Rattle.cs_expr_parser.specs.declared.stop.Stop.{Stop}
use Rattle.cs_expr_parser.specs.declared.stop.Stop.TheVariants as stop
use Rattle.cs_declarator_parser.specs.declared.stop.Taken.{Taken}
use Rattle.cs_declarator_parser.specs.declared.declarator.Declares.TheVariants as declaring
use Rattle.cs_declarator_parser.specs.declared.declarator.Pointed.{Pointed}
use Rattle.cs_declarator_parser.specs.Aptness.{IsStopApt}
use Rattle.cs_declarator_parser.specs.Answers.{Stops, StopsOrBrace}
use Rattle.cs_declarator_parser.specs.DeclarationAnswers.{IsPointed, IsNameMissing, PointedAnswers}
use Rattle.cs_decl_parser.specs.FileAnswers.{IsTypeTaken, BeginsBody, IsStopInBody}
use Rattle.cs_declarator_parser.proofs.AptReasons.{brace_apt}
use Rattle.cs_declarator_parser.proofs.PartStops.{IsPlainStop}
use Rattle.cs_decl_parser.proofs.ExternalSites.{HeadMade}

name_shuts : (ps : List PointerWord) (n : List ℕ) (x : Kinds) → IsTrue (is_pointer ps) → Follows ends_specs (pointers_text ps (token.Name n ∷ x))
name_shuts [] n x p = refl
name_shuts (pointer.Star ∷ ps) n x p = refl
name_shuts (pointer.Const ∷ ps) n x p = absurd (false≢true p)

head_shuts : (names : Names) (h : Head) (x : Kinds) → IsHead names h → Follows ends_specs (head_text h x)
head_shuts names h x is = name_shuts h.pointers h.name _ is.pointers

-- the specifiers were refused
type_unbegun : (names : Names) (tokens : List Token) (from at : ℕ) (reason : Reason) → IsRefused (FileSpecs names) 199 tokens from at reason
    → BeginsBody names tokens from at → ⊥
type_unbegun names tokens from at reason r b =
    let rest = kinds (drop at tokens) in
    let x = head_text b.head (open_brace ∷ b.inside) in
    let same : specs_text b.type x ++ rest ≡ kinds (drop from tokens) =
    file_specs_law names b.type x rest ∙ ap (specs_text b.type) (heads_law names b.head (open_brace ∷ b.inside) rest) ∙ sym b.spelled.spelled in
    let e : r.front ≡ specs_text b.type x = append_cancel_right r.front (specs_text b.type x) rest (sym r.spelled.spelled ∙ sym same) in
    let v = r.refused.never b.type x [] b.is_type (head_shuts names b.head (open_brace ∷ b.inside) b.is_head) (inl refl) (sym e
    ∙ sym (append-nil r.front)) in
    v.onward refl

pub type_body : (names : Names) (tokens : List Token) (from : ℕ) (s : Stop) → StopsOrBrace (FileSpecs names) 199 tokens from s
    → IsStopInBody names tokens from s
type_body names tokens from stop.Memory r = tt
type_body names tokens from (stop.Refused at reason) r = λ b.
    elim r [
      | inl x ↦ absurd (type_unbegun names tokens from at reason x b)
      | inr y ↦ brace_apt scope.Block (kind_or_end tokens at) reason y.brace
    ]

-- no body has begun after `typedef`
typedef_unbegun : (names : Names) (tokens : List Token) (from at : ℕ) → kind_or_end tokens from ≡ token.Keyword keyword.Typedef
    → BeginsBody names tokens from at → ⊥
typedef_unbegun names tokens from at k b =
    let s = stands tokens from (token.Keyword keyword.Typedef) k (λ x. cc) in
    false≢true (specs_first names b.type (head_text b.head (open_brace ∷ (b.inside ++ kinds (drop at tokens)))) (token.Keyword keyword.Typedef)
    (kinds (drop (from + 1) tokens)) b.is_type (sym b.spelled.spelled ∙ s.1))

pub typedef_body : (names : Names) (tokens : List Token) (from : ℕ) (s : Stop) → kind_or_end tokens from ≡ token.Keyword keyword.Typedef
    → IsStopInBody names tokens from s
typedef_body names tokens from stop.Memory k = tt
typedef_body names tokens from (stop.Refused at reason) k = λ b. absurd (typedef_unbegun names tokens from at k b)

-- what follows the specifiers that were taken
after_type : (names : Names) (tokens : List Token) (from at : ℕ) (type : Taken RawSpecs) → IsTypeTaken names tokens from type
    → (b : BeginsBody names tokens from at) → kinds (drop type.next tokens) ≡ head_text b.head (open_brace ∷ (b.inside ++ kinds (drop at tokens)))
after_type names tokens from at type t b =
    let k = t.taken in
    let x = head_text b.head (open_brace ∷ (b.inside ++ kinds (drop at tokens))) in
    elim (k.took.only b.type x (kinds (drop type.next tokens)) b.is_type
    (head_shuts names b.head (open_brace ∷ (b.inside ++ kinds (drop at tokens))) b.is_head) (near tokens type.next) (sym b.spelled.spelled
    ∙ k.spelled.spelled)) [
      | inl e ↦ sym e.1
      | inr over ↦ absurd (false≢true over.reported)
    ]

no_name_among : (ws ps : List PointerWord) (n : List ℕ) (x : Kinds) → pointers_text ws [] ≡ pointers_text ps (token.Name n ∷ x) → ⊥
no_name_among [] [] n x same = cc
no_name_among [] (p ∷ ps) n x same = cc
no_name_among (pointer.Star ∷ ws) [] n x same = cc
no_name_among (pointer.Const ∷ ws) [] n x same = cc
no_name_among (w ∷ ws) (p ∷ ps) n x same = no_name_among ws ps n x cc

-- no name follows the specifiers
name_unbegun : (names : Names) (tokens : List Token) (from at : ℕ) (reason : Reason) (type : Taken RawSpecs) → IsTypeTaken names tokens from type
    → IsNameMissing declaring.Names names tokens type.next at reason → BeginsBody names tokens from at → ⊥
name_unbegun names tokens from at reason type t m b =
    let rest = kinds (drop at tokens) in
    let p = m.pointers in
    let x = head_text b.head (open_brace ∷ b.inside) in
    let words : pointers_text m.words [] ++ rest ≡ kinds (drop type.next tokens) = pointers_append m.words [] rest ∙ sym p.spelled.spelled in
    let head : x ++ rest ≡ kinds (drop type.next tokens) = heads_law names b.head (open_brace ∷ b.inside) rest
    ∙ sym (after_type names tokens from at type t b) in
    no_name_among m.words b.head.pointers b.head.name _ (append_cancel_right (pointers_text m.words []) x rest (words ∙ sym head))

pub name_body : (names : Names) (tokens : List Token) (from : ℕ) (type : Taken RawSpecs) → IsTypeTaken names tokens from type
    → (s : Stop) → PointedAnswers declaring.Names names tokens type.next (Err s) → IsStopInBody names tokens from s
name_body names tokens from type t stop.Memory m = tt
name_body names tokens from type t (stop.Refused at reason) m = λ b. absurd (name_unbegun names tokens from at reason type t m b)

same_names : (ps qs : List PointerWord) (n m : List ℕ) (x y : Kinds) → pointers_text ps (token.Name n ∷ x) ≡ pointers_text qs (token.Name m ∷ y)
    → x ≡ y
same_names [] [] n m x y same = cc
same_names [] (pointer.Star ∷ qs) n m x y same = absurd cc
same_names [] (pointer.Const ∷ qs) n m x y same = absurd cc
same_names (pointer.Star ∷ ps) [] n m x y same = absurd cc
same_names (pointer.Const ∷ ps) [] n m x y same = absurd cc
same_names (p ∷ ps) (q ∷ qs) n m x y same = same_names ps qs n m x y cc

-- what follows the name that was taken
after_name : (names : Names) (tokens : List Token) (from at : ℕ) (type : Taken RawSpecs) (pointed : Taken Pointed) → IsTypeTaken names tokens from type
    → IsPointed declaring.Names names tokens type.next pointed
    → (b : BeginsBody names tokens from at) → kinds (drop pointed.next tokens)
    ≡ open_parenthesis ∷ parameters_text b.head.parameters (close_parenthesis ∷ open_brace ∷ (b.inside ++ kinds (drop at tokens)))
after_name names tokens from at type pointed t p b =
    let s = p.spelled in
    same_names pointed.tree.pointers.items b.head.pointers pointed.tree.name.name b.head.name (kinds (drop pointed.next tokens)) _ (sym s.spelled
    ∙ after_type names tokens from at type t b)

-- no parenthesis follows the name
objects_unbegun : (names : Names) (tokens : List Token) (from at : ℕ) (type : Taken RawSpecs) (pointed : Taken Pointed) → IsTypeTaken names tokens from type
    → IsPointed declaring.Names names tokens type.next pointed → (kind_or_end tokens pointed.next ≡ open_parenthesis → ⊥)
    → BeginsBody names tokens from at → ⊥
objects_unbegun names tokens from at type pointed t p other b =
    other (kinds_first (drop pointed.next tokens) open_parenthesis _ (after_name names tokens from at type pointed t p b))

pub objects_body : (names : Names) (tokens : List Token) (from : ℕ) (type : Taken RawSpecs) (pointed : Taken Pointed) → IsTypeTaken names tokens from type
    → IsPointed declaring.Names names tokens type.next pointed → (kind_or_end tokens pointed.next ≡ open_parenthesis → ⊥)
    → (s : Stop) → IsStopInBody names tokens from s
objects_body names tokens from type pointed t p other stop.Memory = tt
objects_body names tokens from type pointed t p other (stop.Refused at reason) = λ b. absurd (objects_unbegun names tokens from at type pointed t p other b)

-- what is between the parentheses was refused
parameters_unbegun : (names : Names) (tokens : List Token) (from at : ℕ) (reason : Reason) (type : Taken RawSpecs) (pointed : Taken Pointed)
    → IsTypeTaken names tokens from type → IsPointed declaring.Names names tokens type.next pointed → kind_or_end tokens pointed.next ≡ open_parenthesis
    → IsRefused (ParameterLists names) 198 tokens (pointed.next + 1) at reason → BeginsBody names tokens from at → ⊥
parameters_unbegun names tokens from at reason type pointed t p k r b =
    let rest = kinds (drop at tokens) in
    let h = b.is_head in
    let s = stands tokens pointed.next open_parenthesis k (λ x. cc) in
    let x = (ParameterLists names).spell b.head.parameters (open_brace ∷ b.inside) in
    let n : open_parenthesis ∷ kinds (drop (pointed.next + 1) tokens)
    ≡ open_parenthesis ∷ parameters_text b.head.parameters (close_parenthesis ∷ open_brace ∷ (b.inside ++ rest)) = sym s.1
    ∙ after_name names tokens from at type pointed t p b in
    let inner : kinds (drop (pointed.next + 1) tokens) ≡ parameters_text b.head.parameters (close_parenthesis ∷ open_brace ∷ (b.inside ++ rest)) = cc in
    let e : r.front ≡ x = append_cancel_right r.front x rest (sym r.spelled.spelled ∙ inner
    ∙ sym (parameter_lists_law names b.head.parameters (open_brace ∷ b.inside) rest)) in
    let v = r.refused.never b.head.parameters (open_brace ∷ b.inside) [] h.parameters tt (inl refl) (sym e ∙ sym (append-nil r.front)) in
    v.onward refl

pub parameters_body : (names : Names) (tokens : List Token) (from : ℕ) (type : Taken RawSpecs) (pointed : Taken Pointed)
    → IsTypeTaken names tokens from type → IsPointed declaring.Names names tokens type.next pointed → kind_or_end tokens pointed.next ≡ open_parenthesis
    → (s : Stop) → Stops (ParameterLists names) 198 tokens (pointed.next + 1) s → IsStopInBody names tokens from s
parameters_body names tokens from type pointed t p k stop.Memory r = tt
parameters_body names tokens from type pointed t p k (stop.Refused at reason) r = λ b.
    absurd (parameters_unbegun names tokens from at reason type pointed t p k r b)

-- neither a semicolon nor a body follows the head
end_unbegun : (names : Names) (tokens : List Token) (from : ℕ) (type : Taken RawSpecs) (head : Taken RawFunction) → IsTypeTaken names tokens from type
    → HeadMade names tokens type.next head → BeginsBody names tokens from head.next → ⊥
end_unbegun names tokens from type head t h b =
    let rest = kinds (drop head.next tokens) in
    let s = h.stands in
    let e = s.exactly.exact b.head (open_brace ∷ (b.inside ++ rest)) rest b.is_head (sym (after_type names tokens from head.next type t b)
    ∙ s.spelled.spelled) in
    let l = ap length e.1 in
    let a = length-append b.inside rest in
    omega (arith, l, a)

pub end_body : (names : Names) (tokens : List Token) (from : ℕ) (type : Taken RawSpecs) (head : Taken RawFunction) → IsTypeTaken names tokens from type
    → HeadMade names tokens type.next head → (s : Stop) → IsPlainStop scope.File tokens head.next s → IsStopInBody names tokens from s
end_body names tokens from type head t h s is = subst (IsStopInBody names tokens from) (sym is) (λ b. absurd (end_unbegun names tokens from type head t h b))

-- an item of a body was refused
pub inside_body : (names : Names) (tokens : List Token) (from : ℕ) (s : Stop) → IsStopApt scope.Block tokens s → IsStopInBody names tokens from s
inside_body names tokens from stop.Memory a = tt
inside_body names tokens from (stop.Refused at reason) a = λ b. a
