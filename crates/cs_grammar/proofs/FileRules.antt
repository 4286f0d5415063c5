-- External declarations, and files: for the contracts of every parser of files.
use Rattle.std.proofs.Common.{◌≡◌, ℕ, ◌+◌, ◌<◌, ◌≤◌, max, ◌⊎◌, inl, inr, Bool, true, false, IsTrue, List, [], ◌∷◌, ◌++◌}
use Rattle.std.proofs.Common.{Option, Some, None, refl, sym, ap, ◌∙◌, subst, arith, append_assoc, append-nil}
use Rattle.std.proofs.lemmas.Bool.{false≢true}
use Rattle.cs_ast.specs.declared.token.TokenKind.{TokenKind}
use Rattle.cs_ast.specs.declared.token.TokenKind.TheVariants as token
use Rattle.cs_ast.specs.declared.token.Keyword.TheVariants as keyword
use Rattle.cs_ast.specs.declared.raw.written_type.TypeWord.TheVariants as word
use Rattle.cs_ast.specs.declared.raw.written_type.IntegerWord.TheVariants.{Char, Short, Int, Long, Signed, Unsigned}
use Rattle.cs_ast.specs.declared.raw.written_type.PointerWord.{PointerWord}
use Rattle.cs_ast.specs.RawTree.{Written}
use Rattle.cs_ast.specs.RawDeclarations.{Declarator, Initial, Declared, Spec, Static, Plain, StructBody, EnumBody, Specs, NoSpec, MoreSpecs, Head}
use Rattle.cs_ast.specs.RawStatements.{Items, External, TypeAlone, Typedef, Objects, Function, Definition}
use Rattle.cs_ast.specs.RawFileHeight.{highest_by, specs_height, head_height, external_height}
use Rattle.cs_grammar.specs.TypeWords.{Names, is_pointer}
use Rattle.cs_grammar.specs.Text.{Kinds, pointers_text}
use Rattle.cs_grammar.specs.FileText.{brackets_text, declarator_text, first_value_text, declared_text, each_after_comma, with_commas, specs_text}
use Rattle.cs_grammar.specs.FileText.{parameters_text, head_text, items_text, external_text, externals_text, file_text}
use Rattle.cs_grammar.specs.FilePhrases.{AreAll, IsSomeList, IsFree, IsDeclarator, IsDeclared, AreSpecs, IsHead, AreNamed, AreItems, IsExternal, names_after}
use Rattle.cs_grammar.specs.FilePhrases.{IsFile, AreLow, BeginsFile, BeginsLowFile}
use Rattle.cs_grammar.specs.DeclarationClasses.{Follows, ends_specs, ObjectDeclarators, Objects as ObjectClass, FileSpecs, Heads, Externals}
use Rattle.cs_grammar.specs.FileClasses.{BlockRows}
use Rattle.cs_grammar.specs.FileParts.{ExternalRest, no_name, objects, function, definition, rest_text, rest_height, IsRest, ExternalRests, external_from}
use Rattle.cs_grammar.specs.FileParts.{end_text, end_height, IsEnd, FunctionEnds, FilesFrom}
use Rattle.cs_grammar.specs.Parsing.{Near, IsOver, BeginsLow, Refused, Exactly}
use Rattle.cs_grammar.specs.Composed.{Sequence, Separated}
use Rattle.cs_grammar.proofs.Texts.{pointers_append}
use Rattle.cs_grammar.proofs.FileTexts.{declared_append, with_commas_append, head_append, items_append, external_append, externals_append}
use Rattle.cs_grammar.proofs.Holes.{Lawful, Tail}
use Rattle.cs_grammar.proofs.Tails.{Least, Production, tail_start, tail_then, tail_as, none_refused}
use Rattle.cs_grammar.proofs.Sequences.{Joins, sequence_law, sequence_least}
use Rattle.cs_grammar.proofs.Rows.{Separates, separated_law, separated_least}
use Rattle.cs_grammar.proofs.Pairs.{Pair, Single}
use Rattle.cs_grammar.proofs.Statements.{open_parenthesis, close_parenthesis, open_brace, close_brace, semicolon}
use Rattle.cs_grammar.proofs.StatementParts.{block_rows_law, block_rows_least}
use Rattle.cs_grammar.proofs.FreshNames.{fresh, fresh_free}
use Rattle.cs_grammar.proofs.Declarators.{pointers_name, declarators_law, declarators_least}
use Rattle.cs_grammar.proofs.DeclaredObjects.{semicolon_differs}
use Rattle.cs_grammar.proofs.BlockItems.{Starts, with_star, with_name, pointers_start, objects_start, starts_end_specs, object_list_law, object_list_least}
use Rattle.cs_grammar.proofs.SpecRows.{first_of, spec_starts}
use Rattle.cs_grammar.proofs.Bodies.{file_specs_law, file_specs_least}

spec_no_typedef : (s : Spec) → first_of s ≡ token.Keyword keyword.Typedef → ⊥
spec_no_typedef Static e = cc
spec_no_typedef (Plain word.Const) e = cc
spec_no_typedef (Plain word.Void) e = cc
spec_no_typedef (Plain (word.Integer Char)) e = cc
spec_no_typedef (Plain (word.Integer Short)) e = cc
spec_no_typedef (Plain (word.Integer Int)) e = cc
spec_no_typedef (Plain (word.Integer Long)) e = cc
spec_no_typedef (Plain (word.Integer Signed)) e = cc
spec_no_typedef (Plain (word.Integer Unsigned)) e = cc
spec_no_typedef (Plain (word.Typedef n)) e = cc
spec_no_typedef (Plain (word.Struct tag)) e = cc
spec_no_typedef (Plain (word.Enum tag)) e = cc
spec_no_typedef (StructBody tag members) e = cc
spec_no_typedef (EnumBody tag constants comma) e = cc

specs_no_typedef : (names : Names) (specs : Specs) (x more : Kinds) → AreSpecs names specs → specs_text specs x ≡ token.Keyword keyword.Typedef ∷ more
    → ⊥
specs_no_typedef names NoSpec x more is same = false≢true is.0
specs_no_typedef names (MoreSpecs s others) x more is same =
    let b = spec_starts s (specs_text others x) in
    let z : first_of s ∷ b.0 ≡ token.Keyword keyword.Typedef ∷ more = sym b.1 ∙ same in
    spec_no_typedef s cc

abbrev pub TypedefParts : Type 0
TypedefParts = Specs × List Declarator

pub typedef_invert : (names : Names) (whole : External) (after following : Kinds) → IsExternal names whole
    → external_text whole after ≡ token.Keyword keyword.Typedef ∷ following
    → (part : TypedefParts) × (whole ≡ Typedef part.0 part.1) × (AreSpecs names part.0 × (IsSomeList part.1 × AreAll (IsDeclarator names) part.1))
    × (following ≡ specs_text part.0 (with_commas declarator_text part.1 (semicolon ∷ after)))
typedef_invert names (Typedef specs list) after following is same = ((specs, list), refl, (is.0, (is.1, is.2)), cc)
typedef_invert names (TypeAlone specs) after following is same = absurd (specs_no_typedef names specs (semicolon ∷ after) following is same)
typedef_invert names (Objects specs list) after following is same =
    absurd (specs_no_typedef names specs (with_commas declared_text list (semicolon ∷ after)) following is.0 same)
typedef_invert names (Function specs head) after following is same =
    absurd (specs_no_typedef names specs (head_text head (semicolon ∷ after)) following is.0 same)
typedef_invert names (Definition specs head body) after following is same =
    absurd (specs_no_typedef names specs (head_text head (open_brace ∷ items_text body (close_brace ∷ after))) following is.0 same)

declarators_start : (names : Names) (list : List Declarator) (rest : Kinds) → IsSomeList list → AreAll (IsDeclarator names) list
    → Starts (with_commas declarator_text list rest)
declarators_start names [] rest some are = absurd some
declarators_start names (d ∷ ds) rest some are = let i = are.0 in
    pointers_start d.pointers d.name (brackets_text d.bounds (each_after_comma declarator_text ds rest)) i.pointers

pub typedef_joins : (names : Names) → Joins (FileSpecs names) (Separated (ObjectDeclarators names) semicolon)
typedef_joins names = λ c d after is are shut.
    starts_end_specs (with_commas declarator_text d (semicolon ∷ after)) (declarators_start names d (semicolon ∷ after) are.0 are.1)

abbrev pub object_declarators_least : (names : Names) → Least (ObjectDeclarators names)
object_declarators_least names = declarators_least (IsFree names) names (Unit {0}) (fresh names) (fresh_free names)

-- declarators of typedefs with commas between them and a semicolon after them
abbrev pub typedef_row : (names : Names) → Separates (ObjectDeclarators names) semicolon
typedef_row names = record {
  law = declarators_law (IsFree names) names (Unit {0});
  least = object_declarators_least names;
  comma = λ d more. tt;
  closed = λ d more. tt;
  differs = semicolon_differs;
}

-- `typedef` with its names
abbrev pub typedef_pair : (names : Names)
    → Pair (Externals names) (FileSpecs names) (Separated (ObjectDeclarators names) semicolon) 1 (token.Keyword keyword.Typedef ∷ [])
    (λ part. Typedef part.0 part.1)
typedef_pair names = record {
  production = record {
    invert = λ whole after following is fit same. typedef_invert names whole after following is same;
    shut = λ part after shut. tt;
    spelled = λ part after. refl;
    is_phrase = λ part is. (is.0, is.1.0, is.1.1);
    taller = λ part. refl;
  };
  law_first = file_specs_law names;
  law_second = separated_law (ObjectDeclarators names) semicolon (declarators_law (IsFree names) names (Unit {0}));
  joins = typedef_joins names;
  least_first = file_specs_least names;
  least_second = separated_least (ObjectDeclarators names) semicolon (object_declarators_least names);
}

-- the first token isn't `typedef`
abbrev pub HasNoTypedef : Kinds → Type 0
HasNoTypedef tokens = (more : Kinds) → tokens ≡ token.Keyword keyword.Typedef ∷ more → ⊥

abbrev pub ExternalParts : Type 0
ExternalParts = Specs × ExternalRest

pub external_invert : (names : Names) (whole : External) (after following : Kinds) → IsExternal names whole → HasNoTypedef following
    → external_text whole after ≡ following → (part : ExternalParts) × (whole ≡ external_from part.0 part.1)
    × (AreSpecs names part.0 × IsRest names part.1) × (following ≡ specs_text part.0 (rest_text part.1 after))
external_invert names (TypeAlone specs) after following is fit same = ((specs, no_name), refl, (is, tt), sym same)
external_invert names (Objects specs list) after following is fit same = ((specs, objects list), refl, (is.0, is.1), sym same)
external_invert names (Function specs head) after following is fit same = ((specs, function head), refl, (is.0, is.1), sym same)
external_invert names (Definition specs head body) after following is fit same = ((specs, definition head body), refl, (is.0, (is.1, is.2, is.3)), sym same)
external_invert names (Typedef specs list) after following is fit same =
    absurd (fit (specs_text specs (with_commas declarator_text list (semicolon ∷ after))) (sym same))

pub external_spelled : (specs : Specs) (rest : ExternalRest) (after : Kinds)
    → external_text (external_from specs rest) after ≡ specs_text specs (rest_text rest after)
external_spelled specs no_name after = refl
external_spelled specs (objects list) after = refl
external_spelled specs (function head) after = refl
external_spelled specs (definition head body) after = refl

pub external_is : (names : Names) (specs : Specs) (rest : ExternalRest) → AreSpecs names specs → IsRest names rest
    → IsExternal names (external_from specs rest)
external_is names specs no_name is are = is
external_is names specs (objects list) is are = (is, are)
external_is names specs (function head) is are = (is, are)
external_is names specs (definition head body) is are = (is, are.0, are.1, are.2)

pub external_taller : (specs : Specs) (rest : ExternalRest) → external_height (external_from specs rest) ≡ 1 + max (specs_height specs) (rest_height rest)
external_taller specs no_name = omega arith
external_taller specs (objects list) = refl
external_taller specs (function head) = refl
external_taller specs (definition head body) = refl

rest_follows : (names : Names) (rest : ExternalRest) (after : Kinds) → IsRest names rest → Follows ends_specs (rest_text rest after)
rest_follows names no_name after is = refl
rest_follows names (objects list) after is =
    starts_end_specs (with_commas declared_text list (semicolon ∷ after)) (objects_start names list (semicolon ∷ after) is.0 is.1)
rest_follows names (function head) after is =
    starts_end_specs (head_text head (semicolon ∷ after))
    (pointers_start head.pointers head.name (open_parenthesis ∷ parameters_text head.parameters (close_parenthesis ∷ semicolon ∷ after)) is.pointers)
rest_follows names (definition head body) after is =
    let h = is.0 in
    starts_end_specs (head_text head (open_brace ∷ items_text body (close_brace ∷ after)))
    (pointers_start head.pointers head.name
    (open_parenthesis ∷ parameters_text head.parameters (close_parenthesis ∷ open_brace ∷ items_text body (close_brace ∷ after))) h.pointers)

rest_append : (rest : ExternalRest) (x y : Kinds) → rest_text rest x ++ y ≡ rest_text rest (x ++ y)
rest_append no_name x y = refl
rest_append (objects list) x y = with_commas_append declared_text declared_append list (semicolon ∷ x) y
rest_append (function head) x y = head_append head (semicolon ∷ x) y
rest_append (definition head body) x y =
    head_append head (open_brace ∷ items_text body (close_brace ∷ x)) y
    ∙ ap (λ (r : Kinds). head_text head (open_brace ∷ r)) (items_append body (close_brace ∷ x) y)

pub rests_law : (names : Names) → Lawful (ExternalRests names)
rests_law names = rest_append

abbrev pub rests_least : (names : Names) → Least (ExternalRests names)
rests_least names = record { tree = no_name; is_phrase = tt; below = λ other is. omega arith }

pub external_joins : (names : Names) → Joins (FileSpecs names) (ExternalRests names)
external_joins names = λ c d after is is' shut. rest_follows names d after is'

-- an external declaration that isn't a typedef
abbrev pub external_single : (names : Names)
    → Single (Externals names) (Sequence (FileSpecs names) (ExternalRests names)) 1 [] (λ part. external_from part.0 part.1) HasNoTypedef
external_single names = record {
  production = record {
    invert = λ whole after following is fit same. external_invert names whole after following is fit same;
    shut = λ part after shut. tt;
    spelled = λ part after. external_spelled part.0 part.1 after;
    is_phrase = λ part is. external_is names part.0 part.1 is.0 is.1;
    taller = λ part. external_taller part.0 part.1;
  };
  law = sequence_law (FileSpecs names) (ExternalRests names) (file_specs_law names) (rests_law names);
  least = sequence_least (FileSpecs names) (ExternalRests names) (file_specs_least names) (rests_least names);
}

pub starts_semicolon : (tokens more : Kinds) → Starts tokens → tokens ≡ semicolon ∷ more → ⊥
starts_semicolon tokens more (with_star m e) same = let z = sym e ∙ same in cc
starts_semicolon tokens more (with_name n m e) same = let z = sym e ∙ same in cc

head_start : (names : Names) (head : Head) (rest : Kinds) → IsHead names head → Starts (head_text head rest)
head_start names head rest is =
    pointers_start head.pointers head.name (open_parenthesis ∷ parameters_text head.parameters (close_parenthesis ∷ rest)) is.pointers

semicolon_is : (names : Names) (other : ExternalRest) (after following : Kinds) → IsRest names other → rest_text other after ≡ semicolon ∷ following
    → (other ≡ no_name) × (after ≡ following)
semicolon_is names no_name after following is same = (refl, cc)
semicolon_is names (objects list) after following is same =
    absurd (starts_semicolon (with_commas declared_text list (semicolon ∷ after)) following (objects_start names list (semicolon ∷ after) is.0 is.1) same)
semicolon_is names (function head) after following is same =
    absurd (starts_semicolon (head_text head (semicolon ∷ after)) following (head_start names head (semicolon ∷ after) is) same)
semicolon_is names (definition head body) after following is same =
    absurd (starts_semicolon (head_text head (open_brace ∷ items_text body (close_brace ∷ after))) following
    (head_start names head (open_brace ∷ items_text body (close_brace ∷ after)) is.0) same)

-- a semicolon follows the specifiers
pub rest_no_name : (names : Names) (limit : ℕ) → Exactly (ExternalRests names) limit no_name
rest_no_name names limit = record {
  is_phrase = tt;
  low = omega arith;
  exact = λ other after following is same. semicolon_is names other after following is same;
}

-- the tokens begin neither with a semicolon nor with the name of a function and its parenthesis
pub record IsObjects (names : Names) (tokens : Kinds) : Type 0 where
  pub named : (more : Kinds) → tokens ≡ semicolon ∷ more → ⊥
  pub no_function : (ps : List PointerWord) (n : List ℕ) (more : Kinds) → IsTrue (is_pointer ps) → IsFree names n
      → tokens ≡ pointers_text ps (token.Name n ∷ open_parenthesis ∷ more) → ⊥

pub objects_invert : (names : Names) (whole : ExternalRest) (after following : Kinds) → IsRest names whole → IsObjects names following
    → rest_text whole after ≡ following → (part : List Declared) × (whole ≡ objects part) × (IsSomeList part × AreAll (IsDeclared names) part)
    × (following ≡ with_commas declared_text part (semicolon ∷ after))
objects_invert names (objects list) after following is fit same = (list, refl, is, sym same)
objects_invert names no_name after following is fit same = absurd (fit.named after (sym same))
objects_invert names (function head) after following is fit same =
    absurd (fit.no_function head.pointers head.name (parameters_text head.parameters (close_parenthesis ∷ semicolon ∷ after)) is.pointers is.free
    (sym same))
objects_invert names (definition head body) after following is fit same =
    let h = is.0 in
    absurd (fit.no_function head.pointers head.name
    (parameters_text head.parameters (close_parenthesis ∷ open_brace ∷ items_text body (close_brace ∷ after))) h.pointers h.free (sym same))

-- objects after the specifiers
abbrev pub objects_single : (names : Names) → Single (ExternalRests names) (Separated (ObjectClass names) semicolon) 0 [] objects (IsObjects names)
objects_single names = record {
  production = record {
    invert = λ whole after following is fit same. objects_invert names whole after following is fit same;
    shut = λ part after shut. tt;
    spelled = λ part after. refl;
    is_phrase = λ part is. is;
    taller = λ part. omega arith;
  };
  law = object_list_law names;
  least = object_list_least names;
}

-- what follows a declarator's name isn't a parenthesis
brackets_no_parenthesis : (bs : List (Option Written)) (rest more : Kinds) → ((m : Kinds) → rest ≡ open_parenthesis ∷ m → ⊥)
    → brackets_text bs rest ≡ open_parenthesis ∷ more → ⊥
brackets_no_parenthesis [] rest more none same = none more same
brackets_no_parenthesis (b ∷ bs) rest more none same = cc

value_no_parenthesis : (o : Option Initial) (rest more : Kinds) → ((m : Kinds) → rest ≡ open_parenthesis ∷ m → ⊥)
    → first_value_text o rest ≡ open_parenthesis ∷ more → ⊥
value_no_parenthesis None rest more none same = none more same
value_no_parenthesis (Some i) rest more none same = cc

objects_no_parenthesis : (list : List Declared) (after more : Kinds) → each_after_comma declared_text list (semicolon ∷ after) ≡ open_parenthesis ∷ more
    → ⊥
objects_no_parenthesis [] after more same = cc
objects_no_parenthesis (d ∷ ds) after more same = cc

pub no_objects : (list : List Declared) (after : Kinds) (ps : List PointerWord) (n : List ℕ) (more : Kinds) → IsSomeList list
    → with_commas declared_text list (semicolon ∷ after) ≡ pointers_text ps (token.Name n ∷ open_parenthesis ∷ more) → ⊥
no_objects [] after ps n more some same = some
no_objects (d ∷ ds) after ps n more some same =
    let rest = each_after_comma declared_text ds (semicolon ∷ after) in
    let k = pointers_name d.declarator.pointers ps d.declarator.name n (brackets_text d.declarator.bounds (first_value_text d.initial rest))
    (open_parenthesis ∷ more) same in
    brackets_no_parenthesis d.declarator.bounds (first_value_text d.initial rest) more
    (λ m e. value_no_parenthesis d.initial rest m (λ m' e'. objects_no_parenthesis ds after m' e') e) k.2

-- the head of a function was refused after its name and its parenthesis
heads_begun : (names : Names) (limit : ℕ) (front : Kinds) → BeginsLow (Heads names) limit front → BeginsLow (ExternalRests names) limit front
heads_begun names limit front b = record {
  phrase = function b.phrase;
  more = b.more ++ semicolon ∷ [];
  is_phrase = b.is_phrase;
  low = b.low;
  spelled = sym (head_append b.phrase [] (semicolon ∷ [])) ∙ ap (λ (x : Kinds). x ++ semicolon ∷ []) b.spelled
      ∙ append_assoc front b.more (semicolon ∷ []);
}

starts_same : (ps : List PointerWord) (n : List ℕ) (x more : Kinds) → IsTrue (is_pointer ps)
    → pointers_text ps (token.Name n ∷ x) ≡ semicolon ∷ more → ⊥
starts_same ps n x more p same = starts_semicolon (pointers_text ps (token.Name n ∷ x)) more (pointers_start ps n x p) same

head_front : (ps : List PointerWord) (n : List ℕ) (fs following : Kinds)
    → pointers_text ps (token.Name n ∷ open_parenthesis ∷ fs) ++ following ≡ pointers_text ps (token.Name n ∷ open_parenthesis ∷ (fs ++ following))
head_front ps n fs following = pointers_append ps (token.Name n ∷ open_parenthesis ∷ fs) following

heads_never : (names : Names) (limit : ℕ) (ps : List PointerWord) (n : List ℕ) (fs : Kinds) (next : TokenKind) (deep : Bool) → IsTrue (is_pointer ps)
    → Refused (Heads names) limit (pointers_text ps (token.Name n ∷ open_parenthesis ∷ fs)) next deep
    → (other : ExternalRest) (after following : Kinds) → IsRest names other → Near next following
    → rest_text other after ≡ pointers_text ps (token.Name n ∷ open_parenthesis ∷ fs) ++ following
    → IsOver (ExternalRests names) limit deep other following
heads_never names limit ps n fs next deep p r no_name after following is near same =
    absurd (starts_same ps n (open_parenthesis ∷ (fs ++ following)) after p (sym (same ∙ head_front ps n fs following)))
heads_never names limit ps n fs next deep p r (objects list) after following is near same =
    absurd (no_objects list after ps n (fs ++ following) is.0 (same ∙ head_front ps n fs following))
heads_never names limit ps n fs next deep p r (function head) after following is near same =
    let v = r.never head (semicolon ∷ after) following is tt near same in
    record { reported = v.reported; high = v.high; onward = v.onward }
heads_never names limit ps n fs next deep p r (definition head body) after following is near same =
    let v = r.never head (open_brace ∷ items_text body (close_brace ∷ after)) following is.0 tt near same in
    record { reported = v.reported; high = let h = v.high in omega (arith, h); onward = v.onward }

pub heads_refused : (names : Names) (limit : ℕ) (ps : List PointerWord) (n : List ℕ) (fs : Kinds) (next : TokenKind) (deep : Bool)
    → IsTrue (is_pointer ps) → Refused (Heads names) limit (pointers_text ps (token.Name n ∷ open_parenthesis ∷ fs)) next deep
    → Refused (ExternalRests names) limit (pointers_text ps (token.Name n ∷ open_parenthesis ∷ fs)) next deep
heads_refused names limit ps n fs next deep p r = record {
  begun = elim r.begun [
    | inl none ↦ inl none
    | inr b ↦ inr (heads_begun names limit (pointers_text ps (token.Name n ∷ open_parenthesis ∷ fs)) b)
  ];
  never = λ other after following is shut near same. heads_never names limit ps n fs next deep p r other after following is near same;
  further = λ reported.
      let b = r.further reported in
      record {
        phrase = function b.phrase;
        more = b.more ++ semicolon ∷ [];
        is_phrase = b.is_phrase;
        spelled = sym (head_append b.phrase [] (semicolon ∷ [])) ∙ ap (λ (x : Kinds). x ++ semicolon ∷ []) b.spelled
            ∙ append_assoc (pointers_text ps (token.Name n ∷ open_parenthesis ∷ fs) ++ next ∷ []) b.more (semicolon ∷ []);
      };
}

-- the function with this head and what follows it
abbrev pub function_of : Head → Option Items → ExternalRest
function_of head None = function head
function_of head (Some body) = definition head body

function_invert : (names : Names) (limit : ℕ) (head : Head) → Exactly (Heads names) limit head
    → (whole : ExternalRest) (after following : Kinds) → IsRest names whole → rest_text whole after ≡ head_text head following
    → (part : Option Items) × (whole ≡ function_of head part) × IsEnd names head part × (following ≡ end_text part after)
function_invert names limit head e no_name after following is same =
    let i = e.is_phrase in
    absurd (starts_same head.pointers head.name (open_parenthesis ∷ parameters_text head.parameters (close_parenthesis ∷ following)) after i.pointers
    (sym same))
function_invert names limit head e (objects list) after following is same =
    absurd (no_objects list after head.pointers head.name (parameters_text head.parameters (close_parenthesis ∷ following)) is.0 same)
function_invert names limit head e (function other) after following is same =
    let k = e.exact other (semicolon ∷ after) following is same in
    (None, ap function k.0, tt, sym k.1)
function_invert names limit head e (definition other body) after following is same =
    let k = e.exact other (open_brace ∷ items_text body (close_brace ∷ after)) following is.0 same in
    (Some body, ap (λ (h : Head). definition h body) k.0, (subst (λ (h : Head). AreNamed h.parameters) k.0 is.1, is.2), sym k.1)

function_spelled : (head : Head) (part : Option Items) (after : Kinds) → rest_text (function_of head part) after ≡ head_text head [] ++ end_text part after
function_spelled head None after = sym (head_append head [] (semicolon ∷ after))
function_spelled head (Some body) after = sym (head_append head [] (open_brace ∷ items_text body (close_brace ∷ after)))

function_is : (names : Names) (head : Head) (part : Option Items) → IsHead names head → IsEnd names head part → IsRest names (function_of head part)
function_is names head None i is = i
function_is names head (Some body) i is = (i, is.0, is.1)

function_low : (limit : ℕ) (head : Head) (part : Option Items) → head_height head ≤ limit → end_height part ≤ limit
    → rest_height (function_of head part) ≤ limit
function_low limit head None h low = h
function_low limit head (Some body) h low = omega (arith, h, low)

function_rises : (limit : ℕ) (head : Head) (part : Option Items) → limit < end_height part → limit < rest_height (function_of head part)
function_rises limit head None high = absurd (omega (arith, high))
function_rises limit head (Some body) high = omega (arith, high)

-- the head of a function was taken: a semicolon or a block remains
pub function_tail : (names : Names) (limit : ℕ) (head : Head) → Exactly (Heads names) limit head
    → Tail (ExternalRests names) (FunctionEnds names head) limit limit (head_text head []) (function_of head) (λ rest. Unit {0})
function_tail names limit head e = record {
  started = inr (record {
    phrase = function head;
    more = semicolon ∷ [];
    is_phrase = e.is_phrase;
    low = e.low;
    spelled = sym (head_append head [] (semicolon ∷ []));
  });
  invert = λ whole after following is shut fit same. function_invert names limit head e whole after following is (same ∙ head_append head [] following);
  shut = λ part after shut. tt;
  spelled = function_spelled head;
  is_phrase = λ part is. function_is names head part e.is_phrase is;
  low = λ part is low. function_low limit head part e.low low;
  rises = λ part high. function_rises limit head part high;
}

ends_append : (end : Option Items) (x y : Kinds) → end_text end x ++ y ≡ end_text end (x ++ y)
ends_append None x y = refl
ends_append (Some body) x y = ap (λ (r : Kinds). open_brace ∷ r) (items_append body (close_brace ∷ x) y)

pub ends_law : (names : Names) (head : Head) → Lawful (FunctionEnds names head)
ends_law names head = ends_append

semicolon_end : (names : Names) (head : Head) (other : Option Items) (after following : Kinds) → end_text other after ≡ semicolon ∷ following
    → (other ≡ None) × (after ≡ following)
semicolon_end names head None after following same = (refl, cc)
semicolon_end names head (Some body) after following same = absurd cc

-- a semicolon follows the head
pub end_semicolon : (names : Names) (head : Head) (limit : ℕ) → Exactly (FunctionEnds names head) limit None
end_semicolon names head limit = record {
  is_phrase = tt;
  low = omega arith;
  exact = λ other after following is same. semicolon_end names head other after following same;
}

end_has : (names : Names) (head : Head) (other : Option Items) (after : Kinds) → end_text other after ≡ [] → ⊥
end_has names head None after same = cc
end_has names head (Some body) after same = cc

end_other : (names : Names) (head : Head) (next : TokenKind) → (next ≡ semicolon → ⊥) → (next ≡ open_brace → AreNamed head.parameters → ⊥)
    → (other : Option Items) (after more : Kinds) → IsEnd names head other → end_text other after ≡ next ∷ more → ⊥
end_other names head next no_semicolon no_brace None after more is same = no_semicolon cc
end_other names head next no_semicolon no_brace (Some body) after more is same = let k : next ≡ open_brace = cc in no_brace k is.0

-- neither a semicolon nor a block follows the head, or a block follows one whose parameters don't all have a name
pub end_wrong : (names : Names) (head : Head) (limit : ℕ) (next : TokenKind) → (next ≡ semicolon → ⊥)
    → (next ≡ open_brace → AreNamed head.parameters → ⊥) → Refused (FunctionEnds names head) limit [] next false
end_wrong names head limit next no_semicolon no_brace =
    none_refused (FunctionEnds names head) limit next (λ o after is same. end_has names head o after same)
    (λ o after more is same. end_other names head next no_semicolon no_brace o after more is same)

body_invert : (names : Names) (head : Head) (whole : Option Items) (after following : Kinds) → IsEnd names head whole
    → end_text whole after ≡ open_brace ∷ following
    → (part : Items) × (whole ≡ Some part) × AreItems names part × (following ≡ items_text part (close_brace ∷ after))
body_invert names head None after following is same = absurd cc
body_invert names head (Some body) after following is same = (body, refl, is.1, cc)

pub body_production : (names : Names) (head : Head) → AreNamed head.parameters
    → Production (FunctionEnds names head) (BlockRows names) 1 (open_brace ∷ []) Some (λ rest. Unit {0})
body_production names head named = record {
  invert = λ whole after following is fit same. body_invert names head whole after following is same;
  shut = λ part after shut. tt;
  spelled = λ part after. refl;
  is_phrase = λ part is. (named, is);
  taller = λ part. refl;
}

-- the block of a function whose parameters all have a name
abbrev pub body_single : (names : Names) (head : Head) → AreNamed head.parameters
    → Single (FunctionEnds names head) (BlockRows names) 1 (open_brace ∷ []) Some (λ rest. Unit {0})
body_single names head named = record { production = body_production names head named; law = block_rows_law names; least = block_rows_least names }

-- specifiers, and so an external declaration, have at least one token
pub specs_has : (names : Names) (specs : Specs) (x : Kinds) → AreSpecs names specs → specs_text specs x ≡ [] → ⊥
specs_has names NoSpec x is same = false≢true is.0
specs_has names (MoreSpecs s others) x is same = let b = spec_starts s (specs_text others x) in let z : first_of s ∷ b.0 ≡ [] = sym b.1 ∙ same in cc

pub external_has : (names : Names) (e : External) (after : Kinds) → IsExternal names e → external_text e after ≡ [] → ⊥
external_has names (TypeAlone specs) after is same = specs_has names specs (semicolon ∷ after) is same
external_has names (Typedef specs list) after is same = cc
external_has names (Objects specs list) after is same = specs_has names specs (with_commas declared_text list (semicolon ∷ after)) is.0 same
external_has names (Function specs head) after is same = specs_has names specs (head_text head (semicolon ∷ after)) is.0 same
external_has names (Definition specs head body) after is same =
    specs_has names specs (head_text head (open_brace ∷ items_text body (close_brace ∷ after))) is.0 same

pub files_law : (names : Names) → Lawful (FilesFrom names)
files_law names = externals_append

file_invert : (names : Names) (limit : ℕ) (e : External) → Exactly (Externals names) limit e
    → (whole : List External) (after following : Kinds) → IsFile names whole → after ≡ [] → externals_text whole after ≡ external_text e following
    → (part : List External) × (whole ≡ e ∷ part) × IsFile (names_after names e) part × (following ≡ externals_text part after)
file_invert names limit e x [] after following is none same = absurd (external_has names e following x.is_phrase (sym same ∙ none))
file_invert names limit e x (o ∷ others) after following is none same =
    let k = x.exact o (externals_text others after) following is.0 same in
    (others, ap (λ (y : External). y ∷ others) k.0, subst (λ (y : External). IsFile (names_after names y) others) k.0 is.1, sym k.1)

-- an external declaration was taken: the rest of the file remains
pub file_tail : (names : Names) (limit : ℕ) (e : External) → Exactly (Externals names) limit e
    → Tail (FilesFrom names) (FilesFrom (names_after names e)) limit limit (external_text e []) (λ rest. e ∷ rest) (λ rest. Unit {0})
file_tail names limit e x =
    let low' = x.low in
    record {
      started = inr (record {
        phrase = e ∷ [];
        more = [];
        is_phrase = (x.is_phrase, tt);
        low = omega (arith, low');
        spelled = sym (append-nil (external_text e []));
      });
      invert = λ whole after following is shut fit same. file_invert names limit e x whole after following is shut (same ∙ external_append e [] following);
      shut = λ part after shut. shut;
      spelled = λ part after. sym (external_append e [] (externals_text part after));
      is_phrase = λ part is. (x.is_phrase, is);
      low = λ part is low. omega (arith, low', low);
      rises = λ part high. omega (arith, high);
    }

-- so many external declarations were taken, after which these are the typedef names
abbrev pub FileSoFar : Names → ℕ → List External → Type 0
FileSoFar names limit done = Tail (FilesFrom []) (FilesFrom names) limit limit (externals_text done []) (λ rest. done ++ rest) (λ rest. Unit {0})

pub file_none : (limit : ℕ) → FileSoFar [] limit []
file_none limit = tail_start (FilesFrom []) limit

files_split : (done more : List External) (x : Kinds) → externals_text (done ++ more) x ≡ externals_text done (externals_text more x)
files_split [] more x = refl
files_split (d ∷ ds) more x = ap (external_text d) (files_split ds more x)

-- one more external declaration was taken
pub file_more : (names : Names) (limit : ℕ) (done : List External) (e : External) → FileSoFar names limit done → Exactly (Externals names) limit e
    → FileSoFar (names_after names e) limit (done ++ e ∷ [])
file_more names limit done e so_far x =
    tail_as (FilesFrom []) (FilesFrom (names_after names e)) limit limit (externals_text done [] ++ external_text e []) (externals_text (done ++ e ∷ []) [])
    (λ rest. done ++ e ∷ rest) (λ rest. (done ++ e ∷ []) ++ rest) (λ rest. Unit {0}) (λ rest. Unit {0})
    (tail_then (FilesFrom []) (FilesFrom names) (FilesFrom (names_after names e)) limit limit limit (externals_text done []) (external_text e [])
    (λ rest. done ++ rest) (λ rest. e ∷ rest) (λ rest. Unit {0}) (λ rest. Unit {0}) (files_law names) so_far (file_tail names limit e x)
    (λ following fit. tt))
    (externals_append done [] (external_text e []) ∙ sym (files_split done (e ∷ []) []))
    (λ rest. sym (append_assoc done (e ∷ []) rest)) (λ following fit. tt)

pub are_low : (limit : ℕ) (file : List External) → highest_by external_height file ≤ limit → AreLow limit file
are_low limit [] low = tt
are_low limit (e ∷ es) low = (omega (arith, low), are_low limit es (omega (arith, low)))

pub highest_low : (limit : ℕ) (file : List External) → AreLow limit file → highest_by external_height file ≤ limit
highest_low limit [] low = omega arith
highest_low limit (e ∷ es) low = let h = highest_low limit es low.1 in let l = low.0 in omega (arith, h, l)

-- a token is refused after the external declarations that were taken and the tokens of the next one: a file within the limit begins
-- with them, and none with the token too; a higher one does exactly if that is reported
pub record FileRefused (limit : ℕ) (front : Kinds) (next : TokenKind) (deep : Bool) : Type 0 where
  pub begun : BeginsLowFile limit front
  pub never : BeginsLowFile limit (front ++ next ∷ []) → ⊥
  pub further : deep ≡ true → BeginsFile (front ++ next ∷ [])
  pub nothing : deep ≡ false → BeginsFile (front ++ next ∷ []) → ⊥

no_tokens : (front : Kinds) (next : TokenKind) (more : Kinds) → [] ≡ front ++ (next ∷ more) → ⊥
no_tokens [] next more same = cc
no_tokens (f ∷ fs) next more same = cc

rest_over : (names : Names) (limit : ℕ) (front : Kinds) (next : TokenKind) (deep : Bool) → Refused (Externals names) limit front next deep
    → (rest : List External) (more : Kinds) → IsFile names rest → externals_text rest [] ≡ front ++ (next ∷ more)
    → (deep ≡ true) × (limit < highest_by external_height rest)
rest_over names limit front next deep r [] more is same = absurd (no_tokens front next more same)
rest_over names limit front next deep r (e ∷ es) more is same =
    let v = r.never e (externals_text es []) (next ∷ more) is.0 tt (inr (more, refl)) same in
    (v.reported, let h = v.high in omega (arith, h))

file_over : (names : Names) (limit : ℕ) (done : List External) → FileSoFar names limit done
    → (front : Kinds) (next : TokenKind) (deep : Bool) → Refused (Externals names) limit front next deep
    → (file : List External) (more : Kinds) → IsFile [] file → file_text file ≡ ((externals_text done [] ++ front) ++ next ∷ []) ++ more
    → (deep ≡ true) × (limit < highest_by external_height file)
file_over names limit done so_far front next deep r file more is same =
    let s : externals_text file [] ≡ externals_text done [] ++ (front ++ (next ∷ more)) = same
    ∙ append_assoc (externals_text done [] ++ front) (next ∷ []) more ∙ append_assoc (externals_text done []) front (next ∷ more) in
    let f = so_far.invert file [] (front ++ (next ∷ more)) is refl tt s in
    let v = rest_over names limit front next deep r f.0 more f.2 (sym f.3) in
    (v.0, subst (λ (x : List External). limit < highest_by external_height x) (sym f.1) (so_far.rises f.0 v.1))

file_begun : (names : Names) (limit : ℕ) (done : List External) → FileSoFar names limit done
    → (front : Kinds) → (front ≡ []) ⊎ BeginsLow (Externals names) limit front → BeginsLowFile limit (externals_text done [] ++ front)
file_begun names limit done so_far front begun =
    elim begun [
      | inl none ↦ record {
        file = done ++ [];
        more = [];
        is_file = so_far.is_phrase [] tt;
        low = are_low limit (done ++ []) (so_far.low [] tt (omega arith));
        spelled = so_far.spelled [] [] ∙ ap (λ (x : Kinds). externals_text done [] ++ x) (sym none) ∙ sym (append-nil (externals_text done [] ++ front));
      }
      | inr b ↦
          let l = b.low in
          record {
            file = done ++ b.phrase ∷ [];
            more = b.more;
            is_file = so_far.is_phrase (b.phrase ∷ []) (b.is_phrase, tt);
            low = are_low limit (done ++ b.phrase ∷ []) (so_far.low (b.phrase ∷ []) (b.is_phrase, tt) (omega (arith, l)));
            spelled = so_far.spelled (b.phrase ∷ []) [] ∙ ap (λ (x : Kinds). externals_text done [] ++ x) b.spelled
                ∙ sym (append_assoc (externals_text done []) front b.more);
          }
    ]

-- an external declaration was refused
pub file_refused : (names : Names) (limit : ℕ) (done : List External) → FileSoFar names limit done
    → (front : Kinds) (next : TokenKind) (deep : Bool) → Refused (Externals names) limit front next deep
    → FileRefused limit (externals_text done [] ++ front) next deep
file_refused names limit done so_far front next deep r = record {
  begun = file_begun names limit done so_far front r.begun;
  never = λ b.
      let v = file_over names limit done so_far front next deep r b.file b.more b.is_file b.spelled in
      let h = highest_low limit b.file b.low in
      let k = v.1 in
      omega (arith, h, k);
  further = λ reported.
      let b = r.further reported in
      record {
        file = done ++ b.phrase ∷ [];
        more = b.more;
        is_file = so_far.is_phrase (b.phrase ∷ []) (b.is_phrase, tt);
        spelled =
            so_far.spelled (b.phrase ∷ []) [] ∙ ap (λ (x : Kinds). externals_text done [] ++ x) b.spelled
            ∙ sym (append_assoc (externals_text done []) (front ++ next ∷ []) b.more)
            ∙ ap (λ (x : Kinds). x ++ b.more) (sym (append_assoc (externals_text done []) front (next ∷ [])));
      };
  nothing = λ reported b. false≢true (sym reported ∙ (file_over names limit done so_far front next deep r b.file b.more b.is_file b.spelled).0);
}

rest_unfinished : (names : Names) (limit : ℕ) (front : Kinds) (next : TokenKind) (deep : Bool) → (front ≡ [] → ⊥)
    → Refused (Externals names) limit front next deep → (rest : List External) → IsFile names rest → externals_text rest [] ≡ front → ⊥
rest_unfinished names limit front next deep some r [] is same = some (sym same)
rest_unfinished names limit front next deep some r (e ∷ es) is same =
    let v = r.never e (externals_text es []) [] is.0 tt (inl refl) (same ∙ sym (append-nil front)) in
    v.onward refl

-- the tokens end inside an external declaration: they aren't those of a file
pub file_unfinished : (names : Names) (limit : ℕ) (done : List External) → FileSoFar names limit done
    → (front : Kinds) (next : TokenKind) (deep : Bool) → (front ≡ [] → ⊥) → Refused (Externals names) limit front next deep
    → (file : List External) → IsFile [] file → file_text file ≡ externals_text done [] ++ front → ⊥
file_unfinished names limit done so_far front next deep some r file is same =
    let f = so_far.invert file [] front is refl tt same in
    rest_unfinished names limit front next deep some r f.0 f.2 (sym f.3)

rest_ends : (names : Names) (rest : List External) → IsFile names rest → externals_text rest [] ≡ [] → rest ≡ []
rest_ends names [] is same = refl
rest_ends names (e ∷ es) is same = absurd (external_has names e (externals_text es []) is.0 same)

-- all external declarations were taken: this is the only file with these tokens, and within the limit
pub file_took : (names : Names) (limit : ℕ) (done : List External) → FileSoFar names limit done
    → IsFile [] done × AreLow limit done × ((file : List External) → IsFile [] file → file_text file ≡ file_text done → file ≡ done)
file_took names limit done so_far =
    let is = subst (IsFile []) (append-nil done) (so_far.is_phrase [] tt) in
    let low = subst (λ (x : List External). highest_by external_height x ≤ limit) (append-nil done) (so_far.low [] tt (omega arith)) in (
      is,
      are_low limit done low,
      λ file is' same.
          let f = so_far.invert file [] [] is' refl tt (same ∙ sym (append-nil (externals_text done []))) in
          let e = rest_ends names f.0 f.2 (sym f.3) in
          f.1 ∙ ap (λ (x : List External). done ++ x) e ∙ append-nil done,
    )
