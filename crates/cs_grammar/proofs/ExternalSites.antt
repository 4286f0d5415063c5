-- Returns of functions that parse external declarations, and what the limit doesn't allow: for the contracts of every parser of
-- files.
use Rattle.std.proofs.Common.{◌≡◌, ℕ, ◌+◌, ◌≤◌, inl, inr, Bool, true, false, IsTrue, List, [], ◌∷◌, ◌++◌, refl, sym, ap, ◌∙◌}
use Rattle.std.proofs.Common.{arith}
use Rattle.std.proofs.lemmas.Bool.{false≢true}
use Rattle.cs_ast.specs.declared.token.TokenKind.{TokenKind}
use Rattle.cs_ast.specs.declared.token.TokenKind.TheVariants as token
use Rattle.cs_ast.specs.declared.token.Keyword.TheVariants as keyword
use Rattle.cs_ast.specs.declared.token.Punctuator.TheVariants as punctuator
use Rattle.cs_ast.specs.declared.raw.written_type.TypeWord.TheVariants as word
use Rattle.cs_ast.specs.declared.raw.written_type.IntegerWord.TheVariants.{Char, Short, Int, Long, Signed, Unsigned}
use Rattle.cs_ast.specs.declared.raw.written_type.PointerWord.{PointerWord}
use Rattle.cs_ast.specs.declared.raw.written_type.PointerWord.TheVariants as pointer
use Rattle.cs_ast.specs.RawDeclarations.{Declared, Spec, Static, Plain, StructBody, EnumBody, Specs, NoSpec, MoreSpecs}
use Rattle.cs_grammar.specs.TypeWords.{Names, is_pointer}
use Rattle.cs_grammar.specs.Text.{Kinds, pointers_text}
use Rattle.cs_grammar.specs.FileText.{declared_text, with_commas, specs_text}
use Rattle.cs_grammar.specs.FilePhrases.{IsFree, AreSpecs}
use Rattle.cs_grammar.specs.DeclarationClasses.{Objects as ObjectClass, FileSpecs, Externals}
use Rattle.cs_grammar.specs.FileParts.{objects, ExternalRests, external_from}
use Rattle.cs_grammar.specs.Parsing.{Near, Took, Refused}
use Rattle.cs_grammar.specs.Composed.{Sequence, Separated}
use Rattle.cs_grammar.proofs.Texts.{pointers_append}
use Rattle.cs_grammar.proofs.BlockItems.{objects_start}
use Rattle.cs_grammar.proofs.Tails.{first_or, none_refused}
use Rattle.cs_grammar.proofs.Pairs.{single_refused, single_took}
use Rattle.cs_grammar.proofs.Statements.{open_parenthesis, semicolon}
use Rattle.cs_grammar.proofs.Declarators.{pointers_name}
use Rattle.cs_grammar.proofs.SpecRows.{first_of, spec_starts}
use Rattle.cs_grammar.proofs.FileRules.{starts_semicolon, no_objects, HasNoTypedef, ExternalParts, external_single, objects_single, specs_has}

-- the token begins specifiers outside blocks, if a name is a typedef name
abbrev pub begins_spec : TokenKind → Bool
begins_spec (token.Name name) = true
begins_spec (token.Keyword keyword.Static) = true
begins_spec (token.Keyword keyword.Const) = true
begins_spec (token.Keyword keyword.Void) = true
begins_spec (token.Keyword keyword.Struct) = true
begins_spec (token.Keyword keyword.Enum) = true
begins_spec (token.Keyword keyword.Char) = true
begins_spec (token.Keyword keyword.Short) = true
begins_spec (token.Keyword keyword.Int) = true
begins_spec (token.Keyword keyword.Long) = true
begins_spec (token.Keyword keyword.Signed) = true
begins_spec (token.Keyword keyword.Unsigned) = true
begins_spec other = false

pub first_begins : (s : Spec) → begins_spec (first_of s) ≡ true
first_begins Static = refl
first_begins (Plain word.Const) = refl
first_begins (Plain word.Void) = refl
first_begins (Plain (word.Integer Char)) = refl
first_begins (Plain (word.Integer Short)) = refl
first_begins (Plain (word.Integer Int)) = refl
first_begins (Plain (word.Integer Long)) = refl
first_begins (Plain (word.Integer Signed)) = refl
first_begins (Plain (word.Integer Unsigned)) = refl
first_begins (Plain (word.Typedef n)) = refl
first_begins (Plain (word.Struct tag)) = refl
first_begins (Plain (word.Enum tag)) = refl
first_begins (StructBody tag members) = refl
first_begins (EnumBody tag constants comma) = refl

pub specs_first : (names : Names) (specs : Specs) (x : Kinds) (t : TokenKind) (more : Kinds) → AreSpecs names specs → specs_text specs x ≡ t ∷ more
    → begins_spec t ≡ true
specs_first names NoSpec x t more is same = absurd (false≢true is.0)
specs_first names (MoreSpecs s others) x t more is same =
    let b = spec_starts s (specs_text others x) in
    let z : first_of s ∷ b.0 ≡ t ∷ more = sym b.1 ∙ same in
    let k : first_of s ≡ t = cc in
    ap begins_spec (sym k) ∙ first_begins s

-- no specifiers begin with the token
pub specs_not : (names : Names) (limit : ℕ) (next : TokenKind) → begins_spec next ≡ false → Refused (FileSpecs names) limit [] next false
specs_not names limit next none =
    none_refused (FileSpecs names) limit next (specs_has names)
    (λ s after more is same. false≢true (sym none ∙ specs_first names s after next more is same))

-- the tokens of an external declaration that was refused don't begin with `typedef`
typedef_fits : (front : Kinds) (next : TokenKind) → (first_or front next ≡ token.Keyword keyword.Typedef → ⊥)
    → (following : Kinds) → Near next following → HasNoTypedef (front ++ following)
typedef_fits [] next none following near more same =
    elim near [
      | inl e ↦ let z = sym same ∙ e in cc
      | inr m ↦ let z : token.Keyword keyword.Typedef ∷ more ≡ next ∷ m.0 = sym same ∙ m.1 in none cc
    ]
typedef_fits (f ∷ fs) next none following near more same = none cc

-- an external declaration that isn't a typedef was refused
pub external_refused : (names : Names) (limit inner : ℕ) → limit ≡ 1 + inner → 1 ≤ inner
    → (front : Kinds) (next : TokenKind) (deep : Bool) → (first_or front next ≡ token.Keyword keyword.Typedef → ⊥)
    → Refused (Sequence (FileSpecs names) (ExternalRests names)) inner front next deep → Refused (Externals names) limit front next deep
external_refused names limit inner less some front next deep none r =
    single_refused (external_single names) limit inner (less, omega (arith, some)) front next deep (typedef_fits front next none) r

specs_no_typedef : (names : Names) (specs : Specs) (x : Kinds) → AreSpecs names specs → HasNoTypedef (specs_text specs x)
specs_no_typedef names specs x is more same = false≢true (specs_first names specs x (token.Keyword keyword.Typedef) more is same)

-- an external declaration that isn't a typedef was taken
pub external_took : (names : Names) (limit inner : ℕ) → limit ≡ 1 + inner → 1 ≤ inner
    → (part : ExternalParts) (next : TokenKind) (deep : Bool) → Took (Sequence (FileSpecs names) (ExternalRests names)) inner part next deep
    → Took (Externals names) limit (external_from part.0 part.1) next deep
external_took names limit inner less some part next deep t =
    single_took (external_single names) limit inner (less, omega (arith, some)) part next deep
    (λ following near. specs_no_typedef names part.0 ((ExternalRests names).spell part.1 following) t.is_phrase.0) t

-- the tokens so far, with the next one, don't begin with the name of a function and a parenthesis
abbrev pub NoFunction : Names → Kinds → TokenKind → Type 0
NoFunction names front next = (following : Kinds) → Near next following → (ps : List PointerWord) (n : List ℕ) (more : Kinds) → IsTrue (is_pointer ps)
    → IsFree names n → front ++ following ≡ pointers_text ps (token.Name n ∷ open_parenthesis ∷ more) → ⊥

no_function_words : (names : Names) (qs : List PointerWord) (next : TokenKind) → (next ≡ token.Punctuator punctuator.Star → ⊥)
    → (next ≡ token.Keyword keyword.Const → ⊥) → ((n : List ℕ) → next ≡ token.Name n → IsFree names n → ⊥)
    → (following : Kinds) → Near next following → (ps : List PointerWord) (n : List ℕ) (more : Kinds) → IsFree names n
    → pointers_text qs [] ++ following ≡ pointers_text ps (token.Name n ∷ open_parenthesis ∷ more) → ⊥
no_function_words names [] next no_star no_const no_name following near [] n more free same =
    elim near [
      | inl e ↦ let z = sym same ∙ e in cc
      | inr m ↦ let z : token.Name n ∷ open_parenthesis ∷ more ≡ next ∷ m.0 = sym same ∙ m.1 in let k : next ≡ token.Name n = cc in
          no_name n k free
    ]
no_function_words names [] next no_star no_const no_name following near (pointer.Star ∷ ps) n more free same =
    elim near [
      | inl e ↦ let z = sym same ∙ e in cc
      | inr m ↦ let z : token.Punctuator punctuator.Star ∷ pointers_text ps (token.Name n ∷ open_parenthesis ∷ more) ≡ next ∷ m.0 = sym same
          ∙ m.1 in no_star cc
    ]
no_function_words names [] next no_star no_const no_name following near (pointer.Const ∷ ps) n more free same =
    elim near [
      | inl e ↦ let z = sym same ∙ e in cc
      | inr m ↦ let z : token.Keyword keyword.Const ∷ pointers_text ps (token.Name n ∷ open_parenthesis ∷ more) ≡ next ∷ m.0 = sym same ∙ m.1 in
          no_const cc
    ]
no_function_words names (pointer.Star ∷ qs) next no_star no_const no_name following near [] n more free same = cc
no_function_words names (pointer.Const ∷ qs) next no_star no_const no_name following near [] n more free same = cc
no_function_words names (pointer.Star ∷ qs) next no_star no_const no_name following near (pointer.Const ∷ ps) n more free same = cc
no_function_words names (pointer.Const ∷ qs) next no_star no_const no_name following near (pointer.Star ∷ ps) n more free same = cc
no_function_words names (pointer.Star ∷ qs) next no_star no_const no_name following near (pointer.Star ∷ ps) n more free same =
    no_function_words names qs next no_star no_const no_name following near ps n more free cc
no_function_words names (pointer.Const ∷ qs) next no_star no_const no_name following near (pointer.Const ∷ ps) n more free same =
    no_function_words names qs next no_star no_const no_name following near ps n more free cc

second_parenthesis : (fs : Kinds) (next : TokenKind) (following more : Kinds) → (first_or fs next ≡ open_parenthesis → ⊥) → Near next following
    → fs ++ following ≡ open_parenthesis ∷ more → ⊥
second_parenthesis [] next following more other near same =
    elim near [ inl e ↦ let z = sym same ∙ e in cc | inr m ↦ let z : open_parenthesis ∷ more ≡ next ∷ m.0 = sym same ∙ m.1 in other cc ]
second_parenthesis (f ∷ fs) next following more other near same = other cc

named_first : (front : Kinds) (next : TokenKind) (following more : Kinds) → (first_or front next ≡ semicolon → ⊥) → Near next following
    → front ++ following ≡ semicolon ∷ more → ⊥
named_first [] next following more other near same =
    elim near [ inl e ↦ let z = sym same ∙ e in cc | inr m ↦ let z : semicolon ∷ more ≡ next ∷ m.0 = sym same ∙ m.1 in other cc ]
named_first (f ∷ fs) next following more other near same = other cc

-- pointers so far, and a next token that is neither one of their words nor a name that may be declared
pub no_function_pointers : (names : Names) (qs : List PointerWord) (next : TokenKind) → (next ≡ token.Punctuator punctuator.Star → ⊥)
    → (next ≡ token.Keyword keyword.Const → ⊥) → ((n : List ℕ) → next ≡ token.Name n → IsFree names n → ⊥)
    → NoFunction names (pointers_text qs []) next
no_function_pointers names qs next no_star no_const no_name following near ps n more p free same =
    no_function_words names qs next no_star no_const no_name following near ps n more free same

-- pointers and a name so far, and a token after the name that is no parenthesis
pub no_function_name : (names : Names) (qs : List PointerWord) (m : List ℕ) (fs : Kinds) (next : TokenKind)
    → (first_or fs next ≡ open_parenthesis → ⊥) → NoFunction names (pointers_text qs (token.Name m ∷ fs)) next
no_function_name names qs m fs next other following near ps n more p free same =
    let k = pointers_name qs ps m n (fs ++ following) (open_parenthesis ∷ more) (sym (pointers_append qs (token.Name m ∷ fs) following) ∙ same) in
    second_parenthesis fs next following more other near k.2

-- objects were refused
pub objects_refused : (names : Names) (limit : ℕ) → 1 ≤ limit
    → (front : Kinds) (next : TokenKind) (deep : Bool) → (first_or front next ≡ semicolon → ⊥) → NoFunction names front next
    → Refused (Separated (ObjectClass names) semicolon) limit front next deep → Refused (ExternalRests names) limit front next deep
objects_refused names limit some front next deep named none r =
    single_refused (objects_single names) limit limit (omega arith, some) front next deep
    (λ following near.
    record {
      named = λ more same. named_first front next following more named near same;
      no_function = λ ps n more p free same. none following near ps n more p free same;
    }) r

-- objects were taken
pub objects_took : (names : Names) (limit : ℕ) → 1 ≤ limit
    → (list : List Declared) (next : TokenKind) (deep : Bool) → Took (Separated (ObjectClass names) semicolon) limit list next deep
    → Took (ExternalRests names) limit (objects list) next deep
objects_took names limit some list next deep t =
    single_took (objects_single names) limit limit (omega arith, some) list next deep
    (λ following near. record {
      named = λ more same. starts_semicolon (with_commas declared_text list (semicolon ∷ following)) more
          (objects_start names list (semicolon ∷ following) t.is_phrase.0 t.is_phrase.1) same;
      no_function = λ ps n more p free same. no_objects list following ps n more t.is_phrase.0 same;
    }) t
