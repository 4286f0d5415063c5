-- The size of a text and what follows it, and of texts and lists of two parts: for `typed_nodes_are_bounded` and `declarations_are_bounded`.
use Rattle.std.proofs.Common.{◌≡◌, ℕ, zero, suc, ◌+◌, ◌≤◌, List, [], ◌∷◌, ◌++◌, map, set, sum, sym, ap, ◌∙◌, arith}
use Rattle.std.proofs.lemmas.List.{map-append}
use Rattle.std.proofs.lemmas.List.Sums.{sum_by-append, sum_by-cons}
use Rattle.cs_ast.specs.declared.token.TokenKind.{TokenKind}
use Rattle.cs_ast.specs.declared.token.TokenKind.TheVariants as token
use Rattle.cs_ast.specs.declared.raw.written_type.TypeWord.{TypeWord}
use Rattle.cs_ast.specs.declared.raw.written_type.PointerWord.{PointerWord}
use Rattle.cs_ast.specs.RawTree.{Written, WrittenList}
use Rattle.cs_ast.specs.RawDeclarations.{Declarator, Spec, Specs, Members, Initial, Initials, Parameter, Parameters}
use Rattle.cs_grammar.specs.Text.{Kinds, words_text, pointers_text, text, listed, after_commas, bounds_text}
use Rattle.cs_grammar.specs.FileText.{each_after_comma, with_commas, declarator_text, spec_text, specs_text, members_text, initial_text, initials_text}
use Rattle.cs_grammar.specs.FileText.{further_initials_text, parameter_text, parameters_text}
use Rattle.cs_grammar.proofs.Texts.{words_append, pointers_append, text_append, listed_append, commas_append, bounds_append}
use Rattle.cs_grammar.proofs.FileTexts.{each_append, with_commas_append, declarator_append, spec_append, specs_append, members_append, initial_append}
use Rattle.cs_grammar.proofs.FileTexts.{initials_append, further_initials_append, parameter_append, parameters_append}
use Rattle.cs_well_formed.specs.Nodes.{all_nodes}
use Rattle.cs_ast.specs.TokenSizes.{token_size}
use Rattle.cs_well_formed.specs.Sizes.{text_size, size_of}

-- two texts, one after the other
pub text_size-append : (x y : Kinds) → text_size (x ++ y) ≡ text_size x + text_size y
text_size-append [] y = omega arith
text_size-append (t ∷ x) y = omega (arith, text_size-append x y)

-- a text, and the tokens after it
pub size-following : (spell : Kinds → Kinds) → ((x y : Kinds) → spell x ++ y ≡ spell (x ++ y))
    → (rest : Kinds) → text_size (spell rest) ≡ size_of spell + text_size rest
size-following spell law rest = ap text_size (sym (law [] rest)) ∙ text_size-append (spell []) rest

pub size-text : (e : Written) (rest : Kinds) → text_size (text e rest) ≡ size_of (text e) + text_size rest
size-text e = size-following (text e) (text_append e)

pub size-listed : (es : WrittenList) (rest : Kinds) → text_size (listed es rest) ≡ size_of (listed es) + text_size rest
size-listed es = size-following (listed es) (listed_append es)

pub size-commas : (es : WrittenList) (rest : Kinds) → text_size (after_commas es rest) ≡ size_of (after_commas es) + text_size rest
size-commas es = size-following (after_commas es) (commas_append es)

pub size-bounds : (es : WrittenList) (rest : Kinds) → text_size (bounds_text es rest) ≡ size_of (bounds_text es) + text_size rest
size-bounds es = size-following (bounds_text es) (bounds_append es)

pub size-words : (words : List TypeWord) (rest : Kinds) → text_size (words_text words rest) ≡ size_of (words_text words) + text_size rest
size-words words = size-following (words_text words) (words_append words)

pub size-pointers : (pointers : List PointerWord) (rest : Kinds)
    → text_size (pointers_text pointers rest) ≡ size_of (pointers_text pointers) + text_size rest
size-pointers pointers = size-following (pointers_text pointers) (pointers_append pointers)

pub size-each : {A : Type 0} (of : A → Kinds → Kinds) → ((a : A) (x y : Kinds) → of a x ++ y ≡ of a (x ++ y))
    → (all : List A) (rest : Kinds) → text_size (each_after_comma of all rest) ≡ size_of (each_after_comma of all) + text_size rest
size-each of law all = size-following (each_after_comma of all) (each_append of law all)

pub size-with_commas : {A : Type 0} (of : A → Kinds → Kinds) → ((a : A) (x y : Kinds) → of a x ++ y ≡ of a (x ++ y))
    → (all : List A) (rest : Kinds) → text_size (with_commas of all rest) ≡ size_of (with_commas of all) + text_size rest
size-with_commas of law all = size-following (with_commas of all) (with_commas_append of law all)

pub size-declarator : (d : Declarator) (rest : Kinds) → text_size (declarator_text d rest) ≡ size_of (declarator_text d) + text_size rest
size-declarator d = size-following (declarator_text d) (declarator_append d)

pub size-spec : (s : Spec) (rest : Kinds) → text_size (spec_text s rest) ≡ size_of (spec_text s) + text_size rest
size-spec s = size-following (spec_text s) (spec_append s)

pub size-specs : (s : Specs) (rest : Kinds) → text_size (specs_text s rest) ≡ size_of (specs_text s) + text_size rest
size-specs s = size-following (specs_text s) (specs_append s)

pub size-members : (m : Members) (rest : Kinds) → text_size (members_text m rest) ≡ size_of (members_text m) + text_size rest
size-members m = size-following (members_text m) (members_append m)

pub size-initial : (i : Initial) (rest : Kinds) → text_size (initial_text i rest) ≡ size_of (initial_text i) + text_size rest
size-initial i = size-following (initial_text i) (initial_append i)

pub size-initials : (i : Initials) (rest : Kinds) → text_size (initials_text i rest) ≡ size_of (initials_text i) + text_size rest
size-initials i = size-following (initials_text i) (initials_append i)

pub size-further_initials : (i : Initials) (rest : Kinds) → text_size (further_initials_text i rest) ≡ size_of (further_initials_text i) + text_size rest
size-further_initials i = size-following (further_initials_text i) (further_initials_append i)

pub size-parameter : (p : Parameter) (rest : Kinds) → text_size (parameter_text p rest) ≡ size_of (parameter_text p) + text_size rest
size-parameter p = size-following (parameter_text p) (parameter_append p)

pub size-parameters : (ps : Parameters) (rest : Kinds) → text_size (parameters_text ps rest) ≡ size_of (parameters_text ps) + text_size rest
size-parameters ps = size-following (parameters_text ps) (parameters_append ps)

-- the size of a token is at least 1
pub token-some : (t : TokenKind) → 1 ≤ token_size t
token-some (token.Text bytes) = omega arith
token-some other = omega arith

-- the nodes of two lists joined, and of a list with one more element
pub all_nodes-append : {T : Type 0} (count : T → ℕ) (xs ys : List T) → all_nodes count (xs ++ ys) ≡ all_nodes count xs + all_nodes count ys
all_nodes-append count xs ys = ap sum (map-append count xs ys) ∙ sum_by-append (λ (n : ℕ). n) (map count xs) (map count ys)

pub all_nodes-cons : {T : Type 0} (count : T → ℕ) (x : T) (xs : List T) → all_nodes count (x ∷ xs) ≡ count x + all_nodes count xs
all_nodes-cons count x xs = sum_by-cons (λ (n : ℕ). n) (count x) (map count xs)

-- the nodes of a list with one element replaced
pub all_nodes-set : {T : Type 0} (count : T → ℕ) (xs : List T) (i : ℕ) (y : T) → all_nodes count (set xs i y) ≤ all_nodes count xs + count y
all_nodes-set count [] i y = omega arith
all_nodes-set count (x ∷ xs) zero y = omega (arith, all_nodes-cons count x xs, all_nodes-cons count y xs)
all_nodes-set count (x ∷ xs) (suc i) y = omega (arith, all_nodes-cons count x xs, all_nodes-cons count x (set xs i y), all_nodes-set count xs i y)
