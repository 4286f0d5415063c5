-- Parameter lists, and the declarators of functions: for the contracts of every parser of declarations.
use Rattle.std.proofs.Common.{◌≡◌, ◌≢◌, ℕ, ◌≤◌, ◌⊎◌, inl, inr, Bool, true, false, IsTrue, List, [], ◌∷◌, ◌++◌, Option, Some}
use Rattle.std.proofs.Common.{None, refl, sym, ap, ◌∙◌, arith}
use Rattle.std.proofs.lemmas.Bool.{false≢true}
use Rattle.cs_ast.specs.declared.token.TokenKind.{TokenKind}
use Rattle.cs_ast.specs.declared.token.TokenKind.TheVariants as token
use Rattle.cs_ast.specs.declared.token.Keyword.TheVariants as keyword
use Rattle.cs_ast.specs.declared.token.Punctuator.{Punctuator}
use Rattle.cs_ast.specs.declared.token.Punctuator.TheVariants as punctuator
use Rattle.cs_ast.specs.declared.raw.written_type.TypeWord.TheVariants as word
use Rattle.cs_ast.specs.declared.raw.written_type.IntegerWord.TheVariants.{Char, Short, Int, Long, Signed, Unsigned}
use Rattle.cs_ast.specs.declared.raw.written_type.PointerWord.{PointerWord}
use Rattle.cs_ast.specs.declared.raw.written_type.PointerWord.TheVariants as pointer
use Rattle.cs_ast.specs.RawTree.{Written}
use Rattle.cs_ast.specs.RawDeclarations.{Spec, Static, Plain, StructBody, EnumBody, Specs, NoSpec, MoreSpecs, Parameter, Parameters, NoParameter, VoidAlone}
use Rattle.cs_ast.specs.RawDeclarations.{ParameterList, Head}
use Rattle.cs_ast.specs.RawFileHeight.{highest_by, parameter_height, parameters_height}
use Rattle.cs_grammar.specs.TypeWords.{Names, is_pointer}
use Rattle.cs_grammar.specs.Text.{Kinds, pointers_text}
use Rattle.cs_grammar.specs.FileText.{name_text, brackets_text, each_after_comma, with_commas, spec_text, specs_text, parameter_text, parameters_text}
use Rattle.cs_grammar.specs.FileText.{head_text}
use Rattle.cs_grammar.specs.FilePhrases.{AreAll, IsSomeList, IsFree, IsParameter, lone_void, AreParameters, IsHead}
use Rattle.cs_grammar.specs.DeclarationClasses.{ParameterTail, ParameterClass, ParameterRows, ParameterLists, Heads}
use Rattle.cs_grammar.specs.Parsing.{Begins, BeginsLow, Took, Refused, Exactly}
use Rattle.cs_grammar.specs.Composed.{Following, Separated}
use Rattle.cs_grammar.proofs.Texts.{pointers_append}
use Rattle.cs_grammar.proofs.FileTexts.{parameter_append, with_commas_append, parameters_append, head_append}
use Rattle.cs_grammar.proofs.Holes.{Lawful}
use Rattle.cs_grammar.proofs.Tails.{Least}
use Rattle.cs_grammar.proofs.Sequences.{after_law, after_least}
use Rattle.cs_grammar.proofs.Pairs.{Single}
use Rattle.cs_grammar.proofs.Statements.{open_parenthesis, close_parenthesis}
use Rattle.cs_grammar.proofs.Declarators.{pointers_name}
use Rattle.cs_grammar.proofs.Bodies.{specs_no_punctuator}
use Rattle.cs_grammar.proofs.ParameterRules.{tail_of, parameter_of, int_parameter, int_is, parameter_high}

-- no parameter list begins with a punctuator
pub rows_no_punctuator : (names : Names) (list : List Parameter) (rest : Kinds) (m : Punctuator) (more : Kinds) → IsSomeList list
    → AreAll (IsParameter names) list → with_commas parameter_text list rest ≡ token.Punctuator m ∷ more → ⊥
rows_no_punctuator names [] rest m more some are same = some
rows_no_punctuator names (p ∷ ps) rest m more some are same =
    let i = are.0 in
    specs_no_punctuator names p.specs (pointers_text p.pointers (name_text p.name (brackets_text p.bounds (each_after_comma parameter_text ps rest)))) m more
    i.specs same

none_is : (names : Names) (other : Parameters) (after following : Kinds) → AreParameters names other
    → parameters_text other (close_parenthesis ∷ after) ≡ close_parenthesis ∷ following → (other ≡ NoParameter) × (after ≡ following)
none_is names NoParameter after following are same = (refl, cc)
none_is names VoidAlone after following are same = absurd cc
none_is names (ParameterList list) after following are same =
    absurd (rows_no_punctuator names list (close_parenthesis ∷ after) punctuator.CloseParenthesis following are.0 are.2 same)

-- the next token is the closing parenthesis
pub lists_none : (names : Names) (limit : ℕ) → 1 ≤ limit → Exactly (ParameterLists names) limit NoParameter
lists_none names limit some = record { is_phrase = tt; low = some; exact = λ other after following is same. none_is names other after following is same }

-- a specifier that begins with `void` is `void`
void_spec : (s : Spec) (x more : Kinds) → spec_text s x ≡ token.Keyword keyword.Void ∷ more → (s ≡ Plain word.Void) × (x ≡ more)
void_spec (Plain word.Void) x more same = (refl, cc)
void_spec Static x more same = absurd cc
void_spec (Plain word.Const) x more same = absurd cc
void_spec (Plain (word.Typedef n)) x more same = absurd cc
void_spec (Plain (word.Struct tag)) x more same = absurd cc
void_spec (Plain (word.Enum tag)) x more same = absurd cc
void_spec (Plain (word.Integer Char)) x more same = absurd cc
void_spec (Plain (word.Integer Short)) x more same = absurd cc
void_spec (Plain (word.Integer Int)) x more same = absurd cc
void_spec (Plain (word.Integer Long)) x more same = absurd cc
void_spec (Plain (word.Integer Signed)) x more same = absurd cc
void_spec (Plain (word.Integer Unsigned)) x more same = absurd cc
void_spec (StructBody tag members) x more same = absurd cc
void_spec (EnumBody tag constants comma) x more same = absurd cc

closing_specs : (specs : Specs) (x more : Kinds) → specs_text specs x ≡ close_parenthesis ∷ more → specs ≡ NoSpec
closing_specs NoSpec x more same = refl
closing_specs (MoreSpecs Static others) x more same = absurd cc
closing_specs (MoreSpecs (Plain word.Const) others) x more same = absurd cc
closing_specs (MoreSpecs (Plain word.Void) others) x more same = absurd cc
closing_specs (MoreSpecs (Plain (word.Typedef n)) others) x more same = absurd cc
closing_specs (MoreSpecs (Plain (word.Struct tag)) others) x more same = absurd cc
closing_specs (MoreSpecs (Plain (word.Enum tag)) others) x more same = absurd cc
closing_specs (MoreSpecs (Plain (word.Integer Char)) others) x more same = absurd cc
closing_specs (MoreSpecs (Plain (word.Integer Short)) others) x more same = absurd cc
closing_specs (MoreSpecs (Plain (word.Integer Int)) others) x more same = absurd cc
closing_specs (MoreSpecs (Plain (word.Integer Long)) others) x more same = absurd cc
closing_specs (MoreSpecs (Plain (word.Integer Signed)) others) x more same = absurd cc
closing_specs (MoreSpecs (Plain (word.Integer Unsigned)) others) x more same = absurd cc
closing_specs (MoreSpecs (StructBody tag members) others) x more same = absurd cc
closing_specs (MoreSpecs (EnumBody tag constants comma) others) x more same = absurd cc

-- if the rest of a parameter and of its list is only a closing parenthesis, the parameter has only its specifiers
closing_tail : (ps : List PointerWord) (o : Option (List ℕ)) (bs : List (Option Written)) (list : List Parameter) (after more : Kinds)
    → pointers_text ps (name_text o (brackets_text bs (each_after_comma parameter_text list (close_parenthesis ∷ after)))) ≡ close_parenthesis ∷ more
    → (tail_of ps o bs ≡ tail_of [] None []) × (list ≡ []) × (after ≡ more)
closing_tail [] None [] [] after more same = (refl, refl, cc)
closing_tail [] None [] (p ∷ list) after more same = absurd cc
closing_tail [] None (b ∷ bs) list after more same = absurd cc
closing_tail [] (Some n) bs list after more same = absurd cc
closing_tail (pointer.Star ∷ ps) o bs list after more same = absurd cc
closing_tail (pointer.Const ∷ ps) o bs list after more same = absurd cc

no_void : (ps : List PointerWord) (o : Option (List ℕ)) (bs : List (Option Written)) (list : List Parameter) (after more : Kinds)
    → pointers_text ps (name_text o (brackets_text bs (each_after_comma parameter_text list (close_parenthesis ∷ after))))
    ≡ token.Keyword keyword.Void ∷ more → ⊥
no_void [] None [] [] after more same = cc
no_void [] None [] (p ∷ list) after more same = cc
no_void [] None (b ∷ bs) list after more same = cc
no_void [] (Some n) bs list after more same = cc
no_void (pointer.Star ∷ ps) o bs list after more same = cc
no_void (pointer.Const ∷ ps) o bs list after more same = cc

lone_specs : (specs : Specs) (ps : List PointerWord) (o : Option (List ℕ)) (bs : List (Option Written)) (list : List Parameter) (after more : Kinds)
    → specs_text specs (pointers_text ps (name_text o (brackets_text bs (each_after_comma parameter_text list (close_parenthesis ∷ after)))))
    ≡ token.Keyword keyword.Void ∷ close_parenthesis ∷ more
    → (specs ≡ MoreSpecs (Plain word.Void) NoSpec) × (tail_of ps o bs ≡ tail_of [] None []) × (list ≡ [])
lone_specs NoSpec ps o bs list after more same = absurd (no_void ps o bs list after (close_parenthesis ∷ more) same)
lone_specs (MoreSpecs s others) ps o bs list after more same =
    let rest = pointers_text ps (name_text o (brackets_text bs (each_after_comma parameter_text list (close_parenthesis ∷ after)))) in
    let k = void_spec s (specs_text others rest) (close_parenthesis ∷ more) same in
    let e = closing_specs others rest more k.1 in
    let t = closing_tail ps o bs list after more (ap (λ (x : Specs). specs_text x rest) (sym e) ∙ k.1) in
    (ap (λ (x : Spec). MoreSpecs x others) k.0 ∙ ap (MoreSpecs (Plain word.Void)) e, t.0, t.1)

-- a parameter list whose tokens are only `void` and a closing parenthesis
lone_list : (list : List Parameter) (after more : Kinds) → IsSomeList list
    → with_commas parameter_text list (close_parenthesis ∷ after) ≡ token.Keyword keyword.Void ∷ close_parenthesis ∷ more
    → list ≡ lone_void ∷ []
lone_list [] after more some same = absurd some
lone_list (p ∷ list) after more some same =
    let k = lone_specs p.specs p.pointers p.name p.bounds list after more same in
    ap (λ (x : List Parameter). p ∷ x) k.2 ∙ ap (λ (x : Specs). parameter_of x (tail_of p.pointers p.name p.bounds) ∷ []) k.0
    ∙ ap (λ (x : ParameterTail). parameter_of (MoreSpecs (Plain word.Void) NoSpec) x ∷ []) k.1

void_is : (names : Names) (other : Parameters) (after following : Kinds) → AreParameters names other
    → parameters_text other (close_parenthesis ∷ after) ≡ token.Keyword keyword.Void ∷ close_parenthesis ∷ following
    → (other ≡ VoidAlone) × (after ≡ following)
void_is names VoidAlone after following are same = (refl, cc)
void_is names NoParameter after following are same = absurd cc
void_is names (ParameterList list) after following are same = absurd (are.1 (lone_list list after following are.0 same))

-- the list is only `void`
pub lists_void : (names : Names) (limit : ℕ) → 1 ≤ limit → Exactly (ParameterLists names) limit VoidAlone
lists_void names limit some = record { is_phrase = tt; low = some; exact = λ other after following is same. void_is names other after following is same }

-- the tokens begin neither with a closing parenthesis nor with `void` and one
pub record IsRow (tokens : Kinds) : Type 0 where
  pub unclosed : (more : Kinds) → tokens ≡ close_parenthesis ∷ more → ⊥
  pub no_void : (more : Kinds) → tokens ≡ token.Keyword keyword.Void ∷ close_parenthesis ∷ more → ⊥

pub list_invert : (names : Names) (whole : Parameters) (after following : Kinds) → AreParameters names whole → IsRow following
    → parameters_text whole (close_parenthesis ∷ after) ≡ following
    → (part : List Parameter) × (whole ≡ ParameterList part) × (ParameterRows names).Is part
    × (following ≡ with_commas parameter_text part (close_parenthesis ∷ after))
list_invert names (ParameterList list) after following are row same = (list, refl, (are.0, (are.1, are.2)), sym same)
list_invert names NoParameter after following are row same = absurd (row.unclosed after (sym same))
list_invert names VoidAlone after following are row same = absurd (row.no_void after (sym same))

pub parameter_rows_law : (names : Names) → Lawful (ParameterRows names)
parameter_rows_law names = λ list x y. with_commas_append parameter_text parameter_append list (close_parenthesis ∷ x) y

abbrev first_void : Specs → Bool
first_void (MoreSpecs (Plain word.Void) others) = true
first_void other = false

abbrev begins_void : List Parameter → Bool
begins_void [] = false
begins_void (p ∷ ps) = first_void p.specs

pub rows_below : (names : Names) (list : List Parameter) → IsSomeList list → AreAll (IsParameter names) list → 2 ≤ highest_by parameter_height list
rows_below names [] some are = absurd some
rows_below names (p ∷ ps) some are = let h = parameter_high names p are.0 in omega (arith, h)

pub int_not_alone : int_parameter ∷ [] ≢ lone_void ∷ []
int_not_alone = λ e. false≢true (ap begins_void e)

abbrev pub parameter_rows_least : (names : Names) → Least (ParameterRows names)
parameter_rows_least names = record {
  tree = int_parameter ∷ [];
  is_phrase = (tt, (int_not_alone, (int_is names, tt)));
  below = λ other is. let h = rows_below names other is.0 is.1.1 in omega (arith, h);
}

-- parameters as what is between parentheses
abbrev pub list_single : (names : Names) → Single (ParameterLists names) (ParameterRows names) 1 [] ParameterList IsRow
list_single names = record {
  production = record {
    invert = λ whole after following is fit same. list_invert names whole after following is fit same;
    shut = λ part after shut. tt;
    spelled = λ part after. refl;
    is_phrase = λ part is. (is.0, is.1.0, is.1.1);
    taller = λ part. refl;
  };
  law = parameter_rows_law names;
  least = parameter_rows_least names;
}

-- parameters that were taken and aren't only `void`
pub rows_took : (names : Names) (limit : ℕ) (list : List Parameter) (next : TokenKind) → list ≢ lone_void ∷ []
    → Took (Separated (ParameterClass names) close_parenthesis) limit list next false → Took (ParameterRows names) limit list next false
rows_took names limit list next other t = record {
  is_phrase = (t.is_phrase.0, (other, t.is_phrase.1));
  low = t.low;
  only = λ whole after following is shut near same.
      elim (t.only whole after following (is.0, is.1.1) tt near same) [ inl e ↦ inl e | inr over ↦ absurd (false≢true over.reported) ];
  further = λ reported. absurd (false≢true reported);
  joined = λ reported more shut. false≢true reported;
}

-- parameters that are refused: the tokens before may continue with a list other than `void`
pub rows_refused : (names : Names) (limit : ℕ) (front : Kinds) (next : TokenKind) (deep : Bool)
    → ((front ≡ []) ⊎ BeginsLow (ParameterRows names) limit front) → (deep ≡ true → Begins (ParameterRows names) (front ++ next ∷ []))
    → Refused (Separated (ParameterClass names) close_parenthesis) limit front next deep → Refused (ParameterRows names) limit front next deep
rows_refused names limit front next deep begun further r = record {
  begun = begun;
  never = λ other after following is shut near same.
      let v = r.never other after following (is.0, is.1.1) tt near same in
      record { reported = v.reported; high = v.high; onward = v.onward };
  further = further;
}

pub parameter_lists_law : (names : Names) → Lawful (ParameterLists names)
parameter_lists_law names = λ p x y. parameters_append p (close_parenthesis ∷ x) y

pub lists_some : (p : Parameters) → 1 ≤ parameters_height p
lists_some NoParameter = omega arith
lists_some VoidAlone = omega arith
lists_some (ParameterList list) = omega arith

abbrev pub parameter_lists_least : (names : Names) → Least (ParameterLists names)
parameter_lists_least names = record { tree = NoParameter; is_phrase = tt; below = λ other is. lists_some other }

-- the head of a function with these parts
abbrev pub head_of : List PointerWord → List ℕ → Parameters → Head
head_of ps n parameters = record { pointers = ps; name = n; parameters = parameters }

pub head_invert : (names : Names) (ps : List PointerWord) (n : List ℕ) (whole : Head) (after following : Kinds) → IsHead names whole
    → head_text whole after ≡ pointers_text ps (token.Name n ∷ []) ++ following
    → (part : Parameters) × (whole ≡ head_of ps n part) × AreParameters names part
    × (following ≡ open_parenthesis ∷ parameters_text part (close_parenthesis ∷ after))
head_invert names ps n whole after following is same =
    let f = pointers_name whole.pointers ps whole.name n (open_parenthesis ∷ parameters_text whole.parameters (close_parenthesis ∷ after)) following (same
    ∙ pointers_append ps (token.Name n ∷ []) following) in (
      whole.parameters,
      ap (λ (q : List PointerWord). head_of q whole.name whole.parameters) f.0 ∙ ap (λ (m : List ℕ). head_of ps m whole.parameters) f.1,
      is.parameters,
      sym f.2,
    )

-- the pointers and the name of a function were taken: what is between its parentheses remains
abbrev pub head_single : (names : Names) (ps : List PointerWord) (n : List ℕ) → IsTrue (is_pointer ps) → IsFree names n
    → Single (Heads names) (Following open_parenthesis (ParameterLists names)) 1 (pointers_text ps (token.Name n ∷ [])) (head_of ps n) (λ rest. Unit {0})
head_single names ps n p free = record {
  production = record {
    invert = λ whole after following is fit same. head_invert names ps n whole after following is same;
    shut = λ part after shut. tt;
    spelled = λ part after. sym (pointers_append ps (token.Name n ∷ []) (open_parenthesis ∷ parameters_text part (close_parenthesis ∷ after)));
    is_phrase = λ part is. record { pointers = p; free = free; parameters = is };
    taller = λ part. refl;
  };
  law = after_law open_parenthesis (ParameterLists names) (parameter_lists_law names);
  least = after_least open_parenthesis (ParameterLists names) (parameter_lists_least names);
}

pub heads_law : (names : Names) → Lawful (Heads names)
heads_law names = head_append
