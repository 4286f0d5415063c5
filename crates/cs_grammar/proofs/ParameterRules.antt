-- Parameters and the declarators of functions: for the contracts of every parser of declarations.
use Rattle.std.proofs.Common.{◌≡◌, ℕ, ◌≤◌, inr, Bool, true, false, IsTrue, List, [], ◌∷◌, Option, Some, None, MatchOption, refl, sym, ap}
use Rattle.std.proofs.Common.{◌∙◌, subst, arith, append-nil}
use Rattle.std.proofs.lemmas.Bool.{false≢true}
use Rattle.cs_ast.specs.declared.token.TokenKind.{TokenKind}
use Rattle.cs_ast.specs.declared.token.TokenKind.TheVariants as token
use Rattle.cs_ast.specs.declared.token.Keyword.TheVariants as keyword
use Rattle.cs_ast.specs.declared.token.Punctuator.TheVariants as punctuator
use Rattle.cs_ast.specs.declared.raw.written_type.TypeWord.TheVariants as word
use Rattle.cs_ast.specs.declared.raw.written_type.IntegerWord.TheVariants.{Int}
use Rattle.cs_ast.specs.declared.raw.written_type.PointerWord.{PointerWord}
use Rattle.cs_ast.specs.declared.raw.written_type.PointerWord.TheVariants as pointer
use Rattle.cs_ast.specs.RawTree.{Written}
use Rattle.cs_ast.specs.RawDeclarations.{Plain, Specs, NoSpec, MoreSpecs, Parameter}
use Rattle.cs_ast.specs.RawFileHeight.{parameter_height}
use Rattle.cs_grammar.specs.TypeWords.{Names, is_pointer}
use Rattle.cs_grammar.specs.Text.{Kinds, pointers_text}
use Rattle.cs_grammar.specs.FileText.{name_text, brackets_text, specs_text, parameter_text}
use Rattle.cs_grammar.specs.FilePhrases.{AreAll, IsFree, IsBound, AreSpecs, IsParameter}
use Rattle.cs_grammar.specs.DeclarationClasses.{Follows, HasNoBracket, Brackets, ends_specs, FileSpecs, ends_parameter, ParameterClass, ParameterTail}
use Rattle.cs_grammar.specs.DeclarationClasses.{ParameterTails}
use Rattle.cs_grammar.proofs.Texts.{pointers_append}
use Rattle.cs_grammar.proofs.FileTexts.{name_append, brackets_append, parameter_append}
use Rattle.cs_grammar.proofs.Holes.{Lawful, Tail}
use Rattle.cs_grammar.proofs.Tails.{Least}
use Rattle.cs_grammar.proofs.Rows.{Separates}
use Rattle.cs_grammar.proofs.Pairs.{Pair}
use Rattle.cs_grammar.proofs.Statements.{close_parenthesis}
use Rattle.cs_grammar.proofs.Declarators.{pointers_name, IsNoName}
use Rattle.cs_grammar.proofs.Bodies.{file_specs_law, file_specs_least, file_specs_height}

-- a bracket, a comma or a closing parenthesis
abbrev pub ends_name : TokenKind → Bool
ends_name (token.Punctuator punctuator.OpenBracket) = true
ends_name (token.Punctuator punctuator.Comma) = true
ends_name (token.Punctuator punctuator.CloseParenthesis) = true
ends_name other = false

parameter_name : (t : TokenKind) → ends_parameter t ≡ true → ends_name t ≡ true
parameter_name (token.Punctuator punctuator.Comma) e = refl
parameter_name (token.Punctuator punctuator.CloseParenthesis) e = refl
parameter_name _ e = absurd (false≢true e)

name_specs : (t : TokenKind) → ends_name t ≡ true → ends_specs t ≡ true
name_specs (token.Punctuator punctuator.OpenBracket) e = refl
name_specs (token.Punctuator punctuator.Comma) e = refl
name_specs (token.Punctuator punctuator.CloseParenthesis) e = refl
name_specs _ e = absurd (false≢true e)

follows_less : (test test' : TokenKind → Bool) → ((t : TokenKind) → test t ≡ true → test' t ≡ true) → (x : Kinds) → Follows test x
    → Follows test' x
follows_less test test' less [] f = tt
follows_less test test' less (t ∷ x) f = less t f

bounds_end : (bs : List (Option Written)) (after : Kinds) → Follows ends_parameter after → Follows ends_name (brackets_text bs after)
bounds_end [] after f = follows_less ends_parameter ends_name parameter_name after f
bounds_end (b ∷ bs) after f = refl

named_end : (o : Option (List ℕ)) (bs : List (Option Written)) (after : Kinds) → Follows ends_parameter after
    → Follows ends_specs (name_text o (brackets_text bs after))
named_end None bs after f = follows_less ends_name ends_specs name_specs (brackets_text bs after) (bounds_end bs after f)
named_end (Some n) bs after f = refl

pub tail_end : (ps : List PointerWord) (o : Option (List ℕ)) (bs : List (Option Written)) (after : Kinds) → IsTrue (is_pointer ps)
    → Follows ends_parameter after → Follows ends_specs (pointers_text ps (name_text o (brackets_text bs after)))
tail_end [] o bs after p f = named_end o bs after f
tail_end (pointer.Star ∷ ps) o bs after p f = refl
tail_end (pointer.Const ∷ ps) o bs after p f = absurd (false≢true p)

pub parameter_no_bracket : (after : Kinds) → Follows ends_parameter after → HasNoBracket after
parameter_no_bracket [] f = tt
parameter_no_bracket (token.Punctuator punctuator.OpenBracket ∷ x) f = absurd (false≢true f)
parameter_no_bracket _ f = tt

-- what ends a name follows pointers, and no name
pointers_apart : (qs ps : List PointerWord) (rest : Kinds) (n : List ℕ) (following : Kinds) → Follows ends_name rest
    → pointers_text qs rest ≡ pointers_text ps (token.Name n ∷ following) → ⊥
pointers_apart [] [] rest n following f same = false≢true (subst (Follows ends_name) same f)
pointers_apart [] (pointer.Star ∷ ps) rest n following f same = false≢true (subst (Follows ends_name) same f)
pointers_apart [] (pointer.Const ∷ ps) rest n following f same = false≢true (subst (Follows ends_name) same f)
pointers_apart (pointer.Star ∷ qs) [] rest n following f same = cc
pointers_apart (pointer.Const ∷ qs) [] rest n following f same = cc
pointers_apart (pointer.Star ∷ qs) (pointer.Const ∷ ps) rest n following f same = cc
pointers_apart (pointer.Const ∷ qs) (pointer.Star ∷ ps) rest n following f same = cc
pointers_apart (pointer.Star ∷ qs) (pointer.Star ∷ ps) rest n following f same = pointers_apart qs ps rest n following f cc
pointers_apart (pointer.Const ∷ qs) (pointer.Const ∷ ps) rest n following f same = pointers_apart qs ps rest n following f cc

abbrev pub tail_of : List PointerWord → Option (List ℕ) → List (Option Written) → ParameterTail
tail_of ps o bs = (ps, (o, bs))

named_invert : (names : Names) (ps : List PointerWord) (n : List ℕ) (qs : List PointerWord) (o : Option (List ℕ)) (bs : List (Option Written))
    (after following : Kinds) → AreAll (IsBound names) bs → Follows ends_parameter after
    → pointers_text qs (name_text o (brackets_text bs after)) ≡ pointers_text ps (token.Name n ∷ following)
    → (part : List (Option Written)) × (tail_of qs o bs ≡ tail_of ps (Some n) part) × AreAll (IsBound names) part
    × (following ≡ brackets_text part after)
named_invert names ps n qs None bs after following is f same = absurd (pointers_apart qs ps (brackets_text bs after) n following (bounds_end bs after f) same)
named_invert names ps n qs (Some m) bs after following is f same =
    let k = pointers_name qs ps m n (brackets_text bs after) following same in
    (bs, ap (λ (r : List PointerWord). tail_of r (Some m) bs) k.0 ∙ ap (λ (r : List ℕ). tail_of ps (Some r) bs) k.1, is, sym k.2)

-- the pointers and the name of a parameter were taken: its bounds remain
pub named_tail : (names : Names) (limit : ℕ) (ps : List PointerWord) (n : List ℕ) → IsTrue (is_pointer ps) → IsFree names n
    → Tail (ParameterTails names) (Brackets names (Unit {0})) limit limit (pointers_text ps (token.Name n ∷ [])) (tail_of ps (Some n)) (λ rest. Unit {0})
named_tail names limit ps n p free = record {
  started = inr (record {
    phrase = tail_of ps (Some n) [];
    more = [];
    is_phrase = (p, (free, tt));
    low = omega arith;
    spelled = sym (append-nil (pointers_text ps (token.Name n ∷ [])));
  });
  invert = λ whole after following is shut fit same. named_invert names ps n whole.0 whole.1.0 whole.1.1 after following is.1.1 shut
      (same ∙ pointers_append ps (token.Name n ∷ []) following);
  shut = λ part after shut. parameter_no_bracket after shut;
  spelled = λ part after. sym (pointers_append ps (token.Name n ∷ []) (brackets_text part after));
  is_phrase = λ part is. (p, (free, is));
  low = λ part is low. low;
  rises = λ part high. high;
}

-- the first token is neither a pointer's nor a name that may be declared
abbrev pub HasNoName : Names → Kinds → Type 0
HasNoName names following = (first : TokenKind) (more : Kinds) → following ≡ first ∷ more → IsNoName (IsFree names) first

pointers_rest : (names : Names) (ps qs : List PointerWord) (o : Option (List ℕ)) (bs : List (Option Written)) (after following : Kinds)
    → HasNoName names following → MatchOption o (Unit {0}) (IsFree names) → Follows ends_parameter after
    → pointers_text qs (name_text o (brackets_text bs after)) ≡ pointers_text ps following
    → (qs ≡ ps) × (name_text o (brackets_text bs after) ≡ following)
pointers_rest names [] [] o bs after following none free f same = (refl, same)
pointers_rest names [] (pointer.Star ∷ qs) o bs after following none free f same =
    absurd ((none (token.Punctuator punctuator.Star) (pointers_text qs (name_text o (brackets_text bs after))) (sym same)).no_star refl)
pointers_rest names [] (pointer.Const ∷ qs) o bs after following none free f same =
    absurd ((none (token.Keyword keyword.Const) (pointers_text qs (name_text o (brackets_text bs after))) (sym same)).no_const refl)
pointers_rest names (pointer.Star ∷ ps) [] (Some m) bs after following none free f same = absurd cc
pointers_rest names (pointer.Const ∷ ps) [] (Some m) bs after following none free f same = absurd cc
pointers_rest names (pointer.Star ∷ ps) [] None bs after following none free f same =
    absurd (false≢true (subst (Follows ends_name) same (bounds_end bs after f)))
pointers_rest names (pointer.Const ∷ ps) [] None bs after following none free f same =
    absurd (false≢true (subst (Follows ends_name) same (bounds_end bs after f)))
pointers_rest names (pointer.Star ∷ ps) (pointer.Const ∷ qs) o bs after following none free f same = absurd cc
pointers_rest names (pointer.Const ∷ ps) (pointer.Star ∷ qs) o bs after following none free f same = absurd cc
pointers_rest names (pointer.Star ∷ ps) (pointer.Star ∷ qs) o bs after following none free f same =
    let k = pointers_rest names ps qs o bs after following none free f cc in
    (ap (λ (r : List PointerWord). pointer.Star ∷ r) k.0, k.1)
pointers_rest names (pointer.Const ∷ ps) (pointer.Const ∷ qs) o bs after following none free f same =
    let k = pointers_rest names ps qs o bs after following none free f cc in
    (ap (λ (r : List PointerWord). pointer.Const ∷ r) k.0, k.1)

unnamed_invert : (names : Names) (ps qs : List PointerWord) (o : Option (List ℕ)) (bs : List (Option Written)) (after following : Kinds)
    → HasNoName names following → MatchOption o (Unit {0}) (IsFree names) → AreAll (IsBound names) bs → Follows ends_parameter after
    → pointers_text qs (name_text o (brackets_text bs after)) ≡ pointers_text ps following
    → (part : List (Option Written)) × (tail_of qs o bs ≡ tail_of ps None part) × AreAll (IsBound names) part × (following ≡ brackets_text part after)
unnamed_invert names ps qs None bs after following none free is f same =
    let k = pointers_rest names ps qs None bs after following none free f same in
    (bs, ap (λ (r : List PointerWord). tail_of r None bs) k.0, is, sym k.1)
unnamed_invert names ps qs (Some m) bs after following none free is f same =
    let k = pointers_rest names ps qs (Some m) bs after following none free f same in
    absurd ((none (token.Name m) (brackets_text bs after) (sym k.1)).no_name m refl free)

-- the pointers of a parameter were taken, and no name follows them: its bounds remain
pub unnamed_tail : (names : Names) (limit : ℕ) (ps : List PointerWord) → IsTrue (is_pointer ps)
    → Tail (ParameterTails names) (Brackets names (Unit {0})) limit limit (pointers_text ps []) (tail_of ps None) (HasNoName names)
unnamed_tail names limit ps p = record {
  started = inr (record {
    phrase = tail_of ps None [];
    more = [];
    is_phrase = (p, (tt, tt));
    low = omega arith;
    spelled = sym (append-nil (pointers_text ps []));
  });
  invert = λ whole after following is shut fit same. unnamed_invert names ps whole.0 whole.1.0 whole.1.1 after following fit is.1.0 is.1.1 shut
      (same ∙ pointers_append ps [] following);
  shut = λ part after shut. parameter_no_bracket after shut;
  spelled = λ part after. sym (pointers_append ps [] (brackets_text part after));
  is_phrase = λ part is. (p, (tt, is));
  low = λ part is low. low;
  rises = λ part high. high;
}

pub parameter_tails_law : (names : Names) → Lawful (ParameterTails names)
parameter_tails_law names = λ t x y.
    pointers_append t.0 (name_text t.1.0 (brackets_text t.1.1 x)) y
    ∙ ap (pointers_text t.0) (name_append t.1.0 (brackets_text t.1.1 x) y ∙ ap (name_text t.1.0) (brackets_append t.1.1 x y))

abbrev pub parameter_tails_least : (names : Names) → Least (ParameterTails names)
parameter_tails_least names = record { tree = tail_of [] None []; is_phrase = (refl, (tt, tt)); below = λ other is. omega arith }

-- the parameter with these parts
abbrev pub parameter_of : Specs → ParameterTail → Parameter
parameter_of specs t = record { specs = specs; pointers = t.0; name = t.1.0; bounds = t.1.1 }

abbrev pub ParameterParts : Type 0
ParameterParts = Specs × ParameterTail

pub parameter_invert : (names : Names) (whole : Parameter) (after following : Kinds) → IsParameter names whole → parameter_text whole after ≡ following
    → (part : ParameterParts) × (whole ≡ parameter_of part.0 part.1) × (AreSpecs names part.0 × (ParameterTails names).Is part.1)
    × (following ≡ specs_text part.0 ((ParameterTails names).spell part.1 after))
parameter_invert names whole after following is same =
    ((whole.specs, tail_of whole.pointers whole.name whole.bounds), refl, (is.specs, (is.pointers, (is.free, is.bounds))), sym same)

-- a parameter
abbrev pub parameter_pair : (names : Names) → Pair (ParameterClass names) (FileSpecs names) (ParameterTails names) 1 [] (λ part. parameter_of part.0 part.1)
parameter_pair names = record {
  production = record {
    invert = λ whole after following is fit same. parameter_invert names whole after following is same;
    shut = λ part after shut. shut;
    spelled = λ part after. refl;
    is_phrase = λ part is. record { specs = is.0; pointers = is.1.0; free = is.1.1.0; bounds = is.1.1.1 };
    taller = λ part. refl;
  };
  law_first = file_specs_law names;
  law_second = parameter_tails_law names;
  joins = λ c d after is is' shut. tail_end d.0 d.1.0 d.1.1 after is'.0 shut;
  least_first = file_specs_least names;
  least_second = parameter_tails_least names;
}

pub parameters_class_law : (names : Names) → Lawful (ParameterClass names)
parameters_class_law names = parameter_append

pub parameter_high : (names : Names) (p : Parameter) → IsParameter names p → 2 ≤ parameter_height p
parameter_high names p is = let h = file_specs_height names p.specs is.specs in omega (arith, h)

abbrev pub int_parameter : Parameter
int_parameter = parameter_of (MoreSpecs (Plain (word.Integer Int)) NoSpec) (tail_of [] None [])

pub int_is : (names : Names) → IsParameter names int_parameter
int_is names = record { specs = (refl, (tt, tt)); pointers = refl; free = tt; bounds = tt }

abbrev pub parameter_least : (names : Names) → Least (ParameterClass names)
parameter_least names = record {
  tree = int_parameter;
  is_phrase = int_is names;
  below = λ other is. let h = parameter_high names other is in omega (arith, h);
}

pub parenthesis_differs : close_parenthesis ≡ token.Punctuator punctuator.Comma → ⊥
parenthesis_differs e = cc

-- parameters with commas between them
abbrev pub parameter_row : (names : Names) → Separates (ParameterClass names) close_parenthesis
parameter_row names = record {
  law = parameters_class_law names;
  least = parameter_least names;
  comma = λ d more. refl;
  closed = λ d more. refl;
  differs = parenthesis_differs;
}
