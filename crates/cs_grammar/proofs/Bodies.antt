-- Types with bodies: enumeration constants and members. For the contracts of every parser of declarations.
use Rattle.std.proofs.Common.{◌≡◌, ℕ, ◌+◌, ◌≤◌, ◌⊎◌, inl, inr, Bool, true, false, List, [], ◌∷◌, ◌++◌, Option, Some, None}
use Rattle.std.proofs.Common.{MatchOption, refl, sym, ap, ◌∙◌, subst, arith}
use Rattle.std.proofs.lemmas.Bool.{false≢true}
use Rattle.cs_ast.specs.declared.token.TokenKind.{TokenKind}
use Rattle.cs_ast.specs.declared.token.TokenKind.TheVariants as token
use Rattle.cs_ast.specs.declared.token.Punctuator.{Punctuator}
use Rattle.cs_ast.specs.declared.token.Punctuator.TheVariants as punctuator
use Rattle.cs_ast.specs.declared.raw.written_type.TypeWord.{TypeWord}
use Rattle.cs_ast.specs.declared.raw.written_type.TypeWord.TheVariants as word
use Rattle.cs_ast.specs.declared.raw.written_type.IntegerWord.TheVariants.{Char, Short, Int, Long, Signed, Unsigned}
use Rattle.cs_ast.specs.RawTree.{Written}
use Rattle.cs_ast.specs.RawDeclarations.{Declarator, Constant, Spec, Static, Plain, StructBody, EnumBody, Specs, NoSpec, MoreSpecs, Members, NoMember}
use Rattle.cs_ast.specs.RawDeclarations.{MoreMembers}
use Rattle.cs_ast.specs.RawFileHeight.{height_of_some, constant_height, spec_height, specs_height}
use Rattle.cs_grammar.specs.TypeWords.{Names}
use Rattle.cs_grammar.specs.Text.{Kinds, text}
use Rattle.cs_grammar.specs.Phrases.{IsPhrase}
use Rattle.cs_grammar.specs.Continuing.{join_of}
use Rattle.cs_grammar.specs.FileText.{name_text, comma_text, with_commas, each_after_comma, brackets_text, declarator_text, value_text, constant_text}
use Rattle.cs_grammar.specs.FileText.{spec_text, specs_text, members_text}
use Rattle.cs_grammar.specs.FilePhrases.{AreAll, IsSomeList, IsFree, IsConstant, IsMember, HasBody, AreMembers, AreSpecs}
use Rattle.cs_grammar.specs.DeclarationClasses.{Follows, ends_value, HasNoOpenBrace, IsQuiet, Constants, MemberDeclarators, SpecElements, FileSpecs}
use Rattle.cs_grammar.specs.DeclarationClasses.{MemberGroups, MemberRows}
use Rattle.cs_grammar.specs.Parsing.{Class, Expressions, Near, IsOver, BeginsLow, Took, Refused, Exactly}
use Rattle.cs_grammar.specs.Composed.{Separated, Trailing}
use Rattle.cs_grammar.proofs.Levels.{text_law}
use Rattle.cs_grammar.proofs.FileTexts.{value_append, constant_append, specs_append, members_append, with_commas_append, declarator_append}
use Rattle.cs_grammar.proofs.Holes.{Lawful, Tail, tail_refused, tail_took}
use Rattle.cs_grammar.proofs.Tails.{Least, none_refused, near_other}
use Rattle.cs_grammar.proofs.Rows.{Separates, Listing, separated_law, separated_least}
use Rattle.cs_grammar.proofs.GrowingRows.{Growing}
use Rattle.cs_grammar.proofs.TrailingRows.{NoneCloses, trailing_law}
use Rattle.cs_grammar.proofs.Pairs.{Pair, Single}
use Rattle.cs_grammar.proofs.FreshNames.{fresh, fresh_free}
use Rattle.cs_grammar.proofs.Statements.{open_brace, close_brace, semicolon}
use Rattle.cs_grammar.proofs.StatementParts.{nought, expression_height}
use Rattle.cs_grammar.proofs.Declarators.{declarators_law, declarators_least}
use Rattle.cs_grammar.proofs.InitialValues.{brace_differs}
use Rattle.cs_grammar.proofs.DeclaredObjects.{equal_token, semicolon_differs}
use Rattle.cs_grammar.proofs.BlockItems.{Starts, pointers_start, starts_end_specs}
use Rattle.cs_grammar.proofs.TypeNames.{tag_word}
use Rattle.cs_grammar.proofs.SpecRows.{first_of, spec_starts, IsExactSpec}

-- the value of an enumeration constant, after its `=`
abbrev pub ConstantValues : Names → Class
ConstantValues names = record {
  Tree = Option Written;
  spell = value_text;
  tall = height_of_some;
  Is = λ value. MatchOption value (Unit {0}) (IsPhrase names 2);
  Shut = λ value after. Follows ends_value after;
}

abbrev pub constant_values_least : (names : Names) → Least (ConstantValues names)
constant_values_least names = record { tree = None; is_phrase = tt; below = λ other is. omega arith }

abbrev pub constant_of : List ℕ → Option Written → Constant
constant_of n value = record { name = n; value = value }

pub constant_invert : (names : Names) (n : List ℕ) (whole : Constant) (after following : Kinds) → IsConstant names whole
    → constant_text whole after ≡ token.Name n ∷ following
    → (part : Option Written) × (whole ≡ constant_of n part) × MatchOption part (Unit {0}) (IsPhrase names 2) × (following ≡ value_text part after)
constant_invert names n whole after following is same = let k : whole.name ≡ n = cc in
    (whole.value, ap (λ (m : List ℕ). constant_of m whole.value) k, is.value, cc)

-- the name of a constant was taken
abbrev pub constant_single : (names : Names) (n : List ℕ) → IsFree names n
    → Single (Constants names) (ConstantValues names) 1 (token.Name n ∷ []) (constant_of n) (λ rest. Unit {0})
constant_single names n free = record {
  production = record {
    invert = λ whole after following is fit same. constant_invert names n whole after following is same;
    shut = λ part after shut. shut;
    spelled = λ part after. refl;
    is_phrase = λ part is. record { free = free; value = is };
    taller = λ part. refl;
  };
  law = value_append;
  least = constant_values_least names;
}

-- the next token can't be the name of a constant
pub constant_missing : (names : Names) (limit : ℕ) (next : TokenKind) → ((n : List ℕ) → next ≡ token.Name n → IsFree names n → ⊥)
    → Refused (Constants names) limit [] next false
constant_missing names limit next none =
    none_refused (Constants names) limit next (λ c after is same. cc)
    (λ c after more is same. let k : next ≡ token.Name c.name = cc in none c.name k is.free)

lone_only : (next : TokenKind) → (next ≡ equal_token → ⊥) → (other : Option Written) (after following : Kinds) → Near next following
    → value_text other after ≡ following → (other ≡ None) × (after ≡ following)
lone_only next none None after following near same = (refl, same)
lone_only next none (Some e) after following near same = absurd (near_other equal_token next following (text e after) none near same)

-- no `=` follows the name of a constant
pub constant_alone : (names : Names) (limit : ℕ) (next : TokenKind) → (next ≡ equal_token → ⊥) → Took (ConstantValues names) limit None next false
constant_alone names limit next none = record {
  is_phrase = tt;
  low = omega arith;
  only = λ other after following is shut near same. inl (lone_only next none other after following near same);
  further = λ reported. absurd (false≢true reported);
  joined = λ reported more shut. false≢true reported;
}

full_only : (names : Names) (other : Option Written) (after following : Kinds) → Near equal_token following → value_text other after ≡ following
    → ((other ≡ None) × (after ≡ following)) ⊎ IsOver (ConstantValues names) 0 true other following
full_only names None after following near same = inl (refl, same)
full_only names (Some e) after following near same = let h = expression_height e in
    inr (record { reported = refl; high = omega (arith, h); onward = λ none. let z = same ∙ none in cc })

-- the next token is `=`, and the limit doesn't allow a value
pub constant_full : (names : Names) → Took (ConstantValues names) 0 None equal_token true
constant_full names = record {
  is_phrase = tt;
  low = omega arith;
  only = λ other after following is shut near same. full_only names other after following near same;
  further = λ reported. record { phrase = Some nought; more = text nought []; is_phrase = (omega arith, tt); spelled = refl };
  joined = λ reported more shut. false≢true shut;
}

ends_join : (after : Kinds) → Follows ends_value after → join_of after ≤ 2
ends_join [] f = omega arith
ends_join (token.Punctuator punctuator.Comma ∷ x) f = omega arith
ends_join (token.Punctuator punctuator.Semicolon ∷ x) f = omega arith
ends_join (token.Punctuator punctuator.CloseBrace ∷ x) f = omega arith
ends_join _ f = absurd (false≢true f)

equal_shut : (after following : Kinds) → Follows ends_value after → after ≡ equal_token ∷ following → ⊥
equal_shut after following f same = false≢true (subst (Follows ends_value) same f)

value_invert : (names : Names) (whole : Option Written) (after following : Kinds) → MatchOption whole (Unit {0}) (IsPhrase names 2)
    → Follows ends_value after → value_text whole after ≡ equal_token ∷ following
    → (part : Written) × (whole ≡ Some part) × IsPhrase names 2 part × (following ≡ text part after)
value_invert names None after following is shut same = absurd (equal_shut after following shut same)
value_invert names (Some e) after following is shut same = (e, refl, is, cc)

constant_value_tail : (names : Names) (limit : ℕ) → 1 ≤ limit
    → Tail (ConstantValues names) (Expressions names 2) limit limit (equal_token ∷ []) Some (λ rest. Unit {0})
constant_value_tail names limit some = record {
  started = inr (record { phrase = Some nought; more = text nought []; is_phrase = (omega arith, tt); low = some; spelled = refl });
  invert = λ whole after following is shut fit same. value_invert names whole after following is shut same;
  shut = λ part after shut. ends_join after shut;
  spelled = λ part after. refl;
  is_phrase = λ part is. is;
  low = λ part is low. low;
  rises = λ part high. high;
}

-- the value of a constant was refused
pub constant_value_refused : (names : Names) (limit : ℕ) → 1 ≤ limit
    → (front : Kinds) (next : TokenKind) (deep : Bool) → Refused (Expressions names 2) limit front next deep
    → Refused (ConstantValues names) limit (equal_token ∷ front) next deep
constant_value_refused names limit some front next deep r =
    tail_refused (ConstantValues names) (Expressions names 2) limit limit (equal_token ∷ []) Some (λ rest. Unit {0}) (text_law names 2)
    (constant_value_tail names limit some) front next deep (λ following near. tt) r

-- the value of a constant was taken
pub constant_value_took : (names : Names) (limit : ℕ) → 1 ≤ limit
    → (e : Written) (next : TokenKind) (deep : Bool) → Took (Expressions names 2) limit e next deep → Took (ConstantValues names) limit (Some e) next deep
constant_value_took names limit some e next deep t =
    tail_took (ConstantValues names) (Expressions names 2) limit limit (equal_token ∷ []) Some (λ rest. Unit {0}) (text_law names 2)
    (constant_value_tail names limit some) e next deep (λ following near. tt) t

pub constants_law : (names : Names) → Lawful (Constants names)
constants_law names = constant_append

pub constant_some : (c : Constant) → 1 ≤ constant_height c
constant_some c = omega arith

abbrev pub constants_least : (names : Names) → Least (Constants names)
constants_least names = record {
  tree = constant_of (fresh names) None;
  is_phrase = record { free = fresh_free names; value = tt };
  below = λ other is. let h = constant_some other in omega (arith, h);
}

-- the constants of an enum
abbrev pub constant_row : (names : Names) → Separates (Constants names) close_brace
constant_row names = record {
  law = constants_law names;
  least = constants_least names;
  comma = λ d more. refl;
  closed = λ d more. refl;
  differs = brace_differs;
}

pub no_constant_closes : (names : Names) → NoneCloses (Constants names) close_brace
no_constant_closes names = λ c after more is same. cc

-- `struct` or `enum`, a tag if there is one, and the opening brace
abbrev pub opened : Bool → Option (List ℕ) → Kinds
opened is_struct tag = tag_word is_struct ∷ name_text tag (open_brace ∷ [])

opened_text : (tag : Option (List ℕ)) (x : Kinds) → name_text tag (open_brace ∷ []) ++ x ≡ name_text tag (open_brace ∷ x)
opened_text None x = refl
opened_text (Some tag) x = refl

tag_same : (tag tag' : Option (List ℕ)) (x y : Kinds) → name_text tag' (open_brace ∷ x) ≡ name_text tag (open_brace ∷ y)
    → (tag' ≡ tag) × (x ≡ y)
tag_same None None x y same = (refl, cc)
tag_same (Some t) (Some u) x y same = let k : u ≡ t = cc in (ap (λ (n : List ℕ). Some n) k, cc)
tag_same None (Some u) x y same = absurd cc
tag_same (Some t) None x y same = absurd cc

-- the tokens after `struct` or `enum` and a brace aren't those after a tag
no_tag_brace : (tag : Option (List ℕ)) (t : List ℕ) (x y : Kinds) → HasNoOpenBrace x → token.Name t ∷ x ≡ name_text tag (open_brace ∷ y) → ⊥
no_tag_brace None t x y quiet same = cc
no_tag_brace (Some u) t x y quiet same = let k : x ≡ open_brace ∷ y = cc in subst HasNoOpenBrace k quiet

struct_word : (w : TypeWord) (tag : Option (List ℕ)) (x y : Kinds) → IsQuiet (Plain w) x
    → spec_text (Plain w) x ≡ tag_word true ∷ name_text tag (open_brace ∷ y) → ⊥
struct_word (word.Struct t) tag x y quiet same = no_tag_brace tag t x y quiet cc
struct_word word.Const tag x y quiet same = cc
struct_word word.Void tag x y quiet same = cc
struct_word (word.Typedef n) tag x y quiet same = cc
struct_word (word.Enum t) tag x y quiet same = cc
struct_word (word.Integer Char) tag x y quiet same = cc
struct_word (word.Integer Short) tag x y quiet same = cc
struct_word (word.Integer Int) tag x y quiet same = cc
struct_word (word.Integer Long) tag x y quiet same = cc
struct_word (word.Integer Signed) tag x y quiet same = cc
struct_word (word.Integer Unsigned) tag x y quiet same = cc

enum_word : (w : TypeWord) (tag : Option (List ℕ)) (x y : Kinds) → IsQuiet (Plain w) x
    → spec_text (Plain w) x ≡ tag_word false ∷ name_text tag (open_brace ∷ y) → ⊥
enum_word (word.Enum t) tag x y quiet same = no_tag_brace tag t x y quiet cc
enum_word word.Const tag x y quiet same = cc
enum_word word.Void tag x y quiet same = cc
enum_word (word.Typedef n) tag x y quiet same = cc
enum_word (word.Struct t) tag x y quiet same = cc
enum_word (word.Integer Char) tag x y quiet same = cc
enum_word (word.Integer Short) tag x y quiet same = cc
enum_word (word.Integer Int) tag x y quiet same = cc
enum_word (word.Integer Long) tag x y quiet same = cc
enum_word (word.Integer Signed) tag x y quiet same = cc
enum_word (word.Integer Unsigned) tag x y quiet same = cc

pub struct_is : (names : Names) (tag : Option (List ℕ)) (s : Spec) (x following : Kinds) → HasBody names s → IsQuiet s x
    → spec_text s x ≡ tag_word true ∷ name_text tag (open_brace ∷ following)
    → (part : Members) × (s ≡ StructBody tag part) × AreMembers names part × (following ≡ members_text part (close_brace ∷ x))
struct_is names tag (StructBody tag' members) x following has quiet same =
    let k = tag_same tag tag' (members_text members (close_brace ∷ x)) following cc in
    (members, ap (λ (t : Option (List ℕ)). StructBody t members) k.0, has, sym k.1)
struct_is names tag (Plain w) x following has quiet same = absurd (struct_word w tag x following quiet same)
struct_is names tag Static x following has quiet same = absurd cc
struct_is names tag (EnumBody tag' constants comma) x following has quiet same = absurd cc

-- constants, and whether a comma follows them
abbrev pub ConstantRow : Type 0
ConstantRow = List Constant × Bool

pub enum_is : (names : Names) (tag : Option (List ℕ)) (s : Spec) (x following : Kinds) → HasBody names s → IsQuiet s x
    → spec_text s x ≡ tag_word false ∷ name_text tag (open_brace ∷ following)
    → (part : ConstantRow) × (s ≡ EnumBody tag part.0 part.1) × (IsSomeList part.0 × AreAll (IsConstant names) part.0)
    × (following ≡ with_commas constant_text part.0 (comma_text part.1 (close_brace ∷ x)))
enum_is names tag (EnumBody tag' constants comma) x following has quiet same =
    let k = tag_same tag tag' (with_commas constant_text constants (comma_text comma (close_brace ∷ x))) following cc in
    ((constants, comma), ap (λ (t : Option (List ℕ)). EnumBody t constants comma) k.0, has, sym k.1)
enum_is names tag (Plain w) x following has quiet same = absurd (enum_word w tag x following quiet same)
enum_is names tag Static x following has quiet same = absurd cc
enum_is names tag (StructBody tag' members) x following has quiet same = absurd cc

-- the members of a struct were taken, with the brace after them
pub struct_exact : (names : Names) (limit : ℕ) (tag : Option (List ℕ)) (members : Members) → Exactly (MemberRows names) limit members
    → IsExactSpec names (StructBody tag members)
struct_exact names limit tag members e = λ t x y has quiet quiet' same.
    let f = struct_is names tag t x (members_text members (close_brace ∷ y)) has quiet same in
    let k = e.exact f.0 x y f.2 (sym f.3) in
    (f.1 ∙ ap (StructBody tag) k.0, k.1)

-- the constants of an enum were taken, with the brace after them
pub enum_exact : (names : Names) (limit : ℕ) (tag : Option (List ℕ)) (row : ConstantRow) → Exactly (Trailing (Constants names) close_brace) limit row
    → IsExactSpec names (EnumBody tag row.0 row.1)
enum_exact names limit tag row e = λ t x y has quiet quiet' same.
    let f = enum_is names tag t x (with_commas constant_text row.0 (comma_text row.1 (close_brace ∷ y))) has quiet same in
    let k = e.exact f.0 x y f.2 (sym f.3) in
    (f.1 ∙ ap (λ (r : ConstantRow). EnumBody tag r.0 r.1) k.0, k.1)

pub member_rows_law : (names : Names) → Lawful (MemberRows names)
member_rows_law names = λ m x y. members_append m (close_brace ∷ x) y

abbrev pub member_rows_least : (names : Names) → Least (MemberRows names)
member_rows_least names = record { tree = NoMember; is_phrase = tt; below = λ other is. omega arith }

struct_tail : (names : Names) (limit inner : ℕ) → limit ≡ 1 + inner
    → (tag : Option (List ℕ)) → Tail (SpecElements names) (MemberRows names) limit inner (opened true tag) (StructBody tag) (λ rest. Unit {0})
struct_tail names limit inner less tag = record {
  started = inr (record {
    phrase = StructBody tag NoMember;
    more = close_brace ∷ [];
    is_phrase = tt;
    low = omega (arith, less);
    spelled = ap (λ (x : Kinds). tag_word true ∷ x) (sym (opened_text tag (close_brace ∷ [])));
  });
  invert = λ whole after following is shut fit same. struct_is names tag whole after following is shut
      (same ∙ ap (λ (x : Kinds). tag_word true ∷ x) (opened_text tag following));
  shut = λ part after shut. tt;
  spelled = λ part after. ap (λ (x : Kinds). tag_word true ∷ x) (sym (opened_text tag (members_text part (close_brace ∷ after))));
  is_phrase = λ part is. is;
  low = λ part is low. omega (arith, less, low);
  rises = λ part high. omega (arith, less, high);
}

-- the members of a struct were refused
pub struct_refused : (names : Names) (limit inner : ℕ) → limit ≡ 1 + inner
    → (tag : Option (List ℕ)) (front : Kinds) (next : TokenKind) (deep : Bool) → Refused (MemberRows names) inner front next deep
    → Refused (SpecElements names) limit (opened true tag ++ front) next deep
struct_refused names limit inner less tag front next deep r =
    tail_refused (SpecElements names) (MemberRows names) limit inner (opened true tag) (StructBody tag) (λ rest. Unit {0}) (member_rows_law names)
    (struct_tail names limit inner less tag) front next deep (λ following near. tt) r

enum_tail : (names : Names) (limit inner : ℕ) → limit ≡ 1 + inner → 1 ≤ inner
    → (tag : Option (List ℕ))
    → Tail (SpecElements names) (Trailing (Constants names) close_brace) limit inner (opened false tag) (λ row. EnumBody tag row.0 row.1) (λ rest. Unit {0})
enum_tail names limit inner less some tag = record {
  started = inr (record {
    phrase = EnumBody tag (constant_of (fresh names) None ∷ []) false;
    more = token.Name (fresh names) ∷ close_brace ∷ [];
    is_phrase = (tt, (record { free = fresh_free names; value = tt }, tt));
    low = omega (arith, less, some);
    spelled = ap (λ (x : Kinds). tag_word false ∷ x) (sym (opened_text tag (token.Name (fresh names) ∷ close_brace ∷ [])));
  });
  invert = λ whole after following is shut fit same. enum_is names tag whole after following is shut
      (same ∙ ap (λ (x : Kinds). tag_word false ∷ x) (opened_text tag following));
  shut = λ part after shut. tt;
  spelled = λ part after. ap (λ (x : Kinds). tag_word false ∷ x)
      (sym (opened_text tag (with_commas constant_text part.0 (comma_text part.1 (close_brace ∷ after)))));
  is_phrase = λ part is. is;
  low = λ part is low. omega (arith, less, low);
  rises = λ part high. omega (arith, less, high);
}

-- the constants of an enum were refused
pub enum_refused : (names : Names) (limit inner : ℕ) → limit ≡ 1 + inner → 1 ≤ inner
    → (tag : Option (List ℕ)) (front : Kinds) (next : TokenKind) (deep : Bool) → Refused (Trailing (Constants names) close_brace) inner front next deep
    → Refused (SpecElements names) limit (opened false tag ++ front) next deep
enum_refused names limit inner less some tag front next deep r =
    tail_refused (SpecElements names) (Trailing (Constants names) close_brace) limit inner (opened false tag) (λ row. EnumBody tag row.0 row.1)
    (λ rest. Unit {0}) (trailing_law (Constants names) close_brace (constants_law names)) (enum_tail names limit inner less some tag) front next deep
    (λ following near. tt) r

name_or_brace : (next : TokenKind) → ((n : List ℕ) → next ≡ token.Name n → ⊥) → (next ≡ open_brace → ⊥)
    → (tag : Option (List ℕ)) (x following : Kinds) → Near next following → name_text tag (open_brace ∷ x) ≡ following → ⊥
name_or_brace next no_name no_brace None x following near same =
    elim near [ inl none ↦ let z = same ∙ none in cc | inr m ↦ let z : open_brace ∷ x ≡ next ∷ m.0 = same ∙ m.1 in no_brace cc ]
name_or_brace next no_name no_brace (Some t) x following near same =
    elim near [
      | inl none ↦ let z = same ∙ none in cc
      | inr m ↦ let z : token.Name t ∷ (open_brace ∷ x) ≡ next ∷ m.0 = same ∙ m.1 in no_name t cc
    ]

word_tag : (is_struct : Bool) (next : TokenKind) → ((n : List ℕ) → next ≡ token.Name n → ⊥)
    → (w : TypeWord) (x following : Kinds) → Near next following → spec_text (Plain w) x ≡ tag_word is_struct ∷ following → ⊥
word_tag true next no_name (word.Struct t) x following near same = near_other (token.Name t) next following x (no_name t) near cc
word_tag false next no_name (word.Enum t) x following near same = near_other (token.Name t) next following x (no_name t) near cc
word_tag true next no_name (word.Enum t) x following near same = cc
word_tag false next no_name (word.Struct t) x following near same = cc
word_tag true next no_name word.Const x following near same = cc
word_tag false next no_name word.Const x following near same = cc
word_tag true next no_name word.Void x following near same = cc
word_tag false next no_name word.Void x following near same = cc
word_tag true next no_name (word.Typedef n) x following near same = cc
word_tag false next no_name (word.Typedef n) x following near same = cc
word_tag true next no_name (word.Integer Char) x following near same = cc
word_tag false next no_name (word.Integer Char) x following near same = cc
word_tag true next no_name (word.Integer Short) x following near same = cc
word_tag false next no_name (word.Integer Short) x following near same = cc
word_tag true next no_name (word.Integer Int) x following near same = cc
word_tag false next no_name (word.Integer Int) x following near same = cc
word_tag true next no_name (word.Integer Long) x following near same = cc
word_tag false next no_name (word.Integer Long) x following near same = cc
word_tag true next no_name (word.Integer Signed) x following near same = cc
word_tag false next no_name (word.Integer Signed) x following near same = cc
word_tag true next no_name (word.Integer Unsigned) x following near same = cc
word_tag false next no_name (word.Integer Unsigned) x following near same = cc

tag_never : (is_struct : Bool) (next : TokenKind) → ((n : List ℕ) → next ≡ token.Name n → ⊥) → (next ≡ open_brace → ⊥)
    → (s : Spec) (x following : Kinds) → Near next following → spec_text s x ≡ tag_word is_struct ∷ following → ⊥
tag_never is_struct next no_name no_brace (Plain w) x following near same = word_tag is_struct next no_name w x following near same
tag_never true next no_name no_brace Static x following near same = cc
tag_never false next no_name no_brace Static x following near same = cc
tag_never true next no_name no_brace (StructBody tag members) x following near same =
    name_or_brace next no_name no_brace tag (members_text members (close_brace ∷ x)) following near cc
tag_never false next no_name no_brace (StructBody tag members) x following near same = cc
tag_never false next no_name no_brace (EnumBody tag constants comma) x following near same =
    name_or_brace next no_name no_brace tag (with_commas constant_text constants (comma_text comma (close_brace ∷ x))) following near cc
tag_never true next no_name no_brace (EnumBody tag constants comma) x following near same = cc

tagged_begins : (names : Names) (limit : ℕ) → 1 ≤ limit → (is_struct : Bool) → BeginsLow (SpecElements names) limit (tag_word is_struct ∷ [])
tagged_begins names limit some true = record { phrase = Plain (word.Struct []); more = token.Name [] ∷ []; is_phrase = tt; low = some; spelled = refl }
tagged_begins names limit some false = record { phrase = Plain (word.Enum []); more = token.Name [] ∷ []; is_phrase = tt; low = some; spelled = refl }

-- neither a tag nor a brace follows `struct` or `enum`
pub tag_missing : (names : Names) (limit : ℕ) → 1 ≤ limit → (is_struct : Bool) (next : TokenKind) → ((n : List ℕ) → next ≡ token.Name n → ⊥)
    → (next ≡ open_brace → ⊥) → Refused (SpecElements names) limit (tag_word is_struct ∷ []) next false
tag_missing names limit some is_struct next no_name no_brace = record {
  begun = inr (tagged_begins names limit some is_struct);
  never = λ other after following is shut near same. absurd (tag_never is_struct next no_name no_brace other after following near same);
  further = λ reported. absurd (false≢true reported);
}

-- what follows the declarators of members of one type, with their semicolon, may be cut off
pub member_list_law : (names : Names) → Lawful (Separated (MemberDeclarators names) semicolon)
member_list_law names = separated_law (MemberDeclarators names) semicolon (declarators_law (λ name. Unit {0}) names ⊥)

abbrev pub members_least : (names : Names) → Least (MemberDeclarators names)
members_least names = declarators_least (λ name. Unit {0}) names ⊥ [] tt

-- declarators of members with commas between them and a semicolon after them
abbrev pub member_row : (names : Names) → Separates (MemberDeclarators names) semicolon
member_row names = record {
  law = declarators_law (λ name. Unit {0}) names ⊥;
  least = members_least names;
  comma = λ d more. tt;
  closed = λ d more. tt;
  differs = semicolon_differs;
}

pub member_starts : (names : Names) (list : List Declarator) (rest : Kinds) → IsSomeList list → AreAll (IsMember names) list
    → Starts (with_commas declarator_text list rest)
member_starts names [] rest some are = absurd some
member_starts names (d ∷ ds) rest some are = let i = are.0 in
    pointers_start d.pointers d.name (brackets_text d.bounds (each_after_comma declarator_text ds rest)) i.pointers

pub file_specs_law : (names : Names) → Lawful (FileSpecs names)
file_specs_law names = specs_append

spec_some : (s : Spec) → 1 ≤ spec_height s
spec_some Static = omega arith
spec_some (Plain w) = omega arith
spec_some (StructBody tag members) = omega arith
spec_some (EnumBody tag constants comma) = omega arith

pub file_specs_height : (names : Names) (specs : Specs) → AreSpecs names specs → 1 ≤ specs_height specs
file_specs_height names NoSpec is = absurd (false≢true is.0)
file_specs_height names (MoreSpecs s others) is = let h = spec_some s in omega (arith, h)

abbrev pub file_specs_least : (names : Names) → Least (FileSpecs names)
file_specs_least names = record {
  tree = MoreSpecs (Plain (word.Integer Int)) NoSpec;
  is_phrase = (refl, (tt, tt));
  below = λ other is. file_specs_height names other is;
}

abbrev pub MemberGroup : Type 0
MemberGroup = Specs × List Declarator

-- members of one type
abbrev pub member_pair : (names : Names) → Pair (MemberGroups names) (FileSpecs names) (Separated (MemberDeclarators names) semicolon) 1 [] (λ part. part)
member_pair names = record {
  production = record {
    invert = λ whole after following is fit same. (whole, refl, is, sym same);
    shut = λ part after shut. tt;
    spelled = λ part after. refl;
    is_phrase = λ part is. is;
    taller = λ part. refl;
  };
  law_first = file_specs_law names;
  law_second = member_list_law names;
  joins = λ c d after is are shut. starts_end_specs (with_commas declarator_text d (semicolon ∷ after))
      (member_starts names d (semicolon ∷ after) are.0 are.1);
  least_first = file_specs_least names;
  least_second = separated_least (MemberDeclarators names) semicolon (members_least names);
}

spec_no_punctuator : (s : Spec) (m : Punctuator) → first_of s ≡ token.Punctuator m → ⊥
spec_no_punctuator Static m e = cc
spec_no_punctuator (Plain word.Const) m e = cc
spec_no_punctuator (Plain word.Void) m e = cc
spec_no_punctuator (Plain (word.Integer Char)) m e = cc
spec_no_punctuator (Plain (word.Integer Short)) m e = cc
spec_no_punctuator (Plain (word.Integer Int)) m e = cc
spec_no_punctuator (Plain (word.Integer Long)) m e = cc
spec_no_punctuator (Plain (word.Integer Signed)) m e = cc
spec_no_punctuator (Plain (word.Integer Unsigned)) m e = cc
spec_no_punctuator (Plain (word.Typedef n)) m e = cc
spec_no_punctuator (Plain (word.Struct tag)) m e = cc
spec_no_punctuator (Plain (word.Enum tag)) m e = cc
spec_no_punctuator (StructBody tag members) m e = cc
spec_no_punctuator (EnumBody tag constants comma) m e = cc

-- no specifiers begin with a punctuator
pub specs_no_punctuator : (names : Names) (specs : Specs) (x : Kinds) (m : Punctuator) (more : Kinds) → AreSpecs names specs
    → specs_text specs x ≡ token.Punctuator m ∷ more → ⊥
specs_no_punctuator names NoSpec x m more is same = false≢true is.0
specs_no_punctuator names (MoreSpecs s others) x m more is same =
    let b = spec_starts s (specs_text others x) in
    let z : first_of s ∷ b.0 ≡ token.Punctuator m ∷ more = sym b.1 ∙ same in
    spec_no_punctuator s m cc

pub member_form : (names : Names) (list : Members) → AreMembers names list
    → (list ≡ NoMember) ⊎ ((c : MemberGroup) × (rest : Members) × (list ≡ MoreMembers c.0 c.1 rest) × (MemberGroups names).Is c
    × AreMembers names rest)
member_form names NoMember are = inl refl
member_form names (MoreMembers specs declarators others) are = inr ((specs, declarators), others, refl, ((are.0, are.1), (are.2, are.3)), are.4)

abbrev pub more_members : MemberGroup → Members → Members
more_members group rest = MoreMembers group.0 group.1 rest

-- members are a list
abbrev pub member_listing : (names : Names) → Listing (MemberRows names) (MemberGroups names)
member_listing names = record {
  none = NoMember;
  more = more_members;
  form = member_form names;
  is_none = tt;
  is_more = λ c rest is are. (is.0.0, is.0.1, is.1.0, is.1.1, are);
  spell_more = λ c rest after. refl;
  tall_none = refl;
  tall_more = λ c rest. refl;
  shut_more = λ c rest after shut. tt;
  joins = λ c rest after is are shut. tt;
  apart = λ c x after is shut same. specs_no_punctuator names c.0 (with_commas declarator_text c.1 (semicolon ∷ x)) punctuator.CloseBrace after is.0 same;
  law = λ c x y. specs_append c.0 (with_commas declarator_text c.1 (semicolon ∷ x)) y
      ∙ ap (specs_text c.0) (with_commas_append declarator_text declarator_append c.1 (semicolon ∷ x) y);
}

abbrev pub joined_members : Members → Members → Members
joined_members NoMember rest = rest
joined_members (MoreMembers specs declarators others) rest = MoreMembers specs declarators (joined_members others rest)

pub members_joined_more : (done : Members) (c : MemberGroup) (rest : Members)
    → joined_members (joined_members done (more_members c NoMember)) rest ≡ joined_members done (more_members c rest)
members_joined_more NoMember c rest = refl
members_joined_more (MoreMembers specs declarators others) c rest = ap (MoreMembers specs declarators) (members_joined_more others c rest)

pub members_joined_none : (done : Members) → joined_members done NoMember ≡ done
members_joined_none NoMember = refl
members_joined_none (MoreMembers specs declarators others) = ap (MoreMembers specs declarators) (members_joined_none others)

pub members_more_text : (done : Members) (c : MemberGroup) (x : Kinds)
    → members_text (joined_members done (more_members c NoMember)) x
    ≡ members_text done (specs_text c.0 (with_commas declarator_text c.1 (semicolon ∷ x)))
members_more_text NoMember c x = refl
members_more_text (MoreMembers specs declarators others) c x =
    ap (λ (r : Kinds). specs_text specs (with_commas declarator_text declarators (semicolon ∷ r))) (members_more_text others c x)

abbrev pub member_growing : (names : Names) → Growing (MemberRows names) (MemberGroups names) (member_listing names)
member_growing names = record {
  append = joined_members;
  row_text = members_text;
  append_more = members_joined_more;
  append_none = members_joined_none;
  none_append = λ rest. refl;
  none_text = λ x. refl;
  text_more = members_more_text;
  row_append = members_append;
  law = member_rows_law names;
}

no_member_is : (names : Names) (other : Members) (after following : Kinds) → AreMembers names other
    → members_text other (close_brace ∷ after) ≡ close_brace ∷ following → (other ≡ NoMember) × (after ≡ following)
no_member_is names NoMember after following are same = (refl, cc)
no_member_is names (MoreMembers specs declarators others) after following are same =
    absurd (specs_no_punctuator names specs (with_commas declarator_text declarators (semicolon ∷ members_text others (close_brace ∷ after)))
    punctuator.CloseBrace following (are.0, are.1) same)

-- the next token is the closing brace of a struct
pub members_end : (names : Names) (limit : ℕ) → Exactly (MemberRows names) limit NoMember
members_end names limit = record {
  is_phrase = tt;
  low = omega arith;
  exact = λ other after following is same. no_member_is names other after following is same;
}
