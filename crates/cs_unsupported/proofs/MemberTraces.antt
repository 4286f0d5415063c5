-- The tokens of structures' members with their roles: after a member's declarator a semicolon may follow. For the contract of
-- `is_after_member`.
use Rattle.std.proofs.Common.{◌≡◌, ℕ, Bool, true, false, ◌&&◌, IsTrue, List, [], ◌∷◌, Option, Some, None, refl, sym, ap, subst}
use Rattle.std.specs.List.{list_all}
use Rattle.std.proofs.lemmas.Bool.{false≢true}
use Rattle.cs_ast.specs.declared.token.TokenKind.TheVariants as token
use Rattle.cs_ast.specs.declared.token.Keyword.TheVariants as keyword
use Rattle.cs_ast.specs.declared.token.Punctuator.TheVariants as punctuator
use Rattle.cs_ast.specs.declared.raw.written_type.TypeWord.{TypeWord}
use Rattle.cs_ast.specs.declared.raw.written_type.TypeWord.TheVariants as word
use Rattle.cs_ast.specs.declared.raw.written_type.IntegerWord.{IntegerWord}
use Rattle.cs_ast.specs.declared.raw.written_type.IntegerWord.TheVariants.{Char, Short, Int, Long, Signed, Unsigned}
use Rattle.cs_ast.specs.declared.raw.written_type.PointerWord.{PointerWord}
use Rattle.cs_ast.specs.declared.raw.written_type.PointerWord.TheVariants as pointer
use Rattle.cs_ast.specs.RawTree.{Written}
use Rattle.cs_ast.specs.RawDeclarations.{Declarator, Constant, Static, Plain, StructBody, EnumBody, Specs, NoSpec, MoreSpecs, Members, NoMember, MoreMembers}
use Rattle.cs_grammar.specs.TypeWords.{Names, is_integer_word, fit_together, named_by, names_type, is_type}
use Rattle.cs_grammar.specs.Text.{Kinds, type_word_text, integer_word_text, pointers_text}
use Rattle.cs_grammar.specs.FileText.{some_text, comma_text, each_after_comma, with_commas, brackets_text, declarator_text, constant_text, spec_text}
use Rattle.cs_grammar.specs.FileText.{specs_text, members_text}
use Rattle.cs_grammar.specs.FilePhrases.{AreAll, IsSomeList, words_of, IsFullBound, IsMember, HaveBodies, AreMembers}
use Rattle.cs_grammar.specs.Roles.{another, after_member, declared_name, Roles, each, comma_roles, each_after, between, brackets_roles, declarator_roles}
use Rattle.cs_grammar.specs.Roles.{constant_roles, specs_roles, members_roles}
use Rattle.cs_unsupported.specs.declared.members.Phase.{Phase}
use Rattle.cs_unsupported.specs.declared.members.Phase.TheVariants.{Outside, Typing, Typed, Declared}
use Rattle.cs_unsupported.specs.declared.members.Last.{Last}
use Rattle.cs_unsupported.specs.declared.members.Last.TheVariants as last
use Rattle.cs_unsupported.specs.Spots.{name_after, step}
use Rattle.cs_unsupported.proofs.Traces.{Trace, spot, Calm, word_calm, some_calm, comma_calm, list_calm, constant_calm}

-- the last token is `struct` or `enum`
abbrev is_tagging : Last → Bool
is_tagging last.Struct = true
is_tagging last.Enum = true
is_tagging following = false

name_settled : (b : Last) → is_tagging (name_after b) ≡ false
name_settled last.Struct = refl
name_settled _ = refl

-- a semicolon continues
abbrev Ends : (Kinds → Type 0) → Type 0
Ends W = (more : Kinds) × W (token.Punctuator punctuator.Semicolon ∷ more)

not_bracket : token.Punctuator punctuator.OpenBracket ≡ token.Punctuator punctuator.Semicolon → ⊥
not_bracket e = cc

-- the bounds of a member
bounds_trace : (names : Names) (W : Kinds → Type 0) (s : List Phase) (bs : List (Option Written)) (ts : Kinds) (rs : Roles) → AreAll (IsFullBound names) bs
    → ((others : List (Option Written)) → AreAll (IsFullBound names) others → Ends (λ y. W (brackets_text others y)))
    → Trace (λ y. W (brackets_text bs y)) (spot Declared last.Other s) ts rs
    → Trace W (spot Declared last.Other s) (brackets_text bs ts) (brackets_roles bs rs)
bounds_trace names W s [] ts rs are ends h = h
bounds_trace names W s (e ∷ bs) ts rs are ends h = (
  (ends [] tt, λ same. absurd (not_bracket same)),
  some_calm (λ y. W (token.Punctuator punctuator.OpenBracket ∷ y)) (Declared ∷ s) e (token.Punctuator punctuator.CloseBracket ∷ brackets_text bs ts)
      (another ∷ brackets_roles bs rs)
      (λ c. (
        refl,
        bounds_trace names (λ y. W (token.Punctuator punctuator.OpenBracket ∷ some_text e (token.Punctuator punctuator.CloseBracket ∷ y))) s bs ts rs are.1
            (λ others all. ends (e ∷ others) (are.0, all)) h,
      )) last.Other,
)

-- the pointers before its name
stars_trace : (W : Kinds → Type 0) (s : List Phase) (ps : List PointerWord) (ts : Kinds) (rs : Roles)
    → ((b : Last) → is_tagging b ≡ false → Trace (λ y. W (pointers_text ps y)) (spot Typed b s) ts rs) → (b : Last) → is_tagging b ≡ false
    → Trace W (spot Typed b s) (pointers_text ps ts) (each another (pointers_text ps []) rs)
stars_trace W s [] ts rs h b ok = h b ok
stars_trace W s (pointer.Star ∷ ps) ts rs h b ok = (refl, stars_trace (λ y. W (token.Punctuator punctuator.Star ∷ y)) s ps ts rs h last.Other refl)
stars_trace W s (pointer.Const ∷ ps) ts rs h b ok = (refl, stars_trace (λ y. W (token.Keyword keyword.Const ∷ y)) s ps ts rs h last.Other refl)

name_trace : (W : Kinds → Type 0) (s : List Phase) (n : List ℕ) (ts : Kinds) (rs : Roles) → Trace W (spot Declared last.Other s) ts rs
    → (b : Last) → is_tagging b ≡ false → Trace W (step (token.Name n) (spot Typed b s)) ts rs
name_trace W s n ts rs h last.Struct ok = absurd (false≢true (sym ok))
name_trace W s n ts rs h last.Enum ok = absurd (false≢true (sym ok))
name_trace W s n ts rs h last.StructTag ok = h
name_trace W s n ts rs h last.Other ok = h

declarator_trace : (names : Names) (W : Kinds → Type 0) (s : List Phase) (d : Declarator) (ts : Kinds) (rs : Roles) → IsMember names d
    → ((other : Declarator) → IsMember names other → Ends (λ y. W (declarator_text other y)))
    → Trace (λ y. W (declarator_text d y)) (spot Declared last.Other s) ts rs → (b : Last) → is_tagging b ≡ false
    → Trace W (spot Typed b s) (declarator_text d ts) (declarator_roles d rs)
declarator_trace names W s d ts rs is ends h =
    stars_trace W s d.pointers (token.Name d.name ∷ brackets_text d.bounds ts) (declared_name ∷ brackets_roles d.bounds rs)
    (λ b ok. (
      refl,
      name_trace (λ y. W (pointers_text d.pointers (token.Name d.name ∷ y))) s d.name (brackets_text d.bounds ts) (brackets_roles d.bounds rs)
          (bounds_trace names (λ y. W (pointers_text d.pointers (token.Name d.name ∷ y))) s d.bounds ts rs is.bounds
          (λ others all.
          ends (record { pointers = d.pointers; name = d.name; bounds = others }) (record { pointers = is.pointers; named = is.named; bounds = all })) h) b
          ok,
    ))

-- more declarators, and the semicolon after them
further_trace : (names : Names) (W : Kinds → Type 0) (s : List Phase) (ds : List Declarator) (ts : Kinds) (rs : Roles) → AreAll (IsMember names) ds
    → W (token.Punctuator punctuator.Semicolon ∷ ts)
    → ((others : List Declarator) → IsSomeList others → AreAll (IsMember names) others
    → W (each_after_comma declarator_text others (token.Punctuator punctuator.Semicolon ∷ ts)))
    → Trace (λ y. W (each_after_comma declarator_text ds (token.Punctuator punctuator.Semicolon ∷ y))) (spot Typing last.Other s) ts rs
    → Trace W (spot Declared last.Other s) (each_after_comma declarator_text ds (token.Punctuator punctuator.Semicolon ∷ ts))
    (each_after after_member declarator_roles ds (after_member ∷ rs))
further_trace names W s [] ts rs are end ends h = (((ts, end), λ e. refl), h)
further_trace names W s (d ∷ ds) ts rs are end ends h = (
  ((ts, end), λ e. refl),
  declarator_trace names (λ y. W (token.Punctuator punctuator.Comma ∷ y)) s d
      (each_after_comma declarator_text ds (token.Punctuator punctuator.Semicolon ∷ ts)) (each_after after_member declarator_roles ds (after_member ∷ rs))
      are.0
      (λ other is. (ts, ends (other ∷ []) tt (is, tt)))
      (further_trace names (λ y. W (token.Punctuator punctuator.Comma ∷ declarator_text d y)) s ds ts rs are.1 (ends (d ∷ []) tt (are.0, tt))
      (λ others some all. ends (d ∷ others) tt (are.0, all)) h) last.Other refl,
)

declarators_trace : (names : Names) (W : Kinds → Type 0) (s : List Phase) (ds : List Declarator) (ts : Kinds) (rs : Roles) → IsSomeList ds
    → AreAll (IsMember names) ds
    → ((others : List Declarator) → IsSomeList others → AreAll (IsMember names) others
    → W (with_commas declarator_text others (token.Punctuator punctuator.Semicolon ∷ ts)))
    → Trace (λ y. W (with_commas declarator_text ds (token.Punctuator punctuator.Semicolon ∷ y))) (spot Typing last.Other s) ts rs
    → (b : Last) → is_tagging b ≡ false
    → Trace W (spot Typed b s) (with_commas declarator_text ds (token.Punctuator punctuator.Semicolon ∷ ts))
    (between after_member declarator_roles ds (after_member ∷ rs))
declarators_trace names W s [] ts rs some are ends h = absurd some
declarators_trace names W s (d ∷ ds) ts rs some are ends h =
    declarator_trace names W s d (each_after_comma declarator_text ds (token.Punctuator punctuator.Semicolon ∷ ts))
    (each_after after_member declarator_roles ds (after_member ∷ rs)) are.0
    (λ other is. (ts, ends (other ∷ []) tt (is, tt)))
    (further_trace names (λ y. W (declarator_text d y)) s ds ts rs are.1 (ends (d ∷ []) tt (are.0, tt))
    (λ others one all. ends (d ∷ others) tt (are.0, all)) h)

-- the words of a type: only one that names a whole type, or words of integer types
both_true : (a b : Bool) → a && b ≡ true → a ≡ true
both_true true b e = refl
both_true false b e = absurd (false≢true e)

rest_true : (a b : Bool) → a && b ≡ true → b ≡ true
rest_true true b e = e
rest_true false b e = absurd (false≢true e)

pub alone : (names : Names) (w : TypeWord) (ws : List TypeWord) → is_integer_word w ≡ false → IsTrue (names_type names (w ∷ ws))
    → list_all is_integer_word ws ≡ true
alone names w [] foreign is = refl
alone names word.Const (v ∷ ws) foreign is = absurd (false≢true is)
alone names (word.Integer k) (v ∷ ws) foreign is = absurd (false≢true (sym foreign))
alone names word.Void (v ∷ ws) foreign is = absurd (false≢true is)
alone names (word.Typedef n) (v ∷ ws) foreign is = absurd (false≢true is)
alone names (word.Struct n) (v ∷ ws) foreign is = absurd (false≢true is)
alone names (word.Enum n) (v ∷ ws) foreign is = absurd (false≢true is)

pub among_integers : (names : Names) (k : IntegerWord) (ws : List TypeWord) → IsTrue (names_type names (word.Integer k ∷ ws))
    → list_all is_integer_word ws ≡ true
among_integers names k ws is = both_true (list_all is_integer_word ws) (fit_together (word.Integer k ∷ ws)) is

integer_typed : (W : Kinds → Type 0) (s : List Phase) (k : IntegerWord) (ts : Kinds) (rs : Roles) (b : Last) → Trace W (spot Typed last.Other s) ts rs
    → Trace W (step (integer_word_text k) (spot Typed b s)) ts rs
integer_typed W s Char ts rs b h = h
integer_typed W s Short ts rs b h = h
integer_typed W s Int ts rs b h = h
integer_typed W s Long ts rs b h = h
integer_typed W s Signed ts rs b h = h
integer_typed W s Unsigned ts rs b h = h

integer_typing : (W : Kinds → Type 0) (s : List Phase) (k : IntegerWord) (ts : Kinds) (rs : Roles) (b : Last) → Trace W (spot Typed last.Other s) ts rs
    → Trace W (step (integer_word_text k) (spot Typing b s)) ts rs
integer_typing W s Char ts rs b h = h
integer_typing W s Short ts rs b h = h
integer_typing W s Int ts rs b h = h
integer_typing W s Long ts rs b h = h
integer_typing W s Signed ts rs b h = h
integer_typing W s Unsigned ts rs b h = h

-- more words of a type of members
typed_trace : (W : Kinds → Type 0) (s : List Phase) (specs : Specs) (ts : Kinds) (rs : Roles)
    → list_all is_integer_word (named_by (words_of specs)) ≡ true
    → ((b : Last) → is_tagging b ≡ false → Trace (λ y. W (specs_text specs y)) (spot Typed b s) ts rs) → (b : Last) → is_tagging b ≡ false
    → Trace W (spot Typed b s) (specs_text specs ts) (specs_roles specs rs)
typed_trace W s NoSpec ts rs all h b ok = h b ok
typed_trace W s (MoreSpecs Static others) ts rs all h b ok =
    (refl, typed_trace (λ y. W (token.Keyword keyword.Static ∷ y)) s others ts rs all h last.Other refl)
typed_trace W s (MoreSpecs (Plain word.Const) others) ts rs all h b ok =
    (refl, typed_trace (λ y. W (token.Keyword keyword.Const ∷ y)) s others ts rs all h last.Other refl)
typed_trace W s (MoreSpecs (Plain (word.Integer k)) others) ts rs all h b ok = (
  refl,
  integer_typed (λ y. W (integer_word_text k ∷ y)) s k (specs_text others ts) (specs_roles others rs) b
      (typed_trace (λ y. W (integer_word_text k ∷ y)) s others ts rs all h last.Other refl),
)
typed_trace W s (MoreSpecs (Plain word.Void) others) ts rs all h b ok = absurd (false≢true all)
typed_trace W s (MoreSpecs (Plain (word.Typedef n)) others) ts rs all h b ok = absurd (false≢true all)
typed_trace W s (MoreSpecs (Plain (word.Struct n)) others) ts rs all h b ok = absurd (false≢true all)
typed_trace W s (MoreSpecs (Plain (word.Enum n)) others) ts rs all h b ok = absurd (false≢true all)
typed_trace W s (MoreSpecs (StructBody tag members) others) ts rs all h b ok = absurd (false≢true all)
typed_trace W s (MoreSpecs (EnumBody tag constants comma) others) ts rs all h b ok = absurd (false≢true all)

-- some type has a body of members
abbrev pub HasMembers : Specs → Type 0
HasMembers NoSpec = ⊥
HasMembers (MoreSpecs (StructBody tag members) others) = Unit {0}
HasMembers (MoreSpecs other others) = HasMembers others

-- the same words with other members are allowed in their place
abbrev pub Exchanges : (Kinds → Type 0) → Names → Specs → Kinds → Type 0
Exchanges W names specs ts = (others : Specs) → words_of others ≡ words_of specs → HaveBodies names others → HasMembers others
    → W (specs_text others ts)

-- the constants of an enumeration, after the brace
constants_calm : (W : Kinds → Type 0) (s : List Phase) (constants : List Constant) (comma : Bool) (ts : Kinds) (rs : Roles)
    → Calm (λ y. W (with_commas constant_text constants (comma_text comma y))) s ts rs
    → Calm W s (with_commas constant_text constants (comma_text comma ts)) (between another constant_roles constants (comma_roles comma rs))
constants_calm W s constants comma ts rs h =
    list_calm constant_text constant_roles constant_calm W s constants (comma_text comma ts) (comma_roles comma rs)
    (comma_calm (λ y. W (with_commas constant_text constants y)) s comma ts rs h)

mutual
  -- the members of a structure, after the brace
  pub members_trace : (names : Names) (W : Kinds → Type 0) (s : List Phase) (m : Members) (ts : Kinds) (rs : Roles) → AreMembers names m
      → ((others : Members) → AreMembers names others → W (members_text others ts))
      → Trace (λ y. W (members_text m y)) (spot Typing last.Other s) ts rs → Trace W (spot Typing last.Other s) (members_text m ts) (members_roles m rs)
  members_trace names W s NoMember ts rs is others h = h
  members_trace names W s (MoreMembers specs ds m) ts rs is others h =
      typing_trace names W s specs (with_commas declarator_text ds (token.Punctuator punctuator.Semicolon ∷ members_text m ts))
      (between after_member declarator_roles ds (after_member ∷ members_roles m rs)) is.0 is.1
      (λ specs' same have some. others (MoreMembers specs' ds m) (subst (λ ws. IsTrue (is_type names ws)) (sym same) is.0, have, is.2, is.3, is.4))
      (declarators_trace names (λ y. W (specs_text specs y)) s ds (members_text m ts) (members_roles m rs) is.2 is.3
      (λ ds' some all. others (MoreMembers specs ds' m) (is.0, is.1, some, all, is.4))
      (members_trace names (λ y. W (specs_text specs (with_commas declarator_text ds (token.Punctuator punctuator.Semicolon ∷ y)))) s m ts rs is.4
      (λ m' all. others (MoreMembers specs ds m') (is.0, is.1, is.2, is.3, all)) h)) last.Other

  -- the words of a type of members
  typing_trace : (names : Names) (W : Kinds → Type 0) (s : List Phase) (specs : Specs) (ts : Kinds) (rs : Roles) → IsTrue (is_type names (words_of specs))
      → HaveBodies names specs → Exchanges W names specs ts
      → ((b : Last) → is_tagging b ≡ false → Trace (λ y. W (specs_text specs y)) (spot Typed b s) ts rs)
      → (b : Last) → Trace W (spot Typing b s) (specs_text specs ts) (specs_roles specs rs)
  typing_trace names W s NoSpec ts rs is have other h b = absurd (false≢true is)
  typing_trace names W s (MoreSpecs Static others) ts rs is have other h b = (
    refl,
    typing_trace names (λ y. W (token.Keyword keyword.Static ∷ y)) s others ts rs is have.1
        (λ specs same bodies some. other (MoreSpecs Static specs) same (tt, bodies) some) h last.Other,
  )
  typing_trace names W s (MoreSpecs (Plain word.Const) others) ts rs is have other h b = (
    refl,
    typing_trace names (λ y. W (token.Keyword keyword.Const ∷ y)) s others ts rs is have.1
        (λ specs same bodies some. other (MoreSpecs (Plain word.Const) specs) (ap (λ ws. word.Const ∷ ws) same) (tt, bodies) some) h last.Other,
  )
  typing_trace names W s (MoreSpecs (Plain (word.Integer k)) others) ts rs is have other h b = (
    refl,
    integer_typing (λ y. W (integer_word_text k ∷ y)) s k (specs_text others ts) (specs_roles others rs) b
        (typed_trace (λ y. W (integer_word_text k ∷ y)) s others ts rs (among_integers names k (named_by (words_of others)) is) h last.Other refl),
  )
  typing_trace names W s (MoreSpecs (Plain word.Void) others) ts rs is have other h b = (
    refl,
    typed_trace (λ y. W (token.Keyword keyword.Void ∷ y)) s others ts rs (alone names word.Void (named_by (words_of others)) refl is) h last.Other refl,
  )
  typing_trace names W s (MoreSpecs (Plain (word.Typedef n)) others) ts rs is have other h b = (
    refl,
    typed_trace (λ y. W (token.Name n ∷ y)) s others ts rs (alone names (word.Typedef n) (named_by (words_of others)) refl is) h (name_after b)
        (name_settled b),
  )
  typing_trace names W s (MoreSpecs (Plain (word.Struct n)) others) ts rs is have other h b = (
    refl,
    (
      refl,
      typed_trace (λ y. W (token.Keyword keyword.Struct ∷ token.Name n ∷ y)) s others ts rs
          (alone names (word.Struct n) (named_by (words_of others)) refl is) h last.StructTag refl,
    ),
  )
  typing_trace names W s (MoreSpecs (Plain (word.Enum n)) others) ts rs is have other h b = (
    refl,
    (
      refl,
      typed_trace (λ y. W (token.Keyword keyword.Enum ∷ token.Name n ∷ y)) s others ts rs (alone names (word.Enum n) (named_by (words_of others)) refl is)
          h last.Other refl,
    ),
  )
  typing_trace names W s (MoreSpecs (StructBody None m) others) ts rs is have other h b = (
    refl,
    (
      refl,
      members_trace names (λ y. W (token.Keyword keyword.Struct ∷ token.Punctuator punctuator.OpenBrace ∷ y)) (Typed ∷ s) m
          (token.Punctuator punctuator.CloseBrace ∷ specs_text others ts) (another ∷ specs_roles others rs) have.0
          (λ m' all. other (MoreSpecs (StructBody None m') others) refl (all, have.1) tt) (
            refl,
            typed_trace (λ y. W (spec_text (StructBody None m) y)) s others ts rs (alone names (word.Struct []) (named_by (words_of others)) refl is) h
                last.Other refl,
          ),
    ),
  )
  typing_trace names W s (MoreSpecs (StructBody (Some n) m) others) ts rs is have other h b = (
    refl,
    (
      refl,
      (
        refl,
        members_trace names (λ y. W (token.Keyword keyword.Struct ∷ token.Name n ∷ token.Punctuator punctuator.OpenBrace ∷ y)) (Typed ∷ s) m
            (token.Punctuator punctuator.CloseBrace ∷ specs_text others ts) (another ∷ specs_roles others rs) have.0
            (λ m' all. other (MoreSpecs (StructBody (Some n) m') others) refl (all, have.1) tt) (
              refl,
              typed_trace (λ y. W (spec_text (StructBody (Some n) m) y)) s others ts rs (alone names (word.Struct []) (named_by (words_of others)) refl is) h
                  last.Other refl,
            ),
      ),
    ),
  )
  typing_trace names W s (MoreSpecs (EnumBody None cs comma) others) ts rs is have other h b = (
    refl,
    (
      refl,
      constants_calm (λ y. W (token.Keyword keyword.Enum ∷ token.Punctuator punctuator.OpenBrace ∷ y)) (Typed ∷ s) cs comma
          (token.Punctuator punctuator.CloseBrace ∷ specs_text others ts) (another ∷ specs_roles others rs)
          (λ c. (
            refl,
            typed_trace (λ y. W (spec_text (EnumBody None cs comma) y)) s others ts rs (alone names (word.Enum []) (named_by (words_of others)) refl is) h
                last.Other refl,
          )) last.Other,
    ),
  )
  typing_trace names W s (MoreSpecs (EnumBody (Some n) cs comma) others) ts rs is have other h b = (
    refl,
    (
      refl,
      (
        refl,
        constants_calm (λ y. W (token.Keyword keyword.Enum ∷ token.Name n ∷ token.Punctuator punctuator.OpenBrace ∷ y)) (Typed ∷ s) cs comma
            (token.Punctuator punctuator.CloseBrace ∷ specs_text others ts) (another ∷ specs_roles others rs)
            (λ c. (
              refl,
              typed_trace (λ y. W (spec_text (EnumBody (Some n) cs comma) y)) s others ts rs (alone names (word.Enum []) (named_by (words_of others)) refl is)
                  h last.Other refl,
            )) last.Other,
      ),
    ),
  )

-- specifiers outside of members
pub specs_calm : (names : Names) (W : Kinds → Type 0) (s : List Phase) (specs : Specs) (ts : Kinds) (rs : Roles) → HaveBodies names specs
    → Exchanges W names specs ts → Calm (λ y. W (specs_text specs y)) s ts rs → Calm W s (specs_text specs ts) (specs_roles specs rs)
specs_calm names W s NoSpec ts rs have other h = h
specs_calm names W s (MoreSpecs Static others) ts rs have other h =
    λ b. (
      refl,
      specs_calm names (λ y. W (token.Keyword keyword.Static ∷ y)) s others ts rs have.1
          (λ specs same bodies some. other (MoreSpecs Static specs) same (tt, bodies) some) h last.Other,
    )
specs_calm names W s (MoreSpecs (Plain w) others) ts rs have other h =
    word_calm another refl W s w (specs_text others ts) (specs_roles others rs)
    (specs_calm names (λ y. W (type_word_text w y)) s others ts rs have.1
    (λ specs same bodies some. other (MoreSpecs (Plain w) specs) (ap (λ ws. w ∷ ws) same) (tt, bodies) some) h)
specs_calm names W s (MoreSpecs (StructBody None m) others) ts rs have other h =
    λ b. (
      refl,
      (
        refl,
        members_trace names (λ y. W (token.Keyword keyword.Struct ∷ token.Punctuator punctuator.OpenBrace ∷ y)) (Outside ∷ s) m
            (token.Punctuator punctuator.CloseBrace ∷ specs_text others ts) (another ∷ specs_roles others rs) have.0
            (λ m' all. other (MoreSpecs (StructBody None m') others) refl (all, have.1) tt) (
              refl,
              specs_calm names (λ y. W (spec_text (StructBody None m) y)) s others ts rs have.1
                  (λ specs same bodies some. other (MoreSpecs (StructBody None m) specs) (ap (λ ws. word.Struct [] ∷ ws) same) (have.0, bodies) tt) h
                  last.Other,
            ),
      ),
    )
specs_calm names W s (MoreSpecs (StructBody (Some n) m) others) ts rs have other h =
    λ b. (
      refl,
      (
        refl,
        (
          refl,
          members_trace names (λ y. W (token.Keyword keyword.Struct ∷ token.Name n ∷ token.Punctuator punctuator.OpenBrace ∷ y)) (Outside ∷ s) m
              (token.Punctuator punctuator.CloseBrace ∷ specs_text others ts) (another ∷ specs_roles others rs) have.0
              (λ m' all. other (MoreSpecs (StructBody (Some n) m') others) refl (all, have.1) tt) (
                refl,
                specs_calm names (λ y. W (spec_text (StructBody (Some n) m) y)) s others ts rs have.1
                    (λ specs same bodies some. other (MoreSpecs (StructBody (Some n) m) specs) (ap (λ ws. word.Struct [] ∷ ws) same) (have.0, bodies) tt) h
                    last.Other,
              ),
        ),
      ),
    )
specs_calm names W s (MoreSpecs (EnumBody None cs comma) others) ts rs have other h =
    λ b. (
      refl,
      (
        refl,
        constants_calm (λ y. W (token.Keyword keyword.Enum ∷ token.Punctuator punctuator.OpenBrace ∷ y)) (Outside ∷ s) cs comma
            (token.Punctuator punctuator.CloseBrace ∷ specs_text others ts) (another ∷ specs_roles others rs)
            (λ c. (
              refl,
              specs_calm names (λ y. W (spec_text (EnumBody None cs comma) y)) s others ts rs have.1
                  (λ specs same bodies some. other (MoreSpecs (EnumBody None cs comma) specs) (ap (λ ws. word.Enum [] ∷ ws) same) (have.0, bodies) some) h
                  last.Other,
            )) last.Other,
      ),
    )
specs_calm names W s (MoreSpecs (EnumBody (Some n) cs comma) others) ts rs have other h =
    λ b. (
      refl,
      (
        refl,
        (
          refl,
          constants_calm (λ y. W (token.Keyword keyword.Enum ∷ token.Name n ∷ token.Punctuator punctuator.OpenBrace ∷ y)) (Outside ∷ s) cs comma
              (token.Punctuator punctuator.CloseBrace ∷ specs_text others ts) (another ∷ specs_roles others rs)
              (λ c. (
                refl,
                specs_calm names (λ y. W (spec_text (EnumBody (Some n) cs comma) y)) s others ts rs have.1
                    (λ specs same bodies some.
                    other (MoreSpecs (EnumBody (Some n) cs comma) specs) (ap (λ ws. word.Enum [] ∷ ws) same) (have.0, bodies) some) h last.Other,
              )) last.Other,
        ),
      ),
    )
