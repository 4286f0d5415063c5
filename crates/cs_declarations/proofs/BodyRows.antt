-- The specifiers and the members of a body as rows and as lists: for the types that specifiers with bodies name.
use Rattle.std.proofs.Common.{◌≡◌, ℕ, ◌+◌, ◌<◌, Bool, List, ◌∷◌, Option, Some, None, length, drop, get_or, refl, sym, ap, ◌∙◌, Vec}
use Rattle.std.proofs.Common.{Global}
use Rattle.std.specs.Option.{unwrap_or}
use Rattle.std.proofs.lemmas.List.{at_drop_more}
use mathlib.Core.Former.{Count}
use Rattle.cs_ast.specs.declared.place.Place.{Place}
use Rattle.cs_ast.specs.declared.raw.declaration.RawMember.{RawMember}
use Rattle.cs_ast.specs.declared.raw.declaration.RawEnumerator.{RawEnumerator}
use Rattle.cs_ast.specs.declared.raw.declaration.SpecWord as words
use Rattle.cs_ast.specs.declared.raw.declaration.SpecWord.{SpecWord}
use Rattle.cs_ast.specs.declared.raw.written_type.TypeWord.{TypeWord}
use Rattle.cs_ast.specs.declared.raw.written_type.TypeWord.TheVariants as word
use Rattle.cs_scopes.specs.Verdicts.{Verdict, Fine, Fault, lift}
use Rattle.cs_scopes.specs.TypeNames.{tag_place}
use Rattle.cs_declarations.specs.Environment.{Environment}
use Rattle.cs_declarations.specs.Bodies.{Laying, Opening, Body, nothing_laid, opening, struct_read, group_declared, first_name, plain_row, plain_words}
use Rattle.cs_declarations.specs.Bodies.{row_type, words_type, members_read, members_of_list, struct_body, enum_body, word_type}

-- rules with equal results are equal after another rule
lift-same : {A B : Type 0} (f g : A → Verdict B) (v : Verdict A) → ((a : A) → f a ≡ g a) → lift f v ≡ lift g v
unfolding lift
lift-same f g (Fine a) same = same a
lift-same f g (Fault code at) same = refl

row-plain : (n : _) (row : words.Row_of-SpecWord n) → plain_row row ≡ plain_words (words.items-the_row-SpecWord n row)
row-plain n words.end_of-SpecWord = refl
row-plain n (words.more_of-SpecWord (words.TheVariants.Plain w) others) = ap (λ ws. w ∷ ws) (row-plain _ others)
row-plain n (words.more_of-SpecWord words.TheVariants.Static others) = row-plain _ others
row-plain n (words.more_of-SpecWord (words.TheVariants.Struct' tag shape row) others) = row-plain _ others
row-plain n (words.more_of-SpecWord (words.TheVariants.Enum tag constants comma) others) = row-plain _ others

row-type : (n : _) (row : words.Row_of-SpecWord n) (k : Environment) (at_tag : Option Place) (at : Place) (all : List TypeWord)
    → row_type k at_tag at all row ≡ words_type k at_tag at all (words.items-the_row-SpecWord n row)
row-type n words.end_of-SpecWord k at_tag at all = refl
row-type n (words.more_of-SpecWord (words.TheVariants.Plain w) others) k at_tag at all = row-type _ others k at_tag at all
row-type n (words.more_of-SpecWord words.TheVariants.Static others) k at_tag at all = row-type _ others k at_tag at all
row-type n (words.more_of-SpecWord (words.TheVariants.Struct' tag shape row) others) k at_tag at all = refl
row-type n (words.more_of-SpecWord (words.TheVariants.Enum tag constants comma) others) k at_tag at all = refl

row-members : (n : _) (row : words.Row_of-RawMember n) (k : Environment) (before : Laying)
    → members_read k row before ≡ members_of_list k (words.items-the_row-RawMember n row) before
row-members n words.end_of-RawMember k before = refl
row-members n (words.more_of-RawMember shape row tag declarators others) k before =
    let at = first_name declarators.items in
    let rest : Body → Verdict Body = λ read. members_of_list read.known (words.items-the_row-RawMember _ others) read.laying in
    lift-same (λ (read : Body). members_read read.known others read.laying) rest
    (lift (group_declared declarators.items before) (row_type k tag at (plain_row row) row)) (λ read. row-members _ others read.known read.laying)
    ∙ ap (λ v. lift rest (lift (group_declared declarators.items before) v))
    (row-type _ row k tag at (plain_row row)
    ∙ ap (λ all. words_type k tag at all (words.items-the_row-SpecWord _ row)) (row-plain _ row)
    ∙ ap (λ ws. words_type k tag at (plain_words ws) ws) (sym (words.items_shown-the_row-SpecWord-0 shape row)))

-- the members of a struct as a row
abbrev members_of : SpecWord → (n : Count) × words.Row_of-RawMember n
members_of (words.TheVariants.Struct' tag shape row) = (_, row)
members_of _ = (_, words.end_of-RawMember)

-- a struct's body among specifiers
pub words-struct : (k : Environment) (at_tag : Option Place) (at : Place) (all : List TypeWord) (tag : Option (List ℕ)) (list : Vec RawMember Global)
    (others : List SpecWord) → words_type k at_tag at all (words.TheVariants.Struct tag list ∷ others)
    ≡ struct_body k (tag_place at at_tag) tag list.items
words-struct k at_tag at all tag list others =
    let row = members_of (words.TheVariants.Struct tag list) in
    lift-same (λ (o : Opening). lift (struct_read o k.reading tag) (members_read o.known row.1 nothing_laid))
    (λ (o : Opening). lift (struct_read o k.reading tag) (members_of_list o.known list.items nothing_laid)) (opening (tag_place at at_tag) tag k)
    (λ o.
    ap (lift (struct_read o k.reading tag)) (row-members row.0 row.1 o.known nothing_laid
    ∙ ap (λ ms. members_of_list o.known ms nothing_laid) (words.items_hidden-the_row-RawMember-1 list)))

module _ (k : Environment) (at_tag : Option Place) (at : Place) (all : List TypeWord) (ws : List SpecWord) (i : ℕ) (w : SpecWord) (within : i < length ws)
    (is : w ≡ get_or ws i w) where
  among : (v : SpecWord) → w ≡ v → words_type k at_tag at all (drop i ws) ≡ words_type k at_tag at all (v ∷ drop (i + 1) ws)
  among v e = at_drop_more (words_type k at_tag at all) ws i w within ∙ ap (λ x. words_type k at_tag at all (x ∷ drop (i + 1) ws)) (sym is ∙ e)

  -- the first body among specifiers decides their type
  pub struct_among : (tag : Option (List ℕ)) (list : Vec RawMember Global) → w ≡ words.TheVariants.Struct tag list
      → words_type k at_tag at all (drop i ws) ≡ struct_body k (tag_place at at_tag) tag list.items
  struct_among tag list e = among (words.TheVariants.Struct tag list) e ∙ words-struct k at_tag at all tag list (drop (i + 1) ws)

  pub enum_among : (tag : Option (List ℕ)) (constants : Vec RawEnumerator Global) (comma : Bool) → w ≡ words.TheVariants.Enum tag constants comma
      → words_type k at_tag at all (drop i ws) ≡ enum_body k (tag_place at at_tag) tag constants.items
  enum_among tag constants comma e = among (words.TheVariants.Enum tag constants comma) e

-- the position of the tag in a type error
pub tag_reported : (at_tag : Option Place) (at : Place) → unwrap_or at_tag at ≡ tag_place at at_tag
tag_reported None at = refl
tag_reported (Some place) at = refl

pub word_reported : (k : Environment) (at_tag : Option Place) (at : Place) (all : List TypeWord) (w : Option TypeWord)
    → word_type k (Some (tag_place at at_tag)) at all w ≡ word_type k at_tag at all w
word_reported k at_tag at all None = refl
word_reported k at_tag at all (Some (word.Typedef name)) = refl
word_reported k at_tag at all (Some (word.Struct name)) = refl
word_reported k at_tag at all (Some (word.Enum name)) = refl
word_reported k at_tag at all (Some (word.Integer kind)) = refl
word_reported k at_tag at all (Some word.Void) = refl
word_reported k at_tag at all (Some word.Const) = refl
