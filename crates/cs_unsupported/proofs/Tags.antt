-- Whether the last tokens are `struct` or `enum` or its tag: for the contract of `is_tag_inside`.
use Rattle.std.proofs.Common.{◌≡◌, ℕ, true, List, [], ◌∷◌, ◌++◌, refl, sym, ap, ◌∙◌, subst, append_assoc, append-nil}
use Rattle.std.proofs.lemmas.Bool.{false≢true}
use Rattle.cs_ast.specs.declared.token.TokenKind.{TokenKind}
use Rattle.cs_ast.specs.declared.token.TokenKind.TheVariants as token
use Rattle.cs_ast.specs.declared.token.Keyword.{Keyword}
use Rattle.cs_ast.specs.declared.token.Keyword.TheVariants as keyword
use Rattle.cs_ast.specs.declared.token.Punctuator.{Punctuator}
use Rattle.cs_ast.specs.declared.token.Punctuator.TheVariants as punctuator
use Rattle.cs_grammar.specs.Text.{Kinds}
use Rattle.cs_grammar.specs.Refusals.{EndsWithTag, struct_after, enum_after, struct_tag_after, enum_tag_after}
use Rattle.cs_unsupported.specs.declared.inside.Where.{Where}
use Rattle.cs_unsupported.specs.declared.inside.Where.TheVariants.{Inside}
use Rattle.cs_unsupported.specs.declared.inside.Part.TheVariants as part
use Rattle.cs_unsupported.specs.declared.inside.Tagging.{Tagging}
use Rattle.cs_unsupported.specs.declared.inside.Tagging.TheVariants as tagging
use Rattle.cs_unsupported.specs.Sites.{Site, the_first, tag_after, tagging_after, closed, with_question, with_colon, punctuator_step, step, run, is_tagging}

-- the last tokens are those of a tag
abbrev Last : Kinds → Tagging → Type 0
Last front tagging.Struct = (before : Kinds) × (front ≡ before ++ token.Keyword keyword.Struct ∷ [])
Last front tagging.Enum = (before : Kinds) × (front ≡ before ++ token.Keyword keyword.Enum ∷ [])
Last front tagging.StructTag = (before : Kinds) × (tag : List ℕ) × (front ≡ before ++ token.Keyword keyword.Struct ∷ token.Name tag ∷ [])
Last front tagging.EnumTag = (before : Kinds) × (tag : List ℕ) × (front ≡ before ++ token.Keyword keyword.Enum ∷ token.Name tag ∷ [])
Last front tagging.Nothing = Unit {0}

closed_nothing : (around : List Where) → (closed around).following ≡ tagging.Nothing
closed_nothing [] = refl
closed_nothing (within ∷ around) = refl

question_nothing : (within : Where) (s : Site) → (with_question within s).following ≡ tagging.Nothing
question_nothing (Inside place) s = refl
question_nothing _ s = refl

colon_nothing : (within : Where) (s : Site) → (with_colon within s).following ≡ tagging.Nothing
colon_nothing (Inside part.Choice) s = closed_nothing s.around
colon_nothing (Inside part.BodyChoice) s = closed_nothing s.around
colon_nothing _ s = refl

nothing_after : (m : Punctuator) (s : Site) → (punctuator_step m s).following ≡ tagging.Nothing
nothing_after punctuator.CloseBrace s = closed_nothing s.around
nothing_after punctuator.CloseParenthesis s = closed_nothing s.around
nothing_after punctuator.CloseBracket s = closed_nothing s.around
nothing_after punctuator.Question s = question_nothing s.within s
nothing_after punctuator.Colon s = colon_nothing s.within s
nothing_after _ s = refl

last_word : (front : Kinds) (k : Keyword) → Last (front ++ token.Keyword k ∷ []) (tagging_after k)
last_word front keyword.Struct = (front, refl)
last_word front keyword.Enum = (front, refl)
last_word front _ = tt

last_tag : (front : Kinds) (n : List ℕ) (b : Tagging) → Last front b → Last (front ++ token.Name n ∷ []) (tag_after b)
last_tag front n tagging.Struct l =
    (l.0, n, ap (λ (x : Kinds). x ++ token.Name n ∷ []) l.1 ∙ append_assoc l.0 (token.Keyword keyword.Struct ∷ []) (token.Name n ∷ []))
last_tag front n tagging.Enum l =
    (l.0, n, ap (λ (x : Kinds). x ++ token.Name n ∷ []) l.1 ∙ append_assoc l.0 (token.Keyword keyword.Enum ∷ []) (token.Name n ∷ []))
last_tag front n _ l = tt

last_step : (front : Kinds) (k : TokenKind) (s : Site) → Last front s.following → Last (front ++ k ∷ []) (step k s).following
last_step front (token.Name n) s l = last_tag front n s.following l
last_step front (token.Keyword k) s l = last_word front k
last_step front (token.Punctuator m) s l = subst (Last (front ++ token.Punctuator m ∷ [])) (sym (nothing_after m s)) tt
last_step front _ s l = tt

last_of : (front done : Kinds) (s : Site) → Last done s.following → Last (done ++ front) (run front s).following
last_of [] done s l = subst (λ (x : Kinds). Last x s.following) (sym (append-nil done)) l
last_of (k ∷ front) done s l =
    subst (λ (x : Kinds). Last x (run front (step k s)).following) (append_assoc done (k ∷ []) front)
    (last_of front (done ++ k ∷ []) (step k s) (last_step done k s l))

ends_so : (front : Kinds) (b : Tagging) → is_tagging b ≡ true → Last front b → EndsWithTag front
ends_so front tagging.Struct e l = subst EndsWithTag (sym l.1) (struct_after l.0)
ends_so front tagging.Enum e l = subst EndsWithTag (sym l.1) (enum_after l.0)
ends_so front tagging.StructTag e l = subst EndsWithTag (sym l.2) (struct_tag_after l.0 l.1)
ends_so front tagging.EnumTag e l = subst EndsWithTag (sym l.2) (enum_tag_after l.0 l.1)
ends_so front tagging.Nothing e l = absurd (false≢true e)

pub tag_last : (front : Kinds) → is_tagging (run front the_first).following ≡ true → EndsWithTag front
tag_last front e = ends_so front (run front the_first).following e (last_of front [] the_first tt)

run_split : (front more : Kinds) (s : Site) → run (front ++ more) s ≡ run more (run front s)
run_split [] more s = refl
run_split (k ∷ front) more s = run_split front more (step k s)

reported_by : (front more : Kinds) → is_tagging (run more (run front the_first)).following ≡ true
    → is_tagging (run (front ++ more) the_first).following ≡ true
reported_by front more e = ap (λ (s : Site). is_tagging s.following) (run_split front more the_first) ∙ e

pub tag_reported : (front : Kinds) → EndsWithTag front → is_tagging (run front the_first).following ≡ true
tag_reported front (struct_after before) = reported_by before (token.Keyword keyword.Struct ∷ []) refl
tag_reported front (enum_after before) = reported_by before (token.Keyword keyword.Enum ∷ []) refl
tag_reported front (struct_tag_after before tag) = reported_by before (token.Keyword keyword.Struct ∷ token.Name tag ∷ []) refl
tag_reported front (enum_tag_after before tag) = reported_by before (token.Keyword keyword.Enum ∷ token.Name tag ∷ []) refl
