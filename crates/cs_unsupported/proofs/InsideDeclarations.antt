-- The tokens of declarations with their roles, from one site to another. For the contract of `is_inside`.
use Rattle.std.proofs.Common.{◌≡◌, ◌≢◌, ℕ, inl, inr, Bool, true, false, IsTrue, List, [], ◌∷◌, Option, Some, None, MatchOption, refl, sym}
use Rattle.std.proofs.Common.{ap, subst, arith}
use Rattle.cs_ast.specs.declared.token.TokenKind.{TokenKind}
use Rattle.cs_ast.specs.declared.token.TokenKind.TheVariants as token
use Rattle.cs_ast.specs.declared.token.Keyword.TheVariants as keyword
use Rattle.cs_ast.specs.declared.token.Punctuator.TheVariants as punctuator
use Rattle.cs_ast.specs.declared.raw.written_type.TypeWord.TheVariants as word
use Rattle.cs_ast.specs.RawTree.{Written}
use Rattle.cs_ast.specs.RawDeclarations.{Declarator, Constant, Static, Plain, StructBody, EnumBody, Specs, NoSpec, MoreSpecs, Members, NoMember, MoreMembers}
use Rattle.cs_ast.specs.RawDeclarations.{Initial, Single, Listed, Initials, NoItem as NoInitial, MoreItems as MoreInitials, Declared as DeclaredObject}
use Rattle.cs_ast.specs.RawDeclarations.{Parameter, Parameters, NoParameter, VoidAlone, ParameterList, Head}
use Rattle.cs_ast.specs.RawStatements.{External, TypeAlone, Typedef, Objects, Function, Definition}
use Rattle.cs_grammar.specs.TypeWords.{Names, is_type}
use Rattle.cs_grammar.specs.Levels.{ASSIGN, CHOICE}
use Rattle.cs_grammar.specs.Text.{Kinds, text, pointers_text, type_word_text}
use Rattle.cs_grammar.specs.Phrases.{IsPhrase}
use Rattle.cs_grammar.specs.FileText.{name_text, comma_text, each_after_comma, with_commas, brackets_text, declarator_text, value_text, constant_text}
use Rattle.cs_grammar.specs.FileText.{spec_text, specs_text, members_text, initial_text, further_initials_text, first_value_text, declared_text, parameter_text}
use Rattle.cs_grammar.specs.FileText.{parameters_text, head_text, external_text}
use Rattle.cs_grammar.specs.FilePhrases.{AreAll, IsSomeList, words_of, IsFree, IsDeclaratorOf, IsConstant, HaveBodies, AreMembers, AreSpecs, IsInitial}
use Rattle.cs_grammar.specs.FilePhrases.{AreInitials, IsDeclared, AreDeclared, IsParameter, lone_void, AreParameters, IsHead, IsExternal}
use Rattle.cs_grammar.specs.Roles.{Role, another, after_member, declared_name, opens_list, Roles, each, comma_roles, each_after, between, brackets_roles}
use Rattle.cs_grammar.specs.Roles.{declarator_roles, value_roles, constant_roles, specs_roles, members_roles, initial_roles, further_initials_roles}
use Rattle.cs_grammar.specs.Roles.{first_value_roles, declared_roles, name_roles, parameter_roles, parameters_roles, head_roles, external_roles}
use Rattle.cs_unsupported.specs.declared.inside.Part.TheVariants as part
use Rattle.cs_unsupported.specs.declared.inside.Where.{Where}
use Rattle.cs_unsupported.specs.declared.inside.Where.TheVariants.{Declaration, ListedValue, Constants, ListedItem, Inside}
use Rattle.cs_unsupported.specs.declared.inside.Tagging.TheVariants as tagging
use Rattle.cs_unsupported.specs.Sites.{tag_after}
use Rattle.cs_unsupported.proofs.InsideTraces.{Telling, Trace, site, Calm, Goes, ReportedIn, is_inner, plus, pointers_calm, word_calm, expression_calm}
use Rattle.cs_grammar.proofs.StatementParts.{nought}
use Rattle.cs_unsupported.proofs.Longer.{longer, longer_text, longer_phrase, signed, signed_phrase}

abbrev bracket : TokenKind
bracket = token.Punctuator punctuator.OpenBracket

abbrev bracketed : TokenKind
bracketed = token.Punctuator punctuator.CloseBracket

abbrev comma : TokenKind
comma = token.Punctuator punctuator.Comma

abbrev semicolon : TokenKind
semicolon = token.Punctuator punctuator.Semicolon

abbrev opened : TokenKind
opened = token.Punctuator punctuator.OpenBrace

abbrev closed : TokenKind
closed = token.Punctuator punctuator.CloseBrace

-- each text of this class can be continued to a whole
abbrev Whole : {A : Type 0} → (A → Type 0) → (A → Kinds → Kinds) → (Kinds → Type 0) → Type 0
Whole {A} Is spell W = (a : A) → Is a → (more : Kinds) × W (spell a more)

-- a token that ends an expression
ended : (t : Telling) (o : t.out) (W : Kinds → Type 0) (k : TokenKind) (r : Role) → Goes W → (k ≡ plus → ⊥) → ReportedIn t W k r
ended t o W k r g other = (o, (inr g, λ e. absurd (other e)))

-- an expression can be continued by an operator if a longer one is allowed in its place
goes_after : (W : Kinds → Type 0) (e : Written) → (more : Kinds) × W (text (longer e) more) → Goes (λ y. W (text e y))
goes_after W e g = (text nought g.0, subst W (longer_text e g.0) g.1)

abbrev Bound : Names → Type 0 → Option Written → Type 0
Bound names Lack bound = MatchOption bound Lack (IsPhrase names CHOICE)

brackets_calm : (t : Telling) (o : t.out) (names : Names) (Lack : Type 0) (W : Kinds
    → Type 0) (s : List Where) (bs : List (Option Written)) (ts : Kinds) (rs : Roles) → AreAll (Bound names Lack) bs
    → Whole (AreAll (Bound names Lack)) brackets_text W → Calm t (λ y. W (brackets_text bs y)) Declaration s ts rs
    → Calm t W Declaration s (brackets_text bs ts) (brackets_roles bs rs)
brackets_calm t o names Lack W s [] ts rs are g h = h
brackets_calm t o names Lack W s (None ∷ bs) ts rs are g h =
    let one = g (Some signed ∷ []) (signed_phrase names CHOICE (omega arith), tt) in
    λ b. (
      (o, refl),
      (
        ended t o (λ y. W (bracket ∷ y)) bracketed another (text nought (bracketed ∷ one.0), one.1) (λ e. cc),
        brackets_calm t o names Lack (λ y. W (bracket ∷ bracketed ∷ y)) s bs ts rs are.1 (λ others all. g (None ∷ others) (are.0, all)) h
            tagging.Nothing,
      ),
    )
brackets_calm t o names Lack W s (Some e ∷ bs) ts rs are g h =
    let one = g (Some (longer e) ∷ []) (longer_phrase names CHOICE e (omega arith) are.0, tt) in
    λ b. (
      (o, refl),
      expression_calm t names part.Nested o (λ y. W (bracket ∷ y)) (Declaration ∷ s) e (bracketed ∷ brackets_text bs ts)
          (another ∷ brackets_roles bs rs) are.0.1 (inl refl)
          (λ c. (
            ended t o (λ y. W (bracket ∷ text e y)) bracketed another (goes_after (λ y. W (bracket ∷ y)) e (bracketed ∷ one.0, one.1)) (λ e. cc),
            brackets_calm t o names Lack (λ y. W (bracket ∷ text e (bracketed ∷ y))) s bs ts rs are.1 (λ others all. g (Some e ∷ others) (are.0, all)) h
                tagging.Nothing,
          )) tagging.Nothing,
    )

declarator_calm : (t : Telling) (o : t.out) (names : Names) (IsName : List ℕ → Type 0) (Lack : Type 0) (W : Kinds
    → Type 0) (s : List Where) (d : Declarator) (ts : Kinds) (rs : Roles) → IsDeclaratorOf IsName (Bound names Lack) d
    → Whole (IsDeclaratorOf IsName (Bound names Lack)) declarator_text W → Calm t (λ y. W (declarator_text d y)) Declaration s ts rs
    → Calm t W Declaration s (declarator_text d ts) (declarator_roles d rs)
declarator_calm t o names IsName Lack W s d ts rs is g h =
    pointers_calm t Declaration another (λ V k. (o, refl)) W s d.pointers (token.Name d.name ∷ brackets_text d.bounds ts)
    (declared_name ∷ brackets_roles d.bounds rs)
    (λ b. (
      (o, refl),
      brackets_calm t o names Lack (λ y. W (pointers_text d.pointers (token.Name d.name ∷ y))) s d.bounds ts rs is.bounds
          (λ bs all. g (record { pointers = d.pointers; name = d.name; bounds = bs }) (record { pointers = is.pointers; named = is.named; bounds = all })) h
          (tag_after b),
    ))

further_declarators : (t : Telling) (o : t.out) (names : Names) (IsName : List ℕ → Type 0) (Lack : Type 0) (r : Role) → is_inner r ≡ false
    → (W : Kinds → Type 0) (s : List Where) (ds : List Declarator) (ts : Kinds) (rs : Roles) → AreAll (IsDeclaratorOf IsName (Bound names Lack)) ds
    → Whole (AreAll (IsDeclaratorOf IsName (Bound names Lack))) (each_after_comma declarator_text) W
    → Calm t (λ y. W (each_after_comma declarator_text ds y)) Declaration s ts rs
    → Calm t W Declaration s (each_after_comma declarator_text ds ts) (each_after r declarator_roles ds rs)
further_declarators t o names IsName Lack r e W s [] ts rs are g h = h
further_declarators t o names IsName Lack r e W s (d ∷ ds) ts rs are g h =
    λ b. (
      (o, e),
      declarator_calm t o names IsName Lack (λ y. W (comma ∷ y)) s d (each_after_comma declarator_text ds ts) (each_after r declarator_roles ds rs) are.0
          (λ d' is. g (d' ∷ []) (is, tt))
          (further_declarators t o names IsName Lack r e (λ y. W (comma ∷ declarator_text d y)) s ds ts rs are.1 (λ ds' all. g (d ∷ ds') (are.0, all)) h)
          tagging.Nothing,
    )

declarators_calm : (t : Telling) (o : t.out) (names : Names) (IsName : List ℕ → Type 0) (Lack : Type 0) (r : Role) → is_inner r ≡ false
    → (W : Kinds → Type 0) (s : List Where) (ds : List Declarator) (ts : Kinds) (rs : Roles) → IsSomeList ds
    → AreAll (IsDeclaratorOf IsName (Bound names Lack)) ds
    → Whole (λ ds. IsSomeList ds × AreAll (IsDeclaratorOf IsName (Bound names Lack)) ds) (with_commas declarator_text) W
    → Calm t (λ y. W (with_commas declarator_text ds y)) Declaration s ts rs
    → Calm t W Declaration s (with_commas declarator_text ds ts) (between r declarator_roles ds rs)
declarators_calm t o names IsName Lack r e W s [] ts rs some are g h = absurd some
declarators_calm t o names IsName Lack r e W s (d ∷ ds) ts rs some are g h =
    declarator_calm t o names IsName Lack W s d (each_after_comma declarator_text ds ts) (each_after r declarator_roles ds rs) are.0
    (λ d' is. g (d' ∷ []) (tt, (is, tt)))
    (further_declarators t o names IsName Lack r e (λ y. W (declarator_text d y)) s ds ts rs are.1 (λ ds' all. g (d ∷ ds') (tt, (are.0, all))) h)

-- after an item of a list: an expression that might continue, or a list
abbrev ItemEnds : Telling → (Kinds → Type 0) → List Where → Kinds → Roles → Type 0
ItemEnds t W s ts rs = (Goes W → Calm t W (Inside part.Item) s ts rs) × Trace t W (site ListedItem tagging.Nothing s) ts rs

mutual
  item_trace : (t : Telling) (o : t.out) (names : Names) (W : Kinds → Type 0) (s : List Where) (i : Initial) (ts : Kinds) (rs : Roles) → IsInitial names i
      → Whole (IsInitial names) initial_text W → ItemEnds t (λ y. W (initial_text i y)) s ts rs
      → Trace t W (site (Inside part.Item) tagging.Nothing s) (initial_text i ts) (initial_roles i rs)
  item_trace t o names W s (Single e) ts rs is g h =
      expression_calm t names part.Item o W s e ts rs is.1 (inr is.0)
      (h.0 (goes_after W e (g (Single (longer e)) (longer_phrase names ASSIGN e (omega arith) is)))) tagging.Nothing
  item_trace t o names W s (Listed NoInitial last) ts rs is g h = absurd is
  item_trace t o names W s (Listed (MoreInitials first others) last) ts rs is g h =
      let one = g (Single signed) (signed_phrase names ASSIGN (omega arith)) in (
        ended t o W opened opens_list (text nought one.0, one.1) (λ e. cc),
        item_trace t o names (λ y. W (opened ∷ y)) (ListedItem ∷ s) first (further_initials_text others (comma_text last (closed ∷ ts)))
            (further_initials_roles others (comma_roles last (another ∷ rs))) is.0
            (λ i all. let w = g (Listed (MoreInitials i NoInitial) false) (all, tt) in (closed ∷ w.0, w.1))
            (further_trace t o names (λ y. W (opened ∷ initial_text first y)) ListedItem s others last ts rs is.1
            (λ its all. let w = g (Listed (MoreInitials first its) false) (is.0, all) in (closed ∷ w.0, w.1)) h.1),
      )

  -- more items, and the brace after them
  further_trace : (t : Telling) (o : t.out) (names : Names) (W : Kinds
      → Type 0) (q : Where) (s : List Where) (i : Initials) (last : Bool) (ts : Kinds) (rs : Roles) → AreInitials names i
      → Whole (AreInitials names) further_initials_text W
      → Trace t (λ y. W (further_initials_text i (comma_text last (closed ∷ y)))) (site q tagging.Nothing s) ts rs
      → ItemEnds t W (q ∷ s) (further_initials_text i (comma_text last (closed ∷ ts))) (further_initials_roles i (comma_roles last (another ∷ rs)))
  further_trace t o names W q s NoInitial false ts rs are g h = (λ x b. (ended t o W closed another x (λ e. cc), h), ((o, refl), h))
  further_trace t o names W q s NoInitial true ts rs are g h =
      let one = g (MoreInitials (Single signed) NoInitial) (signed_phrase names ASSIGN (omega arith), tt) in
      let x' : Goes (λ y. W (comma ∷ y)) = (text nought one.0, one.1) in (
        λ x b. (ended t o W comma another x (λ e. cc), (ended t o (λ y. W (comma ∷ y)) closed another x' (λ e. cc), h)),
        ((o, refl), (ended t o (λ y. W (comma ∷ y)) closed another x' (λ e. cc), h)),
      )
  further_trace t o names W q s (MoreInitials first others) last ts rs are g h =
      let rest = item_trace t o names (λ y. W (comma ∷ y)) (q ∷ s) first (further_initials_text others (comma_text last (closed ∷ ts)))
      (further_initials_roles others (comma_roles last (another ∷ rs))) are.0
      (λ i is. g (MoreInitials i NoInitial) (is, tt))
      (further_trace t o names (λ y. W (comma ∷ initial_text first y)) q s others last ts rs are.1 (λ its all. g (MoreInitials first its) (are.0, all))
      h) in
      (λ x b. (ended t o W comma another x (λ e. cc), rest), ((o, refl), rest))

-- after an object: a declarator, an expression that might continue, or a list
record ObjectEnds (t : Telling) (W : Kinds → Type 0) (s : List Where) (ts : Kinds) (rs : Roles) : Type 0 where
  plain : Calm t W Declaration s ts rs
  valued : Goes W → Calm t W (Inside part.Value) s ts rs
  listed : Trace t W (site ListedValue tagging.Nothing s) ts rs

value_trace : (t : Telling) (o : t.out) (names : Names) (W : Kinds → Type 0) (s : List Where) (i : Initial) (ts : Kinds) (rs : Roles) → IsInitial names i
    → Whole (IsInitial names) initial_text W → ObjectEnds t (λ y. W (initial_text i y)) s ts rs
    → Trace t W (site (Inside part.Value) tagging.Nothing s) (initial_text i ts) (initial_roles i rs)
value_trace t o names W s (Single e) ts rs is g h =
    expression_calm t names part.Value o W s e ts rs is.1 (inr is.0)
    (h.valued (goes_after W e (g (Single (longer e)) (longer_phrase names ASSIGN e (omega arith) is)))) tagging.Nothing
value_trace t o names W s (Listed NoInitial last) ts rs is g h = absurd is
value_trace t o names W s (Listed (MoreInitials first others) last) ts rs is g h =
    let one = g (Single signed) (signed_phrase names ASSIGN (omega arith)) in (
      ended t o W opened opens_list (text nought one.0, one.1) (λ e. cc),
      item_trace t o names (λ y. W (opened ∷ y)) (ListedValue ∷ s) first (further_initials_text others (comma_text last (closed ∷ ts)))
          (further_initials_roles others (comma_roles last (another ∷ rs))) is.0
          (λ i all. let w = g (Listed (MoreInitials i NoInitial) false) (all, tt) in (closed ∷ w.0, w.1))
          (further_trace t o names (λ y. W (opened ∷ initial_text first y)) ListedValue s others last ts rs is.1
          (λ its all. let w = g (Listed (MoreInitials first its) false) (is.0, all) in (closed ∷ w.0, w.1)) h.listed),
    )

first_trace : (t : Telling) (o : t.out) (names : Names) (W : Kinds → Type 0) (s : List Where) (i : Option Initial) (ts : Kinds) (rs : Roles)
    → MatchOption i (Unit {0}) (IsInitial names) → Whole (λ i. MatchOption i (Unit {0}) (IsInitial names)) first_value_text W
    → ObjectEnds t (λ y. W (first_value_text i y)) s ts rs → Calm t W Declaration s (first_value_text i ts) (first_value_roles i rs)
first_trace t o names W s None ts rs is g h = h.plain
first_trace t o names W s (Some i) ts rs is g h = λ b. (
  (o, refl),
  value_trace t o names (λ y. W (token.Punctuator punctuator.Equal ∷ y)) s i ts rs is (λ j all. g (Some j) all)
      (record { plain = h.plain; valued = h.valued; listed = h.listed }),
)

object_trace : (t : Telling) (o : t.out) (names : Names) (W : Kinds → Type 0) (s : List Where) (d : DeclaredObject) (ts : Kinds) (rs : Roles)
    → IsDeclared names d → Whole (IsDeclared names) declared_text W → ObjectEnds t (λ y. W (declared_text d y)) s ts rs
    → Calm t W Declaration s (declared_text d ts) (declared_roles d rs)
object_trace t o names W s d ts rs is g h =
    declarator_calm t o names (IsFree names) (Unit {0}) W s d.declarator (first_value_text d.initial ts) (first_value_roles d.initial rs) is.declarator
    (λ d' all. g (record { declarator = d'; initial = None }) (record { declarator = all; initial = tt }))
    (first_trace t o names (λ y. W (declarator_text d.declarator y)) s d.initial ts rs is.initial
    (λ i all. g (record { declarator = d.declarator; initial = i }) (record { declarator = is.declarator; initial = all }))
    (record { plain = h.plain; valued = h.valued; listed = h.listed }))

-- more objects, and the semicolon after them
further_objects : (t : Telling) (o : t.out) (names : Names) (W : Kinds → Type 0) (s : List Where) (ds : List DeclaredObject) (ts : Kinds) (rs : Roles)
    → AreAll (IsDeclared names) ds → Whole (AreAll (IsDeclared names)) (each_after_comma declared_text) W
    → Trace t (λ y. W (each_after_comma declared_text ds (semicolon ∷ y))) (site Declaration tagging.Nothing s) ts rs
    → ObjectEnds t W s (each_after_comma declared_text ds (semicolon ∷ ts)) (each_after another declared_roles ds (another ∷ rs))
further_objects t o names W s [] ts rs are g h = record {
  plain = λ b. ((o, refl), h);
  valued = λ x b. (ended t o W semicolon another x (λ e. cc), h);
  listed = ((o, refl), h);
}
further_objects t o names W s (d ∷ ds) ts rs are g h =
    let rest = object_trace t o names (λ y. W (comma ∷ y)) s d (each_after_comma declared_text ds (semicolon ∷ ts))
    (each_after another declared_roles ds (another ∷ rs)) are.0
    (λ d' is. g (d' ∷ []) (is, tt))
    (further_objects t o names (λ y. W (comma ∷ declared_text d y)) s ds ts rs are.1 (λ ds' all. g (d ∷ ds') (are.0, all)) h) tagging.Nothing in
    record { plain = λ b. ((o, refl), rest); valued = λ x b. (ended t o W comma another x (λ e. cc), rest); listed = ((o, refl), rest) }

objects_calm : (t : Telling) (o : t.out) (names : Names) (W : Kinds → Type 0) (s : List Where) (ds : List DeclaredObject) (ts : Kinds) (rs : Roles)
    → AreDeclared names ds → Whole (AreDeclared names) (with_commas declared_text) W
    → Trace t (λ y. W (with_commas declared_text ds (semicolon ∷ y))) (site Declaration tagging.Nothing s) ts rs
    → Calm t W Declaration s (with_commas declared_text ds (semicolon ∷ ts)) (between another declared_roles ds (another ∷ rs))
objects_calm t o names W s [] ts rs are g h = absurd are.0
objects_calm t o names W s (d ∷ ds) ts rs are g h =
    object_trace t o names W s d (each_after_comma declared_text ds (semicolon ∷ ts)) (each_after another declared_roles ds (another ∷ rs)) are.1.0
    (λ d' is. g (d' ∷ []) (tt, (is, tt)))
    (further_objects t o names (λ y. W (declared_text d y)) s ds ts rs are.1.1 (λ ds' all. g (d ∷ ds') (tt, (are.1.0, all))) h)

-- after a constant: a name, or an expression that might continue
record ConstantEnds (t : Telling) (W : Kinds → Type 0) (s : List Where) (ts : Kinds) (rs : Roles) : Type 0 where
  plain : Calm t W Constants s ts rs
  valued : Goes W → Calm t W (Inside part.Constant) s ts rs

constant_value : (t : Telling) (o : t.out) (names : Names) (W : Kinds → Type 0) (s : List Where) (v : Option Written) (ts : Kinds) (rs : Roles)
    → MatchOption v (Unit {0}) (IsPhrase names CHOICE) → Whole (λ v. MatchOption v (Unit {0}) (IsPhrase names CHOICE)) value_text W
    → ConstantEnds t (λ y. W (value_text v y)) s ts rs → Calm t W Constants s (value_text v ts) (value_roles v rs)
constant_value t o names W s None ts rs is g h = h.plain
constant_value t o names W s (Some e) ts rs is g h =
    let low = is.0 in
    λ b. (
      (o, refl),
      expression_calm t names part.Constant o (λ y. W (token.Punctuator punctuator.Equal ∷ y)) s e ts rs is.1 (inr (omega (arith, low)))
          (h.valued (goes_after (λ y. W (token.Punctuator punctuator.Equal ∷ y)) e (g (Some (longer e)) (longer_phrase names CHOICE e (omega arith) is))))
          tagging.Nothing,
    )

constant_trace : (t : Telling) (o : t.out) (names : Names) (W : Kinds → Type 0) (s : List Where) (c : Constant) (ts : Kinds) (rs : Roles)
    → IsConstant names c → Whole (IsConstant names) constant_text W → ConstantEnds t (λ y. W (constant_text c y)) s ts rs
    → Calm t W Constants s (constant_text c ts) (constant_roles c rs)
constant_trace t o names W s c ts rs is g h =
    λ b. (
      (o, refl),
      constant_value t o names (λ y. W (token.Name c.name ∷ y)) s c.value ts rs is.value
          (λ v all. g (record { name = c.name; value = v }) (record { free = is.free; value = all })) (record { plain = h.plain; valued = h.valued })
          (tag_after b),
    )

further_constants : (t : Telling) (o : t.out) (names : Names) (W : Kinds
    → Type 0) (q : Where) (s : List Where) (cs : List Constant) (last : Bool) (ts : Kinds) (rs : Roles) → AreAll (IsConstant names) cs
    → Whole (AreAll (IsConstant names)) (each_after_comma constant_text) W
    → Trace t (λ y. W (each_after_comma constant_text cs (comma_text last (closed ∷ y)))) (site q tagging.Nothing s) ts rs
    → ConstantEnds t W (q ∷ s) (each_after_comma constant_text cs (comma_text last (closed ∷ ts)))
    (each_after another constant_roles cs (comma_roles last (another ∷ rs)))
further_constants t o names W q s [] false ts rs are g h =
    record { plain = λ b. ((o, refl), h); valued = λ x b. (ended t o W closed another x (λ e. cc), h) }
further_constants t o names W q s [] true ts rs are g h =
    record { plain = λ b. ((o, refl), ((o, refl), h)); valued = λ x b. (ended t o W comma another x (λ e. cc), ((o, refl), h)) }
further_constants t o names W q s (c ∷ cs) last ts rs are g h =
    let rest = constant_trace t o names (λ y. W (comma ∷ y)) (q ∷ s) c (each_after_comma constant_text cs (comma_text last (closed ∷ ts)))
    (each_after another constant_roles cs (comma_roles last (another ∷ rs))) are.0
    (λ c' is. g (c' ∷ []) (is, tt))
    (further_constants t o names (λ y. W (comma ∷ constant_text c y)) q s cs last ts rs are.1 (λ cs' all. g (c ∷ cs') (are.0, all)) h) tagging.Nothing in
    record { plain = λ b. ((o, refl), rest); valued = λ x b. (ended t o W comma another x (λ e. cc), rest) }

constants_trace : (t : Telling) (o : t.out) (names : Names) (W : Kinds
    → Type 0) (q : Where) (s : List Where) (cs : List Constant) (last : Bool) (ts : Kinds) (rs : Roles) → IsSomeList cs → AreAll (IsConstant names) cs
    → Whole (λ cs. IsSomeList cs × AreAll (IsConstant names) cs) (with_commas constant_text) W
    → Trace t (λ y. W (with_commas constant_text cs (comma_text last (closed ∷ y)))) (site q tagging.Nothing s) ts rs
    → Calm t W Constants (q ∷ s) (with_commas constant_text cs (comma_text last (closed ∷ ts)))
    (between another constant_roles cs (comma_roles last (another ∷ rs)))
constants_trace t o names W q s [] last ts rs some are g h = absurd some
constants_trace t o names W q s (c ∷ cs) last ts rs some are g h =
    constant_trace t o names W (q ∷ s) c (each_after_comma constant_text cs (comma_text last (closed ∷ ts)))
    (each_after another constant_roles cs (comma_roles last (another ∷ rs))) are.0
    (λ c' is. g (c' ∷ []) (tt, (is, tt)))
    (further_constants t o names (λ y. W (constant_text c y)) q s cs last ts rs are.1 (λ cs' all. g (c ∷ cs') (tt, (are.0, all))) h)

-- the same words with other bodies are allowed in their place
abbrev Exchanges : (Kinds → Type 0) → Names → Specs → Type 0
Exchanges W names specs = (others : Specs) → words_of others ≡ words_of specs → HaveBodies names others → (more : Kinds) × W (specs_text others more)

mutual
  specs_calm : (t : Telling) (o : t.out) (names : Names) (W : Kinds → Type 0) (s : List Where) (specs : Specs) (ts : Kinds) (rs : Roles)
      → HaveBodies names specs → Exchanges W names specs → Calm t (λ y. W (specs_text specs y)) Declaration s ts rs
      → Calm t W Declaration s (specs_text specs ts) (specs_roles specs rs)
  specs_calm t o names W s NoSpec ts rs have g h = h
  specs_calm t o names W s (MoreSpecs Static others) ts rs have g h =
      λ b. (
        (o, refl),
        specs_calm t o names (λ y. W (token.Keyword keyword.Static ∷ y)) s others ts rs have.1 (λ x same all. g (MoreSpecs Static x) same (tt, all)) h
            tagging.Nothing,
      )
  specs_calm t o names W s (MoreSpecs (Plain w) others) ts rs have g h =
      word_calm t Declaration another (λ V k. (o, refl)) W s w (specs_text others ts) (specs_roles others rs)
      (specs_calm t o names (λ y. W (type_word_text w y)) s others ts rs have.1
      (λ x same all. g (MoreSpecs (Plain w) x) (ap (λ ws. w ∷ ws) same) (tt, all)) h)
  specs_calm t o names W s (MoreSpecs (StructBody None m) others) ts rs have g h =
      λ b. (
        (o, refl),
        (
          (o, refl),
          members_calm t o names (λ y. W (token.Keyword keyword.Struct ∷ opened ∷ y)) (Declaration ∷ s) m (closed ∷ specs_text others ts)
              (another ∷ specs_roles others rs) have.0
              (λ m' all. let w = g (MoreSpecs (StructBody None m') others) refl (all, have.1) in (closed ∷ specs_text others w.0, w.1)) (
                (o, refl),
                specs_calm t o names (λ y. W (spec_text (StructBody None m) y)) s others ts rs have.1
                    (λ x same all. g (MoreSpecs (StructBody None m) x) (ap (λ ws. word.Struct [] ∷ ws) same) (have.0, all)) h tagging.Nothing,
              ),
        ),
      )
  specs_calm t o names W s (MoreSpecs (StructBody (Some n) m) others) ts rs have g h =
      λ b. (
        (o, refl),
        (
          (o, refl),
          (
            (o, refl),
            members_calm t o names (λ y. W (token.Keyword keyword.Struct ∷ token.Name n ∷ opened ∷ y)) (Declaration ∷ s) m
                (closed ∷ specs_text others ts) (another ∷ specs_roles others rs) have.0
                (λ m' all. let w = g (MoreSpecs (StructBody (Some n) m') others) refl (all, have.1) in (closed ∷ specs_text others w.0, w.1)) (
                  (o, refl),
                  specs_calm t o names (λ y. W (spec_text (StructBody (Some n) m) y)) s others ts rs have.1
                      (λ x same all. g (MoreSpecs (StructBody (Some n) m) x) (ap (λ ws. word.Struct [] ∷ ws) same) (have.0, all)) h tagging.Nothing,
                ),
          ),
        ),
      )
  specs_calm t o names W s (MoreSpecs (EnumBody None cs last) others) ts rs have g h =
      λ b. (
        (o, refl),
        (
          (o, refl),
          constants_trace t o names (λ y. W (token.Keyword keyword.Enum ∷ opened ∷ y)) Declaration s cs last (specs_text others ts) (specs_roles others rs)
              have.0.0 have.0.1
              (λ cs' all. let w = g (MoreSpecs (EnumBody None cs' false) others) refl (all, have.1) in (closed ∷ specs_text others w.0, w.1))
              (specs_calm t o names (λ y. W (spec_text (EnumBody None cs last) y)) s others ts rs have.1
              (λ x same all. g (MoreSpecs (EnumBody None cs last) x) (ap (λ ws. word.Enum [] ∷ ws) same) (have.0, all)) h tagging.Nothing)
              tagging.Nothing,
        ),
      )
  specs_calm t o names W s (MoreSpecs (EnumBody (Some n) cs last) others) ts rs have g h =
      λ b. (
        (o, refl),
        (
          (o, refl),
          (
            (o, refl),
            constants_trace t o names (λ y. W (token.Keyword keyword.Enum ∷ token.Name n ∷ opened ∷ y)) Declaration s cs last (specs_text others ts)
                (specs_roles others rs) have.0.0 have.0.1
                (λ cs' all. let w = g (MoreSpecs (EnumBody (Some n) cs' false) others) refl (all, have.1) in (closed ∷ specs_text others w.0, w.1))
                (specs_calm t o names (λ y. W (spec_text (EnumBody (Some n) cs last) y)) s others ts rs have.1
                (λ x same all. g (MoreSpecs (EnumBody (Some n) cs last) x) (ap (λ ws. word.Enum [] ∷ ws) same) (have.0, all)) h tagging.Nothing)
                tagging.Nothing,
          ),
        ),
      )

  members_calm : (t : Telling) (o : t.out) (names : Names) (W : Kinds → Type 0) (s : List Where) (m : Members) (ts : Kinds) (rs : Roles)
      → AreMembers names m → Whole (AreMembers names) members_text W → Trace t (λ y. W (members_text m y)) (site Declaration tagging.Nothing s) ts rs
      → Trace t W (site Declaration tagging.Nothing s) (members_text m ts) (members_roles m rs)
  members_calm t o names W s NoMember ts rs is g h = h
  members_calm t o names W s (MoreMembers specs ds m) ts rs is g h =
      specs_calm t o names W s specs (with_commas declarator_text ds (semicolon ∷ members_text m ts))
      (between after_member declarator_roles ds (after_member ∷ members_roles m rs)) is.1
      (λ x same all. let w = g (MoreMembers x ds NoMember) (subst (λ ws. IsTrue (is_type names ws)) (sym same) is.0, all, is.2, is.3, tt) in
      (with_commas declarator_text ds (semicolon ∷ w.0), w.1))
      (declarators_calm t o names (λ name. Unit {0}) ⊥ after_member refl (λ y. W (specs_text specs y)) s ds (semicolon ∷ members_text m ts)
      (after_member ∷ members_roles m rs) is.2 is.3
      (λ ds' all. let w = g (MoreMembers specs ds' NoMember) (is.0, is.1, all.0, all.1, tt) in (semicolon ∷ w.0, w.1))
      (λ b. (
        (o, refl),
        members_calm t o names (λ y. W (specs_text specs (with_commas declarator_text ds (semicolon ∷ y)))) s m ts rs is.4
            (λ m' all. g (MoreMembers specs ds m') (is.0, is.1, is.2, is.3, all)) h,
      ))) tagging.Nothing

name_calm : (t : Telling) (o : t.out) (W : Kinds → Type 0) (s : List Where) (n : Option (List ℕ)) (ts : Kinds) (rs : Roles)
    → Calm t (λ y. W (name_text n y)) Declaration s ts rs → Calm t W Declaration s (name_text n ts) (name_roles n rs)
name_calm t o W s None ts rs h = h
name_calm t o W s (Some n) ts rs h = λ b. ((o, refl), h (tag_after b))

parameter_calm : (t : Telling) (o : t.out) (names : Names) (W : Kinds → Type 0) (s : List Where) (p : Parameter) (ts : Kinds) (rs : Roles)
    → IsParameter names p → Whole (IsParameter names) parameter_text W → Calm t (λ y. W (parameter_text p y)) Declaration s ts rs
    → Calm t W Declaration s (parameter_text p ts) (parameter_roles p rs)
parameter_calm t o names W s p ts rs is g h =
    specs_calm t o names W s p.specs (pointers_text p.pointers (name_text p.name (brackets_text p.bounds ts)))
    (each another (pointers_text p.pointers []) (name_roles p.name (brackets_roles p.bounds rs))) is.specs.1
    (λ x same all.
    let w = g (record { specs = x; pointers = p.pointers; name = p.name; bounds = p.bounds })
    (record {
      specs = (subst (λ ws. IsTrue (is_type names ws)) (sym same) is.specs.0, all);
      pointers = is.pointers;
      free = is.free;
      bounds = is.bounds;
    }) in
    (pointers_text p.pointers (name_text p.name (brackets_text p.bounds w.0)), w.1))
    (pointers_calm t Declaration another (λ V k. (o, refl)) (λ y. W (specs_text p.specs y)) s p.pointers (name_text p.name (brackets_text p.bounds ts))
    (name_roles p.name (brackets_roles p.bounds rs))
    (name_calm t o (λ y. W (specs_text p.specs (pointers_text p.pointers y))) s p.name (brackets_text p.bounds ts) (brackets_roles p.bounds rs)
    (brackets_calm t o names (Unit {0}) (λ y. W (specs_text p.specs (pointers_text p.pointers (name_text p.name y)))) s p.bounds ts rs is.bounds
    (λ bs all.
    g (record { specs = p.specs; pointers = p.pointers; name = p.name; bounds = bs })
    (record { specs = is.specs; pointers = is.pointers; free = is.free; bounds = all })) h)))

further_parameters : (t : Telling) (o : t.out) (names : Names) (W : Kinds → Type 0) (s : List Where) (ps : List Parameter) (ts : Kinds) (rs : Roles)
    → AreAll (IsParameter names) ps → Whole (λ ps. IsSomeList ps × AreAll (IsParameter names) ps) (each_after_comma parameter_text) W
    → Calm t (λ y. W (each_after_comma parameter_text ps y)) Declaration s ts rs
    → Calm t W Declaration s (each_after_comma parameter_text ps ts) (each_after another parameter_roles ps rs)
further_parameters t o names W s [] ts rs are g h = h
further_parameters t o names W s (p ∷ ps) ts rs are g h =
    λ b. (
      (o, refl),
      parameter_calm t o names (λ y. W (comma ∷ y)) s p (each_after_comma parameter_text ps ts) (each_after another parameter_roles ps rs) are.0
          (λ q is. g (q ∷ []) (tt, (is, tt)))
          (further_parameters t o names (λ y. W (comma ∷ parameter_text p y)) s ps ts rs are.1 (λ qs all. g (p ∷ qs) (tt, (are.0, all.1))) h)
          tagging.Nothing,
    )

not_alone : (p : Parameter) (ps : List Parameter) → IsSomeList ps → p ∷ ps ≢ lone_void ∷ []
not_alone p [] some same = some
not_alone p (q ∷ ps) some same = cc

parameters_calm : (t : Telling) (o : t.out) (names : Names) (W : Kinds → Type 0) (s : List Where) (ps : Parameters) (ts : Kinds) (rs : Roles)
    → AreParameters names ps → Whole (AreParameters names) parameters_text W → Calm t (λ y. W (parameters_text ps y)) Declaration s ts rs
    → Calm t W Declaration s (parameters_text ps ts) (parameters_roles ps rs)
parameters_calm t o names W s NoParameter ts rs are g h = h
parameters_calm t o names W s VoidAlone ts rs are g h = λ b. ((o, refl), h tagging.Nothing)
parameters_calm t o names W s (ParameterList []) ts rs are g h = absurd are.0
parameters_calm t o names W s (ParameterList (p ∷ ps)) ts rs are g h =
    parameter_calm t o names W s p (each_after_comma parameter_text ps ts) (each_after another parameter_roles ps rs) are.2.0
    (λ q is. let w = g (ParameterList (q ∷ q ∷ [])) (tt, not_alone q (q ∷ []) tt, (is, (is, tt))) in
    (each_after_comma parameter_text (q ∷ []) w.0, w.1))
    (further_parameters t o names (λ y. W (parameter_text p y)) s ps ts rs are.2.1
    (λ qs all. g (ParameterList (p ∷ qs)) (tt, not_alone p qs all.0, (are.2.0, all.1))) h)

head_calm : (t : Telling) (o : t.out) (names : Names) (W : Kinds → Type 0) (s : List Where) (head : Head) (ts : Kinds) (rs : Roles) → IsHead names head
    → Whole (IsHead names) head_text W → Trace t (λ y. W (head_text head y)) (site Declaration tagging.Nothing s) ts rs
    → Calm t W Declaration s (head_text head ts) (head_roles head rs)
head_calm t o names W s head ts rs is g h =
    pointers_calm t Declaration another (λ V k. (o, refl)) W s head.pointers
    (token.Name head.name ∷ token.Punctuator punctuator.OpenParenthesis
    ∷ parameters_text head.parameters (token.Punctuator punctuator.CloseParenthesis ∷ ts))
    (declared_name ∷ another ∷ parameters_roles head.parameters (another ∷ rs))
    (λ b. (
      (o, refl),
      (
        (o, refl),
        parameters_calm t o names (λ y. W (pointers_text head.pointers (token.Name head.name ∷ token.Punctuator punctuator.OpenParenthesis ∷ y)))
            (Declaration ∷ s) head.parameters (token.Punctuator punctuator.CloseParenthesis ∷ ts) (another ∷ rs) is.parameters
            (λ ps all.
            let w = g (record { pointers = head.pointers; name = head.name; parameters = ps })
            (record { pointers = is.pointers; free = is.free; parameters = all }) in (token.Punctuator punctuator.CloseParenthesis ∷ w.0, w.1))
            (λ c. ((o, refl), h)) tagging.Nothing,
      ),
    ))

-- other specifiers with the same words
exchanged : (names : Names) (specs others : Specs) → AreSpecs names specs → words_of others ≡ words_of specs → HaveBodies names others
    → AreSpecs names others
exchanged names specs others are same bodies = (subst (λ ws. IsTrue (is_type names ws)) (sym same) are.0, bodies)

-- a function's specifiers and head, after which the rest may differ
pub headed : (t : Telling) (o : t.out) (names : Names) (W : Kinds → Type 0) (specs : Specs) (head : Head) (ts : Kinds) (rs : Roles) → AreSpecs names specs
    → IsHead names head → ((specs : Specs) (head : Head) → AreSpecs names specs → IsHead names head
    → (more : Kinds) × W (specs_text specs (head_text head more)))
    → Trace t (λ y. W (specs_text specs (head_text head y))) (site Declaration tagging.Nothing []) ts rs
    → Trace t W (site Declaration tagging.Nothing []) (specs_text specs (head_text head ts)) (specs_roles specs (head_roles head rs))
headed t o names W specs head ts rs are is g h =
    specs_calm t o names W [] specs (head_text head ts) (head_roles head rs) are.1
    (λ x same all. let w = g x head (exchanged names specs x are same all) is in (head_text head w.0, w.1))
    (head_calm t o names (λ y. W (specs_text specs y)) [] head ts rs is (λ h' all. g specs h' are all) h) tagging.Nothing

-- an external declaration that isn't a function with a body
abbrev pub IsBodiless : External → Type 0
IsBodiless (Definition specs head body) = ⊥
IsBodiless other = Unit {0}

pub bodiless_trace : (t : Telling) (o : t.out) (names : Names) (W : Kinds → Type 0) (e : External) (ts : Kinds) (rs : Roles) → IsBodiless e
    → IsExternal names e → Whole (IsExternal names) external_text W → Trace t (λ y. W (external_text e y)) (site Declaration tagging.Nothing []) ts rs
    → Trace t W (site Declaration tagging.Nothing []) (external_text e ts) (external_roles e rs)
bodiless_trace t o names W (TypeAlone specs) ts rs none is g h =
    specs_calm t o names W [] specs (semicolon ∷ ts) (another ∷ rs) is.1
    (λ x same all. let w = g (TypeAlone x) (exchanged names specs x is same all) in (semicolon ∷ w.0, w.1)) (λ b. ((o, refl), h)) tagging.Nothing
bodiless_trace t o names W (Typedef specs ds) ts rs none is g h = (
  (o, refl),
  specs_calm t o names (λ y. W (token.Keyword keyword.Typedef ∷ y)) [] specs (with_commas declarator_text ds (semicolon ∷ ts))
      (between another declarator_roles ds (another ∷ rs)) is.0.1
      (λ x same all. let w = g (Typedef x ds) (exchanged names specs x is.0 same all, is.1, is.2) in (with_commas declarator_text ds (semicolon ∷ w.0), w.1))
      (declarators_calm t o names (IsFree names) (Unit {0}) another refl (λ y. W (token.Keyword keyword.Typedef ∷ specs_text specs y)) [] ds
      (semicolon ∷ ts) (another ∷ rs) is.1 is.2
      (λ ds' all. let w = g (Typedef specs ds') (is.0, all.0, all.1) in (semicolon ∷ w.0, w.1)) (λ b. ((o, refl), h))) tagging.Nothing,
)
bodiless_trace t o names W (Objects specs objects) ts rs none is g h =
    specs_calm t o names W [] specs (with_commas declared_text objects (semicolon ∷ ts)) (between another declared_roles objects (another ∷ rs)) is.0.1
    (λ x same all. let w = g (Objects x objects) (exchanged names specs x is.0 same all, is.1) in (with_commas declared_text objects (semicolon ∷ w.0), w.1))
    (objects_calm t o names (λ y. W (specs_text specs y)) [] objects ts rs is.1
    (λ ds' all. let w = g (Objects specs ds') (is.0, all) in (semicolon ∷ w.0, w.1)) h) tagging.Nothing
bodiless_trace t o names W (Function specs head) ts rs none is g h =
    headed t o names W specs head (semicolon ∷ ts) (another ∷ rs) is.0 is.1 (λ x y a b. let w = g (Function x y) (a, b) in (semicolon ∷ w.0, w.1))
    ((o, refl), h)
bodiless_trace t o names W (Definition specs head body) ts rs none is g h = absurd none
