-- The positions of declarations, over indices of tokens: for the clauses on positions of the parts that parse them.
use Rattle.std.proofs.Common.{◌≡◌, ℕ, ◌+◌, Bool, List, [], ◌∷◌, ◌++◌, Vec, Global, Option, length, drop, refl, sym, ap, ◌∙◌, subst}
use Rattle.std.proofs.lemmas.List.{drop-drop, length-append}
use mathlib.Core.Former.{Count}
use Rattle.cs_ast.specs.declared.place.Place.{Place}
use Rattle.cs_ast.specs.declared.token.Token.{Token}
use Rattle.std.specs.Option.{option_map}
use Rattle.cs_ast.specs.declared.token.TokenKind.TheVariants as token
use Rattle.cs_ast.specs.declared.token.Punctuator.TheVariants as punctuator
use Rattle.cs_ast.specs.declared.raw.expression.RawExpr.{RawExpr}
use Rattle.cs_ast.specs.declared.raw.declaration.RawDeclarator.{RawDeclarator}
use Rattle.cs_ast.specs.declared.raw.declaration.RawEnumerator.{RawEnumerator}
use Rattle.cs_ast.specs.declared.raw.declaration.RawInitial as first_value
use Rattle.cs_ast.specs.declared.raw.declaration.RawInitial.{RawInitial}
use Rattle.cs_ast.specs.declared.raw.declaration.RawInit.{RawInit}
use Rattle.cs_ast.specs.declared.raw.written_type.PointerWord.{PointerWord}
use Rattle.cs_ast.specs.RawView.{written}
use Rattle.cs_ast.specs.RawDeclarationView.{declarator, constant, initial, declared}
use Rattle.cs_grammar.specs.Text.{Kinds, pointers_text}
use Rattle.cs_grammar.specs.FileText.{some_text, brackets_text, declarator_text, constant_text, initial_text, declared_text}
use Rattle.cs_grammar.proofs.Texts.{pointers_append}
use Rattle.cs_grammar.proofs.FileTexts.{brackets_append, declarator_append, constant_append, initial_append, declared_append}
use Rattle.cs_expr_parser.specs.Positions.{kind_or_end}
use Rattle.cs_grammar.specs.Places.{StandsAt}
use Rattle.cs_expr_parser.specs.Parts.{Spells}
use Rattle.cs_declarator_parser.specs.DeclarationPlaces.{past, AreInRow, AreSideBySide, IsSomePlaced, AreBracketsPlaced, IsInitialPlaced, AreInitialsPlaced}
use Rattle.cs_expr_parser.proofs.Standing.{spells_as, spells_one, spells_more}
use Rattle.cs_expr_parser.proofs.Stopping.{refused_number}

-- a text is the same whatever follows it
abbrev pub IsFramed : (Kinds → Kinds) → Type 0
IsFramed spell = (x y : Kinds) → spell x ++ y ≡ spell (x ++ y)

pub one_after : (tokens : List Token) (at : ℕ) → drop 1 (drop at tokens) ≡ drop (at + 1) tokens
one_after tokens at = drop-drop 1 at tokens

-- a text that was read is followed by the tokens from its end
pub past_text : (spell : Kinds → Kinds) → IsFramed spell → (tokens : List Token) (from next : ℕ) → Spells tokens from next spell
    → past spell (drop from tokens) ≡ drop next tokens
past_text spell law tokens from next sp =
    let n = refused_number tokens from next (spell []) (spells_as tokens from next spell (λ rest. spell [] ++ rest) sp (λ rest. sym (law [] rest))) in
    drop-drop (length (spell [])) from tokens ∙ ap (λ (x : ℕ). drop x tokens) (sym n)

-- what follows a text that was read
pub after_text : (Has : List Token → Type 0) (spell : Kinds → Kinds) → IsFramed spell
    → (tokens : List Token) (from next : ℕ) → Spells tokens from next spell → Has (drop next tokens) → Has (past spell (drop from tokens))
after_text Has spell law tokens from next sp has = subst Has (sym (past_text spell law tokens from next sp)) has

-- the same after one more token
pub after_text_and_one : (Has : List Token → Type 0) (spell : Kinds → Kinds) → IsFramed spell
    → (tokens : List Token) (from next : ℕ) → Spells tokens from next spell → Has (drop (next + 1) tokens)
    → Has (drop 1 (past spell (drop from tokens)))
after_text_and_one Has spell law tokens from next sp has =
    subst Has (sym (ap (λ (x : List Token). drop 1 x) (past_text spell law tokens from next sp) ∙ one_after tokens next)) has

-- the tokens after parts with a token after each
abbrev pub past_row : {A : Type 0} → (A → Kinds → Kinds) → List A → List Token → List Token
past_row spell [] tokens = tokens
past_row spell (a ∷ all) tokens = past_row spell all (drop 1 (past (spell a) tokens))

pub row_more : {A : Type 0} (Has : A → List Token → Type 0) (spell : A → Kinds → Kinds) (done : List A) (last : A) (tokens : List Token)
    → AreInRow Has spell done tokens → Has last (past_row spell done tokens) → AreInRow Has spell (done ++ last ∷ []) tokens
row_more Has spell [] last tokens row has = (has, tt)
row_more Has spell (d ∷ ds) last tokens row has = (row.0, row_more Has spell ds last (drop 1 (past (spell d) tokens)) row.1 has)

pub row_longer : {A : Type 0} (spell : A → Kinds → Kinds) (done : List A) (last : A) (tokens : List Token)
    → past_row spell (done ++ last ∷ []) tokens ≡ drop 1 (past (spell last) (past_row spell done tokens))
row_longer spell [] last tokens = refl
row_longer spell (d ∷ ds) last tokens = row_longer spell ds last (drop 1 (past (spell d) tokens))

-- the tokens after consecutive parts
abbrev pub past_side : {A : Type 0} → (A → Kinds → Kinds) → List A → List Token → List Token
past_side spell [] tokens = tokens
past_side spell (a ∷ all) tokens = past_side spell all (past (spell a) tokens)

pub side_more : {A : Type 0} (Has : A → List Token → Type 0) (spell : A → Kinds → Kinds) (done : List A) (last : A) (tokens : List Token)
    → AreSideBySide Has spell done tokens → Has last (past_side spell done tokens) → AreSideBySide Has spell (done ++ last ∷ []) tokens
side_more Has spell [] last tokens row has = (has, tt)
side_more Has spell (d ∷ ds) last tokens row has = (row.0, side_more Has spell ds last (past (spell d) tokens) row.1 has)

pub side_longer : {A : Type 0} (spell : A → Kinds → Kinds) (done : List A) (last : A) (tokens : List Token)
    → past_side spell (done ++ last ∷ []) tokens ≡ past (spell last) (past_side spell done tokens)
side_longer spell [] last tokens = refl
side_longer spell (d ∷ ds) last tokens = side_longer spell ds last (past (spell d) tokens)

-- parts with a token after each are placed, and so is a last one, which ends before a token
pub record RowPlaced {A : Type 0} (Has : A → List Token → Type 0) (spell : A → Kinds
    → Kinds) (tokens : List Token) (from : ℕ) (done : List A) (last : A) (next : ℕ) : Type 0 where
  pub at : ℕ
  pub row : AreInRow Has spell done (drop from tokens)
  pub ends : past_row spell done (drop from tokens) ≡ drop at tokens
  pub last_placed : Has last (drop at tokens)
  pub last_spelled : Spells tokens at next (spell last)

pub row_begun : {A : Type 0} (Has : A → List Token → Type 0) (spell : A → Kinds → Kinds) (tokens : List Token) (from : ℕ) (first : A) (next : ℕ)
    → Spells tokens from next (spell first) → Has first (drop from tokens) → RowPlaced Has spell tokens from [] first next
row_begun Has spell tokens from first next sp has = record { at = from; row = tt; ends = refl; last_placed = has; last_spelled = sp }

-- the whole list
pub row_placed : {A : Type 0} (Has : A → List Token → Type 0) (spell : A → Kinds
    → Kinds) (tokens : List Token) (from : ℕ) (done items : List A) (last : A) (next : ℕ) → RowPlaced Has spell tokens from done last next
    → items ≡ done ++ last ∷ [] → AreInRow Has spell items (drop from tokens)
row_placed Has spell tokens from done items last next r is =
    subst (λ (x : List _). AreInRow Has spell x (drop from tokens)) (sym is)
    (row_more Has spell done last (drop from tokens) r.row (subst (Has last) (sym r.ends) r.last_placed))

-- one more part after the last
pub row_goes_on : {A : Type 0} (Has : A → List Token → Type 0) (spell : A → Kinds → Kinds) → ((a : A) → IsFramed (spell a))
    → (tokens : List Token) (from : ℕ) (done items : List A) (last : A) (next : ℕ) (another : A) (following : ℕ)
    → RowPlaced Has spell tokens from done last next → items ≡ done ++ last ∷ [] → Spells tokens (next + 1) following (spell another)
    → Has another (drop (next + 1) tokens) → RowPlaced Has spell tokens from items another following
row_goes_on {A} Has spell law tokens from done items last next another following r is sp has = record {
  at = next + 1;
  row = row_placed Has spell tokens from done items last next r is;
  ends =
      ap (λ (x : List A). past_row spell x (drop from tokens)) is ∙ row_longer spell done last (drop from tokens)
      ∙ ap (λ (x : List Token). drop 1 (past (spell last) x)) r.ends
      ∙ ap (λ (x : List Token). drop 1 x) (past_text (spell last) (law last) tokens r.at next r.last_spelled) ∙ one_after tokens next;
  last_placed = has;
  last_spelled = sp;
}

-- consecutive parts are placed, and end before a token
pub record SidePlaced {A : Type 0} (Has : A → List Token → Type 0) (spell : A → Kinds
    → Kinds) (tokens : List Token) (from : ℕ) (done : List A) (next : ℕ) : Type 0 where
  pub row : AreSideBySide Has spell done (drop from tokens)
  pub ends : past_side spell done (drop from tokens) ≡ drop next tokens

pub side_begun : {A : Type 0} (Has : A → List Token → Type 0) (spell : A → Kinds → Kinds) (tokens : List Token) (from : ℕ)
    → SidePlaced Has spell tokens from [] from
side_begun Has spell tokens from = record { row = tt; ends = refl }

-- one more part after them
pub side_goes_on : {A : Type 0} (Has : A → List Token → Type 0) (spell : A → Kinds → Kinds) → ((a : A) → IsFramed (spell a))
    → (tokens : List Token) (from : ℕ) (done items : List A) (next : ℕ) (another : A) (following : ℕ) → SidePlaced Has spell tokens from done next
    → items ≡ done ++ another ∷ [] → Spells tokens next following (spell another) → Has another (drop next tokens)
    → SidePlaced Has spell tokens from items following
side_goes_on {A} Has spell law tokens from done items next another following r is sp has = record {
  row = subst (λ (x : List A). AreSideBySide Has spell x (drop from tokens)) (sym is)
      (side_more Has spell done another (drop from tokens) r.row (subst (Has another) (sym r.ends) has));
  ends =
      ap (λ (x : List A). past_side spell x (drop from tokens)) is ∙ side_longer spell done another (drop from tokens)
      ∙ ap (λ (x : List Token). past (spell another) x) r.ends
      ∙ past_text (spell another) (law another) tokens next following sp;
}

-- what follows two texts follows the second, after the first
pub past_both : (f g : Kinds → Kinds) → IsFramed f → (tokens : List Token) → past (λ rest. f (g rest)) tokens ≡ past g (past f tokens)
past_both f g law tokens =
    let long : length (f (g [])) ≡ length (f []) + length (g []) = ap length (sym (law [] (g []))) ∙ length-append (f []) (g []) in
    ap (λ (n : ℕ). drop n tokens) long ∙ sym (drop-drop (length (g [])) (length (f [])) tokens)

pub one_before : (Has : List Token → Type 0) (tokens : List Token) (at : ℕ) → Has (drop (at + 1) tokens) → Has (drop 1 (drop at tokens))
one_before Has tokens at has = subst Has (sym (one_after tokens at)) has

-- a bound between brackets
abbrev pub HasBracket : Option RawExpr → List Token → Type 0
HasBracket bound tokens = IsSomePlaced bound (drop 1 tokens)

abbrev pub bracket_text : Option RawExpr → Kinds → Kinds
bracket_text bound = brackets_text (option_map written bound ∷ [])

pub bracket_framed : (bound : Option RawExpr) → IsFramed (bracket_text bound)
bracket_framed bound = brackets_append (option_map written bound ∷ [])

-- one more bound
pub bracket_goes_on : (tokens : List Token) (from next : ℕ) (done items : List (Option RawExpr)) (bound : Option RawExpr) (following : ℕ)
    → SidePlaced HasBracket bracket_text tokens from done next → items ≡ done ++ bound ∷ []
    → kind_or_end tokens next ≡ token.Punctuator punctuator.OpenBracket
    → Spells tokens (next + 1) following (λ rest. some_text (option_map written bound) (token.Punctuator punctuator.CloseBracket ∷ rest))
    → IsSomePlaced bound (drop (next + 1) tokens) → SidePlaced HasBracket bracket_text tokens from items following
bracket_goes_on tokens from next done items bound following r is k sp has =
    side_goes_on HasBracket bracket_text bracket_framed tokens from done items next bound following r is
    (spells_more tokens next (next + 1) following (λ rest. token.Punctuator punctuator.OpenBracket ∷ rest)
    (λ rest. some_text (option_map written bound) (token.Punctuator punctuator.CloseBracket ∷ rest))
    (spells_one tokens next (token.Punctuator punctuator.OpenBracket) k (λ x. cc)) sp)
    (one_before (IsSomePlaced bound) tokens next has)

-- after a name with the pointers before it
pub past_pointed : (pointers : List PointerWord) (name : List ℕ) (tokens : List Token) (from next : ℕ)
    → Spells tokens from next (λ rest. pointers_text pointers (token.Name name ∷ rest))
    → drop 1 (past (pointers_text pointers) (drop from tokens)) ≡ drop next tokens
past_pointed pointers name tokens from next sp =
    sym (past_both (pointers_text pointers) (λ rest. token.Name name ∷ rest) (pointers_append pointers) (drop from tokens))
    ∙ past_text (λ rest. pointers_text pointers (token.Name name ∷ rest)) (λ x y. pointers_append pointers (token.Name name ∷ x) y) tokens from next sp

-- the bounds after a name
pub bounds_after : (pointers : List PointerWord) (name : List ℕ) (tokens : List Token) (from next : ℕ) (bounds : List (Option RawExpr))
    → Spells tokens from next (λ rest. pointers_text pointers (token.Name name ∷ rest)) → AreBracketsPlaced bounds (drop next tokens)
    → AreBracketsPlaced bounds (drop 1 (past (pointers_text pointers) (drop from tokens)))
bounds_after pointers name tokens from next bounds sp has = subst (AreBracketsPlaced bounds) (sym (past_pointed pointers name tokens from next sp)) has

pub declarator_framed : (d : RawDeclarator) → IsFramed (declarator_text (declarator d))
declarator_framed d = declarator_append (declarator d)

pub constant_framed : (e : RawEnumerator) → IsFramed (constant_text (constant e))
constant_framed e = constant_append (constant e)

pub initial_framed : (i : RawInitial) → IsFramed (initial_text (initial i))
initial_framed i = initial_append (initial i)

pub declared_framed : (d : RawInit) → IsFramed (declared_text (declared d))
declared_framed d = declared_append (declared d)

initials_in : (n : _) (row : first_value.Row_of-RawInitial n) (list : List Token)
    → AreInRow IsInitialPlaced (λ i. initial_text (initial i)) (first_value.items-the_row-RawInitial n row) list → AreInitialsPlaced row list
initials_in n first_value.end_of-RawInitial list a = tt
initials_in n (first_value.more_of-RawInitial first others) list a = (a.0, initials_in _ others (drop 1 (past (initial_text (initial first)) list)) a.1)

-- the items between braces, as a row
abbrev items_of : RawInitial → (n : Count) × first_value.Row_of-RawInitial n
items_of (first_value.TheVariants.List' shape row comma) = (_, row)
items_of _ = (_, first_value.end_of-RawInitial)

-- items between braces
pub list_placed : (list : Vec RawInitial Global) (comma : Bool) (tokens : List Token) (from : ℕ)
    → AreInRow IsInitialPlaced (λ i. initial_text (initial i)) list.items (drop (from + 1) tokens)
    → IsInitialPlaced (first_value.TheVariants.List list comma) (drop from tokens)
list_placed list comma tokens from a =
    let row = items_of (first_value.TheVariants.List list comma) in
    initials_in row.0 row.1 (drop 1 (drop from tokens))
    (subst (λ (x : List RawInitial). AreInRow IsInitialPlaced (λ i. initial_text (initial i)) x (drop 1 (drop from tokens)))
    (sym (first_value.items_hidden-the_row-RawInitial-0 list))
    (one_before (AreInRow IsInitialPlaced (λ i. initial_text (initial i)) list.items) tokens from a))

-- the initializer of an object, after its declarator
pub value_after : (d : RawDeclarator) (tokens : List Token) (from next : ℕ) → Spells tokens from next (declarator_text (declarator d))
    → (at : Place) (value : RawInitial) → StandsAt at (drop next tokens) → IsInitialPlaced value (drop (next + 1) tokens)
    → StandsAt at (past (declarator_text (declarator d)) (drop from tokens))
    × IsInitialPlaced value (drop 1 (past (declarator_text (declarator d)) (drop from tokens)))
value_after d tokens from next sp at value stands has = (
  after_text (StandsAt at) (declarator_text (declarator d)) (declarator_framed d) tokens from next sp stands,
  after_text_and_one (IsInitialPlaced value) (declarator_text (declarator d)) (declarator_framed d) tokens from next sp has,
)
