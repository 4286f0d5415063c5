-- The codes at an `=` for the items so far, before those of the remaining items: for the loop over items.
use Rattle.std.proofs.Common.{◌≡◌, ℕ, suc, ◌≤◌, List, [], ◌∷◌, drop, length, Option, Some, None, Bool, refl, sym, ap, subst, ◌∙◌, Vec}
use Rattle.std.proofs.Common.{Global, Result, Ok, Err}
use Rattle.std.proofs.Math.ListN.{drop_of_length-le}
use Rattle.std.specs.Prelude.{slice_get}
use Rattle.cs_types.specs.Shape.{Shape, void, integer, pointer, array, struct}
use Rattle.cs_ast.specs.declared.place.Place.{Place}
use Rattle.cs_ast.specs.declared.raw.declaration.RawInitial as first_value
use Rattle.cs_ast.specs.declared.raw.declaration.RawInitial.{RawInitial}
use Rattle.cs_ast.specs.declared.typed.expression.Expr.{Expr}
use Rattle.cs_ast.specs.declared.typed.statement.Initial.{Initial as Held}
use Rattle.cs_ast.specs.declared.typed.statement.Initial.TheVariants as held
use Rattle.cs_ast.specs.TypedView.{initial, initial_row}
use Rattle.cs_scopes.specs.declared.context.Context.{Context}
use Rattle.cs_scopes.specs.declared.refusal.TypeCode.{TypeCode}
use Rattle.cs_scopes.specs.declared.refusal.TypeRefusal.{TypeRefusal}
use Rattle.cs_scopes.specs.declared.refusal.TypeRefusal.TheVariants.{Code, Memory}
use Rattle.cs_scopes.specs.Verdicts.{Verdict, Fine, Fault, lift, IsRefused}
use Rattle.cs_scopes.specs.Faults.{least_code, code_in, unless_fault}
use Rattle.cs_scopes.proofs.LesserCodes.{least_code-assoc, least_code-none}
use Rattle.cs_ast.specs.declared.raw.expression.RawExpr.{RawExpr}
use Rattle.cs_ast.specs.TypedTree.{Typed, Initial, Initials, Value, Bytes, Parts}
use Rattle.cs_consts.specs.Roles.{operand_of}
use Rattle.cs_expressions.specs.Primary.{Literals}
use Rattle.cs_declarations.specs.Initializers.{Storage, Reading, types_or_none, literals_read, initial_read, item_fault, items_fault, list_fault}
use Rattle.cs_scopes.specs.Parts.{part_types}
use Rattle.cs_declarations.specs.Initializers.{initial_fault, whole_fault, reading_fault, value_read, expression_read, text_of}
use Rattle.cs_declarations.specs.Answered.{AnswersWith, UnlessMemory}
use Rattle.cs_declarations.specs.View.{reading}
use Rattle.cs_declarations.proofs.PartTypes.{types_from, types_past}
use Rattle.cs_declarations.proofs.WrittenLists.{items_of}

module _ (c : Context) (storage : Storage) (at : Place) where
  fault-row : (literals : Literals) (types : List Shape) (n : _) (row : first_value.Row_of-RawInitial n)
      → list_fault c literals storage at types (first_value.items-the_row-RawInitial n row) ≡ items_fault c literals storage at types row
  fault-row literals [] n first_value.end_of-RawInitial = refl
  fault-row literals (ty ∷ types) n first_value.end_of-RawInitial = refl
  fault-row literals [] n (first_value.more_of-RawInitial first others) = refl
  fault-row literals (ty ∷ types) n (first_value.more_of-RawInitial first others) =
      ap (least_code (item_fault c literals storage at ty first)) (fault-row (literals_read (initial_read c literals ty first)) types _ others)

  no_types : (literals : Literals) (items : List RawInitial) → list_fault c literals storage at [] items ≡ None
  no_types literals [] = refl
  no_types literals (first ∷ others) = refl

  no_items : (literals : Literals) (types : List Shape) → list_fault c literals storage at types [] ≡ None
  no_items literals [] = refl
  no_items literals (ty ∷ types) = refl

  -- the codes of a list
  module _ (literals : Literals) (ty : Shape) (v : RawInitial) (list : Vec RawInitial Global) (comma : Bool)
      (is : v ≡ first_value.TheVariants.List list comma) where
    abbrev row : first_value.Row_of-RawInitial (items_of (first_value.TheVariants.List list comma)).0
    row = (items_of (first_value.TheVariants.List list comma)).1

    listed : (found : Option (List Shape)) → part_types c.table.list ty ≡ found
        → items_fault c literals storage at (types_or_none (part_types c.table.list ty)) row
        ≡ list_fault c literals storage at (types_or_none found) list.items
    listed found parts =
        ap (λ p. items_fault c literals storage at (types_or_none p) row) parts ∙ sym (fault-row literals (types_or_none found) _ row)
        ∙ ap (list_fault c literals storage at (types_or_none found)) (first_value.items_hidden-the_row-RawInitial-0 list)

    pub item_fault-List : (found : Option (List Shape)) → part_types c.table.list ty ≡ found
        → item_fault c literals storage at ty v ≡ list_fault c literals storage at (types_or_none found) list.items
    item_fault-List found parts = ap (item_fault c literals storage at ty) is ∙ listed found parts

    pub no_parts : part_types c.table.list ty ≡ None → item_fault c literals storage at ty v ≡ None
    no_parts parts = item_fault-List None parts ∙ no_types literals list.items

    pub whole_fault-List : whole_fault c literals storage at ty v ≡ item_fault c literals storage at ty v
    whole_fault-List = ap (whole_fault c literals storage at ty) is ∙ sym (ap (item_fault c literals storage at ty) is)

    pub initial_fault-List : initial_fault c literals storage at ty v ≡ item_fault c literals storage at ty v
    initial_fault-List = ap (initial_fault c literals storage at ty) is ∙ sym (ap (item_fault c literals storage at ty) is)

  module _ (types : List Shape) (items : List RawInitial) (literals : Literals) (i : ℕ) (fault whole : Option TypeCode)
      (so_far : least_code fault (list_fault c literals storage at (drop i types) (drop i items)) ≡ whole) where
    all_said : list_fault c literals storage at (drop i types) (drop i items) ≡ None → fault ≡ whole
    all_said e = sym (least_code-none fault) ∙ ap (least_code fault) (sym e) ∙ so_far

    pub codes_over : slice_get types i ≡ None → fault ≡ whole
    codes_over part = all_said (ap (λ ts. list_fault c literals storage at ts (drop i items)) (types_past types i part) ∙ no_types literals (drop i items))

    pub codes_end : length items ≤ i → fault ≡ whole
    codes_end past = all_said (ap (list_fault c literals storage at (drop i types)) (drop_of_length-le items past) ∙ no_items literals (drop i types))

    pub codes_more : (item : RawInitial) → drop i items ≡ item ∷ drop (suc i) items → (ty : Shape) → slice_get types i ≡ Some ty
        → (read : Verdict Reading) → initial_read c literals ty item ≡ read → (then_literals : Literals) → then_literals ≡ literals_read read
        → (more : Option TypeCode) → more ≡ least_code fault (item_fault c literals storage at ty item)
        → least_code more (list_fault c then_literals storage at (drop (suc i) types) (drop (suc i) items)) ≡ whole
    codes_more item there ty part read is_read then_literals are more is =
        let following = drop (suc i) types in
        let others = drop (suc i) items in
        let one = item_fault c literals storage at ty item in
        ap (λ f. least_code f (list_fault c then_literals storage at following others)) is
        ∙ ap (λ ls. least_code (least_code fault one) (list_fault c ls storage at following others)) (are ∙ ap literals_read (sym is_read))
        ∙ least_code-assoc fault one (list_fault c (literals_read (initial_read c literals ty item)) storage at following others)
        ∙ ap (least_code fault) (sym (ap (λ ts. list_fault c literals storage at ts (drop i items)) (types_from types i ty part)
        ∙ ap (list_fault c literals storage at (ty ∷ following)) there))
        ∙ so_far

-- the `=` has no type error for a value that is refused before
pub nothing_said : {A : Type 0} (rule : Initial → Verdict Initial) (read : Verdict Reading) (fault : Option TypeCode) (result : Result A TypeRefusal)
    (r : TypeRefusal) → result ≡ Err r → IsRefused read r → UnlessMemory result (fault ≡ least_code fault (reading_fault rule read))
nothing_said {A} rule read fault result r is h =
    subst (λ x. UnlessMemory x (fault ≡ least_code fault (reading_fault rule read))) (sym is) (by_refusal r h)
  where
    by_refusal : (r : TypeRefusal) → IsRefused read r → UnlessMemory {A = A} (Err r) (fault ≡ least_code fault (reading_fault rule read))
    by_refusal (Code code place) h = sym (least_code-none fault) ∙ ap (λ v. least_code fault (reading_fault rule v)) (sym h)
    by_refusal Memory h = tt

pub unless_memory-then : {A : Type 0} {P Q : Type 0} (result : Result A TypeRefusal) → (P → Q) → UnlessMemory result P → UnlessMemory result Q
unless_memory-then (Ok value) follows held = follows held
unless_memory-then (Err (Code code place)) follows held = follows held
unless_memory-then (Err Memory) follows held = tt

-- in the result at a position, a code may be replaced by one that equals it unless memory ran out
pub same_code : (v : Verdict Reading) (at : Place) (fault said : Option TypeCode) (read result : Result Held TypeRefusal) (following : Literals)
    → UnlessMemory read (fault ≡ said) → (read ≡ Err Memory → result ≡ Err Memory)
    → AnswersWith reading (unless_fault at fault v) result following
    → AnswersWith reading (unless_fault at said v) result following
same_code v at fault said (Ok value) result following is memory h = subst (λ f. AnswersWith reading (unless_fault at f v) result following) is h
same_code v at fault said (Err (Code code place)) result following is memory h =
    subst (λ f. AnswersWith reading (unless_fault at f v) result following) is h
same_code v at fault said (Err Memory) result following is memory h =
    subst (λ r. AnswersWith reading (unless_fault at said v) r following) (sym (memory refl)) tt

-- the result for an expression is never a list
abbrev first_read : Initial → Verdict Reading → Initial
first_read other (Fine r) = r.0
first_read other (Fault code place) = other

never_list : {P : Type 0} (literals then_literals : Literals) (e : RawExpr) (parts : Initials) (v : Verdict Typed)
    → lift (value_read literals e.kind.value) v ≡ Fine (Parts parts, then_literals) → P
unfolding lift
never_list literals then_literals e parts (Fine v) h = let same : Value v ≡ Parts parts = ap (first_read (Parts parts)) h in absurd cc
never_list literals then_literals e parts (Fault code place) h = absurd cc

pub no_list : {P : Type 0} (c : Context) (literals then_literals : Literals) (ty : Shape) (e : RawExpr) (parts : Initials)
    → expression_read c literals ty e ≡ Fine (Parts parts, then_literals) → P
no_list c literals then_literals (array element count) e parts is =
    let same : Bytes (text_of e.kind.value) ≡ Parts parts = ap (first_read (Parts parts)) is in absurd cc
no_list c literals then_literals void e parts is = never_list literals then_literals e parts (operand_of c literals (Some void) e) is
no_list c literals then_literals (integer t) e parts is = never_list literals then_literals e parts (operand_of c literals (Some (integer t)) e) is
no_list c literals then_literals (pointer t) e parts is = never_list literals then_literals e parts (operand_of c literals (Some (pointer t)) e) is
no_list c literals then_literals (struct n) e parts is = never_list literals then_literals e parts (operand_of c literals (Some (struct n)) e) is

-- the `=` has no type error for an expression that isn't a value
pub text_said : (rule : Initial → Verdict Initial) (c : Context) (literals then_literals : Literals) (ty : Shape) (e : RawExpr) (read : Held)
    → ((bytes : List ℕ) → code_in (rule (Bytes bytes)) ≡ None) → expression_read c literals ty e ≡ Fine (initial read, then_literals)
    → ((v : Expr) → read ≡ held.Value v → reading_fault rule (expression_read c literals ty e) ≡ None)
    → reading_fault rule (expression_read c literals ty e) ≡ None
text_said rule c literals then_literals ty e (held.Value v) texts is not_value = not_value v refl
text_said rule c literals then_literals ty e (held.Text bytes) texts is not_value = ap (reading_fault rule) is ∙ texts _
text_said rule c literals then_literals ty e (held.List' shape row) texts is not_value = no_list c literals then_literals ty e (initial_row row) is
