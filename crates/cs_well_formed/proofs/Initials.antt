-- Typed initializers are well formed: first the values that are read, then their conversions at the `=`.
use Rattle.std.proofs.Common.{◌≡◌, ℕ, zero, suc, ◌≤◌, true, List, [], ◌∷◌, length, map, Option, Some, None, is_some, refl, arith}
use Rattle.std.specs.Prelude.{nat_le, IfSome}
use Rattle.std.proofs.lemmas.Bool.Decides.{nat_tests}
use Rattle.cs_types.specs.declared.structs.StructType.{StructType}
use Rattle.cs_types.specs.Layout.{members_of, IsLaidOut}
use Rattle.cs_types.specs.Members.{Member}
use Rattle.cs_types.specs.Shape.{Shape, void, integer, pointer, array, struct}
use Rattle.cs_ast.specs.declared.place.Place.{Place}
use Rattle.cs_ast.specs.declared.raw.expression.RawExpr.{RawExpr}
use Rattle.cs_ast.specs.declared.raw.expression.RawExprKind.{RawExprKind}
use Rattle.cs_ast.specs.declared.raw.expression.RawExprKind.TheVariants as kind
use Rattle.cs_ast.specs.declared.raw.declaration.RawInitial.{RawInitial, Row_of-RawInitial, end_of-RawInitial, more_of-RawInitial}
use Rattle.cs_ast.specs.declared.raw.declaration.RawInitial.TheVariants as first_value
use Rattle.cs_ast.specs.RawView.{written}
use Rattle.cs_ast.specs.RawDeclarationView.{initial, initials}
use Rattle.cs_ast.specs.TypedTree.{Typed, Initial, Value, Parts, Bytes, Initials, NoPart, Part}
use Rattle.cs_scopes.specs.declared.context.Context.{Context}
use Rattle.cs_scopes.specs.Verdicts.{Verdict, Fine, Fault, lift}
use Rattle.cs_folding.specs.TypedParts.{type_of}
use Rattle.cs_expressions.specs.Conversions.{converted}
use Rattle.cs_expressions.specs.Primary.{Literals}
use Rattle.cs_consts.specs.Typing.{literals_after}
use Rattle.cs_consts.specs.Roles.{operand_of}
use Rattle.cs_declarations.specs.Initializers.{Storage, InFile, InFunction, is_character, text_of, is_admitted}
use Rattle.cs_scopes.specs.Parts.{copies, member_types, part_types}
use Rattle.cs_declarations.specs.Initializers.{takes_expression, has_form, have_forms, Reading, Readings, value_read, expression_read, types_or_none}
use Rattle.cs_declarations.specs.Initializers.{parts_read, one_more, initial_read, items_read, is_braceless, value_held, value_judged, item_judged}
use Rattle.cs_scopes.specs.Faults.{least_code}
use Rattle.cs_declarations.specs.Initializers.{before_others, part_judged, parts_judged, initial_judged, whole_fault, scalar_limit, whole_read}
use Rattle.cs_declarations.specs.Initializers.{kept_with, initial_typed}
use Rattle.cs_well_formed.specs.Structs.{NamesStructs, MembersName}
use Rattle.cs_well_formed.specs.Expressions.{Setting, IsWell, IsValue, IsValueOf, IsWhole}
use Rattle.cs_well_formed.specs.Initials.{HasParts, TakesBytes, IsWellInitial, AreWellParts, HasConstantValues, HaveConstantValues}
use Rattle.cs_well_formed.specs.Constants.{HasConstants, InitialHasConstants, InitialsHaveConstants}
use Rattle.cs_well_formed.specs.Agreement.{Agrees, AreFirst}
use Rattle.cs_well_formed.specs.Laws.{InitialsAreWell, FileInitialsAreConstant}
use Rattle.cs_well_formed.proofs.Verdicts.{IfFine, if_fine-at, if_fine-any, lift-then, cond-then, unless_fault-then, both_true}
use Rattle.cs_well_formed.proofs.Conversions.{converted-well}
use Rattle.cs_well_formed.proofs.Names.{Begins, begins-self, begins-trans, first-part, literals-begin}
use Rattle.cs_well_formed.proofs.Typing.{IsWellValue}
use Rattle.cs_well_formed.proofs.Doors.{operand_of-well}
use Rattle.cs_well_formed.proofs.Structs.{AreNamed, each-named, members-longer, members-named}
use Rattle.cs_well_formed.proofs.Layouts.{AreWhole, members-whole}

abbrev mutual
  -- an initializer whose values aren't converted yet
  IsRead : Setting → List StructType → Shape → Initial → Type 0
  IsRead s table ty (Value v) = IsWell s v × IsValue v
  IsRead s table ty (Bytes bytes) = TakesBytes ty bytes
  IsRead s table ty (Parts parts) = AreRead s table (part_types table ty) parts

  AreRead : Setting → List StructType → Option (List Shape) → Initials → Type 0
  AreRead s table None parts = ⊥
  AreRead s table (Some types) NoPart = Unit {0}
  AreRead s table (Some []) (Part first others) = ⊥
  AreRead s table (Some (ty ∷ types)) (Part first others) = IsRead s table ty first × AreRead s table (Some types) others

-- a property of a value that holds under a premise
under : {A : Type 0} (Q : Type 0) (P : A → Type 0) (v : Verdict A) → (Q → IfFine v P) → IfFine v (λ a. Q → P a)
under Q P (Fine a) h = h
under Q P (Fault code place) h = tt

text-taken : (storage : Storage) (element : Shape) (count : ℕ) (k : RawExprKind) → takes_expression storage (array element count) k ≡ true
    → TakesBytes (array element count) (text_of k)
text-taken storage element count (kind.Text bytes) h =
    let both = both_true (is_character element) (nat_le (length bytes) count) h in
    (element, count, refl, both.0, room (length bytes) both.1)
  where
    room : (n : ℕ) → nat_le n count ≡ true → n ≤ count
    room n t = grind (arith, nat_tests)
text-taken storage element count other h = absurd cc

module _ (s : Setting) (c : Context) (agrees : Agrees s c) where
  -- what is read is well formed, if the literals after it are the first ones of the program
  abbrev IsReading : Literals → Shape → Reading → Type 0
  IsReading literals ty r = (AreFirst s.program r.1 → IsRead s c.table.list ty r.0) × Begins literals r.1

  abbrev AreReadings : Literals → Option (List Shape) → Readings → Type 0
  AreReadings literals types r = (AreFirst s.program r.1 → AreRead s c.table.list types r.0) × Begins literals r.1

  value-reading : (literals : Literals) (ty : Shape) (e : RawExpr) → NamesStructs s.program.table ty → HasConstants (written e)
      → IfFine (lift (value_read literals e.kind.value) (operand_of c literals (Some ty) e)) (IsReading literals ty)
  value-reading literals ty e names fit =
      lift-then (λ v. AreFirst s.program (literals_after literals e.kind.value) → IsWellValue s v) (IsReading literals ty) (value_read literals e.kind.value)
      (operand_of c literals (Some ty) e)
      (under (AreFirst s.program (literals_after literals e.kind.value)) (IsWellValue s) (operand_of c literals (Some ty) e)
      (λ texts. operand_of-well s c literals e (record { agrees = agrees; constants = fit; texts = texts }) (Some ty) names))
      (λ v well. (well, literals-begin literals e.kind.value))

  expression-reading : (storage : Storage) (literals : Literals) (ty : Shape) (e : RawExpr) → NamesStructs s.program.table ty → HasConstants (written e)
      → takes_expression storage ty e.kind.value ≡ true →
      IfFine (expression_read c literals ty e) (IsReading literals ty)
  expression-reading storage literals (array element count) e names fit h = (λ _. text-taken storage element count e.kind.value h, begins-self literals)
  expression-reading storage literals void e names fit h = value-reading literals void e names fit
  expression-reading storage literals (integer ty) e names fit h = value-reading literals (integer ty) e names fit
  expression-reading storage literals (pointer target) e names fit h = value-reading literals (pointer target) e names fit
  expression-reading storage literals (struct number) e names fit h = value-reading literals (struct number) e names fit

  parts-reading : (literals : Literals) (ty : Shape) (v : Verdict Readings) → IfFine v (AreReadings literals (part_types c.table.list ty))
      → IfFine (lift parts_read v) (IsReading literals ty)
  parts-reading literals ty v h = lift-then (AreReadings literals (part_types c.table.list ty)) (IsReading literals ty) parts_read v h (λ r held. held)

  more-reading : (literals : Literals) (ty : Shape) (types : List Shape) (first : Reading) (v : Verdict Readings) → IsReading literals ty first
      → IfFine v (AreReadings first.1 (Some types)) → IfFine (lift (one_more first.0) v) (AreReadings literals (Some (ty ∷ types)))
  more-reading literals ty types first v one others =
      lift-then (AreReadings first.1 (Some types)) (AreReadings literals (Some (ty ∷ types))) (one_more first.0) v others
      (λ r held. (λ texts. (one.0 (first-part s.program first.1 r.1 held.1 texts), held.0 texts), begins-trans literals first.1 r.1 one.1 held.1))

  -- the types of the parts of an object
  copies-named : (count : ℕ) (ty : Shape) → NamesStructs s.program.table ty → AreNamed s.program.table (copies count ty)
  copies-named zero ty h = tt
  copies-named (suc n) ty h = (h, copies-named n ty h)

  members-are-named : (members : List Member) → MembersName s.program.table members → AreNamed s.program.table (map (λ (m : Member). m.ty) members)
  members-are-named members h = each-named s.program.table (λ (m : Member). m.ty) members h

  part_types-named : (ty : Shape) → NamesStructs s.program.table ty → IfSome (part_types c.table.list ty) (AreNamed s.program.table)
  part_types-named void h = tt
  part_types-named (integer ty) h = tt
  part_types-named (pointer target) h = tt
  part_types-named (array element count) h = copies-named count element h
  part_types-named (struct number) h = by_members (members_of c.table.list number) refl
    where
      by_members : (found : Option (List Member)) → members_of c.table.list number ≡ found → AreNamed s.program.table (member_types found)
      by_members (Some members) is =
          members-are-named members (members-longer c.table.list s.program.table agrees.table.longer members
          (members-named c.table.list c.table.list number members agrees.named.members is))
      by_members None is = tt

  mutual
    initial-reading : (storage : Storage) (literals : Literals) (ty : Shape) (raw : RawInitial) → NamesStructs s.program.table ty
        → InitialHasConstants (initial raw) → has_form c.table.list storage ty raw ≡ true →
        IfFine (initial_read c literals ty raw) (IsReading literals ty)
    initial-reading storage literals ty (first_value.Value e) names fit h = expression-reading storage literals ty e names fit h
    initial-reading storage literals ty (first_value.List' shape row comma) names fit h =
        parts-reading literals ty _ (items-reading storage literals (part_types c.table.list ty) row (part_types-named ty names) fit h)

    items-reading : (storage : Storage) (literals : Literals) (types : Option (List Shape)) {n : _} (row : Row_of-RawInitial n)
        → IfSome types (AreNamed s.program.table) → InitialsHaveConstants (initials row) →
        have_forms c.table.list storage types row ≡ true → IfFine (items_read c literals (types_or_none types) row) (AreReadings literals types)
    items-reading storage literals None end_of-RawInitial names fit h = absurd cc
    items-reading storage literals None (more_of-RawInitial first others) names fit h = absurd cc
    items-reading storage literals (Some types) end_of-RawInitial names fit h = (λ _. tt, begins-self literals)
    items-reading storage literals (Some []) (more_of-RawInitial first others) names fit h = absurd cc
    items-reading storage literals (Some (ty ∷ types)) (more_of-RawInitial first others) names fit h =
        let both = both_true (has_form c.table.list storage ty first) (have_forms c.table.list storage (Some types) others) h in
        lift-then (IsReading literals ty) (AreReadings literals (Some (ty ∷ types))) _ (initial_read c literals ty first)
        (initial-reading storage literals ty first names.0 fit.0 both.0)
        (λ r held. more-reading literals ty types r _ held (items-reading storage r.1 (Some types) others names.1 fit.1 both.1))

  value-judged : (storage : Storage) (at : Place) (ty : Shape) (v : Typed) → NamesStructs s.program.table ty → IsWell s v → IsValue v
      → IfFine (value_judged c.model storage at ty v) (IsWellInitial s ty)
  value-judged storage at ty v names well value =
      lift-then (λ r. IsWell s r × IsValueOf r ty) (IsWellInitial s ty) (value_held c.model storage at) _
      (converted-well s c.model at v ty (type_of v) names well (value, refl))
      (λ r given. cond-then (IsWellInitial s ty) (is_admitted c.model storage r) _ _ (λ _. given) (λ _. tt))

  item-judged : (storage : Storage) (at : Place) (ty : Shape) (v : Typed) → NamesStructs s.program.table ty → IsWell s v → IsValue v
      → IfFine (item_judged c.model storage at ty v) (IsWellInitial s ty)
  item-judged storage at ty v names well value =
      cond-then (IsWellInitial s ty) (is_braceless ty (type_of v)) _ _ (λ _. tt) (λ _. value-judged storage at ty v names well value)

  before-well : (at : Place) (ty : Shape) (types : List Shape) (v : Verdict Initial) (w : Verdict Initials) → IfFine v (IsWellInitial s ty)
      → IfFine w (AreWellParts s types) → IfFine (before_others at v w) (AreWellParts s (ty ∷ types))
  before-well at ty types (Fine first) (Fine others) h k = (h, k)
  before-well at ty types (Fine first) (Fault code place) h k = tt
  before-well at ty types (Fault code place) (Fine others) h k = tt
  before-well at ty types (Fault code place) (Fault other there) h k = tt

  copies-whole : (count : ℕ) (ty : Shape) → IsWhole s.program ty → AreWhole s.program (copies count ty)
  copies-whole zero ty h = tt
  copies-whole (suc n) ty h = (h, copies-whole n ty h)

  parts-well : (ty : Shape) (types : List Shape) (v : Verdict Initials) → HasParts s.program ty types → IfFine v (AreWellParts s types)
      → IfFine (lift (λ all. Fine (Parts all)) v) (IsWellInitial s ty)
  parts-well ty types v has h = lift-then (AreWellParts s types) (IsWellInitial s ty) (λ all. Fine (Parts all)) v h (λ all well. (types, has, well))

  module _ (laid_out : IsLaidOut s.program.model s.program.table) (storage : Storage) (at : Place) where
    -- no items, for a struct that has no members yet
    none-well : (number : ℕ) (parts : Initials) → IsWhole s.program (struct number) → AreRead s c.table.list (Some []) parts
        → IfFine (lift (λ all. Fine (Parts all)) (parts_judged c storage at [] parts)) (IsWellInitial s (struct number))
    none-well number (Part first others) whole read = absurd read
    none-well number NoPart whole read = by_members (members_of s.program.table number) refl whole
      where
        by_members : (found : Option (List Member)) → members_of s.program.table number ≡ found → is_some found ≡ true
            → IfFine (lift (λ all. Fine (Parts all)) (Fine NoPart)) (IsWellInitial s (struct number))
        by_members (Some members) is h = parts-well (struct number) (map (λ (m : Member). m.ty) members) (Fine NoPart) (members, is, refl) tt
        by_members None is h = absurd cc

    -- items for the members of a struct
    struct-well : (number : ℕ) (parts : Initials) (found : Option (List Member)) → members_of c.table.list number ≡ found
        → IsWhole s.program (struct number) → AreRead s c.table.list (Some (member_types found)) parts →
        ((types : List Shape) → AreWhole s.program types → AreNamed s.program.table types → AreRead s c.table.list (Some types) parts
        → IfFine (parts_judged c storage at types parts) (AreWellParts s types)) →
        IfFine (lift (λ all. Fine (Parts all)) (parts_judged c storage at (member_types found) parts)) (IsWellInitial s (struct number))
    struct-well number parts (Some members) is whole read judged =
        let there = agrees.table.members number members is in
        parts-well (struct number) (map (λ (m : Member). m.ty) members) _ (members, there, refl)
        (judged (map (λ (m : Member). m.ty) members) (members-whole s.program number members laid_out there)
        (members-are-named members (members-named s.program.table s.program.table number members agrees.types.program.members there)) read)
    struct-well number parts None is whole read judged = none-well number parts whole read

    mutual
      part-well : (ty : Shape) (i : Initial) → IsWhole s.program ty → NamesStructs s.program.table ty → IsRead s c.table.list ty i
          → IfFine (part_judged c storage at ty i) (IsWellInitial s ty)
      part-well ty (Value v) whole names read = item-judged storage at ty v names read.0 read.1
      part-well ty (Bytes bytes) whole names read = read
      part-well void (Parts parts) whole names read = absurd read
      part-well (integer ty) (Parts parts) whole names read = absurd read
      part-well (pointer target) (Parts parts) whole names read = absurd read
      part-well (array element count) (Parts parts) whole names read =
          parts-well (array element count) (copies count element) _ refl
          (parts-judged (copies count element) parts (copies-whole count element whole) (copies-named count element names) read)
      part-well (struct number) (Parts parts) whole names read =
          struct-well number parts (members_of c.table.list number) refl whole read (λ types whole' names' read'. parts-judged types parts whole' names' read')

      parts-judged : (types : List Shape) (parts : Initials) → AreWhole s.program types → AreNamed s.program.table types
          → AreRead s c.table.list (Some types) parts → IfFine (parts_judged c storage at types parts) (AreWellParts s types)
      parts-judged types NoPart whole names read = tt
      parts-judged [] (Part first others) whole names read = absurd read
      parts-judged (ty ∷ types) (Part first others) whole names read =
          before-well at ty types _ _ (part-well ty first whole.0 names.0 read.0) (parts-judged types others whole.1 names.1 read.1)

    -- the whole initializer, once the `=` has converted its values
    judged-well : (ty : Shape) (i : Initial) → IsWhole s.program ty → NamesStructs s.program.table ty → IsRead s c.table.list ty i
        → IfFine (initial_judged c storage at ty i) (IsWellInitial s ty)
    judged-well ty (Value v) whole names read = value-judged storage at ty v names read.0 read.1
    judged-well ty (Bytes bytes) whole names read = part-well ty (Bytes bytes) whole names read
    judged-well ty (Parts parts) whole names read = part-well ty (Parts parts) whole names read

    -- an initializer
    pub initial-well : (literals : Literals) (ty : Shape) (raw : RawInitial) → IsWhole s.program ty → NamesStructs s.program.table ty
        → InitialHasConstants (initial raw) →
        IfFine (initial_typed c literals storage at ty raw) (λ r. AreFirst s.program r.1 → IsWellInitial s ty r.0)
    initial-well literals ty raw whole names fit =
        cond-then (λ (r : Reading). AreFirst s.program r.1 → IsWellInitial s ty r.0) (has_form c.table.list storage ty raw) _ _
        (λ h.
        lift-then (IsReading literals ty) (λ (r : Reading). AreFirst s.program r.1 → IsWellInitial s ty r.0) _ (whole_read c literals storage at ty raw)
        (unless_fault-then (IsReading literals ty) at
        (least_code (scalar_limit c.table.list storage ty raw) (whole_fault c literals storage at ty raw)) (initial_read c literals ty raw)
        (λ _. initial-reading storage literals ty raw names fit h))
        (λ r held.
        lift-then (λ found. AreFirst s.program r.1 → IsWellInitial s ty found) (λ (r : Reading). AreFirst s.program r.1 → IsWellInitial s ty r.0)
        (kept_with r.1) _
        (under (AreFirst s.program r.1) (IsWellInitial s ty) (initial_judged c storage at ty r.0)
        (λ texts. judged-well ty r.0 whole names (held.0 texts)))
        (λ found well. well)))
        (λ _. tt)

pub initials_are_well : InitialsAreWell
initials_are_well s c literals following storage at ty raw found agrees laid_out whole names fit texts is =
    if_fine-at (λ (r : Reading). AreFirst s.program r.1 → IsWellInitial s ty r.0) (initial_typed c literals storage at ty raw) (found, following)
    (initial-well s c agrees laid_out storage at literals ty raw whole names fit) is texts

-- the values that the `=` accepts in a file-scope object are constant
module _ (c : Context) (at : Place) where
  value-constant : (ty : Shape) (v : Typed) → IfFine (value_judged c.model InFile at ty v) (HasConstantValues c.model)
  value-constant ty v =
      lift-then (λ _. Unit {0}) (HasConstantValues c.model) (value_held c.model InFile at) _ (if_fine-any (converted c.model at v ty (type_of v)))
      (λ r _. cond-then (HasConstantValues c.model) (is_admitted c.model InFile r) _ _ (λ h. h) (λ _. tt))

  both-constant : (v : Verdict Initial) (w : Verdict Initials) → IfFine v (HasConstantValues c.model) → IfFine w (HaveConstantValues c.model)
      → IfFine (before_others at v w) (HaveConstantValues c.model)
  both-constant (Fine first) (Fine others) h k = (h, k)
  both-constant (Fine first) (Fault code place) h k = tt
  both-constant (Fault code place) (Fine others) h k = tt
  both-constant (Fault code place) (Fault other there) h k = tt

  mutual
    part-constant : (ty : Shape) (i : Initial) → IfFine (part_judged c InFile at ty i) (HasConstantValues c.model)
    part-constant ty (Value v) = cond-then (HasConstantValues c.model) (is_braceless ty (type_of v)) _ _ (λ _. tt) (λ _. value-constant ty v)
    part-constant ty (Bytes bytes) = tt
    part-constant ty (Parts parts) =
        lift-then (HaveConstantValues c.model) (HasConstantValues c.model) (λ all. Fine (Parts all)) _
        (parts-constant (types_or_none (part_types c.table.list ty)) parts) (λ all h. h)

    parts-constant : (types : List Shape) (parts : Initials) → IfFine (parts_judged c InFile at types parts) (HaveConstantValues c.model)
    parts-constant types NoPart = tt
    parts-constant [] (Part first others) = tt
    parts-constant (ty ∷ types) (Part first others) = both-constant _ _ (part-constant ty first) (parts-constant types others)

  judged-constant : (ty : Shape) (i : Initial) → IfFine (initial_judged c InFile at ty i) (HasConstantValues c.model)
  judged-constant ty (Value v) = value-constant ty v
  judged-constant ty (Bytes bytes) = tt
  judged-constant ty (Parts parts) = part-constant ty (Parts parts)

  -- the initializer of a file-scope object is constant
  pub initial-constant : (literals : Literals) (ty : Shape) (raw : RawInitial)
      → IfFine (initial_typed c literals InFile at ty raw) (λ (r : Reading). HasConstantValues c.model r.0)
  initial-constant literals ty raw =
      cond-then (λ (r : Reading). HasConstantValues c.model r.0) (has_form c.table.list InFile ty raw) _ _
      (λ _.
      lift-then (λ _. Unit {0}) (λ (r : Reading). HasConstantValues c.model r.0) _ (whole_read c literals InFile at ty raw)
      (if_fine-any (whole_read c literals InFile at ty raw))
      (λ r _. lift-then (HasConstantValues c.model) (λ (r : Reading). HasConstantValues c.model r.0) (kept_with r.1) _ (judged-constant ty r.0)
      (λ found h. h)))
      (λ _. tt)

pub file_initials_are_constant : FileInitialsAreConstant
file_initials_are_constant c literals following at ty raw found is =
    if_fine-at (λ (r : Reading). HasConstantValues c.model r.0) (initial_typed c literals InFile at ty raw) (found, following)
    (initial-constant c at literals ty raw) is
