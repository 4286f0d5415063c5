-- Arguments and bounds within written trees as lists: for the calls and sizes in the cycle of typing.
use Rattle.std.proofs.Common.{◌≡◌, suc, List, [], ◌∷◌, Option, Some, None, length, refl, sym, ap, ◌∙◌, Vec, Global}
use mathlib.Core.Former.{Count}
use Rattle.cs_types.specs.Shape.{Shape}
use Rattle.cs_ast.specs.declared.place.Place.{Place}
use Rattle.cs_ast.specs.declared.raw.written_type.WrittenType.{WrittenType}
use Rattle.cs_ast.specs.declared.raw.expression.RawExpr.{RawExpr}
use Rattle.cs_ast.specs.declared.raw.expression.RawExprKind.{RawExprKind, Row_of-RawExpr, end_of-RawExpr, more_of-RawExpr, items-the_row-RawExpr}
use Rattle.cs_ast.specs.declared.raw.expression.RawExprKind.{items_hidden-the_row-RawExpr-0}
use Rattle.cs_ast.specs.declared.raw.expression.RawExprKind.TheVariants as kind
use Rattle.cs_scopes.specs.declared.context.Context.{Context}
use Rattle.cs_consts.specs.declared.purpose.Purpose.{Purpose}
use Rattle.cs_consts.specs.declared.purpose.Purpose.TheVariants.{Constant}
use Rattle.cs_scopes.specs.Verdicts.{lift2}
use Rattle.cs_scopes.specs.Faults.{least_code}
use Rattle.cs_expressions.specs.Calls.{called, parameters_of}
use Rattle.cs_expressions.specs.Primary.{Literals}
use Rattle.cs_consts.specs.Typing.{literals_after, literals_past, literals_after_row, literals_after_list, row_length, formed, done, operand_in, further}
use Rattle.cs_consts.specs.Typing.{arguments_formed, arguments_listed, passing_fault, arguments_fault, arguments_listed_fault, bound_number, bound_taken}
use Rattle.cs_consts.specs.Typing.{numbers_formed, numbers_listed, bounds_formed, bounds_listed, call_or_not, call_formed, cast_formed, measured_type_name}
use Rattle.cs_consts.specs.Typing.{base_in}

literals-row : (ls : Literals) (n : _) (row : Row_of-RawExpr n) → literals_after_list ls (items-the_row-RawExpr n row) ≡ literals_after_row ls row
literals-row ls n end_of-RawExpr = refl
literals-row ls n (more_of-RawExpr place p k rest) = literals-row (literals_after ls k) _ rest

length-row : (n : _) (row : Row_of-RawExpr n) → length (items-the_row-RawExpr n row) ≡ row_length row
length-row n end_of-RawExpr = refl
length-row n (more_of-RawExpr place p k rest) = ap suc (length-row _ rest)

arguments-row : (c : Context) (p : Purpose) (ls : Literals) (types : List Shape) (n : _) (row : Row_of-RawExpr n)
    → arguments_listed c p ls types (items-the_row-RawExpr n row) ≡ arguments_formed c p ls types row
arguments-row c p ls types n end_of-RawExpr = refl
arguments-row c p ls [] n (more_of-RawExpr place q k rest) = refl
arguments-row c p ls (ty ∷ types) n (more_of-RawExpr place q k rest) = ap (lift2 further _) (arguments-row c p (literals_after ls k) types _ rest)

faults-row : (c : Context) (p : Purpose) (ls : Literals) (at : Place) (types : List Shape) (n : _) (row : Row_of-RawExpr n)
    → arguments_listed_fault c p ls at types (items-the_row-RawExpr n row) ≡ arguments_fault c p ls at types row
faults-row c p ls at types n end_of-RawExpr = refl
faults-row c p ls at [] n (more_of-RawExpr place q k rest) = refl
faults-row c p ls at (ty ∷ types) n (more_of-RawExpr place q k rest) =
    let value = operand_in c p (formed c p ls (Some ty) place k) in
    ap (least_code (passing_fault c at ty value)) (faults-row c p (literals_past value (literals_after ls k)) at types _ rest)

numbers-row : (c : Context) (ls : Literals) (n : _) (row : Row_of-RawExpr n) → numbers_listed c ls (items-the_row-RawExpr n row) ≡ numbers_formed c ls row
numbers-row c ls n end_of-RawExpr = refl
numbers-row c ls n (more_of-RawExpr place p k rest) =
    let bound = done c Constant (formed c Constant ls None place k) in
    ap (λ ns. bound_number bound ∷ ns) (numbers-row c (literals_past bound (literals_after ls k)) _ rest)

bounds-row : (c : Context) (ls : Literals) (n : _) (row : Row_of-RawExpr n) → bounds_listed c ls (items-the_row-RawExpr n row) ≡ bounds_formed c ls row
bounds-row c ls n end_of-RawExpr = refl
bounds-row c ls n (more_of-RawExpr place p k rest) = ap (lift2 bound_taken _) (bounds-row c (literals_after ls k) _ rest)

-- the arguments or bounds of an expression as a row
abbrev row_of : RawExprKind → (n : Count) × Row_of-RawExpr n
row_of (kind.Call' place p function shape row) = (_, row)
row_of (kind.SizeOfType' ty shape row) = (_, row)
row_of (kind.Cast' ty shape row place p operand) = (_, row)
row_of _ = (_, end_of-RawExpr)

pub formed-Call : (c : Context) (p : Purpose) (ls : Literals) (target : Option Shape) (at : Place) (function : RawExpr) (arguments : Vec RawExpr Global)
    → formed c p ls target at (kind.Call function arguments) ≡ call_formed c p ls target at function arguments.items
formed-Call c p ls target at function arguments =
    let row = row_of (kind.Call function arguments) in
    let same = items_hidden-the_row-RawExpr-0 arguments in
    let callee = operand_in c p (formed c p ls None function.place function.kind.value) in
    let found = called c.scope.declarations function.kind.value in
    let types = parameters_of found in
    ap (λ n. call_or_not c at target found n callee (arguments_fault c p ls at types row.1) (arguments_formed c p ls types row.1))
    (sym (length-row row.0 row.1) ∙ ap length same)
    ∙ ap (λ fault. call_or_not c at target found (length arguments.items) callee fault (arguments_formed c p ls types row.1))
    (sym (faults-row c p ls at types row.0 row.1) ∙ ap (arguments_listed_fault c p ls at types) same)
    ∙ ap (call_or_not c at target found (length arguments.items) callee (arguments_listed_fault c p ls at types arguments.items))
    (sym (arguments-row c p ls types row.0 row.1) ∙ ap (arguments_listed c p ls types) same)

pub literals-Call : (ls : Literals) (function : RawExpr) (arguments : Vec RawExpr Global)
    → literals_after ls (kind.Call function arguments) ≡ literals_after_list ls arguments.items
literals-Call ls function arguments =
    let row = row_of (kind.Call function arguments) in
    sym (literals-row ls row.0 row.1) ∙ ap (literals_after_list ls) (items_hidden-the_row-RawExpr-0 arguments)

pub formed-SizeOfType : (c : Context) (p : Purpose) (ls : Literals) (target : Option Shape) (at : Place) (ty : WrittenType) (bounds : Vec RawExpr Global)
    → formed c p ls target at (kind.SizeOfType ty bounds)
    ≡ measured_type_name c at (base_in c at ty) (numbers_listed c ls bounds.items) (bounds_listed c ls bounds.items)
formed-SizeOfType c p ls target at ty bounds =
    let row = row_of (kind.SizeOfType ty bounds) in
    let same = items_hidden-the_row-RawExpr-0 bounds in
    ap (λ ns. measured_type_name c at (base_in c at ty) ns (bounds_formed c ls row.1)) (sym (numbers-row c ls row.0 row.1) ∙ ap (numbers_listed c ls) same)
    ∙ ap (measured_type_name c at (base_in c at ty) (numbers_listed c ls bounds.items)) (sym (bounds-row c ls row.0 row.1) ∙ ap (bounds_listed c ls) same)

pub literals-SizeOfType : (ls : Literals) (ty : WrittenType) (bounds : Vec RawExpr Global)
    → literals_after ls (kind.SizeOfType ty bounds) ≡ literals_after_list ls bounds.items
literals-SizeOfType ls ty bounds =
    let row = row_of (kind.SizeOfType ty bounds) in
    sym (literals-row ls row.0 row.1) ∙ ap (literals_after_list ls) (items_hidden-the_row-RawExpr-0 bounds)

pub formed-Cast : (c : Context) (p : Purpose) (ls : Literals) (target : Option Shape) (at : Place) (ty : WrittenType) (bounds : Vec RawExpr Global)
    (operand : RawExpr) → formed c p ls target at (kind.Cast ty bounds operand) ≡ cast_formed c p ls at ty (length bounds.items) operand
formed-Cast c p ls target at ty bounds operand =
    let row = row_of (kind.Cast ty bounds operand) in
    ap (λ n. cast_formed c p ls at ty n operand) (sym (length-row row.0 row.1) ∙ ap length (items_hidden-the_row-RawExpr-0 bounds))
