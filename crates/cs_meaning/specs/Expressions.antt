-- The evaluation of expressions (C11 6.5): the operands, in file order, and then the operation on them.
use Rattle.std.specs.Prelude.{ℕ, ◌+◌, ℤ, pos, Bool, true, false, not, List, ◌∷◌, if◌then◌else◌}
use Rattle.cs_types.specs.Shape.{Shape, void, integer}
use Rattle.cs_ast.specs.declared.place.Place.{Place}
use Rattle.cs_ast.specs.declared.typed.operator.Order.{Order}
use Rattle.cs_ast.specs.declared.typed.operator.Order.TheVariants.{PointerFirst, AmountFirst}
use Rattle.cs_ast.specs.declared.typed.operator.Gives.{Gives}
use Rattle.cs_ast.specs.declared.typed.operator.Gives.TheVariants.{Old, New}
use Rattle.cs_ast.specs.TypedTree.{Typed, Of, Form, Number, Null, Text, Local, Global, Through, Index, Member, Arrow, Load, Address, Decay, Convert, Unary, Not}
use Rattle.cs_ast.specs.TypedTree.{Binary, Compare, Sum, Difference, And, Or, Choice, Comma, Assign, Update, Move, Call, Allocate, Free, TypedList, NoMore}
use Rattle.cs_ast.specs.TypedTree.{Further}
use Rattle.cs_ast.specs.TypedProgram.{TypedProgram}
use Rattle.cs_events.specs.declared.event.Label.TheVariants as label
use Rattle.cs_events.specs.declared.operation.Operation.TheVariants as operation
use Rattle.cs_events.specs.declared.outcome.RunBudgets.{RunBudgets}
use Rattle.cs_events.specs.Objects.{GlobalObject, LiteralObject, LocalObject, Cell, NumberCell, NullCell, PointerCell}
use Rattle.cs_events.specs.Acts.{Act, Goes, Asks}
use Rattle.cs_meaning.specs.Types.{size_of, type_of, target_of, integer_of}
use Rattle.cs_meaning.specs.Initials.{number_in, truth_cell, further, directed}
use Rattle.cs_meaning.specs.Access.{Access, access_of, shows_then, set_then, load, store_object}
use Rattle.cs_meaning.specs.Operators.{truth, branch, operate, convert_number, convert, sum, compare, difference, arrow}
use Rattle.cs_meaning.specs.Calls.{call, allocate, release}
use Rattle.cs_meaning.specs.Machine.{Operand, Scalar, Item, Evaluate, EvaluateUnused, Act as Acting, Fetch, Choose, Judge, Use, Drop, Running, State, to_do}
use Rattle.cs_meaning.specs.Machine.{push, push_cell, pop, pop_many, with_memory, operand_at, cell_of, cell_at}

-- several expressions, evaluated from the first on
abbrev pub evaluates_all : TypedList → List Item → List Item
evaluates_all NoMore following = following
evaluates_all (Further first others) following = Evaluate first ∷ evaluates_all others following

abbrev pub count_all : TypedList → ℕ
count_all NoMore = 0
count_all (Further first others) = count_all others + 1

-- a pointer and an amount, in file order
abbrev pub evaluates_both : Typed → Typed → Order → List Item → List Item
evaluates_both one amount PointerFirst following = Evaluate one ∷ (Evaluate amount ∷ following)
evaluates_both one amount AmountFirst following = Evaluate amount ∷ (Evaluate one ∷ following)

-- the operand of a conversion; in one to `void`, its value isn't used
abbrev pub evaluates_operand : Shape → Typed → List Item → List Item
evaluates_operand void a following = EvaluateUnused a ∷ following
evaluates_operand other a following = Evaluate a ∷ following

-- the operands of an expression and its operation on them, before the other things to do
abbrev pub evaluates_form : Typed → Shape → Form → List Item → List Item
evaluates_form e ty (Number n) following = Acting e ∷ following
evaluates_form e ty Null following = Acting e ∷ following
evaluates_form e ty (Text literal) following = Acting e ∷ following
evaluates_form e ty (Local declaration) following = Acting e ∷ following
evaluates_form e ty (Global global) following = Acting e ∷ following
evaluates_form e ty (Through a) following = Evaluate a ∷ following
evaluates_form e ty (Index a i order) following = evaluates_both a i order (Acting e ∷ following)
evaluates_form e ty (Member a offset) following = Evaluate a ∷ (Acting e ∷ following)
evaluates_form e ty (Arrow a offset) following = Evaluate a ∷ (Acting e ∷ following)
evaluates_form e ty (Load a) following = Evaluate a ∷ (Acting e ∷ following)
evaluates_form e ty (Address a) following = Evaluate a ∷ following
evaluates_form e ty (Decay a) following = Evaluate a ∷ following
evaluates_form e ty (Convert a) following = evaluates_operand ty a (Acting e ∷ following)
evaluates_form e ty (Unary op a) following = Evaluate a ∷ (Acting e ∷ following)
evaluates_form e ty (Not a) following = Evaluate a ∷ (Acting e ∷ following)
evaluates_form e ty (Binary op a b) following = Evaluate a ∷ (Evaluate b ∷ (Acting e ∷ following))
evaluates_form e ty (Compare op a b) following = Evaluate a ∷ (Evaluate b ∷ (Acting e ∷ following))
evaluates_form e ty (Sum a n direction order) following = evaluates_both a n order (Acting e ∷ following)
evaluates_form e ty (Difference a b) following = Evaluate a ∷ (Evaluate b ∷ (Acting e ∷ following))
evaluates_form e ty (And a b) following = Evaluate a ∷ (Choose e ∷ following)
evaluates_form e ty (Or a b) following = Evaluate a ∷ (Choose e ∷ following)
evaluates_form e ty (Choice a b c) following = Evaluate a ∷ (Choose e ∷ following)
evaluates_form e ty (Comma a b) following = EvaluateUnused a ∷ (Drop ∷ (Evaluate b ∷ following))
evaluates_form e ty (Assign a b) following = Evaluate a ∷ (Evaluate b ∷ (Acting e ∷ following))
evaluates_form e ty (Update op a b works_in gives) following = Evaluate a ∷ (Fetch e ∷ (Evaluate b ∷ (Acting e ∷ following)))
evaluates_form e ty (Move a n direction gives) following = Evaluate a ∷ (Fetch e ∷ (Evaluate n ∷ (Acting e ∷ following)))
evaluates_form e ty (Call function arguments) following = evaluates_all arguments (Acting e ∷ following)
evaluates_form e ty (Allocate allocator arguments element) following = evaluates_all arguments (Acting e ∷ following)
evaluates_form e ty (Free a) following = Evaluate a ∷ (Acting e ∷ following)

abbrev pub evaluates : Typed → List Item → List Item
evaluates (Of at ty form) following = evaluates_form (Of at ty form) ty form following

-- a check that the result of a call, if the expression is one, was set; other values need no check
abbrev pub uses : Typed → List Item → List Item
uses (Of at ty (Call function arguments)) following = Use at ∷ following
uses other following = following

-- the ages of a pointer and an amount, by their order of evaluation
abbrev pub pointer_age : Order → ℕ
pointer_age PointerFirst = 1
pointer_age AmountFirst = 0

abbrev pub amount_age : Order → ℕ
amount_age PointerFirst = 0
amount_age AmountFirst = 1

-- the value of an update: the old one or the new one
abbrev pub given : Gives → Operand → Operand → Operand
given Old before after = before
given New before after = after

-- the number of an operand by its age
abbrev pub number_at : {Rest : Type 0} → Running Rest → ℕ → ℤ
number_at m age = number_in (cell_at m age)

-- a store to the object that an expression designates, whose lvalue is the operand of this age; then a value replaces `count` operands
abbrev pub stores_to : {Rest : Type 0} → TypedProgram → Place → Access → ℕ → Operand → ℕ → Operand → Running Rest → Act (Running Rest)
stores_to program at object age operand count left m =
    store_object program m.memory m.frame.number at object (cell_at m age) operand (λ memory. Goes (push left (with_memory memory (pop_many count m))))

abbrev pub stores : TypedProgram → Place → Typed → ℕ → Operand → ℕ → Operand → State → Act State
stores program at a age operand count left m = stores_to program at (access_of a) age operand count left m

-- an update of a number: the operands are the lvalue, the old value, the same converted, and the right operand
abbrev pub updates : TypedProgram → Place → Typed → Gives → ℤ → State → Act State
updates program at a gives number m = stores program at a 3 (Scalar (NumberCell number)) 4 (given gives (operand_at m 2) (Scalar (NumberCell number))) m

-- an update of a pointer: the operands are the lvalue, the old value, and the amount
abbrev pub moves : TypedProgram → Place → Typed → Gives → Cell → State → Act State
moves program at a gives cell m = stores program at a 2 (Scalar cell) 3 (given gives (operand_at m 1) (Scalar cell)) m

-- the operation of an expression on its operands, which are on the stack
abbrev pub act_form : TypedProgram → RunBudgets → Place → Shape → Form → State → Act State
act_form program budgets at ty (Number n) m = Goes (push_cell (NumberCell n) m)
act_form program budgets at ty Null m = Goes (push_cell NullCell m)
act_form program budgets at ty (Text literal) m = Goes (push_cell (PointerCell (LiteralObject literal) (pos 0)) m)
act_form program budgets at ty (Local declaration) m = Goes (push_cell (PointerCell (LocalObject m.frame.number declaration) (pos 0)) m)
act_form program budgets at ty (Global global) m = Goes (push_cell (PointerCell (GlobalObject global) (pos 0)) m)
act_form program budgets at ty (Index a i order) m =
    sum program.model at (cell_at m (pointer_age order)) (number_at m (amount_age order)) (size_of program ty) (λ cell. Goes (push_cell cell (pop_many 2 m)))
act_form program budgets at ty (Member a offset) m = Goes (push_cell (further (cell_at m 0) offset) (pop m))
act_form program budgets at ty (Arrow a offset) m = arrow at (cell_at m 0) offset (λ cell. Goes (push_cell cell (pop m)))
act_form program budgets at ty (Load a) m =
    load program m.memory m.frame.number a (cell_at m 0) (λ memory operand. Goes (push operand (with_memory memory (pop m))))
act_form program budgets at ty (Convert a) m = convert program.model at (type_of a) ty (operand_at m 0) (λ operand. Goes (push operand (pop m)))
act_form program budgets at ty (Unary op a) m =
    Asks at (operation.Unary op (integer_of ty) (number_at m 0)) (λ number. Goes (push_cell (NumberCell number) (pop m)))
act_form program budgets at ty (Not a) m =
    truth at (cell_at m 0) (λ holds. shows_then at (label.Truth (not holds)) (Goes (push_cell (truth_cell (not holds)) (pop m))))
act_form program budgets at ty (Binary op a b) m =
    operate program.model at op (integer_of ty) (number_at m 1) (number_at m 0) (λ number. Goes (push_cell (NumberCell number) (pop_many 2 m)))
act_form program budgets at ty (Compare op a b) m = compare at op (cell_at m 1) (cell_at m 0) (λ number. Goes (push_cell (NumberCell number) (pop_many 2 m)))
act_form program budgets at ty (Sum a n direction order) m =
    sum program.model at (cell_at m (pointer_age order)) (directed direction (number_at m (amount_age order))) (size_of program (target_of ty))
    (λ cell. Goes (push_cell cell (pop_many 2 m)))
act_form program budgets at ty (Difference a b) m =
    difference at (cell_at m 1) (cell_at m 0) (size_of program (target_of (type_of a))) (λ number. Goes (push_cell (NumberCell number) (pop_many 2 m)))
act_form program budgets at ty (Assign a b) m = stores program at a 1 (operand_at m 0) 2 (operand_at m 0) m
act_form program budgets at ty (Update op a b works_in gives) m =
    operate program.model at op works_in (number_at m 1) (number_at m 0) (λ number.
    convert_number program.model at (integer works_in) (integer_of (type_of a)) number (λ stored. updates program at a gives stored m))
act_form program budgets at ty (Move a n direction gives) m =
    sum program.model at (cell_at m 1) (directed direction (number_at m 0)) (size_of program (target_of (type_of a))) (λ cell. moves program at a gives cell m)
act_form program budgets at ty (Call function arguments) m = call program budgets at function (count_all arguments) m
act_form program budgets at ty (Allocate allocator arguments element) m = allocate program at allocator element m
act_form program budgets at ty (Free a) m = release at (cell_at m 0) (pop m)
act_form program budgets at ty other m = Goes m

abbrev pub act : TypedProgram → RunBudgets → Typed → State → Act State
act program budgets (Of at ty form) m = act_form program budgets at ty form m

-- the load of an update; the lvalue stays below the value; a number is converted to the operator's type
abbrev pub fetch_form : TypedProgram → Place → Form → State → Act State
fetch_form program at (Update op a b works_in gives) m =
    load program m.memory m.frame.number a (cell_at m 0) (λ memory operand.
    convert_number program.model at (type_of a) works_in (number_in (cell_of operand)) (λ number.
    Goes (push_cell (NumberCell number) (push operand (with_memory memory m)))))
fetch_form program at (Move a n direction gives) m =
    load program m.memory m.frame.number a (cell_at m 0) (λ memory operand. Goes (push operand (with_memory memory m)))
fetch_form program at other m = Goes m

abbrev pub fetch : TypedProgram → Typed → State → Act State
fetch program (Of at ty form) m = fetch_form program at form m

-- the second operand is evaluated, and becomes a truth value, if it is needed; else the value is known
abbrev pub goes_on_to : Bool → Place → Typed → Bool → State → State
goes_on_to true at b known m = to_do (Evaluate b ∷ (Judge at ∷ m.frame.todo)) m
goes_on_to false at b known m = push_cell (truth_cell known) m

-- the expression that is evaluated after a test
abbrev pub goes_to : Typed → State → State
goes_to e m = to_do (Evaluate e ∷ m.frame.todo) m

-- the branch that the first operand selects (C11 6.5.13 to 6.5.15)
abbrev pub choose_form : Place → Form → State → Act State
choose_form at (And a b) m = branch at (cell_at m 0) (λ holds. Goes (goes_on_to holds at b false (pop m)))
choose_form at (Or a b) m = branch at (cell_at m 0) (λ holds. Goes (goes_on_to (not holds) at b true (pop m)))
choose_form at (Choice a b c) m = branch at (cell_at m 0) (λ holds. Goes (goes_to (if holds then b else c) (pop m)))
choose_form at other m = Goes m

abbrev pub choose : Typed → State → Act State
choose (Of at ty form) m = choose_form at form m

-- the right operand of `&&` or `||`: its truth value shows, and is the result
abbrev pub judge : {Rest : Type 0} → Place → Running Rest → Act (Running Rest)
judge at m = truth at (cell_at m 0) (λ holds. shows_then at (label.Truth holds) (Goes (push_cell (truth_cell holds) (pop m))))

-- the result of a call that is used must have been set (C11 6.9.1, paragraph 12)
abbrev pub use_result : {Rest : Type 0} → Place → Operand → Running Rest → Act (Running Rest)
use_result at (Scalar cell) m = set_then at cell (Goes m)
use_result at other m = Goes m
