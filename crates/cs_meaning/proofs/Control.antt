-- Samples of statements, calls and budgets.
use Rattle.std.proofs.Common.{pos, [], ◌∷◌, Some, None, true, false, refl}
use Rattle.cs_ast.specs.declared.typed.operator.BinOp.TheVariants.{Add, Sub}
use Rattle.cs_ast.specs.declared.typed.operator.CmpOp.TheVariants.{Less, AtMost, Equal}
use Rattle.cs_ast.specs.TypedTree.{Of, Binary, Compare, Assign, Call, Value, Block, Declare, Run, If, Do, Switch, Goto, Label, Break, Continue, Return}
use Rattle.cs_ast.specs.TypedProgram.{TypedProgram}
use Rattle.cs_model.specs.declared.kind.Kind.TheVariants as kind
use Rattle.cs_events.specs.declared.event.Label.TheVariants.{Truth, Branch, Case as CaseOf, Wrap, Callee}
use Rattle.cs_events.specs.declared.event.Wrap.TheVariants.{Same}
use Rattle.cs_events.specs.declared.outcome.Outcome.TheVariants.{Done, Fault, Over}
use Rattle.cs_events.specs.declared.outcome.Budget.TheVariants.{Visits, Depth, Events}
use Rattle.cs_events.specs.declared.outcome.Returned.TheVariants as returned
use Rattle.cs_events.specs.Runs as runs
use Rattle.cs_meaning.specs.ProgramRuns.{RunEnds}
use Rattle.cs_meaning.proofs.Building.{at, int, literal, local, value, row, sequence, named, defined, functions, given, event, USUAL, plain, ends_so}

-- int f(int n){int i=0;again:if(i<n){i=i+1;goto again;}return i;}
abbrev jumps_back : TypedProgram
jumps_back = functions (defined 5 int 1 (named 110 int ∷ (named 105 int ∷ [])) 63 (
    Declare (at 19) 1 (Some (Value (literal 20 0))) ∷ (
    Label (at 22) 0 (If (at 28) (Of (at 32) int (Compare Less (value 31 int 1) (value 33 int 0))) (Block (at 35) (sequence (
    Run (at 36) (Of (at 37) int (Assign (local 36 int 1) (Of (at 39) int (Binary Add (value 38 int 1) (literal 40 1))))) ∷ (
    Goto (at 42) 0 ∷ []))))) ∷ (
    Return (at 54) (Some (value 61 int 1)) ∷ []))) ∷ [])

jumps_back_three_times : RunEnds jumps_back 0 (plain (given 110 (pos 3) ∷ [])) USUAL
    (event 32 (Truth true) ∷ event 28 (Branch true) ∷ event 39 (Wrap Same) ∷ event 32 (Truth true) ∷ event 28 (Branch true) ∷ event 39 (Wrap Same)
    ∷ event 32 (Truth true) ∷ event 28 (Branch true) ∷ event 39 (Wrap Same) ∷ event 32 (Truth false) ∷ event 28 (Branch false)
    ∷ []) (Done (returned.Number (pos 3)))
unfolding runs.perform
jumps_back_three_times = ends_so jumps_back 0 (plain (given 110 (pos 3) ∷ [])) USUAL 140 refl

reaches_a_label_too_often : RunEnds jumps_back 0 (plain (given 110 (pos 4) ∷ [])) USUAL
    (event 32 (Truth true) ∷ event 28 (Branch true) ∷ event 39 (Wrap Same) ∷ event 32 (Truth true) ∷ event 28 (Branch true) ∷ event 39 (Wrap Same)
    ∷ event 32 (Truth true) ∷ event 28 (Branch true) ∷ event 39 (Wrap Same) ∷ event 32 (Truth true) ∷ event 28 (Branch true) ∷ event 39 (Wrap Same)
    ∷ []) (Over Visits (at 22))
unfolding runs.perform
reaches_a_label_too_often = ends_so jumps_back 0 (plain (given 110 (pos 4) ∷ [])) USUAL 140 refl

-- int f(int x){int s=0;switch(x){case 3:s=1;case 4:s=s+2;break;default:s=9;}return s;}
abbrev switches : TypedProgram
switches = functions (defined 5 int 1 (named 120 int ∷ (named 115 int ∷ [])) 84 (
    Declare (at 19) 1 (Some (Value (literal 20 0))) ∷ (
    Switch (at 22) (value 29 int 0)
    (record { value = Some (pos 3); item = 0 } ∷ (record { value = Some (pos 4); item = 1 } ∷ (record { value = None; item = 3 } ∷ [])))
    (sequence (
    Run (at 39) (Of (at 40) int (Assign (local 39 int 1) (literal 41 1))) ∷ (
    Run (at 50) (Of (at 51) int (Assign (local 50 int 1) (Of (at 53) int (Binary Add (value 52 int 1) (literal 54 2))))) ∷ (
    Break (at 56) ∷ (
    Run (at 70) (Of (at 71) int (Assign (local 70 int 1) (literal 72 9))) ∷ []))))) ∷ (
    Return (at 75) (Some (value 82 int 1)) ∷ []))) ∷ [])

-- a case falls through to the next one, up to a `break`
falls_through : RunEnds switches 0 (plain (given 120 (pos 3) ∷ [])) USUAL (event 22 (CaseOf 0) ∷ event 53 (Wrap Same) ∷ [])
    (Done (returned.Number (pos 3)))
unfolding runs.perform
falls_through = ends_so switches 0 (plain (given 120 (pos 3) ∷ [])) USUAL 80 refl

takes_the_second_case : RunEnds switches 0 (plain (given 120 (pos 4) ∷ [])) USUAL (event 22 (CaseOf 1) ∷ event 53 (Wrap Same) ∷ [])
    (Done (returned.Number (pos 2)))
unfolding runs.perform
takes_the_second_case = ends_so switches 0 (plain (given 120 (pos 4) ∷ [])) USUAL 80 refl

takes_the_default : RunEnds switches 0 (plain (given 120 (pos 5) ∷ [])) USUAL (event 22 (CaseOf 2) ∷ []) (Done (returned.Number (pos 9)))
unfolding runs.perform
takes_the_default = ends_so switches 0 (plain (given 120 (pos 5) ∷ [])) USUAL 80 refl

-- int f(int n){int s=0;do{n=n-1;if(n==1)continue;s=s+n;}while(n);return s;}
abbrev counts_down : TypedProgram
counts_down = functions (defined 5 int 1 (named 110 int ∷ (named 115 int ∷ [])) 75 (
    Declare (at 19) 1 (Some (Value (literal 20 0))) ∷ (
    Do (at 22) (Block (at 24) (sequence (
    Run (at 25) (Of (at 26) int (Assign (local 25 int 0) (Of (at 28) int (Binary Sub (value 27 int 0) (literal 29 1))))) ∷ (
    If (at 31) (Of (at 35) int (Compare Equal (value 34 int 0) (literal 37 1))) (Continue (at 39)) ∷ (
    Run (at 48) (Of (at 49) int (Assign (local 48 int 1) (Of (at 51) int (Binary Add (value 50 int 1) (value 52 int 0))))) ∷ []))))) (value 62 int 0) ∷ (
    Return (at 66) (Some (value 73 int 1)) ∷ []))) ∷ [])

continues_with_the_test : RunEnds counts_down 0 (plain (given 110 (pos 3) ∷ [])) USUAL
    (event 28 (Wrap Same) ∷ event 35 (Truth false) ∷ event 31 (Branch false) ∷ event 51 (Wrap Same) ∷ event 22 (Branch true) ∷ event 28 (Wrap Same)
    ∷ event 35 (Truth true) ∷ event 31 (Branch true) ∷ event 22 (Branch true) ∷ event 28 (Wrap Same) ∷ event 35 (Truth false)
    ∷ event 31 (Branch false) ∷ event 51 (Wrap Same) ∷ event 22 (Branch false) ∷ []) (Done (returned.Number (pos 2)))
unfolding runs.perform
continues_with_the_test = ends_so counts_down 0 (plain (given 110 (pos 3) ∷ [])) USUAL 160 refl

-- int f(int n){if(n<=0)return 0;return f(n-1);}
abbrev calls_itself : TypedProgram
calls_itself = functions (defined 5 int 1 (named 110 int ∷ []) 45 (
    If (at 14) (Of (at 18) int (Compare AtMost (value 17 int 0) (literal 20 0))) (Return (at 22) (Some (literal 29 0))) ∷ (
    Return (at 31) (Some (Of (at 39) int (Call 0 (row (Of (at 41) int (Binary Sub (value 40 int 0) (literal 42 1)) ∷ []))))) ∷ [])) ∷ [])

calls_too_deep : RunEnds calls_itself 0 (plain (given 110 (pos 5) ∷ [])) USUAL
    (event 18 (Truth false) ∷ event 14 (Branch false) ∷ event 41 (Wrap Same) ∷ event 39 (Callee 0) ∷ event 18 (Truth false) ∷ event 14 (Branch false)
    ∷ event 41 (Wrap Same) ∷ event 39 (Callee 0) ∷ event 18 (Truth false) ∷ event 14 (Branch false) ∷ event 41 (Wrap Same) ∷ event 39 (Callee 0)
    ∷ event 18 (Truth false) ∷ event 14 (Branch false) ∷ event 41 (Wrap Same) ∷ event 39 (Callee 0) ∷ event 18 (Truth false)
    ∷ event 14 (Branch false) ∷ event 41 (Wrap Same) ∷ []) (Over Depth (at 39))
unfolding runs.perform
calls_too_deep = ends_so calls_itself 0 (plain (given 110 (pos 5) ∷ [])) USUAL 200 refl

calls_deep_enough : RunEnds calls_itself 0 (plain (given 110 (pos 5) ∷ [])) (record { visits = 4; depth = 6; events = 20000 })
    (event 18 (Truth false) ∷ event 14 (Branch false) ∷ event 41 (Wrap Same) ∷ event 39 (Callee 0) ∷ event 18 (Truth false) ∷ event 14 (Branch false)
    ∷ event 41 (Wrap Same) ∷ event 39 (Callee 0) ∷ event 18 (Truth false) ∷ event 14 (Branch false) ∷ event 41 (Wrap Same) ∷ event 39 (Callee 0)
    ∷ event 18 (Truth false) ∷ event 14 (Branch false) ∷ event 41 (Wrap Same) ∷ event 39 (Callee 0) ∷ event 18 (Truth false)
    ∷ event 14 (Branch false) ∷ event 41 (Wrap Same) ∷ event 39 (Callee 0) ∷ event 18 (Truth true) ∷ event 14 (Branch true)
    ∷ []) (Done (returned.Number (pos 0)))
unfolding runs.perform
calls_deep_enough = ends_so calls_itself 0 (plain (given 110 (pos 5) ∷ [])) (record { visits = 4; depth = 6; events = 20000 }) 260 refl

-- int g(void){}int f(void){return g();}
abbrev falls_off_the_end : TypedProgram
falls_off_the_end = functions (defined 5 int 0 [] 13 [] ∷ (defined 18 int 0 [] 37 (Return (at 26) (Some (Of (at 34) int (Call 0 (row [])))) ∷ []) ∷ []))

uses_an_unset_result : RunEnds falls_off_the_end 1 (plain []) USUAL (event 34 (Callee 0) ∷ []) (Fault kind.Unset (at 34))
unfolding runs.perform
uses_an_unset_result = ends_so falls_off_the_end 1 (plain []) USUAL 40 refl

returns_unset : RunEnds falls_off_the_end 0 (plain []) USUAL ([]) (Done returned.Unset)
unfolding runs.perform
returns_unset = ends_so falls_off_the_end 0 (plain []) USUAL 40 refl

-- int f(void){return 1+1+1;}
abbrev adds : TypedProgram
adds =
    functions (defined 5 int 0 [] 26
    (Return (at 13) (Some (Of (at 23) int (Binary Add (Of (at 21) int (Binary Add (literal 20 1) (literal 22 1))) (literal 24 1)))) ∷ []) ∷ [])

passes_too_many_events : RunEnds adds 0 (plain []) (record { visits = 4; depth = 5; events = 1 }) (event 21 (Wrap Same) ∷ []) (Over Events (at 23))
unfolding runs.perform
passes_too_many_events = ends_so adds 0 (plain []) (record { visits = 4; depth = 5; events = 1 }) 40 refl
