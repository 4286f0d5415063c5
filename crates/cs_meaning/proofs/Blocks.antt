-- Samples of blocks, locals, allocations and releases.
use Rattle.std.proofs.Common.{ℕ, pos, List, [], ◌∷◌, Some, None, Bool, true, false, refl}
use Rattle.cs_types.specs.declared.int_type.IntType.TheVariants.{Int, ULong}
use Rattle.cs_types.specs.Shape.{void, integer, pointer, array, struct}
use Rattle.cs_types.specs.declared.structs.StructType.{StructType}
use Rattle.cs_inputs.specs.declared.path.Root.TheVariants as root
use Rattle.cs_ast.specs.declared.typed.operator.BinOp.TheVariants.{Div}
use Rattle.cs_ast.specs.declared.typed.operator.Order.TheVariants.{PointerFirst}
use Rattle.cs_ast.specs.declared.typed.operator.Allocator.TheVariants.{Malloc, Calloc}
use Rattle.cs_ast.specs.TypedTree.{Of, Global, Index, Through, Member, Address, Decay, Convert, Not, Binary, Assign, Call, Allocate, Free, Value, Parts, NoPart}
use Rattle.cs_ast.specs.TypedTree.{Part, Declare, Run, If, Return}
use Rattle.cs_ast.specs.TypedProgram.{TypedProgram}
use Rattle.cs_model.specs.declared.kind.Kind.TheVariants as kind
use Rattle.cs_events.specs.declared.event.Label.TheVariants.{Truth, Branch, Wrap, Look, Offset, Callee, Alloc}
use Rattle.cs_events.specs.declared.event.Wrap.TheVariants.{Same}
use Rattle.cs_events.specs.declared.outcome.Outcome.TheVariants.{Done, Fault}
use Rattle.cs_events.specs.declared.outcome.Returned.TheVariants as returned
use Rattle.cs_events.specs.Runs as runs
use Rattle.cs_meaning.specs.ProgramRuns.{RunEnds}
use Rattle.cs_meaning.proofs.Building.{at, int, to_int, literal, local, loaded, value, row, named, defined, declared, functions, given, input, event, USUAL}
use Rattle.cs_meaning.proofs.Building.{plain, ends_so}

-- void f(int*p){free(p);free(p);}
abbrev frees_twice : TypedProgram
frees_twice =
    functions (defined 6 void 1 (named 112 to_int ∷ []) 31
    (Run (at 15) (Of (at 19) void (Free (value 20 to_int 0))) ∷ (Run (at 23) (Of (at 27) void (Free (value 28 to_int 0))) ∷ [])) ∷ [])

-- a start block may be freed only once
frees_a_block_twice : RunEnds frees_twice 0 (plain (given 112 (pos 1) ∷ [])) USUAL (event 19 (Look true) ∷ event 27 (Look true) ∷ [])
    (Fault kind.DoubleFree (at 27))
unfolding runs.perform
frees_a_block_twice = ends_so frees_twice 0 (plain (given 112 (pos 1) ∷ [])) USUAL 40 refl

-- null may be freed any number of times
frees_null_twice : RunEnds frees_twice 0 (plain []) USUAL (event 19 (Look false) ∷ event 27 (Look false) ∷ []) (Done returned.Nothing)
unfolding runs.perform
frees_null_twice = ends_so frees_twice 0 (plain []) USUAL 40 refl

-- void f(void){int a=0;free(&a);}
abbrev frees_local : TypedProgram
frees_local =
    functions (defined 6 void 0 (named 97 int ∷ []) 31
    (Declare (at 19) 0 (Some (Value (literal 20 0))) ∷ (Run (at 22) (Of (at 26) void (Free (Of (at 27) to_int (Address (local 28 int 0))))) ∷ [])) ∷ [])

frees_a_local : RunEnds frees_local 0 (plain []) USUAL (event 26 (Look true) ∷ []) (Fault kind.BadFree (at 26))
unfolding runs.perform
frees_a_local = ends_so frees_local 0 (plain []) USUAL 40 refl

-- void drop(int*p){free(p);} int f(void){int*p=malloc(4);int*q=p;if(!p)return 0;*p=1;drop(p);return *q;}
abbrev uses_freed : TypedProgram
uses_freed = functions (
    defined 6 void 1 (named 112 to_int ∷ []) 26 (Run (at 18) (Of (at 22) void (Free (value 23 to_int 0))) ∷ []) ∷ (
    defined 32 int 0 (named 112 to_int ∷ (named 113 to_int ∷ [])) 90 (
    Declare (at 45) 0 (Some (Value (Of (at 52) to_int (Allocate Malloc (row (Of (at 52) (integer ULong) (Convert (literal 53 4)) ∷ [])) int)))) ∷ (
    Declare (at 60) 1 (Some (Value (value 61 to_int 0))) ∷ (
    If (at 63) (Of (at 66) int (Not (value 67 to_int 0))) (Return (at 69) (Some (literal 76 0))) ∷ (
    Run (at 78) (Of (at 80) int (Assign (Of (at 78) int (Through (value 79 to_int 0))) (literal 81 1))) ∷ (
    Run (at 83) (Of (at 87) void (Call 0 (row (value 88 to_int 0 ∷ [])))) ∷ (
    Return (at 91) (Some (loaded (Of (at 98) int (Through (value 99 to_int 1))))) ∷ [])))))) ∷ []))

-- a block that another function has freed is read
reads_a_freed_block : RunEnds uses_freed 1 (plain (input (root.Malloc 1) (pos 1) ∷ [])) USUAL
    (event 52 (Wrap Same) ∷ event 52 (Alloc true) ∷ event 66 (Look true) ∷ event 66 (Truth false) ∷ event 63 (Branch false) ∷ event 78 (Look true)
    ∷ event 78 (Truth true) ∷ event 78 (Truth true) ∷ event 78 (Offset 0) ∷ event 87 (Callee 0) ∷ event 22 (Look true) ∷ event 98 (Look true)
    ∷ []) (Fault kind.Freed (at 98))
unfolding runs.perform
reads_a_freed_block = ends_so uses_freed 1 (plain (input (root.Malloc 1) (pos 1) ∷ [])) USUAL 120 refl

-- if the allocation fails, nothing is done with the block
allocation_fails : RunEnds uses_freed 1 (plain []) USUAL
    (event 52 (Wrap Same) ∷ event 52 (Alloc false) ∷ event 66 (Look false) ∷ event 66 (Truth true) ∷ event 63 (Branch true) ∷ [])
    (Done (returned.Number (pos 0)))
unfolding runs.perform
allocation_fails = ends_so uses_freed 1 (plain []) USUAL 120 refl

-- int*g(void){int v=1;return &v;}int f(void){return *g();}
abbrev returns_local : TypedProgram
returns_local = functions (
    defined 5 to_int 0 (named 118 int ∷ []) 31
    (Declare (at 18) 0 (Some (Value (literal 19 1))) ∷ (Return (at 21) (Some (Of (at 28) to_int (Address (local 29 int 0)))) ∷ [])) ∷ (
    defined 36 int 0 [] 57 (Return (at 44) (Some (loaded (Of (at 51) int (Through (Of (at 53) to_int (Call 0 (row []))))))) ∷ []) ∷ []))

reads_a_dead_local : RunEnds returns_local 1 (plain []) USUAL (event 53 (Callee 0) ∷ event 51 (Look true) ∷ []) (Fault kind.DeadLocal (at 51))
unfolding runs.perform
reads_a_dead_local = ends_so returns_local 1 (plain []) USUAL 60 refl

-- int f(unsigned long n){int*p=calloc(n,4);if(!p)return 0;return p[0];}
abbrev allocates_zeros : TypedProgram
allocates_zeros = functions (defined 5 int 1 (named 110 (integer ULong) ∷ (named 112 to_int ∷ [])) 69 (
    Declare (at 29) 1
    (Some
    (Value (Of (at 36) to_int (Allocate Calloc (row (value 37 (integer ULong) 0 ∷ (Of (at 36) (integer ULong) (Convert (literal 39 4)) ∷ []))) int))))
    ∷ (
    If (at 42) (Of (at 45) int (Not (value 46 to_int 1))) (Return (at 48) (Some (literal 55 0))) ∷ (
    Return (at 57) (Some (loaded (Of (at 65) int (Index (value 64 to_int 1) (literal 66 0) PointerFirst)))) ∷ []))) ∷ [])

-- a block of 0 bytes has no room for an element
reads_past_an_empty_block : RunEnds allocates_zeros 0 (plain (input (root.Malloc 1) (pos 1) ∷ [])) USUAL
    (event 36 (Wrap Same) ∷ event 36 (Truth true) ∷ event 36 (Wrap Same) ∷ event 36 (Alloc true) ∷ event 45 (Look true) ∷ event 45 (Truth false)
    ∷ event 42 (Branch false) ∷ event 65 (Look true) ∷ event 65 (Truth true) ∷ event 65 (Truth true) ∷ event 65 (Wrap Same) ∷ event 65 (Look true)
    ∷ event 65 (Truth true) ∷ event 65 (Truth false) ∷ []) (Fault kind.Bounds (at 65))
unfolding runs.perform
reads_past_an_empty_block = ends_so allocates_zeros 0 (plain (input (root.Malloc 1) (pos 1) ∷ [])) USUAL 120 refl

reads_a_zero : RunEnds allocates_zeros 0 (plain (given 110 (pos 1) ∷ (input (root.Malloc 1) (pos 1) ∷ []))) USUAL
    (event 36 (Wrap Same) ∷ event 36 (Truth true) ∷ event 36 (Wrap Same) ∷ event 36 (Alloc true) ∷ event 45 (Look true) ∷ event 45 (Truth false)
    ∷ event 42 (Branch false) ∷ event 65 (Look true) ∷ event 65 (Truth true) ∷ event 65 (Truth true) ∷ event 65 (Wrap Same) ∷ event 65 (Look true)
    ∷ event 65 (Truth true) ∷ event 65 (Truth true) ∷ event 65 (Offset 0) ∷ []) (Done (returned.Number (pos 0)))
unfolding runs.perform
reads_a_zero = ends_so allocates_zeros 0 (plain (given 110 (pos 1) ∷ (input (root.Malloc 1) (pos 1) ∷ []))) USUAL 120 refl

-- 2^62 elements of 4 bytes are too many: the call returns null, whatever the input is
asks_for_too_much : RunEnds allocates_zeros 0 (plain (given 110 (pos 4611686018427387904) ∷ (input (root.Malloc 1) (pos 1) ∷ []))) USUAL
    (event 36 (Wrap Same) ∷ event 36 (Truth false) ∷ event 45 (Look false) ∷ event 45 (Truth true) ∷ event 42 (Branch true) ∷ [])
    (Done (returned.Number (pos 0)))
unfolding runs.perform
asks_for_too_much = ends_so allocates_zeros 0 (plain (given 110 (pos 4611686018427387904) ∷ (input (root.Malloc 1) (pos 1) ∷ []))) USUAL 120 refl

-- int ext(int*p);int f(void){int a;ext(&a);return 1/a;}, where the parameter of `ext` may point to const
abbrev calls_outside : List Bool → TypedProgram
calls_outside written = functions (
    declared 5 int (named 112 to_int ∷ []) written ∷ (
    defined 20 int 0 (named 97 int ∷ []) 53 (
    Declare (at 32) 0 None ∷ (
    Run (at 34) (Of (at 37) int (Call 0 (row (Of (at 38) to_int (Address (local 39 int 0)) ∷ [])))) ∷ (
    Return (at 42) (Some (Of (at 50) int (Binary Div (literal 49 1) (value 51 int 0)))) ∷ []))) ∷ []))

-- what a function without a body wrote is an input
divides_by_what_was_written : RunEnds (calls_outside (true ∷ [])) 1 (plain []) USUAL (event 37 (Callee 0) ∷ event 37 (Look true) ∷ [])
    (Fault kind.Divide (at 50))
unfolding runs.perform
divides_by_what_was_written = ends_so (calls_outside (true ∷ [])) 1 (plain []) USUAL 60 refl

divides_by_an_input : RunEnds (calls_outside (true ∷ [])) 1 (plain (((record { root = root.Wrote 1 0; cells = 0 ∷ [] }, pos 2)) ∷ [])) USUAL
    (event 37 (Callee 0) ∷ event 37 (Look true) ∷ event 50 (Wrap Same) ∷ []) (Done (returned.Number (pos 0)))
unfolding runs.perform
divides_by_an_input = ends_so (calls_outside (true ∷ [])) 1 (plain (((record { root = root.Wrote 1 0; cells = 0 ∷ [] }, pos 2)) ∷ [])) USUAL 60 refl

-- nothing is written through a pointer to const
writes_nothing_through_const : RunEnds (calls_outside (false ∷ [])) 1 (plain []) USUAL (event 37 (Callee 0) ∷ []) (Fault kind.Unset (at 51))
unfolding runs.perform
writes_nothing_through_const = ends_so (calls_outside (false ∷ [])) 1 (plain []) USUAL 60 refl

-- struct s{int a;int b;};int f(void){struct s x;struct s y;x.a=1;y=x;return y.b;}
abbrev pair : StructType
pair = record {
  tag = 115 ∷ [];
  members = Some (record { name = 97 ∷ []; ty = integer Int; offset = 0 } ∷ (record { name = 98 ∷ []; ty = integer Int; offset = 4 } ∷ []));
  size = 8;
  align = 4;
}

abbrev copies_unset : ℕ → TypedProgram
copies_unset offset = record (functions (defined 28 int 0 (named 120 (struct 0) ∷ (named 121 (struct 0) ∷ [])) 80 (
    Declare (at 45) 0 None ∷ (Declare (at 56) 1 None ∷ (
    Run (at 58) (Of (at 61) int (Assign (Of (at 59) int (Member (local 58 (struct 0) 0) 0)) (literal 62 1))) ∷ (
    Run (at 64) (Of (at 65) (struct 0) (Assign (local 64 (struct 0) 1) (value 66 (struct 0) 0))) ∷ (
    Return (at 68) (Some (loaded (Of (at 76) int (Member (local 75 (struct 0) 1) offset)))) ∷ []))))) ∷ [])) { table = pair ∷ [] }

-- unset members can be copied without a fault, but not read
reads_a_copied_unset_member : RunEnds (copies_unset 4) 0 (plain []) USUAL ([]) (Fault kind.Unset (at 76))
unfolding runs.perform
reads_a_copied_unset_member = ends_so (copies_unset 4) 0 (plain []) USUAL 80 refl

reads_a_copied_member : RunEnds (copies_unset 0) 0 (plain []) USUAL ([]) (Done (returned.Number (pos 1)))
unfolding runs.perform
reads_a_copied_member = ends_so (copies_unset 0) 0 (plain []) USUAL 80 refl

-- int f(int**p){return **p;}
abbrev follows_twice : TypedProgram
follows_twice = functions (defined 5 int 1 (named 112 (pointer to_int) ∷ []) 27 (
    Return (at 15) (Some (loaded (Of (at 22) int (Through (loaded (Of (at 23) to_int (Through (value 24 (pointer to_int) 0)))))))) ∷ []) ∷ [])

-- a pointer in a start block is null unless an input says otherwise
follows_null : RunEnds follows_twice 0 (plain (given 112 (pos 1) ∷ [])) USUAL
    (event 23 (Look true) ∷ event 23 (Truth true) ∷ event 23 (Truth true) ∷ event 23 (Offset 0) ∷ event 22 (Look false) ∷ [])
    (Fault kind.Null (at 22))
unfolding runs.perform
follows_null = ends_so follows_twice 0 (plain (given 112 (pos 1) ∷ [])) USUAL 40 refl

-- it points to a block of its own, whose inputs have longer paths
follows_a_start_block : RunEnds follows_twice 0
    (plain (given 112 (pos 1) ∷ ((record { root = root.Param (112 ∷ []); cells = 0 ∷ [] }, pos 1)
    ∷ ((record { root = root.Param (112 ∷ []); cells = 0 ∷ (0 ∷ []) }, pos 7) ∷ [])))) USUAL
    (event 23 (Look true) ∷ event 23 (Truth true) ∷ event 23 (Truth true) ∷ event 23 (Offset 0) ∷ event 22 (Look true) ∷ event 22 (Truth true)
    ∷ event 22 (Truth true) ∷ event 22 (Offset 0) ∷ []) (Done (returned.Number (pos 7)))
unfolding runs.perform
follows_a_start_block =
    ends_so follows_twice 0
    (plain (given 112 (pos 1) ∷ ((record { root = root.Param (112 ∷ []); cells = 0 ∷ [] }, pos 1)
    ∷ ((record { root = root.Param (112 ∷ []); cells = 0 ∷ (0 ∷ []) }, pos 7) ∷ [])))) USUAL 40 refl

-- const int t[3]={1,2};int f(int i){return t[i];}
abbrev reads_table : TypedProgram
reads_table = record (functions (defined 27 int 1 (named 105 int ∷ []) 48 (
    Return (at 36) (Some (loaded (Of (at 44) int (Index (Of (at 43) to_int (Decay (Of (at 43) (array int 3) (Global 0)))) (value 45 int 0) PointerFirst))))
    ∷ []) ∷ [])) {
      globals = record {
        name = 116 ∷ [];
        at = at 11;
        ty = array int 3;
        constant = true;
        initial = Some (Parts (Part (Value (literal 17 1)) (Part (Value (literal 19 2)) NoPart)));
      } ∷ [];
    }

reads_an_initializer : RunEnds reads_table 0 (plain (given 105 (pos 1) ∷ [])) USUAL
    (event 44 (Look true) ∷ event 44 (Truth true) ∷ event 44 (Truth true) ∷ event 44 (Wrap Same) ∷ event 44 (Look true) ∷ event 44 (Truth true)
    ∷ event 44 (Truth true) ∷ event 44 (Offset 4) ∷ []) (Done (returned.Number (pos 2)))
unfolding runs.perform
reads_an_initializer = ends_so reads_table 0 (plain (given 105 (pos 1) ∷ [])) USUAL 40 refl

-- elements without an initializer are zero
reads_what_was_unsupported : RunEnds reads_table 0 (plain (given 105 (pos 2) ∷ [])) USUAL
    (event 44 (Look true) ∷ event 44 (Truth true) ∷ event 44 (Truth true) ∷ event 44 (Wrap Same) ∷ event 44 (Look true) ∷ event 44 (Truth true)
    ∷ event 44 (Truth true) ∷ event 44 (Offset 8) ∷ []) (Done (returned.Number (pos 0)))
unfolding runs.perform
reads_what_was_unsupported = ends_so reads_table 0 (plain (given 105 (pos 2) ∷ [])) USUAL 40 refl
