use Rattle.std.proofs.Common.{◌≡◌, ℕ, ◌+◌, length, map, Option, Some, refl, sym, ap, ◌∙◌, le_trans}
use Rattle.std.specs.Prelude.{option_map, option_copied, slice_get}
use Rattle.std.proofs.lemmas.Option.{slice_get_read, slice_get_past, slice_get-map}
use Rattle.cs_ast.specs.TypedProgram.{typed_program, variable}
use Rattle.cs_meaning.specs.Calls.{local_block}
use Rattle.cs_meaning.specs.Machine as machine
use Rattle.cs_meaning.specs.Memory as meaning
use Rattle.cs_values.specs.View.{operand_of}
use Rattle.cs_objects.specs.BlockView.{block_of}
use Rattle.cs_memory.proofs.FirstChanges.{lent}
use Rattle.cs_frames.proofs.Rows.{one_more_block, all_blocks, longer}
use Rattle.cs_frames.proofs.frames.local_blocks.Goals as goal

pub loop-number-preserved : goal.loop-number-preserved
loop-number-preserved c =
    let wanted : ℕ → Option meaning.Block = λ n.
    option_map (local_block (typed_program c.args.program.now) (slice_get (map operand_of c.args.arguments.now) n))
    (slice_get (map variable c.args.locals.now) n) in
    let number = c.loop-number.number in
    let row = c.loop-number.made.items in
    let more = c.in_ok-block.block in
    let item = c.index-locals-number.result in
    let argument : option_map operand_of (option_copied c.get.result) ≡ slice_get (map operand_of c.args.arguments.now) number =
    ap (option_map operand_of) (lent c.args.arguments.now number c.get.result c.get.ensures.lookup)
    ∙ sym (slice_get-map operand_of c.args.arguments.now number) in
    let local : slice_get (map variable c.args.locals.now) number ≡ Some (variable item) = slice_get-map variable c.args.locals.now number
    ∙ ap (option_map variable) (slice_get_read c.args.locals.now (length c.args.locals.now) number item refl c.loop-number-test.true
    c.index-locals-number.is) in
    let made = c.in_ok-block.ensures ∙ ap (λ (o : Option machine.Operand). local_block (typed_program c.args.program.now) o (variable item)) argument in
    let new : Some (block_of more) ≡ wanted number = ap Some made
    ∙ sym (ap (option_map (local_block (typed_program c.args.program.now) (slice_get (map operand_of c.args.arguments.now) number))) local) in
    rw c.in_ok-push.ensures.items (record {
      count = longer row more ∙ ap (λ (k : ℕ). k + 1) c.loop-number.invariant.count;
      blocks = one_more_block wanted row number c.loop-number.invariant.count c.loop-number.invariant.blocks more new;
    })

pub returns : goal.returns
returns c =
    let wanted : ℕ → Option meaning.Block = λ n.
    option_map (local_block (typed_program c.args.program.now) (slice_get (map operand_of c.args.arguments.now) n))
    (slice_get (map variable c.args.locals.now) n) in
    let number = c.loop-number.number in
    all_blocks wanted c.loop-number.made.items number c.loop-number.invariant.count c.loop-number.invariant.blocks
    (λ n past.
    ap (option_map (local_block (typed_program c.args.program.now) (slice_get (map operand_of c.args.arguments.now) n)))
    (slice_get-map variable c.args.locals.now n ∙ ap (option_map variable) (slice_get_past c.args.locals.now n (le_trans c.loop-number-test.false past))))
