use Rattle.std.proofs.Common.{◌≡◌, ◌+◌, length, sym, ap, ◌∙◌, rules, arith}
use Rattle.cs_types.specs.Shape.{shape_of}
use Rattle.cs_ast.specs.TypedProgram.{typed_program}
use Rattle.cs_meaning.specs.Types.{size_of}
use Rattle.cs_objects.proofs.PartOffsets.{element_added, nothing_added, struct_from}
use Rattle.cs_objects.proofs.offsets.+offsets.Goals as goal

pub push_elements-returns-then-len-before : goal.push_elements-returns-then-len-before
push_elements-returns-then-len-before t c =
    let same : length c.push_offsets.new.made.items ≡ length c.loop-left.made.items = search rules in
    nothing_added (typed_program c.args.program.now) c.loop-left.at c.loop-left.left (shape_of c.args.element.now) c.loop-left.made.items
    c.push_offsets.new.made.items _ same c.in_ok-push_offsets.ensures c.loop-left.invariant

pub push_elements-loop-left-preserved : goal.push_elements-loop-left-preserved
push_elements-loop-left-preserved t c =
    let program = typed_program c.args.program.now in
    let element = shape_of c.args.element.now in
    let sum : c.in_ok-at.at ≡ c.loop-left.at + c.in_ok-size.size = search rules in
    let after : c.in_ok-at.at ≡ c.loop-left.at + size_of program element = sum ∙ ap (λ n. c.loop-left.at + n) c.in_ok-size.ensures in
    element_added program c.loop-left.at c.in_ok-at.at c.loop-left.left element c.loop-left.made.items c.push_offsets.new.made.items _ (omega arith) after
    c.in_ok-push_offsets.ensures c.loop-left.invariant

pub push_offsets-returns-in-Some : goal.push_offsets-returns-in-Some
push_offsets-returns-in-Some t c =
    let program = typed_program c.args.program.now in
    rw c.in-Struct.is
    (rw (struct_from program c.args.from c.in-Struct.tag c.in-Some.members.now c.requires (sym c.in-Some.ensures)) c.push_members.ensures)
