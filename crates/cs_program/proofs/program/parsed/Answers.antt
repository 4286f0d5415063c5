use Rattle.std.proofs.Common.{refl}
use Rattle.cs_parsed_files.proofs.FileTrees.{lexed_files_have_trees}
use Rattle.cs_program.proofs.program.parsed.Goals as goal

pub typed_as-answer-requires : goal.typed_as-answer-requires
typed_as-answer-requires c =
    let taken = rw c.as_slice.ensures.value at c.in-Ok.ensures.taken in
    let placed = rw c.as_slice.ensures.value at c.in-Ok.ensures.placed in
    let cut = c.requires.lexed in
    rw c.deref.ensures.value (lexed_files_have_trees cut.0 c.args.lexed c.in-Ok.tree.externals.items cut.1 cut.2 taken placed)

pub returns-in-Err-clause-refused : goal.returns-in-Err-clause-refused
returns-in-Err-clause-refused c = λ file short has.
    record {
      lexed = c.args.lexed;
      short = short;
      has_tokens = has;
      refused = rw c.as_slice.ensures.value at c.in-Err.ensures.refused;
      names = refl;
    }
