-- An external declaration was refused, one more was taken, or all were.
use Rattle.std.proofs.Common.{◌≡◌, Err, sym, subst, rules}
use Rattle.std.specs.Result.{IfErr}
use Rattle.cs_decl_parser.specs.Files.{parts_of}
use Rattle.cs_decl_parser.specs.FileStops.{FileStops}
use Rattle.cs_decl_parser.specs.ReadParts.{StandsAmidst}
use Rattle.cs_decl_parser.proofs.FileSites.{file_stops, stands_amidst, parts_more, file_taken}
use Rattle.cs_decl_parser.proofs.PlacingFiles.{parts_go_on}
use Rattle.cs_decl_parser.proofs.externals.Parts.read.Goals as goal

pub returns-in_err-taken-clause-refused : goal.returns-in_err-taken-clause-refused
returns-in_err-taken-clause-refused c =
    let e : c.from_residual.result ≡ Err c.in_err-taken.field-0.0 = search rules in
    subst (λ x. IfErr x (FileStops c.args.tokens.now)) (sym e)
    (file_stops c.file.self.names c.args.tokens.now (parts_of c.file.self.list.items) c.file.self.next c.file-test.true c.file.invariant.so_far
    c.in_err-taken.field-0.0 c.in_err-taken.ensures.parsed c.in_err-taken.ensures.apt)

pub returns-in_err-taken-clause-amidst : goal.returns-in_err-taken-clause-amidst
returns-in_err-taken-clause-amidst c =
    let e : c.from_residual.result ≡ Err c.in_err-taken.field-0.0 = search rules in
    subst (λ x. IfErr x (StandsAmidst c.args.tokens.now c.file.self)) (sym e)
    (stands_amidst c.file.self c.args.tokens.now (parts_of c.file.self.list.items) c.file.invariant.so_far c.in_err-taken.field-0.0
    c.in_err-taken.ensures.parsed)

pub file-preserved : goal.file-preserved
file-preserved c =
    let b = c.in_ok-taken.ensures.bounds in
    record {
      inside = b.1;
      so_far = parts_more c.file.self.names c.declare.new.names c.args.tokens.now c.file.self.list.items c.push.new.self.items c.file.self.next
          c.in_ok-taken.taken c.file.invariant.so_far c.in_ok-taken.ensures.parsed c.in_ok-declare.ensures c.in_ok-push.ensures.items;
      placed = parts_go_on c.args.tokens.now c.file.self.list.items c.push.new.self.items c.file.self.next c.in_ok-taken.taken.tree c.in_ok-taken.taken.next
          c.file.invariant.placed c.in_ok-push.ensures.items c.in_ok-taken.ensures.parsed.spelled c.in_ok-taken.ensures.placed;
    }

pub returns-clause-file : goal.returns-clause-file
returns-clause-file c = file_taken c.file.self.names c.args.tokens.now (parts_of c.file.self.list.items) c.file.self.next c.file-test.false
    c.file.invariant.so_far
