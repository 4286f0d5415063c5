-- Adding the remaining names to the names so far yields the names with all.
use Rattle.std.proofs.Common.{◌≡◌, map, drop}
use Rattle.cs_ast.specs.RawDeclarationView.{declarator}
use Rattle.cs_grammar.specs.FilePhrases.{with_names}
use Rattle.cs_decl_parser.proofs.externals.add_names.Given as goal

abbrev pub invariant-loop-declarator : goal.invariant-loop-declarator
invariant-loop-declarator l = with_names l.names (map declarator (drop l.declarator-index l.declarators))
    ≡ with_names l.initial.names (map declarator l.declarators)
