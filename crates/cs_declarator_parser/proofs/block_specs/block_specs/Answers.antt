use Rattle.std.proofs.Common.{◌≡◌, Err, Ok, List, Option, None, refl, sym, ◌∙◌, subst, arith, rules}
use Rattle.std.proofs.lemmas.Bool.{false≢true}
use Rattle.cs_ast.specs.declared.raw.declaration.SpecWord.{SpecWord}
use Rattle.cs_grammar.specs.declared.type_words.TypeSoFar.TheVariants.{Nothing}
use Rattle.cs_declarator_parser.specs.declared.specs.NextWord.{NextWord}
use Rattle.cs_declarator_parser.specs.SpecWords.{BlockSpecsAnswer, BlockWordAnswer}
use Rattle.cs_declarator_parser.proofs.BlockSpecSites.{WordsSoFar, words_none, word_more, words_stop, word_stops, words_taken}
use Rattle.cs_declarator_parser.specs.SpecPlaces.{IsWordThere}
use Rattle.cs_declarator_parser.proofs.PlacingSpecs.{SpecsPlaced, specs_begun, block_specs_go_on}
use Rattle.cs_declarator_parser.proofs.block_specs.block_specs.Goals as goal

pub words-init : goal.words-init
words-init c = record {
  onward = omega arith;
  inside = c.requires.within;
  typed = λ some. absurd (false≢true some);
  placed = subst (λ (x : List SpecWord). SpecsPlaced c.args.source.now.tokens.now c.args.from c.args.from x None) (sym c.in_ok-words.ensures.items)
      (specs_begun c.args.source.now.tokens.now c.args.from);
  so_far = subst (WordsSoFar c.args.source.now.names.now c.args.source.now.tokens.now c.args.from c.args.from Nothing) (sym c.in_ok-words.ensures.items)
      (words_none c.args.source.now.names.now c.args.source.now.tokens.now c.args.from c.requires.within);
}

pub words-preserved : goal.words-preserved
words-preserved c =
    let i = c.words.invariant in
    let w = subst (λ (x : Option NextWord). BlockWordAnswer c.args.source.now.names.now c.args.source.now.tokens.now c.words.next c.words.so_far (Ok x))
    c.in-Some.is c.in_ok-found.ensures.word in
    let later = w.1.later in
    let within = w.1.spelled.within in
    record {
      onward = omega arith;
      inside = within;
      typed = λ some. omega arith;
      placed = block_specs_go_on c.args.source.now.names.now c.words.so_far c.args.source.now.tokens.now c.args.from c.words.next c.words.words.items
          c.push.new.self.items c.in-Some.found w.0 c.words.tag c.or-tag.result i.placed i.so_far w.1.word_is w.1.spelled
          (subst (IsWordThere c.args.source.now.tokens.now c.words.next c.words.so_far) c.in-Some.is c.in_ok-found.ensures.placed) c.or-tag.ensures
          c.in_ok-push.ensures.items;
      so_far = word_more c.args.source.now.names.now c.args.source.now.tokens.now c.args.from c.words.next c.words.so_far c.words.words.items
          c.push.new.self.items c.in-Some.found w.0 i.so_far w.1 c.in_ok-push.ensures.items;
    }

pub returns-in_err-found-clause-parsed : goal.returns-in_err-found-clause-parsed
returns-in_err-found-clause-parsed c =
    let e : c.from_residual-in_err-found.result ≡ Err c.in_err-found.field-0.0 = search rules in
    subst (BlockSpecsAnswer c.args.source.now.names.now c.args.limit c.args.source.now.tokens.now c.args.from) (sym e)
    (word_stops c.args.source.now.names.now c.args.limit c.requires.some c.args.source.now.tokens.now c.args.from c.words.next c.words.so_far
    c.words.words.items c.in_err-found.field-0.0 c.words.invariant.so_far c.in_err-found.ensures.word)

pub returns-then-not-names_type-clause-parsed : goal.returns-then-not-names_type-clause-parsed
returns-then-not-names_type-clause-parsed c =
    words_stop c.args.source.now.names.now c.args.limit c.requires.some c.args.source.now.tokens.now c.args.from c.words.next c.words.so_far c.words.words.items
    c.refuse.result c.words.invariant.so_far (sym c.names_type.ensures ∙ c.if-not-names_type.true)
    (subst (λ (x : Option NextWord). BlockWordAnswer c.args.source.now.names.now c.args.source.now.tokens.now c.words.next c.words.so_far (Ok x))
    c.in_default.is c.in_ok-found.ensures.word) c.refuse.ensures.is

pub returns-clause-parsed : goal.returns-clause-parsed
returns-clause-parsed c =
    words_taken c.args.source.now.names.now c.args.limit c.requires.some c.args.source.now.tokens.now c.args.from c.words.next c.words.so_far _
    c.words.invariant.so_far (sym c.names_type.ensures ∙ c.if-not-names_type.false)
    (subst (λ (x : Option NextWord). BlockWordAnswer c.args.source.now.names.now c.args.source.now.tokens.now c.words.next c.words.so_far (Ok x))
    c.in_default.is c.in_ok-found.ensures.word) refl refl

pub returns-clause-placed : goal.returns-clause-placed
returns-clause-placed c =
    let p = c.words.invariant.placed in
    record { tag = p.tag_is; inside = p.inside.row }
