use Rattle.std.proofs.Common.{◌+◌, sym, subst, arith}
use Rattle.std.proofs.lemmas.Bool.{ltb-true, lt-ltb}
use Rattle.cs_declarator_parser.proofs.DeclaratorSites.{PointersSoFar, pointers_none, pointers_one_more, pointers_taken}
use Rattle.cs_declarator_parser.proofs.words.stars.Goals as goal

pub stars-init : goal.stars-init
stars-init c = record {
  onward = omega arith;
  inside = c.requires.within;
  so_far = subst (PointersSoFar c.args.source.now.tokens.now c.args.from c.args.from) (sym c.new-words.ensures.items)
      (pointers_none c.args.source.now.tokens.now c.args.from c.requires.within);
}

pub stars-preserved : goal.stars-preserved
stars-preserved c =
    let i = c.stars.invariant in
    let p = pointers_one_more c.args.source.now.tokens.now c.args.from c.stars.next _ c.stars.words.items c.in-Some.word
    (λ e. ltb-true c.args.from c.stars.next e) i.so_far c.in-Some.ensures.word in
    record {
      onward = omega arith;
      inside = p.spelled.within;
      so_far = subst (PointersSoFar c.args.source.now.tokens.now c.args.from (c.stars.next + 1)) (sym c.in_ok-push.ensures.items) p;
    }

pub returns-clause-pointers : goal.returns-clause-pointers
returns-clause-pointers c =
    pointers_taken c.args.source.now.tokens.now c.args.from c.stars.next _ c.stars.words.items (λ less. lt-ltb c.args.from c.stars.next less)
    c.stars.invariant.so_far c.in_default.ensures.word
