use Rattle.std.proofs.Common.{◌+◌, sym, subst, arith}
use Rattle.cs_expr_parser.proofs.SitesOfWords.{PointersSoFar, pointers_one_more}
use Rattle.cs_expr_parser.proofs.types.pointer_words.Goals as goal

pub stars-preserved : goal.stars-preserved
stars-preserved c =
    let p = pointers_one_more c.args.tokens.now c.args.from c.stars.next c.stars.words.items c.in-Some.word c.requires.no_const c.stars.invariant.so_far
    c.in-Some.ensures.word in
    let i = c.stars.invariant in
    record {
      onward = omega arith;
      inside = p.spelled.within;
      so_far = subst (PointersSoFar c.args.tokens.now c.args.from (c.stars.next + 1)) (sym c.in_ok-push.ensures.items) p;
    }
