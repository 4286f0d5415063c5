use Rattle.std.proofs.Common.{arith}
use Rattle.cs_pmap.proofs.PutAll.{front_ascends, back_ascends}
use Rattle.cs_pmap.proofs.merge.+built.Goals as goal

pub built-requires : goal.built-requires
built-requires g t c κs within = (
  omega (arith, c.decreases, c.split_at.ensures.front_len, c.split_at.ensures.back_len, c.in-Some.ensures.cases.1),
  (
    within,
    (
      c.requires.clones,
      front_ascends c.args.entries.now c.split_at.result.0.now _ c.requires.ascending c.split_at.ensures.front,
    ),
  ),
)

pub built-requires-2 : goal.built-requires-2
built-requires-2 g t c κs within = (
  omega (arith, c.decreases, c.split_at.ensures.front_len, c.split_at.ensures.back_len, c.in-Some.ensures.cases.1),
  (
    within,
    (
      c.requires.clones,
      back_ascends c.args.entries.now c.split_at.result.1.now c.in-Some.after.now _ c.in-Some.middle.now c.requires.ascending c.split_at.ensures.back
          c.in-Some.ensures.cases.0,
    ),
  ),
)
