use Rattle.std.proofs.Common.{◌∙◌, ◌++◌, length, sym, ap, arith, append_assoc}
use Rattle.cs_word_lists.specs.Bytes.{bytes_of_word}
use Rattle.cs_word_lists.proofs.Coding.{next_digit, ten_bytes}
use Rattle.cs_word_lists.proofs.bytes.append_digits.Goals as goal

pub loop-rest-init : goal.loop-rest-init
loop-rest-init c = record {
  written = ap (λ items. items ++ bytes_of_word c.args.word) c.reserve.ensures.items;
  room = omega (arith, ten_bytes c.args.word (omega arith), c.in_ok-reserve.ensures.ok);
}

pub loop-rest-preserved : goal.loop-rest-preserved
loop-rest-preserved c =
    let next = next_digit c.loop-rest.rest c.loop-rest-test.true in
    record {
      written = rw (c.push_reserved.ensures.items, append_assoc)
          (ap (λ last. c.loop-rest.bytes.items ++ last) (sym next) ∙ c.loop-rest.invariant.written);
      room = omega (arith, ap length next, c.loop-rest.invariant.room);
    }
