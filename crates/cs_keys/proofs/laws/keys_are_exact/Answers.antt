use Rattle.std.proofs.Common.{ap}
use Rattle.cs_keys.specs.Live.{live_part}
use Rattle.cs_keys.specs.Words.{words_of}
use Rattle.cs_keys.proofs.Reading.{same_words}
use Rattle.cs_keys.proofs.laws.keys_are_exact.Goals as goal

pub returns : goal.returns
returns c one other = (λ same. same_words (live_part one) (live_part other) same, λ same. ap words_of same)
