use Rattle.cs_well_formed.proofs.Tokens.{texts_hold_constants, initial_texts_hold_constants}
use Rattle.cs_well_formed.proofs.constants_are_tokens.Goals as goal

pub returns-clause-expressions : goal.returns-clause-expressions
returns-clause-expressions c = texts_hold_constants

pub returns-clause-initializers : goal.returns-clause-initializers
returns-clause-initializers c = initial_texts_hold_constants
