use Rattle.cs_integer_code.proofs.WellFormedIntegers.{integer_code}
use Rattle.cs_integer_code.proofs.integer_functions_have_integer_code.Goals as goal

pub returns : goal.returns
returns c = integer_code
