use Rattle.cs_words.specs.Meaning.{words_text}
use Rattle.cs_words.proofs.WholeWords.{right_ok, right_err, accepts, refuses}
use Rattle.cs_words.proofs.WordLists.{no_words}
use Rattle.cs_words.proofs.words.words_of.Goals as goal

pub returns-in-Some-clause-ok : goal.returns-in-Some-clause-ok
returns-in-Some-clause-ok c = right_ok (words_text c.args.words.now) c.command_of.result c.command_of.ensures

pub returns-in-Some-clause-accepts : goal.returns-in-Some-clause-accepts
returns-in-Some-clause-accepts c = accepts (words_text c.args.words.now) c.command_of.result c.command_of.ensures

pub returns-in-Some-clause-err : goal.returns-in-Some-clause-err
returns-in-Some-clause-err c = right_err (words_text c.args.words.now) c.command_of.result c.command_of.ensures

pub returns-in-Some-clause-refuses : goal.returns-in-Some-clause-refuses
returns-in-Some-clause-refuses c = refuses (words_text c.args.words.now) c.command_of.result c.command_of.ensures

pub returns-in-None-clause-err : goal.returns-in-None-clause-err
returns-in-None-clause-err c = no_words c.args.words.now c.in-None.ensures.cases
