use Rattle.cs_words.specs.Meaning.{words_text}
use Rattle.cs_words.proofs.WordLists.{no_verb}
use Rattle.cs_words.proofs.words.command_of.Goals as goal

pub returns-in-None : goal.returns-in-None
returns-in-None c = no_verb (words_text c.args.words.now) c.args.first.now (words_text c.args.following.now) c.requires c.in-None.ensures
