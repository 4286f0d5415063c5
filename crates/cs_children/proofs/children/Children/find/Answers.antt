use Rattle.cs_children.proofs.children.Children.find.Goals as goal

pub returns-clause-all : goal.returns-clause-all
returns-clause-all g c = λ every. c.find_with-found.ensures.all (rw (c.new-attempt.ensures.checkers, c.replace.ensures.value) every)
