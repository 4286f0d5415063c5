-- The parts of statements: what may be cut off after them, the lowest of them, and the forms as pairs. For the contracts of every
-- parser of statements.
use Rattle.std.proofs.Common.{ℕ, ◌≤◌, true, false, List, [], ◌∷◌, Option, Some, None, ap, arith}
use Rattle.cs_ast.specs.declared.token.TokenKind.TheVariants as token
use Rattle.cs_ast.specs.declared.token.Keyword.TheVariants as keyword
use Rattle.cs_ast.specs.declared.token.Length.TheVariants.{Plain as plain_length}
use Rattle.cs_ast.specs.RawTree.{Written, Named, Numeral, Character, Literal, Enclosed, Index, Call, Member, Arrow, StepAfter, StepBefore, Prefix, SizeOf}
use Rattle.cs_ast.specs.RawTree.{SizeOfType, Cast, Infix, Choice, Assign, Comma}
use Rattle.cs_ast.specs.RawHeight.{height}
use Rattle.cs_ast.specs.RawStatements.{NoFirst, Sentence, Block, Nothing, Runs, If, IfElse, While, Do, For, Switch, Goto, Continue, Break, Return, Label}
use Rattle.cs_ast.specs.RawStatements.{NoItem, NoSwitchItem}
use Rattle.cs_ast.specs.RawFileHeight.{sentence_height}
use Rattle.cs_grammar.specs.TypeWords.{Names}
use Rattle.cs_grammar.specs.Text.{Kinds}
use Rattle.cs_grammar.specs.FileClasses.{Tests, Firsts, Sentences, branch_height, Branches, BlockRows, SwitchRows, SwitchBodies}
use Rattle.cs_grammar.specs.Parsing.{Expressions}
use Rattle.cs_grammar.proofs.Levels.{text_law}
use Rattle.cs_grammar.proofs.FileTexts.{test_append, first_append, sentence_append, branch_append, items_append, switch_append}
use Rattle.cs_grammar.proofs.Holes.{Lawful, ClosedBy, Ended, AnyName, closed_law, ended_law, name_law}
use Rattle.cs_grammar.proofs.Tails.{Least}
use Rattle.cs_grammar.proofs.Sequences.{closed_least, ended_least}
use Rattle.cs_grammar.proofs.Optional.{some_law, some_least}
use Rattle.cs_grammar.proofs.Pairs.{Pair, Single}
use Rattle.cs_grammar.proofs.Statements.{open_brace, close_brace, semicolon, colon, word, if_of, SomeBefore, while_production, if_production, do_production}
use Rattle.cs_grammar.proofs.Statements.{switch_production, switch_body_production, block_production, nothing_production, goto_production, continue_production}
use Rattle.cs_grammar.proofs.Statements.{break_production, return_production, IsRun, runs_production, label_production}

-- the lowest expression
abbrev pub nought : Written
nought = Numeral (record { value = 0; decimal = true; unsigned = false; length = plain_length })

-- each expression has a height
pub expression_height : (e : Written) → 1 ≤ height e
expression_height (Named name) = omega arith
expression_height (Numeral n) = omega arith
expression_height (Character v) = omega arith
expression_height (Literal b) = omega arith
expression_height (Enclosed i) = omega arith
expression_height (Index a n) = omega arith
expression_height (Call f es) = omega arith
expression_height (Member o n) = omega arith
expression_height (Arrow o n) = omega arith
expression_height (StepAfter s o) = omega arith
expression_height (StepBefore s o) = omega arith
expression_height (Prefix op o) = omega arith
expression_height (SizeOf o) = omega arith
expression_height (SizeOfType ws ps bs) = omega arith
expression_height (Cast ws ps bs o) = omega arith
expression_height (Infix op l r) = omega arith
expression_height (Choice t o e) = omega arith
expression_height (Assign op l r) = omega arith
expression_height (Comma l r) = omega arith

pub sentence_some : (s : Sentence) → 1 ≤ sentence_height s
sentence_some (Block items) = omega arith
sentence_some Nothing = omega arith
sentence_some (Runs e) = omega arith
sentence_some (If test body) = omega arith
sentence_some (IfElse test body other) = omega arith
sentence_some (While test body) = omega arith
sentence_some (Do body test) = omega arith
sentence_some (For first test last body) = omega arith
sentence_some (Switch value items) = omega arith
sentence_some (Goto label) = omega arith
sentence_some Continue = omega arith
sentence_some Break = omega arith
sentence_some (Return value) = omega arith
sentence_some (Label name body) = omega arith

pub branch_some : (b : Sentence) (o : Option Sentence) → 1 ≤ branch_height b o
branch_some b None = sentence_some b
branch_some b (Some o) = let s = sentence_some b in omega (arith, s)

abbrev pub expression_least : (names : Names) (level : ℕ) → level ≤ 16 → Least (Expressions names level)
expression_least names level low = record { tree = nought; is_phrase = (low, tt); below = λ other is. let h = expression_height other in omega (arith, h) }

abbrev pub tests_least : (names : Names) → Least (Tests names)
tests_least names = record { tree = nought; is_phrase = (omega arith, tt); below = λ other is. let h = expression_height other in omega (arith, h) }

abbrev pub sentences_least : (names : Names) → Least (Sentences names)
sentences_least names = record { tree = Nothing; is_phrase = tt; below = λ other is. let h = sentence_some other in omega (arith, h) }

abbrev pub branches_least : (names : Names) → Least (Branches names)
branches_least names = record { tree = (Nothing, None); is_phrase = tt; below = λ other is. let h = branch_some other.0 other.1 in omega (arith, h) }

abbrev pub firsts_least : (names : Names) → Least (Firsts names)
firsts_least names = record { tree = NoFirst; is_phrase = tt; below = λ other is. omega arith }

abbrev pub block_rows_least : (names : Names) → Least (BlockRows names)
block_rows_least names = record { tree = NoItem; is_phrase = tt; below = λ other is. omega arith }

abbrev pub switch_rows_least : (names : Names) → Least (SwitchRows names)
switch_rows_least names = record { tree = NoSwitchItem; is_phrase = tt; below = λ other is. omega arith }

abbrev pub switch_bodies_least : (names : Names) → Least (SwitchBodies names)
switch_bodies_least names = record { tree = NoSwitchItem; is_phrase = tt; below = λ other is. omega arith }

pub tests_law : (names : Names) → Lawful (Tests names)
tests_law names = test_append

pub sentences_law : (names : Names) → Lawful (Sentences names)
sentences_law names = sentence_append

pub branches_law : (names : Names) → Lawful (Branches names)
branches_law names = λ branch x y. branch_append branch.0 branch.1 x y

pub firsts_law : (names : Names) → Lawful (Firsts names)
firsts_law names = first_append

pub block_rows_law : (names : Names) → Lawful (BlockRows names)
block_rows_law names = λ items x y. items_append items (close_brace ∷ x) y

pub switch_rows_law : (names : Names) → Lawful (SwitchRows names)
switch_rows_law names = λ items x y. switch_append items (close_brace ∷ x) y

pub switch_bodies_law : (names : Names) → Lawful (SwitchBodies names)
switch_bodies_law names = λ items x y. ap (λ (r : Kinds). open_brace ∷ r) (switch_append items (close_brace ∷ x) y)

abbrev pub while_pair : (names : Names) → Pair (Sentences names) (Tests names) (Sentences names) 1 (word keyword.While ∷ []) (λ part. While part.0 part.1)
while_pair names = record {
  production = while_production names;
  law_first = tests_law names;
  law_second = sentences_law names;
  joins = λ c d after is is' shut. tt;
  least_first = tests_least names;
  least_second = sentences_least names;
}

abbrev pub if_pair : (names : Names)
    → Pair (Sentences names) (Tests names) (Branches names) 1 (word keyword.If ∷ []) (λ part. if_of part.0 part.1.0 part.1.1)
if_pair names = record {
  production = if_production names;
  law_first = tests_law names;
  law_second = branches_law names;
  joins = λ c d after is is' shut. tt;
  least_first = tests_least names;
  least_second = branches_least names;
}

abbrev pub do_pair : (names : Names)
    → Pair (Sentences names) (ClosedBy (Sentences names) (word keyword.While)) (ClosedBy (Tests names) semicolon) 1 (word keyword.Do ∷ [])
    (λ part. Do part.0 part.1)
do_pair names = record {
  production = do_production names;
  law_first = closed_law (Sentences names) (word keyword.While) (sentences_law names);
  law_second = closed_law (Tests names) semicolon (tests_law names);
  joins = λ c d after is is' shut. tt;
  least_first = closed_least (Sentences names) (word keyword.While) (sentences_least names);
  least_second = closed_least (Tests names) semicolon (tests_least names);
}

abbrev pub switch_pair : (names : Names)
    → Pair (Sentences names) (Tests names) (SwitchBodies names) 1 (word keyword.Switch ∷ []) (λ part. Switch part.0 part.1)
switch_pair names = record {
  production = switch_production names;
  law_first = tests_law names;
  law_second = switch_bodies_law names;
  joins = λ c d after is is' shut. tt;
  least_first = tests_least names;
  least_second = switch_bodies_least names;
}

abbrev pub switch_body_single : (names : Names) → Single (SwitchBodies names) (SwitchRows names) 1 (open_brace ∷ []) (λ part. part) (λ rest. Unit {0})
switch_body_single names = record { production = switch_body_production names; law = switch_rows_law names; least = switch_rows_least names }

abbrev pub block_single : (names : Names) → Single (Sentences names) (BlockRows names) 1 (open_brace ∷ []) Block (λ rest. Unit {0})
block_single names = record { production = block_production names; law = block_rows_law names; least = block_rows_least names }

abbrev pub nothing_single : (names : Names) → Single (Sentences names) Ended 1 (semicolon ∷ []) (λ part. Nothing) (λ rest. Unit {0})
nothing_single names = record { production = nothing_production names; law = ended_law; least = ended_least }

abbrev pub goto_single : (names : Names) → Single (Sentences names) (ClosedBy AnyName semicolon) 1 (word keyword.Goto ∷ []) Goto (λ rest. Unit {0})
goto_single names = record {
  production = goto_production names;
  law = closed_law AnyName semicolon name_law;
  least = record { tree = []; is_phrase = tt; below = λ other is. omega arith };
}

abbrev pub continue_single : (names : Names)
    → Single (Sentences names) (ClosedBy Ended semicolon) 1 (word keyword.Continue ∷ []) (λ part. Continue) (λ rest. Unit {0})
continue_single names = record {
  production = continue_production names;
  law = closed_law Ended semicolon ended_law;
  least = closed_least Ended semicolon ended_least;
}

abbrev pub break_single : (names : Names)
    → Single (Sentences names) (ClosedBy Ended semicolon) 1 (word keyword.Break ∷ []) (λ part. Break) (λ rest. Unit {0})
break_single names = record {
  production = break_production names;
  law = closed_law Ended semicolon ended_law;
  least = closed_least Ended semicolon ended_least;
}

abbrev pub return_single : (names : Names) → Single (Sentences names) (SomeBefore names semicolon) 1 (word keyword.Return ∷ []) Return (λ rest. Unit {0})
return_single names = record {
  production = return_production names;
  law = some_law names 0 (Unit {0}) semicolon;
  least = some_least names 0 (Unit {0}) semicolon tt;
}

abbrev pub runs_single : (names : Names) → Single (Sentences names) (ClosedBy (Expressions names 0) semicolon) 1 [] Runs IsRun
runs_single names = record {
  production = runs_production names;
  law = closed_law (Expressions names 0) semicolon (text_law names 0);
  least = closed_least (Expressions names 0) semicolon (expression_least names 0 (omega arith));
}

abbrev pub label_single : (names : Names) (n : List ℕ)
    → Single (Sentences names) (Sentences names) 1 (token.Name n ∷ colon ∷ []) (Label n) (λ rest. Unit {0})
label_single names n = record { production = label_production names n; law = sentences_law names; least = sentences_least names }
