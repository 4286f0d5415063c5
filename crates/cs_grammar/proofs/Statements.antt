-- Each form of a statement, determined by its first token: for the contracts of every parser of statements.
use Rattle.std.proofs.Common.{◌≡◌, ℕ, suc, ◌+◌, Bool, true, false, List, [], ◌∷◌, Option, Some, None, refl, sym, ap, ◌∙◌, arith}
use Rattle.std.proofs.lemmas.Bool.{false≢true}
use Rattle.cs_ast.specs.declared.token.TokenKind.{TokenKind}
use Rattle.cs_ast.specs.declared.token.TokenKind.TheVariants as token
use Rattle.cs_ast.specs.declared.token.Keyword.{Keyword}
use Rattle.cs_ast.specs.declared.token.Keyword.TheVariants as keyword
use Rattle.cs_ast.specs.declared.token.Punctuator.TheVariants as punctuator
use Rattle.cs_ast.specs.declared.raw.operator.Step.{Step}
use Rattle.cs_ast.specs.declared.raw.operator.Step.TheVariants.{Up, Down}
use Rattle.cs_ast.specs.declared.raw.operator.InfixOp.{InfixOp}
use Rattle.cs_ast.specs.declared.raw.operator.AssignOp.{AssignOp}
use Rattle.cs_ast.specs.RawTree.{Written, Named, Numeral, Character, Literal, Enclosed, Index, Call, Member, Arrow, StepAfter, StepBefore, Prefix, SizeOf}
use Rattle.cs_ast.specs.RawTree.{SizeOfType, Cast, Infix, Choice, Assign, Comma}
use Rattle.cs_ast.specs.RawStatements.{First, Sentence, Block, Nothing, Runs, If, IfElse, While, Do, For, Switch, Goto, Continue, Break, Return, Label, Items}
use Rattle.cs_ast.specs.RawStatements.{SwitchItems}
use Rattle.cs_grammar.specs.TypeWords.{Names}
use Rattle.cs_grammar.specs.Text.{Kinds, text, listed}
use Rattle.cs_grammar.specs.Levels.{infix_level}
use Rattle.cs_grammar.specs.Punctuators.{step_punctuator, infix_punctuator, assign_punctuator}
use Rattle.cs_grammar.specs.Continuing.{punctuator_join}
use Rattle.cs_grammar.specs.Phrases.{IsPhrase}
use Rattle.cs_grammar.specs.FirstTokens.{begins_expression}
use Rattle.cs_grammar.specs.FileText.{punctuator_text, test_text, first_text, some_text, sentence_text, items_text, switch_text}
use Rattle.cs_grammar.specs.FilePhrases.{is_open, IsAny, IsSentence, AreItems, AreSwitchItems}
use Rattle.cs_grammar.specs.FileClasses.{Tests, Firsts, Sentences, Branch, branch_text, Branches, IsBranch, IsBranchShut, HasNoElse, BlockRows, SwitchRows}
use Rattle.cs_grammar.specs.FileClasses.{SwitchBodies}
use Rattle.cs_grammar.specs.Parsing.{Class, Expressions}
use Rattle.cs_grammar.specs.Composed.{Sequence, Following, ClosedSome}
use Rattle.cs_grammar.proofs.Levels.{infix_join, assign_join}
use Rattle.cs_grammar.proofs.Beginnings.{expression_begins}
use Rattle.cs_grammar.proofs.FileBeginnings.{first_passes}
use Rattle.cs_grammar.proofs.Holes.{ClosedBy, Ended, AnyName}
use Rattle.cs_grammar.proofs.Tails.{Production}

abbrev pub open_parenthesis : TokenKind
open_parenthesis = token.Punctuator punctuator.OpenParenthesis

abbrev pub close_parenthesis : TokenKind
close_parenthesis = token.Punctuator punctuator.CloseParenthesis

abbrev pub open_brace : TokenKind
open_brace = token.Punctuator punctuator.OpenBrace

abbrev pub close_brace : TokenKind
close_brace = token.Punctuator punctuator.CloseBrace

abbrev pub semicolon : TokenKind
semicolon = token.Punctuator punctuator.Semicolon

abbrev pub colon : TokenKind
colon = token.Punctuator punctuator.Colon

abbrev pub word : Keyword → TokenKind
word k = token.Keyword k

-- an expression begins with a token that begins one
pub runs_first : (names : Names) (e : Written) (after : Kinds) (first : TokenKind) (more : Kinds) → IsPhrase names 0 e → text e after ≡ first ∷ more
    → begins_expression names first ≡ true
runs_first names e after first more is same = first_passes (begins_expression names) (text e after) first more (expression_begins names e after is.1) same

-- `if`, from its test and what follows
abbrev pub if_of : Written → Sentence → Option Sentence → Sentence
if_of test body None = If test body
if_of test body (Some other) = IfElse test body other

-- the parts of each form
abbrev pub IfParts : Names → Class
IfParts names = Sequence (Tests names) (Branches names)

abbrev pub WhileParts : Names → Class
WhileParts names = Sequence (Tests names) (Sentences names)

abbrev pub DoParts : Names → Class
DoParts names = Sequence (ClosedBy (Sentences names) (word keyword.While)) (ClosedBy (Tests names) semicolon)

abbrev pub SomeBefore : Names → TokenKind → Class
SomeBefore names close = ClosedSome names 0 (Unit {0}) close

abbrev pub ForParts : Names → Class
ForParts names =
    Following open_parenthesis (Sequence (Firsts names)
    (Sequence (SomeBefore names semicolon) (Sequence (SomeBefore names close_parenthesis) (Sentences names))))

abbrev pub SwitchClause : Names → Class
SwitchClause names = Sequence (Tests names) (SwitchBodies names)

while_invert : (names : Names) (whole : Sentence) (after following : Kinds) → IsSentence names whole
    → sentence_text whole after ≡ word keyword.While ∷ following
    → (part : Written × Sentence) × (whole ≡ While part.0 part.1) × (IsPhrase names 0 part.0 × IsSentence names part.1)
    × (following ≡ test_text part.0 (sentence_text part.1 after))
while_invert names (While t b) after following is same = ((t, b), refl, is, cc)
while_invert names (Runs e) after following is same = absurd (false≢true (runs_first names e (semicolon ∷ after) (word keyword.While) following is same))
while_invert names _ after following is same = absurd cc

pub while_production : (names : Names)
    → Production (Sentences names) (WhileParts names) 1 (word keyword.While ∷ []) (λ part. While part.0 part.1) (λ rest. Unit {0})
while_production names = record {
  invert = λ whole after following is fit same. while_invert names whole after following is same;
  shut = λ part after shut. shut;
  spelled = λ part after. refl;
  is_phrase = λ part is. is;
  taller = λ part. refl;
}

if_invert : (names : Names) (whole : Sentence) (after following : Kinds) → IsSentence names whole
    → sentence_text whole after ≡ word keyword.If ∷ following
    → (part : Written × Branch) × (whole ≡ if_of part.0 part.1.0 part.1.1) × (IsPhrase names 0 part.0 × IsBranch names part.1.0 part.1.1)
    × (following ≡ test_text part.0 (branch_text part.1.0 part.1.1 after))
if_invert names (If t b) after following is same = ((t, (b, None)), refl, is, cc)
if_invert names (IfElse t b o) after following is same = ((t, (b, Some o)), refl, (is.0, (is.1, is.2, is.3)), cc)
if_invert names (Runs e) after following is same = absurd (false≢true (runs_first names e (semicolon ∷ after) (word keyword.If) following is same))
if_invert names _ after following is same = absurd cc

if_shut : (t : Written) (b : Sentence) (o : Option Sentence) (after : Kinds) → (is_open (if_of t b o) ≡ true → HasNoElse after) → IsBranchShut o after
if_shut t b None after shut = shut refl
if_shut t b (Some o) after shut = shut

if_spelled : (t : Written) (b : Sentence) (o : Option Sentence) (after : Kinds)
    → sentence_text (if_of t b o) after ≡ word keyword.If ∷ test_text t (branch_text b o after)
if_spelled t b None after = refl
if_spelled t b (Some o) after = refl

if_is : (names : Names) (t : Written) (b : Sentence) (o : Option Sentence) → IsPhrase names 0 t → IsBranch names b o → IsSentence names (if_of t b o)
if_is names t b None i is = (i, is)
if_is names t b (Some o) i is = (i, is.0, is.1, is.2)

if_taller : (names : Names) (t : Written) (b : Sentence) (o : Option Sentence) → (Sentences names).tall (if_of t b o) ≡ 1 + (IfParts names).tall (t, (b, o))
if_taller names t b None = refl
if_taller names t b (Some o) = refl

pub if_production : (names : Names)
    → Production (Sentences names) (IfParts names) 1 (word keyword.If ∷ []) (λ part. if_of part.0 part.1.0 part.1.1) (λ rest. Unit {0})
if_production names = record {
  invert = λ whole after following is fit same. if_invert names whole after following is same;
  shut = λ part after shut. if_shut part.0 part.1.0 part.1.1 after shut;
  spelled = λ part after. if_spelled part.0 part.1.0 part.1.1 after;
  is_phrase = λ part is. if_is names part.0 part.1.0 part.1.1 is.0 is.1;
  taller = λ part. if_taller names part.0 part.1.0 part.1.1;
}

do_invert : (names : Names) (whole : Sentence) (after following : Kinds) → IsSentence names whole
    → sentence_text whole after ≡ word keyword.Do ∷ following
    → (part : Sentence × Written) × (whole ≡ Do part.0 part.1) × (IsSentence names part.0 × IsPhrase names 0 part.1)
    × (following ≡ sentence_text part.0 (word keyword.While ∷ test_text part.1 (semicolon ∷ after)))
do_invert names (Do b t) after following is same = ((b, t), refl, is, cc)
do_invert names (Runs e) after following is same = absurd (false≢true (runs_first names e (semicolon ∷ after) (word keyword.Do) following is same))
do_invert names _ after following is same = absurd cc

pub do_production : (names : Names) → Production (Sentences names) (DoParts names) 1 (word keyword.Do ∷ []) (λ part. Do part.0 part.1) (λ rest. Unit {0})
do_production names = record {
  invert = λ whole after following is fit same. do_invert names whole after following is same;
  shut = λ part after shut. tt;
  spelled = λ part after. refl;
  is_phrase = λ part is. is;
  taller = λ part. refl;
}

for_invert : (names : Names) (whole : Sentence) (after following : Kinds) → IsSentence names whole
    → sentence_text whole after ≡ word keyword.For ∷ following
    → (part : First × (Option Written × (Option Written × Sentence))) × (whole ≡ For part.0 part.1.0 part.1.1.0 part.1.1.1) × (ForParts names).Is part
    × (following ≡ (ForParts names).spell part after)
for_invert names (For f t l b) after following is same = ((f, (t, (l, b))), refl, (is.0, (is.1, (is.2, is.3))), cc)
for_invert names (Runs e) after following is same = absurd (false≢true (runs_first names e (semicolon ∷ after) (word keyword.For) following is same))
for_invert names _ after following is same = absurd cc

pub for_production : (names : Names)
    → Production (Sentences names) (ForParts names) 1 (word keyword.For ∷ []) (λ part. For part.0 part.1.0 part.1.1.0 part.1.1.1) (λ rest. Unit {0})
for_production names = record {
  invert = λ whole after following is fit same. for_invert names whole after following is same;
  shut = λ part after shut. shut;
  spelled = λ part after. refl;
  is_phrase = λ part is. (is.0, is.1.0, is.1.1.0, is.1.1.1);
  taller = λ part. refl;
}

switch_invert : (names : Names) (whole : Sentence) (after following : Kinds) → IsSentence names whole
    → sentence_text whole after ≡ word keyword.Switch ∷ following
    → (part : Written × SwitchItems) × (whole ≡ Switch part.0 part.1) × (IsPhrase names 0 part.0 × AreSwitchItems names part.1)
    × (following ≡ test_text part.0 (open_brace ∷ switch_text part.1 (close_brace ∷ after)))
switch_invert names (Switch v i) after following is same = ((v, i), refl, is, cc)
switch_invert names (Runs e) after following is same = absurd (false≢true (runs_first names e (semicolon ∷ after) (word keyword.Switch) following is same))
switch_invert names _ after following is same = absurd cc

pub switch_production : (names : Names)
    → Production (Sentences names) (SwitchClause names) 1 (word keyword.Switch ∷ []) (λ part. Switch part.0 part.1) (λ rest. Unit {0})
switch_production names = record {
  invert = λ whole after following is fit same. switch_invert names whole after following is same;
  shut = λ part after shut. tt;
  spelled = λ part after. refl;
  is_phrase = λ part is. is;
  taller = λ part. refl;
}

-- the braces of a `switch`
pub switch_body_production : (names : Names) → Production (SwitchBodies names) (SwitchRows names) 1 (open_brace ∷ []) (λ part. part) (λ rest. Unit {0})
switch_body_production names = record {
  invert = λ whole after following is fit same. (whole, refl, is, cc);
  shut = λ part after shut. tt;
  spelled = λ part after. refl;
  is_phrase = λ part is. is;
  taller = λ part. refl;
}

block_invert : (names : Names) (whole : Sentence) (after following : Kinds) → IsSentence names whole
    → sentence_text whole after ≡ open_brace ∷ following
    → (part : Items) × (whole ≡ Block part) × AreItems names part × (following ≡ items_text part (close_brace ∷ after))
block_invert names (Block i) after following is same = (i, refl, is, cc)
block_invert names (Runs e) after following is same = absurd (false≢true (runs_first names e (semicolon ∷ after) open_brace following is same))
block_invert names _ after following is same = absurd cc

pub block_production : (names : Names) → Production (Sentences names) (BlockRows names) 1 (open_brace ∷ []) Block (λ rest. Unit {0})
block_production names = record {
  invert = λ whole after following is fit same. block_invert names whole after following is same;
  shut = λ part after shut. tt;
  spelled = λ part after. refl;
  is_phrase = λ part is. is;
  taller = λ part. refl;
}

nothing_invert : (names : Names) (whole : Sentence) (after following : Kinds) → IsSentence names whole
    → sentence_text whole after ≡ semicolon ∷ following → (part : Unit {0}) × (whole ≡ Nothing) × Unit {0} × (following ≡ after)
nothing_invert names Nothing after following is same = (tt, refl, tt, cc)
nothing_invert names (Runs e) after following is same = absurd (false≢true (runs_first names e (semicolon ∷ after) semicolon following is same))
nothing_invert names _ after following is same = absurd cc

pub nothing_production : (names : Names) → Production (Sentences names) Ended 1 (semicolon ∷ []) (λ part. Nothing) (λ rest. Unit {0})
nothing_production names = record {
  invert = λ whole after following is fit same. nothing_invert names whole after following is same;
  shut = λ part after shut. tt;
  spelled = λ part after. refl;
  is_phrase = λ part is. tt;
  taller = λ part. refl;
}

goto_invert : (names : Names) (whole : Sentence) (after following : Kinds) → IsSentence names whole
    → sentence_text whole after ≡ word keyword.Goto ∷ following
    → (part : List ℕ) × (whole ≡ Goto part) × Unit {0} × (following ≡ token.Name part ∷ semicolon ∷ after)
goto_invert names (Goto n) after following is same = (n, refl, tt, cc)
goto_invert names (Runs e) after following is same = absurd (false≢true (runs_first names e (semicolon ∷ after) (word keyword.Goto) following is same))
goto_invert names _ after following is same = absurd cc

pub goto_production : (names : Names) → Production (Sentences names) (ClosedBy AnyName semicolon) 1 (word keyword.Goto ∷ []) Goto (λ rest. Unit {0})
goto_production names = record {
  invert = λ whole after following is fit same. goto_invert names whole after following is same;
  shut = λ part after shut. tt;
  spelled = λ part after. refl;
  is_phrase = λ part is. tt;
  taller = λ part. refl;
}

continue_invert : (names : Names) (whole : Sentence) (after following : Kinds) → IsSentence names whole
    → sentence_text whole after ≡ word keyword.Continue ∷ following
    → (part : Unit {0}) × (whole ≡ Continue) × Unit {0} × (following ≡ semicolon ∷ after)
continue_invert names Continue after following is same = (tt, refl, tt, cc)
continue_invert names (Runs e) after following is same =
    absurd (false≢true (runs_first names e (semicolon ∷ after) (word keyword.Continue) following is same))
continue_invert names _ after following is same = absurd cc

pub continue_production : (names : Names)
    → Production (Sentences names) (ClosedBy Ended semicolon) 1 (word keyword.Continue ∷ []) (λ part. Continue) (λ rest. Unit {0})
continue_production names = record {
  invert = λ whole after following is fit same. continue_invert names whole after following is same;
  shut = λ part after shut. tt;
  spelled = λ part after. refl;
  is_phrase = λ part is. tt;
  taller = λ part. refl;
}

break_invert : (names : Names) (whole : Sentence) (after following : Kinds) → IsSentence names whole
    → sentence_text whole after ≡ word keyword.Break ∷ following
    → (part : Unit {0}) × (whole ≡ Break) × Unit {0} × (following ≡ semicolon ∷ after)
break_invert names Break after following is same = (tt, refl, tt, cc)
break_invert names (Runs e) after following is same = absurd (false≢true (runs_first names e (semicolon ∷ after) (word keyword.Break) following is same))
break_invert names _ after following is same = absurd cc

pub break_production : (names : Names)
    → Production (Sentences names) (ClosedBy Ended semicolon) 1 (word keyword.Break ∷ []) (λ part. Break) (λ rest. Unit {0})
break_production names = record {
  invert = λ whole after following is fit same. break_invert names whole after following is same;
  shut = λ part after shut. tt;
  spelled = λ part after. refl;
  is_phrase = λ part is. tt;
  taller = λ part. refl;
}

return_invert : (names : Names) (whole : Sentence) (after following : Kinds) → IsSentence names whole
    → sentence_text whole after ≡ word keyword.Return ∷ following
    → (part : Option Written) × (whole ≡ Return part) × IsAny names part × (following ≡ some_text part (semicolon ∷ after))
return_invert names (Return v) after following is same = (v, refl, is, cc)
return_invert names (Runs e) after following is same = absurd (false≢true (runs_first names e (semicolon ∷ after) (word keyword.Return) following is same))
return_invert names _ after following is same = absurd cc

pub return_production : (names : Names) → Production (Sentences names) (SomeBefore names semicolon) 1 (word keyword.Return ∷ []) Return (λ rest. Unit {0})
return_production names = record {
  invert = λ whole after following is fit same. return_invert names whole after following is same;
  shut = λ part after shut. tt;
  spelled = λ part after. refl;
  is_phrase = λ part is. is;
  taller = λ part. refl;
}

step_colon : (s : Step) (x more : Kinds) → token.Punctuator (step_punctuator s) ∷ x ≡ colon ∷ more → ⊥
step_colon Up x more same = cc
step_colon Down x more same = cc

infix_colon : (op : InfixOp) (x more : Kinds) → token.Punctuator (infix_punctuator op) ∷ x ≡ colon ∷ more → ⊥
infix_colon op x more same =
    let k : infix_punctuator op ≡ punctuator.Colon = cc in
    let j : suc (infix_level op) ≡ 0 = sym (infix_join op) ∙ ap punctuator_join k in
    cc

assign_colon : (op : AssignOp) (x more : Kinds) → token.Punctuator (assign_punctuator op) ∷ x ≡ colon ∷ more → ⊥
assign_colon op x more same =
    let k : assign_punctuator op ≡ punctuator.Colon = cc in
    let j : punctuator_join (assign_punctuator op) ≡ 0 = ap punctuator_join k in
    let i = assign_join op in
    omega (arith, i, j)

-- an expression that begins with a name and a colon is the name
pub name_colon : (e : Written) (after : Kinds) (n : List ℕ) (more : Kinds) → text e after ≡ token.Name n ∷ colon ∷ more
    → (e ≡ Named n) × (after ≡ colon ∷ more)
name_colon (Named name) after n more same = (cc, cc)
name_colon (Numeral c) after n more same = absurd cc
name_colon (Character v) after n more same = absurd cc
name_colon (Literal b) after n more same = absurd cc
name_colon (Enclosed i) after n more same = absurd cc
name_colon (Index a i) after n more same =
    let f = name_colon a (token.Punctuator punctuator.OpenBracket ∷ text i (token.Punctuator punctuator.CloseBracket ∷ after)) n more same in let z = f.1 in
    absurd cc
name_colon (Call f es) after n more same = let r = name_colon f (open_parenthesis ∷ listed es (close_parenthesis ∷ after)) n more same in let z = r.1 in
    absurd cc
name_colon (Member o m) after n more same = let r = name_colon o (token.Punctuator punctuator.Dot ∷ token.Name m ∷ after) n more same in let z = r.1 in
    absurd cc
name_colon (Arrow o m) after n more same = let r = name_colon o (token.Punctuator punctuator.Arrow ∷ token.Name m ∷ after) n more same in let z = r.1 in
    absurd cc
name_colon (StepAfter s o) after n more same = let r = name_colon o (token.Punctuator (step_punctuator s) ∷ after) n more same in
    absurd (step_colon s after more r.1)
name_colon (StepBefore s o) after n more same = absurd cc
name_colon (Prefix op o) after n more same = absurd cc
name_colon (SizeOf o) after n more same = absurd cc
name_colon (SizeOfType ws ps bs) after n more same = absurd cc
name_colon (Cast ws ps bs o) after n more same = absurd cc
name_colon (Infix op l r) after n more same = let f = name_colon l (token.Punctuator (infix_punctuator op) ∷ text r after) n more same in
    absurd (infix_colon op (text r after) more f.1)
name_colon (Choice t o e) after n more same = let r = name_colon t (token.Punctuator punctuator.Question ∷ text o (colon ∷ text e after)) n more same in
    let z = r.1 in absurd cc
name_colon (Assign op l r) after n more same = let f = name_colon l (token.Punctuator (assign_punctuator op) ∷ text r after) n more same in
    absurd (assign_colon op (text r after) more f.1)
name_colon (Comma l r) after n more same = let f = name_colon l (token.Punctuator punctuator.Comma ∷ text r after) n more same in let z = f.1 in absurd cc

-- the token begins a statement and no expression, or is a semicolon
abbrev pub begins_other_sentence : TokenKind → Bool
begins_other_sentence (token.Keyword keyword.Break) = true
begins_other_sentence (token.Keyword keyword.Continue) = true
begins_other_sentence (token.Keyword keyword.Do) = true
begins_other_sentence (token.Keyword keyword.For) = true
begins_other_sentence (token.Keyword keyword.Goto) = true
begins_other_sentence (token.Keyword keyword.If) = true
begins_other_sentence (token.Keyword keyword.Return) = true
begins_other_sentence (token.Keyword keyword.Switch) = true
begins_other_sentence (token.Keyword keyword.While) = true
begins_other_sentence (token.Punctuator punctuator.OpenBrace) = true
begins_other_sentence (token.Punctuator punctuator.Semicolon) = true
begins_other_sentence other = false

-- the tokens begin neither with a token of another statement nor with a label
pub record IsRun (tokens : Kinds) : Type 0 where
  pub plain : (first : TokenKind) (more : Kinds) → tokens ≡ first ∷ more → begins_other_sentence first ≡ false
  pub unlabelled : (n : List ℕ) (more : Kinds) → tokens ≡ token.Name n ∷ colon ∷ more → ⊥

other_run : (tokens : Kinds) (first : TokenKind) (more : Kinds) → IsRun tokens → first ∷ more ≡ tokens → begins_other_sentence first ≡ true → ⊥
other_run tokens first more run same e = false≢true (sym (run.plain first more (sym same)) ∙ e)

runs_invert : (names : Names) (whole : Sentence) (after following : Kinds) → IsSentence names whole → IsRun following
    → sentence_text whole after ≡ following → (part : Written) × (whole ≡ Runs part) × IsPhrase names 0 part
    × (following ≡ text part (semicolon ∷ after))
runs_invert names (Runs e) after following is run same = (e, refl, is, sym same)
runs_invert names (Block i) after following is run same = absurd (other_run following open_brace (items_text i (close_brace ∷ after)) run same refl)
runs_invert names Nothing after following is run same = absurd (other_run following semicolon after run same refl)
runs_invert names (If t b) after following is run same = absurd (other_run following (word keyword.If) (test_text t (sentence_text b after)) run same refl)
runs_invert names (IfElse t b o) after following is run same =
    absurd (other_run following (word keyword.If) (test_text t (sentence_text b (word keyword.Else ∷ sentence_text o after))) run same refl)
runs_invert names (While t b) after following is run same =
    absurd (other_run following (word keyword.While) (test_text t (sentence_text b after)) run same refl)
runs_invert names (Do b t) after following is run same =
    absurd (other_run following (word keyword.Do) (sentence_text b (word keyword.While ∷ test_text t (semicolon ∷ after))) run same refl)
runs_invert names (For f t l b) after following is run same =
    absurd (other_run following (word keyword.For)
    (punctuator_text punctuator.OpenParenthesis
    (first_text f (some_text t (punctuator_text punctuator.Semicolon (some_text l (punctuator_text punctuator.CloseParenthesis (sentence_text b after)))))))
    run same refl)
runs_invert names (Switch v i) after following is run same =
    absurd (other_run following (word keyword.Switch) (test_text v (open_brace ∷ switch_text i (close_brace ∷ after))) run same refl)
runs_invert names (Goto n) after following is run same = absurd (other_run following (word keyword.Goto) (token.Name n ∷ semicolon ∷ after) run same refl)
runs_invert names Continue after following is run same = absurd (other_run following (word keyword.Continue) (semicolon ∷ after) run same refl)
runs_invert names Break after following is run same = absurd (other_run following (word keyword.Break) (semicolon ∷ after) run same refl)
runs_invert names (Return v) after following is run same = absurd (other_run following (word keyword.Return) (some_text v (semicolon ∷ after)) run same refl)
runs_invert names (Label n b) after following is run same = absurd (run.unlabelled n (sentence_text b after) (sym same))

pub runs_production : (names : Names) → Production (Sentences names) (ClosedBy (Expressions names 0) semicolon) 1 [] Runs IsRun
runs_production names = record {
  invert = λ whole after following is fit same. runs_invert names whole after following is fit same;
  shut = λ part after shut. tt;
  spelled = λ part after. refl;
  is_phrase = λ part is. is;
  taller = λ part. refl;
}

label_invert : (names : Names) (n : List ℕ) (whole : Sentence) (after following : Kinds) → IsSentence names whole
    → sentence_text whole after ≡ token.Name n ∷ colon ∷ following
    → (part : Sentence) × (whole ≡ Label n part) × IsSentence names part × (following ≡ sentence_text part after)
label_invert names n (Label m b) after following is same = (b, let k : m ≡ n = cc in ap (λ (x : List ℕ). Label x b) k, is, cc)
label_invert names n (Runs e) after following is same = let f = name_colon e (semicolon ∷ after) n following same in let z = f.1 in absurd cc
label_invert names n _ after following is same = absurd cc

pub label_production : (names : Names) (n : List ℕ)
    → Production (Sentences names) (Sentences names) 1 (token.Name n ∷ colon ∷ []) (Label n) (λ rest. Unit {0})
label_production names n = record {
  invert = λ whole after following is fit same. label_invert names n whole after following is same;
  shut = λ part after shut. shut;
  spelled = λ part after. refl;
  is_phrase = λ part is. is;
  taller = λ part. refl;
}
