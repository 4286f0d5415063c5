-- Classes of phrases that consist of other classes.
use Rattle.std.specs.Prelude.{ℕ, max, Bool, List, ◌∷◌, Option, MatchOption}
use Rattle.cs_ast.specs.declared.token.TokenKind.{TokenKind}
use Rattle.cs_ast.specs.RawTree.{Written}
use Rattle.cs_ast.specs.RawFileHeight.{height_of_some, highest_by}
use Rattle.cs_grammar.specs.TypeWords.{Names}
use Rattle.cs_grammar.specs.FileText.{some_text, comma_text, with_commas, each_after_comma}
use Rattle.cs_grammar.specs.FilePhrases.{AreAll, IsSomeList}
use Rattle.cs_grammar.specs.Phrases.{IsPhrase}
use Rattle.cs_grammar.specs.Parsing.{Class}

-- a phrase of C, followed by one of D
abbrev pub Sequence : Class → Class → Class
Sequence C D = record {
  Tree = C.Tree × D.Tree;
  spell = λ pair after. C.spell pair.0 (D.spell pair.1 after);
  tall = λ pair. max (C.tall pair.0) (D.tall pair.1);
  Is = λ pair. C.Is pair.0 × D.Is pair.1;
  Shut = λ pair after. D.Shut pair.1 after;
}

-- a token, followed by a phrase of D
abbrev pub Following : TokenKind → Class → Class
Following t D = record { Tree = D.Tree; spell = λ tree after. t ∷ D.spell tree after; tall = D.tall; Is = D.Is; Shut = D.Shut }

-- an expression of the level, or none if that is allowed, and a token that closes it
abbrev pub ClosedSome : Names → ℕ → Type 0 → TokenKind → Class
ClosedSome names level MayLack close = record {
  Tree = Option Written;
  spell = λ tree after. some_text tree (close ∷ after);
  tall = height_of_some;
  Is = λ tree. MatchOption tree MayLack (IsPhrase names level);
  Shut = λ tree after. Unit {0};
}

-- at least one phrase of D, with commas between them, and a token that closes them
abbrev pub Separated : Class → TokenKind → Class
Separated D close = record {
  Tree = List D.Tree;
  spell = λ list after. with_commas D.spell list (close ∷ after);
  tall = highest_by D.tall;
  Is = λ list. IsSomeList list × AreAll D.Is list;
  Shut = λ list after. Unit {0};
}

-- phrases of D, each after a comma, and a token that closes them
abbrev pub Further : Class → TokenKind → Class
Further D close = record {
  Tree = List D.Tree;
  spell = λ list after. each_after_comma D.spell list (close ∷ after);
  tall = highest_by D.tall;
  Is = AreAll D.Is;
  Shut = λ list after. Unit {0};
}

-- at least one phrase of D, with commas between them and perhaps one after them, and a token that closes them
abbrev pub Trailing : Class → TokenKind → Class
Trailing D close = record {
  Tree = List D.Tree × Bool;
  spell = λ row after. with_commas D.spell row.0 (comma_text row.1 (close ∷ after));
  tall = λ row. highest_by D.tall row.0;
  Is = λ row. IsSomeList row.0 × AreAll D.Is row.0;
  Shut = λ row after. Unit {0};
}

-- phrases of D, each after a comma, perhaps one more comma, and a token that closes them
abbrev pub FurtherTrailing : Class → TokenKind → Class
FurtherTrailing D close = record {
  Tree = List D.Tree × Bool;
  spell = λ row after. each_after_comma D.spell row.0 (comma_text row.1 (close ∷ after));
  tall = λ row. highest_by D.tall row.0;
  Is = λ row. AreAll D.Is row.0;
  Shut = λ row after. Unit {0};
}
