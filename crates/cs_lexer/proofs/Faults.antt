-- The first fault of a text as its refusal: for `tokens`.
use Rattle.std.proofs.Common.{◌≡◌, ℕ, ◌≤◌, List, length, Some}
use Rattle.std.specs.Prelude.{slice_get}
use Rattle.cs_limits.specs.declared.TheConstants.{MOST_TOKENS}
use Rattle.cs_ast.specs.declared.place.Place.{Place}
use Rattle.cs_ast.specs.declared.token.Token.{Token}
use Rattle.cs_lexer.specs.declared.lexeme.Fault.{Fault}
use Rattle.cs_lexer.specs.declared.lexeme.Fault.TheVariants.{BadByte, Unclosed, WideNumber, BadLine}
use Rattle.cs_lexer.specs.Cuttings.{IsRefusedAt}
use Rattle.cs_lexer.specs.Lexing.{IsFirstFault, IsRefused, refusal_of, tokens_of}

at_fault : (text : List ℕ) (fault : Fault) (place : Place) (file : List ℕ) → IsFirstFault text fault place file
    → IsRefused text (refusal_of fault place file)
at_fault text BadByte place file h = h
at_fault text Unclosed place file h = h
at_fault text WideNumber place file h = h
at_fault text BadLine place file h = h

pub first_fault : (text : List ℕ) (fault : Fault) (place : Place) (file : List ℕ) (files : List (List ℕ)) (pieces : List Token)
    → IsRefusedAt text files pieces place fault → slice_get files place.file ≡ Some file → length (tokens_of pieces) ≤ MOST_TOKENS
    → IsRefused text (refusal_of fault place file)
first_fault text fault place file files pieces refused named few =
    at_fault text fault place file (record { files = files; pieces = pieces; refused = refused; named = named; few = few })
