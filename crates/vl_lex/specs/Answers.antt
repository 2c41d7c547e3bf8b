-- What the lexer answers.
use Rattle.std.specs.Prelude.{◌≡◌, ℕ, List, Result, Ok, Err}
use Rattle.std.specs.Global.{Vec}
use Rattle.vl_tree.specs.declared.token.Token.{Token}
use Rattle.vl_tree.specs.Faults.{IsFirstFault, IsFirstLimit}
use Rattle.vl_lex.specs.declared.lex.LexFault.{LexFault}
use Rattle.vl_lex.specs.declared.lex.LexFault.TheVariants.{At, Limit, Memory}

-- the text has this fault first, or passes this limit
abbrev pub IsRefusal : List ℕ → LexFault → Type 0
IsRefusal text (At place cause) = IsFirstFault text place cause
IsRefusal text (Limit place limit) = IsFirstLimit text place limit
IsRefusal text Memory = Unit {0}

-- the answer is these tokens, unless memory ran out
abbrev pub Gives : Result (Vec Token) LexFault → List Token → Type 0
Gives (Ok found) tokens = found.items ≡ tokens
Gives (Err Memory) tokens = Unit {0}
Gives (Err (At place cause)) tokens = ⊥
Gives (Err (Limit place limit)) tokens = ⊥

-- the answer is this fault or limit, unless memory ran out
abbrev pub Refuses : Result (Vec Token) LexFault → LexFault → Type 0
Refuses (Ok found) fault = ⊥
Refuses (Err Memory) fault = Unit {0}
Refuses (Err (At place cause)) fault = At place cause ≡ fault
Refuses (Err (Limit place limit)) fault = Limit place limit ≡ fault
