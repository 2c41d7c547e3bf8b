-- Parts of statements that functions of their own read, where there are fewer than n tokens.
use Rattle.std.specs.Prelude.{ℕ, Bool, List, Option, Some, None, codes}
use Rattle.vl_tree.specs.vl_base.specs.declared.place.Place.{Place}
use Rattle.vl_tree.specs.declared.token.Token.{Token}
use Rattle.vl_tree.specs.declared.tree.Expression.{Expression}
use Rattle.vl_tree.specs.declared.tree.SystemArgument.{SystemArgument}
use Rattle.vl_tree.specs.Reading.{mark, behind}
use Rattle.vl_tree.specs.declared.source_tree.AssignMark.{AssignMark}
use Rattle.vl_tree.specs.declared.source_tree.CaseItem.{CaseItem}
use Rattle.vl_tree.specs.declared.source_tree.Statement.{Statement}
use Rattle.vl_tree.specs.Parsers.{Parser, ◌>>=◌, pure, if_next, must, next_or, list}
use Rattle.vl_tree.specs.Parsing.{whole, target, assign_mark, system_argument, labels, by_keyword, assign}

-- ("=" | "<=") expr ";"
abbrev pub assigned : ℕ → Parser (AssignMark × Expression)
assigned n = must (assign_mark (whole n) (target n) n) (λ kind. whole n >>= λ a. must (mark (codes ";")) (λ _. pure (kind, a)))

-- sarg
abbrev pub sarg : ℕ → Parser SystemArgument
sarg n = system_argument (whole n) (target n) n

-- [ "(" sarg { "," sarg } ")" ]
abbrev pub arguments : ℕ → Parser (Option (List SystemArgument))
arguments n = if_next (mark (codes "(")) (λ _. list (sarg n) n >>= λ given. must (mark (codes ")")) (λ _. pure (Some given))) (pure None)

-- what stands behind a reserved word that begins a statement, or an assignment from this word on
abbrev pub by_word : ℕ → Parser Statement → Place → List ℕ → List Token → Parser Statement
by_word n inner p name ts = λ rest. next_or (behind rest (by_keyword (whole n) (target n) n inner p name)) (λ q. q) (assign (whole n) (target n) n ts)

-- an item with labels, and whether a default may come behind it
abbrev pub labelled : ℕ → Parser Statement → Bool → Parser (CaseItem × Bool)
labelled n inner may = labels (whole n) (target n) n inner >>= λ a. pure (a, may)
