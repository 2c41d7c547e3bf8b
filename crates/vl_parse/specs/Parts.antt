-- Parts of productions.
use Rattle.std.specs.Prelude.{ℕ, List, Option, Some, None, Ok, codes}
use Rattle.vl_tree.specs.vl_base.specs.declared.place.Place.{Place}
use Rattle.vl_tree.specs.declared.tree.Expression.{Expression}
use Rattle.vl_tree.specs.Reading.{behind, mark}
use Rattle.vl_pstmt.specs.vl_pexpr.specs.declared.parse.ParseFault.{ParseFault}
use Rattle.vl_pstmt.specs.vl_pexpr.specs.declared.parse.ParseFault.TheVariants as f
use Rattle.vl_tree.specs.declared.source_fault.Cause.{Cause}
use Rattle.vl_tree.specs.declared.source_fault.Cause.TheVariants as c
use Rattle.vl_tree.specs.declared.source_tree.FunctionPort.{FunctionPort}
use Rattle.vl_tree.specs.declared.source_tree.Connection.{Connection}
use Rattle.vl_tree.specs.declared.token.Token.{Token}
use Rattle.vl_tree.specs.declared.source_tree.Item.{Item}
use Rattle.vl_tree.specs.declared.source_tree.Edge.{Edge}
use Rattle.vl_tree.specs.declared.source_tree.Event.{Event}
use Rattle.vl_tree.specs.Parsers.{Outcome, Parser, and_then, next_or, ◌>>=◌, pure, must, if_ahead, is_mark, identifier, optional}
use Rattle.vl_tree.specs.Parsing.{whole, target, function_ports, connections}

-- [ "(" fport { "," fport } ")" ]
abbrev pub optional_function_ports : ℕ → Parser (Option (List FunctionPort))
optional_function_ports n = optional (mark (codes "(")) (λ _. function_ports (whole n) (target n) n >>= λ xs. must (mark (codes ")")) (λ _. pure xs))

-- [ expr ] before ")"
abbrev pub optional_value : ℕ → Parser (Option Expression)
optional_value n = if_ahead (is_mark (codes ")")) (pure None) (whole n >>= λ a. pure (Some a))

-- [ "#" "(" conns ")" ]
abbrev pub overrides : ℕ → Place → Parser (Option (List Connection))
overrides n p = optional (mark (codes "#")) (λ _. connections (whole n) (target n) n p)

-- an event at an edge, behind the word for it
abbrev pub edge_event : Place → Edge → Parser Event
edge_event p edge = identifier >>= λ i. pure (record { place = p; edge = Some edge; name = i })

-- an item that is there
abbrev pub there : Outcome Item → Outcome (Option Item)
there o = and_then o (λ a. pure (Some a))

-- the item that this reads behind its first token, if there is one
abbrev pub item_if : Option (Parser Item) → List Token → List Token → Outcome (Option Item)
item_if found rest ts = next_or (behind rest found) (λ q. q >>= λ a. pure (Some a)) (Ok (None, ts))

-- why tokens are no source, at this place
abbrev pub fault_of : Cause → Place → ParseFault
fault_of c.Syntax p = f.At p
fault_of c.Statements p = f.Limit p 3
fault_of c.Tokens p = f.Limit p 4
