-- The program's parser, and what it makes of words (own).
use Rattle.std.specs.Prelude.{◌≡◌, ℕ, true, List, [], ◌∷◌, codes, Option, Some, option_map}
use Rattle.clap.specs.Words.{first_of, new_app, new_rule, subcommand_of, takes, with_rule, with_subcommand, App, Row, Rule, Shape, Text}

-- a value that must be there
abbrev pub operand_rule : Rule
operand_rule = record (new_rule (codes "operand")) { required = true }

-- the subcommand of a verb has it
abbrev pub verb_app : List ℕ → App
verb_app verb = with_rule (new_app verb) operand_rule

-- the program has no arguments of its own; the first word is no program's name, and there must be a subcommand
abbrev pub bare : Shape
bare = record (new_app (codes "fabhost")).top { no_binary_name = true; subcommand_required = true }

-- with two of its subcommands
abbrev pub program_of_files : App
program_of_files = with_subcommand (with_subcommand (record (new_app (codes "fabhost")) { top = bare }) (verb_app (codes "run")).top) (verb_app (codes "check")).top

-- with its three subcommands
abbrev pub program : App
program = with_subcommand program_of_files (verb_app (codes "demo")).top

-- the name of a subcommand, and its value
abbrev pub value_in : Option (Text × List Row) → Option (Text × Option Text)
value_in = option_map (λ p. (p.0, first_of (codes "operand") p.1))

-- the parser takes a verb and a word, and matches the subcommand of the verb, with the word as its value
pub record IsMatched (verb word : List ℕ) : Type 0 where
  pub taken : takes program (verb ∷ word ∷ []) ≡ true
  pub value : value_in (subcommand_of program (verb ∷ word ∷ [])) ≡ Some (verb, Some word)
