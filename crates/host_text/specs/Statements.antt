-- The statements of a script, and the causes for which a line is none.
use Rattle.std.specs.Prelude.{ℕ, Bool, true, not, ◌&&◌, if◌then◌else◌, List, [], ◌∷◌, Option, Some, None, Result, Ok, Err, option_map, codes}
use Rattle.std.specs.Str.{bytes_eq}
use Rattle.std.specs.Str.Lines.{strip_carriage_return}
use Rattle.host_text.specs.declared.statement.Capacity.{Capacity}
use Rattle.host_text.specs.Words.{is_plain, words, is_name, is_save_name, is_path, number}

pub data Order : Type 0 where
  Move : (fabric : List ℕ) → Order
  Save : (name : List ℕ) → Order
  Stop : Order

pub data Statement : Type 0 where
  Fabric : (name : List ℕ) (capacity : Capacity) → Statement
  Tenant : (name source fabric : List ℕ) (budget : ℕ) → Statement
  File : (tenant name path : List ℕ) → Statement
  Resume : (tenant path : List ℕ) → Statement
  At : (tenant : List ℕ) (tick : ℕ) (order : Order) → Statement
  Free : (tenant : List ℕ) (order : Order) → Statement
  Watch : (tenant : List ℕ) → Statement

-- right words say a statement. Else the cause is 2 where a name or a path is bad, and 3 where a number is
abbrev pub checked : Bool → Option Statement → Result Statement ℕ
checked names None = if names then Err 3 else Err 2
checked names (Some said) = if names then Ok said else Err 2

abbrev pub capacity_of : Option ℕ → Option ℕ → Option ℕ → Option Capacity
capacity_of (Some r) (Some c) (Some m) = Some (record { registers = r; cells = c; memory = m })
capacity_of _ _ _ = None

abbrev pub capacity : List ℕ → List ℕ → List ℕ → Option Capacity
capacity registers cells memory = capacity_of (number registers) (number cells) (number memory)

-- fabric FABRIC REGS CELLS MEM
abbrev pub fabric : List (List ℕ) → Result Statement ℕ
fabric (name ∷ registers ∷ cells ∷ memory ∷ []) = checked (is_name name) (option_map (Fabric name) (capacity registers cells memory))
fabric words = Err 1

-- tenant TENANT PATH FABRIC TICKS
abbrev pub tenant : List (List ℕ) → Result Statement ℕ
tenant (name ∷ source ∷ fabric ∷ ticks ∷ []) = checked (is_name name && is_path source && is_name fabric) (option_map (Tenant name source fabric) (number ticks))
tenant words = Err 1

-- file TENANT PATH PATH
abbrev pub file : List (List ℕ) → Result Statement ℕ
file (tenant ∷ name ∷ path ∷ []) = checked (is_name tenant && is_path name && is_path path) (Some (File tenant name path))
file words = Err 1

-- resume TENANT PATH
abbrev pub resume : List (List ℕ) → Result Statement ℕ
resume (tenant ∷ path ∷ []) = checked (is_name tenant && is_path path) (Some (Resume tenant path))
resume words = Err 1

-- move FABRIC, save NAME, stop: whether the name is right, and the order
abbrev pub order : List ℕ → List (List ℕ) → Option (Bool × Order)
order verb [] = if bytes_eq verb (codes "stop") then Some (true, Stop) else None
order verb (name ∷ []) =
    if bytes_eq verb (codes "move") then Some (is_name name, Move name)
    else if bytes_eq verb (codes "save") then Some (is_save_name name, Save name)
    else None
order verb words = None

abbrev pub at_order : List ℕ → List ℕ → Option (Bool × Order) → Result Statement ℕ
at_order tenant tick None = Err 1
at_order tenant tick (Some o) = checked (is_name tenant && o.0) (option_map (λ n. At tenant n o.1) (number tick))

-- at TENANT TICK and an order
abbrev pub at : List (List ℕ) → Result Statement ℕ
at (tenant ∷ tick ∷ verb ∷ words) = at_order tenant tick (order verb words)
at words = Err 1

abbrev pub free_order : List ℕ → Option (Bool × Order) → Result Statement ℕ
free_order tenant None = Err 1
free_order tenant (Some o) = checked (is_name tenant && o.0) (Some (Free tenant o.1))

abbrev pub watch : List ℕ → List (List ℕ) → Result Statement ℕ
watch tenant [] = checked (is_name tenant) (Some (Watch tenant))
watch tenant words = Err 1

-- free move TENANT FABRIC, free save TENANT NAME, free stop TENANT, free watch TENANT
abbrev pub free : List (List ℕ) → Result Statement ℕ
free (verb ∷ tenant ∷ words) = if bytes_eq verb (codes "watch") then watch tenant words else free_order tenant (order verb words)
free words = Err 1

-- a statement by its first word and those behind it. Else the cause is 1: there is no such statement, or it has another number
-- of words
abbrev pub statement : List ℕ → List (List ℕ) → Result Statement ℕ
statement word words =
    if bytes_eq word (codes "at") then at words
    else if bytes_eq word (codes "file") then file words
    else if bytes_eq word (codes "free") then free words
    else if bytes_eq word (codes "tenant") then tenant words
    else if bytes_eq word (codes "fabric") then fabric words
    else if bytes_eq word (codes "resume") then resume words
    else Err 1

abbrev pub one_said : Result Statement ℕ → Result (Option Statement) ℕ
one_said (Ok said) = Ok (Some said)
one_said (Err cause) = Err cause

-- what words say; no words say nothing
abbrev pub said : List (List ℕ) → Result (Option Statement) ℕ
said [] = Ok None
said (word ∷ words) = one_said (statement word words)

-- what a line says, or its cause. A line that has more than 1,024 bytes, or a byte other than tab and 32 to 126, has the cause 8
-- and no other. A carriage return at its end counts as none of them
abbrev pub says : List ℕ → Result (Option Statement) ℕ
says line = let text = strip_carriage_return line in if is_plain text then said (words text) else Err 8
