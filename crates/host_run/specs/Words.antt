-- The words of the command line, after the program's name.
use Rattle.std.specs.Prelude.{ℕ, ◌+◌, ◌*◌, ◌-◌, Bool, false, not, ◌&&◌, nat_le, List, [], ◌∷◌, if◌then◌else◌, ◌==◌, Option, Some, None, option_map, codes}
use Rattle.std.specs.Str.{bytes_eq}

-- a script is to be run, or a source to be checked, or the demonstration to be run with so many tenants
pub data Command : Type 0 where
  Run : (path : List ℕ) → Command
  Check : (path : List ℕ) → Command
  Demo : (tenants : ℕ) → Command

-- the path of the file that a command names, if it names one
abbrev pub path_of : Command → Option (List ℕ)
path_of (Run path) = Some path
path_of (Check path) = Some path
path_of (Demo tenants) = None

-- a path isn't empty and doesn't begin with `-`
abbrev pub is_path : List ℕ → Bool
is_path [] = false
is_path (b ∷ bs) = not (b == 45)

-- a decimal digit
abbrev pub is_digit : ℕ → Bool
is_digit b = nat_le 48 b && nat_le b 57

-- the number that one or two decimal digits write
abbrev pub number_of : List ℕ → Option ℕ
number_of (d ∷ []) = if is_digit d then Some (d - 48) else None
number_of (d ∷ e ∷ []) = if is_digit d && is_digit e then Some ((d - 48) * 10 + (e - 48)) else None
number_of word = None

-- the demonstration has 1 to 32 tenants
abbrev pub among : Option ℕ → Option ℕ
among None = None
among (Some n) = if nat_le 1 n && nat_le n 32 then Some n else None

-- how many tenants a word says
abbrev pub tenants_of : List ℕ → Option ℕ
tenants_of word = among (number_of word)

-- `run PATH`, `check PATH` and `demo N`
abbrev pub command_by : List ℕ → List ℕ → Option Command
command_by verb word =
    if bytes_eq verb (codes "run") then Some (Run word)
    else if bytes_eq verb (codes "check") then Some (Check word)
    else if bytes_eq verb (codes "demo") then option_map Demo (tenants_of word)
    else None

-- none where the words are no such command
abbrev pub command_of : List (List ℕ) → Option Command
command_of (verb ∷ word ∷ []) = if is_path word then command_by verb word else None
command_of words = None
