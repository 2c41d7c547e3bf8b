-- The reading of a script, or the first line that has none with its least cause.
use Rattle.std.specs.Prelude.{ℕ, ◌+◌, ◌||◌, ◌==◌, Bool, if◌then◌else◌, List, [], ◌∷◌, ◌++◌, length, fold, Option, Some, None, Result, Ok, Err}
use Rattle.host_text.specs.Words.{lines}
use Rattle.host_text.specs.Statements.{Statement, says}
use Rattle.host_text.specs.declared.script.Script.{Script}
use Rattle.host_text.specs.Scripts.{nothing, with_statement}
use Rattle.host_text.specs.Causes.{cause_of}

-- a script with what one more line says
abbrev pub with_said : Script → Result (Option Statement) ℕ → Script
with_said s (Ok (Some x)) = with_statement s x
with_said s (Ok None) = s
with_said s (Err cause) = s

-- the script of some lines
abbrev pub script_of : List (List ℕ) → Script
script_of ls = fold (λ s l. with_said s (says l)) nothing ls

-- the least cause of what a line says, behind a script
abbrev pub cause_behind : Script → Result (Option Statement) ℕ → Option ℕ
cause_behind s (Ok (Some x)) = cause_of s x
cause_behind s (Ok None) = None
cause_behind s (Err cause) = Some cause

-- the least cause of a line below others
abbrev pub line_cause : List (List ℕ) → List ℕ → Option ℕ
line_cause above l = cause_behind (script_of above) (says l)

abbrev pub fault_or : ℕ → Option ℕ → Option (ℕ × ℕ) → Option (ℕ × ℕ)
fault_or line (Some cause) later = Some (line, cause)
fault_or line None later = later

-- the first of some lines below others that has a cause, counted from 1, and its least cause
abbrev pub first_fault : List (List ℕ) → List (List ℕ) → Option (ℕ × ℕ)
first_fault above [] = None
first_fault above (l ∷ ls) = fault_or (length above + 1) (line_cause above l) (first_fault (above ++ l ∷ []) ls)

-- no fabric or no tenant: the cause 9, at the line after the last
abbrev pub is_bare : Script → Bool
is_bare s = length s.fabrics == 0 || length s.tenants == 0

abbrev pub reading_of : List (List ℕ) → Option (ℕ × ℕ) → Result Script (ℕ × ℕ)
reading_of ls (Some fault) = Err fault
reading_of ls None = if is_bare (script_of ls) then Err (length ls + 1, 9) else Ok (script_of ls)

-- the script that bytes are, or their first fault
abbrev pub reading : List ℕ → Result Script (ℕ × ℕ)
reading bytes = reading_of (lines bytes) (first_fault [] (lines bytes))
