-- How a system call takes its arguments, by its name (IEEE 1364-2005, clause 17).
use Rattle.std.specs.Prelude.{◌≡◌, ℕ, Bool, true, false, ◌||◌, if◌then◌else◌, List, [], codes}
use Rattle.std.specs.Str.{bytes_eq}
use Rattle.vl_design.specs.Calls.{finish_of, save_of, fread_of, read_hex_of, file_of}
use Rattle.vl_design.specs.Formats.{Arg, Str, Value, pieces_from}
use Rattle.vl_design.specs.Syntax.{Exp, Sig, Piece, Task, Print, Finish, Save, Fopen, Fgetc, Feof, Fclose}
use Rattle.vl_limits.specs.declared.tasks.Kind.{Kind}
use Rattle.vl_limits.specs.declared.tasks.Kind.TheVariants as k

abbrev pub is_signal : Arg → Bool
is_signal (Value (Sig j)) = true
is_signal a = false

abbrev pub is_value : Arg → Bool
is_value (Value e) = true
is_value a = false

abbrev pub is_text : Arg → Bool
is_text (Str text) = true
is_text a = false

abbrev pub other_kind : List ℕ → Kind
other_kind name =
    if bytes_eq name (codes "$fread") then k.Reads
    else if bytes_eq name (codes "$fgetc") || (bytes_eq name (codes "$feof") || bytes_eq name (codes "$fclose")) then k.Asks
    else if bytes_eq name (codes "$readmemh") then k.Loads
    else k.Unknown

abbrev pub kind_by : List ℕ → Kind
kind_by name =
    if bytes_eq name (codes "$display") || bytes_eq name (codes "$write") then k.Shows
    else if bytes_eq name (codes "$finish") then k.Finishes
    else if bytes_eq name (codes "$save") || bytes_eq name (codes "$fopen") then k.Names
    else other_kind name

-- a call that takes its arguments so
abbrev pub kind_task : Kind → List Arg → Task
kind_task k.Shows given = Print (pieces_from [] 0 given) false
kind_task k.Finishes given = Finish (finish_of given)
kind_task k.Names given = save_of given
kind_task k.Reads given = fread_of given
kind_task k.Asks given = file_of Fgetc given
kind_task k.Loads given = read_hex_of given
kind_task k.Unknown given = Print [] false

-- a count of calls by what they take alone
pub record CountsTaken (all : Task → ℕ) : Type 0 where
  pub newline : (pieces : List Piece) → all (Print pieces true) ≡ all (Print pieces false)
  pub fopen : (name : List ℕ) → all (Fopen name) ≡ all (Save name)
  pub feof : (fd : Exp) → all (Feof fd) ≡ all (Fgetc fd)
  pub fclose : (fd : Exp) → all (Fclose fd) ≡ all (Fgetc fd)
