-- What system tasks do, by their names (IEEE 1364-2005, clause 17).
use Rattle.std.specs.Prelude.{ℕ, true, false, if◌then◌else◌, List, [], codes}
use Rattle.std.specs.Str.{bytes_eq}
use Rattle.vl_design.specs.Calls.{finish_of, save_of, fopen_of, fread_of, file_of, read_hex_of}
use Rattle.vl_design.specs.Formats.{Arg, pieces_from}
use Rattle.vl_design.specs.Syntax.{Task, Print, Finish, Fgetc, Feof, Fclose}
use Rattle.vl_run.specs.declared.task.Kind.{Kind}
use Rattle.vl_run.specs.declared.task.Kind.TheVariants as k

-- what `$save` or a task on files of this name does
abbrev pub file_kind_by : List ℕ → Kind
file_kind_by name =
    if bytes_eq name (codes "$save") then k.Save
    else if bytes_eq name (codes "$fopen") then k.Open
    else if bytes_eq name (codes "$fread") then k.Read
    else if bytes_eq name (codes "$fgetc") then k.Character
    else if bytes_eq name (codes "$feof") then k.Ended
    else if bytes_eq name (codes "$fclose") then k.Close
    else if bytes_eq name (codes "$readmemh") then k.Load
    else k.Other

-- what a task of this name does
abbrev pub kind_by : List ℕ → Kind
kind_by name =
    if bytes_eq name (codes "$display") then k.Display
    else if bytes_eq name (codes "$write") then k.Write
    else if bytes_eq name (codes "$finish") then k.Finish
    else file_kind_by name

abbrev pub task_by : Kind → List ℕ → List Arg → Task
task_by k.Display path args = Print (pieces_from path 0 args) true
task_by k.Write path args = Print (pieces_from path 0 args) false
task_by k.Finish path args = Finish (finish_of args)
task_by k.Save path args = save_of args
task_by k.Open path args = fopen_of args
task_by k.Read path args = fread_of args
task_by k.Character path args = file_of Fgetc args
task_by k.Ended path args = file_of Feof args
task_by k.Close path args = file_of Fclose args
task_by k.Load path args = read_hex_of args
task_by k.Other path args = Print [] false
