-- Calls on files by their names (IEEE 1364-2005, clause 17.2).
use Rattle.std.specs.Prelude.{ℕ, false, List, [], if◌then◌else◌, codes}
use Rattle.std.specs.Str.{bytes_eq}
use Rattle.vl_design.specs.Calls.{fread_of, file_of, read_hex_of}
use Rattle.vl_design.specs.Formats.{Arg}
use Rattle.vl_design.specs.Syntax.{Exp, Task, Print, Fgetc, Feof, Fclose}
use Rattle.cell_emit.specs.cell_form.specs.declared.table.TrapCall.{TrapCall}
use Rattle.cell_emit.specs.cell_form.specs.declared.table.TrapCall.TheVariants as call
use Rattle.cell_calls.specs.declared.file.Query.{Query}
use Rattle.cell_calls.specs.declared.file.Query.TheVariants as a

-- a call that takes just a descriptor
abbrev pub query_task : Query → Exp → Task
query_task a.Character fd = Fgetc fd
query_task a.Ended fd = Feof fd
query_task a.Close fd = Fclose fd

-- as that of a trap
abbrev pub query_call : Query → TrapCall
query_call a.Character = call.Fgetc
query_call a.Ended = call.Feof
query_call a.Close = call.Fclose

-- a call on an open file or a memory; one of another name prints nothing
abbrev pub file_task : List ℕ → List Arg → Task
file_task name args =
    if bytes_eq name (codes "$fread") then fread_of args
    else if bytes_eq name (codes "$fgetc") then file_of Fgetc args
    else if bytes_eq name (codes "$feof") then file_of Feof args
    else if bytes_eq name (codes "$fclose") then file_of Fclose args
    else if bytes_eq name (codes "$readmemh") then read_hex_of args
    else Print [] false
