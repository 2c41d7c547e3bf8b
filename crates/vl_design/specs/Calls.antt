-- System calls by their names and arguments (IEEE 1364-2005, clause 17).
use Rattle.std.specs.Prelude.{ℕ, true, false, List, [], ◌∷◌, if◌then◌else◌, codes}
use Rattle.std.specs.Str.{bytes_eq}
use Rattle.vl_design.specs.Syntax.{Exp, Sig, Exps, NoExps, MoreExps, Task, Print, Finish, Save, Fopen, Fread, Fgetc, Feof, Fclose, ReadHex}
use Rattle.vl_design.specs.Formats.{Arg, Str, Value, pieces_from}

abbrev pub finish_of : List Arg → Exps
finish_of [] = NoExps
finish_of (Value e ∷ args) = MoreExps e (finish_of args)
finish_of (a ∷ args) = finish_of args

abbrev pub save_of : List Arg → Task
save_of (Str name ∷ args) = Save name
save_of args = Print [] false

abbrev pub fopen_of : List Arg → Task
fopen_of (Str name ∷ args) = Fopen name
fopen_of args = Print [] false

abbrev pub fread_of : List Arg → Task
fread_of (Value (Sig k) ∷ Value fd ∷ args) = Fread k fd
fread_of args = Print [] false

abbrev pub file_of : (Exp → Task) → List Arg → Task
file_of make (Value fd ∷ args) = make fd
file_of make args = Print [] false

abbrev pub read_hex_of : List Arg → Task
read_hex_of (Str name ∷ Value (Sig k) ∷ args) = ReadHex name k
read_hex_of args = Print [] false

-- a system call, by its name, in an instance of this path; one of an unknown name prints nothing (own)
abbrev pub task_of : List ℕ → List ℕ → List Arg → Task
task_of path name args =
    if bytes_eq name (codes "$display") then Print (pieces_from path 0 args) true
    else if bytes_eq name (codes "$write") then Print (pieces_from path 0 args) false
    else if bytes_eq name (codes "$finish") then Finish (finish_of args)
    else if bytes_eq name (codes "$save") then save_of args
    else if bytes_eq name (codes "$fopen") then fopen_of args
    else if bytes_eq name (codes "$fread") then fread_of args
    else if bytes_eq name (codes "$fgetc") then file_of Fgetc args
    else if bytes_eq name (codes "$feof") then file_of Feof args
    else if bytes_eq name (codes "$fclose") then file_of Fclose args
    else if bytes_eq name (codes "$readmemh") then read_hex_of args
    else Print [] false
