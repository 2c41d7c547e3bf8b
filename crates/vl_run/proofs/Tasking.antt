-- System tasks, and what they do to machines.
use Rattle.std.proofs.Common.{◌≡◌, refl, ap, sym, ◌∙◌, ℕ, List, [], ◌∷◌, ◌++◌, append-nil, append_assoc, map, ◌+◌, Bool, true, false}
use Rattle.std.specs.Prelude.{if◌then◌else◌, codes}
use Rattle.std.specs.Str.{bytes_eq}
use Rattle.std.specs.declared.alloc.Global.{Global}
use Rattle.std.specs.declared.vec.Vec.{Vec}
use Rattle.std.proofs.lemmas.Grind.{common_steps}
use Rattle.vl_design.specs.Calls.{finish_of, save_of, fopen_of, fread_of, read_hex_of, file_of, task_of}
use Rattle.vl_design.specs.Formats.{Arg, pieces_from}
use Rattle.vl_design.specs.Syntax.{Exps, Piece, Task, Print, Finish, Fgetc, Feof, Fclose, Sys}
use Rattle.vl_design.specs.Tasks.{display_text, pieces_text}
use Rattle.vl_design.specs.Width.{Scope}
use Rattle.vl_run.specs.declared.machine.Machine.{Machine}
use Rattle.vl_run.specs.Kinds.{kind_by, task_by}
use Rattle.vl_run.specs.declared.task.Kind.{Kind}
use Rattle.vl_run.specs.declared.task.Kind.TheVariants as k
use Rattle.vl_design.specs.declared.design.SysArg.{SysArg}
use Rattle.vl_design.specs.Plainly as plain
use Rattle.vl_design.specs.Seen as seen
use Rattle.vl_design.specs.Trees.{arg_of}
use Rattle.vl_design.proofs.TreeLemmas.{args-map}
use Rattle.vl_run.specs.Machines.{sample_in, Does}

pub task-over : (scope : Scope) (task : Task) (m : Machine) → m.finished ≡ true → Does scope (Sys task) m m
task-over scope task m f = record { leads = λ c. (c, rw f refl) }

pub does-finish : (scope : Scope) (es : Exps) (m : Machine) → m.finished ≡ false → Does scope (Sys (Finish es)) m (record m { finished = true })
does-finish scope es m f = record { leads = λ c. (c + 1, rw f refl) }

pub does-print : (scope : Scope) (pieces : List Piece) (newline : Bool) (m : Machine) (printed : Vec ℕ Global) → m.finished ≡ false
    → printed.items ≡ m.printed.items ++ display_text scope (sample_in m) pieces newline
    → Does scope (Sys (Print pieces newline)) m (record m { printed = printed })
does-print scope pieces newline m printed f h = record { leads = λ c. (c + 1, rw (f, h) refl) }

pub print-line : (scope : Scope) (pieces : List Piece) (m : Machine) (printed : Vec ℕ Global) (text : List ℕ) → m.finished ≡ false
    → text ≡ m.printed.items ++ pieces_text scope (sample_in m) pieces → printed.items ≡ text ++ 10 ∷ []
    → Does scope (Sys (Print pieces true)) m (record m { printed = printed })
print-line scope pieces m printed text f h i =
    does-print scope pieces true m printed f (i ∙ (ap (λ k. k ++ 10 ∷ []) h ∙ append_assoc m.printed.items (pieces_text scope (sample_in m) pieces) (10 ∷ [])))

pub print-text : (scope : Scope) (pieces : List Piece) (m : Machine) (printed : Vec ℕ Global) → m.finished ≡ false
    → printed.items ≡ m.printed.items ++ pieces_text scope (sample_in m) pieces
    → Does scope (Sys (Print pieces false)) m (record m { printed = printed })
print-text scope pieces m printed f h =
    does-print scope pieces false m printed f (h ∙ ap (λ k. m.printed.items ++ k) (sym (append-nil (pieces_text scope (sample_in m) pieces))))

pub ruleset printing = (common_steps, print-line, print-text)

-- ---- a task by its name

kind-is : (path name : List ℕ) (args : List Arg) → task_of path name args ≡ task_by (kind_by name) path args
kind-is path name args = at (bytes_eq name (codes "$display")) (bytes_eq name (codes "$write")) (bytes_eq name (codes "$finish")) (bytes_eq name (codes "$save")) (bytes_eq name (codes "$fopen"))
    (bytes_eq name (codes "$fread")) (bytes_eq name (codes "$fgetc")) (bytes_eq name (codes "$feof")) (bytes_eq name (codes "$fclose")) (bytes_eq name (codes "$readmemh"))
  where
    late : (a b c d e f g : Bool) →
        (if a then save_of args else if b then fopen_of args else if c then fread_of args else if d then file_of Fgetc args
        else if e then file_of Feof args else if f then file_of Fclose args else if g then read_hex_of args else Print [] false)
        ≡ task_by (if a then k.Save else if b then k.Open else if c then k.Read else if d then k.Character else if e then k.Ended else if f then k.Close else if g then k.Load else k.Other) path args
    late true b c d e f g = refl
    late false true c d e f g = refl
    late false false true d e f g = refl
    late false false false true e f g = refl
    late false false false false true f g = refl
    late false false false false false true g = refl
    late false false false false false false true = refl
    late false false false false false false false = refl

    at : (x y z a b c d e f g : Bool) →
        (if x then Print (pieces_from path 0 args) true else if y then Print (pieces_from path 0 args) false else if z then Finish (finish_of args)
        else if a then save_of args else if b then fopen_of args else if c then fread_of args else if d then file_of Fgetc args
        else if e then file_of Feof args else if f then file_of Fclose args else if g then read_hex_of args else Print [] false)
        ≡ task_by (if x then k.Display else if y then k.Write else if z then k.Finish
        else if a then k.Save else if b then k.Open else if c then k.Read else if d then k.Character else if e then k.Ended else if f then k.Close else if g then k.Load else k.Other) path args
    at true y z a b c d e f g = refl
    at false true z a b c d e f g = refl
    at false false true a b c d e f g = refl
    at false false false a b c d e f g = late a b c d e f g

pub task-is : (path name : List ℕ) (items : List SysArg) (kind : Kind) (args : List SysArg) → kind ≡ kind_by name → args ≡ items
    → task_of path name (plain.args (seen.args_of items)) ≡ task_by kind path (map arg_of args)
task-is path name items kind args h i =
    let e : task_by (kind_by name) path (map arg_of items) ≡ task_by kind path (map arg_of args) = rw (h, i) refl in
    ap (task_of path name) (args-map items) ∙ (kind-is path name (map arg_of items) ∙ e)

pub print-none : (scope : Scope) (m : Machine) → m.finished ≡ false → Does scope (Sys (Print [] false)) m m
print-none scope m f = record { leads = λ c. (c + 1, rw (f, append-nil m.printed.items) refl) }

pub ruleset over = (task-over)

pub ruleset kinds = (common_steps, does-finish, print-none)
