-- The plain trees of the program's lists.
use Rattle.std.proofs.Common.{◌≡◌, ◌<◌, ◌+◌, ℕ, List, [], ◌∷◌, map, length, drop, get_or, refl, sym, ◌∙◌, ap}
use Rattle.std.proofs.lemmas.List.{at_drop_more}
use Rattle.std.specs.declared.alloc.Global.{Global}
use Rattle.std.specs.declared.vec.Vec.{Vec}
use Rattle.vl_design.specs.declared.design.Stmt.{Stmt}
use Rattle.vl_design.specs.declared.design.StmtNode as s
use Rattle.vl_design.specs.declared.design.StmtNode.TheBlock as sb
use Rattle.vl_design.specs.declared.design.SysArg.{SysArg}
use Rattle.vl_design.specs.declared.design.SysArg.TheVariants as a
use Rattle.vl_design.specs.declared.design.Func.{Func}
use Rattle.vl_design.specs.declared.design.Process.{Process}
use Rattle.vl_design.specs.Syntax.{Then}
use Rattle.vl_design.specs.Formats.{Null, Str, Value}
use Rattle.vl_design.specs.Placed as p
use Rattle.vl_design.specs.Plainly as plain
use Rattle.vl_design.specs.Seen as seen
use Rattle.vl_design.specs.Trees.{stm_of, then_of, arg_of, fun_of, proc_of}

-- ---- placed trees

pub row_stms-items : {n : _} (k : s.Row_of-Stmt n) → seen.row_stms k ≡ seen.stms_of (s.items-the_row-Stmt n k)
row_stms-items s.end_of-Stmt = refl
row_stms-items (s.more_of-Stmt q x rest) = ap (p.MoreStms (seen.node_stm q x)) (row_stms-items rest)

-- a statement whose node is a list has the placed tree of the list
pub placed-Seq : (x : Stmt) (v : Vec Stmt Global) → x.node ≡ s.Seq v → seen.stm_of x ≡ p.Seq x.place (seen.stms_of v.items)
placed-Seq x v h =
    ap (seen.node_stm x.place) h
    ∙ ap (p.Seq x.place) (row_stms-items (sb.hidden-the_row-Stmt-0 v) ∙ ap seen.stms_of (s.items_hidden-the_row-Stmt-0 v))

-- ---- plain trees

-- a statement whose node is a list has the tree of the list
pub stm_of-Seq : (path : List ℕ) (x : Stmt) (v : Vec Stmt Global) → x.node ≡ s.Seq v → stm_of path x ≡ then_of path v.items
stm_of-Seq path x v h = ap (plain.stm path) (placed-Seq x v h)

-- the rest of a list of statements begins with the next one
pub then-more : (path : List ℕ) (xs : List Stmt) (i : ℕ) (x : Stmt) → i < length xs → x ≡ get_or xs i x → then_of path (drop i xs) ≡ Then (stm_of path x) (then_of path (drop (i + 1) xs))
then-more path xs i x h e = at_drop_more (then_of path) xs i x h ∙ ap (λ y. Then (stm_of path y) (then_of path (drop (i + 1) xs))) (sym e)

-- the arguments of a system call one by one
pub args-map : (xs : List SysArg) → plain.args (seen.args_of xs) ≡ map arg_of xs
args-map [] = refl
args-map (a.Null ∷ xs) = ap (λ z. Null ∷ z) (args-map xs)
args-map (a.Str text ∷ xs) = ap (λ z. Str text ∷ z) (args-map xs)
args-map (a.Value' at x ∷ xs) = ap (λ z. Value (plain.exp (seen.node_exp at x)) ∷ z) (args-map xs)

-- the functions and the processes of a design one by one
pub funs-map : (xs : List Func) → map plain.fun (map seen.func_of xs) ≡ map fun_of xs
funs-map [] = refl
funs-map (x ∷ xs) = ap (λ z. fun_of x ∷ z) (funs-map xs)

pub procs-map : (xs : List Process) → map plain.proc (map seen.process_of xs) ≡ map proc_of xs
procs-map [] = refl
procs-map (x ∷ xs) = ap (λ z. proc_of x ∷ z) (procs-map xs)
