-- The placed tree of each of the program's trees (IEEE 1364-2005, clause 12).
use Rattle.std.specs.Prelude.{List, [], ◌∷◌, map}
use Rattle.vl_base.specs.declared.place.Place.{Place}
use Rattle.vl_design.specs.declared.design.Expr.{Expr}
use Rattle.vl_design.specs.declared.design.ExprNode as e
use Rattle.vl_design.specs.declared.design.Stmt.{Stmt}
use Rattle.vl_design.specs.declared.design.StmtNode as s
use Rattle.vl_design.specs.declared.design.SysArg.{SysArg}
use Rattle.vl_design.specs.declared.design.SysArg.TheVariants as a
use Rattle.vl_design.specs.declared.design.Target.{Target}
use Rattle.vl_design.specs.declared.design.TargetNode as t
use Rattle.vl_design.specs.declared.design.Func.{Func}
use Rattle.vl_design.specs.declared.design.Process.{Process}
use Rattle.vl_design.specs.declared.design.Design.{Design}
use Rattle.vl_design.specs.Placed as p

abbrev mutual
  pub node_exp : Place → e.ExprNode → p.Exp
  node_exp at (e.Num b signed) = p.Num at b.value b.width signed
  node_exp at (e.Label n) = p.Label at n.value n.care n.width n.signed
  node_exp at (e.Sig k) = p.Sig at k
  node_exp at (e.Word' k _ q a) = p.Word at k (node_exp q a)
  node_exp at (e.Pick' _ q b _ r i from w) = p.Pick at (node_exp q b) (node_exp r i) from w
  node_exp at (e.Slice' _ q b low w) = p.Slice at (node_exp q b) low w
  node_exp at (e.Un' op _ q a) = p.Un at op (node_exp q a)
  node_exp at (e.Bin' op _ q a _ r b) = p.Bin at op (node_exp q a) (node_exp r b)
  node_exp at (e.Cond' _ q t _ r a _ u b) = p.Cond at (node_exp q t) (node_exp r a) (node_exp u b)
  node_exp at (e.Cat' _ row) = p.Cat at (row_exps row)
  node_exp at (e.Rep' n _ row) = p.Rep at n (row_exps row)
  node_exp at (e.Cast' signed _ q a) = p.Cast at signed (node_exp q a)
  node_exp at (e.Call' f _ row) = p.Call at f (row_exps row)
  node_exp at e.Time = p.Time at
  node_exp at (e.Sys' name _ row) = p.Sys at name (row_args row)

  pub row_exps : {m : _} → e.Row_of-Expr m → p.Exps
  row_exps e.end_of-Expr = p.NoExps
  row_exps (e.more_of-Expr q x rest) = p.MoreExps (node_exp q x) (row_exps rest)

  pub row_args : {m : _} → e.Row_of-SysArg m → p.Args
  row_args e.end_of-SysArg = p.NoArgs
  row_args (e.more_of-SysArg x rest) = arg x (row_args rest)

  pub arg : SysArg → p.Args → p.Args
  arg a.Null others = p.NullArg others
  arg (a.Str text) others = p.TextArg text others
  arg (a.Value' q x) others = p.ValueArg (node_exp q x) others

abbrev pub exp_of : Expr → p.Exp
exp_of x = node_exp x.place x.node

abbrev pub exps_of : List Expr → p.Exps
exps_of [] = p.NoExps
exps_of (x ∷ xs) = p.MoreExps (exp_of x) (exps_of xs)

abbrev pub args_of : List SysArg → p.Args
args_of [] = p.NoArgs
args_of (x ∷ xs) = arg x (args_of xs)

abbrev mutual
  pub node_target : Place → t.TargetNode → p.Target
  node_target at (t.Sig k) = p.Whole at k
  node_target at (t.Word k x) = p.WordAt at k (exp_of x.value)
  node_target at (t.Pick' _ q b i from w) = p.PickAt at (node_target q b) (exp_of i.value) from w
  node_target at (t.Slice' _ q b low w) = p.SliceAt at (node_target q b) low w
  node_target at (t.List' _ row) = p.Several at (row_targets row)

  pub row_targets : {m : _} → t.Row_of-Target m → p.Targets
  row_targets t.end_of-Target = p.NoTargets
  row_targets (t.more_of-Target q x rest) = p.MoreTargets (node_target q x) (row_targets rest)

abbrev pub target_of : Target → p.Target
target_of x = node_target x.place x.node

abbrev mutual
  pub node_stm : Place → s.StmtNode → p.Stm
  node_stm at s.Nop = p.Nop at
  node_stm at (s.Seq' _ row) = p.Seq at (row_stms row)
  node_stm at (s.If' test _ q a _ r b) = p.If at (exp_of test) (node_stm q a) (node_stm r b)
  node_stm at (s.Case' x _ row wild) = p.Case at (exp_of x) (row_items row) wild
  node_stm at (s.For' k _ q start test _ r step _ u a) = p.For at k (node_stm q start) (exp_of test) (node_stm r step) (node_stm u a)
  node_stm at (s.Repeat' n _ q a) = p.Repeat at n (node_stm q a)
  node_stm at (s.Set target x) = p.Set at (target_of target) (exp_of x)
  node_stm at (s.Later target x) = p.Later at (target_of target) (exp_of x)
  node_stm at (s.Sys call) = p.Task at call.name (args_of call.args.items)

  pub row_stms : {m : _} → s.Row_of-Stmt m → p.Stms
  row_stms s.end_of-Stmt = p.NoStms
  row_stms (s.more_of-Stmt q x rest) = p.MoreStms (node_stm q x) (row_stms rest)

  pub row_items : {m : _} → s.Row_of-CaseItem m → p.Items
  row_items s.end_of-CaseItem = p.NoItems
  row_items (s.more_of-CaseItem labels q x rest) = p.MoreItems (exps_of labels.items) (node_stm q x) (row_items rest)

abbrev pub stm_of : Stmt → p.Stm
stm_of x = node_stm x.place x.node

abbrev pub stms_of : List Stmt → p.Stms
stms_of [] = p.NoStms
stms_of (x ∷ xs) = p.MoreStms (stm_of x) (stms_of xs)

abbrev pub func_of : Func → p.Func
func_of f = record { name = f.name; place = f.place; inputs = f.inputs; result = f.result; locals = f.locals; body = stm_of f.body }

abbrev pub process_of : Process → p.Process
process_of a = record { place = a.place; path = a.path; kind = a.kind; events = a.events; body = stm_of a.body }

-- the placed tree of a design
abbrev pub placed : Design → p.Design
placed d = record { top = d.top; signals = d.signals; funcs = map func_of d.funcs; processes = map process_of d.processes }
