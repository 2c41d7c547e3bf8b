-- Placed designs without their places: what the definitions of designs compute on (IEEE 1364-2005, clause 12).
use Rattle.std.specs.Prelude.{ℕ, List, [], ◌∷◌, map}
use Rattle.vl_base.specs.declared.bits.UnOp.TheVariants.{LogNot}
use Rattle.vl_design.specs.Syntax as d
use Rattle.vl_design.specs.Formats as f
use Rattle.vl_design.specs.Calls.{task_of}
use Rattle.vl_design.specs.Rows.{row_of}
use Rattle.vl_design.specs.declared.design.Event.{Event}
use Rattle.vl_design.specs.Placed as p

abbrev mutual
  pub exp : p.Exp → d.Exp
  exp (p.Num at v w s) = d.Num v w s
  exp (p.Label at v care w s) = d.Label v care w s
  exp (p.Sig at k) = d.Sig k
  exp (p.Word at m a) = d.Word m (exp a)
  exp (p.Pick at b i from w) = d.Pick (exp b) (exp i) from w
  exp (p.Slice at b low w) = d.Slice (exp b) low w
  exp (p.Un at op a) = d.Un op (exp a)
  exp (p.Bin at op a b) = d.Bin op (exp a) (exp b)
  exp (p.Cond at t a b) = d.Cond (exp t) (exp a) (exp b)
  exp (p.Cat at es) = d.Cat (exps es)
  exp (p.Rep at n es) = d.Rep n (exps es)
  exp (p.Cast at s a) = d.Cast s (exp a)
  exp (p.Call at k es) = d.Call k (exps es)
  exp (p.Time at) = d.Time
  exp (p.Sys at name args) = d.LastAnswer

  pub exps : p.Exps → d.Exps
  exps p.NoExps = d.NoExps
  exps (p.MoreExps e es) = d.MoreExps (exp e) (exps es)

abbrev pub args : p.Args → List f.Arg
args p.NoArgs = []
args (p.NullArg others) = f.Null ∷ args others
args (p.TextArg text others) = f.Str text ∷ args others
args (p.ValueArg e others) = f.Value (exp e) ∷ args others

abbrev mutual
  pub target : p.Target → d.Target
  target (p.Whole at k) = d.Whole k
  target (p.WordAt at m a) = d.WordAt m (exp a)
  target (p.PickAt at b i from w) = d.PickAt (target b) (exp i) from w
  target (p.SliceAt at b low w) = d.SliceAt (target b) low w
  target (p.Several at ts) = d.Several (targets ts)

  pub targets : p.Targets → d.Targets
  targets p.NoTargets = d.NoTargets
  targets (p.MoreTargets t ts) = d.MoreTargets (target t) (targets ts)

-- a statement whose right side or condition is a system function, also behind one `!`: the call comes first
abbrev pub called_first : List ℕ → p.Exp → d.Stm → d.Stm
called_first path (p.Sys at name given) a = d.Then (d.Sys (task_of path name (args given))) a
called_first path (p.Un at LogNot (p.Sys _ name given)) a = d.Then (d.Sys (task_of path name (args given))) a
called_first path e a = a

abbrev pub item : p.Exps → d.Stm → d.Items → d.Items
item p.NoExps a others = d.Default a others
item (p.MoreExps e es) a others = d.Labelled (exps (p.MoreExps e es)) a others

abbrev mutual
  -- a statement of an instance of this path
  pub stm : List ℕ → p.Stm → d.Stm
  stm path (p.Nop at) = d.Nop
  stm path (p.Seq at as') = stms path as'
  stm path (p.If at t a b) = called_first path t (d.If (exp t) (stm path a) (stm path b))
  stm path (p.Case at e is wild) = d.Case (exp e) (items path is)
  stm path (p.For at k start test step a) = d.For k (stm path start) (exp test) (stm path step) (stm path a)
  stm path (p.Repeat at n a) = d.Repeat n (stm path a)
  stm path (p.Set at t e) = called_first path e (d.Set (target t) (exp e))
  stm path (p.Later at t e) = called_first path e (d.Later (target t) (exp e))
  stm path (p.Task at name given) = d.Sys (task_of path name (args given))

  pub stms : List ℕ → p.Stms → d.Stm
  stms path p.NoStms = d.Nop
  stms path (p.MoreStms a as') = d.Then (stm path a) (stms path as')

  pub items : List ℕ → p.Items → d.Items
  items path p.NoItems = d.NoItems
  items path (p.MoreItems es a others) = item es (stm path a) (items path others)

abbrev pub fun : p.Func → d.Fun
fun f = record { inputs = f.inputs; result = f.result; locals = map row_of f.locals; body = stm [] f.body }

abbrev pub event : Event → d.Event
event e = record { signal = e.signal; edge = e.edge }

abbrev pub proc : p.Process → d.Proc
proc a = record { kind = a.kind; events = map event a.events; body = stm a.path a.body }

-- the design that the definitions of designs speak of
abbrev pub flat : p.Design → d.Flat
flat a = record { rows = map row_of a.signals; funs = map fun a.funcs; procs = map proc a.processes }
