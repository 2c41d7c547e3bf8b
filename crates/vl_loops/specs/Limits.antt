-- Limits 8 and 9 (own): how many turns a loop, and how many statements and nodes of expressions an unrolled design may have,
-- and the place of the first process, or function, that passes one. Statements are those of IEEE 1364-2005, clause 9, nodes
-- those that the cost counts.
use Rattle.std.specs.Prelude.{ℕ, zero, suc, ◌+◌, ◌*◌, nat_lt, List, [], ◌∷◌, length, if◌then◌else◌, slice_get, Option, Some, None}
use Rattle.vl_base.specs.declared.bits.UnOp.TheVariants.{LogNot}
use Rattle.vl_base.specs.declared.place.Place.{Place}
use Rattle.vl_base.specs.Places.{same_place}
use Rattle.vl_design.specs.declared.stop.Stop.{Stop}
use Rattle.vl_design.specs.declared.stop.Stop.TheVariants.{Limit}
use Rattle.vl_design.specs.Syntax.{Exp, Num, Label, Sig, Word, Pick, Slice, Un, Bin, Cond, Cat, Rep, Cast, Call, Time, LastAnswer, Exps, NoExps, MoreExps, Target, Whole, WordAt, PickAt, SliceAt, Several, Targets, NoTargets, MoreTargets, Piece, Literal, Shown, Task, Print, Finish, Save, Fopen, Fread, Fgetc, Feof, Fclose, ReadHex}
use Rattle.vl_design.specs.Calls.{task_of}
use Rattle.vl_design.specs.Width.{Scope}
use Rattle.vl_design.specs.State.{State}
use Rattle.vl_design.specs.Exec.{exec, goes_on, turns, most_turns}
use Rattle.vl_design.specs.Cost.{over_turns}
use Rattle.vl_design.specs.Functions.{scope_of, inner}
use Rattle.vl_design.specs.Placed as p
use Rattle.vl_design.specs.Plainly as plain
use Rattle.vl_loops.specs.Unroll.{still}

abbrev pub most_statements : ℕ
most_statements = 100000

abbrev pub most_nodes : ℕ
most_nodes = 1000000

-- what counts: each statement, a loop of more turns than are allowed, each node of an expression, and the body of a function
-- at each of its calls
pub record Counted : Type 0 where
  pub statement : ℕ
  pub endless : ℕ
  pub node : ℕ
  pub body : ℕ → ℕ

module _ (c : Counted) where
  -- ---- expressions

  abbrev mutual
    pub exp_count : Exp → ℕ
    exp_count (Num v w s) = c.node
    exp_count (Label v care w s) = c.node
    exp_count (Sig k) = c.node
    -- the select, and the memory's name
    exp_count (Word m a) = c.node + (c.node + exp_count a)
    exp_count (Pick b i from w) = c.node + (exp_count b + exp_count i)
    exp_count (Slice b low w) = c.node + exp_count b
    exp_count (Un op a) = c.node + exp_count a
    exp_count (Bin op a b) = c.node + (exp_count a + exp_count b)
    exp_count (Cond t a b) = c.node + (exp_count t + (exp_count a + exp_count b))
    exp_count (Cat es) = c.node + exps_count es
    exp_count (Rep n es) = c.node + exps_count es
    exp_count (Cast s a) = exp_count a
    exp_count (Call f es) = c.node + (exps_count es + c.body f)
    exp_count Time = 0
    exp_count LastAnswer = 0

    pub exps_count : Exps → ℕ
    exps_count NoExps = 0
    exps_count (MoreExps e es) = exp_count e + exps_count es

  -- the indices of a left side
  abbrev mutual
    pub target_count : Target → ℕ
    target_count (Whole k) = 0
    target_count (WordAt m a) = exp_count a
    target_count (PickAt b i from w) = target_count b + exp_count i
    target_count (SliceAt b low w) = target_count b
    target_count (Several ts) = targets_count ts

    pub targets_count : Targets → ℕ
    targets_count NoTargets = 0
    targets_count (MoreTargets t ts) = target_count t + targets_count ts

  abbrev pub pieces_count : List Piece → ℕ
  pieces_count [] = 0
  pieces_count (Literal text ∷ ps) = pieces_count ps
  pieces_count (Shown format e ∷ ps) = exp_count e + pieces_count ps

  -- the arguments of a call: a variable, a memory, a mode and the name of a snapshot are one node each
  abbrev pub task_count : Task → ℕ
  task_count (Print pieces newline) = pieces_count pieces
  task_count (Finish es) = exps_count es
  task_count (Save name) = c.node
  task_count (Fopen name) = c.node
  task_count (Fread k fd) = c.node + exp_count fd
  task_count (Fgetc fd) = exp_count fd
  task_count (Feof fd) = exp_count fd
  task_count (Fclose fd) = exp_count fd
  task_count (ReadHex name m) = c.node

  -- the call of a right side or a condition, also behind one `!`
  abbrev pub call_count : p.Exp → ℕ
  call_count (p.Sys at name given) = task_count (task_of [] name (plain.args given))
  call_count (p.Un at LogNot (p.Sys _ name given)) = task_count (task_of [] name (plain.args given))
  call_count e = 0

  -- a right side, a condition, a subject or a label
  abbrev pub whole_count : p.Exp → ℕ
  whole_count e = call_count e + exp_count (plain.exp e)

  -- ---- statements

  -- a null statement at the place of its `if` stands for an `else` that isn't there
  abbrev pub else_count : Place → p.Stm → ℕ → ℕ
  else_count at (p.Nop q) n = if same_place at q then 0 else n
  else_count at a n = n

  -- headers of loops count nothing
  module _ (scope : Scope) where
    abbrev mutual
      -- e has the values of the loop variables
      pub stm_count : p.Stm → State → ℕ
      stm_count (p.Nop at) e = c.statement
      stm_count (p.Seq at as') e = c.statement + stms_count as' e
      stm_count (p.If at t a b) e = c.statement + (whole_count t + (stm_count a e + else_count at b (stm_count b e)))
      stm_count (p.Case at x is wild) e = c.statement + (exp_count (plain.exp x) + items_count is e)
      stm_count (p.For at j start test step a) e =
          let on = goes_on scope (plain.exp test) in
          let next = exec scope (plain.stm [] step) in
          let first = exec scope (plain.stm [] start) e in
          c.statement + ((if on (turns most_turns on next first) then c.endless else 0) + over_turns most_turns on next (stm_count a) first)
      stm_count (p.Repeat at n a) e = c.statement + ((if nat_lt most_turns n then c.endless else 0) + n * stm_count a e)
      stm_count (p.Set at t x) e = c.statement + (whole_count x + target_count (plain.target t))
      stm_count (p.Later at t x) e = c.statement + (whole_count x + target_count (plain.target t))
      stm_count (p.Task at name given) e = c.statement + task_count (task_of [] name (plain.args given))

      pub stms_count : p.Stms → State → ℕ
      stms_count p.NoStms e = 0
      stms_count (p.MoreStms a as') e = stm_count a e + stms_count as' e

      pub items_count : p.Items → State → ℕ
      items_count p.NoItems e = 0
      items_count (p.MoreItems es a others) e = exps_count (plain.exps es) + (stm_count a e + items_count others e)

-- ---- functions: the body counts at each call

abbrev pub statements : (ℕ → ℕ) → Counted
statements body = record { statement = 1; endless = most_statements + 1; node = 0; body = body }

abbrev pub nodes : (ℕ → ℕ) → Counted
nodes body = record { statement = 0; endless = 0; node = 1; body = body }

abbrev pub func_count : ((ℕ → ℕ) → Counted) → Scope → (ℕ → ℕ) → Option p.Func → ℕ
func_count what scope body None = 0
func_count what scope body (Some f) = let within = inner scope (plain.fun f) in stm_count (what body) within f.body (still within)

-- what a function's body counts, with calls that nest at most so deep
abbrev pub body_within : ((ℕ → ℕ) → Counted) → Scope → List p.Func → ℕ → ℕ → ℕ
body_within what scope funcs zero f = 0
body_within what scope funcs (suc n) f = func_count what scope (body_within what scope funcs n) (slice_get funcs f)

-- calls nest as deep as there are functions
abbrev pub body_count : ((ℕ → ℕ) → Counted) → Scope → List p.Func → ℕ → ℕ
body_count what scope funcs f = body_within what scope funcs (length funcs) f

-- ---- designs

-- limit 8 at a place where there are more statements than are allowed, limit 9 where there are more nodes
abbrev pub limit_at : Place → ℕ → ℕ → Option Stop
limit_at at statements nodes = if nat_lt most_statements statements then Some (Limit at 8) else if nat_lt most_nodes nodes then Some (Limit at 9) else None

abbrev pub else_next : Option Stop → Option Stop → Option Stop
else_next None next = next
else_next (Some stop) next = Some stop

module _ (d : p.Design) where
  abbrev scope : Scope
  scope = scope_of (plain.flat d) []

  abbrev pub process_count : ((ℕ → ℕ) → Counted) → p.Process → ℕ
  process_count what a = stm_count (what (body_count what scope d.funcs)) scope a.body (still scope)

  -- the first process with which the design passes a limit
  abbrev pub processes_limit : ℕ → ℕ → List p.Process → Option Stop
  processes_limit m n [] = None
  processes_limit m n (a ∷ as') =
      let m' = m + process_count statements a in
      let n' = n + process_count nodes a in
      else_next (limit_at a.place m' n') (processes_limit m' n' as')

  -- the first function that passes a limit by itself: where a process reaches one, that process passed it
  abbrev pub funcs_limit : ℕ → List p.Func → Option Stop
  funcs_limit i [] = None
  funcs_limit i (f ∷ fs) = else_next (limit_at f.place (body_count statements scope d.funcs i) (body_count nodes scope d.funcs i)) (funcs_limit (i + 1) fs)

  -- the first limit that the design passes
  abbrev pub first_limit : Option Stop
  first_limit = else_next (processes_limit 0 0 d.processes) (funcs_limit 0 d.funcs)
