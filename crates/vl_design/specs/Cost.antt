-- The cost of a design, over its loops turn by turn, without its initial processes (own).
use Rattle.std.specs.Prelude.{ℕ, zero, suc, ◌+◌, ◌*◌, Bool, true, false, List, [], ◌∷◌, length, sum_by, if◌then◌else◌, slice_get, Option, Some, None}
use Rattle.vl_design.specs.declared.design.SigKind.{SigKind}
use Rattle.vl_design.specs.declared.design.SigKind.TheVariants.{Net, Var, Comb, Mem}
use Rattle.vl_design.specs.Syntax.{Exp, Num, Label, Sig, Word, Pick, Slice, Un, Bin, Cond, Cat, Rep, Cast, Call, Time, LastAnswer, Exps, NoExps, MoreExps, Target, Whole, WordAt, PickAt, SliceAt, Several, Targets, NoTargets, MoreTargets, Piece, Literal, Shown, Task, Print, Finish, Save, Fopen, Fread, Fgetc, Feof, Fclose, ReadHex, Stm, Nop, Then, If, Case, For, Repeat, Set, Later, Sys, Items, NoItems, Labelled, Default, Fun, Proc, Flat}
use Rattle.vl_design.specs.Width.{Scope, signal_form}
use Rattle.vl_design.specs.State.{State}
use Rattle.vl_design.specs.Exec.{exec, goes_on, most_turns}
use Rattle.vl_design.specs.Functions.{scope_of, inner, zeros, fresh}
use Rattle.vl_design.specs.Queue.{is_init}

-- register bits, cells, memory bits
pub record Cost : Type 0 where
  pub regs : ℕ
  pub cells : ℕ
  pub mem : ℕ

-- ---- cells of expressions: 2 for each node

abbrev mutual
  -- body gives the cells of a function's body
  pub exp_cells : (ℕ → ℕ) → Exp → ℕ
  exp_cells body (Num v w s) = 2
  exp_cells body (Label v care w s) = 2
  exp_cells body (Sig k) = 2
  exp_cells body (Word m a) = 2 + (2 + exp_cells body a)
  exp_cells body (Pick b i from w) = 2 + (exp_cells body b + exp_cells body i)
  exp_cells body (Slice b low w) = 2 + exp_cells body b
  exp_cells body (Un op a) = 2 + exp_cells body a
  exp_cells body (Bin op a b) = 2 + (exp_cells body a + exp_cells body b)
  exp_cells body (Cond t a b) = 2 + (exp_cells body t + (exp_cells body a + exp_cells body b))
  exp_cells body (Cat es) = 2 + exps_cells body es
  exp_cells body (Rep n es) = 2 + exps_cells body es
  exp_cells body (Cast s a) = exp_cells body a
  -- 6 for each argument
  exp_cells body (Call f es) = 2 + (arguments_cells body es + body f)
  exp_cells body Time = 0
  exp_cells body LastAnswer = 0

  pub exps_cells : (ℕ → ℕ) → Exps → ℕ
  exps_cells body NoExps = 0
  exps_cells body (MoreExps e es) = exp_cells body e + exps_cells body es

  pub arguments_cells : (ℕ → ℕ) → Exps → ℕ
  arguments_cells body NoExps = 0
  arguments_cells body (MoreExps e es) = exp_cells body e + 6 + arguments_cells body es

-- ---- targets: their indices, and 2 for each part of a concatenation

abbrev mutual
  pub target_cells : (ℕ → ℕ) → Target → ℕ
  target_cells body (Whole k) = 0
  target_cells body (WordAt m a) = exp_cells body a
  target_cells body (PickAt b i from w) = target_cells body b + exp_cells body i
  target_cells body (SliceAt b low w) = target_cells body b
  target_cells body (Several ts) = targets_cells body ts

  pub targets_cells : (ℕ → ℕ) → Targets → ℕ
  targets_cells body NoTargets = 0
  targets_cells body (MoreTargets t ts) = 2 + (target_cells body t + targets_cells body ts)

-- ---- system calls: their arguments and 8; formats and file names count nothing

abbrev pub pieces_cells : (ℕ → ℕ) → List Piece → ℕ
pieces_cells body [] = 0
pieces_cells body (Literal text ∷ ps) = pieces_cells body ps
pieces_cells body (Shown format e ∷ ps) = exp_cells body e + pieces_cells body ps

-- a variable or a memory is a name, and the mode of `$fopen` and the name of `$save` are strings: 2 for each
abbrev pub task_cells : (ℕ → ℕ) → Task → ℕ
task_cells body (Print pieces newline) = 8 + pieces_cells body pieces
task_cells body (Finish es) = 8 + exps_cells body es
task_cells body (Save name) = 8 + 2
task_cells body (Fopen name) = 8 + 2
task_cells body (Fread k fd) = 8 + (2 + exp_cells body fd)
task_cells body (Fgetc fd) = 8 + exp_cells body fd
task_cells body (Feof fd) = 8 + exp_cells body fd
task_cells body (Fclose fd) = 8 + exp_cells body fd
task_cells body (ReadHex name m) = 8 + 2

-- ---- statements; a loop counts its body once for each turn

-- the sum of what the turns of a loop count
abbrev pub over_turns : {S : Type 0} → ℕ → (S → Bool) → (S → S) → (S → ℕ) → S → ℕ
over_turns zero test turn f s = 0
over_turns (suc n) test turn f s = elim (test s) [ true ↦ f s + over_turns n test turn f (turn s) | false ↦ 0 ]

-- each label and 3 for it
abbrev pub labels_cells : (ℕ → ℕ) → Exps → ℕ
labels_cells body NoExps = 0
labels_cells body (MoreExps e es) = exp_cells body e + 3 + labels_cells body es

module _ (scope : Scope) (body : ℕ → ℕ) where
  abbrev mutual
    -- s has the values of the loop variables
    pub stm_cells : Stm → State → ℕ
    stm_cells Nop s = 0
    stm_cells (Then a b) s = stm_cells a s + stm_cells b s
    stm_cells (If t a b) s = exp_cells body t + 4 + (stm_cells a s + stm_cells b s)
    stm_cells (Case e items) s = exp_cells body e + items_cells items s
    stm_cells (For k start test step a) s =
        over_turns most_turns (goes_on scope test) (exec scope step) (stm_cells a) (exec scope start s)
    stm_cells (Repeat n a) s = n * stm_cells a s
    stm_cells (Set t e) s = exp_cells body e + (target_cells body t + 6)
    stm_cells (Later t e) s = exp_cells body e + (target_cells body t + 6)
    stm_cells (Sys task) s = task_cells body task

    -- 4 for each item, and its labels
    pub items_cells : Items → State → ℕ
    items_cells NoItems s = 0
    items_cells (Labelled es a others) s = 4 + (labels_cells body es + (stm_cells a s + items_cells others s))
    items_cells (Default a others) s = 4 + (stm_cells a s + items_cells others s)

  -- the register bits of the nonblocking assignments to memory words: w + 33 for each
  abbrev mutual
    pub word_regs : Target → ℕ
    word_regs (Whole k) = 0
    word_regs (WordAt m a) = (signal_form scope.names.rows m).width + 33
    word_regs (PickAt b i from w) = word_regs b
    word_regs (SliceAt b low w) = word_regs b
    word_regs (Several ts) = words_regs ts

    pub words_regs : Targets → ℕ
    words_regs NoTargets = 0
    words_regs (MoreTargets t ts) = word_regs t + words_regs ts

  abbrev mutual
    pub stm_regs : Stm → State → ℕ
    stm_regs Nop s = 0
    stm_regs (Then a b) s = stm_regs a s + stm_regs b s
    stm_regs (If t a b) s = stm_regs a s + stm_regs b s
    stm_regs (Case e items) s = items_regs items s
    stm_regs (For k start test step a) s =
        over_turns most_turns (goes_on scope test) (exec scope step) (stm_regs a) (exec scope start s)
    stm_regs (Repeat n a) s = n * stm_regs a s
    stm_regs (Set t e) s = 0
    stm_regs (Later t e) s = word_regs t
    stm_regs (Sys task) s = 0

    pub items_regs : Items → State → ℕ
    items_regs NoItems s = 0
    items_regs (Labelled es a others) s = stm_regs a s + items_regs others s
    items_regs (Default a others) s = stm_regs a s + items_regs others s

-- ---- functions: the body counts at each call

abbrev pub body_of : Option Fun → (Fun → ℕ) → ℕ
body_of None f = 0
body_of (Some g) f = f g

abbrev pub body_within : Scope → ℕ → ℕ → ℕ
body_within scope zero f = 0
body_within scope (suc n) f =
    body_of (slice_get scope.names.funs f) (λ g. stm_cells (inner scope g) (body_within scope n) g.body (fresh (zeros (inner scope g).names.rows)))

-- the cells of a function's body, with calls nested as deep as there are functions
abbrev pub body_cells : Scope → ℕ → ℕ
body_cells scope f = body_within scope (length scope.names.funs) f

-- ---- designs

-- 4w for each variable
abbrev pub row_regs : SigKind → ℕ → ℕ
row_regs Var w = 4 * w
row_regs Comb w = 4 * w
row_regs k w = 0

-- 6 for each variable, memory and net
abbrev pub row_cells : SigKind → ℕ
row_cells Var = 6
row_cells Comb = 6
row_cells Mem = 6
row_cells Net = 6
row_cells k = 0

abbrev pub row_mem : SigKind → ℕ → ℕ → ℕ
row_mem Mem words w = words * w
row_mem k words w = 0

-- 4 for each process but the initial ones
abbrev pub proc_cells : Scope → State → Proc → ℕ
proc_cells scope s p = if is_init p.kind then 0 else 4 + stm_cells scope (body_cells scope) p.body s

abbrev pub proc_regs : Scope → State → Proc → ℕ
proc_regs scope s p = if is_init p.kind then 0 else stm_regs scope (body_cells scope) p.body s

-- the cost of a design
abbrev pub cost : Flat → Cost
cost d =
    let scope = scope_of d [] in
    let s = fresh (zeros d.rows) in
    record {
      regs = 96 + (sum_by (λ r. row_regs r.kind r.width) d.rows + sum_by (proc_regs scope s) d.procs);
      cells = 16 + (sum_by (λ r. row_cells r.kind) d.rows + sum_by (proc_cells scope s) d.procs);
      mem = sum_by (λ r. row_mem r.kind r.words r.width) d.rows;
    }
