-- How many cells more than it costs a statement may be compiled to (own).
use Rattle.std.specs.Prelude.{ℕ, zero, suc, ◌+◌, ◌-◌, ◌*◌, Bool, true, false, List, [], ◌∷◌, length, slice_get, Option, Some, None, if◌then◌else◌}
use Rattle.vl_design.specs.Syntax.{Exp, Num, Label, Sig, Word, Pick, Slice, Un, Bin, Cond, Cat, Rep, Cast, Call, Time, LastAnswer, Exps, NoExps, MoreExps, Target, Whole, WordAt, PickAt, SliceAt, Several, Targets, NoTargets, MoreTargets, Piece, Literal, Shown, Task, Print, Fread, Fgetc, Feof, Fclose, Stm, Nop, Then, If, Case, For, Repeat, Set, Later, Sys, Items, NoItems, Labelled, Default, Fun, Flat}
use Rattle.cell_expr.specs.Counts.{parts_count, all_parts_count}

-- ---- expressions: 2 for each number of ticks

-- 3 for a call without arguments, which no source text has
abbrev pub call_slack : Exps → ℕ
call_slack NoExps = 3
call_slack (MoreExps e es) = 0

abbrev mutual
  pub exp_slack : (ℕ → ℕ) → Exp → ℕ
  exp_slack body (Num v w s) = 0
  exp_slack body (Label v care w s) = 0
  exp_slack body (Sig k) = 0
  exp_slack body (Word m a) = exp_slack body a
  exp_slack body (Pick b i from w) = exp_slack body b + exp_slack body i
  exp_slack body (Slice b low w) = exp_slack body b
  exp_slack body (Un op a) = exp_slack body a
  exp_slack body (Bin op a b) = exp_slack body a + exp_slack body b
  exp_slack body (Cond t a b) = exp_slack body t + (exp_slack body a + exp_slack body b)
  exp_slack body (Cat es) = exps_slack body es
  exp_slack body (Rep n es) = exps_slack body es
  exp_slack body (Cast s a) = exp_slack body a
  exp_slack body (Call f es) = body f + exps_slack body es + call_slack es
  exp_slack body Time = 2
  -- which no source text has inside of an expression
  exp_slack body LastAnswer = 2

  pub exps_slack : (ℕ → ℕ) → Exps → ℕ
  exps_slack body NoExps = 0
  exps_slack body (MoreExps e es) = exp_slack body e + exps_slack body es

-- a right side or a condition may be the answer of a system function, also behind an operator
abbrev pub is_answer : Exp → Bool
is_answer LastAnswer = true
is_answer e = false

abbrev pub is_called : Exp → Bool
is_called (Un op a) = is_answer a
is_called e = is_answer e

abbrev pub whole_slack : (ℕ → ℕ) → Exp → ℕ
whole_slack body e = if is_called e then 0 else exp_slack body e

-- ---- assignments

-- the indices and addresses of a left side
abbrev mutual
  pub indices_slack : (ℕ → ℕ) → Target → ℕ
  indices_slack body (Whole k) = 0
  indices_slack body (WordAt m a) = exp_slack body a
  indices_slack body (PickAt b i from w) = indices_slack body b + exp_slack body i
  indices_slack body (SliceAt b low w) = indices_slack body b
  indices_slack body (Several ts) = all_indices_slack body ts

  pub all_indices_slack : (ℕ → ℕ) → Targets → ℕ
  all_indices_slack body NoTargets = 0
  all_indices_slack body (MoreTargets t ts) = indices_slack body t + all_indices_slack body ts

-- how many parts a concatenation has, and those in it
abbrev mutual
  pub parts_of : Target → ℕ
  parts_of (Several ts) = all_parts_of ts
  parts_of t = 0

  pub all_parts_of : Targets → ℕ
  all_parts_of NoTargets = 0
  all_parts_of (MoreTargets t ts) = 1 + parts_of t + all_parts_of ts

-- an answer has one cell, though it costs nothing
abbrev pub answer_count : Exp → ℕ
answer_count e = if is_answer e then 1 else 0

-- what is written, blocking or nonblocking (true): the parts of a concatenation cost 2 each and 6 together; what else there is costs 6,
-- and its index has one cell less than it costs. So 3 for each part behind the third of a blocking assignment of whole variables or
-- constant slices, and behind the second of a nonblocking one; and 8 for a word of a memory
abbrev pub written_slack : Bool → Target → Exp → ℕ
written_slack later (Several ts) e = (answer_count e + all_parts_count ts later) - (6 + 2 * all_parts_of ts)
written_slack later t e = (answer_count e + parts_count t later) - 7

-- ---- system calls: what they are given

abbrev pub pieces_slack : (ℕ → ℕ) → List Piece → ℕ
pieces_slack body [] = 0
pieces_slack body (Literal text ∷ ps) = pieces_slack body ps
pieces_slack body (Shown format e ∷ ps) = exp_slack body e + pieces_slack body ps

abbrev pub task_slack : (ℕ → ℕ) → Task → ℕ
task_slack body (Print pieces newline) = pieces_slack body pieces
task_slack body (Fread k fd) = exp_slack body fd
task_slack body (Fgetc fd) = exp_slack body fd
task_slack body (Feof fd) = exp_slack body fd
task_slack body (Fclose fd) = exp_slack body fd
task_slack body task = 0

-- ---- statements

abbrev mutual
  pub stm_slack : (ℕ → ℕ) → Stm → ℕ
  stm_slack body Nop = 0
  stm_slack body (Then a b) = stm_slack body a + stm_slack body b
  stm_slack body (If t a b) = whole_slack body t + (stm_slack body a + stm_slack body b)
  stm_slack body (Case e items) = exp_slack body e + items_slack body items
  stm_slack body (For k start test step a) = 0
  stm_slack body (Repeat n a) = 0
  stm_slack body (Set t e) = whole_slack body e + indices_slack body t + written_slack false t e
  stm_slack body (Later t e) = whole_slack body e + indices_slack body t + written_slack true t e
  stm_slack body (Sys task) = task_slack body task

  pub items_slack : (ℕ → ℕ) → Items → ℕ
  items_slack body NoItems = 0
  items_slack body (Labelled es a others) = exps_slack body es + (stm_slack body a + items_slack body others)
  items_slack body (Default a others) = stm_slack body a + items_slack body others

-- ---- functions: the body counts at each call

abbrev pub fun_slack : (ℕ → ℕ) → Option Fun → ℕ
fun_slack body None = 0
fun_slack body (Some f) = stm_slack body f.body

abbrev pub body_slack : List Fun → ℕ → ℕ → ℕ
body_slack funs zero f = 0
body_slack funs (suc n) f = fun_slack (body_slack funs n) (slice_get funs f)

-- where calls nest as deep as there are functions
abbrev pub bodies_slack : Flat → ℕ → ℕ
bodies_slack d = body_slack d.funs (length d.funs)
