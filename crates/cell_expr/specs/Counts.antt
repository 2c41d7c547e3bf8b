-- At most how many cells expressions and statements are compiled to (own).
use Rattle.std.specs.Prelude.{ℕ, zero, suc, ◌+◌, ◌==◌, max, Bool, true, false, List, length, slice_get, Option, Some, None, if◌then◌else◌}
use Rattle.vl_base.specs.declared.bits.UnOp.{UnOp}
use Rattle.vl_base.specs.declared.bits.UnOp.TheVariants.{Neg, Not}
use Rattle.vl_base.specs.declared.bits.BinOp.{BinOp}
use Rattle.vl_base.specs.declared.bits.BinOp.TheVariants.{Lt, Le, Gt, Ge, Eq, Ne, LogAnd, LogOr}
use Rattle.vl_base.specs.Value.{needs_one_width}
use Rattle.vl_design.specs.Syntax.{Exp, Num, Label, Sig, Word, Pick, Slice, Un, Bin, Cond, Cat, Rep, Cast, Call, Time, LastAnswer, Exps, NoExps, MoreExps, Target, Whole, WordAt, PickAt, SliceAt, Several, Targets, NoTargets, MoreTargets, Stm, Nop, Then, If, Case, For, Repeat, Set, Later, Sys, Items, NoItems, Labelled, Default, Fun, Flat}
use Rattle.vl_design.specs.Width.{Names, form}

-- ---- which values are as wide as their context

-- a unary operator whose value is
abbrev pub unary_spans : UnOp → Bool
unary_spans Neg = true
unary_spans Not = true
unary_spans op = false

-- a binary one
abbrev pub binary_spans : BinOp → Bool
binary_spans Lt = false
binary_spans Le = false
binary_spans Gt = false
binary_spans Ge = false
binary_spans Eq = false
binary_spans Ne = false
binary_spans LogAnd = false
binary_spans LogOr = false
binary_spans op = true

-- ---- expressions, by how many cells their operands have that are read for themselves (x, y), and in any context (u, v)

-- two operands that are read at the longer width of both: one of them has it
abbrev pub pair_count : ℕ → ℕ → ℕ → ℕ → ℕ
pair_count x u y v = max (x + v) (u + y)

abbrev pub own_binary : BinOp → ℕ → ℕ → ℕ → ℕ → ℕ
own_binary op x u y v = (if needs_one_width op then pair_count x u y v else x + y) + 1

abbrev pub any_binary : BinOp → ℕ → ℕ → ℕ → ℕ → ℕ
any_binary op x u y v = if binary_spans op then u + (if needs_one_width op then v else y) + 1 else own_binary op x u y v + 1

abbrev mutual
  -- an expression that is read for itself; body gives the cells of a function's body
  pub own_count : (ℕ → ℕ) → Exp → ℕ
  own_count body (Num v w s) = 1
  own_count body (Label v care w s) = 1
  own_count body (Sig k) = 1
  own_count body (Word m a) = own_count body a + 1
  own_count body (Pick b i from w) = own_count body b + own_count body i + 1
  own_count body (Slice b low w) = own_count body b + 1
  own_count body (Un op a) = own_count body a + 1
  own_count body (Bin op a b) = own_binary op (own_count body a) (exp_count body a) (own_count body b) (exp_count body b)
  own_count body (Cond t a b) = own_count body t + pair_count (own_count body a) (exp_count body a) (own_count body b) (exp_count body b) + 1
  own_count body (Cat es) = parts_own body es
  own_count body (Rep n es) = parts_wide body es + 2
  own_count body (Cast s a) = own_count body a
  own_count body (Call f es) = body f + exps_count body es + 3
  own_count body Time = 0
  own_count body LastAnswer = 0

  -- in any context
  pub exp_count : (ℕ → ℕ) → Exp → ℕ
  exp_count body (Num v w s) = 1
  exp_count body (Label v care w s) = 1
  exp_count body (Sig k) = 1
  exp_count body (Word m a) = own_count body a + 2
  exp_count body (Pick b i from w) = own_count body b + own_count body i + 2
  exp_count body (Slice b low w) = own_count body b + 2
  exp_count body (Un op a) = (if unary_spans op then exp_count body a else own_count body a + 1) + 1
  exp_count body (Bin op a b) = any_binary op (own_count body a) (exp_count body a) (own_count body b) (exp_count body b)
  exp_count body (Cond t a b) = own_count body t + exp_count body a + exp_count body b + 1
  exp_count body (Cat es) = parts_own body es + 1
  exp_count body (Rep n es) = parts_wide body es + 2
  exp_count body (Cast s a) = own_count body a + 1
  exp_count body (Call f es) = body f + exps_count body es + 3
  exp_count body Time = 1
  exp_count body LastAnswer = 1

  -- read for itself and extended by zeros: a number, a name or copies at once, what else there is by one cell more
  pub wide_count : (ℕ → ℕ) → Exp → ℕ
  wide_count body (Num v w s) = 1
  wide_count body (Label v care w s) = 1
  wide_count body (Sig k) = 1
  wide_count body (Word m a) = own_count body a + 2
  wide_count body (Pick b i from w) = own_count body b + own_count body i + 2
  wide_count body (Slice b low w) = own_count body b + 2
  wide_count body (Un op a) = own_count body a + 2
  wide_count body (Bin op a b) = own_binary op (own_count body a) (exp_count body a) (own_count body b) (exp_count body b) + 1
  wide_count body (Cond t a b) = own_count body t + pair_count (own_count body a) (exp_count body a) (own_count body b) (exp_count body b) + 2
  wide_count body (Cat es) = parts_own body es + 1
  wide_count body (Rep n es) = parts_wide body es + 2
  wide_count body (Cast s a) = wide_count body a
  wide_count body (Call f es) = body f + exps_count body es + 4
  wide_count body Time = 1
  wide_count body LastAnswer = 1

  -- parts side by side: one cell for each behind the first
  pub parts_own : (ℕ → ℕ) → Exps → ℕ
  parts_own body NoExps = 0
  parts_own body (MoreExps e es) = own_count body e + rest_count body es

  -- the first one extended
  pub parts_wide : (ℕ → ℕ) → Exps → ℕ
  parts_wide body NoExps = 0
  parts_wide body (MoreExps e es) = wide_count body e + rest_count body es

  pub rest_count : (ℕ → ℕ) → Exps → ℕ
  rest_count body NoExps = 0
  rest_count body (MoreExps e es) = own_count body e + 1 + rest_count body es

  -- arguments, with one cell for each, which cuts it
  pub exps_count : (ℕ → ℕ) → Exps → ℕ
  exps_count body NoExps = 0
  exps_count body (MoreExps e es) = exp_count body e + 1 + exps_count body es

-- a number, a name or copies
abbrev pub is_plain : Exp → Bool
is_plain (Num v w s) = true
is_plain (Label v care w s) = true
is_plain (Sig k) = true
is_plain (Rep n es) = true
is_plain e = false

-- read for itself, and extended by so many zeros
abbrev pub first_count : (ℕ → ℕ) → ℕ → Exp → ℕ
first_count body more e = if more == 0 then own_count body e else wide_count body e

-- parts side by side, behind so many zeros
abbrev pub all_count : (ℕ → ℕ) → ℕ → Exps → ℕ
all_count body more es = if more == 0 then parts_own body es else parts_wide body es

-- an expression that is read in a context of so many bits
abbrev pub in_count : Names → (ℕ → ℕ) → ℕ → Exp → ℕ
in_count names body width e = if (form names e).width == width then own_count body e else exp_count body e

-- ---- assignments: the addresses of words and the indices of selects, read for themselves

abbrev mutual
  pub indices_count : (ℕ → ℕ) → Target → ℕ
  indices_count body (Whole k) = 0
  indices_count body (WordAt m a) = own_count body a
  indices_count body (PickAt b i from w) = indices_count body b + own_count body i
  indices_count body (SliceAt b low w) = indices_count body b
  indices_count body (Several ts) = all_indices_count body ts

  pub all_indices_count : (ℕ → ℕ) → Targets → ℕ
  all_indices_count body NoTargets = 0
  all_indices_count body (MoreTargets t ts) = indices_count body t + all_indices_count body ts

-- a word of a memory, or some bits of one
abbrev pub is_word : Target → Bool
is_word (WordAt m a) = true
is_word (PickAt b i from w) = is_word b
is_word (SliceAt b low w) = is_word b
is_word t = false

-- what a part of signals or words has, of which by an index (true) or from a constant bit on. One cell takes its bits. A blocking
-- assignment writes them by at most 3 cells. A nonblocking one begins an update value and a mask, if none is there, by one cell for
-- both, has one for the ones, and writes each by 2 cells; from a constant bit on the index of the path and one cell for each suffice. A
-- word is chosen by at most 7 cells and has at most 7 for its value and its mask
abbrev pub part_count : Bool → Bool → Bool → ℕ
part_count false word index = 4
part_count true true index = 15
part_count true false true = 7
part_count true false false = 5

-- the cells of the parts of a blocking assignment, or of a nonblocking one (true)
abbrev mutual
  pub parts_count : Target → Bool → ℕ
  parts_count (Whole k) later = part_count later false false
  parts_count (WordAt m a) later = part_count later true false
  parts_count (PickAt b i from w) later = part_count later (is_word b) true
  parts_count (SliceAt b low w) later = part_count later (is_word b) false
  parts_count (Several ts) later = all_parts_count ts later

  pub all_parts_count : Targets → Bool → ℕ
  all_parts_count NoTargets later = 0
  all_parts_count (MoreTargets t ts) later = parts_count t later + all_parts_count ts later

-- ---- statements

-- in which bits a label differs: one cell, and 2 more where only some bits are compared
abbrev pub label_count : Exp → ℕ
label_count (Label v care w s) = 3
label_count e = 1

-- and 1 gives the path behind it
abbrev pub labels_count : (ℕ → ℕ) → Exps → ℕ
labels_count body NoExps = 0
labels_count body (MoreExps e es) = exp_count body e + label_count e + 1 + labels_count body es

-- the subject of a case: its labels are its context
abbrev pub subject_count : (ℕ → ℕ) → Exp → Items → ℕ
subject_count body e NoItems = own_count body e
subject_count body e items = exp_count body e

abbrev mutual
  -- a test has the paths of two branches; loops and tasks aren't compiled here
  pub stm_count : (ℕ → ℕ) → Stm → ℕ
  stm_count body Nop = 0
  stm_count body (Then a b) = stm_count body a + stm_count body b
  stm_count body (If t a b) = own_count body t + 2 + (stm_count body a + stm_count body b)
  stm_count body (Case e items) = subject_count body e items + (items_count body items + default_count body items)
  stm_count body (For k start test step a) = 0
  stm_count body (Repeat n a) = 0
  stm_count body (Set t e) = exp_count body e + indices_count body t + parts_count t false
  stm_count body (Later t e) = exp_count body e + indices_count body t + parts_count t true
  stm_count body (Sys task) = 0

  -- items that have labels, each with a path
  pub items_count : (ℕ → ℕ) → Items → ℕ
  items_count body NoItems = 0
  items_count body (Labelled es a others) = labels_count body es + 1 + (stm_count body a + items_count body others)
  items_count body (Default a others) = items_count body others

  pub default_count : (ℕ → ℕ) → Items → ℕ
  default_count body NoItems = 0
  default_count body (Labelled es a others) = default_count body others
  default_count body (Default a others) = stm_count body a

-- ---- functions: the body counts at each call

abbrev pub fun_count : (ℕ → ℕ) → Option Fun → ℕ
fun_count body None = 0
fun_count body (Some f) = stm_count body f.body

-- where calls nest at most so deep
abbrev pub body_count : List Fun → ℕ → ℕ → ℕ
body_count funs zero f = 0
body_count funs (suc n) f = fun_count (body_count funs n) (slice_get funs f)

-- where calls nest as deep as there are functions
abbrev pub body_cells : Flat → ℕ → ℕ
body_cells d = body_count d.funs (length d.funs)
