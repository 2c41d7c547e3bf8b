-- What expressions and statements read and write, signal by signal (IEEE 1364-2005, clauses 5, 9 and 9.7.5).
use Rattle.std.specs.Prelude.{ℕ, Bool, true, false, ◌||◌, List}
use Rattle.vl_design.specs.Syntax.{Exp, Sig, Word, Time, LastAnswer, Exps, Target, Whole, WordAt, PickAt, SliceAt, Several, Targets, NoTargets, MoreTargets, Piece, Task, Fread, ReadHex, Stm, Nop, Then, If, Case, For, Repeat, Set, Later, Sys, Items, NoItems, Labelled, Default}
use Rattle.vl_design.specs.Nodes.{has, some_have, target_has, targets_have, pieces_have, task_has, stm_has, items_have}

-- ---- reads

-- the node is a name of a signal, or of a memory of which a word is read, that passes the test
abbrev pub is_read : (ℕ → Bool) → Exp → Bool
is_read p (Sig k) = p k
is_read p (Word m a) = p m
is_read p e = false

-- `$fread` reads its variable: a short read keeps the rest of it
abbrev pub reads_variable : (ℕ → Bool) → Task → Bool
reads_variable p (Fread k fd) = p k
reads_variable p task = false

-- the expression reads a signal that passes the test
abbrev pub reads : (ℕ → Bool) → Exp → Bool
reads p e = has (is_read p) e

abbrev pub some_reads : (ℕ → Bool) → Exps → Bool
some_reads p es = some_have (is_read p) es

-- the indices of a target read one
abbrev pub target_reads : (ℕ → Bool) → Target → Bool
target_reads p t = target_has (is_read p) t

abbrev pub targets_read : (ℕ → Bool) → Targets → Bool
targets_read p ts = targets_have (is_read p) ts

abbrev pub pieces_read : (ℕ → Bool) → List Piece → Bool
pieces_read p ps = pieces_have (is_read p) ps

abbrev pub task_reads : (ℕ → Bool) → Task → Bool
task_reads p task = task_has (is_read p) (reads_variable p) task

-- the statement reads one
abbrev pub stm_reads : (ℕ → Bool) → Stm → Bool
stm_reads p a = stm_has (is_read p) (reads_variable p) a

abbrev pub items_read : (ℕ → Bool) → Items → Bool
items_read p items = items_have (is_read p) (reads_variable p) items

-- ---- what reads the time, or the answer of a system function (own)

-- a function's body begins with neither
abbrev pub is_timed : Exp → Bool
is_timed Time = true
is_timed LastAnswer = true
is_timed e = false

abbrev pub stm_timed : Stm → Bool
stm_timed a = stm_has is_timed (λ task. false) a

-- ---- writes

abbrev mutual
  -- the target has a signal that passes the test
  pub target_writes : (ℕ → Bool) → Target → Bool
  target_writes p (Whole k) = p k
  target_writes p (WordAt m a) = p m
  target_writes p (PickAt b i from w) = target_writes p b
  target_writes p (SliceAt b low w) = target_writes p b
  target_writes p (Several ts) = targets_write p ts

  pub targets_write : (ℕ → Bool) → Targets → Bool
  targets_write p NoTargets = false
  targets_write p (MoreTargets t ts) = target_writes p t || targets_write p ts

abbrev pub task_writes : (ℕ → Bool) → Task → Bool
task_writes p (Fread k fd) = p k
task_writes p (ReadHex name m) = p m
task_writes p task = false

abbrev mutual
  -- the statement writes a signal that passes the test
  pub stm_writes : (ℕ → Bool) → Stm → Bool
  stm_writes p Nop = false
  stm_writes p (Then a b) = stm_writes p a || stm_writes p b
  stm_writes p (If t a b) = stm_writes p a || stm_writes p b
  stm_writes p (Case e items) = items_write p items
  stm_writes p (For k start test step a) = p k || (stm_writes p start || (stm_writes p step || stm_writes p a))
  stm_writes p (Repeat n a) = stm_writes p a
  stm_writes p (Set t e) = target_writes p t
  stm_writes p (Later t e) = target_writes p t
  stm_writes p (Sys task) = task_writes p task

  pub items_write : (ℕ → Bool) → Items → Bool
  items_write p NoItems = false
  items_write p (Labelled es a others) = stm_writes p a || items_write p others
  items_write p (Default a others) = stm_writes p a || items_write p others
