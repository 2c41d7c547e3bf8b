-- Statements that read no answer of a system function but that of the call right before them (IEEE 1364-2005, clause 17.2; where such
-- calls stand is own).
use Rattle.std.specs.Prelude.{◌≡◌, Bool, true, false, not, ◌||◌, ◌&&◌, All}
use Rattle.vl_design.specs.Nodes.{has, some_have, target_has, task_has}
use Rattle.vl_design.specs.Syntax.{Exp, LastAnswer, Task, Fopen, Fread, Fgetc, Feof, Stm, Nop, Then, If, Case, For, Repeat, Set, Later, Sys, Items, NoItems, Labelled, Default, Flat}

-- the node is the answer of the system function called last
abbrev pub is_answer : Exp → Bool
is_answer LastAnswer = true
is_answer e = false

-- the call is of a function, which gives an answer
abbrev pub gives_answer : Task → Bool
gives_answer (Fopen name) = true
gives_answer (Fread k fd) = true
gives_answer (Fgetc fd) = true
gives_answer (Feof fd) = true
gives_answer task = false

-- the statement is such a call
abbrev pub answers : Stm → Bool
answers (Sys task) = gives_answer task
answers a = false

abbrev mutual
  -- what the statement does may hang on the answer that was there before it
  pub asks_before : Stm → Bool
  asks_before Nop = false
  asks_before (Then a b) = asks_before a || (not (answers a) && asks_before b)
  asks_before (If t a b) = has is_answer t || (asks_before a || asks_before b)
  asks_before (Case e items) = has is_answer e || items_ask_before items
  asks_before (For k start test step a) = asks_before start || (has is_answer test || (asks_before step || asks_before a))
  asks_before (Repeat n a) = asks_before a
  asks_before (Set t e) = target_has is_answer t || has is_answer e
  asks_before (Later t e) = target_has is_answer t || has is_answer e
  asks_before (Sys task) = task_has is_answer (λ x. false) task

  pub items_ask_before : Items → Bool
  items_ask_before NoItems = false
  items_ask_before (Labelled es a others) = some_have is_answer es || (asks_before a || items_ask_before others)
  items_ask_before (Default a others) = asks_before a || items_ask_before others

-- no process hangs on the answer that was there before it
pub record AsksBehindCalls (d : Flat) : Type 0 where
  pub procs : All (λ p. asks_before p.body ≡ false) d.procs
