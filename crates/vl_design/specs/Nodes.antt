-- One walk through expressions, targets, system calls and statements: whether somewhere in them a test holds
-- (IEEE 1364-2005, clauses 5, 9 and 17).
use Rattle.std.specs.Prelude.{Bool, false, ◌||◌, List, [], ◌∷◌}
use Rattle.vl_design.specs.Syntax.{Exp, Num, Label, Sig, Word, Pick, Slice, Un, Bin, Cond, Cat, Rep, Cast, Call, Time, LastAnswer, Exps, NoExps, MoreExps, Target, Whole, WordAt, PickAt, SliceAt, Several, Targets, NoTargets, MoreTargets, Piece, Literal, Shown, Task, Print, Finish, Save, Fopen, Fread, Fgetc, Feof, Fclose, ReadHex, Stm, Nop, Then, If, Case, For, Repeat, Set, Later, Sys, Items, NoItems, Labelled, Default}

module _ (t : Exp → Bool) where
  abbrev mutual
    -- a node of the expression passes the test
    pub has : Exp → Bool
    has (Num v w s) = t (Num v w s)
    has (Label v care w s) = t (Label v care w s)
    has (Sig k) = t (Sig k)
    has (Word m a) = t (Word m a) || has a
    has (Pick b i from w) = t (Pick b i from w) || (has b || has i)
    has (Slice b low w) = t (Slice b low w) || has b
    has (Un op a) = t (Un op a) || has a
    has (Bin op a b) = t (Bin op a b) || (has a || has b)
    has (Cond c a b) = t (Cond c a b) || (has c || (has a || has b))
    has (Cat es) = t (Cat es) || some_have es
    has (Rep n es) = t (Rep n es) || some_have es
    has (Cast s a) = t (Cast s a) || has a
    has (Call f es) = t (Call f es) || some_have es
    has Time = t Time
    has LastAnswer = t LastAnswer

    pub some_have : Exps → Bool
    some_have NoExps = false
    some_have (MoreExps e es) = has e || some_have es

  abbrev mutual
    -- a node in an index of the target
    pub target_has : Target → Bool
    target_has (Whole k) = false
    target_has (WordAt m a) = has a
    target_has (PickAt b i from w) = target_has b || has i
    target_has (SliceAt b low w) = target_has b
    target_has (Several ts) = targets_have ts

    pub targets_have : Targets → Bool
    targets_have NoTargets = false
    targets_have (MoreTargets x xs) = target_has x || targets_have xs

  abbrev pub pieces_have : List Piece → Bool
  pieces_have [] = false
  pieces_have (Literal text ∷ ps) = pieces_have ps
  pieces_have (Shown format e ∷ ps) = has e || pieces_have ps

  -- a node in an argument of the call
  abbrev pub arguments_have : Task → Bool
  arguments_have (Print pieces newline) = pieces_have pieces
  arguments_have (Finish es) = some_have es
  arguments_have (Save name) = false
  arguments_have (Fopen name) = false
  arguments_have (Fread k fd) = has fd
  arguments_have (Fgetc fd) = has fd
  arguments_have (Feof fd) = has fd
  arguments_have (Fclose fd) = has fd
  arguments_have (ReadHex name m) = false

  module _ (u : Task → Bool) where
    -- the call itself passes its test, or a node in an argument
    abbrev pub task_has : Task → Bool
    task_has task = u task || arguments_have task

    abbrev mutual
      pub stm_has : Stm → Bool
      stm_has Nop = false
      stm_has (Then a b) = stm_has a || stm_has b
      stm_has (If c a b) = has c || (stm_has a || stm_has b)
      stm_has (Case e items) = has e || items_have items
      stm_has (For k start test step a) = stm_has start || (has test || (stm_has step || stm_has a))
      stm_has (Repeat n a) = stm_has a
      stm_has (Set x e) = target_has x || has e
      stm_has (Later x e) = target_has x || has e
      stm_has (Sys task) = task_has task

      pub items_have : Items → Bool
      items_have NoItems = false
      items_have (Labelled es a others) = some_have es || (stm_has a || items_have others)
      items_have (Default a others) = stm_has a || items_have others
