-- Where no node passes a test, none in a statement does: so where nothing passes a test, nothing that passes it is read, and
-- none is called.
use Rattle.std.proofs.Common.{◌≡◌, ℕ, Bool, false, List, [], ◌∷◌, refl}
use Rattle.vl_design.specs.Syntax.{Exp, Num, Label, Sig, Word, Pick, Slice, Un, Bin, Cond, Cat, Rep, Cast, Call, Time, LastAnswer, Exps, NoExps, MoreExps, Target, Whole, WordAt, PickAt, SliceAt, Several, Targets, NoTargets, MoreTargets, Piece, Literal, Shown, Task, Print, Finish, Save, Fopen, Fread, Fgetc, Feof, Fclose, ReadHex, Stm, Nop, Then, If, Case, For, Repeat, Set, Later, Sys, Items, NoItems, Labelled, Default}
use Rattle.vl_design.specs.Nodes.{has, some_have, target_has, targets_have, pieces_have, arguments_have, stm_has, items_have}
use Rattle.vl_design.specs.Reads.{is_read, reads_variable, stm_reads}
use Rattle.vl_design.specs.Nesting.{is_call, stm_calls}
use Rattle.vl_design.proofs.Resting.{or_none}

module _ (t : Exp → Bool) (none : (e : Exp) → t e ≡ false) where
  mutual
    has_none : (e : Exp) → has t e ≡ false
    has_none (Num v w signed) = none _
    has_none (Label v care w signed) = none _
    has_none (Sig k) = none _
    has_none (Word m a) = or_none _ _ (none _) (has_none a)
    has_none (Pick b i from w) = or_none _ _ (none _) (or_none _ _ (has_none b) (has_none i))
    has_none (Slice b low w) = or_none _ _ (none _) (has_none b)
    has_none (Un op a) = or_none _ _ (none _) (has_none a)
    has_none (Bin op a b) = or_none _ _ (none _) (or_none _ _ (has_none a) (has_none b))
    has_none (Cond c a b) = or_none _ _ (none _) (or_none _ _ (has_none c) (or_none _ _ (has_none a) (has_none b)))
    has_none (Cat es) = or_none _ _ (none _) (some_have_none es)
    has_none (Rep n es) = or_none _ _ (none _) (some_have_none es)
    has_none (Cast signed a) = or_none _ _ (none _) (has_none a)
    has_none (Call f es) = or_none _ _ (none _) (some_have_none es)
    has_none Time = none _
    has_none LastAnswer = none _

    some_have_none : (es : Exps) → some_have t es ≡ false
    some_have_none NoExps = refl
    some_have_none (MoreExps e es) = or_none _ _ (has_none e) (some_have_none es)

  mutual
    target_has_none : (x : Target) → target_has t x ≡ false
    target_has_none (Whole k) = refl
    target_has_none (WordAt m a) = has_none a
    target_has_none (PickAt b i from w) = or_none _ _ (target_has_none b) (has_none i)
    target_has_none (SliceAt b low w) = target_has_none b
    target_has_none (Several xs) = targets_have_none xs

    targets_have_none : (xs : Targets) → targets_have t xs ≡ false
    targets_have_none NoTargets = refl
    targets_have_none (MoreTargets x xs) = or_none _ _ (target_has_none x) (targets_have_none xs)

  pieces_have_none : (ps : List Piece) → pieces_have t ps ≡ false
  pieces_have_none [] = refl
  pieces_have_none (Literal text ∷ ps) = pieces_have_none ps
  pieces_have_none (Shown format e ∷ ps) = or_none _ _ (has_none e) (pieces_have_none ps)

  arguments_have_none : (task : Task) → arguments_have t task ≡ false
  arguments_have_none (Print pieces newline) = pieces_have_none pieces
  arguments_have_none (Finish es) = some_have_none es
  arguments_have_none (Save name) = refl
  arguments_have_none (Fopen name) = refl
  arguments_have_none (Fread k fd) = has_none fd
  arguments_have_none (Fgetc fd) = has_none fd
  arguments_have_none (Feof fd) = has_none fd
  arguments_have_none (Fclose fd) = has_none fd
  arguments_have_none (ReadHex name m) = refl

  module _ (u : Task → Bool) (none' : (task : Task) → u task ≡ false) where
    mutual
      pub stm_has_none : (a : Stm) → stm_has t u a ≡ false
      stm_has_none Nop = refl
      stm_has_none (Then a b) = or_none _ _ (stm_has_none a) (stm_has_none b)
      stm_has_none (If c a b) = or_none _ _ (has_none c) (or_none _ _ (stm_has_none a) (stm_has_none b))
      stm_has_none (Case e items) = or_none _ _ (has_none e) (items_have_none items)
      stm_has_none (For k start test step a) = or_none _ _ (stm_has_none start) (or_none _ _ (has_none test) (or_none _ _ (stm_has_none step) (stm_has_none a)))
      stm_has_none (Repeat n a) = stm_has_none a
      stm_has_none (Set x e) = or_none _ _ (target_has_none x) (has_none e)
      stm_has_none (Later x e) = or_none _ _ (target_has_none x) (has_none e)
      stm_has_none (Sys task) = or_none _ _ (none' task) (arguments_have_none task)

      items_have_none : (items : Items) → items_have t u items ≡ false
      items_have_none NoItems = refl
      items_have_none (Labelled es a others) = or_none _ _ (some_have_none es) (or_none _ _ (stm_has_none a) (items_have_none others))
      items_have_none (Default a others) = or_none _ _ (stm_has_none a) (items_have_none others)

module _ (p : ℕ → Bool) (none : (k : ℕ) → p k ≡ false) where
  is_read_none : (e : Exp) → is_read p e ≡ false
  is_read_none (Sig k) = none k
  is_read_none (Word m a) = none m
  is_read_none e = refl

  variable_none : (task : Task) → reads_variable p task ≡ false
  variable_none (Fread k fd) = none k
  variable_none task = refl

  is_call_none : (e : Exp) → is_call p e ≡ false
  is_call_none (Call f es) = none f
  is_call_none e = refl

  pub stm_reads_none : (a : Stm) → stm_reads p a ≡ false
  stm_reads_none a = stm_has_none (is_read p) is_read_none (reads_variable p) variable_none a

  pub stm_calls_none : (a : Stm) → stm_calls p a ≡ false
  stm_calls_none a = stm_has_none (is_call p) is_call_none (λ task. false) (λ task. refl) a
