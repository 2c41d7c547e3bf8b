-- Statements without loops count the same up to a cap, or one at most the other, over bodies that are so, whatever the scope, the
-- values of signals and the instance's path are.
use Rattle.std.proofs.Common.{◌≡◌, refl, sym, ap, ◌∙◌, ℕ, ◌+◌, min, List, [], ◌∷◌}
use Rattle.vl_design.specs.vl_base.specs.declared.bits.UnOp.TheVariants.{LogNot}
use Rattle.vl_design.specs.Calls.{task_of}
use Rattle.vl_design.specs.Cost.{exp_cells, exps_cells, arguments_cells, labels_cells, target_cells, targets_cells, pieces_cells, task_cells, stm_cells, items_cells, word_regs, words_regs, stm_regs, items_regs}
use Rattle.vl_design.specs.Placed as p
use Rattle.vl_design.specs.Plainly as plain
use Rattle.vl_design.specs.State.{State}
use Rattle.vl_design.specs.Syntax.{Exp, Num, Label, Sig, Word, Pick, Slice, Un, Bin, Cond, Cat, Rep, Cast, Call, Time, LastAnswer, Exps, NoExps, MoreExps, Target, Whole, WordAt, PickAt, SliceAt, Several, Targets, NoTargets, MoreTargets, Piece, Literal, Shown, Task, Print, Finish, Save, Fopen, Fread, Fgetc, Feof, Fclose, ReadHex, Stm}
use Rattle.vl_design.specs.Width.{Scope, signal_form}
use Rattle.vl_limits.proofs.Alike.{Keeps}
use Rattle.vl_cost.specs.Walks.{called_cells, HasNoLoop, HaveNoLoop, ItemsHaveNoLoop}
use Rattle.vl_cost.proofs.Calling.{task-free, first-cells, first-regs}
use Rattle.vl_cost.proofs.Counting.{item-cells, item-regs}

module _ (R : ℕ → ℕ → Type 0) (keeps : Keeps R) (b b' : ℕ → ℕ) (alike : (f : ℕ) → R (b f) (b' f)) where
  across : (x x' y y' : ℕ) → x ≡ x' → y ≡ y' → R x' y' → R x y
  across x x' y y' e f h = rw (e, f) h

  mutual
    exp_alike : (e : Exp) → R (exp_cells b e) (exp_cells b' e)
    exp_alike (Num v w s) = keeps.same _
    exp_alike (Label v care w s) = keeps.same _
    exp_alike (Sig k) = keeps.same _
    exp_alike (Word m a) = keeps.sum 2 2 _ _ (keeps.same _) (keeps.sum 2 2 _ _ (keeps.same _) (exp_alike a))
    exp_alike (Pick a i from w) = keeps.sum 2 2 _ _ (keeps.same _) (keeps.sum _ _ _ _ (exp_alike a) (exp_alike i))
    exp_alike (Slice a low w) = keeps.sum 2 2 _ _ (keeps.same _) (exp_alike a)
    exp_alike (Un op a) = keeps.sum 2 2 _ _ (keeps.same _) (exp_alike a)
    exp_alike (Bin op x y) = keeps.sum 2 2 _ _ (keeps.same _) (keeps.sum _ _ _ _ (exp_alike x) (exp_alike y))
    exp_alike (Cond t x y) = keeps.sum 2 2 _ _ (keeps.same _) (keeps.sum _ _ _ _ (exp_alike t) (keeps.sum _ _ _ _ (exp_alike x) (exp_alike y)))
    exp_alike (Cat es) = keeps.sum 2 2 _ _ (keeps.same _) (exps_alike es)
    exp_alike (Rep n es) = keeps.sum 2 2 _ _ (keeps.same _) (exps_alike es)
    exp_alike (Cast s a) = exp_alike a
    exp_alike (Call f es) = keeps.sum 2 2 _ _ (keeps.same _) (keeps.sum _ _ _ _ (arguments_alike es) (alike f))
    exp_alike Time = keeps.same _
    exp_alike LastAnswer = keeps.same _

    exps_alike : (es : Exps) → R (exps_cells b es) (exps_cells b' es)
    exps_alike NoExps = keeps.same _
    exps_alike (MoreExps e es) = keeps.sum _ _ _ _ (exp_alike e) (exps_alike es)

    arguments_alike : (es : Exps) → R (arguments_cells b es) (arguments_cells b' es)
    arguments_alike NoExps = keeps.same _
    arguments_alike (MoreExps e es) = keeps.sum _ _ _ _ (keeps.sum _ _ 6 6 (exp_alike e) (keeps.same _)) (arguments_alike es)

  labels_alike : (es : Exps) → R (labels_cells b es) (labels_cells b' es)
  labels_alike NoExps = keeps.same _
  labels_alike (MoreExps e es) = keeps.sum _ _ _ _ (keeps.sum _ _ 3 3 (exp_alike e) (keeps.same _)) (labels_alike es)

  mutual
    target_alike : (t : Target) → R (target_cells b t) (target_cells b' t)
    target_alike (Whole k) = keeps.same _
    target_alike (WordAt m a) = exp_alike a
    target_alike (PickAt t i from w) = keeps.sum _ _ _ _ (target_alike t) (exp_alike i)
    target_alike (SliceAt t low w) = target_alike t
    target_alike (Several ts) = targets_alike ts

    targets_alike : (ts : Targets) → R (targets_cells b ts) (targets_cells b' ts)
    targets_alike NoTargets = keeps.same _
    targets_alike (MoreTargets t ts) = keeps.sum 2 2 _ _ (keeps.same _) (keeps.sum _ _ _ _ (target_alike t) (targets_alike ts))

  pieces_alike : (ps : List Piece) → R (pieces_cells b ps) (pieces_cells b' ps)
  pieces_alike [] = keeps.same _
  pieces_alike (Literal text ∷ ps) = pieces_alike ps
  pieces_alike (Shown format e ∷ ps) = keeps.sum _ _ _ _ (exp_alike e) (pieces_alike ps)

  task_alike : (t : Task) → R (task_cells b t) (task_cells b' t)
  task_alike (Print ps newline) = keeps.sum 8 8 _ _ (keeps.same _) (pieces_alike ps)
  task_alike (Finish es) = keeps.sum 8 8 _ _ (keeps.same _) (exps_alike es)
  task_alike (Save name) = keeps.same _
  task_alike (Fopen name) = keeps.same _
  task_alike (Fread k fd) = keeps.sum 8 8 _ _ (keeps.same _) (keeps.sum 2 2 _ _ (keeps.same _) (exp_alike fd))
  task_alike (Fgetc fd) = keeps.sum 8 8 _ _ (keeps.same _) (exp_alike fd)
  task_alike (Feof fd) = keeps.sum 8 8 _ _ (keeps.same _) (exp_alike fd)
  task_alike (Fclose fd) = keeps.sum 8 8 _ _ (keeps.same _) (exp_alike fd)
  task_alike (ReadHex name m) = keeps.same _

  called_alike : (e : p.Exp) → R (called_cells b e) (called_cells b' e)
  called_alike (p.Sys at name given) = task_alike (task_of [] name (plain.args given))
  called_alike (p.Un at LogNot (p.Sys q name given)) = task_alike (task_of [] name (plain.args given))
  called_alike e = keeps.same _

  module _ (scope scope' : Scope) (s s' : State) (path : List ℕ) where
    first_alike : (e : p.Exp) (x y : Stm) → R (stm_cells scope b x s) (stm_cells scope' b' y s') → R (stm_cells scope b (plain.called_first path e x) s) (stm_cells scope' b' (plain.called_first [] e y) s')
    first_alike e x y h = across _ _ _ _ (first-cells scope b path e x s) (first-cells scope' b' [] e y s') (keeps.sum _ _ _ _ (called_alike e) h)

    mutual
      pub stm_alike : (a : p.Stm) → HasNoLoop a → R (stm_cells scope b (plain.stm path a) s) (stm_cells scope' b' (plain.stm [] a) s')
      stm_alike (p.Nop at) l = keeps.same _
      stm_alike (p.Seq at as') l = stms_alike as' l
      stm_alike (p.If at t x y) l = first_alike t _ _ (keeps.sum _ _ _ _ (keeps.sum _ _ 4 4 (exp_alike (plain.exp t)) (keeps.same _)) (keeps.sum _ _ _ _ (stm_alike x l.0) (stm_alike y l.1)))
      stm_alike (p.Case at x is wild) l = keeps.sum _ _ _ _ (exp_alike (plain.exp x)) (items_alike is l)
      stm_alike (p.For at j start test step a) l = absurd l
      stm_alike (p.Repeat at n a) l = absurd l
      stm_alike (p.Set at t x) l = first_alike x _ _ (keeps.sum _ _ _ _ (exp_alike (plain.exp x)) (keeps.sum _ _ 6 6 (target_alike (plain.target t)) (keeps.same _)))
      stm_alike (p.Later at t x) l = first_alike x _ _ (keeps.sum _ _ _ _ (exp_alike (plain.exp x)) (keeps.sum _ _ 6 6 (target_alike (plain.target t)) (keeps.same _)))
      stm_alike (p.Task at name given) l = across _ _ _ _ (task-free b path name (plain.args given)) refl (task_alike (task_of [] name (plain.args given)))

      stms_alike : (as' : p.Stms) → HaveNoLoop as' → R (stm_cells scope b (plain.stms path as') s) (stm_cells scope' b' (plain.stms [] as') s')
      stms_alike p.NoStms l = keeps.same _
      stms_alike (p.MoreStms a as') l = keeps.sum _ _ _ _ (stm_alike a l.0) (stms_alike as' l.1)

      items_alike : (is : p.Items) → ItemsHaveNoLoop is → R (items_cells scope b (plain.items path is) s) (items_cells scope' b' (plain.items [] is) s')
      items_alike p.NoItems l = keeps.same _
      items_alike (p.MoreItems es a others) l =
          across _ _ _ _ (item-cells scope b es (plain.stm path a) (plain.items path others) s) (item-cells scope' b' es (plain.stm [] a) (plain.items [] others) s')
          (keeps.sum 4 4 _ _ (keeps.same _) (keeps.sum _ _ _ _ (labels_alike (plain.exps es)) (keeps.sum _ _ _ _ (stm_alike a l.0) (items_alike others l.1))))

-- register bits are the same over the same signals
module _ (scope scope' : Scope) (same : scope.names.rows ≡ scope'.names.rows) (b b' : ℕ → ℕ) (s s' : State) (path : List ℕ) where
  mutual
    word_same : (t : Target) → word_regs scope b t ≡ word_regs scope' b' t
    word_same (Whole k) = refl
    word_same (WordAt m a) = ap (λ rows. (signal_form rows m).width + 33) same
    word_same (PickAt t i from w) = word_same t
    word_same (SliceAt t low w) = word_same t
    word_same (Several ts) = words_same ts

    words_same : (ts : Targets) → words_regs scope b ts ≡ words_regs scope' b' ts
    words_same NoTargets = refl
    words_same (MoreTargets t ts) = rw (word_same t, words_same ts) refl

  first_same : (e : p.Exp) (x y : Stm) → stm_regs scope b x s ≡ stm_regs scope' b' y s' → stm_regs scope b (plain.called_first path e x) s ≡ stm_regs scope' b' (plain.called_first [] e y) s'
  first_same e x y h = first-regs scope b path e x s ∙ (h ∙ sym (first-regs scope' b' [] e y s'))

  mutual
    pub stm_same : (a : p.Stm) → HasNoLoop a → stm_regs scope b (plain.stm path a) s ≡ stm_regs scope' b' (plain.stm [] a) s'
    stm_same (p.Nop at) l = refl
    stm_same (p.Seq at as') l = stms_same as' l
    stm_same (p.If at t x y) l = first_same t _ _ (rw (stm_same x l.0, stm_same y l.1) refl)
    stm_same (p.Case at x is wild) l = items_same is l
    stm_same (p.For at j start test step a) l = absurd l
    stm_same (p.Repeat at n a) l = absurd l
    stm_same (p.Set at t x) l = first_same x _ _ refl
    stm_same (p.Later at t x) l = first_same x _ _ (word_same (plain.target t))
    stm_same (p.Task at name given) l = refl

    stms_same : (as' : p.Stms) → HaveNoLoop as' → stm_regs scope b (plain.stms path as') s ≡ stm_regs scope' b' (plain.stms [] as') s'
    stms_same p.NoStms l = refl
    stms_same (p.MoreStms a as') l = rw (stm_same a l.0, stms_same as' l.1) refl

    items_same : (is : p.Items) → ItemsHaveNoLoop is → items_regs scope b (plain.items path is) s ≡ items_regs scope' b' (plain.items [] is) s'
    items_same p.NoItems l = refl
    items_same (p.MoreItems es a others) l =
        item-regs scope b es (plain.stm path a) (plain.items path others) s
        ∙ (rw (stm_same a l.0, items_same others l.1) refl
        ∙ sym (item-regs scope' b' es (plain.stm [] a) (plain.items [] others) s'))
