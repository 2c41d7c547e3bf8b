-- How many nodes trees have.
use Rattle.std.proofs.Common.{◌≡◌, ℕ, zero, suc, ◌+◌, ◌<◌, ◌≤◌, List, [], ◌∷◌, length, get_or, refl, sym, arith, subst}
use Rattle.vl_design.specs.declared.design.Expr.{Expr}
use Rattle.vl_design.specs.declared.design.Stmt.{Stmt}
use Rattle.vl_design.specs.declared.design.CaseItem.{CaseItem}
use Rattle.vl_design.specs.declared.design.Target.{Target as TargetCode}
use Rattle.vl_design.specs.Placed as p
use Rattle.vl_design.specs.Plainly as plain
use Rattle.vl_design.specs.Seen as seen
use Rattle.vl_design.specs.Syntax.{Exp, Num, Label, Sig, Word, Pick, Slice, Un, Bin, Cond, Cat, Rep, Cast, Call, Time, LastAnswer, Exps, NoExps, MoreExps, Target, Whole, WordAt, PickAt, SliceAt, Several, Targets, NoTargets, MoreTargets, Stm, Nop, Then, If, Case, For, Repeat, Set, Later, Sys, Items, NoItems, Labelled, Default}
use Rattle.vl_design.specs.Trees.{exp_of, exps_of, stm_of, then_of, target_of}
use Rattle.vl_run.specs.Cases.{items_of}
use Rattle.vl_run.specs.Lists.{targets_of}

abbrev mutual
  pub exp_size : Exp → ℕ
  exp_size (Num v w s) = 1
  exp_size (Label v care w s) = 1
  exp_size (Sig k) = 1
  exp_size (Word m a) = 1 + exp_size a
  exp_size (Pick b i from w) = 1 + (exp_size b + exp_size i)
  exp_size (Slice b low w) = 1 + exp_size b
  exp_size (Un op a) = 1 + exp_size a
  exp_size (Bin op a b) = 1 + (exp_size a + exp_size b)
  exp_size (Cond t a b) = 1 + (exp_size t + (exp_size a + exp_size b))
  exp_size (Cat es) = 1 + exps_size es
  exp_size (Rep n es) = 1 + exps_size es
  exp_size (Cast s a) = 1 + exp_size a
  exp_size (Call f es) = 1 + exps_size es
  exp_size Time = 1
  exp_size LastAnswer = 1

  pub exps_size : Exps → ℕ
  exps_size NoExps = 0
  exps_size (MoreExps e es) = exp_size e + exps_size es

abbrev mutual
  pub target_size : Target → ℕ
  target_size (Whole k) = 1
  target_size (WordAt m a) = 1
  target_size (PickAt b i from w) = 1 + exp_size i
  target_size (SliceAt b low w) = 1
  target_size (Several ts) = 1 + targets_size ts

  pub targets_size : Targets → ℕ
  targets_size NoTargets = 0
  targets_size (MoreTargets t ts) = target_size t + targets_size ts

abbrev mutual
  pub stm_size : Stm → ℕ
  stm_size Nop = 1
  stm_size (Then a b) = 1 + (stm_size a + stm_size b)
  stm_size (If t a b) = 1 + (exp_size t + (stm_size a + stm_size b))
  stm_size (Case e items) = 1 + (exp_size e + items_size items)
  stm_size (For k start test step a) = 1
  stm_size (Repeat n a) = 1
  stm_size (Set t e) = 1 + (target_size t + exp_size e)
  stm_size (Later t e) = 1
  stm_size (Sys task) = 1

  pub items_size : Items → ℕ
  items_size NoItems = 0
  items_size (Labelled es a others) = 1 + (exps_size es + (stm_size a + items_size others))
  items_size (Default a others) = 1 + (stm_size a + items_size others)

-- ---- a part of a list is no larger

pub exp-part : (xs : List Expr) (i : ℕ) (x : Expr) → i < length xs → x ≡ get_or xs i x → exp_size (exp_of x) ≤ exps_size (exps_of xs)
exp-part [] i x h e = absurd (omega arith)
exp-part (y ∷ ys) zero x h e = rw (sym e) (omega arith)
exp-part (y ∷ ys) (suc i) x h e = let k = exp-part ys i x (omega arith) e in omega (arith, k)

pub target-part : (xs : List TargetCode) (i : ℕ) (x : TargetCode) → i < length xs → x ≡ get_or xs i x → target_size (target_of x) ≤ targets_size (targets_of xs)
target-part [] i x h e = absurd (omega arith)
target-part (y ∷ ys) zero x h e = rw (sym e) (omega arith)
target-part (y ∷ ys) (suc i) x h e = let k = target-part ys i x (omega arith) e in omega (arith, k)

pub stm-part : (path : List ℕ) (xs : List Stmt) (i : ℕ) (x : Stmt) → i < length xs → x ≡ get_or xs i x → stm_size (stm_of path x) < stm_size (then_of path xs)
stm-part path [] i x h e = absurd (omega arith)
stm-part path (y ∷ ys) zero x h e = rw (sym e) (omega arith)
stm-part path (y ∷ ys) (suc i) x h e = let k = stm-part path ys i x (omega arith) e in omega (arith, k)

item-size : (es : p.Exps) (a : Stm) (others : Items) → items_size (plain.item es a others) ≡ 1 + (exps_size (plain.exps es) + (stm_size a + items_size others))
item-size p.NoExps a others = omega arith
item-size (p.MoreExps e es) a others = refl

pub item-part : (path : List ℕ) (xs : List CaseItem) (i : ℕ) (x : CaseItem) → i < length xs → x ≡ get_or xs i x →
    exps_size (exps_of x.labels.items) + stm_size (stm_of path x.body) < items_size (items_of path xs)
item-part path [] i x h e = absurd (omega arith)
item-part path (y ∷ ys) zero x h e = let k = item-size (seen.exps_of y.labels.items) (stm_of path y.body) (items_of path ys) in
    let F : CaseItem → Type 0 = λ z. exps_size (exps_of z.labels.items) + stm_size (stm_of path z.body) < items_size (items_of path (y ∷ ys)) in
    subst F (sym e) (omega (arith, k))
item-part path (y ∷ ys) (suc i) x h e =
    let k = item-size (seen.exps_of y.labels.items) (stm_of path y.body) (items_of path ys) in
    let l = item-part path ys i x (omega arith) e in
    omega (arith, k, l)
