-- Statements of combinational processes and functions, part by part.
use Rattle.std.proofs.Common.{◌≡◌, ◌<◌, ℕ, Bool, true, false, List, [], refl, ap, ◌∙◌, arith}
use Rattle.std.proofs.lemmas.Bool.{ltb-true}
use Rattle.std.specs.Prelude.{nat_lt}
use Rattle.vl_base.specs.declared.bits.UnOp.TheVariants.{LogNot}
use Rattle.std.specs.declared.alloc.Global.{Global}
use Rattle.std.specs.declared.boxed.Box.{Box}
use Rattle.vl_design.specs.declared.design.Expr.{Expr}
use Rattle.vl_design.specs.declared.design.SysCall.{SysCall}
use Rattle.vl_design.specs.declared.design.Target.{Target as TargetCode}
use Rattle.vl_design.specs.declared.design.Stmt.{Stmt}
use Rattle.vl_design.specs.declared.design.StmtNode as s
use Rattle.vl_design.specs.Placed as p
use Rattle.vl_design.specs.Plainly as plain
use Rattle.vl_design.specs.Plainly.{called_first}
use Rattle.vl_design.specs.Reads.{stm_writes, items_write, target_writes, targets_write}
use Rattle.vl_design.specs.Seen as seen
use Rattle.vl_design.specs.Syntax.{Exp, Target, Whole, WordAt, PickAt, SliceAt, Several, Targets, NoTargets, MoreTargets, Stm, Nop, Then, If, Case, For, Repeat, Set, Later, Sys, Items, NoItems, Labelled, Default}
use Rattle.vl_design.specs.Trees.{exp_of, stm_of, target_of}
use Rattle.vl_run.proofs.Statements.{if-of, set-of, later-of, for-of, repeat-of, task-of}
use Rattle.vl_paths.specs.Nets.{AreNetItems, IsPlain, ArePlain, IsBase}
use Rattle.cell_expr.specs.Bodies.{IsNet, IsSegment, AreSegmentItems, IsAny, assignment}
use Rattle.cell_emit.specs.vl_sites.specs.Stored.{target_stored, targets_stored}
use Rattle.vl_base.proofs.Numbers.{lt_zero as none-below}

-- ---- statements with nonblocking assignments, and those without

mutual
  pub net-segment : (P : Target → Type 0) (a : Stm) → IsNet a → IsSegment P a
  net-segment P Nop h = tt
  net-segment P (Then a b) h = (net-segment P a h.0, net-segment P b h.1)
  net-segment P (If t a b) h = (net-segment P a h.0, net-segment P b h.1)
  net-segment P (Case e items) h = net-items P items h
  net-segment P (Set t e) h = h
  net-segment P (For k start test step a) h = absurd h
  net-segment P (Repeat n a) h = absurd h
  net-segment P (Later t e) h = absurd h
  net-segment P (Sys task) h = absurd h

  net-items : (P : Target → Type 0) (items : Items) → AreNetItems (λ k. false) items → AreSegmentItems P items
  net-items P NoItems h = tt
  net-items P (Labelled es a others) h = (net-segment P a h.0, net-items P others h.1)
  net-items P (Default a others) h = (net-segment P a h.0, net-items P others h.1)

mutual
  -- where more is allowed of targets
  pub segment-weaker : (P Q : Target → Type 0) → ((t : Target) → P t → Q t) → (a : Stm) → IsSegment P a → IsSegment Q a
  segment-weaker P Q w Nop h = tt
  segment-weaker P Q w (Then a b) h = (segment-weaker P Q w a h.0, segment-weaker P Q w b h.1)
  segment-weaker P Q w (If t a b) h = (segment-weaker P Q w a h.0, segment-weaker P Q w b h.1)
  segment-weaker P Q w (Case e items) h = items-weaker P Q w items h
  segment-weaker P Q w (Set t e) h = h
  segment-weaker P Q w (Later t e) h = w t h
  segment-weaker P Q w (For k start test step a) h = absurd h
  segment-weaker P Q w (Repeat n a) h = absurd h
  segment-weaker P Q w (Sys task) h = absurd h

  items-weaker : (P Q : Target → Type 0) → ((t : Target) → P t → Q t) → (items : Items) → AreSegmentItems P items → AreSegmentItems Q items
  items-weaker P Q w NoItems h = tt
  items-weaker P Q w (Labelled es a others) h = (segment-weaker P Q w a h.0, items-weaker P Q w others h.1)
  items-weaker P Q w (Default a others) h = (segment-weaker P Q w a h.0, items-weaker P Q w others h.1)

-- ---- a statement by its node

module _ (P : Target → Type 0) where
  called-not : (path : List ℕ) (e : p.Exp) (a : Stm) → IsSegment P (called_first path e a) → called_first path e a ≡ a
  called-not path (p.Sys at name given) a h = absurd h.0
  called-not path (p.Un at LogNot (p.Sys q name given)) a h = absurd h.0
  called-not path e a h = refl

  -- a test, or an assignment, calls no system function before
  pub if-segment : (path : List ℕ) (x : Stmt) (t : Expr) (a b : Box Stmt Global) → x.node ≡ s.If t a b → IsSegment P (stm_of path x) → stm_of path x ≡ If (exp_of t) (stm_of path a.value) (stm_of path b.value)
  if-segment path x t a b h n =
      let e = if-of path x t a b h in
      let m = rw e at n in
      e ∙ called-not path (seen.exp_of t) (If (exp_of t) (stm_of path a.value) (stm_of path b.value)) m

  pub set-segment : (path : List ℕ) (x : Stmt) (t : TargetCode) (e : Expr) → x.node ≡ s.Set t e → IsSegment P (stm_of path x) → stm_of path x ≡ Set (target_of t) (exp_of e)
  set-segment path x t e h n =
      let i = set-of path x t e h in
      let m = rw i at n in
      i ∙ called-not path (seen.exp_of e) (Set (target_of t) (exp_of e)) m

  pub later-segment : (path : List ℕ) (x : Stmt) (t : TargetCode) (e : Expr) → x.node ≡ s.Later t e → IsSegment P (stm_of path x) → stm_of path x ≡ Later (target_of t) (exp_of e)
  later-segment path x t e h n =
      let i = later-of path x t e h in
      let m = rw i at n in
      i ∙ called-not path (seen.exp_of e) (Later (target_of t) (exp_of e)) m

  -- others aren't such
  pub no-for : (path : List ℕ) (x : Stmt) (k : ℕ) (start : Box Stmt Global) (test : Expr) (step a : Box Stmt Global) → x.node ≡ s.For k start test step a → IsSegment P (stm_of path x) → ⊥
  no-for path x k start test step a h n = let m = rw (for-of path x k start test step a h) at n in absurd m

  pub no-repeat : (path : List ℕ) (x : Stmt) (k : ℕ) (a : Box Stmt Global) → x.node ≡ s.Repeat k a → IsSegment P (stm_of path x) → ⊥
  no-repeat path x k a h n = let m = rw (repeat-of path x k a h) at n in absurd m

  pub no-task : (path : List ℕ) (x : Stmt) (call : SysCall) → x.node ≡ s.Sys call → IsSegment P (stm_of path x) → ⊥
  no-task path x call h n = let m = rw (task-of path x call h) at n in absurd m

  -- ---- the path of the instance doesn't matter

  called-same : (path other : List ℕ) (e : p.Exp) (a b : Stm) → a ≡ b → IsSegment P (called_first path e a) → called_first path e a ≡ called_first other e b
  called-same path other (p.Sys at name given) a b h n = absurd n.0
  called-same path other (p.Un at LogNot (p.Sys q name given)) a b h n = absurd n.0
  called-same path other e a b h n = h

  called-in : (path : List ℕ) (e : p.Exp) (a : Stm) → IsSegment P (called_first path e a) → IsSegment P a
  called-in path (p.Sys at name given) a n = absurd n.0
  called-in path (p.Un at LogNot (p.Sys q name given)) a n = absurd n.0
  called-in path e a n = n

  mutual
    segment-paths : (path other : List ℕ) (a : p.Stm) → IsSegment P (plain.stm path a) → plain.stm path a ≡ plain.stm other a
    segment-paths path other (p.Nop at) n = refl
    segment-paths path other (p.Seq at as') n = segments-paths path other as' n
    segment-paths path other (p.If at t a b) n =
        let m = called-in path t (If (plain.exp t) (plain.stm path a) (plain.stm path b)) n in
        called-same path other t _ _ (ap (λ z. If (plain.exp t) z (plain.stm path b)) (segment-paths path other a m.0) ∙ ap (If (plain.exp t) (plain.stm other a)) (segment-paths path other b m.1)) n
    segment-paths path other (p.Case at e is wild) n = ap (Case (plain.exp e)) (items-paths path other is n)
    segment-paths path other (p.For at k start test step a) n = absurd n
    segment-paths path other (p.Repeat at k a) n = absurd n
    segment-paths path other (p.Set at t e) n = called-same path other e _ _ refl n
    segment-paths path other (p.Later at t e) n = called-same path other e _ _ refl n
    segment-paths path other (p.Task at name given) n = absurd n

    segments-paths : (path other : List ℕ) (as' : p.Stms) → IsSegment P (plain.stms path as') → plain.stms path as' ≡ plain.stms other as'
    segments-paths path other p.NoStms n = refl
    segments-paths path other (p.MoreStms a as') n = ap (λ z. Then z (plain.stms path as')) (segment-paths path other a n.0) ∙ ap (Then (plain.stm other a)) (segments-paths path other as' n.1)

    items-paths : (path other : List ℕ) (is : p.Items) → AreSegmentItems P (plain.items path is) → plain.items path is ≡ plain.items other is
    items-paths path other p.NoItems n = refl
    items-paths path other (p.MoreItems p.NoExps a others) n = ap (λ z. Default z (plain.items path others)) (segment-paths path other a n.0) ∙ ap (Default (plain.stm other a)) (items-paths path other others n.1)
    items-paths path other (p.MoreItems (p.MoreExps e es) a others) n =
        ap (λ z. Labelled (plain.exps (p.MoreExps e es)) z (plain.items path others)) (segment-paths path other a n.0) ∙ ap (Labelled (plain.exps (p.MoreExps e es)) (plain.stm other a)) (items-paths path other others n.1)

  pub any-path : (path other : List ℕ) (x : Stmt) → IsSegment P (stm_of path x) → stm_of path x ≡ stm_of other x
  any-path path other x n = segment-paths path other (seen.stm_of x) n

-- ---- what writes nothing of the design's

mutual
  pub target-apart : (t : Target) → target_writes (λ k. nat_lt k 0) t ≡ false
  target-apart (Whole k) = none-below k
  target-apart (WordAt m a) = none-below m
  target-apart (PickAt base i from w) = target-apart base
  target-apart (SliceAt base low w) = target-apart base
  target-apart (Several ts) = targets-apart ts

  targets-apart : (ts : Targets) → targets_write (λ k. nat_lt k 0) ts ≡ false
  targets-apart NoTargets = refl
  targets-apart (MoreTargets t ts) = rw (target-apart t, targets-apart ts) refl

mutual
  pub segment-apart : (P : Target → Type 0) (a : Stm) → IsSegment P a → stm_writes (λ k. nat_lt k 0) a ≡ false
  segment-apart P Nop h = refl
  segment-apart P (Then a b) h = rw (segment-apart P a h.0, segment-apart P b h.1) refl
  segment-apart P (If t a b) h = rw (segment-apart P a h.0, segment-apart P b h.1) refl
  segment-apart P (Case e items) h = items-apart P items h
  segment-apart P (Set t e) h = target-apart t
  segment-apart P (Later t e) h = target-apart t
  segment-apart P (For k start test step a) h = absurd h
  segment-apart P (Repeat n a) h = absurd h
  segment-apart P (Sys task) h = absurd h

  items-apart : (P : Target → Type 0) (items : Items) → AreSegmentItems P items → items_write (λ k. nat_lt k 0) items ≡ false
  items-apart P NoItems h = refl
  items-apart P (Labelled es a others) h = rw (segment-apart P a h.0, items-apart P others h.1) refl
  items-apart P (Default a others) h = rw (segment-apart P a h.0, items-apart P others h.1) refl

-- ---- nonblocking assignments to any target

pub plain-any : (later : Bool) (t : Target) (e : Exp) → IsPlain (λ k. false) t → IsSegment IsAny (assignment later t e)
plain-any true t e h = tt
plain-any false t e h = h

-- ---- what is of signals is of no memory

base-stored : (t : Target) → IsBase (λ k. false) t → target_stored t ≡ []
base-stored (Whole k) h = refl
base-stored (WordAt m a) h = absurd h
base-stored (PickAt base i from w) h = absurd h
base-stored (SliceAt base low w) h = absurd h
base-stored (Several ts) h = absurd h

mutual
  pub plain-stored : (t : Target) → IsPlain (λ k. false) t → target_stored t ≡ []
  plain-stored (Whole k) h = refl
  plain-stored (WordAt m a) h = absurd h
  plain-stored (PickAt base i from w) h = base-stored base h
  plain-stored (SliceAt base low w) h = base-stored base h
  plain-stored (Several ts) h = plains-stored ts h

  plains-stored : (ts : Targets) → ArePlain (λ k. false) ts → targets_stored ts ≡ []
  plains-stored NoTargets h = refl
  plains-stored (MoreTargets t ts) h = rw (plain-stored t h.0, plains-stored ts h.1) refl

-- ---- without nonblocking assignments

pub net-path : (path other : List ℕ) (x : Stmt) → IsNet (stm_of path x) → stm_of path x ≡ stm_of other x
net-path path other x n = any-path IsAny path other x (net-segment IsAny (stm_of path x) n)

pub net-apart : (a : Stm) → IsNet a → stm_writes (λ k. nat_lt k 0) a ≡ false
net-apart a n = segment-apart IsAny a (net-segment IsAny a n)
