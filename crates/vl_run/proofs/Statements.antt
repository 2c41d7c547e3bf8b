-- Statements part by part.
use Rattle.std.proofs.Common.{◌≡◌, ◌<◌, ◌+◌, ℕ, List, length, drop, get_or, refl, sym, ap, ◌∙◌}
use Rattle.std.proofs.lemmas.List.{at_drop_more}
use Rattle.std.specs.declared.alloc.Global.{Global}
use Rattle.std.specs.declared.boxed.Box.{Box}
use Rattle.vl_design.specs.declared.design.Expr.{Expr}
use Rattle.vl_design.specs.declared.design.Target.{Target as TargetCode}
use Rattle.vl_design.specs.declared.design.Stmt.{Stmt}
use Rattle.vl_design.specs.declared.design.SysCall.{SysCall}
use Rattle.vl_design.specs.declared.design.StmtNode as s
use Rattle.vl_design.specs.Syntax.{Stm, Nop, If, For, Repeat, Set, Later, Sys}
use Rattle.vl_design.specs.Placed as p
use Rattle.vl_design.specs.Plainly as plain
use Rattle.vl_design.specs.Plainly.{called_first}
use Rattle.vl_design.specs.Seen as seen
use Rattle.vl_design.specs.Sound.{IsSoundExp, IsSoundStm, IsSoundTask}
use Rattle.vl_design.specs.Trees.{exp_of, stm_of, target_of, task_of}
use Rattle.vl_design.specs.Width.{Names}
use Rattle.vl_run.specs.Lists.{IsForNode}
use Rattle.vl_run.proofs.Called.{call-sound, behind-sound}

pub stms-more : (xs : List Stmt) (i : ℕ) (x : Stmt) → i < length xs → x ≡ get_or xs i x → seen.stms_of (drop i xs) ≡ p.MoreStms (seen.stm_of x) (seen.stms_of (drop (i + 1) xs))
stms-more xs i x h e = at_drop_more seen.stms_of xs i x h ∙ ap (λ y. p.MoreStms (seen.stm_of y) (seen.stms_of (drop (i + 1) xs))) (sym e)

pub task-of : (path : List ℕ) (x : Stmt) (call : SysCall) → x.node ≡ s.Sys call → stm_of path x ≡ Sys (task_of path call.name (plain.args (seen.args_of call.args.items)))
task-of path x call h = ap (λ n. plain.stm path (seen.node_stm x.place n)) h

pub task-sound : (names : Names) (path : List ℕ) (x : Stmt) (call : SysCall) → x.node ≡ s.Sys call → IsSoundStm names (stm_of path x) → IsSoundTask names (task_of path call.name (plain.args (seen.args_of call.args.items)))
task-sound names path x call h sound = rw (task-of path x call h) at sound

pub if-of : (path : List ℕ) (x : Stmt) (t : Expr) (a b : Box Stmt Global) → x.node ≡ s.If t a b → stm_of path x ≡ called_first path (seen.exp_of t) (If (exp_of t) (stm_of path a.value) (stm_of path b.value))
if-of path x t a b h = ap (λ n. plain.stm path (seen.node_stm x.place n)) h

pub set-of : (path : List ℕ) (x : Stmt) (t : TargetCode) (e : Expr) → x.node ≡ s.Set t e → stm_of path x ≡ called_first path (seen.exp_of e) (Set (target_of t) (exp_of e))
set-of path x t e h = ap (λ n. plain.stm path (seen.node_stm x.place n)) h

pub later-of : (path : List ℕ) (x : Stmt) (t : TargetCode) (e : Expr) → x.node ≡ s.Later t e → stm_of path x ≡ called_first path (seen.exp_of e) (Later (target_of t) (exp_of e))
later-of path x t e h = ap (λ n. plain.stm path (seen.node_stm x.place n)) h

module _ (path : List ℕ) (x : Stmt) (names : Names) (sound : IsSoundStm names (stm_of path x)) where
  if-sound : (t : Expr) (a b : Box Stmt Global) → x.node ≡ s.If t a b → IsSoundStm names (called_first path (seen.exp_of t) (If (exp_of t) (stm_of path a.value) (stm_of path b.value)))
  if-sound t a b h = rw (if-of path x t a b h) at sound

  pub if-call : (t : Expr) (a b : Box Stmt Global) → x.node ≡ s.If t a b → IsSoundStm names (called_first path (seen.exp_of t) Nop)
  if-call t a b h = call-sound names path (seen.exp_of t) (If (exp_of t) (stm_of path a.value) (stm_of path b.value)) (if-sound t a b h)

  if-behind : (t : Expr) (a b : Box Stmt Global) → x.node ≡ s.If t a b → IsSoundStm names (If (exp_of t) (stm_of path a.value) (stm_of path b.value))
  if-behind t a b h = behind-sound names path (seen.exp_of t) (If (exp_of t) (stm_of path a.value) (stm_of path b.value)) (if-sound t a b h)

  pub if-test : (t : Expr) (a b : Box Stmt Global) → x.node ≡ s.If t a b → IsSoundExp names (exp_of t)
  if-test t a b h = (if-behind t a b h).0

  pub if-first : (t : Expr) (a b : Box Stmt Global) → x.node ≡ s.If t a b → IsSoundStm names (stm_of path a.value)
  if-first t a b h = (if-behind t a b h).1

  pub if-second : (t : Expr) (a b : Box Stmt Global) → x.node ≡ s.If t a b → IsSoundStm names (stm_of path b.value)
  if-second t a b h = (if-behind t a b h).2

  pub set-sound : (t : TargetCode) (e : Expr) → x.node ≡ s.Set t e → IsSoundStm names (called_first path (seen.exp_of e) (Set (target_of t) (exp_of e)))
  set-sound t e h = rw (set-of path x t e h) at sound

  pub later-sound : (t : TargetCode) (e : Expr) → x.node ≡ s.Later t e → IsSoundStm names (called_first path (seen.exp_of e) (Later (target_of t) (exp_of e)))
  later-sound t e h = rw (later-of path x t e h) at sound

pub for-of : (path : List ℕ) (x : Stmt) (k : ℕ) (start : Box Stmt Global) (test : Expr) (step a : Box Stmt Global) → x.node ≡ s.For k start test step a
    → stm_of path x ≡ For k (stm_of path start.value) (exp_of test) (stm_of path step.value) (stm_of path a.value)
for-of path x k start test step a h = ap (λ n. plain.stm path (seen.node_stm x.place n)) h

pub for-node : (x : Stmt) (k : ℕ) (start : Box Stmt Global) (test : Expr) (step a : Box Stmt Global) → x.node ≡ s.For k start test step a → IsForNode x.node
for-node x k start test step a h = rw h tt

module _ (names : Names) (path : List ℕ) (x : Stmt) (k : ℕ) (start : Box Stmt Global) (test : Expr) (step a : Box Stmt Global) (h : x.node ≡ s.For k start test step a) (sound : IsSoundStm names (stm_of path x)) where
  for-sound : IsSoundStm names (For k (stm_of path start.value) (exp_of test) (stm_of path step.value) (stm_of path a.value))
  for-sound = rw (for-of path x k start test step a h) at sound

  pub for-start : IsSoundStm names (stm_of path start.value)
  for-start = for-sound.1

  pub for-test : IsSoundExp names (exp_of test)
  for-test = for-sound.2

  pub for-step : IsSoundStm names (stm_of path step.value)
  for-step = for-sound.3

  pub for-body : IsSoundStm names (stm_of path a.value)
  for-body = for-sound.4

pub repeat-of : (path : List ℕ) (x : Stmt) (n : ℕ) (a : Box Stmt Global) → x.node ≡ s.Repeat n a → stm_of path x ≡ Repeat n (stm_of path a.value)
repeat-of path x n a h = ap (λ k. plain.stm path (seen.node_stm x.place k)) h

pub ruleset parts = (if-call, if-test, if-first, if-second, set-sound, later-sound, for-node, task-sound)

pub ruleset loops = (for-start, for-test, for-step, for-body)
