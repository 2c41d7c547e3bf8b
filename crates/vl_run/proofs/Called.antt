-- System functions that are called before their answers are read.
use Rattle.std.proofs.Common.{◌≡◌, refl, sym, ap, ◌∙◌, ℕ, List}
use Rattle.std.specs.Prelude.{Some, None}
use Rattle.vl_base.specs.declared.bits.UnOp.{UnOp}
use Rattle.vl_base.specs.declared.bits.UnOp.TheVariants.{LogNot}
use Rattle.std.specs.declared.alloc.Global.{Global}
use Rattle.std.specs.declared.boxed.Box.{Box}
use Rattle.vl_design.specs.declared.design.Expr.{Expr}
use Rattle.vl_design.specs.declared.design.ExprNode as d
use Rattle.vl_design.specs.declared.design.ExprNode.TheBlock as blk
use Rattle.vl_design.specs.declared.design.SysCall.{SysCall}
use Rattle.vl_design.specs.Placed as p
use Rattle.vl_design.specs.Plainly as plain
use Rattle.vl_design.specs.Plainly.{called_first}
use Rattle.vl_design.specs.Seen as seen
use Rattle.vl_design.specs.Exec.{exec}
use Rattle.vl_design.specs.Sound.{IsSoundExp, IsSoundTarget, IsSoundStm, IsSoundTask}
use Rattle.vl_design.specs.State.{State}
use Rattle.vl_design.specs.Syntax.{Exp, Target, Stm, Nop, Then, Set, Later, Sys}
use Rattle.vl_design.specs.Trees.{task_of}
use Rattle.vl_design.specs.Width.{Names, Scope}
use Rattle.vl_run.specs.declared.machine.Machine.{Machine}
use Rattle.vl_run.specs.Called.{call_of, direct_call, negated_call, call_in}
use Rattle.vl_run.specs.Machines.{state_of, Leads, Does}

-- ---- the call that an expression is

row-items : {m : _} (r : d.Row_of-SysArg m) → seen.row_args r ≡ seen.args_of (d.items-the_row-SysArg m r)
row-items d.end_of-SysArg = refl
row-items (d.more_of-SysArg x rest) = ap (seen.arg x) (row-items rest)

sys-of : (x : Expr) (call : SysCall) → x.node ≡ d.Sys call → seen.exp_of x ≡ p.Sys x.place call.name (seen.args_of call.args.items)
sys-of x call h =
    ap (seen.node_exp x.place) h
    ∙ ap (p.Sys x.place call.name) (row-items (blk.hidden-the_row-SysArg-1 call.args) ∙ ap seen.args_of (d.items_hidden-the_row-SysArg-1 call.args))

pub direct-sys : (x : Expr) (call : SysCall) → x.node ≡ d.Sys call → Some (call_of call) ≡ direct_call (seen.exp_of x)
direct-sys x call h = sym (ap direct_call (sys-of x call h))

pub call-sys : (x : Expr) (call : SysCall) → x.node ≡ d.Sys call → Some (call_of call) ≡ call_in (seen.exp_of x)
call-sys x call h = sym (ap call_in (sys-of x call h))

pub call-un : (x : Expr) (op : UnOp) (a : Box Expr Global) → x.node ≡ d.Un op a → negated_call op (seen.exp_of a.value) ≡ call_in (seen.exp_of x)
call-un x op a h = sym (ap (λ n. call_in (seen.node_exp x.place n)) h)

-- ---- the statement with its call

first-none : (path : List ℕ) (x : p.Exp) (a : Stm) → None ≡ call_in x → called_first path x a ≡ a
first-none path (p.Sys at name given) a h = cc
first-none path (p.Un at LogNot (p.Sys q name given)) a h = cc
first-none path x a h = refl

first-some : (path : List ℕ) (x : p.Exp) (a : Stm) (call : SysCall) → Some (call_of call) ≡ call_in x → called_first path x a ≡ Then (Sys (task_of path call.name (plain.args (seen.args_of call.args.items)))) a
first-some path (p.Sys at name given) a call h =
    let e : call_of call ≡ (name, given) = cc in
    ap (λ z. Then (Sys (task_of path z.0 (plain.args z.1))) a) (sym e)
first-some path (p.Un at LogNot (p.Sys q name given)) a call h =
    let e : call_of call ≡ (name, given) = cc in
    ap (λ z. Then (Sys (task_of path z.0 (plain.args z.1))) a) (sym e)
first-some path x a call h = let z : ⊥ = cc in absurd z

pub none-does : (scope : Scope) (path : List ℕ) (x : p.Exp) (m : Machine) → None ≡ call_in x → Does scope (called_first path x Nop) m m
none-does scope path x m h = rw (first-none path x Nop h) (record { leads = λ c. (c, refl) })

pub some-does : (scope : Scope) (path : List ℕ) (x : p.Exp) (call : SysCall) (m n : Machine) → Some (call_of call) ≡ call_in x
    → Does scope (Sys (task_of path call.name (plain.args (seen.args_of call.args.items)))) m n → Does scope (called_first path x Nop) m n
some-does scope path x call m n h d = rw (first-some path x Nop call h) (record { leads = λ c. d.leads c })

pub some-sound : (names : Names) (path : List ℕ) (x : p.Exp) (call : SysCall) → Some (call_of call) ≡ call_in x
    → IsSoundStm names (called_first path x Nop) → IsSoundTask names (task_of path call.name (plain.args (seen.args_of call.args.items)))
some-sound names path x call h s = let k = rw (first-some path x Nop call h) at s in k.0

-- ---- the call and what is behind it

call-apart : (scope : Scope) (path : List ℕ) (x : p.Exp) (a : Stm) (s : State) → exec scope (called_first path x a) s ≡ exec scope a (exec scope (called_first path x Nop) s)
call-apart scope path (p.Sys at name given) a s = refl
call-apart scope path (p.Un at LogNot (p.Sys q name given)) a s = refl
call-apart scope path x a s = refl

pub does-called : (scope : Scope) (path : List ℕ) (x : p.Exp) (a : Stm) (m n o : Machine) → Does scope (called_first path x Nop) m n → Does scope a n o → Does scope (called_first path x a) m o
does-called scope path x a m n o h k = record {
  leads = λ c. let y = h.leads c in let z = k.leads y.0 in (z.0, call-apart scope path x a (state_of m c) ∙ (ap (exec scope a) y.1 ∙ z.1));
}

pub call-sound : (names : Names) (path : List ℕ) (x : p.Exp) (a : Stm) → IsSoundStm names (called_first path x a) → IsSoundStm names (called_first path x Nop)
call-sound names path (p.Sys at name given) a h = (h.0, tt)
call-sound names path (p.Un at LogNot (p.Sys q name given)) a h = (h.0, tt)
call-sound names path x a h = tt

pub behind-sound : (names : Names) (path : List ℕ) (x : p.Exp) (a : Stm) → IsSoundStm names (called_first path x a) → IsSoundStm names a
behind-sound names path (p.Sys at name given) a h = h.1
behind-sound names path (p.Un at LogNot (p.Sys q name given)) a h = h.1
behind-sound names path x a h = h

module _ (names : Names) (path : List ℕ) (x : p.Exp) where
  pub set-target : (t : Target) (e : Exp) → IsSoundStm names (called_first path x (Set t e)) → IsSoundTarget names t
  set-target t e h = (behind-sound names path x (Set t e) h).0

  pub set-source : (t : Target) (e : Exp) → IsSoundStm names (called_first path x (Set t e)) → IsSoundExp names e
  set-source t e h = (behind-sound names path x (Set t e) h).1

  pub later-target : (t : Target) (e : Exp) → IsSoundStm names (called_first path x (Later t e)) → IsSoundTarget names t
  later-target t e h = (behind-sound names path x (Later t e) h).0

  pub later-source : (t : Target) (e : Exp) → IsSoundStm names (called_first path x (Later t e)) → IsSoundExp names e
  later-source t e h = (behind-sound names path x (Later t e) h).1
