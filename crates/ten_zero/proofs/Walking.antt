-- Statements part by part, with their acts.
use Rattle.std.proofs.Common.{◌≡◌, ◌<◌, ◌≤◌, ◌+◌, ℕ, zero, suc, Bool, true, false, List, [], ◌∷◌, length, map, get_or, refl, sym, ap, ◌∙◌, subst, arith, inl, inr}
use Rattle.std.specs.Prelude.{All, ◌||◌, ◌⊎◌}
use Rattle.std.proofs.lemmas.List.{length-map, get_or-map}
use Rattle.std.specs.declared.alloc.Global.{Global}
use Rattle.std.specs.declared.boxed.Box.{Box}
use Rattle.std.specs.declared.vec.Vec.{Vec}
use Rattle.vl_design.specs.vl_base.specs.declared.bits.UnOp.TheVariants.{LogNot}
use Rattle.vl_design.specs.declared.design.CaseItem.{CaseItem}
use Rattle.vl_design.specs.declared.design.Expr.{Expr}
use Rattle.vl_design.specs.declared.design.Process.{Process}
use Rattle.vl_design.specs.declared.design.Stmt.{Stmt}
use Rattle.vl_design.specs.declared.design.StmtNode as s
use Rattle.vl_design.specs.declared.design.SysCall.{SysCall}
use Rattle.vl_design.specs.declared.design.Target.{Target as TargetCode}
use Rattle.vl_design.specs.Acts.{branch_of}
use Rattle.vl_design.specs.Exec.{exec, asks, is_true}
use Rattle.vl_design.specs.Laws.{can_act, items_can_act, AreUnrolledItems, IsUnrolled, IsUnrolledStm}
use Rattle.vl_design.specs.Placed as p
use Rattle.vl_design.specs.Plainly as plain
use Rattle.vl_design.specs.Plainly.{called_first}
use Rattle.vl_design.specs.Seen as seen
use Rattle.vl_design.specs.Sound.{IsSoundStm}
use Rattle.vl_design.specs.State.{State, counted, sample}
use Rattle.vl_design.specs.Syntax.{Exp, Stm, Nop, If, Case, Set, Later, Items, Proc, Flat}
use Rattle.vl_design.specs.Trees.{exp_of, proc_of, stm_of, target_of}
use Rattle.vl_design.specs.Width.{Names, Scope}
use Rattle.vl_design.proofs.Resting.{exec_over}
use Rattle.vl_run.specs.Cases.{items_of}
use Rattle.vl_run.proofs.Casing.{body-sound, case-of}
use Rattle.vl_run.proofs.Statements.{if-of, set-of, later-of, task-of}
use Rattle.ten_zero.specs.Nodes.{nodes, item_nodes}
use Rattle.ten_zero.proofs.Acting as acting
use Rattle.ten_zero.proofs.Acting.{first-acts, first-counts, first-then, sys-counts, case-taken}
pub use Rattle.vl_design.proofs.Shared.{first-bare as unrolled-behind}
use Rattle.vl_design.proofs.Shared.{item-bare as item-unrolled}

-- ---- statements without loops

body-unrolled : (path : List ℕ) (xs : List CaseItem) (i : ℕ) (x : CaseItem) → i < length xs → AreUnrolledItems (items_of path xs) → IsUnrolledStm (stm_of path (get_or xs i x).body)
body-unrolled path [] i x l u = absurd (omega (arith, l))
body-unrolled path (y ∷ ys) zero x l u = (item-unrolled (seen.exps_of y.labels.items) (stm_of path y.body) (items_of path ys) u).0
body-unrolled path (y ∷ ys) (suc i) x l u =
    body-unrolled path ys i x (omega (arith, l)) (item-unrolled (seen.exps_of y.labels.items) (stm_of path y.body) (items_of path ys) u).1

-- ---- choices as statements

pub choice-of : (path : List ℕ) (x : Stmt) (t : Expr) (a b : Box Stmt Global) (f g : Stmt) → x.node ≡ s.If t a b → f ≡ a.value → g ≡ b.value →
    stm_of path x ≡ called_first path (seen.exp_of t) (If (exp_of t) (stm_of path f) (stm_of path g))
choice-of path x t a b f g is h k =
    if-of path x t a b is
    ∙ (ap (λ (z : Stmt). called_first path (seen.exp_of t) (If (exp_of t) (stm_of path z) (stm_of path b.value))) (sym h)
    ∙ ap (λ (z : Stmt). called_first path (seen.exp_of t) (If (exp_of t) (stm_of path f) (stm_of path z))) (sym k))

pub case-at : (path : List ℕ) (x : Stmt) (e : Expr) (v : Vec CaseItem Global) (wild : Bool) (xs : List CaseItem) → x.node ≡ s.Case e v wild → xs ≡ v.items →
    stm_of path x ≡ Case (exp_of e) (items_of path xs)
case-at path x e v wild xs is k = case-of path x e v wild is ∙ ap (λ ys. Case (exp_of e) (items_of path ys)) (sym k)

-- ---- parts of choices

module _ (path : List ℕ) (x : Stmt) (u : IsUnrolledStm (stm_of path x)) where
  branches-unrolled : (t : Expr) (a b : Box Stmt Global) → x.node ≡ s.If t a b → IsUnrolledStm (If (exp_of t) (stm_of path a.value) (stm_of path b.value))
  branches-unrolled t a b h =
      unrolled-behind path (seen.exp_of t) (If (exp_of t) (stm_of path a.value) (stm_of path b.value)) (subst IsUnrolledStm (if-of path x t a b h) u)

  pub first-unrolled : (t : Expr) (a b : Box Stmt Global) → x.node ≡ s.If t a b → IsUnrolledStm (stm_of path a.value)
  first-unrolled t a b h = (branches-unrolled t a b h).0

  pub second-unrolled : (t : Expr) (a b : Box Stmt Global) → x.node ≡ s.If t a b → IsUnrolledStm (stm_of path b.value)
  second-unrolled t a b h = (branches-unrolled t a b h).1

pub case-sound : (names : Names) (path : List ℕ) (x : Stmt) (e : Expr) (v : Vec CaseItem Global) (wild : Bool) (i : ℕ) (y : CaseItem) →
    y ≡ get_or v.items i y → x.node ≡ s.Case e v wild → IsSoundStm names (stm_of path x) → i < length v.items → IsSoundStm names (stm_of path y.body)
case-sound names path x e v wild i y at h sound l =
    subst (λ (z : CaseItem). IsSoundStm names (stm_of path z.body)) (sym at)
    (body-sound names path v.items i y l (subst (IsSoundStm names) (case-of path x e v wild h) sound).1)

pub case-unrolled : (path : List ℕ) (x : Stmt) (e : Expr) (v : Vec CaseItem Global) (wild : Bool) (i : ℕ) (y : CaseItem) →
    y ≡ get_or v.items i y → x.node ≡ s.Case e v wild → IsUnrolledStm (stm_of path x) → i < length v.items → IsUnrolledStm (stm_of path y.body)
case-unrolled path x e v wild i y at h u l =
    subst (λ (z : CaseItem). IsUnrolledStm (stm_of path z.body)) (sym at)
    (body-unrolled path v.items i y l (subst IsUnrolledStm (case-of path x e v wild h) u))

-- ---- parts are smaller

first-nodes : (path : List ℕ) (x : p.Exp) (a : Stm) → nodes a ≤ nodes (called_first path x a)
first-nodes path (p.Sys at name given) a = omega arith
first-nodes path (p.Un at LogNot (p.Sys q name given)) a = omega arith
first-nodes path x a = omega arith

pub branch-nodes : (path : List ℕ) (x : Stmt) (t : Expr) (a b : Box Stmt Global) → x.node ≡ s.If t a b →
    nodes (stm_of path a.value) + nodes (stm_of path b.value) < nodes (stm_of path x)
branch-nodes path x t a b h =
    let e = ap nodes (if-of path x t a b h) in
    let n = first-nodes path (seen.exp_of t) (If (exp_of t) (stm_of path a.value) (stm_of path b.value)) in
    omega (arith, e, n)

item-nodes : (es : p.Exps) (a : Stm) (others : Items) → item_nodes (plain.item es a others) ≡ nodes a + item_nodes others
item-nodes p.NoExps a others = refl
item-nodes (p.MoreExps e es) a others = refl

body-nodes : (path : List ℕ) (xs : List CaseItem) (i : ℕ) (d : CaseItem) → i < length xs → nodes (stm_of path (get_or xs i d).body) ≤ item_nodes (items_of path xs)
body-nodes path [] i d l = absurd (omega (arith, l))
body-nodes path (y ∷ ys) zero d l = let n = item-nodes (seen.exps_of y.labels.items) (stm_of path y.body) (items_of path ys) in omega (arith, n)
body-nodes path (y ∷ ys) (suc i) d l =
    let n = item-nodes (seen.exps_of y.labels.items) (stm_of path y.body) (items_of path ys) in
    let m = body-nodes path ys i d (omega (arith, l)) in
    omega (arith, n, m)

pub case-nodes : (path : List ℕ) (x : Stmt) (e : Expr) (v : Vec CaseItem Global) (wild : Bool) (i : ℕ) (y : CaseItem) →
    y ≡ get_or v.items i y → x.node ≡ s.Case e v wild → i < length v.items → nodes (stm_of path y.body) < nodes (stm_of path x)
case-nodes path x e v wild i y at h l =
    let n = ap nodes (case-of path x e v wild h) in
    let m = body-nodes path v.items i y l in
    let same = ap (λ (z : CaseItem). nodes (stm_of path z.body)) at in
    omega (arith, n, m, same)

module _ (scope : Scope) where
  -- ---- statements that do one act

  first-one : (path : List ℕ) (x : p.Exp) (a : Stm) (b : Stm) (t : State) → b ≡ called_first path x a → can_act a ≡ false → can_act b ≡ true → t.finished ≡ false →
      (exec scope b t).count ≡ t.count + 1
  first-one path x a b t e q h f =
      let acts = first-acts path x a q ∙ (sym (ap can_act e) ∙ h) in
      ap (λ (z : Stm). (exec scope z t).count) e ∙ first-counts scope path x a t q acts f

  set-one : (path : List ℕ) (x : Stmt) (g : TargetCode) (e : Expr) (t : State) → x.node ≡ s.Set g e → can_act (stm_of path x) ≡ true → t.finished ≡ false →
      (exec scope (stm_of path x) t).count ≡ t.count + 1
  set-one path x g e t is h f = first-one path (seen.exp_of e) (Set (target_of g) (exp_of e)) (stm_of path x) t (set-of path x g e is) refl h f

  later-one : (path : List ℕ) (x : Stmt) (g : TargetCode) (e : Expr) (t : State) → x.node ≡ s.Later g e → can_act (stm_of path x) ≡ true → t.finished ≡ false →
      (exec scope (stm_of path x) t).count ≡ t.count + 1
  later-one path x g e t is h f = first-one path (seen.exp_of e) (Later (target_of g) (exp_of e)) (stm_of path x) t (later-of path x g e is) refl h f

  task-one : (path : List ℕ) (x : Stmt) (call : SysCall) (t : State) → x.node ≡ s.Sys call → t.finished ≡ false →
      (exec scope (stm_of path x) t).count ≡ t.count + 1
  task-one path x call t is f = ap (λ (z : Stm). (exec scope z t).count) (task-of path x call is) ∙ sys-counts scope _ t f

  pub one-act : (path : List ℕ) (x : Stmt) (t : State) →
      ((g : TargetCode) × (e : Expr) × (x.node ≡ s.Set g e)) ⊎ (((g : TargetCode) × (e : Expr) × (x.node ≡ s.Later g e)) ⊎ ((call : SysCall) × (x.node ≡ s.Sys call))) →
      can_act (stm_of path x) ≡ true → t.finished ≡ false → (exec scope (stm_of path x) t).count ≡ t.count + 1
  one-act path x t (inl a) h f = set-one path x a.0 a.1 t a.2 h f
  one-act path x t (inr (inl a)) h f = later-one path x a.0 a.1 t a.2 h f
  one-act path x t (inr (inr a)) h f = task-one path x a.0 t a.1 f

  -- ---- choices

  module _ (path : List ℕ) (x : p.Exp) (a b : Stm) (from mid : State) (asked : exec scope (called_first path x Nop) from ≡ mid) where
    abbrev choice : Stm
    choice = If (plain.exp x) a b

    behind-call : exec scope (called_first path x choice) from ≡ exec scope choice mid
    behind-call = first-then scope path x choice from ∙ ap (exec scope choice) asked

    pub choice-over : mid.finished ≡ true → exec scope (called_first path x choice) from ≡ mid
    choice-over f = behind-call ∙ exec_over scope choice mid f

    module _ (u : IsUnrolledStm a) (v : IsUnrolledStm b) (h : (asks (plain.exp x) || (can_act a || can_act b)) ≡ true) (f : mid.finished ≡ false)
        (next : State) (once : next ≡ counted mid) (end : State) where
      pub choice-first : true ≡ is_true scope (plain.exp x) mid → exec scope a next ≡ end → exec scope (called_first path x choice) from ≡ end
      choice-first e g = behind-call ∙ (acting.if-first scope (plain.exp x) a b mid u v h f e ∙ (sym (ap (exec scope a) once) ∙ g))

      pub choice-second : false ≡ is_true scope (plain.exp x) mid → exec scope b next ≡ end → exec scope (called_first path x choice) from ≡ end
      choice-second e g = behind-call ∙ (acting.if-second scope (plain.exp x) a b mid u v h f e ∙ (sym (ap (exec scope b) once) ∙ g))

  pub case-done : (e : Exp) (items : Items) (b : Stm) (from next end : State) → AreUnrolledItems items → items_can_act items ≡ true → from.finished ≡ false →
      b ≡ branch_of scope (sample from) (Case e items) → next ≡ counted from → exec scope b next ≡ end → exec scope (Case e items) from ≡ end
  case-done e items b from next end u h f same once g = case-taken scope e items b from u h f same ∙ (sym (ap (exec scope b) once) ∙ g)

-- ---- blocks of a design without loops

pub unrolled-at : (d : Flat) (xs : List Process) (i : ℕ) (x : Process) → IsUnrolled d → d.procs ≡ map proc_of xs → i < length xs → x ≡ get_or xs i x →
    IsUnrolledStm (stm_of x.path x.body)
unrolled-at d xs i x u g h e =
    let all : All (λ (p : Proc). IsUnrolledStm p.body) (map proc_of xs) = subst (All (λ (p : Proc). IsUnrolledStm p.body)) g u.procs in
    let there : i < length (map proc_of xs) = omega (arith, length-map xs proc_of) in
    subst (λ (p : Proc). IsUnrolledStm p.body) (get_or-map proc_of xs i x (proc_of x) h ∙ ap proc_of (sym e)) (all i (proc_of x) there)
