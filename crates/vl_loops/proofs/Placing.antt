-- The plain tree of a placed design with its loops unrolled is the plain design with its loops unrolled.
use Rattle.std.proofs.Common.{◌≡◌, ℕ, zero, suc, Bool, true, false, List, [], ◌∷◌, map, refl, ap, ◌∙◌}
use Rattle.std.specs.List.{AllByRecursion}
use Rattle.std.proofs.lemmas.List.Elements.{recursion_from_All}
use Rattle.vl_base.specs.declared.bits.UnOp.TheVariants.{LogNot}
use Rattle.vl_design.specs.Syntax as d
use Rattle.vl_design.specs.Width.{Scope}
use Rattle.vl_design.specs.State.{State}
use Rattle.vl_design.specs.Exec.{exec, goes_on, most_turns}
use Rattle.vl_design.specs.Functions.{scope_of, inner}
use Rattle.vl_design.specs.Placed as p
use Rattle.vl_design.specs.Plainly as plain
use Rattle.vl_loops.specs.Unroll.{is_loop, unrolled, unrolled_items, in_turns, so_many, still, unrolled_fun, unrolled_proc, unrolled_flat}
use Rattle.vl_loops.specs.Fits.{HasLoops, HaveLoops, HasFunLoops, CanUnroll}
use Rattle.vl_loops.specs.Placed.{number_at, exp_put, exps_put, turn_list, copies, stm_unrolled, stms_unrolled, items_unrolled, func_unrolled, process_unrolled, unrolled_placed}
use Rattle.vl_loops.proofs.Arguments.{exp_plain, exps_plain, task_plain, target_plain}

turns_plain : {S : Type 0} (path : List ℕ) (n : ℕ) (test : S → Bool) (step : S → S) (f : S → p.Stm) (g : S → d.Stm) → ((x : S) → plain.stm path (f x) ≡ g x) → (x : S) →
    plain.stms path (turn_list n test step f x) ≡ in_turns n test step g x
turns_plain path zero test step f g h x = refl
turns_plain path (suc n) test step f g h x = at (test x) (turns_plain path n test step f g h (step x))
  where
    at : (b : Bool) → plain.stms path (turn_list n test step f (step x)) ≡ in_turns n test step g (step x) →
        ◌≡◌ {A = d.Stm} (plain.stms path (elim b [ true ↦ p.MoreStms (f x) (turn_list n test step f (step x)) | false ↦ p.NoStms ])) (elim b [ true ↦ d.Then (g x) (in_turns n test step g (step x)) | false ↦ d.Nop ])
    at true k = rw (h x, k) refl
    at false k = refl

copies_plain : (path : List ℕ) (n : ℕ) (a : p.Stm) (b : d.Stm) → plain.stm path a ≡ b → plain.stms path (copies n a) ≡ so_many n b
copies_plain path zero a b h = refl
copies_plain path (suc n) a b h = rw (h, copies_plain path n a b h) refl

-- ---- the assignments of a header: they have no system call, so the path doesn't matter

if_is_none : (path : List ℕ) (t : p.Exp) (u : d.Exp) (a b : d.Stm) (j : ℕ) (x : d.Exp) → plain.called_first path t (d.If u a b) ≡ d.Set (d.Whole j) x → ⊥
if_is_none path (p.Sys q name given) u a b j x h = cc
if_is_none path (p.Un o LogNot (p.Sys q name given)) u a b j x h = cc
if_is_none path t u a b j x h = cc

later_is_none : (path : List ℕ) (t : p.Exp) (u : d.Target) (y : d.Exp) (j : ℕ) (x : d.Exp) → plain.called_first path t (d.Later u y) ≡ d.Set (d.Whole j) x → ⊥
later_is_none path (p.Sys q name given) u y j x h = cc
later_is_none path (p.Un o LogNot (p.Sys q name given)) u y j x h = cc
later_is_none path t u y j x h = cc

set_any : (path : List ℕ) (t : p.Exp) (u : d.Target) (y : d.Exp) (j : ℕ) (x : d.Exp) → plain.called_first path t (d.Set u y) ≡ d.Set (d.Whole j) x → (q : List ℕ) →
    plain.called_first q t (d.Set u y) ≡ plain.called_first path t (d.Set u y)
set_any path (p.Sys o name given) u y j x h q = let z : ⊥ = cc in absurd z
set_any path (p.Un o LogNot (p.Sys r name given)) u y j x h q = let z : ⊥ = cc in absurd z
set_any path t u y j x h q = refl

pub assigns_any : (path : List ℕ) (a : p.Stm) (j : ℕ) (x : d.Exp) → plain.stm path a ≡ d.Set (d.Whole j) x → (q : List ℕ) → plain.stm q a ≡ plain.stm path a
assigns_any path (p.Nop o) j x h q = let z : ⊥ = cc in absurd z
assigns_any path (p.Seq o p.NoStms) j x h q = let z : ⊥ = cc in absurd z
assigns_any path (p.Seq o (p.MoreStms a as')) j x h q = let z : ⊥ = cc in absurd z
assigns_any path (p.If o t a b) j x h q = absurd (if_is_none path t _ _ _ j x h)
assigns_any path (p.Case o y is wild) j x h q = let z : ⊥ = cc in absurd z
assigns_any path (p.For o k start test step a) j x h q = let z : ⊥ = cc in absurd z
assigns_any path (p.Repeat o n a) j x h q = let z : ⊥ = cc in absurd z
assigns_any path (p.Set o t y) j x h q = set_any path y _ _ j x h q
assigns_any path (p.Later o t y) j x h q = absurd (later_is_none path y _ _ j x h)
assigns_any path (p.Task o name given) j x h q = let z : ⊥ = cc in absurd z

module _ (scope : Scope) (path : List ℕ) where
  module _ (e : State) where
    abbrev putting : p.Exp → p.Exp
    putting = exp_put scope.names.rows e.values

    -- a system function of a right side or a condition
    first_signal : (b : Bool) (q : _) (j : ℕ) (c : d.Stm) → plain.called_first path (number_at scope.names.rows e.values b q j) c ≡ c
    first_signal true q j c = refl
    first_signal false q j c = refl

    not_signal : (b : Bool) (o q : _) (j : ℕ) (c : d.Stm) → plain.called_first path (p.Un o LogNot (number_at scope.names.rows e.values b q j)) c ≡ c
    not_signal true o q j c = refl
    not_signal false o q j c = refl

    first_plain : (x : p.Exp) (b c : d.Stm) → (HasLoops scope.names.rows b → c ≡ unrolled scope b e) → HasLoops scope.names.rows (plain.called_first path x b) →
        plain.called_first path (putting x) c ≡ unrolled scope (plain.called_first path x b) e
    first_plain (p.Sys q name given) b c k h = rw (task_plain scope.names.rows e.values path name given h.0, k h.1) refl
    first_plain (p.Un o LogNot (p.Sys q name given)) b c k h = rw (task_plain scope.names.rows e.values path name given h.0, k h.1) refl
    first_plain (p.Sig q j) b c k h = first_signal (is_loop scope.names.rows j) q j c ∙ k h
    first_plain (p.Un o LogNot (p.Sig q j)) b c k h = not_signal (is_loop scope.names.rows j) o q j c ∙ k h
    first_plain (p.Un o op x) b c k h = k h
    first_plain x b c k h = k h

    item_plain : (es : p.Exps) (a : d.Stm) (others : d.Items) → plain.item (exps_put scope.names.rows e.values es) (unrolled scope a e) (unrolled_items scope others e) ≡ unrolled_items scope (plain.item es a others) e
    item_plain p.NoExps a others = refl
    item_plain (p.MoreExps x es) a others = rw (exp_plain scope.names.rows e.values x, exps_plain scope.names.rows e.values es) refl

    item_loops : (es : p.Exps) (a : d.Stm) (others : d.Items) → HaveLoops scope.names.rows (plain.item es a others) → HasLoops scope.names.rows a × HaveLoops scope.names.rows others
    item_loops p.NoExps a others h = h
    item_loops (p.MoreExps x es) a others h = h

  mutual
    pub stm_plain : (a : p.Stm) → HasLoops scope.names.rows (plain.stm path a) → (e : State) → plain.stm path (stm_unrolled scope a e) ≡ unrolled scope (plain.stm path a) e
    stm_plain (p.Nop q) l e = refl
    stm_plain (p.Seq q as') l e = stms_plain as' l e
    stm_plain (p.If q t a b) l e =
        first_plain e t (d.If (plain.exp t) (plain.stm path a) (plain.stm path b)) _
        (λ k. rw (exp_plain scope.names.rows e.values t, stm_plain a k.0 e, stm_plain b k.1 e) refl) l
    stm_plain (p.Case q x is wild) l e = rw (exp_plain scope.names.rows e.values x, items_plain is l e) refl
    stm_plain (p.For q j start test step a) l e =
        let on = goes_on scope (plain.exp test) in
        let body = unrolled scope (plain.stm path a) in
        let first = exec scope (plain.stm [] start) e in
        turns_plain path most_turns on (exec scope (plain.stm [] step)) (stm_unrolled scope a) body (stm_plain a l.4) first
        ∙ (ap (λ z. in_turns most_turns on (exec scope z) body first) (assigns_any path step j (l.3).source (l.3).whole [])
        ∙ ap (λ z. in_turns most_turns on (exec scope (plain.stm path step)) body (exec scope z e)) (assigns_any path start j (l.1).source (l.1).whole []))
    stm_plain (p.Repeat q n a) l e = copies_plain path n (stm_unrolled scope a e) (unrolled scope (plain.stm path a) e) (stm_plain a l e)
    stm_plain (p.Set q t x) l e =
        first_plain e x (d.Set (plain.target t) (plain.exp x)) _ (λ k. rw (target_plain scope.names.rows e.values t, exp_plain scope.names.rows e.values x) refl) l
    stm_plain (p.Later q t x) l e =
        first_plain e x (d.Later (plain.target t) (plain.exp x)) _ (λ k. rw (target_plain scope.names.rows e.values t, exp_plain scope.names.rows e.values x) refl) l
    stm_plain (p.Task q name given) l e = ap d.Sys (task_plain scope.names.rows e.values path name given l)

    stms_plain : (as' : p.Stms) → HasLoops scope.names.rows (plain.stms path as') → (e : State) → plain.stms path (stms_unrolled scope as' e) ≡ unrolled scope (plain.stms path as') e
    stms_plain p.NoStms l e = refl
    stms_plain (p.MoreStms a as') l e = rw (stm_plain a l.0 e, stms_plain as' l.1 e) refl

    items_plain : (is : p.Items) → HaveLoops scope.names.rows (plain.items path is) → (e : State) → plain.items path (items_unrolled scope is e) ≡ unrolled_items scope (plain.items path is) e
    items_plain p.NoItems l e = refl
    items_plain (p.MoreItems es a others) l e =
        let h = item_loops e es (plain.stm path a) (plain.items path others) l in
        rw (stm_plain a h.0 e, items_plain others h.1 e) (item_plain e es (plain.stm path a) (plain.items path others))

-- ---- designs

funs_plain : (scope : Scope) (fs : List p.Func) → AllByRecursion (HasFunLoops scope.names.signals) (map plain.fun fs) → map plain.fun (map (func_unrolled scope) fs) ≡ map (unrolled_fun scope) (map plain.fun fs)
funs_plain scope [] h = refl
funs_plain scope (f ∷ fs) h =
    let body = inner scope (plain.fun f) in
    let e : plain.fun (func_unrolled scope f) ≡ unrolled_fun scope (plain.fun f) = ap (λ b. record (plain.fun f) { body = b }) (stm_plain body [] f.body (h.0).body (still body)) in
    rw (e, funs_plain scope fs h.1) refl

procs_plain : (scope : Scope) (ps : List p.Process) → AllByRecursion (λ (a : d.Proc). HasLoops scope.names.rows a.body) (map plain.proc ps) → map plain.proc (map (process_unrolled scope) ps) ≡ map (unrolled_proc scope) (map plain.proc ps)
procs_plain scope [] h = refl
procs_plain scope (a ∷ ps) h =
    let e : plain.proc (process_unrolled scope a) ≡ unrolled_proc scope (plain.proc a) = ap (λ b. record (plain.proc a) { body = b }) (stm_plain scope a.path a.body h.0 (still scope)) in
    rw (e, procs_plain scope ps h.1) refl

pub flat_plain : (x : p.Design) → CanUnroll (plain.flat x) → plain.flat (unrolled_placed x) ≡ unrolled_flat (plain.flat x)
flat_plain x can =
    let scope = scope_of (plain.flat x) [] in
    let f = funs_plain scope x.funcs (recursion_from_All (HasFunLoops (plain.flat x).rows) (plain.flat x).funs can.funs) in
    let g = procs_plain scope x.processes (recursion_from_All (λ (a : d.Proc). HasLoops (plain.flat x).rows a.body) (plain.flat x).procs can.procs) in
    ap (λ fs. record (plain.flat x) { funs = fs; procs = map plain.proc (map (process_unrolled scope) x.processes) }) f
    ∙ ap (λ ps. record (plain.flat x) { funs = map (unrolled_fun scope) (map plain.fun x.funcs); procs = ps }) g
