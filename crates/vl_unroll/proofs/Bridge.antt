-- What unrolling reads of a scope and a state: the signals and the loop variables alone.
use Rattle.std.proofs.Common.{◌≡◌, ℕ, zero, suc, Bool, true, false, List, [], refl, sym, ap}
use Rattle.vl_design.specs.vl_base.specs.declared.files.File.{File}
use Rattle.vl_design.specs.Syntax.{Row, Fun}
use Rattle.vl_design.specs.Width.{Scope}
use Rattle.vl_design.specs.Value.{words_of}
use Rattle.vl_design.specs.State.{State}
use Rattle.vl_design.specs.Exec.{exec, goes_on, most_turns}
use Rattle.vl_design.specs.Plain.{plain_scope}
use Rattle.vl_design.specs.Placed as p
use Rattle.vl_design.specs.Plainly as plain
use Rattle.vl_loops.specs.Unroll.{is_loop}
use Rattle.vl_loops.specs.Placed.{number_at, exp_put, exps_put, args_put, target_put, targets_put, turn_list, copies, stm_unrolled, stms_unrolled, items_unrolled}
use Rattle.vl_loops.specs.Loops.{HasHeads, HaveHeads, ItemsHaveHeads}
use Rattle.vl_loops.proofs.Loops.{Meets, full, goes_same_bare, step_meets_bare, head_assigns}

-- ---- numbers put in

module _ (rows : List Row) (xs ys : List (List ℕ)) (same : (j : ℕ) → is_loop rows j ≡ true → words_of xs j ≡ words_of ys j) where
  number_same : (b : Bool) (q : _) (j : ℕ) → is_loop rows j ≡ b → number_at rows xs b q j ≡ number_at rows ys b q j
  number_same true q j h = rw (same j h) refl
  number_same false q j h = refl

  mutual
    exp_same : (e : p.Exp) → exp_put rows xs e ≡ exp_put rows ys e
    exp_same (p.Num q v w s) = refl
    exp_same (p.Label q v care w s) = refl
    exp_same (p.Sig q j) = number_same (is_loop rows j) q j refl
    exp_same (p.Word q m a) = ap (p.Word q m) (exp_same a)
    exp_same (p.Pick q b i from w) = rw (exp_same b, exp_same i) refl
    exp_same (p.Slice q b low w) = rw (exp_same b) refl
    exp_same (p.Un q op a) = rw (exp_same a) refl
    exp_same (p.Bin q op a b) = rw (exp_same a, exp_same b) refl
    exp_same (p.Cond q t a b) = rw (exp_same t, exp_same a, exp_same b) refl
    exp_same (p.Cat q es) = ap (p.Cat q) (exps_same es)
    exp_same (p.Rep q n es) = ap (p.Rep q n) (exps_same es)
    exp_same (p.Cast q s a) = rw (exp_same a) refl
    exp_same (p.Call q f es) = ap (p.Call q f) (exps_same es)
    exp_same (p.Time q) = refl
    exp_same (p.Sys q name given) = ap (p.Sys q name) (args_same given)

    exps_same : (es : p.Exps) → exps_put rows xs es ≡ exps_put rows ys es
    exps_same p.NoExps = refl
    exps_same (p.MoreExps e es) = rw (exp_same e, exps_same es) refl

    args_same : (given : p.Args) → args_put rows xs given ≡ args_put rows ys given
    args_same p.NoArgs = refl
    args_same (p.NullArg others) = ap p.NullArg (args_same others)
    args_same (p.TextArg text others) = ap (p.TextArg text) (args_same others)
    args_same (p.ValueArg e others) = rw (exp_same e, args_same others) refl

  mutual
    target_same : (t : p.Target) → target_put rows xs t ≡ target_put rows ys t
    target_same (p.Whole q j) = refl
    target_same (p.WordAt q m a) = ap (p.WordAt q m) (exp_same a)
    target_same (p.PickAt q b i from w) = rw (target_same b, exp_same i) refl
    target_same (p.SliceAt q b low w) = rw (target_same b) refl
    target_same (p.Several q ts) = ap (p.Several q) (targets_same ts)

    targets_same : (ts : p.Targets) → targets_put rows xs ts ≡ targets_put rows ys ts
    targets_same p.NoTargets = refl
    targets_same (p.MoreTargets t ts) = rw (target_same t, targets_same ts) refl

-- ---- turns

list_same : {S : Type 0} (R : S → S → Type 0) (t t' : S → Bool) (u u' : S → S) (f f' : S → p.Stm) → ((x s : S) → R x s → t x ≡ t' s) → ((x s : S) → R x s → R (u x) (u' s)) → ((x s : S) → R x s → f x ≡ f' s) →
    (n : ℕ) (x s : S) → R x s → turn_list n t u f x ≡ turn_list n t' u' f' s
list_same R t t' u u' f f' a b c zero x s r = refl
list_same R t t' u u' f f' a b c (suc n) x s r = at (t x) (t' s) (a x s r) (list_same R t t' u u' f f' a b c n (u x) (u' s) (b x s r))
  where
    at : (d e : Bool) → d ≡ e → turn_list n t u f (u x) ≡ turn_list n t' u' f' (u' s) →
        ◌≡◌ {A = p.Stms} (elim d [ true ↦ p.MoreStms (f x) (turn_list n t u f (u x)) | false ↦ p.NoStms ]) (elim e [ true ↦ p.MoreStms (f' s) (turn_list n t' u' f' (u' s)) | false ↦ p.NoStms ])
    at true true z h = rw (c x s r, h) refl
    at false false z h = refl
    at true false z h = let y : ⊥ = cc in absurd y
    at false true z h = let y : ⊥ = cc in absurd y

-- ---- statements

module _ (rows signals : List Row) (funs : List Fun) (files : List File) (call : ℕ → List ℕ → ℕ) where
  abbrev whole : Scope
  whole = full rows signals funs files call

  abbrev single : Scope
  single = plain_scope rows

  mutual
    pub stm_same : (a : p.Stm) → HasHeads rows a → (x s : State) → Meets rows x s → stm_unrolled whole a x ≡ stm_unrolled single a s
    stm_same (p.Nop q) h x s m = refl
    stm_same (p.Seq q as') h x s m = ap (p.Seq q) (stms_same as' h x s m)
    stm_same (p.If q t a b) h x s m = rw (exp_same rows x.values s.values (λ j k. sym (m.holds.loops j k)) t, stm_same a h.0 x s m, stm_same b h.1 x s m) refl
    stm_same (p.Case q e is wild) h x s m = rw (exp_same rows x.values s.values (λ j k. sym (m.holds.loops j k)) e, items_same is h x s m) refl
    stm_same (p.For q j start test step a) h x s m =
        let l = h.0 in
        ap (p.Seq q) (list_same (Meets rows) (goes_on whole (plain.exp test)) (goes_on single (plain.exp test)) (exec whole (plain.stm [] step)) (exec single (plain.stm [] step)) (stm_unrolled whole a) (stm_unrolled single a)
        (goes_same_bare rows signals funs files call (plain.exp test) l.constant) (step_meets_bare rows signals funs files call j (plain.stm [] step) (head_assigns rows j step l.steps)) (stm_same a h.1)
        most_turns (exec whole (plain.stm [] start) x) (exec single (plain.stm [] start) s) (step_meets_bare rows signals funs files call j (plain.stm [] start) (head_assigns rows j start l.starts) x s m))
    stm_same (p.Repeat q n a) h x s m = ap (λ b. p.Seq q (copies n b)) (stm_same a h x s m)
    stm_same (p.Set q t e) h x s m = let k = λ (j : ℕ) (l : is_loop rows j ≡ true). sym (m.holds.loops j l) in rw (target_same rows x.values s.values k t, exp_same rows x.values s.values k e) refl
    stm_same (p.Later q t e) h x s m = let k = λ (j : ℕ) (l : is_loop rows j ≡ true). sym (m.holds.loops j l) in rw (target_same rows x.values s.values k t, exp_same rows x.values s.values k e) refl
    stm_same (p.Task q name given) h x s m = ap (p.Task q name) (args_same rows x.values s.values (λ j k. sym (m.holds.loops j k)) given)

    stms_same : (as' : p.Stms) → HaveHeads rows as' → (x s : State) → Meets rows x s → stms_unrolled whole as' x ≡ stms_unrolled single as' s
    stms_same p.NoStms h x s m = refl
    stms_same (p.MoreStms a as') h x s m = rw (stm_same a h.0 x s m, stms_same as' h.1 x s m) refl

    items_same : (is : p.Items) → ItemsHaveHeads rows is → (x s : State) → Meets rows x s → items_unrolled whole is x ≡ items_unrolled single is s
    items_same p.NoItems h x s m = refl
    items_same (p.MoreItems es a others) h x s m = rw (exps_same rows x.values s.values (λ j k. sym (m.holds.loops j k)) es, stm_same a h.0 x s m, items_same others h.1 x s m) refl
