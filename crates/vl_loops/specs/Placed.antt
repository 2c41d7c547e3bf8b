-- Placed designs with their loops unrolled: each statement keeps its place in each turn of the loops around it, and a loop
-- becomes a block, at its place, of its turns (IEEE 1364-2005, clauses 9.6 and 9.8.1).
use Rattle.std.specs.Prelude.{ℕ, zero, suc, Bool, true, false, List, [], map}
use Rattle.vl_base.specs.declared.place.Place.{Place}
use Rattle.vl_design.specs.Syntax.{Row}
use Rattle.vl_design.specs.Width.{Scope, signal_form}
use Rattle.vl_design.specs.Value.{value_of}
use Rattle.vl_design.specs.State.{State}
use Rattle.vl_design.specs.Exec.{exec, goes_on, most_turns}
use Rattle.vl_design.specs.Functions.{scope_of, inner}
use Rattle.vl_design.specs.Placed as p
use Rattle.vl_design.specs.Plainly as plain
use Rattle.vl_loops.specs.Unroll.{is_loop, still}

module _ (rows : List Row) (values : List (List ℕ)) where
  -- a loop variable has its number
  abbrev pub number_at : Bool → Place → ℕ → p.Exp
  number_at true at j = p.Num at (value_of values j) (signal_form rows j).width (signal_form rows j).signed
  number_at false at j = p.Sig at j

  abbrev mutual
    pub exp_put : p.Exp → p.Exp
    exp_put (p.Num at v w s) = p.Num at v w s
    exp_put (p.Label at v care w s) = p.Label at v care w s
    exp_put (p.Sig at j) = number_at (is_loop rows j) at j
    exp_put (p.Word at m a) = p.Word at m (exp_put a)
    exp_put (p.Pick at b i from w) = p.Pick at (exp_put b) (exp_put i) from w
    exp_put (p.Slice at b low w) = p.Slice at (exp_put b) low w
    exp_put (p.Un at op a) = p.Un at op (exp_put a)
    exp_put (p.Bin at op a b) = p.Bin at op (exp_put a) (exp_put b)
    exp_put (p.Cond at t a b) = p.Cond at (exp_put t) (exp_put a) (exp_put b)
    exp_put (p.Cat at es) = p.Cat at (exps_put es)
    exp_put (p.Rep at n es) = p.Rep at n (exps_put es)
    exp_put (p.Cast at s a) = p.Cast at s (exp_put a)
    exp_put (p.Call at f es) = p.Call at f (exps_put es)
    exp_put (p.Time at) = p.Time at
    exp_put (p.Sys at name given) = p.Sys at name (args_put given)

    pub exps_put : p.Exps → p.Exps
    exps_put p.NoExps = p.NoExps
    exps_put (p.MoreExps e es) = p.MoreExps (exp_put e) (exps_put es)

    pub args_put : p.Args → p.Args
    args_put p.NoArgs = p.NoArgs
    args_put (p.NullArg others) = p.NullArg (args_put others)
    args_put (p.TextArg text others) = p.TextArg text (args_put others)
    args_put (p.ValueArg e others) = p.ValueArg (exp_put e) (args_put others)

  abbrev mutual
    pub target_put : p.Target → p.Target
    target_put (p.Whole at j) = p.Whole at j
    target_put (p.WordAt at m a) = p.WordAt at m (exp_put a)
    target_put (p.PickAt at b i from w) = p.PickAt at (target_put b) (exp_put i) from w
    target_put (p.SliceAt at b low w) = p.SliceAt at (target_put b) low w
    target_put (p.Several at ts) = p.Several at (targets_put ts)

    pub targets_put : p.Targets → p.Targets
    targets_put p.NoTargets = p.NoTargets
    targets_put (p.MoreTargets t ts) = p.MoreTargets (target_put t) (targets_put ts)

-- ---- statements

-- the turns of a loop one after another
abbrev pub turn_list : {S : Type 0} → ℕ → (S → Bool) → (S → S) → (S → p.Stm) → S → p.Stms
turn_list zero test step f s = p.NoStms
turn_list (suc n) test step f s = elim (test s) [ true ↦ p.MoreStms (f s) (turn_list n test step f (step s)) | false ↦ p.NoStms ]

abbrev pub copies : ℕ → p.Stm → p.Stms
copies zero a = p.NoStms
copies (suc n) a = p.MoreStms a (copies n a)

module _ (scope : Scope) where
  abbrev mutual
    -- e has the values of the loop variables; a header has no system call, so no path
    pub stm_unrolled : p.Stm → State → p.Stm
    stm_unrolled (p.Nop at) e = p.Nop at
    stm_unrolled (p.Seq at as') e = p.Seq at (stms_unrolled as' e)
    stm_unrolled (p.If at t a b) e = p.If at (exp_put scope.names.rows e.values t) (stm_unrolled a e) (stm_unrolled b e)
    stm_unrolled (p.Case at x is wild) e = p.Case at (exp_put scope.names.rows e.values x) (items_unrolled is e) wild
    stm_unrolled (p.For at j start test step a) e =
        p.Seq at (turn_list most_turns (goes_on scope (plain.exp test)) (exec scope (plain.stm [] step)) (stm_unrolled a) (exec scope (plain.stm [] start) e))
    stm_unrolled (p.Repeat at n a) e = p.Seq at (copies n (stm_unrolled a e))
    stm_unrolled (p.Set at t x) e = p.Set at (target_put scope.names.rows e.values t) (exp_put scope.names.rows e.values x)
    stm_unrolled (p.Later at t x) e = p.Later at (target_put scope.names.rows e.values t) (exp_put scope.names.rows e.values x)
    stm_unrolled (p.Task at name given) e = p.Task at name (args_put scope.names.rows e.values given)

    pub stms_unrolled : p.Stms → State → p.Stms
    stms_unrolled p.NoStms e = p.NoStms
    stms_unrolled (p.MoreStms a as') e = p.MoreStms (stm_unrolled a e) (stms_unrolled as' e)

    pub items_unrolled : p.Items → State → p.Items
    items_unrolled p.NoItems e = p.NoItems
    items_unrolled (p.MoreItems es a others) e = p.MoreItems (exps_put scope.names.rows e.values es) (stm_unrolled a e) (items_unrolled others e)

-- ---- designs: signals, and the heads of functions and processes, stay

abbrev pub func_unrolled : Scope → p.Func → p.Func
func_unrolled scope f = let body = inner scope (plain.fun f) in record f { body = stm_unrolled body f.body (still body) }

abbrev pub process_unrolled : Scope → p.Process → p.Process
process_unrolled scope a = record a { body = stm_unrolled scope a.body (still scope) }

-- the placed design with its loops unrolled
abbrev pub unrolled_placed : p.Design → p.Design
unrolled_placed d =
    let scope = scope_of (plain.flat d) [] in
    record d { funcs = map (func_unrolled scope) d.funcs; processes = map (process_unrolled scope) d.processes }
