-- The processes and the functions of a design whose loops are unrolled have no loops in their placed trees either.
use Rattle.std.proofs.Common.{ℕ, List, [], ◌∷◌, map}
use Rattle.std.specs.Prelude.{All}
use Rattle.std.specs.List.{AllByRecursion}
use Rattle.std.proofs.lemmas.List.Elements.{recursion_from_All, All-from_recursion}
use Rattle.vl_design.specs.vl_base.specs.declared.bits.UnOp.TheVariants.{LogNot}
use Rattle.vl_design.specs.declared.design.Design.{Design}
use Rattle.vl_design.specs.declared.design.Func.{Func}
use Rattle.vl_design.specs.declared.design.Process.{Process}
use Rattle.vl_design.specs.Laws.{IsUnrolledStm, AreUnrolledItems, IsUnrolled}
use Rattle.vl_design.specs.Placed as p
use Rattle.vl_design.specs.Plainly as plain
use Rattle.vl_design.specs.Seen as seen
use Rattle.vl_design.specs.Syntax.{Stm, Items, Fun, Proc}
use Rattle.vl_design.specs.Trees.{flat_of}
use Rattle.vl_cost.specs.Walks.{HasNoLoop, HaveNoLoop, ItemsHaveNoLoop}
use Rattle.vl_design.proofs.Shared.{first-bare, item-bare}

module _ (path : List ℕ) where
  mutual
    pub stm-loopless : (a : p.Stm) → IsUnrolledStm (plain.stm path a) → HasNoLoop a
    stm-loopless (p.Nop at) h = h
    stm-loopless (p.Seq at as') h = stms-loopless as' h
    stm-loopless (p.If at t a b) h = let k = first-bare path t _ h in (stm-loopless a k.0, stm-loopless b k.1)
    stm-loopless (p.Case at x is wild) h = items-loopless is h
    stm-loopless (p.For at j start test step a) h = h
    stm-loopless (p.Repeat at n a) h = h
    stm-loopless (p.Set at t x) h = first-bare path x _ h
    stm-loopless (p.Later at t x) h = first-bare path x _ h
    stm-loopless (p.Task at name given) h = h

    stms-loopless : (as' : p.Stms) → IsUnrolledStm (plain.stms path as') → HaveNoLoop as'
    stms-loopless p.NoStms h = h
    stms-loopless (p.MoreStms a as') h = (stm-loopless a h.0, stms-loopless as' h.1)

    items-loopless : (is : p.Items) → AreUnrolledItems (plain.items path is) → ItemsHaveNoLoop is
    items-loopless p.NoItems h = h
    items-loopless (p.MoreItems es a others) h = let k = item-bare es _ _ h in (stm-loopless a k.0, items-loopless others k.1)

pub funcs-loopless : (design : Design) → IsUnrolled (flat_of design) → AllByRecursion (λ f. HasNoLoop (seen.stm_of f.body)) design.funcs
funcs-loopless design u = go design.funcs (recursion_from_All (λ f. IsUnrolledStm f.body) (map plain.fun (map seen.func_of design.funcs)) u.funs)
  where
    go : (fs : List Func) → AllByRecursion (λ (f : Fun). IsUnrolledStm f.body) (map plain.fun (map seen.func_of fs)) → AllByRecursion (λ (f : Func). HasNoLoop (seen.stm_of f.body)) fs
    go [] h = h
    go (f ∷ fs) h = (stm-loopless [] (seen.stm_of f.body) h.0, go fs h.1)

pub procs-loopless : (design : Design) → IsUnrolled (flat_of design) → AllByRecursion (λ a. HasNoLoop (seen.stm_of a.body)) design.processes
procs-loopless design u = go design.processes (recursion_from_All (λ q. IsUnrolledStm q.body) (map plain.proc (map seen.process_of design.processes)) u.procs)
  where
    go : (as' : List Process) → AllByRecursion (λ (q : Proc). IsUnrolledStm q.body) (map plain.proc (map seen.process_of as')) → AllByRecursion (λ (a : Process). HasNoLoop (seen.stm_of a.body)) as'
    go [] h = h
    go (a ∷ as') h = (stm-loopless a.path (seen.stm_of a.body) h.0, go as' h.1)

pub all-funcs : (design : Design) → IsUnrolled (flat_of design) → All (λ f. HasNoLoop (seen.stm_of f.body)) design.funcs
all-funcs design u = All-from_recursion (λ f. HasNoLoop (seen.stm_of f.body)) design.funcs (funcs-loopless design u)

pub all-procs : (design : Design) → IsUnrolled (flat_of design) → All (λ a. HasNoLoop (seen.stm_of a.body)) design.processes
all-procs design u = All-from_recursion (λ a. HasNoLoop (seen.stm_of a.body)) design.processes (procs-loopless design u)
