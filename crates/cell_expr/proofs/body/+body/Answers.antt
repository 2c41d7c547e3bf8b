use Rattle.std.proofs.Common.{◌≡◌, ◌+◌, ◌*◌, List, [], false, nat_lt, sym, subst, arith, get_or}
use Rattle.std.proofs.lemmas.Result.{on_ok_weaker}
use Rattle.vl_base.specs.declared.files.File.{File}
use Rattle.vl_design.specs.Exec.{exec}
use Rattle.vl_design.specs.Reads.{stm_writes}
use Rattle.vl_design.specs.Sound.{IsSoundFun, IsSoundStm}
use Rattle.vl_design.specs.Trees.{fun_of, stm_of}
use Rattle.vl_design.specs.Width.{Names}
use Rattle.vl_eval.specs.Rooms.{names_of, scope_at}
use Rattle.vl_run.specs.Scopes.{calls_in}
use Rattle.vl_run.proofs.Bodies.{function-there}
use Rattle.vl_run.proofs.Inputs.{all-at}
use Rattle.cell_emit.specs.cell_form.specs.Views.{list_of}
use Rattle.cell_emit.specs.Envs.{env_of, Fits}
use Rattle.cell_emit.specs.Paths.{Does}
use Rattle.cell_emit.specs.Pendings.{ArePending}
use Rattle.cell_expr.specs.Bodies.{IsCellFun}
use Rattle.cell_expr.specs.Counts.{stm_count, body_count}
use Rattle.cell_expr.specs.Passes.{AreCompiled}
use Rattle.cell_expr.proofs.Calling.{compiled-in}
use Rattle.cell_expr.proofs.Compiling.{body-does, compilers}
use Rattle.cell_expr.proofs.Nets.{net-segment}
use Rattle.cell_expr.proofs.Waiting.{none-pending}
use Rattle.cell_expr.proofs.body.+body.Goals as goal

pub body_in-statement_at-requires : goal.body_in-statement_at-requires
body_in-statement_at-requires t c =
    let m : 4 * c.args.depth + 2 ≡ t = c.decreases in
    let room = c.args.room.now in
    let n = names_of room in
    let func = fun_of (get_or room.funcs.now c.args.function c.index-room-function.result) in
    let there = function-there room.funcs.now c.args.function c.index-room-function.result c.requires.there in
    let s = all-at (IsSoundFun n) n.funs c.args.function func c.requires.functions.sound there in
    let o = all-at (IsCellFun n) n.funs c.args.function func c.requires.functions.cells there in
    let fits = c.requires.fits func there in
    let is = sym c.inner.ensures.names in
    let apart = subst (λ z. stm_writes (λ k. nat_lt k z) func.body ≡ false) (sym c.requires.first) o.apart in (
      omega (arith, m),
      (
        subst AreCompiled is (compiled-in n func c.requires.functions),
        (
          subst (λ (z : Names). IsSoundStm z func.body) is s.body,
          (o.net, (apart, (subst (λ (z : Names). Fits z (list_of c.args.cells.now) (env_of c.args.at.now)) is fits, fits.here))),
        ),
      ),
    )

pub body_in-returns-clause-does : goal.body_in-returns-clause-does
body_in-returns-clause-does t c =
    let room = c.args.room.now in
    let n = names_of room in
    let i = names_of c.inner.result in
    let func = fun_of (get_or room.funcs.now c.args.function c.index-room-function.result) in
    let there = function-there room.funcs.now c.args.function c.index-room-function.result c.requires.there in
    let at = env_of c.args.at.now in
    let at' = env_of c.statement_at.new.at in
    let l0 = list_of c.args.cells.now in
    let l1 = list_of c.statement_at.new.cells in
    on_ok_weaker c.statement_at.result
    (λ (d : (files : List File) → Does i (stm_count (body_count i.funs c.args.depth) func.body) (exec (scope_at i files (calls_in i files c.args.depth)) func.body) c.args.at.now.here at at' l0 l1) files h other.
    body-does n i c.args.function c.args.depth func h files c.args.at.now.here at at' l0 l1 c.inner.ensures.names there other (d files))
    c.statement_at.ensures.does

pub statement_at-segment_at-requires : goal.statement_at-segment_at-requires
statement_at-segment_at-requires t c =
    let m : 4 * c.args.depth + 1 ≡ t = c.decreases in
    let names = names_of c.args.room.now in
    let r = c.requires in
    let none = sym c.nothing_pending-pending.ensures in
    let pending = subst (ArePending names (list_of c.args.cells.now)) none (none-pending names (list_of c.args.cells.now)) in
    (omega (arith, m), (r.functions, (r.sound, (net-segment _ (stm_of [] c.args.a.now) r.net, (r.apart, (r.fits, (pending, r.off)))))))

pub segment_at-statement_in-requires-clause-functions : goal.segment_at-statement_in-requires-clause-functions
segment_at-statement_in-requires-clause-functions t c =
    let m : 4 * c.args.depth ≡ t = c.decreases in
    compilers c.args.room.now c.args.depth _ _ c.requires.functions
    (λ f cells at deep there fits first. (omega (arith, m, deep), (deep, (c.requires.functions, (there, (fits, first))))))
    (λ f cells cells' at at' r p. p.0)
    (λ f cells cells' at at' r p. p.1)
