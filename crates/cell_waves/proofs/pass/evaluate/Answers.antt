use Rattle.std.proofs.Common.{◌≡◌, ◌<◌, true, false, List, length, map, arith, sym, ap, ◌∙◌, subst}
use Rattle.std.proofs.lemmas.Result.{on_ok_weaker}
use Rattle.cell_emit.specs.vl_base.specs.declared.files.File.{File}
use Rattle.ten_form.specs.vl_design.specs.Exec.{exec}
use Rattle.ten_form.specs.vl_design.specs.Functions.{scope_of}
use Rattle.ten_form.specs.vl_design.specs.Queue.{is_comb, proc_at}
use Rattle.ten_form.specs.vl_design.specs.Syntax.{Stm}
use Rattle.ten_form.specs.vl_design.specs.Trees.{flat_of, proc_of, stm_of}
use Rattle.ten_form.specs.vl_design.specs.Width.{names_of}
use Rattle.ten_form.specs.vl_runs.specs.NetsOfSettle.{comb_at, is_memory}
use Rattle.ten_form.specs.vl_runs.proofs.Bodies.{procs-are, procs-long, proc-is, sound-at}
use Rattle.cell_emit.specs.cell_form.specs.Views.{list_of}
use Rattle.cell_emit.specs.Envs.{env_of}
use Rattle.cell_emit.specs.Paths.{Does}
use Rattle.cell_expr.specs.Bodies.{IsNet}
use Rattle.cell_expr.specs.Counts.{stm_count, body_cells}
use Rattle.cell_waves.proofs.Passing.{net, passes-skipped, passes-evaluated}
use Rattle.cell_waves.proofs.pass.evaluate.Goals as goal

pub returns-then-not-is_comb-clause-passes : goal.returns-then-not-is_comb-clause-passes
returns-then-not-is_comb-clause-passes c =
    let d = flat_of c.args.design.now in
    let xs = c.as_slice.result.now in
    let i = c.args.number in
    let x = c.index-as_slice-number.result in
    let procs : d.procs ≡ map proc_of xs = procs-are c.args.design.now xs c.as_slice.ensures in
    let there : i < length xs = omega (arith, c.requires.there, procs-long d xs procs) in
    let kind : comb_at d i ≡ false = ap (λ p. is_comb p.kind) (proc-is d xs i x procs there c.index-as_slice-number.is) ∙ sym c.is_comb.ensures ∙ c.if-not-is_comb.true in
    passes-skipped d i (env_of c.args.at.now) (list_of c.args.cells.now) c.requires.fits kind

pub statement-requires-clause-statement : goal.statement-requires-clause-statement
statement-requires-clause-statement c =
    let d = flat_of c.args.design.now in
    let xs = c.as_slice.result.now in
    let i = c.args.number in
    let x = c.index-as_slice-number.result in
    let procs : d.procs ≡ map proc_of xs = procs-are c.args.design.now xs c.as_slice.ensures in
    let there : i < length xs = omega (arith, c.requires.there, procs-long d xs procs) in
    let proc = proc-is d xs i x procs there c.index-as_slice-number.is in
    let kind : comb_at d i ≡ true = ap (λ p. is_comb p.kind) proc ∙ sym c.is_comb.ensures ∙ c.if-not-is_comb.false in
    record {
      path = x.path;
      sound = sound-at d xs i x c.requires.sound procs there c.index-as_slice-number.is;
      net = subst IsNet (ap (λ p. p.body) proc) (net (is_memory d.rows) (proc_at d i).body (c.requires.checked.nets i kind));
    }

pub returns-clause-passes : goal.returns-clause-passes
returns-clause-passes c =
    let d = flat_of c.args.design.now in
    let xs = c.as_slice.result.now in
    let i = c.args.number in
    let x = c.index-as_slice-number.result in
    let procs : d.procs ≡ map proc_of xs = procs-are c.args.design.now xs c.as_slice.ensures in
    let there : i < length xs = omega (arith, c.requires.there, procs-long d xs procs) in
    let proc = proc-is d xs i x procs there c.index-as_slice-number.is in
    let kind : comb_at d i ≡ true = ap (λ p. is_comb p.kind) proc ∙ sym c.is_comb.ensures ∙ c.if-not-is_comb.false in
    let at = env_of c.args.at.now in
    let at' = env_of c.statement.new.at in
    let l0 = list_of c.args.cells.now in
    let l1 = list_of c.statement.new.cells in
    let body : stm_of x.path x.body ≡ (proc_at d i).body = ap (λ p. p.body) (sym proc) in
    on_ok_weaker c.statement.result
    (λ h. passes-evaluated d i at at' l0 l1 c.requires.checked c.requires.fits kind
    (λ (files : List File). subst (λ (a : Stm). Does (names_of d) (stm_count (body_cells d) a) (exec (scope_of d files) a) at.here at at' l0 l1) body (h files x.path)))
    c.statement.ensures.does
