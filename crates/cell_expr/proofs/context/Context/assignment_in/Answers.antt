use Rattle.std.proofs.Common.{List, sym, append-nil}
use Rattle.std.proofs.lemmas.Result.{on_ok_weaker}
use Rattle.vl_base.specs.declared.files.File.{File}
use Rattle.vl_design.specs.Exec.{exec}
use Rattle.vl_design.specs.Syntax.{Set}
use Rattle.vl_design.specs.Trees.{exp_of, target_of}
use Rattle.cell_emit.specs.cell_form.specs.Views.{list_of}
use Rattle.cell_emit.specs.Envs.{env_of}
use Rattle.cell_emit.specs.Paths.{Does}
use Rattle.cell_emit.specs.Pendings.{slots_of, memories_of}
use Rattle.cell_expr.specs.Contexts.{names_of, scope_of, body_of}
use Rattle.cell_expr.specs.Counts.{stm_count}
use Rattle.cell_emit.proofs.Leaving.{leaves-set}
use Rattle.cell_expr.proofs.context.Context.assignment_in.Goals as goal

pub returns-then-later-clause-does : goal.returns-then-later-clause-does
returns-then-later-clause-does g c = rw c.if-later.true c.later_in.ensures.does

pub returns-then-later-clause-leaves : goal.returns-then-later-clause-leaves
returns-then-later-clause-leaves g c = rw c.if-later.true c.later_in.ensures.leaves

pub returns-else-later-clause-does : goal.returns-else-later-clause-does
returns-else-later-clause-does g c = rw c.if-later.false c.set_in.ensures.does

pub returns-else-later-clause-leaves : goal.returns-else-later-clause-leaves
returns-else-later-clause-leaves g c =
    let target = target_of c.args.target.now in
    let e = exp_of c.args.source.now in
    let names = names_of c.args.self.now in
    rw c.if-later.false (
    on_ok_weaker c.set_in.result
    (λ (d : (files : List File) → Does names (stm_count (body_of c.args.self.now) (Set target e)) (exec (scope_of c.args.self.now files) (Set target e))
    c.args.off (env_of c.args.at.now) (env_of c.set_in.new.at) (list_of c.args.cells.now) (list_of c.set_in.new.cells)) files.
    leaves-set names (scope_of c.args.self.now files) target e c.args.off (env_of c.args.at.now) (slots_of c.args.pending.now) (list_of c.args.cells.now) (list_of c.set_in.new.cells)
    c.requires.pending c.set_in.ensures.grows)
    c.set_in.ensures.does)

pub set_in-requires-clause-plain : goal.set_in-requires-clause-plain
set_in-requires-clause-plain g c = rw c.if-later.false at c.requires.plain

pub returns-then-later-clause-sites : goal.returns-then-later-clause-sites
returns-then-later-clause-sites g c = rw c.if-later.true c.later_in.ensures.sites

pub returns-else-later-clause-sites : goal.returns-else-later-clause-sites
returns-else-later-clause-sites g c =
    let target = target_of c.args.target.now in
    let e = exp_of c.args.source.now in
    rw c.if-later.false (
    on_ok_weaker c.set_in.result
    (λ (d : (files : List File) → Does (names_of c.args.self.now) (stm_count (body_of c.args.self.now) (Set target e)) (exec (scope_of c.args.self.now files) (Set target e))
    c.args.off (env_of c.args.at.now) (env_of c.set_in.new.at) (list_of c.args.cells.now) (list_of c.set_in.new.cells)). sym (append-nil (memories_of c.args.pending.now.sites.items)))
    c.set_in.ensures.does)
