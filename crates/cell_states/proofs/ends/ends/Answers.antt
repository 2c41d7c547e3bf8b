use Rattle.std.proofs.Common.{◌∙◌, ap, ◌++◌, ◌∷◌, []}
use Rattle.vl_design.specs.Trees.{flat_of}
use Rattle.cell_emit.specs.cell_form.specs.declared.cell.Write.TheVariants as w
use Rattle.cell_emit.specs.Envs.{env_of}
use Rattle.cell_emit.specs.Pendings.{slots_of}
use Rattle.ten_form.specs.Registers.{state_register}
use Rattle.cell_states.proofs.Finishing.{ended}
use Rattle.cell_states.proofs.ends.ends.Goals as goal

pub returns : goal.returns
returns c =
    let is = c.as_slice-signals.ensures in
    let changed = rw is at c.in_ok-sets.ensures in
    let done = rw is at c.in_ok-commit.ensures in
    ended (flat_of c.args.design.now) c.args.commits c.args.delayed.now (env_of c.args.before.now.at) (env_of c.args.after.now.at) (slots_of c.args.before.now.pending) (slots_of c.args.after.now.pending) c.args.ticks c.args.next
    c.in_ok-sets.sets.items c.commit.new.sets.items c.push.new.self.items changed done
    (c.in_ok-push.ensures.items ∙ ap (λ xs. xs ++ w.Reg state_register c.args.next ∷ []) c.in_ok-count.ensures)
