use Rattle.std.proofs.lemmas.Result.{IfOk-weaker}
use Rattle.vl_design.specs.Trees.{flat_of}
use Rattle.vl_design.specs.Width.{names_of}
use Rattle.cell_emit.specs.cell_form.specs.Views.{list_of}
use Rattle.cell_emit.proofs.Frames.{longer-same}
use Rattle.cell_emit.specs.Envs.{env_of, HasMemories}
use Rattle.cell_calls.proofs.Nexting.{holds-number}
use Rattle.cell_states.proofs.run.next_in.Goals as goal

pub returns-in-Go-clause-holds : goal.returns-in-Go-clause-holds
returns-in-Go-clause-holds c =
    let names = names_of (flat_of c.args.design.now) in
    let at = env_of c.args.at.now in
    let l = list_of c.args.cells.now in
    rw c.in-Go.is (IfOk-weaker c.number.result _ _ (λ r h files. holds-number names at 0 c.in-Go.to l l (list_of c.number.new.cells) r c.requires.fits (longer-same (HasMemories names at) l) h) c.number.ensures.gives)

pub returns-in-Branch-clause-holds : goal.returns-in-Branch-clause-holds
returns-in-Branch-clause-holds c = rw c.in-Branch.is c.branch-alloc.ensures.holds

pub returns-in-Switch-clause-holds : goal.returns-in-Switch-clause-holds
returns-in-Switch-clause-holds c =
    let holds = rw c.deref.ensures.value at c.switch.ensures.holds in
    rw c.in-Switch.is holds

pub returns-in-Commit-clause-holds : goal.returns-in-Commit-clause-holds
returns-in-Commit-clause-holds c =
    let names = names_of (flat_of c.args.design.now) in
    let at = env_of c.args.at.now in
    let l = list_of c.args.cells.now in
    rw c.in-Commit.is (IfOk-weaker c.number-in-Commit.result _ _ (λ r h files. holds-number names at 0 c.in-Commit.to l l (list_of c.number-in-Commit.new.cells) r c.requires.fits (longer-same (HasMemories names at) l) h) c.number-in-Commit.ensures.gives)
