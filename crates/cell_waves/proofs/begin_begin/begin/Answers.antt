use Rattle.std.proofs.Common.{◌+◌, arith}
use Rattle.ten_form.specs.vl_design.specs.State.{sample}
use Rattle.ten_form.specs.vl_design.specs.Trees.{flat_of}
use Rattle.ten_form.specs.vl_design.specs.Width.{names_of}
use Rattle.ten_form.specs.vl_runs.specs.Nets.{pass}
use Rattle.ten_form.specs.vl_runs.specs.NetsOfSettle.{run}
use Rattle.cell_emit.specs.cell_form.specs.Views.{list_of}
use Rattle.cell_emit.proofs.Frames.{longer-then, longer-weaken}
use Rattle.cell_emit.specs.Envs.{env_of, HasMemories}
use Rattle.cell_emit.proofs.Staying.{sound-behind}
use Rattle.cell_emit.specs.Entries.{read_count}
use Rattle.cell_emit.specs.Reads.{HasPlaces}
use Rattle.cell_waves.specs.Passes.{pass_count}
use Rattle.cell_waves.specs.BeginsOfBegin.{HasCopies}
use Rattle.cell_waves.proofs.BeginningOfBegin.{sound-reads}
use Rattle.cell_waves.proofs.Joining.{joined-fits, joined-memories, joined-stands}
use Rattle.cell_waves.proofs.begin_begin.begin.Goals as goal

pub returns-clause-fits : goal.returns-clause-fits
returns-clause-fits c =
    let names = names_of (flat_of c.args.design.now) in
    let j = rw c.as_slice.ensures at c.join.ensures in
    joined-fits names (env_of c.pass.new.at) (env_of c.in_ok-at.at) (env_of c.join.new.at) (list_of c.pass.new.cells) (list_of c.reads-2.new.cells) j c.in_ok-at.ensures.grows c.in_ok-pass.ensures.passes.fits c.in_ok-at.ensures.fits

pub returns-clause-longer : goal.returns-clause-longer
returns-clause-longer c =
    let d = flat_of c.args.design.now in
    let names = names_of d in
    let values = c.args.values.now in
    let works = c.args.works.now in
    let time = c.args.time in
    let answer = c.args.answer in
    let n = read_count d.rows + 4 in
    let m = pass_count d c.args.order.now in
    let l0 = list_of c.args.cells.now in
    let l1 = list_of c.reads.new.cells in
    let l2 = list_of c.pass.new.cells in
    let l3 = list_of c.reads-2.new.cells in
    let nets = env_of c.in_ok-nets.nets in
    let Has = HasCopies names values works time answer in
    let a = longer-weaken (HasPlaces names values time answer) Has n n l0 l1 (λ s h. h.committed) (omega arith) c.in_ok-nets.ensures.longer in
    let b = longer-weaken (HasMemories names nets) Has m m l1 l2 (λ s h. c.in_ok-nets.ensures.memories s h.committed) (omega arith) c.in_ok-pass.ensures.passes.longer in
    let e = longer-weaken (HasPlaces names works time answer) Has n n l2 l3 (λ s h. h.present) (omega arith) c.in_ok-at.ensures.longer in
    longer-then Has (n + m) n l0 l2 l3 (longer-then Has n m l0 l1 l2 a b) e

pub returns-clause-memories : goal.returns-clause-memories
returns-clause-memories c =
    let names = names_of (flat_of c.args.design.now) in
    let j = rw c.as_slice.ensures at c.join.ensures in
    λ z h. joined-memories names (env_of c.pass.new.at) (env_of c.in_ok-at.at) (env_of c.join.new.at) (list_of c.pass.new.cells) (list_of c.reads-2.new.cells) z j (c.in_ok-at.ensures.memories z h.present)

pub returns-clause-stands : goal.returns-clause-stands
returns-clause-stands c =
    let d = flat_of c.args.design.now in
    let names = names_of d in
    let order = c.args.order.now in
    let l0 = list_of c.args.cells.now in
    let l1 = list_of c.reads.new.cells in
    let l2 = list_of c.pass.new.cells in
    let l3 = list_of c.reads-2.new.cells in
    let nets = env_of c.in_ok-nets.nets in
    let p = c.in_ok-pass.ensures.passes in
    let j = rw c.as_slice.ensures at c.join.ensures in
    λ files z b t w x sound alive first second mix.
    let one = sound-reads names c.args.values.now c.args.time c.args.answer (read_count d.rows + 4) z l0 l1 c.in_ok-nets.ensures.longer sound in
    let two = sound-behind names nets (pass_count d order) one.shape l1 l2 p.longer one.sound in
    let st1 = c.in_ok-nets.ensures.stands z b (sample t) sound first in
    let st2 = p.stands files one.shape b t one.sound alive st1 in
    let st3 = c.in_ok-at.ensures.stands two.shape b (sample (record t { values = w })) two.sound second in
    joined-stands names (env_of c.pass.new.at) (env_of c.in_ok-at.at) (env_of c.join.new.at) l2 l3 b t (pass (run d files t) order t.values) w x j c.in_ok-at.ensures.grows p.fits st2 st3 mix
