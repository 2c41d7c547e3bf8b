use Rattle.std.proofs.Common.{sym, ap, ◌∙◌}
use Rattle.vl_design.specs.Trees.{stm_of}
use Rattle.vl_bits.specs.Seen.{names_seen}
use Rattle.vl_bits.specs.Masks.{in_parts}
use Rattle.vl_latch.proofs.Judging.{partly_exactly}
use Rattle.vl_latch.proofs.Naming.{touched_named}
use Rattle.vl_latch.proofs.bodies.process_is_partly.Goals as goal

pub wholes-requires : goal.wholes-requires
wholes-requires c = λ b h. touched_named (names_seen c.args.m.now) b (stm_of c.args.path.now c.args.body.now) c.requires.sound
    (sym (c.in_ok-walked.ensures.driven b) ∙ ap (λ ps. in_parts ps b) (sym c.as_slice.ensures.value) ∙ h)

pub returns-clause-partly : goal.returns-clause-partly
returns-clause-partly c =
    let w = c.in_ok-walked.walked in
    let lacks = rw (c.as_slice-2.ensures.value, c.as_slice-3.ensures.value) at c.lacks-left.ensures.lacks in
    let shares = rw (c.as_slice-4.ensures.value, c.as_slice-5.ensures.value) at c.shares-early.ensures.shares in
    let is = rw c.as_slice.ensures.value at c.in_ok-written.ensures.bits in
    rw c.one_of.ensures (partly_exactly (names_seen c.args.m.now) (stm_of c.args.path.now c.args.body.now) w.read.items w.assigned.items c.in_ok-walked.ensures.read c.in_ok-walked.ensures.assigned
    w.driven.items c.in_ok-written.written.items c.lacks-left.result c.shares-early.result c.in_ok-walked.ensures.driven is lacks shares)
