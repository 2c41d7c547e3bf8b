use Rattle.std.proofs.Common.{◌∷◌, [], refl}
use Rattle.vl_design.specs.Trees.{fun_of}
use Rattle.vl_bits.specs.Seen.{names_seen}
use Rattle.vl_latch.proofs.Judging.{fun_exactly}
use Rattle.vl_latch.proofs.bodies.function_is_partly.Goals as goal

pub returns-clause-partly : goal.returns-clause-partly
returns-clause-partly c =
    let w = c.in_ok-walked.walked in
    let lacks = rw c.as_slice.ensures.value at c.lacks-left.ensures.lacks in
    let owns = rw c.as_slice-2.ensures.value at c.has_own-early.ensures in
    rw c.one_of.ensures (fun_exactly (names_seen c.args.m.now) (fun_of c.args.f.now) w.read.items w.assigned.items (c.whole.result ∷ []) c.whole.result c.lacks-left.result c.has_own-early.result
    c.in_ok-walked.ensures.read c.in_ok-walked.ensures.assigned refl c.whole.ensures.bits lacks owns)
