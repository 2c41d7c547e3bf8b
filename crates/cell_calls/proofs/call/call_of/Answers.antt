use Rattle.vl_design.proofs.TreeLemmas.{args-map}
use Rattle.cell_calls.proofs.call.call_of.Goals as goal

pub named_call-requires-clause-ready : goal.named_call-requires-clause-ready
named_call-requires-clause-ready c = record { sound = c.requires.sound; functions = c.requires.functions; fits = c.requires.fits; first = c.requires.first }

pub named_call-requires-clause-sound : goal.named_call-requires-clause-sound
named_call-requires-clause-sound c =
    let task = rw (args-map c.args.call.now.args.items) at c.requires.task in
    rw (c.as_slice.ensures, c.as_slice-2.ensures, c.as_slice-3.ensures.value) task

pub returns-clause-traps : goal.returns-clause-traps
returns-clause-traps c =
    let traps = rw (c.as_slice.ensures, c.as_slice-2.ensures, c.as_slice-3.ensures.value) at c.named_call.ensures.traps in
    rw (args-map c.args.call.now.args.items) traps
