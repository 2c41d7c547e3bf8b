use Rattle.std.proofs.Common.{length}
use Rattle.vl_bits.specs.Seen.{names_seen}
use Rattle.vl_latch.proofs.Designs.{function-first, many-function, sound-function, sound-result}
use Rattle.vl_latch.proofs.paths.function_fault.Goals as goal

pub function_is_partly-requires-clause-result : goal.function_is_partly-requires-clause-result
function_is_partly-requires-clause-result c = sound-result c.args.design.now (names_seen c.meanings_of-m.result) c.args.f.now c.as_slice.result.now c.meanings_of-m.ensures.names c.as_slice.ensures c.requires.sound

pub function_is_partly-requires-clause-sound : goal.function_is_partly-requires-clause-sound
function_is_partly-requires-clause-sound c = sound-function c.args.design.now (names_seen c.meanings_of-m.result) c.args.f.now c.as_slice.result.now c.meanings_of-m.ensures.names c.as_slice.ensures c.requires.sound

pub function_is_partly-requires-clause-long : goal.function_is_partly-requires-clause-long
function_is_partly-requires-clause-long c = many-function c.args.design.now (names_seen c.meanings_of-m.result) c.as_slice.result.now (length c.args.known.now.items) (length c.grow.new.known.items) c.meanings_of-m.ensures.names c.requires.long
    (rw c.meanings_of-m.ensures.locals at c.in_ok-grow.ensures.long)

pub returns-clause-first : goal.returns-clause-first
returns-clause-first c = rw c.place_if.ensures (function-first c.args.design.now (names_seen c.meanings_of-m.result) c.args.f.now c.as_slice.result.now c.in_ok-partly.partly c.meanings_of-m.ensures.names c.as_slice.ensures c.in_ok-partly.ensures.partly)
