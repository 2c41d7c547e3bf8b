use Rattle.std.proofs.Common.{◌≡◌, ◌+◌, ◌∙◌, ap, sym, not, true, length, take, length-append, length-take-le, arith}
use Rattle.std.specs.Result.{is_ok}
use Rattle.fab_io.proofs.Reading.{read_full, read_ended, read_more}
use Rattle.fab_io.proofs.dir_store.read_within.Goals as goal

pub returns-then-room-eq0-clause-bytes : goal.returns-then-room-eq0-clause-bytes
returns-then-room-eq0-clause-bytes g c =
    read_full _ _ _ _ c.loop.invariant.within (omega arith) c.loop.invariant.came

pub returns-then-count-eq0-clause-bytes : goal.returns-then-count-eq0-clause-bytes
returns-then-count-eq0-clause-bytes g c =
    let part : length (take c.min-room.result c.loop.chunk) ≡ c.min-room.result = length-take-le _ _ (omega arith) in
    read_ended _ _ _ _ _ _ _ _ c.loop.invariant.within c.loop.invariant.came c.read.ensures.bytes c.in-Ok.is c.if-count-eq0.true (omega arith)

pub loop-preserved : goal.loop-preserved
loop-preserved g c =
    let ok : is_ok c.extend_from_slice.result ≡ true = c.is_err.ensures.negation ∙ ap not c.if-is_err.false in
    let grown = rw ok at c.extend_from_slice.ensures.items in
    let came = c.in-Ok.ensures.bound in
    let part : length (take c.min-room.result c.loop.chunk) ≡ c.min-room.result = length-take-le _ _ (omega arith) in
    let grew : length c.extend_from_slice.new.self.items ≡ length c.loop.bytes.items + c.in-Ok.count =
    ap length grown ∙ length-append _ _ ∙ ap (λ k. length c.loop.bytes.items + k) (sym came.1) in
    record {
      within = omega arith;
      turns = omega arith;
      came = rw grown (read_more _ _ _ _ _ _ _ c.loop.invariant.came c.read.ensures.bytes c.in-Ok.is);
    }

pub returns-clause-bytes : goal.returns-clause-bytes
returns-clause-bytes g c =
    read_full _ _ _ _ c.loop.invariant.within (omega arith) c.loop.invariant.came
