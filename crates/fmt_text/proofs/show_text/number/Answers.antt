use Rattle.std.proofs.Common.{◌<◌, ◌+◌, ◌*◌, sym, ap, ◌∙◌, take, arith}
use Rattle.std.specs.Int.Digits.{number_from_digits}
use Rattle.std.proofs.lemmas.Int.Digits.{number_more}
use Rattle.fmt_text.proofs.Bytes.{byte_more, byte_room}
use Rattle.fmt_text.proofs.show_text.number.Goals as goal

pub overflow_mul-value : goal.overflow_mul-value
overflow_mul-value c =
    let i : c.loop-b.b-index < 16 = omega arith in
    let a = byte_more c.loop-b.value 0 c.loop-b.b-index c.loop-b.invariant.1 (omega arith) in
    let r = byte_room c.loop-b.b-index i in
    omega (arith, a, r)

pub overflow_add-value : goal.overflow_add-value
overflow_add-value c =
    let i : c.loop-b.b-index < 16 = omega arith in
    let b : c.from.result < 256 = omega (arith, c.from.ensures, c.type_inv.text c.loop-b.b-index) in
    let a = byte_more c.loop-b.value c.from.result c.loop-b.b-index c.loop-b.invariant.1 b in
    let r = byte_room c.loop-b.b-index i in
    omega (arith, a, r)

pub loop-b-preserved : goal.loop-b-preserved
loop-b-preserved c =
    let b : c.from.result < 256 = omega (arith, c.from.ensures, c.type_inv.text c.loop-b.b-index) in (
      ap (λ z. z * 256 + c.from.result) c.loop-b.invariant.0
          ∙ (ap (λ z. number_from_digits 256 (take c.loop-b.b-index c.args.text.now) * 256 + z) c.from.ensures
          ∙ sym (number_more 256 c.args.text.now c.loop-b.b-index c.loop-b-test.true)),
      byte_more c.loop-b.value c.from.result c.loop-b.b-index c.loop-b.invariant.1 b,
    )
