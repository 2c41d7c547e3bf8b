use Rattle.std.proofs.Common.{◌%◌, ◌^◌, get_or, sym, ap, ◌∙◌}
use Rattle.vl_lex.proofs.digits.wrapped_value.Goals.{then-byte-ne95, else-byte-ne95}
use Rattle.vl_lex.proofs.Values.{wrapped_more, value_same}
use Rattle.vl_lex.proofs.RunLaws.{read}
use Rattle.vl_lex.proofs.digits.wrapped_value.Goals as goal

pub loop-byte-preserved : goal.loop-byte-preserved
loop-byte-preserved c =
    elim c.if-byte-ne95.branch [
      | then-byte-ne95 w ↦
          let e = wrapped_more c.args.radix c.args.digits.now c.loop-byte.byte-index (get_or c.args.digits.now c.loop-byte.byte-index 0) c.loop-byte-test.true (read _ _ 0 c.loop-byte-test.true) w.if-byte-ne95.true in
          cc
      | else-byte-ne95 w ↦
          w.value-is ∙ c.loop-byte.invariant ∙ ap (λ v. v % 2 ^ 128) (sym (value_same c.args.radix c.args.digits.now c.loop-byte.byte-index (get_or c.args.digits.now c.loop-byte.byte-index 0) c.loop-byte-test.true (read _ _ 0 c.loop-byte-test.true) w.if-byte-ne95.false))
    ]
