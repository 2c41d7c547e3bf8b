use Rattle.std.proofs.Common.{◌%◌, ◌^◌, get_or, sym, ap, ◌∙◌}
use Rattle.vl_tree.specs.Numbers.{leading_z as leading_z_lem}
use Rattle.vl_lex.proofs.digits.wrapped_z.Goals.{then-byte-ne95, then-is_z, else-is_z, else-byte-ne95}
use Rattle.vl_lex.proofs.Values.{z_wrapped, no_z_wrapped, z_same}
use Rattle.vl_lex.proofs.RunLaws.{read}
use Rattle.vl_lex.proofs.digits.wrapped_z.Goals as goal

pub loop-byte-preserved : goal.loop-byte-preserved
loop-byte-preserved c =
    elim c.if-byte-ne95.branch [
      | then-byte-ne95 w ↦ elim w.if-is_z.branch [
        | then-is_z v ↦
            let e = z_wrapped c.args.radix (leading_z_lem c.args.digits.now) c.args.digits.now c.loop-byte.byte-index (get_or c.args.digits.now c.loop-byte.byte-index 0) c.loop-byte-test.true (read _ _ 0 c.loop-byte-test.true) w.if-byte-ne95.true (sym w.is_z.ensures ∙ v.if-is_z.true) in
            cc
        | else-is_z v ↦
            let e = no_z_wrapped c.args.radix (leading_z_lem c.args.digits.now) c.args.digits.now c.loop-byte.byte-index (get_or c.args.digits.now c.loop-byte.byte-index 0) c.loop-byte-test.true (read _ _ 0 c.loop-byte-test.true) w.if-byte-ne95.true (sym w.is_z.ensures ∙ v.if-is_z.false) in
            cc
      ]
      | else-byte-ne95 w ↦
          w.bits-is ∙ c.loop-byte.invariant ∙ ap (λ v. v % 2 ^ 128) (sym (z_same c.args.radix (leading_z_lem c.args.digits.now) c.args.digits.now c.loop-byte.byte-index (get_or c.args.digits.now c.loop-byte.byte-index 0) c.loop-byte-test.true (read _ _ 0 c.loop-byte-test.true) w.if-byte-ne95.false))
    ]
