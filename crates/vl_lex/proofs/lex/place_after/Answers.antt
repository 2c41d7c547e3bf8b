use Rattle.std.proofs.Common.{◌+◌, drop, sym, ap, ◌∙◌, arith}
use Rattle.vl_tree.specs.Tokens.{place_after as place_after_lem}
use Rattle.vl_lex.proofs.lex.place_after.Goals.{then-byte-eq10, else-byte-eq10}
use Rattle.vl_lex.proofs.Values.{place_breaks, place_moves}
use Rattle.vl_lex.proofs.lex.place_after.Goals as goal

pub loop-byte-preserved : goal.loop-byte-preserved
loop-byte-preserved c =
    elim c.if-byte-eq10.branch [
      | then-byte-eq10 w ↦
          let e = place_breaks c.loop-byte.place c.args.bytes.now c.loop-byte.byte-index c.loop-byte-test.true w.if-byte-eq10.true in
          record {
            rest = ap (λ p. place_after_lem p (drop (c.loop-byte.byte-index + 1) c.args.bytes.now)) w.place-is ∙ sym e ∙ c.loop-byte.invariant.rest;
            line = rw w.place-is (omega arith);
            column = rw w.place-is (omega arith);
          }
      | else-byte-eq10 w ↦
          let e = place_moves c.loop-byte.place c.args.bytes.now c.loop-byte.byte-index c.loop-byte-test.true w.if-byte-eq10.false in
          record {
            rest = ap (λ p. place_after_lem p (drop (c.loop-byte.byte-index + 1) c.args.bytes.now)) w.place-is ∙ sym e ∙ c.loop-byte.invariant.rest;
            line = rw w.place-is (omega arith);
            column = rw w.place-is (omega arith);
          }
    ]
