use Rattle.std.proofs.Common.{sym, ap, ◌∙◌, arith}
use Rattle.std.proofs.lemmas.List.{length_push}
use Rattle.vl_tree.specs.Tokens.{here}
use Rattle.vl_lex.specs.View.{seen}
use Rattle.vl_lex.proofs.LexLaws.{gap_more, token_more, gap_shorter, token_shorter, line_more, column_more, is_there, fault_found, limit_found}
use Rattle.vl_lex.proofs.lex.tokens_of.Goals as goal

pub each-init : goal.each-init
each-init c = record {
  short = c.if-text-gt-MOST_BYTES.false;
  passes = rw c.new-tokens.ensures.items here;
  few = rw c.new-tokens.ensures.items (omega arith);
  line = omega arith;
  column = omega arith;
}

pub place_behind-place-requires-clause-shorter : goal.place_behind-place-requires-clause-shorter
place_behind-place-requires-clause-shorter c =
    let shorter = gap_shorter c.each.rest.now c.in-Gap.after.now (is_there c.each.rest.now c.is_empty.result c.is_empty.ensures c.each-test.true) (ap seen (sym c.in-Gap.is) ∙ c.in_ok-after.ensures) in
    omega arith

pub each-smaller-in-Gap : goal.each-smaller-in-Gap
each-smaller-in-Gap c = gap_shorter c.each.rest.now c.in-Gap.after.now (is_there c.each.rest.now c.is_empty.result c.is_empty.ensures c.each-test.true) (ap seen (sym c.in-Gap.is) ∙ c.in_ok-after.ensures)

pub each-preserved-in-Gap : goal.each-preserved-in-Gap
each-preserved-in-Gap c =
    let rest = c.each.rest.now in
    let after = c.in-Gap.after.now in
    let there = is_there rest c.is_empty.result c.is_empty.ensures c.each-test.true in
    let reads = ap seen (sym c.in-Gap.is) ∙ c.in_ok-after.ensures in
    let shorter = gap_shorter rest after there reads in
    record {
      short = c.each.invariant.short;
      passes = rw c.place_behind-place.ensures (gap_more c.args.text.now rest after c.each.tokens.items c.each.place c.each.invariant.passes there reads);
      few = c.each.invariant.few;
      line = rw c.place_behind-place.ensures (line_more rest after c.each.place 1048577 shorter c.each.invariant.line);
      column = rw c.place_behind-place.ensures (column_more rest after c.each.place 1048577 shorter c.each.invariant.column);
    }

pub returns-then-len-eq-MOST_TOKENS-clause-refused : goal.returns-then-len-eq-MOST_TOKENS-clause-refused
returns-then-len-eq-MOST_TOKENS-clause-refused c =
    limit_found c.args.text.now c.each.rest.now c.in-Token.after.now c.each.tokens.items c.each.place c.in-Token.kind c.each.invariant.short (omega (arith, c.each.tokens.ok.0, c.len.ensures, c.if-len-eq-MOST_TOKENS.true)) c.each.invariant.passes
    (is_there c.each.rest.now c.is_empty.result c.is_empty.ensures c.each-test.true) (ap seen (sym c.in-Token.is) ∙ c.in_ok-after.ensures)

pub place_behind-place-requires-in-Token-clause-shorter : goal.place_behind-place-requires-in-Token-clause-shorter
place_behind-place-requires-in-Token-clause-shorter c =
    let shorter = token_shorter c.each.rest.now c.in-Token.after.now c.in-Token.kind (is_there c.each.rest.now c.is_empty.result c.is_empty.ensures c.each-test.true) (ap seen (sym c.in-Token.is) ∙ c.in_ok-after.ensures) in
    omega arith

pub each-smaller : goal.each-smaller
each-smaller c = token_shorter c.each.rest.now c.in-Token.after.now c.in-Token.kind (is_there c.each.rest.now c.is_empty.result c.is_empty.ensures c.each-test.true) (ap seen (sym c.in-Token.is) ∙ c.in_ok-after.ensures)

pub each-preserved : goal.each-preserved
each-preserved c =
    let rest = c.each.rest.now in
    let after = c.in-Token.after.now in
    let there = is_there rest c.is_empty.result c.is_empty.ensures c.each-test.true in
    let reads = ap seen (sym c.in-Token.is) ∙ c.in_ok-after.ensures in
    let shorter = token_shorter rest after c.in-Token.kind there reads in
    record {
      short = c.each.invariant.short;
      passes = rw (c.in_ok-push-in-Token.ensures.items, c.place_behind-place-in-Token.ensures) (token_more c.args.text.now rest after c.each.tokens.items c.each.place c.in-Token.kind c.each.invariant.passes there reads);
      few = rw c.in_ok-push-in-Token.ensures.items (omega (arith, length_push c.each.tokens.items (record { place = c.each.place; kind = c.in-Token.kind }), c.each.tokens.ok.0, c.len.ensures, c.if-len-eq-MOST_TOKENS.false, c.each.invariant.few));
      line = rw c.place_behind-place-in-Token.ensures (line_more rest after c.each.place 1048577 shorter c.each.invariant.line);
      column = rw c.place_behind-place-in-Token.ensures (column_more rest after c.each.place 1048577 shorter c.each.invariant.column);
    }

pub returns-in-Fault-clause-refused : goal.returns-in-Fault-clause-refused
returns-in-Fault-clause-refused c =
    fault_found c.args.text.now c.each.rest.now c.each.tokens.items c.each.place c.in-Fault.cause c.each.invariant.short c.each.invariant.few c.each.invariant.passes
    (is_there c.each.rest.now c.is_empty.result c.is_empty.ensures c.each-test.true) (ap seen (sym c.in-Fault.is) ∙ c.in_ok-after.ensures)
