use Rattle.std.proofs.Common.{◌+◌, ◌≤◌, ℕ, Bool, true, false, cond, drop, get_or, sym, ap, ◌∙◌, subst, arith}
use Rattle.std.specs.Prelude.{◌==◌}
use Rattle.std.proofs.lemmas.List.{get_or_default}
use Rattle.vl_elab.specs.vl_base.specs.declared.place.Place.{Place}
use Rattle.vl_lex.specs.vl_tree.specs.Tokens.{place_after, next_place}
use Rattle.vl_lex.proofs.Values.{place_goes, place_ends}
use Rattle.vl_front.proofs.end.end_of.Goals as goal

line_near : (p : Place) (b : ℕ) → (next_place p b).line ≤ p.line + 1
line_near p b = go (b == 10)
  where
    go : (t : Bool) → (let q : Place = cond t (record { line = p.line + 1; column = 1 }) (record { line = p.line; column = p.column + 1 }) in q.line ≤ p.line + 1)
    go true = omega arith
    go false = omega arith

column_near : (p : Place) (b : ℕ) → (next_place p b).column ≤ p.column + 1
column_near p b = go (b == 10)
  where
    go : (t : Bool) → (let q : Place = cond t (record { line = p.line + 1; column = 1 }) (record { line = p.line; column = p.column + 1 }) in q.column ≤ p.column + 1)
    go true = omega arith
    go false = omega arith

pub loop-byte-preserved : goal.loop-byte-preserved
loop-byte-preserved c =
    let text = c.args.text.now in
    let i = c.loop-byte.byte-index in
    let p = c.loop-byte.place in
    let b = get_or text i 0 in
    let e = place_goes p text i b c.loop-byte-test.true (get_or_default text i 0 _ c.loop-byte-test.true) in
    let line : c.next_place-place.result.line ≤ p.line + 1 = subst (λ (q : Place). q.line ≤ p.line + 1) (sym c.next_place-place.ensures) (line_near p b) in
    let column : c.next_place-place.result.column ≤ p.column + 1 = subst (λ (q : Place). q.column ≤ p.column + 1) (sym c.next_place-place.ensures) (column_near p b) in
    record {
      rest = ap (λ (q : Place). place_after q (drop (i + 1) text)) c.next_place-place.ensures ∙ (sym e ∙ c.loop-byte.invariant.rest);
      line = omega (arith, line, c.loop-byte.invariant.line);
      column = omega (arith, column, c.loop-byte.invariant.column);
    }

pub returns : goal.returns
returns c = sym (place_ends c.loop-byte.place c.args.text.now c.loop-byte.byte-index c.loop-byte-test.false) ∙ c.loop-byte.invariant.rest
