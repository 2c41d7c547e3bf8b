use Rattle.std.proofs.Common.{ap, ◌∙◌, sym}
use Rattle.std.specs.Prelude.{Some, None}
use Rattle.vl_design.specs.Stops.{earliest}
use Rattle.elab_plain.specs.vl_flat.specs.Expressions.{exp, constant, taken, bits_of, part}
use Rattle.elab_plain.specs.vl_flat.specs.ExpressionFaults.{direction}
use Rattle.elab_plain.specs.Seen.{seen, select}
use Rattle.elab_constant.specs.Seen.{seen_scope}
use Rattle.elab_constant.specs.Types.{numbers}
use Rattle.vl_design.proofs.Earliest.{over}
use Rattle.elab_faults.proofs.Turning.{turns, part-turns}
use Rattle.elab_faults.proofs.directions.one_direction.Goals as goal

pub returns-in-Range : goal.returns-in-Range
returns-in-Range c = λ others.
    let s = seen_scope c.args.scope.now in
    let from = c.args.from in
    let at = c.args.at in
    let m = c.in-Range.mark in
    let a = seen c.in-Range.left in
    let b = seen c.in-Range.right in
    let w = taken s m a b in
    ap (λ r. earliest c.direction.result (turns s at None r others)) (c.bits_of-in-Range.ensures ∙ ap bits_of c.taken.ensures.same)
    ∙ (over from.best c.direction.result (direction s at (part (numbers from.range) m (exp s a) (constant s a) (constant s b) w)) (turns s at None (bits_of w) others) (c.direction.ensures w)
    ∙ (sym (ap (earliest from.best) (part-turns s at from.memory (numbers from.range) c.in-Range.field-0 m a b others))
    ∙ sym (ap (λ z. earliest from.best (turns s at from.memory (numbers from.range) (select z others))) c.in-Range.is)))

pub returns-in-Some : goal.returns-in-Some
returns-in-Some c = λ others.
    let s = seen_scope c.args.scope.now in
    let from = c.args.from in
    let at = c.args.at in
    sym (ap (λ k. earliest from.best (turns s at k (numbers from.range) (select c.args.one.now others))) c.in-Some.is
    ∙ ap (λ z. earliest from.best (turns s at (Some c.in-Some.field-0) (numbers from.range) (select z others))) c.in-Index.is)

pub returns-in-None : goal.returns-in-None
returns-in-None c = λ others.
    let s = seen_scope c.args.scope.now in
    let from = c.args.from in
    let at = c.args.at in
    ap (λ r. earliest from.best (turns s at None r others)) c.bits_of.ensures
    ∙ sym (ap (λ k. earliest from.best (turns s at k (numbers from.range) (select c.args.one.now others))) c.in-None.is
    ∙ ap (λ z. earliest from.best (turns s at None (numbers from.range) (select z others))) c.in-Index.is)
