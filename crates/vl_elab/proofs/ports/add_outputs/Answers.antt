use Rattle.std.proofs.Common.{subst, ℕ, List}
use Rattle.std.specs.Prelude.{flat_map}
use Rattle.std.proofs.lemmas.List.{take_all}
use Rattle.elab_plain.specs.vl_flat.specs.Flat as f
use Rattle.elab_plain.specs.SeenItems.{seen_unit}
use Rattle.elab_constant.specs.Seen.{look}
use Rattle.vl_elab.specs.Standing.{seen_here}
use Rattle.vl_elab.specs.Growing.{Grows, Stops}
use Rattle.vl_elab.proofs.Growth.{walk-grows, walk-stops, handed-on}
use Rattle.vl_elab.proofs.ports.add_outputs.Goals as goal

pub loop-name-preserved : goal.loop-name-preserved
loop-name-preserved c = λ m joined.
    let part : List ℕ → List f.Part = λ t. f.output_part (seen_here c.args.ports.above) (look c.args.ports.names.now) m (seen_unit c.args.ports.unit.now) t in
    walk-grows (λ t. part t.name)
    c.args.making.now c.loop-name.making c.add_output.new.making c.args.names.now c.loop-name.name-index c.name-item.result c.loop-name-test.true c.name-item.is
    (c.loop-name.invariant m joined) (subst (λ t. Grows c.loop-name.making c.add_output.new.making (part t)) c.as_slice.ensures (c.in_ok-add_output.ensures m joined))

pub returns-in_err-add_output : goal.returns-in_err-add_output
returns-in_err-add_output c = λ m joined.
    let part : List ℕ → List f.Part = λ t. f.output_part (seen_here c.args.ports.above) (look c.args.ports.names.now) m (seen_unit c.args.ports.unit.now) t in
    let stop = c.in_err-add_output.field-0.0 in
    handed-on c.from_residual.result stop c.args.making.now _ _ c.from_residual.ensures (λ e h. h)
    (walk-stops (λ t. part t.name)
    stop c.args.making.now c.loop-name.making c.args.names.now c.loop-name.name-index c.name-item.result c.loop-name-test.true c.name-item.is
    (c.loop-name.invariant m joined) (subst (λ t. Stops stop c.loop-name.making.totals (part t)) c.as_slice.ensures (c.in_err-add_output.ensures m joined)))

pub returns : goal.returns
returns c = λ m joined.
    let part : List ℕ → List f.Part = λ t. f.output_part (seen_here c.args.ports.above) (look c.args.ports.names.now) m (seen_unit c.args.ports.unit.now) t in
    subst (λ z. Grows c.args.making.now c.loop-name.making (flat_map (λ t. part t.name) z)) (take_all c.loop-name.name-index c.args.names.now c.loop-name-test.false)
    (c.loop-name.invariant m joined)
