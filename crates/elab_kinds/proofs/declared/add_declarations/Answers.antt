use Rattle.std.proofs.Common.{ap, ◌∙◌, List, [], ◌∷◌}
use Rattle.std.specs.List.{flat_map}
use Rattle.std.proofs.lemmas.List.{take_all}
use Rattle.std.proofs.lemmas.List.Concat.{flat_map_single}
use Rattle.elab_plain.specs.vl_flat.specs.Items as x
use Rattle.elab_plain.specs.declared.items.Declared.{Declared}
use Rattle.elab_plain.specs.SeenItems.{seen_declared}
use Rattle.elab_kinds.specs.Said.{either, said, declaration_at}
use Rattle.elab_kinds.proofs.Saying.{said-none, said-more}
use Rattle.elab_kinds.proofs.declared.add_declarations.Goals as goal

abbrev seen_one : x.DataType → Declared → List x.Declared
seen_one type d = seen_declared type d ∷ []

pub loop-d-init : goal.loop-d-init
loop-d-init c = λ type. said-none (declaration_at c.args.declared.now)

pub loop-d-preserved : goal.loop-d-preserved
loop-d-preserved c = λ type.
    said-more (declaration_at c.args.declared.now) (declaration_at c.loop-d.declared) (declaration_at c.add_declaration.new.declared) (seen_one type) c.args.ds.now c.loop-d.d-index c.d-item.result
    c.loop-d-test.true c.d-item.is (c.loop-d.invariant type) (c.in_ok-add_declaration.ensures type)

pub returns : goal.returns
returns c = λ type.
    c.loop-d.invariant type
    ∙ ap (λ (z : List x.Declared). λ t. either (declaration_at c.args.declared.now t) (said z t))
    (ap (flat_map (seen_one type)) (take_all c.loop-d.d-index c.args.ds.now c.loop-d-test.false) ∙ flat_map_single (seen_declared type) c.args.ds.now)
