use Rattle.std.proofs.Common.{ap, ℕ, List, Bool}
use Rattle.std.specs.Prelude.{not, ◌&&◌}
use Rattle.indexmap.proofs.MapLemmas.{OnOk-map}
use Rattle.elab_plain.specs.vl_flat.specs.Items as x
use Rattle.elab_plain.specs.vl_flat.specs.Kinds.{item_controls}
use Rattle.elab_plain.specs.SeenItems.{seen_function}
use Rattle.elab_kinds.specs.Names.{has, nothing, Adds}
use Rattle.elab_kinds.specs.Parts.{controls_in}
use Rattle.elab_kinds.proofs.Adding.{adds-as, adds-plainly}
use Rattle.elab_kinds.proofs.items.add_function_controls.Goals as goal

pub returns : goal.returns
returns c =
    let old = c.args.names.now in
    let new = c.add_controls.new.names in
    OnOk-map c.add_controls.result (Adds old new (has c.in_ok-own.own) (λ t. controls_in t c.args.f.now.body)) (Adds old new nothing (λ t. item_controls t (x.Functions (seen_function c.args.f.now))))
    (λ adds. adds-as (adds-plainly adds) (λ t. ap (λ (h : List ℕ → Bool). not (h t) && controls_in t c.args.f.now.body) c.in_ok-own.ensures))
    c.add_controls.ensures
