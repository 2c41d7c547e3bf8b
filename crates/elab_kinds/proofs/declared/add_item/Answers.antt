use Rattle.std.proofs.Common.{◌≡◌, sym, ap, ◌∙◌, List, map}
use Rattle.indexmap.proofs.MapLemmas.{OnOk-map}
use Rattle.elab_plain.specs.vl_flat.specs.Items as x
use Rattle.elab_plain.specs.vl_flat.specs.Kinds.{signals_in}
use Rattle.elab_plain.specs.SeenItems.{seen_type, seen_declared, seen_item}
use Rattle.elab_kinds.specs.Said.{either, said, declaration_at}
use Rattle.elab_kinds.proofs.declared.add_item.Goals as goal

pub returns-in-Signals : goal.returns-in-Signals
returns-in-Signals c =
    let old = c.args.declared.now in
    let new = c.add_declarations.new.declared in
    OnOk-map c.add_declarations.result
    ((type : x.DataType) → declaration_at new ≡ (λ t. either (declaration_at old t) (said (map (seen_declared type) c.as_slice.result.now) t)))
    (declaration_at new ≡ (λ t. either (declaration_at old t) (said (signals_in (seen_item c.args.item.now)) t)))
    (λ says.
    says (seen_type c.in-Signals.field-0)
    ∙ ap (λ (z : List x.Declared). λ t. either (declaration_at old t) (said z t))
    (ap (map (seen_declared (seen_type c.in-Signals.field-0))) c.as_slice.ensures.value ∙ sym (ap (λ z. signals_in (seen_item z)) c.in-Signals.is)))
    c.add_declarations.ensures
