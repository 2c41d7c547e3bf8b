use Rattle.std.proofs.Common.{◌≡◌, sym, ap, ◌∙◌, ◌+◌, ◌++◌, List, map}
use Rattle.indexmap.specs.IndexSet.{index_set_len}
use Rattle.indexmap.proofs.MapLemmas.{OnOk-map}
use Rattle.elab_plain.specs.vl_flat.specs.Items as x
use Rattle.elab_plain.specs.vl_flat.specs.Kinds.{signals_in}
use Rattle.elab_plain.specs.SeenItems.{seen_type, seen_declared, seen_item}
use Rattle.elab_kinds.specs.Names.{has}
use Rattle.elab_kinds.specs.Sized.{count_new}
use Rattle.elab_kinds.proofs.own.note_item.Goals as goal

pub returns-in-Signals : goal.returns-in-Signals
returns-in-Signals c =
    let old = c.args.known.now in
    let new = c.note_all.new.known in
    OnOk-map c.note_all.result
    ((type : x.DataType) (others : List x.Declared) → index_set_len new + count_new (has new) others ≡ index_set_len old + count_new (has old) (map (seen_declared type) c.as_slice.result.now ++ others))
    ((others : List x.Declared) → index_set_len new + count_new (has new) others ≡ index_set_len old + count_new (has old) (signals_in (seen_item c.args.item.now) ++ others))
    (λ noted others.
    noted (seen_type c.in-Signals.field-0) others
    ∙ ap (λ (z : List x.Declared). index_set_len old + count_new (has old) (z ++ others))
    (ap (map (seen_declared (seen_type c.in-Signals.field-0))) c.as_slice.ensures.value ∙ sym (ap (λ z. signals_in (seen_item z)) c.in-Signals.is)))
    c.note_all.ensures
