use Rattle.std.proofs.Common.{◌≡◌, ap, ◌∙◌, ℕ, ◌+◌, List, [], Bool, map, length}
use Rattle.std.specs.List.{flat_map}
use Rattle.indexmap.specs.IndexSet.{index_set_len}
use Rattle.indexmap.proofs.MapLemmas.{OnOk-map}
use Rattle.elab_plain.specs.vl_flat.specs.Kinds.{signals_in}
use Rattle.elab_plain.specs.vl_flat.specs.Environments.{new_ones}
use Rattle.elab_plain.specs.SeenItems.{seen_item}
use Rattle.elab_kinds.specs.Names.{has}
use Rattle.elab_kinds.specs.Sized.{count_new, kept_number}
use Rattle.elab_kinds.proofs.Parts.{empty-hides}
use Rattle.elab_kinds.proofs.Counting.{new-ones, own-count, if-noted}
use Rattle.elab_kinds.proofs.own.own_count.Goals as goal

pub returns : goal.returns
returns c =
    let known = c.new-known.result in
    let new = c.note_items-noted.new.known in
    let items = c.as_slice.result.now in
    let ds = flat_map signals_in (map seen_item c.args.m.now.items.items) in
    if-noted c.note_items-noted.result c.and.result c.min.result (kept_number (length (new_ones [] ds))) c.and.ensures
    (OnOk-map c.note_items-noted.result
    (index_set_len new ≡ index_set_len known + count_new (has known) (flat_map signals_in (map seen_item items)))
    (c.min.result ≡ kept_number (length (new_ones [] ds)))
    (λ noted. own-count c.min.result c.len.result (index_set_len new) (index_set_len known) (count_new (has known) ds) (length (new_ones [] ds)) c.min.ensures c.len.ensures.len
    (noted ∙ ap (λ z. index_set_len known + count_new (has known) (flat_map signals_in (map seen_item z))) c.as_slice.ensures.value) c.new-known.ensures.len
    (new-ones [] (has known) ds (λ t. ap (λ (f : List ℕ → Bool). f t) (empty-hides known c.new-known.ensures.empty))))
    c.note_items-noted.ensures)
