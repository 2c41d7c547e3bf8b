use Rattle.std.proofs.Common.{refl, sym, ℕ, List, Bool, Result}
use Rattle.std.specs.Prelude.{OnOk}
use Rattle.std.specs.List.{list_any}
use Rattle.indexmap.proofs.MapLemmas.{OnOk-map}
use Rattle.elab_plain.specs.vl_flat.specs.Items as x
use Rattle.elab_plain.specs.vl_flat.specs.Kinds.{setting_uses, trigger_uses, item_strays}
use Rattle.elab_plain.specs.declared.items.Item.{Item}
use Rattle.elab_plain.specs.SeenItems.{seen_type, seen_setting, seen_function, seen_item}
use Rattle.elab_kinds.specs.Names.{has, nothing, Adds}
use Rattle.elab_kinds.specs.Parts.{optional_ex_uses, strays_in}
use Rattle.elab_kinds.proofs.Adding.{Names, as-one, as-two, adds-under}
use Rattle.elab_kinds.proofs.Parts.{any-map, values-any, units-any}
use Rattle.elab_kinds.proofs.items.add_shown_strays.Goals as goal

abbrev stray : List ℕ → Item → Bool
stray t a = item_strays t (seen_item a)

-- what a walk added where it ended
added : {S X E : Type 0} (a b : Names S) (h f g : List ℕ → Bool) (r : Result X E) → (Adds a b h f → Adds a b nothing g) → OnOk r (Adds a b h f) → OnOk r (Adds a b nothing g)
added a b h f g r = OnOk-map r (Adds a b h f) (Adds a b nothing g)

pub returns-in-Signals : goal.returns-in-Signals
returns-in-Signals c =
    let hides = has c.args.hidden.now in
    added c.args.names.now c.add_values.new.names hides (λ s. list_any (λ d. optional_ex_uses s d.value) c.as_slice.result.now) (λ s. stray s c.args.item.now) c.add_values.result
    (λ adds. as-one (λ s ds. list_any (λ d. optional_ex_uses s d.value) ds) stray c.as_slice.ensures.value c.in-Signals.is (λ s. sym (values-any s (seen_type c.in-Signals.field-0) c.in-Signals.ds.items))
    (adds-under hides c.requires adds))
    c.add_values.ensures

pub returns-in-Assigns : goal.returns-in-Assigns
returns-in-Assigns c =
    let hides = has c.args.hidden.now in
    added c.args.names.now c.add_settings.new.names hides (λ s. list_any (λ a. setting_uses s (seen_setting a)) c.as_slice-in-Assigns.result.now) (λ s. stray s c.args.item.now) c.add_settings.result
    (λ adds. as-one (λ s ds. list_any (λ a. setting_uses s (seen_setting a)) ds) stray c.as_slice-in-Assigns.ensures.value c.in-Assigns.is (λ s. sym (any-map (setting_uses s) seen_setting c.in-Assigns.settings.items))
    (adds-under hides c.requires adds))
    c.add_settings.ensures

pub returns-in-Initial : goal.returns-in-Initial
returns-in-Initial c =
    let hides = has c.args.hidden.now in
    added c.args.names.now c.add_strays.new.names hides (λ s. strays_in s c.in-Initial.body) (λ s. stray s c.args.item.now) c.add_strays.result
    (λ adds. as-one strays_in stray {x = c.in-Initial.body} refl c.in-Initial.is (λ s. refl)
    (adds-under hides c.requires adds))
    c.add_strays.ensures.names

pub returns-in_ok-add_trigger-in-Always : goal.returns-in_ok-add_trigger-in-Always
returns-in_ok-add_trigger-in-Always c =
    let hides = has c.args.hidden.now in
    OnOk-map c.add_strays-in-Always.result
    (Adds c.add_trigger.new.names c.add_strays-in-Always.new.names hides (λ s. strays_in s c.in-Always.body))
    (Adds c.args.names.now c.add_strays-in-Always.new.names nothing (λ s. stray s c.args.item.now))
    (λ adds. as-two trigger_uses strays_in stray {x = c.in-Always.trigger} {z = c.in-Always.body} refl refl c.in-Always.is (λ s. refl)
    (adds-under hides c.requires c.in_ok-add_trigger-in-Always.ensures) (adds-under hides c.requires adds))
    c.add_strays-in-Always.ensures.names

pub returns-in-Functions : goal.returns-in-Functions
returns-in-Functions c =
    added c.args.names.now c.add_function_strays.new.names nothing (λ s. item_strays s (x.Functions (seen_function c.in-Functions.f))) (λ s. stray s c.args.item.now) c.add_function_strays.result
    (λ adds. as-one (λ s f. item_strays s (x.Functions (seen_function f))) stray {x = c.in-Functions.f} refl c.in-Functions.is (λ s. refl) adds)
    c.add_function_strays.ensures

pub returns-in-Instantiates : goal.returns-in-Instantiates
returns-in-Instantiates c =
    let hides = has c.args.hidden.now in
    added c.args.names.now c.add_units.new.names hides (λ s. list_any (λ u. list_any (λ q. optional_ex_uses s q.value) u.connections.items) c.as_slice-in-Instantiates.result.now) (λ s. stray s c.args.item.now) c.add_units.result
    (λ adds. as-one (λ s us. list_any (λ u. list_any (λ q. optional_ex_uses s q.value) u.connections.items) us) stray c.as_slice-in-Instantiates.ensures.value c.in-Instantiates.is (λ s. sym (units-any s c.in-Instantiates.us.units.items))
    (adds-under hides c.requires adds))
    c.add_units.ensures
