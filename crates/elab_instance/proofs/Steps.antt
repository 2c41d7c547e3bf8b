-- The steps of an instance's names, item by item.
use Rattle.std.proofs.Common.{◌≡◌, ℕ, List, [], ◌∷◌, map, false, refl, sym, ap, ◌∙◌}
use Rattle.std.specs.Prelude.{fold, is_some, if◌then◌else◌, Option, Result, Ok, Err, IfOk}
use Rattle.elab_plain.specs.vl_design.specs.declared.design.SigKind.{SigKind}
use Rattle.elab_plain.specs.vl_flat.specs.declared.binding.Binding.TheVariants as b
use Rattle.std.specs.declared.alloc.Global.{Global}
use Rattle.std.specs.declared.vec.Vec.{Vec}
use Rattle.std.specs.Borrow.{Bor}
use Rattle.indexmap.specs.IndexMap.{IndexMap}
use Rattle.elab_plain.specs.vl_design.specs.Placed.{Exp}
use Rattle.elab_plain.specs.vl_flat.specs.Items as x
use Rattle.elab_plain.specs.vl_flat.specs.Scopes.{Env, bind}
use Rattle.elab_plain.specs.vl_flat.specs.Environments as e
use Rattle.elab_plain.specs.declared.items.Parameter.{Parameter}
use Rattle.elab_plain.specs.declared.items.Declared.{Declared}
use Rattle.elab_plain.specs.declared.items.DataType.{DataType}
use Rattle.elab_plain.specs.declared.items.Item.{Item}
use Rattle.elab_plain.specs.declared.items.Item.TheVariants as i
use Rattle.elab_plain.specs.SeenItems.{seen_declared, seen_item, seen_parameter, seen_type}
use Rattle.elab_constant.specs.declared.scope.Known.{Known}
use Rattle.elab_kinds.specs.declared.counts.Counts.{Counts}
use Rattle.elab_kinds.specs.Facts.{facts}
use Rattle.elab_instance.specs.declared.given.Above.{Above}
use Rattle.elab_instance.specs.Given.{given_of, overrides_of}
use Rattle.elab_instance.specs.Known.{counts_of, kinds_by, known, nothing_known, one_signal, with_item, with_parameter, with_parameters, with_signal}
use Rattle.elab_instance.proofs.Locals.{look-empty}

pub start-known : {S : Type 0} (m : IndexMap (Bor (List ℕ)) Known S) (base : Counts) → m.entries ≡ [] → known m base ≡ nothing_known base
start-known m base e = ap (λ env. record { env = env; next = counts_of base }) (look-empty m e)

parameters-fold : (g : e.Given) (type : x.DataType) (k : e.Known) (ps : List x.Parameter) → fold (e.with_parameter g type) k ps ≡ with_parameters g.overrides type ps k
parameters-fold g type k [] = refl
parameters-fold g type k (a ∷ ps) = parameters-fold g type (e.with_parameter g type k a) ps

-- a name that isn't known yet
pub signal-step : (kinds : List ℕ → SigKind) (k : e.Known) (d : x.Declared) (env : Env) (next : e.Counts) → is_some (k.env d.name.name) ≡ false
    → env ≡ bind k.env d.name.name (b.Signal k.next.signals (e.shape k.env (kinds d.name.name) d)) → next ≡ e.plus k.next one_signal
    → record { env = env; next = next } ≡ with_signal kinds k d
signal-step kinds k d env next new h j =
    ap (λ z. record { env = z; next = next }) h
    ∙ ap (λ z. record { env = bind k.env d.name.name (b.Signal k.next.signals (e.shape k.env (kinds d.name.name) d)); next = z }) j
    ∙ ap (λ z. if z then k else record { env = bind k.env d.name.name (b.Signal k.next.signals (e.shape k.env (kinds d.name.name) d)); next = e.plus k.next one_signal }) (sym new)

-- what follows from what a call says of its value
pub if-ok-map : {T E : Type 0} (P Q : T → Type 0) (r : Result T E) → ((y : T) → P y → Q y) → IfOk r P → IfOk r Q
if-ok-map P Q (Ok y) f h = f y h
if-ok-map P Q (Err y) f h = tt

module _ (sizes : List ℕ → e.Counts) (overrides : List ℕ → Option Exp) (kinds : List ℕ → SigKind) where
  abbrev stepped : e.Known → Item → e.Known
  stepped k item = with_item sizes overrides kinds k (seen_item item)

  pub item-parameters : (old new : Env) (next : e.Counts) (item : Item) (kind : DataType) (ps : Vec Parameter Global) → item ≡ i.Parameters kind ps
      → new ≡ fold (with_parameter overrides (seen_type kind)) old (map seen_parameter ps.items)
      → record { env = new; next = next } ≡ stepped (record { env = old; next = next }) item
  item-parameters old new next item kind ps is h = ap (λ z. record { env = z; next = next }) h ∙ ap (stepped (record { env = old; next = next })) (sym is)

  pub item-signals : (old new : e.Known) (item : Item) (kind : DataType) (ds : Vec Declared Global) → item ≡ i.Signals kind ds
      → new ≡ fold (with_signal kinds) old (map (seen_declared (seen_type kind)) ds.items)
      → new ≡ stepped old item
  item-signals old new item kind ds is h = h ∙ ap (stepped old) (sym is)

-- by what is known of a module's names an item does what it does in the module
module _ (sizes : List ℕ → e.Counts) (m : x.Module) (above : Above) (path : List ℕ) (base : e.Counts) where
  pub item-same : (k : e.Known) (item : x.Item) → with_item sizes (overrides_of above) (kinds_by (facts m) above) k item ≡ e.with_item sizes (given_of m above path base) m k item
  item-same k (x.Parameters type ps) = sym (parameters-fold (given_of m above path base) type k ps)
  item-same k (x.Signals ds) = refl
  item-same k (x.Functions a) = refl
  item-same k (x.Assigns as') = refl
  item-same k (x.Initial at a) = refl
  item-same k (x.Always at trigger a) = refl
  item-same k (x.Instantiates us) = refl
