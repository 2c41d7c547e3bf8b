-- Lists of parts, and types whose parts fit.
use Rattle.std.proofs.Common.{List, [], ◌∷◌, map, Option, Some, None}
use Rattle.std.specs.Prelude.{flat_map, All, option_map}
use Rattle.std.proofs.lemmas.List.Elements.{All-nil, All-cons, All-append}
use Rattle.vl_flat.specs.vl_tree.specs.declared.tree.Expression.{Expression}
use Rattle.vl_flat.specs.vl_tree.specs.declared.source_tree.ParameterType.{ParameterType}
use Rattle.vl_flat.specs.vl_tree.specs.declared.source_tree.ParameterType.TheVariants as pt
use Rattle.vl_flat.specs.vl_tree.specs.declared.source_tree.Range.{Range}
use Rattle.vl_names.specs.vl_uses.specs.declared.setting.Setting.{Setting}
use Rattle.vl_names.specs.vl_uses.specs.Settings.{constantly}
use Rattle.vl_names.specs.vl_uses.specs.Nodes as n
use Rattle.vl_flat.specs.Binding.{ex}
use Rattle.vl_flat.specs.Declarations.{bounds, type}
use Rattle.vl_sound.specs.Used.{IsUsedSide, IsUsedOwnValue, Classes, IsUsed, IsUsedValue, IsUsedRange, IsUsedType}
use Rattle.vl_sound.proofs.ExpressionsOfNamed.{Every, Suits, lefts-so, rights-so, ex-used}

-- what one part alone needs
pub each-same : {A B : Type 0} (F : A → B) (R : B → Type 0) → ((a : A) → R (F a)) → (as' : List A) → All R (map F as')
each-same F R each [] = All-nil R
each-same F R each (a ∷ as') = All-cons R (F a) (map F as') (each a) (each-same F R each as')

module _ (P : n.Node → Type 0) where
  -- each by its own nodes
  pub each-used : {A B : Type 0} (F : A → B) (G : A → List n.Node) (R : B → Type 0) → ((a : A) → Every P (G a) → R (F a)) → (as' : List A) → Every P (flat_map G as') → All R (map F as')
  each-used F G R each [] w = All-nil R
  each-used F G R each (a ∷ as') w =
      All-cons R (F a) (map F as') (each a (lefts-so P (G a) (flat_map G as') w)) (each-used F G R each as' (rights-so P (G a) (flat_map G as') w))

  -- each list by its own nodes
  pub all-used : {A B : Type 0} (F : A → List B) (G : A → List n.Node) (R : B → Type 0) → ((a : A) → Every P (G a) → All R (F a)) → (as' : List A) → Every P (flat_map G as') → All R (flat_map F as')
  all-used F G R each [] w = All-nil R
  all-used F G R each (a ∷ as') w =
      All-append R (F a) (flat_map F as') (each a (lefts-so P (G a) (flat_map G as') w)) (all-used F G R each as' (rights-so P (G a) (flat_map G as') w))

  pub value-used : (k : Classes) (G : Expression → List n.Node) → ((v : Expression) → Every P (G v) → IsUsed k (ex v)) → (o : Option Expression) → Every P (n.given G o) → IsUsedValue k (option_map ex o)
  value-used k G each None w = tt
  value-used k G each (Some v) w = each v w

  pub own-used : (k : Classes) (G : Expression → List n.Node) → ((v : Expression) → Every P (G v) → IsUsedSide k (ex v)) → (o : Option Expression) → Every P (n.given G o) → IsUsedOwnValue k (option_map ex o)
  own-used k G each None w = tt
  own-used k G each (Some v) w = each v w

module _ (k : Classes) (P : n.Node → Type 0) (Q : Setting → Type 0) (suits : Suits k P Q) where
  -- a range's bounds are constants
  pub bounds-used : (st : Setting) → Q (constantly st) → (r : Range) → Every P (n.range_nodes st r) → IsUsed k (ex r.left) × IsUsed k (ex r.right)
  bounds-used st q r w =
      let as' = n.expression_nodes (constantly st) r.left in
      let bs = n.expression_nodes (constantly st) r.right in
      (ex-used k P Q suits (constantly st) q r.left (lefts-so P as' bs w), ex-used k P Q suits (constantly st) q r.right (rights-so P as' bs w))

  pub range-used : (st : Setting) → Q (constantly st) → (o : Option Range) → Every P (n.given (n.range_nodes st) o) → IsUsedRange k (option_map bounds o)
  range-used st q None w = tt
  range-used st q (Some r) w = bounds-used st q r w

  pub type-used : (st : Setting) → Q (constantly st) → (a : ParameterType) → Every P (n.type_nodes st a) → IsUsedType k (type a)
  type-used st q pt.Integer w = tt
  type-used st q (pt.Vector signed range) w = range-used st q range w
