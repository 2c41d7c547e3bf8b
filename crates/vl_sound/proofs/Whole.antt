-- The flat design of a source whose names have no faults is sound.
use Rattle.std.proofs.Common.{◌≡◌, ℕ, List, length, Option, Some, None, Ok, refl, sym, ap, ◌∙◌, subst}
use Rattle.vl_flat.specs.vl_tree.specs.declared.source_tree.Source.{Source}
use Rattle.vl_flat.specs.vl_tree.specs.declared.source_tree.Module.{Module as ModuleTree}
use Rattle.vl_flat.specs.vl_tree.specs.Hierarchy.{graph_of, first_top}
use Rattle.vl_names.specs.vl_scope.specs.declared.fault.Fault.{Fault}
use Rattle.vl_names.specs.vl_scope.specs.Faults.{In}
use Rattle.vl_names.specs.vl_scope.specs.Declarations.{declarations}
use Rattle.vl_names.specs.vl_scope.specs.DeclarationFaults.{IsDeclarationFault}
use Rattle.vl_names.specs.vl_uses.specs.UseFaults.{IsUseFault}
use Rattle.vl_flat.specs.vl_design.specs.declared.design.Signal.{Signal}
use Rattle.vl_flat.specs.vl_design.specs.Width.{Names, names_of}
use Rattle.vl_flat.specs.vl_design.specs.Placed as p
use Rattle.vl_flat.specs.vl_design.specs.Plainly as plain
use Rattle.vl_flat.specs.Items as i
use Rattle.vl_flat.specs.Declarations.{module', modules}
use Rattle.vl_flat.specs.Environments.{Given, size, environment}
use Rattle.vl_flat.specs.Flat as f
use Rattle.vl_flat.specs.Outcome as o
use Rattle.vl_flat.specs.Outcome.{flattened}
use Rattle.vl_sound.specs.Used as u
use Rattle.vl_sound.specs.Apart.{AreApart}
use Rattle.vl_sound.specs.Instances.{IsInstance, here_of}
use Rattle.vl_sound.proofs.Lists.{told-at}
use Rattle.vl_sound.proofs.DeclaredOfLaws.{all-apart}
use Rattle.vl_sound.proofs.Numbers.{body-adds, instance-adds, design-is}
use Rattle.vl_sound.proofs.Modules.{source-used}
use Rattle.vl_sound.proofs.Agree.{agrees}
use Rattle.vl_sound.proofs.Bodies.{body-agrees}
use Rattle.vl_sound.proofs.InstancesOfAgree.{clocks-are-inputs, instance-of}
use Rattle.vl_sound.proofs.Stands.{stands, function-stands-for}
use Rattle.vl_sound.specs.Widths.{HaveWidths}
use Rattle.vl_sound.proofs.Widths.{IsUsedModule, instance-widths}
use Rattle.vl_sound.proofs.Items.{IsHere}
use Rattle.vl_sound.proofs.Declared.{at-in, from-in, IsPreparedItem, all-prepared, own-values, ports-watched}
use Rattle.vl_sound.proofs.Instances.{IsHome, IsWhole, whole-sound}

module _ (s : Source) (used : (e : Fault) → IsUseFault s e → ⊥) (top : i.Module) (is-top : f.top_of s ≡ Some top) where
  module-used : (n : ℕ) (g : Given) (m : i.Module) → IsInstance (modules s) top n g m → IsUsedModule m
  module-used n g m h =
      let (tree, inside, same) = instance-of s top is-top n g m h in
      subst IsUsedModule same (record { classes = u.classes (declarations tree); used = source-used s used tree inside })

  pub parameters-wide : (n : ℕ) (g : Given) (m : i.Module) → IsInstance (modules s) top n g m → HaveWidths (environment (size n (modules s)) g m)
  parameters-wide = instance-widths (modules s) top module-used

module _ (s : Source) (fine : (e : Fault) → IsDeclarationFault s e → ⊥) (used : (e : Fault) → IsUseFault s e → ⊥) (top : i.Module) (is-top : f.top_of s ≡ Some top)
    (made : p.Design) (is-made : flattened s ≡ Ok made) where
  abbrev ms : List i.Module
  ms = modules s

  abbrev design : Names
  design = names_of (plain.flat made)

  from-top : o.flattened_from ms top ≡ Ok made
  from-top = ap (o.flattened_by ms) (sym is-top) ∙ is-made

  as-many : (f.whole ms top).signals ≡ length made.signals
  as-many =
      let apart = all-apart s fine in
      let own = told-at AreApart ms (first_top (graph_of s)) top apart is-top in
      let parts = f.parts_from ms top in
      let is = design-is (o.judged o.nothing_yet parts) (f.design_of top parts) made from-top in
      let body = body-adds f.deepest ms (f.whole ms top).signals (f.top_given top) top own (instance-adds f.deepest ms apart) in
      sym (ap (λ (z : p.Design). length z.signals) (sym is) ∙ (ap (length {A = Signal}) body.emits ∙ body.count))

  module _ (n : ℕ) (g : Given) (tree : ModuleTree) (inside : In tree s.modules) (instance : IsInstance ms top n g (module' tree)) where
    abbrev k : u.Classes
    k = u.classes (declarations tree)

    item-here : (item : i.Item) → In item (module' tree).items → IsHere k (here_of n ms top g (module' tree)) design item
    item-here (i.Signals zs) there = own-values s fine tree inside zs there
    item-here (i.Functions a) there = record {
      agrees = body-agrees k (environment (size n ms) g (module' tree)) a (f.whole ms top).signals (agrees s fine tree inside (size n ms) g (clocks-are-inputs ms top n g (module' tree) instance));
      stands = function-stands-for s fine used top is-top made is-made n g tree inside instance a there;
      prepared = at-in IsPreparedItem (module' tree).items (i.Functions a) (all-prepared tree) there;
    }
    item-here item there = tt

    home : IsHome ms top design n g (module' tree)
    home = record {
      classes = k;
      used = source-used s used tree inside;
      agrees = agrees s fine tree inside (size n ms) g (clocks-are-inputs ms top n g (module' tree) instance);
      stands = stands s fine used top is-top made is-made n g tree inside instance;
      widths = parameters-wide s used top is-top n g (module' tree) instance;
      items = from-in (IsHere k (here_of n ms top g (module' tree)) design) (module' tree).items item-here;
      ports = ports-watched s fine tree inside;
    }

  homes : (n : ℕ) (g : Given) (m : i.Module) → IsInstance ms top n g m → IsHome ms top design n g m
  homes n g m h =
      let (tree, inside, same) = instance-of s top is-top n g m h in
      subst (IsHome ms top design n g) same (home n g tree inside (subst (IsInstance ms top n g) (sym same) h))

  whole-from : IsWhole made
  whole-from = whole-sound ms top made from-top as-many homes

pub source-sound : (s : Source) → ((e : Fault) → IsDeclarationFault s e → ⊥) → ((e : Fault) → IsUseFault s e → ⊥) → (made : p.Design) → flattened s ≡ Ok made → IsWhole made
source-sound s fine used made is = by (f.top_of s) refl is
  where
    by : (q : Option i.Module) → f.top_of s ≡ q → o.flattened_by (modules s) q ≡ Ok made → IsWhole made
    by None at h = let z : ⊥ = cc in absurd z
    by (Some top) at h = whole-from s fine used top at made is
