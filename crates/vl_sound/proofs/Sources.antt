-- The laws on numbers, of sources whose declarations have no fault.
use Rattle.std.proofs.Common.{◌≡◌, ℕ, ◌<◌, ◌≤◌, length, List, Some, Ok, sym, ap, ◌∙◌}
use Rattle.std.specs.Prelude.{slice_get, All}
use Rattle.vl_flat.specs.vl_tree.specs.declared.tree.Identifier.{Identifier}
use Rattle.vl_flat.specs.vl_tree.specs.declared.source_tree.Source.{Source}
use Rattle.vl_names.specs.vl_scope.specs.declared.fault.Fault.{Fault}
use Rattle.vl_names.specs.vl_scope.specs.Faults.{In}
use Rattle.vl_names.specs.vl_scope.specs.DeclarationFaults.{IsDeclarationFault}
use Rattle.vl_flat.specs.vl_design.specs.declared.design.Form.{Form}
use Rattle.vl_flat.specs.declared.binding.Binding.TheVariants.{Signal, Function}
use Rattle.vl_flat.specs.declared.binding.Shape.{Shape}
use Rattle.vl_flat.specs.Items as x
use Rattle.vl_flat.specs.vl_design.specs.Placed as p
use Rattle.vl_flat.specs.Declarations.{modules}
use Rattle.vl_flat.specs.Environments.{Given, size, environment}
use Rattle.vl_flat.specs.Functions.{signal, function}
use Rattle.vl_flat.specs.Flat as f
use Rattle.vl_flat.specs.Outcome.{flattened, flattened_by}
use Rattle.vl_sound.specs.Apart.{AreApart}
use Rattle.vl_sound.specs.Instances.{IsInstance}
use Rattle.vl_flat.specs.vl_tree.specs.Hierarchy.{graph_of, first_top}
use Rattle.vl_sound.proofs.Lists.{told-at}
use Rattle.vl_sound.proofs.DeclaredOfLaws.{all-apart}
use Rattle.vl_sound.specs.Levels.{parts_at, AreSpelt}
use Rattle.vl_sound.proofs.Depth.{enough-levels}
use Rattle.vl_sound.proofs.Places.{places}
use Rattle.vl_sound.proofs.FunctionsOfLaws.{function-places}

pub source-places : (s : Source) → ((e : Fault) → IsDeclarationFault s e → ⊥) → (top : x.Module) → f.top_of s ≡ Some top
    → (d : p.Design) → flattened s ≡ Ok d
    → (n : ℕ) (g : Given) (m : x.Module) → IsInstance (modules s) top n g m → (t : List ℕ) (k : ℕ) (r : Shape) → environment (size n (modules s)) g m t ≡ Some (Signal k r)
    → (name : Identifier) × (name.name ≡ t) × (slice_get d.signals k ≡ Some (signal g.path name r))
source-places s none top is d e n g m h t k r at =
    let apart = all-apart s none in
    places (modules s) top apart (told-at AreApart (modules s) (first_top (graph_of s)) top apart is) d (ap (flattened_by (modules s)) (sym is) ∙ e) n g m h t k r at

pub source-functions : (s : Source) → (top : x.Module) → f.top_of s ≡ Some top
    → (d : p.Design) → flattened s ≡ Ok d
    → (n : ℕ) (g : Given) (m : x.Module) → IsInstance (modules s) top n g m → (t : List ℕ) (k : ℕ) (c : Form) → environment (size n (modules s)) g m t ≡ Some (Function k c)
    → (a : x.Function) × In (x.Functions a) m.items × (a.name.name ≡ t)
    × (slice_get d.funcs k ≡ Some (function (f.whole (modules s) top).signals (environment (size n (modules s)) g m) g.path a))
source-functions s top is d e n g m h t k c at = function-places (modules s) top d (ap (flattened_by (modules s)) (sym is) ∙ e) n g m h t k c at

pub source-levels : (s : Source) → All AreSpelt (modules s) → (top : x.Module) → f.top_of s ≡ Some top → 0 < length top.name.name
    → (d : p.Design) → flattened s ≡ Ok d → (n : ℕ) → f.deepest ≤ n → parts_at n (modules s) top ≡ f.parts_from (modules s) top
source-levels s spelt top is name d e =
    enough-levels (modules s) spelt top (told-at AreSpelt (modules s) (first_top (graph_of s)) top spelt is) name d (ap (flattened_by (modules s)) (sym is) ∙ e)
