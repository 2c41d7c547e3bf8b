-- What a source without faults has.
use Rattle.std.proofs.Common.{◌≡◌, ℕ, Option, Some, None, get_or, refl}
use Rattle.std.proofs.lemmas.Option.{slice_get-get_or}
use Rattle.vl_scope.specs.vl_tree.specs.declared.source_tree.Source.{Source}
use Rattle.vl_scope.specs.vl_tree.specs.declared.source_tree.Module.{Module}
use Rattle.vl_scope.specs.vl_tree.specs.declared.source_tree.Instance.{Instance}
use Rattle.vl_scope.specs.declared.fault.Fault.{Fault}
use Rattle.vl_scope.specs.Faults.{at, In}
use Rattle.vl_scope.specs.vl_tree.specs.Hierarchy.{instances, module_number}
use Rattle.vl_names.specs.Modules.{Instantiates, Leads, along, on}
use Rattle.vl_names.specs.HierarchyFaults.{IsOf, absent, contains_itself}
use Rattle.vl_names.specs.NameFaults.{IsNameFault, of_modules}
use Rattle.vl_names.proofs.Graph.{number-within}

first_step : (E : ℕ → ℕ → Type 0) {a b : ℕ} → Leads E a b → (c : ℕ) × E a c
first_step E {a} {b} (along step) = (b, step)
first_step E {a} {b} (on before step) = first_step E before

pub ends : (s : Source) → ((f : Fault) → IsNameFault s f → ⊥) → (i : ℕ) → Leads (Instantiates s) i i → ⊥
ends s fine i leads =
    let first = first_step (Instantiates s) leads in
    fine (at first.1.whole.name.place 5) (of_modules (at first.1.whole.name.place 5) (contains_itself i first.1.whole first.1.at leads))

pub there : (s : Source) → ((f : Fault) → IsNameFault s f → ⊥) → (m : Module) (u : Instance) → In m s.modules → In u (instances m) → (of : Module) × IsOf s u of
there s fine m u here inside = by (module_number s u.definition.name) refl
  where
    by : (o : Option ℕ) → module_number s u.definition.name ≡ o → (of : Module) × IsOf s u of
    by None e = absurd (fine (at u.place 5) (of_modules (at u.place 5) (absent m u here inside e)))
    by (Some j) e = (get_or s.modules j m, (j, e, slice_get-get_or s.modules j m (number-within s u.definition.name j e)))
