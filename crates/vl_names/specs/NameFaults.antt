-- The faults of the names of a source: refused constructs 1 to 9.
use Rattle.vl_scope.specs.vl_tree.specs.declared.source_tree.Source.{Source}
use Rattle.vl_scope.specs.declared.fault.Fault.{Fault}
use Rattle.vl_scope.specs.DeclarationFaults.{IsDeclarationFault}
use Rattle.vl_uses.specs.UseFaults.{IsUseFault}
use Rattle.vl_names.specs.HierarchyFaults.{IsHierarchyFault}

-- a fault of a declaration, of a use of a name, or of the modules
pub data IsNameFault (s : Source) : Fault → Type 0 where
  of_declaration : (f : Fault) → IsDeclarationFault s f → IsNameFault s f
  of_use : (f : Fault) → IsUseFault s f → IsNameFault s f
  of_modules : (f : Fault) → IsHierarchyFault s f → IsNameFault s f
