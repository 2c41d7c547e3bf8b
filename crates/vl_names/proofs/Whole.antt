-- The first fault of the names.
use Rattle.std.proofs.Common.{◌≡◌, ◌⊎◌, inl, inr, ⊎_elim, Option, None, Result, Ok, Err, IfOk}
use Rattle.vl_scope.specs.vl_tree.specs.declared.source_tree.Source.{Source}
use Rattle.vl_scope.specs.declared.fault.Fault.{Fault}
use Rattle.vl_scope.specs.Faults.{earliest, IsFirst}
use Rattle.vl_scope.specs.DeclarationFaults.{IsDeclarationFault, declaration_faults}
use Rattle.vl_scope.proofs.Orders.{IsFirst-same}
use Rattle.vl_scope.proofs.Members.{earliest-of_three}
use Rattle.vl_scope.proofs.Listed.{declaration_faults-law}
use Rattle.vl_uses.specs.UseFaults.{IsUseFault, use_faults}
use Rattle.vl_uses.proofs.Listed.{use_faults-law}
use Rattle.vl_names.specs.HierarchyFaults.{IsHierarchyFault, hierarchy_faults}
use Rattle.vl_names.specs.NameFaults.{IsNameFault, of_declaration, of_use, of_modules}
use Rattle.vl_names.proofs.Listed.{hierarchy-law}

abbrev Parts : Source → Fault → Type 0
Parts s f = IsDeclarationFault s f ⊎ (IsUseFault s f ⊎ IsHierarchyFault s f)

into : (s : Source) (f : Fault) → Parts s f → IsNameFault s f
into s f h = ⊎_elim (λ d. of_declaration f d) (λ k. ⊎_elim (λ u. of_use f u) (λ m. of_modules f m) k) h

from : (s : Source) (f : Fault) → IsNameFault s f → Parts s f
from s f (of_declaration f' d) = inl d
from s f (of_use f' u) = inr (inl u)
from s f (of_modules f' m) = inr (inr m)

pub first_of_all : (s : Source) (b : Option Fault) → b ≡ earliest (earliest (earliest None (declaration_faults s)) (use_faults s)) (hierarchy_faults s) → IsFirst (IsNameFault s) b
first_of_all s b e = IsFirst-same (Parts s) (IsNameFault s) (λ f. (into s f, from s f)) b
    (earliest-of_three (IsDeclarationFault s) (IsUseFault s) (IsHierarchyFault s) (declaration_faults s) (use_faults s) (hierarchy_faults s)
    (declaration_faults-law s) (use_faults-law s) (hierarchy-law s) b e)

-- what holds of an answer, where more holds of it
pub ok-map : {T E : Type 0} (r : Result T E) (P Q : T → Type 0) → ((x : T) → P x → Q x) → IfOk r P → IfOk r Q
ok-map (Ok x) P Q f h = f x h
ok-map (Err e) P Q f h = h
