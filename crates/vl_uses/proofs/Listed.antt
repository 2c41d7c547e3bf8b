-- The list has just the faults of uses.
use Rattle.std.proofs.Common.{◌≡◌, Bool, true, false, ◌&&◌, List, ◌++◌, ⊎_elim, ◌↔◌, refl, sym, subst}
use Rattle.std.specs.List.{flat_map}
use Rattle.vl_tree.specs.vl_base.specs.declared.place.Place.{Place}
use Rattle.vl_tree.specs.declared.source_tree.Source.{Source}
use Rattle.vl_tree.specs.declared.source_tree.Module.{Module}
use Rattle.vl_scope.specs.declared.fault.Fault.{Fault}
use Rattle.vl_scope.specs.Faults.{In, fault_if}
use Rattle.vl_scope.specs.Declarations.{declarations}
use Rattle.vl_scope.proofs.Members.{In-append_left, In-append_right, In-append_cases, In-flat_map, In-flat_map_cases, In-fault_if, In-fault_if_cases}
use Rattle.vl_uses.specs.Nodes.{Node, Site, sites}
use Rattle.vl_uses.specs.UseFaults as u
use Rattle.vl_uses.specs.UseFaults.{IsUseFault, Meanings, node_faults, module_faults, use_faults, z_digit, undeclared, misused, varying, refused}
use Rattle.vl_tree.specs.vl_base.proofs.Booleans.{and_left as first_of_both, and_right as second_of_both, and_both as both}

abbrev z : Node → List Fault
z a = fault_if (u.has_z_digit a.part) (u.place_of a.part) 1

abbrev un : Meanings → Node → List Fault
un m a = fault_if (u.is_undeclared m a.setting.parameters a.part) (u.place_of a.part) 2

abbrev mis : Meanings → Node → List Fault
mis m a = fault_if (u.is_misused m a.part) (u.place_of a.part) 4

abbrev var : Meanings → Node → List Fault
var m a = fault_if (a.setting.constant && u.varies m a.part) (u.place_of a.part) 8

abbrev ref : Meanings → Node → List Fault
ref m a = fault_if (u.is_refused m a.setting.timed a.part) (u.place_of a.part) 9

-- the faults at a part are these five
opened : (m : Meanings) (a : Node) → node_faults m a ≡ z a ++ un m a ++ mis m a ++ var m a ++ ref m a
unfolding node_faults
opened m a = refl

module-opened : (m : Module) → module_faults m ≡ flat_map (u.site_faults (declarations m)) (sites m)
unfolding module_faults
module-opened m = refl

-- a fault at a part of a module is in the list
listed : (s : Source) (m : Module) (a : Site) (f : Fault) → In m s.modules → In a (sites m) → In f (node_faults (u.meanings_at m a) a.node) → In f (use_faults s)
listed s m a f there here h =
    In-flat_map module_faults m f s.modules there (subst (In f) (sym (module-opened m)) (In-flat_map (u.site_faults (declarations m)) a f (sites m) here h))

-- a fault at a part is one of the five
sorted : (s : Source) (m : Module) (a : Site) (f : Fault) → In m s.modules → In a (sites m) → In f (node_faults (u.meanings_at m a) a.node) → IsUseFault s f
sorted s m a f there here h = ⊎_elim
    (λ h. ⊎_elim
    (λ h. ⊎_elim
    (λ h. ⊎_elim
    (λ h. let r = In-fault_if_cases (u.has_z_digit b.part) at_part 1 f h in subst (IsUseFault s) (sym r.1) (z_digit m a there here r.0))
    (λ h. let r = In-fault_if_cases (u.is_undeclared n b.setting.parameters b.part) at_part 2 f h in subst (IsUseFault s) (sym r.1) (undeclared m a there here r.0))
    (In-append_cases f (z b) (un n b) h))
    (λ h. let r = In-fault_if_cases (u.is_misused n b.part) at_part 4 f h in subst (IsUseFault s) (sym r.1) (misused m a there here r.0))
    (In-append_cases f (z b ++ un n b) (mis n b) h))
    (λ h. let r = In-fault_if_cases (b.setting.constant && u.varies n b.part) at_part 8 f h in subst (IsUseFault s) (sym r.1) (varying m a there here (first_of_both b.setting.constant (u.varies n b.part) r.0) (second_of_both b.setting.constant (u.varies n b.part) r.0)))
    (In-append_cases f (z b ++ un n b ++ mis n b) (var n b) h))
    (λ h. let r = In-fault_if_cases (u.is_refused n b.setting.timed b.part) at_part 9 f h in subst (IsUseFault s) (sym r.1) (refused m a there here r.0))
    (In-append_cases f (z b ++ un n b ++ mis n b ++ var n b) (ref n b) (subst (In f) (opened n b) h))
  where
    n : Meanings
    n = u.meanings_at m a

    b : Node
    b = a.node

    at_part : Place
    at_part = u.place_of a.node.part

use_fault : (s : Source) (f : Fault) → In f (use_faults s) → IsUseFault s f
use_fault s f h =
    let r = In-flat_map_cases module_faults f s.modules h in
    let q = In-flat_map_cases (u.site_faults (declarations r.0)) f (sites r.0) (subst (In f) (module-opened r.0) r.2) in
    sorted s r.0 q.0 f r.1 q.1 q.2

within : (m : Meanings) (a : Node) (f : Fault) → In f (z a ++ un m a ++ mis m a ++ var m a ++ ref m a) → In f (node_faults m a)
within m a f h = subst (In f) (sym (opened m a)) h

use_fault-listed : (s : Source) (f : Fault) → IsUseFault s f → In f (use_faults s)
use_fault-listed s f (z_digit m a there here h) =
    let n = u.meanings_at m a in let b = a.node in
    listed s m a f there here (within n b f (In-append_left f (z b ++ un n b ++ mis n b ++ var n b) (ref n b) (In-append_left f (z b ++ un n b ++ mis n b) (var n b) (In-append_left f (z b ++ un n b) (mis n b) (In-append_left f (z b) (un n b) (In-fault_if _ _ 1 h))))))
use_fault-listed s f (undeclared m a there here h) =
    let n = u.meanings_at m a in let b = a.node in
    listed s m a f there here (within n b f (In-append_left f (z b ++ un n b ++ mis n b ++ var n b) (ref n b) (In-append_left f (z b ++ un n b ++ mis n b) (var n b) (In-append_left f (z b ++ un n b) (mis n b) (In-append_right f (z b) (un n b) (In-fault_if _ _ 2 h))))))
use_fault-listed s f (misused m a there here h) =
    let n = u.meanings_at m a in let b = a.node in
    listed s m a f there here (within n b f (In-append_left f (z b ++ un n b ++ mis n b ++ var n b) (ref n b) (In-append_left f (z b ++ un n b ++ mis n b) (var n b) (In-append_right f (z b ++ un n b) (mis n b) (In-fault_if _ _ 4 h)))))
use_fault-listed s f (varying m a there here c h) =
    let n = u.meanings_at m a in let b = a.node in
    listed s m a f there here (within n b f (In-append_left f (z b ++ un n b ++ mis n b ++ var n b) (ref n b) (In-append_right f (z b ++ un n b ++ mis n b) (var n b) (In-fault_if _ _ 8 (both b.setting.constant (u.varies n b.part) c h)))))
use_fault-listed s f (refused m a there here h) =
    let n = u.meanings_at m a in let b = a.node in
    listed s m a f there here (within n b f (In-append_right f (z b ++ un n b ++ mis n b ++ var n b) (ref n b) (In-fault_if _ _ 9 h)))

pub use_faults-law : (s : Source) (f : Fault) → IsUseFault s f ↔ In f (use_faults s)
use_faults-law s f = (use_fault-listed s f, use_fault s f)
