-- The list of the faults of declarations has just those.
use Rattle.std.proofs.Common.{◌≡◌, ℕ, Bool, true, false, not, ◌&&◌, ◌==◌, List, [], ◌∷◌, ◌++◌, length, ⊎_elim, ◌↔◌, Option, Some, None, is_some, refl, sym, ap, subst, arith}
use Rattle.std.specs.List.{flat_map, list_any}
use Rattle.std.specs.Str.{bytes_eq}
use Rattle.std.proofs.lemmas.Bool.{and_parts, and_from, eqb-true, eq-eqb, not-true}
use Rattle.std.proofs.lemmas.Slice.Eq.{bytes_eq-Decides}
use Rattle.vl_tree.specs.declared.tree.Identifier.{Identifier}
use Rattle.vl_tree.specs.declared.source_tree.Source.{Source}
use Rattle.vl_tree.specs.declared.source_tree.Module.{Module}
use Rattle.vl_tree.specs.declared.source_tree.PortDeclaration.{PortDeclaration}
use Rattle.vl_tree.specs.declared.source_tree.Item.{Item}
use Rattle.vl_tree.specs.declared.source_tree.Item.TheVariants as i
use Rattle.vl_tree.specs.declared.source_tree.Function.{Function}
use Rattle.vl_scope.specs.declared.fault.Fault.{Fault}
use Rattle.vl_scope.specs.Faults.{at, fault_if, In}
use Rattle.vl_scope.specs.Declarations.{Declared, declarations, port_declarations, function_declarations, function_inputs, body_inputs}
use Rattle.vl_scope.specs.DeclarationFaults.{clash, mismatch, clashes, mismatches, listed, IsScope, of_module, of_function, IsDeclarationFault, declared_twice, mismatched, listed_twice, undirected, unlisted, no_input, input_beside, declaration_faults_after, scope_faults, names_have, repeated_after, repeated_faults, directs, undirected_faults, item_ports, unlisted_faults, function_faults, item_faults, module_faults, declaration_faults}
use Rattle.vl_scope.proofs.Members.{In-append_left, In-append_right, In-append_cases, In-flat_map, In-flat_map_cases, In-fault_if, In-fault_if_cases, In-each_after, In-each_after_cases, list_any-In, list_any-In_cases, list_any-none, none-list_any}
use Rattle.vl_base.proofs.Options.{none_from as none_left}

-- ---- spellings

pub bytes_eq-from : (t u : List ℕ) → u ≡ t → bytes_eq t u ≡ true
bytes_eq-from t u e = (bytes_eq-Decides t u).1 (sym e)

pub bytes_eq-to : (t u : List ℕ) → bytes_eq t u ≡ true → u ≡ t
bytes_eq-to t u h = sym ((bytes_eq-Decides t u).0 h)

-- ---- scopes

-- an earlier declaration of the name that stands so to this one
related : (R : Declared → Declared → Bool) (before : List Declared) (e a : Declared) → In e before → e.name.name ≡ a.name.name → R e a ≡ true → list_any (λ x. bytes_eq a.name.name x.name.name && R x a) before ≡ true
related R before e a there same h = list_any-In (λ x. bytes_eq a.name.name x.name.name && R x a) e before there (and_from _ _ (bytes_eq-from a.name.name e.name.name same) h)

related_cases : (R : Declared → Declared → Bool) (before : List Declared) (a : Declared) → list_any (λ x. bytes_eq a.name.name x.name.name && R x a) before ≡ true → (e : Declared) × In e before × (e.name.name ≡ a.name.name) × (R e a ≡ true)
related_cases R before a h =
    let r = list_any-In_cases (λ x. bytes_eq a.name.name x.name.name && R x a) before h in
    let b = and_parts _ _ r.2 in
    (r.0, r.1, bytes_eq-to a.name.name r.0.name.name b.0, b.1)

scope_has : (all before after : List Declared) (a : Declared) (f : Fault) → all ≡ before ++ a ∷ after → In f (declaration_faults_after before a) → In f (scope_faults all)
scope_has all before after a f e h = subst (λ l. In f (scope_faults l)) (sym e) (In-each_after declaration_faults_after f [] before a after h)

-- a fault of a scope is in the list
in_scope : (s : Source) (all : List Declared) (f : Fault) → IsScope s all → In f (scope_faults all) → In f (declaration_faults s)
in_scope s all f (of_module m there) h = In-flat_map module_faults m f s.modules there (In-append_left f (scope_faults (declarations m)) _ h)
in_scope s all f (of_function m a there declared) h = In-flat_map module_faults m f s.modules there
    (In-append_right f (scope_faults (declarations m)) _ (In-append_right f (repeated_faults (listed m)) _ (In-append_right f (undirected_faults (declarations m) (listed m)) _
    (In-append_right f (unlisted_faults (listed m) (flat_map item_ports m.items)) _ (In-flat_map item_faults (i.Function a) f m.items declared
    (In-append_left f (scope_faults (function_declarations a)) _ h))))))

-- what is in the list of a scope is a fault
scope_fault : (s : Source) (all : List Declared) (f : Fault) → IsScope s all → In f (scope_faults all) → IsDeclarationFault s f
scope_fault s all f scope h =
    let r = In-each_after_cases declaration_faults_after f [] all h in
    ⊎_elim
    (λ x. let g = In-fault_if_cases (clashes r.0 r.1) r.1.name.place 3 f x in let e = related_cases clash r.0 r.1 g.0 in
    subst (IsDeclarationFault s) (sym g.1) (declared_twice all r.0 r.2 e.0 r.1 scope r.3 e.1 e.2 e.3))
    (λ x. let g = In-fault_if_cases (mismatches r.0 r.1) r.1.name.place 4 f x in let e = related_cases mismatch r.0 r.1 g.0 in
    subst (IsDeclarationFault s) (sym g.1) (mismatched all r.0 r.2 e.0 r.1 scope r.3 e.1 e.2 e.3))
    (In-append_cases f (fault_if (clashes r.0 r.1) r.1.name.place 3) (fault_if (mismatches r.0 r.1) r.1.name.place 4) r.4)

-- ---- lists of names

has_name : (names : List Identifier) (n : Identifier) (t : List ℕ) → In n names → n.name ≡ t → names_have names t ≡ true
has_name names n t there same = list_any-In (λ n. bytes_eq t n.name) n names there (bytes_eq-from t n.name same)

has_name_cases : (names : List Identifier) (t : List ℕ) → names_have names t ≡ true → (n : Identifier) × In n names × (n.name ≡ t)
has_name_cases names t h = let r = list_any-In_cases (λ n. bytes_eq t n.name) names h in (r.0, r.1, bytes_eq-to t r.0.name r.2)

has_no_name : (names : List Identifier) (t : List ℕ) → ((n : Identifier) → In n names → n.name ≡ t → ⊥) → not (names_have names t) ≡ true
has_no_name names t none = by (names_have names t) refl
  where
    by : (b : Bool) → names_have names t ≡ b → not b ≡ true
    by true e = let r = has_name_cases names t e in absurd (none r.0 r.1 r.2)
    by false e = refl

has_no_name_cases : (names : List Identifier) (t : List ℕ) → not (names_have names t) ≡ true → (n : Identifier) → In n names → n.name ≡ t → ⊥
has_no_name_cases names t h n there same = let e : names_have names t ≡ true = has_name names n t there same in let k : names_have names t ≡ false = not-true (names_have names t) h in cc

-- ---- directions

directs_none : (all : List Declared) (t : List ℕ) → ((a : Declared) → In a all → a.name.name ≡ t → a.direction ≡ None) → not (directs all t) ≡ true
directs_none all t none = rw (none-list_any (λ a. bytes_eq t a.name.name && is_some a.direction) all (λ a there. one a there (bytes_eq t a.name.name) refl)) refl
  where
    one : (a : Declared) → In a all → (b : Bool) → bytes_eq t a.name.name ≡ b → (b && is_some a.direction) ≡ false
    one a there true e = rw (none a there (bytes_eq-to t a.name.name e)) refl
    one a there false e = refl

directs_none_cases : (all : List Declared) (t : List ℕ) → not (directs all t) ≡ true → (a : Declared) → In a all → a.name.name ≡ t → a.direction ≡ None
directs_none_cases all t h a there same = none_left a.direction (by (is_some a.direction) refl)
  where
    by : (b : Bool) → is_some a.direction ≡ b → is_some a.direction ≡ false
    by false e = e
    by true e =
        let yes : (bytes_eq t a.name.name && is_some a.direction) ≡ true = and_from _ _ (bytes_eq-from t a.name.name same) e in
        let no = list_any-none (λ a. bytes_eq t a.name.name && is_some a.direction) all (not-true (directs all t) h) a there in
        absurd cc

-- ---- functions

no_items : {X : Type 0} (xs : List X) → (length xs == 0) ≡ true → xs ≡ []
no_items [] h = refl
no_items (x ∷ xs) h = let e : length (x ∷ xs) ≡ 0 = eqb-true _ _ h in absurd (omega arith)

-- ---- from faults to the list

abbrev functions_of : Module → List Fault
functions_of m = flat_map item_faults m.items

in_repeated : (s : Source) (m : Module) (f : Fault) → In m s.modules → In f (repeated_faults (listed m)) → In f (declaration_faults s)
in_repeated s m f there h = In-flat_map module_faults m f s.modules there (In-append_right f (scope_faults (declarations m)) _ (In-append_left f (repeated_faults (listed m)) _ h))

in_undirected : (s : Source) (m : Module) (f : Fault) → In m s.modules → In f (undirected_faults (declarations m) (listed m)) → In f (declaration_faults s)
in_undirected s m f there h = In-flat_map module_faults m f s.modules there (In-append_right f (scope_faults (declarations m)) _ (In-append_right f (repeated_faults (listed m)) _
    (In-append_left f (undirected_faults (declarations m) (listed m)) _ h)))

in_unlisted : (s : Source) (m : Module) (f : Fault) → In m s.modules → In f (unlisted_faults (listed m) (flat_map item_ports m.items)) → In f (declaration_faults s)
in_unlisted s m f there h = In-flat_map module_faults m f s.modules there (In-append_right f (scope_faults (declarations m)) _ (In-append_right f (repeated_faults (listed m)) _
    (In-append_right f (undirected_faults (declarations m) (listed m)) _ (In-append_left f (unlisted_faults (listed m) (flat_map item_ports m.items)) _ h))))

in_function : (s : Source) (m : Module) (a : Function) (f : Fault) → In m s.modules → In (i.Function a) m.items → In f (function_faults a) → In f (declaration_faults s)
in_function s m a f there declared h = In-flat_map module_faults m f s.modules there (In-append_right f (scope_faults (declarations m)) _ (In-append_right f (repeated_faults (listed m)) _
    (In-append_right f (undirected_faults (declarations m) (listed m)) _ (In-append_right f (unlisted_faults (listed m) (flat_map item_ports m.items)) _
    (In-flat_map item_faults (i.Function a) f m.items declared h)))))

abbrev no_input_fault : Function → List Fault
no_input_fault a = fault_if (length (function_inputs a) == 0) a.name.place 7

-- each fault is in the list
pub in_list : (s : Source) (f : Fault) → IsDeclarationFault s f → In f (declaration_faults s)
in_list s f (declared_twice all before after e a scope is there same h) =
    in_scope s all (at a.name.place 3) scope (scope_has all before after a (at a.name.place 3) is
    (In-append_left _ (fault_if (clashes before a) a.name.place 3) _ (In-fault_if (clashes before a) a.name.place 3 (related clash before e a there same h))))
in_list s f (mismatched all before after e a scope is there same h) =
    in_scope s all (at a.name.place 4) scope (scope_has all before after a (at a.name.place 4) is
    (In-append_right _ (fault_if (clashes before a) a.name.place 3) _ (In-fault_if (mismatches before a) a.name.place 4 (related mismatch before e a there same h))))
in_list s f (listed_twice m before after e n module_there is there same) =
    in_repeated s m (at n.place 3) module_there (subst (λ l. In (at n.place 3) (repeated_faults l)) (sym is)
    (In-each_after repeated_after (at n.place 3) [] before n after (In-fault_if (names_have before n.name) n.place 3 (has_name before e n.name there same))))
in_list s f (undirected m n module_there there none) =
    in_undirected s m (at n.place 7) module_there (In-flat_map (λ n. fault_if (not (directs (declarations m) n.name)) n.place 7) n (at n.place 7) (listed m) there
    (In-fault_if (not (directs (declarations m) n.name)) n.place 7 (directs_none (declarations m) n.name none)))
in_list s f (unlisted m p a module_there item_there there none) =
    in_unlisted s m (at a.name.place 7) module_there (In-flat_map (λ a. fault_if (not (names_have (listed m) a.name.name)) a.name.place 7) a (at a.name.place 7) (flat_map item_ports m.items)
    (In-flat_map item_ports (i.Port p) a m.items item_there there)
    (In-fault_if (not (names_have (listed m) a.name.name)) a.name.place 7 (has_no_name (listed m) a.name.name none)))
in_list s f (no_input m a module_there item_there none) =
    in_function s m a (at a.name.place 7) module_there item_there (In-append_right _ (scope_faults (function_declarations a)) _ (In-append_left _ (no_input_fault a) _
    (In-fault_if (length (function_inputs a) == 0) a.name.place 7 (eq-eqb _ _ (ap length none)))))
in_list s f (input_beside m a n module_there item_there some there) =
    in_function s m a (at n.place 7) module_there item_there (In-append_right _ (scope_faults (function_declarations a)) _ (In-append_right _ (no_input_fault a) _
    (In-flat_map (λ n. fault_if (is_some a.ports) n.place 7) n (at n.place 7) (body_inputs a) there (In-fault_if (is_some a.ports) n.place 7 some))))

-- ---- from the list to faults

port_of : (x : Item) (a : Declared) → In a (item_ports x) → (p : PortDeclaration) × (x ≡ i.Port p) × In a (port_declarations p)
port_of (i.Port p) a h = (p, refl, h)
port_of _ a h = absurd h

function_of : (x : Item) (f : Fault) → In f (item_faults x) → (a : Function) × (x ≡ i.Function a) × In f (function_faults a)
function_of (i.Function a) f h = (a, refl, h)
function_of _ f h = absurd h

repeated_fault : (s : Source) (m : Module) (f : Fault) → In m s.modules → In f (repeated_faults (listed m)) → IsDeclarationFault s f
repeated_fault s m f there h =
    let r = In-each_after_cases repeated_after f [] (listed m) h in
    let g = In-fault_if_cases (names_have r.0 r.1.name) r.1.place 3 f r.4 in
    let e = has_name_cases r.0 r.1.name g.0 in
    subst (IsDeclarationFault s) (sym g.1) (listed_twice m r.0 r.2 e.0 r.1 there r.3 e.1 e.2)

undirected_fault : (s : Source) (m : Module) (f : Fault) → In m s.modules → In f (undirected_faults (declarations m) (listed m)) → IsDeclarationFault s f
undirected_fault s m f there h =
    let r = In-flat_map_cases (λ n. fault_if (not (directs (declarations m) n.name)) n.place 7) f (listed m) h in
    let g = In-fault_if_cases (not (directs (declarations m) r.0.name)) r.0.place 7 f r.2 in
    subst (IsDeclarationFault s) (sym g.1) (undirected m r.0 there r.1 (directs_none_cases (declarations m) r.0.name g.0))

unlisted_fault : (s : Source) (m : Module) (f : Fault) → In m s.modules → In f (unlisted_faults (listed m) (flat_map item_ports m.items)) → IsDeclarationFault s f
unlisted_fault s m f there h =
    let r = In-flat_map_cases (λ a. fault_if (not (names_have (listed m) a.name.name)) a.name.place 7) f (flat_map item_ports m.items) h in
    let g = In-fault_if_cases (not (names_have (listed m) r.0.name.name)) r.0.name.place 7 f r.2 in
    let x = In-flat_map_cases item_ports r.0 m.items r.1 in
    let p = port_of x.0 r.0 x.2 in
    subst (IsDeclarationFault s) (sym g.1) (unlisted m p.0 r.0 there (subst (λ y. In y m.items) p.1 x.1) p.2 (has_no_name_cases (listed m) r.0.name.name g.0))

function_fault : (s : Source) (m : Module) (a : Function) (f : Fault) → In m s.modules → In (i.Function a) m.items → In f (function_faults a) → IsDeclarationFault s f
function_fault s m a f there declared h =
    ⊎_elim (λ x. scope_fault s (function_declarations a) f (of_function m a there declared) x)
    (λ y. ⊎_elim
    (λ x. let g = In-fault_if_cases (length (function_inputs a) == 0) a.name.place 7 f x in
    subst (IsDeclarationFault s) (sym g.1) (no_input m a there declared (no_items (function_inputs a) g.0)))
    (λ x. let r = In-flat_map_cases (λ n. fault_if (is_some a.ports) n.place 7) f (body_inputs a) x in
    let g = In-fault_if_cases (is_some a.ports) r.0.place 7 f r.2 in
    subst (IsDeclarationFault s) (sym g.1) (input_beside m a r.0 there declared g.0 r.1))
    (In-append_cases f (no_input_fault a) _ y))
    (In-append_cases f (scope_faults (function_declarations a)) _ h)

functions_fault : (s : Source) (m : Module) (f : Fault) → In m s.modules → In f (functions_of m) → IsDeclarationFault s f
functions_fault s m f there h =
    let x = In-flat_map_cases item_faults f m.items h in
    let a = function_of x.0 f x.2 in
    function_fault s m a.0 f there (subst (λ y. In y m.items) a.1 x.1) a.2

module_fault : (s : Source) (m : Module) (f : Fault) → In m s.modules → In f (module_faults m) → IsDeclarationFault s f
module_fault s m f there h =
    ⊎_elim (scope_fault s (declarations m) f (of_module m there))
    (λ a. ⊎_elim (repeated_fault s m f there)
    (λ b. ⊎_elim (undirected_fault s m f there)
    (λ c. ⊎_elim (unlisted_fault s m f there) (functions_fault s m f there) (In-append_cases f (unlisted_faults (listed m) (flat_map item_ports m.items)) (functions_of m) c))
    (In-append_cases f (undirected_faults (declarations m) (listed m)) _ b))
    (In-append_cases f (repeated_faults (listed m)) _ a))
    (In-append_cases f (scope_faults (declarations m)) _ h)

-- the list has just the faults of declarations
pub declaration_faults-law : (s : Source) (f : Fault) → IsDeclarationFault s f ↔ In f (declaration_faults s)
declaration_faults-law s f = (in_list s f, λ h. let r = In-flat_map_cases module_faults f s.modules h in module_fault s r.0 f r.1 r.2)
