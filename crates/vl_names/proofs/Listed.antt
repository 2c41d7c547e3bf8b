-- The lists have just the faults of the relations.
use Rattle.std.proofs.Common.{◌≡◌, ℕ, zero, suc, ◌≤◌, ◌⊎◌, ◌↔◌, inl, inr, ⊎_elim, Bool, true, false, not, ◌||◌, ◌&&◌, nat_eq, nat_le, is_some, if◌then◌else◌, List, [], ◌∷◌, ◌++◌, length, flat_map, slice_get, Option, Some, None, refl, sym, ap, ◌∙◌, subst, arith}
use Rattle.std.specs.List.{list_any, list_all}
use Rattle.std.specs.Option.{option_map_or}
use Rattle.std.specs.Str.{bytes_eq}
use Rattle.std.proofs.lemmas.Bool.Decides.{nat_tests}
use Rattle.vl_scope.specs.vl_base.specs.declared.place.Place.{Place}
use Rattle.vl_scope.specs.vl_tree.specs.declared.tree.Identifier.{Identifier}
use Rattle.vl_scope.specs.vl_tree.specs.declared.tree.Expression.{Expression}
use Rattle.vl_scope.specs.vl_tree.specs.declared.source_tree.Source.{Source}
use Rattle.vl_scope.specs.vl_tree.specs.declared.source_tree.Module.{Module}
use Rattle.vl_scope.specs.vl_tree.specs.declared.source_tree.Instance.{Instance}
use Rattle.vl_scope.specs.vl_tree.specs.declared.source_tree.NamedInstance.{NamedInstance}
use Rattle.vl_scope.specs.vl_tree.specs.declared.source_tree.Connection.{Connection}
use Rattle.vl_scope.specs.vl_tree.specs.declared.source_tree.Connection.TheVariants.{Ordered, Named}
use Rattle.vl_scope.specs.declared.fault.Fault.{Fault}
use Rattle.vl_scope.specs.DeclarationFaults.{names_have}
use Rattle.vl_scope.specs.Faults.{at, In, each_after}
use Rattle.vl_scope.proofs.Members.{In-append_left, In-append_right, In-append_cases, In-split, In-middle, In-flat_map, In-flat_map_cases, In-fault_if, In-fault_if_cases, In-each_after, In-each_after_cases}
use Rattle.vl_scope.specs.vl_tree.specs.Hierarchy.{ports, overridable, instances, module_number, graph_of, is_top, first_top}
use Rattle.vl_names.specs.Modules.{all_instances, has_one_input}
use Rattle.vl_names.specs.Walks.{is_cyclic}
use Rattle.vl_names.proofs.Graph.{itself-law}
use Rattle.vl_names.specs.Connections as c
use Rattle.vl_names.specs.Connections.{IsConnectionFault, unknown, given_twice, past, mixed}
use Rattle.vl_names.specs.HierarchyFaults as h
use Rattle.vl_names.specs.HierarchyFaults.{IsHierarchyFault, absent, defined_twice, contains_itself, no_top, second_top, top_ports, override, connection, IsOf, hierarchy_faults}
use Rattle.vl_scope.specs.vl_base.proofs.Booleans.{and_parts, or_true_right as or-true, or_cases}
use Rattle.vl_scope.specs.vl_base.proofs.Numbers.{equal-too as equal, nat_eq_self as equal-self}

-- ---- tests

not-true : (b : Bool) → not b ≡ true → b ≡ false
not-true true e = absurd cc
not-true false e = refl

-- ---- lists of connections

other-In : (named : Bool) (before : List Connection) (x : Connection) (after : List Connection) → list_all (c.has_form named) before ≡ true → c.has_form named x ≡ false → In (at (c.place_of x) 7) (c.other_faults named (before ++ x ∷ after))
other-In named [] x after all other = subst (λ t. In (at (c.place_of x) 7) (if t then c.other_faults named after else (at (c.place_of x) 7 ∷ []))) (sym other) (inl refl)
other-In named (b ∷ before) x after all other =
    let both = and_parts (c.has_form named b) (list_all (c.has_form named) before) all in
    subst (λ t. In (at (c.place_of x) 7) (if t then c.other_faults named (before ++ x ∷ after) else (at (c.place_of b) 7 ∷ []))) (sym both.0) (other-In named before x after both.1 other)

abbrev IsOther : Bool → List Connection → Fault → Type 0
IsOther named cs f = (before : List Connection) × (x : Connection) × (after : List Connection) × (cs ≡ before ++ x ∷ after) × (list_all (c.has_form named) before ≡ true) × (c.has_form named x ≡ false) × (f ≡ at (c.place_of x) 7)

other_cases : (named : Bool) (cs : List Connection) (f : Fault) → In f (c.other_faults named cs) → IsOther named cs f
other_cases named [] f h = absurd h
other_cases named (x ∷ cs) f h = by (c.has_form named x) refl (λ k. other_cases named cs f k) h
  where
    by : (t : Bool) → c.has_form named x ≡ t → (In f (c.other_faults named cs) → IsOther named cs f) → In f (if t then c.other_faults named cs else (at (c.place_of x) 7 ∷ [])) → IsOther named (x ∷ cs) f
    by true t later h = let r = later h in (x ∷ r.0, r.1, r.2, ap (λ l. x ∷ l) r.3, rw t r.4, r.5, r.6)
    by false t later (inl e) = ([], x, cs, refl, refl, t, sym e)
    by false t later (inr h) = absurd h

module _ (names : List Identifier) (cs : List Connection) where
  naming_at : (before after : List Connection) (p : Place) (n : Identifier) (e : Option Expression) → cs ≡ before ++ Named p n e ∷ after → (not (names_have names n.name) || names_have (c.given before) n.name) ≡ true → In (at p 7) (each_after (c.naming_fault (names_have names)) [] cs)
  naming_at before after p n e is wrong = subst (λ l. In (at p 7) (each_after (c.naming_fault (names_have names)) [] l)) (sym is)
      (In-each_after (c.naming_fault (names_have names)) (at p 7) [] before (Named p n e) after (In-fault_if (not (names_have names n.name) || names_have (c.given before) n.name) p 7 wrong))

  pub connection-In : (f : Fault) → IsConnectionFault names cs f → In f (c.connection_faults (names_have names) (length names) cs)
  connection-In f (unknown p n e there missing) =
      let r = In-split (Named p n e) cs there in
      In-append_left f (each_after (c.naming_fault (names_have names)) [] cs) _ (naming_at r.0 r.1 p n e r.2 (rw missing refl))
  connection-In f (given_twice before after p n e is again) = In-append_left f (each_after (c.naming_fault (names_have names)) [] cs) _ (naming_at before after p n e is (rw again (or-true _)))
  connection-In f (past before after p e is none_left something) =
      let late : nat_le (length names) (length before) ≡ true = grind (arith, nat_tests) in
      In-append_right f (each_after (c.naming_fault (names_have names)) [] cs) _ (In-append_left f (if c.is_nothing cs then [] else each_after (c.past_fault (length names)) [] cs) (c.mixed_faults cs)
      (subst (λ t. In (at p 7) (if t then [] else each_after (c.past_fault (length names)) [] cs)) (sym something)
      (subst (λ l. In (at p 7) (each_after (c.past_fault (length names)) [] l)) (sym is)
      (In-each_after (c.past_fault (length names)) (at p 7) [] before (Ordered p e) after (In-fault_if (nat_le (length names) (length before)) p 7 late)))))
  connection-In f (mixed first x before after is all other) =
      In-append_right f (each_after (c.naming_fault (names_have names)) [] cs) _ (In-append_right f (if c.is_nothing cs then [] else each_after (c.past_fault (length names)) [] cs) (c.mixed_faults cs)
      (subst (λ l. In (at (c.place_of x) 7) (c.mixed_faults l)) (sym is) (other-In (c.is_named first) before x after all other)))

  naming_cases : (f : Fault) → In f (each_after (c.naming_fault (names_have names)) [] cs) → IsConnectionFault names cs f
  naming_cases f h = let r = In-each_after_cases (c.naming_fault (names_have names)) f [] cs h in by r.0 r.1 r.2 r.3 r.4
    where
      by : (before : List Connection) (x : Connection) (after : List Connection) → cs ≡ before ++ x ∷ after → In f (c.naming_fault (names_have names) before x) → IsConnectionFault names cs f
      by before (Ordered p e) after is h = absurd h
      by before (Named p n e) after is h =
          let k = In-fault_if_cases (not (names_have names n.name) || names_have (c.given before) n.name) p 7 f h in
          subst (IsConnectionFault names cs) (sym k.1) (⊎_elim
          (λ missing. unknown p n e (subst (In (Named p n e)) (sym is) (In-middle (Named p n e) before after)) (not-true _ missing))
          (λ again. given_twice before after p n e is again)
          (or_cases (not (names_have names n.name)) (names_have (c.given before) n.name) k.0))

  past_cases : (f : Fault) → In f (if c.is_nothing cs then [] else each_after (c.past_fault (length names)) [] cs) → IsConnectionFault names cs f
  past_cases f h = which (c.is_nothing cs) refl h
    where
      by : c.is_nothing cs ≡ false → (before : List Connection) (x : Connection) (after : List Connection) → cs ≡ before ++ x ∷ after → In f (c.past_fault (length names) before x) → IsConnectionFault names cs f
      by something before (Named p n e) after is h = absurd h
      by something before (Ordered p e) after is h =
          let k = In-fault_if_cases (nat_le (length names) (length before)) p 7 f h in
          let late : nat_le (length names) (length before) ≡ true = k.0 in
          let none_left : length names ≤ length before = grind (arith, nat_tests) in
          subst (IsConnectionFault names cs) (sym k.1) (past before after p e is none_left something)

      which : (t : Bool) → c.is_nothing cs ≡ t → In f (if t then [] else each_after (c.past_fault (length names)) [] cs) → IsConnectionFault names cs f
      which true t h = absurd h
      which false t h = let r = In-each_after_cases (c.past_fault (length names)) f [] cs h in by t r.0 r.1 r.2 r.3 r.4

  mixed_cases : (f : Fault) (ds : List Connection) → cs ≡ ds → In f (c.mixed_faults ds) → IsConnectionFault names cs f
  mixed_cases f [] is h = absurd h
  mixed_cases f (first ∷ ds) is h =
      let r = other_cases (c.is_named first) ds f h in
      subst (IsConnectionFault names cs) (sym r.6) (mixed first r.1 r.0 r.2 (is ∙ ap (λ l. first ∷ l) r.3) r.4 r.5)

  pub connection_cases : (f : Fault) → In f (c.connection_faults (names_have names) (length names) cs) → IsConnectionFault names cs f
  connection_cases f h = ⊎_elim (naming_cases f)
      (λ k. ⊎_elim (past_cases f) (mixed_cases f cs refl) (In-append_cases f (if c.is_nothing cs then [] else each_after (c.past_fault (length names)) [] cs) (c.mixed_faults cs) k))
      (In-append_cases f (each_after (c.naming_fault (names_have names)) [] cs) ((if c.is_nothing cs then [] else each_after (c.past_fault (length names)) [] cs) ++ c.mixed_faults cs) h)

-- ---- instances

faults_of-overrides : (u : Instance) (m : Module) (cs : List Connection) (f : Fault) → u.overrides ≡ Some cs → IsConnectionFault (overridable m) cs f → In f (h.faults_of u m)
faults_of-overrides u m cs f e k = In-append_left f (option_map_or (c.connection_faults (names_have (overridable m)) (length (overridable m))) u.overrides []) _
    (subst (λ o. In f (option_map_or (c.connection_faults (names_have (overridable m)) (length (overridable m))) o [])) (sym e) (connection-In (overridable m) cs f k))

faults_of-ports : (u : Instance) (m : Module) (n : NamedInstance) (f : Fault) → In n u.instances → IsConnectionFault (ports m) n.connections f → In f (h.faults_of u m)
faults_of-ports u m n f there k = In-append_right f (option_map_or (c.connection_faults (names_have (overridable m)) (length (overridable m))) u.overrides []) _
    (In-flat_map (λ (x : NamedInstance). c.connection_faults (names_have (ports m)) (length (ports m)) x.connections) n f u.instances there (connection-In (ports m) n.connections f k))

-- what stands behind the faults of repeated modules
abbrev later : Source → List Fault
later s = h.given_faults s ++ h.graph_faults (graph_of s) s.modules

of_given : (s : Source) (f : Fault) → In f (h.given_faults s) → In f (hierarchy_faults s)
of_given s f k = In-append_right f (each_after h.repeated_fault [] s.modules) (later s) (In-append_left f (h.given_faults s) (h.graph_faults (graph_of s) s.modules) k)

of_graph : (s : Source) (f : Fault) → In f (h.graph_faults (graph_of s) s.modules) → In f (hierarchy_faults s)
of_graph s f k = In-append_right f (each_after h.repeated_fault [] s.modules) (later s) (In-append_right f (h.given_faults s) (h.graph_faults (graph_of s) s.modules) k)

-- a fault of an instance in a module is listed
of_instance : (s : Source) (m : Module) (u : Instance) (f : Fault) → In m s.modules → In u (instances m) → In f (h.instance_faults s u) → In f (hierarchy_faults s)
of_instance s m u f there inside k =
    of_given s f (In-flat_map (h.instance_faults s) u f (all_instances s) (In-flat_map instances m u s.modules there inside) k)

of_module : (s : Source) (u : Instance) (of : Module) (f : Fault) → IsOf s u of → In f (h.faults_of u of) → In f (h.instance_faults s u)
of_module s u of f is k = subst (λ o. In f (h.faults_by s u o)) (sym is.1) (subst (λ o. In f (option_map_or (h.faults_of u) o [])) (sym is.2) k)

split-at : {X : Type 0} (xs : List X) (i : ℕ) (x : X) → slice_get xs i ≡ Some x → (before : List X) × (after : List X) × (xs ≡ before ++ x ∷ after) × (length before ≡ i)
split-at [] i x e = absurd cc
split-at (y ∷ xs) zero x e = let same : y ≡ x = cc in ([], xs, ap (λ z. z ∷ xs) same, refl)
split-at (y ∷ xs) (suc i) x e = let r = split-at xs i x e in (y ∷ r.0, r.1, ap (λ l. y ∷ l) r.2, ap suc r.3)

at-split : {X : Type 0} (before : List X) (x : X) (after : List X) → slice_get (before ++ x ∷ after) (length before) ≡ Some x
at-split [] x after = refl
at-split (y ∷ before) x after = at-split before x after

-- ---- tops

-- the faults of tops
abbrev tops_of : Source → List Fault
tops_of s = h.top_faults (is_top (graph_of s)) (first_top (graph_of s)) s.modules

of_top : (s : Source) (f : Fault) → In f (tops_of s) → In f (hierarchy_faults s)
of_top s f k = of_graph s f (In-append_left f (tops_of s) (h.itself_faults (graph_of s) s.modules) k)

top_at : (s : Source) (i : ℕ) (m : Module) → slice_get s.modules i ≡ Some m → is_top (graph_of s) i ≡ true → (not (h.is_number (first_top (graph_of s)) i) || not (has_one_input m)) ≡ true → In (at m.name.place 6) (hierarchy_faults s)
top_at s i m here top wrong =
    let r = split-at s.modules i m here in
    let fault = h.top_fault (is_top (graph_of s)) (first_top (graph_of s)) in
    of_top s (at m.name.place 6) (In-append_left (at m.name.place 6) (each_after fault [] s.modules) (h.no_top_faults (first_top (graph_of s)) s.modules)
    (subst (λ l. In (at m.name.place 6) (each_after fault [] l)) (sym r.2)
    (In-each_after fault (at m.name.place 6) [] r.0 m r.1
    (In-fault_if (is_top (graph_of s) (length r.0) && (not (h.is_number (first_top (graph_of s)) (length r.0)) || not (has_one_input m))) m.name.place 6
    (ap (λ k. is_top (graph_of s) k && (not (h.is_number (first_top (graph_of s)) k) || not (has_one_input m))) r.3 ∙ rw (top, wrong) refl)))))

other_number : (o : Option ℕ) (i : ℕ) → (o ≡ Some i → ⊥) → h.is_number o i ≡ false
other_number None i other = refl
other_number (Some k) i other = by (nat_eq k i) refl
  where
    by : (t : Bool) → nat_eq k i ≡ t → t ≡ false
    by true e = absurd (other (ap Some (equal k i e)))
    by false e = refl

not_number : (o : Option ℕ) (i : ℕ) → not (h.is_number o i) ≡ true → o ≡ Some i → ⊥
not_number None i wrong e = absurd cc
not_number (Some k) i wrong e = let same : k ≡ i = cc in let yes : nat_eq k i ≡ true = ap (λ j. nat_eq k j) (sym same) ∙ equal-self k in absurd (let f : not true ≡ true = ap not (sym yes) ∙ wrong in cc)

none-there : (o : Option ℕ) → not (is_some o) ≡ true → o ≡ None
none-there None e = refl
none-there (Some k) e = absurd cc

pub hierarchy-In : (s : Source) (f : Fault) → IsHierarchyFault s f → In f (hierarchy_faults s)
hierarchy-In s f (absent m u there inside missing) = (of_instance s m u f there inside (subst (λ o. In (at u.place 5) (h.faults_by s u o)) (sym missing) (inl refl)))
hierarchy-In s f (defined_twice before after m is again) = (In-append_left f (each_after h.repeated_fault [] s.modules) (later s)
    (subst (λ l. In (at m.name.place 5) (each_after h.repeated_fault [] l)) (sym is)
    (In-each_after h.repeated_fault (at m.name.place 5) [] before m after (In-fault_if (list_any (λ b. bytes_eq m.name.name b.name.name) before) m.name.place 5 again))))
hierarchy-In s f (contains_itself i m here leads) = of_graph s f (In-append_right f (tops_of s) (h.itself_faults (graph_of s) s.modules)
    (let r = split-at s.modules i m here in
    subst (λ l. In (at m.name.place 5) (h.itself_faults (graph_of s) l)) (sym r.2)
    (In-each_after (h.itself_fault (graph_of s)) (at m.name.place 5) [] r.0 m r.1 (In-fault_if (is_cyclic (graph_of s) (length r.0)) m.name.place 5 (ap (is_cyclic (graph_of s)) r.3 ∙ (itself-law s i).1 leads)))))
hierarchy-In s f (no_top m after is none) = (of_top s f
    (In-append_right f (each_after (h.top_fault (is_top (graph_of s)) (first_top (graph_of s))) [] s.modules) (h.no_top_faults (first_top (graph_of s)) s.modules)
    (subst (λ l. In (at m.name.place 6) (h.no_top_faults (first_top (graph_of s)) l)) (sym is)
    (In-fault_if (not (is_some (first_top (graph_of s)))) m.name.place 6 (ap (λ o. not (is_some o)) none)))))
hierarchy-In s f (second_top i m here top other) = (top_at s i m here top (rw (other_number (first_top (graph_of s)) i other) refl))
hierarchy-In s f (top_ports i m here top wrong) = (top_at s i m here top (rw wrong (or-true (not (h.is_number (first_top (graph_of s)) i)))))
hierarchy-In s f (override m of u cs f' there inside is given k) = (of_instance s m u f there inside (of_module s u of f is (faults_of-overrides u of cs f given k)))
hierarchy-In s f (connection m of u n f' there inside is among k) = (of_instance s m u f there inside (of_module s u of f is (faults_of-ports u of n f among k)))

module _ (s : Source) (f : Fault) where
  repeated_cases : In f (each_after h.repeated_fault [] s.modules) → IsHierarchyFault s f
  repeated_cases k =
      let r = In-each_after_cases h.repeated_fault f [] s.modules k in
      let t = In-fault_if_cases (list_any (λ b. bytes_eq r.1.name.name b.name.name) r.0) r.1.name.place 5 f r.4 in
      subst (IsHierarchyFault s) (sym t.1) (defined_twice r.0 r.2 r.1 r.3 t.0)

  given_cases : (m : Module) (u : Instance) (of : Module) → In m s.modules → In u (instances m) → IsOf s u of → In f (h.faults_of u of) → IsHierarchyFault s f
  given_cases m u of there inside is k = ⊎_elim (λ a. by u.overrides refl a)
      (λ b. let r = In-flat_map_cases (λ (x : NamedInstance). c.connection_faults (names_have (ports of)) (length (ports of)) x.connections) f u.instances b in
      connection m of u r.0 f there inside is r.1 (connection_cases (ports of) r.0.connections f r.2))
      (In-append_cases f (option_map_or (c.connection_faults (names_have (overridable of)) (length (overridable of))) u.overrides []) (flat_map (λ (x : NamedInstance). c.connection_faults (names_have (ports of)) (length (ports of)) x.connections) u.instances) k)
    where
      by : (o : Option (List Connection)) → u.overrides ≡ o → In f (option_map_or (c.connection_faults (names_have (overridable of)) (length (overridable of))) o []) → IsHierarchyFault s f
      by None e a = absurd a
      by (Some cs) e a = override m of u cs f there inside is e (connection_cases (overridable of) cs f a)

  instance_cases : (m : Module) (u : Instance) → In m s.modules → In u (instances m) → In f (h.instance_faults s u) → IsHierarchyFault s f
  instance_cases m u there inside k = by (module_number s u.definition.name) refl k
    where
      at-number : (j : ℕ) → module_number s u.definition.name ≡ Some j → (o : Option Module) → slice_get s.modules j ≡ o → In f (option_map_or (h.faults_of u) o []) → IsHierarchyFault s f
      at-number j e None g k = absurd k
      at-number j e (Some of) g k = given_cases m u of there inside (j, e, g) k

      by : (o : Option ℕ) → module_number s u.definition.name ≡ o → In f (h.faults_by s u o) → IsHierarchyFault s f
      by None e (inl same) = subst (IsHierarchyFault s) same (absent m u there inside e)
      by None e (inr k) = absurd k
      by (Some j) e k = at-number j e (slice_get s.modules j) refl k

  top_cases : In f (each_after (h.top_fault (is_top (graph_of s)) (first_top (graph_of s))) [] s.modules) → IsHierarchyFault s f
  top_cases k =
      let g = graph_of s in
      let r = In-each_after_cases (h.top_fault (is_top g) (first_top g)) f [] s.modules k in
      let n = length r.0 in
      let t = In-fault_if_cases (is_top g n && (not (h.is_number (first_top g) n) || not (has_one_input r.1))) r.1.name.place 6 f r.4 in
      let both = and_parts (is_top g n) (not (h.is_number (first_top g) n) || not (has_one_input r.1)) t.0 in
      let here : slice_get s.modules n ≡ Some r.1 = ap (λ l. slice_get l n) r.3 ∙ at-split r.0 r.1 r.2 in
      subst (IsHierarchyFault s) (sym t.1) (⊎_elim
      (λ other. second_top n r.1 here both.0 (not_number (first_top g) n other))
      (λ wrong. top_ports n r.1 here both.0 (not-true _ wrong))
      (or_cases (not (h.is_number (first_top g) n)) (not (has_one_input r.1)) both.1))

  no_top_cases : (ms : List Module) → s.modules ≡ ms → In f (h.no_top_faults (first_top (graph_of s)) ms) → IsHierarchyFault s f
  no_top_cases [] e k = absurd k
  no_top_cases (m ∷ ms) e k =
      let t = In-fault_if_cases (not (is_some (first_top (graph_of s)))) m.name.place 6 f k in
      subst (IsHierarchyFault s) (sym t.1) (no_top m ms e (none-there (first_top (graph_of s)) t.0))

  itself_cases : In f (h.itself_faults (graph_of s) s.modules) → IsHierarchyFault s f
  itself_cases k =
      let r = In-each_after_cases (h.itself_fault (graph_of s)) f [] s.modules k in
      let t = In-fault_if_cases (is_cyclic (graph_of s) (length r.0)) r.1.name.place 5 f r.4 in
      subst (IsHierarchyFault s) (sym t.1) (contains_itself (length r.0) r.1 (ap (λ l. slice_get l (length r.0)) r.3 ∙ at-split r.0 r.1 r.2) ((itself-law s (length r.0)).0 t.0))

  given_faults_cases : In f (h.given_faults s) → IsHierarchyFault s f
  given_faults_cases k = let u = In-flat_map_cases (h.instance_faults s) f (all_instances s) k in let m = In-flat_map_cases instances u.0 s.modules u.1 in instance_cases m.0 u.0 m.1 m.2 u.2

  graph_cases : In f (h.graph_faults (graph_of s) s.modules) → IsHierarchyFault s f
  graph_cases k = ⊎_elim
      (λ k. ⊎_elim top_cases (no_top_cases s.modules refl) (In-append_cases f (each_after (h.top_fault (is_top (graph_of s)) (first_top (graph_of s))) [] s.modules) (h.no_top_faults (first_top (graph_of s)) s.modules) k))
      itself_cases
      (In-append_cases f (tops_of s) (h.itself_faults (graph_of s) s.modules) k)

  pub hierarchy_cases : In f (hierarchy_faults s) → IsHierarchyFault s f
  hierarchy_cases k = ⊎_elim repeated_cases
      (λ k. ⊎_elim given_faults_cases graph_cases (In-append_cases f (h.given_faults s) (h.graph_faults (graph_of s) s.modules) k))
      (In-append_cases f (each_after h.repeated_fault [] s.modules) (later s) k)

pub hierarchy-law : (s : Source) (f : Fault) → IsHierarchyFault s f ↔ In f (hierarchy_faults s)
hierarchy-law s f = (hierarchy-In s f, hierarchy_cases s f)
