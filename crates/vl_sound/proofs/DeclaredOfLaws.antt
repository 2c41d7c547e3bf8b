-- Where declarations have no fault, no parameter and no function has a signal's name.
use Rattle.std.proofs.Common.{◌≡◌, ℕ, Bool, true, false, true≢false, if◌then◌else◌, ◌⊎◌, inl, inr, ⊎_elim, List, [], ◌∷◌, ◌++◌, map, Option, Some, None, refl, sym, ap, ◌∙◌, subst}
use Rattle.std.specs.Prelude.{◌&&◌, ◌||◌, is_some, flat_map, All}
use Rattle.std.specs.Option.{option_map_or}
use Rattle.std.specs.Str.{bytes_eq}
use Rattle.std.proofs.lemmas.Slice.Eq.{bytes_eq-Decides}
use Rattle.std.proofs.lemmas.List.Elements.{All-nil, All-cons}
use Rattle.vl_flat.specs.vl_tree.specs.declared.tree.Identifier.{Identifier}
use Rattle.vl_flat.specs.vl_tree.specs.declared.source_tree.Source.{Source}
use Rattle.vl_flat.specs.vl_tree.specs.declared.source_tree.Module.{Module as ModuleTree}
use Rattle.vl_flat.specs.vl_tree.specs.declared.source_tree.Item.{Item as ItemTree}
use Rattle.vl_flat.specs.vl_tree.specs.declared.source_tree.Item.TheVariants as i
use Rattle.vl_flat.specs.vl_tree.specs.declared.source_tree.Ports.{Ports}
use Rattle.vl_flat.specs.vl_tree.specs.declared.source_tree.Ports.TheVariants as ps
use Rattle.vl_flat.specs.vl_tree.specs.declared.source_tree.PortDeclaration.{PortDeclaration}
use Rattle.vl_flat.specs.vl_tree.specs.declared.source_tree.PortDeclaration.TheVariants as pd
use Rattle.vl_flat.specs.vl_tree.specs.declared.source_tree.ParameterGroup.{ParameterGroup}
use Rattle.vl_flat.specs.vl_tree.specs.declared.source_tree.ParameterAssignment.{ParameterAssignment}
use Rattle.vl_flat.specs.vl_tree.specs.declared.source_tree.VariableMore.{VariableMore}
use Rattle.vl_flat.specs.vl_tree.specs.declared.source_tree.VariableMore.TheVariants as v
use Rattle.vl_names.specs.vl_scope.specs.declared.fault.Fault.{Fault}
use Rattle.vl_names.specs.vl_scope.specs.declared.kind.Class.{Class}
use Rattle.vl_names.specs.vl_scope.specs.declared.kind.Class.TheVariants as c
use Rattle.vl_names.specs.vl_scope.specs.Faults.{In, at}
use Rattle.vl_names.specs.vl_scope.specs.Declarations as s
use Rattle.vl_names.specs.vl_scope.specs.DeclarationFaults.{clash, is_no_port, IsDeclarationFault, declared_twice, of_module}
use Rattle.vl_names.specs.vl_scope.proofs.Members.{In-append_left, In-append_right, In-append_cases, In-split, In-map, In-map_cases, In-flat_map, In-flat_map_cases, list_any-In_cases}
use Rattle.vl_flat.specs.Items as x
use Rattle.vl_flat.specs.Kinds.{signals_in, signals_of}
use Rattle.vl_flat.specs.Declarations as d
use Rattle.vl_sound.specs.Apart.{declared, IsApart, AreApart}
use Rattle.vl_names.specs.vl_scope.proofs.Shared.{parameter-no-port, all-in, stored-class}

-- ---- members of lists

-- one before another
pub record Ordered {A : Type 0} (l : List A) (a e : A) : Type 0 where
  pub before : List A
  pub after : List A
  pub is : l ≡ before ++ e ∷ after
  pub earlier : In a before

ordered-more : {A : Type 0} (z : A) (l : List A) (a e : A) → Ordered l a e → Ordered (z ∷ l) a e
ordered-more z l a e o = record { before = z ∷ o.before; after = o.after; is = ap (λ y. z ∷ y) o.is; earlier = inr o.earlier }

ordered-first : {A : Type 0} (z : A) (l : List A) (a e : A) → z ≡ a → In e l → Ordered (z ∷ l) a e
ordered-first z l a e h k = let p = In-split e l k in record { before = z ∷ p.0; after = p.1; is = ap (λ y. z ∷ y) p.2; earlier = inl h }

pub in-order : {A : Type 0} (l : List A) (a e : A) → In a l → In e l → (a ≡ e) ⊎ (Ordered l a e ⊎ Ordered l e a)
in-order [] a e h k = absurd h
in-order (z ∷ l) a e (inl h) (inl k) = inl (sym h ∙ k)
in-order (z ∷ l) a e (inl h) (inr k) = inr (inl (ordered-first z l a e h k))
in-order (z ∷ l) a e (inr h) (inl k) = inr (inr (ordered-first z l e a k h))
in-order (z ∷ l) a e (inr h) (inr k) =
    ⊎_elim (λ q. inl q) (λ q. ⊎_elim (λ o. inr (inl (ordered-more z l a e o))) (λ o. inr (inr (ordered-more z l e a o))) q) (in-order l a e h k)

-- ---- what clashes

-- a signal's declaration
record IsSig (e : s.Declared) : Type 0 where
  says : (is_some e.direction || e.typed) ≡ true
  port : is_no_port e.kind.class ≡ false

-- a parameter's or a function's
record IsOther (e : s.Declared) : Type 0 where
  typed : e.typed ≡ true
  no-port : is_no_port e.kind.class ≡ true

with-other : (da ta na db : Bool) → (da || ta) ≡ true → ((da && db) || (ta && true) || (da && true) || (na && db)) ≡ true
with-other true ta na true h = refl
with-other true true na false h = refl
with-other true false na false h = refl
with-other false true na db h = refl
with-other false false na db h = absurd (true≢false (sym h))

other-with : (da db tb nb : Bool) → (db || tb) ≡ true → ((da && db) || (true && tb) || (da && nb) || (true && db)) ≡ true
other-with true true tb nb h = refl
other-with false true true nb h = refl
other-with false true false nb h = refl
other-with true false true nb h = refl
other-with false false true nb h = refl
other-with da false false nb h = absurd (true≢false (sym h))

sig-other : (a e : s.Declared) → IsSig a → IsOther e → clash a e ≡ true
sig-other a e h k = rw (k.typed, k.no-port) (with-other (is_some a.direction) a.typed (is_no_port a.kind.class) (is_some e.direction) h.says)

other-sig : (a e : s.Declared) → IsOther a → IsSig e → clash a e ≡ true
other-sig a e h k = rw (h.typed, h.no-port) (other-with (is_some a.direction) (is_some e.direction) e.typed (is_no_port e.kind.class) k.says)

-- a signal's name is no other's
apart-names : (src : Source) (m : ModuleTree) → In m src.modules → ((f : Fault) → IsDeclarationFault src f → ⊥)
    → (a e : s.Declared) → In a (s.declarations m) → In e (s.declarations m) → IsSig a → IsOther e → a.name.name ≡ e.name.name → ⊥
apart-names src m within none a e ha he sa oe same =
    ⊎_elim
    (λ q. true≢false (sym oe.no-port ∙ (ap (λ (z : s.Declared). is_no_port z.kind.class) (sym q) ∙ sa.port)))
    (λ q. ⊎_elim
    (λ o. none _ (declared_twice (s.declarations m) o.before o.after a e (of_module m within) o.is o.earlier same (sig-other a e sa oe)))
    (λ o. none _ (declared_twice (s.declarations m) o.before o.after e a (of_module m within) o.is o.earlier (sym same) (other-sig e a oe sa)))
    q)
    (in-order (s.declarations m) a e ha he)

-- ---- declarations of a module, their parameters numbered

-- the same name, direction and type, and as little a port
record Alike (a e : s.Declared) : Type 0 where
  name : e.name ≡ a.name
  direction : e.direction ≡ a.direction
  typed : e.typed ≡ a.typed
  port : is_no_port e.kind.class ≡ is_no_port a.kind.class

alike-self : (a : s.Declared) → Alike a a
alike-self a = record { name = refl; direction = refl; typed = refl; port = refl }

alike-if : (c : Bool) (a e : s.Declared) → (c ≡ true → Alike a e) → Alike a (if c then e else a)
alike-if true a e h = h refl
alike-if false a e h = alike-self a

numbered-alike : (n : ℕ) (a : s.Declared) → Alike a (s.with_number n a)
numbered-alike n a =
    alike-if (s.is_parameter a.kind.class) a (record a { kind = record { class = c.Parameter n; vector = a.kind.vector } })
    (λ h. record { name = refl; direction = refl; typed = refl; port = sym (parameter-no-port a.kind.class h) })

numbered-in : (n : ℕ) (l : List s.Declared) (a : s.Declared) → In a l → (e : s.Declared) × In e (s.numbered n l) × Alike a e
numbered-in n [] a h = absurd h
numbered-in n (z ∷ l) a (inl h) = (s.with_number n z, inl refl, subst (λ y. Alike y (s.with_number n z)) h (numbered-alike n z))
numbered-in n (z ∷ l) a (inr h) = let k = numbered-in (s.number_after n z) l a h in (k.0, inr k.1, k.2)

-- a declaration of this name and sort is one of the module's
abbrev There : (s.Declared → Type 0) → List s.Declared → Identifier → Type 0
There P l n = (e : s.Declared) × In e l × (e.name ≡ n) × P e

sig-alike : (a e : s.Declared) → Alike a e → IsSig a → IsSig e
sig-alike a e k h = record { says = rw (k.direction, k.typed) h.says; port = k.port ∙ h.port }

other-alike : (a e : s.Declared) → Alike a e → IsOther a → IsOther e
other-alike a e k h = record { typed = k.typed ∙ h.typed; no-port = k.port ∙ h.no-port }

numbered-there : (P : s.Declared → Type 0) → ((a e : s.Declared) → Alike a e → P a → P e) → (m : ModuleTree) (n : Identifier) → There P (s.unnumbered m) n → There P (s.declarations m) n
numbered-there P keep m n h = let k = numbered-in 0 (s.unnumbered m) h.0 h.1 in (k.0, k.1, k.2.name ∙ h.2, keep h.0 k.0 k.2 h.3)

mapped : {A : Type 0} (P : s.Declared → Type 0) (f : A → s.Declared) (xs : List A) (y : A) (n : Identifier) → In y xs → (f y).name ≡ n → P (f y) → There P (map f xs) n
mapped P f xs y n h e p = (f y, In-map f y xs h, e, p)

left-there : (P : s.Declared → Type 0) (a e : List s.Declared) (n : Identifier) → There P a n → There P (a ++ e) n
left-there P a e n h = (h.0, In-append_left h.0 a e h.1, h.2, h.3)

right-there : (P : s.Declared → Type 0) (a e : List s.Declared) (n : Identifier) → There P e n → There P (a ++ e) n
right-there P a e n h = (h.0, In-append_right h.0 a e h.1, h.2, h.3)

flat-there : {A : Type 0} (P : s.Declared → Type 0) (f : A → List s.Declared) (xs : List A) (y : A) (n : Identifier) → In y xs → There P (f y) n → There P (flat_map f xs) n
flat-there P f xs y n h k = (k.0, In-flat_map f y k.0 xs h k.1, k.2, k.3)

-- ---- signals

ports-there : (a : PortDeclaration) (e : x.Declared) → In e (d.ports_in a) → There IsSig (s.port_declarations a) e.name
ports-there (pd.Net at direction wire signed range names) e h =
    let k = In-map_cases (d.net (Some direction) (d.vector signed range)) e names h in
    mapped IsSig (s.port direction wire (is_some range)) names k.0 e.name k.1 (ap (λ (z : x.Declared). z.name) k.2) (record { says = refl; port = port-class wire })
  where
    port-class : (w : Bool) → is_no_port (if w then c.Net else c.Port) ≡ false
    port-class true = refl
    port-class false = refl
ports-there (pd.Reg at signed range as') e h =
    let k = In-map_cases (d.output_variable (d.vector signed range)) e as' h in
    mapped IsSig (λ a. s.output_variable (is_some range) a.name) as' k.0 e.name k.1 (ap (λ (z : x.Declared). z.name) k.2) (record { says = refl; port = refl })
ports-there (pd.Integer at as') e h =
    let k = In-map_cases (d.output_variable x.Integer) e as' h in
    mapped IsSig (λ a. s.output_variable true a.name) as' k.0 e.name k.1 (ap (λ (z : x.Declared). z.name) k.2) (record { says = refl; port = refl })

item-there : (j : ItemTree) (e : x.Declared) → In e (signals_in (d.item j)) → There IsSig (s.item_declarations j) e.name
item-there (i.Port a) e h = ports-there a e h
item-there (i.Wire at signed range as') e h =
    let k = In-map_cases (d.assigned_net (d.vector signed range)) e as' h in
    mapped IsSig (λ a. s.declared c.Net (is_some range) a.name) as' k.0 e.name k.1 (ap (λ (z : x.Declared). z.name) k.2) (record { says = refl; port = refl })
item-there (i.Reg at signed range as') e h =
    let k = In-map_cases (d.variable (d.vector signed range)) e as' h in
    mapped IsSig (λ a. s.declared (s.variable_class a.more) (is_some range) a.name) as' k.0 e.name k.1 (ap (λ (z : x.Declared). z.name) k.2) (record { says = refl; port = stored-class k.0.more })
item-there (i.Integer at as') e h =
    let k = In-map_cases (d.variable x.Integer) e as' h in
    mapped IsSig (λ a. s.declared (s.variable_class a.more) true a.name) as' k.0 e.name k.1 (ap (λ (z : x.Declared). z.name) k.2) (record { says = refl; port = stored-class k.0.more })
item-there (i.Parameter at word kind as') e h = absurd h
item-there (i.Assign at as') e h = absurd h
item-there (i.Initial at a) e h = absurd h
item-there (i.Always at trigger a) e h = absurd h
item-there (i.Function a) e h = absurd h
item-there (i.Instance a) e h = absurd h

-- the items of a module: of its header's parameters, of its header's ports, and its own
item-cases : (m : ModuleTree) (it : x.Item) → In it (d.module' m).items
    → In it (option_map_or (map d.header_parameters) m.parameters []) ⊎ (In it (d.header_ports m.ports) ⊎ In it (map d.item m.items))
item-cases m it h =
    let a = option_map_or (map d.header_parameters) m.parameters [] in
    let e = d.header_ports m.ports in
    ⊎_elim (λ k. inl k) (λ k. inr (In-append_cases it e (map d.item m.items) k)) (In-append_cases it a (e ++ map d.item m.items) h)

-- declarations in a header's parameters, its ports and the items
first-there : (P : s.Declared → Type 0) (m : ModuleTree) (n : Identifier) → There P (option_map_or (flat_map (λ g. s.parameter_declarations g.assignments)) m.parameters []) n → There P (s.unnumbered m) n
first-there P m n h = left-there P (option_map_or (flat_map (λ g. s.parameter_declarations g.assignments)) m.parameters []) (option_map_or s.header_declarations m.ports [] ++ flat_map s.item_declarations m.items) n h

second-there : (P : s.Declared → Type 0) (m : ModuleTree) (n : Identifier) → There P (option_map_or s.header_declarations m.ports []) n → There P (s.unnumbered m) n
second-there P m n h =
    right-there P (option_map_or (flat_map (λ g. s.parameter_declarations g.assignments)) m.parameters []) (option_map_or s.header_declarations m.ports [] ++ flat_map s.item_declarations m.items) n
    (left-there P (option_map_or s.header_declarations m.ports []) (flat_map s.item_declarations m.items) n h)

third-there : (P : s.Declared → Type 0) (m : ModuleTree) (n : Identifier) → There P (flat_map s.item_declarations m.items) n → There P (s.unnumbered m) n
third-there P m n h =
    right-there P (option_map_or (flat_map (λ g. s.parameter_declarations g.assignments)) m.parameters []) (option_map_or s.header_declarations m.ports [] ++ flat_map s.item_declarations m.items) n
    (right-there P (option_map_or s.header_declarations m.ports []) (flat_map s.item_declarations m.items) n h)

no-signals : (o : Option (List ParameterGroup)) (it : x.Item) (e : x.Declared) → In it (option_map_or (map d.header_parameters) o []) → In e (signals_in it) → ⊥
no-signals None it e h k = h
no-signals (Some gs) it e h k = let g = In-map_cases d.header_parameters it gs h in subst (λ z. In e (signals_in z)) (sym g.2) k

header-signals : (o : Option Ports) (it : x.Item) (e : x.Declared) → In it (d.header_ports o) → In e (signals_in it) → There IsSig (option_map_or s.header_declarations o []) e.name
header-signals None it e h k = absurd h
header-signals (Some ps.Empty) it e h k = absurd h
header-signals (Some (ps.Names names)) it e h k = absurd h
header-signals (Some (ps.Declarations ports)) it e h k =
    let a = In-map_cases (λ a. x.Signals (d.ports_in a)) it ports h in
    flat-there IsSig s.port_declarations ports a.0 e.name a.1 (ports-there a.0 e (subst (λ z. In e (signals_in z)) (sym a.2) k))

signal-there : (m : ModuleTree) (e : x.Declared) → In e (signals_of (d.module' m)) → There IsSig (s.declarations m) e.name
signal-there m e h =
    let k = In-flat_map_cases signals_in e (d.module' m).items h in
    numbered-there IsSig sig-alike m e.name
    (⊎_elim (λ q. absurd (no-signals m.parameters k.0 e q k.2))
    (λ r. ⊎_elim (λ q. second-there IsSig m e.name (header-signals m.ports k.0 e q k.2))
    (λ q. let j = In-map_cases d.item k.0 m.items q in
    third-there IsSig m e.name (flat-there IsSig s.item_declarations m.items j.0 e.name j.1 (item-there j.0 e (subst (λ z. In e (signals_in z)) (sym j.2) k.2)))) r)
    (item-cases m k.0 k.1))

-- ---- parameters and functions

-- the item gives this name to a parameter or a function
Gives : x.Item → Identifier → Type 0
Gives (x.Parameters type as') n = (a : x.Parameter) × In a as' × (a.name ≡ n)
Gives (x.Functions a) n = a.name ≡ n
Gives item n = ⊥

parameters-there : (as' : List ParameterAssignment) (a : x.Parameter) (n : Identifier) → In a (map d.parameter as') → a.name ≡ n → There IsOther (s.parameter_declarations as') n
parameters-there as' a n h e =
    let k = In-map_cases d.parameter a as' h in
    mapped IsOther (λ z. s.declared (c.Parameter 0) true z.name) as' k.0 n k.1 (ap (λ (z : x.Parameter). z.name) k.2 ∙ e) (record { typed = refl; no-port = refl })

header-others : (o : Option (List ParameterGroup)) (it : x.Item) (n : Identifier) → In it (option_map_or (map d.header_parameters) o []) → Gives it n
    → There IsOther (option_map_or (flat_map (λ g. s.parameter_declarations g.assignments)) o []) n
unfolding Gives
header-others None it n h k = absurd h
header-others (Some gs) it n h k =
    let g = In-map_cases d.header_parameters it gs h in
    let p = subst (λ z. Gives z n) (sym g.2) k in
    flat-there IsOther (λ (z : ParameterGroup). s.parameter_declarations z.assignments) gs g.0 n g.1 (parameters-there g.0.assignments p.0 n p.1 p.2)

no-others : (o : Option Ports) (it : x.Item) (n : Identifier) → In it (d.header_ports o) → Gives it n → ⊥
unfolding Gives
no-others None it n h k = h
no-others (Some ps.Empty) it n h k = h
no-others (Some (ps.Names names)) it n h k = h
no-others (Some (ps.Declarations ports)) it n h k = let a = In-map_cases (λ a. x.Signals (d.ports_in a)) it ports h in subst (λ z. Gives z n) (sym a.2) k

item-others : (j : ItemTree) (n : Identifier) → Gives (d.item j) n → There IsOther (s.item_declarations j) n
unfolding Gives
item-others (i.Parameter at word kind as') n k = parameters-there as' k.0 n k.1 k.2
item-others (i.Function a) n k = (_, inl refl, k, record { typed = refl; no-port = refl })
item-others (i.Port a) n k = absurd k
item-others (i.Wire at signed range as') n k = absurd k
item-others (i.Reg at signed range as') n k = absurd k
item-others (i.Integer at as') n k = absurd k
item-others (i.Assign at as') n k = absurd k
item-others (i.Initial at a) n k = absurd k
item-others (i.Always at trigger a) n k = absurd k
item-others (i.Instance a) n k = absurd k

other-there : (m : ModuleTree) (it : x.Item) (n : Identifier) → In it (d.module' m).items → Gives it n → There IsOther (s.declarations m) n
other-there m it n h k =
    numbered-there IsOther other-alike m n
    (⊎_elim (λ q. first-there IsOther m n (header-others m.parameters it n q k))
    (λ r. ⊎_elim (λ q. absurd (no-others m.ports it n q k))
    (λ q. let j = In-map_cases d.item it m.items q in
    third-there IsOther m n (flat-there IsOther s.item_declarations m.items j.0 n j.1 (item-others j.0 n (subst (λ z. Gives z n) (sym j.2) k)))) r)
    (item-cases m it h))

-- ---- modules

module _ (src : Source) (none : (f : Fault) → IsDeclarationFault src f → ⊥) where
  unlike : (m : ModuleTree) → In m src.modules → (it : x.Item) (n : Identifier) → In it (d.module' m).items → Gives it n → declared (signals_of (d.module' m)) n.name ≡ false
  unlike m within it n h k = by (declared (signals_of (d.module' m)) n.name) refl
    where
      by : (c : Bool) → declared (signals_of (d.module' m)) n.name ≡ c → c ≡ false
      by false e = refl
      by true e =
          let y = list_any-In_cases (λ (z : x.Declared). bytes_eq n.name z.name.name) (signals_of (d.module' m)) e in
          let sig = signal-there m y.0 y.1 in
          let other = other-there m it n h k in
          let same : sig.0.name.name ≡ other.0.name.name = ap (λ (z : Identifier). z.name) sig.2 ∙ (sym ((bytes_eq-Decides n.name y.0.name.name).0 y.2) ∙ sym (ap (λ (z : Identifier). z.name) other.2)) in
          absurd (apart-names src m within none sig.0 other.0 sig.1 other.1 sig.3 other.3 same)

  apart-item : (m : ModuleTree) → In m src.modules → (it : x.Item) → In it (d.module' m).items → IsApart (signals_of (d.module' m)) it
  unfolding Gives
  apart-item m within (x.Parameters type as') h = all-in (λ a. declared (signals_of (d.module' m)) a.name.name ≡ false) as' (λ a k. unlike m within (x.Parameters type as') a.name h (a, k, refl))
  apart-item m within (x.Functions a) h = unlike m within (x.Functions a) a.name h refl
  apart-item m within (x.Signals ds) h = tt
  apart-item m within (x.Assigns as') h = tt
  apart-item m within (x.Initial at a) h = tt
  apart-item m within (x.Always at trigger a) h = tt
  apart-item m within (x.Instantiates us) h = tt

  pub all-apart : All AreApart (d.modules src)
  all-apart =
      all-in AreApart (d.modules src)
      (λ m h. let k = In-map_cases d.module' m src.modules h in
      subst AreApart k.2 (all-in (IsApart (signals_of (d.module' k.0))) (d.module' k.0).items (λ it q. apart-item k.0 k.1 it q)))
