-- What continuous assignments and connections drive is declared as no variable.
use Rattle.std.proofs.Common.{◌≡◌, ℕ, Bool, true, false, true≢false, if◌then◌else◌, inl, inr, ⊎_elim, List, [], ◌∷◌, Option, Some, None, refl, sym, ap, ◌∙◌, subst}
use Rattle.std.specs.Prelude.{◌&&◌, ◌||◌, not, is_some, option_map, fold}
use Rattle.std.specs.Str.{bytes_eq}
use Rattle.std.proofs.lemmas.Bool.{and_from, and_parts, or_cases, or_left, or_right, false_from_ne_true, not-false, not-true}
use Rattle.std.proofs.lemmas.Slice.Eq.{bytes_eq-Decides}
use Rattle.vl_sound.specs.vl_tree.specs.declared.tree.Identifier.{Identifier}
use Rattle.vl_sound.specs.vl_tree.specs.declared.source_tree.Source.{Source}
use Rattle.vl_sound.specs.vl_tree.specs.declared.source_tree.Module.{Module as ModuleTree}
use Rattle.vl_sound.specs.vl_tree.specs.declared.source_tree.Direction.{Direction}
use Rattle.vl_sound.specs.vl_tree.specs.declared.source_tree.Direction.TheVariants.{Input, Output}
use Rattle.vl_sound.specs.vl_scope.specs.declared.fault.Fault.{Fault}
use Rattle.vl_sound.specs.vl_scope.specs.declared.kind.Class.{Class}
use Rattle.vl_sound.specs.vl_scope.specs.declared.kind.Class.TheVariants as c
use Rattle.vl_sound.specs.vl_scope.specs.declared.kind.Kind.{Kind}
use Rattle.vl_sound.specs.vl_scope.specs.Faults.{In}
use Rattle.vl_sound.specs.vl_scope.specs.Declarations as s
use Rattle.vl_sound.specs.vl_scope.specs.DeclarationFaults.{is_input as gives_in, is_no_port, is_memory, is_stored, clash, mismatch, IsDeclarationFault, declared_twice, mismatched, of_module}
use Rattle.vl_sound.specs.vl_scope.proofs.Members.{list_any-In_cases}
use Rattle.vl_sound.specs.vl_flat.specs.Items as x
use Rattle.vl_sound.specs.vl_flat.specs.Declarations as d
use Rattle.vl_sound.specs.vl_flat.specs.Kinds.{signals_of, declared_as, gives_input, is_input}
use Rattle.vl_sound.specs.Used.{class_in}
use Rattle.vl_sound.proofs.DeclaredOfLaws.{Ordered, in-order}
use Rattle.vl_sound.proofs.Pairs.{pairs-there, pairs-back}
use Rattle.vl_sound.proofs.Names.{Name, P, S, F, I, names_of}
use Rattle.vl_sound.proofs.Alone.{Unlike}
use Rattle.vl_sound.proofs.Agree.{says-in, all-in}
use Rattle.elab_laws.proofs.Leaves.{IsDriven}
use Rattle.elab_laws.proofs.Told.{is_port, Both, all-both}

-- ---- what a name is behind a declaration of a variable

joined-stays : (known class : Class) → is_port known ≡ false → is_port (s.joined_class known class) ≡ false
joined-stays c.Port class h = absurd (true≢false h)
joined-stays known class h = h

joined-new : (known class : Class) → is_port class ≡ false → is_port (s.joined_class known class) ≡ false
joined-new c.Port class h = h
joined-new known class h = refl

some-is : {A : Type 0} (y z : A) → ◌≡◌ {A = Option A} (Some y) (Some z) → y ≡ z
some-is y z q = cc

-- what is known as more than a port stays so
stays : (ds : List s.Declared) (t : List ℕ) (known kind : Kind) → is_port known.class ≡ false → fold (s.kind_after t) (Some known) ds ≡ Some kind → is_port kind.class ≡ false
stays [] t known kind p h = subst (λ (z : Kind). is_port z.class ≡ false) (some-is known kind h) p
stays (a ∷ ds) t known kind p h = by (bytes_eq t a.name.name) (s.adds_to known.class a) (λ z q r. stays ds t z kind q r) h
  where
    by : (b adds : Bool) → ((z : Kind) → is_port z.class ≡ false → fold (s.kind_after t) (Some z) ds ≡ Some kind → is_port kind.class ≡ false)
        → fold (s.kind_after t) (if b then Some (if adds then s.joined known a.kind else known) else Some known) ds ≡ Some kind → is_port kind.class ≡ false
    by true true rest h = rest (s.joined known a.kind) (joined-stays known.class a.kind.class p) h
    by true false rest h = rest known p h
    by false adds rest h = rest known p h

signal-no-port : (class : Class) → s.is_signal class ≡ true → is_port class ≡ false
signal-no-port c.Port h = absurd (true≢false (sym h))
signal-no-port class h = refl

-- what is declared as a net or a variable, beside a port's direction
record Types (t : List ℕ) (e : s.Declared) : Type 0 where
  name : e.name.name ≡ t
  bare : e.direction ≡ None
  class : s.is_signal e.kind.class ≡ true

port-adds : (class : Class) (t : List ℕ) (e : s.Declared) → Types t e → is_port class ≡ true → s.adds_to class e ≡ true
port-adds c.Port t e h q = and_from (not (is_some e.direction)) (s.is_signal e.kind.class) (ap (λ o. not (is_some o)) h.bare) h.class
port-adds class t e h q = absurd (true≢false (sym q))

typed-after : (k : Kind) (t : List ℕ) (e : s.Declared) (adds : Bool) → s.adds_to k.class e ≡ adds → Types t e → is_port (if adds then s.joined k e.kind else k).class ≡ false
typed-after k t e true q h = joined-new k.class e.kind.class (signal-no-port e.kind.class h.class)
typed-after k t e false q h = false_from_ne_true (is_port k.class) (λ r. true≢false (sym (port-adds k.class t e h r) ∙ q))

typed-now : (o : Option Kind) (ds : List s.Declared) (t : List ℕ) (e : s.Declared) (kind : Kind) → Types t e → fold (s.kind_after t) o (e ∷ ds) ≡ Some kind
    → is_port kind.class ≡ false
typed-now o ds t e kind h = by o (bytes_eq t e.name.name) ((bytes_eq-Decides t e.name.name).1 (sym h.name))
  where
    by : (o : Option Kind) (b : Bool) → b ≡ true → fold (s.kind_after t) (if b then s.with_declaration o e else o) ds ≡ Some kind → is_port kind.class ≡ false
    by o false q g = absurd (true≢false (sym q))
    by None true q g = stays ds t e.kind kind (signal-no-port e.kind.class h.class) g
    by (Some k) true q g = stays ds t (if s.adds_to k.class e then s.joined k e.kind else k) kind (typed-after k t e (s.adds_to k.class e) refl h) g

typed-there : (ds : List s.Declared) (t : List ℕ) (e : s.Declared) (known : Option Kind) (kind : Kind) → In e ds → Types t e → fold (s.kind_after t) known ds ≡ Some kind
    → is_port kind.class ≡ false
typed-there [] t e known kind q h g = absurd q
typed-there (z ∷ ds) t e known kind (inl q) h g = typed-now known ds t z kind (subst (Types t) (sym q) h) g
typed-there (z ∷ ds) t e known kind (inr q) h g = typed-there ds t e (s.kind_after t known z) kind q h g

-- a name of which only the direction is told is declared as nothing more
class-bare : (ds : List s.Declared) (t : List ℕ) (e : s.Declared) → In e ds → Types t e → class_in ds t ≡ Some c.Port → ⊥
class-bare ds t e there h q = by (s.kind_in ds t) refl q
  where
    by : (o : Option Kind) → s.kind_in ds t ≡ o → option_map (λ (kind : Kind). kind.class) o ≡ Some c.Port → ⊥
    by None g q = cc
    by (Some kind) g q = true≢false (sym (ap is_port (some-is kind.class c.Port q)) ∙ typed-there ds t e None kind there h g)

-- ---- two declarations of one name

-- both say what it is
typed-unlike : (a e : s.Declared) → a.typed ≡ true → e.typed ≡ true → Unlike a e
typed-unlike a e h g =
    or_left (clash a e) (mismatch a e) (or_left _ (is_no_port a.kind.class && is_some e.direction) (or_left _ (is_some a.direction && is_no_port e.kind.class)
    (or_right (is_some a.direction && is_some e.direction) (a.typed && e.typed) (and_from a.typed e.typed h g))))

-- both give a direction
directed-unlike : (a e : s.Declared) → is_some a.direction ≡ true → is_some e.direction ≡ true → Unlike a e
directed-unlike a e h g =
    or_left (clash a e) (mismatch a e) (or_left _ (is_no_port a.kind.class && is_some e.direction) (or_left _ (is_some a.direction && is_no_port e.kind.class)
    (or_left (is_some a.direction && is_some e.direction) (a.typed && e.typed) (and_from (is_some a.direction) (is_some e.direction) h g))))

-- an input, and a variable or a memory
input-unlike : (a e : s.Declared) → gives_in a.direction ≡ true → is_stored e.kind.class ≡ true → Unlike a e
input-unlike a e h g =
    or_right (clash a e) (mismatch a e)
    (or_left _ (is_memory a.kind.class && is_some e.direction) (or_left _ (is_some a.direction && is_memory e.kind.class)
    (or_left (gives_in a.direction && is_stored e.kind.class) (is_stored a.kind.class && gives_in e.direction) (and_from (gives_in a.direction) (is_stored e.kind.class) h g))))

unlike-input : (a e : s.Declared) → gives_in a.direction ≡ true → is_stored e.kind.class ≡ true → Unlike e a
unlike-input a e h g =
    or_right (clash e a) (mismatch e a)
    (or_left _ (is_memory e.kind.class && is_some a.direction) (or_left _ (is_some e.direction && is_memory a.kind.class)
    (or_right (gives_in e.direction && is_stored a.kind.class) (is_stored e.kind.class && gives_in a.direction) (and_from (is_stored e.kind.class) (gives_in a.direction) g h))))

-- a direction, and a memory
directed-memory : (a e : s.Declared) → is_some a.direction ≡ true → is_memory e.kind.class ≡ true → Unlike a e
directed-memory a e h g =
    or_right (clash a e) (mismatch a e)
    (or_left _ (is_memory a.kind.class && is_some e.direction)
    (or_right ((gives_in a.direction && is_stored e.kind.class) || (is_stored a.kind.class && gives_in e.direction)) (is_some a.direction && is_memory e.kind.class)
    (and_from (is_some a.direction) (is_memory e.kind.class) h g)))

memory-directed : (a e : s.Declared) → is_some a.direction ≡ true → is_memory e.kind.class ≡ true → Unlike e a
memory-directed a e h g =
    or_right (clash e a) (mismatch e a)
    (or_right (((gives_in e.direction && is_stored a.kind.class) || (is_stored e.kind.class && gives_in a.direction)) || (is_some e.direction && is_memory a.kind.class))
    (is_memory e.kind.class && is_some a.direction) (and_from (is_memory e.kind.class) (is_some a.direction) g h))

stored-no-port : (class : Class) → is_stored class ≡ true → is_port class ≡ false
stored-no-port c.Port h = absurd (true≢false (sym h))
stored-no-port class h = refl

stored-signal : (class : Class) → is_stored class ≡ true → is_memory class ≡ false → s.is_signal class ≡ true
stored-signal c.Variable h g = refl
stored-signal c.Memory h g = absurd (true≢false g)
stored-signal class h g = absurd (true≢false (sym h))

parameter-no-port : (class : Class) → s.is_parameter class ≡ true → is_port class ≡ false
parameter-no-port c.Port h = absurd (true≢false (sym h))
parameter-no-port class h = refl

input-directed : (o : Option Direction) → gives_input o ≡ true → gives_in o ≡ true
input-directed None h = absurd (true≢false (sym h))
input-directed (Some Input) h = refl
input-directed (Some Output) h = absurd (true≢false (sym h))

-- ---- a module

module _ (src : Source) (fine : (f : Fault) → IsDeclarationFault src f → ⊥) (tree : ModuleTree) (within : In tree src.modules) where
  abbrev m : x.Module
  m = d.module' tree

  abbrev ds : List s.Declared
  ds = s.declarations tree

  abbrev names : List Name
  names = names_of m.items

  unlike-fault : (a e : s.Declared) → Ordered ds a e → a.name.name ≡ e.name.name → Unlike a e → ⊥
  unlike-fault a e o same h =
      ⊎_elim
      (λ q. fine _ (declared_twice ds o.before o.after a e (of_module tree within) o.is o.earlier same q))
      (λ q. fine _ (mismatched ds o.before o.after a e (of_module tree within) o.is o.earlier same q))
      (or_cases (clash a e) (mismatch a e) h)

  -- two declarations that can't be beside each other are one
  one-declared : (a e : s.Declared) → In a ds → In e ds → a.name.name ≡ e.name.name → Unlike a e → Unlike e a → a ≡ e
  one-declared a e h g same u w =
      ⊎_elim (λ q. q) (λ q. absurd (⊎_elim (λ o. unlike-fault a e o same u) (λ o. unlike-fault e a o (sym same) w) q)) (in-order ds a e h g)

  -- what is declared as a variable
  record Variable (t : List ℕ) : Type 0 where
    said : s.Declared
    there : In said ds
    name : said.name.name ≡ t
    typed : said.typed ≡ true
    stored : is_stored said.kind.class ≡ true

  variable-said : (y : x.Declared) → In y (signals_of m) → y.variable ≡ true → Variable y.name.name
  variable-said y h g =
      let (e, there, says) = pairs-there Both names ds (S y) (all-both tree) (all-in m y h) in
      let stored : is_stored e.kind.class ≡ true = says.1.stored ∙ g in
      record {
        said = e;
        there = there;
        name = ap (λ (z : Identifier). z.name) says.0.name;
        typed = not-false e.typed (sym says.1.bare ∙ stored-no-port e.kind.class stored);
        stored = stored;
      }

  -- no variable has the name
  no-variable : (t : List ℕ) → (Variable t → ⊥) → declared_as (λ y. y.variable) m t ≡ false
  no-variable t none =
      false_from_ne_true (declared_as (λ y. y.variable) m t) (λ q.
      let (y, there, test) = list_any-In_cases (λ (z : x.Declared). bytes_eq t z.name.name && z.variable) (signals_of m) q in
      let both = and_parts (bytes_eq t y.name.name) y.variable test in
      none (subst Variable (sym ((bytes_eq-Decides t y.name.name).0 both.0)) (variable-said y there both.1)))

  -- what is typed beside a variable is one
  typed-stored : (a : s.Declared) (t : List ℕ) → In a ds → a.name.name ≡ t → a.typed ≡ true → Variable t → is_stored a.kind.class ≡ true
  typed-stored a t h same typed w =
      let is = one-declared a w.said h w.there (same ∙ sym w.name) (typed-unlike a w.said typed w.typed) (typed-unlike w.said a w.typed typed) in
      ap (λ (z : s.Declared). is_stored z.kind.class) is ∙ w.stored

  -- a net with a value of its own
  pub value-net : (y : x.Declared) → In y (signals_of m) → is_some y.value ≡ true → y.variable ≡ false → declared_as (λ y. y.variable) m y.name.name ≡ false
  value-net y h some net =
      no-variable y.name.name (λ w.
      let (e, there, says) = pairs-there Both names ds (S y) (all-both tree) (all-in m y h) in
      let stored = typed-stored e y.name.name there (ap (λ (z : Identifier). z.name) says.0.name) (says.1.value some) w in
      true≢false (sym stored ∙ (says.1.stored ∙ net)))

  -- an input
  pub input-net : (t : List ℕ) → is_input m t ≡ true → declared_as (λ y. y.variable) m t ≡ false
  input-net t h =
      no-variable t (λ w.
      let (y, in-signals, test) = list_any-In_cases (λ (z : x.Declared). bytes_eq t z.name.name && gives_input z.direction) (signals_of m) h in
      let both = and_parts (bytes_eq t y.name.name) (gives_input y.direction) test in
      let same : t ≡ y.name.name = (bytes_eq-Decides t y.name.name).0 both.0 in
      let (e, there, says) = pairs-there Both names ds (S y) (all-both tree) (all-in m y in-signals) in
      let direction : gives_in e.direction ≡ true = ap gives_in says.0.direction ∙ input-directed y.direction both.1 in
      let spelt : e.name.name ≡ w.said.name.name = ap (λ (z : Identifier). z.name) says.0.name ∙ (sym same ∙ sym w.name) in
      let is = one-declared e w.said there w.there spelt (input-unlike e w.said direction w.stored) (unlike-input e w.said direction w.stored) in
      let stored : is_stored e.kind.class ≡ true = ap (λ (z : s.Declared). is_stored z.kind.class) is ∙ w.stored in
      true≢false (sym direction ∙ says.1.output stored))

  -- ---- by classes

  directed : (da ta : Bool) → (da || ta) ≡ true → ta ≡ false → da ≡ true
  directed true ta h g = refl
  directed false ta h g = absurd (true≢false (sym h ∙ g))

  -- a declaration of only a direction
  port-said : (a : s.Declared) → In a ds → a.kind.class ≡ c.Port → is_some a.direction ≡ true
  port-said a h q = let (nm, there, says) = pairs-back Both names ds a (all-both tree) h in by nm says
    where
      port : is_port a.kind.class ≡ true
      port = ap is_port q

      by : (nm : Name) → Both nm a → is_some a.direction ≡ true
      by (S y) says = directed (is_some a.direction) a.typed says.0.says (not-true a.typed (sym says.1.bare ∙ port))
      by (P n) says = absurd (true≢false (sym port ∙ parameter-no-port a.kind.class says.0.class))
      by (F y) says = absurd (true≢false (sym port ∙ ap is_port (says.0.class 0)))
      by (I n) says = absurd (true≢false (sym port ∙ ap is_port says.0.class))

  net-typed : (a : s.Declared) → In a ds → a.kind.class ≡ c.Net → a.typed ≡ true
  net-typed a h q = let (nm, there, says) = pairs-back Both names ds a (all-both tree) h in by nm says
    where
      by : (nm : Name) → Both nm a → a.typed ≡ true
      by (S y) says = not-false a.typed (sym says.1.bare ∙ ap is_port q)
      by (P n) says = says.0.typed
      by (F y) says = says.0.typed
      by (I n) says = says.0.typed

  port-free : (t : List ℕ) → class_in ds t ≡ Some c.Port → Variable t → ⊥
  port-free t is w = let r = says-in ds t c.Port is in by r.said r.within r.spelt r.class-is (is_some w.said.direction) refl (is_memory w.said.kind.class) refl
    where
      no-port : (a : s.Declared) → a ≡ w.said → a.kind.class ≡ c.Port → ⊥
      no-port a same q = true≢false (sym (ap is_port q) ∙ (ap (λ (z : s.Declared). is_port z.kind.class) same ∙ stored-no-port w.said.kind.class w.stored))

      none-of : (o : Option Direction) → is_some o ≡ false → o ≡ None
      none-of None h = refl
      none-of (Some y) h = absurd (true≢false h)

      by : (a : s.Declared) → In a ds → a.name.name ≡ t → a.kind.class ≡ c.Port → (u : Bool) → is_some w.said.direction ≡ u → (v : Bool) → is_memory w.said.kind.class ≡ v → ⊥
      by a there same q true h v g =
          let da = port-said a there q in
          no-port a (one-declared a w.said there w.there (same ∙ sym w.name) (directed-unlike a w.said da h) (directed-unlike w.said a h da)) q
      by a there same q false h true g =
          let da = port-said a there q in
          no-port a (one-declared a w.said there w.there (same ∙ sym w.name) (directed-memory a w.said da g) (memory-directed a w.said da g)) q
      by a there same q false h false g =
          class-bare ds t w.said w.there (record { name = w.name; bare = none-of w.said.direction h; class = stored-signal w.said.kind.class w.stored g }) is

  net-free : (t : List ℕ) → class_in ds t ≡ Some c.Net → Variable t → ⊥
  net-free t is w =
      let r = says-in ds t c.Net is in
      true≢false (sym (typed-stored r.said t r.within r.spelt (net-typed r.said r.within r.class-is) w) ∙ ap is_stored r.class-is)

  -- what continuous assignments drive
  pub driven-net : (t : List ℕ) → IsDriven (class_in ds t) → declared_as (λ y. y.variable) m t ≡ false
  driven-net t h = by (class_in ds t) refl h
    where
      by : (o : Option Class) → class_in ds t ≡ o → IsDriven o → declared_as (λ y. y.variable) m t ≡ false
      by (Some c.Port) q h = no-variable t (port-free t q)
      by (Some c.Net) q h = no-variable t (net-free t q)
      by o q h = absurd h
