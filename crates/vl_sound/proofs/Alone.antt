-- Where declarations have no fault, two of one name are a port's direction and its type, or one and the same.
use Rattle.std.proofs.Common.{◌≡◌, ℕ, Bool, true, false, true≢false, if◌then◌else◌, ◌⊎◌, inl, inr, ⊎_elim, List, [], ◌∷◌, ◌++◌, Option, Some, None, refl, sym, ap, ◌∙◌, subst}
use Rattle.std.specs.Prelude.{◌&&◌, ◌||◌, is_some, fold}
use Rattle.std.specs.Str.{bytes_eq}
use Rattle.std.proofs.lemmas.Slice.Eq.{bytes_eq-Decides}
use Rattle.vl_flat.specs.vl_tree.specs.declared.tree.Identifier.{Identifier}
use Rattle.vl_flat.specs.vl_tree.specs.declared.source_tree.Source.{Source}
use Rattle.vl_flat.specs.vl_tree.specs.declared.source_tree.Module.{Module as ModuleTree}
use Rattle.vl_flat.specs.vl_tree.specs.declared.source_tree.Direction.{Direction}
use Rattle.vl_flat.specs.vl_tree.specs.declared.source_tree.Direction.TheVariants.{Input, Output}
use Rattle.vl_names.specs.vl_scope.specs.declared.fault.Fault.{Fault}
use Rattle.vl_names.specs.vl_scope.specs.declared.kind.Kind.{Kind}
use Rattle.vl_names.specs.vl_scope.specs.declared.kind.Class.{Class}
use Rattle.vl_names.specs.vl_scope.specs.declared.kind.Class.TheVariants as c
use Rattle.vl_names.specs.vl_scope.specs.Faults.{In, at}
use Rattle.vl_names.specs.vl_scope.specs.Declarations as s
use Rattle.vl_names.specs.vl_scope.specs.DeclarationFaults.{clash, mismatch, is_no_port, is_memory, IsDeclarationFault, declared_twice, mismatched, of_module}
use Rattle.vl_flat.specs.Items as x
use Rattle.vl_flat.specs.Declarations as d
use Rattle.vl_sound.proofs.DeclaredOfLaws.{Ordered, in-order}
use Rattle.vl_sound.proofs.Pairs.{pairs-ordered, TwoOrdered}
use Rattle.vl_sound.proofs.Names.{Name, P, S, F, I, spelt, names_of, Said, SaidParameter, SaidSignal, SaidFunction, SaidInstance, all-said}
use Rattle.vl_flat.specs.vl_base.proofs.Booleans.{or_true_right as or-last, or_cases as or-cases}
use Rattle.vl_names.specs.vl_scope.proofs.Shared.{parameter-no-port as parameter-class}

-- ---- what a name is

-- the class of a name is that of one of its declarations
joined-class : (known class : Class) (Q : Class → Type 0) → Q known → Q class → Q (s.joined_class known class)
joined-class c.Port class Q h k = k
joined-class c.Net class Q h k = h
joined-class c.Variable class Q h k = h
joined-class c.Memory class Q h k = h
joined-class (c.Parameter n) class Q h k = h
joined-class (c.Function n) class Q h k = h
joined-class c.Instance class Q h k = h

-- a declaration of this name says this class
pub record SaysClass (ds : List s.Declared) (t : List ℕ) (class : Class) : Type 0 where
  pub said : s.Declared
  pub within : In said ds
  pub spelt : said.name.name ≡ t
  pub class-is : said.kind.class ≡ class

class-from : (ds : List s.Declared) (t : List ℕ) (known : Option Kind) (kind : Kind) → fold (s.kind_after t) known ds ≡ Some kind
    → ((q : Kind) × (known ≡ Some q) × (q.class ≡ kind.class)) ⊎ SaysClass ds t kind.class
class-from [] t known kind h = inl (kind, h, refl)
class-from (a ∷ ds) t known kind h = by known (bytes_eq t a.name.name) refl (class-from ds t (s.kind_after t known a) kind h)
  where
    Known : Option Kind → Class → Type 0
    Known o class = (q : Kind) × (o ≡ Some q) × (q.class ≡ class)

    here : bytes_eq t a.name.name ≡ true → a.kind.class ≡ kind.class → SaysClass (a ∷ ds) t kind.class
    here e q = record { said = a; within = inl refl; spelt = sym ((bytes_eq-Decides t a.name.name).0 e); class-is = q }

    some-is : (y z : Kind) → ◌≡◌ {A = Option Kind} (Some y) (Some z) → y ≡ z
    some-is y z q = cc

    more : SaysClass ds t kind.class → SaysClass (a ∷ ds) t kind.class
    more r = record { said = r.said; within = inr r.within; spelt = r.spelt; class-is = r.class-is }

    added : (q : Kind) (adds : Bool) → (z : Kind) → (if adds then s.joined q a.kind else q) ≡ z → z.class ≡ kind.class → (q.class ≡ kind.class) ⊎ (a.kind.class ≡ kind.class)
    added q true z e h = joined-class q.class a.kind.class (λ y. y ≡ kind.class → (q.class ≡ kind.class) ⊎ (a.kind.class ≡ kind.class)) (λ y. inl y) (λ y. inr y) (ap (λ (k : Kind). k.class) e ∙ h)
    added q false z e h = inl (ap (λ (k : Kind). k.class) e ∙ h)

    by : (o : Option Kind) (b : Bool) → bytes_eq t a.name.name ≡ b
        → ((q : Kind) × ((if b then s.with_declaration o a else o) ≡ Some q) × (q.class ≡ kind.class)) ⊎ SaysClass ds t kind.class
        → ((q : Kind) × (o ≡ Some q) × (q.class ≡ kind.class)) ⊎ SaysClass (a ∷ ds) t kind.class
    by o b e (inr r) = inr (more r)
    by o false e (inl r) = inl r
    by None true e (inl r) = inr (here e (ap (λ (k : Kind). k.class) (some-is a.kind r.0 r.1) ∙ r.2))
    by (Some q) true e (inl r) =
        ⊎_elim (λ y. inl (q, refl, y)) (λ y. inr (here e y))
        (added q (s.adds_to q.class a) r.0 (some-is (if s.adds_to q.class a then s.joined q a.kind else q) r.0 r.1) r.2)

pub class-of : (ds : List s.Declared) (t : List ℕ) (kind : Kind) → s.kind_in ds t ≡ Some kind → SaysClass ds t kind.class
class-of ds t kind h = ⊎_elim (λ r. absurd (nothing r.0 r.1)) (λ r. r) (class-from ds t None kind h)
  where
    nothing : (q : Kind) → ◌≡◌ {A = Option Kind} None (Some q) → ⊥
    nothing q e = cc

-- ---- two declarations that can't be beside each other

-- one clashes with the other, or doesn't match it
abbrev pub Unlike : s.Declared → s.Declared → Type 0
Unlike a e = (clash a e || mismatch a e) ≡ true

module _ (src : Source) (none : (f : Fault) → IsDeclarationFault src f → ⊥) (m : ModuleTree) (within : In m src.modules) where
  unlike-fault : (a e : s.Declared) → Ordered (s.declarations m) a e → a.name.name ≡ e.name.name → Unlike a e → ⊥
  unlike-fault a e o same h =
      ⊎_elim
      (λ q. none _ (declared_twice (s.declarations m) o.before o.after a e (of_module m within) o.is o.earlier same q))
      (λ q. none _ (mismatched (s.declarations m) o.before o.after a e (of_module m within) o.is o.earlier same q))
      (or-cases (clash a e) (mismatch a e) h)

  -- names that can't be beside each other
  abbrev pub Apart : Name → Name → Type 0
  Apart x y = (a e : s.Declared) → Said x a → Said y e → Unlike a e × Unlike e a

  said-name : (x : Name) (a : s.Declared) → Said x a → a.name ≡ spelt x
  said-name (P n) a h = h.name
  said-name (S n) a h = h.name
  said-name (F n) a h = h.name
  said-name (I n) a h = h.name

  same-name : (x y : Name) (a e : s.Declared) → Said x a → Said y e → (spelt x).name ≡ (spelt y).name → a.name.name ≡ e.name.name
  same-name x y a e h k q = ap (λ (z : Identifier). z.name) (said-name x a h) ∙ (q ∙ sym (ap (λ (z : Identifier). z.name) (said-name y e k)))

  pub not-ordered : (x y : Name) → (spelt x).name ≡ (spelt y).name → Apart x y → Ordered (names_of (d.module' m).items) x y → ⊥
  not-ordered x y same apart o =
      let r = pairs-ordered Said (names_of (d.module' m).items) (s.declarations m) x y (all-said m) o in
      unlike-fault r.first r.second r.ordered (same-name x y r.first r.second r.first-is r.second-is same) (apart r.first r.second r.first-is r.second-is).0

  -- two such names are one
  pub alone : (x y : Name) → In x (names_of (d.module' m).items) → In y (names_of (d.module' m).items) → (spelt x).name ≡ (spelt y).name → Apart x y → x ≡ y
  alone x y h k same apart =
      ⊎_elim (λ q. q)
      (λ q. absurd (⊎_elim (not-ordered x y same apart) (not-ordered y x (sym same) (λ a e p q. let r = apart e a q p in (r.1, r.0))) q))
      (in-order (names_of (d.module' m).items) x y h k)

-- ---- which

-- a parameter, a function or an instance beside any other
record IsOther (a : s.Declared) : Type 0 where
  typed : a.typed ≡ true
  no-port : is_no_port a.kind.class ≡ true

-- what is no signal
abbrev pub IsNoSignal : Name → Type 0
IsNoSignal (S d) = ⊥
IsNoSignal n = Unit {0}

other-said : (y : Name) (a : s.Declared) → IsNoSignal y → Said y a → IsOther a
other-said (P n) a q h = record { typed = h.typed; no-port = parameter-class a.kind.class h.class }
other-said (F f) a q h = record { typed = h.typed; no-port = ap is_no_port (h.class 0) }
other-said (I n) a q h = record { typed = h.typed; no-port = ap is_no_port h.class }
other-said (S d) a q h = absurd q

says-said : (y : Name) (a : s.Declared) → Said y a → (is_some a.direction || a.typed) ≡ true
says-said (P n) a h = ap (λ z. is_some a.direction || z) h.typed ∙ or-last (is_some a.direction)
says-said (F n) a h = ap (λ z. is_some a.direction || z) h.typed ∙ or-last (is_some a.direction)
says-said (I n) a h = ap (λ z. is_some a.direction || z) h.typed ∙ or-last (is_some a.direction)
says-said (S n) a h = h.says

or-within : (b u w z : Bool) → ((((b || true) || u) || w) || z) ≡ true
or-within true u w z = refl
or-within false u w z = refl

-- by the directions, whether they say what it is, and whether it is no port
clash-other : (da db tb na nb : Bool) → na ≡ true → (db || tb) ≡ true → (z : Bool) → (((da && db) || (true && tb) || (da && nb) || (na && db)) || z) ≡ true
clash-other da db true na nb h k z = or-within (da && db) (da && nb) (na && db) z
clash-other true true false true nb h k z = refl
clash-other false true false true true h k z = refl
clash-other false true false true false h k z = refl
clash-other da false false na nb h k z = absurd (true≢false (sym k))
clash-other da true false false nb h k z = absurd (true≢false (sym h))

other-clash : (da ta na db nb : Bool) → nb ≡ true → (da || ta) ≡ true → (z : Bool) → (((da && db) || (ta && true) || (da && nb) || (na && db)) || z) ≡ true
other-clash da true na db nb h k z = or-within (da && db) (da && nb) (na && db) z
other-clash true false na true true h k z = refl
other-clash true false na false true h k z = refl
other-clash false false na db nb h k z = absurd (true≢false (sym k))
other-clash true false na db false h k z = absurd (true≢false (sym h))

-- what is no signal stands beside nothing
pub no-signal-apart : (y z : Name) → IsNoSignal y → (a e : s.Declared) → Said y a → Said z e → Unlike a e × Unlike e a
no-signal-apart y z q a e h k =
    let o = other-said y a q h in
    let n = says-said z e k in
    let first = clash-other (is_some a.direction) (is_some e.direction) e.typed (is_no_port a.kind.class) (is_no_port e.kind.class) o.no-port n (mismatch a e) in
    let second = other-clash (is_some e.direction) e.typed (is_no_port e.kind.class) (is_some a.direction) (is_no_port a.kind.class) o.no-port n (mismatch e a) in
    (rw o.typed first, rw o.typed second)
