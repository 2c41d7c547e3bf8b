-- What a part of a source needs, so that its name is used as what it is; a part without a fault has it.
use Rattle.std.proofs.Common.{◌≡◌, ℕ, Bool, true, false, true≢false, List, [], ◌∷◌, Option, Some, None, refl, sym, ap, ◌∙◌, subst}
use Rattle.std.specs.Prelude.{⊤, ◌&&◌, not, is_some, option_map}
use Rattle.std.proofs.lemmas.Bool.{and_parts, eqb-true}
use Rattle.vl_flat.specs.vl_tree.specs.declared.tree.Select as s
use Rattle.vl_flat.specs.vl_tree.specs.declared.tree.Select.{Select, out-Select}
use Rattle.vl_flat.specs.vl_tree.specs.declared.tree.Bound as d
use Rattle.vl_flat.specs.vl_tree.specs.declared.tree.Bound.{Bound}
use Rattle.vl_flat.specs.vl_tree.specs.declared.tree.Name.{Name, out-Name}
use Rattle.vl_flat.specs.vl_tree.specs.declared.tree.Identifier.{Identifier}
use Rattle.vl_flat.specs.vl_base.specs.declared.place.Place.{Place}
use Rattle.vl_names.specs.vl_scope.specs.declared.kind.Class.{Class}
use Rattle.vl_names.specs.vl_scope.specs.declared.kind.Class.TheVariants as c
use Rattle.vl_names.specs.vl_scope.specs.declared.kind.Kind.{Kind}
use Rattle.vl_names.specs.vl_scope.specs.Declarations.{is_parameter}
use Rattle.vl_names.specs.vl_uses.specs.declared.setting.Setting.{Setting}
use Rattle.vl_names.specs.vl_uses.specs.declared.setting.Side.{Side}
use Rattle.vl_names.specs.vl_uses.specs.declared.setting.Side.TheVariants.{Continuous, Procedural}
use Rattle.vl_names.specs.vl_uses.specs.Nodes as n
use Rattle.vl_names.specs.vl_uses.specs.UseFaults as u
use Rattle.vl_names.specs.vl_uses.specs.UseFaults.{Meanings}
use Rattle.vl_flat.specs.Surface as x
use Rattle.vl_flat.specs.Binding as f
use Rattle.vl_sound.specs.Used.{Classes, AreOfBits, AreOfAWord, IsRead, IsWritten, IsWatched}
use Rattle.vl_sound.proofs.Opens.{selects_before, bounds, named-opens, select-opens}
use Rattle.vl_sound.proofs.Sides.{Loads}
use Rattle.vl_sound.proofs.Loading.{system-loads}
use Rattle.vl_flat.specs.vl_base.proofs.Booleans.{not_false as untrue}

-- a name with its selects, where it is read
abbrev pub Reads : Classes → x.Ex → Type 0
Reads k (x.Named at t ss) = IsRead (k.read t) ss
Reads k e = ⊥

-- a name with its selects, on a left side
abbrev pub Writes : Classes → x.Ex → Type 0
Writes k (x.Named at t ss) = IsWritten (k.read t) ss
Writes k e = ⊥

-- what a part of an expression needs
abbrev pub Fits : Classes → n.Part → Type 0
Fits k (n.value a) = Reads k (f.named a)
Fits k (n.call name count) = k.called name.name ≡ Some (c.Function count)
Fits k (n.system usage a) = Loads k usage (f.system a)
Fits k part = ⊤

-- ---- selects

one-of-bits : (a : Select) → AreOfBits (f.select a x.NoSelects)
one-of-bits (s.Select' at i s.Select-second-None') = tt
one-of-bits (s.Select' at i (s.Select-second-Some' (d.Bound' mark w))) = tt

of-bits : (vector : Bool) (ss : List Select) → u.selects_bits vector ss ≡ true → AreOfBits (selects_before ss x.NoSelects)
of-bits vector [] h = tt
of-bits vector (a ∷ []) h = one-of-bits a
of-bits vector (a ∷ b ∷ ss) h = absurd (true≢false (sym h))

of-a-word : (vector : Bool) (ss : List Select) → u.selects_word vector ss ≡ true → AreOfAWord (selects_before ss x.NoSelects)
of-a-word vector [] h = absurd (true≢false (sym h))
of-a-word vector (a ∷ ss) h =
    let q = and_parts (u.is_index a) (u.selects_bits vector ss) h in
    subst AreOfAWord (sym (select-opens a (selects_before ss x.NoSelects))) (by (out-Select a).second (out-Select a).place (f.ex (out-Select a).first) (selects_before ss x.NoSelects) (of-bits vector ss q.1) q.0)
  where
    by : (o : Option Bound) (at : Place) (i : x.Ex) (others : x.Selects) → AreOfBits others → not (is_some o) ≡ true → AreOfAWord (bounds o at i others)
    by None at i others r e = r
    by (Some two) at i others r e = absurd (true≢false (sym e))

read-so : (class : Class) (vector : Bool) (ss : List Select) → u.is_readable class vector ss ≡ true → IsRead (Some class) (selects_before ss x.NoSelects)
read-so c.Port vector ss h = of-bits vector ss h
read-so c.Net vector ss h = of-bits vector ss h
read-so c.Variable vector ss h = of-bits vector ss h
read-so (c.Parameter i) vector ss h = of-bits vector ss h
read-so c.Memory vector ss h = of-a-word vector ss h
read-so class vector ss h = absurd (true≢false (sym h))

written-so : (side : Side) (class : Class) (vector : Bool) (ss : List Select) → u.is_assignable side class vector ss ≡ true → IsWritten (Some class) (selects_before ss x.NoSelects)
written-so Continuous c.Port vector ss h = of-bits vector ss h
written-so Continuous c.Net vector ss h = of-bits vector ss h
written-so Procedural c.Variable vector ss h = of-bits vector ss h
written-so Procedural c.Memory vector ss h = of-a-word vector ss h
written-so Continuous class vector ss h = absurd (true≢false (sym h))
written-so Procedural class vector ss h = absurd (true≢false (sym h))

watched-so : (class : Class) → u.is_watchable class ≡ true → IsWatched (Some class)
watched-so c.Port h = tt
watched-so c.Net h = tt
watched-so c.Variable h = tt
watched-so class h = absurd (true≢false (sym h))

called-so : (count : ℕ) (class : Class) → u.is_callable count class ≡ true → class ≡ c.Function count
called-so count (c.Function i) h = ap (λ z. c.Function z) (eqb-true i count h)
called-so count class h = absurd (true≢false (sym h))

parameter-read : (class : Class) → is_parameter class ≡ true → IsRead (Some class) x.NoSelects
parameter-read (c.Parameter i) h = tt
parameter-read class h = absurd (true≢false (sym h))

-- ---- parts without faults

-- the class of what is meant, if anything is
abbrev pub class_of : Option Kind → Option Class
class_of o = option_map (λ kind. kind.class) o

-- a part without a fault
pub record IsFine (m : Meanings) (a : n.Node) : Type 0 where
  pub known : u.is_undeclared m a.setting.parameters a.part ≡ false
  pub used : u.is_misused m a.part ≡ false
  pub fixed : (a.setting.constant && u.varies m a.part) ≡ false
  pub allowed : u.is_refused m a.setting.timed a.part ≡ false

-- names mean what they are
pub record Means (m : Meanings) (k : Classes) : Type 0 where
  pub read : (t : List ℕ) → class_of (m.read t) ≡ k.read t
  pub called : (t : List ℕ) → class_of (m.called t) ≡ k.called t

-- names of parameters mean what they are
pub record MeansParameters (m : Meanings) (k : Classes) : Type 0 where
  pub read : (t : List ℕ) (class : Class) → class_of (m.read t) ≡ Some class → is_parameter class ≡ true → k.read t ≡ Some class

-- what is declared, and used as it may be
meant : (count : ℕ) (is_so : Kind → Bool) (o : Option Kind) → u.is_unknown count o ≡ false → u.means_other is_so o ≡ false → (kind : Kind) × (o ≡ Some kind) × (is_so kind ≡ true)
meant count is_so None h g = absurd (true≢false h)
meant count is_so (Some kind) h g = (kind, refl, untrue (is_so kind) g)

module _ (m : Meanings) (k : Classes) (means : Means m k) where
  is-class : (t : List ℕ) (kind : Kind) → m.read t ≡ Some kind → Some kind.class ≡ k.read t
  is-class t kind e = sym (ap class_of e) ∙ means.read t

  value-fits : (setting : Setting) (a : Name) → IsFine m (n.node setting (n.value a)) → Reads k (f.named a)
  value-fits setting a fine =
      let o = out-Name a in
      let t = o.identifier.name in
      let q = meant setting.parameters (λ kind. u.is_readable kind.class kind.vector o.selects) (m.read t) fine.known fine.used in
      subst (Reads k) (sym (named-opens a)) (subst (λ z. IsRead z (selects_before o.selects x.NoSelects)) (is-class t q.0 q.1) (read-so q.0.class q.0.vector o.selects q.2))

  pub target-fits : (side : Side) (setting : Setting) (a : Name) → IsFine m (n.node setting (n.target side a)) → Writes k (f.named a)
  target-fits side setting a fine =
      let o = out-Name a in
      let t = o.identifier.name in
      let q = meant setting.parameters (λ kind. u.is_assignable side kind.class kind.vector o.selects) (m.read t) fine.known fine.used in
      subst (Writes k) (sym (named-opens a)) (subst (λ z. IsWritten z (selects_before o.selects x.NoSelects)) (is-class t q.0 q.1) (written-so side q.0.class q.0.vector o.selects q.2))

  pub event-fits : (setting : Setting) (name : Identifier) → IsFine m (n.node setting (n.event name)) → IsWatched (k.read name.name)
  event-fits setting name fine =
      let q = meant setting.parameters (λ kind. u.is_watchable kind.class) (m.read name.name) fine.known fine.used in
      subst IsWatched (is-class name.name q.0 q.1) (watched-so q.0.class q.2)

  pub part-fits : (setting : Setting) (a : n.Part) → ⊤ → IsFine m (n.node setting a) → Fits k a
  part-fits setting (n.value a) q fine = value-fits setting a fine
  part-fits setting (n.call name count) q fine =
      let q = meant setting.parameters (λ kind. u.is_callable count kind.class) (m.called name.name) fine.known fine.used in
      sym (sym (ap class_of q.1) ∙ means.called name.name) ∙ ap (λ z. Some z) (called-so count q.0.class q.2)
  part-fits setting (n.system usage a) q fine = system-loads m.read k (λ t kind e. is-class t kind e) setting.timed usage a (untrue _ fine.allowed)
  part-fits setting a q fine = tt

-- ---- constants

module _ (m : Meanings) (k : Classes) (means : MeansParameters m k) where
  varies-not : (b : Bool) (v : Bool) → b ≡ true → (b && v) ≡ false → v ≡ false
  varies-not true v e h = h
  varies-not false v e h = absurd (true≢false (sym e))

  constant-value : (count : ℕ) (o : Option Kind) (ss : List Select) (t : List ℕ) → m.read t ≡ o → u.is_unknown count o ≡ false → u.is_varying o ss ≡ false
      → IsRead (k.read t) (selects_before ss x.NoSelects)
  constant-value count o (a ∷ ss) t e h g = absurd (true≢false g)
  constant-value count None [] t e h g = absurd (true≢false h)
  constant-value count (Some kind) [] t e h g =
      let p = untrue (is_parameter kind.class) g in
      subst (λ z. IsRead z x.NoSelects) (sym (means.read t kind.class (ap class_of e) p)) (parameter-read kind.class p)

  pub constant-fits : (setting : Setting) (a : n.Part) → setting.constant ≡ true → IsFine m (n.node setting a) → Fits k a
  constant-fits setting (n.value a) q fine =
      let o = out-Name a in
      let t = o.identifier.name in
      subst (Reads k) (sym (named-opens a)) (constant-value setting.parameters (m.read t) o.selects t refl fine.known (varies-not setting.constant _ q fine.fixed))
  constant-fits setting (n.call name count) q fine = absurd (true≢false (varies-not setting.constant true q fine.fixed))
  constant-fits setting (n.system usage a) q fine = absurd (true≢false (varies-not setting.constant true q fine.fixed))
  constant-fits setting a q fine = tt
