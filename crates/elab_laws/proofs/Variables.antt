-- A variable is no net: what a process assigns stands for none.
use Rattle.std.proofs.Common.{◌≡◌, ℕ, Bool, true, false, true≢false, if◌then◌else◌, ⊎_elim, inl, inr, List, [], ◌∷◌, Option, Some, None, refl, sym, ap, ◌∙◌, subst}
use Rattle.std.specs.Prelude.{⊤, ◌&&◌, is_some, fold, All}
use Rattle.std.proofs.lemmas.List.Elements.{All-head, All-tail}
use Rattle.std.specs.List.{list_any}
use Rattle.std.specs.Str.{bytes_eq}
use Rattle.std.proofs.lemmas.Slice.Eq.{bytes_eq-Decides}
use Rattle.vl_sound.specs.vl_tree.specs.declared.tree.Identifier.{Identifier}
use Rattle.vl_sound.specs.vl_tree.specs.declared.source_tree.Module.{Module as ModuleTree}
use Rattle.vl_sound.specs.vl_scope.specs.declared.kind.Class.TheVariants as c
use Rattle.vl_sound.specs.vl_scope.specs.Faults.{In}
use Rattle.vl_sound.specs.vl_scope.specs.Declarations as s
use Rattle.vl_sound.specs.vl_scope.specs.DeclarationFaults.{is_stored}
use Rattle.vl_sound.specs.vl_scope.proofs.Members.{In-map_cases, In-flat_map, In-flat_map_cases, In-middle, list_any-In}
use Rattle.ten_plan.specs.vl_design.specs.declared.design.SigKind.{SigKind}
use Rattle.ten_plan.specs.vl_design.specs.declared.design.SigKind.TheVariants.{Net, Var, Comb, Loop, Mem, Clock}
use Rattle.ten_plan.specs.vl_design.specs.Sound.{IsMem}
use Rattle.vl_sound.specs.vl_flat.specs.declared.binding.Binding.{Binding}
use Rattle.vl_sound.specs.vl_flat.specs.declared.binding.Binding.TheVariants as b
use Rattle.vl_sound.specs.vl_flat.specs.declared.binding.Shape.{Shape}
use Rattle.vl_sound.specs.vl_flat.specs.Scopes.{none}
use Rattle.vl_sound.specs.vl_flat.specs.Items as x
use Rattle.vl_sound.specs.vl_flat.specs.Declarations as d
use Rattle.vl_sound.specs.vl_flat.specs.Kinds.{signals_in, signals_of, declared_as, is_loop, item_writes, variable_kind, kind_of}
use Rattle.vl_sound.specs.vl_flat.specs.Environments.{Counts, Given, Known, with_item, environment}
use Rattle.vl_sound.specs.Used.{class_in}
use Rattle.vl_sound.specs.Apart.{declared, IsApart, AreApart}
use Rattle.vl_sound.proofs.Pairs.{pairs-back}
use Rattle.vl_sound.proofs.Names.{Name, P, S, F, I, names_in, names_of}
use Rattle.vl_sound.proofs.Bound.{Binds, items-bind, items-known}
use Rattle.vl_sound.proofs.Agree.{says-in, all-in}
use Rattle.elab_laws.proofs.Told.{Both, all-both}

-- ---- declarations of variables

-- what a name of an item says of its signals
abbrev IsAmong : Name → List x.Declared → Type 0
IsAmong (S y) ds = In y ds
IsAmong nm ds = ⊤

among-item : (item : x.Item) (nm : Name) → In nm (names_in item) → IsAmong nm (signals_in item)
among-item (x.Signals ds) nm h = let r = In-map_cases (λ (y : x.Declared). S y) nm ds h in subst (λ z. IsAmong z ds) r.2 r.1
among-item (x.Parameters type as') nm h = let r = In-map_cases (λ (a : x.Parameter). P a.name) nm as' h in subst (λ z. IsAmong z []) r.2 tt
among-item (x.Functions f) nm (inl h) = subst (λ z. IsAmong z []) h tt
among-item (x.Functions f) nm (inr h) = absurd h
among-item (x.Instantiates us) nm h = let r = In-map_cases (λ (y : x.NamedUnit). I y.name) nm us.units h in subst (λ z. IsAmong z []) r.2 tt
among-item item nm h = absurd h

among : (m : x.Module) (nm : Name) → In nm (names_of m.items) → IsAmong nm (signals_of m)
among m nm h = let r = In-flat_map_cases names_in nm m.items h in by nm r.0 r.1 (among-item r.0 nm r.2)
  where
    by : (nm : Name) (item : x.Item) → In item m.items → IsAmong nm (signals_in item) → IsAmong nm (signals_of m)
    by (S y) item there u = In-flat_map signals_in item y m.items there u
    by nm item there u = tt

abbrev pub IsVariableName : x.Module → List ℕ → Type 0
IsVariableName m t = declared_as (λ y. y.variable) m t ≡ true

pub variable-named : (m : x.Module) (y : x.Declared) (t : List ℕ) → In y (signals_of m) → y.name.name ≡ t → y.variable ≡ true → IsVariableName m t
variable-named m y t there is v =
    list_any-In (λ (z : x.Declared). bytes_eq t z.name.name && z.variable) y (signals_of m) there
    (rw ((bytes_eq-Decides t y.name.name).1 (sym is), v) refl)

-- a variable is declared as one
pub class-variable : (m : ModuleTree) (t : List ℕ) → class_in (s.declarations m) t ≡ Some c.Variable → IsVariableName (d.module' m) t
class-variable m t h =
    let r = says-in (s.declarations m) t c.Variable h in
    let (nm, there, says) = pairs-back Both (names_of (d.module' m).items) (s.declarations m) r.said (all-both m) r.within in
    by r.said r.spelt r.class-is nm (among (d.module' m) nm there) says
  where
    by : (e : s.Declared) → e.name.name ≡ t → e.kind.class ≡ c.Variable → (nm : Name) → IsAmong nm (signals_of (d.module' m)) → Both nm e → IsVariableName (d.module' m) t
    by e spelt is (S y) there says = variable-named (d.module' m) y t there (ap (λ (z : Identifier). z.name) (sym says.0.name) ∙ spelt) (sym says.1.stored ∙ ap is_stored is)
    by e spelt is (P n) there says = absurd (true≢false (sym says.0.class ∙ ap s.is_parameter is))
    by e spelt is (F y) there says = absurd (true≢false (sym (ap is_stored is) ∙ ap is_stored (says.0.class 0)))
    by e spelt is (I n) there says = absurd (true≢false (sym (ap is_stored is) ∙ ap is_stored says.0.class))

-- ---- kinds

abbrev pub IsNoNet : SigKind → Type 0
IsNoNet Net = ⊥
IsNoNet kind = ⊤

variable-kind : (m : x.Module) (wired : Bool) (t : List ℕ) → IsNoNet (variable_kind m wired t)
variable-kind m wired t = by (is_loop m wired t) (list_any (item_writes t) m.items)
  where
    by : (l w : Bool) → IsNoNet (if l then Loop else if w then Comb else Var)
    by true w = tt
    by false true = tt
    by false false = tt

no-net-kind : (m : x.Module) (clock wired : Bool) (t : List ℕ) → IsVariableName m t → IsNoNet (kind_of m clock wired t)
no-net-kind m clock wired t h = by clock (declared_as (λ y. is_some y.words) m t) (declared_as (λ y. y.variable) m t) h
  where
    by : (q w u : Bool) → u ≡ true → IsNoNet (if q then Clock else if w then Mem else if u then variable_kind m wired t else Net)
    by true w u h = tt
    by false true u h = tt
    by false false true h = variable-kind m wired t
    by false false false h = absurd (true≢false (sym h))

pub memory-no-net : (kind : SigKind) → IsMem kind → IsNoNet kind
memory-no-net Net h = absurd h
memory-no-net kind h = tt

-- ---- names of an instance

abbrev start : Given → Known
start g = record { env = none; next = g.base }

-- a name has the kind that its module tells
pub signal-kind : (sizes : List ℕ → Counts) (g : Given) (m : x.Module) (t : List ℕ) (j : ℕ) (y : Shape) → environment sizes g m t ≡ Some (b.Signal j y) → y.kind ≡ kind_of m (g.clocks t) (g.wired t) t
signal-kind sizes g m t j y h =
    ⊎_elim (λ q. absurd (nothing q)) (λ r. by (fold (with_item sizes g m) (start g) r.before) r.item r.binds) (items-bind sizes g m m.items (start g) t (b.Signal j y) h)
  where
    nothing : ◌≡◌ {A = Option Binding} None (Some (b.Signal j y)) → ⊥
    nothing q = cc

    by : (known : Known) (item : x.Item) → Binds sizes g m known item t (b.Signal j y) → y.kind ≡ kind_of m (g.clocks t) (g.wired t) t
    by known (x.Signals ds) r = r.3
    by known item r = absurd r

-- a signal that is declared as a variable is no net
pub variable-no-net : (sizes : List ℕ → Counts) (g : Given) (m : x.Module) (t : List ℕ) (j : ℕ) (y : Shape) → environment sizes g m t ≡ Some (b.Signal j y) → IsVariableName m t → IsNoNet y.kind
variable-no-net sizes g m t j y h v = subst IsNoNet (sym (signal-kind sizes g m t j y h)) (no-net-kind m (g.clocks t) (g.wired t) t v)

-- ---- names of signals

pub at-in : {A : Type 0} (Q : A → Type 0) (ys : List A) (y : A) → All Q ys → In y ys → Q y
at-in Q [] y h i = absurd i
at-in Q (z ∷ ys) y h (inl e) = subst Q e (All-head Q z ys h)
at-in Q (z ∷ ys) y h (inr i) = at-in Q ys y (All-tail Q z ys h) i

-- a name that stands for a signal
pub record IsSignalName (o : Option Binding) : Type 0 where
  pub number : ℕ
  pub shape : Shape
  pub is : o ≡ Some (b.Signal number shape)

module _ (sizes : List ℕ → Counts) (g : Given) (m : x.Module) (apart : AreApart m) (y : x.Declared) (there : In y (signals_of m)) where
  abbrev t : List ℕ
  t = y.name.name

  abbrev IsNamed : Type 0
  IsNamed = IsSignalName (environment sizes g m t)

  declared-there : (n : List ℕ) → n ≡ t → declared (signals_of m) n ≡ true
  declared-there n is =
      subst (λ z. declared (signals_of m) z ≡ true) (sym is) (list_any-In (λ (z : x.Declared). bytes_eq t z.name.name) y (signals_of m) there ((bytes_eq-Decides t t).1 refl))

  bound-named : (known : Known) (item : x.Item) (v : Binding) → In item m.items → environment sizes g m t ≡ Some v → Binds sizes g m known item t v → IsNamed
  bound-named known (x.Signals ds) (b.Signal j z) inside e r = record { number = j; shape = z; is = e }
  bound-named known (x.Parameters type as') (b.Constant z) inside e r =
      absurd (true≢false (sym (declared-there r.0.name.name r.2)
      ∙ at-in (λ (a : x.Parameter). declared (signals_of m) a.name.name ≡ false) as' r.0 (at-in (IsApart (signals_of m)) m.items (x.Parameters type as') apart inside) r.1))
  bound-named known (x.Functions f) (b.Function j z) inside e r =
      absurd (true≢false (sym (declared-there f.name.name r.0) ∙ at-in (IsApart (signals_of m)) m.items (x.Functions f) apart inside))
  bound-named known item v inside e r = absurd r

  -- what is declared as a signal is one
  pub signal-named : IsNamed
  signal-named = by (environment sizes g m t) refl (items-known sizes g m m.items (start g) (S y) (all-in m y there) tt)
    where
      nothing : (v : Binding) → ◌≡◌ {A = Option Binding} None (Some v) → ⊥
      nothing v q = cc

      by : (o : Option Binding) → environment sizes g m t ≡ o → is_some o ≡ true → IsNamed
      by None e h = absurd (true≢false (sym h))
      by (Some v) e h =
          ⊎_elim (λ q. absurd (nothing v q))
          (λ r. bound-named (fold (with_item sizes g m) (start g) r.before) r.item v (subst (In r.item) (sym r.is) (In-middle r.item r.before r.after)) e r.binds)
          (items-bind sizes g m m.items (start g) t v e)
