-- A left side whose names are used as what they are, and stand for it, is sound where it has no fault.
use Rattle.std.proofs.Common.{◌≡◌, ℕ, ◌+◌, if◌then◌else◌, List, [], ◌++◌, Option, Some, None, refl, sym, ap, ◌∙◌, subst, arith}
use Rattle.std.specs.Prelude.{ℤ, ⊤, fold, not}
use Rattle.vl_flat.specs.vl_base.specs.declared.place.Place.{Place}
use Rattle.vl_flat.specs.vl_tree.specs.declared.tree.SelectMark.TheVariants as m
use Rattle.vl_names.specs.vl_scope.specs.declared.kind.Class.{Class}
use Rattle.vl_names.specs.vl_scope.specs.declared.kind.Class.TheVariants as c
use Rattle.vl_flat.specs.vl_design.specs.declared.design.Form.{Form}
use Rattle.vl_flat.specs.vl_design.specs.declared.stop.Stop.{Stop}
use Rattle.vl_flat.specs.vl_design.specs.Stops.{construct_if}
use Rattle.vl_flat.specs.vl_design.specs.Rows.{has_width}
use Rattle.vl_flat.specs.vl_design.specs.Width as w
use Rattle.vl_flat.specs.vl_design.specs.Targets.{target_width, targets_width}
use Rattle.vl_flat.specs.vl_design.specs.Sound.{IsWidth, HasValue, IsMem, IsSignal, IsNamed, IsMemory, IsSoundExp, IsSoundBase, IsSoundTarget, AreSoundTargets}
use Rattle.vl_flat.specs.vl_design.specs.Placed as p
use Rattle.vl_flat.specs.vl_design.specs.Plainly as plain
use Rattle.vl_flat.specs.declared.binding.Binding.{Binding}
use Rattle.vl_flat.specs.declared.binding.Binding.TheVariants as b
use Rattle.vl_flat.specs.declared.binding.Shape.{Shape}
use Rattle.vl_flat.specs.Surface as x
use Rattle.vl_flat.specs.Scopes.{Scope, form_of, range_of, number_of}
use Rattle.vl_flat.specs.Expressions as e
use Rattle.vl_flat.specs.ExpressionFaults as ef
use Rattle.vl_flat.specs.Targets as t
use Rattle.vl_flat.specs.Statements.{first_name, first_among}
use Rattle.vl_sound.specs.Used as u
use Rattle.vl_sound.specs.Agreeing.{StandsAs, Agrees, StandsFor}
use Rattle.vl_sound.specs.Widths.{HaveWidths}
use Rattle.vl_sound.proofs.Parts.{none-left, none-right, clear, not-false, width-is, one-bit}
use Rattle.vl_sound.proofs.Expressions.{AtIndices, not-mem, is-mem, stands-in, signal-is, indices-sound}

module _ (k : u.Classes) (scope : Scope) (agrees : Agrees k scope) (design : w.Names) (stands : StandsFor k scope design) (widths : HaveWidths scope.names) where
  abbrev Sound : p.Target → Type 0
  Sound a = IsSoundTarget design (plain.target a)

  abbrev Base : p.Target → Type 0
  Base a = IsSoundBase design (plain.target a)

  abbrev width : p.Target → ℕ
  width a = target_width design (plain.target a)

  abbrev SoundIndices : x.Selects → Type 0
  SoundIndices ss = AtIndices (λ i. IsSoundExp design (plain.exp (e.exp scope i))) ss

  -- ---- selects of bits

  abbrev bits : Place → ℤ × ℤ → x.Selects → p.Target → p.Target
  bits at r ss base = fold (t.stepped at) base (e.steps scope None r ss)

  bits-sound : (at : Place) (r : ℤ × ℤ) (base : p.Target) (f : Form) (ss : x.Selects) → u.AreOfBits ss → Base base → Sound base → SoundIndices ss
      → IsWidth (fold e.step_form f (e.steps scope None r ss)).width → Sound (bits at r ss base)
  bits-sound at r base f x.NoSelects v h s i w = s
  bits-sound at r base f (x.Index q a x.NoSelects) v h s i w = (one-bit, h, i.0)
  bits-sound at r base f (x.Range q m.Range l o x.NoSelects) v h s i w = (w, h)
  bits-sound at r base f (x.Range q m.Up l o x.NoSelects) v h s i w = (w, h, i.0)
  bits-sound at r base f (x.Range q m.Down l o x.NoSelects) v h s i w = (w, h, i.0)
  bits-sound at r base f ss v h s i w = absurd v

  bits-width : (at : Place) (r : ℤ × ℤ) (base : p.Target) (f : Form) (ss : x.Selects) → u.AreOfBits ss → width base ≡ f.width
      → width (bits at r ss base) ≡ (fold e.step_form f (e.steps scope None r ss)).width
  bits-width at r base f x.NoSelects v h = h
  bits-width at r base f (x.Index q a x.NoSelects) v h = refl
  bits-width at r base f (x.Range q m.Range l o x.NoSelects) v h = refl
  bits-width at r base f (x.Range q m.Up l o x.NoSelects) v h = refl
  bits-width at r base f (x.Range q m.Down l o x.NoSelects) v h = refl
  bits-width at r base f ss v h = absurd v

  -- ---- names

  -- what a name that is written stands for: a value, or a memory
  data Writes (b : Option Binding) (ss : x.Selects) : Type 0 where
    a_value : u.AreOfBits ss → e.memory_of b ≡ None → IsSignal design (number_of b) → (w.signal_form design.rows (number_of b)).width ≡ (form_of b).width → Writes b ss
    a_memory : (j : ℕ) → u.AreOfAWord ss → e.memory_of b ≡ Some j → IsMemory design j → (w.signal_form design.rows j).width ≡ (form_of b).width → Writes b ss

  row-width : (n : List ℕ) (j : ℕ) (s : Shape) → scope.names n ≡ Some (b.Signal j s) → (w.signal_form design.rows j).width ≡ (form_of (Some (b.Signal j s))).width
  row-width n j s h = ap (λ (z : Form). z.width) ((stands-in k scope agrees design stands).signals n j s h)

  signal-writes : (n : List ℕ) (j : ℕ) (s : Shape) (ss : x.Selects) → scope.names n ≡ Some (b.Signal j s) → HasValue s.kind → u.AreOfBits ss → Writes (Some (b.Signal j s)) ss
  signal-writes n j s ss h v r = a_value r (ap (λ z. if z then Some j else None) (not-mem s.kind v)) (signal-is k scope agrees design stands HasValue n j s h v) (row-width n j s h)

  writes : (n : List ℕ) (class : Class) (b : Option Binding) (ss : x.Selects) → scope.names n ≡ b → StandsAs class b → u.IsWritten (Some class) ss → Writes b ss
  writes n c.Port (Some (b.Signal j s)) ss e h v = signal-writes n j s ss e h v
  writes n c.Net (Some (b.Signal j s)) ss e h v = signal-writes n j s ss e h v
  writes n c.Variable (Some (b.Signal j s)) ss e h v = signal-writes n j s ss e h v
  writes n c.Memory (Some (b.Signal j s)) ss e h v =
      a_memory j v (ap (λ z. if z then Some j else None) (is-mem s.kind h)) (signal-is k scope agrees design stands IsMem n j s e h) (row-width n j s e)
  writes n (c.Parameter i) b ss e h v = absurd v
  writes n (c.Function i) b ss e h v = absurd v
  writes n c.Instance b ss e h v = absurd v
  writes n class b ss e h v = absurd h

  written-as : (n : List ℕ) (ss : x.Selects) → u.IsWritten (k.read n) ss → Writes (scope.names n) ss
  written-as n ss v = by (k.read n) refl v
    where
      by : (o : Option Class) → k.read n ≡ o → u.IsWritten o ss → Writes (scope.names n) ss
      by None e v = absurd v
      by (Some class) e v = writes n class (scope.names n) ss refl (agrees.read n class e) v

  -- a written name is one of a signal or a memory
  pub named-is : (n : List ℕ) (ss : x.Selects) → u.IsWritten (k.read n) ss → IsNamed design (number_of (scope.names n))
  named-is n ss v = by (k.read n) refl v
    where
      of : (b : Option Binding) → scope.names n ≡ b → (class : Class) → StandsAs class b → u.IsWritten (Some class) ss → IsNamed design (number_of b)
      of (Some (b.Signal j s)) e class h v = signal-is k scope agrees design stands (λ kind. ⊤) n j s e tt
      of b e (c.Function i) h v = absurd v
      of b e (c.Parameter i) h v = absurd v
      of b e c.Instance h v = absurd v
      of b e class h v = absurd h

      by : (o : Option Class) → k.read n ≡ o → u.IsWritten o ss → IsNamed design (number_of (scope.names n))
      by None e v = absurd v
      by (Some class) e v = of (scope.names n) refl class (agrees.read n class e) v

  watched : (o : Option Class) → u.IsWatched o → u.IsWritten o x.NoSelects
  watched (Some c.Port) v = tt
  watched (Some c.Net) v = tt
  watched (Some c.Variable) v = tt
  watched o v = absurd v

  -- a watched name is one of a signal
  pub event-named : (n : List ℕ) → u.IsWatched (k.read n) → IsNamed design (number_of (scope.names n))
  event-named n v = named-is n x.NoSelects (watched (k.read n) v)

  -- with a value
  pub signal-named : (n : List ℕ) → u.IsWatched (k.read n) → IsSignal design (number_of (scope.names n))
  signal-named n v = by (k.read n) refl v
    where
      of : (b : Option Binding) → scope.names n ≡ b → (class : Class) → StandsAs class b → u.IsWatched (Some class) → IsSignal design (number_of b)
      of (Some (b.Signal j s)) e c.Port h v = signal-is k scope agrees design stands HasValue n j s e h
      of (Some (b.Signal j s)) e c.Net h v = signal-is k scope agrees design stands HasValue n j s e h
      of (Some (b.Signal j s)) e c.Variable h v = signal-is k scope agrees design stands HasValue n j s e h
      of b e c.Port h v = absurd h
      of b e c.Net h v = absurd h
      of b e c.Variable h v = absurd h
      of b e class h v = absurd v

      by : (o : Option Class) → k.read n ≡ o → u.IsWatched o → IsSignal design (number_of (scope.names n))
      by None e v = absurd v
      by (Some class) e v = of (scope.names n) refl class (agrees.read n class e) v

  abbrev named : Place → Option Binding → x.Selects → Option ℕ → p.Target
  named at b ss memory = fold (t.stepped at) (p.Whole at (number_of b)) (e.steps scope memory (range_of b) ss)

  word-sound : (at : Place) (r : ℤ × ℤ) (j : ℕ) (base : p.Target) (f : Form) (ss : x.Selects) → u.AreOfAWord ss → IsMemory design j → SoundIndices ss
      → IsWidth (fold e.step_form f (e.steps scope (Some j) r ss)).width → Sound (fold (t.stepped at) base (e.steps scope (Some j) r ss))
  word-sound at r j base f (x.Index q i others) v h s w = bits-sound at r (p.WordAt at j (e.exp scope i)) f others v (h, s.0) (h, s.0) s.1 w
  word-sound at r j base f x.NoSelects v h s w = absurd v
  word-sound at r j base f (x.Range q mark l o others) v h s w = absurd v

  word-width : (at : Place) (r : ℤ × ℤ) (j : ℕ) (base : p.Target) (f : Form) (ss : x.Selects) → u.AreOfAWord ss → (w.signal_form design.rows j).width ≡ f.width
      → width (fold (t.stepped at) base (e.steps scope (Some j) r ss)) ≡ (fold e.step_form f (e.steps scope (Some j) r ss)).width
  word-width at r j base f (x.Index q i others) v h = bits-width at r (p.WordAt at j (e.exp scope i)) f others v h
  word-width at r j base f x.NoSelects v h = absurd v
  word-width at r j base f (x.Range q mark l o others) v h = absurd v

  named-sound : (at : Place) (b : Option Binding) (ss : x.Selects) → Writes b ss → SoundIndices ss → IsWidth (e.named_form scope b ss).width → Sound (named at b ss (e.memory_of b))
  named-sound at b ss (a_value r is there width) i w =
      subst (λ z. Sound (named at b ss z)) (sym is)
      (bits-sound at (range_of b) (p.Whole at (number_of b)) (form_of b) ss r there there i (subst (λ z. IsWidth (fold e.step_form (form_of b) (e.steps scope z (range_of b) ss)).width) is w))
  named-sound at b ss (a_memory j r is there width) i w =
      subst (λ z. Sound (named at b ss z)) (sym is)
      (word-sound at (range_of b) j (p.Whole at (number_of b)) (form_of b) ss r there i (subst (λ z. IsWidth (fold e.step_form (form_of b) (e.steps scope z (range_of b) ss)).width) is w))

  named-width : (at : Place) (b : Option Binding) (ss : x.Selects) → Writes b ss → width (named at b ss (e.memory_of b)) ≡ (e.named_form scope b ss).width
  named-width at b ss (a_value r is there w) =
      subst (λ z. width (named at b ss z) ≡ (fold e.step_form (form_of b) (e.steps scope z (range_of b) ss)).width) (sym is)
      (bits-width at (range_of b) (p.Whole at (number_of b)) (form_of b) ss r w)
  named-width at b ss (a_memory j r is there w) =
      subst (λ z. width (named at b ss z) ≡ (fold e.step_form (form_of b) (e.steps scope z (range_of b) ss)).width) (sym is)
      (word-width at (range_of b) j (p.Whole at (number_of b)) (form_of b) ss r w)

  -- ---- left sides

  mutual
    width-same : (l : x.Left) → u.IsUsedLeft k l → width (t.target scope l) ≡ t.left_width scope l
    width-same (x.LeftName at n ss) v = named-width at (scope.names n) ss (written-as n ss v.0)
    width-same (x.LeftList at ls) v = widths-same ls v

    widths-same : (ls : x.Lefts) → u.AreUsedLefts k ls → targets_width design (plain.targets (t.targets scope ls)) ≡ t.lefts_width scope ls
    widths-same x.NoLefts v = refl
    widths-same (x.MoreLefts l ls) v =
        ap (λ z. z + targets_width design (plain.targets (t.targets scope ls))) (width-same l v.0) ∙ ap (λ z. t.left_width scope l + z) (widths-same ls v.1)

  wide-left : (at : Place) (w : ℕ) (others : List Stop) → construct_if (not (has_width w)) at 10 ++ others ≡ [] → IsWidth w
  wide-left at w others h = width-is w (not-false (has_width w) (clear (not (has_width w)) at 10 (none-left (construct_if (not (has_width w)) at 10) others h)))

  mutual
    pub left-sound : (l : x.Left) → u.IsUsedLeft k l → t.target_faults scope l ≡ [] → Sound (t.target scope l)
    left-sound (x.LeftName at n ss) v h =
        let w = (e.named_form scope (scope.names n) ss).width in
        let inside = none-right (ef.directions scope at (scope.names n) ss) (ef.selects_faults scope ss) (none-right (construct_if (not (has_width w)) at 10) (ef.name_faults scope at (scope.names n) ss) h) in
        named-sound at (scope.names n) ss (written-as n ss v.0) (indices-sound k scope agrees design stands widths ss v.1 inside) (wide-left at w (ef.name_faults scope at (scope.names n) ss) h)
    left-sound (x.LeftList at ls) v h = (
      subst IsWidth (sym (widths-same ls v)) (wide-left at (t.lefts_width scope ls) (t.targets_faults scope ls) h),
      lefts-sound ls v (none-right (construct_if (not (has_width (t.lefts_width scope ls))) at 10) (t.targets_faults scope ls) h),
    )

    lefts-sound : (ls : x.Lefts) → u.AreUsedLefts k ls → t.targets_faults scope ls ≡ [] → AreSoundTargets design (plain.targets (t.targets scope ls))
    lefts-sound x.NoLefts v h = tt
    lefts-sound (x.MoreLefts l ls) v h =
        (left-sound l v.0 (none-left (t.target_faults scope l) (t.targets_faults scope ls) h), lefts-sound ls v.1 (none-right (t.target_faults scope l) (t.targets_faults scope ls) h))

  -- ---- the first name of a left side, which has one since it has a bit

  mutual
    pub first-named : (l : x.Left) → u.IsUsedLeft k l → t.target_faults scope l ≡ [] → IsNamed design (number_of (scope.names (first_name l)))
    first-named (x.LeftName at n ss) v h = named-is n ss v.0
    first-named (x.LeftList at ls) v h =
        first-among ls v (none-right (construct_if (not (has_width (t.lefts_width scope ls))) at 10) (t.targets_faults scope ls) h) (wide-left at (t.lefts_width scope ls) (t.targets_faults scope ls) h)

    first-among : (ls : x.Lefts) → u.AreUsedLefts k ls → t.targets_faults scope ls ≡ [] → IsWidth (t.lefts_width scope ls) → IsNamed design (number_of (scope.names (first_among ls)))
    first-among x.NoLefts v h w = absurd (omega (arith, w.wide))
    first-among (x.MoreLefts l ls) v h w = first-named l v.0 (none-left (t.target_faults scope l) (t.targets_faults scope ls) h)
