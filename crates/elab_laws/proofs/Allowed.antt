-- System calls without faults: where they stand, and what they fill.
use Rattle.std.proofs.Common.{◌≡◌, ℕ, Bool, true, false, true≢false, if◌then◌else◌, ⊎_elim, inl, inr, List, [], ◌∷◌, Option, Some, None, refl, sym, ap, ◌∙◌, subst}
use Rattle.std.specs.Prelude.{⊤, ◌&&◌, ◌||◌, codes}
use Rattle.std.specs.Str.{bytes_eq}
use Rattle.std.proofs.lemmas.Bool.{and_parts, or_cases, or_left, or_right, not-false}
use Rattle.vl_sound.specs.vl_tree.specs.declared.tree.Expression.{Expression}
use Rattle.vl_sound.specs.vl_tree.specs.declared.tree.Primary as p
use Rattle.vl_sound.specs.vl_tree.specs.declared.tree.Primary.{Primary}
use Rattle.vl_sound.specs.vl_tree.specs.declared.tree.Name.{Name as NameTree, out-Name}
use Rattle.vl_sound.specs.vl_tree.specs.declared.tree.Select.{Select}
use Rattle.vl_sound.specs.vl_tree.specs.declared.tree.SystemCall.{SystemCall, out-SystemCall}
use Rattle.vl_sound.specs.vl_tree.specs.declared.tree.SystemArgument.{SystemArgument, out-SystemArgument}
use Rattle.vl_sound.specs.vl_scope.specs.declared.kind.Class.{Class}
use Rattle.vl_sound.specs.vl_scope.specs.declared.kind.Class.TheVariants as c
use Rattle.vl_sound.specs.vl_scope.specs.declared.kind.Kind.{Kind}
use Rattle.vl_sound.specs.vl_scope.specs.Declarations.{is_parameter}
use Rattle.vl_sound.specs.vl_scope.proofs.Listed.{bytes_eq-to}
use Rattle.vl_sound.specs.vl_uses.specs.declared.setting.Setting.{Setting}
use Rattle.vl_sound.specs.vl_uses.specs.declared.setting.Side.{Side}
use Rattle.vl_sound.specs.vl_uses.specs.declared.setting.Side.TheVariants.{Continuous, Procedural}
use Rattle.vl_sound.specs.vl_uses.specs.declared.setting.Usage.TheVariants.{Task, Whole, Operand}
use Rattle.vl_sound.specs.vl_uses.specs.Alone as s
use Rattle.vl_sound.specs.vl_uses.specs.Calls as l
use Rattle.vl_sound.specs.vl_uses.specs.Nodes as n
use Rattle.vl_sound.specs.vl_uses.specs.Nodes.{is_load}
use Rattle.vl_sound.specs.vl_uses.specs.UseFaults as u
use Rattle.vl_sound.specs.vl_uses.specs.UseFaults.{Meanings}
use Rattle.vl_sound.specs.vl_flat.specs.Surface as x
use Rattle.vl_sound.specs.vl_flat.specs.Binding as f
use Rattle.vl_sound.specs.Used.{Classes, IsLoad, ByTest, is_operand, is_on_files}
use Rattle.vl_sound.proofs.Opens.{selects_before, held, given, named-opens, argument-opens, system-opens}
use Rattle.vl_sound.proofs.Loading.{sole-is, system-loads}
use Rattle.vl_sound.proofs.Sides.{Loads, loads-none}
use Rattle.vl_sound.proofs.Fitting.{class_of, IsFine, Means}
use Rattle.elab_laws.proofs.Leaves.{System, is_time, is_fill, IsPlain, IsParameter, IsBareParameter, IsFixed, IsStored, IsDriven, IsFilled, IsNamedCall, IsOnFiles, IsCall}
use Rattle.elab_laws.proofs.Calls.{files-answer}
use Rattle.elab_laws.proofs.Tasks.{task-named}
use Rattle.elab_laws.proofs.Walk.{NameFits, CallFits, PartFits, Suits}

-- ---- operands

operand-named : (a b e : Bool) (y z : Bool) → (if a || b then y else if e then z else false) ≡ true → (a || (b || e)) ≡ true
operand-named true b e y z h = refl
operand-named false true e y z h = refl
operand-named false false true y z h = refl
operand-named false false false y z h = h

untimed : (name : List ℕ) (as' : Option (List SystemArgument)) → l.is_operand false name as' ≡ true → is_time name ≡ false
untimed name as' h = by (is_time name) refl
  where
    by : (b : Bool) → is_time name ≡ b → b ≡ false
    by false q = refl
    by true q = let z : ⊥ = cc (subst (λ t. l.is_operand false t as' ≡ true) (sym (bytes_eq-to name (codes "$time") q)) h) in absurd z

operand-plain : (timed : Bool) (name : List ℕ) (as' : Option (List SystemArgument)) → l.is_operand timed name as' ≡ true → IsPlain timed (System name)
operand-plain timed name as' h = (
  operand-named (bytes_eq name (codes "$signed")) (bytes_eq name (codes "$unsigned")) (bytes_eq name (codes "$time")) (l.is_one as') (timed && l.is_none as') h,
  λ e. untimed name as' (subst (λ t. l.is_operand t name as' ≡ true) e h),
)

files-named : (a b e g : Bool) (y z w : Bool) → (if a then y else if b then z else if e || g then w else false) ≡ true → (a || (b || (e || g))) ≡ true
files-named true b e g y z w h = refl
files-named false true e g y z w h = refl
files-named false false true g y z w h = refl
files-named false false false true y z w h = refl
files-named false false false false y z w h = h

-- a call that loads no memory
pub call-loads : (k : Classes) (timed : Bool) (name : List ℕ) (as' : x.Args) → IsCall k timed name as' → is_load name ≡ false
call-loads k timed name as' (inl h) = loads-none name (or_left (is_operand name) (is_on_files name) h.0)
call-loads k timed name as' (inr h) = loads-none name (or_right (is_operand name) (is_on_files name) h.named)

plain-loads : (timed : Bool) (name : List ℕ) → IsPlain timed (System name) → is_load name ≡ false
plain-loads timed name h = loads-none name (or_left (is_operand name) (is_on_files name) h.0)

-- ---- what is filled

variable-class : (class : Class) → l.is_variable_class class ≡ true → class ≡ c.Variable
variable-class c.Variable h = refl
variable-class class h = absurd (true≢false (sym h))

-- a call that is a whole right side, and one that is a statement
abbrev pub WholeFits : Classes → Bool → x.Ex → Type 0
WholeFits k timed (x.System at name as') = IsCall k timed name as'
WholeFits k timed e = ⊥

abbrev pub TaskFits : Classes → x.Ex → Type 0
TaskFits k (x.System at name as') = (is_load name ≡ true → IsLoad k as') × (is_fill name ≡ true → IsFilled k as') × IsNamedCall name as'
TaskFits k e = ⊥

by-test : (b : Bool) {A : Type 0} → ByTest b A ⊤ → b ≡ true → A
by-test true h e = h
by-test false h e = absurd (true≢false (sym e))

module _ (means : List ℕ → Option Kind) (k : Classes) (known : (t : List ℕ) (kind : Kind) → means t ≡ Some kind → Some kind.class ≡ k.read t) where
  named-variable : (t : List ℕ) (o : Option Kind) → means t ≡ o → l.is_variable o ≡ true → k.read t ≡ Some c.Variable
  named-variable t None e h = absurd (true≢false (sym h))
  named-variable t (Some kind) e h = sym (known t kind e) ∙ ap (λ z. Some z) (variable-class kind.class h)

  bare-filled : (q : Option Primary) (e : Expression) (others : x.Args) → s.sole e ≡ q → l.is_variable (l.bare_kind means (s.bare_of q)) ≡ true → IsFilled k (x.MoreArgs (f.ex e) others)
  bare-filled (Some (p.Name a)) e others is h = by (out-Name a).selects refl h
    where
      by : (ss : List Select) → (out-Name a).selects ≡ ss → l.is_variable (l.bare_kind means (s.bare_in (out-Name a).identifier ss)) ≡ true → IsFilled k (x.MoreArgs (f.ex e) others)
      by [] g h =
          let o = out-Name a in
          let opened : f.ex e ≡ x.Named o.place o.identifier.name x.NoSelects =
          sole-is e (p.Name a) is ∙ (named-opens a ∙ ap (λ z. x.Named o.place o.identifier.name (selects_before z x.NoSelects)) g) in
          subst (λ z. IsFilled k (x.MoreArgs z others)) (sym opened) (named-variable o.identifier.name (means o.identifier.name) refl h)
      by (z ∷ zs) g h = absurd (true≢false (sym h))
  bare-filled q e others is h = absurd (true≢false (sym h))

  held-filled : (o : Option Expression) (others : x.Args) → l.is_variable (l.bare_kind means (l.bare_in o)) ≡ true → IsFilled k (held o others)
  held-filled None others h = absurd (true≢false (sym h))
  held-filled (Some e) others h = bare-filled (s.sole e) e others refl h

  two-filled : (a b : SystemArgument) → (l.is_variable (l.argument_kind means a) && l.is_given b) ≡ true → IsFilled k (f.argument a (f.argument b x.NoArgs))
  two-filled a b h =
      let q = and_parts (l.is_variable (l.argument_kind means a)) (l.is_given b) h in
      subst (IsFilled k) (sym (argument-opens a (f.argument b x.NoArgs))) (held-filled (out-SystemArgument a).argument (f.argument b x.NoArgs) q.0)

  read-filled : (as' : Option (List SystemArgument)) → l.is_read means as' ≡ true → IsFilled k (given as')
  read-filled (Some (a ∷ b ∷ [])) h = two-filled a b h
  read-filled as' h = absurd (true≢false (sym h))

  -- a name that is `$fread`
  fill-is : (name : List ℕ) → is_fill name ≡ true → codes "$fread" ≡ name
  fill-is name h = bytes_eq-to name (codes "$fread") h

  files-call : (timed : Bool) (name : List ℕ) (as' : Option (List SystemArgument)) → (timed && l.is_file_function means name as') ≡ true → IsOnFiles k timed name (given as')
  files-call timed name as' h =
      let q = and_parts timed (l.is_file_function means name as') h in
      let fills = λ (e : is_fill name ≡ true). read-filled as' (subst (λ z. l.is_file_function means z as' ≡ true) (sym (fill-is name e)) q.1) in
      record {
        timely = q.0;
        named = files-named (bytes_eq name (codes "$fopen")) (bytes_eq name (codes "$fread")) (bytes_eq name (codes "$fgetc")) (bytes_eq name (codes "$feof")) (l.is_open as') (l.is_read means as') (l.is_one as') q.1;
        filled = fills;
        answers = files-answer means k name as' q.1 fills;
      }

  whole-call : (timed : Bool) (name : List ℕ) (as' : Option (List SystemArgument)) → l.is_allowed means timed Whole name as' ≡ true → IsCall k timed name (given as')
  whole-call timed name as' h =
      ⊎_elim (λ q. inl (operand-plain timed name as' q)) (λ q. inr (files-call timed name as' q)) (or_cases (l.is_operand timed name as') (timed && l.is_file_function means name as') h)

  whole-fits : (timed : Bool) (a : SystemCall) → l.is_allowed means timed Whole (out-SystemCall a).name (out-SystemCall a).arguments ≡ true → WholeFits k timed (f.system a)
  whole-fits timed a h = subst (WholeFits k timed) (sym (system-opens a)) (whole-call timed (out-SystemCall a).name (out-SystemCall a).arguments h)

  task-fits : (timed : Bool) (a : SystemCall) → l.is_allowed means timed Task (out-SystemCall a).name (out-SystemCall a).arguments ≡ true → TaskFits k (f.system a)
  task-fits timed a h =
      let o = out-SystemCall a in
      let loads = subst (Loads k Task) (system-opens a) (system-loads means k known timed Task a h) in
      subst (TaskFits k) (sym (system-opens a)) (
        by-test (is_load o.name) loads,
        λ e. read-filled o.arguments (subst (λ z. l.is_task means z o.arguments ≡ true) (sym (fill-is o.name e)) h),
        task-named means o.name o.arguments h,
      )

-- ---- what may be assigned

pub stored-class : (class : Class) (vector : Bool) (ss : List Select) → u.is_assignable Procedural class vector ss ≡ true → IsStored (Some class)
stored-class c.Variable vector ss h = tt
stored-class c.Memory vector ss h = tt
stored-class class vector ss h = absurd (true≢false (sym h))

pub driven-class : (class : Class) (vector : Bool) (ss : List Select) → u.is_assignable Continuous class vector ss ≡ true → IsDriven (Some class)
driven-class c.Port vector ss h = tt
driven-class c.Net vector ss h = tt
driven-class class vector ss h = absurd (true≢false (sym h))

-- ---- parts without faults

module _ (m : Meanings) (timed : Bool) where
  -- in a process that may ask for the time, or elsewhere
  pub plain-suits : Suits (IsPlain timed) (IsFine m) (λ st. st.timed ≡ timed)
  plain-suits = record { part = part; constant = λ st q. q; loads = plain-loads timed }
    where
      part : (st : Setting) (a : n.Part) → st.timed ≡ timed → IsFine m (n.node st a) → PartFits (IsPlain timed) a
      part st (n.value a) q fine = subst (NameFits (IsPlain timed)) (sym (named-opens a)) tt
      part st (n.system Operand a) q fine =
          let o = out-SystemCall a in
          subst (CallFits (IsPlain timed)) (sym (system-opens a)) (operand-plain timed o.name o.arguments (subst (λ t. l.is_operand t o.name o.arguments ≡ true) q (not-false _ fine.allowed)))
      part st a q fine = tt

module _ (m : Meanings) (k : Classes) (means : Means m k) where
  is-class : (t : List ℕ) (kind : Kind) → m.read t ≡ Some kind → Some kind.class ≡ k.read t
  is-class t kind e = sym (ap class_of e) ∙ means.read t

  -- ---- constants

  varies-not : (b v : Bool) → b ≡ true → (b && v) ≡ false → v ≡ false
  varies-not true v e h = h
  varies-not false v e h = absurd (true≢false (sym e))

  parameter-is : (class : Class) → is_parameter class ≡ true → IsParameter (Some class)
  parameter-is (c.Parameter i) h = tt
  parameter-is class h = absurd (true≢false (sym h))

  fixed-name : (count : ℕ) (o : Option Kind) (ss : List Select) (t : List ℕ) → m.read t ≡ o → u.is_unknown count o ≡ false → u.is_varying o ss ≡ false
      → IsBareParameter (k.read t) (selects_before ss x.NoSelects)
  fixed-name count o (a ∷ ss) t e h g = absurd (true≢false g)
  fixed-name count None [] t e h g = absurd (true≢false h)
  fixed-name count (Some kind) [] t e h g = subst IsParameter (is-class t kind e) (parameter-is kind.class (not-false (is_parameter kind.class) g))

  pub fixed-suits : Suits (IsFixed k) (IsFine m) (λ st. st.constant ≡ true)
  fixed-suits = record { part = part; constant = λ st q. refl; loads = λ name h. absurd h }
    where
      part : (st : Setting) (a : n.Part) → st.constant ≡ true → IsFine m (n.node st a) → PartFits (IsFixed k) a
      part st (n.value a) q fine =
          let o = out-Name a in
          subst (NameFits (IsFixed k)) (sym (named-opens a)) (fixed-name st.parameters (m.read o.identifier.name) o.selects o.identifier.name refl fine.known (varies-not st.constant _ q fine.fixed))
      part st (n.call name count) q fine = absurd (true≢false (varies-not st.constant true q fine.fixed))
      part st (n.system usage a) q fine = absurd (true≢false (varies-not st.constant true q fine.fixed))
      part st a q fine = tt

  -- ---- calls that are the whole

  pub fine-whole : (st : Setting) (a : SystemCall) → IsFine m (n.node st (n.system Whole a)) → WholeFits k st.timed (f.system a)
  fine-whole st a fine = whole-fits m.read k is-class st.timed a (not-false _ fine.allowed)

  pub fine-task : (st : Setting) (a : SystemCall) → IsFine m (n.node st (n.system Task a)) → TaskFits k (f.system a)
  fine-task st a fine = task-fits m.read k is-class st.timed a (not-false _ fine.allowed)

  -- ---- left sides

  -- the class of the name of a left side
  module _ (T : Option Class → Type 0) where
    abbrev pub Assigns : x.Ex → Type 0
    Assigns (x.Named at t ss) = T (k.read t)
    Assigns e = ⊤

    module _ (side : Side) (so : (class : Class) (vector : Bool) (ss : List Select) → u.is_assignable side class vector ss ≡ true → T (Some class)) where
      class-so : (count : ℕ) (o : Option Kind) (ss : List Select) (t : List ℕ) → m.read t ≡ o → u.is_unknown count o ≡ false
          → u.means_other (λ kind. u.is_assignable side kind.class kind.vector ss) o ≡ false → T (k.read t)
      class-so count None ss t e h g = absurd (true≢false h)
      class-so count (Some kind) ss t e h g = subst T (is-class t kind e) (so kind.class kind.vector ss (not-false _ g))

      pub target-so : (st : Setting) (a : NameTree) → IsFine m (n.node st (n.target side a)) → Assigns (f.named a)
      target-so st a fine =
          let o = out-Name a in
          subst Assigns (sym (named-opens a)) (class-so st.parameters (m.read o.identifier.name) o.selects o.identifier.name refl fine.known fine.used)
