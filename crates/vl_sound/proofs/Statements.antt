-- A statement whose names are used as what they are, and stand for it, is sound where it has no fault.
use Rattle.std.proofs.Common.{◌≡◌, ℕ, Bool, true, false, List, [], ◌∷◌, ◌++◌, Option, Some, None, refl, sym, subst}
use Rattle.std.specs.Prelude.{⊤, ◌||◌, fold, codes}
use Rattle.std.specs.Str.{bytes_eq}
use Rattle.vl_names.specs.vl_scope.proofs.Listed.{bytes_eq-to}
use Rattle.vl_flat.specs.vl_base.specs.declared.place.Place.{Place}
use Rattle.vl_flat.specs.vl_base.specs.declared.bits.UnOp.TheVariants.{LogNot}
use Rattle.vl_flat.specs.vl_tree.specs.declared.tree.UnaryOperator.{UnaryOperator}
use Rattle.vl_flat.specs.vl_tree.specs.declared.tree.UnaryOperator.TheVariants as uo
use Rattle.vl_flat.specs.vl_design.specs.declared.stop.Stop.{Stop}
use Rattle.vl_flat.specs.vl_design.specs.Syntax as d
use Rattle.vl_flat.specs.vl_design.specs.Calls.{task_of}
use Rattle.vl_flat.specs.vl_design.specs.Width as w
use Rattle.vl_flat.specs.vl_design.specs.Sound.{IsSoundExp, AreSound, IsSoundTarget, IsSoundTask, IsSoundStm, AreSoundItems}
use Rattle.vl_flat.specs.vl_design.specs.Placed as p
use Rattle.vl_flat.specs.vl_design.specs.Plainly as plain
use Rattle.vl_flat.specs.declared.binding.Binding.{Binding}
use Rattle.vl_flat.specs.declared.binding.Binding.TheVariants as b
use Rattle.vl_flat.specs.Surface as x
use Rattle.vl_flat.specs.Scopes.{Scope}
use Rattle.vl_flat.specs.Expressions as e
use Rattle.vl_flat.specs.ExpressionFaults as ef
use Rattle.vl_flat.specs.Targets as t
use Rattle.vl_flat.specs.Statements as s
use Rattle.vl_sound.specs.Used as u
use Rattle.vl_sound.specs.Agreeing.{Agrees, StandsFor}
use Rattle.vl_sound.proofs.Sides.{loads-none}
use Rattle.vl_sound.specs.Widths.{HaveWidths}
use Rattle.vl_sound.proofs.Parts.{none-left, none-right, number-is}
use Rattle.vl_sound.proofs.Expressions.{operand-by, made, sound}
use Rattle.vl_sound.proofs.Targets.{left-sound, first-named}
use Rattle.vl_sound.proofs.Tasks.{is_display, args-good, task-sound, used-task-sound}

-- a function displays nothing
displays-none : (name : List ℕ) → (u.is_operand name || u.is_on_files name) ≡ true → is_display name ≡ true → ⊥
displays-none name h = by (bytes_eq name (codes "$display")) (bytes_eq name (codes "$write")) refl refl
  where
    no : (other : List ℕ) → bytes_eq name other ≡ true → (u.is_operand other || u.is_on_files other) ≡ true
    no other q = subst (λ n. (u.is_operand n || u.is_on_files n) ≡ true) (sym (bytes_eq-to name other q)) h

    by : (a b : Bool) → bytes_eq name (codes "$display") ≡ a → bytes_eq name (codes "$write") ≡ b → (a || b) ≡ true → ⊥
    by true b q r t = cc (no (codes "$display") q)
    by false true q r t = cc (no (codes "$write") r)
    by false false q r t = cc

module _ (k : u.Classes) (scope : Scope) (agrees : Agrees k scope) (design : w.Names) (stands : StandsFor k scope design) (widths : HaveWidths scope.names) where
  abbrev Sound : p.Exp → Type 0
  Sound a = IsSoundExp design (plain.exp a)

  abbrev Statement : d.Stm → Type 0
  Statement a = IsSoundStm design a

  -- ---- calls that come first

  -- the call that an expression is, and the one behind a `!`, are sound
  abbrev Called : p.Exp → Type 0
  Called (p.Sys at name given) = (path : List ℕ) → IsSoundTask design (task_of path name (plain.args given))
  Called a = ⊤

  abbrev Behind : p.Exp → Type 0
  Behind (p.Un at LogNot a) = Called a
  Behind a = ⊤

  called-sound : (path : List ℕ) (a : p.Exp) (b : d.Stm) → Called a → Behind a → Statement b → Statement (plain.called_first path a b)
  called-sound path (p.Sys at name given) b c i g = (c path, g)
  called-sound path (p.Un at LogNot (p.Sys q name given)) b c i g = (i path, g)
  called-sound path a b c i g = g

  abbrev Calls : p.Exp → Type 0
  Calls a = Called a × Behind a

  stepped-calls : (at : Place) (steps : List e.Step) (base : p.Exp) → Calls base → Calls (fold (e.stepped at) base steps)
  stepped-calls at [] base h = h
  stepped-calls at (e.Chosen j a ∷ steps) base h = stepped-calls at steps (p.Word at j a) (tt, tt)
  stepped-calls at (e.Picked i from n ∷ steps) base h = stepped-calls at steps (p.Pick at base i from n) (tt, tt)
  stepped-calls at (e.Sliced r l o n ∷ steps) base h = stepped-calls at steps (p.Slice at base (e.part_low r o) n) (tt, tt)

  whole-calls : (at : Place) (b : Option Binding) → Calls (e.whole at b)
  whole-calls at None = (tt, tt)
  whole-calls at (Some (b.Constant a)) = (tt, tt)
  whole-calls at (Some (b.Signal j s)) = (tt, tt)
  whole-calls at (Some (b.Function j f)) = (tt, tt)

  marked-calls : (at : Place) (op : UnaryOperator) (a : p.Exp) → Calls a → Calls (e.marked at (e.unary_of op) a)
  marked-calls at uo.Plus a h = h
  marked-calls at uo.LogicalNot a h = (tt, h.0)
  marked-calls at op a h = (tt, tt)

  operand-calls : (at : Place) (first : p.Exp) (given : x.Args) (name : List ℕ) → u.is_operand name ≡ true → Calls (e.called_system at name first (e.args scope (e.keeps_texts name) given))
  operand-calls at first given = operand-by (λ name. Calls (e.called_system at name first (e.args scope (e.keeps_texts name) given))) (tt, tt) (tt, tt) (tt, tt)

  -- no call comes before an operand
  no-calls : (a : x.Ex) → u.IsUsed k a → Calls (e.exp scope a)
  no-calls (x.Number at n) v = (tt, tt)
  no-calls (x.Text at text) v = (tt, tt)
  no-calls (x.Named at n ss) v = stepped-calls at (e.steps_of scope (scope.names n) ss) (e.whole at (scope.names n)) (whole-calls at (scope.names n))
  no-calls (x.Paren at a) v = no-calls a v
  no-calls (x.Unary at op a) v = marked-calls at op (e.exp scope a) (no-calls a v)
  no-calls (x.Binary at op a b) v = (tt, tt)
  no-calls (x.Choice at t a b) v = (tt, tt)
  no-calls (x.Joined at es) v = (tt, tt)
  no-calls (x.Repeated at n es) v = (tt, tt)
  no-calls (x.Called at n es) v = (tt, tt)
  no-calls (x.System at name given) v = operand-calls at (e.first_of scope at given) given name v.0

  made-calls : (at : Place) (name : List ℕ) (first : p.Exp) (args : p.Args) → ((path : List ℕ) → IsSoundTask design (task_of path name (plain.args args)))
      → (a b c : Bool) → Calls (made k scope agrees design stands at name first args a b c)
  made-calls at name first args g true b c = (tt, tt)
  made-calls at name first args g false true c = (tt, tt)
  made-calls at name first args g false false true = (tt, tt)
  made-calls at name first args g false false false = (g, tt)

  side-calls : (a : x.Ex) → u.IsUsedSide k a → ef.faults scope a ≡ [] → Calls (e.exp scope a)
  side-calls (x.System at name given) v h =
      let args = e.args scope (e.keeps_texts name) given in
      made-calls at name (e.first_of scope at given) args
      (λ path. task-sound k scope agrees design stands widths path name (plain.args args) (loads-none name v.0) (λ q. absurd (displays-none name v.0 q))
      (args-good k scope agrees design stands widths (e.keeps_texts name) given v.1 (none-right (ef.past scope (x.System at name given)) _ h)))
      (bytes_eq name (codes "$signed")) (bytes_eq name (codes "$unsigned")) (bytes_eq name (codes "$time"))
  side-calls (x.Paren at a) v h = side-calls a v h
  side-calls a v h = no-calls a v

  test-calls : (a : x.Ex) → u.IsUsedTest k a → ef.faults scope a ≡ [] → Calls (e.exp scope a)
  test-calls (x.Unary at uo.LogicalNot a) v h = (tt, (side-calls a v (none-right (ef.past scope (x.Unary at uo.LogicalNot a)) (ef.faults scope a) h)).0)
  test-calls (x.Paren at a) v h = test-calls a v h
  test-calls a v h = side-calls a v h

  -- ---- right sides and conditions

  answer-sound : (at : Place) (name : List ℕ) (first : p.Exp) (args : p.Args) (a b c : Bool) → (a || (b || c)) ≡ false → Sound (made k scope agrees design stands at name first args a b c)
  answer-sound at name first args true b c h = let z : ⊥ = cc in absurd z
  answer-sound at name first args false true c h = let z : ⊥ = cc in absurd z
  answer-sound at name first args false false true h = let z : ⊥ = cc in absurd z
  answer-sound at name first args false false false h = tt

  system-side : (at : Place) (name : List ℕ) (given : x.Args) → u.AreUsedArgs k given → ef.faults scope (x.System at name given) ≡ []
      → (c : Bool) → u.is_operand name ≡ c → Sound (e.exp scope (x.System at name given))
  system-side at name given v h true q = sound k scope agrees design stands widths (x.System at name given) (q, v) h
  system-side at name given v h false q =
      answer-sound at name (e.first_of scope at given) (e.args scope (e.keeps_texts name) given) (bytes_eq name (codes "$signed")) (bytes_eq name (codes "$unsigned")) (bytes_eq name (codes "$time")) q

  side-sound : (a : x.Ex) → u.IsUsedSide k a → ef.faults scope a ≡ [] → Sound (e.exp scope a)
  side-sound (x.System at name given) v h = system-side at name given v.1 h (u.is_operand name) refl
  side-sound (x.Paren at a) v h = side-sound a v h
  side-sound a v h = sound k scope agrees design stands widths a v h

  test-sound : (a : x.Ex) → u.IsUsedTest k a → ef.faults scope a ≡ [] → Sound (e.exp scope a)
  test-sound (x.Unary at uo.LogicalNot a) v h = side-sound a v (none-right (ef.past scope (x.Unary at uo.LogicalNot a)) (ef.faults scope a) h)
  test-sound (x.Paren at a) v h = test-sound a v h
  test-sound a v h = side-sound a v h

  -- ---- assignments

  abbrev set-faults : x.Left → x.Ex → List Stop
  set-faults l a = s.set_faults scope l a

  -- of a target that is sound
  pub assign-sound : (path : List ℕ) (at : Place) (to : p.Target) (a : x.Ex) → IsSoundTarget design (plain.target to)
      → u.IsUsedSide k a → ef.faults scope a ≡ [] → Statement (plain.stm path (p.Set at to (e.exp scope a)))
  assign-sound path at to a left w h =
      let calls = side-calls a w h in
      called-sound path (e.exp scope a) (d.Set (plain.target to) (plain.exp (e.exp scope a))) calls.0 calls.1 (left, side-sound a w h)

  pub set-sound : (path : List ℕ) (at : Place) (l : x.Left) (a : x.Ex) → u.IsUsedLeft k l → u.IsUsedSide k a → set-faults l a ≡ [] → Statement (plain.stm path (p.Set at (t.target scope l) (e.exp scope a)))
  set-sound path at l a v w h =
      assign-sound path at (t.target scope l) a (left-sound k scope agrees design stands widths l v (none-left (t.target_faults scope l) (ef.faults scope a) h)) w (none-right (t.target_faults scope l) (ef.faults scope a) h)

  later-sound : (path : List ℕ) (at : Place) (l : x.Left) (a : x.Ex) → u.IsUsedLeft k l → u.IsUsedSide k a → set-faults l a ≡ [] → Statement (plain.stm path (p.Later at (t.target scope l) (e.exp scope a)))
  later-sound path at l a v w h =
      let left = none-left (t.target_faults scope l) (ef.faults scope a) h in
      let right = none-right (t.target_faults scope l) (ef.faults scope a) h in
      let calls = side-calls a w right in
      called-sound path (e.exp scope a) (d.Later (plain.target (t.target scope l)) (plain.exp (e.exp scope a))) calls.0 calls.1
      (left-sound k scope agrees design stands widths l v left, side-sound a w right)

  -- ---- labels

  label-sound : (wild : Bool) (a : x.Ex) → u.IsUsed k a → ef.faults scope a ≡ [] → Sound (e.label scope wild a)
  label-sound true (x.Number at n) v h = number-is n v
  label-sound true (x.Paren at a) v h = label-sound true a v h
  label-sound true a v h = sound k scope agrees design stands widths a v h
  label-sound false a v h = sound k scope agrees design stands widths a v h

  labels-sound : (wild : Bool) (es : x.Exs) → u.AreUsed k es → ef.all_faults scope es ≡ [] → AreSound design (plain.exps (e.labels scope wild es))
  labels-sound wild x.NoExs v h = tt
  labels-sound wild (x.MoreExs a es) v h =
      (label-sound wild a v.0 (none-left (ef.faults scope a) (ef.all_faults scope es) h), labels-sound wild es v.1 (none-right (ef.faults scope a) (ef.all_faults scope es) h))

  item-sound : (wild : Bool) (es : x.Exs) (a : d.Stm) (others : d.Items) → u.AreUsed k es → ef.all_faults scope es ≡ [] → Statement a → AreSoundItems design others
      → AreSoundItems design (plain.item (e.labels scope wild es) a others)
  item-sound wild x.NoExs a others v h g i = (g, i)
  item-sound wild (x.MoreExs b es) a others v h g i = (labels-sound wild (x.MoreExs b es) v h, g, i)

  -- ---- statements

  if-sound : (path : List ℕ) (a : x.Ex) (b c : d.Stm) → u.IsUsedTest k a → ef.faults scope a ≡ [] → Statement b → Statement c
      → Statement (plain.called_first path (e.exp scope a) (d.If (plain.exp (e.exp scope a)) b c))
  if-sound path a b c v h g i =
      let calls = test-calls a v h in
      called-sound path (e.exp scope a) (d.If (plain.exp (e.exp scope a)) b c) calls.0 calls.1 (test-sound a v h, g, i)

  mutual
    pub statement-sound : (path : List ℕ) (a : x.Statement) → u.IsUsedStatement k a → s.statement_faults scope a ≡ [] → Statement (plain.stm path (s.statement scope a))
    statement-sound path (x.Null at) v h = tt
    statement-sound path (x.Block at as') v h = statements-sound path as' v h
    statement-sound path (x.If at t a b) v h =
        let both = none-right (ef.faults scope t) (s.statement_faults scope a ++ s.statement_faults scope b) h in
        if-sound path t (plain.stm path (s.statement scope a)) (plain.stm path (s.statement scope b)) v.0 (none-left (ef.faults scope t) _ h)
        (statement-sound path a v.1 (none-left (s.statement_faults scope a) (s.statement_faults scope b) both))
        (statement-sound path b v.2 (none-right (s.statement_faults scope a) (s.statement_faults scope b) both))
    statement-sound path (x.Case at wild a items) v h =
        (sound k scope agrees design stands widths a v.0 (none-left (ef.faults scope a) (s.items_faults scope items) h), items-sound path wild items v.1 (none-right (ef.faults scope a) (s.items_faults scope items) h))
    statement-sound path (x.For at l a test l' a' body) v h =
        let first = none-left (set-faults l a) (ef.faults scope test ++ (set-faults l' a' ++ s.statement_faults scope body)) h in
        let rest = none-right (set-faults l a) (ef.faults scope test ++ (set-faults l' a' ++ s.statement_faults scope body)) h in
        let others = none-right (ef.faults scope test) (set-faults l' a' ++ s.statement_faults scope body) rest in (
          first-named k scope agrees design stands widths l v.0 (none-left (t.target_faults scope l) (ef.faults scope a) first),
          set-sound path (x.left_place l) l a v.0 v.1 first,
          sound k scope agrees design stands widths test v.2 (none-left (ef.faults scope test) _ rest),
          set-sound path (x.left_place l') l' a' v.3 v.4 (none-left (set-faults l' a') (s.statement_faults scope body) others),
          statement-sound path body v.5 (none-right (set-faults l' a') (s.statement_faults scope body) others),
        )
    statement-sound path (x.Repeat at n a) v h = statement-sound path a v.1 (none-right (ef.faults scope n) (s.statement_faults scope a) h)
    statement-sound path (x.Assign at true l a) v h = set-sound path at l a v.0 v.1 h
    statement-sound path (x.Assign at false l a) v h = later-sound path at l a v.0 v.1 h
    statement-sound path (x.Task at name given) v h = used-task-sound k scope agrees design stands widths path name given v h

    statements-sound : (path : List ℕ) (as' : x.Statements) → u.AreUsedStatements k as' → s.statements_faults scope as' ≡ [] → Statement (plain.stms path (s.statements scope as'))
    statements-sound path x.NoStatements v h = tt
    statements-sound path (x.MoreStatements a as') v h =
        (statement-sound path a v.0 (none-left (s.statement_faults scope a) (s.statements_faults scope as') h), statements-sound path as' v.1 (none-right (s.statement_faults scope a) (s.statements_faults scope as') h))

    items-sound : (path : List ℕ) (wild : Bool) (items : x.CaseItems) → u.AreUsedItems k items → s.items_faults scope items ≡ [] → AreSoundItems design (plain.items path (s.case_items scope wild items))
    items-sound path wild x.NoItems v h = tt
    items-sound path wild (x.Labelled es a others) v h =
        let rest = none-right (ef.all_faults scope es) (s.statement_faults scope a ++ s.items_faults scope others) h in
        item-sound wild es (plain.stm path (s.statement scope a)) (plain.items path (s.case_items scope wild others)) v.0 (none-left (ef.all_faults scope es) _ h)
        (statement-sound path a v.1 (none-left (s.statement_faults scope a) (s.items_faults scope others) rest))
        (items-sound path wild others v.2 (none-right (s.statement_faults scope a) (s.items_faults scope others) rest))
    items-sound path wild (x.Default a others) v h =
        (statement-sound path a v.0 (none-left (s.statement_faults scope a) (s.items_faults scope others) h), items-sound path wild others v.1 (none-right (s.statement_faults scope a) (s.items_faults scope others) h))
