-- What reads neither the time nor an answer depends on the values alone.
use Rattle.std.proofs.Common.{◌≡◌, ℕ, Bool, true, false, List, [], ◌∷◌, refl, ap, ◌∙◌, subst}
use Rattle.std.specs.Prelude.{◌||◌, ◌&&◌, not, if◌then◌else◌, ◌==◌}
use Rattle.vl_paths.specs.vl_design.specs.declared.design.Form.{Form}
use Rattle.vl_paths.specs.vl_design.specs.Syntax.{Exp, Num, Label, Sig, Word, Pick, Slice, Un, Bin, Cond, Cat, Rep, Cast, Call, Time, LastAnswer, Exps, NoExps, MoreExps, Target, Whole, WordAt, PickAt, SliceAt, Several, Targets, NoTargets, MoreTargets, Stm, Nop, Then, If, Case, For, Repeat, Set, Later, Sys, Items, NoItems, Labelled, Default}
use Rattle.vl_paths.specs.vl_design.specs.Width.{Scope, form, assigned}
use Rattle.vl_paths.specs.vl_design.specs.Value.{Sample, value, side_by_side, arguments}
use Rattle.vl_paths.specs.vl_design.specs.State.{State, sample, counted, all_updated}
use Rattle.vl_paths.specs.vl_design.specs.Targets.{spots, all_spots, assignment, target_width}
use Rattle.vl_paths.specs.vl_design.specs.Exec.{items_form, label_matches, some_match, is_true, asks, counted_if, exec, exec_items, exec_default, holds, items_hold}
use Rattle.vl_paths.specs.Nets.{IsNetStm, AreNetItems}
use Rattle.vl_paths.proofs.Ways.{or_false}
use Rattle.vl_paths.specs.vl_design.specs.Nodes.{has, some_have, target_has, targets_have, items_have}
use Rattle.vl_paths.specs.vl_design.specs.Reads.{is_timed, stm_timed}

abbrev timed : Exp → Bool
timed e = has is_timed e

abbrev some_timed : Exps → Bool
some_timed es = some_have is_timed es

abbrev target_timed : Target → Bool
target_timed t = target_has is_timed t

abbrev targets_timed : Targets → Bool
targets_timed ts = targets_have is_timed ts

abbrev items_timed : Items → Bool
items_timed items = items_have is_timed (λ task. false) items

module _ (scope : Scope) where
  module _ (s t : Sample) (same : s.values ≡ t.values) where
    mutual
      value_same : (e : Exp) → timed e ≡ false → (c : Form) → value scope s e c ≡ value scope t e c
      value_same (Num v w signed) h c = refl
      value_same (Label v care w signed) h c = refl
      value_same (Sig k) h c = rw same refl
      value_same (Word m a) h c = rw (value_same a h (form scope.names a), same) refl
      value_same (Pick b i from w) h c = let g = or_false (timed b) (timed i) h in rw (value_same b g.0 (form scope.names b), value_same i g.1 (form scope.names i)) refl
      value_same (Slice b low w) h c = rw (value_same b h (form scope.names b)) refl
      value_same (Un op a) h c = rw (value_same a h _) refl
      value_same (Bin op a b) h c = let g = or_false (timed a) (timed b) h in rw (value_same a g.0 _, value_same b g.1 _) refl
      value_same (Cond u a b) h c =
          let g = or_false (timed u) (timed a || timed b) h in
          let f = or_false (timed a) (timed b) g.1 in
          rw (value_same u g.0 (form scope.names u), value_same a f.0 c, value_same b f.1 c) refl
      value_same (Cat es) h c = side_same es h
      value_same (Rep n es) h c = rw (side_same es h) refl
      value_same (Cast signed a) h c = rw (value_same a h (form scope.names a)) refl
      value_same (Call f es) h c = rw (arguments_same es h _) refl
      value_same Time h c = let z : ⊥ = cc in absurd z
      value_same LastAnswer h c = let z : ⊥ = cc in absurd z

      side_same : (es : Exps) → some_timed es ≡ false → side_by_side scope s es ≡ side_by_side scope t es
      side_same NoExps h = refl
      side_same (MoreExps e es) h = let g = or_false (timed e) (some_timed es) h in rw (value_same e g.0 (form scope.names e), side_same es g.1) refl

      arguments_same : (es : Exps) → some_timed es ≡ false → (ws : List ℕ) → arguments scope s es ws ≡ arguments scope t es ws
      arguments_same NoExps h ws = refl
      arguments_same (MoreExps e es) h [] = refl
      arguments_same (MoreExps e es) h (w ∷ ws) = let g = or_false (timed e) (some_timed es) h in rw (value_same e g.0 _, arguments_same es g.1 ws) refl

    mutual
      spots_same : (x : Target) → target_timed x ≡ false → spots scope s x ≡ spots scope t x
      spots_same (Whole k) h = refl
      spots_same (WordAt m a) h = rw (value_same a h (form scope.names a)) refl
      spots_same (PickAt b i from w) h = let g = or_false (target_timed b) (timed i) h in rw (spots_same b g.0, value_same i g.1 (form scope.names i)) refl
      spots_same (SliceAt b low w) h = rw (spots_same b h) refl
      spots_same (Several ts) h = all_spots_same ts h

      all_spots_same : (xs : Targets) → targets_timed xs ≡ false → all_spots scope s xs ≡ all_spots scope t xs
      all_spots_same NoTargets h = refl
      all_spots_same (MoreTargets x xs) h = let g = or_false (target_timed x) (targets_timed xs) h in rw (spots_same x g.0, all_spots_same xs g.1) refl

    match_same : (c : Form) (v : ℕ) (es : Exps) → some_timed es ≡ false → some_match scope s c v es ≡ some_match scope t c v es
    match_same c v NoExps h = refl
    match_same c v (MoreExps e es) h = let g = or_false (timed e) (some_timed es) h in rw (one e g.0, match_same c v es g.1) refl
      where
        one : (e : Exp) → timed e ≡ false → label_matches scope s c v e ≡ label_matches scope t c v e
        one (Label l care w signed) h = refl
        one e h = rw (value_same e h c) refl

  -- the same values, in two states that go on
  pub record Alike (s t : State) : Type 0 where
    pub values : s.values ≡ t.values
    pub alive : s.finished ≡ false
    pub too : t.finished ≡ false

  alike_counted : (x y : Bool) (s t : State) → Alike s t → Alike (counted_if x s) (counted_if y t)
  alike_counted x y s t d = by (x && not s.finished) (y && not t.finished)
    where
      by : (i j : Bool) → Alike (if i then counted s else s) (if j then counted t else t)
      by true true = record { values = d.values; alive = d.alive; too = d.too }
      by true false = record { values = d.values; alive = d.alive; too = d.too }
      by false true = record { values = d.values; alive = d.alive; too = d.too }
      by false false = d

  pick : (i j : Bool) (a a' b b' : State) → i ≡ j → Alike a a' → Alike b b' → Alike (if i then a else b) (if j then a' else b')
  pick true true a a' b b' e g h = g
  pick true false a a' b b' e g h = let z : ⊥ = cc in absurd z
  pick false true a a' b b' e g h = let z : ⊥ = cc in absurd z
  pick false false a a' b b' e g h = h

  set_alike : (x : Target) (e : Exp) (s t : State) → target_timed x ≡ false → timed e ≡ false → Alike s t → Alike (exec scope (Set x e) s) (exec scope (Set x e) t)
  set_alike x e s t g h d = by s.finished t.finished d.alive d.too
    where
      us : assignment scope (sample s) x e ≡ assignment scope (sample t) x e
      us = rw (spots_same (sample s) (sample t) d.values x g, value_same (sample s) (sample t) d.values e h (assigned (target_width scope.names x) (form scope.names e))) refl

      values : all_updated scope.names.rows s.values (assignment scope (sample s) x e) ≡ all_updated scope.names.rows t.values (assignment scope (sample t) x e)
      values = ap (λ v. all_updated scope.names.rows v (assignment scope (sample s) x e)) d.values ∙ ap (all_updated scope.names.rows t.values) us

      by : (i j : Bool) → i ≡ false → j ≡ false → Alike (if i then s else record s { values = all_updated scope.names.rows s.values (assignment scope (sample s) x e) }) (if j then t else record t { values = all_updated scope.names.rows t.values (assignment scope (sample t) x e) })
      by false false k l = record { values = values; alive = d.alive; too = d.too }
      by true j k l = let z : ⊥ = cc in absurd z
      by false true k l = let z : ⊥ = cc in absurd z

  module _ (is_memory : ℕ → Bool) where
    mutual
      pub exec_alike : (a : Stm) → IsNetStm is_memory a → stm_timed a ≡ false → (s t : State) → Alike s t → Alike (exec scope a s) (exec scope a t)
      exec_alike Nop n h s t d = d
      exec_alike (Then x y) n h s t d = let g = or_false (stm_timed x) (stm_timed y) h in exec_alike y n.1 g.1 (exec scope x s) (exec scope x t) (exec_alike x n.0 g.0 s t d)
      exec_alike (If u x y) n h s t d =
          let g = or_false (timed u) (stm_timed x || stm_timed y) h in
          let f = or_false (stm_timed x) (stm_timed y) g.1 in
          let s' : State = counted_if (asks u || (holds scope s x || holds scope s y)) s in
          let t' : State = counted_if (asks u || (holds scope t x || holds scope t y)) t in
          let d' : Alike s' t' = alike_counted _ _ s t d in
          pick (is_true scope u s) (is_true scope u t) (exec scope x s') (exec scope x t') (exec scope y s') (exec scope y t')
          (ap (λ v. not (v == 0)) (value_same (sample s) (sample t) d.values u g.0 (form scope.names u)))
          (exec_alike x n.0 f.0 s' t' d') (exec_alike y n.1 f.1 s' t' d')
      exec_alike (Case e items) n h s t d =
          let g = or_false (timed e) (items_timed items) h in
          let s' : State = counted_if (items_hold scope s items) s in
          let t' : State = counted_if (items_hold scope t items) t in
          let d' : Alike s' t' = alike_counted _ _ s t d in
          let f : Form = items_form scope.names (form scope.names e) items in
          let v : value scope (sample s) e f ≡ value scope (sample t) e f = value_same (sample s) (sample t) d.values e g.0 f in
          let z = items_alike items n g.1 (value scope (sample s) e f) f s' t' (exec_default scope items s') (exec_default scope items t') (default_alike items n g.1 s' t' d') d' in
          subst (λ m. Alike (exec_items scope (value scope (sample s) e f) f items (exec_default scope items s') s') (exec_items scope m f items (exec_default scope items t') t')) v z
      exec_alike (Set x e) n h s t d = let g = or_false (target_timed x) (timed e) h in set_alike x e s t g.0 g.1 d
      exec_alike (For k start test step a) n h s t d = absurd n
      exec_alike (Repeat m a) n h s t d = absurd n
      exec_alike (Later x e) n h s t d = absurd n
      exec_alike (Sys task) n h s t d = absurd n

      items_alike : (items : Items) → AreNetItems is_memory items → items_timed items ≡ false → (v : ℕ) (f : Form) (s t os ot : State) → Alike os ot → Alike s t →
          Alike (exec_items scope v f items os s) (exec_items scope v f items ot t)
      items_alike NoItems n h v f s t os ot w d = w
      items_alike (Labelled es a others) n h v f s t os ot w d =
          let g = or_false (some_timed es) (stm_timed a || items_timed others) h in
          let k = or_false (stm_timed a) (items_timed others) g.1 in
          pick (some_match scope (sample s) f v es) (some_match scope (sample t) f v es) (exec scope a s) (exec scope a t) (exec_items scope v f others os s) (exec_items scope v f others ot t)
          (match_same (sample s) (sample t) d.values f v es g.0) (exec_alike a n.0 k.0 s t d) (items_alike others n.1 k.1 v f s t os ot w d)
      items_alike (Default a others) n h v f s t os ot w d = let k = or_false (stm_timed a) (items_timed others) h in items_alike others n.1 k.1 v f s t os ot w d

      default_alike : (items : Items) → AreNetItems is_memory items → items_timed items ≡ false → (s t : State) → Alike s t → Alike (exec_default scope items s) (exec_default scope items t)
      default_alike NoItems n h s t d = d
      default_alike (Labelled es a others) n h s t d =
          let g = or_false (some_timed es) (stm_timed a || items_timed others) h in
          default_alike others n.1 (or_false (stm_timed a) (items_timed others) g.1).1 s t d
      default_alike (Default a others) n h s t d = exec_alike a n.0 (or_false (stm_timed a) (items_timed others) h).0 s t d
