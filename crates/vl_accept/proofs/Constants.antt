-- Targets with constant indices: unrolling keeps them, functions don't matter to them, and what they may write they write.
use Rattle.std.proofs.Common.{◌≡◌, ℕ, Bool, true, false, List, [], Option, Some, refl, sym, ap, ◌∙◌}
use Rattle.std.specs.Prelude.{◌||◌, ℤ}
use Rattle.std.specs.List.{list_any}
use Rattle.std.proofs.Math.Bool.{or-false}
use Rattle.std.proofs.lemmas.Bool.{not-true}
use Rattle.std.proofs.lemmas.List.Folds.{list_any-append}
use Rattle.vl_check.specs.vl_design.specs.declared.design.Form.{Form}
use Rattle.vl_check.specs.vl_design.specs.declared.design.LowestBit.{LowestBit}
use Rattle.vl_check.specs.vl_design.specs.Syntax.{Exp, Num, Label, Sig, Word, Pick, Slice, Un, Bin, Cond, Cat, Rep, Cast, Call, Time, LastAnswer, Exps, NoExps, MoreExps, Target, Whole, WordAt, PickAt, SliceAt, Several, Targets, NoTargets, MoreTargets, Row, Fun}
use Rattle.vl_check.specs.vl_design.specs.Width.{Names, form}
use Rattle.vl_check.specs.vl_design.specs.Value.{value}
use Rattle.vl_check.specs.vl_design.specs.Nodes.{has, some_have}
use Rattle.vl_check.specs.vl_design.specs.Sound.{IsSoundExp, IsSoundTarget, AreSoundTargets, IsSoundBase}
use Rattle.vl_check.specs.vl_design.specs.Placed as p
use Rattle.vl_check.specs.vl_design.specs.Plainly as plain
use Rattle.vl_check.specs.vl_design.proofs.Unread.{or_false}
use Rattle.vl_runs.specs.vl_paths.specs.Bits.{Bit, varies, is_constant, closed, nothing, known_low, part_sets, bit_set, some_bit_set}
use Rattle.vl_unroll.specs.vl_loops.specs.Unroll.{put, puts, put_target, put_targets}
use Rattle.vl_unroll.specs.vl_loops.proofs.Funs.{Alike}
use Rattle.vl_unroll.specs.vl_loops.proofs.Putting.{form_put, value_put}
use Rattle.vl_accept.specs.Built.{HasConstants, HaveConstants}
use Rattle.cell_level.specs.vl_bits.specs.Drivers.{leaves, all_leaves}
use Rattle.vl_accept.proofs.Pure.{NoWords, NoWordsIn}

-- ---- unrolling keeps them

module _ (rows : List Row) (at : List (List ℕ)) where
  mutual
    put_same : (e : Exp) → has varies e ≡ false → put rows at e ≡ e
    put_same (Num v w signed) h = refl
    put_same (Label v care w signed) h = refl
    put_same (Sig j) h = let z : ⊥ = cc in absurd z
    put_same (Word m a) h = let z : ⊥ = cc in absurd z
    put_same (Pick b i from w) h = let g = or_false (has varies b) (has varies i) h in rw (put_same b g.0, put_same i g.1) refl
    put_same (Slice b low w) h = rw (put_same b h) refl
    put_same (Un op a) h = rw (put_same a h) refl
    put_same (Bin op a b) h = let g = or_false (has varies a) (has varies b) h in rw (put_same a g.0, put_same b g.1) refl
    put_same (Cond t a b) h =
        let g = or_false (has varies t) (has varies a || has varies b) h in
        let f = or_false (has varies a) (has varies b) g.1 in
        rw (put_same t g.0, put_same a f.0, put_same b f.1) refl
    put_same (Cat es) h = rw (puts_same es h) refl
    put_same (Rep n es) h = rw (puts_same es h) refl
    put_same (Cast signed a) h = rw (put_same a h) refl
    put_same (Call f es) h = let z : ⊥ = cc in absurd z
    put_same Time h = let z : ⊥ = cc in absurd z
    put_same LastAnswer h = let z : ⊥ = cc in absurd z

    puts_same : (es : Exps) → some_have varies es ≡ false → puts rows at es ≡ es
    puts_same NoExps h = refl
    puts_same (MoreExps e es) h = let g = or_false (has varies e) (some_have varies es) h in rw (put_same e g.0, puts_same es g.1) refl

  mutual
    pub target_same : (t : p.Target) → NoWords (plain.target t) → HasConstants t → put_target rows at (plain.target t) ≡ plain.target t
    target_same (p.Whole q k) n h = refl
    target_same (p.WordAt q m a) n h = absurd n
    target_same (p.PickAt q x i from w) n h = rw (target_same x n h.0, put_same (plain.exp i) (not-true (has varies (plain.exp i)) h.1)) refl
    target_same (p.SliceAt q x low w) n h = rw (target_same x n h) refl
    target_same (p.Several q ts) n h = rw (targets_same ts n h) refl

    targets_same : (ts : p.Targets) → NoWordsIn (plain.targets ts) → HaveConstants ts → put_targets rows at (plain.targets ts) ≡ plain.targets ts
    targets_same p.NoTargets n h = refl
    targets_same (p.MoreTargets t ts) n h = rw (target_same t n.0 h.0, targets_same ts n.1 h.1) refl

-- ---- functions don't matter to them

module _ (names : Names) (funs : List Fun) (al : Alike (closed names) funs (λ f given. 0)) where
  abbrev other : Names
  other = record names { funs = funs }

  form_same : (e : Exp) → has varies e ≡ false → form other e ≡ form names e
  form_same e h = ap (form other) (sym (put_same names.rows [] e h)) ∙ form_put (closed names) funs (λ f given. 0) al [] e

  value_same : (e : Exp) → has varies e ≡ false → IsSoundExp names e → (c : Form) → value (closed other) nothing e c ≡ value (closed names) nothing e c
  value_same e h s c =
      ap (λ x. value (closed other) nothing x c) (sym (put_same names.rows [] e h))
      ∙ value_put (closed names) funs (λ f given. 0) al [] nothing nothing (record { values = λ k g. refl; time = refl; answer = refl }) (λ j g. refl) e s c

  low_same : (from : LowestBit) (i : Exp) → is_constant i ≡ true → IsSoundExp names i → known_low other from i ≡ known_low names from i
  low_same from i h s =
      let u = not-true (has varies i) h in
      rw (form_same i u, value_same i u s (form names i)) refl

  part_same : (any : Bool) (b : Bit) (base : Target) (o : Option ℤ) (w : ℕ) → part_sets other any b base o w ≡ part_sets names any b base o w
  part_same any b (Whole k) (Some low) w = refl
  part_same any b base o w = refl

  mutual
    pub set_same : (any : Bool) (b : Bit) (t : p.Target) → HasConstants t → IsSoundTarget names (plain.target t) → bit_set other any b (plain.target t) ≡ bit_set names any b (plain.target t)
    set_same any b (p.Whole q k) h s = refl
    set_same any b (p.WordAt q m a) h s = refl
    set_same any b (p.PickAt q x i from w) h s =
        ap (λ o. part_sets other any b (plain.target x) o w) (low_same from (plain.exp i) h.1 s.2) ∙ part_same any b (plain.target x) (known_low names from (plain.exp i)) w
    set_same any b (p.SliceAt q x low w) h s = part_same any b (plain.target x) (Some low) w
    set_same any b (p.Several q ts) h s = sets_same any b ts h s.1

    sets_same : (any : Bool) (b : Bit) (ts : p.Targets) → HaveConstants ts → AreSoundTargets names (plain.targets ts) → some_bit_set other any b (plain.targets ts) ≡ some_bit_set names any b (plain.targets ts)
    sets_same any b p.NoTargets h s = refl
    sets_same any b (p.MoreTargets t ts) h s = rw (set_same any b t h.0 s.0, sets_same any b ts h.1 s.1) refl

-- ---- what they may write they write

module _ (names : Names) (b : Bit) where
  part_sure : (t : Target) (low : ℤ) (w : ℕ) → NoWords t → IsSoundBase names t → part_sets names true b t (Some low) w ≡ part_sets names false b t (Some low) w
  part_sure (Whole k) low w n h = refl
  part_sure (WordAt m a) low w n h = absurd n
  part_sure (PickAt x i from v) low w n h = absurd h
  part_sure (SliceAt x l v) low w n h = absurd h
  part_sure (Several ts) low w n h = absurd h

  mutual
    pub set_sure : (t : p.Target) → NoWords (plain.target t) → HasConstants t → IsSoundTarget names (plain.target t) → bit_set names true b (plain.target t) ≡ bit_set names false b (plain.target t)
    set_sure (p.Whole q k) n h s = refl
    set_sure (p.WordAt q m a) n h s = absurd n
    set_sure (p.PickAt q x i from w) n h s = rw h.1 (part_sure (plain.target x) _ w n s.1)
    set_sure (p.SliceAt q x low w) n h s = part_sure (plain.target x) low w n s.1
    set_sure (p.Several q ts) n h s = sets_sure ts n h s.1

    sets_sure : (ts : p.Targets) → NoWordsIn (plain.targets ts) → HaveConstants ts → AreSoundTargets names (plain.targets ts) → some_bit_set names true b (plain.targets ts) ≡ some_bit_set names false b (plain.targets ts)
    sets_sure p.NoTargets n h s = refl
    sets_sure (p.MoreTargets t ts) n h s = rw (set_sure t n.0 h.0 s.0, sets_sure ts n.1 h.1 s.1) refl

  -- ---- the parts of a left side

  mutual
    pub leaves_set : (t : Target) → list_any (bit_set names true b) (leaves t) ≡ bit_set names true b t
    leaves_set (Whole k) = or-false (bit_set names true b (Whole k))
    leaves_set (WordAt m a) = or-false (bit_set names true b (WordAt m a))
    leaves_set (PickAt x i from w) = or-false (bit_set names true b (PickAt x i from w))
    leaves_set (SliceAt x low w) = or-false (bit_set names true b (SliceAt x low w))
    leaves_set (Several ts) = all_leaves_set ts

    all_leaves_set : (ts : Targets) → list_any (bit_set names true b) (all_leaves ts) ≡ some_bit_set names true b ts
    all_leaves_set NoTargets = refl
    all_leaves_set (MoreTargets t ts) = list_any-append (bit_set names true b) (leaves t) (all_leaves ts) ∙ (rw (leaves_set t, all_leaves_set ts) refl)
