-- Concatenations part by part.
use Rattle.std.proofs.Common.{◌≡◌, ℕ, zero, suc, ◌+◌, ◌*◌, ◌≤◌, refl, sym, ap, ◌∙◌, arith, subst}
use Rattle.std.specs.Prelude.{IfSome, Option, Some, None, Bool, true, false, ◌==◌, if◌then◌else◌}
use Rattle.vl_base.specs.Selects.{appended}
use Rattle.vl_design.specs.Syntax.{Exp, Exps, NoExps, MoreExps}
use Rattle.vl_design.specs.Width.{Names, Scope, form, total_width}
use Rattle.vl_design.specs.Value.{Sample, value, side_by_side}
use Rattle.vl_eval.proofs.Reading.{appended-more}
use Rattle.cell_emit.specs.cell_form.specs.Data.{ListData, BankData}
use Rattle.cell_emit.specs.cell_form.specs.Sound.{Shape}
use Rattle.cell_emit.specs.Slots.{held, width_at, IsIn, AreSound, Grows, Longer, Gives, Nothing}
use Rattle.cell_emit.proofs.Frames.{held-stays, width-stays, in-stays, longer-grows, longer-same, longer-then}
use Rattle.cell_emit.specs.Envs.{Env, IsSlot, Fits, HasMemories, held_or, Stands}
use Rattle.cell_emit.proofs.Staying.{stands-stays, sound-behind, longer-plain}
use Rattle.cell_expr.specs.Compiled.{Holds, width_or, beside_count, bits_before}
use Rattle.cell_expr.proofs.Counting.{parts-wide}
use Rattle.cell_expr.proofs.Holding.{holds-wider}
use Rattle.cell_expr.specs.Counts.{own_count, wide_count, parts_own, parts_wide, rest_count, first_count, all_count}
pub use Rattle.vl_base.proofs.Numbers.{product_right as some-part}

-- ---- one part more

-- ---- parts so far

-- what parts have that are left
abbrev pub left_count : (ℕ → ℕ) → ℕ → Option ℕ → Exps → ℕ
left_count body more None es = all_count body more es
left_count body more (Some r) es = rest_count body es

-- the parts before the rest stand side by side, behind more bits that are 0
pub record Sided (scope : Scope) (body : ℕ → ℕ) (more : ℕ) (at : Env) (old new : ListData) (all : Option ℕ) (rest whole : Exps) : Type 0 where
  pub used : ℕ
  pub sum : used + left_count body more all rest ≡ all_count body more whole
  pub longer : Longer (HasMemories scope.names at) used old new
  pub there : IfSome all (IsIn new)
  pub width : bits_before more all + width_or new all + total_width scope.names rest ≡ total_width scope.names whole + more
  pub value : (s : Shape) (b : BankData) (x : Sample) → AreSound s old → Stands scope.names b old at x →
      appended (held_or b new all) (total_width scope.names rest) (side_by_side scope x rest) ≡ side_by_side scope x whole

module _ (scope : Scope) (body : ℕ → ℕ) (more : ℕ) (at : Env) where
  pub sided-first : (l : ListData) (whole : Exps) → Sided scope body more at l l None whole whole
  sided-first l whole = record {
    used = 0;
    sum = omega arith;
    longer = longer-same (HasMemories scope.names at) l;
    there = tt;
    width = omega arith;
    value = λ s b x sound st. omega arith;
  }

  pub sided-more : (old mid far new : ListData) (all : Option ℕ) (n part r : ℕ) (e : Exp) (es rest whole : Exps) → n + beside_count all + rest_count body es ≡ left_count body more all (MoreExps e es) → rest ≡ MoreExps e es → Fits scope.names old at → Sided scope body more at old mid all rest whole →
      Holds scope.names n at mid far part ((form scope.names e).width + bits_before more all) (λ x. value scope x e (form scope.names e)) →
      Gives Nothing (beside_count all) far new r (width_or far all + width_at far part) (λ b. appended (held_or b far all) (width_at far part) (held b far part)) →
      Sided scope body more at old new (Some r) es whole
  sided-more old mid far new all n part r e es rest whole many is-more fits d c g =
      let H : Shape → Type 0 = HasMemories scope.names at in
      let k = beside_count all in
      let w = (form scope.names e).width in
      let t = total_width scope.names es in
      let g-mid = longer-grows H n mid far c.longer in
      let same-width : width_or far all ≡ width_or mid all = or-width all d.there in
      let long = longer-then H n k mid far new c.longer (longer-plain scope.names at k k far new (omega arith) g.longer) in
      let size : left_count body more all rest ≡ n + k + rest_count body es = rw is-more (sym many) in
      let wide : total_width scope.names rest ≡ w + t = rw is-more refl in
      let sum = d.sum in
      let width = d.width in
      let part-width = c.slot.width in
      let now = g.width in
      record {
        used = d.used + (n + k);
        sum = omega (arith, size, sum);
        longer = longer-then H d.used (n + k) old mid new d.longer long;
        there = g.there;
        width = rw (now, same-width, part-width) (omega (arith, wide, width));
        value = λ s b x sound st.
            let behind = sound-behind scope.names at d.used s old mid d.longer sound in
            let st-mid = stands-stays scope.names b old mid at x (longer-grows H d.used old mid d.longer) fits st in
            let further = sound-behind scope.names at n behind.shape mid far c.longer behind.sound in
            let is = c.value behind.shape b x behind.sound st-mid in
            let old-value : held_or b far all ≡ held_or b mid all = or-held b all d.there in
            let new-value : held b new r ≡ appended (held_or b mid all) w (value scope x e (form scope.names e)) =
            g.value further.shape b further.sound ∙ ap (λ z. appended z (width_at far part) (held b far part)) old-value
            ∙ widened b all (width_at far part) d.there part-width ∙ ap (appended (held_or b mid all) w) is in
            let whole-is : appended (held_or b mid all) (w + t) (appended (value scope x e (form scope.names e)) t (side_by_side scope x es)) ≡ side_by_side scope x whole = rw is-more at (d.value s b x sound st) in
            ap (λ z. appended z t (side_by_side scope x es)) new-value ∙ appended-more (held_or b mid all) w (value scope x e (form scope.names e)) t (side_by_side scope x es) ∙ whole-is;
      }
    where
      g' : Longer (HasMemories scope.names at) n mid far
      g' = c.longer

      -- bits before the first part are 0
      widened : (b : BankData) (o : Option ℕ) (v : ℕ) → IfSome o (IsIn mid) → v ≡ (form scope.names e).width + bits_before more o → appended (held_or b mid o) v (held b far part) ≡ appended (held_or b mid o) (form scope.names e).width (held b far part)
      widened b None v h i = omega arith
      widened b (Some k) v h i = (let j : v ≡ (form scope.names e).width = omega arith in rw j refl)

      or-width : (o : Option ℕ) → IfSome o (IsIn mid) → width_or far o ≡ width_or mid o
      or-width None h = refl
      or-width (Some k) h = width-stays mid far k (longer-grows (HasMemories scope.names at) n mid far g') h

      or-held : (b : BankData) (o : Option ℕ) → IfSome o (IsIn mid) → held_or b far o ≡ held_or b mid o
      or-held b None h = refl
      or-held b (Some k) h = held-stays b mid far k (longer-grows (HasMemories scope.names at) n mid far g') h

  pub sided-all : (old new : ListData) (all : Option ℕ) (r : ℕ) (rest whole : Exps) → rest ≡ NoExps → all ≡ Some r → Sided scope body more at old new all rest whole →
      Holds scope.names (all_count body more whole) at old new r (total_width scope.names whole + more) (λ x. side_by_side scope x whole)
  sided-all old new all r rest whole none some d =
      let F : Option ℕ → Type 0 = λ o. IfSome o (IsIn new) in
      let there = subst F some d.there in
      let sum = rw (none, some) at d.sum in
      let width = rw (none, some) at d.width in
      let count : d.used ≡ all_count body more whole = omega (arith, sum) in
      record {
        longer = subst (λ n. Longer (HasMemories scope.names at) n old new) count d.longer;
        slot = record { there = there; width = omega (arith, width) };
        value = λ s b x sound st.
            let is = rw (none, some) at (d.value s b x sound st) in
            omega (arith, is);
      }

-- ---- copies

-- a part has no more bits than the copies
pub part-fits : (n w most : ℕ) → 1 ≤ n * w → n * w ≤ most → w ≤ most
part-fits zero w most h k = absurd (omega (arith, h))
part-fits (suc n) w most h k = let e : suc n * w ≡ w + n * w = grind arith in omega (arith, e, k)

-- what is there before and a part can stand side by side
pub record Joins (new : ListData) (all : Option ℕ) (part : ℕ) : Type 0 where
  pub there : IfSome all (IsIn new)
  pub wide : 1 ≤ width_at new part
  pub narrow : width_or new all + width_at new part ≤ 128

pub joins : (names : Names) (more : ℕ) (l new : ListData) (all : Option ℕ) (part : ℕ) (e : Exp) (es rest whole : Exps) → Grows l new → rest ≡ MoreExps e es → IfSome all (IsIn l) → IsSlot new part ((form names e).width + bits_before more all) → 1 ≤ (form names e).width →
    bits_before more all + width_or l all + total_width names rest ≡ total_width names whole + more → total_width names whole + more ≤ 128 → Joins new all part
joins names more l new all part e es rest whole g is-more there slot wide sum narrow =
    let w = slot.width in
    let size : total_width names rest ≡ (form names e).width + total_width names es = rw is-more refl in
    let same = or-same all there in
    record { there = or-there all there; wide = omega (arith, w, wide); narrow = omega (arith, w, size, sum, narrow, same) }
  where
    or-there : (o : Option ℕ) → IfSome o (IsIn l) → IfSome o (IsIn new)
    or-there None h = tt
    or-there (Some k) h = in-stays l new k g h

    or-same : (o : Option ℕ) → IfSome o (IsIn l) → width_or new o ≡ width_or l o
    or-same None h = refl
    or-same (Some k) h = width-stays l new k g h

-- parts that have bits leave a slot
pub sided-some : (scope : Scope) (body : ℕ → ℕ) (more : ℕ) (at : Env) (old new : ListData) (all : Option ℕ) (rest whole : Exps) → rest ≡ NoExps → all ≡ None → 1 ≤ total_width scope.names whole → Sided scope body more at old new all rest whole → ⊥
sided-some scope body more at old new all rest whole none empty some d =
    let w = rw (none, empty) at d.width in
    absurd (omega (arith, w, some))

-- ---- what the parts have

-- a part that comes first, or behind others
pub first-part : (body : ℕ → ℕ) (more : ℕ) (e : Exp) (es : Exps) → first_count body more e + beside_count None + rest_count body es ≡ left_count body more None (MoreExps e es)
first-part body more e es = go (more == 0)
  where
    go : (q : Bool) → (if q then own_count body e else wide_count body e) + 0 + rest_count body es ≡ (if q then own_count body e + rest_count body es else wide_count body e + rest_count body es)
    go true = omega arith
    go false = omega arith

pub next-part : (body : ℕ → ℕ) (more k : ℕ) (e : Exp) (es : Exps) → own_count body e + beside_count (Some k) + rest_count body es ≡ left_count body more (Some k) (MoreExps e es)
next-part body more k e es = refl

pub part-count : (body : ℕ → ℕ) (more : ℕ) (all : Option ℕ) (e : Exp) (es : Exps) → first_count body (bits_before more all) e + beside_count all + rest_count body es ≡ left_count body more all (MoreExps e es)
part-count body more None e es = first-part body more e es
part-count body more (Some k) e es = next-part body more k e es

-- ---- parts that are extended at most

extended-few : (body : ℕ → ℕ) (more : ℕ) (es : Exps) → all_count body more es ≤ parts_wide body es
extended-few body more es = (let z = parts-wide body es in go z (more == 0))
  where
    go : parts_own body es ≤ parts_wide body es → (q : Bool) → (if q then parts_own body es else parts_wide body es) ≤ parts_wide body es
    go z true = z
    go z false = omega arith

pub parts-extended : (names : Names) (body : ℕ → ℕ) (more : ℕ) (at : Env) (es : Exps) (old new : ListData) (r w : ℕ) (f : Sample → ℕ) → total_width names es + more ≡ w →
    Holds names (all_count body more es) at old new r (total_width names es + more) f → Holds names (parts_wide body es) at old new r w f
parts-extended names body more at es old new r w f same h =
    subst (λ z. Holds names (parts_wide body es) at old new r z f) same
    (holds-wider names at (all_count body more es) (parts_wide body es) old new r (total_width names es + more) f (extended-few body more es) h)
