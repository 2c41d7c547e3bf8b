-- Spots are added, one for each signal, word or select.
use Rattle.std.proofs.Common.{◌≡◌, ℕ, zero, suc, ◌+◌, ◌<◌, ◌≤◌, ℤ, Bool, false, List, [], ◌∷◌, ◌++◌, Option, Some, None, map, get_or, refl, sym, ap, ◌∙◌, arith, subst, nat_lt, append-nil, true}
use Rattle.std.specs.Prelude.{pos, All, ◌+ℤ◌, slice_get}
use Rattle.std.proofs.lemmas.Bool.{ltb-false}
use Rattle.std.proofs.lemmas.Int.{ints}
use Rattle.vl_base.specs.Value.{reading}
use Rattle.vl_design.specs.declared.design.Form.{Form}
use Rattle.vl_design.specs.declared.design.LowestBit.{LowestBit}
use Rattle.vl_design.specs.declared.design.Expr.{Expr}
use Rattle.vl_design.specs.declared.design.Target.{Target as TargetCode}
use Rattle.vl_design.specs.declared.design.TargetNode as node
use Rattle.vl_design.specs.Plainly as plain
use Rattle.vl_design.specs.Seen as seen
use Rattle.vl_design.specs.Trees.{exp_of, target_of}
use Rattle.std.specs.declared.alloc.Global.{Global}
use Rattle.std.specs.declared.boxed.Box.{Box}
use Rattle.vl_design.specs.Sound.{IsSignal, IsMemory, IsNamed, IsWidth}
use Rattle.vl_design.specs.Syntax.{Exp, Target, Whole, WordAt, PickAt, SliceAt, Row}
use Rattle.vl_design.specs.Targets as t
use Rattle.vl_design.specs.Value.{Sample, own_reading, lowest_bit, word_at}
use Rattle.vl_design.specs.Width.{Names, Scope, form, signal_form, assigned}
use Rattle.vl_eval.proofs.Names.{named-width, signal-named, memory-named}
use Rattle.cell_emit.specs.cell_form.specs.Data.{ListData, BankData}
use Rattle.cell_emit.specs.cell_form.specs.Sound.{Shape}
use Rattle.cell_emit.specs.Slots.{held, width_at, AreSound, Longer}
use Rattle.cell_emit.proofs.Frames.{longer-grows, longer-same, longer-then}
use Rattle.cell_emit.specs.Envs.{Env, HasMemories, Fits, Stands}
use Rattle.cell_emit.specs.declared.place.Place.TheVariants as place
use Rattle.cell_emit.proofs.Staying.{stands-stays, sound-behind}
use Rattle.cell_expr.specs.declared.address.Address.{Address}
use Rattle.cell_expr.specs.declared.spot.Spot.{Spot}
use Rattle.cell_expr.specs.Compiled.{Compiles}
use Rattle.cell_expr.specs.Counts.{parts_count, part_count}
use Rattle.cell_expr.specs.Spots.{IsOf, word_in, memory_at, spot_cells, Based, IsSpot, spot_in, bits_of, cells_of, stored_by, Spotted}
use Rattle.cell_emit.specs.vl_sites.specs.Stored.{target_stored}
use Rattle.cell_expr.proofs.Spotting.{word-stays, is-of-stays}

-- ---- a target by its node

pub whole-of : (x : TargetCode) (k : ℕ) → x.node ≡ node.Sig k → target_of x ≡ Whole k
whole-of x k h = ap (λ n. plain.target (seen.node_target x.place n)) h

pub slice-of : (x : TargetCode) (b : Box TargetCode Global) (low : ℤ) (w : ℕ) → x.node ≡ node.Slice b low w → target_of x ≡ SliceAt (target_of b.value) low w
slice-of x b low w h = ap (λ n. plain.target (seen.node_target x.place n)) h

pub pick-of : (x : TargetCode) (b : Box TargetCode Global) (i : Box Expr Global) (from : LowestBit) (w : ℕ) → x.node ≡ node.Pick b i from w → target_of x ≡ PickAt (target_of b.value) (exp_of i.value) from w
pick-of x b i from w h = ap (λ n. plain.target (seen.node_target x.place n)) h

-- ---- what a target is of

pub word-of : (x : TargetCode) (m : ℕ) (a : Box Expr Global) → x.node ≡ node.Word m a → target_of x ≡ WordAt m (exp_of a.value)
word-of x m a h = ap (λ n. plain.target (seen.node_target x.place n)) h

pub based-signal : (scope : Scope) (at : Env) (k : ℕ) (l : ListData) → IsSignal scope.names k → nat_lt k at.first ≡ false → Based scope 0 (Whole k) at l l k None
based-signal scope at k l h apart = record {
  longer = longer-same (HasMemories scope.names at) l;
  is_of = (h, ltb-false k at.first apart);
  wide = refl;
  many = refl;
  all = λ later. refl;
  stored = refl;
  value = λ s b x sound st. refl;
}

-- an index in a slot is read as its expression is
read-same : (scope : Scope) (at : Env) (n slot : ℕ) (e : Exp) (signed : Bool) (old new : ListData) (b : BankData) (s : Shape) (x : Sample) → signed ≡ (form scope.names e).signed → Compiles scope.names scope n e (form scope.names e) at old new slot →
    AreSound s old → Stands scope.names b old at x → reading signed (width_at new slot) (held b new slot) ≡ own_reading scope x e
read-same scope at n slot e signed old new b s x sign c sound st =
    let f = form scope.names e in
    ap (λ y. reading y (width_at new slot) (held b new slot)) sign ∙ ap (λ y. reading f.signed y (held b new slot)) c.slot.width ∙ ap (reading f.signed f.width) (c.value s b x sound st)

pub based-word : (scope : Scope) (at : Env) (n m slot : ℕ) (e : Exp) (signed : Bool) (old new : ListData) → IsMemory scope.names m → signed ≡ (form scope.names e).signed → Compiles scope.names scope n e (form scope.names e) at old new slot →
    Based scope n (WordAt m e) at old new m (Some (record { slot = slot; signed = signed }))
based-word scope at n m slot e signed old new h sign c = record {
  longer = c.longer;
  is_of = (h, c.slot.there);
  wide = refl;
  many = refl;
  all = λ later. refl;
  stored = refl;
  value = λ s b x sound st.
      let rows = scope.names.rows in
      ap (λ z. record { signal = m; word = word_at (slice_get rows m) z; low = pos 0; width = (signal_form rows m).width } ∷ []) (sym (read-same scope at n slot e signed old new b s x sign c sound st));
}

-- ---- one spot more

pub spotted-one : (names : Names) (n w : ℕ) (k : Bool → ℕ) (at : Env) (old new : ListData) (before after : List Spot) (p : Spot) (ms : List ℕ) (f : Sample → List t.Spot) → Longer (HasMemories names at) n old new → after ≡ before ++ p ∷ [] → IsSpot names at.first new p →
    p.width ≡ w → ((later : Bool) → spot_cells later p ≡ k later) → memory_at p.signal p.word ≡ ms → ((s : Shape) (b : BankData) (x : Sample) → AreSound s old → Stands names b old at x → spot_in names.rows b new p ∷ [] ≡ f x) → Spotted names n at old new before after w k ms f
spotted-one names n w k at old new before after p ms f longer e sound width many words is = record {
  longer = longer;
  more = p ∷ [];
  are = e;
  sound = at-first;
  value = is;
  wide = omega (arith, width);
  many = λ later. (let m = many later in omega (arith, m));
  words = append-nil (memory_at p.signal p.word) ∙ words;
}
  where
    at-first : (i : ℕ) (d : Spot) → i < 1 → IsSpot names at.first new (get_or (p ∷ []) i d)
    at-first zero d h = sound
    at-first (suc i) d h = absurd (omega arith)

pub of-named : (names : Names) (first : ℕ) (l : ListData) (k : ℕ) (word : Option Address) → IsOf names first l k word → IsNamed names k
of-named names first l k None h = signal-named names k h.0
of-named names first l k (Some a) h = memory-named names k h.0

module _ (scope : Scope) (at : Env) (before after : List Spot) (n : ℕ) (base : Target) (k : ℕ) (word : Option Address) (l0 l1 : ListData) (given : Based scope n base at l0 l1 k word) where
  abbrev rows : List Row
  rows = scope.names.rows

  pub spotted-whole : (w : ℕ) → w ≡ (signal_form rows k).width → after ≡ before ++ record { signal = k; word = word; low = place.Constant (pos 0); width = w } ∷ [] →
      Spotted scope.names n at l0 l1 before after (t.target_width scope.names base) (parts_count base) (target_stored base) (λ x. t.spots scope x base)
  spotted-whole w same are =
      spotted-one scope.names n (t.target_width scope.names base) (parts_count base) at l0 l1 before after (record { signal = k; word = word; low = place.Constant (pos 0); width = w }) (target_stored base) (λ x. t.spots scope x base)
      given.longer are (record { is_of = given.is_of; width = rw same (named-width scope.names k (of-named scope.names at.first l1 k word given.is_of)); low = tt }) (same ∙ sym given.wide) (λ later. ap (λ q. part_count later q false) given.many ∙ sym (given.all later)) given.stored
      (λ s b x sound st. ap (λ z. record { signal = k; word = word_in rows b l1 k word; low = pos 0; width = z } ∷ []) same ∙ sym (given.value s b x sound st))

  pub spotted-slice : (low z : ℤ) (w : ℕ) → IsWidth w → z ≡ low → after ≡ before ++ record { signal = k; word = word; low = place.Constant z; width = w } ∷ [] →
      Spotted scope.names n at l0 l1 before after w (parts_count (SliceAt base low w)) (target_stored base) (λ x. t.spots scope x (SliceAt base low w))
  spotted-slice low z w wide same are =
      spotted-one scope.names n w (parts_count (SliceAt base low w)) at l0 l1 before after (record { signal = k; word = word; low = place.Constant z; width = w }) (target_stored base) (λ x. t.spots scope x (SliceAt base low w))
      given.longer are (record { is_of = given.is_of; width = wide; low = tt }) refl (λ later. ap (λ q. part_count later q false) given.many) given.stored
      (λ s b x sound st. (
      let q : z ≡ pos 0 +ℤ low = omega (arith, ints, same) in
      ap (λ y. record { signal = k; word = word_in rows b l1 k word; low = y; width = w } ∷ []) q ∙ ap (map (t.within low w)) (sym (given.value s b x sound st))))

  pub spotted-pick : (m : ℕ) (e : Exp) (from : LowestBit) (w index : ℕ) (signed : Bool) (l2 : ListData) → Fits scope.names l0 at → IsWidth w → signed ≡ (form scope.names e).signed → Compiles scope.names scope m e (form scope.names e) at l1 l2 index →
      after ≡ before ++ record { signal = k; word = word; low = place.By index signed from; width = w } ∷ [] →
      Spotted scope.names (n + m) at l0 l2 before after w (parts_count (PickAt base e from w)) (target_stored base) (λ x. t.spots scope x (PickAt base e from w))
  spotted-pick m e from w index signed l2 fits wide sign c are =
      let names = scope.names in
      let H : Shape → Type 0 = HasMemories names at in
      let g = longer-grows H m l1 l2 c.longer in
      spotted-one names (n + m) w (parts_count (PickAt base e from w)) at l0 l2 before after (record { signal = k; word = word; low = place.By index signed from; width = w }) (target_stored base) (λ x. t.spots scope x (PickAt base e from w))
      (longer-then H n m l0 l1 l2 given.longer c.longer) are (record { is_of = is-of-stays names at.first l1 l2 k word g given.is_of; width = wide; low = c.slot.there }) refl (λ later. ap (λ q. part_count later q true) given.many) given.stored
      (λ s b x sound st. (
      let behind = sound-behind names at n s l0 l1 given.longer sound in
      let st1 = stands-stays names b l0 l1 at x (longer-grows H n l0 l1 given.longer) fits st in
      let low = ap (lowest_bit from) (read-same scope at m index e signed l1 l2 b behind.shape x sign c behind.sound st1) in
      let z : lowest_bit from (own_reading scope x e) ≡ pos 0 +ℤ lowest_bit from (own_reading scope x e) = omega (arith, ints) in
      ap (λ y. record { signal = k; word = y; low = lowest_bit from (reading signed (width_at l2 index) (held b l2 index)); width = w } ∷ []) (word-stays names at.first b l1 l2 k word g given.is_of)
      ∙ ap (λ y. record { signal = k; word = word_in rows b l1 k word; low = y; width = w } ∷ []) (low ∙ z)
      ∙ ap (map (t.within (lowest_bit from (own_reading scope x e)) w)) (sym (given.value s b x sound st))))

-- ---- the spots of one target

module _ (names : Names) (n : ℕ) (at : Env) (old new : ListData) (before after : List Spot) (w : ℕ) (k : Bool → ℕ) (ms : List ℕ) (f : Sample → List t.Spot) (none : before ≡ []) (s : Spotted names n at old new before after w k ms f) where
  all-are : after ≡ s.more
  all-are = s.are ∙ ap (λ z. z ++ s.more) none

  pub spotted-first : Spotted names n at old new [] after w k ms f
  spotted-first = subst (λ z. Spotted names n at old new z after w k ms f) none s

  pub spotted-sound : All (IsSpot names at.first new) after
  spotted-sound = subst (All (IsSpot names at.first new)) (sym all-are) s.sound

  pub spotted-bits : bits_of after ≡ w
  spotted-bits = ap bits_of all-are ∙ s.wide

  pub spotted-cells : (later : Bool) → cells_of later after ≡ k later
  spotted-cells later = ap (cells_of later) all-are ∙ s.many later

  pub spotted-words : stored_by after ≡ ms
  spotted-words = ap stored_by all-are ∙ s.words

pub assigned-narrow : (w : ℕ) (f : Form) → w ≤ 128 → f.width ≤ 128 → (assigned w f).width ≤ 128
assigned-narrow w f h k = omega (arith, h, k)

pub assigned-wide : (w : ℕ) (f : Form) → w ≤ (assigned w f).width
assigned-wide w f = omega arith
