-- Which signals have registers that are written.
use Rattle.std.proofs.Common.{◌≡◌, ℕ, Bool, true, false, Option, Some, None, refl, sym, ap, ◌∙◌}
use Rattle.std.specs.Prelude.{◌&&◌, ◌||◌, not, nat_lt, nat_le, slice_get, is_some, IfSome}
use Rattle.std.proofs.lemmas.Bool.{le-leb, leb-true}
use Rattle.ten_form.specs.vl_design.specs.declared.design.SigKind.{SigKind}
use Rattle.ten_form.specs.vl_design.specs.declared.design.SigKind.TheVariants.{Net, Var, Comb, Loop, Mem, Clock}
use Rattle.ten_form.specs.vl_design.specs.Rows.{has_width}
use Rattle.ten_form.specs.vl_design.specs.Syntax.{Row}
use Rattle.ten_form.specs.vl_design.specs.Width.{Names}
use Rattle.ten_form.specs.vl_design.specs.Sound.{IsOf, IsWidth, HasValue, IsSignal}
use Rattle.ten_form.specs.vl_runs.specs.Computed.{is_computed, is_computed_row, computed_at}
use Rattle.cell_emit.specs.vl_sites.specs.Others.{is_other, is_other_row, other_at}
use Rattle.cell_emit.proofs.Samples.{named}
use Rattle.cell_waves.specs.Copies.{has_copy, is_written}
pub use Rattle.cell_emit.specs.vl_base.proofs.Booleans.{and_parts as both-true}

-- ---- widths

within : (w : ℕ) → IsWidth w → has_width w ≡ true
within w h = ap (λ t. t && nat_le w 128) (le-leb 1 w h.wide) ∙ le-leb w 128 h.narrow

pub is-width : (w : ℕ) → has_width w ≡ true → IsWidth w
is-width w e =
    let t = both-true (nat_le 1 w) (nat_le w 128) e in
    record { wide = leb-true 1 w t.0; narrow = leb-true w 128 t.1 }

pub width-told : (o : Option ℕ) (w : ℕ) → (IsWidth w → o ≡ Some w) → IfSome o (λ v. (v ≡ w) × IsWidth v) → is_some o ≡ has_width w
width-told None w f h = of (has_width w) refl
  where
    of : (t : Bool) → has_width w ≡ t → false ≡ has_width w
    of true e = let g = f (is-width w e) in absurd (cc)
    of false e = sym e
width-told (Some v) w f h = let e = h.0 in sym (ap has_width (sym e) ∙ within v h.1)

-- ---- kinds

signal-copy : (copy : ℕ) (kind : SigKind) → HasValue kind → is_other kind ≡ false → has_copy copy kind ≡ (nat_lt 4 copy || not (is_computed kind))
signal-copy copy Net h o = refl
signal-copy copy Var h o = refl
signal-copy copy Comb h o = refl
signal-copy copy Loop h o = absurd (cc)
signal-copy copy Mem h o = absurd h
signal-copy copy Clock h o = absurd (cc)

pub value-kind : (copy : ℕ) (kind : SigKind) → has_copy copy kind ≡ true → HasValue kind
value-kind copy Mem e = absurd (cc)
value-kind copy Net e = tt
value-kind copy Var e = tt
value-kind copy Comb e = tt
value-kind copy Loop e = tt
value-kind copy Clock e = tt

not-other : (copy : ℕ) (kind : SigKind) → has_copy copy kind ≡ true → is_other kind ≡ false
not-other copy Mem e = refl
not-other copy Net e = refl
not-other copy Var e = refl
not-other copy Comb e = refl
not-other copy Loop e = absurd (cc)
not-other copy Clock e = absurd (cc)

-- a loop variable or a clock has no register that is written
other-copy : (copy : ℕ) (kind : SigKind) → is_other kind ≡ true → has_copy copy kind ≡ false
other-copy copy Mem e = refl
other-copy copy Net e = absurd (cc)
other-copy copy Var e = absurd (cc)
other-copy copy Comb e = absurd (cc)
other-copy copy Loop e = refl
other-copy copy Clock e = refl

pub other-unwritten : (copy : ℕ) (o : Option Row) → is_other_row o ≡ true → is_written copy o ≡ false
other-unwritten copy None e = refl
other-unwritten copy (Some r) e = ap (λ t. t && has_width r.width) (other-copy copy r.kind e)

-- and isn't computed
other-kind : (kind : SigKind) → is_other kind ≡ true → is_computed kind ≡ false
other-kind Mem e = refl
other-kind Net e = absurd (cc)
other-kind Var e = refl
other-kind Comb e = absurd (cc)
other-kind Loop e = refl
other-kind Clock e = refl

pub other-kept : (o : Option Row) → is_other_row o ≡ true → is_computed_row o ≡ false
other-kept None e = refl
other-kept (Some r) e = other-kind r.kind e

pub not-computed : (copy : ℕ) (kind : SigKind) → nat_lt 4 copy ≡ false → has_copy copy kind ≡ true → is_computed kind ≡ false
not-computed copy kind low e = of (is_computed kind) (sym (ap (λ t. t || not (is_computed kind)) low) ∙ sym (signal-copy copy kind (value-kind copy kind e) (not-other copy kind e)) ∙ e)
  where
    of : (c : Bool) → not c ≡ true → c ≡ false
    of false h = refl
    of true h = absurd (cc)

-- of another signal those registers are written that aren't of a computed one, or are of what is pending
signal-written : (names : Names) (copy k : ℕ) → IsSignal names k → other_at names.rows k ≡ false → is_written copy (slice_get names.rows k) ≡ (nat_lt 4 copy || not (computed_at names.rows k))
signal-written names copy k i o =
    let n = named HasValue (slice_get names.rows k) i in
    let r = n.row in
    ap (is_written copy) n.is ∙ ap (λ t. t && has_width r.width) (signal-copy copy r.kind n.kind (sym (ap is_other_row n.is) ∙ o)) ∙ ap (λ t. (nat_lt 4 copy || not (is_computed r.kind)) && t) (within r.width n.width)
    ∙ with-true (nat_lt 4 copy || not (is_computed r.kind)) ∙ sym (ap (λ o. nat_lt 4 copy || not (is_computed_row o)) n.is)
  where
    with-true : (t : Bool) → (t && true) ≡ t
    with-true true = refl
    with-true false = refl

pub written-if : (names : Names) (copy k : ℕ) (c x : Bool) → IsSignal names k → other_at names.rows k ≡ false → computed_at names.rows k ≡ c → (nat_lt 4 copy || not c) ≡ x → is_written copy (slice_get names.rows k) ≡ x
written-if names copy k c x i o is y = signal-written names copy k i o ∙ ap (λ q. nat_lt 4 copy || not q) is ∙ y

-- and only of signals
pub written-signal : (copy : ℕ) (o : Option Row) → is_written copy o ≡ true → IsOf HasValue o
written-signal copy None e = absurd (cc)
written-signal copy (Some r) e =
    let t = both-true (has_copy copy r.kind) (has_width r.width) e in
    (value-kind copy r.kind t.0, is-width r.width t.1)
