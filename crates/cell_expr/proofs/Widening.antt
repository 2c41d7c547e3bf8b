-- Expressions that are read for themselves, and extended by zeros.
use Rattle.std.proofs.Common.{◌≡◌, ℕ, ◌+◌, ◌^◌, ◌<◌, ◌≤◌, Bool, true, false, refl, sym, ap, ◌∙◌, arith, subst, mod-lt}
use Rattle.std.specs.Prelude.{◌==◌}
use Rattle.std.proofs.Math.Pow.{pow_pos}
use Rattle.vl_base.specs.Value.{resized}
use Rattle.vl_base.proofs.Readings.{wrapped-reading}
use Rattle.vl_design.specs.Laws.{IsFine}
use Rattle.vl_design.specs.Sound.{IsSoundExp}
use Rattle.vl_design.specs.Syntax.{Exp, Num, Label, Sig, Word, Pick, Slice, Un, Bin, Cond, Cat, Rep, Cast, Call, Time, LastAnswer}
use Rattle.vl_design.specs.Value.{Sample, value, value_of}
use Rattle.vl_design.specs.Width.{Scope, form, signal_form, unsigned}
use Rattle.vl_eval.proofs.Readable.{word-small}
use Rattle.cell_emit.specs.cell_form.specs.Data.{ListData}
use Rattle.cell_emit.specs.Slots.{held, width_at, Gives, Nothing}
use Rattle.cell_emit.specs.Counts.{resizes}
use Rattle.cell_emit.proofs.Below.{value-below}
use Rattle.cell_emit.specs.Envs.{Env, Fits}
use Rattle.cell_expr.specs.Compiled.{Holds, Compiles, is_cast}
use Rattle.cell_expr.specs.Counts.{own_count, wide_count, first_count, in_count, is_plain}
use Rattle.cell_expr.proofs.Counting.{in-most, wide-other, wide-plain}
use Rattle.cell_expr.proofs.Holding.{resizes-most, resized-wide, holds-wider, holds-node, holds-fits}

number-wide : (signed : Bool) (w width v : ℕ) → w ≤ width → v < 2 ^ w → resized false w width v ≡ resized signed w w v
number-wide signed w width v le h = resized-wide w width v le h ∙ sym (wrapped-reading signed w v h)

plain-wide : (scope : Scope) (x : Sample) (e : Exp) (width : ℕ) → is_plain e ≡ true → IsSoundExp scope.names e → IsFine scope.names.rows x.values → (form scope.names e).width ≤ width → value scope x e (unsigned width) ≡ value scope x e (form scope.names e)
plain-wide scope x (Num v w s) width p h fine le = number-wide s w width v le h.1
plain-wide scope x (Label v care w s) width p h fine le = number-wide s w width v le h.1
plain-wide scope x (Sig k) width p h fine le = number-wide (signal_form scope.names.rows k).signed (signal_form scope.names.rows k).width width (value_of x.values k) le
    (subst (λ z. z < 2 ^ (signal_form scope.names.rows k).width) (word-small scope.names.rows x.values k 0 fine) (mod-lt _ (pow_pos (signal_form scope.names.rows k).width)))
plain-wide scope x (Rep n es) width p h fine le = refl
plain-wide scope x (Word m a) width p h fine le = absurd (grind arith)
plain-wide scope x (Pick b i from w) width p h fine le = absurd (grind arith)
plain-wide scope x (Slice b low w) width p h fine le = absurd (grind arith)
plain-wide scope x (Un op a) width p h fine le = absurd (grind arith)
plain-wide scope x (Bin op a b) width p h fine le = absurd (grind arith)
plain-wide scope x (Cond t a b) width p h fine le = absurd (grind arith)
plain-wide scope x (Cat es) width p h fine le = absurd (grind arith)
plain-wide scope x (Cast s a) width p h fine le = absurd (grind arith)
plain-wide scope x (Call f es) width p h fine le = absurd (grind arith)
plain-wide scope x Time width p h fine le = absurd (grind arith)
plain-wide scope x LastAnswer width p h fine le = absurd (grind arith)

module _ (scope : Scope) (body : ℕ → ℕ) (more : ℕ) (at : Env) (e : Exp) where
  abbrev own : ℕ
  own = (form scope.names e).width

  not-none : (q : Bool) → (more == 0) ≡ q → (more ≡ 0 → ⊥) → q ≡ false
  not-none true h k = absurd (k (grind arith))
  not-none false h k = refl

  is-wide : (more ≡ 0 → ⊥) → first_count body more e ≡ wide_count body e
  is-wide h = let q = not-none (more == 0) refl h in rw q refl

  -- no bits
  pub wide-none : (old new : ListData) (r : ℕ) → more ≡ 0 → Compiles scope.names scope (own_count body e) e (form scope.names e) at old new r →
      Holds scope.names (first_count body more e) at old new r (own + more) (λ x. value scope x e (form scope.names e))
  wide-none old new r h k =
      let F : ℕ → Type 0 = λ z. Holds scope.names (first_count body z e) at old new r (own + z) (λ x. value scope x e (form scope.names e)) in
      let same : own ≡ own + 0 = omega arith in
      let G : ℕ → Type 0 = λ z. Holds scope.names (own_count body e) at old new r z (λ x. value scope x e (form scope.names e)) in
      subst F (sym h) (subst G same k)

  -- at once
  pub wide-at-once : (old new : ListData) (r : ℕ) → (more ≡ 0 → ⊥) → is_plain e ≡ true → IsSoundExp scope.names e →
      Compiles scope.names scope (in_count scope.names body (own + more) e) e (unsigned (own + more)) at old new r →
      Holds scope.names (first_count body more e) at old new r (own + more) (λ x. value scope x e (form scope.names e))
  wide-at-once old new r some p sound k =
      let i = in-most scope.names body e (own + more) in
      let j = wide-plain scope.names body e p in
      let same = is-wide some in
      let h = holds-wider scope.names at (in_count scope.names body (own + more) e) (first_count body more e) old new r (own + more) (λ x. value scope x e (unsigned (own + more))) (omega (arith, i, j, same)) k in
      record {
        longer = h.longer;
        slot = h.slot;
        value = λ s b x fits st. h.value s b x fits st ∙ plain-wide scope x e (own + more) p sound st.fine (omega arith);
      }

  -- behind itself
  pub wide-behind : (old mid new : ListData) (a r : ℕ) → (more ≡ 0 → ⊥) → is_plain e ≡ false → is_cast e ≡ false → Fits scope.names old at → Compiles scope.names scope (own_count body e) e (form scope.names e) at old mid a →
      Gives Nothing (resizes (width_at mid a) (own + more)) mid new r (own + more) (λ b. resized false (width_at mid a) (own + more) (held b mid a)) →
      Holds scope.names (first_count body more e) at old new r (own + more) (λ x. value scope x e (form scope.names e))
  wide-behind old mid new a r some p q fits h g =
      let few = resizes-most (width_at mid a) (own + more) in
      let j = wide-other scope.names body e p q in
      let same = is-wide some in
      let f : Sample → ℕ = λ x. value scope x e (form scope.names e) in
      let n = own_count body e in
      holds-wider scope.names at (n + resizes (width_at mid a) (own + more)) (first_count body more e) old new r (own + more) f (omega (arith, few, j, same))
      (holds-node scope.names at Nothing n (resizes (width_at mid a) (own + more)) old mid new r (own + more) _ f (λ s t. tt) fits h.longer g
      (λ s t b x sound behind st later. ap (λ z. resized false z (own + more) (held b mid a)) h.slot.width
      ∙ resized-wide own (own + more) (held b mid a) (omega arith) (holds-fits scope.names at n old mid a own f h t b behind) ∙ h.value s b x sound st))

-- of a cast: what is cast has the same bits
pub wide-cast : (scope : Scope) (body : ℕ → ℕ) (more : ℕ) (at : Env) (signed : Bool) (e : Exp) (old new : ListData) (r : ℕ) →
    Holds scope.names (first_count body more e) at old new r ((form scope.names e).width + more) (λ x. value scope x e (form scope.names e)) →
    Holds scope.names (first_count body more (Cast signed e)) at old new r ((form scope.names (Cast signed e)).width + more) (λ x. value scope x (Cast signed e) (form scope.names (Cast signed e)))
wide-cast scope body more at signed e old new r h =
    record {
      longer = h.longer;
      slot = h.slot;
      value = λ s b x sound st. h.value s b x sound st ∙ sym (wrapped-reading signed (form scope.names e).width (value scope x e (form scope.names e)) (value-below scope x e (form scope.names e) (omega arith)));
    }
