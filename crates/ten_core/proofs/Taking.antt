-- The ports of a bank that holds a state, and the words that are captured of it.
use Rattle.std.proofs.Common.{◌≡◌, inl, inr, ℕ, zero, suc, ◌+◌, ◌*◌, ◌^◌, ◌<◌, Bool, true, false, List, [], ◌∷◌, ◌++◌, length, map, take, Option, Some, None, refl, sym, ap, ◌∙◌, subst, arith}
use Rattle.std.specs.Prelude.{if◌then◌else◌, replicate, slice_get, slice_index, slice_index_or, All}
use Rattle.std.proofs.lemmas.List.{length-replicate, take_all}
use Rattle.std.proofs.lemmas.List.Elements.{All-from_recursion}
use Rattle.std.proofs.lemmas.Option.{same_Some, slice_get_within}
use Rattle.vl_design.specs.declared.design.SigKind.{SigKind}
use Rattle.vl_design.specs.declared.design.SigKind.TheVariants.{Var, Mem}
use Rattle.vl_design.specs.Functions.{zeros}
use Rattle.vl_design.specs.Laws.{IsFine}
use Rattle.vl_design.specs.Snapshots.{is_kept, kept_words}
use Rattle.vl_design.specs.Sound.{IsMem, HasValue}
use Rattle.vl_design.specs.State.{State}
use Rattle.vl_design.specs.Syntax.{Row, Flat}
use Rattle.vl_design.specs.Value.{value_of, words_of}
use Rattle.vl_design.specs.Width.{row_form}
use Rattle.ten_form.specs.vl_runs.specs.Computed.{is_computed}
use Rattle.trap_runtime.specs.cell_form.specs.Data.{BankData}
use Rattle.trap_runtime.specs.cell_form.specs.Sound.{shape_of}
use Rattle.reg_ports.specs.Ports.{captured, held, IsThere, IsPort, IsMap}
use Rattle.ten_form.specs.Banks.{IsFor, HoldsState}
use Rattle.ten_form.specs.Nets.{cleared}
use Rattle.ten_core.specs.Holding.{IsSized, CanBeHeld}
use Rattle.ten_core.specs.Ports.{port_of, ports_from}
use Rattle.ten_core.proofs.Listing.{is-var-or-mem, held-mem, held-var, row-at, names, OfKept, each-port, all-apart, there-var, there-mem}
pub use Rattle.vl_design.proofs.Shared.{long-as}
pub use Rattle.vl_design.specs.vl_base.proofs.Lists.{one_word as one-word}

-- ---- values with those of computed signals taken as 0

abbrev pub unless_computed : Option Row → ℕ → ℕ
unless_computed None v = 0
unless_computed (Some r) v = if is_computed r.kind then 0 else v

none-left : (o : Option Row) → unless_computed o 0 ≡ 0
none-left None = refl
none-left (Some r) = at (is_computed r.kind)
  where
    at : (b : Bool) → ◌≡◌ {A = ℕ} (if b then 0 else 0) 0
    at true = refl
    at false = refl

first-nulled : (words : List ℕ) → slice_index (map (λ (x : ℕ). 0) words) 0 ≡ 0
first-nulled [] = refl
first-nulled (w ∷ words) = refl

pub cleared-at : (rows : List Row) (values : List (List ℕ)) (k : ℕ) → value_of (cleared rows values) k ≡ unless_computed (slice_get rows k) (value_of values k)
cleared-at [] values k = refl
cleared-at (r ∷ rs) [] k = sym (none-left (slice_get (r ∷ rs) k))
cleared-at (r ∷ rs) (words ∷ values) zero = at (is_computed r.kind)
  where
    at : (b : Bool) → slice_index (if b then map (λ (x : ℕ). 0) words else words) 0 ≡ (if b then 0 else slice_index words 0)
    at true = first-nulled words
    at false = refl
cleared-at (r ∷ rs) (words ∷ values) (suc k) = cleared-at rs values k

pub zeros-at : (rows : List Row) (k : ℕ) (r : Row) → slice_get rows k ≡ Some r → words_of (zeros rows) k ≡ replicate r.words 0
zeros-at [] k r e = let z : ⊥ = cc in absurd z
zeros-at (x ∷ rows) zero r e = ap (λ (y : Row). replicate {A = ℕ} y.words 0) (same_Some x r e)
zeros-at (x ∷ rows) (suc k) r e = zeros-at rows k r e

-- ---- captured words

pub captured-is : (b : BankData) (k : ℕ) (rows : List Row) (values : List (List ℕ)) → length values ≡ length rows →
    ((j n : ℕ) (r : Row) → n ≡ k + j → slice_get rows j ≡ Some r → is_kept r.kind ≡ true → held b (port_of n r) ≡ words_of values j) →
    captured (ports_from k rows) b ≡ kept_words rows values
captured-is b k [] values many h = refl
captured-is b k (r ∷ rs) [] many h = absurd (omega arith)
captured-is b k (r ∷ rs) (ws ∷ wss) many h =
    at (captured-is b (k + 1) rs wss (omega (arith, many)) (λ j n x e i kept. h (suc j) n x (omega (arith, e)) i kept)) (is_kept r.kind) refl
  where
    at : captured (ports_from (k + 1) rs) b ≡ kept_words rs wss → (c : Bool) → is_kept r.kind ≡ c → captured (if c then port_of k r ∷ ports_from (k + 1) rs else ports_from (k + 1) rs) b ≡ (if c then ws else []) ++ kept_words rs wss
    at others true e = ap (λ (xs : List ℕ). xs ++ captured (ports_from (k + 1) rs) b) (h zero k r (omega arith) refl e) ∙ ap (λ (xs : List ℕ). ws ++ xs) others
    at others false e = others

-- ---- a bank that holds a state

module _ (d : Flat) (can : CanBeHeld d) (b : BankData) (s : State) (committed : List (List ℕ)) (fine : IsFine d.rows s.values) (holds : HoldsState d b s committed) where
  sized : (k : ℕ) (r : Row) → slice_get d.rows k ≡ Some r → IsSized r
  sized k r e = row-at IsSized d.rows k r can.signals e

  pub as-many : (k : ℕ) (r : Row) → slice_get d.rows k ≡ Some r → length (words_of s.values k) ≡ r.words
  as-many k r e = fine.shape.words k ∙ ap (λ (ws : List ℕ). length ws) (zeros-at d.rows k r e) ∙ length-replicate r.words 0

  memory-is : (k : ℕ) (r : Row) → slice_get d.rows k ≡ Some r → r.kind ≡ Mem → slice_index_or b.mems k [] ≡ words_of s.values k
  memory-is k r i e = holds.memories k (names IsMem d.rows k r Mem i e tt (sized k r i).width)

  variable-is : (k : ℕ) (r : Row) → slice_get d.rows k ≡ Some r → r.kind ≡ Var → slice_index b.regs (4 * k + 4) ≡ value_of s.values k
  variable-is k r i e =
      let v = value_of s.values k in
      holds.signals.works k (names HasValue d.rows k r Var i e tt (sized k r i).width) ∙ cleared-at d.rows s.values k
      ∙ ap (λ (o : Option Row). unless_computed o v) i ∙ ap (λ (kind : SigKind). if is_computed kind then 0 else v) e

  pub held-is : (k : ℕ) (r : Row) → slice_get d.rows k ≡ Some r → is_kept r.kind ≡ true → held b (port_of k r) ≡ words_of s.values k
  held-is k r i kept = elim (is-var-or-mem r.kind kept) [
    | inl e ↦ (
        let one = can.words.one k r i (subst HasValue (sym e) tt) in
        held-var b k r e ∙ ap (λ (v : ℕ). v ∷ []) (variable-is k r i e) ∙ one-word (words_of s.values k) (as-many k r i ∙ one))
    | inr e ↦ (
        let long = as-many k r i in
        held-mem b k r e ∙ ap (λ (ws : List ℕ). take r.words ws) (memory-is k r i e) ∙ take_all r.words (words_of s.values k) (omega (arith, long)))
  ]

  module _ (least : ℕ) (for : IsFor d least (shape_of b)) where
    there : (k : ℕ) (r : Row) → slice_get d.rows k ≡ Some r → is_kept r.kind ≡ true → IsThere b (port_of k r)
    there k r i kept =
        let lt = slice_get_within d.rows k r i in
        elim (is-var-or-mem r.kind kept) [
          | inl e ↦ (let regs = for.regs in there-var b k r e (omega (arith, lt, regs)))
          | inr e ↦ (
              let mems = for.mems in
              let long = ap (λ (ws : List ℕ). length ws) (memory-is k r i e) ∙ as-many k r i in
              there-mem b k r e (omega (arith, lt, mems)) (omega (arith, long)))
        ]

    port-is : (k : ℕ) (r : Row) → slice_get d.rows k ≡ Some r → is_kept r.kind ≡ true → IsPort b (port_of k r)
    port-is k r i kept = record {
      width = record { wide = (sized k r i).width.wide; narrow = (sized k r i).width.narrow };
      there = there k r i kept;
      fits = subst (λ (ws : List ℕ). All (λ w. w < 2 ^ r.width) ws) (sym (held-is k r i kept))
          (subst (λ (o : Option Row). All (λ w. w < 2 ^ (row_form o).width) (words_of s.values k)) i (fine.range k));
    }

    of-kept : OfKept (IsPort b) 0 d.rows
    of-kept j n r e i kept = subst (λ m. IsPort b (port_of m r)) (omega (arith, e)) (port-is j r i kept)

    pub map-is : IsMap (ports_from 0 d.rows) b
    map-is = record {
      each = All-from_recursion (IsPort b) (ports_from 0 d.rows) (each-port (IsPort b) 0 d.rows of-kept);
      apart = all-apart 0 d.rows;
    }

  pub words-are : captured (ports_from 0 d.rows) b ≡ kept_words d.rows s.values
  words-are =
      captured-is b 0 d.rows s.values (fine.shape.many ∙ long-as d.rows)
      (λ j n r e i kept. subst (λ m. held b (port_of m r) ≡ words_of s.values j) (omega (arith, e)) (held-is j r i kept))
