-- Ports of signals, one by one.
use Rattle.std.proofs.Common.{◌≡◌, ◌≢◌, ◌⊎◌, inl, inr, ℕ, zero, suc, ◌+◌, ◌<◌, ◌≤◌, Bool, true, false, List, [], ◌∷◌, length, take, Option, Some, None, refl, sym, ap, ◌∙◌, subst, arith}
use Rattle.std.specs.Prelude.{◌==◌, ◌&&◌, ◌||◌, not, if◌then◌else◌, slice_get, slice_index, slice_index_or, AllPairs}
use Rattle.std.specs.List.{AllByRecursion, list_any}
use Rattle.std.proofs.lemmas.Bool.{eqb-true}
use Rattle.std.proofs.lemmas.List.Elements.{All-from_recursion}
use Rattle.std.proofs.lemmas.List.Kept.{AllPairs-cons}
use Rattle.std.proofs.lemmas.Option.{same_Some}
use Rattle.vl_design.specs.declared.design.SigKind.{SigKind}
use Rattle.vl_design.specs.declared.design.SigKind.TheVariants.{Net, Var, Comb, Loop, Mem, Clock}
use Rattle.vl_design.specs.Snapshots.{is_kept, snap_words}
use Rattle.vl_design.specs.Sound.{IsOf, IsMem, IsWidth, HasValue}
use Rattle.vl_design.specs.Syntax.{Row}
use Rattle.trap_runtime.specs.cell_form.specs.declared.bank.Port.{Port}
use Rattle.trap_runtime.specs.cell_form.specs.Data.{BankData}
use Rattle.reg_ports.specs.Elsewhere.{names_register, CopiesAgree}
use Rattle.reg_ports.specs.Ports.{word_count, held, IsThere, AreApart}
use Rattle.snap_form.specs.Spelling as snap
use Rattle.sub_runs.specs.Memories.{is_mem}
use Rattle.ten_form.specs.Registers.{value_register, work_register, place}
use Rattle.ten_core.specs.Ports.{port_of, ports_from, snap_row}

-- ---- kinds

pub is-var-or-mem : (kind : SigKind) → is_kept kind ≡ true → (kind ≡ Var) ⊎ (kind ≡ Mem)
is-var-or-mem Net e = let z : ⊥ = cc in absurd z
is-var-or-mem Var e = inl refl
is-var-or-mem Comb e = let z : ⊥ = cc in absurd z
is-var-or-mem Loop e = let z : ⊥ = cc in absurd z
is-var-or-mem Mem e = inr refl
is-var-or-mem Clock e = let z : ⊥ = cc in absurd z

pub is-memory : (kind : SigKind) → IsMem kind → kind ≡ Mem
is-memory Net h = absurd h
is-memory Var h = absurd h
is-memory Comb h = absurd h
is-memory Loop h = absurd h
is-memory Mem h = refl
is-memory Clock h = absurd h

value-place : (kind : SigKind) (k : ℕ) → is_mem kind ≡ false → place value_register kind k ≡ value_register k
value-place Mem k e = let z : ⊥ = cc in absurd z
value-place Net k e = refl
value-place Var k e = refl
value-place Comb k e = refl
value-place Loop k e = refl
value-place Clock k e = refl

work-place : (kind : SigKind) (k : ℕ) → is_mem kind ≡ false → place work_register kind k ≡ work_register k
work-place Mem k e = let z : ⊥ = cc in absurd z
work-place Net k e = refl
work-place Var k e = refl
work-place Comb k e = refl
work-place Loop k e = refl
work-place Clock k e = refl

memory-place : (kind : SigKind) (k : ℕ) → is_mem kind ≡ true → place value_register kind k ≡ k
memory-place Mem k e = refl
memory-place Net k e = let z : ⊥ = cc in absurd z
memory-place Var k e = let z : ⊥ = cc in absurd z
memory-place Comb k e = let z : ⊥ = cc in absurd z
memory-place Loop k e = let z : ⊥ = cc in absurd z
memory-place Clock k e = let z : ⊥ = cc in absurd z

-- ---- a port

-- a port by its kind
abbrev port_by : ℕ → Row → SigKind → Port
port_by k r kind = record {
  mem = is_mem kind;
  value = place value_register kind k;
  work = place work_register kind k;
  width = r.width;
  words = snap_words kind r.words;
}

pub held-mem : (b : BankData) (k : ℕ) (r : Row) → r.kind ≡ Mem → held b (port_of k r) ≡ take r.words (slice_index_or b.mems k [])
held-mem b k r e = ap (λ (kind : SigKind). held b (port_by k r kind)) e

pub held-var : (b : BankData) (k : ℕ) (r : Row) → r.kind ≡ Var → held b (port_of k r) ≡ slice_index b.regs (work_register k) ∷ []
held-var b k r e = ap (λ (kind : SigKind). held b (port_by k r kind)) e

pub there-var : (b : BankData) (k : ℕ) (r : Row) → r.kind ≡ Var → work_register k < length b.regs → IsThere b (port_of k r)
there-var b k r e lt =
    let P : SigKind → Type 0 = λ kind. IsThere b (port_by k r kind) in
    subst P (sym e) (record { registers = λ m. (omega (arith, lt), lt); memory = λ m. absurd (cc) })

pub there-mem : (b : BankData) (k : ℕ) (r : Row) → r.kind ≡ Mem → k < length b.mems → r.words ≤ length (slice_index_or b.mems k []) → IsThere b (port_of k r)
there-mem b k r e lt long =
    let P : SigKind → Type 0 = λ kind. IsThere b (port_by k r kind) in
    subst P (sym e) (record { registers = λ m. absurd (cc); memory = λ m. (lt, long) })

pub copies-var : (b : BankData) (k : ℕ) (r : Row) → r.kind ≡ Var → CopiesAgree b (port_of k r) → slice_index b.regs (value_register k) ≡ slice_index b.regs (work_register k)
copies-var b k r e h =
    let P : SigKind → Type 0 = λ kind. CopiesAgree b (port_by k r kind) in
    subst P e h refl

-- what is no memory has one word
abbrev pub OneWord : Row → Type 0
OneWord r = HasValue r.kind → r.words ≡ 1

pub count-is : (k : ℕ) (r : Row) → is_kept r.kind ≡ true → OneWord r → word_count (port_of k r) ≡ r.words
count-is k r kept one = elim (is-var-or-mem r.kind kept) [
  | inl e ↦ ap (λ (kind : SigKind). word_count (port_by k r kind)) e ∙ sym (one (subst HasValue (sym e) tt))
  | inr e ↦ ap (λ (kind : SigKind). word_count (port_by k r kind)) e
]

at-least-one : (n : ℕ) → 1 ≤ n → (if n == 0 then 1 else n) ≡ n
at-least-one n h = at (n == 0) refl
  where
    at : (b : Bool) → (n == 0) ≡ b → (if b then 1 else n) ≡ n
    at true e = let none = eqb-true n 0 e in absurd (omega (arith, none, h))
    at false e = refl

pub snap-count : (r : Row) → is_kept r.kind ≡ true → OneWord r → 1 ≤ r.words → snap.word_count (snap_row r) ≡ r.words
snap-count r kept one some =
    let count : SigKind → ℕ = λ kind. snap.word_count (record { name = r.name; width = r.width; words = snap_words kind r.words }) in
    elim (is-var-or-mem r.kind kept) [
      | inl e ↦ ap count e ∙ sym (one (subst HasValue (sym e) tt))
      | inr e ↦ ap count e ∙ at-least-one r.words some
    ]

pub ports-apart : (k n : ℕ) (r x : Row) → k < n → AreApart (port_of k r) (port_of n x)
ports-apart k n r x lt = record {
  registers = λ p q.
      let a = value-place r.kind k p in
      let b = work-place r.kind k p in
      let c = value-place x.kind n q in
      let d = work-place x.kind n q in
      (λ e. omega (arith, a, b, c, d, e), λ e. omega (arith, a, b, c, d, e), λ e. omega (arith, a, b, c, d, e), λ e. omega (arith, a, b, c, d, e));
  memories = λ p q.
      let a = memory-place r.kind k p in
      let b = memory-place x.kind n q in
      λ e. omega (arith, a, b, e);
}

-- ---- rows by their numbers

pub row-at : (P : Row → Type 0) (rows : List Row) (k : ℕ) (r : Row) → AllByRecursion P rows → slice_get rows k ≡ Some r → P r
row-at P [] k r h e = let z : ⊥ = cc in absurd z
row-at P (x ∷ rows) zero r h e = subst P (same_Some x r e) h.0
row-at P (x ∷ rows) (suc k) r h e = row-at P rows k r h.1 e

pub rows-all : (P : Row → Type 0) (rows : List Row) → ((k : ℕ) (r : Row) → slice_get rows k ≡ Some r → P r) → AllByRecursion P rows
rows-all P [] h = tt
rows-all P (x ∷ rows) h = (h zero x refl, rows-all P rows (λ k r e. h (suc k) r e))

-- what a number names
pub record Named (P : SigKind → Type 0) (o : Option Row) : Type 0 where
  pub row : Row
  pub is : o ≡ Some row
  pub kind : P row.kind
  pub width : IsWidth row.width

pub named : (P : SigKind → Type 0) (o : Option Row) → IsOf P o → Named P o
named P None h = absurd h
named P (Some r) h = record { row = r; is = refl; kind = h.0; width = h.1 }

pub names : (P : SigKind → Type 0) (rows : List Row) (k : ℕ) (r : Row) (kind : SigKind) → slice_get rows k ≡ Some r → r.kind ≡ kind → P kind → IsWidth r.width → IsOf P (slice_get rows k)
names P rows k r kind is e h w = subst (IsOf P) (sym is) (subst P (sym e) h, w)

-- ---- all ports

-- what holds of the port of each kept signal
abbrev pub OfKept : (Port → Type 0) → ℕ → List Row → Type 0
OfKept Q k rows = (j n : ℕ) (r : Row) → n ≡ k + j → slice_get rows j ≡ Some r → is_kept r.kind ≡ true → Q (port_of n r)

pub next-kept : (Q : Port → Type 0) (k : ℕ) (r : Row) (rs : List Row) → OfKept Q k (r ∷ rs) → OfKept Q (k + 1) rs
next-kept Q k r rs h j n x e i kept = h (suc j) n x (omega (arith, e)) i kept

pub each-port : (Q : Port → Type 0) (k : ℕ) (rows : List Row) → OfKept Q k rows → AllByRecursion Q (ports_from k rows)
each-port Q k [] h = tt
each-port Q k (r ∷ rs) h = at (each-port Q (k + 1) rs (next-kept Q k r rs h)) (is_kept r.kind) refl
  where
    at : AllByRecursion Q (ports_from (k + 1) rs) → (b : Bool) → is_kept r.kind ≡ b → AllByRecursion Q (if b then port_of k r ∷ ports_from (k + 1) rs else ports_from (k + 1) rs)
    at others true e = (h zero k r (omega arith) refl e, others)
    at others false e = others

later-ports : (Q : Port → Type 0) (k : ℕ) (r : Row) (rs : List Row) (b : Bool) → AllByRecursion Q (if b then port_of k r ∷ ports_from (k + 1) rs else ports_from (k + 1) rs) → AllByRecursion Q (ports_from (k + 1) rs)
later-ports Q k r rs true h = h.1
later-ports Q k r rs false h = h

pub port-at : (Q : Port → Type 0) (k : ℕ) (rows : List Row) → AllByRecursion Q (ports_from k rows) → OfKept Q k rows
port-at Q k [] h j n x e i kept = let z : ⊥ = cc in absurd z
port-at Q k (r ∷ rs) h zero n x e i kept = at (is_kept r.kind) refl h
  where
    here : k ≡ n
    here = omega (arith, e)

    at : (b : Bool) → is_kept r.kind ≡ b → AllByRecursion Q (if b then port_of k r ∷ ports_from (k + 1) rs else ports_from (k + 1) rs) → Q (port_of n x)
    at true f own = subst (λ (m : ℕ). Q (port_of m x)) here (subst (λ (y : Row). Q (port_of k y)) (same_Some r x i) own.0)
    at false f others =
        let same = ap (λ (y : Row). is_kept y.kind) (same_Some r x i) in
        let z : ⊥ = cc (f, kept, same) in absurd z
port-at Q k (r ∷ rs) h (suc j) n x e i kept = port-at Q (k + 1) rs (later-ports Q k r rs (is_kept r.kind) h) j n x (omega (arith, e)) i kept

pub all-apart : (k : ℕ) (rows : List Row) → AllPairs AreApart (ports_from k rows)
all-apart k [] = λ i j d lt within. absurd (omega arith)
all-apart k (r ∷ rs) = at (all-apart (k + 1) rs) (is_kept r.kind)
  where
    first : AllByRecursion (AreApart (port_of k r)) (ports_from (k + 1) rs)
    first = each-port (AreApart (port_of k r)) (k + 1) rs (λ j n x e i kept. ports-apart k n r x (omega (arith, e)))

    at : AllPairs AreApart (ports_from (k + 1) rs) → (b : Bool) → AllPairs AreApart (if b then port_of k r ∷ ports_from (k + 1) rs else ports_from (k + 1) rs)
    at others true = AllPairs-cons AreApart (port_of k r) (ports_from (k + 1) rs) (All-from_recursion (AreApart (port_of k r)) (ports_from (k + 1) rs) first) others
    at others false = others

-- ---- registers that no port names

none-of : (test : Port → Bool) (ports : List Port) → AllByRecursion (λ p. test p ≡ false) ports → list_any test ports ≡ false
none-of test [] h = refl
none-of test (p ∷ ports) h = ap (λ b. b || list_any test ports) h.0 ∙ none-of test ports h.1

neither : (a b : Bool) → (a ≡ true → ⊥) → (b ≡ true → ⊥) → (a || b) ≡ false
neither true b h g = absurd (h refl)
neither false true h g = absurd (g refl)
neither false false h g = refl

not-named : (m : Bool) (v w r : ℕ) → (m ≡ false → (v ≢ r) × (w ≢ r)) → (not m && ((v == r) || (w == r))) ≡ false
not-named true v w r h = refl
not-named false v w r h = neither (v == r) (w == r) (λ e. (h refl).0 (eqb-true v r e)) (λ e. (h refl).1 (eqb-true w r e))

-- no kept signal has the register
pub no-port : (r : ℕ) (rows : List Row) → ((j : ℕ) (x : Row) → slice_get rows j ≡ Some x → is_kept x.kind ≡ true → (value_register j ≢ r) × (work_register j ≢ r)) →
    list_any (names_register r) (ports_from 0 rows) ≡ false
no-port r rows h =
    none-of (names_register r) (ports_from 0 rows)
    (each-port (λ p. names_register r p ≡ false) 0 rows (λ j n x e i kept.
    let far = h j x i kept in
    let p = port_of n x in
    not-named p.mem p.value p.work r (λ m.
    let a = value-place x.kind n m in
    let b = work-place x.kind n m in
    (λ f. far.0 (omega (arith, a, e, f)), λ f. far.1 (omega (arith, b, e, f))))))
