-- Without a cycle of nets there is no cycle of calls.
use Rattle.std.proofs.Common.{◌≡◌, ℕ, zero, suc, ◌+◌, ◌<◌, Bool, true, false, List, [], ◌∷◌, ◌++◌, map, length, get_or, refl, sym, ap, ◌∙◌, subst, arith}
use Rattle.std.specs.Prelude.{◌⊎◌, ◌||◌, ◌&&◌, ◌==◌, Option, Some, None, slice_get}
use Rattle.std.proofs.lemmas.Option.{slice_get-get_or}
use mathlib.Core.Logic.{inl, inr}
use Rattle.vl_design.specs.First.{In, IsFirst}
use Rattle.vl_bits.specs.vl_paths.specs.Bits.{Bit}
use Rattle.vl_bits.specs.declared.parts.Part.{Part}
use Rattle.vl_bits.specs.Masks.{has, in_part, in_parts, AreOf}
use Rattle.cell_level.specs.declared.nets.Net.{Net}
use Rattle.cell_level.specs.Cycles.{Leads, IsOnCycle}
use Rattle.cell_level.specs.Nets as spec
use Rattle.vl_check.specs.declared.calls_calls.Call.{Call}
use Rattle.vl_check.specs.Nets.{part, IsNetOf, AreNetsOf}
use Rattle.vl_check.specs.Recursion.{Reaches}
use Rattle.vl_check.specs.Tables.{row, Step, IsClosed, IsCycleCall}
use Rattle.vl_check.proofs.Cycling.{row-below}
use Rattle.vl_design.specs.vl_base.proofs.Booleans.{or_right_true as or-there, or_left_true as or-here}
use Rattle.vl_design.specs.vl_base.proofs.Numbers.{equal_self as itself, lt_suc_cases as halves}

abbrev bit : ℕ → Bit
bit f = record { signal = f; place = 0 }

own-bit : (f : ℕ) → in_part (part f) (bit f) ≡ true
own-bit f = ap (λ z. z && has 1 0) (itself f)

called-bit : (calls : List Call) (c : Call) → In c calls → in_parts (map (λ (z : Call). part z.callee) calls) (bit c.callee) ≡ true
called-bit [] c h = absurd h
called-bit (d ∷ ds) c (inl e) = or-here (in_part (part d.callee) (bit c.callee)) (in_parts (map (λ (z : Call). part z.callee) ds) (bit c.callee)) (subst (λ (z : Call). in_part (part d.callee) (bit z.callee) ≡ true) e (own-bit d.callee))
called-bit (d ∷ ds) c (inr h) = or-there (in_part (part d.callee) (bit c.callee)) (in_parts (map (λ (z : Call). part z.callee) ds) (bit c.callee)) (called-bit ds c h)

module _ (rows : List (List Call)) (nets : List Net) (are : AreNetsOf rows (length rows) nets) (closed : IsClosed rows) where
  edge : (f g : ℕ) → Step rows f g → spec.Edge nets f g
  edge f g e =
      let m = are f (row-below rows f e.0 e.1) in
      let n = are g (subst (λ (z : ℕ). z < length rows) e.2 (closed f e.0 e.1)) in (
        bit g,
        ap (λ (z : Option Net). spec.net_drives z (bit g)) m.1 ∙ ap (λ (z : List Part). in_parts z (bit g)) m.2.1 ∙ subst (λ (z : ℕ). in_parts (map (λ (y : Call). part y.callee) (row rows f)) (bit z) ≡ true) e.2 (called-bit (row rows f) e.0 e.1),
        ap (λ (z : Option Net). spec.net_reads z (bit g)) n.1 ∙ ap (λ (z : List Part). in_parts z (bit g)) n.2.0 ∙ or-here (in_part (part g) (bit g)) false (own-bit g),
      )

  leads : (p : ℕ) (qs : List ℕ) (z : ℕ) → Leads (Step rows) p qs z → Leads (spec.Edge nets) p qs z
  leads p [] z w = edge p z w
  leads p (q ∷ qs) z w = (edge p q w.0, leads q qs z w.1)

  pub no-cycle : ((p : ℕ) → IsOnCycle (spec.Edge nets) p → ⊥) → (p : ℕ) → IsOnCycle (Step rows) p → ⊥
  no-cycle h p w = h p (w.0, leads p w.0 p w.1)

-- no call leads back
pub none-back : (rows : List (List Call)) → ((p : ℕ) → IsOnCycle (Step rows) p → ⊥) → IsFirst (IsCycleCall rows) None
none-back rows h = λ s w. by w.0 w.1 w.2 w.3.0
  where
    by : (f : ℕ) (c : Call) → In c (row rows f) → Reaches (Step rows) c.callee f → ⊥
    by f c i (inl e) = h f ([], (c, i, e))
    by f c i (inr w) = h f (c.callee ∷ w.0, ((c, i, refl), w.1))

-- ---- one net more

pub nets-none : (rows : List (List Call)) (nets : List Net) → AreNetsOf rows 0 nets
nets-none rows nets = λ f l. absurd (omega (arith, l))

get-last : (nets : List Net) (net : Net) → slice_get (nets ++ (net ∷ [])) (length nets) ≡ Some net
get-last [] net = refl
get-last (x ∷ xs) net = get-last xs net

get-before : (nets : List Net) (net x : Net) (k : ℕ) → slice_get nets k ≡ Some x → slice_get (nets ++ (net ∷ [])) k ≡ Some x
get-before [] net x k h = let z : ⊥ = cc in absurd z
get-before (y ∷ ys) net x zero h = h
get-before (y ∷ ys) net x (suc k) h = get-before ys net x k h

pub nets-more : (rows : List (List Call)) (nets all : List Net) (net : Net) (n : ℕ) (calls : List Call) → all ≡ nets ++ (net ∷ []) → length nets ≡ n → calls ≡ row rows n → IsNetOf n calls net → AreNetsOf rows n nets → AreNetsOf rows (n + 1) all
nets-more rows nets all net n calls e long here is are f l = by (halves f n l)
  where
    by : (f < n) ⊎ (f ≡ n) → (x : Net) × (slice_get all f ≡ Some x) × IsNetOf f (row rows f) x
    by (inl m) = let w = are f m in (w.0, ap (λ (z : List Net). slice_get z f) e ∙ get-before nets net w.0 f w.1, w.2)
    by (inr m) = (
      net,
      ap (λ (z : List Net). slice_get z f) e ∙ ap (slice_get (nets ++ (net ∷ []))) (m ∙ sym long) ∙ get-last nets net,
      subst (λ (z : ℕ). IsNetOf z (row rows z) net) (sym m) (subst (λ (z : List Call). IsNetOf n z net) here is),
    )

-- ---- their bits are of the functions

in-get : {X : Type 0} (xs : List X) (k : ℕ) (d : X) → k < length xs → In (get_or xs k d) xs
in-get [] k d l = absurd (omega arith)
in-get (x ∷ xs) zero d l = inl refl
in-get (x ∷ xs) (suc k) d l = inr (in-get xs k d (omega arith))

from-map : (calls : List Call) (p : Part) → In p (map (λ (z : Call). part z.callee) calls) → (c : Call) × In c calls × (part c.callee ≡ p)
from-map [] p h = absurd h
from-map (c ∷ cs) p (inl e) = (c, inl refl, e)
from-map (c ∷ cs) p (inr h) = let w = from-map cs p h in (w.0, inr w.1, w.2)

pub within : (rows : List (List Call)) (nets : List Net) (n : ℕ) → n ≡ length rows → length nets ≡ n → AreNetsOf rows n nets → IsClosed rows → spec.AreNets n nets
within rows nets n many long are closed k d l =
    let m : k < n = subst (λ (z : ℕ). k < z) long l in
    let w = are k m in
    let same : w.0 ≡ get_or nets k d = some (sym w.1 ∙ slice_get-get_or nets k d l) in
    subst (λ (net : Net). AreOf n net.reads.items × AreOf n net.drives.items) same (
      subst (λ (z : List Part). AreOf n z) (sym w.2.0) (λ j q h. own k m (get_or (part k ∷ []) j q) (in-get (part k ∷ []) j q h)),
      subst (λ (z : List Part). AreOf n z) (sym w.2.1) (λ j q h. called k (get_or (map (λ (z : Call). part z.callee) (row rows k)) j q) (in-get (map (λ (z : Call). part z.callee) (row rows k)) j q h)),
    )
  where
    some : {a b : Net} → Some a ≡ Some b → a ≡ b
    some h = cc

    own : (k : ℕ) → k < n → (x : Part) → In x (part k ∷ []) → x.signal < n
    own k m x (inl e) = subst (λ (z : Part). z.signal < n) e m
    own k m x (inr b) = absurd b

    called : (k : ℕ) (p : Part) → In p (map (λ (z : Call). part z.callee) (row rows k)) → p.signal < n
    called k p h = let w = from-map (row rows k) p h in subst (λ (z : Part). z.signal < n) w.2 (subst (λ (z : ℕ). w.0.callee < z) (sym many) (closed k w.0 w.1))
