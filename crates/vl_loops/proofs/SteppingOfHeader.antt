-- What the assignments of a header do to the numbers of loop variables.
use Rattle.std.proofs.Common.{◌≡◌, ◌≢◌, ◌⊎◌, inl, inr, ◌<◌, ◌+◌, ◌*◌, ◌/◌, ◌%◌, ◌^◌, pos, ℕ, zero, suc, true, List, [], ◌∷◌, length, refl, sym, ap, ◌∙◌, subst, arith}
use Rattle.std.specs.Prelude.{slice_set, slice_index, min}
use Rattle.std.proofs.lemmas.List.{length-set}
use Rattle.std.proofs.Math.Nat.{mod-one, mul-add-mod_self_right, mod-eq_of_lt}
use Rattle.std.proofs.lemmas.Bool.{cases_eq}
use Rattle.vl_base.specs.Selects.{placed, with_part}
use Rattle.vl_base.specs.declared.bits.UnOp.TheVariants.{LogNot}
use Rattle.vl_design.specs.Syntax as d
use Rattle.vl_design.specs.Width.{Scope, form, assigned, signal_form}
use Rattle.vl_design.specs.Value.{value, words_of}
use Rattle.vl_design.specs.Exec.{exec}
use Rattle.vl_design.specs.Functions.{fresh}
use Rattle.vl_design.specs.Plain.{plain_scope}
use Rattle.vl_design.specs.Sound.{IsSoundExp}
use Rattle.vl_design.specs.Placed as p
use Rattle.vl_design.specs.Plainly as plain
use Rattle.vl_loops.specs.Unroll.{is_loop}
use Rattle.vl_loops.specs.Fits.{IsHeader}
use Rattle.vl_loops.specs.Heads.{IsHead}
use Rattle.vl_loops.specs.Rooms.{values_of, state_of, sample_of, AreNumbers}
pub use Rattle.vl_loops.proofs.Names.{loop-there}

-- a whole word is written, whatever was there
whole-word : (w a part : ℕ) → part < 2 ^ w → placed w a (pos 0) w part ≡ part
whole-word w a part below = at (min 0 w) (omega arith)
  where
    alone : with_part a 0 w part % 2 ^ w ≡ part
    alone =
        let z : 0 + w ≡ w = omega arith in
        let y : a % 2 ^ 0 ≡ 0 = mod-one a in
        let v : a / 2 ^ w * 2 ^ w + part * 2 ^ 0 + 0 ≡ a / 2 ^ w * 2 ^ w + part = omega arith in
        ap (λ n. (a / 2 ^ n * 2 ^ n + part * 2 ^ 0 + a % 2 ^ 0) % 2 ^ w) z ∙ (ap (λ n. (a / 2 ^ w * 2 ^ w + part * 2 ^ 0 + n) % 2 ^ w) y ∙ (ap (λ n. n % 2 ^ w) v ∙ (mul-add-mod_self_right (a / 2 ^ w) (2 ^ w) part ∙ mod-eq_of_lt below)))

    at : (m : ℕ) → m ≡ 0 → with_part a m w part % 2 ^ w ≡ part
    at m e = rw e alone

words-there : (ns : List ℕ) (j : ℕ) → j < length ns → words_of (values_of ns) j ≡ slice_index ns j ∷ []
words-there [] j h = absurd (omega arith)
words-there (n ∷ ns) zero h = refl
words-there (n ∷ ns) (suc j) h = words-there ns j (omega arith)

values-set : (ns : List ℕ) (j v : ℕ) → slice_set (values_of ns) j (v ∷ []) ≡ values_of (slice_set ns j v)
values-set [] j v = refl
values-set (n ∷ ns) zero v = refl
values-set (n ∷ ns) (suc j) v = ap (λ z. (n ∷ []) ∷ z) (values-set ns j v)

-- a blocking assignment to a loop variable sets its number
set-number : (scope : Scope) (ns : List ℕ) (j v : ℕ) (x : d.Exp) → j < length ns →
    v ≡ value scope (sample_of ns) x (assigned (signal_form scope.names.rows j).width (form scope.names x)) % 2 ^ (signal_form scope.names.rows j).width → v < 2 ^ (signal_form scope.names.rows j).width →
    exec scope (d.Set (d.Whole j) x) (state_of ns) ≡ state_of (slice_set ns j v)
set-number scope ns j v x there e below =
    let w = (signal_form scope.names.rows j).width in
    let u = value scope (sample_of ns) x (assigned w (form scope.names x)) in
    let one : u / 2 ^ 0 ≡ u = omega arith in
    let q : u / 2 ^ 0 % 2 ^ w ≡ v = ap (λ z. z % 2 ^ w) one ∙ sym e in
    ap (λ z. fresh (slice_set (values_of ns) j (slice_set (words_of (values_of ns) j) 0 (placed w (slice_index (words_of (values_of ns) j) 0) (pos 0) w z)))) q
    ∙ (ap (λ z. fresh (slice_set (values_of ns) j (slice_set (words_of (values_of ns) j) 0 z))) (whole-word w _ v below)
    ∙ (ap (λ z. fresh (slice_set (values_of ns) j (slice_set z 0 v))) (words-there ns j there)
    ∙ ap fresh (values-set ns j v)))

-- ---- the plain tree of a header's assignment

source-plain : (q : List ℕ) (x : p.Exp) (rows : List d.Row) (b : d.Stm) → IsHeader rows (plain.exp x) → plain.called_first q x b ≡ b
source-plain q (p.Sys at name given) rows b h = absurd h
source-plain q (p.Un o LogNot (p.Sys at name given)) rows b h = absurd h
source-plain q x rows b h = refl

source_of : p.Stm → d.Exp
source_of (p.Set at t x) = plain.exp x
source_of a = d.Time

pub head-plain : (scope : Scope) (j : ℕ) (at : _) (t : p.Target) (x : p.Exp) → IsHead scope.names j (p.Set at t x) → plain.stm [] (p.Set at t x) ≡ d.Set (d.Whole j) (plain.exp x)
head-plain scope j at (p.Whole q k) x h = source-plain [] x scope.names.rows _ h.1 ∙ ap (λ z. d.Set (d.Whole z) (plain.exp x)) h.0
head-plain scope j at (p.WordAt q m a) x h = absurd h
head-plain scope j at (p.PickAt q b i from w) x h = absurd h
head-plain scope j at (p.SliceAt q b low w) x h = absurd h
head-plain scope j at (p.Several q ts) x h = absurd h

pub head-source : (scope : Scope) (j : ℕ) (at : _) (t : p.Target) (x : p.Exp) → IsHead scope.names j (p.Set at t x) → IsHeader scope.names.rows (plain.exp x) × IsSoundExp scope.names (plain.exp x)
head-source scope j at (p.Whole q k) x h = (h.1, h.2)
head-source scope j at (p.WordAt q m a) x h = absurd h
head-source scope j at (p.PickAt q b i from w) x h = absurd h
head-source scope j at (p.SliceAt q b low w) x h = absurd h
head-source scope j at (p.Several q ts) x h = absurd h

-- ---- numbers after an assignment

-- ---- turns

pub set-twice : (ns : List ℕ) (j v u : ℕ) → slice_set (slice_set ns j v) j u ≡ slice_set ns j u
set-twice [] j v u = refl
set-twice (n ∷ ns) zero v u = refl
set-twice (n ∷ ns) (suc j) v u = ap (λ z. n ∷ z) (set-twice ns j v u)

pub set-same : (ns : List ℕ) (j : ℕ) → slice_set ns j (slice_index ns j) ≡ ns
set-same [] j = refl
set-same (n ∷ ns) zero = refl
set-same (n ∷ ns) (suc j) = ap (λ z. n ∷ z) (set-same ns j)

pub step-state : (rows : List d.Row) (ns : List ℕ) (j v : ℕ) (a : p.Stm) (at : _) (t : p.Target) (x : p.Exp) → a ≡ p.Set at t x → IsHead (plain_scope rows).names j a → is_loop rows j ≡ true → AreNumbers rows ns →
    v ≡ value (plain_scope rows) (sample_of ns) (plain.exp x) (assigned (signal_form rows j).width (form (plain_scope rows).names (plain.exp x))) % 2 ^ (signal_form rows j).width → v < 2 ^ (signal_form rows j).width →
    exec (plain_scope rows) (plain.stm [] a) (state_of ns) ≡ state_of (slice_set ns j v)
step-state rows ns j v a at t x e h m n f below =
    let k : IsHead (plain_scope rows).names j (p.Set at t x) = subst (IsHead (plain_scope rows).names j) e h in
    ap (λ z. exec (plain_scope rows) (plain.stm [] z) (state_of ns)) e
    ∙ (ap (λ z. exec (plain_scope rows) z (state_of ns)) (head-plain (plain_scope rows) j at t x k)
    ∙ set-number (plain_scope rows) ns j v (plain.exp x) (loop-there rows ns j n m) f below)

pub others-set : (ns : List ℕ) (j v u : ℕ) → slice_set ns j u ≡ slice_set (slice_set ns j v) j u
others-set ns j v u = sym (set-twice ns j v u)

pub ruleset steps = (loop-there, others-set)
