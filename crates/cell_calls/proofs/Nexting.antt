-- Choices of numbers in slots.
use Rattle.std.proofs.Common.{◌≡◌, ℕ, ◌+◌, Bool, true, false, refl, sym, ap, ◌∙◌, arith}
use Rattle.std.specs.Prelude.{◌==◌, if◌then◌else◌, not}
use Rattle.vl_design.specs.declared.design.Form.{Form}
use Rattle.vl_design.specs.Exec.{some_match}
use Rattle.vl_design.specs.Syntax.{Exps}
use Rattle.vl_design.specs.Value.{Sample}
use Rattle.vl_design.specs.Width.{Names, Scope}
use Rattle.cell_emit.specs.cell_form.specs.Data.{ListData, BankData}
use Rattle.cell_emit.specs.cell_form.specs.Sound.{Shape}
use Rattle.cell_emit.specs.Slots.{held, width_at, AreSound, Grows, Longer, Gives, Nothing}
use Rattle.cell_emit.proofs.Frames.{held-stays, width-stays, longer-grows, longer-then, longer-weaken, grows-then, gives-as}
use Rattle.cell_emit.specs.Envs.{Env, Fits, HasMemories, Stands}
use Rattle.cell_emit.specs.Cases.{Compares}
use Rattle.cell_emit.proofs.Staying.{sound-before, longer-plain, stands-stays, is-slot-stays, always-stays}
use Rattle.cell_expr.specs.Compiled.{Holds}
use Rattle.cell_expr.proofs.Holding.{holds-wider, holds-then, holds-node}

if-same : {A : Type 0} (a b : Bool) (x y z w : A) → a ≡ b → x ≡ z → y ≡ w → (if a then x else y) ≡ (if b then z else w)
if-same a b x y z w e f g = rw e (rw f (rw g refl))

module _ (names : Names) (at : Env) where
  -- the second of two numbers where a slot holds 0, else the first
  pub holds-branch : (n w v : ℕ) (f : Sample → ℕ) (l0 l1 l2 l3 l4 : ListData) (test one-slot two-slot r first second : ℕ) → Fits names l0 at → Holds names n at l0 l1 test w f → Gives Nothing 1 l1 l2 one-slot 32 (λ b. first) → Gives Nothing 1 l2 l3 two-slot 32 (λ b. second) →
      v ≡ 32 → Gives Nothing 1 l3 l4 r v (λ b. if held b l3 test == 0 then held b l3 two-slot else held b l3 one-slot) → Holds names (n + 3) at l0 l4 r 32 (λ x. if f x == 0 then second else first)
  holds-branch n w v f l0 l1 l2 l3 l4 test one-slot two-slot r first second fits h one two is choice =
      let H : Shape → Type 0 = HasMemories names at in
      let g12 = longer-grows Nothing 1 l1 l2 one.longer in
      let g23 = longer-grows Nothing 1 l2 l3 two.longer in
      let l13 = longer-then H 1 1 l1 l2 l3 (longer-plain names at 1 1 l1 l2 (omega arith) one.longer) (longer-plain names at 1 1 l2 l3 (omega arith) two.longer) in
      let h3 = holds-then names at n 2 l0 l1 l3 test w f l13 h in
      holds-wider names at (n + 2 + 1) (n + 3) l0 l4 r 32 _ (omega arith)
      (holds-node names at Nothing (n + 2) 1 l0 l3 l4 r 32 _ _ (λ s t. tt) fits h3.longer
      (gives-as Nothing 1 l3 l4 r v 32 _ _ is (λ s b sound. refl) choice)
      (λ s t b x sound behind st later.
      let s2 = sound-before t l2 l3 g23 behind in
      let s1 = sound-before t l1 l2 g12 s2 in
      if-same (held b l3 test == 0) (f x == 0) (held b l3 two-slot) (held b l3 one-slot) second first (ap (λ z. z == 0) (h3.value s b x sound st))
      (two.value t b s2) (held-stays b l2 l3 one-slot g23 one.there ∙ one.value t b s1)))

  -- one more way: its number where a label of it matches, else the one found so far
  pub holds-way : (scope : Scope) (c : Form) (m n k w v : ℕ) (es : Exps) (f g : Sample → ℕ) (l0 l l1 l2 l3 : ListData) (next subject here behind to r node : ℕ) → scope.names ≡ names → Fits names l0 at → Holds names m at l0 l next 32 f → Holds names k at l0 l subject w g →
      here ≡ at.here → Compares names n scope c subject es here behind at l l1 → Gives Nothing 1 l1 l2 to 32 (λ b. node) → v ≡ 32 →
      Gives Nothing 1 l2 l3 r v (λ b. if held b l2 behind == 0 then held b l2 next else held b l2 to) → Holds names (m + (n + 2)) at l0 l3 r 32 (λ x. if some_match scope x c (g x) es then node else f x)
  holds-way scope c m n k w v es f g l0 l l1 l2 l3 next subject here behind to r node same fits h subj is-here cmp num is choice =
      let H : Shape → Type 0 = HasMemories names at in
      let g0 = longer-grows H m l0 l h.longer in
      let g1 = longer-grows H n l l1 cmp.longer in
      let g12 = longer-grows Nothing 1 l1 l2 num.longer in
      let l02 = longer-then H n 1 l l1 l2 cmp.longer (longer-plain names at 1 1 l1 l2 (omega arith) num.longer) in
      let h2 = holds-then names at m (n + 1) l0 l l2 next 32 f l02 h in
      holds-wider names at (m + (n + 1) + 1) (m + (n + 2)) l0 l3 r 32 _ (omega arith)
      (holds-node names at Nothing (m + (n + 1)) 1 l0 l2 l3 r 32 _ _ (λ s t. tt) fits h2.longer
      (gives-as Nothing 1 l2 l3 r v 32 _ _ is (λ s b sound. refl) choice)
      (λ s t b x sound behind' st later.
      let s1 = sound-before t l1 l2 g12 behind' in
      let s0 = sound-before t l l1 g1 s1 in
      let stl = stands-stays names b l0 l at x g0 fits st in
      let clear : held b l here ≡ 0 = ap (held b l) is-here ∙ held-stays b l0 l at.here g0 fits.here.there ∙ fits.is_here s b sound in
      let match : held b l1 behind ≡ (if some_match scope x c (g x) es then 1 else 0) =
      cmp.value t b x s0 stl ∙ ap (λ z. if some_match scope x c z es then 1 else held b l here) (subj.value s b x sound st) ∙ ap (λ z. if some_match scope x c (g x) es then 1 else z) clear in
      by-match (some_match scope x c (g x) es) (held b l2 behind) (held b l2 next) (held b l2 to) (f x)
      (held-stays b l1 l2 behind g12 cmp.slot.there ∙ match) (h2.value s b x sound st) (num.value t b s1)))
    where
      by-match : (q : Bool) (z y u fx : ℕ) → z ≡ (if q then 1 else 0) → y ≡ fx → u ≡ node → (if z == 0 then y else u) ≡ (if q then node else fx)
      by-match true z y u fx e e' e'' = rw e e''
      by-match false z y u fx e e' e'' = rw e e'

  -- what is compared stays
  pub holds-over : (m n k w v : ℕ) (g : Sample → ℕ) (F G : BankData → ℕ) (l0 l l1 l2 l3 : ListData) (subject to r : ℕ) → Holds names k at l0 l subject w g → Longer (HasMemories names at) n l l1 → Gives Nothing 1 l1 l2 to 32 F →
      Gives Nothing 1 l2 l3 r v G → Holds names (k + (n + 2)) at l0 l3 subject w g
  holds-over m n k w v g F G l0 l l1 l2 l3 subject to r h cmp num choice =
      let H : Shape → Type 0 = HasMemories names at in
      let l02 = longer-then H n 1 l l1 l2 cmp (longer-plain names at 1 1 l1 l2 (omega arith) num.longer) in
      let l03 = longer-then H (n + 1) 1 l l2 l3 l02 (longer-plain names at 1 1 l2 l3 (omega arith) choice.longer) in
      holds-wider names at (k + (n + 1 + 1)) (k + (n + 2)) l0 l3 subject w g (omega arith) (holds-then names at k (n + 1 + 1) l0 l l3 subject w g l03 h)

  -- a number by itself, behind what is compared
  pub holds-number : (n : ℕ) (node : ℕ) (l0 l1 l2 : ListData) (r : ℕ) → Fits names l0 at → Longer (HasMemories names at) n l0 l1 → Gives Nothing 1 l1 l2 r 32 (λ b. node) → Holds names (n + 1) at l0 l2 r 32 (λ x. node)
  holds-number n node l0 l1 l2 r fits longer gives = holds-node names at Nothing n 1 l0 l1 l2 r 32 (λ b. node) (λ x. node) (λ s t. tt) fits longer gives (λ s t b x sound behind' st later. refl)
