-- Expressions node by node.
use Rattle.std.proofs.Common.{◌≡◌, ℕ, ◌+◌, ◌*◌, ◌%◌, ◌^◌, ◌<◌, ◌≤◌, ℤ, Bool, true, false, refl, sym, ap, ◌∙◌, arith, subst, mod-lt}
use Rattle.std.specs.Prelude.{◌==◌, if◌then◌else◌, pos, negsuc}
use Rattle.std.proofs.Math.Pow.{pow_pos}
use Rattle.vl_base.specs.declared.bits.UnOp.{UnOp}
use Rattle.vl_base.specs.declared.bits.BinOp.{BinOp}
use Rattle.vl_base.specs.Value.{reading, resized, unary_value, unary_width, binary_value, binary_width, needs_one_width}
use Rattle.vl_base.specs.Selects.{picked}
use Rattle.vl_base.proofs.Bounds.{unary-below, binary-below}
use Rattle.vl_design.specs.declared.design.Form.{Form}
use Rattle.vl_design.specs.declared.design.LowestBit.{LowestBit}
use Rattle.vl_design.specs.Syntax.{Exp, Num, Label, Sig, Pick, Slice, Un, Bin, Cond, Cat, Rep, Cast, Time, LastAnswer, Exps}
use Rattle.vl_design.specs.Width.{Scope, form, total_width, signal_form, operand_form, left_form, right_form}
use Rattle.vl_design.specs.Value.{Sample, value, lowest_bit, repeated, side_by_side}
use Rattle.vl_design.specs.Sound.{IsSignal}
use Rattle.cell_emit.specs.cell_form.specs.Data.{ListData, BankData}
use Rattle.cell_emit.specs.cell_form.specs.Sound.{Shape}
use Rattle.cell_emit.specs.Slots.{held, width_at, AreSound, Gives, Nothing}
use Rattle.cell_emit.proofs.Frames.{held-fits, longer-same, longer-then}
use Rattle.cell_emit.specs.Counts.{resizes, copied}
use Rattle.cell_emit.proofs.Repeating.{repeated-below, product-wide}
use Rattle.cell_emit.proofs.Below.{side-below}
use Rattle.cell_emit.specs.Envs.{Env, entry, Fits, HasMemories, held_or, Stands}
use Rattle.cell_expr.specs.Compiled.{Holds, Compiles}
use Rattle.cell_expr.proofs.Holding.{resized-wide, holds-wider, holds-then, holds-behind, holds-fits, holds-node}
use Rattle.vl_base.proofs.Shared.{picked-below}

module _ (scope : Scope) (c : Form) (at : Env) where
  -- one slot of an operand
  one : (n k m : ℕ) (e : Exp) (f : Form) (v w : ℕ) (old mid new : ListData) (a r : ℕ) (F : BankData → ℕ) (g : Sample → ℕ) → Fits scope.names old at → n + k ≤ m → Compiles scope.names scope n e f at old mid a → Gives Nothing k mid new r c.width F →
      ((b : BankData) (x : Sample) → held b mid a ≡ value scope x e f → held b mid a < 2 ^ f.width → Stands scope.names b mid at x → F b ≡ g x) → Holds scope.names m at old new r c.width g
  one n k m e f v w old mid new a r F g fits le h gives same =
      holds-wider scope.names at (n + k) m old new r c.width g le
      (holds-node scope.names at Nothing n k old mid new r c.width F g (λ s t. tt) fits h.longer gives
      (λ s t b x sound behind st later. same b x (h.value s b x sound st) (holds-fits scope.names at n old mid a f.width (λ x. value scope x e f) h t b behind) later))

  -- no operand
  none : (k m : ℕ) (old new : ListData) (r : ℕ) (F : BankData → ℕ) (g : Sample → ℕ) → Fits scope.names old at → k ≤ m → Gives Nothing k old new r c.width F →
      ((s : Shape) (b : BankData) (x : Sample) → AreSound s old → Stands scope.names b old at x → F b ≡ g x) → Holds scope.names m at old new r c.width g
  none k m old new r F g fits le gives same =
      holds-wider scope.names at (0 + k) m old new r c.width g (omega (arith, le))
      (holds-node scope.names at Nothing 0 k old old new r c.width F g (λ s t. tt) fits (longer-same (HasMemories scope.names at) old) gives
      (λ s t b x sound behind st later. same s b x sound st))

  pub num-compiles : (v w : ℕ) (signed : Bool) (m : ℕ) (old new : ListData) (r : ℕ) → 1 ≤ m → Fits scope.names old at → Gives Nothing 1 old new r c.width (λ b. resized c.signed w c.width v) → Compiles scope.names scope m (Num v w signed) c at old new r
  num-compiles v w signed m old new r le fits g = none 1 m old new r _ _ fits le g (λ s b x sound st. refl)

  pub label-compiles : (v care w : ℕ) (signed : Bool) (m : ℕ) (old new : ListData) (r : ℕ) → 1 ≤ m → Fits scope.names old at → Gives Nothing 1 old new r c.width (λ b. resized c.signed w c.width v) → Compiles scope.names scope m (Label v care w signed) c at old new r
  label-compiles v care w signed m old new r le fits g = none 1 m old new r _ _ fits le g (λ s b x sound st. refl)

  pub signal-compiles : (k m : ℕ) (old new : ListData) (r : ℕ) → 1 ≤ m → IsSignal scope.names k → Fits scope.names old at →
      Gives Nothing 1 old new r c.width (λ b. resized c.signed (signal_form scope.names.rows k).width c.width (held_or b old (entry at k))) → Compiles scope.names scope m (Sig k) c at old new r
  signal-compiles k m old new r le is fits g = none 1 m old new r _ _ fits le g
      (λ s b x sound st. ap (resized c.signed (signal_form scope.names.rows k).width c.width) (sym (st.values k is)))

  pub time-compiles : (m : ℕ) (old new : ListData) (r : ℕ) → resizes 64 c.width ≤ m → 64 ≤ c.width → Fits scope.names old at →
      Gives Nothing (resizes (width_at old at.time) c.width) old new r c.width (λ b. resized false (width_at old at.time) c.width (held b old at.time)) → Compiles scope.names scope m Time c at old new r
  time-compiles m old new r le wide fits g = none (resizes (width_at old at.time) c.width) m old new r _ _ fits (subst (λ z. resizes z c.width ≤ m) (sym fits.time.width) le) g
      (λ s b x sound st. (
      let w = fits.time.width in
      let small : held b old at.time < 2 ^ 64 = subst (λ z. held b old at.time < 2 ^ z) w (held-fits s b old at.time sound fits.time.there) in
      ap (λ z. resized false z c.width (held b old at.time)) w ∙ resized-wide 64 c.width (held b old at.time) wide small ∙ st.time))

  pub answer-compiles : (m : ℕ) (old new : ListData) (r : ℕ) → resizes 32 c.width ≤ m → Fits scope.names old at →
      Gives Nothing (resizes (width_at old at.answer) c.width) old new r c.width (λ b. resized c.signed (width_at old at.answer) c.width (held b old at.answer)) → Compiles scope.names scope m LastAnswer c at old new r
  answer-compiles m old new r le fits g = none (resizes (width_at old at.answer) c.width) m old new r _ _ fits (subst (λ z. resizes z c.width ≤ m) (sym fits.answer.width) le) g
      (λ s b x sound st. ap (λ z. resized c.signed z c.width (held b old at.answer)) fits.answer.width ∙ ap (resized c.signed 32 c.width) st.answer)

  pub cast-compiles : (n m : ℕ) (signed : Bool) (e : Exp) (old mid new : ListData) (a r : ℕ) → n + resizes (form scope.names e).width c.width ≤ m → Fits scope.names old at → Compiles scope.names scope n e (form scope.names e) at old mid a →
      Gives Nothing (resizes (width_at mid a) c.width) mid new r c.width (λ b. resized c.signed (width_at mid a) c.width (held b mid a)) → Compiles scope.names scope m (Cast signed e) c at old new r
  cast-compiles n m signed e old mid new a r le fits h g =
      one n (resizes (width_at mid a) c.width) m e (form scope.names e) 0 0 old mid new a r _ _ fits (subst (λ z. n + resizes z c.width ≤ m) (sym h.slot.width) le) h g
      (λ b x is small st. ap (λ z. resized c.signed z c.width (held b mid a)) h.slot.width ∙ ap (resized c.signed (form scope.names e).width c.width) is)

  pub slice-compiles : (n m : ℕ) (e : Exp) (low : ℤ) (w : ℕ) (old mid new : ListData) (a r : ℕ) → n + (1 + resizes w c.width) ≤ m → w ≤ c.width → Fits scope.names old at → Compiles scope.names scope n e (form scope.names e) at old mid a →
      Gives Nothing (1 + resizes w c.width) mid new r c.width (λ b. resized false w c.width (picked (width_at mid a) (held b mid a) low w)) → Compiles scope.names scope m (Slice e low w) c at old new r
  slice-compiles n m e low w old mid new a r le wide fits h g =
      one n (1 + resizes w c.width) m e (form scope.names e) 0 0 old mid new a r _ _ fits le h g
      (λ b x is small st. resized-wide w c.width _ wide (picked-below (width_at mid a) (held b mid a) low w)
      ∙ ap (λ z. picked z (held b mid a) low w) h.slot.width ∙ ap (λ v. picked (form scope.names e).width v low w) is)

  pub unary-compiles : (n m : ℕ) (op : UnOp) (e : Exp) (f : Form) (old mid new : ListData) (a r : ℕ) → n + (1 + resizes (unary_width op f.width) c.width) ≤ m → f ≡ operand_form op (form scope.names e) c → unary_width op f.width ≤ c.width → Fits scope.names old at → Compiles scope.names scope n e f at old mid a →
      Gives Nothing (1 + resizes (unary_width op (width_at mid a)) c.width) mid new r c.width (λ b. resized false (unary_width op (width_at mid a)) c.width (unary_value op (width_at mid a) (held b mid a))) →
      Compiles scope.names scope m (Un op e) c at old new r
  unary-compiles n m op e f old mid new a r le same wide fits h g =
      one n (1 + resizes (unary_width op (width_at mid a)) c.width) m e f 0 0 old mid new a r _ _ fits (subst (λ z. n + (1 + resizes (unary_width op z) c.width) ≤ m) (sym h.slot.width) le) h g
      (λ b x is small st.
      ap (λ z. resized false (unary_width op z) c.width (unary_value op z (held b mid a))) h.slot.width
      ∙ resized-wide (unary_width op f.width) c.width _ wide (unary-below op f.width (held b mid a))
      ∙ ap (unary_value op f.width) is
      ∙ ap (λ (z : Form). unary_value op z.width (value scope x e z)) same)

  -- two slots of operands
  two : (n m k j : ℕ) (d e : Exp) (f h : Form) (old mid far new : ListData) (a b r : ℕ) (F : BankData → ℕ) (g : Sample → ℕ) → Fits scope.names old at → n + m + k ≤ j → Compiles scope.names scope n d f at old mid a → Compiles scope.names scope m e h at mid far b →
      Gives Nothing k far new r c.width F →
      ((t : Shape) (z : BankData) (x : Sample) → AreSound t far → held z far a ≡ value scope x d f → width_at far a ≡ f.width → held z far b ≡ value scope x e h → width_at far b ≡ h.width → F z ≡ g x) → Holds scope.names j at old new r c.width g
  two n m k j d e f h old mid far new a b r F g fits le first second gives same =
      let one' = holds-then scope.names at n m old mid far a f.width (λ x. value scope x d f) second.longer first in
      let two' = holds-behind scope.names at n m old mid far b h.width (λ x. value scope x e h) fits first.longer second in
      holds-wider scope.names at (n + m + k) j old new r c.width g le
      (holds-node scope.names at Nothing (n + m) k old far new r c.width F g (λ s t. tt) fits one'.longer gives
      (λ s t z x sound behind st later. same t z x behind (one'.value s z x sound st) one'.slot.width (two'.value s z x sound st) two'.slot.width))

  pub pick-compiles : (n m j : ℕ) (d e : Exp) (from : LowestBit) (w : ℕ) (signed : Bool) (old mid far new : ListData) (a b r : ℕ) → n + m + (1 + resizes w c.width) ≤ j → signed ≡ (form scope.names e).signed → w ≤ c.width → Fits scope.names old at →
      Compiles scope.names scope n d (form scope.names d) at old mid a → Compiles scope.names scope m e (form scope.names e) at mid far b →
      Gives Nothing (1 + resizes w c.width) far new r c.width (λ z. resized false w c.width (picked (width_at far a) (held z far a) (lowest_bit from (reading signed (width_at far b) (held z far b))) w)) →
      Compiles scope.names scope j (Pick d e from w) c at old new r
  pick-compiles n m j d e from w signed old mid far new a b r le sign wide fits first second g =
      two n m (1 + resizes w c.width) j d e (form scope.names d) (form scope.names e) old mid far new a b r _ _ fits le first second g
      (λ t z x sound i iw k jw. resized-wide w c.width _ wide (picked-below (width_at far a) (held z far a) (lowest_bit from (reading signed (width_at far b) (held z far b))) w)
      ∙ rw (iw, jw, i, k, sign) refl)

  pub binary-compiles : (n m j : ℕ) (op : BinOp) (d e : Exp) (f h : Form) (old mid far new : ListData) (a b r : ℕ) → f ≡ left_form op (form scope.names d) (form scope.names e) c → h ≡ right_form op (form scope.names d) (form scope.names e) c →
      (needs_one_width op ≡ true → f.width ≡ h.width) → n + m + (1 + resizes (binary_width op f.width) c.width) ≤ j → binary_width op f.width ≤ c.width → Fits scope.names old at →
      Compiles scope.names scope n d f at old mid a → Compiles scope.names scope m e h at mid far b →
      Gives Nothing (1 + resizes (binary_width op (width_at far a)) c.width) far new r c.width (λ z. resized false (binary_width op (width_at far a)) c.width (binary_value op f.signed (width_at far a) (held z far a) (held z far b))) →
      Compiles scope.names scope j (Bin op d e) c at old new r
  binary-compiles n m j op d e f h old mid far new a b r left right one-width le wide fits first second g =
      let stays = holds-then scope.names at n m old mid far a f.width (λ x. value scope x d f) second.longer first in
      two n m (1 + resizes (binary_width op (width_at far a)) c.width) j d e f h old mid far new a b r _ _ fits (subst (λ z. n + m + (1 + resizes (binary_width op z) c.width) ≤ j) (sym stays.slot.width) le) first second g
      (λ t z x sound i iw k jw.
      let two' = holds-behind scope.names at n m old mid far b h.width (λ x. value scope x e h) fits first.longer second in
      let one' = holds-then scope.names at n m old mid far a f.width (λ x. value scope x d f) second.longer first in
      let small = holds-fits scope.names at (n + m) old far a f.width (λ x. value scope x d f) one' t z sound in
      let also = holds-fits scope.names at (n + m) old far b h.width (λ x. value scope x e h) two' t z sound in
      ap (λ y. resized false (binary_width op y) c.width (binary_value op f.signed y (held z far a) (held z far b))) iw
      ∙ resized-wide (binary_width op f.width) c.width _ wide (binary-below op f.signed f.width (held z far a) (held z far b) small (λ q. subst (λ y. held z far b < 2 ^ y) (sym (one-width q)) also))
      ∙ ap (λ y. binary_value op f.signed f.width y (held z far b)) i ∙ ap (binary_value op f.signed f.width (value scope x d f)) k
      ∙ ap (λ (y : Form). binary_value op y.signed y.width (value scope x d y) (value scope x e h)) left
      ∙ ap (λ (y : Form). (let l = left_form op (form scope.names d) (form scope.names e) c in binary_value op l.signed l.width (value scope x d l) (value scope x e y))) right)

  pub choice-compiles : (n m k j : ℕ) (t d e : Exp) (l0 l1 l2 l3 new : ListData) (test a b r : ℕ) → n + m + k + 1 ≤ j → Fits scope.names l0 at → Fits scope.names l1 at →
      Compiles scope.names scope n t (form scope.names t) at l0 l1 test → Compiles scope.names scope m d c at l1 l2 a → Compiles scope.names scope k e c at l2 l3 b →
      Gives Nothing (1 + resizes (width_at l3 a) c.width) l3 new r c.width (λ z. resized false (width_at l3 a) c.width (if held z l3 test == 0 then held z l3 b else held z l3 a)) →
      Compiles scope.names scope j (Cond t d e) c at l0 new r
  choice-compiles n m k j t d e l0 l1 l2 l3 new test a b r le fits fits1 tests first second g =
      let names = scope.names in
      let H : Shape → Type 0 = HasMemories names at in
      let F : Sample → ℕ = λ x. value scope x d c in
      let G : Sample → ℕ = λ x. value scope x e c in
      let T : Sample → ℕ = λ x. value scope x t (form scope.names t) in
      let l02 = longer-then H n m l0 l1 l2 tests.longer first.longer in
      let second' = holds-behind names at (n + m) k l0 l2 l3 b c.width G fits l02 second in
      let first' = holds-then names at (n + m) k l0 l2 l3 a c.width F second.longer (holds-behind names at n m l0 l1 l2 a c.width F fits tests.longer first) in
      let tests' = holds-then names at (n + m) k l0 l2 l3 test (form scope.names t).width T second.longer (holds-then names at n m l0 l1 l2 test (form scope.names t).width T first.longer tests) in
      let none-more : resizes (width_at l3 a) c.width ≡ 0 = rw first'.slot.width (same c.width) in
      holds-wider names at (n + m + k + (1 + resizes (width_at l3 a) c.width)) j l0 new r c.width (λ x. value scope x (Cond t d e) c) (omega (arith, none-more, le))
      (holds-node names at Nothing (n + m + k) (1 + resizes (width_at l3 a) c.width) l0 l3 new r c.width _ (λ x. value scope x (Cond t d e) c) (λ s t. tt) fits first'.longer g
      (λ s u z x sound behind st later.
      let is = tests'.value s z x sound st in
      let small = holds-fits names at (n + m + k) l0 l3 a c.width F first' u z behind in
      let also = holds-fits names at (n + m + k) l0 l3 b c.width G second' u z behind in
      ap (λ y. resized false y c.width (if held z l3 test == 0 then held z l3 b else held z l3 a)) first'.slot.width
      ∙ resized-wide c.width c.width _ (omega arith) (either (held z l3 test == 0) (held z l3 b) (held z l3 a) also small)
      ∙ ap (λ y. if y == 0 then held z l3 b else held z l3 a) is
      ∙ ap (λ y. if T x == 0 then y else held z l3 a) (second'.value s z x sound st)
      ∙ ap (λ y. if T x == 0 then G x else y) (first'.value s z x sound st)))
    where
      same : (w : ℕ) → resizes w w ≡ 0
      same w = let q : (w == w) ≡ true = grind arith in rw q refl

      either : (q : Bool) (y z : ℕ) → y < 2 ^ c.width → z < 2 ^ c.width → (if q then y else z) < 2 ^ c.width
      either true y z h k = h
      either false y z h k = k

  pub cat-compiles : (n m : ℕ) (es : Exps) (old mid new : ListData) (a r : ℕ) → n + resizes (total_width scope.names es) c.width ≤ m → total_width scope.names es ≤ c.width → Fits scope.names old at → Holds scope.names n at old mid a (total_width scope.names es) (λ x. side_by_side scope x es) →
      Gives Nothing (resizes (width_at mid a) c.width) mid new r c.width (λ b. resized false (width_at mid a) c.width (held b mid a)) → Compiles scope.names scope m (Cat es) c at old new r
  cat-compiles n m es old mid new a r le wide fits h g =
      let w = total_width scope.names es in
      holds-wider scope.names at (n + resizes (width_at mid a) c.width) m old new r c.width (λ x. side_by_side scope x es) (subst (λ z. n + resizes z c.width ≤ m) (sym h.slot.width) le)
      (holds-node scope.names at Nothing n (resizes (width_at mid a) c.width) old mid new r c.width _ (λ x. side_by_side scope x es) (λ s t. tt) fits h.longer g
      (λ s t b x sound behind st later. ap (λ z. resized false z c.width (held b mid a)) h.slot.width
      ∙ resized-wide w c.width (held b mid a) wide (holds-fits scope.names at n old mid a w (λ x. side_by_side scope x es) h t b behind) ∙ h.value s b x sound st))

  pub rep-compiles : (n m count : ℕ) (es : Exps) (old mid new : ListData) (a r : ℕ) → n + (copied count + resizes (count * total_width scope.names es) c.width) ≤ m → count * total_width scope.names es ≤ c.width → Fits scope.names old at →
      Holds scope.names n at old mid a (total_width scope.names es) (λ x. side_by_side scope x es) →
      Gives Nothing (copied count + resizes (count * width_at mid a) c.width) mid new r c.width (λ b. resized false (count * width_at mid a) c.width (repeated count (width_at mid a) (held b mid a))) →
      Compiles scope.names scope m (Rep count es) c at old new r
  rep-compiles n m count es old mid new a r le wide fits h g =
      let w = total_width scope.names es in
      let is : width_at mid a ≡ w = h.slot.width in
      holds-wider scope.names at (n + (copied count + resizes (count * width_at mid a) c.width)) m old new r c.width (λ x. repeated count w (side_by_side scope x es)) (subst (λ z. n + (copied count + resizes (count * z) c.width) ≤ m) (sym is) le)
      (holds-node scope.names at Nothing n (copied count + resizes (count * width_at mid a) c.width) old mid new r c.width _ (λ x. repeated count w (side_by_side scope x es)) (λ s t. tt) fits h.longer g
      (λ s t b x sound behind st later. ap (λ z. resized false (count * z) c.width (repeated count z (held b mid a))) is
      ∙ resized-wide (count * w) c.width _ wide (repeated-below count w (held b mid a) (holds-fits scope.names at n old mid a w (λ x. side_by_side scope x es) h t b behind)) ∙ ap (repeated count w) (h.value s b x sound st)))

  -- more copies, of parts that are extended
  pub rep-multiplies : (n m count own : ℕ) (es : Exps) (old mid new : ListData) (a r : ℕ) → n + 2 ≤ m → own ≡ total_width scope.names es → count * total_width scope.names es ≤ c.width → Fits scope.names old at →
      Holds scope.names n at old mid a c.width (λ x. side_by_side scope x es) →
      Gives Nothing 2 mid new r (width_at mid a) (λ b. held b mid a * repeated count own 1 % 2 ^ width_at mid a) →
      Compiles scope.names scope m (Rep count es) c at old new r
  rep-multiplies n m count own es old mid new a r le same wide fits h g =
      let w = total_width scope.names es in
      holds-wider scope.names at (n + 2) m old new r c.width (λ x. repeated count w (side_by_side scope x es)) le
      (holds-node scope.names at Nothing n 2 old mid new r c.width _ (λ x. repeated count w (side_by_side scope x es)) (λ s t. tt) fits h.longer
      (subst (λ z. Gives Nothing 2 mid new r z (λ b. held b mid a * repeated count own 1 % 2 ^ z)) h.slot.width g)
      (λ s t b x sound behind st later. ap (λ z. z * repeated count own 1 % 2 ^ c.width) (h.value s b x sound st) ∙ ap (λ z. side_by_side scope x es * repeated count z 1 % 2 ^ c.width) same
      ∙ product-wide c.width (side_by_side scope x es) count w (side-below scope x es) wide))
