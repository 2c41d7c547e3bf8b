-- Expressions are read operand by operand.
use Rattle.std.proofs.Common.{◌≡◌, ◌<◌, ◌≤◌, ◌%◌, ◌^◌, refl, ap, sym, ◌∙◌, ℕ, List, [], ◌∷◌, ◌++◌, Bool, append_assoc, arith, ℤ, length, get_or, take, drop, ◌-◌, ◌+◌, ◌*◌}
use Rattle.std.proofs.Math.Pow.{pow-add}
use Rattle.std.proofs.Math.Seq.{take-length}
use Rattle.std.specs.Prelude.{slice_get, if◌then◌else◌, ◌==◌}
use Rattle.vl_base.specs.declared.bits.UnOp.{UnOp}
use Rattle.vl_base.specs.declared.bits.BinOp.{BinOp}
use Rattle.vl_base.specs.Value.{reading, resized, unary_value, binary_value}
use Rattle.vl_base.specs.Selects.{picked, appended}
use Rattle.vl_design.specs.declared.design.Form.{Form}
use Rattle.vl_design.specs.declared.design.LowestBit.{LowestBit}
use Rattle.vl_design.specs.Syntax.{Exp, Num, Label, Sig, Word, Pick, Slice, Un, Bin, Cond, Cat, Rep, Cast, Call, Time, LastAnswer, Exps, NoExps, MoreExps}
use Rattle.vl_design.specs.Width.{Names, form, total_width, signal_form, result_form, operand_form, left_form, right_form, input_widths}
use Rattle.vl_design.specs.Value.{Sample, value, value_of, words_of, word_at, lowest_bit, repeated, arguments}
use Rattle.std.specs.Prelude.{slice_index}
use Rattle.std.proofs.Math.Nat.{mod-eq_of_lt}
use Rattle.vl_eval.specs.Answers.{Reads, ReadsAll, answers_of, all_answers}
use Rattle.std.proofs.Math.Nat.{mod-lt}
use Rattle.std.proofs.lemmas.Nat.{pow_pos}
use Rattle.vl_design.specs.Width.{Scope}
use Rattle.vl_eval.specs.Rooms.{scope_at, Fit}
pub use Rattle.vl_base.proofs.Shared.{appended-more}

module _ (names : Names) (s : Sample) (c : Form) (before : List ℕ) where
  pub reads-num : (v w : ℕ) (signed : Bool) → Reads names s (Num v w signed) c before (resized c.signed w c.width v) before
  reads-num v w signed = record { leads = λ files call rest fits e. (refl, e) }

  pub reads-label : (v care w : ℕ) (signed : Bool) → Reads names s (Label v care w signed) c before (resized c.signed w c.width v) before
  reads-label v care w signed = record { leads = λ files call rest fits e. (refl, e) }

  pub reads-signal : (k : ℕ) → Reads names s (Sig k) c before (resized c.signed (signal_form names.rows k).width c.width (value_of s.values k)) before
  reads-signal k = record { leads = λ files call rest fits e. (refl, e) }

  pub reads-time : Reads names s Time c before (s.time % 2 ^ 64) before
  reads-time = record { leads = λ files call rest fits e. (refl, e) }

  pub reads-answer : Reads names s LastAnswer c before (resized c.signed 32 c.width s.answer) before
  reads-answer = record { leads = λ files call rest fits e. (refl, e) }

  pub reads-word : (m : ℕ) (a : Exp) (v : ℕ) (left : List ℕ) → Reads names s a (form names a) before v left → Reads names s (Word m a) c before (resized c.signed (signal_form names.rows m).width c.width (slice_index (words_of s.values m) (word_at (slice_get names.rows m) (reading (form names a).signed (form names a).width v)))) left
  reads-word m a v left h = record { leads = λ files call rest fits e. let k = h.leads files call rest fits e in (rw (k.0) refl, k.1) }

  pub reads-pick : (b i : Exp) (from : LowestBit) (w v n : ℕ) (mid left : List ℕ) → Reads names s b (form names b) before v mid → Reads names s i (form names i) mid n left → Reads names s (Pick b i from w) c before (picked (form names b).width v (lowest_bit from (reading (form names i).signed (form names i).width n)) w) left
  reads-pick b i from w v n mid left h k = record {
    leads = λ files call rest fits e.
        let g = scope_at names files call in
        let x = h.leads files call _ fits (e ∙ append_assoc (answers_of g s b) (answers_of g s i) rest) in
        let y = k.leads files call rest fits x.1 in
        (rw (x.0, y.0) refl, y.1);
  }

  pub reads-slice : (b : Exp) (low : ℤ) (w v : ℕ) (left : List ℕ) → Reads names s b (form names b) before v left → Reads names s (Slice b low w) c before (picked (form names b).width v low w) left
  reads-slice b low w v left h = record { leads = λ files call rest fits e. let k = h.leads files call rest fits e in (rw (k.0) refl, k.1) }

  pub reads-unary : (op : UnOp) (a : Exp) (v : ℕ) (left : List ℕ) → Reads names s a (operand_form op (form names a) c) before v left → Reads names s (Un op a) c before (unary_value op (operand_form op (form names a) c).width v) left
  reads-unary op a v left h = record { leads = λ files call rest fits e. let k = h.leads files call rest fits e in (rw (k.0) refl, k.1) }

  pub reads-binary : (op : BinOp) (a b : Exp) (x y : ℕ) (mid left : List ℕ) → Reads names s a (left_form op (form names a) (form names b) c) before x mid → Reads names s b (right_form op (form names a) (form names b) c) mid y left → Reads names s (Bin op a b) c before (binary_value op (left_form op (form names a) (form names b) c).signed (left_form op (form names a) (form names b) c).width x y) left
  reads-binary op a b x y mid left h k = record {
    leads = λ files call rest fits e.
        let g = scope_at names files call in
        let p = h.leads files call _ fits (e ∙ append_assoc (answers_of g s a) (answers_of g s b) rest) in
        let q = k.leads files call rest fits p.1 in
        (rw (p.0, q.0) refl, q.1);
  }

  pub reads-choice : (t a b : Exp) (v x y : ℕ) (mid far left : List ℕ) → Reads names s t (form names t) before v mid → Reads names s a c mid x far → Reads names s b c far y left → Reads names s (Cond t a b) c before (if v == 0 then y else x) left
  reads-choice t a b v x y mid far left h k l = record {
    leads = λ files call rest fits e.
        let g = scope_at names files call in
        let p = h.leads files call _ fits (e ∙ append_assoc (answers_of g s t) (answers_of g s a ++ answers_of g s b) rest) in
        let q = k.leads files call _ fits (p.1 ∙ append_assoc (answers_of g s a) (answers_of g s b) rest) in
        let r = l.leads files call rest fits q.1 in
        (rw (p.0, q.0, r.0) refl, r.1);
  }

  pub reads-cat : (es : Exps) (v : ℕ) (left : List ℕ) → ReadsAll names s es before v left → Reads names s (Cat es) c before v left
  reads-cat es v left h = record { leads = λ files call rest fits e. h.leads files call rest fits e }

  pub reads-rep : (n : ℕ) (es : Exps) (v : ℕ) (left : List ℕ) → ReadsAll names s es before v left → Reads names s (Rep n es) c before (repeated n (total_width names es) v) left
  reads-rep n es v left h = record { leads = λ files call rest fits e. let k = h.leads files call rest fits e in (rw (k.0) refl, k.1) }

  pub reads-cast : (signed : Bool) (a : Exp) (v : ℕ) (left : List ℕ) → Reads names s a (form names a) before v left → Reads names s (Cast signed a) c before (resized c.signed (form names a).width c.width v) left
  reads-cast signed a v left h = record { leads = λ files call rest fits e. let k = h.leads files call rest fits e in (rw (k.0) refl, k.1) }

-- arguments are as assigned to inputs
pub arguments-fit : (scope : Scope) (s : Sample) (es : Exps) (ws : List ℕ) → Fit (arguments scope s es ws) ws
arguments-fit scope s NoExps ws = tt
arguments-fit scope s (MoreExps e es) [] = tt
arguments-fit scope s (MoreExps e es) (w ∷ ws) = (mod-lt _ (pow_pos w), arguments-fit scope s es ws)

-- a call's answer comes first
pub reads-call : (names : Names) (s : Sample) (c : Form) (f : ℕ) (es : Exps) (v : ℕ) (vs : List ℕ) → Reads names s (Call f es) c (v ∷ vs) (resized c.signed (result_form names f).width c.width (v % 2 ^ (result_form names f).width)) vs
reads-call names s c f es v vs = record {
  leads = λ files call rest fits e.
      let p : v ≡ call f (arguments (scope_at names files call) s es (input_widths names f)) = cc e in
      let q : vs ≡ rest = cc e in
      let small : v < 2 ^ (result_form names f).width = rw p (fits f (arguments (scope_at names files call) s es (input_widths names f)) (arguments-fit (scope_at names files call) s es (input_widths names f))) in
      (rw (mod-eq_of_lt small, p) refl, q);
}

-- nothing was left for the call
pub reads-none : (names : Names) (s : Sample) (c : Form) (f : ℕ) (es : Exps) (v : ℕ) (vs left : List ℕ) → length vs < 1 → Reads names s (Call f es) c vs v left
reads-none names s c f es v [] left h = record { leads = λ files call rest fits e. cc e }
reads-none names s c f es v (x ∷ xs) left h = absurd (omega arith)

-- a list is its first item and the rest
pub first-rest : (vs : List ℕ) → 1 ≤ length vs → vs ≡ get_or vs 0 0 ∷ take (length vs - 1) (drop 1 vs)
first-rest [] h = absurd (omega arith)
first-rest (x ∷ xs) h =
    let n : length (x ∷ xs) - 1 ≡ length xs = omega arith in
    rw n (ap (λ zs. x ∷ zs) (sym (take-length xs)))

pub reads-called : (names : Names) (s : Sample) (c : Form) (f : ℕ) (es : Exps) (calls : List ℕ) (v : ℕ) (vs : List ℕ) (w x y : ℕ) → calls ≡ v ∷ vs → w ≡ (result_form names f).width → y ≡ v % 2 ^ w → x ≡ resized c.signed w c.width y → Reads names s (Call f es) c calls x vs
reads-called names s c f es calls v vs w x y e i j k = rw (k, j, i, e) (reads-call names s c f es v vs)

-- a value that is equal was read too
pub reads-same : (names : Names) (s : Sample) (e : Exp) (c : Form) (before left : List ℕ) (v w : ℕ) → w ≡ v → Reads names s e c before v left → Reads names s e c before w left
reads-same names s e c before left v w i h = rw i h

-- ---- values side by side

pub reads-end : (names : Names) (s : Sample) (before : List ℕ) → ReadsAll names s NoExps before 0 before
reads-end names s before = record { leads = λ files call rest fits e. (refl, e) }

pub reads-more : (names : Names) (s : Sample) (e : Exp) (es : Exps) (before mid after : List ℕ) (x v : ℕ) → Reads names s e (form names e) before x mid → ReadsAll names s es mid v after → ReadsAll names s (MoreExps e es) before (appended x (total_width names es) v) after
reads-more names s e es before mid after x v h k = record {
  leads = λ files call rest fits i.
      let g = scope_at names files call in
      let p = h.leads files call _ fits (i ∙ append_assoc (answers_of g s e) (all_answers g s es) rest) in
      let q = k.leads files call rest fits p.1 in
      (rw (p.0, q.0) refl, q.1);
}

-- what is read of the rest is read of the whole
pub reads-on : (names : Names) (s : Sample) (whole : Exps) (before here mid : List ℕ) (e : Exp) (es rest : Exps) (a w x b : ℕ) → rest ≡ MoreExps e es → w ≡ (form names e).width → b ≡ appended a w x → Reads names s e (form names e) here x mid
    → ((v : ℕ) (after : List ℕ) → ReadsAll names s rest here v after → ReadsAll names s whole before (appended a (total_width names rest) v) after)
    → (v : ℕ) (after : List ℕ) → ReadsAll names s es mid v after → ReadsAll names s whole before (appended b (total_width names es) v) after
reads-on names s whole before here mid e es rest a w x b i j k h leads v after l =
    let m : ReadsAll names s rest here (appended x (total_width names es) v) after = rw i (reads-more names s e es here mid after x v h l) in
    let n = leads _ after m in
    let t : total_width names rest ≡ w + total_width names es = rw (i, j) refl in
    let q : appended b (total_width names es) v ≡ appended a (total_width names rest) (appended x (total_width names es) v) = rw (k, t) (appended-more a w x (total_width names es) v) in
    rw q n

-- nothing is left of the whole
pub reads-whole : (names : Names) (s : Sample) (whole : Exps) (before here : List ℕ) (rest : Exps) (a : ℕ) → rest ≡ NoExps
    → ((v : ℕ) (after : List ℕ) → ReadsAll names s rest here v after → ReadsAll names s whole before (appended a (total_width names rest) v) after)
    → ReadsAll names s whole before a here
reads-whole names s whole before here rest a e leads =
    let m : ReadsAll names s rest here 0 here = rw e (reads-end names s here) in
    let n = leads 0 here m in
    let t : total_width names rest ≡ 0 = rw e refl in
    let q : a ≡ appended a (total_width names rest) 0 = rw t (omega arith) in
    rw q n

-- ---- reading by equations

pub pick-read : (names : Names) (s : Sample) (c : Form) (before mid left : List ℕ) (b i : Exp) (from : LowestBit) (w v bw n iw : ℕ) (signed : Bool) (z : ℤ) (p x : ℕ)
    → Reads names s b (form names b) before v mid → bw ≡ (form names b).width
    → Reads names s i (form names i) mid n left → iw ≡ (form names i).width → signed ≡ (form names i).signed
    → z ≡ reading signed iw n → p ≡ picked bw v (lowest_bit from z) w → x ≡ p
    → Reads names s (Pick b i from w) c before x left
pick-read names s c before mid left b i from w v bw n iw signed z p x h bwidth k iwidth isigned whole picks is =
    let value : p ≡ picked (form names b).width v (lowest_bit from (reading (form names i).signed (form names i).width n)) w = rw (← isigned, ← iwidth, ← whole, ← bwidth) picks in
    reads-same names s (Pick b i from w) c before left _ x (is ∙ value) (reads-pick names s c before b i from w v n mid left h k)

pub binary-read : (names : Names) (s : Sample) (c : Form) (before mid left : List ℕ) (op : BinOp) (a b : Exp) (f g : Form) (x y w p v : ℕ)
    → f ≡ left_form op (form names a) (form names b) c → g ≡ right_form op (form names a) (form names b) c
    → Reads names s a f before x mid → Reads names s b g mid y left → w ≡ f.width → p ≡ binary_value op f.signed w x y → v ≡ p
    → Reads names s (Bin op a b) c before v left
binary-read names s c before mid left op a b f g x y w p v ef eg h k width value is =
    let first = rw ef at h in
    let second = rw eg at k in
    let same : p ≡ binary_value op (left_form op (form names a) (form names b) c).signed (left_form op (form names a) (form names b) c).width x y = rw (← ef, ← width) value in
    reads-same names s (Bin op a b) c before left _ v (is ∙ same) (reads-binary names s c before op a b x y mid left first second)
