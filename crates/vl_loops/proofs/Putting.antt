-- An expression with the numbers of the loop variables put in has the same form and the same value.
use Rattle.std.proofs.Common.{◌≡◌, ℕ, Bool, true, false, List, [], ◌∷◌, Option, Some, None, refl}
use Rattle.std.specs.Prelude.{slice_get}
use Rattle.vl_design.specs.declared.design.Form.{Form}
use Rattle.vl_design.specs.declared.design.SigKind.{SigKind}
use Rattle.vl_design.specs.declared.design.SigKind.TheVariants as k
use Rattle.vl_design.specs.Syntax.{Exp, Num, Label, Sig, Word, Pick, Slice, Un, Bin, Cond, Cat, Rep, Cast, Call, Time, LastAnswer, Exps, NoExps, MoreExps, Row, Fun}
use Rattle.vl_design.specs.Width.{Scope, form, total_width, signal_form}
use Rattle.vl_design.specs.Value.{Sample, value, side_by_side, arguments, words_of}
use Rattle.vl_design.specs.Sound.{IsOf, IsMem, IsMemory, IsSoundExp, AreSound}
use Rattle.vl_design.specs.Laws.{DifferIn}
use Rattle.vl_loops.specs.Unroll.{is_loop, is_loop_kind, is_loop_row, signal_put, put, puts}
use Rattle.vl_loops.specs.Fits.{IsHeader}
use Rattle.vl_loops.proofs.Funs.{with_funs, Alike}

-- a memory is no loop variable
kind_of_memory : (kind : SigKind) → IsMem kind → is_loop_kind kind ≡ false
kind_of_memory k.Mem h = refl
kind_of_memory k.Net h = refl
kind_of_memory k.Var h = refl
kind_of_memory k.Comb h = refl
kind_of_memory k.Loop h = absurd h
kind_of_memory k.Clock h = refl

row_of_memory : (r : Option Row) → IsOf IsMem r → is_loop_row r ≡ false
row_of_memory None h = refl
row_of_memory (Some r) h = kind_of_memory r.kind h.0

pub memory_no_loop : (scope : Scope) (m : ℕ) → IsMemory scope.names m → is_loop scope.names.rows m ≡ false
memory_no_loop scope m h = row_of_memory (slice_get scope.names.rows m) h

-- ---- constants and loop variables alone

module _ (scope : Scope) (s t : Sample) (same : (j : ℕ) → is_loop scope.names.rows j ≡ true → words_of s.values j ≡ words_of t.values j) where
  pub header_value : (e : Exp) → IsHeader scope.names.rows e → (c : Form) → value scope s e c ≡ value scope t e c
  header_value (Num v w signed) h c = refl
  header_value (Label v care w signed) h c = refl
  header_value (Sig j) h c = rw (same j h) refl
  header_value (Word m a) h c = absurd h
  header_value (Pick b i from w) h c = rw (header_value b h.0 (form scope.names b), header_value i h.1 (form scope.names i)) refl
  header_value (Slice b low w) h c = rw (header_value b h (form scope.names b)) refl
  header_value (Un op a) h c = rw (header_value a h _) refl
  header_value (Bin op a b) h c = rw (header_value a h.0 _, header_value b h.1 _) refl
  header_value (Cond u a b) h c = rw (header_value u h.0 (form scope.names u), header_value a h.1 c, header_value b h.2 c) refl
  header_value (Cat es) h c = absurd h
  header_value (Rep n es) h c = absurd h
  header_value (Cast signed a) h c = rw (header_value a h (form scope.names a)) refl
  header_value (Call f es) h c = absurd h
  header_value Time h c = absurd h
  header_value LastAnswer h c = absurd h

-- ---- numbers put in

module _ (scope : Scope) (funs : List Fun) (call : ℕ → List ℕ → ℕ) (al : Alike scope funs call) (at : List (List ℕ)) where
  abbrev pub other : Scope
  other = with_funs scope funs call

  signal_form_put : (b : Bool) (j : ℕ) → form other.names (signal_put scope.names.rows at b j) ≡ signal_form scope.names.rows j
  signal_form_put true j = refl
  signal_form_put false j = refl

  mutual
    pub form_put : (e : Exp) → form other.names (put scope.names.rows at e) ≡ form scope.names e
    form_put (Num v w signed) = refl
    form_put (Label v care w signed) = refl
    form_put (Sig j) = signal_form_put (is_loop scope.names.rows j) j
    form_put (Word m a) = refl
    form_put (Pick b i from w) = refl
    form_put (Slice b low w) = refl
    form_put (Un op a) = rw (form_put a) refl
    form_put (Bin op a b) = rw (form_put a, form_put b) refl
    form_put (Cond u a b) = rw (form_put a, form_put b) refl
    form_put (Cat es) = rw (width_put es) refl
    form_put (Rep n es) = rw (width_put es) refl
    form_put (Cast signed a) = rw (form_put a) refl
    form_put (Call f es) = al.results f
    form_put Time = refl
    form_put LastAnswer = refl

    pub width_put : (es : Exps) → total_width other.names (puts scope.names.rows at es) ≡ total_width scope.names es
    width_put NoExps = refl
    width_put (MoreExps e es) = rw (form_put e, width_put es) refl

  module _ (s t : Sample) (d : DifferIn (is_loop scope.names.rows) s t) (loops : (j : ℕ) → is_loop scope.names.rows j ≡ true → words_of s.values j ≡ words_of at j) where
    signal_value_put : (b : Bool) (j : ℕ) (c : Form) → is_loop scope.names.rows j ≡ b → value other t (signal_put scope.names.rows at b j) c ≡ value scope s (Sig j) c
    signal_value_put true j c h = rw (loops j h) refl
    signal_value_put false j c h = rw (d.values j h) refl

    mutual
      pub value_put : (e : Exp) → IsSoundExp scope.names e → (c : Form) → value other t (put scope.names.rows at e) c ≡ value scope s e c
      value_put (Num v w signed) h c = refl
      value_put (Label v care w signed) h c = refl
      value_put (Sig j) h c = signal_value_put (is_loop scope.names.rows j) j c refl
      value_put (Word m a) h c = rw (form_put a, value_put a h.1 (form scope.names a), d.values m (memory_no_loop scope m h.0)) refl
      value_put (Pick b i from w) h c = rw (form_put b, form_put i, value_put b h.1 (form scope.names b), value_put i h.2 (form scope.names i)) refl
      value_put (Slice b low w) h c = rw (form_put b, value_put b h.1 (form scope.names b)) refl
      value_put (Un op a) h c = rw (form_put a, value_put a h _) refl
      value_put (Bin op a b) h c = rw (form_put a, form_put b, value_put a h.0 _, value_put b h.1 _) refl
      value_put (Cond u a b) h c = rw (form_put u, value_put u h.0 (form scope.names u), value_put a h.1 c, value_put b h.2 c) refl
      value_put (Cat es) h c = side_put es h.1
      value_put (Rep n es) h c = rw (width_put es, side_put es h.1) refl
      value_put (Cast signed a) h c = rw (form_put a, value_put a h (form scope.names a)) refl
      value_put (Call f es) h c = rw (al.results f, al.inputs f, arguments_put es h.2 _, al.calls f _) refl
      value_put Time h c = rw (d.time) refl
      value_put LastAnswer h c = rw (d.answer) refl

      pub side_put : (es : Exps) → AreSound scope.names es → side_by_side other t (puts scope.names.rows at es) ≡ side_by_side scope s es
      side_put NoExps h = refl
      side_put (MoreExps e es) h = rw (form_put e, width_put es, value_put e h.0 (form scope.names e), side_put es h.1) refl

      pub arguments_put : (es : Exps) → AreSound scope.names es → (ws : List ℕ) → arguments other t (puts scope.names.rows at es) ws ≡ arguments scope s es ws
      arguments_put NoExps h ws = refl
      arguments_put (MoreExps e es) h [] = refl
      arguments_put (MoreExps e es) h (w ∷ ws) = rw (form_put e, value_put e h.0 _, arguments_put es h.1 ws) refl
